use Rattle.std.proofs.Common.{List, Bool, [], ◌≡◌, ap, arith, false, length, subst, sym}
use Rattle.std.specs.Vec.{with_items}
use Rattle.std.proofs.lemmas.List.{with_items_is}
use Rattle.mk_line.specs.Lines.{cut}
use Rattle.mk_head.specs.Split.{fields_from}
use Rattle.mk_head.specs.Fields.{fields_of}
use Rattle.mk_edit.specs.inner.FieldNames.{AreRead}
use Rattle.mk_edit.proofs.PassedNames.{known_with}
use Rattle.mk_edit.proofs.passing.learned.Goals as goal

-- the table after the marks were written
written : (c : goal.After-marks-in-Some-2-1) → (with_items c.in-Some.marks c.mark_names.new.marks).items ≡ c.mark_names.new.marks
written c = with_items_is c.in-Some.marks c.mark_names.new.marks (omega (arith, c.mark_names.auto.marks, ap length c.deref_mut.ensures.value, c.in-Some.marks.ok.0))

pub returns-in-Some : goal.returns-in-Some
returns-in-Some c = λ text same place known. record {
  place = place;
  known =
      known_with text c.args.fields.now c.args.known.bytes c.in-Some.marks (with_items c.in-Some.marks c.mark_names.new.marks) known.place place (c.in-Some.ensures.kept known.place.before known.known) same
      (subst (AreRead c.in-Some.marks.items (fields_of (fields_from false (cut c.args.fields.now))) []) (sym (written c))
      (subst (λ (those : List Bool). AreRead those (fields_of (fields_from false (cut c.args.fields.now))) [] c.mark_names.new.marks) c.deref_mut.ensures.value c.mark_names.ensures))
      (omega (arith, ap length (written c), c.mark_names.auto.marks, c.in-Some.ensures.some, ap length c.deref_mut.ensures.value));
}

pub returns-in-None : goal.returns-in-None
returns-in-None c = λ text same place known. record { place = known.place; known = c.in-None.ensures.kept known.place.before known.known }
