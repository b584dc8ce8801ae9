-- Marks of the multiparts around a place: by a test, and by what is asked of each line.
use Rattle.std.proofs.Common.{◌≡◌, ◌||◌, ◌++◌, if◌then◌else◌, ℕ, suc, Bool, true, false, Option, None, Some, List, [], ◌∷◌, refl, ap, ◌∙◌}
use Rattle.std.proofs.lemmas.Bool.{or_parts}
use Rattle.mk_line.specs.declared.marks.Mark.{Mark}
use Rattle.mk_line.specs.declared.marks.Mark.TheVariants.{No, Part, Close}
use Rattle.mk_line.specs.Lines.{TextLine}
use Rattle.mk_line.specs.Marks.{mark}
use Rattle.mk_tree.specs.Cutting.{Unmarked}
use Rattle.mk_tree.specs.Tree.{Entity, leaf, message, multi, print, print_parts, with_fields}
use Rattle.mk_tree.specs.Cutting.{tail_lines}
use Rattle.std.specs.Option.{option_to_list}
use Rattle.mk_tree.specs.Places.{Frame, in_message, in_multi}
use Rattle.mk_tree.specs.Locality.{Unmarked_in}
use Rattle.mk_tree.proofs.Plugs.{unmarked_left}
use Rattle.mk_tree.specs.Upto.{is_mark}
use Rattle.mk_decide.specs.Outcomes.{has_mark, hit}

mark_no : (m : Mark) → is_mark m ≡ false → m ≡ No
mark_no No h = refl
mark_no Part h = cc
mark_no Close h = cc

pub unmarked_none : (b : List ℕ) (ls : List TextLine) → Unmarked b ls → has_mark b ls ≡ false
unmarked_none b [] u = refl
unmarked_none b (l ∷ ls) u = ap (λ m. is_mark m || has_mark b ls) u.0 ∙ unmarked_none b ls u.1

pub none_unmarked : (b : List ℕ) (ls : List TextLine) → has_mark b ls ≡ false → Unmarked b ls
none_unmarked b [] h = tt
none_unmarked b (l ∷ ls) h =
    let p = or_parts (is_mark (mark b l.content)) (has_mark b ls) h in
    (mark_no (mark b l.content) p.0, none_unmarked b ls p.1)

-- no line is a mark of an enclosing multipart exactly where none is hit
pub none_of : (level : ℕ) (fs : List Frame) (ls : List TextLine) → Unmarked_in fs ls → hit level fs ls ≡ None
none_of level [] ls u = refl
none_of level (in_message h ∷ fs) ls u = none_of (suc level) fs ls u
none_of level (in_multi h b pre before l after t ∷ fs) ls u = rw (unmarked_none b ls u.0) (none_of (suc level) fs ls u.1)

some_none : {A : Type 0} (level : ℕ) → ◌≡◌ {A = Option ℕ} (Some level) None → A
some_none level e = cc

hit_by : (t : Bool) (level : ℕ) (o : Option ℕ) → (if◌then◌else◌ t (Some level) o) ≡ None → (t ≡ false) × (o ≡ None)
hit_by true level o e = some_none level e
hit_by false level o e = (refl, e)

pub of_none : (level : ℕ) (fs : List Frame) (ls : List TextLine) → hit level fs ls ≡ None → Unmarked_in fs ls
of_none level [] ls e = tt
of_none level (in_message h ∷ fs) ls e = of_none (suc level) fs ls e
of_none level (in_multi h b pre before l after t ∷ fs) ls e =
    let p = hit_by (has_mark b ls) level (hit (suc level) fs ls) e in
    (none_unmarked b ls p.0, of_none (suc level) fs ls p.1)

-- what holds of the lines of an entity holds of others, where it does for each boundary
pub unmarked_given : (fs : List Frame) (xs ys : List TextLine) → ((b : List ℕ) → Unmarked b xs → Unmarked b ys) → Unmarked_in fs xs → Unmarked_in fs ys
unmarked_given [] xs ys f u = tt
unmarked_given (in_message h ∷ fs) xs ys f u = unmarked_given fs xs ys f u
unmarked_given (in_multi h b pre before l after t ∷ fs) xs ys f u = (f b u.0, unmarked_given fs xs ys f u.1)

pub unmarked_both : (fs : List Frame) (xs ys zs : List TextLine) → ((b : List ℕ) → Unmarked b xs → Unmarked b ys → Unmarked b zs) → Unmarked_in fs xs → Unmarked_in fs ys → Unmarked_in fs zs
unmarked_both [] xs ys zs f u v = tt
unmarked_both (in_message h ∷ fs) xs ys zs f u v = unmarked_both fs xs ys zs f u v
unmarked_both (in_multi h b pre before l after t ∷ fs) xs ys zs f u v = (f b u.0 v.0, unmarked_both fs xs ys zs f u.1 v.1)

-- the fields of an entity are lines of it
pub fields_unmarked : (b : List ℕ) (fields : List TextLine) (s : Entity) → Unmarked b (print (with_fields fields s)) → Unmarked b fields
fields_unmarked b fields (leaf h ls) u = unmarked_left b fields (option_to_list h.separator) (unmarked_left b (fields ++ option_to_list h.separator) ls u)
fields_unmarked b fields (message h e) u = unmarked_left b fields (option_to_list h.separator) (unmarked_left b (fields ++ option_to_list h.separator) (print e) u)
fields_unmarked b fields (multi h c pre ps t) u = unmarked_left b fields (option_to_list h.separator) (unmarked_left b (fields ++ option_to_list h.separator) (pre ++ (print_parts ps ++ tail_lines t)) u)
