-- An edit of a stable document gives a stable one exactly where its local conditions hold, for any edit that shows of
-- itself what its lines are and what it is read back under.
use Rattle.std.proofs.Common.{◌≡◌, ◌↔◌, ◌++◌, ℕ, Bool, true, false, Option, None, Some, List, refl, sym, subst, suc, length}
use Rattle.mk_line.specs.Lines.{TextLine, AreLines}
use Rattle.mk_line.proofs.Cuts.{lines_cut, cut_text}
use Rattle.std.specs.Option.{option_to_list}
use Rattle.mk_tree.specs.Cutting.{Unmarked}
use Rattle.mk_tree.specs.Tree.{Entity, print}
use Rattle.mk_tree.specs.Documents.{levels, printed, document_lines, IsStable}
use Rattle.mk_tree.specs.Places.{Frame, left_at, default_at, lines_before, lines_after, put}
use Rattle.mk_tree.specs.Reading.{IsWellRead}
use Rattle.mk_tree.proofs.WellRead.{well_read, well_of}
use Rattle.mk_tree.proofs.Plugs.{print_plug}
use Rattle.mk_tree.proofs.Stability.{replaced}
use Rattle.mk_decide.specs.Plans.{Plan, planned}
use Rattle.mk_decide.specs.Outcomes.{has_mark, hit}
use Rattle.mk_decide.specs.SectionAnswers.{or_own}
use Rattle.mk_decide.specs.Local.{IsLocal}
use Rattle.mk_decide.proofs.Openings.{Each, each_line, each_join, each_front, each_back, are_lines}
use Rattle.mk_decide.proofs.Marked.{none_unmarked, of_none, unmarked_both}
use Rattle.mk_decide.proofs.Late.{IsFair, stable_closed, stable_unhit}

-- what an edit of a section shows of itself, where so many levels may stand below and a missing type means a message or
-- not; `Asked`: what it asks of its own section
pub record IsEdit (n : ℕ) (d : Bool) (s : Entity) (p : Plan) (Asked : Type 0) : Type 0 where
  pub fair : IsFair p
  pub lines : IsWellRead n d s → Asked → Each (print s) → Each (print p.new)
  pub marks : (b : List ℕ) → IsWellRead n d s → Unmarked b (print s) → Unmarked b p.given → Unmarked b (print p.new)
  pub asked_of : IsWellRead n d s → Each (print p.new) → IsWellRead n d p.new → Asked
  pub of_asked : IsWellRead n d s → Each (print s) → Unmarked p.boundary p.inside → Asked → IsWellRead n d p.new

-- the lines of an entity among those of the document
put_each : (envelope : Option TextLine) (fs : List Frame) (e : Entity) → Each (document_lines (put envelope fs e)) → Each (option_to_list envelope ++ (lines_before fs ++ (print e ++ lines_after fs)))
put_each envelope fs e h = subst (λ ls. Each (option_to_list envelope ++ ls)) (print_plug fs e) h

each_there : (envelope : Option TextLine) (fs : List Frame) (e : Entity) → Each (document_lines (put envelope fs e)) → Each (print e)
each_there envelope fs e h = each_front (print e) (lines_after fs) (each_back (lines_before fs) (print e ++ lines_after fs) (each_back (option_to_list envelope) (lines_before fs ++ (print e ++ lines_after fs)) (put_each envelope fs e h)))

each_put : (envelope : Option TextLine) (fs : List Frame) (s e : Entity) → Each (document_lines (put envelope fs s)) → Each (print e) → Each (document_lines (put envelope fs e))
each_put envelope fs s e h k =
    let whole = put_each envelope fs s h in
    let below = each_back (option_to_list envelope) (lines_before fs ++ (print s ++ lines_after fs)) whole in
    let following = each_back (print s) (lines_after fs) (each_back (lines_before fs) (print s ++ lines_after fs) below) in
    subst (λ ls. Each (option_to_list envelope ++ ls)) (sym (print_plug fs e))
    (each_join (option_to_list envelope) (lines_before fs ++ (print e ++ lines_after fs)) (each_front (option_to_list envelope) (lines_before fs ++ (print s ++ lines_after fs)) whole)
    (each_join (lines_before fs) (print e ++ lines_after fs) (each_front (lines_before fs) (print s ++ lines_after fs) below) (each_join (print e) (lines_after fs) k following)))

some_none : {A : Type 0} (level : ℕ) → ◌≡◌ {A = Option ℕ} (Some level) None → A
some_none level e = cc

own_none : (o : Option ℕ) (t : Bool) (level : ℕ) → or_own o t level ≡ None → (o ≡ None) × (t ≡ false)
own_none None true level e = some_none level e
own_none None false level e = (refl, refl)
own_none (Some outer) t level e = some_none outer e

pub local_stable : (envelope : Option TextLine) (s : Entity) (p : Plan) (Asked : Type 0) → IsStable (put envelope p.around s) → IsEdit (left_at levels p.around) (default_at false p.around) s p Asked → (IsStable (planned envelope p) ↔ IsLocal envelope p Asked)
local_stable envelope s p Asked h e =
    let n = left_at levels p.around in
    let d = default_at false p.around in
    let old = (replaced envelope p.around s s h).0 h in
    let w = well_of n d s old.own in
    let each = each_line (document_lines (put envelope p.around s)) (subst AreLines old.lines (lines_cut (printed (put envelope p.around s)))) in
    let there = each_there envelope p.around s each in (
      (λ k.
          let r = (replaced envelope p.around s p.new h).0 k in
          let new = each_there envelope p.around p.new (each_line (document_lines (planned envelope p)) (subst AreLines r.lines (lines_cut (printed (planned envelope p))))) in
          record {
            closed = stable_closed (planned envelope p) k;
            unmarked = stable_unhit envelope p e.fair k;
            own = e.asked_of w new (well_of n d p.new r.own);
            outer = r.continues;
            first = r.first;
          }),
      (λ l.
          let o = own_none (hit 1 p.around p.given) (has_mark p.boundary p.inside) (suc (length p.around)) l.unmarked in
          let whole = are_lines (document_lines (planned envelope p)) (each_put envelope p.around s p.new each (e.lines w l.own there)) l.closed in
          (replaced envelope p.around s p.new h).1 (record {
            lines = cut_text (document_lines (planned envelope p)) whole;
            unmarked = unmarked_both p.around (print s) p.given (print p.new) (λ b u v. e.marks b w u v) old.unmarked (of_none 1 p.around p.given o.0);
            own = well_read n d p.new (e.of_asked w there (none_unmarked p.boundary p.inside o.1) l.own);
            continues = l.outer;
            first = l.first;
          })),
    )
