-- Lines in the place of those of a section: the lines of the document, whether an open line stands early, what is hit,
-- and that the plan of an edit is there.
use Rattle.std.proofs.Common.{◌≡◌, ◌+◌, ◌≤◌, ◌++◌, ℕ, Some, List, refl, ap, sym, ◌∙◌, length, arith, append_assoc}
use Rattle.mk_line.specs.Lines.{TextLine, cut, text_of, eol_of, AreLines}
use Rattle.mk_line.proofs.Cuts.{text_cut}
use Rattle.std.specs.Option.{option_to_list}
use Rattle.mk_tree.specs.Tree.{Entity, print}
use Rattle.mk_tree.specs.Documents.{tree, document_lines}
use Rattle.mk_tree.specs.Spans.{size}
use Rattle.mk_tree.specs.Sections.{Placed, section_at, root_of}
use Rattle.mk_tree.specs.Places.{placed, put, lines_before, lines_after}
use Rattle.mk_tree.proofs.Descent.{size_append}
use Rattle.mk_tree.proofs.Plugs.{print_plug}
use Rattle.mk_tree.proofs.Kept.{lines_kept}
use Rattle.mk_decide.specs.Edits.{PlainEdit, path_of}
use Rattle.mk_decide.specs.Reasons.{is_open_early}
use Rattle.mk_decide.specs.Plans.{place_of, plan_at, plan_of}
use Rattle.mk_decide.proofs.PlanNames.{with_place, splices_at}
use Rattle.mk_decide.specs.Outcomes.{hit}
use Rattle.mk_decide.specs.EditSplices.{splices_in, splices_of}
use Rattle.mk_decide.specs.Around.{hit_below}
use Rattle.mk_decide.specs.LocalAnswers.{opens_at}
use Rattle.mk_decide.proofs.AroundFrames.{hit_is}
use Rattle.mk_decide.proofs.PutSites.{place_found}
use Rattle.mk_decide.proofs.PutTexts.{opens_same}
use Rattle.mk_decide.proofs.SectionSites.{IsSite, site, front_lines}

-- the plan of an edit, and its splices, at the section
pub plan_here : (e : PlainEdit) (text path : List ℕ) (p : Placed) (s : IsSite text path p) → path_of e ≡ path → plan_of e (tree text) ≡ plan_at e (eol_of (cut text)) s.around p.entity
plan_here e text path p s h =
    let t = tree text in
    ap (λ x. with_place (place_of x t.root) (plan_at e (eol_of (document_lines t)))) h
    ∙ (ap (λ o. with_place o (plan_at e (eol_of (document_lines t)))) (place_found text path p s)
    ∙ ap (λ ls. plan_at e (eol_of ls) s.around p.entity) (lines_kept text))

pub splices_here : (e : PlainEdit) (text path : List ℕ) (p : Placed) (s : IsSite text path p) → path_of e ≡ path → splices_of e (tree text) ≡ splices_in e (eol_of (cut text)) p.start s.around p.entity
splices_here e text path p s h =
    let t = tree text in
    ap (λ x. splices_at e (eol_of (document_lines t)) t.envelope (place_of x t.root)) h
    ∙ (ap (splices_at e (eol_of (document_lines t)) t.envelope) (place_found text path p s)
    ∙ (ap (λ ls. splices_in e (eol_of ls) (placed t.envelope s.around p.entity).start s.around p.entity) (lines_kept text)
    ∙ ap (λ (x : Placed). splices_in e (eol_of (cut text)) x.start s.around p.entity) (sym s.placed_is)))

-- the lines before the section, and those of the document
pub lines_there : (text path : List ℕ) (p : Placed) (s : IsSite text path p) (new : Entity) → document_lines (put (tree text).envelope s.around new) ≡ front_lines text path p s ++ (print new ++ lines_after s.around)
lines_there text path p s new =
    ap (λ ls. option_to_list (tree text).envelope ++ ls) (print_plug s.around new) ∙ sym (append_assoc (option_to_list (tree text).envelope) (lines_before s.around) (print new ++ lines_after s.around))

pub text_lines : (text path : List ℕ) (p : Placed) (s : IsSite text path p) → cut text ≡ front_lines text path p s ++ (print p.entity ++ lines_after s.around)
text_lines text path p s = sym (lines_kept text) ∙ (ap document_lines (sym s.whole) ∙ lines_there text path p s p.entity)

pub start_is : (text path : List ℕ) (p : Placed) (s : IsSite text path p) → p.start ≡ size (front_lines text path p s)
start_is text path p s = ap (λ (x : Placed). x.start) s.placed_is

regroup : (front before mid after rest : List TextLine) → front ++ ((before ++ (mid ++ after)) ++ rest) ≡ (front ++ before) ++ (mid ++ (after ++ rest))
regroup front before mid after rest = simp append_assoc refl

-- lines in the place of some of the section's own
pub opens_here : (text path : List ℕ) (p : Placed) (s : IsSite text path p) (new : Entity) (before old given after : List TextLine) (place count : ℕ) (bytes : List ℕ) → print p.entity ≡ before ++ (old ++ after) → print new ≡ before ++ (given ++ after) → AreLines given
    → place ≡ p.start + size before → count ≡ size old → bytes ≡ text_of given → opens_at text place count bytes ≡ is_open_early (document_lines (put (tree text).envelope s.around new))
opens_here text path p s new before old given after place count bytes h k a q n b =
    let front = front_lines text path p s in
    let rest = lines_after s.around in
    let lines : cut text ≡ (front ++ before) ++ (old ++ (after ++ rest)) = text_lines text path p s ∙ (ap (λ ls. front ++ (ls ++ rest)) h ∙ regroup front before old after rest) in
    let news : document_lines (put (tree text).envelope s.around new) ≡ (front ++ before) ++ (given ++ (after ++ rest)) = lines_there text path p s new ∙ (ap (λ ls. front ++ (ls ++ rest)) k ∙ regroup front before given after rest) in
    let at : place ≡ size (front ++ before) = omega (arith, q, start_is text path p s, size_append front before) in
    ap (λ x. opens_at text x count bytes) at
    ∙ (ap (λ x. opens_at text (size (front ++ before)) x bytes) n
    ∙ (ap (opens_at text (size (front ++ before)) (size old)) b
    ∙ (opens_same text (front ++ before) old given (after ++ rest) lines a ∙ ap is_open_early (sym news))))

-- the level that lines hit
pub hit_here : (text path : List ℕ) (p : Placed) (s : IsSite text path p) (ls : List TextLine) → hit_below ls 1 s.numbers (root_of (tree text)) ≡ hit 1 s.around ls
hit_here text path p s ls = hit_is ls 1 s.numbers (root_of (tree text)) s.around p.entity s.found

-- the section lies in the text
pub raw_within : (text path : List ℕ) (p : Placed) (s : IsSite text path p) → p.start + size (print p.entity) ≤ length text
raw_within text path p s =
    let front = front_lines text path p s in
    omega (arith, start_is text path p s, ap length (text_cut text), ap size (text_lines text path p s), size_append front (print p.entity ++ lines_after s.around), size_append (print p.entity) (lines_after s.around))

pub section_within : (text path : List ℕ) (p : Placed) → section_at path (tree text) ≡ Some p → p.start + size (print p.entity) ≤ length text
section_within text path p h = raw_within text path p (site text path p h)
