-- An edit of fields at a section of a document that was read: its plan, and the lines of the edited document.
use Rattle.std.proofs.Common.{◌≡◌, ◌++◌, ◌+◌, ◌-◌, ℕ, suc, length, take, false, Option, None, Some, List, refl, ap, sym, ◌∙◌, append_assoc}
use Rattle.mk_line.specs.Lines.{TextLine, cut, eol_of, text_of, AreLines}
use Rattle.mk_tree.specs.Tree.{with_fields}
use Rattle.mk_tree.specs.Documents.{tree, document_lines, printed}
use Rattle.mk_tree.specs.Spans.{size}
use Rattle.mk_tree.specs.Sections.{Placed, root_of, head_text}
use Rattle.mk_splice.specs.Splices.{spliced}
use Rattle.mk_line.proofs.Cuts.{cut_text}
use Rattle.mk_tree.proofs.HeadChanged.{after_fields, changed_lines, apart}
use Rattle.mk_tree.proofs.Descent.{size_append}
use Rattle.mk_decide.specs.declared.field_edits.FieldEdit.{FieldEdit}
use Rattle.mk_decide.specs.declared.field_edits.FieldEdit.TheVariants.{Add, Remove, Rename, Set}
use Rattle.mk_decide.specs.Edits.{path_of}
use Rattle.mk_decide.specs.Reasons.{is_open_early}
use Rattle.mk_decide.specs.Plans.{plan_at, place_of, plan_of, planned}
use Rattle.mk_decide.proofs.PlanNames.{with_place}
use Rattle.mk_decide.specs.Outcomes.{hit, hit_level, judged_by, edited}
use Rattle.mk_decide.specs.SectionAnswers.{or_own}
use Rattle.mk_decide.specs.FieldPuts.{LinePut, puts, plain_of}
use Rattle.mk_decide.specs.LocalAnswers.{opens_at}
use Rattle.mk_decide.proofs.PutPlans.{lines_put, put_plan, plan_of_put, plan_is}
use Rattle.mk_decide.proofs.PutTexts.{opens_same, put_printed}
use Rattle.mk_decide.proofs.AroundFrames.{hit_is}
use Rattle.mk_decide.specs.Around.{hit_below}
use Rattle.mk_decide.proofs.FieldPutFacts.{IsLinePut}
use Rattle.mk_decide.proofs.SectionSites.{IsSite, front_lines, rest_lines, site_lines, head_cut}

pub path_same : (path : List ℕ) (edit : FieldEdit) → path_of (plain_of path edit) ≡ path
path_same path (Add top text) = refl
path_same path (Remove name k) = refl
path_same path (Rename name k to) = refl
path_same path (Set name k text) = refl

pub place_found : (text path : List ℕ) (p : Placed) (s : IsSite text path p) → place_of path (tree text).root ≡ Some (s.around, p.entity)
place_found text path p s = ap (λ x. place_of x (tree text).root) s.path_is ∙ s.found

pub plan_found : (text path : List ℕ) (edit : FieldEdit) (p : Placed) (s : IsSite text path p) → plan_of (plain_of path edit) (tree text) ≡ plan_of_put s.around p.entity (puts edit (cut (head_text p)))
plan_found text path edit p s =
    let eol = eol_of (document_lines (tree text)) in
    ap (λ x. with_place (place_of x (tree text).root) (plan_at (plain_of path edit) eol)) (path_same path edit)
    ∙ (ap (λ o. with_place o (plan_at (plain_of path edit) eol)) (place_found text path p s)
    ∙ (plan_is path edit eol s.around p.entity ∙ ap (λ ls. plan_of_put s.around p.entity (puts edit ls)) (sym (head_cut text path p s))))

-- the lines before the place, and those after it
abbrev pub before_put : (text path : List ℕ) (p : Placed) → IsSite text path p → LinePut → List TextLine
before_put text path p s q = front_lines text path p s ++ q.before

abbrev pub after_put : (text path : List ℕ) (p : Placed) → IsSite text path p → LinePut → List TextLine
after_put text path p s q = q.after ++ rest_lines text path p s

regroup : (front before mid after rest : List TextLine) → front ++ ((before ++ (mid ++ after)) ++ rest) ≡ (front ++ before) ++ (mid ++ (after ++ rest))
regroup front before mid after rest = simp append_assoc refl

pub old_lines : (text path : List ℕ) (p : Placed) (s : IsSite text path p) (q : LinePut) → IsLinePut (cut (head_text p)) q → cut text ≡ before_put text path p s q ++ (q.old ++ after_put text path p s q)
old_lines text path p s q i =
    site_lines text path p s
    ∙ (ap (λ ls. front_lines text path p s ++ (ls ++ rest_lines text path p s)) (sym (i.whole ∙ head_cut text path p s)) ∙ regroup (front_lines text path p s) q.before q.old q.after (rest_lines text path p s))

pub new_lines : (text path : List ℕ) (p : Placed) (s : IsSite text path p) (q : LinePut) → document_lines (planned (tree text).envelope (put_plan s.around p.entity q)) ≡ before_put text path p s q ++ (q.given ++ after_put text path p s q)
new_lines text path p s q =
    apart (tree text).envelope s.around (with_fields (lines_put q) p.entity) (lines_put q) (after_fields p.entity) (changed_lines (lines_put q) p.entity)
    ∙ regroup (front_lines text path p s) q.before q.given q.after (rest_lines text path p s)

-- where the place is, in bytes
pub place_is : (text path : List ℕ) (p : Placed) (s : IsSite text path p) (q : LinePut) → p.start + size q.before ≡ size (before_put text path p s q)
place_is text path p s q = ap (λ (x : Placed). x.start + size q.before) s.placed_is ∙ sym (size_append (front_lines text path p s) q.before)

-- the look at open lines tells of the edited document
pub opens_told : (text path : List ℕ) (p : Placed) (s : IsSite text path p) (q : LinePut) → IsLinePut (cut (head_text p)) q → AreLines q.given
    → opens_at text (p.start + size q.before) (size q.old) (text_of q.given) ≡ is_open_early (document_lines (planned (tree text).envelope (put_plan s.around p.entity q)))
opens_told text path p s q i g =
    ap (λ n. opens_at text n (size q.old) (text_of q.given)) (place_is text path p s q)
    ∙ (opens_same text (before_put text path p s q) q.old q.given (after_put text path p s q) (old_lines text path p s q i) g ∙ ap is_open_early (sym (new_lines text path p s q)))

-- the answer of the edit is the judgement of its plan
pub edited_is : (text path : List ℕ) (edit : FieldEdit) (p : Placed) (s : IsSite text path p) → edited (plain_of path edit) (tree text) ≡ judged_by (tree text).envelope (plan_of_put s.around p.entity (puts edit (cut (head_text p))))
edited_is text path edit p s = ap (judged_by (tree text).envelope) (plan_found text path edit p s)

own_none : (o : Option ℕ) (level : ℕ) → or_own o false level ≡ o
own_none None level = refl
own_none (Some outer) level = refl

-- the look at the multiparts on the way tells the level that is hit
pub hit_told : (text path : List ℕ) (p : Placed) (s : IsSite text path p) (q : LinePut) → AreLines q.given → hit_below (cut (text_of q.given)) 1 s.numbers (root_of (tree text)) ≡ hit_level (put_plan s.around p.entity q)
hit_told text path p s q g =
    ap (λ ls. hit_below ls 1 s.numbers (root_of (tree text))) (cut_text q.given g)
    ∙ (hit_is q.given 1 s.numbers (root_of (tree text)) s.around p.entity s.found ∙ sym (own_none (hit 1 s.around q.given) (suc (length s.around))))

-- the splice that is answered leads to the text of the edited document
pub printed_told : (text path : List ℕ) (p : Placed) (s : IsSite text path p) (q : LinePut) → IsLinePut (cut (head_text p)) q
    → spliced (p.start + size q.before) (size q.old - length q.kept) (take (size q.given - length q.kept) (text_of q.given)) text ≡ printed (planned (tree text).envelope (put_plan s.around p.entity q))
printed_told text path p s q i =
    ap (λ n. spliced n (size q.old - length q.kept) (take (size q.given - length q.kept) (text_of q.given)) text) (place_is text path p s q)
    ∙ (put_printed text (before_put text path p s q) q.old q.given (after_put text path p s q) i.gone i.new q.kept (old_lines text path p s q i) i.old_is i.given_is ∙ ap text_of (sym (new_lines text path p s q)))
