-- A wrap looks at the lines of its section, each once.
use Rattle.std.proofs.Common.{◌≡◌, ◌≤◌, ◌+◌, if◌then◌else◌, ℕ, Bool, true, false, not, Some, Ok, List, refl, ap, ◌∙◌, length, arith}
use Rattle.mk_line.specs.Lines.{cut, eol_of}
use Rattle.mk_line.proofs.Cuts.{cut_text}
use Rattle.mk_head.specs.Boundaries.{is_boundary}
use Rattle.mk_head.specs.Values.{is_token}
use Rattle.mk_tree.specs.Tree.{print, field_lines}
use Rattle.mk_tree.specs.Documents.{tree, document_lines}
use Rattle.mk_tree.specs.Sections.{Placed, section_at, raw_of}
use Rattle.mk_tree.specs.Places.{default_at}
use Rattle.mk_decide.specs.Edits.{Wrap, BadBoundary, BadSubtype}
use Rattle.mk_decide.specs.Wrapping.{other_fields, made_lines}
use Rattle.mk_decide.specs.Plans.{unless, wrap}
use Rattle.mk_decide.specs.Counts.{planned_lines, place_lines, edit_lines}
use Rattle.mk_decide.specs.WrapAnswers.{wrap_looked}
use Rattle.mk_decide.proofs.FieldFits.{entity_are}
use Rattle.mk_decide.proofs.PutSites.{place_found}
use Rattle.mk_decide.proofs.SectionSites.{IsSite, site}

wrap_counted : (text path subtype b : List ℕ) (p : Placed) (s : IsSite text path p) → is_boundary b ≡ true → is_token subtype ≡ true
    → edit_lines (Wrap path subtype b) (tree text) ≡ length (made_lines (eol_of (document_lines (tree text))) s.around (other_fields false (field_lines p.entity)) subtype b) + length (print p.entity)
wrap_counted text path subtype b p s k h =
    let e = Wrap path subtype b in
    let eol = eol_of (document_lines (tree text)) in
    let plan = wrap (eol_of (document_lines (tree text))) s.around p.entity subtype b in
    ap (place_lines e eol) (place_found text path p s)
    ∙ ap (planned_lines e (default_at false s.around) p.entity) (ap (λ t. unless (not t) BadBoundary (unless (not (is_token subtype)) BadSubtype (Ok plan))) k ∙ ap (λ t. unless (not t) BadSubtype (Ok plan)) h)

looked_all : (text path subtype b : List ℕ) (p : Placed) (s : IsSite text path p) → is_boundary b ≡ true → is_token subtype ≡ true → length (cut (raw_of p)) ≤ edit_lines (Wrap path subtype b) (tree text)
looked_all text path subtype b p s k h =
    let counted = wrap_counted text path subtype b p s k h in
    let own = ap length (cut_text (print p.entity) (entity_are text path p s)) in
    omega (arith, counted, own)

tested_most : (n m : ℕ) (s t : Bool) → (s ≡ true → t ≡ true → m ≤ n) → (if not s then 0 else (if not t then 0 else m)) ≤ n
tested_most n m false t f = omega arith
tested_most n m true false f = omega arith
tested_most n m true true f = f refl refl

pub looked_most : (text path subtype b : List ℕ) (p : Placed) → section_at path (tree text) ≡ Some p → wrap_looked subtype b p ≤ edit_lines (Wrap path subtype b) (tree text)
looked_most text path subtype b p q = tested_most (edit_lines (Wrap path subtype b) (tree text)) (length (cut (raw_of p))) (is_boundary b) (is_token subtype) (looked_all text path subtype b p (site text path p q))
