-- A section of a document that was read: what stands around it, and that it is read back.
use Rattle.std.proofs.Common.{◌≡◌, ◌==◌, ◌≤◌, ◌+◌, ◌++◌, ℕ, false, Option, None, Some, List, [], ◌∷◌, refl, ap, sym, ◌∙◌, subst, length, arith, inl, inr}
use Rattle.std.proofs.lemmas.Bool.{cases_Bool, eqb-true}
use Rattle.std.specs.Option.{option_map, option_to_list}
use Rattle.mk_line.specs.Lines.{TextLine, cut, AreLines}
use Rattle.mk_line.proofs.Cuts.{cut_text, text_cut, lines_cut, lines_following}
use Rattle.mk_head.specs.Splits.{IsRun}
use Rattle.mk_tree.specs.Tree.{Entity, field_lines}
use Rattle.mk_tree.specs.Documents.{Document, IsStable, levels, tree, document_lines}
use Rattle.mk_tree.specs.Reading.{IsWellRead}
use Rattle.mk_tree.specs.Sections.{Placed, section_at, section_below, root_of, head_text}
use Rattle.mk_tree.specs.Places.{Frame, place_at, put, placed, left_at, default_at, lines_before, lines_after}
use Rattle.mk_tree.specs.Spans.{size}
use Rattle.mk_tree.proofs.HeadChanged.{after_fields, entity_lines, apart}
use Rattle.mk_tree.proofs.Kept.{lines_kept}
use Rattle.mk_tree.proofs.Placed.{sections_placed, place_plug}
use Rattle.mk_tree.proofs.Descent.{size_append}
use Rattle.mk_tree.proofs.Plugs.{own_of}
use Rattle.mk_tree.proofs.Stability.{read_stable}
use Rattle.mk_tree.proofs.FieldsChanged.{stable_well}
use Rattle.mk_decide.proofs.FieldChanges.{run_read}
use Rattle.mk_decide.proofs.Openings.{lines_front}

-- a section by the numbers that lead to it
pub record IsSite (text : List ℕ) (path : List ℕ) (p : Placed) : Type 0 where
  pub numbers : List ℕ
  pub around : List Frame
  pub path_is : path ≡ 1 ∷ numbers
  pub found : place_at numbers (tree text).root ≡ Some (around, p.entity)
  pub placed_is : p ≡ placed (tree text).envelope around p.entity
  pub whole : put (tree text).envelope around p.entity ≡ tree text
  pub well : IsWellRead (left_at levels around) (default_at false around) p.entity

some_none : {A : Type 0} (p : Placed) → ◌≡◌ {A = Option Placed} None (Some p) → A
some_none p e = cc

some_is : (p q : Placed) → ◌≡◌ {A = Option Placed} (Some p) (Some q) → p ≡ q
some_is p q e = cc

whole_is : (t : Document) (ks : List ℕ) (fs : List Frame) (e : Entity) → place_at ks t.root ≡ Some (fs, e) → put t.envelope fs e ≡ t
whole_is t ks fs e h = λ i. record { envelope = t.envelope; root = place_plug ks t.root fs e h i }

site_by : (text : List ℕ) (ks : List ℕ) (p : Placed) (o : Option (List Frame × Entity)) → place_at ks (tree text).root ≡ o → option_map (λ (q : List Frame × Entity). placed (tree text).envelope q.0 q.1) o ≡ Some p → IsSite text (1 ∷ ks) p
site_by text ks p None h e = some_none p e
site_by text ks p (Some q) h e =
    let t = tree text in
    let is : placed t.envelope q.0 q.1 ≡ p = some_is (placed t.envelope q.0 q.1) p e in
    let own : q.1 ≡ p.entity = ap (λ (x : Placed). x.entity) is in
    let found : place_at ks t.root ≡ Some (q.0, p.entity) = h ∙ ap (λ s. Some (q.0, s)) own in
    let whole = whole_is t ks q.0 p.entity found in
    record {
      numbers = ks;
      around = q.0;
      path_is = refl;
      found = found;
      placed_is = sym is ∙ ap (placed t.envelope q.0) own;
      whole = whole;
      well = own_of levels false q.0 p.entity (stable_well t.envelope q.0 p.entity (subst IsStable (sym whole) (read_stable text)));
    }

pub site : (text path : List ℕ) (p : Placed) → section_at path (tree text) ≡ Some p → IsSite text path p
site text [] p e = some_none p e
site text (k ∷ ks) p e =
    elim (cases_Bool (k == 1)) [
      | inl h ↦
          let below : section_below ks (root_of (tree text)) ≡ Some p = (rw h at e) in
          subst (λ n. IsSite text (n ∷ ks) p) (sym (eqb-true k 1 h)) (site_by text ks p (place_at ks (tree text).root) refl (sym (sections_placed (tree text) ks) ∙ below))
      | inr h ↦ let none : ◌≡◌ {A = Option Placed} None (Some p) = (rw h at e) in some_none p none
    ]

-- the lines before the fields of a section, and those after them
abbrev pub front_lines : (text path : List ℕ) (p : Placed) → IsSite text path p → List TextLine
front_lines text path p s = option_to_list (tree text).envelope ++ lines_before s.around

abbrev pub rest_lines : (text path : List ℕ) (p : Placed) → IsSite text path p → List TextLine
rest_lines text path p s = after_fields p.entity ++ lines_after s.around

pub site_lines : (text path : List ℕ) (p : Placed) (s : IsSite text path p) → cut text ≡ front_lines text path p s ++ (field_lines p.entity ++ rest_lines text path p s)
site_lines text path p s =
    sym (lines_kept text) ∙ (ap document_lines (sym s.whole) ∙ apart (tree text).envelope s.around p.entity (field_lines p.entity) (after_fields p.entity) (entity_lines p.entity))

pub head_cut : (text path : List ℕ) (p : Placed) → IsSite text path p → cut (head_text p) ≡ field_lines p.entity
head_cut text path p s =
    let rest = rest_lines text path p s in
    cut_text (field_lines p.entity) (lines_front (field_lines p.entity) rest (lines_following (front_lines text path p s) (field_lines p.entity ++ rest) (subst AreLines (site_lines text path p s) (lines_cut text))))

pub head_is_run : (text path : List ℕ) (p : Placed) → IsSite text path p → IsRun false (cut (head_text p))
head_is_run text path p s = subst (IsRun false) (sym (head_cut text path p s)) (run_read (left_at levels s.around) (default_at false s.around) p.entity s.well)

pub head_within : (text path : List ℕ) (p : Placed) → IsSite text path p → p.start + length (head_text p) ≤ length text
head_within text path p s =
    let front = front_lines text path p s in
    let rest = rest_lines text path p s in
    let start : p.start ≡ size front = ap (λ (x : Placed). x.start) s.placed_is in
    let all : length text ≡ size (front ++ (field_lines p.entity ++ rest)) = sym (ap length (text_cut text)) ∙ ap size (site_lines text path p s) in
    omega (arith, start, all, size_append front (field_lines p.entity ++ rest), size_append (field_lines p.entity) rest)
