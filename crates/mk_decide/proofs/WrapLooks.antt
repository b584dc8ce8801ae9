-- What the looks at a section that is to be wrapped tell of the local conditions: its levels, its kind, its end.
use Rattle.std.proofs.Common.{◌<◌, ◌≡◌, ◌↔◌, ◌==◌, ◌&&◌, ◌-◌, ◌++◌, if◌then◌else◌, ℕ, zero, suc, Bool, true, false, not, List, [], ◌∷◌, refl, ap, sym, ◌∙◌, arith}
use Rattle.mk_line.specs.declared.cutting.Ending.{Ending}
use Rattle.mk_line.specs.declared.cutting.Ending.TheVariants.{Crlf, Lf, Missing}
use Rattle.mk_line.specs.Lines.{TextLine, text_of, printed_line, ending_bytes, ends_in_return, is_lf, is_open, AreLines, is_nil}
use Rattle.mk_line.proofs.Cuts.{append_nil, last_return}
use Rattle.mk_tree.specs.Kinds.{kind_at}
use Rattle.mk_tree.specs.Tree.{Entity, leaf, message, multi, Parts, no_parts, part, field_lines}
use Rattle.mk_tree.specs.Documents.{levels}
use Rattle.mk_tree.specs.Reading.{IsWellRead}
use Rattle.mk_tree.specs.Sections.{Placed, body_lines}
use Rattle.mk_tree.specs.Places.{Frame, below, lines_after}
use Rattle.mk_decide.specs.Local.{FitsLevels, FitLevels, MayEnd, BodyMayEnd}
use Rattle.mk_decide.specs.KindsKept.{fields_in}
use Rattle.mk_decide.specs.WrapAnswers.{is_leaf, fits_levels, fit_levels, ends_in_cr, fits_below}
use Rattle.mk_decide.proofs.Openings.{some_text}
use Rattle.mk_decide.proofs.FieldFits.{no_text}
use Rattle.mk_decide.proofs.KindsTold.{IsLevel, if_then, default_told}
use Rattle.mk_decide.proofs.WrapPieces.{not_zero}
use Rattle.mk_decide.proofs.WrapLevels.{no_level}
use Rattle.mk_decide.proofs.Wraps.{ends_front}

-- levels
some_level : (k : ℕ) → (suc k == 0) ≡ false
some_level k = not_zero (suc k) (λ e. absurd (omega (arith, e)))

one_less : (k : ℕ) → suc k - 1 ≡ k
one_less k = omega arith

same_if : (t : Bool) → (if t then true else false) ≡ t
same_if true = refl
same_if false = refl

message_levels : (k : ℕ) (t : Bool) (e : Entity) → (if t then false else (if fits_levels (suc k - 1) e then true else false)) ≡ (if t then false else fits_levels k e)
message_levels k t e = ap (λ n. if t then false else (if fits_levels n e then true else false)) (one_less k) ∙ ap (λ x. if t then false else x) (same_if (fits_levels k e))

multi_levels : (k : ℕ) (t : Bool) (ps : Parts) → (if t then false else fit_levels (suc k - 1) ps) ≡ (if t then false else fit_levels k ps)
multi_levels k t ps = ap (λ n. if t then false else fit_levels n ps) (one_less k)

message_more : (k : ℕ) (e : Entity) → (if suc k == 0 then false else (if fits_levels (suc k - 1) e then true else false)) ≡ fits_levels k e
message_more k e = message_levels k (suc k == 0) e ∙ ap (λ t. if t then false else fits_levels k e) (some_level k)

multi_more : (k : ℕ) (ps : Parts) → (if suc k == 0 then false else fit_levels (suc k - 1) ps) ≡ fit_levels k ps
multi_more k ps = multi_levels k (suc k == 0) ps ∙ ap (λ t. if t then false else fit_levels k ps) (some_level k)

if_both : (a b : Bool) (A B : Type 0) → ((a ≡ true) ↔ A) → ((b ≡ true) ↔ B) → (((if a then b else false) ≡ true) ↔ (A × B))
if_both a b A B f g = if_then a b A B f (λ x. g)

mutual
  pub levels_told : (n : ℕ) (e : Entity) → ((fits_levels n e ≡ true) ↔ FitsLevels n e)
  levels_told n (leaf h ls) = ((λ x. tt), (λ x. refl))
  levels_told zero (message h e) = ((λ x. cc), (λ x. absurd (no_level x.0)))
  levels_told (suc k) (message h e) =
      let told = levels_told k e in
      let same = message_more k e in
      ((λ x. (omega arith, told.0 (sym same ∙ x))), (λ x. same ∙ told.1 x.1))
  levels_told zero (multi h b pre ps t) = ((λ x. cc), (λ x. absurd (no_level x.0)))
  levels_told (suc k) (multi h b pre ps t) =
      let told = parts_told k ps in
      let same = multi_more k ps in
      ((λ x. (omega arith, told.0 (sym same ∙ x))), (λ x. same ∙ told.1 x.1))

  parts_told : (n : ℕ) (ps : Parts) → ((fit_levels n ps ≡ true) ↔ FitLevels n ps)
  parts_told n no_parts = ((λ x. tt), (λ x. refl))
  parts_told n (part l e ps) = if_both (fits_levels n e) (fit_levels n ps) (FitsLevels n e) (FitLevels n ps) (levels_told n e) (parts_told n ps)

-- at the last level but one only a leaf may be wrapped
leaf_kind : (d g : Bool) (e : Entity) → FitsLevels zero e → IsWellRead (suc zero) d e → kind_at zero (field_lines e) g ≡ kind_at (suc zero) (field_lines e) d
leaf_kind d g (leaf h ls) f w = sym w.1
leaf_kind d g (message h e) f w = absurd (no_level f.0)
leaf_kind d g (multi h b pre ps t) f w = absurd (no_level f.0)

-- what is asked of levels and of the kind
abbrev pub StaysBelow : ℕ → Bool → Bool → Entity → Type 0
StaysBelow n d g e = (0 < n) × FitsLevels (below n) e × (kind_at (below n) (field_lines e) g ≡ kind_at n (field_lines e) d)

abbrev here : ℕ → Bool → Bool → Entity → Placed
here start followed d e = record { start = start; followed = followed; digest = d; entity = e }

pub below_told : (n level start : ℕ) (followed d g : Bool) (e : Entity) → IsLevel n level → levels - level ≡ below n → IsWellRead n d e → fields_in (text_of (field_lines e)) ≡ field_lines e → ((fits_below level g (here start followed d e) ≡ true) ↔ StaysBelow n d g e)
below_told zero level start followed d g e v m w r = rw v ((λ x. cc), (λ x. absurd (no_level x.0)))
below_told (suc zero) level start followed d g e v m w r =
    rw (v.0, m, v.1)
    (let told = if_then (fits_levels zero e) true (FitsLevels zero e) (kind_at zero (field_lines e) g ≡ kind_at (suc zero) (field_lines e) d) (levels_told zero e) (λ f. ((λ x. leaf_kind d g e f w), (λ x. refl))) in
    ((λ x. let y = told.0 x in (omega arith, y.0, y.1)), (λ x. told.1 (x.1, x.2))))
below_told (suc (suc k)) level start followed d g e v m w r =
    rw (v.0, m, v.1)
    (let kept = default_told (suc k) start followed d g e w r in
    let told = if_then (fits_levels (suc k) e) _ (FitsLevels (suc k) e) (kind_at (suc k) (field_lines e) g ≡ kind_at (suc (suc k)) (field_lines e) d) (levels_told (suc k) e) (λ f. ((λ x. sym (kept.0 x)), (λ x. kept.1 (sym x)))) in
    ((λ x. let y = told.0 x in (omega arith, y.0, y.1)), (λ x. told.1 (x.1, x.2))))

-- the end of the body
crlf_ends : (ls : List TextLine) → MayEnd Crlf ls
crlf_ends [] = tt
crlf_ends (l ∷ []) = λ o. tt
crlf_ends (l ∷ m ∷ ls) = crlf_ends (m ∷ ls)

one_told : (content : List ℕ) (e : Ending) → ((ends_in_return ((content ++ ending_bytes e) ++ []) ≡ false) ↔ (is_open e ≡ true → ends_in_return content ≡ false))
one_told content Crlf = ((λ h o. cc), (λ h. ap ends_in_return (append_nil (content ++ (13 ∷ 10 ∷ []))) ∙ ends_front content (13 ∷ 10 ∷ []) refl))
one_told content Lf = ((λ h o. cc), (λ h. ap ends_in_return (append_nil (content ++ (10 ∷ []))) ∙ ends_front content (10 ∷ []) refl))
one_told content Missing =
    let same = ap ends_in_return (append_nil (content ++ []) ∙ append_nil content) in
    ((λ h o. sym same ∙ h), (λ h. same ∙ h refl))

lf_told : (ls : List TextLine) → AreLines ls → ((ends_in_return (text_of ls) ≡ false) ↔ MayEnd Lf ls)
lf_told [] a = ((λ h. tt), (λ h. refl))
lf_told (l ∷ []) a = one_told l.content l.ending
lf_told (l ∷ m ∷ ls) a =
    let same = ends_front (printed_line l) (text_of (m ∷ ls)) (no_text (text_of (m ∷ ls)) (some_text m ls a.2.0)) in
    let told = lf_told (m ∷ ls) a.2 in
    ((λ h. told.0 (sym same ∙ h)), (λ h. same ∙ told.1 h))

not_true : (t : Bool) → not t ≡ true → t ≡ false
not_true true h = cc
not_true false h = refl

-- the look at the last byte of a body
abbrev pub end_look : Ending → Bool → Entity → Bool
end_look eol followed e = not ((not followed && is_leaf e) && (is_lf eol && ends_in_cr (text_of (body_lines e))))

open_told : (eol : Ending) (ls : List TextLine) → is_open eol ≡ false → AreLines ls → ((not (is_lf eol && ends_in_cr (text_of ls)) ≡ true) ↔ MayEnd eol ls)
open_told Crlf ls c a = ((λ h. crlf_ends ls), (λ h. refl))
open_told Lf ls c a =
    let told = lf_told ls a in
    let same = last_return (text_of ls) in
    ((λ h. told.0 (sym same ∙ not_true (ends_in_cr (text_of ls)) h)), (λ h. ap not (same ∙ told.1 h)))
open_told Missing ls c a = cc

pub end_told : (eol : Ending) (fs : List Frame) (e : Entity) (followed : Bool) → is_open eol ≡ false → AreLines (body_lines e) → not (is_nil (lines_after fs)) ≡ followed → ((end_look eol followed e ≡ true) ↔ BodyMayEnd eol fs e)
end_told eol fs (leaf h ls) true c a q = ((λ x o. let none : true ≡ false = sym q ∙ o in cc none), (λ x. refl))
end_told eol fs (leaf h ls) false c a q = let told = open_told eol ls c a in ((λ x o. told.0 x), (λ x. told.1 (x q)))
end_told eol fs (message h e) true c a q = ((λ x. tt), (λ x. refl))
end_told eol fs (message h e) false c a q = ((λ x. tt), (λ x. refl))
end_told eol fs (multi h b pre ps t) true c a q = ((λ x. tt), (λ x. refl))
end_told eol fs (multi h b pre ps t) false c a q = ((λ x. tt), (λ x. refl))
