-- A text with an ending after it, cut into lines.
use Rattle.std.proofs.Common.{◌≡◌, ◌≢◌, ◌⊎◌, ◌==◌, ◌&&◌, ◌++◌, if◌then◌else◌, ℕ, Bool, true, false, List, [], ◌∷◌, refl, ap, sym, ◌∙◌, inl, inr}
use Rattle.std.proofs.lemmas.Bool.{cases_Bool}
use Rattle.mk_line.specs.declared.cutting.Ending.{Ending}
use Rattle.mk_line.specs.declared.cutting.Ending.TheVariants.{Crlf, Lf, Missing}
use Rattle.mk_line.specs.Lines.{TextLine, cut, ending_bytes, ends_in_return, is_lf, is_nil, onto_first, with_byte}

-- lines, and the same with an ending after them: a line more that is empty, or the last, which was open, with an ending
abbrev pub Grows : List TextLine → List TextLine → Type 0
Grows [] [] = ⊥
Grows [] (m ∷ []) = m.content ≡ []
Grows [] (m ∷ n ∷ ms) = ⊥
Grows (l ∷ ls) [] = ⊥
Grows (l ∷ ls) (m ∷ ms) = ((l ≡ m) × Grows ls ms) ⊎ ((ls ≡ []) × (ms ≡ []) × (l.content ≡ m.content) × (l.ending ≡ Missing) × (is_nil l.content ≡ false))

line_nil : {A : Type 0} (l : TextLine) (ls : List TextLine) → ◌≡◌ {A = List TextLine} (l ∷ ls) [] → A
line_nil l ls e = cc

onto_some : (byte : ℕ) (xs : List TextLine) → onto_first byte xs ≡ [] → ⊥
onto_some byte [] e = line_nil _ _ e
onto_some byte (l ∷ ls) e = line_nil _ _ e

cut_some : (byte : ℕ) (bytes : List ℕ) → cut (byte ∷ bytes) ≡ [] → ⊥
cut_some byte bytes e = elim (cases_Bool (byte == 10)) [
  | inl h ↦ line_nil _ _ (rw h at e)
  | inr h ↦ onto_some byte (cut bytes) (rw h at e)
]

and_end : (a : Bool) → (a && false) ≡ false
and_end true = refl
and_end false = refl

-- with a byte put before them
onto_grows : (byte : ℕ) (xs ys : List TextLine) → (xs ≡ [] → ⊥) → Grows xs ys → Grows (onto_first byte xs) (onto_first byte ys)
onto_grows byte [] ys some g = absurd (some refl)
onto_grows byte (l ∷ ls) [] some g = absurd g
onto_grows byte (l ∷ ls) (m ∷ ms) some (inl g) = inl (ap (with_byte byte) g.0, g.1)
onto_grows byte (l ∷ ls) (m ∷ ms) some (inr g) =
    let first : (is_lf l.ending && is_nil l.content) ≡ false = ap (λ e. is_lf e && is_nil l.content) g.3 in
    let last : (is_lf m.ending && is_nil m.content) ≡ false = ap (λ t. is_lf m.ending && t) (ap is_nil (sym g.2) ∙ g.4) ∙ and_end (is_lf m.ending) in
    rw (first, last) (inr (g.0, g.1, ap (λ c. byte ∷ c) g.2, g.3, refl))

grown_crlf : (text : List ℕ) → Grows (cut text) (cut (text ++ (13 ∷ 10 ∷ [])))
grown_crlf [] = refl
grown_crlf (byte ∷ []) = elim (cases_Bool (byte == 10)) [
  | inl h ↦ rw h (inl (refl, refl))
  | inr h ↦ rw h (inr (refl, refl, refl, refl, refl))
]
grown_crlf (byte ∷ next ∷ bytes) = elim (cases_Bool (byte == 10)) [
  | inl h ↦ rw h (inl (refl, grown_crlf (next ∷ bytes)))
  | inr h ↦ rw h (onto_grows byte (cut (next ∷ bytes)) (cut ((next ∷ bytes) ++ (13 ∷ 10 ∷ []))) (cut_some next bytes) (grown_crlf (next ∷ bytes)))
]

grown_lf : (text : List ℕ) → ends_in_return text ≡ false → Grows (cut text) (cut (text ++ (10 ∷ [])))
grown_lf [] r = refl
grown_lf (byte ∷ []) r = elim (cases_Bool (byte == 10)) [
  | inl h ↦ rw h (inl (refl, refl))
  | inr h ↦ rw (h, r) (inr (refl, refl, refl, refl, refl))
]
grown_lf (byte ∷ next ∷ bytes) r = elim (cases_Bool (byte == 10)) [
  | inl h ↦ rw h (inl (refl, grown_lf (next ∷ bytes) r))
  | inr h ↦ rw h (onto_grows byte (cut (next ∷ bytes)) (cut ((next ∷ bytes) ++ (10 ∷ []))) (cut_some next bytes) (grown_lf (next ∷ bytes) r))
]

by_ending : (eol : Ending) (text : List ℕ) → eol ≢ Missing → ends_in_return text ≡ false → Grows (cut text) (cut (text ++ ending_bytes eol))
by_ending Crlf text n r = grown_crlf text
by_ending Lf text n r = grown_lf text r
by_ending Missing text n r = absurd (n refl)

pub divided_by : (eol : Ending) (text : List ℕ) (t : Bool) → eol ≢ Missing → ends_in_return text ≡ t → Grows (cut text) (cut (text ++ ending_bytes (if t then Crlf else eol)))
divided_by eol text true n r = grown_crlf text
divided_by eol text false n r = by_ending eol text n r
