-- The lines of a field whose last line got an ending.
use Rattle.std.proofs.Common.{◌≡◌, ◌==◌, ◌&&◌, ◌+◌, ◌++◌, if◌then◌else◌, ℕ, suc, Bool, true, false, List, [], ◌∷◌, refl, ap, sym, ◌∙◌, take, inl, inr, arith}
use Rattle.std.proofs.lemmas.Bool.{cases_Bool, eqb-true}
use Rattle.std.specs.List.{prefix_len}
use Rattle.mk_line.specs.Ascii.{is_blank, is_name_byte}
use Rattle.mk_line.specs.declared.cutting.Ending.TheVariants.{Crlf}
use Rattle.mk_line.specs.Kinds.{is_past_blanks_colon, is_after_name, is_field_start}
use Rattle.mk_line.specs.Lines.{TextLine, text_line, is_lf, is_nil, onto_first, cut}
use Rattle.mk_mail.proofs.PartTypes.{both}

-- the content of the first line
abbrev pub first_content : List TextLine → List ℕ
first_content [] = []
first_content (l ∷ ls) = l.content

-- the bytes of a name at the start
abbrev pub name_in : List ℕ → List ℕ
name_in bytes = take (prefix_len is_name_byte bytes) bytes

-- a first line begins with the byte before it, or is ended by it
first_onto : (P : List ℕ → Type 0) (byte : ℕ) (ls : List TextLine) → ((byte ≡ 13) → P []) → P (byte ∷ first_content ls) → P (first_content (onto_first byte ls))
first_onto P byte [] r h = h
first_onto P byte (l ∷ ls) r h = by ((is_lf l.ending && is_nil l.content) && byte == 13) (λ t. eqb-true byte 13 (both (is_lf l.ending && is_nil l.content) (byte == 13) t).1)
  where
    by : (t : Bool) → (t ≡ true → byte ≡ 13) → P (if t then text_line [] Crlf else text_line (byte ∷ l.content) l.ending).content
    by true f = r (f refl)
    by false f = h

past_first : (x : List ℕ) → is_past_blanks_colon (first_content (cut x)) ≡ is_past_blanks_colon x
past_first [] = refl
past_first (byte ∷ bytes) =
    elim (cases_Bool (byte == 10)) [
      | inl feed ↦ let same : byte ≡ 10 = eqb-true byte 10 feed in rw (feed, same) refl
      | inr other ↦
          rw other (first_onto (λ c. is_past_blanks_colon c ≡ is_past_blanks_colon (byte ∷ bytes)) byte (cut bytes) (λ r. rw r refl)
          (ap (λ t. if is_blank byte then t else byte == 58) (past_first bytes)))
    ]

after_first : (x : List ℕ) → is_after_name (first_content (cut x)) ≡ is_after_name x
after_first [] = refl
after_first (byte ∷ bytes) =
    elim (cases_Bool (byte == 10)) [
      | inl feed ↦ let same : byte ≡ 10 = eqb-true byte 10 feed in rw (feed, same) refl
      | inr other ↦
          rw other (first_onto (λ c. is_after_name c ≡ is_after_name (byte ∷ bytes)) byte (cut bytes) (λ r. rw r refl)
          (λ i. if is_name_byte byte then after_first bytes i else (if is_blank byte then past_first bytes i else byte == 58)))
    ]

-- a text begins a field where its first line does
pub start_first : (x : List ℕ) → is_field_start (first_content (cut x)) ≡ is_field_start x
start_first [] = refl
start_first (byte ∷ bytes) =
    elim (cases_Bool (byte == 10)) [
      | inl feed ↦ let same : byte ≡ 10 = eqb-true byte 10 feed in rw (feed, same) refl
      | inr other ↦
          rw other (first_onto (λ c. is_field_start c ≡ is_field_start (byte ∷ bytes)) byte (cut bytes) (λ r. rw r refl)
          (ap (λ t. is_name_byte byte && t) (after_first bytes)))
    ]

one_and : (n : ℕ) → 1 + n ≡ suc n
one_and n = omega arith

pub name_one : (byte : ℕ) (bytes : List ℕ) → name_in (byte ∷ bytes) ≡ (if is_name_byte byte then byte ∷ name_in bytes else [])
name_one byte bytes =
    elim (cases_Bool (is_name_byte byte)) [
      | inl n ↦ rw n (ap (λ m. take m (byte ∷ bytes)) (one_and (prefix_len is_name_byte bytes)))
      | inr n ↦ rw n refl
    ]

-- and its name is that of this line
pub name_first : (x : List ℕ) → name_in (first_content (cut x)) ≡ name_in x
name_first [] = refl
name_first (byte ∷ bytes) =
    elim (cases_Bool (byte == 10)) [
      | inl feed ↦ let same : byte ≡ 10 = eqb-true byte 10 feed in rw (feed, same) refl
      | inr other ↦
          rw other (first_onto (λ c. name_in c ≡ name_in (byte ∷ bytes)) byte (cut bytes) (λ r. rw r refl)
          (name_one byte (first_content (cut bytes)) ∙ (ap (λ ns. if is_name_byte byte then byte ∷ ns else []) (name_first bytes) ∙ sym (name_one byte bytes))))
    ]

-- bytes after change neither
past_more : (x y : List ℕ) → is_past_blanks_colon x ≡ true → is_past_blanks_colon (x ++ y) ≡ true
past_more [] y h = absurd cc
past_more (byte ∷ bytes) y h =
    elim (cases_Bool (is_blank byte)) [
      | inl blank ↦ rw blank (past_more bytes y (rw blank at h))
      | inr other ↦ rw other (rw other at h)
    ]

after_more : (x y : List ℕ) → is_after_name x ≡ true → is_after_name (x ++ y) ≡ true
after_more [] y h = absurd cc
after_more (byte ∷ bytes) y h =
    elim (cases_Bool (is_name_byte byte)) [
      | inl n ↦ rw n (after_more bytes y (rw n at h))
      | inr n ↦ rw n (past_more (byte ∷ bytes) y (rw n at h))
    ]

pub start_after : (x y : List ℕ) → is_field_start x ≡ true → is_field_start (x ++ y) ≡ true
start_after [] y h = absurd cc
start_after (byte ∷ bytes) y h = let p = both (is_name_byte byte) (is_after_name bytes) h in rw (p.0, after_more bytes y p.1) refl

name_more : (x y : List ℕ) → is_after_name x ≡ true → name_in (x ++ y) ≡ name_in x
name_more [] y h = absurd cc
name_more (byte ∷ bytes) y h =
    elim (cases_Bool (is_name_byte byte)) [
      | inl n ↦ name_one byte (bytes ++ y) ∙ (rw n (ap (λ ns. byte ∷ ns) (name_more bytes y (rw n at h))) ∙ sym (name_one byte bytes))
      | inr n ↦ name_one byte (bytes ++ y) ∙ (rw n refl ∙ sym (name_one byte bytes))
    ]

pub name_after : (x y : List ℕ) → is_field_start x ≡ true → name_in (x ++ y) ≡ name_in x
name_after [] y h = absurd cc
name_after (byte ∷ bytes) y h =
    let p = both (is_name_byte byte) (is_after_name bytes) h in
    name_one byte (bytes ++ y) ∙ (ap (λ ns. if is_name_byte byte then byte ∷ ns else []) (name_more bytes y p.1) ∙ sym (name_one byte bytes))
