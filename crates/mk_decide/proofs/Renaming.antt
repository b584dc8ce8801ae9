-- A field start under another name is a field start, and a line.
use Rattle.std.proofs.Common.{◌≡◌, ◌==◌, ◌&&◌, ◌++◌, ℕ, Bool, true, false, not, List, [], ◌∷◌, refl, ap, sym, ◌∙◌, inl, inr}
use Rattle.std.proofs.lemmas.Bool.{cases_Bool, or_parts, eqb-true}
use Rattle.std.specs.List.{list_all}
use Rattle.mk_line.specs.declared.cutting.Ending.{Ending}
use Rattle.mk_line.specs.declared.cutting.Ending.TheVariants.{Crlf, Lf, Missing}
use Rattle.mk_line.specs.Ascii.{is_blank, is_name_byte}
use Rattle.mk_line.specs.Lines.{TextLine, is_nil, has_line_feed, ends_in_return, EndsWell, IsLine}
use Rattle.mk_line.specs.Kinds.{is_past_blanks_colon, is_after_name, is_field_start, is_name}
use Rattle.mk_head.specs.Split.{is_start}
use Rattle.mk_decide.specs.FieldEdits.{after_name, renamed}

pub both : (a b : Bool) → (a && b) ≡ true → (a ≡ true) × (b ≡ true)
both true b h = (refl, h)
both false b h = cc

true_false : {A : Type 0} → true ≡ false → A
true_false e = cc

false_true : {A : Type 0} → false ≡ true → A
false_true e = cc

-- a byte that passes a test is none that doesn't
pub differs : (f : ℕ → Bool) (c d : ℕ) → f c ≡ true → f d ≡ false → (c == d) ≡ false
differs f c d h k =
    elim (cases_Bool (c == d)) [
      | inl e ↦ true_false (sym h ∙ (ap f (eqb-true c d e) ∙ k))
      | inr e ↦ e
    ]

blank_name : (c : ℕ) → is_blank c ≡ true → is_name_byte c ≡ false
blank_name c h =
    elim (cases_Bool (c == 32)) [
      | inl e ↦ rw (eqb-true c 32 e) refl
      | inr f ↦ let tab : (c == 9) ≡ true = (rw f at h) in rw (eqb-true c 9 tab) refl
    ]

pub past_name : (c : ℕ) (cs : List ℕ) → is_past_blanks_colon (c ∷ cs) ≡ true → is_name_byte c ≡ false
past_name c cs h =
    elim (cases_Bool (is_blank c)) [
      | inl b ↦ blank_name c b
      | inr b ↦ let colon : (c == 58) ≡ true = (rw b at h) in rw (eqb-true c 58 colon) refl
    ]

after_past : (cs : List ℕ) → is_after_name cs ≡ true → is_past_blanks_colon (after_name cs) ≡ true
after_past [] h = h
after_past (c ∷ cs) h =
    elim (cases_Bool (is_name_byte c)) [
      | inl n ↦ rw n (after_past cs (rw n at h))
      | inr n ↦ rw n (rw n at h)
    ]

pub start_past : (cs : List ℕ) → is_field_start cs ≡ true → is_past_blanks_colon (after_name cs) ≡ true
start_past [] h = h
start_past (c ∷ cs) h = let p = both (is_name_byte c) (is_after_name cs) h in rw p.0 (after_past cs p.1)

name_after : (to rest : List ℕ) → list_all is_name_byte to ≡ true → is_past_blanks_colon rest ≡ true → is_after_name (to ++ rest) ≡ true
name_after [] [] n h = h
name_after [] (c ∷ cs) n h = rw (past_name c cs h) h
name_after (c ∷ to) rest n h = let p = both (is_name_byte c) (list_all is_name_byte to) n in rw p.0 (name_after to rest p.1 h)

name_start : (to rest : List ℕ) → is_name to ≡ true → is_past_blanks_colon rest ≡ true → is_field_start (to ++ rest) ≡ true
name_start [] rest n h = false_true n
name_start (c ∷ to) rest n h = let p = both (is_name_byte c) (list_all is_name_byte to) n in rw p.0 (name_after to rest p.1 h)

pub renamed_start : (to : List ℕ) (l : TextLine) → is_name to ≡ true → is_start l ≡ true → is_start (renamed to l) ≡ true
renamed_start to l n h = name_start to (after_name l.content) n (start_past l.content h)

-- its bytes
pub feed_join : (xs ys : List ℕ) → has_line_feed xs ≡ false → has_line_feed ys ≡ false → has_line_feed (xs ++ ys) ≡ false
feed_join [] ys h k = k
feed_join (x ∷ xs) ys h k = let p = or_parts (x == 10) (has_line_feed xs) h in rw p.0 (feed_join xs ys p.1 k)

pub feed_tested : (f : ℕ → Bool) (cs : List ℕ) → f 10 ≡ false → list_all f cs ≡ true → has_line_feed cs ≡ false
feed_tested f [] k h = refl
feed_tested f (c ∷ cs) k h = let p = both (f c) (list_all f cs) h in rw (differs f c 10 p.0 k) (feed_tested f cs k p.1)

after_feed : (cs : List ℕ) → has_line_feed cs ≡ false → has_line_feed (after_name cs) ≡ false
after_feed [] h = h
after_feed (c ∷ cs) h =
    elim (cases_Bool (is_name_byte c)) [
      | inl n ↦ rw n (after_feed cs (or_parts (c == 10) (has_line_feed cs) h).1)
      | inr n ↦ rw n h
    ]

pub ends_after : (xs : List ℕ) (y : ℕ) (ys : List ℕ) → ends_in_return (xs ++ (y ∷ ys)) ≡ ends_in_return (y ∷ ys)
ends_after [] y ys = refl
ends_after (x ∷ []) y ys = refl
ends_after (x ∷ z ∷ xs) y ys = ends_after (z ∷ xs) y ys

ends_some : (xs ys : List ℕ) → is_past_blanks_colon ys ≡ true → ends_in_return (xs ++ ys) ≡ ends_in_return ys
ends_some xs [] h = false_true h
ends_some xs (y ∷ ys) h = ends_after xs y ys

ends_name : (cs : List ℕ) → is_past_blanks_colon (after_name cs) ≡ true → ends_in_return (after_name cs) ≡ ends_in_return cs
ends_name [] h = refl
ends_name (c ∷ []) h =
    elim (cases_Bool (is_name_byte c)) [
      | inl n ↦ false_true (rw n at h)
      | inr n ↦ rw n refl
    ]
ends_name (c ∷ e ∷ cs) h =
    elim (cases_Bool (is_name_byte c)) [
      | inl n ↦ rw n (ends_name (e ∷ cs) (rw n at h))
      | inr n ↦ rw n refl
    ]

some_name : (to rest : List ℕ) → is_name to ≡ true → is_nil (to ++ rest) ≡ false
some_name [] rest n = false_true n
some_name (c ∷ to) rest n = refl

name_bytes : (to : List ℕ) → is_name to ≡ true → list_all is_name_byte to ≡ true
name_bytes to n = (both (not (is_nil to)) (list_all is_name_byte to) n).1

ends_renamed : (e : Ending) (to content : List ℕ) → is_name to ≡ true → is_field_start content ≡ true → EndsWell e content → EndsWell e (to ++ after_name content)
ends_renamed Crlf to content n s h = tt
ends_renamed Lf to content n s h = ends_some to (after_name content) (start_past content s) ∙ (ends_name content (start_past content s) ∙ h)
ends_renamed Missing to content n s h = some_name to (after_name content) n

pub renamed_line : (to : List ℕ) (l : TextLine) → is_name to ≡ true → is_start l ≡ true → IsLine l → IsLine (renamed to l)
renamed_line to l n s h = record {
  no_feed = feed_join to (after_name l.content) (feed_tested is_name_byte to refl (name_bytes to n)) (after_feed l.content h.no_feed);
  ends_well = ends_renamed l.ending to l.content n s h.ends_well;
}
