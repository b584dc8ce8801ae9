-- Names byte by byte: blanks before and after don't count, and case doesn't.
use Rattle.std.proofs.Common.{◌≡◌, ◌==◌, ◌&&◌, ◌+◌, ◌<◌, ◌≤◌, if◌then◌else◌, ℕ, suc, zero, Bool, true, false, not, List, [], ◌∷◌, refl, ap, sym, ◌∙◌, inl, inr, length, drop, get_or, nat_lt, arith, eqb-true}
use Rattle.std.proofs.lemmas.Bool.{cases_Bool, lt-ltb, ne_eqb}
use Rattle.std.proofs.lemmas.Bool.Decides.{nat_tests}
use Rattle.std.proofs.lemmas.List.{drop_more}
use Rattle.std.specs.List.{list_all}
use Rattle.std.specs.Str.{bytes_eq}
use Rattle.std.specs.Char.{to_ascii_lowercase}
use Rattle.mk_line.specs.Ascii.{is_blank}
use Rattle.mk_line.specs.Marks.{trimmed, trimmed_before}
use Rattle.mk_head.specs.Values.{Scan, Plain, scan, is_kept, uncommented, lowered, stripped, unled}

-- the bytes complete a name of which these bytes are left; `started`: some stand before
abbrev pub is_done : List ℕ → Bool
is_done [] = true
is_done (byte ∷ bytes) = false

abbrev pub completes : Bool → List ℕ → List ℕ → Bool
completes started name [] = is_done name
completes started [] (byte ∷ bytes) = if is_blank byte then completes started [] bytes else false
completes started (letter ∷ name) (byte ∷ bytes) = if is_blank byte then (if started then false else completes started (letter ∷ name) bytes) else (to_ascii_lowercase byte == letter && completes true name bytes)

abbrev pub IsPlain : List ℕ → Type 0
IsPlain name = list_all (λ byte. not (is_blank byte)) name ≡ true

both : (a b : Bool) → (a && b) ≡ true → (a ≡ true) × (b ≡ true)
both true b h = (refl, h)
both false b h = cc

not_blank : (t : Bool) → not t ≡ true → t ≡ false
not_blank true h = cc
not_blank false h = refl

blank_both : (n : ℕ) → is_blank n ≡ true → is_blank n ≡ false → ⊥
blank_both n h k = cc

differs : (n b : ℕ) → is_blank b ≡ true → is_blank n ≡ false → (b == n) ≡ false
differs n b h k = elim (cases_Bool (b == n)) [ inl e ↦ absurd (blank_both n (ap is_blank (sym (eqb-true b n e)) ∙ h) k) | inr f ↦ f ]

other_byte : (n b : ℕ) → is_blank n ≡ false → is_blank b ≡ true → (to_ascii_lowercase b == n) ≡ false
other_byte n b h k =
    elim (cases_Bool (b == 32)) [
      | inl e ↦ rw (eqb-true b 32 e) (differs n 32 refl h)
      | inr f ↦ let tab : (b == 9) ≡ true = (rw f at k) in rw (eqb-true b 9 tab) (differs n 9 refl h)
    ]

bare : (b : ℕ) (t : List ℕ) → is_blank b ≡ false → trimmed_before b t ≡ b ∷ t
bare b [] h = rw h refl
bare b (c ∷ t) h = refl

blank_nil : (b : ℕ) (t : List ℕ) → is_blank b ≡ true → bytes_eq (lowered t) [] ≡ bytes_eq (lowered (trimmed_before b t)) []
blank_nil b [] h = rw h refl
blank_nil b (c ∷ t) h = refl

blank_some : (b n : ℕ) (t ns : List ℕ) → is_blank b ≡ true → is_blank n ≡ false → false ≡ bytes_eq (lowered (trimmed_before b t)) (n ∷ ns)
blank_some b n [] ns h k = rw h refl
blank_some b n (c ∷ t) ns h k = rw (other_byte n b k h) refl

pub started_is : (name ks : List ℕ) → IsPlain name → completes true name ks ≡ bytes_eq (lowered (trimmed ks)) name
started_is [] [] p = refl
started_is (n ∷ ns) [] p = refl
started_is [] (b ∷ ks) p =
    elim (cases_Bool (is_blank b)) [
      | inl h ↦ rw h (started_is [] ks p ∙ blank_nil b (trimmed ks) h)
      | inr h ↦ rw (h, bare b (trimmed ks) h) refl
    ]
started_is (n ∷ ns) (b ∷ ks) p =
    let q = both (not (is_blank n)) (list_all (λ byte. not (is_blank byte)) ns) p in
    elim (cases_Bool (is_blank b)) [
      | inl h ↦ rw h (blank_some b n (trimmed ks) ns h (not_blank (is_blank n) q.0))
      | inr h ↦ rw (h, bare b (trimmed ks) h) (ap (λ t. to_ascii_lowercase b == n && t) (started_is ns ks q.1))
    ]

fresh_started : (name ks : List ℕ) (b : ℕ) → is_blank b ≡ false → completes false name (b ∷ ks) ≡ completes true name (b ∷ ks)
fresh_started [] ks b h = rw h refl
fresh_started (n ∷ ns) ks b h = rw h refl

fresh_blank : (name ks : List ℕ) (b : ℕ) → is_blank b ≡ true → completes false name (b ∷ ks) ≡ completes false name ks
fresh_blank [] ks b h = rw h refl
fresh_blank (n ∷ ns) ks b h = rw h refl

unled_blank : (b : ℕ) (ks : List ℕ) → is_blank b ≡ true → unled (b ∷ ks) ≡ unled ks
unled_blank b ks h = rw h refl

unled_other : (b : ℕ) (ks : List ℕ) → is_blank b ≡ false → unled (b ∷ ks) ≡ b ∷ ks
unled_other b ks h = rw h refl

pub named_is : (name ks : List ℕ) → IsPlain name → completes false name ks ≡ bytes_eq (lowered (stripped ks)) name
named_is [] [] p = refl
named_is (n ∷ ns) [] p = refl
named_is name (b ∷ ks) p =
    elim (cases_Bool (is_blank b)) [
      | inl h ↦ fresh_blank name ks b h ∙ (named_is name ks p ∙ ap (λ us. bytes_eq (lowered (trimmed us)) name) (sym (unled_blank b ks h)))
      | inr h ↦ fresh_started name ks b h ∙ (started_is name (b ∷ ks) p ∙ ap (λ us. bytes_eq (lowered (trimmed us)) name) (sym (unled_other b ks h)))
    ]

same_suc : (a b : ℕ) → (a == b) ≡ (suc a == suc b)
same_suc a b = grind (arith, nat_tests)

-- bytes that complete nothing
pub inside_blank : (count b : ℕ) (name ks : List ℕ) → 0 < count → count < length name → is_blank b ≡ true → completes (nat_lt 0 count) (drop count name) (b ∷ ks) ≡ false
inside_blank count b name ks o l h = rw (lt-ltb 0 count o, drop_more name count 0 l, h) refl

pub other_letter : (t : Bool) (count b : ℕ) (name ks : List ℕ) → is_blank b ≡ false → (count < length name → (to_ascii_lowercase b == get_or name count 0) ≡ false) → completes t (drop count name) (b ∷ ks) ≡ false
other_letter t zero b [] ks h o = rw h refl
other_letter t (suc count) b [] ks h o = rw h refl
other_letter t zero b (n ∷ name) ks h o = rw (h, o (omega arith)) refl
other_letter t (suc count) b (n ∷ name) ks h o = other_letter t count b name ks h (λ l. o (omega (arith, l)))

pub done_at : (t : Bool) (count : ℕ) (name : List ℕ) → count ≤ length name → completes t (drop count name) [] ≡ (count == length name)
done_at t zero [] h = refl
done_at t (suc count) [] h = absurd (omega (arith, h))
done_at t zero (n ∷ name) h = sym (ne_eqb 0 (suc (length name)) (λ e. let z : 0 ≡ suc (length name) = e in omega (arith, z)))
done_at t (suc count) (n ∷ name) h = done_at t count name (omega (arith, h)) ∙ same_suc count (length name)

kept_first : (s : Scan) (b : ℕ) (bs : List ℕ) → is_kept s b ≡ true → uncommented s (b ∷ bs) ≡ b ∷ uncommented (scan s b) bs
kept_first s b bs h = rw h refl

drop_past : (i : ℕ) (xs : List ℕ) → length xs ≤ i → drop i xs ≡ []
drop_past zero [] h = refl
drop_past (suc i) [] h = refl
drop_past zero (x ∷ xs) h = absurd (omega (arith, h))
drop_past (suc i) (x ∷ xs) h = drop_past i xs (omega (arith, h))

-- one byte that isn't in a comment
pub kept_byte : (s : Scan) (value : List ℕ) (i : ℕ) → i < length value → is_kept s (get_or value i 0) ≡ true → uncommented s (drop i value) ≡ get_or value i 0 ∷ uncommented (scan s (get_or value i 0)) (drop (i + 1) value)
kept_byte s value i l h = ap (uncommented s) (drop_more value i 0 l) ∙ kept_first s (get_or value i 0) (drop (i + 1) value) h

-- the answers of a match
pub no_match : (name ks : List ℕ) (t : Bool) → IsPlain name → t ≡ completes false name ks → t ≡ false → false ≡ bytes_eq (lowered (stripped ks)) name
no_match name ks t p e h = sym h ∙ (e ∙ named_is name ks p)

pub blank_inside : (name value : List ℕ) (s : Scan) (count i : ℕ) → IsPlain name → completes (nat_lt 0 count) (drop count name) (uncommented s (drop i value)) ≡ completes false name (uncommented Plain value)
    → i < length value → is_kept s (get_or value i 0) ≡ true → is_blank (get_or value i 0) ≡ true → 0 < count → count < length name → false ≡ bytes_eq (lowered (stripped (uncommented Plain value))) name
blank_inside name value s count i p e l k b o m =
    no_match name (uncommented Plain value) (completes (nat_lt 0 count) (drop count name) (uncommented s (drop i value))) p e
    (ap (completes (nat_lt 0 count) (drop count name)) (kept_byte s value i l k) ∙ inside_blank count (get_or value i 0) name (uncommented (scan s (get_or value i 0)) (drop (i + 1) value)) o m b)

pub letter_other : (name value : List ℕ) (s : Scan) (count i : ℕ) → IsPlain name → completes (nat_lt 0 count) (drop count name) (uncommented s (drop i value)) ≡ completes false name (uncommented Plain value)
    → i < length value → is_kept s (get_or value i 0) ≡ true → is_blank (get_or value i 0) ≡ false → (count < length name → (to_ascii_lowercase (get_or value i 0) == get_or name count 0) ≡ false) → false ≡ bytes_eq (lowered (stripped (uncommented Plain value))) name
letter_other name value s count i p e l k b o =
    no_match name (uncommented Plain value) (completes (nat_lt 0 count) (drop count name) (uncommented s (drop i value))) p e
    (ap (completes (nat_lt 0 count) (drop count name)) (kept_byte s value i l k) ∙ other_letter (nat_lt 0 count) count (get_or value i 0) name (uncommented (scan s (get_or value i 0)) (drop (i + 1) value)) b o)

pub match_end : (name value : List ℕ) (s : Scan) (count i : ℕ) → IsPlain name → completes (nat_lt 0 count) (drop count name) (uncommented s (drop i value)) ≡ completes false name (uncommented Plain value)
    → length value ≤ i → count ≤ length name → (count == length name) ≡ bytes_eq (lowered (stripped (uncommented Plain value))) name
match_end name value s count i p e l m =
    sym (done_at (nat_lt 0 count) count name m)
    ∙ (ap (completes (nat_lt 0 count) (drop count name)) (sym (ap (uncommented s) (drop_past i value l)))
    ∙ (e ∙ named_is name (uncommented Plain value) p))
