-- The names of leaves are names of files, and no two are alike.
use Rattle.std.proofs.Common.{◌≡◌, ◌==◌, ◌<◌, ◌/◌, ◌%◌, ◌&&◌, ◌++◌, if◌then◌else◌, ℕ, zero, suc, Bool, true, false, not, Option, None, Some, List, [], ◌∷◌, refl, ap, ◌∙◌, map, take, decimal, inl, inr, arith}
use Rattle.std.specs.Prelude.{nat_lt}
use Rattle.std.specs.Fmt.{digit_glyph, digits_onto, digits}
use Rattle.std.specs.List.{after_last, flat_map}
use Rattle.std.specs.Option.{option_or}
use Rattle.std.specs.Str.{IsUtf8}
use Rattle.std.proofs.lemmas.Bool.{agree_below_at, cases_Bool, ltb-true}
use Rattle.std.proofs.lemmas.Bool.Decides.{nat_tests}
use Rattle.mk_line.specs.Lines.{is_nil}
use Rattle.mk_head.specs.Values.{MediaType}
use Rattle.mk_tree.specs.declared.shapes.Kind.{Kind}
use Rattle.mk_tree.specs.declared.shapes.Kind.TheVariants.{Leaf, Multi, Message}
use Rattle.mk_tree.specs.Forms.{kind_in}
use Rattle.mk_line.specs.Ascii.{full_stop, hyphen}
use Rattle.mk_view.specs.declared.storing.Storing.{Storing}
use Rattle.mk_view.specs.Listed.{Listed}
use Rattle.mk_view.specs.Listing.{path_text, type_of}
use Rattle.mk_view.specs.inner.Columns.{dotted}
use Rattle.mk_view.specs.FileNames.{Named, is_divider, is_plain_byte, plain, led, cleaned, part_name, name_or, name_by, is_stored_by}
use Rattle.mk_view.specs.TextNames.{cleaned_text, name_bytes, name_text, named_by, naming_id, stored_if, stored_in, stored_named}
use Rattle.mk_view.specs.GivenNames.{numbered, is_taken, IsGivenBy, AreGiven, AreDistinct, has_no_slash, is_clean_text, is_safe, AreSafe}
use Rattle.mk_view.proofs.CleanTexts.{and_made, and_parts, are_fit, clean_both, fit_both, fit_safe, fit_well, is_fit, kept_safe, leading_allowed, led_all, taken_all, mapped_all, slashless_both}
use Rattle.mk_view.proofs.SaidTexts.{counting_utf8}

-- digits are ASCII and clean
glyph_fit : (d : ℕ) → d < 10 → is_fit (digit_glyph false d) ≡ true
glyph_fit d l = agree_below_at (λ n. is_fit (digit_glyph false n)) (λ _. true) 10 d refl l

digits_fit : (k n : ℕ) (acc : List ℕ) → are_fit acc ≡ true → are_fit (digits_onto k 10 false n acc) ≡ true
digits_fit zero n acc h = h
digits_fit (suc k) n acc h =
    let low : n % 10 < 10 = omega arith in
    let more = and_made (is_fit (digit_glyph false (n % 10))) (are_fit acc) (glyph_fit (n % 10) low) h in
    elim (cases_Bool (n / 10 == 0)) [
      | inl y ↦ rw y more
      | inr u ↦ rw u (digits_fit k (n / 10) (digit_glyph false (n % 10) ∷ acc) more)
    ]

decimal_fit : (n : ℕ) → are_fit (decimal n) ≡ true
unfolding digits
decimal_fit n = digits_fit 64 n [] refl

dotted_fit : (ns : List ℕ) → are_fit (flat_map dotted ns) ≡ true
dotted_fit [] = refl
dotted_fit (n ∷ ns) = fit_both (dotted n) (flat_map dotted ns) (decimal_fit n) (dotted_fit ns)

path_fit : (path : List ℕ) → are_fit (path_text path) ≡ true
path_fit [] = refl
path_fit (n ∷ ns) = fit_both (decimal n) (flat_map dotted ns) (decimal_fit n) (dotted_fit ns)

part_safe : (path : List ℕ) → is_safe (part_name path) ≡ true
part_safe path = fit_safe (part_name path) refl refl (path_fit path)

-- so are bytes that may stand in a name
plain_fit : (byte : ℕ) → is_fit (plain byte) ≡ true
plain_fit byte = elim (cases_Bool (nat_lt byte 128)) [
  | inl low ↦ agree_below_at (λ b. is_fit (plain b)) (λ _. true) 128 byte refl (ltb-true byte 128 low)
  | inr high ↦ let other : is_plain_byte byte ≡ false = grind (arith, nat_tests, high) in rw other refl
]

bytes_safe : (xs : List ℕ) → is_nil (take 100 (led (map plain xs))) ≡ false → is_safe (take 100 (led (map plain xs))) ≡ true
bytes_safe [] h = absurd (cc)
bytes_safe (x ∷ xs) h =
    let first = leading_allowed (plain x) in
    fit_safe (take 100 (led (map plain (x ∷ xs)))) refl first
    (taken_all is_fit 100 (led (map plain (x ∷ xs))) (led_all is_fit (map plain (x ∷ xs)) refl (mapped_all is_fit plain plain_fit (x ∷ xs))))

or_safe : (path name : List ℕ) → (is_nil name ≡ false → is_safe name ≡ true) → is_safe (name_or (part_name path) name) ≡ true
or_safe path [] h = part_safe path
or_safe path (x ∷ xs) h = h refl

plain_safe : (path : List ℕ) (raw : Option (List ℕ)) → is_safe (name_by path raw) ≡ true
plain_safe path None = part_safe path
plain_safe path (Some raw) = or_safe path (cleaned raw) (bytes_safe (after_last is_divider raw))

own_safe : (path : List ℕ) (text raw : Option (List ℕ)) → ((t : List ℕ) → text ≡ Some t → IsUtf8 t) → is_safe (named_by path text raw) ≡ true
own_safe path None raw u = plain_safe path raw
own_safe path (Some text) raw u = or_safe path (cleaned_text text) (kept_safe text (u text refl))

if_safe : (b : Bool) (path : List ℕ) (text raw : Option (List ℕ)) → ((t : List ℕ) → text ≡ Some t → IsUtf8 t) → AreSafe (stored_if b path text raw)
if_safe true path text raw u = (own_safe path text raw u, tt)
if_safe false path text raw u = tt

one_safe : (storing : Storing) (k : Kind) (path : List ℕ) (t : MediaType) (text raw : Option (List ℕ)) → ((b : List ℕ) → text ≡ Some b → IsUtf8 b) → AreSafe (stored_named storing k path t text raw)
one_safe storing Leaf path t text raw u = if_safe (is_stored_by storing.texts t (option_or text raw)) path text raw u
one_safe storing Multi path t text raw u = tt
one_safe storing Message path t text raw u = if_safe storing.messages path text raw u

both_safe : (xs ys : List Named) → AreSafe xs → AreSafe ys → AreSafe (xs ++ ys)
both_safe [] ys h k = k
both_safe (x ∷ xs) ys h k = (h.0, both_safe xs ys h.1 k)

-- the names that leaves would get by themselves
stored_safe : (storing : Storing) (ss : List Listed) → AreSafe (flat_map (stored_in storing) ss)
unfolding stored_in
stored_safe storing [] = tt
stored_safe storing (s ∷ ss) =
    let id = naming_id storing.content_ids s.section in
    both_safe _ _ (one_safe storing (kind_in s.section.entity) s.path (type_of s.section) (name_text id storing.form s.section) (name_bytes id s.section) (counting_utf8 id storing.form s.section)) (stored_safe storing ss)

-- a name with more bytes after it is as safe, where these may stand in a name
pub followed_safe : (name more : List ℕ) → are_fit more ≡ true → is_safe name ≡ true → is_safe (name ++ more) ≡ true
followed_safe [] more f h = absurd (cc)
followed_safe (x ∷ xs) more f h =
    let parts = and_parts (not (x == full_stop) && not (x == hyphen)) (has_no_slash (x ∷ xs) && is_clean_text (x ∷ xs)) h in
    let rest = and_parts (has_no_slash (x ∷ xs)) (is_clean_text (x ∷ xs)) parts.1 in
    let tail = fit_well more f in
    and_made (not (x == full_stop) && not (x == hyphen)) (has_no_slash (x ∷ xs ++ more) && is_clean_text (x ∷ xs ++ more)) parts.0
    (and_made (has_no_slash (x ∷ xs ++ more)) (is_clean_text (x ∷ xs ++ more)) (slashless_both (x ∷ xs) more rest.0 tail.0) (clean_both (x ∷ xs) more rest.1 tail.1))

-- a name with a number after it is as safe
pub numbered_safe : (name : List ℕ) (number : ℕ) → is_safe name ≡ true → is_safe (numbered name number) ≡ true
numbered_safe name number h = followed_safe name (dotted number) (decimal_fit number) h

given_by : (b : Bool) (names : List (List ℕ)) (own given : List ℕ) → is_taken names own ≡ b → IsGivenBy b names own given → is_safe own ≡ true → (is_safe given ≡ true) × (is_taken names given ≡ false)
given_by false names own given e h s = (ap is_safe h ∙ s, ap (is_taken names) h ∙ e)
given_by true names own given e h s = (ap is_safe h.2 ∙ numbered_safe own h.0 s, ap (is_taken names) h.2 ∙ h.1.free)

given_well : (names : List (List ℕ)) (os gs : List Named) → AreGiven names os gs → AreSafe os → AreSafe gs × AreDistinct names gs
given_well names [] [] h s = (tt, tt)
given_well names [] (g ∷ gs) h s = absurd h
given_well names (o ∷ os) [] h s = absurd h
given_well names (o ∷ os) (g ∷ gs) h s =
    let first = given_by (is_taken names o.1) names o.1 g.1 refl h.1 s.0 in
    let others = given_well (g.1 ∷ names) os gs h.2 s.1 in
    ((first.0, others.0), (first.1, others.1))

-- names that leaves get in turn are names of files, and no two are alike
pub names_well : (storing : Storing) (ss : List Listed) (gs : List Named) → AreGiven [] (flat_map (stored_in storing) ss) gs → AreSafe gs × AreDistinct [] gs
names_well storing ss gs h = given_well [] (flat_map (stored_in storing) ss) gs h (stored_safe storing ss)
