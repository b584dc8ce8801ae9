-- Base64 decoded block by block: whole groups of letters stand for bytes of their own.
use Rattle.std.proofs.Common.{◌≡◌, ◌==◌, Bool, true, ◌≤◌, ◌+◌, ◌*◌, ◌/◌, ◌%◌, ℕ, suc, zero, List, [], ◌∷◌, ◌++◌, refl, ap, sym, ◌∙◌, subst, length, take, drop, arith, append_assoc, length-append}
use Rattle.std.proofs.lemmas.List.{append-nil, length-take-le, nil_from_length, take-append-drop}
use Rattle.std.proofs.lemmas.Bool.{eqb-true}
use Rattle.std.proofs.lemmas.List.Elements.{filter-append}
use Rattle.std.specs.List.{filter}
use Rattle.base64.specs.Engines.{standard_no_pad}
use Rattle.base64.specs.GeneralPurpose.{IsBytes, encode_of}
use Rattle.base64.specs.Rfc4648.{encode_symbols}
use Rattle.base64.proofs.EngineFacts.{encode_of-append, front_bytes}
use Rattle.base64.proofs.RoundTrip.{length-encode_symbols}
use Rattle.mk_code.specs.Base64Text.{IsBase64Of, is_letter, letters}
use Rattle.mk_code.specs.inner.Decoded.{HasDecoded, EncodesNothing, HasBadGroups, EncodesNone, IsUngrouped}
use Rattle.mk_head.specs.declared.encodings.Encoding.TheVariants.{Base64}
use Rattle.mk_code.specs.declared.decoding.CodeError.{CodeError}
use Rattle.mk_code.specs.declared.decoding.CodeError.TheVariants.{BadBase64, UnknownEncoding, Memory}
use Rattle.mk_code.specs.Contents.{IsRefused}

abbrev encoded : List ℕ → List ℕ
encoded bytes = encode_of standard_no_pad bytes

pub both_bytes : (a b : List ℕ) → IsBytes a → IsBytes b → IsBytes (a ++ b)
both_bytes [] b h k i = k i
both_bytes (x ∷ a) b h k zero = h 0
both_bytes (x ∷ a) b h k (suc i) = both_bytes a b (λ j. h (suc j)) k i

back_bytes : (a b : List ℕ) → IsBytes (a ++ b) → IsBytes b
back_bytes [] b h = h
back_bytes (x ∷ a) b h = back_bytes a b (λ i. h (suc i))

length_encoded : (bytes : List ℕ) → length (encoded bytes) ≡ (4 * length bytes + 2) / 3
length_encoded bytes = ap length (append-nil (encode_symbols standard_no_pad.encode_table bytes)) ∙ length-encode_symbols standard_no_pad.encode_table bytes

-- lists that are the same, cut at the same length
same_cuts : (a p b q : List ℕ) → length a ≡ length p → a ++ b ≡ p ++ q → (a ≡ p) × (b ≡ q)
same_cuts [] [] b q l e = (refl, e)
same_cuts [] (y ∷ p) b q l e = absurd (omega (arith, l))
same_cuts (x ∷ a) [] b q l e = absurd (omega (arith, l))
same_cuts (x ∷ a) (y ∷ p) b q l e =
    let first : x ≡ y = cc in
    let others : a ++ b ≡ p ++ q = cc in
    let rest = same_cuts a p b q (omega (arith, l)) others in
    (λ i. first i ∷ rest.0 i, rest.1)

-- the bytes of letters, cut after whole groups of them
pub record IsSplit (bytes front following : List ℕ) : Type 0 where
  pub early : List ℕ
  pub late : List ℕ
  pub whole : early ++ late ≡ bytes
  pub early_bytes : IsBytes early
  pub late_bytes : IsBytes late
  pub front_is : encoded early ≡ front
  pub following_is : encoded late ≡ following

pub split_encoded : (x p q : List ℕ) → IsBytes x → encoded x ≡ p ++ q → length p % 4 ≡ 0 → IsSplit x p q
split_encoded x p q h e g =
    let n : ℕ = length p / 4 * 3 in
    let size : (4 * length x + 2) / 3 ≡ length p + length q = sym (length_encoded x) ∙ (ap length e ∙ length-append p q) in
    let fits : n ≤ length x = omega arith in
    let long : length (take n x) ≡ n = length-take-le n x fits in
    let parts : encoded x ≡ encoded (take n x) ++ encoded (drop n x) =
    ap encoded (sym (take-append-drop n x)) ∙ encode_of-append standard_no_pad (take n x) (drop n x) (omega (arith, long)) in
    let same : length (encoded (take n x)) ≡ length p = omega (arith, length_encoded (take n x), long, g) in
    let cuts = same_cuts (encoded (take n x)) p (encoded (drop n x)) q same (sym parts ∙ e) in
    let whole : IsBytes (take n x ++ drop n x) = subst IsBytes (sym (take-append-drop n x)) h in
    record {
      early = take n x;
      late = drop n x;
      whole = take-append-drop n x;
      early_bytes = front_bytes (take n x) (drop n x) whole;
      late_bytes = back_bytes (take n x) (drop n x) whole;
      front_is = cuts.0;
      following_is = cuts.1;
    }

-- what was decoded of a text, and the letters that wait, before the rest
pub record IsUnderWay (text out found rest : List ℕ) : Type 0 where
  pub are_bytes : IsBytes out
  pub thirds : length out % 3 ≡ 0
  pub parts : letters text ≡ encoded out ++ (found ++ filter is_letter rest)

-- letters of a block are gathered
pub block_gathered : (text out found found1 rest front following : List ℕ) → IsUnderWay text out found rest → rest ≡ front ++ following → found1 ≡ found ++ filter is_letter front → IsUnderWay text out found1 following
block_gathered text out found found1 rest front following h e f = record {
  are_bytes = h.are_bytes;
  thirds = h.thirds;
  parts =
      h.parts
      ∙ ap (λ xs. encoded out ++ xs) (ap (λ xs. found ++ filter is_letter xs) e
      ∙ (ap (λ xs. found ++ xs) (filter-append is_letter front following)
      ∙ (sym (append_assoc found (filter is_letter front) (filter is_letter following)) ∙ ap (λ xs. xs ++ filter is_letter following) (sym f))));
}

-- whole groups of them are decoded
pub block_decoded : (text out out1 found found1 rest : List ℕ) → IsUnderWay text out found rest → HasDecoded out found out1 found1 → length out1 % 3 ≡ 0 → IsUnderWay text out1 found1 rest
block_decoded text out out1 found found1 rest h d t = record {
  are_bytes = subst IsBytes (sym d.text) (both_bytes out d.bytes h.are_bytes d.are_bytes);
  thirds = t;
  parts =
      h.parts
      ∙ (ap (λ xs. encoded out ++ (xs ++ filter is_letter rest)) d.letters
      ∙ (ap (λ xs. encoded out ++ xs) (append_assoc (encoded d.bytes) found1 (filter is_letter rest))
      ∙ (sym (append_assoc (encoded out) (encoded d.bytes) (found1 ++ filter is_letter rest))
      ∙ ap (λ xs. xs ++ (found1 ++ filter is_letter rest)) (sym (encode_of-append standard_no_pad out d.bytes h.thirds) ∙ ap encoded (sym d.text)))));
}

-- the last letters are decoded
pub all_decoded : (text out out1 found rest : List ℕ) → IsUnderWay text out found rest → rest ≡ [] → HasDecoded out found out1 [] → IsBase64Of text out1
all_decoded text out out1 found rest h n d = (
  subst IsBytes (sym d.text) (both_bytes out d.bytes h.are_bytes d.are_bytes),
  h.parts
      ∙ (ap (λ xs. encoded out ++ (found ++ filter is_letter xs)) n
      ∙ (ap (λ xs. encoded out ++ xs) (append-nil found ∙ (d.letters ∙ append-nil (encoded d.bytes)))
      ∙ (sym (encode_of-append standard_no_pad out d.bytes h.thirds) ∙ ap encoded (sym d.text)))),
)

-- letters that are the encoding of no bytes
after_decoded : (text out found rest x : List ℕ) → IsUnderWay text out found rest → IsBase64Of text x → IsSplit x (encoded out) (found ++ filter is_letter rest)
after_decoded text out found rest x h b =
    split_encoded x (encoded out) (found ++ filter is_letter rest) b.0 (sym b.1 ∙ h.parts) (omega (arith, length_encoded out, h.thirds))

bad_groups : (text out found rest : List ℕ) → IsUnderWay text out found rest → HasBadGroups found → (x : List ℕ) → ¬ IsBase64Of text x
bad_groups text out found rest h bad x b =
    let later = after_decoded text out found rest x h b in
    let parts : encoded later.late ≡ bad.front ++ (bad.following ++ filter is_letter rest) =
    later.following_is ∙ (ap (λ xs. xs ++ filter is_letter rest) bad.parts ∙ append_assoc bad.front bad.following (filter is_letter rest)) in
    let there = split_encoded later.late bad.front (bad.following ++ filter is_letter rest) later.late_bytes parts bad.grouped in
    bad.none there.early there.early_bytes (sym there.front_is)

bad_end : (text out found rest : List ℕ) → IsUnderWay text out found rest → rest ≡ [] → EncodesNothing found → (x : List ℕ) → ¬ IsBase64Of text x
bad_end text out found rest h n none x b =
    let later = after_decoded text out found rest x h b in
    none later.late later.late_bytes (sym (later.following_is ∙ (ap (λ xs. found ++ filter is_letter xs) n ∙ append-nil found)))

pub groups_thirds : (out found front out1 : List ℕ) (whole : ℕ) → length out % 3 ≡ 0 → whole ≡ length found / 4 * 4 → front ≡ take whole found → HasDecoded out front out1 [] → length out1 % 3 ≡ 0
groups_thirds out found front out1 whole t w f d =
    let long : length front ≡ whole = ap length f ∙ length-take-le whole found (omega (arith, w)) in
    let same : length front ≡ (4 * length d.bytes + 2) / 3 = ap length (d.letters ∙ append-nil (encoded d.bytes)) ∙ length_encoded d.bytes in
    let all : length out1 ≡ length out + length d.bytes = ap length d.text ∙ length-append out d.bytes in
    omega arith

groups_bad : (found front : List ℕ) (whole : ℕ) → whole ≡ length found / 4 * 4 → front ≡ take whole found → EncodesNothing front → HasBadGroups found
groups_bad found front whole w f none = record {
  front = front;
  following = drop whole found;
  parts = sym (take-append-drop whole found) ∙ ap (λ xs. xs ++ drop whole found) (sym f);
  grouped = omega (arith, w, ap length f, length-take-le whole found (omega (arith, w)));
  none = none;
}

pub ungrouped : (found front : List ℕ) (whole : ℕ) (e : CodeError) → whole ≡ length found / 4 * 4 → front ≡ take whole found → EncodesNone front e → IsUngrouped found e
ungrouped found front whole BadBase64 w f h = groups_bad found front whole w f h
ungrouped found front whole UnknownEncoding w f h = absurd h
ungrouped found front whole Memory w f h = tt

-- the reasons not to decode a text
pub refused_groups : (text out found rest : List ℕ) (e : CodeError) → IsUnderWay text out found rest → IsUngrouped found e → IsRefused Base64 text e
refused_groups text out found rest BadBase64 h bad = (refl, bad_groups text out found rest h bad)
refused_groups text out found rest UnknownEncoding h bad = absurd bad
refused_groups text out found rest Memory h bad = tt

pub refused_end : (text out found rest : List ℕ) (e : CodeError) → IsUnderWay text out found rest → rest ≡ [] → EncodesNone found e → IsRefused Base64 text e
refused_end text out found rest BadBase64 h n bad = (refl, bad_end text out found rest h n bad)
refused_end text out found rest UnknownEncoding h n bad = absurd bad
refused_end text out found rest Memory h n bad = tt

-- nothing was decoded yet
pub not_begun : (text out found rest : List ℕ) → out ≡ [] → found ≡ [] → filter is_letter rest ≡ letters text → IsUnderWay text out found rest
unfolding encode_symbols
not_begun text out found rest o f l = record {
  are_bytes = subst IsBytes (sym o) (λ i. omega arith);
  thirds = ap (λ xs. length xs % 3) o;
  parts = sym l ∙ (λ i. encoded (sym o i) ++ (sym f i ++ filter is_letter rest));
}

-- a text cut in two
pub cut_in_two : (text front following : List ℕ) (n : ℕ) → front ≡ take n text → following ≡ drop n text → text ≡ front ++ following
cut_in_two text front following n e f = sym (take-append-drop n text) ∙ (λ i. sym e i ++ sym f i)

pub emptied : (text : List ℕ) (t : Bool) → t ≡ (length text == 0) → t ≡ true → text ≡ []
emptied text t e h = nil_from_length text (eqb-true (length text) 0 (sym e ∙ h))
