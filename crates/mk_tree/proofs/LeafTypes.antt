-- Content types that say a leaf, by their first byte.
use Rattle.std.specs.List.{onto_first}
use Rattle.std.proofs.Common.{◌≡◌, ◌==◌, ◌&&◌, ℕ, Bool, true, false, not, Option, None, Some, List, [], ◌∷◌, refl, sym, subst, inl, inr, codes}
use Rattle.std.proofs.lemmas.Bool.{cases_Bool, and_parts, eqb-true}
use Rattle.std.specs.Char.{to_ascii_lowercase}
use Rattle.std.specs.Str.{bytes_eq}
use Rattle.mk_line.specs.Ascii.{is_blank, opening, semicolon, slash}
use Rattle.mk_line.specs.Marks.{trimmed, trimmed_before}
use Rattle.mk_line.specs.Parting.{before, following}
use Rattle.mk_head.specs.declared.encodings.Encoding.{Encoding}
use Rattle.mk_head.specs.Values.{MediaType, Scan, Plain, scan, content_type_of, is_kept, is_token, lowered, parameters, pieces, stripped, typed_as, type_of_pieces, uncommented, unled}
use Rattle.mk_head.specs.Depths.{first_piece, other_pieces}
use Rattle.mk_head.proofs.Parts.{pieces_parts}
use Rattle.mk_tree.specs.Kinds.{Leaf, kind_of}
use Rattle.mk_tree.specs.inner.Said.{begins_leaf}

-- neither of the two types that hold others
abbrev pub IsOther : List ℕ → Type 0
IsOther main = (bytes_eq main (codes "multipart") ≡ false) × (bytes_eq main (codes "message") ≡ false)

other_kind : (t : MediaType) (e : Encoding) → IsOther t.main → kind_of t e ≡ Leaf
other_kind t e h = rw (h.0, h.1) refl

not_true : (t : Bool) → not t ≡ true → t ≡ false
not_true true h = cc
not_true false h = refl

other_main : (b : ℕ) (main : List ℕ) → (to_ascii_lowercase b == 109) ≡ false → IsOther (lowered (b ∷ main))
other_main b main h = (rw h refl, rw h refl)

typed_nothing : (sub : Option (List ℕ)) (params : List (List ℕ × List ℕ)) → IsOther (typed_as [] sub params).main
typed_nothing None params = (refl, refl)
typed_nothing (Some sub) params = (refl, refl)

typed_test : (b : ℕ) (main sub : List ℕ) (params : List (List ℕ × List ℕ)) (t : Bool) → (is_token (b ∷ main) && is_token sub) ≡ t → (to_ascii_lowercase b == 109) ≡ false → IsOther (typed_as (b ∷ main) (Some sub) params).main
typed_test b main sub params true k h = rw k (other_main b main h)
typed_test b main sub params false k h = rw k (refl, refl)

typed_word : (b : ℕ) (main : List ℕ) (sub : Option (List ℕ)) (params : List (List ℕ × List ℕ)) → (to_ascii_lowercase b == 109) ≡ false → IsOther (typed_as (b ∷ main) sub params).main
typed_word b main None params h = (refl, refl)
typed_word b main (Some sub) params h = typed_test b main sub params (is_token (b ∷ main) && is_token sub) refl h

typed_other : (b : ℕ) (bs : List ℕ) (params : List (List ℕ × List ℕ)) → (to_ascii_lowercase b == 109) ≡ false → IsOther (typed_as (before slash (b ∷ bs)) (following slash (b ∷ bs)) params).main
typed_other b bs params h =
    elim (cases_Bool (b == slash)) [
      | inl k ↦ rw k (typed_nothing (Some bs) params)
      | inr k ↦ rw k (typed_word b (before slash bs) (following slash bs) params h)
    ]

bare : (b : ℕ) (t : List ℕ) → is_blank b ≡ false → trimmed_before b t ≡ b ∷ t
bare b [] h = rw h refl
bare b (c ∷ t) h = refl

stripped_other : (b : ℕ) (bs : List ℕ) → is_blank b ≡ false → stripped (b ∷ bs) ≡ b ∷ trimmed bs
stripped_other b bs h = rw h (bare b (trimmed bs) h)

piece_other : (b : ℕ) (piece : List ℕ) (others : List (List ℕ)) → is_blank b ≡ false → (to_ascii_lowercase b == 109) ≡ false → IsOther (type_of_pieces ((b ∷ piece) ∷ others)).main
piece_other b piece others h k =
    subst (λ x. IsOther (typed_as (before slash x) (following slash x) (parameters others)).main) (sym (stripped_other b piece h)) (typed_other b (trimmed piece) (parameters others) k)

text_other : (b : ℕ) (bs : List ℕ) → is_blank b ≡ false → (to_ascii_lowercase b == 109) ≡ false → IsOther (type_of_pieces (pieces Plain (b ∷ bs))).main
text_other b bs h k =
    elim (cases_Bool (b == semicolon)) [
      | inl e ↦ rw e (refl, refl)
      | inr e ↦ rw (e, pieces_parts (scan Plain b) bs) (piece_other b (first_piece (scan Plain b) bs) (other_pieces (scan Plain b) bs) h k)
    ]

-- a blank at the start doesn't count
after_blank : (b : ℕ) (u : List ℕ) (ps : List (List ℕ)) → is_blank b ≡ true → type_of_pieces (onto_first b (u ∷ ps)) ≡ type_of_pieces (u ∷ ps)
after_blank b u ps h = rw h refl

blank_pieces : (b : ℕ) (bs : List ℕ) → is_blank b ≡ true → type_of_pieces (onto_first b (pieces Plain bs)) ≡ type_of_pieces (pieces Plain bs)
blank_pieces b bs h = rw (pieces_parts Plain bs) (after_blank b (first_piece Plain bs) (other_pieces Plain bs) h)

blank_type : (b : ℕ) (value : List ℕ) → is_blank b ≡ true → content_type_of (b ∷ value) ≡ content_type_of value
blank_type b value h =
    elim (cases_Bool (b == 32)) [
      | inl e ↦ rw (eqb-true b 32 e) (blank_pieces 32 (uncommented Plain value) refl)
      | inr f ↦ let tab : (b == 9) ≡ true = (rw f at h) in rw (eqb-true b 9 tab) (blank_pieces 9 (uncommented Plain value) refl)
    ]

kept : (s : Scan) (b : ℕ) (bs : List ℕ) → is_kept s b ≡ true → uncommented s (b ∷ bs) ≡ b ∷ uncommented (scan s b) bs
kept s b bs h = rw h refl

started_type : (b : ℕ) (value : List ℕ) → is_blank b ≡ false → begins_leaf (b ∷ value) ≡ true → IsOther (content_type_of (b ∷ value)).main
started_type b value h k =
    let parts = and_parts (not (b == opening)) (not (to_ascii_lowercase b == 109)) k in
    subst (λ t. IsOther (type_of_pieces (pieces Plain t)).main) (sym (kept Plain b value parts.0)) (text_other b (uncommented (scan Plain b) value) h (not_true (to_ascii_lowercase b == 109) parts.1))

value_other : (value : List ℕ) → begins_leaf (unled value) ≡ true → IsOther (content_type_of value).main
value_other [] h = (refl, refl)
value_other (b ∷ value) h =
    elim (cases_Bool (is_blank b)) [
      | inl k ↦ subst (λ t. IsOther t.main) (sym (blank_type b value k)) (value_other value (rw k at h))
      | inr k ↦ started_type b value k (rw k at h)
    ]

pub leaf_type : (value : List ℕ) (e : Encoding) → begins_leaf (unled value) ≡ true → kind_of (content_type_of value) e ≡ Leaf
leaf_type value e h = other_kind (content_type_of value) e (value_other value h)
