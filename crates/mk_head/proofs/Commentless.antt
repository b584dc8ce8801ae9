-- A value without an opening parenthesis has no comment.
use Rattle.std.proofs.Common.{◌≡◌, ◌==◌, ℕ, false, List, [], ◌∷◌, refl, ap, inl, inr, None}
use Rattle.std.proofs.lemmas.Bool.{cases_Bool, or_parts}
use Rattle.memchr.specs.Find.{IsFirstByte, is_byte}
use Rattle.mk_line.specs.Parting.{has_byte}
use Rattle.mk_line.proofs.FirstBytes.{split_unfound}
use Rattle.mk_head.specs.Values.{Scan, Plain, Quoted, QuotedEscaped, Comment, CommentEscaped, uncommented}

-- outside comments
abbrev Outside : Scan → Type 0
Outside Plain = Unit {0}
Outside Quoted = Unit {0}
Outside QuotedEscaped = Unit {0}
Outside (Comment depth) = ⊥
Outside (CommentEscaped depth) = ⊥

kept : (s : Scan) (bytes : List ℕ) → Outside s → has_byte 40 bytes ≡ false → uncommented s bytes ≡ bytes
kept s [] o h = refl
kept Plain (x ∷ xs) o h =
    let both = or_parts (x == 40) (has_byte 40 xs) h in
    elim (cases_Bool (x == 34)) [
      | inl q ↦ rw (both.0, q) (ap (λ ys. x ∷ ys) (kept Quoted xs tt both.1))
      | inr n ↦ rw (both.0, n) (ap (λ ys. x ∷ ys) (kept Plain xs tt both.1))
    ]
kept Quoted (x ∷ xs) o h =
    let both = or_parts (x == 40) (has_byte 40 xs) h in
    elim (cases_Bool (x == 92)) [
      | inl b ↦ rw b (ap (λ ys. x ∷ ys) (kept QuotedEscaped xs tt both.1))
      | inr c ↦ elim (cases_Bool (x == 34)) [
        | inl q ↦ rw (c, q) (ap (λ ys. x ∷ ys) (kept Plain xs tt both.1))
        | inr n ↦ rw (c, n) (ap (λ ys. x ∷ ys) (kept Quoted xs tt both.1))
      ]
    ]
kept QuotedEscaped (x ∷ xs) o h =
    let both = or_parts (x == 40) (has_byte 40 xs) h in
    ap (λ ys. x ∷ ys) (kept Quoted xs tt both.1)
kept (Comment depth) (x ∷ xs) o h = absurd o
kept (CommentEscaped depth) (x ∷ xs) o h = absurd o

-- what a search for an opening parenthesis says
pub all_kept : (value : List ℕ) → IsFirstByte (is_byte 40) value None → uncommented Plain value ≡ value
all_kept value h = kept Plain value tt (split_unfound 40 value h)
