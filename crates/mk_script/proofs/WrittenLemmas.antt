-- Paths, as they are written.
use Rattle.std.proofs.Common.{◌≡◌, ◌<◌, ◌≤◌, ◌^◌, if◌then◌else◌, ℕ, true, nat_le, List, [], ◌∷◌, length, map, Some, None, Option, decimal, refl, sym, ap, ◌∙◌, subst, inl, inr, arith}
use Rattle.std.proofs.lemmas.Bool.{cases_Bool, le-leb, leb-true}
use Rattle.std.specs.List.{AllByRecursion, join_with_byte}
use Rattle.std.specs.Option.{option_map, option_and_then}
use Rattle.std.specs.Char.{digit_value}
use Rattle.mk_script.specs.Paths.{max_components, number_of, read_each, path_of}
use Rattle.mk_script.specs.inner.Numbers.{pieces_of}
use Rattle.mk_line.specs.Ascii.{full_stop}
use Rattle.mk_script.specs.Written.{IsPath, written_path}
use Rattle.mk_script.proofs.NumberLemmas.{some_same, none_some, number_of-decimal, number_of-written, decimal_digits}
use Rattle.mk_script.proofs.PieceLemmas.{AllHoldNo, HoldsNo-digits, pieces_of-join, join-pieces_of, pieces_of-some, HasFirst}

-- numbers from 1 on that fit 32 bits
abbrev AreComponents : List ℕ → Type 0
AreComponents numbers = AllByRecursion (λ number. (0 < number) × (number < 2 ^ 32)) numbers

numbers_of-with : (piece : List ℕ) (pieces : List (List ℕ)) (numbers : List ℕ) (first : Option ℕ) (others : Option (List ℕ))
    → number_of piece ≡ first → ((ns : List ℕ) → others ≡ Some ns → AreComponents ns × (pieces ≡ map decimal ns))
    → option_and_then (λ n. option_map (λ ns. n ∷ ns) others) first ≡ Some numbers → AreComponents numbers × (piece ∷ pieces ≡ map decimal numbers)
numbers_of-with piece pieces numbers None others f rest e = absurd (none_some e)
numbers_of-with piece pieces numbers (Some n) None f rest e = absurd (none_some e)
numbers_of-with piece pieces numbers (Some n) (Some ns) f rest e =
    let same : n ∷ ns ≡ numbers = some_same e in
    let one = number_of-decimal piece n f in
    let more = rest ns refl in
    subst (λ all. AreComponents all × (piece ∷ pieces ≡ map decimal all)) same (((one.0, one.1), more.0), ap (λ p. p ∷ pieces) one.2 ∙ ap (λ ps. decimal n ∷ ps) more.1)

-- texts that are numbers are these numbers as they are written
numbers_of-decimal : (pieces : List (List ℕ)) (numbers : List ℕ) → read_each number_of pieces ≡ Some numbers → AreComponents numbers × (pieces ≡ map decimal numbers)
numbers_of-decimal [] numbers e =
    let none : [] ≡ numbers = some_same e in
    subst (λ all. AreComponents all × ([] ≡ map decimal all)) none (tt, refl)
numbers_of-decimal (piece ∷ pieces) numbers e =
    numbers_of-with piece pieces numbers (number_of piece) (read_each number_of pieces) refl (λ ns. numbers_of-decimal pieces ns) e

numbers_of-written : (numbers : List ℕ) → AreComponents numbers → read_each number_of (map decimal numbers) ≡ Some numbers
numbers_of-written [] h = refl
numbers_of-written (n ∷ ns) h = rw (number_of-written n h.0.0 h.0.1, numbers_of-written ns h.1) refl

pub decimals_hold : (separator : ℕ) (numbers : List ℕ) → 10 ≤ digit_value separator → AreComponents numbers → AllHoldNo separator (map decimal numbers)
decimals_hold separator [] low h = tt
decimals_hold separator (n ∷ ns) low h = (HoldsNo-digits separator (decimal n) low (decimal_digits n h.0.1), decimals_hold separator ns low h.1)

-- ---- paths

has_some : (numbers : List ℕ) → HasFirst (map decimal numbers) → 0 < length numbers
has_some [] h = absurd h
has_some (n ∷ ns) h = omega arith

path_of-numbers : (text path : List ℕ) (numbers : Option (List ℕ)) → read_each number_of (pieces_of full_stop text) ≡ numbers → option_and_then (λ ns. if nat_le (length ns) max_components then Some ns else None) numbers ≡ Some path
    → IsPath path × (text ≡ written_path path)
path_of-numbers text path None n e = absurd (none_some e)
path_of-numbers text path (Some ns) n e = elim (cases_Bool (nat_le (length ns) max_components)) [
  | inr f ↦ absurd (none_some (rw f at e))
  | inl t ↦
      let same : ns ≡ path = some_same (rw t at e) in
      let read = numbers_of-decimal (pieces_of full_stop text) ns n in
      let some : HasFirst (map decimal ns) = subst HasFirst read.1 (pieces_of-some full_stop text) in
      let is : text ≡ written_path ns = sym (join-pieces_of full_stop text) ∙ ap (join_with_byte full_stop) read.1 in
      subst (λ all. IsPath all × (text ≡ written_path all)) same (record { some = has_some ns some; short = leb-true _ _ t; fit = read.0 }, is)
]

pub path_of-decimal : (text path : List ℕ) → path_of text ≡ Some path → IsPath path × (text ≡ written_path path)
path_of-decimal text path e = path_of-numbers text path (read_each number_of (pieces_of full_stop text)) refl e

pub path_of-written : (path : List ℕ) → IsPath path → path_of (written_path path) ≡ Some path
path_of-written [] h = absurd (let bad : 0 < 0 = h.some in omega arith)
path_of-written (n ∷ ns) h =
    let pieces = pieces_of-join full_stop (decimal n) (map decimal ns) (decimals_hold full_stop (n ∷ ns) (omega arith) h.fit) in
    let short : nat_le (length (n ∷ ns)) max_components ≡ true = le-leb _ _ h.short in
    rw (pieces, numbers_of-written (n ∷ ns) h.fit, short) refl
