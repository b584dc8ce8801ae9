-- Journals as they are printed, in version 2 (own).
use Rattle.std.specs.Prelude.{◌-◌, ◌^◌, ◌<◌, ◌++◌, ℕ, List, [], ◌∷◌, length, codes, decimal}
use Rattle.std.specs.List.{AllByRecursion, flat_map}
use Rattle.mk_splice.specs.Splices.{Splice}

-- a number and the byte after it
abbrev pub printed_number : ℕ → ℕ → List ℕ
printed_number n e = decimal n ++ e ∷ []

-- an entry
abbrev pub printed_entry : Splice → List ℕ
printed_entry s = printed_number s.place 32 ++ (printed_number (length s.old) 32 ++ (printed_number (length s.new) 10 ++ (s.old ++ (s.new ++ 10 ∷ []))))

-- a step: how many entries it has, and these
abbrev pub printed_step : List Splice → List ℕ
printed_step ss = printed_number (length ss) 10 ++ flat_map printed_entry ss

-- the journal of a digest and steps, of which so many are done
abbrev pub printed : List ℕ → List (List Splice) → ℕ → List ℕ
printed digest ss done =
    (codes "mimejournal 2\n" ++ (digest ++ (10 ∷ [] ++ (printed_number done 32 ++ printed_number (length ss - done) 10)))) ++ flat_map printed_step ss

-- a splice whose numbers 64 bits hold
pub record IsSmall (s : Splice) : Type 0 where
  pub place : s.place < 2 ^ 64
  pub old : length s.old < 2 ^ 64
  pub new : length s.new < 2 ^ 64

-- all numbers that are printed are held by 64 bits: how many steps there are, how many splices each has, and those of these
abbrev pub AreSmall : List (List Splice) → Type 0
AreSmall ss = (length ss < 2 ^ 64) × AllByRecursion (λ step. (length step < 2 ^ 64) × AllByRecursion IsSmall step) ss
