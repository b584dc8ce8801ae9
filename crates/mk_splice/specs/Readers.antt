-- Readers of a text's front, and the spelling of what they read (own).
use Rattle.std.specs.Prelude.{◌≡◌, ◌≤◌, ◌<◌, ◌-◌, ◌==◌, ◌++◌, nat_lt, if◌then◌else◌, ℕ, zero, suc, Bool, Result, Ok, Err, List, [], ◌∷◌, length, take, drop}

-- a reader gives a value and the bytes after it, or the bytes that are left where no spelling goes on
abbrev pub named : {A B : Type 0} → (A → B) → Result (A × List ℕ) (List ℕ) → Result (B × List ℕ) (List ℕ)
named f (Ok p) = Ok (f p.0, p.1)
named f (Err rest) = Err rest

-- a reader, and one of what follows, which may depend on what was read
abbrev pub and_then : {A B : Type 0} → Result (A × List ℕ) (List ℕ) → (A → List ℕ → Result (B × List ℕ) (List ℕ)) → Result ((A × B) × List ℕ) (List ℕ)
and_then (Ok p) q = named (λ y. (p.0, y)) (q p.0 p.1)
and_then (Err rest) q = Err rest

-- the same reader n times
abbrev pub read_times : {A : Type 0} → ℕ → (List ℕ → Result (A × List ℕ) (List ℕ)) → List ℕ → Result (List A × List ℕ) (List ℕ)
read_times zero r b = Ok ([], b)
read_times (suc n) r b = named (λ p. p.0 ∷ p.1) (and_then (r b) (λ x. read_times n r))

-- n good values
abbrev pub AllGood : {A : Type 0} → (A → Type 0) → ℕ → List A → Type 0
AllGood G zero [] = Unit {0}
AllGood G zero (x ∷ xs) = ⊥
AllGood G (suc n) [] = ⊥
AllGood G (suc n) (x ∷ xs) = G x × AllGood G n xs

-- a byte that passes a test
abbrev pub read_byte : (ℕ → Bool) → List ℕ → Result (ℕ × List ℕ) (List ℕ)
read_byte t [] = Err []
read_byte t (c ∷ cs) = if t c then Ok (c, cs) else Err (c ∷ cs)

-- n bytes
abbrev pub read_run : ℕ → List ℕ → Result (List ℕ × List ℕ) (List ℕ)
read_run n b = if nat_lt (length b) n then Err [] else Ok (take n b, drop n b)

-- a text that is given
abbrev pub read_text : List ℕ → List ℕ → Result (List ℕ × List ℕ) (List ℕ)
read_text [] b = Ok ([], b)
read_text (w ∷ ws) b = named (λ p. p.0 ∷ p.1) (and_then (read_byte (λ c. c == w) b) (λ c. read_text ws))

-- where a whole file is read: its value, or how long its longest front is with which some spelling begins
abbrev pub whole : {A : Type 0} → ℕ → Result (A × List ℕ) (List ℕ) → Result A ℕ
whole n (Ok (x, [])) = Ok x
whole n (Ok (x, c ∷ cs)) = Err (n - length (c ∷ cs))
whole n (Err rest) = Err (n - length rest)

-- some spelling begins with the front of n bytes of the file
abbrev pub BeginsSo : (A : Type 0) → (A → Type 0) → (A → List ℕ) → List ℕ → ℕ → Type 0
BeginsSo A Good spell file n = (x : A) × (z : List ℕ) × Good x × (spell x ≡ take n file ++ z)

-- a file isn't spelled, and the front of n bytes is its longest with which some spelling begins
pub record LongestAt (A : Type 0) (Good : A → Type 0) (spell : A → List ℕ) (file : List ℕ) (n : ℕ) : Type 0 where
  pub within : n ≤ length file
  pub begins : BeginsSo A Good spell file n
  pub longest : (m : ℕ) → n < m → m ≤ length file → BeginsSo A Good spell file m → ⊥
  pub none : (x : A) → Good x → spell x ≡ file → ⊥
