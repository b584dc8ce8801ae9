-- What a reader in memory says of the definitions.
use Rattle.std.specs.Prelude.{◌≡◌, ◌++◌, ℕ, Result, Ok, Err, List, length, map}
use Rattle.std.specs.Borrow.{Bor}
use Rattle.mk_splice.specs.declared.reading.Stop.{Stop}
use Rattle.mk_splice.specs.declared.reading.Stop.TheVariants.{At, Memory}
use Rattle.mk_splice.specs.declared.reading.Version.{Version}
use Rattle.mk_splice.specs.declared.journals.Front.{Front}
use Rattle.mk_splice.specs.Readers.{named, read_times}
use Rattle.mk_splice.specs.Grammar.{number_of}
use Rattle.mk_splice.specs.Journals.{digest_meant, saturated}

-- the bytes that are left where no spelling goes on are told; out of memory tells nothing
abbrev pub StopsAt : {A : Type 0} → Stop → Result (A × List ℕ) (List ℕ) → Type 0
StopsAt (At left) read = (rest : List ℕ) × (read ≡ Err rest) × (length rest ≡ left)
StopsAt Memory read = Unit {0}

-- what was read stands for what is to be read, and the same bytes are after it
abbrev pub Gives : {A X : Type 0} → (A → X → Type 0) → Result (X × Bor (List ℕ)) Stop → Result (A × List ℕ) (List ℕ) → Type 0
Gives {A = A} Means (Ok p) read = (a : A) × (read ≡ Ok (a, p.1.now)) × Means a p.0
Gives Means (Err e) read = StopsAt e read

-- the same where no value is told
abbrev pub Passes : {A : Type 0} → Result (Bor (List ℕ)) Stop → Result (A × List ℕ) (List ℕ) → Type 0
Passes {A = A} (Ok rest) read = (a : A) × (read ≡ Ok (a, rest.now))
Passes (Err e) read = StopsAt e read

-- so many readings of a list are left, and the values so far stand for those in memory
pub record SoFar (A X M : Type 0) (f : X → M) (g : A → M) (r : List ℕ → Result (A × List ℕ) (List ℕ)) (total : ℕ) (bytes : List ℕ) (left : ℕ) (rest : List ℕ) (xs : List X) : Type 0 where
  pub values : List A
  pub same : map f xs ≡ map g values
  pub read : read_times total r bytes ≡ named (λ ys. values ++ ys) (read_times left r rest)

-- what stands before a journal's steps, in memory
pub record IsFront (p : ((((List ℕ × Version) × ℕ) × List ℕ) × List ℕ) × List ℕ) (front : Front) : Type 0 where
  pub version : front.version ≡ p.0.0.0.0.1
  pub digest : front.digest ≡ digest_meant p.0.0.0.0.1 p.0.0.1
  pub done : front.done ≡ saturated (number_of p.0.1)
  pub undone : front.undone ≡ saturated (number_of p.1)
