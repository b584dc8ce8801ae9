-- A history: whole texts, the step between each two neighbours, and the place of the text that stands now.
use Rattle.std.specs.Prelude.{ℕ, List, [], ◌∷◌, take}
use Rattle.mk_splice.specs.Splices.{Splice, forth_step}
use Rattle.mk_splice.specs.Fits.{back_all}

-- the texts from the first on, the steps that lead from each to the next, and at which text the history stands, counted from 0
pub record History : Type 0 where
  pub texts : List (List ℕ)
  pub steps : List (List Splice)
  pub place : ℕ

-- the texts that steps give, one after another
abbrev pub texts_after : List ℕ → List (List Splice) → List (List ℕ)
texts_after x [] = []
texts_after x (s ∷ ss) = forth_step s x ∷ texts_after (forth_step s x) ss

-- the history of a text and steps of which so many are done
abbrev pub history_of : List ℕ → List (List Splice) → ℕ → History
history_of x ss done = let first = back_all (take done ss) x in record { texts = first ∷ texts_after first ss; steps = ss; place = done }
