-- What follows of a result.
use Rattle.std.specs.Prelude.{Result, Ok, Err}

-- what is made of a value; an error stays
abbrev pub made_of : {A B E : Type 0} → (A → Result B E) → Result A E → Result B E
made_of f (Ok x) = f x
made_of f (Err e) = Err e
