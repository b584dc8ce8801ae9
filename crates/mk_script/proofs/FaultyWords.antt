-- What is wrong with a word of a line that says nothing.
use Rattle.std.proofs.Common.{◌≡◌, ◌==◌, if◌then◌else◌, ℕ, Bool, true, false, List, [], ◌∷◌, Option, None, Some, codes, length, ap, refl, inl, inr}
use Rattle.std.proofs.lemmas.Bool.{cases_Bool}
use Rattle.std.specs.Option.{option_map_or}
use Rattle.std.specs.Str.{bytes_eq}
use Rattle.mk_line.specs.Lines.{is_nil}
use Rattle.mk_line.specs.Parting.{before, following}
use Rattle.mk_script.specs.declared.reasons.Argument.TheVariants as takes
use Rattle.mk_script.specs.declared.reasons.LineFault.TheVariants.{UnknownWord}
use Rattle.mk_script.specs.Reasons.{arguments_fault, arguments_of, given_fault}
use Rattle.mk_script.specs.Script.{past_charset}

-- a text without a mark stands before it
pub before_whole : (mark : ℕ) (text : List ℕ) → following mark text ≡ None → text ≡ before mark text
before_whole mark [] h = refl
before_whole mark (byte ∷ bytes) h = elim (cases_Bool (byte == mark)) [
  | inl y ↦ absurd (let no : ◌≡◌ {A = Option (List ℕ)} (Some bytes) None = rw y at h in cc)
  | inr n ↦ rw n (ap (λ xs. byte ∷ xs) (before_whole mark bytes (rw n at h)))
]

pub some_name : (name : List ℕ) (b : Bool) → b ≡ (length name == 0) → b ≡ false → is_nil name ≡ false
some_name [] b e f = absurd (cc)
some_name (byte ∷ bytes) b e f = refl

-- a charset, a path and a piece
pub given_more : (name rest more : List ℕ) → is_nil name ≡ false → (if bytes_eq name (codes "content") then past_charset rest else None) ≡ Some more
    → given_fault name rest ≡ arguments_fault (takes.Name ∷ takes.Path ∷ takes.Piece ∷ []) more
given_more name rest more n s =
    rw n (ap (λ o. option_map_or (arguments_fault (takes.Name ∷ takes.Path ∷ takes.Piece ∷ [])) o (option_map_or (λ arguments. arguments_fault arguments rest) (arguments_of name) UnknownWord)) s)
