-- What stands in a folder, and what putting a file there does to it (own).
use Rattle.std.specs.Prelude.{◌≡◌, ◌⊎◌, ◌++◌, if◌then◌else◌, ℕ, Bool, true, false, is_some, ⊤, List, Option, None, Some, Result, Ok, Err}
use Rattle.std.specs.Str.{bytes_eq}
use Rattle.mk_transfer.specs.declared.transfer.Stop.{Stop}

-- the text that stands under each name, where there is a file of that name
abbrev pub Files : Type 0
Files = List ℕ → Option (List ℕ)

-- no file has the name
abbrev pub IsFree : Option Files → List ℕ → Type 0
IsFree None name = ⊤
IsFree (Some files) name = files name ≡ None

-- a file has the name
abbrev pub IsThere : Option Files → List ℕ → Type 0
IsThere None name = ⊤
IsThere (Some files) name = is_some (files name) ≡ true

-- a text may be put under a name: no file has it, unless files may be written over
abbrev pub MayPut : Bool → Option Files → List ℕ → Type 0
MayPut true old name = ⊤
MayPut false old name = IsFree old name

-- the text stands under the name, and under each other name what stood there
abbrev pub Gets : Option Files → Option Files → List ℕ → List ℕ → Type 0
Gets None new name text = ⊤
Gets (Some old) None name text = ⊥
Gets (Some old) (Some new) name text = (other : List ℕ) → new other ≡ (if bytes_eq name other then Some text else old other)

-- a front of the text stands under the name, which no file had
pub record GetsFront (old new : Option Files) (name text : List ℕ) : Type 0 where
  pub free : IsFree old name
  pub front : List ℕ
  pub rest : List ℕ
  pub text_is : text ≡ front ++ rest
  pub gets : Gets old new name front

-- the text was put under the name; or a file has the name already, and none may be written over; or the folder failed, or
-- memory ran out, and each file that there was stands whole
abbrev pub Puts : Result Bool Stop → Bool → Option Files → Option Files → List ℕ → List ℕ → Type 0
Puts (Ok true) over old new name text = MayPut over old name × Gets old new name text
Puts (Ok false) over old new name text = (over ≡ false) × IsThere old name × (new ≡ old)
Puts (Err stop) over old new name text = (new ≡ old) ⊎ GetsFront old new name text
