-- What `--encode` leaves of structured values (RFC 2047, 5).
use Rattle.std.specs.Prelude.{◌≡◌, ℕ, List, unwrap_or}
use Rattle.std.specs.List.{flat_map}
use Rattle.mk_line.specs.declared.cutting.Ending.{Ending}
use Rattle.mk_wording.specs.Parameters.{worded_parameter}
use Rattle.mk_wording.specs.Stretches.{worded_comment, worded_name}

-- a part of a structured value: a name, what a comment holds, a parameter, or other bytes
pub data Part : Type 0 where
  Name : (bytes : List ℕ) → Part
  Inside : (bytes : List ℕ) → Part
  Parameter : (bytes : List ℕ) → Part
  Other : (bytes : List ℕ) → Part

-- its bytes
abbrev pub bytes_of : Part → List ℕ
bytes_of (Name bytes) = bytes
bytes_of (Inside bytes) = bytes
bytes_of (Parameter bytes) = bytes
bytes_of (Other bytes) = bytes

-- its bytes as they are written: other bytes stay
abbrev pub written_as : Ending → Part → List ℕ
written_as eol (Name bytes) = worded_name eol bytes
written_as eol (Inside bytes) = worded_comment eol bytes
written_as eol (Parameter bytes) = unwrap_or (worded_parameter bytes) bytes
written_as eol (Other bytes) = bytes

-- a value, and the same value with its names, comments and parameters written: all other bytes stay
pub record IsWordedAs (eol : Ending) (value made : List ℕ) : Type 0 where
  pub parts : List Part
  pub was : value ≡ flat_map bytes_of parts
  pub is : made ≡ flat_map (written_as eol) parts
