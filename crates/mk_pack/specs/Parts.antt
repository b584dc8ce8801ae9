-- The files that are packed, as the command line names them: TYPE:FILE (own).
use Rattle.std.specs.Prelude.{◌==◌, if◌then◌else◌, ℕ, Bool, false, not, Option, None, Some, List, [], ◌∷◌, codes}
use Rattle.std.specs.List.{slice_split}
use Rattle.std.specs.Option.{option_map, option_map_or}
use Rattle.std.specs.Str.{bytes_eq}
use Rattle.mk_line.specs.Ascii.{colon, slash}
use Rattle.mk_head.specs.Values.{lowered}
use Rattle.mk_build.specs.Building.{Attached}
use Rattle.mk_script.specs.Paths.{parted}
use Rattle.mk_pack.specs.declared.parts.Spec as declared

-- a media type, and the path of a file
pub record Spec : Type 0 where
  pub media : List ℕ
  pub path : List ℕ

-- a word is cut at its first colon
abbrev pub spec_of : List ℕ → Option Spec
spec_of word = option_map (λ p. record { media = p.0; path = p.1 }) (parted colon word)

-- the last of some texts
abbrev pub last_of : List (List ℕ) → List ℕ
last_of [] = []
last_of (x ∷ []) = x
last_of (x ∷ y ∷ ys) = last_of (y ∷ ys)

-- the name of a file is what follows the last slash of its path
abbrev pub file_name : List ℕ → List ℕ
file_name path = last_of (slice_split (λ byte. byte == slash) path)

-- a media type of texts, in any case: `text` before a slash (RFC 2046, 4.1)
abbrev pub is_text : List ℕ → Bool
is_text media = option_map_or (λ p. bytes_eq (lowered p.0) (codes "text")) (parted slash media) false

-- a file that holds these bytes as a part: under its name, texts as quoted-printable and all else as base64
abbrev pub attached_file : Spec → List ℕ → Attached
attached_file spec text = record { media = spec.media; name = Some (file_name spec.path); said = None; text = text; base64 = not (is_text spec.media) }

-- the same, to be shown where it is a text: a text has no name, and so no disposition (own)
abbrev pub inlined_file : Spec → List ℕ → Attached
inlined_file spec text = record { media = spec.media; name = if is_text spec.media then None else Some (file_name spec.path); said = None; text = text; base64 = not (is_text spec.media) }

-- what is in memory
abbrev pub spec_view : declared.Spec → Spec
spec_view s = record { media = s.media.now; path = s.path.now }
