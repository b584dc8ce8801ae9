-- What `extract` gives of a section: its content, or another portion of it (own).
use Rattle.std.specs.Prelude.{◌≡◌, ◌≢◌, ◌⊎◌, ◌++◌, if◌then◌else◌, ℕ, false, List, [], ◌∷◌, Option, None, Some, codes, map}
use Rattle.std.specs.Option.{option_map, option_map_or}
use Rattle.mk_line.specs.Ascii.{line_feed, underscore}
use Rattle.mk_head.specs.Values.{is_token_byte, lowered, param_of}
use Rattle.mk_code.specs.EncodedWords.{in_utf8}
use Rattle.mk_code.specs.Base64Fronts.{IsLongestFront}
use Rattle.mk_tree.specs.Documents.{tree}
use Rattle.mk_tree.specs.Sections.{Placed, content_text, head_text, section_at}
use Rattle.mk_view.specs.declared.extracting.ExtractError.{ExtractError}
use Rattle.mk_view.specs.declared.extracting.ExtractError.TheVariants as refused
use Rattle.mk_view.specs.Extracts.{IsExtract, IsExtractRefused}
use Rattle.mk_view.specs.Listing.{path_text, type_of}
use Rattle.mk_transfer.specs.Said.{Run, Said, said_after, shown, silence}
use Rattle.mk_show.specs.declared.portions.Portion.{Portion}
use Rattle.mk_show.specs.declared.portions.Portion.TheVariants.{Content, Raw, Head, Prefix, Utf8}
use Rattle.mk_show.specs.Shown.{IsGiven, IsReported, IsTaken, extract_line, is_wanting}

-- bytes of a section go out as they stand, or the line that there is none
abbrev pub bytes_run : List ℕ → Option (List ℕ) → Run
bytes_run path None = shown [] (extract_line path refused.NoSuchSection)
bytes_run path (Some bytes) = shown bytes []

-- the content is base64 that isn't whole: what decodes goes out, and the reason to the errors
pub record IsCutShort (path : List ℕ) (place : Option Placed) (run : Run) : Type 0 where
  pub section : Placed
  pub place_is : place ≡ Some section
  pub reason : IsExtractRefused place refused.BadBase64
  pub bytes : List ℕ
  pub front : IsLongestFront (content_text section) bytes
  pub run_is : run ≡ shown bytes (extract_line path refused.BadBase64)

-- for another reason nothing goes out, and the reason to the errors
pub record IsWithheld (path : List ℕ) (place : Option Placed) (run : Run) : Type 0 where
  pub error : ExtractError
  pub reason : IsExtractRefused place error
  pub known : is_wanting error ≡ false
  pub other : error ≢ refused.BadBase64
  pub run_is : run ≡ shown [] (extract_line path error)

-- the content of the section that was looked for, or what decodes of it, or the reason
abbrev pub IsPrefix : List ℕ → Option Placed → Run → Type 0
IsPrefix path place run = IsGiven place run ⊎ IsCutShort path place run ⊎ IsWithheld path place run

-- the line that names a charset: bytes that no token has are underscores in it (own)
abbrev pub charset_line : List ℕ → List ℕ → List ℕ
charset_line path charset = path_text path ++ (codes ": UnknownCharset " ++ (map (λ byte. if is_token_byte byte then byte else underscore) charset ++ line_feed ∷ []))

-- a content in UTF-8 by the charset that its type names; as it is where none is named, and where that isn't known, with its name
abbrev pub text_run : List ℕ → Option (List ℕ) → List ℕ → Run
text_run path None bytes = shown bytes []
text_run path (Some charset) bytes = option_map_or (λ text. shown text []) (in_utf8 (lowered charset) bytes) (shown bytes (charset_line path charset))

-- the content of a section goes out so
pub record IsShownText (path : List ℕ) (place : Option Placed) (run : Run) : Type 0 where
  pub section : Placed
  pub place_is : place ≡ Some section
  pub bytes : List ℕ
  pub content : IsExtract place bytes
  pub run_is : run ≡ text_run path (param_of (codes "charset") (type_of section).params) bytes

-- the content of the section that was looked for, or the reason
abbrev pub IsInUtf8 : List ℕ → Option Placed → Run → Type 0
IsInUtf8 path place run = IsShownText path place run ⊎ IsReported path place run

-- the portion of the section at a path of a message, or the reason
abbrev pub IsTakenAs : Portion → List ℕ → List ℕ → Run → Type 0
IsTakenAs Content path message run = IsTaken path message run
IsTakenAs Raw path message run = run ≡ bytes_run path (option_map content_text (section_at path (tree message)))
IsTakenAs Head path message run = run ≡ bytes_run path (option_map head_text (section_at path (tree message)))
IsTakenAs Prefix path message run = IsPrefix path (section_at path (tree message)) run
IsTakenAs Utf8 path message run = IsInUtf8 path (section_at path (tree message)) run

-- what is said as a run
abbrev pub run_of_said : Said → Run
run_of_said said = shown said.output said.errors

-- the portions of the sections at some paths of a message, one after another, or the reasons
abbrev pub AreTakenAs : Portion → List (List ℕ) → List ℕ → Said → Type 0
AreTakenAs wanted [] message said = said ≡ silence
AreTakenAs wanted (path ∷ paths) message said =
    (first : Said) × (more : Said) × IsTakenAs wanted path message (run_of_said first) × AreTakenAs wanted paths message more × (said ≡ said_after first more)

-- a run that says them
abbrev pub ShowsAllAs : Portion → List (List ℕ) → List ℕ → Run → Type 0
ShowsAllAs wanted paths message run = (said : Said) × AreTakenAs wanted paths message said × (run ≡ run_of_said said)
