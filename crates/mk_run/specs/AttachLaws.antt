-- The laws of `attach` and `attach-text`: what was given is extracted of the new part, and a file has the name that was given (own).
use Rattle.std.specs.Prelude.{◌≡◌, ◌++◌, ℕ, true, false, nat_lt, Option, None, Some, Ok, List, [], ◌∷◌}
use Rattle.std.specs.List.{list_all}
use Rattle.mk_line.specs.declared.cutting.Ending.{Ending}
use Rattle.mk_code.specs.EncodedWords.{words_decoded}
use Rattle.mk_tree.specs.Documents.{Document, tree}
use Rattle.mk_tree.specs.Sections.{Placed}
use Rattle.mk_decide.specs.Edits.{PlainEdit}
use Rattle.mk_decide.specs.EditLaws.{IsLeaf}
use Rattle.mk_view.specs.Extracts.{IsContentOf}
use Rattle.mk_view.specs.FileNames.{raw_name}
use Rattle.mk_view.specs.TextNames.{text_name}
use Rattle.mk_build.specs.Building.{is_said}
use Rattle.mk_script.specs.Script.{ScriptWord}
use Rattle.mk_expand.specs.Appends.{new_number}
use Rattle.mk_expand.specs.ExpandLaws.{all_edited}
use Rattle.mk_expand.specs.Pieces.{Pieces}
use Rattle.mk_expand.specs.Words.{meaning_of}

-- what a word stands for in a message was made, one edit after another, and gave a document
pub record IsWordMade (pieces : Pieces) (eol : Ending) (mail : List ℕ) (word : ScriptWord) (u : Document) : Type 0 where
  pub edits : List PlainEdit
  pub means : meaning_of pieces eol (tree mail) word ≡ Ok edits
  pub made : all_edited edits (tree mail) ≡ Ok u

-- a section is there, and is a leaf of which these bytes are extracted
abbrev pub IsLeafOf : Option Placed → List ℕ → Type 0
IsLeafOf None bytes = ⊥
IsLeafOf (Some p) bytes = IsLeaf p.entity × IsContentOf p bytes

-- the part after the others of a multipart, as far as numbers go, or beside another section
abbrev pub new_path : List ℕ → Placed → List ℕ
new_path path p = path ++ new_number p ∷ []

-- a section says a name: in its bytes, and as a text where no encoded word stands in the name
pub record SaysName (name : List ℕ) (p : Placed) : Type 0 where
  pub raw : raw_name p ≡ Some name
  pub text : words_decoded name ≡ name → text_name p ≡ Some name

-- a section says the name of a file that was attached; one in UTF-8 that isn't printable ASCII it says as a text (RFC 2231, 4)
pub record SaysFile (name : List ℕ) (p : Placed) : Type 0 where
  pub plain : is_said name ≡ false → SaysName name p
  pub said : is_said name ≡ true → list_all (λ byte. nat_lt byte 256) name ≡ true → text_name p ≡ Some name
