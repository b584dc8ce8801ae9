-- A message that was built gives back what was attached (own).
use Rattle.std.specs.Prelude.{◌≡◌, ◌≢◌, ◌<◌, ◌+◌, ℕ, None, Some, List, [], ◌∷◌, length, map, nat_lt, slice_index, true, IsSomeAnd}
use Rattle.std.specs.List.{AllByRecursion, list_all}
use Rattle.mk_line.specs.declared.cutting.Ending.{Ending}
use Rattle.mk_line.specs.declared.cutting.Ending.TheVariants.{Missing}
use Rattle.mk_head.specs.Fields.{counted}
use Rattle.mk_tree.specs.declared.shapes.Kind.TheVariants.{Message, Multi}
use Rattle.mk_tree.specs.Documents.{Document, tree}
use Rattle.mk_tree.specs.Forms.{kind_in}
use Rattle.mk_tree.specs.Sections.{Placed, children, content_text, section_at}
use Rattle.mk_build.specs.Building.{Attached, is_said, named_in_utf8}
use Rattle.mk_build.specs.Forwards.{Forwarded, built_with, refusal_with}
use Rattle.mk_build.specs.Multiparts.{Multipart}
use Rattle.mk_view.specs.Extracts.{IsExtract}
use Rattle.mk_view.specs.TextNames.{text_name}

-- all of them are bytes
abbrev pub AreBytes : List ℕ → Type 0
AreBytes bytes = (k : ℕ) → slice_index bytes k < 256

-- section 1 is a multipart with as many parts and messages: what is extracted at 1.k is the k-th text, and after the parts
-- each message is a section of its own, which holds just its bytes
pub record GivesAllBack (parts : List Attached) (messages : List Forwarded) (t : Document) : Type 0 where
  pub root : Placed
  pub found : section_at (1 ∷ []) t ≡ Some root
  pub multi : kind_in root.entity ≡ Multi
  pub count : length (children root) ≡ length parts + length messages
  pub texts : (k : ℕ) (a : Attached) → counted k parts ≡ Some a → IsExtract (section_at (1 ∷ k ∷ []) t) a.text
  pub forwarded : (k : ℕ) (f : Forwarded) → counted k messages ≡ Some f → IsSomeAnd (section_at (1 ∷ (length parts + k) ∷ []) t) (λ p. (kind_in p.entity ≡ Message) × (content_text p ≡ f.text))

-- a file whose name is written as people write it has just that name in each message that is built in UTF-8, as a multipart
-- and with any forwarded messages
abbrev pub BuiltNamesAreSaid : Type 0
BuiltNamesAreSaid = (eol : Ending) (fields : List (List ℕ)) (files : List Attached) (messages : List Forwarded) (m : Multipart) → eol ≢ Missing → AllByRecursion (λ a. AreBytes a.text) (map named_in_utf8 files)
    → refusal_with fields (map named_in_utf8 files) messages m ≡ None
    → (k : ℕ) (a : Attached) (name : List ℕ) (p : Placed) → counted k files ≡ Some a → a.name ≡ Some name → is_said name ≡ true → list_all (λ byte. nat_lt byte 256) name ≡ true
    → section_at (1 ∷ k ∷ []) (tree (built_with eol fields (map named_in_utf8 files) messages m)) ≡ Some p → text_name p ≡ Some name
