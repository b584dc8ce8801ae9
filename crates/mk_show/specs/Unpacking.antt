-- What unpacking a message does: the contents of its leaves are put into a folder (own).
use Rattle.std.specs.Prelude.{◌≡◌, ◌≢◌, ◌⊎◌, ◌<◌, ◌==◌, ◌++◌, if◌then◌else◌, ℕ, Bool, true, false, Option, None, Some, List, [], ◌∷◌, codes, map}
use Rattle.mk_line.specs.Ascii.{line_feed, space}
use Rattle.mk_tree.specs.Documents.{Document}
use Rattle.mk_code.specs.Base64Fronts.{IsLongestFront}
use Rattle.mk_tree.specs.Sections.{Placed, content_text, section_at}
use Rattle.mk_view.specs.declared.extracting.ExtractError.{ExtractError}
use Rattle.mk_view.specs.declared.extracting.ExtractError.TheVariants.{BadBase64}
use Rattle.mk_view.specs.Extracts.{IsExtract, IsExtractRefused}
use Rattle.mk_view.specs.FileNames.{Named}
use Rattle.mk_view.specs.TextNames.{all_stored_in}
use Rattle.mk_view.specs.declared.storing.Storing.{Storing}
use Rattle.mk_view.specs.GivenNames.{AreGiven, numbered}
use Rattle.mk_view.specs.Listing.{path_text, type_of, type_text}
use Rattle.mk_transfer.specs.Said.{Said, silence, said_after}
use Rattle.mk_show.specs.declared.placing.Clash.{Clash}
use Rattle.mk_show.specs.declared.placing.Clash.TheVariants.{Over, Numbered, Counted}
use Rattle.mk_show.specs.declared.unpacking.Manner.{Manner}
use Rattle.mk_show.specs.declared.unpacking.Report.{Report}
use Rattle.mk_show.specs.declared.unpacking.Report.TheVariants.{Nothing, Names, Paths}
use Rattle.mk_show.specs.Folders.{Files, IsFree, IsThere, Gets}
use Rattle.mk_show.specs.Shown.{extract_line, is_wanting}

-- files are written over
abbrev pub is_over : Clash → Bool
is_over Over = true
is_over Numbered = false
is_over Counted = false

-- how many names are tried where a file has the name: the name itself, and those with the numbers below this
abbrev pub most_tries : Clash → ℕ
most_tries Over = 1
most_tries Numbered = 100
most_tries Counted = 18446744073709551615

-- the names that are tried: the name itself, and that with the numbers from 1 on after it
abbrev pub tried : List ℕ → ℕ → List ℕ
tried name number = if number == 0 then name else numbered name number

-- the number of the first of so many that no file has
pub record IsFirstFree (most : ℕ) (files : Option Files) (name : List ℕ) (number : ℕ) : Type 0 where
  pub within : number < most
  pub free : IsFree files (tried name number)
  pub least : (n : ℕ) → n < number → IsThere files (tried name n)

-- files have so many of them
abbrev pub AllThere : ℕ → Option Files → List ℕ → Type 0
AllThere most files name = (n : ℕ) → n < most → IsThere files (tried name n)

-- the first of so many names that no file has
abbrev pub IsNumbered : ℕ → Option Files → List ℕ → List ℕ → Type 0
IsNumbered most files name target = (number : ℕ) × IsFirstFree most files name number × (target ≡ tried name number)

-- the name under which a text is put: the name itself where files may be written over, else the first that no file has
abbrev pub IsTarget : Clash → Option Files → List ℕ → List ℕ → Type 0
IsTarget Over files name target = target ≡ name
IsTarget Numbered files name target = IsNumbered (most_tries Numbered) files name target
IsTarget Counted files name target = IsNumbered (most_tries Counted) files name target

-- the line that says under which name a section was put, and its type
abbrev pub stored_line : Option Placed → List ℕ → List ℕ
stored_line None target = []
stored_line (Some p) target = target ++ (codes " (" ++ (type_text (type_of p) ++ (codes ")" ++ line_feed ∷ [])))

-- what is said of a section that was put under a name: nothing, the name and the type, or these after the path and a space
abbrev pub report_line : Report → List ℕ → Option Placed → List ℕ → List ℕ
report_line Nothing path place target = []
report_line Names path place target = stored_line place target
report_line Paths path place target = path_text path ++ space ∷ stored_line place target

-- the line that says that all names of a leaf are those of files
abbrev pub exists_line : List ℕ → List ℕ
exists_line name = name ++ (codes ": exists" ++ line_feed ∷ [])

-- a leaf, of which the content is put, or else what decodes of one that was cut off
pub record Task : Type 0 where
  pub leaf : Named
  pub cut : Bool

-- what decodes of base64 that was cut off
pub record IsCutFront (place : Option Placed) (bytes : List ℕ) : Type 0 where
  pub section : Placed
  pub place_is : place ≡ Some section
  pub reason : IsExtractRefused place BadBase64
  pub front : IsLongestFront (content_text section) bytes

-- the bytes that are put of a leaf
abbrev pub IsPutOf : Bool → Option Placed → List ℕ → Type 0
IsPutOf false place bytes = IsExtract place bytes
IsPutOf true place bytes = IsCutFront place bytes

-- the name under which they are put: what was cut off has `.part` after it
abbrev pub task_name : Bool → List ℕ → List ℕ
task_name false name = name
task_name true name = name ++ codes ".part"

-- what becomes of them where a file has the name: what was cut off never takes the place of a file
abbrev pub task_clash : Bool → Clash → Clash
task_clash false clash = clash
task_clash true Over = Numbered
task_clash true Numbered = Numbered
task_clash true Counted = Counted

-- the bytes of a leaf were put under its name, and that is said
pub record IsStored (manner : Manner) (place : Option Placed) (task : Task) (said : Said) (old new : Option Files) : Type 0 where
  pub bytes : List ℕ
  pub content : IsPutOf task.cut place bytes
  pub target : List ℕ
  pub target_is : IsTarget (task_clash task.cut manner.clash) old (task_name task.cut task.leaf.1) target
  pub gets : Gets old new target bytes
  pub said_is : said ≡ record { output = report_line manner.report task.leaf.0 place target; errors = [] }

-- the bytes of a leaf were not put, since all its names are those of files
pub record IsCrowded (manner : Manner) (place : Option Placed) (task : Task) (said : Said) (old new : Option Files) : Type 0 where
  pub bytes : List ℕ
  pub content : IsPutOf task.cut place bytes
  pub kept : is_over (task_clash task.cut manner.clash) ≡ false
  pub there : AllThere (most_tries (task_clash task.cut manner.clash)) old (task_name task.cut task.leaf.1)
  pub same : new ≡ old
  pub said_is : said ≡ record { output = []; errors = exists_line (task_name task.cut task.leaf.1) }

-- a leaf has no content that can be decoded, and the reason is said
pub record IsUndecoded (place : Option Placed) (task : Task) (said : Said) (old new : Option Files) : Type 0 where
  pub whole : task.cut ≡ false
  pub error : ExtractError
  pub reason : IsExtractRefused place error
  pub known : is_wanting error ≡ false
  pub same : new ≡ old
  pub said_is : said ≡ record { output = []; errors = extract_line task.leaf.0 error }

-- a content that is whole, or can't be decoded for another reason
abbrev pub IsNotCut : Option Placed → Type 0
IsNotCut place = ((bytes : List ℕ) × IsExtract place bytes) ⊎ ((error : ExtractError) × IsExtractRefused place error × (error ≢ BadBase64) × (is_wanting error ≡ false))

-- what decodes of a leaf isn't put, since its content wasn't cut off, and nothing is said
pub record IsPassed (place : Option Placed) (task : Task) (said : Said) (old new : Option Files) : Type 0 where
  pub cut : task.cut ≡ true
  pub other : IsNotCut place
  pub same : new ≡ old
  pub said_is : said ≡ silence

-- what becomes of a leaf
abbrev pub UnpacksLeaf : Manner → Document → Task → Said → Option Files → Option Files → Type 0
UnpacksLeaf manner t task said old new =
    IsStored manner (section_at task.leaf.0 t) task said old new
    ⊎ IsCrowded manner (section_at task.leaf.0 t) task said old new
    ⊎ IsUndecoded (section_at task.leaf.0 t) task said old new
    ⊎ IsPassed (section_at task.leaf.0 t) task said old new

-- what becomes of leaves that are unpacked in turn
abbrev pub Unpacks : Manner → Document → List Task → Said → Option Files → Option Files → Type 0
Unpacks manner t [] said old new = (said ≡ silence) × (new ≡ old)
Unpacks manner t (task ∷ tasks) said old new =
    (first : Said) × (more : Said) × (between : Option Files)
    × UnpacksLeaf manner t task first old between
    × Unpacks manner t tasks more between new
    × (said ≡ said_after first more)

-- a leaf of which the content is put, or what decodes of one that was cut off
abbrev pub task_of : Bool → Named → Task
task_of cut leaf = record { leaf = leaf; cut = cut }

-- leaves are unpacked in turn, and after all of them, where that is wanted, what decodes of those that were cut off
abbrev pub tasks_of : Bool → List Named → List Task
tasks_of false leaves = map (task_of false) leaves
tasks_of true leaves = map (task_of false) leaves ++ map (task_of true) leaves

-- the sections of a document that are stored, each with its name
abbrev pub AreLeaves : Storing → Document → List Named → Type 0
AreLeaves storing t leaves = AreGiven [] (all_stored_in storing t) leaves
