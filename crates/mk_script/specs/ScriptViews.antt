-- The code's words as words of a script.
use Rattle.std.specs.Prelude.{◌≡◌, ℕ, List, Result, Err, map}
use Rattle.std.specs.Global.{Vec}
use Rattle.mk_script.specs.declared.script.Word.{Word}
use Rattle.mk_script.specs.declared.script.Word.TheVariants.{Add, Delete, Rename, Set, Body, Replace, Insert, Remove, Wrap, Content, Text, Encode, Put, PutPiece, DropAll, Append, AppendText, Attach, AttachText}
use Rattle.mk_script.specs.declared.groups.Step.{Step}
use Rattle.mk_script.specs.declared.groups.Step.TheVariants.{Edit as EditAlone, Group, Undo as UndoAt, Redo as RedoAt}
use Rattle.mk_script.specs.declared.script.NumberedWord.{NumberedWord}
use Rattle.mk_script.specs.declared.groups.ScriptError.{ScriptError}
use Rattle.mk_script.specs.declared.groups.ScriptError.TheVariants.{Syntax, Memory}
use Rattle.mk_script.specs.declared.targets.Target.{Target as TargetIn}
use Rattle.mk_script.specs.Targets.{Target}
use Rattle.mk_script.specs.Script.{ScriptWord, Adds, Deletes, Renames, Sets, Bodies, Replaces, Inserts, Removes, Wraps, SetsContent, SetsText, Encodes, Puts, PutsPiece, DropsAll, Appends, AppendsText, Attaches, AttachesText}
use Rattle.mk_script.specs.ScriptSteps.{ScriptStep, Makes, Groups, TakesBack, MakesAgain}

-- the field that a word picks
abbrev pub picked_by : TargetIn → Target
picked_by t = record { path = t.path.items; name = t.name.items; k = t.k }

-- lists in memory as plain data
abbrev pub items_of : List (Vec ℕ) → List (List ℕ)
items_of vs = map (λ v. v.items) vs

-- what a word says
abbrev pub said_by : Word → ScriptWord
said_by (Add path top field) = Adds path.items top field.items
said_by (Delete target) = Deletes (picked_by target)
said_by (Rename target to) = Renames (picked_by target) to.items
said_by (Set target field) = Sets (picked_by target) field.items
said_by (Body path piece) = Bodies path.items piece
said_by (Replace path piece) = Replaces path.items piece
said_by (Insert path place piece) = Inserts path.items place piece
said_by (Remove paths) = Removes (items_of paths.items)
said_by (Wrap path subtype boundary) = Wraps path.items subtype.items boundary.items
said_by (Content path piece) = SetsContent path.items piece
said_by (Text charset path piece) = SetsText charset.items path.items piece
said_by (Encode path to) = Encodes path.items to
said_by (Put path field) = Puts path.items field.items
said_by (PutPiece path piece) = PutsPiece path.items piece
said_by (DropAll path name) = DropsAll path.items name.items
said_by (Append path piece) = Appends path.items piece
said_by (AppendText path piece) = AppendsText path.items piece
said_by (Attach path media name piece) = Attaches path.items media.items name.items piece
said_by (AttachText path media piece) = AttachesText path.items media.items piece

-- a word with the number of its line
abbrev pub numbered : NumberedWord → ℕ × ScriptWord
numbered w = (w.number, said_by w.word)

-- a step
abbrev pub step_by : Step → ScriptStep
step_by (EditAlone word) = Makes word.number (said_by word.word)
step_by (Group words) = Groups (map numbered words.items)
step_by (UndoAt number) = TakesBack number
step_by (RedoAt number) = MakesAgain number

-- an error is the first fault of a script, or running out of memory, which may come in place of any answer
abbrev pub Explains : ScriptError → Result (List ScriptStep) ℕ → Type 0
Explains (Syntax number) defined = defined ≡ Err number
Explains Memory defined = Unit {0}
