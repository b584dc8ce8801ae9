-- A step of a script: its words, each made in the document that the earlier ones gave, all or none (own).
use Rattle.std.specs.Prelude.{◌++◌, ℕ, Result, Ok, Err, List, [], ◌∷◌, map, slice_index_or}
use Rattle.mk_line.specs.declared.cutting.Ending.{Ending}
use Rattle.mk_line.specs.Lines.{cut, eol_of}
use Rattle.mk_tree.specs.Documents.{Document, tree, printed}
use Rattle.mk_splice.specs.Splices.{Splice}
use Rattle.mk_decide.specs.Edits.{PlainEdit, path_of, Refusal}
use Rattle.mk_edit.specs.Groups.{Together, together}
use Rattle.mk_edit.specs.History.{History}
use Rattle.mk_edit.specs.Histories.{text_now, with_step}
use Rattle.mk_script.specs.Script.{ScriptWord}
use Rattle.mk_expand.specs.Meanings.{Meaning, WordFault}
use Rattle.mk_expand.specs.Pieces.{Pieces}
use Rattle.mk_expand.specs.Words.{meaning_of}

-- why a step is refused, with the number of the line: an edit at a path is, or a word stands for no edits
pub data StepRefusal : Type 0 where
  EditRefused : (number : ℕ) (path : List ℕ) (reason : Refusal) → StepRefusal
  WordRefused : (number : ℕ) (fault : WordFault) → StepRefusal

-- a document and the splices that led to it, or why the words are refused
abbrev pub Made : Type 0
Made = Result (Document × List Splice) StepRefusal

-- the edits of the word of a line
abbrev pub edits_made : ℕ → List PlainEdit → Together → Made
edits_made number es (Ok p) = Ok p
edits_made number es (Err q) = Err (EditRefused number (slice_index_or (map path_of es) q.0 []) q.1)

-- what such a word makes of a document
abbrev pub made_by : ℕ → Document → Meaning → Made
made_by number t (Ok es) = edits_made number es (together es t)
made_by number t (Err fault) = Err (WordRefused number fault)

-- with the splices before
abbrev pub after_splices : List Splice → Made → Made
after_splices ss (Ok p) = Ok (p.0, ss ++ p.1)
after_splices ss (Err r) = Err r

-- what is made of the document that was made
abbrev pub then_make : Made → (Document → Made) → Made
then_make (Ok p) f = after_splices p.1 (f p.0)
then_make (Err r) f = Err r

-- what words make of a document, one after another, where the script has these pieces
abbrev pub words_made : Pieces → Ending → List (ℕ × ScriptWord) → Document → Made
words_made pieces eol [] t = Ok (t, [])
words_made pieces eol (w ∷ ws) t = then_make (made_by w.0 t (meaning_of pieces eol t w.1)) (words_made pieces eol ws)

-- what words that are made are in a history: one step
abbrev pub stepped : History → Made → Result History StepRefusal
stepped h (Ok p) = Ok (with_step h (printed p.0) p.1)
stepped h (Err r) = Err r

-- what words make of a history; a field, and a line that is made, gets the ending of the text before them
abbrev pub words_step : Pieces → List (ℕ × ScriptWord) → History → Result History StepRefusal
words_step pieces ws h = stepped h (words_made pieces (eol_of (cut (text_now h))) ws (tree (text_now h)))
