-- The lines that report faults of a script: of a line, and of what a word of it names (own).
use Rattle.std.specs.Prelude.{◌++◌, ◌∷◌, [], ℕ, List, codes, decimal}
use Rattle.mk_line.specs.Ascii.{line_feed}
use Rattle.mk_script.specs.declared.reasons.LineFault.{LineFault}
use Rattle.mk_script.specs.declared.reasons.LineFault.TheVariants.{UnknownWord, Missing, Extra, Spaces, BadPath, BadNumber, NoSuchPiece, BadEncoding, BadFieldName, Grouped, BadBegin, NoGroup, NotEdit}
use Rattle.mk_expand.specs.Meanings.{WordFault, UnknownEncoding, BadBase64, BadType, BadName, BadCharset, BinaryContent}

-- the line that reports a line that isn't one of a script
abbrev pub syntax_line : ℕ → List ℕ
syntax_line number = codes "script: line " ++ decimal number ++ (codes ": syntax" ++ line_feed ∷ [])

-- what is wrong with a line of a script, in words
abbrev pub fault_sentence : LineFault → List ℕ
fault_sentence UnknownWord = codes "unknown word"
fault_sentence Missing = codes "too few arguments"
fault_sentence Extra = codes "too many arguments"
fault_sentence Spaces = codes "words are separated by exactly one space"
fault_sentence BadPath = codes "invalid path; write numbers from 1 with dots between them, such as 1.2"
fault_sentence BadNumber = codes "invalid number"
fault_sentence NoSuchPiece = codes "no such piece"
fault_sentence BadEncoding = codes "invalid encoding; write quoted-printable or qp, base64, or 8bit or identity"
fault_sentence BadFieldName = codes "invalid name; write the name of a field, such as Subject or Subject:"
fault_sentence Grouped = codes "undo and redo can't be in a group"
fault_sentence BadBegin = codes "begin without end, or inside a group"
fault_sentence NoGroup = codes "end without begin"
fault_sentence NotEdit = codes "with --all, each line has to be an edit"

-- the line that says why a line of a script is invalid
abbrev pub reason_line : ℕ → LineFault → List ℕ
reason_line number fault = codes "script: line " ++ (decimal number ++ (codes ": " ++ (fault_sentence fault ++ line_feed ∷ [])))

-- the name under which the fault of a word is reported
abbrev pub fault_name : WordFault → List ℕ
fault_name UnknownEncoding = codes "UnknownEncoding"
fault_name BadBase64 = codes "BadBase64"
fault_name BadType = codes "BadType"
fault_name BadName = codes "BadName"
fault_name BadCharset = codes "BadCharset"
fault_name BinaryContent = codes "BinaryContent"

-- the line of a number with a name
abbrev pub named_line : ℕ → List ℕ → List ℕ
named_line number name = codes "line " ++ (decimal number ++ (codes ": " ++ (name ++ line_feed ∷ [])))

-- the line that reports that a word stands for no edits
abbrev pub fault_line : ℕ → WordFault → List ℕ
fault_line number fault = named_line number (fault_name fault)
