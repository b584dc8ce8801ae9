-- The code's lines as lines of a script.
use Rattle.std.specs.Option.{option_map}
use Rattle.mk_script.specs.declared.script.Said.{Said}
use Rattle.mk_script.specs.declared.script.Said.TheVariants.{Edit, Undo, Redo, Begin, End}
use Rattle.mk_script.specs.declared.script.NumberedLine.{NumberedLine as NumberedLineIn}
use Rattle.mk_script.specs.Script.{ScriptLine, Edits, Undoes, Redoes, Begins, Ends, NumberedLine}
use Rattle.mk_script.specs.ScriptViews.{said_by}

-- what a line says
abbrev pub line_by : Said → ScriptLine
line_by (Edit word) = Edits (said_by word)
line_by Undo = Undoes
line_by Redo = Redoes
line_by Begin = Begins
line_by End = Ends

-- a line with its number
abbrev pub line_in : NumberedLineIn → NumberedLine
line_in l = (l.number, option_map line_by l.said)
