use Rattle.std.proofs.Common.{◌≡◌, ◌++◌, map}
use Rattle.mk_line.specs.Lines.{text_of}
use Rattle.mk_script.specs.Endings.{turned_line, turned_to}
use Rattle.mk_script.proofs.endings.turned.Given as goal

abbrev pub invariant-loop-line : goal.invariant-loop-line
invariant-loop-line l = l.turned.items ++ text_of (map (turned_line l.eol) l.line-iterator) ≡ turned_to l.eol l.text
