use Rattle.mk_decide.specs.Edits.{Undo, Redo}
use Rattle.mk_run.proofs.steps.obey.Goals as goal

pub returns-in-Undo : goal.returns-in-Undo
returns-in-Undo c = rw c.in-Undo.is (c.at_line.ensures Undo c.args.session.now c.undo.new.self c.undo.ensures)

pub returns-in-Redo : goal.returns-in-Redo
returns-in-Redo c = rw c.in-Redo.is (c.at_line-in-Redo.ensures Redo c.args.session.now c.redo.new.self c.redo.ensures)
