-- Commands and splices in memory as plain data.
use Rattle.std.specs.Prelude.{map}
use Rattle.mk_edit.specs.declared.commands.Command.{Command}
use Rattle.mk_edit.specs.declared.commands.Command.TheVariants.{Do as DoIn, Group as GroupIn, Undo as UndoIn, Redo as RedoIn}
use Rattle.mk_decide.specs.Edits.{Order, Do, Group, Undo, Redo}
use Rattle.mk_decide.specs.Views.{edit_of}

-- a command in memory
abbrev pub order_of : Command → Order
order_of (DoIn edit) = Do (edit_of edit)
order_of (GroupIn list) = Group (map edit_of list.items)
order_of UndoIn = Undo
order_of RedoIn = Redo
