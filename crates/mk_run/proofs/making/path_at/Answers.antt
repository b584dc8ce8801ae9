use Rattle.std.proofs.Common.{◌∙◌}
use Rattle.mk_decide.specs.Views.{edit_of}
use Rattle.mk_run.proofs.WordsMade.{path_found}
use Rattle.mk_run.proofs.making.path_at.Goals as goal

pub returns-in-Some : goal.returns-in-Some
returns-in-Some c = c.path.ensures ∙ path_found edit_of c.args.edits.now c.args.index c.in-Some.edit.now c.in-Some.ensures.lookup.0 c.in-Some.ensures.lookup.1
