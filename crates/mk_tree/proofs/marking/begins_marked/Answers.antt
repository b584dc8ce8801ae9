use Rattle.std.proofs.Common.{sym, ◌∙◌}
use Rattle.mk_tree.specs.Steps.{boundaries_of}
use Rattle.mk_tree.proofs.FieldsMarked.{undashed}
use Rattle.mk_tree.proofs.marking.begins_marked.Goals as goal

pub returns-then-not-starts_with : goal.returns-then-not-starts_with
returns-then-not-starts_with c = sym (undashed (boundaries_of c.args.opened.now) c.args.text.now (sym c.starts_with.ensures.value ∙ c.if-not-starts_with.true))
