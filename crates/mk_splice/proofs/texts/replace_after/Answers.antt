use Rattle.std.proofs.Common.{◌∙◌, ap, arith, drop}
use Rattle.mk_splice.proofs.Shifts.{spliced_after}
use Rattle.mk_splice.proofs.texts.replace_after.Goals as goal

pub returns-clause-bytes : goal.returns-clause-bytes
returns-clause-bytes c =
    ap (drop c.args.start) c.replace_within.ensures.items
    ∙ spliced_after c.args.start c.args.place c.args.count c.args.text.now c.args.items.now.items (omega (arith, c.args.items.now.ok.0))
