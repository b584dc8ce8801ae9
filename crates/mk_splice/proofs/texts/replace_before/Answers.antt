use Rattle.std.proofs.Common.{◌∙◌, ◌+◌, ◌-◌, ap, arith, drop, length}
use Rattle.mk_splice.specs.Splices.{spliced}
use Rattle.mk_splice.proofs.Shifts.{spliced_before}
use Rattle.mk_splice.proofs.texts.replace_before.Goals as goal

pub returns-clause-bytes : goal.returns-clause-bytes
returns-clause-bytes c =
    ap (drop (c.args.start + c.args.count - length c.args.text.now)) (c.overwrite.ensures.items ∙ ap (spliced (c.args.start + c.args.count - length c.args.text.now + c.args.place) (length c.args.text.now) c.args.text.now) c.copy_within.ensures.items)
    ∙ spliced_before c.args.start c.args.place c.args.count (c.args.start + c.args.count - length c.args.text.now) c.args.text.now c.args.items.now.items (omega (arith, c.args.items.now.ok.0)) (omega arith)
