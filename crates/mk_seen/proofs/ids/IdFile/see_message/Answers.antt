use Rattle.std.proofs.Common.{◌∙◌, ap, sym}
use Rattle.std.specs.Option.{option_map}
use Rattle.mk_seen.proofs.NewLines.{lines_kept}
use Rattle.mk_seen.proofs.ids.IdFile.see_message.Goals as goal

pub returns-in-Some-clause-lines : goal.returns-in-Some-clause-lines
returns-in-Some-clause-lines c =
    lines_kept c.keep.result c.keep.new.self.lines.items c.args.self.now.lines.items c.args.self.now.seen c.args.message.now c.in-Some.id.items
    (sym c.in_ok-id.ensures ∙ ap (option_map (λ i. i.items)) c.in-Some.is) c.keep.ensures.first c.keep.ensures.lines
