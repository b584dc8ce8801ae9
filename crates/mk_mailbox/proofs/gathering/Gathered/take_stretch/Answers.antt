use Rattle.std.proofs.Common.{◌∙◌}
use Rattle.mk_mailbox.proofs.QuietLines.{stretch_on}
use Rattle.mk_mailbox.proofs.gathering.Gathered.take_stretch.Goals as goal

pub returns-clause-gathered : goal.returns-clause-gathered
returns-clause-gathered c =
    let g = c.args.self.now in
    rw (c.len-self.ensures ∙ c.extend_from_slice.new.self.ok.0, c.in_ok-extend_from_slice.ensures.items, c.end_with_empty-self.ensures)
    (stretch_on g.from_lines g.bytes.items c.args.lines.now g.start g.line g.after_empty c.requires.gathered c.requires.between c.requires.quiet c.requires.some)
