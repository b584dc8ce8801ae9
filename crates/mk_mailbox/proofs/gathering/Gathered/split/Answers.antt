use Rattle.std.proofs.Common.{ap}
use Rattle.mk_mailbox.proofs.LinesGathered.{split_rest}
use Rattle.mk_mailbox.proofs.gathering.Gathered.split.Goals as goal

pub returns-clause-gathered : goal.returns-clause-gathered
returns-clause-gathered c =
    let g = c.args.self.now in
    rw (ap (λ v. v.items) c.replace.ensures.after, c.in_ok-rest.ensures.items, c.after_place.ensures) (split_rest g.from_lines g.bytes.items g.start g.line g.after_empty c.requires)
