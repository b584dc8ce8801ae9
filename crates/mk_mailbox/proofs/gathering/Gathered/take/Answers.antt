use Rattle.std.proofs.Common.{is_ok}
use Rattle.mk_mailbox.proofs.LinesGathered.{grown_if}
use Rattle.mk_mailbox.proofs.gathering.Gathered.take.Goals as goal

pub returns-clause-gathered : goal.returns-clause-gathered
returns-clause-gathered c =
    rw c.extend_from_slice.ensures.items
    (grown_if c.args.self.now.from_lines (is_ok c.extend_from_slice.result) c.args.self.now.bytes.items c.args.bytes.now c.args.self.now.start c.args.self.now.line c.args.self.now.after_empty c.requires.gathered c.requires.undecided c.requires.one_line)
