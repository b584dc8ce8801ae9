use Rattle.std.proofs.Common.{◌∙◌, sym}
use Rattle.mk_mailbox.proofs.LinesGathered.{gathered_on, gathered_waits, nil_is, split_is}
use Rattle.mk_mailbox.proofs.gathering.Gathered.decide.Goals as goal

pub whole_line-requires : goal.whole_line-requires
whole_line-requires c = let g = c.args.self.now in rw c.undecided.ensures c.requires.following

pub returns-in_ok-split-in-Begins-clause-piece : goal.returns-in_ok-split-in-Begins-clause-piece
returns-in_ok-split-in-Begins-clause-piece c =
    let g = c.args.self.now in
    rw (c.in_ok-split-in-Begins.ensures.piece, c.in_ok-split-in-Begins.ensures.rest)
    (split_is g.from_lines g.bytes.items c.in-Some.content.now g.start g.line g.after_empty c.requires (rw c.undecided.ensures at c.in-Some.ensures) (sym c.told.ensures ∙ c.in-Begins.is))

pub returns-in-Waits-clause-gathered : goal.returns-in-Waits-clause-gathered
returns-in-Waits-clause-gathered c =
    let g = c.args.self.now in
    rw (c.len-self.ensures ∙ g.bytes.ok.0)
    (gathered_waits g.from_lines g.bytes.items c.in-Some.content.now g.start g.line g.after_empty c.requires (rw c.undecided.ensures at c.in-Some.ensures) (sym c.told.ensures ∙ c.in-Waits.is))

pub returns-in-Belongs-clause-gathered : goal.returns-in-Belongs-clause-gathered
returns-in-Belongs-clause-gathered c =
    let g = c.args.self.now in
    rw (c.len-self-in-Belongs.ensures ∙ g.bytes.ok.0, c.is_empty-is_empty.ensures ∙ nil_is c.in-Some.content.now)
    (gathered_on g.from_lines g.bytes.items c.in-Some.content.now g.start g.line g.after_empty c.requires (rw c.undecided.ensures at c.in-Some.ensures) (sym c.told.ensures ∙ c.in-Belongs.is))
