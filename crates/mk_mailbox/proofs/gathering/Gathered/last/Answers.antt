use Rattle.std.proofs.Common.{◌≡◌, ◌∙◌, nat_lt, sym, arith}
use Rattle.mk_line.proofs.Cuts.{some_length}
use Rattle.mk_mailbox.specs.declared.gathering.Told.TheVariants.{Begins}
use Rattle.mk_mailbox.specs.inner.Gathered.{told_by}
use Rattle.mk_mailbox.proofs.LinesGathered.{last_split, last_whole}
use Rattle.mk_mailbox.proofs.gathering.Gathered.last.Goals as goal

pub returns-in-Begins-clause-piece : goal.returns-in-Begins-clause-piece
returns-in-Begins-clause-piece c =
    let g = c.args.self.now in
    rw (c.in_ok-split.ensures.piece, c.in_ok-split.ensures.rest)
    (last_split g.from_lines g.bytes.items g.start g.line g.after_empty c.requires.gathered c.requires.undecided (rw c.undecided.ensures at (sym c.told.ensures ∙ c.in-Begins.is)))

pub returns-clause-piece : goal.returns-clause-piece
returns-clause-piece c =
    let g = c.args.self.now in
    let other : told_by g.from_lines (nat_lt g.start g.line) g.after_empty c.undecided.result.now ≡ Begins → ⊥ = λ told. c.in_default.not-Begins (c.told.ensures ∙ told) in
    rw (c.hand_out.ensures.all, c.hand_out.ensures.none)
    (last_whole g.from_lines g.bytes.items g.start g.line g.after_empty c.requires.gathered c.requires.undecided (rw c.undecided.ensures at other) (omega (arith, some_length _ (sym c.is_empty.ensures ∙ c.if-is_empty.false), g.bytes.ok.0)))
