use Rattle.std.proofs.Common.{sym, ap, ◌∙◌}
use Rattle.mk_line.specs.Lines.{cut}
use Rattle.mk_mailbox.proofs.PlaceLemmas.{parted_here, whole_here}
use Rattle.mk_mailbox.proofs.places.is_uncut.Goals as goal

pub returns-then-begin_before : goal.returns-then-begin_before
returns-then-begin_before c =
    parted_here c.args.from_lines c.args.text.now c.each.after_empty _ (cut c.each.rest.now) (cut c.in-Some.following.now) c.in-Some.ensures.some c.if-after_empty.true (sym c.begin_before.ensures ∙ c.if-begin_before.true) c.each.invariant

pub returns : goal.returns
returns c = whole_here c.args.from_lines c.args.text.now c.each.after_empty (cut c.each.rest.now) (ap cut c.in_default.ensures.none) c.each.invariant
