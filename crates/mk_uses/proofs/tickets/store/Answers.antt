use Rattle.std.proofs.Common.{◌∙◌}
use Rattle.mk_uses.proofs.tickets.store.Goals as goal

pub returns-clause-kept : goal.returns-clause-kept
returns-clause-kept c = record {
  history = c.group.new.self;
  made = rw c.in-Ok.ensures.ok at c.in_ok-group.ensures;
  now = c.in_ok-message.ensures.items ∙ c.text.ensures.now;
  written = c.in_ok-journal.ensures.journal;
  small = c.in_ok-journal.ensures.small;
}
