use Rattle.std.proofs.Common.{◌≡◌, ◌≤◌, ◌<◌, ◌+◌, ◌*◌, ◌⊎◌, ℕ, List, true, length}
use Rattle.std.specs.Io.KnownBytes.{Consumes, IsAtEnd}
use Rattle.mk_mailbox.specs.Devices.{IsFull}
use Rattle.mk_mailbox.specs.Mailboxes.{read_limit}
use Rattle.mk_messages.proofs.Taken.{AreTaken}
use Rattle.mk_messages.proofs.picking.pick.Given as goal

abbrev pub invariant-loop-turn : goal.invariant-loop-turn
invariant-loop-turn g l = record {
  told : (text : List ℕ) × (done : List (List ℕ)) × Consumes (g.S.Source.remaining l.fn.input) (g.S.Source.remaining l.input) text
      × AreTaken l.fn.from_lines text done l.mailbox × (l.turn ≡ length done);
  ended : l.mailbox.ended ≡ true → IsAtEnd (g.S.Source.remaining l.input);
  same : l.mailbox.from_lines ≡ l.fn.from_lines;
  well : g.S.Source.failures l.input ≡ g.S.Source.failures l.fn.input;
  below : l.turn < l.number;
  count : (0 + length l.mailbox.kept + read_limit * g.S.Source.read_count l.fn.input ≤ read_limit * g.S.Source.read_count l.input) ⊎ IsFull (g.S.Source.read_count l.input);
}
