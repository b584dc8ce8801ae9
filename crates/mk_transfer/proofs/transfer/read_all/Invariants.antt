use Rattle.std.proofs.Common.{◌≡◌, ◌≤◌, ◌⊎◌, ◌+◌, length, take}
use Rattle.std.specs.Io.KnownBytes.{Consumes}
use Rattle.mk_mailbox.specs.Devices.{IsFull}
use Rattle.mk_transfer.proofs.transfer.read_all.Given as goal

abbrev pub invariant-loop-read : goal.invariant-loop-read
invariant-loop-read g l = record {
  bytes : Consumes (g.S.Source.remaining l.fn.input) (g.S.Source.remaining l.input) (take l.filled l.text.items);
  within : l.filled ≤ length l.text.items;
  well : g.S.Source.failures l.input ≡ g.S.Source.failures l.fn.input;
  count : (g.S.Source.read_count l.fn.input + l._read ≤ g.S.Source.read_count l.input) ⊎ IsFull (g.S.Source.read_count l.input);
}
