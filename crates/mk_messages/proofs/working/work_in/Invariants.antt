use Rattle.std.proofs.Common.{◌≡◌, ◌≤◌, ◌+◌, ◌*◌, ◌⊎◌, ℕ, List, true, length}
use Rattle.std.specs.Io.KnownBytes.{Consumes, IsAtEnd}
use Rattle.mk_mailbox.specs.Devices.{IsFull}
use Rattle.mk_mailbox.specs.Mailboxes.{read_limit}
use Rattle.mk_transfer.specs.RunClauses.{SameFailures, counts}
use Rattle.mk_messages.specs.Working.{work_state}
use Rattle.mk_messages.specs.inner.WorkSteps.{WorksOnAll}
use Rattle.mk_messages.proofs.Taken.{AreTaken, size_of}
use Rattle.mk_messages.proofs.working.work_in.Given as goal

abbrev pub invariant-loop-turn : goal.invariant-loop-turn
invariant-loop-turn g l = record {
  told : (text : List ℕ) × (done : List (List ℕ)) × Consumes (g.S.Source.remaining l.fn.input) (g.S.Source.remaining l.input) text
      × AreTaken l.fn.from_lines text done l.mailbox × (l.turn ≡ length done) × (l.start ≡ size_of done)
      × WorksOnAll g.row.D.Denot (g.W.MessageWork.does l.fn.work) 1 done l.refused
      (work_state g.row.D.Denot (g.O.Sink.contents l.fn.out) (g.E.Sink.contents l.fn.err) l.fn.device)
      (work_state g.row.D.Denot (g.O.Sink.contents l.out) (g.E.Sink.contents l.err) l.device);
  ended : l.mailbox.ended ≡ true → IsAtEnd (g.S.Source.remaining l.input);
  same : l.mailbox.from_lines ≡ l.fn.from_lines;
  well : SameFailures
      (counts (g.S.Source.failures l.fn.input) (g.S.Source.read_count l.fn.input) (g.O.Sink.failures l.fn.out) (g.E.Sink.failures l.fn.err))
      (counts (g.S.Source.failures l.input) (g.S.Source.read_count l.input) (g.O.Sink.failures l.out) (g.E.Sink.failures l.err));
  device : g.W.MessageWork.failures l.fn.work l.device ≡ g.W.MessageWork.failures l.fn.work l.fn.device;
  unfinished : g.O.Sink.finishes l.out ≡ g.O.Sink.finishes l.fn.out;
  turns : l.turn ≤ l.start;
  count : (l.start + length l.mailbox.kept + read_limit * g.S.Source.read_count l.fn.input ≤ read_limit * g.S.Source.read_count l.input) ⊎ IsFull (g.S.Source.read_count l.input);
}
