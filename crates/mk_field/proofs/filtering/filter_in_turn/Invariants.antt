use Rattle.std.proofs.Common.{◌≡◌, ◌≤◌, ◌+◌, ◌*◌, ◌⊎◌, ℕ, List, true, length}
use Rattle.std.specs.Io.KnownBytes.{Consumes, IsAtEnd}
use Rattle.mk_mailbox.specs.Devices.{IsFull}
use Rattle.mk_field.specs.FilterViews.{filter_of}
use Rattle.mk_mailbox.specs.Mailboxes.{read_limit}
use Rattle.mk_transfer.specs.RunClauses.{SameFailures, counts}
use Rattle.mk_field.proofs.FilterLemmas.{AreOut}
use Rattle.mk_field.proofs.filtering.filter_in_turn.Given as goal

abbrev pub invariant-loop-turn : goal.invariant-loop-turn
invariant-loop-turn g l = record {
  told : (text : List ℕ) × (done : List (List ℕ)) × Consumes (g.S.Source.remaining l.fn.input) (g.S.Source.remaining l.input) text
      × AreOut (filter_of l.filter) l.turn l.refused text done l.mailbox l.gathered.items (g.O.Sink.contents l.fn.out) (g.O.Sink.contents l.out) (g.E.Sink.contents l.fn.err) (g.E.Sink.contents l.err);
  ended : l.mailbox.ended ≡ true → IsAtEnd (g.S.Source.remaining l.input);
  well : SameFailures
      (counts (g.S.Source.failures l.fn.input) (g.S.Source.read_count l.fn.input) (g.O.Sink.failures l.fn.out) (g.E.Sink.failures l.fn.err))
      (counts (g.S.Source.failures l.input) (g.S.Source.read_count l.input) (g.O.Sink.failures l.out) (g.E.Sink.failures l.err));
  unfinished : g.O.Sink.finishes l.out ≡ g.O.Sink.finishes l.fn.out;
  count : (l.turn + length l.mailbox.kept + read_limit * g.S.Source.read_count l.fn.input ≤ read_limit * g.S.Source.read_count l.input) ⊎ IsFull (g.S.Source.read_count l.input);
}
