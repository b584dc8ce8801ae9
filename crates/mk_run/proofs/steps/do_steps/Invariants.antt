use Rattle.std.proofs.Common.{◌≡◌, map, not, List, ℕ, ◌++◌}
use Rattle.std.specs.Vec.Iter.{into_iter_items}
use Rattle.std.specs.Io.KnownBytes.{Appends}
use Rattle.mk_line.specs.Lines.{is_nil}
use Rattle.mk_run.specs.Runs.{history_after, errors_of}
use Rattle.mk_expand.specs.Views.{pieces_of}
use Rattle.mk_script.specs.ScriptViews.{step_by}
use Rattle.mk_run.proofs.steps.do_steps.Given as goal

abbrev pub invariant-loop-step : goal.invariant-loop-step
invariant-loop-step g l = record {
  done : history_after (pieces_of l.pieces) (map step_by (into_iter_items l.step-iterator)) l.session ≡ history_after (pieces_of l.pieces) (map step_by l.fn.steps.items) l.fn.session;
  sent : (front : List ℕ) × (errors_of (pieces_of l.pieces) (map step_by l.fn.steps.items) l.fn.session ≡ front ++ errors_of (pieces_of l.pieces) (map step_by (into_iter_items l.step-iterator)) l.session)
      × Appends (g.E.Sink.contents l.fn.err) (g.E.Sink.contents l.err) front × (l.refused ≡ not (is_nil front));
  well : g.E.Sink.failures l.err ≡ g.E.Sink.failures l.fn.err;
}
