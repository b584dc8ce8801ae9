use Rattle.std.proofs.Common.{◌≡◌, ℕ, List, drop, map}
use Rattle.mk_edit.specs.Histories.{started}
use Rattle.mk_field.specs.FilterViews.{round_of}
use Rattle.mk_field.proofs.RoundLemmas.{SoFar}
use Rattle.mk_field.proofs.fields.edit_in_rounds.Given as goal

abbrev pub invariant-loop-round : goal.invariant-loop-round
invariant-loop-round l = (text : List ℕ) → l.fn.session ≡ started text → SoFar l.path (map round_of l.rounds) (map round_of (drop l.round-index l.rounds)) text l.session
