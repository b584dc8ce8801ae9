use Rattle.std.proofs.Common.{◌≡◌, drop, false}
use Rattle.mk_wording.specs.Parameters.{ends_quoted}
use Rattle.mk_wording.proofs.parameters.ends_quoted.Given as goal

abbrev pub invariant-loop-place : goal.invariant-loop-place
invariant-loop-place l = ends_quoted l.is_escaped (drop l.place l.text) ≡ ends_quoted false l.text
