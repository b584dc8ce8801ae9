use Rattle.std.proofs.Common.{◌≡◌, drop}
use Rattle.mk_show.specs.Chosen.{is_within}
use Rattle.mk_script.specs.ScriptViews.{items_of}
use Rattle.mk_show.proofs.choosing.is_within.Given as goal

abbrev pub invariant-loop-section : goal.invariant-loop-section
invariant-loop-section l = is_within (items_of (drop l.section-index l.sections)) l.path ≡ is_within (items_of l.sections) l.path
