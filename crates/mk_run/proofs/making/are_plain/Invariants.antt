use Rattle.std.proofs.Common.{◌≡◌, map, drop}
use Rattle.std.specs.List.{list_all}
use Rattle.mk_expand.specs.Words.{is_plain}
use Rattle.mk_script.specs.ScriptViews.{numbered}
use Rattle.mk_run.proofs.making.are_plain.Given as goal

abbrev pub invariant-loop-word : goal.invariant-loop-word
invariant-loop-word l = list_all (λ w. is_plain w.1) (map numbered (drop l.word-index l.words)) ≡ list_all (λ w. is_plain w.1) (map numbered l.words)
