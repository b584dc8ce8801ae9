-- What a run does, as plain data; for private contracts.
use Rattle.std.specs.Prelude.{Bool, true, map}
use Rattle.std.specs.List.{list_all}
use Rattle.mk_expand.specs.Views.{pieces_of}
use Rattle.mk_script.specs.ScriptViews.{step_by}
use Rattle.mk_field.specs.FilterViews.{is_round, round_of}
use Rattle.mk_run.specs.declared.work.Work.{Work}
use Rattle.mk_run.specs.declared.work.Work.TheVariants.{Steps, Rounds}
use Rattle.mk_run.specs.Runs.{Doing, DoesSteps, DoesRounds}

-- what is to be done as it is
abbrev pub doing_of : Work → Doing
doing_of (Steps steps pieces) = DoesSteps (pieces_of pieces) (map step_by steps.items)
doing_of (Rounds path rounds) = DoesRounds path.now (map round_of rounds.now)

-- rounds may be made where their letters may be asked for
abbrev pub may_be_done : Doing → Bool
may_be_done (DoesSteps pieces steps) = true
may_be_done (DoesRounds path rounds) = list_all is_round rounds
