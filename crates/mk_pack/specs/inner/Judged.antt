-- What is to go out of a message or a part, or what is said against it.
use Rattle.std.specs.Prelude.{[], Result, Ok, Err}
use Rattle.mk_build.specs.Pieces.{ToCome}
use Rattle.mk_transfer.specs.Said.{Run, shown}
use Rattle.mk_show.specs.declared.answers.Answer.{Answer}
use Rattle.mk_show.specs.Shown.{run_of_answer}

-- as a run: pieces go to the output
abbrev pub run_of_judged : Result ToCome Answer → Run
run_of_judged (Ok pieces) = shown pieces.bytes []
run_of_judged (Err answer) = run_of_answer answer
