-- Answers in memory as what is said.
use Rattle.mk_transfer.specs.Said.{Said}
use Rattle.mk_show.specs.declared.answers.Answer.{Answer}

-- what an answer says
abbrev pub said_of_answer : Answer → Said
said_of_answer a = record { output = a.output.items; errors = a.errors.items }
