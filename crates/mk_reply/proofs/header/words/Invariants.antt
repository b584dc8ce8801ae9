use Rattle.std.proofs.Common.{◌≡◌, false}
use Rattle.mk_line.specs.Lines.{cut}
use Rattle.mk_head.specs.Fields.{fields_of}
use Rattle.mk_head.specs.Split.{fields_from}
use Rattle.mk_reply.specs.Replies.{words_of_name}
use Rattle.mk_reply.proofs.header.words.Given as goal

abbrev pub invariant-loop-field : goal.invariant-loop-field
invariant-loop-field l = words_of_name l.name l.field-iterator ≡ words_of_name l.name (fields_of (fields_from false (cut l.head)))
