use Rattle.std.proofs.Common.{◌≡◌, ◌++◌, false, map}
use Rattle.mk_line.specs.Lines.{cut}
use Rattle.mk_head.specs.Fields.{fields_of}
use Rattle.mk_head.specs.Split.{fields_from}
use Rattle.mk_mail.specs.LetterWork.{texts_of}
use Rattle.mk_mail.proofs.section_names.names_in.Given as goal

abbrev pub invariant-loop-field : goal.invariant-loop-field
invariant-loop-field l = texts_of l.names.items ++ map (λ f. f.name) l.field-iterator ≡ map (λ f. f.name) (fields_of (fields_from false (cut l.head)))
