use Rattle.std.proofs.Common.{◌≡◌, drop}
use Rattle.std.specs.List.{list_any}
use Rattle.mk_mail.specs.Letters.{same_name}
use Rattle.mk_mail.specs.LetterWork.{texts_of}
use Rattle.mk_mail.proofs.section_names.has_name.Given as goal

abbrev pub invariant-loop-own : goal.invariant-loop-own
invariant-loop-own l = list_any (same_name l.name) (drop l.own-index (texts_of l.names)) ≡ list_any (same_name l.name) (texts_of l.names)
