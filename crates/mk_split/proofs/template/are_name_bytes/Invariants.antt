use Rattle.std.proofs.Common.{◌≡◌, drop}
use Rattle.std.specs.List.{list_all}
use Rattle.mk_split.specs.Templates.{is_template_byte}
use Rattle.mk_split.proofs.template.are_name_bytes.Given as goal

abbrev pub invariant-loop-byte : goal.invariant-loop-byte
invariant-loop-byte l = list_all is_template_byte (drop l.byte-index l.text) ≡ list_all is_template_byte l.text
