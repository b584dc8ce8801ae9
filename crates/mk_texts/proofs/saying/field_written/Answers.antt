use Rattle.std.proofs.Common.{◌∙◌}
use Rattle.mk_wording.specs.Wording.{field_kind}
use Rattle.mk_texts.proofs.FieldsSaid.{raw_stays, words_stay}
use Rattle.mk_texts.proofs.saying.field_written.Goals.{else-are_ascii-via-then-are_ascii+in_ok-reads_words+else-branch, else-are_ascii-via-else-are_ascii}
use Rattle.mk_texts.proofs.saying.field_written.Goals as goal

pub returns-else-are_ascii : goal.returns-else-are_ascii
returns-else-are_ascii c = c.in_ok-plain.ensures ∙ elim c.else-are_ascii.branch [
  | else-are_ascii-via-then-are_ascii+in_ok-reads_words+else-branch w ↦
      words_stay c.args.eol c.args.field.raw.now w.kind_of.result (field_kind c.args.field.name.now) c.args.field.name.now c.args.field.value.now c.args.text.now w.in_ok-reads_words.field-0 w.kind_of.ensures w.in_ok-reads_words.ensures w.if-branch.false
  | else-are_ascii-via-else-are_ascii w ↦
      raw_stays c.args.eol c.args.field.raw.now (field_kind c.args.field.name.now) c.args.field.name.now c.args.field.value.now c.args.text.now c.are_ascii.result c.are_ascii.ensures w.if-are_ascii.false
]
