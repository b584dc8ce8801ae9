use Rattle.std.proofs.Common.{◌∙◌, ap}
use Rattle.mk_mail.specs.LetterViews.{letters_of}
use Rattle.mk_mail.specs.Letters.{are_allowed}
use Rattle.mk_field.proofs.FilterLemmas.{allowed_for}
use Rattle.mk_field.proofs.filters.Round.edits_at.Goals as goal

pub field_edits_at-requires : goal.field_edits_at-requires
field_edits_at-requires c =
    ap are_allowed c.by_ending.ensures
    ∙ allowed_for (letters_of c.in-Letters.lf.now) (letters_of c.in-Letters.crlf.now) c.text.result.now (rw c.in-Letters.is at c.requires)
