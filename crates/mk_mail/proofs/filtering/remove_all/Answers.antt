use Rattle.std.proofs.Common.{◌≡◌, false, sym}
use Rattle.std.specs.List.{list_any}
use Rattle.mk_decide.specs.Edits.{RemoveField}
use Rattle.mk_mail.specs.Letters.{same_name}
use Rattle.mk_mail.specs.LetterWork.{plain_edits, texts_of}
use Rattle.mk_mail.proofs.LackedNames.{all_others, none_more}
use Rattle.mk_mail.proofs.filtering.remove_all.Goals as goal

pub returns-then-not-has_name-clause-names : goal.returns-then-not-has_name-clause-names
returns-then-not-has_name-clause-names c =
    let none : list_any (same_name c.args.name.now) (texts_of c.args.names.items) ≡ false = cc in
    sym (all_others c.args.name.now (texts_of c.args.names.items) none).0

pub returns-then-not-has_name-clause-edits : goal.returns-then-not-has_name-clause-edits
returns-then-not-has_name-clause-edits c =
    let none : list_any (same_name c.args.name.now) (texts_of c.args.names.items) ≡ false = cc in
    none_more (plain_edits c.args.edits.now.items) (λ own. RemoveField c.args.path.now c.args.name.now 1) (all_others c.args.name.now (texts_of c.args.names.items) none).1
