use Rattle.std.proofs.Common.{◌∙◌, ◌++◌, map}
use Rattle.mk_decide.specs.Edits.{RemoveField}
use Rattle.mk_mail.specs.Letters.{added_full, name_in, others, removed_all, those}
use Rattle.mk_mail.specs.LetterWork.{plain_edits, texts_of, work_of}
use Rattle.mk_mail.proofs.FieldNames.{chained}
use Rattle.mk_line.proofs.Joined.{on_ok}
use Rattle.mk_mail.proofs.filtering.Filter.replace.Goals as goal

pub returns : goal.returns
returns c =
    let name = c.name_of.ensures in
    let names = c.take_names-names.ensures.names in
    on_ok c.add_full.result _ _ c.add_full.ensures
    (λ h.
    h
    ∙ chained (work_of c.args.self.now) (record { names = texts_of c.in_ok-self.field-0.items; edits = plain_edits c.remove_all.new.edits.items }) (added_full c.args.path.now c.args.eol c.args.field.now) (removed_all c.args.path.now (name_in c.args.field.now))
    (λ i. record {
      names = (c.in_ok-self.ensures.names ∙ (λ j. others (name j) (names j))) i;
      edits = (c.in_ok-self.ensures.edits ∙ (λ j. plain_edits (c.take_names-names.ensures.edits j) ++ map (λ own. RemoveField c.args.path.now (name j) 1) (those (name j) (names j)))) i;
    }))
