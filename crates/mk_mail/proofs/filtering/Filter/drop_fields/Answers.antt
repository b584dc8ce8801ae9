use Rattle.std.proofs.Common.{◌++◌, ◌∙◌, ap, filter, length, map, not}
use Rattle.std.proofs.lemmas.List.{nil_from_length}
use Rattle.mk_mail.specs.LetterViews.{pattern_of}
use Rattle.mk_mail.specs.LetterWork.{plain_edits, removal_by, texts_of, work_of}
use Rattle.mk_decide.specs.Edits.{RemoveField}
use Rattle.mk_mail.specs.Letters.{goes}
use Rattle.mk_mail.proofs.FieldNames.{both_zero, none_dropped}
use Rattle.mk_mail.proofs.filtering.Filter.drop_fields.Goals as goal

pub returns-then-is_nothing : goal.returns-then-is_nothing
returns-then-is_nothing c =
    let r = c.args.removal.now in
    let none = both_zero (length r.drops.now) (length r.keeps.now) c.is_nothing.result c.is_nothing.ensures c.if-is_nothing.true in
    none_dropped c.args.path.now (work_of c.args.self.now) (map pattern_of r.drops.now) (map pattern_of r.keeps.now) r.only
    (ap (map pattern_of) (nil_from_length r.drops.now none.0)) (ap (map pattern_of) (nil_from_length r.keeps.now none.1))

pub returns : goal.returns
returns c =
    let path = c.args.path.now in
    let r = removal_by c.args.removal.now in
    let taken = c.take_names-names.ensures in
    λ i. record {
      names = (c.in_ok-self.ensures.names ∙ ap (filter (λ own. not (goes r own))) taken.names) i;
      edits = (c.in_ok-self.ensures.edits ∙ (λ j. plain_edits (taken.edits j) ++ map (λ own. RemoveField path own 1) (filter (goes r) (taken.names j)))) i;
    }
