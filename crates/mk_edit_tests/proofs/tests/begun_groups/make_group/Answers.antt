use Rattle.std.proofs.Common.{◌∙◌, ap, map}
use Rattle.mk_edit.specs.Histories.{after_all, first_text, started, text_now}
use Rattle.mk_edit.specs.Views.{order_of}
use Rattle.mk_edit.proofs.GroupLaws.{first_texts_stay_lem}
use Rattle.mk_edit.proofs.Leading.{texts_start_lem}
use Rattle.mk_edit_tests.proofs.tests.begun_groups.make_group.Goals as goal

pub commit-requires : goal.commit-requires
commit-requires c =
    let x = text_now c.args.session.now in
    let orders = map order_of c.args.commands.now in
    ap first_text (c.in_ok-obey_all.ensures.history ∙ ap (after_all orders) c.in_ok-group.ensures) ∙ first_texts_stay_lem (started x) orders (texts_start_lem x).0
