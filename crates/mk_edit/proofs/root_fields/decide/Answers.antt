use Rattle.std.proofs.Common.{◌+◌, ◌-◌, ◌∙◌, ap, arith, length, sym}
use Rattle.mk_decide.specs.LocalAnswers.{opens_at, plain_splice}
use Rattle.mk_edit.specs.SilentEdits.{numbered}
use Rattle.mk_edit.specs.inner.Gaps.{without_gap}
use Rattle.mk_edit.proofs.GapFields.{opens_there, parts_size}
use Rattle.mk_edit.proofs.RootEdits.{root_fit, put_root, opens_root}
use Rattle.mk_edit.proofs.root_fields.decide.Goals as goal

pub overflow_add-place : goal.overflow_add-place
overflow_add-place c =
    let fit = root_fit (without_gap c.args.text.now) c.args.start c.args.size (numbered c.args.edit.now c.args.edit.now.k) c.in_ok-put.put c.requires.fields c.in_ok-put.ensures.ok in
    omega (arith, fit.within, ap length c.in_ok-put.ensures.same)

pub opens_early-requires : goal.opens_early-requires
opens_early-requires c =
    let fit = root_fit (without_gap c.args.text.now) c.args.start c.args.size (numbered c.args.edit.now c.args.edit.now.k) c.in_ok-put.put c.requires.fields c.in_ok-put.ensures.ok in
    omega (arith, fit.within, ap length c.in_ok-put.ensures.same, parts_size c.put_in.new.text, ap length c.rest.ensures, c.in_ok-put.ensures.after)

pub returns-then-opens_early-clause-err : goal.returns-then-opens_early-clause-err
returns-then-opens_early-clause-err c =
    let put = c.in_ok-put.put in
    let edit = numbered c.args.edit.now c.args.edit.now.k in
    let fit = root_fit (without_gap c.args.text.now) c.args.start c.args.size edit put c.requires.fields c.in_ok-put.ensures.ok in
    let opens = opens_there (without_gap c.args.text.now) c.put_in.new.text c.rest.result.now (c.args.start + put.from) c.front_len-front.result put.count put.lines.items c.in_ok-put.ensures.same c.rest.ensures c.front_len-front.ensures.front c.in_ok-put.ensures.after fit.before_end in
    opens_root (without_gap c.args.text.now) c.args.start c.args.size edit put c.requires.fields c.in_ok-put.ensures.ok
    (sym opens ∙ (ap (opens_at c.rest.result.now (c.args.start + put.from - c.front_len-front.result) put.count) (sym c.deref.ensures.value) ∙ (sym c.opens_early.ensures ∙ c.if-opens_early.true)))

pub splice_of-requires-clause-stays : goal.splice_of-requires-clause-stays
splice_of-requires-clause-stays c = (root_fit (without_gap c.args.text.now) c.args.start c.args.size (numbered c.args.edit.now c.args.edit.now.k) c.in_ok-put.put c.requires.fields c.in_ok-put.ensures.ok).stays

pub splice_of-requires-clause-within : goal.splice_of-requires-clause-within
splice_of-requires-clause-within c = (root_fit (without_gap c.args.text.now) c.args.start c.args.size (numbered c.args.edit.now c.args.edit.now.k) c.in_ok-put.put c.requires.fields c.in_ok-put.ensures.ok).kept

pub returns-clause-ok : goal.returns-clause-ok
returns-clause-ok c =
    let put = c.in_ok-put.put in
    let edit = numbered c.args.edit.now c.args.edit.now.k in
    let fit = root_fit (without_gap c.args.text.now) c.args.start c.args.size edit put c.requires.fields c.in_ok-put.ensures.ok in
    let opens = opens_there (without_gap c.args.text.now) c.put_in.new.text c.rest.result.now (c.args.start + put.from) c.front_len-front.result put.count put.lines.items c.in_ok-put.ensures.same c.rest.ensures c.front_len-front.ensures.front c.in_ok-put.ensures.after fit.before_end in
    put_root (without_gap c.args.text.now) c.args.start c.args.size c.args.edit.now put (plain_splice c.splice_of.result) c.requires.fields c.requires.silent c.in_ok-put.ensures.ok
    (sym opens ∙ (ap (opens_at c.rest.result.now (c.args.start + put.from - c.front_len-front.result) put.count) (sym c.deref.ensures.value) ∙ (sym c.opens_early.ensures ∙ c.if-opens_early.false)))
    c.splice_of.ensures.place c.splice_of.ensures.count c.splice_of.ensures.new
