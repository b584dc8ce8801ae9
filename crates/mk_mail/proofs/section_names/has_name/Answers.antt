use Rattle.std.proofs.Common.{ap, sym, ◌∙◌, ◌+◌, drop, arith}
use Rattle.std.specs.Cow.{cow_slice_items}
use Rattle.mk_mail.specs.Letters.{same_name}
use Rattle.mk_mail.specs.LetterWork.{texts_of}
use Rattle.mk_build.proofs.Failing.{from_index}
use Rattle.mk_build.proofs.Failing.{any_hit, any_miss}
use Rattle.mk_mail.proofs.section_names.has_name.Goals as goal

pub returns-then-is_same : goal.returns-then-is_same
returns-then-is_same c =
    let names = c.args.names.now in
    let i = c.loop-own.own-index in
    let x = c.own-item.result in
    let p = same_name c.args.name.now in
    any_hit p (drop i (texts_of names)) (texts_of names) (drop (i + 1) (texts_of names)) (cow_slice_items x) (from_index cow_slice_items i names x (omega (arith, c.loop-own-test.true)) c.own-item.is)
    (ap p (sym c.deref.ensures.value) ∙ (sym c.is_same.ensures ∙ c.if-is_same.true)) c.loop-own.invariant

pub loop-own-preserved : goal.loop-own-preserved
loop-own-preserved c =
    let names = c.args.names.now in
    let i = c.loop-own.own-index in
    let x = c.own-item.result in
    let p = same_name c.args.name.now in
    any_miss p (drop i (texts_of names)) (texts_of names) (drop (i + 1) (texts_of names)) (cow_slice_items x) (from_index cow_slice_items i names x (omega (arith, c.loop-own-test.true)) c.own-item.is)
    (ap p (sym c.deref.ensures.value) ∙ (sym c.is_same.ensures ∙ c.if-is_same.false)) c.loop-own.invariant
