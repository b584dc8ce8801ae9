use Rattle.std.proofs.Common.{ℕ, List, ap, arith, length, map, sym, ◌∙◌, subst}
use Rattle.mk_splice.specs.Peaks.{most_back}
use Rattle.mk_splice.specs.Views.{splice_of}
use Rattle.mk_splice.proofs.Splicings.{most_start}
use Rattle.mk_tree.specs.Layouts.{IsTreeOver}
use Rattle.mk_tree.proofs.Stepped.{asked_holds, peak_is, room_forth, taken_back}
use Rattle.mk_tree.proofs.doc.Doc.take_back.Goals as goal

pub reserve_whole-requires : goal.reserve_whole-requires
reserve_whole-requires c = asked_holds c.peak_back.result _ _ _ c.peak_back.ensures.some c.unwrap_or-most.ensures (omega (arith, ap length c.bytes.ensures, most_start (map splice_of c.args.step.now) (length c.bytes.result.now))) (omega (arith, ap length c.bytes.ensures))

pub take_back_in-requires-clause-room : goal.take_back_in-requires-clause-room
take_back_in-requires-clause-room c =
    let long = ap (λ (text : List ℕ). most_back (map splice_of c.args.step.now) (length text)) (c.reserve_whole.ensures.same ∙ sym c.bytes.ensures) in
    omega (arith, long, peak_is c.peak_back.result _ _ c.peak_back.ensures.some c.unwrap_or-most.ensures c.in_ok-reserve_whole.ensures.small, c.in_ok-reserve_whole.ensures.room)

pub make_again_in-requires-clause-room : goal.make_again_in-requires-clause-room
make_again_in-requires-clause-room c =
    let long = ap (λ (text : List ℕ). most_back (map splice_of c.args.step.now) (length text)) (c.reserve_whole.ensures.same ∙ sym c.bytes.ensures) in
    room_forth (map splice_of c.args.step.now) c.args.self.now c.reserve_whole.new.self.bytes c.take_back_in.new.text.bytes c.reserve_whole.new.self.capacity c.take_back_in.new.text.capacity
    (c.reserve_whole.ensures.same ∙ c.self.view_is) c.take_back_in.ensures.bytes c.requires (omega (arith, long, peak_is c.peak_back.result _ _ c.peak_back.ensures.some c.unwrap_or-most.ensures c.in_ok-reserve_whole.ensures.small, c.in_ok-reserve_whole.ensures.room)) c.take_back_in.ensures.capacity

pub make_again_in-requires-clause-goes : goal.make_again_in-requires-clause-goes
make_again_in-requires-clause-goes c =
    (taken_back (map splice_of c.args.step.now) c.args.self.now c.reserve_whole.new.self.bytes c.take_back_in.new.text.bytes (c.reserve_whole.ensures.same ∙ c.self.view_is) c.take_back_in.ensures.bytes c.requires).0

pub returns-in-Err-clause-err : goal.returns-in-Err-clause-err
returns-in-Err-clause-err c =
    c.make_again_in.ensures.bytes
    ∙ (taken_back (map splice_of c.args.step.now) c.args.self.now c.reserve_whole.new.self.bytes c.take_back_in.new.text.bytes (c.reserve_whole.ensures.same ∙ c.self.view_is) c.take_back_in.ensures.bytes c.requires).1

pub invariant_of-self-in-Err : goal.invariant_of-self-in-Err
invariant_of-self-in-Err c =
    let P : List ℕ → Type 0 = λ text. IsTreeOver c.self.inside.root c.self.inside.envelope text in
    let same =
    c.make_again_in.ensures.bytes
    ∙ (taken_back (map splice_of c.args.step.now) c.args.self.now c.reserve_whole.new.self.bytes c.take_back_in.new.text.bytes (c.reserve_whole.ensures.same ∙ c.self.view_is) c.take_back_in.ensures.bytes c.requires).1 in
    subst P (c.self.view_is ∙ sym same) c.self.invariant
