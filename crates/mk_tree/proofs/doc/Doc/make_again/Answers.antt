use Rattle.std.proofs.Common.{ℕ, List, ap, arith, length, map, sym, ◌∙◌, subst}
use Rattle.mk_splice.specs.Peaks.{most_forth}
use Rattle.mk_splice.specs.Views.{splice_of}
use Rattle.mk_splice.proofs.Splicings.{most_start_forth}
use Rattle.mk_tree.specs.Layouts.{IsTreeOver}
use Rattle.mk_tree.proofs.Stepped.{asked_holds, peak_is, room_back, made_again}
use Rattle.mk_tree.proofs.doc.Doc.make_again.Goals as goal

pub reserve_whole-requires : goal.reserve_whole-requires
reserve_whole-requires c = asked_holds c.peak_forth.result _ _ _ c.peak_forth.ensures.some c.unwrap_or-most.ensures (omega (arith, ap length c.bytes.ensures, most_start_forth (map splice_of c.args.step.now) (length c.bytes.result.now))) (omega (arith, ap length c.bytes.ensures))

pub make_again_in-requires-clause-room : goal.make_again_in-requires-clause-room
make_again_in-requires-clause-room c =
    let long = ap (λ (text : List ℕ). most_forth (map splice_of c.args.step.now) (length text)) (c.reserve_whole.ensures.same ∙ sym c.bytes.ensures) in
    omega (arith, long, peak_is c.peak_forth.result _ _ c.peak_forth.ensures.some c.unwrap_or-most.ensures c.in_ok-reserve_whole.ensures.small, c.in_ok-reserve_whole.ensures.room)

pub take_back_in-requires-clause-room : goal.take_back_in-requires-clause-room
take_back_in-requires-clause-room c =
    let long = ap (λ (text : List ℕ). most_forth (map splice_of c.args.step.now) (length text)) (c.reserve_whole.ensures.same ∙ sym c.bytes.ensures) in
    room_back (map splice_of c.args.step.now) c.args.self.now c.reserve_whole.new.self.bytes c.make_again_in.new.text.bytes c.reserve_whole.new.self.capacity c.make_again_in.new.text.capacity
    (c.reserve_whole.ensures.same ∙ c.self.view_is) c.make_again_in.ensures.bytes c.requires (omega (arith, long, peak_is c.peak_forth.result _ _ c.peak_forth.ensures.some c.unwrap_or-most.ensures c.in_ok-reserve_whole.ensures.small, c.in_ok-reserve_whole.ensures.room)) c.make_again_in.ensures.capacity

pub take_back_in-requires-clause-goes : goal.take_back_in-requires-clause-goes
take_back_in-requires-clause-goes c =
    (made_again (map splice_of c.args.step.now) c.args.self.now c.reserve_whole.new.self.bytes c.make_again_in.new.text.bytes (c.reserve_whole.ensures.same ∙ c.self.view_is) c.make_again_in.ensures.bytes c.requires).0

pub returns-in-Err-clause-err : goal.returns-in-Err-clause-err
returns-in-Err-clause-err c =
    c.take_back_in.ensures.bytes
    ∙ (made_again (map splice_of c.args.step.now) c.args.self.now c.reserve_whole.new.self.bytes c.make_again_in.new.text.bytes (c.reserve_whole.ensures.same ∙ c.self.view_is) c.make_again_in.ensures.bytes c.requires).1

pub invariant_of-self-in-Err : goal.invariant_of-self-in-Err
invariant_of-self-in-Err c =
    let P : List ℕ → Type 0 = λ text. IsTreeOver c.self.inside.root c.self.inside.envelope text in
    let same =
    c.take_back_in.ensures.bytes
    ∙ (made_again (map splice_of c.args.step.now) c.args.self.now c.reserve_whole.new.self.bytes c.make_again_in.new.text.bytes (c.reserve_whole.ensures.same ∙ c.self.view_is) c.make_again_in.ensures.bytes c.requires).1 in
    subst P (c.self.view_is ∙ sym same) c.self.invariant
