use Rattle.std.proofs.Common.{refl, ap, subst, sym, ◌∙◌, ◌<◌, ◌+◌, ◌-◌, ◌^◌, arith, length}
use Rattle.mk_tree.specs.Documents.{tree}
use Rattle.mk_tree.specs.Nodes.{node_span}
use Rattle.mk_tree.specs.Planning.{Puts}
use Rattle.mk_splice.specs.Splices.{spliced}
use Rattle.mk_tree.proofs.Spliced.{put_within, put_changed}
use Rattle.mk_tree.proofs.doc.Doc.put.Goals as goal

pub change-requires : goal.change-requires
change-requires c =
    let h = subst (λ xs. Puts c.args.path.now c.args.text.now (tree xs) c.args.plan) (sym c.self.view_is) c.requires in
    let room : length c.self.inside.text.bytes + (length c.args.text.now - c.args.plan.count) < 2 ^ 64 = c.in_ok-reserve.ensures.fits in
    (put_changed c.args.path.now c.args.text.now c.self.inside.text.bytes (spliced c.args.plan.place c.args.plan.count c.args.text.now c.self.inside.text.bytes) c.args.plan (node_span c.self.inside.root) c.self.inside.envelope h c.self.invariant.lengths c.self.invariant.front refl room).leads

pub replace_within-requires-clause-inside : goal.replace_within-requires-clause-inside
replace_within-requires-clause-inside c =
    omega (arith, put_within c.args.path.now c.args.text.now c.args.self.now c.args.plan c.requires, ap length c.self.view_is, ap length c.reserve.ensures.same)

pub reserve-requires : goal.reserve-requires
reserve-requires c = omega (arith, put_within c.args.path.now c.args.text.now c.args.self.now c.args.plan c.requires, ap length c.self.view_is)

pub invariant_of-self-2 : goal.invariant_of-self-2
invariant_of-self-2 c =
    let h = subst (λ xs. Puts c.args.path.now c.args.text.now (tree xs) c.args.plan) (sym c.self.view_is) c.requires in
    let room : length c.self.inside.text.bytes + (length c.args.text.now - c.args.plan.count) < 2 ^ 64 = c.in_ok-reserve.ensures.fits in
    let after = c.replace_within.ensures.bytes ∙ ap (spliced c.args.plan.place c.args.plan.count c.args.text.now) c.reserve.ensures.same in
    let s = put_changed c.args.path.now c.args.text.now c.self.inside.text.bytes c.replace_within.new.self.bytes c.args.plan (node_span c.self.inside.root) c.self.inside.envelope h c.self.invariant.lengths c.self.invariant.front after room in
    record { lengths = c.in_ok-change.ensures.ok ∙ s.lengths; front = s.front }
