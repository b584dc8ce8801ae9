use Rattle.std.proofs.Common.{subst, sym, arith, Result, Ok, Err, OnErr}
use Rattle.std.specs.declared.alloc.AllocError.{AllocError}
use Rattle.mk_tree.specs.declared.node.Node.TheViews.{out-Node}
use Rattle.mk_tree.specs.Nodes.{node_span}
use Rattle.mk_tree.specs.Changed.{FitsOwn, LeadsTo, own_changed}
use Rattle.mk_tree.proofs.ChangedNodes.{leads, part_changed, part_stayed}
use Rattle.mk_tree.proofs.node.Node.+change.Goals as goal

pub overflow_sub-number : goal.overflow_sub-number
overflow_sub-number t c =
    (leads c.in-Some.number.now c.args.numbers.now c.in-Some.rest.now c.args.count c.args.added (FitsOwn c.args.own c.args.count) c.args.self.now c.args.self.now c.in-Some.ensures.cases.0 c.requires).counts

pub index_mut-requires : goal.index_mut-requires
index_mut-requires t c =
    omega (
      arith,
      (out-Node c.args.self.now).parts.ok.0,
      (leads c.in-Some.number.now c.args.numbers.now c.in-Some.rest.now c.args.count c.args.added (FitsOwn c.args.own c.args.count) c.args.self.now c.args.self.now c.in-Some.ensures.cases.0 c.requires).within,
    )

pub change-requires : goal.change-requires
change-requires t c = (
  omega (arith, c.decreases, c.in-Some.ensures.cases.1),
  subst (λ n. LeadsTo c.in-Some.rest.now c.args.count c.args.added (FitsOwn c.args.own c.args.count) (node_span n)) (sym c.index_mut.ensures.value)
      (leads c.in-Some.number.now c.args.numbers.now c.in-Some.rest.now c.args.count c.args.added (FitsOwn c.args.own c.args.count) c.args.self.now c.index_mut.result.now c.in-Some.ensures.cases.0 c.requires).meets,
)

-- what holds anyway holds where the answer is running out of memory
on_err : {A : Type 0} (r : Result A AllocError) (P : Type 0) → P → OnErr r P
on_err (Ok x) P h = tt
on_err (Err e) P h = h

pub returns-in_err-change-in-Some-clause-err : goal.returns-in_err-change-in-Some-clause-err
returns-in_err-change-in-Some-clause-err t c =
    on_err c.from_residual.result _
    (part_stayed c.in-Some.number.now c.args.numbers.now c.in-Some.rest.now c.args.count c.args.added (FitsOwn c.args.own c.args.count) c.args.self.now c.index_mut.result.now c.change.new.self c.in-Some.ensures.cases.0 c.requires c.index_mut.ensures.value
    c.in_err-change-in-Some.ensures.err)

pub returns-in_ok-change-in-Some-clause-ok : goal.returns-in_ok-change-in-Some-clause-ok
returns-in_ok-change-in-Some-clause-ok t c =
    part_changed c.in-Some.number.now c.args.numbers.now c.in-Some.rest.now c.args.count c.args.added (FitsOwn c.args.own c.args.count) (own_changed c.args.own c.args.count c.args.added) c.args.self.now c.index_mut.result.now c.change.new.self c.resize.new.self
    c.in-Some.ensures.cases.0 c.requires c.index_mut.ensures.value c.in_ok-change-in-Some.ensures.ok c.resize.ensures
