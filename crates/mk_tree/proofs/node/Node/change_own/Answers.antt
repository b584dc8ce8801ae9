use Rattle.std.proofs.Common.{arith}
use Rattle.mk_tree.specs.declared.node.Node.TheViews.{out-Node}
use Rattle.mk_tree.proofs.OwnNodes.{part_fits, part_there, part_put, part_gone}
use Rattle.mk_tree.proofs.node.Node.change_own.Goals as goal

pub insert-requires : goal.insert-requires
insert-requires c = omega (arith, (out-Node c.args.self.now).parts.ok.0, part_fits c.in-Part.place c.args.count c.args.self.now c.in-Part.node c.args.own c.in-Part.is c.requires.fits)

pub remove-requires : goal.remove-requires
remove-requires c = omega (arith, (out-Node c.args.self.now).parts.ok.0, part_there c.in-NoPart.place c.args.count c.args.self.now c.args.own c.in-NoPart.is c.requires.fits)

pub returns-in_ok-insert-in-Part-clause-ok : goal.returns-in_ok-insert-in-Part-clause-ok
returns-in_ok-insert-in-Part-clause-ok c =
    part_put c.in-Part.place c.args.count c.args.added c.args.self.now c.in-Part.node c.resize-in-Part.new.self c.args.own c.insert.new.self c.in-Part.is c.requires.fits c.in_ok-insert-in-Part.ensures.items c.resize-in-Part.ensures

pub returns-in-NoPart-clause-ok : goal.returns-in-NoPart-clause-ok
returns-in-NoPart-clause-ok c = part_gone c.in-NoPart.place c.args.count c.args.added c.args.self.now c.resize-in-NoPart.new.self c.args.own c.remove.new.self c.in-NoPart.is c.remove.ensures.items c.resize-in-NoPart.ensures
