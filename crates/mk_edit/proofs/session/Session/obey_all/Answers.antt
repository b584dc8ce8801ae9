use Rattle.std.proofs.Common.{◌∙◌, Some, ap, arith}
use Rattle.mk_edit.specs.Histories.{step}
use Rattle.mk_edit.proofs.HistoryNames.{after}
use Rattle.std.specs.Result.{result_err}
use Rattle.mk_edit.specs.Views.{order_of}
use Rattle.mk_edit.proofs.Obeying.{told_next, rest_next, front_next}
use Rattle.mk_edit.proofs.session.Session.obey_all.Goals as goal

pub loop-command-preserved : goal.loop-command-preserved
loop-command-preserved c =
    let same = c.command-item.is in
    let left = c.in_ok-reply.ensures.1 ∙ ap (λ k. after (order_of k) c.loop-command.self) same in
    record {
      told = told_next order_of c.args.commands.now c.loop-command.command-index c.command-item.result c.loop-command.all.items c.push_reserved.new.self.items _ c.in_ok-reply.reply c.loop-command.self c.reply.new.self c.loop-command-test.true
          (c.in_ok-reply.ensures.0 ∙ ap (λ k. Some (result_err (step (order_of k) c.loop-command.self))) same) left c.push_reserved.ensures.items c.loop-command.invariant.told;
      rest = rest_next order_of c.args.commands.now c.loop-command.command-index c.command-item.result c.loop-command.self c.reply.new.self _ c.loop-command-test.true left c.loop-command.invariant.rest;
      front = front_next order_of c.args.commands.now c.loop-command.command-index c.command-item.result c.loop-command.self c.reply.new.self _ c.loop-command-test.true left c.loop-command.invariant.front;
      size = omega (arith, c.push_reserved.ensures.len, c.loop-command.invariant.size);
      room = omega (arith, c.push_reserved.ensures.capacity, c.loop-command.invariant.room);
    }
