use Rattle.std.proofs.Common.{◌≡◌, ◌++◌, ◌≤◌, length, map, drop, take, vec_len, vec_capacity}
use Rattle.mk_edit.specs.Histories.{after_all, replies}
use Rattle.mk_edit.specs.Answers.{reply_of}
use Rattle.mk_edit.specs.Views.{order_of}
use Rattle.mk_edit.proofs.Obeying.{told}
use Rattle.mk_edit.proofs.session.Session.obey_all.Given as goal

abbrev pub invariant-loop-command : goal.invariant-loop-command
invariant-loop-command l = record {
  told : map reply_of l.all.items ++ told (replies (map order_of (drop l.command-index l.commands)) l.self) ≡ told (replies (map order_of l.commands) l.fn.self);
  rest : after_all (map order_of (drop l.command-index l.commands)) l.self ≡ after_all (map order_of l.commands) l.fn.self;
  front : l.self ≡ after_all (take l.command-index (map order_of l.commands)) l.fn.self;
  size : vec_len l.all ≡ l.command-index;
  room : length l.commands ≤ vec_capacity l.all;
}
