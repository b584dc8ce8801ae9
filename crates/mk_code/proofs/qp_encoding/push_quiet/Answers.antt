use Rattle.std.proofs.Common.{refl, arith, add-zero}
use Rattle.mk_code.proofs.Packing.{copied}
use Rattle.mk_code.proofs.qp_encoding.push_quiet.Goals as goal

pub returns-clause-told : goal.returns-clause-told
returns-clause-told c =
    copied c.args.out.now.items _ c.args.rest.now c.args.column c.run_of-size.result c.min-room.result c.requires c.run_of-size.ensures.front c.run_of-size.ensures.within (omega arith) c.in_ok-extend_from_slice.ensures.items

pub returns-then-size-eq0-clause-told : goal.returns-then-size-eq0-clause-told
returns-then-size-eq0-clause-told c = λ eol. rw add-zero refl
