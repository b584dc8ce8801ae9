use Rattle.std.proofs.Common.{◌∙◌, sym}
use Rattle.mk_show.specs.Shown.{IsTaken}
use Rattle.mk_transfer.specs.RunClauses.{counts}
use Rattle.mk_transfer.proofs.Blames.{blame_stays, blamed_least}
use Rattle.mk_show.proofs.ShownLemmas.{Shows-ended, Shows-given_up}
use Rattle.mk_show.proofs.showing.run_extract.Goals as goal

pub returns-in-Ok-clause-leaves : goal.returns-in-Ok-clause-leaves
returns-in-Ok-clause-leaves g c =
    let left = c.in-Ok.ensures.leaves in
    (left.0, left.1, Shows-ended _ (IsTaken c.args.path.now left.0) c.in-Ok.status _ _ _ _ _ _ left.2)

pub returns-in-Err-clause-leaves : goal.returns-in-Err-clause-leaves
returns-in-Err-clause-leaves g c =
    let left = c.in-Err.ensures.leaves in (
      left.0,
      left.1,
      rw c.give_up.ensures.status (Shows-given_up _ (IsTaken c.args.path.now left.0) c.in-Err.cause _ _ _ _ _ _ _ left.2 (record {
        told = _;
        least = blamed_least c.in-Err.cause
            (counts (g.S.Source.failures c.args.input.now) (g.S.Source.read_count c.args.input.now) (g.O.Sink.failures c.args.out.now) (g.E.Sink.failures c.args.err.now))
            (counts (g.S.Source.failures c.try_extract.new.input) (g.S.Source.read_count c.try_extract.new.input) (g.O.Sink.failures c.try_extract.new.out) (g.E.Sink.failures c.try_extract.new.err)) c.in-Err.ensures.blamed;
        most = c.give_up.ensures.counted;
        borne = c.in-Err.ensures.blamed;
        front = c.give_up.ensures.line;
        whole = c.give_up.ensures.whole;
      })),
    )

pub returns-in-Err-clause-blamed : goal.returns-in-Err-clause-blamed
returns-in-Err-clause-blamed g c = λ fault.
    blame_stays c.in-Err.cause
    (counts (g.S.Source.failures c.args.input.now) (g.S.Source.read_count c.args.input.now) (g.O.Sink.failures c.args.out.now) (g.E.Sink.failures c.args.err.now))
    (counts (g.S.Source.failures c.try_extract.new.input) (g.S.Source.read_count c.try_extract.new.input) (g.O.Sink.failures c.try_extract.new.out) (g.E.Sink.failures c.give_up.new.err))
    (g.E.Sink.failures c.try_extract.new.err) c.in-Err.ensures.blamed c.give_up.ensures.counted (sym c.give_up.ensures.status ∙ fault)
