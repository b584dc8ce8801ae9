use Rattle.std.proofs.Common.{◌≡◌, ◌∙◌, List, ℕ, [], Some, Result, Err, Ok, map, subst, sym}
use Rattle.mk_build.specs.declared.attachment.Attach.{Attach}
use Rattle.mk_build.specs.BuildViews.{attached_of}
use Rattle.mk_transfer.specs.RunClauses.{Held, counts}
use Rattle.mk_transfer.specs.Said.{Run}
use Rattle.mk_transfer.specs.declared.status.Cause.{Cause}
use Rattle.mk_transfer.specs.declared.status.Status.{Status}
use Rattle.mk_transfer.proofs.Blames.{blame_stays, blamed_least}
use Rattle.mk_pack.specs.Packing.{IsPacked, IsPackedWith, Manner, manner_of, usual_manner}
use Rattle.mk_show.specs.Shown.{LeavesShownSoFar}
use Rattle.mk_pack.proofs.PackLemmas.{between_of, packed_plainly}
use Rattle.mk_show.proofs.ShownLemmas.{Shows-ended, Shows-given_up}
use Rattle.mk_pack.proofs.packing.run_pack.Goals as goal

-- what is packed with a boundary alone is what is packed of these parts between such boundaries
plainly : (m : Manner) (boundary : List ℕ) (parts : List Attach) (result : Result Status Cause) (before after : Held) → m ≡ usual_manner
    → LeavesShownSoFar (IsPackedWith (record { utf8_names = m.utf8_names; subtype = m.subtype; charset = m.charset; boundary = Some boundary; turned = m.turned }) parts []) result before after
    → LeavesShownSoFar (IsPacked boundary (map attached_of parts)) result before after
plainly m boundary parts result before after e left =
    subst (λ (packed : List ℕ → Run). LeavesShownSoFar (λ text run. run ≡ packed text) result before after)
    (λ i text. packed_plainly (record { utf8_names = m.utf8_names; subtype = m.subtype; charset = m.charset; boundary = Some boundary; turned = m.turned }) boundary parts text (between_of m boundary e) i) left

pub returns-in-Ok-clause-leaves : goal.returns-in-Ok-clause-leaves
returns-in-Ok-clause-leaves g c =
    let left = plainly (manner_of c.default.result) c.args.boundary.now c.args.parts.now (Ok c.in-Ok.status) _ _ c.default.ensures c.in-Ok.ensures.leaves in
    (left.0, left.1, Shows-ended _ (IsPacked c.args.boundary.now (map attached_of c.args.parts.now) left.0) c.in-Ok.status _ _ _ _ _ _ left.2)

pub returns-in-Err-clause-leaves : goal.returns-in-Err-clause-leaves
returns-in-Err-clause-leaves g c =
    let left = plainly (manner_of c.default.result) c.args.boundary.now c.args.parts.now (Err c.in-Err.cause) _ _ c.default.ensures c.in-Err.ensures.leaves in (
      left.0,
      left.1,
      rw c.give_up.ensures.status (Shows-given_up _ (IsPacked c.args.boundary.now (map attached_of c.args.parts.now) left.0) c.in-Err.cause _ _ _ _ _ _ _ left.2 (record {
        told = _;
        least = blamed_least c.in-Err.cause
            (counts (g.S.Source.failures c.args.input.now) (g.S.Source.read_count c.args.input.now) (g.O.Sink.failures c.args.out.now) (g.E.Sink.failures c.args.err.now))
            (counts (g.S.Source.failures c.try_pack.new.input) (g.S.Source.read_count c.try_pack.new.input) (g.O.Sink.failures c.try_pack.new.out) (g.E.Sink.failures c.try_pack.new.err)) c.in-Err.ensures.blamed;
        most = c.give_up.ensures.counted;
        borne = c.in-Err.ensures.blamed;
        front = c.give_up.ensures.line;
        whole = c.give_up.ensures.whole;
      })),
    )

pub returns-in-Err-clause-blamed : goal.returns-in-Err-clause-blamed
returns-in-Err-clause-blamed g c = λ fault.
    blame_stays c.in-Err.cause
    (counts (g.S.Source.failures c.args.input.now) (g.S.Source.read_count c.args.input.now) (g.O.Sink.failures c.args.out.now) (g.E.Sink.failures c.args.err.now))
    (counts (g.S.Source.failures c.try_pack.new.input) (g.S.Source.read_count c.try_pack.new.input) (g.O.Sink.failures c.try_pack.new.out) (g.E.Sink.failures c.give_up.new.err))
    (g.E.Sink.failures c.try_pack.new.err) c.in-Err.ensures.blamed c.give_up.ensures.counted (sym c.give_up.ensures.status ∙ fault)
