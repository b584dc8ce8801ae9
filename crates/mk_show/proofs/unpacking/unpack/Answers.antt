use Rattle.std.proofs.Common.{◌≡◌, ◌∙◌, Bool, false, None, Result, Err, Ok, Option, ap, subst}
use Rattle.mk_view.specs.declared.storing.Storing.{Storing}
use Rattle.mk_view.specs.TextNames.{plain_storing}
use Rattle.mk_tree.specs.Documents.{tree}
use Rattle.mk_transfer.specs.RunClauses.{Held, counts}
use Rattle.mk_transfer.specs.declared.status.Cause.{Cause}
use Rattle.mk_transfer.specs.declared.status.Status.{Status}
use Rattle.mk_show.specs.declared.unpacking.Manner.{Manner}
use Rattle.mk_show.specs.Chosen.{Asked, asked_of}
use Rattle.mk_show.specs.Folders.{Files}
use Rattle.mk_show.specs.UnpackClauses.{LeavesAskedSoFar, all_leaves, manner_of}
use Rattle.mk_transfer.proofs.Blames.{blamed_least_with}
use Rattle.mk_show.proofs.UnpackLemmas.{Stores-ended, Stores-given_up}
use Rattle.mk_show.proofs.unpacking.unpack.Goals as goal

-- what is asked for where a manner and texts are chosen alone
plainly : (a : Asked) (storing : Storing) (given manner : Manner) (texts : Bool) (result : Result Status Cause) (before after : Held) (old new : Option Files)
    → a ≡ all_leaves (manner_of false false) false → storing ≡ plain_storing false → given ≡ manner
    → LeavesAskedSoFar (record { manner = given; storing = record { form = storing.form; texts = texts; messages = storing.messages; content_ids = storing.content_ids }; prefix = a.prefix; sections = a.sections }) result before after old new
    → LeavesAskedSoFar (all_leaves manner texts) result before after old new
plainly a storing given manner texts result before after old new e s m left =
    subst (λ (asked : Asked). LeavesAskedSoFar asked result before after old new)
    (ap (λ (b : Asked). record { manner = given; storing = record { form = storing.form; texts = texts; messages = storing.messages; content_ids = storing.content_ids }; prefix = b.prefix; sections = b.sections }) e
    ∙ ap (λ (k : Storing). record { manner = given; storing = record { form = k.form; texts = texts; messages = k.messages; content_ids = k.content_ids }; prefix = false; sections = None }) s
    ∙ ap (λ (n : Manner). all_leaves n texts) m) left

pub returns-in-Ok-clause-leaves : goal.returns-in-Ok-clause-leaves
returns-in-Ok-clause-leaves g c =
    let left = plainly (asked_of c.default-2.result) c.default.result c.manner_for.result (manner_of c.args.over c.args.silent) c.args.texts (Ok c.in-Ok.status) _ _ _ _ c.default-2.ensures c.default.ensures c.manner_for.ensures c.in-Ok.ensures.leaves in
    (left.0, left.1, Stores-ended _ (all_leaves (manner_of c.args.over c.args.silent) c.args.texts) (tree left.0) c.in-Ok.status _ _ _ _ left.2)

pub returns-in-Err-clause-leaves : goal.returns-in-Err-clause-leaves
returns-in-Err-clause-leaves g c =
    let left = plainly (asked_of c.default-2.result) c.default.result c.manner_for.result (manner_of c.args.over c.args.silent) c.args.texts (Err c.in-Err.cause) _ _ _ _ c.default-2.ensures c.default.ensures c.manner_for.ensures c.in-Err.ensures.leaves in (
      left.0,
      left.1,
      rw c.give_up.ensures.status (Stores-given_up _ (all_leaves (manner_of c.args.over c.args.silent) c.args.texts) (tree left.0) c.in-Err.cause _ _ _ _ _ _ _ _ _ left.2 (record {
        told = _;
        least = blamed_least_with c.in-Err.cause
            (counts (g.S.Source.failures c.args.input.now) (g.S.Source.read_count c.args.input.now) (g.O.Sink.failures c.args.out.now) (g.E.Sink.failures c.args.err.now))
            (counts (g.S.Source.failures c.try_unpack.new.input) (g.S.Source.read_count c.try_unpack.new.input) (g.O.Sink.failures c.try_unpack.new.out) (g.E.Sink.failures c.try_unpack.new.err)) _ _ c.in-Err.ensures.blamed;
        most = c.give_up.ensures.counted;
        borne = c.in-Err.ensures.blamed;
        front = c.give_up.ensures.line;
        whole = c.give_up.ensures.whole;
      })),
    )
