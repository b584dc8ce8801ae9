use Rattle.std.proofs.Common.{◌≡◌, ◌∙◌, ◌∷◌, [], ℕ, List, Option, ap, sym}
use Rattle.mk_mail.specs.LetterViews.{letters_of}
use Rattle.mk_field.specs.Filtering.{PlainFilter, of_letters, of_rounds}
use Rattle.mk_field.specs.FilterViews.{filter_of}
use Rattle.mk_mailbox.specs.declared.from_lines.FromLines.TheVariants.{Any}
use Rattle.mk_transfer.specs.RunClauses.{counts}
use Rattle.mk_transfer.specs.declared.status.Cause.{Cause}
use Rattle.mk_mailbox.specs.Devices.{IsLong}
use Rattle.mk_field.specs.FilterClauses.{known_by}
use Rattle.mk_transfer.proofs.Blames.{blame_stays, blamed_least}
use Rattle.mk_field.specs.Filtering.{field_run, messages_of, said_from}
use Rattle.mk_field.proofs.FilterLemmas.{Filters-ended, Filters-given_up}
use Rattle.mk_field.proofs.filtering.run_field.Goals as goal

pub returns-in-Ok-clause-leaves : goal.returns-in-Ok-clause-leaves
returns-in-Ok-clause-leaves g c =
    let left = let same : filter_of c.new-2.result ≡ of_letters (letters_of c.args.letters.now) = c.new-2.ensures ∙ ap (λ r. of_rounds (r ∷ [])) c.new.ensures in
    rw (same, ap (λ (f : PlainFilter). f.from_lines) same) at c.in-Ok.ensures.leaves in
    (left.0, left.1, Filters-ended _ _ c.args.each c.in-Ok.status (field_run (of_letters (letters_of c.args.letters.now)) c.args.each left.0) _ _ left.2)

pub returns-in-Err-clause-leaves : goal.returns-in-Err-clause-leaves
returns-in-Err-clause-leaves g c =
    let left = let same : filter_of c.new-2.result ≡ of_letters (letters_of c.args.letters.now) = c.new-2.ensures ∙ ap (λ r. of_rounds (r ∷ [])) c.new.ensures in
    rw (same, ap (λ (f : PlainFilter). f.from_lines) same) at c.in-Err.ensures.leaves in
    let said = said_from c.args.each (of_letters (letters_of c.args.letters.now)) 1 (messages_of Any c.args.each left.0) in
    let known = λ (cause : Cause) (between : Option (List ℕ)). known_by (of_letters (letters_of c.args.letters.now)) c.args.each
    (IsLong (g.S.Source.read_count c.args.input.now) (g.S.Source.read_count c.try_field.new.input)) left.0
    (g.O.Sink.contents c.args.out.now) (g.O.Sink.contents c.try_field.new.out) (g.E.Sink.contents c.args.err.now) between cause in (
      left.0,
      left.1,
      rw c.give_up.ensures.status (Filters-given_up _ known c.args.each c.in-Err.cause said _ _ _ _ _ left.2 (record {
        told = _;
        least = blamed_least c.in-Err.cause
            (counts (g.S.Source.failures c.args.input.now) (g.S.Source.read_count c.args.input.now) (g.O.Sink.failures c.args.out.now) (g.E.Sink.failures c.args.err.now))
            (counts (g.S.Source.failures c.try_field.new.input) (g.S.Source.read_count c.try_field.new.input) (g.O.Sink.failures c.try_field.new.out) (g.E.Sink.failures c.try_field.new.err)) c.in-Err.ensures.blamed;
        most = c.give_up.ensures.counted;
        borne = c.in-Err.ensures.blamed;
        front = c.give_up.ensures.line;
        whole = c.give_up.ensures.whole;
      })),
    )

pub returns-in-Err-clause-blamed : goal.returns-in-Err-clause-blamed
returns-in-Err-clause-blamed g c = λ fault.
    blame_stays c.in-Err.cause
    (counts (g.S.Source.failures c.args.input.now) (g.S.Source.read_count c.args.input.now) (g.O.Sink.failures c.args.out.now) (g.E.Sink.failures c.args.err.now))
    (counts (g.S.Source.failures c.try_field.new.input) (g.S.Source.read_count c.try_field.new.input) (g.O.Sink.failures c.try_field.new.out) (g.E.Sink.failures c.give_up.new.err))
    (g.E.Sink.failures c.try_field.new.err) c.in-Err.ensures.blamed c.give_up.ensures.counted (sym c.give_up.ensures.status ∙ fault)
