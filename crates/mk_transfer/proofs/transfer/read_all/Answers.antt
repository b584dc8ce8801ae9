use Rattle.std.proofs.Common.{◌+◌, ◌++◌, ◌≡◌, ◌∙◌, List, ℕ, take, drop, take-add, sym, ap, subst, rules}
use Rattle.std.specs.Io.KnownBytes.{Consumes}
use Rattle.std.proofs.lemmas.Result.{err_from_is_err_and}
use Rattle.std.proofs.KnownBytes.{Consumes-trans}
use Rattle.mk_transfer.proofs.transfer.read_all.Goals as goal

pub returns-in_err-count-clause-front : goal.returns-in_err-count-clause-front
returns-in_err-count-clause-front g c =
    let stopped = err_from_is_err_and c.from_residual.result c.from_residual.ensures.1 in
    rw stopped.1 (_, Consumes-trans _ _ _ _ _ c.loop-read.invariant.bytes c.in_err-count.ensures.stopped.1)

pub loop-read-preserved : goal.loop-read-preserved
loop-read-preserved g c =
    let filled = c.loop-read.filled in
    let new = c.read_more.new.text.items in
    let more = take c.in_ok-count.count (drop filled new) in
    let P : List ℕ → Type 0 = λ bytes. Consumes (g.S.Source.remaining c.args.input.now) (g.S.Source.remaining c.read_more.new.input) bytes in
    let whole : take (filled + c.in_ok-count.count) new ≡ take filled c.loop-read.text.items ++ more =
    take-add filled c.in_ok-count.count new ∙ ap (λ front. front ++ more) c.in_ok-count.ensures.front in
    record {
      bytes = subst P (sym whole) (Consumes-trans _ _ _ _ _ c.loop-read.invariant.bytes c.in_ok-count.ensures.bytes);
      within = c.in_ok-count.ensures.within;
      well = search rules;
      count = search rules;
    }
