use Rattle.std.proofs.Common.{arith}
use Rattle.mk_letters.specs.RoundsAsked.{IsRoundAsked}
use Rattle.mk_letters.proofs.RoundsOfWords.{asked_more}
use Rattle.mk_letters.proofs.words.letters_of_rounds.Goals as goal

pub loop-words-preserved : goal.loop-words-preserved
loop-words-preserved c =
    asked_more (IsRoundAsked c.args.form) c.args.rounds.now c.loop-words.all.items c.push.new.self.items c.loop-words.words-index c.words-item.result c.in-Some.letters c.loop-words.invariant c.in_ok-push-in-Some.ensures.items
    (omega (arith, c.loop-words-test.true)) c.words-item.is (rw c.in-Some.is at c.in_ok-letters.ensures.asked)
