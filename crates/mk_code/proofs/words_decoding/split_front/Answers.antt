use Rattle.mk_code.proofs.Runs.{front_split, front_less}
use Rattle.mk_code.proofs.words_decoding.split_front.Goals as goal

pub returns-clause-runs : goal.returns-clause-runs
returns-clause-runs c =
    front_split c.args.text.now c.split_at.result.0.now c.split_at.result.1.now c.split_at-2.result.0.now c.split_at-2.result.1.now c.leading_blanks.result c.word_front.result c.requires
    c.leading_blanks.ensures.front c.split_at.ensures.front c.split_at.ensures.back c.word_front.ensures.front c.split_at-2.ensures.front c.split_at-2.ensures.back

pub returns-clause-less : goal.returns-clause-less
returns-clause-less c =
    front_less c.args.text.now c.split_at.result.1.now c.split_at-2.result.1.now c.leading_blanks.result c.word_front.result c.requires
    c.leading_blanks.ensures.front c.leading_blanks.ensures.within c.split_at.ensures.back c.word_front.ensures.front c.word_front.ensures.within c.split_at-2.ensures.back
