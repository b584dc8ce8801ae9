use Rattle.std.proofs.Common.{◌++◌, ap, sym, ◌∙◌}
use Rattle.mk_code.proofs.Base64Letters.{letters_alone, letters_parted}
use Rattle.mk_code.proofs.base64_text.split_letters.Goals as goal

pub returns-in-empty-clause-letters : goal.returns-in-empty-clause-letters
returns-in-empty-clause-letters c =
    letters_alone c.args.text.now c.split_at.result.0.now c.split_at.result.1.now c.run_of.result c.run_of.ensures.front c.split_at.ensures.front c.split_at.ensures.back c.in-empty.len_below

pub returns-in-len1-up-clause-letters : goal.returns-in-len1-up-clause-letters
returns-in-len1-up-clause-letters c =
    letters_parted c.args.text.now c.split_at.result.0.now c.split_at.result.1.now c.run_of.result c.run_of.ensures.front c.split_at.ensures.front c.split_at.ensures.back
    ∙ ap (λ xs. c.split_at.result.0.now ++ xs) (sym c.after_strays.ensures.letters)
