use Rattle.mk_mail.specs.LetterViews.{letters_of}
use Rattle.mk_letters.specs.Asked.{words_of}
use Rattle.mk_letters.proofs.Wordings.{asked_in_form}
use Rattle.mk_letters.proofs.RoundsOfWords.{none_in_form}
use Rattle.mk_letters.proofs.letters.LetterWords.letters_in.Goals as goal

pub returns-in_default : goal.returns-in_default
returns-in_default c = none_in_form c.args.form c.args.eol (words_of c.args.self.now) (rw c.in_default.is at c.in_ok-letters.ensures)

pub returns : goal.returns
returns c = asked_in_form c.args.form c.args.eol (words_of c.args.self.now) (letters_of c.in-Some.letters) _ (rw c.in-Some.is at c.in_ok-letters.ensures) c.in_ok-put_fields.ensures
