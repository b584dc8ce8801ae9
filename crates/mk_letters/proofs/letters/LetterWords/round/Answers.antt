use Rattle.mk_line.specs.declared.cutting.Ending.TheVariants.{Crlf, Lf}
use Rattle.mk_mail.specs.LetterViews.{letters_of}
use Rattle.mk_letters.specs.Asked.{words_of}
use Rattle.mk_letters.proofs.RoundsOfWords.{letters_none, letters_some}
use Rattle.mk_letters.proofs.letters.LetterWords.round.Goals as goal

pub returns-in_default-clause-invalid : goal.returns-in_default-clause-invalid
returns-in_default-clause-invalid c = letters_none c.args.form Lf (words_of c.args.self.now) (rw c.in_default.is at c.in_ok-lf.ensures)

pub returns-in_default-2-clause-invalid : goal.returns-in_default-2-clause-invalid
returns-in_default-2-clause-invalid c = letters_none c.args.form Crlf (words_of c.args.self.now) (rw c.in_default-2.is at c.in_ok-crlf.ensures)

pub returns-clause-asked : goal.returns-clause-asked
returns-clause-asked c = letters_some c.args.form (words_of c.args.self.now) (letters_of c.in-Some.lf) (letters_of c.in-Some-2.crlf) (rw c.in-Some.is at c.in_ok-lf.ensures) (rw c.in-Some-2.is at c.in_ok-crlf.ensures)
