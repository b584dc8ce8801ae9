use Rattle.mk_field.proofs.WordsRead.{worded_read}
use Rattle.mk_field.proofs.word_laws.worded_fields_are_read.Goals as goal

pub returns : goal.returns
returns c eol name text = worded_read eol name text
