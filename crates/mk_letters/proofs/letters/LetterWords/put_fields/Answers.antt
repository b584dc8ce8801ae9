use Rattle.mk_letters.proofs.letters.LetterWords.put_fields.Goals as goal

pub returns : goal.returns
returns c = λ same. λ i. record {
  prepend = (same i).prepend;
  drops = (same i).drops;
  keeps = (same i).keeps;
  keep_only = (same i).keep_only;
  rename = (same i).rename;
  add_if = c.in_ok-letters.ensures i;
  add = c.in_ok-letters-2.ensures i;
  prefixed = c.in_ok-letters-3.ensures i;
  only = c.in_ok-letters-4.ensures i;
  first = (same i).first;
  last = (same i).last;
  take = (same i).take;
  whole = (same i).whole;
}
