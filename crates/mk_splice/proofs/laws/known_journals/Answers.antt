use Rattle.std.proofs.Common.{refl}
use Rattle.mk_splice.proofs.laws.known_journals.Goals as goal

pub returns : goal.returns
returns c = record {
  empty_file = refl;
  unknown_version = refl;
  leading_zero = refl;
  too_many_digits = refl;
  byte_after = refl;
  no_steps = refl;
  entry_cut_short = refl;
  step_of_no_entries = refl;
  capital_digit = refl;
  step_of_one_entry = refl;
}
