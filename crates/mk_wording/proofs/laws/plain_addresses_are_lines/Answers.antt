use Rattle.mk_wording.proofs.PlainAddresses.{plain_addresses_are_lines}
use Rattle.mk_wording.proofs.laws.plain_addresses_are_lines.Goals as goal

pub returns : goal.returns
returns c = plain_addresses_are_lines
