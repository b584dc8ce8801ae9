use Rattle.std.proofs.Common.{arith}
use Rattle.mk_splice.proofs.Fronts.{rest_within, left_within}
use Rattle.mk_splice.proofs.journals.Journal.parse.Goals as goal

pub overflow_sub-result : goal.overflow_sub-result
overflow_sub-result c = let told = c.in-Ok.ensures.told in rest_within c.args.file.now told.0 c.in-Ok.rest.now told.1

pub overflow_sub-result-in-Err-At : goal.overflow_sub-result-in-Err-At
overflow_sub-result-in-Err-At c = let told = rw c.in-Err-At.field-0-is at c.in-Err-At.ensures.told in omega (arith, left_within c.args.file.now told.0 told.1, told.2)
