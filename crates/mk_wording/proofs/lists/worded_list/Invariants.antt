use Rattle.std.proofs.Common.{◌≡◌, ◌++◌, length}
use Rattle.std.specs.Option.{option_map}
use Rattle.mk_head.specs.Values.{Plain}
use Rattle.mk_wording.specs.Lists.{ends_of, worded_entries, worded_list}
use Rattle.mk_wording.specs.Scanned.{entries}
use Rattle.mk_wording.proofs.lists.worded_list.Given as goal

abbrev pub decreases-entries : goal.decreases-entries
decreases-entries l = length l.rest

abbrev pub invariant-entries : goal.invariant-entries
invariant-entries l = option_map (λ more. l.worded.items ++ more) (worded_entries l.kind l.eol (entries (ends_of l.kind) Plain l.rest)) ≡ worded_list l.kind l.eol l.fn.value
