use Rattle.std.proofs.Common.{ap, sym, ◌∙◌, drop}
use Rattle.std.proofs.lemmas.List.{take_rest}
use Rattle.mk_head.proofs.Parts.{unled_at}
use Rattle.mk_tree.specs.inner.Said.{begins_leaf}
use Rattle.mk_tree.proofs.describing.is_surely_leaf.Goals as goal

pub returns : goal.returns
returns c = c.begins_as_leaf.ensures ∙ ap begins_leaf (take_rest c.args.value.now c.leading_blanks.result ∙ (ap (λ k. drop k c.args.value.now) c.leading_blanks.ensures.front ∙ sym (unled_at c.args.value.now)))
