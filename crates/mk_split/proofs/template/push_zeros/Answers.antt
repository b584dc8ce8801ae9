use Rattle.std.proofs.Common.{◌∙◌, ◌++◌, ◌∷◌, [], ap, append_assoc, replicate}
use Rattle.std.proofs.lemmas.List.{replicate-append-replicate}
use Rattle.mk_split.specs.Templates.{zero_digit}
use Rattle.mk_split.proofs.template.push_zeros.Goals as goal

pub loop-zero-preserved : goal.loop-zero-preserved
loop-zero-preserved c =
    let before = c.args.text.now.items in
    c.in_ok-push.ensures.items
    ∙ (ap (λ xs. xs ++ zero_digit ∷ []) c.loop-zero.invariant
    ∙ (append_assoc before (replicate c.loop-zero._zero zero_digit) (zero_digit ∷ [])
    ∙ ap (λ xs. before ++ xs) (replicate-append-replicate c.loop-zero._zero 1 zero_digit)))
