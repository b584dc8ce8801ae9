use Rattle.std.proofs.Common.{◌≡◌, ◌∷◌, ◌++◌, [], ap, ◌∙◌, append_assoc, decimal}
use Rattle.mk_line.specs.Ascii.{full_stop}
use Rattle.mk_view.specs.GivenNames.{numbered}
use Rattle.mk_view.proofs.SafeNames.{numbered_safe}
use Rattle.mk_view.proofs.giving.numbered.Goals as goal

pub returns-clause-safe : goal.returns-clause-safe
returns-clause-safe c =
    let front : c.push.new.self.items ≡ c.args.name.now ++ full_stop ∷ [] = c.in_ok-push.ensures.items ∙ ap (λ l. l ++ full_stop ∷ []) c.in_ok-text.ensures.items in
    let text : c.push_number.new.text.items ≡ numbered c.args.name.now c.args.number =
    c.in_ok-push_number.ensures.appended ∙ ap (λ l. l ++ decimal c.args.number) front ∙ append_assoc c.args.name.now (full_stop ∷ []) (decimal c.args.number) in
    λ safe. rw text (numbered_safe c.args.name.now c.args.number safe)
