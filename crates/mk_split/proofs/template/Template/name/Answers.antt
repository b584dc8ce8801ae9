use Rattle.std.proofs.Common.{◌≡◌, ◌∙◌, ◌-◌, ◌++◌, ap, sym, append_assoc, decimal, length, replicate, arith}
use Rattle.mk_view.specs.GivenNames.{is_safe}
use Rattle.mk_split.specs.Templates.{template_name, zero_digit}
use Rattle.mk_split.proofs.SafeTemplates.{name_safe}
use Rattle.mk_split.proofs.template.Template.name.Goals as goal

pub returns-clause-safe : goal.returns-clause-safe
returns-clause-safe c =
    let front = c.self.inside.front.now in
    let back = c.self.inside.back.now in
    let number = c.args.number in
    let digits : c.in_ok-digits.digits.bytes.items ≡ decimal number = c.in_ok-digits.ensures.ok in
    let bytes : c.as_bytes.result.now ≡ decimal number = c.as_bytes.ensures.value ∙ digits in
    let count : c.saturating_sub.result ≡ c.self.inside.width - length (decimal number) = c.saturating_sub.ensures ∙ ap (λ n. c.self.inside.width - n) (c.len.ensures ∙ (sym c.as_bytes.ensures.len ∙ ap length bytes)) in
    let zeros : c.push_zeros.new.text.items ≡ front ++ replicate (c.self.inside.width - length (decimal number)) zero_digit =
    c.in_ok-push_zeros.ensures ∙ (λ i. c.in_ok-name.ensures.items i ++ replicate (count i) zero_digit) in
    let named : c.extend_from_slice-2.new.self.items ≡ template_name (record { front = front; width = c.self.inside.width; back = back }) number =
    c.in_ok-extend_from_slice-2.ensures.items
    ∙ (ap (λ text. text ++ back) (c.in_ok-extend_from_slice.ensures.items ∙ ((λ i. zeros i ++ bytes i) ∙ append_assoc front (replicate (c.self.inside.width - length (decimal number)) zero_digit) (decimal number)))
    ∙ append_assoc front (replicate (c.self.inside.width - length (decimal number)) zero_digit ++ decimal number) back) in
    ap is_safe named ∙ name_safe (record { front = front; width = c.self.inside.width; back = back }) number c.self.invariant (omega (arith, c.ranges.number.fits))
