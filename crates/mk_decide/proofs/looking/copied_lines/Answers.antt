use Rattle.std.proofs.Common.{◌≡◌, ◌+◌, ◌-◌, ◌++◌, ◌∙◌, ap, sym, arith, length, take, drop, take-add}
use Rattle.mk_decide.proofs.looking.copied_lines.Goals as goal

pub each-preserved : goal.each-preserved
each-preserved c =
    let place = c.each.place in
    let size = c.in-Some.size in
    let text = c.args.text.now in
    let same : place + size - place ≡ size = omega arith in
    record {
      begins = c.in-Some.ensures.some.begins;
      copied = c.in_ok-extend_from_slice-in-Some.ensures.items ∙ (ap (λ n. c.each.copy.items ++ take n (drop place text)) same ∙ (ap (λ x. x ++ take size (drop place text)) c.each.invariant.copied ∙ sym (take-add place size text)));
      looked = omega (arith, c.each.invariant.looked, c.in-Some.ensures.most, ap length c.in-Some.ensures.some.lines);
    }
