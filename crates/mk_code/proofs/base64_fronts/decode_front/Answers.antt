use Rattle.std.proofs.Common.{◌<◌, arith, refl, rules}
use Rattle.base64.specs.Rfc4648.{encode_symbols}
use Rattle.mk_code.proofs.base64_fronts.decode_front.Goals as goal

pub returns : goal.returns
unfolding encode_symbols
returns c =
    rw c.new.ensures.items (record {
      count = 0;
      within = search rules;
      whole = (λ i. search rules, refl);
      longest = λ n here most other front.
          let above : c.loop-count.count < n = omega arith in
          let most_found = rw (← c.loop-count.invariant.found) at most in
          c.loop-count.invariant.longer n above most_found other front;
    })
