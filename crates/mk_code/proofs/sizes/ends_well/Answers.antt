use Rattle.std.proofs.Common.{◌≡◌, ◌==◌, ◌%◌, refl, sym, ap, ◌∙◌, arith}
use Rattle.std.proofs.lemmas.Bool.{agree_below_at}
use Rattle.std.specs.Prelude.{codes}
use Rattle.std.specs.List.{list_any}
use Rattle.mk_code.specs.inner.Sizes.{is_well_ended, letter_value}
use Rattle.mk_code.proofs.sizes.ends_well.Goals as goal

pub returns-in-2 : goal.returns-in-2
returns-in-2 c =
    c.contains.ensures.value
    ∙ (agree_below_at (λ k. list_any (λ y. y == k) (codes "AQgw")) (λ k. letter_value k % 16 == 0) 256 c.args.last refl c.ranges.last.fits
    ∙ ap (λ n. is_well_ended n c.args.last) (sym c.in-2.is))

pub returns-in_default : goal.returns-in_default
returns-in_default c =
    let three : c.args.loose ≡ 3 = omega arith in
    c.contains-in_default.ensures.value
    ∙ (agree_below_at (λ k. list_any (λ y. y == k) (codes "AEIMQUYcgkosw048")) (λ k. letter_value k % 4 == 0) 256 c.args.last refl c.ranges.last.fits
    ∙ ap (λ n. is_well_ended n c.args.last) (sym three))
