use Rattle.std.proofs.Common.{◌≡◌, ◌++◌, ℕ, List, ap, ◌∙◌, refl, append_assoc, codes}
use Rattle.mk_head.proofs.boundaries.push_type_line.Goals as goal

regroup : (t p q r s u w : List ℕ) → (((((t ++ p) ++ q) ++ r) ++ s) ++ u) ++ w ≡ t ++ ((p ++ (q ++ (r ++ (s ++ u)))) ++ w)
regroup t p q r s u w = simp append_assoc refl

appended : (t p q r s u w x a b c d e f : List ℕ) → a ≡ t ++ p → b ≡ a ++ q → c ≡ b ++ r → d ≡ c ++ s → e ≡ d ++ u → f ≡ e ++ x → x ≡ w → f ≡ t ++ ((p ++ (q ++ (r ++ (s ++ u)))) ++ w)
appended t p q r s u w x a b c d e f g h i j k l m =
    l ∙ (ap (λ y. e ++ y) m
    ∙ (ap (λ y. y ++ w) (k ∙ ap (λ y. y ++ u) (j ∙ ap (λ y. y ++ s) (i ∙ ap (λ y. y ++ r) (h ∙ ap (λ y. y ++ q) g))))
    ∙ regroup t p q r s u w))

pub returns-clause-appended : goal.returns-clause-appended
returns-clause-appended c =
    appended c.args.text.now.items (codes "Content-Type: multipart/") c.args.subtype.now (codes "; boundary=\"") c.args.boundary.now (codes "\"") _ c.bytes.result.now _ _ _ _ _ _
    c.in_ok-extend_from_slice.ensures.items c.in_ok-extend_from_slice-2.ensures.items c.in_ok-extend_from_slice-3.ensures.items c.in_ok-extend_from_slice-4.ensures.items c.in_ok-extend_from_slice-5.ensures.items c.in_ok-extend_from_slice-6.ensures.items c.bytes.ensures
