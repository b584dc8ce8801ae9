-- Where no name is one, all are the others.
use Rattle.std.proofs.Common.{◌≡◌, ℕ, false, List, [], ◌∷◌, ◌++◌, map, refl, append-nil, ap, sym, ◌∙◌}
use Rattle.std.proofs.lemmas.Bool.{or_parts}
use Rattle.std.specs.List.{list_any}
use Rattle.mk_mail.specs.Letters.{others, same_name, those}

pub all_others : (name : List ℕ) (names : List (List ℕ)) → list_any (same_name name) names ≡ false → (others name names ≡ names) × (those name names ≡ [])
all_others name [] h = (refl, refl)
all_others name (own ∷ names) h =
    let parts = or_parts (same_name name own) (list_any (same_name name) names) h in
    let rest = all_others name names parts.1 in
    (rw parts.0 (ap (λ xs. own ∷ xs) rest.0), rw parts.0 rest.1)

-- so nothing is made of them
pub none_more : {X : Type 0} (xs : List X) (f : List ℕ → X) {names : List (List ℕ)} → names ≡ [] → xs ≡ xs ++ map f names
none_more xs f e = sym (append-nil xs) ∙ ap (λ ns. xs ++ map f ns) (sym e)
