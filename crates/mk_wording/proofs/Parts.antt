-- Parts one before another, and what was written so far.
use Rattle.std.proofs.Common.{◌≡◌, ◌++◌, ℕ, Option, None, Some, List, [], ap, sym, ◌∙◌, append_assoc, append-nil, refl}
use Rattle.std.specs.Option.{option_map}
use Rattle.mk_wording.specs.Stretches.{part_before}

-- a part that can't be written
pub part_fails : (out bytes : List ℕ) (others target : Option (List ℕ)) → option_map (λ more. out ++ more) (part_before bytes None others) ≡ target → None ≡ target
part_fails out bytes others target h = h

-- the last part
pub part_last : (out part bytes : List ℕ) (target : Option (List ℕ)) → option_map (λ more. out ++ more) (part_before bytes (Some part) (Some [])) ≡ target → Some ((out ++ part) ++ bytes) ≡ target
part_last out part bytes target h = ap Some (append_assoc out part bytes ∙ ap (λ xs. out ++ (part ++ xs)) (sym (append-nil bytes))) ∙ h

after_part : (out part bytes : List ℕ) (others : Option (List ℕ)) → option_map (λ more. ((out ++ part) ++ bytes) ++ more) others ≡ option_map (λ more. out ++ more) (part_before bytes (Some part) others)
after_part out part bytes None = refl
after_part out part bytes (Some more) = ap Some (append_assoc (out ++ part) bytes more ∙ append_assoc out part (bytes ++ more))

-- a part more
pub part_more : (out part bytes : List ℕ) (others target : Option (List ℕ)) → option_map (λ more. out ++ more) (part_before bytes (Some part) others) ≡ target
    → option_map (λ more. ((out ++ part) ++ bytes) ++ more) others ≡ target
part_more out part bytes others target h = after_part out part bytes others ∙ h

-- nothing was written yet
pub part_none : (o : Option (List ℕ)) → option_map (λ more. [] ++ more) o ≡ o
part_none None = refl
part_none (Some more) = refl

-- a part, and others that can't be written or can
pub others_fail : (bytes : List ℕ) (part : Option (List ℕ)) → None ≡ part_before bytes part None
others_fail bytes None = refl
others_fail bytes (Some part) = refl
