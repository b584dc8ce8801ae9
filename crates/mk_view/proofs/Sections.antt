-- The sections of a document one by one: a section, and what is below it.
use Rattle.std.proofs.Common.{◌≡◌, ◌+◌, ◌++◌, ◌<◌, ◌≤◌, if◌then◌else◌, ℕ, zero, suc, nat_le, List, [], ◌∷◌, refl, ap, sym, ◌∙◌, append_assoc, arith}
use Rattle.std.specs.List.{flat_map}
use Rattle.std.proofs.lemmas.Grind.{common_steps, flat_map-append}
use Rattle.mk_tree.specs.Sections.{Placed, children}
use Rattle.mk_view.specs.Listed.{Listed, depth, greatest_number, along, listed_within, listed_from}
use Rattle.mk_view.proofs.Depths.{AreLower, are_lower, has_level}

onto : (s : Listed) (ss ts : List Listed) → ss ≡ ts → s ∷ ss ≡ s ∷ ts
onto s ss ts e = ap (λ (ls : List Listed). s ∷ ls) e

-- functions that give the same for sections with fewer levels
same_along : (k : ℕ) (f g : List ℕ → Placed → List Listed) → ((path : List ℕ) (p : Placed) → depth p.entity < k → f path p ≡ g path p)
    → (path : List ℕ) (number : ℕ) (ps : List Placed) → AreLower k ps → along f path number ps ≡ along g path number ps
same_along k f g e path number [] h = refl
same_along k f g e path number (p ∷ ps) h =
    λ i. if nat_le number greatest_number then e (path ++ number ∷ []) p h.0 i ++ same_along k f g e path (number + 1) ps h.1 i else []

-- more levels than a section has give no more sections
same_within : (m n : ℕ) (path : List ℕ) (p : Placed) → depth p.entity ≤ m → depth p.entity ≤ n → listed_within m path p ≡ listed_within n path p
same_within zero n path p hm hn = absurd (omega (arith, has_level p))
same_within (suc m) zero path p hm hn = absurd (omega (arith, has_level p))
same_within (suc m) (suc n) path p hm hn =
    onto (record { path = path; section = p }) _ _
    (same_along (depth p.entity) (listed_within m) (listed_within n) (λ (below : List ℕ) (q : Placed) (h : depth q.entity < depth p.entity). same_within m n below q (omega arith) (omega arith)) path 1 (children p) (are_lower p))

one_level : (n : ℕ) (path : List ℕ) (p : Placed) → depth p.entity ≡ n → listed_within n path p ≡ record { path = path; section = p } ∷ along listed_from path 1 (children p)
unfolding listed_from
one_level zero path p h = absurd (omega (arith, has_level p))
one_level (suc n) path p h =
    onto (record { path = path; section = p }) _ _
    (same_along (depth p.entity) (listed_within n) listed_from (λ (below : List ℕ) (q : Placed) (less : depth q.entity < depth p.entity). same_within n (depth q.entity) below q (omega arith) (omega arith)) path 1 (children p) (are_lower p))

-- a section, and then those below it
pub listed_one : (path : List ℕ) (p : Placed) → listed_from path p ≡ record { path = path; section = p } ∷ along listed_from path 1 (children p)
unfolding listed_from
listed_one path p = one_level (depth p.entity) path p refl

-- what is made of a section comes first
pub sections_begin : {A : Type 0} (f : Listed → List A) (before now : List A) (path : List ℕ) (p : Placed) (qs : List Placed) → now ≡ before ++ f (record { path = path; section = p }) → qs ≡ children p
    → now ++ flat_map f (along listed_from path 1 qs) ≡ before ++ flat_map f (listed_from path p)
sections_begin f before now path p qs h e =
    (λ i. h i ++ flat_map f (along listed_from path 1 (e i)))
    ∙ (append_assoc before (f (record { path = path; section = p })) (flat_map f (along listed_from path 1 (children p)))
    ∙ ap (λ ls. before ++ flat_map f ls) (sym (listed_one path p)))

-- a number that a path can't hold ends them
pub along_over : (f : List ℕ → Placed → List Listed) (path : List ℕ) (number : ℕ) (ps : List Placed) → greatest_number < number → along f path number ps ≡ []
along_over f path number [] h = refl
along_over f path number (p ∷ ps) h = grind arith

-- the last that a path can hold a number of
last_one : (path : List ℕ) (number : ℕ) (q : Placed) (qs : List Placed) → number ≤ greatest_number → greatest_number < number + 1 → along listed_from path number (q ∷ qs) ≡ listed_from (path ++ number ∷ []) q
last_one path number q qs h k = let over = along_over listed_from path (number + 1) qs k in grind (arith, common_steps, over)

pub sections_end : {A : Type 0} (f : Listed → List A) (now new total : List A) (path below : List ℕ) (number : ℕ) (q : Placed) (qs rest : List Placed)
    → below ≡ path ++ number ∷ [] → rest ≡ q ∷ qs → number ≤ greatest_number → greatest_number < number + 1
    → now ++ flat_map f (along listed_from path number rest) ≡ total → new ≡ now ++ flat_map f (listed_from below q) → new ≡ total
sections_end f now new total path below number q qs rest b r h k t e =
    e
    ∙ ((λ i. now ++ flat_map f (listed_from (b i) q))
    ∙ ((λ i. now ++ flat_map f (sym (last_one path number q qs h k) i))
    ∙ ((λ i. now ++ flat_map f (along listed_from path number (sym r i))) ∙ t)))

one_first : (path : List ℕ) (number : ℕ) (q : Placed) (qs : List Placed) → number ≤ greatest_number → along listed_from path number (q ∷ qs) ≡ listed_from (path ++ number ∷ []) q ++ along listed_from path (number + 1) qs
one_first path number q qs h = grind arith

-- one more section is made into something, and the next number is one greater
pub sections_next : {A : Type 0} (f : Listed → List A) (now new total : List A) (path below : List ℕ) (number next : ℕ) (q : Placed) (qs rest : List Placed)
    → below ≡ path ++ number ∷ [] → rest ≡ q ∷ qs → number ≤ greatest_number → next ≡ number + 1
    → now ++ flat_map f (along listed_from path number rest) ≡ total → new ≡ now ++ flat_map f (listed_from below q) → new ++ flat_map f (along listed_from path next qs) ≡ total
sections_next f now new total path below number next q qs rest b r h n t e =
    (λ i. e i ++ flat_map f (along listed_from path (n i) qs))
    ∙ (append_assoc now (flat_map f (listed_from below q)) (flat_map f (along listed_from path (number + 1) qs))
    ∙ ((λ i. now ++ (flat_map f (listed_from (b i) q) ++ flat_map f (along listed_from path (number + 1) qs)))
    ∙ ((λ i. now ++ sym (flat_map-append f (listed_from (path ++ number ∷ []) q) (along listed_from path (number + 1) qs)) i)
    ∙ ((λ i. now ++ flat_map f (sym (one_first path number q qs h) i))
    ∙ ((λ i. now ++ flat_map f (along listed_from path number (sym r i))) ∙ t)))))
