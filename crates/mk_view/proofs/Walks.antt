-- The walk over the sections of a document: what was found, and what is still to come.
use Rattle.std.proofs.Common.{◌≡◌, ◌+◌, ◌++◌, ◌<◌, ◌≤◌, ℕ, List, [], ◌∷◌, refl, ap, ◌∙◌, sym, Some, map, append-nil, append_assoc, length, suc, arith}
use Rattle.std.specs.List.{flat_map}
use Rattle.mk_tree.specs.Documents.{Document}
use Rattle.mk_tree.specs.Sections.{Placed, children, section_at}
use Rattle.mk_view.specs.declared.walking.Listed.{Listed as HeldListed}
use Rattle.mk_view.specs.Listed.{Listed, along, greatest_number, listed_from}
use Rattle.mk_view.specs.ListedViews.{AreListedAt, listed_view}
use Rattle.mk_view.proofs.Sections.{sections_begin, sections_end, sections_next}

abbrev alone : Listed → List Listed
alone s = s ∷ []

all_alone : (ss : List Listed) → flat_map alone ss ≡ ss
all_alone [] = refl
all_alone (s ∷ ss) = ap (λ (ts : List Listed). s ∷ ts) (all_alone ss)

pub walk_begins : (before now : List Listed) (path : List ℕ) (p : Placed) (qs : List Placed) → now ≡ before ++ record { path = path; section = p } ∷ [] → qs ≡ children p
    → now ++ along listed_from path 1 qs ≡ before ++ listed_from path p
walk_begins before now path p qs h e =
    ap (λ ss. now ++ ss) (sym (all_alone (along listed_from path 1 qs)))
    ∙ (sections_begin alone before now path p qs h e ∙ ap (λ ss. before ++ ss) (all_alone (listed_from path p)))

joined : (now : List Listed) (path : List ℕ) (number : ℕ) (rest : List Placed) (total : List Listed) → now ++ along listed_from path number rest ≡ total → now ++ flat_map alone (along listed_from path number rest) ≡ total
joined now path number rest total t = ap (λ ss. now ++ ss) (all_alone (along listed_from path number rest)) ∙ t

put : (now new : List Listed) (below : List ℕ) (q : Placed) → new ≡ now ++ listed_from below q → new ≡ now ++ flat_map alone (listed_from below q)
put now new below q e = e ∙ ap (λ ss. now ++ ss) (sym (all_alone (listed_from below q)))

pub walk_ends : (now new total : List Listed) (path below : List ℕ) (number : ℕ) (q : Placed) (qs rest : List Placed)
    → below ≡ path ++ number ∷ [] → rest ≡ q ∷ qs → number ≤ greatest_number → greatest_number < number + 1
    → now ++ along listed_from path number rest ≡ total → new ≡ now ++ listed_from below q → new ≡ total
walk_ends now new total path below number q qs rest b r h k t e =
    sections_end alone now new total path below number q qs rest b r h k (joined now path number rest total t) (put now new below q e)

pub walk_goes_on : (now new total : List Listed) (path below : List ℕ) (number next : ℕ) (q : Placed) (qs rest : List Placed)
    → below ≡ path ++ number ∷ [] → rest ≡ q ∷ qs → number ≤ greatest_number → next ≡ number + 1
    → now ++ along listed_from path number rest ≡ total → new ≡ now ++ listed_from below q → new ++ along listed_from path next qs ≡ total
walk_goes_on now new total path below number next q qs rest b r h n t e =
    ap (λ ss. new ++ ss) (sym (all_alone (along listed_from path next qs)))
    ∙ sections_next alone now new total path below number next q qs rest b r h n (joined now path number rest total t) (put now new below q e)

-- one more section that is at its path
pub listed_more : (t : Document) (ls : List HeldListed) (l : HeldListed) → AreListedAt t ls → section_at l.path.items t ≡ Some l.section → AreListedAt t (ls ++ l ∷ [])
listed_more t [] l h i = (i, tt)
listed_more t (m ∷ ls) l h i = (h.0, listed_more t ls l h.1 i)

-- what is made of one more section comes next
pub more_made : {A : Type 0} (f : Listed → List A) (now new : List A) (l : HeldListed) (before rest : List HeldListed) (total : List A)
    → before ≡ l ∷ rest → now ++ flat_map f (map listed_view before) ≡ total → new ≡ now ++ f (listed_view l) → new ++ flat_map f (map listed_view rest) ≡ total
more_made f now new l before rest total b t e =
    ap (λ xs. xs ++ flat_map f (map listed_view rest)) e
    ∙ (append_assoc now (f (listed_view l)) (flat_map f (map listed_view rest)) ∙ (ap (λ ls. now ++ flat_map f (map listed_view ls)) (sym b) ∙ t))

-- no section is left
pub all_made : {A : Type 0} (f : Listed → List A) (now : List A) (rest : List HeldListed) (total : List A) → rest ≡ [] → now ++ flat_map f (map listed_view rest) ≡ total → now ≡ total
all_made f now rest total b t = sym (append-nil now) ∙ (ap (λ ls. now ++ flat_map f (map listed_view ls)) (sym b) ∙ t)

-- one section less is left
pub count_left : (l : HeldListed) (before rest : List HeldListed) (m n : ℕ) → length before ≡ m → before ≡ l ∷ rest → n + 1 ≡ m → length rest ≡ n
count_left l before rest m n e b h = let sizes : length before ≡ suc (length rest) = ap (λ ls. length ls) b in omega arith

pub none_left : (ls : List HeldListed) → length ls ≡ 0 → ls ≡ []
none_left [] e = refl
none_left (l ∷ ls) e = absurd (omega arith)
