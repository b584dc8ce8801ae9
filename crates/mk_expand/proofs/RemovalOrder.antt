-- The order in which parts are removed.
use Rattle.std.proofs.Common.{◌≡◌, ◌⊎◌, ◌↔◌, ℕ, List, [], ◌∷◌, refl, sym, ◌∙◌, subst, inl, inr}
use Rattle.std.specs.Cmp.Lexicographic.{nat_list_cmp_total}
use Rattle.std.specs.Cmp.Lexicographic.{slice_cmp}
use Rattle.std.specs.Ordering.{nat_cmp, ordering_reverse}
use Rattle.std.specs.declared.cmp.Ordering.{Ordering}
use Rattle.std.specs.declared.cmp.Ordering.TheVariants.{Less, Equal, Greater}
use Rattle.std.proofs.lemmas.Map.Lookups.{exact_bytes}
use Rattle.mk_expand.specs.Paths.{latest_among, latest_first, placed_among, placed_by}
use Rattle.mk_expand.specs.Removals.{AreLatestFirst, IsAmong, IsLater}

turned : (r : Ordering) → Greater ≡ ordering_reverse r → r ≡ Less
turned Less h = refl
turned Equal h = cc
turned Greater h = cc

-- the other way round
other_way : (path other : List ℕ) → slice_cmp nat_cmp path other ≡ Greater → slice_cmp nat_cmp other path ≡ Less
other_way path other h = turned (slice_cmp nat_cmp other path) (sym h ∙ nat_list_cmp_total.antisymm path other)

-- a path that is later than another is later than those before it
later_on : (path other : List ℕ) (others : List (List ℕ)) → slice_cmp nat_cmp other path ≡ Less → IsLater other others → IsLater path others
later_on path other [] h l = tt
later_on path other (o ∷ os) h l = (nat_list_cmp_total.trans o other path l.0 h, later_on path other os h l.1)

stays_by : (c : Ordering) (x path other : List ℕ) (others placed : List (List ℕ)) → slice_cmp nat_cmp path x ≡ Less → IsLater x (other ∷ others) → IsLater x placed → IsLater x (placed_by c path other others placed)
stays_by Less x path other others placed h l p = (l.0, p)
stays_by Equal x path other others placed h l p = l
stays_by Greater x path other others placed h l p = (h, l)

stays_later : (x path : List ℕ) (others : List (List ℕ)) → slice_cmp nat_cmp path x ≡ Less → IsLater x others → IsLater x (placed_among path others)
stays_later x path [] h l = (h, tt)
stays_later x path (other ∷ others) h l = stays_by (slice_cmp nat_cmp path other) x path other others (placed_among path others) h l (stays_later x path others h l.1)

sorted_by : (c : Ordering) (path other : List ℕ) (others : List (List ℕ)) → slice_cmp nat_cmp path other ≡ c → AreLatestFirst (other ∷ others) → AreLatestFirst (placed_among path others) → AreLatestFirst (placed_by c path other others (placed_among path others))
sorted_by Less path other others e s p = (stays_later other path others e s.0, p)
sorted_by Equal path other others e s p = s
sorted_by Greater path other others e s p =
    let before = other_way path other e in
    ((before, later_on path other others before s.0), s)

sorted_placed : (path : List ℕ) (others : List (List ℕ)) → AreLatestFirst others → AreLatestFirst (placed_among path others)
sorted_placed path [] s = (tt, tt)
sorted_placed path (other ∷ others) s = sorted_by (slice_cmp nat_cmp path other) path other others refl s (sorted_placed path others s.1)

sorted_among : (placed paths : List (List ℕ)) → AreLatestFirst placed → AreLatestFirst (latest_among placed paths)
sorted_among placed [] s = s
sorted_among placed (path ∷ paths) s = sorted_among (placed_among path placed) paths (sorted_placed path placed s)

pub in_order : (paths : List (List ℕ)) → AreLatestFirst (latest_first paths)
in_order paths = sorted_among [] paths tt

-- ---- the same paths

among_by : (c : Ordering) (x path other : List ℕ) (others placed : List (List ℕ)) → (c ≡ Equal → path ≡ other) → (IsAmong x placed ↔ ((x ≡ path) ⊎ IsAmong x others)) → IsAmong x (placed_by c path other others placed) ↔ ((x ≡ path) ⊎ ((x ≡ other) ⊎ IsAmong x others))
among_by Less x path other others placed same rest = (
  λ a. elim a [ inl o ↦ inr (inl o) | inr p ↦ elim (rest.0 p) [ inl q ↦ inl q | inr q ↦ inr (inr q) ] ],
  λ a. elim a [ inl p ↦ inr (rest.1 (inl p)) | inr o ↦ elim o [ inl q ↦ inl q | inr q ↦ inr (rest.1 (inr q)) ] ],
)
among_by Equal x path other others placed same rest = (λ a. inr a, λ a. elim a [ inl p ↦ inl (p ∙ same refl) | inr o ↦ o ])
among_by Greater x path other others placed same rest = (λ a. a, λ a. a)

among_placed : (x path : List ℕ) (others : List (List ℕ)) → IsAmong x (placed_among path others) ↔ ((x ≡ path) ⊎ IsAmong x others)
among_placed x path [] = (λ a. a, λ a. a)
among_placed x path (other ∷ others) =
    among_by (slice_cmp nat_cmp path other) x path other others (placed_among path others) (λ e. exact_bytes path other e) (among_placed x path others)

among_all : (x : List ℕ) (placed paths : List (List ℕ)) → IsAmong x (latest_among placed paths) ↔ (IsAmong x placed ⊎ IsAmong x paths)
among_all x placed [] = (λ a. inl a, λ a. elim a [ inl p ↦ p | inr n ↦ absurd n ])
among_all x placed (path ∷ paths) =
    let rest = among_all x (placed_among path placed) paths in
    let here = among_placed x path placed in (
      λ a. elim (rest.0 a) [ inl p ↦ elim (here.0 p) [ inl q ↦ inr (inl q) | inr q ↦ inl q ] | inr q ↦ inr (inr q) ],
      λ a. elim a [ inl p ↦ rest.1 (inl (here.1 (inr p))) | inr q ↦ elim q [ inl s ↦ rest.1 (inl (here.1 (inl s))) | inr s ↦ rest.1 (inr s) ] ],
    )

pub removals_ordered : (paths : List (List ℕ)) → AreLatestFirst (latest_first paths) × ((path : List ℕ) → IsAmong path (latest_first paths) ↔ IsAmong path paths)
removals_ordered paths = (
  in_order paths,
  λ path. let all = among_all path [] paths in (λ a. elim (all.0 a) [ inl n ↦ absurd n | inr p ↦ p ], λ a. all.1 (inr a)),
)
