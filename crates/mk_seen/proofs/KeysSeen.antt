-- The keys of a tree as identifiers that were seen.
use Rattle.std.proofs.Common.{◌≡◌, ◌||◌, ◌++◌, ◌∙◌, ℕ, Bool, true, false, List, [], ◌∷◌, map, append-nil, append_assoc, refl, sym, ap}
use Rattle.std.specs.FinSet as set
use Rattle.std.specs.Global.{Vec}
use Rattle.std.specs.List.{list_any}
use Rattle.std.specs.Ordering.{eq_by_cmp, match_ordering, nat_cmp}
use Rattle.std.specs.declared.cmp.Ordering.{Ordering}
use Rattle.std.specs.declared.cmp.Ordering.TheVariants.{Less, Equal, Greater}
use Rattle.std.specs.BTreeSet.{insert_key}
use Rattle.std.specs.BTreeMap.{is_at}
use Rattle.std.specs.Cmp.Lexicographic.{nat_list_cmp_total, slice_cmp}
use Rattle.mk_line.specs.Lines.{TextLine, cut}
use Rattle.mk_seen.specs.SeenIds.{seen_in}

-- the identifiers of keys
abbrev pub ids_of : List (Vec ℕ) → List (List ℕ)
ids_of ks = map (λ k. k.items) ks

-- whether an identifier is that one
abbrev same : List ℕ → List ℕ → Bool
same q k = eq_by_cmp (slice_cmp nat_cmp) q k

-- an order of keys that is that of their bytes
abbrev pub IsByBytes : (Vec ℕ → Vec ℕ → Ordering) → Type 0
IsByBytes cmp = (a b : Vec ℕ) → cmp a b ≡ slice_cmp nat_cmp a.items b.items

any_same : (cmp : Vec ℕ → Vec ℕ → Ordering) (by : IsByBytes cmp) (k : Vec ℕ) (ks : List (Vec ℕ)) → list_any (is_at (cmp k)) ks ≡ list_any (same k.items) (ids_of ks)
any_same cmp by k [] = refl
any_same cmp by k (x ∷ ks) =
    ap (λ o. is_at (λ _. o) x || list_any (is_at (cmp k)) ks) (by k x) ∙ ap (λ b. same k.items x.items || b) (any_same cmp by k ks)

-- a key is found where its identifier was seen
pub keys_found : (cmp : Vec ℕ → Vec ℕ → Ordering) (by : IsByBytes cmp) (k : Vec ℕ) (ks : List (Vec ℕ)) → list_any (is_at (cmp k)) ks ≡ set.contains (set.from_list {R = slice_cmp nat_cmp} (ids_of ks)) k.items
keys_found cmp by k ks = any_same cmp by k ks ∙ sym (set.contains-from_list nat_list_cmp_total (ids_of ks) k.items)

swapped : (a b c : Bool) → (a || (b || c)) ≡ (b || (a || c))
swapped true true c = refl
swapped true false c = refl
swapped false b c = refl

doubled : (a b : Bool) → (a || b) ≡ (a || (a || b))
doubled true b = refl
doubled false b = refl

put_by : (cmp : Vec ℕ → Vec ℕ → Ordering) (by : IsByBytes cmp) (k x : Vec ℕ) (q : List ℕ) (ks later : List (Vec ℕ)) (o : Ordering) → cmp k x ≡ o
    → list_any (same q) (ids_of later) ≡ (same q k.items || list_any (same q) (ids_of ks))
    → list_any (same q) (ids_of (match_ordering o (k ∷ x ∷ ks) (x ∷ ks) (x ∷ later))) ≡ (same q k.items || (same q x.items || list_any (same q) (ids_of ks)))
put_by cmp by k x q ks later Less e rest = refl
put_by cmp by k x q ks later Equal e rest =
    let one : k.items ≡ x.items = set.slice_cmp-IsAntisymmetric set.nat_cmp-IsAntisymmetric k.items x.items (sym (by k x) ∙ e) in
    doubled (same q x.items) (list_any (same q) (ids_of ks)) ∙ ap (λ i. same q i || (same q x.items || list_any (same q) (ids_of ks))) (sym one)
put_by cmp by k x q ks later Greater e rest = ap (λ b. same q x.items || b) rest ∙ swapped (same q x.items) (same q k.items) (list_any (same q) (ids_of ks))

-- a key that comes is one of the keys, and no other comes
put_in : (cmp : Vec ℕ → Vec ℕ → Ordering) (by : IsByBytes cmp) (k : Vec ℕ) (q : List ℕ) (ks : List (Vec ℕ)) → list_any (same q) (ids_of (insert_key cmp ks k)) ≡ (same q k.items || list_any (same q) (ids_of ks))
put_in cmp by k q [] = refl
put_in cmp by k q (x ∷ ks) = put_by cmp by k x q ks (insert_key cmp ks k) (cmp k x) refl (put_in cmp by k q ks)

-- the keys with one more are what was seen with its identifier
pub keys_put : (cmp : Vec ℕ → Vec ℕ → Ordering) (by : IsByBytes cmp) (k : Vec ℕ) (ks : List (Vec ℕ))
    → set.from_list {R = slice_cmp nat_cmp} (ids_of (insert_key cmp ks k)) ≡ set.insert (set.from_list (ids_of ks)) k.items
keys_put cmp by k ks =
    set.same_set nat_list_cmp_total (set.slice_cmp-IsAntisymmetric set.nat_cmp-IsAntisymmetric) _ _ (λ q.
    set.contains-from_list nat_list_cmp_total (ids_of (insert_key cmp ks k)) q
    ∙ (put_in cmp by k q ks
    ∙ (ap (λ b. same q k.items || b) (sym (set.contains-from_list nat_list_cmp_total (ids_of ks) q)) ∙ sym (set.contains-insert nat_list_cmp_total (set.from_list (ids_of ks)) k.items q))))

-- one more at the end of a list
one_more : (ks : List (List ℕ)) (k : List ℕ) → set.from_list {R = slice_cmp nat_cmp} (ks ++ k ∷ []) ≡ set.insert (set.from_list ks) k
one_more ks k = set.from_list_push nat_list_cmp_total (set.slice_cmp-IsAntisymmetric set.nat_cmp-IsAntisymmetric) ks k

-- ---- the identifiers of a file

-- what was seen once lines were, in turn
abbrev pub with_ids : set.FinSet (slice_cmp nat_cmp) → List TextLine → set.FinSet (slice_cmp nat_cmp)
with_ids seen [] = seen
with_ids seen (line ∷ lines) = with_ids (set.insert seen line.content) lines

ids_after : (ks : List (List ℕ)) (lines : List TextLine) → with_ids (set.from_list ks) lines ≡ set.from_list (ks ++ map (λ line. line.content) lines)
ids_after ks [] = ap set.from_list (sym (append-nil ks))
ids_after ks (line ∷ lines) =
    ap (λ s. with_ids s lines) (sym (one_more ks line.content)) ∙ (ids_after (ks ++ line.content ∷ []) lines ∙ ap set.from_list (append_assoc ks (line.content ∷ []) (map (λ l. l.content) lines)))

-- they are those of the file
pub file_seen : (file : List ℕ) → with_ids set.empty (cut file) ≡ seen_in file
file_seen file = ids_after [] (cut file)
