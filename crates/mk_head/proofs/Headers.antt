-- A header as its view: fields counted from 1, and the places after them.
use Rattle.std.proofs.Common.{◌≡◌, ◌≢◌, ◌+◌, ◌-◌, ◌≤◌, ◌<◌, ℕ, suc, zero, Bool, true, false, Option, None, Some, List, [], ◌∷◌, ◌++◌, refl, ap, sym, ◌∙◌, length, drop, map, filter, get_or, arith, length-append}
use Rattle.std.proofs.lemmas.List.{length-map, drop_more}
use Rattle.std.specs.Option.{option_map}
use Rattle.mk_line.specs.Lines.{TextLine, cut, text_of, printed_line}
use Rattle.mk_line.proofs.Cuts.{text_append, append_nil}
use Rattle.mk_head.specs.Split.{fields_from, rest_from, separator_of, head_of}
use Rattle.mk_head.specs.Fields.{FieldText, fields_of, counted, header_view}
use Rattle.mk_head.proofs.Splits.{fields_rest}
use Rattle.mk_head.proofs.FieldRuns.{counted_at, counted_past, counted_zero}

counted_map : {X Y : Type 0} (f : X → Y) (xs : List X) (k : ℕ) → counted k (map f xs) ≡ option_map f (counted k xs)
counted_map f [] k = refl
counted_map f (x ∷ xs) zero = refl
counted_map f (x ∷ xs) (suc zero) = refl
counted_map f (x ∷ xs) (suc (suc k)) = counted_map f xs (suc k)

less_one : (k : ℕ) → 0 < k → k ≡ suc (k - 1)
less_one k h = omega arith

pub field_zero : {X Y : Type 0} (f : X → Y) (xs : List X) (ys : List Y) (k : ℕ) → map f xs ≡ ys → k ≡ 0 → ◌≡◌ {A = Option Y} None (counted k ys)
field_zero f xs ys k e z = sym (ap (λ n. counted n ys) z ∙ counted_zero ys)

pub field_past : {X Y : Type 0} (f : X → Y) (xs : List X) (ys : List Y) (k : ℕ) → map f xs ≡ ys → length xs < k → ◌≡◌ {A = Option Y} None (counted k ys)
field_past f xs ys k e h =
    sym (ap (λ n. counted n ys) (less_one k (omega arith)) ∙ counted_past ys (k - 1) (omega (arith, ap length e, length-map xs f)))

pub field_found : {X Y : Type 0} (f : X → Y) (xs : List X) (ys : List Y) (k : ℕ) (x : X) → map f xs ≡ ys → 0 < k → k ≤ length xs → x ≡ get_or xs (k - 1) x → Some (f x) ≡ counted k ys
field_found f xs ys k x e o h g =
    ap (λ y. Some (f y)) g
    ∙ (ap (option_map f) (sym (ap (λ n. counted n xs) (less_one k o) ∙ counted_at xs (k - 1) x (omega arith)))
    ∙ (sym (counted_map f xs k) ∙ ap (counted k) e))

two_less : (n : ℕ) → suc (suc n) - 1 ≡ suc n
two_less n = omega arith

-- one step of a search: a field of the name counts, another doesn't
counts : {Y : Type 0} (ys : List Y) (y : Y) (left : ℕ) → left ≢ 1 → counted (left - 1) ys ≡ counted left (y ∷ ys)
counts ys y zero h = counted_zero ys
counts ys y (suc zero) h = absurd (h refl)
counts ys y (suc (suc n)) h = ap (λ m. counted m ys) (two_less n)

pub found_step : {X Y : Type 0} (f : X → Y) (p : Y → Bool) (xs : List X) (x : X) (left : ℕ) → p (f x) ≡ true → left ≢ 1 → counted (left - 1) (filter p (map f xs)) ≡ counted left (filter p (map f (x ∷ xs)))
found_step f p xs x left h o = rw h (counts (filter p (map f xs)) (f x) left o)

pub passed_step : {X Y : Type 0} (f : X → Y) (p : Y → Bool) (xs : List X) (x : X) (left : ℕ) → p (f x) ≡ false → counted left (filter p (map f xs)) ≡ counted left (filter p (map f (x ∷ xs)))
passed_step f p xs x left h = rw h refl

some_size : (a b : ℕ) → ◌≡◌ {A = Option ℕ} (Some a) (Some b) → a ≡ b
some_size a b e = cc

some_none : (a : ℕ) → ◌≡◌ {A = Option ℕ} (Some a) None → ⊥
some_none a e = cc

append_end : (xs : List FieldText) → xs ++ [] ≡ xs
append_end [] = refl
append_end (x ∷ xs) = ap (λ ys. x ∷ ys) (append_end xs)

-- the header's view where a separator stands after its fields
pub view_some : (fs : List TextLine) (o : Option TextLine) (fields : List FieldText) (end size : ℕ) → fields ≡ fields_of fs → Some size ≡ option_map (λ l. length (printed_line l)) o → end ≡ length (text_of fs) → record { fields = fields; separator = Some end; body = end + size } ≡ header_view (record { fields = fs; separator = o })
view_some fs None fields end size f e p = absurd (some_none size e)
view_some fs (Some l) fields end size f e p =
    let body : end + size ≡ length (text_of (fs ++ l ∷ [])) = omega (arith, p, some_size size (length (printed_line l)) e, ap length (text_append fs (l ∷ [])), length-append (text_of fs) (text_of (l ∷ [])), ap length (append_nil (printed_line l))) in
    λ i. record { fields = f i; separator = Some (p i); body = body i }

pub header_some : (text rest : List ℕ) (fields : List FieldText) (size : ℕ)
    → fields ++ fields_of (fields_from false (cut rest)) ≡ fields_of (fields_from false (cut text))
    → length (text_of (fields_from false (cut text))) + length rest ≡ length text + length (text_of (fields_from false (cut rest)))
    → rest_from false (cut text) ≡ rest_from false (cut rest)
    → fields_from false (cut rest) ≡ []
    → Some size ≡ option_map (λ l. length (printed_line l)) (separator_of (cut rest))
    → record { fields = fields; separator = Some (length text - length rest); body = length text - length rest + size } ≡ header_view (head_of (cut text))
header_some text rest fields size f s r none e =
    let left : cut rest ≡ rest_from false (cut rest) = sym (fields_rest false (cut rest)) ∙ ap (λ xs. xs ++ rest_from false (cut rest)) none in
    let all : fields ≡ fields_of (fields_from false (cut text)) = sym (append_end fields) ∙ (ap (λ xs. fields ++ fields_of xs) (sym none) ∙ f) in
    let place : length text - length rest ≡ length (text_of (fields_from false (cut text))) = omega (arith, s, ap (λ xs. length (text_of xs)) none) in
    view_some (fields_from false (cut text)) (separator_of (rest_from false (cut text))) fields (length text - length rest) size all
    (e ∙ ap (λ xs. option_map (λ l. length (printed_line l)) (separator_of xs)) (left ∙ sym r)) place

-- the same in a loop over a list by its places
pub found_next : {X Y : Type 0} (f : X → Y) (p : Y → Bool) (items : List X) (i : ℕ) (d : X) (left new : ℕ) (r : Option Y) → i < length items → p (f (get_or items i d)) ≡ true → left ≢ 1 → new ≡ left - 1 → counted left (filter p (map f (drop i items))) ≡ r → counted new (filter p (map f (drop (i + 1) items))) ≡ r
found_next f p items i d left new r l h o e q =
    ap (λ n. counted n (filter p (map f (drop (i + 1) items)))) e
    ∙ (found_step f p (drop (i + 1) items) (get_or items i d) left h o
    ∙ (ap (λ xs. counted left (filter p (map f xs))) (sym (drop_more items i d l)) ∙ q))

pub passed_next : {X Y : Type 0} (f : X → Y) (p : Y → Bool) (items : List X) (i : ℕ) (d : X) (left new : ℕ) (r : Option Y) → i < length items → p (f (get_or items i d)) ≡ false → new ≡ left → counted left (filter p (map f (drop i items))) ≡ r → counted new (filter p (map f (drop (i + 1) items))) ≡ r
passed_next f p items i d left new r l h e q =
    ap (λ n. counted n (filter p (map f (drop (i + 1) items)))) e
    ∙ (passed_step f p (drop (i + 1) items) (get_or items i d) left h
    ∙ (ap (λ xs. counted left (filter p (map f xs))) (sym (drop_more items i d l)) ∙ q))
