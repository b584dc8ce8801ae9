-- Names of charsets, and the tables that have them.
use Rattle.std.proofs.Common.{◌≡◌, ◌==◌, ◌||◌, ◌<◌, ◌+◌, ◌++◌, ℕ, zero, suc, Bool, true, false, Option, None, Some, List, [], ◌∷◌, refl, ap, sym, ◌∙◌, find, length, take, get_or, map, option_map, arith, inl, inr}
use Rattle.mk_code.specs.declared.charsets.SingleByte.{SingleByte as InMemory}
use Rattle.mk_code.specs.inner.Tables.{has_label, single_of, table_of}
use Rattle.std.proofs.lemmas.List.Folds.{list_any_at, list_any_more}
use Rattle.std.specs.List.{list_all, list_any}
use Rattle.std.specs.Str.{bytes_eq, str_to_ascii_lowercase}
use Rattle.std.proofs.lemmas.Slice.Eq.{bytes_eq-Decides}
use Rattle.std.proofs.lemmas.Bool.{and_parts}
use Rattle.mk_code.specs.Charsets.{SingleByte, iso_tables, other_tables, upper_of}
use Rattle.std.proofs.lemmas.Bool.{cases_Bool}
use Rattle.mk_line.specs.Parting.{before, following}

-- a text without a mark stands before it
pub before_whole : (mark : ℕ) (text : List ℕ) → following mark text ≡ None → text ≡ before mark text
before_whole mark [] h = refl
before_whole mark (byte ∷ bytes) h = elim (cases_Bool (byte == mark)) [
  | inl y ↦ absurd (let no : ◌≡◌ {A = Option (List ℕ)} (Some bytes) None = rw y at h in cc)
  | inr n ↦ rw n (ap (λ xs. byte ∷ xs) (before_whole mark bytes (rw n at h)))
]

-- a test of what is made of items
any_made : {X Y : Type 0} (p : Y → Bool) (f : X → Y) (xs : List X) → list_any p (map f xs) ≡ list_any (λ x. p (f x)) xs
any_made p f [] = refl
any_made p f (x ∷ xs) = ap (λ b. p (f x) || b) (any_made p f xs)

pub one_passes : {X Y : Type 0} (p : Y → Bool) (f : X → Y) (xs : List X) (i : ℕ) (d : X) → i < length xs → p (f (get_or xs i d)) ≡ true → true ≡ list_any p (map f xs)
one_passes p f xs i d less h = sym (any_made p f xs ∙ list_any_at (λ x. p (f x)) xs i d less h)

pub none_so_far : {X Y : Type 0} (p : Y → Bool) (f : X → Y) (xs : List X) (i : ℕ) (d : X) → i < length xs → list_any p (map f (take i xs)) ≡ false → p (f (get_or xs i d)) ≡ false → list_any p (map f (take (i + 1) xs)) ≡ false
none_so_far p f xs i d less before h =
    any_made p f (take (i + 1) xs) ∙ (list_any_more (λ x. p (f x)) xs i d less ∙ rw (sym (any_made p f (take i xs)) ∙ before, h) refl)

-- the first of what is made of items that passes a test
pub first_found : {X Y : Type 0} (p : Y → Bool) (f : X → Y) (xs : List X) (i : ℕ) (d : X) → i < length xs → find p (map f (take i xs)) ≡ None → p (f (get_or xs i d)) ≡ true → find p (map f xs) ≡ Some (f (get_or xs i d))
first_found p f [] i d less before h = absurd (omega (arith, less))
first_found p f (x ∷ xs) zero d less before h = rw h refl
first_found {X} {Y} p f (x ∷ xs) (suc i) d less before h = elim (cases_Bool (p (f x))) [
  | inl y ↦ absurd (let no : ◌≡◌ {A = Option Y} (Some (f x)) None = rw y at before in cc)
  | inr n ↦ rw n (first_found p f xs i d (omega (arith, less)) (rw n at before) h)
]

none_more : {X Y : Type 0} (p : Y → Bool) (f : X → Y) (xs : List X) (i : ℕ) (d : X) → i < length xs → find p (map f (take i xs)) ≡ None → p (f (get_or xs i d)) ≡ false → find p (map f (take (suc i) xs)) ≡ None
none_more p f [] i d less before h = absurd (omega (arith, less))
none_more p f (x ∷ xs) zero d less before h = rw h refl
none_more {X} {Y} p f (x ∷ xs) (suc i) d less before h = elim (cases_Bool (p (f x))) [
  | inl y ↦ absurd (let no : ◌≡◌ {A = Option Y} (Some (f x)) None = rw y at before in cc)
  | inr n ↦ rw n (none_more p f xs i d (omega (arith, less)) (rw n at before) h)
]

-- where nothing is made of it, there is none
none_made : {X Y : Type 0} (g : X → Y) (o : Option X) → option_map g o ≡ None → o ≡ None
none_made g None h = refl
none_made {X} {Y} g (Some x) h = absurd (let no : ◌≡◌ {A = Option Y} (Some (g x)) None = h in cc)

pub table_found : (tables : List InMemory) (label : List ℕ) (i : ℕ) (d : InMemory) → i < length tables → table_of (map single_of (take i tables)) label ≡ None → has_label (single_of (get_or tables i d)).labels label ≡ true
    → Some (get_or tables i d).upper ≡ table_of (map single_of tables) label
table_found tables label i d less before h =
    sym (ap (option_map (λ c. c.upper)) (first_found (λ c. has_label c.labels label) single_of tables i d less (none_made (λ c. c.upper) (find (λ c. has_label c.labels label) (map single_of (take i tables))) before) h))

pub no_table_yet : (tables : List InMemory) (label : List ℕ) (i : ℕ) (d : InMemory) → i < length tables → table_of (map single_of (take i tables)) label ≡ None → has_label (single_of (get_or tables i d)).labels label ≡ false
    → table_of (map single_of (take (i + 1) tables)) label ≡ None
no_table_yet tables label i d less before h =
    let next : i + 1 ≡ suc i = omega arith in
    ap (λ n. table_of (map single_of (take n tables)) label) next
    ∙ ap (option_map (λ c. c.upper)) (none_more (λ c. has_label c.labels label) single_of tables i d less (none_made (λ c. c.upper) (find (λ c. has_label c.labels label) (map single_of (take i tables))) before) h)

-- the labels of a charset are in lower case
abbrev lower_labels : SingleByte → Bool
lower_labels c = list_all (λ l. bytes_eq (str_to_ascii_lowercase l) l) c.labels

iso_lower : list_all lower_labels iso_tables ≡ true
unfolding iso_tables
iso_lower = refl

other_lower : list_all lower_labels other_tables ≡ true
unfolding other_tables
other_lower = refl

labelled : (label : List ℕ) (ls : List (List ℕ)) → list_all (λ l. bytes_eq (str_to_ascii_lowercase l) l) ls ≡ true → has_label ls label ≡ list_any (bytes_eq label) ls
labelled label [] h = refl
labelled label (l ∷ ls) h =
    let both = and_parts (bytes_eq (str_to_ascii_lowercase l) l) (list_all (λ l. bytes_eq (str_to_ascii_lowercase l) l) ls) h in
    let same : str_to_ascii_lowercase l ≡ l = (bytes_eq-Decides (str_to_ascii_lowercase l) l).0 both.0 in
    λ i. bytes_eq label (same i) || labelled label ls both.1 i

-- the first charset with a label, where labels are in lower case
found_by : (label : List ℕ) (cs : List SingleByte) → list_all lower_labels cs ≡ true → find (λ c. has_label c.labels label) cs ≡ find (λ c. list_any (bytes_eq label) c.labels) cs
found_by label [] h = refl
found_by label (c ∷ cs) h =
    let both = and_parts (lower_labels c) (list_all lower_labels cs) h in
    rw (labelled label c.labels both.0, found_by label cs both.1) refl

some_found : {X : Type 0} (p : X → Bool) (xs ys : List X) (x : X) → find p xs ≡ Some x → find p (xs ++ ys) ≡ Some x
some_found {X} p [] ys x h = absurd (let no : ◌≡◌ {A = Option X} None (Some x) = h in cc)
some_found p (y ∷ xs) ys x h = elim (cases_Bool (p y)) [
  | inl t ↦ rw t (rw t at h)
  | inr f ↦ rw f (some_found p xs ys x (rw f at h))
]

none_found : {X : Type 0} (p : X → Bool) (xs ys : List X) → find p xs ≡ None → find p (xs ++ ys) ≡ find p ys
none_found p [] ys h = refl
none_found {X} p (y ∷ xs) ys h = elim (cases_Bool (p y)) [
  | inl t ↦ absurd (let no : ◌≡◌ {A = Option X} (Some y) None = rw t at h in cc)
  | inr f ↦ rw f (none_found p xs ys (rw f at h))
]

joined_found : (p : SingleByte → Bool) (xs ys : List SingleByte) (o : Option SingleByte) (u : List ℕ) → find p xs ≡ o → Some u ≡ option_map (λ c. c.upper) o → Some u ≡ option_map (λ c. c.upper) (find p (xs ++ ys))
joined_found p xs ys None u f h = absurd (let no : ◌≡◌ {A = Option (List ℕ)} (Some u) None = h in cc)
joined_found p xs ys (Some c) u f h = h ∙ sym (ap (option_map (λ c. c.upper)) (some_found p xs ys c f))

pub in_the_first : (label u : List ℕ) → Some u ≡ table_of iso_tables label → Some u ≡ upper_of label
in_the_first label u h =
    joined_found (λ c. list_any (bytes_eq label) c.labels) iso_tables other_tables (find (λ c. list_any (bytes_eq label) c.labels) iso_tables) u refl
    (h ∙ ap (option_map (λ c. c.upper)) (found_by label iso_tables iso_lower))

pub in_the_others : (label : List ℕ) → table_of iso_tables label ≡ None → table_of other_tables label ≡ upper_of label
in_the_others label h =
    ap (option_map (λ c. c.upper)) (found_by label other_tables other_lower
    ∙ sym (none_found (λ c. list_any (bytes_eq label) c.labels) iso_tables other_tables
    (sym (found_by label iso_tables iso_lower) ∙ none_made (λ c. c.upper) (find (λ c. has_label c.labels label) iso_tables) h)))
