-- What is read before the first space, and then the rest, as it is written.
use Rattle.std.proofs.Common.{◌≡◌, ◌==◌, ◌<◌, ◌^◌, ℕ, zero, suc, true, false, List, [], ◌∷◌, ◌++◌, Some, None, Option, if◌then◌else◌, codes, decimal, map, refl, sym, ap, ◌∙◌, inl, inr, arith}
use Rattle.std.proofs.lemmas.Bool.{cases_Bool}
use Rattle.std.proofs.lemmas.Bool.Decides.{eqb_tells}
use Rattle.std.proofs.lemmas.Fmt.{decimal_digit}
use Rattle.std.proofs.lemmas.Slice.Eq.{bytes_eq-Decides}
use Rattle.std.specs.List.{list_any}
use Rattle.std.specs.Option.{option_map, option_and_then}
use Rattle.std.specs.Str.{bytes_eq}
use Rattle.mk_line.specs.Ascii.{space, full_stop}
use Rattle.mk_script.specs.Paths.{parted, number_of, path_of}
use Rattle.mk_script.specs.Targets.{as_name, is_file_name, is_name, count_of, parted_last, read_file, read_first}
use Rattle.mk_script.specs.Written.{IsPath, written_path}
use Rattle.mk_script.proofs.NumberLemmas.{some_same, none_some, number_of-decimal, number_of-written, decimal_digits}
use Rattle.mk_script.proofs.PieceLemmas.{HoldsNo, HoldsNo-digits, HoldsNo-join, last-joined, parted-append, parted-joined}
use Rattle.mk_script.proofs.WrittenLemmas.{decimals_hold, path_of-decimal, path_of-written}

-- a value that is read in two steps was read in the first
pub and_then-some : {A B : Type 0} (f : A → Option B) (o : Option A) (b : B) → option_and_then f o ≡ Some b → (a : A) × (o ≡ Some a) × (f a ≡ Some b)
and_then-some f None b e = absurd (none_some e)
and_then-some f (Some a) b e = (a, refl, e)

pub map-some : {A B : Type 0} (f : A → B) (o : Option A) (b : B) → option_map f o ≡ Some b → (a : A) × (o ≡ Some a) × (f a ≡ b)
map-some f None b e = absurd (none_some e)
map-some f (Some a) b e = (a, refl, some_same e)

-- ---- numbers and names

zero_text : decimal 0 ≡ codes "0"
zero_text = decimal_digit 0 (omega arith)

pub count_of-decimal : (text : List ℕ) (n : ℕ) → count_of text ≡ Some n → (n < 2 ^ 32) × (text ≡ decimal n)
count_of-decimal text n e = elim (cases_Bool (bytes_eq text (codes "0"))) [
  | inl t ↦
      let same : 0 ≡ n = some_same (rw t at e) in
      let is : text ≡ codes "0" = (bytes_eq-Decides text (codes "0")).0 t in
      (omega arith, is ∙ sym zero_text ∙ ap decimal same)
  | inr f ↦ let read = number_of-decimal text n (rw f at e) in (read.1, read.2)
]

pub count_of-written : (n : ℕ) → n < 2 ^ 32 → count_of (decimal n) ≡ Some n
count_of-written zero small = rw zero_text refl
count_of-written (suc n) small =
    let read : number_of (decimal (suc n)) ≡ Some (suc n) = number_of-written (suc n) (omega arith) small in
    elim (cases_Bool (bytes_eq (decimal (suc n)) (codes "0"))) [
      | inl t ↦ absurd (none_some (sym (ap number_of ((bytes_eq-Decides (decimal (suc n)) (codes "0")).0 t)) ∙ read))
      | inr f ↦ rw f read
    ]

HoldsNo-space : (text : List ℕ) → list_any (λ byte. byte == space) text ≡ false → HoldsNo space text
HoldsNo-space [] h = tt
HoldsNo-space (byte ∷ bytes) h = elim (eqb_tells byte space) [
  | inl e ↦ let bad : true ≡ false = rw e.0 at h in absurd (cc)
  | inr e ↦ (e.1, HoldsNo-space bytes (rw e.0 at h))
]

pub name_holds : (text : List ℕ) → is_name text ≡ true → HoldsNo space text
name_holds [] h = tt
name_holds (byte ∷ bytes) h = elim (cases_Bool (list_any (λ b. b == space) (byte ∷ bytes))) [
  | inl t ↦ let bad : false ≡ true = rw t at h in absurd (cc)
  | inr f ↦ HoldsNo-space (byte ∷ bytes) f
]

-- a path is written without spaces
pub path_holds : (path : List ℕ) → IsPath path → HoldsNo space (written_path path)
path_holds path h = HoldsNo-join space full_stop (map decimal path) (λ e. absurd (let bad : 46 ≡ 32 = e in omega arith)) (decimals_hold space path (omega arith) h.fit)

-- ---- what is read before the first space, and then the rest

first-read : {A B : Type 0} (read : List ℕ → Option A) (next : A → List ℕ → Option B) (text : List ℕ) (b : B) → read_first read next text ≡ Some b
    → (a : A) × (front : List ℕ) × (rest : List ℕ) × (read front ≡ Some a) × (next a rest ≡ Some b) × (text ≡ front ++ (space ∷ rest))
first-read {A} read next text b e =
    let p = and_then-some (λ (p : List ℕ × List ℕ). option_and_then (λ (a : A). next a p.1) (read p.0)) (parted space text) b e in
    let q = and_then-some (λ (a : A). next a p.0.1) (read p.0.0) b p.2 in
    (q.0, p.0.0, p.0.1, q.1, q.2, parted-joined space text p.0 p.1)

-- the name of a file, before the last space
pub file-read : {B : Type 0} (next : List ℕ → List ℕ → Option B) (text : List ℕ) (b : B) → read_file next text ≡ Some b
    → (name : List ℕ) × (rest : List ℕ) × (is_file_name name ≡ true) × (next name rest ≡ Some b) × (text ≡ name ++ (space ∷ rest))
file-read {B} next text b e =
    let p = and_then-some (λ (p : List ℕ × List ℕ). if is_file_name p.0 then next p.0 p.1 else None) (parted_last space text) b e in
    elim (cases_Bool (is_file_name p.0.0)) [
      | inr f ↦ absurd (none_some (rw f at p.2))
      | inl t ↦ (p.0.0, p.0.1, t, rw t at p.2, last-joined space text p.0 p.1)
    ]

-- a path
pub path-read : {B : Type 0} (next : List ℕ → List ℕ → Option B) (text : List ℕ) (b : B) → read_first path_of next text ≡ Some b
    → (path : List ℕ) × (rest : List ℕ) × IsPath path × (next path rest ≡ Some b) × (text ≡ written_path path ++ (space ∷ rest))
path-read next text b e =
    let f = first-read path_of next text b e in
    let read = path_of-decimal f.1 f.0 f.3 in
    (f.0, f.2, read.0, f.4, f.5 ∙ ap (λ front. front ++ (space ∷ f.2)) read.1)

pub path-then : {B : Type 0} (next : List ℕ → List ℕ → Option B) (path rest : List ℕ) → IsPath path → read_first path_of next (written_path path ++ (space ∷ rest)) ≡ next path rest
path-then next path rest h = rw (parted-append space (written_path path) rest (path_holds path h), path_of-written path h) refl

-- a name
as-name : (text name : List ℕ) → as_name text ≡ Some name → (is_name text ≡ true) × (text ≡ name)
as-name text name e = elim (cases_Bool (is_name text)) [
  | inr f ↦ absurd (none_some (rw f at e))
  | inl t ↦ (t, some_same (rw t at e))
]

pub name-read : {B : Type 0} (next : List ℕ → List ℕ → Option B) (text : List ℕ) (b : B) → read_first as_name next text ≡ Some b
    → (name : List ℕ) × (rest : List ℕ) × (is_name name ≡ true) × (next name rest ≡ Some b) × (text ≡ name ++ (space ∷ rest))
name-read next text b e =
    let f = first-read as_name next text b e in
    let read = as-name f.1 f.0 f.3 in
    (f.0, f.2, sym (ap is_name read.1) ∙ read.0, f.4, f.5 ∙ ap (λ front. front ++ (space ∷ f.2)) read.1)

pub name-then : {B : Type 0} (next : List ℕ → List ℕ → Option B) (name rest : List ℕ) → is_name name ≡ true → read_first as_name next (name ++ (space ∷ rest)) ≡ next name rest
name-then next name rest n = rw (parted-append space name rest (name_holds name n), n) refl

-- a number
pub count-read : {B : Type 0} (next : ℕ → List ℕ → Option B) (text : List ℕ) (b : B) → read_first count_of next text ≡ Some b
    → (k : ℕ) × (rest : List ℕ) × (k < 2 ^ 32) × (next k rest ≡ Some b) × (text ≡ decimal k ++ (space ∷ rest))
count-read next text b e =
    let f = first-read count_of next text b e in
    let read = count_of-decimal f.1 f.0 f.3 in
    (f.0, f.2, read.0, f.4, f.5 ∙ ap (λ front. front ++ (space ∷ f.2)) read.1)

pub count-then : {B : Type 0} (next : ℕ → List ℕ → Option B) (k : ℕ) (rest : List ℕ) → k < 2 ^ 32 → read_first count_of next (decimal k ++ (space ∷ rest)) ≡ next k rest
count-then next k rest small =
    rw (parted-append space (decimal k) rest (HoldsNo-digits space (decimal k) (omega arith) (decimal_digits k small)), count_of-written k small) refl
