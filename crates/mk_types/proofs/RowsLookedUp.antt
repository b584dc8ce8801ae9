-- Rows of a table, looked up in turn.
use Rattle.std.proofs.Common.{◌≡◌, ◌==◌, ◌<◌, ◌+◌, ◌∙◌, ◌∷◌, [], ℕ, zero, suc, true, false, List, Option, None, Some, IfNone, IfSome, is_some, arith, drop, get_or, length, map, refl, sym, ap}
use Rattle.std.specs.List.{slice_split}
use Rattle.std.specs.Str.{bytes_eq, str_to_ascii_lowercase}
use Rattle.mk_line.specs.Parting.{following}
use Rattle.mk_pack.specs.Parts.{file_name, last_of}
use Rattle.mk_types.specs.FileTypes.{file_rows, full_stop, type_in, type_of_file}
use Rattle.mk_types.specs.inner.Rows.{row_of}
use Rattle.mk_types.specs.declared.table.FileType.{FileType}

row_next : (i : ℕ) (ts : List FileType) (d : FileType) → i < length ts → drop i ts ≡ get_or ts i d ∷ drop (i + 1) ts
row_next i [] d h = absurd (omega (arith, h))
row_next zero (y ∷ ys) d h = refl
row_next (suc i) (y ∷ ys) d h =
    let n : suc (i + 1) ≡ suc i + 1 = omega arith in
    row_next i ys d (omega (arith, h)) ∙ ap (λ k. get_or ys i d ∷ drop k (y ∷ ys)) n

-- the row that is next has the ending
pub row_found : (ts : List FileType) (ending : List ℕ) (i : ℕ) (d : FileType) → i < length ts → type_in (map row_of ts) ending ≡ type_in (map row_of (drop i ts)) ending
    → bytes_eq ending (str_to_ascii_lowercase (get_or ts i d).ending.now) ≡ true → (get_or ts i d).media.now ≡ type_in (map row_of ts) ending
row_found ts ending i d h so named = sym (so ∙ (ap (λ rs. type_in (map row_of rs) ending) (row_next i ts d h) ∙ here))
  where
    here : type_in (row_of (get_or ts i d) ∷ map row_of (drop (i + 1) ts)) ending ≡ (get_or ts i d).media.now
    here = rw named refl

-- it has another one
pub row_passed : (ts : List FileType) (ending : List ℕ) (i : ℕ) (d : FileType) → i < length ts → type_in (map row_of ts) ending ≡ type_in (map row_of (drop i ts)) ending
    → bytes_eq ending (str_to_ascii_lowercase (get_or ts i d).ending.now) ≡ false → type_in (map row_of ts) ending ≡ type_in (map row_of (drop (i + 1) ts)) ending
row_passed ts ending i d h so named = so ∙ (ap (λ rs. type_in (map row_of rs) ending) (row_next i ts d h) ∙ here)
  where
    here : type_in (row_of (get_or ts i d) ∷ map row_of (drop (i + 1) ts)) ending ≡ type_in (map row_of (drop (i + 1) ts)) ending
    here = rw named refl

-- whether a separator is there, by what was found
pub separator_found : {A : Type 0} (B : A → Type 0) (o : Option A) (f : Option (List ℕ)) (g : A → List ℕ) → IfNone o (f ≡ None) → IfSome o (λ p. B p × (f ≡ Some (g p))) → is_some f ≡ is_some o
separator_found B None f g none some = ap is_some none
separator_found B (Some p) f g none some = ap is_some some.1

-- the type of a file by its name and the ending of that
pub type_of_named : (path name ending media : List ℕ) → name ≡ file_name path → is_some (following full_stop name) ≡ true → ending ≡ last_of (slice_split (λ byte. byte == full_stop) name) → media ≡ type_in file_rows (str_to_ascii_lowercase ending) → media ≡ type_of_file path
type_of_named path name ending media name_is found ending_is media_is =
    media_is ∙ (ap (λ e. type_in file_rows (str_to_ascii_lowercase e)) (ending_is ∙ ap (λ n. last_of (slice_split (λ byte. byte == full_stop) n)) name_is) ∙ sym there)
  where
    there : type_of_file path ≡ type_in file_rows (str_to_ascii_lowercase (last_of (slice_split (λ byte. byte == full_stop) (file_name path))))
    there = let has : is_some (following full_stop (file_name path)) ≡ true = ap (λ n. is_some (following full_stop n)) (sym name_is) ∙ found in rw has refl
