-- Entries of lists one by one.
use Rattle.std.proofs.Common.{◌≡◌, ◌&&◌, ℕ, Option, List, [], ◌∷◌, refl, ap, sym, ◌∙◌, inl, inr, length, take, arith}
use Rattle.std.proofs.lemmas.Bool.{cases_Bool}
use Rattle.mk_line.specs.declared.cutting.Ending.{Ending}
use Rattle.mk_head.specs.Values.{Scan, Plain, is_plain, scan}
use Rattle.mk_wording.specs.Lists.{ends_of, worded_entries, worded_entry, worded_pieces}
use Rattle.mk_wording.specs.Scanned.{ListEntry, before_mark, entries, from_mark, is_one_of, push_entry}
use Rattle.mk_wording.specs.Stretches.{part_before, worded_text}
use Rattle.mk_wording.specs.declared.lists.ListKind.{ListKind}
use Rattle.mk_wording.specs.declared.lists.ListKind.TheVariants.{Parameters}
use Rattle.mk_wording.specs.declared.stretches.Outside.TheVariants.{Ascii}

-- the entries after an end, where there is one
abbrev pub entries_after : List ℕ → List ℕ → List ListEntry
entries_after ends [] = []
entries_after ends (byte ∷ bytes) = entries ends Plain bytes

-- the first entry and the others
pub entries_step : (ends : List ℕ) (s : Scan) (v : List ℕ) → entries ends s v ≡ record { text = before_mark ends s v; end = take 1 (from_mark ends s v) } ∷ entries_after ends (from_mark ends s v)
entries_step ends s [] = refl
entries_step ends s (b ∷ bs) =
    elim (cases_Bool (is_plain s && is_one_of ends b)) [
      | inl t ↦ rw t refl
      | inr f ↦ rw f (ap (push_entry b) (entries_step ends (scan s b) bs))
    ]

pub no_byte : (bytes : List ℕ) → length bytes ≡ 0 → bytes ≡ []
no_byte [] h = refl
no_byte (b ∷ bs) h = absurd (omega (arith, h))

-- the first entry and the others, by the texts that the code has of them
pub entries_found : (ends rest text end : List ℕ) → text ≡ before_mark ends Plain rest → end ≡ from_mark ends Plain rest
    → entries ends Plain rest ≡ record { text = text; end = take 1 end } ∷ entries_after ends end
entries_found ends rest text end t e = entries_step ends Plain rest ∙ (λ i. record { text = sym t i; end = take 1 (sym e i) } ∷ entries_after ends (sym e i))

-- what a list is written as, by its first entry
pub list_told : (kind : ListKind) (eol : Ending) (rest text end : List ℕ) (o : Option (List ℕ))
    → entries (ends_of kind) Plain rest ≡ record { text = text; end = take 1 end } ∷ entries_after (ends_of kind) end
    → o ≡ worded_entry kind eol (record { text = text; end = take 1 end })
    → worded_entries kind eol (entries (ends_of kind) Plain rest) ≡ part_before (take 1 end) o (worded_entries kind eol (entries_after (ends_of kind) end))
list_told kind eol rest text end o e h =
    ap (worded_entries kind eol) e ∙ ap (λ w. part_before (take 1 end) w (worded_entries kind eol (entries_after (ends_of kind) end))) (sym h)

-- what a value with parameters is written as, by what stands before them
pub pieces_told : (eol : Ending) (value text end : List ℕ) (o : Option (List ℕ))
    → entries (ends_of Parameters) Plain value ≡ record { text = text; end = take 1 end } ∷ entries_after (ends_of Parameters) end → o ≡ worded_text Ascii eol text
    → worded_pieces eol (entries (ends_of Parameters) Plain value) ≡ part_before (take 1 end) o (worded_entries Parameters eol (entries_after (ends_of Parameters) end))
pieces_told eol value text end o e h =
    ap (worded_pieces eol) e ∙ ap (λ w. part_before (take 1 end) w (worded_entries Parameters eol (entries_after (ends_of Parameters) end))) (sym h)
