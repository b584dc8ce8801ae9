-- Blanks at the end of a content, and lines by their marks.
use Rattle.std.proofs.Common.{◌≡◌, ◌≢◌, ◌<◌, ◌≤◌, ◌+◌, ◌-◌, ℕ, Bool, true, false, List, [], ◌∷◌, ◌++◌, refl, ap, sym, ◌∙◌, length, take, slice_index, arith, inl, inr}
use Rattle.std.proofs.lemmas.Bool.{cases_Bool}
use Rattle.std.proofs.lemmas.List.{take_more, append_cancel_right}
use Rattle.std.proofs.lemmas.Slice.Eq.{bytes_eq-Decides}
use Rattle.std.specs.Str.{bytes_eq}
use Rattle.mk_line.specs.Ascii.{is_blank}
use Rattle.mk_line.specs.declared.marks.Mark.TheVariants.{No, Part, Close}
use Rattle.mk_line.specs.Marks.{trimmed, trimmed_before, mark, dashed}

trimmed_none : (c : ℕ) → is_blank c ≡ true → trimmed_before c [] ≡ []
trimmed_none c h = rw h refl

trimmed_one : (c : ℕ) → is_blank c ≡ false → trimmed_before c [] ≡ c ∷ []
trimmed_one c h = rw h refl

-- a blank at the end goes
pub trimmed_blank : (cs : List ℕ) (c : ℕ) → is_blank c ≡ true → trimmed (cs ++ c ∷ []) ≡ trimmed cs
trimmed_blank [] c h = trimmed_none c h
trimmed_blank (x ∷ cs) c h = ap (trimmed_before x) (trimmed_blank cs c h)

trimmed_onto : (x : ℕ) (cs : List ℕ) (c : ℕ) → trimmed_before x (cs ++ c ∷ []) ≡ x ∷ (cs ++ c ∷ [])
trimmed_onto x [] c = refl
trimmed_onto x (y ∷ cs) c = refl

-- where the last byte is no blank, nothing goes
pub trimmed_kept : (cs : List ℕ) (c : ℕ) → is_blank c ≡ false → trimmed (cs ++ c ∷ []) ≡ cs ++ c ∷ []
trimmed_kept [] c h = trimmed_one c h
trimmed_kept (x ∷ cs) c h = ap (trimmed_before x) (trimmed_kept cs c h) ∙ trimmed_onto x cs c

-- one step of the walk from the end
pub trimmed_less : (content : List ℕ) (size : ℕ) → size < length content → is_blank (slice_index content size) ≡ true → trimmed (take (size + 1) content) ≡ trimmed (take size content)
trimmed_less content size l h = ap trimmed (take_more content size 0 l) ∙ trimmed_blank (take size content) (slice_index content size) h

pub trimmed_end : (content : List ℕ) (size : ℕ) → size < length content → is_blank (slice_index content size) ≡ false → trimmed (take (size + 1) content) ≡ take (size + 1) content
trimmed_end content size l h =
    ap trimmed (take_more content size 0 l) ∙ (trimmed_kept (take size content) (slice_index content size) h ∙ sym (take_more content size 0 l))

-- two tests of which each tells the other
pub same_tests : (a b : Bool) → (a ≡ true → b ≡ true) → (b ≡ true → a ≡ true) → a ≡ b
same_tests true true f g = refl
same_tests true false f g = sym (f refl)
same_tests false true f g = g refl
same_tests false false f g = refl

pub untold : (xs ys : List ℕ) → xs ≢ ys → bytes_eq xs ys ≡ false
untold xs ys h = elim (cases_Bool (bytes_eq xs ys)) [ inl t ↦ absurd (h ((bytes_eq-Decides xs ys).0 t)) | inr f ↦ f ]

-- the end that both have doesn't matter
pub same_end : (xs ys end : List ℕ) → bytes_eq (xs ++ end) (ys ++ end) ≡ bytes_eq xs ys
same_end xs ys end =
    same_tests (bytes_eq (xs ++ end) (ys ++ end)) (bytes_eq xs ys)
    (λ t. (bytes_eq-Decides xs ys).1 (append_cancel_right xs ys end ((bytes_eq-Decides (xs ++ end) (ys ++ end)).0 t)))
    (λ t. (bytes_eq-Decides (xs ++ end) (ys ++ end)).1 (ap (λ zs. zs ++ end) ((bytes_eq-Decides xs ys).0 t)))

back : (size : ℕ) → 0 < size → size - 1 + 1 ≡ size
back size o = omega arith

-- the walk from the end: one blank less, or the end of what stays
pub walked : (content : List ℕ) (size : ℕ) → size ≤ length content → 0 < size → is_blank (slice_index content (size - 1)) ≡ true → trimmed (take (size - 1) content) ≡ trimmed (take size content)
walked content size l o h =
    sym (trimmed_less content (size - 1) (omega arith) h) ∙ ap (λ n. trimmed (take n content)) (back size o)

pub ended_some : (content : List ℕ) (size : ℕ) → size ≤ length content → 0 < size → is_blank (slice_index content (size - 1)) ≡ false → take size content ≡ trimmed (take size content)
ended_some content size l o h =
    let e = ap (λ n. take n content) (back size o) in
    sym e ∙ (sym (trimmed_end content (size - 1) (omega arith) h) ∙ ap trimmed e)

pub ended_none : (content : List ℕ) (size : ℕ) → size ≡ 0 → take size content ≡ trimmed (take size content)
ended_none content size e = rw e refl

-- what each answer of the tests says of the mark
pub marked_part : (b content : List ℕ) → bytes_eq (trimmed content) (dashed b) ≡ true → Part ≡ mark b content
marked_part b content h = rw h refl

pub marked_close : (b content front : List ℕ) → bytes_eq (trimmed content) (dashed b) ≡ false → trimmed content ≡ front ++ 45 ∷ 45 ∷ [] → bytes_eq front (dashed b) ≡ true → Close ≡ mark b content
marked_close b content front h e t =
    let closes : bytes_eq (trimmed content) (dashed b ++ 45 ∷ 45 ∷ []) ≡ true = ap (λ xs. bytes_eq xs (dashed b ++ 45 ∷ 45 ∷ [])) e ∙ (same_end front (dashed b) (45 ∷ 45 ∷ []) ∙ t) in
    rw (h, closes) refl

pub unmarked_front : (b content front : List ℕ) → bytes_eq (trimmed content) (dashed b) ≡ false → trimmed content ≡ front ++ 45 ∷ 45 ∷ [] → bytes_eq front (dashed b) ≡ false → No ≡ mark b content
unmarked_front b content front h e t =
    let unclosed : bytes_eq (trimmed content) (dashed b ++ 45 ∷ 45 ∷ []) ≡ false = ap (λ xs. bytes_eq xs (dashed b ++ 45 ∷ 45 ∷ [])) e ∙ (same_end front (dashed b) (45 ∷ 45 ∷ []) ∙ t) in
    rw (h, unclosed) refl

pub unmarked_end : (b content : List ℕ) → bytes_eq (trimmed content) (dashed b) ≡ false → ((front : List ℕ) → trimmed content ≢ front ++ 45 ∷ 45 ∷ []) → No ≡ mark b content
unmarked_end b content h n = rw (h, untold (trimmed content) (dashed b ++ 45 ∷ 45 ∷ []) (n (dashed b))) refl

-- two hyphens and the rest
pub dashed_some : (line b rest : List ℕ) → line ≡ 45 ∷ 45 ∷ rest → bytes_eq rest b ≡ bytes_eq line (dashed b)
dashed_some line b rest e = ap (λ xs. bytes_eq xs (dashed b)) (sym e)

pub dashed_none : (line b : List ℕ) → ((rest : List ℕ) → line ≢ 45 ∷ 45 ∷ rest) → false ≡ bytes_eq line (dashed b)
dashed_none line b h = sym (untold line (dashed b) (h b))
