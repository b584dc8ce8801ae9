-- The text of a document with lines put among those of a section, and whether an open line would stand early in it.
use Rattle.std.proofs.Common.{◌≡◌, ◌==◌, ◌&&◌, ◌||◌, ◌+◌, ◌-◌, ◌<◌, ◌++◌, ℕ, Bool, true, false, List, [], ◌∷◌, refl, ap, sym, ◌∙◌, subst, length, take, nat_lt, arith, inl, inr, append_assoc, length-append}
use Rattle.std.proofs.lemmas.Bool.{cases_Bool, or_parts, eqb-true}
use Rattle.std.proofs.Math.Seq.{take-length, take-append_seam}
use Rattle.mk_line.specs.Lines.{TextLine, cut, text_of, is_nil, AreLines, ends_open}
use Rattle.mk_line.proofs.Cuts.{text_cut, lines_cut, text_append}
use Rattle.mk_tree.specs.Spans.{size}
use Rattle.mk_splice.specs.Splices.{spliced}
use Rattle.mk_splice.proofs.Bytes.{spliced_there}
use Rattle.mk_tree.proofs.Descent.{size_append}
use Rattle.mk_decide.specs.Reasons.{is_open_early}
use Rattle.mk_decide.specs.LocalAnswers.{opens_at}
use Rattle.mk_decide.proofs.Openings.{last_open, has_line, early_join, early_none, open_text, some_text}
use Rattle.mk_decide.proofs.OpenPlaces.{front_open, more_lines, after_lines}

-- lines of a text, in two lists
pub record AreClosed (xs ys : List TextLine) : Type 0 where
  pub front : is_open_early xs ≡ false
  pub seam : (last_open xs && has_line ys) ≡ false
  pub back : is_open_early ys ≡ false

are_closed : (xs ys : List TextLine) → AreLines (xs ++ ys) → AreClosed xs ys
are_closed xs ys h =
    let p = or_parts (is_open_early xs) ((last_open xs && has_line ys) || is_open_early ys) (sym (early_join xs ys) ∙ early_none (xs ++ ys) h) in
    let q = or_parts (last_open xs && has_line ys) (is_open_early ys) p.1 in
    record { front = p.0; seam = q.0; back = q.1 }

line_after : (a : Bool) (old ys : List TextLine) → (a && has_line (old ++ ys)) ≡ false → (a && has_line ys) ≡ false
line_after a [] ys h = h
line_after true (l ∷ old) ys h = cc
line_after false (l ∷ old) ys h = refl

-- lines that go and for which nothing comes
gone_closed : (xs old ys : List TextLine) → AreLines (xs ++ (old ++ ys)) → is_open_early (xs ++ ys) ≡ false
gone_closed xs old ys h =
    let a = are_closed xs (old ++ ys) h in
    let b = are_closed old ys (after_lines xs (old ++ ys) h) in
    early_join xs ys ∙ rw (a.front, line_after (last_open xs) old ys a.seam, b.back) refl

and_one : (a : Bool) → (a && true) ≡ a
and_one true = refl
and_one false = refl

and_none : (a : Bool) → (a && false) ≡ false
and_none true = refl
and_none false = refl

or_none : (a : Bool) → (a || false) ≡ a
or_none true = refl
or_none false = refl

-- lines that come
given_open : (xs old : List TextLine) (g : TextLine) (gs ys : List TextLine) → AreLines (xs ++ (old ++ ys)) → AreLines (g ∷ gs) → is_open_early (xs ++ ((g ∷ gs) ++ ys)) ≡ (last_open xs || (last_open (g ∷ gs) && has_line ys))
given_open xs old g gs ys h k =
    let a = are_closed xs (old ++ ys) h in
    let b = are_closed old ys (after_lines xs (old ++ ys) h) in
    early_join xs ((g ∷ gs) ++ ys) ∙ rw (a.front, and_one (last_open xs), early_join (g ∷ gs) ys, early_none (g ∷ gs) k, b.back) (ap (λ t. last_open xs || t) (or_none (last_open (g ∷ gs) && has_line ys)))

true_false : {A : Type 0} → true ≡ false → A
true_false e = cc

differ : (n : ℕ) → (n == n) ≡ false → ⊥
differ n e = grind (arith, e)

same_test : (n : ℕ) → (n == n) ≡ true
same_test n =
    elim (cases_Bool (n == n)) [
      | inl e ↦ e
      | inr e ↦ absurd (differ n e)
    ]

sizes_are : (text : List ℕ) (xs zs : List TextLine) → cut text ≡ xs ++ zs → length text ≡ size xs + size zs
sizes_are text xs zs e = omega (arith, ap length (sym (text_cut text)), ap size e, size_append xs zs)

-- what follows a place, by whether it is the end
some_after : (text : List ℕ) (xs zs : List TextLine) → cut text ≡ xs ++ zs → (size xs == length text) ≡ false → has_line zs ≡ true
some_after text xs [] e h =
    let same : length text ≡ size xs = omega (arith, sizes_are text xs [] e) in
    true_false (sym (same_test (size xs)) ∙ (ap (λ n. size xs == n) (sym same) ∙ h))
some_after text xs (z ∷ zs) e h = refl

none_after : (text : List ℕ) (xs zs : List TextLine) → cut text ≡ xs ++ zs → (size xs == length text) ≡ true → zs ≡ []
none_after text xs [] e h = refl
none_after text xs (z ∷ zs) e h =
    let a : AreLines (z ∷ zs) = after_lines xs (z ∷ zs) (subst AreLines e (lines_cut text)) in
    let none : 0 < 0 = omega (arith, eqb-true (size xs) (length text) h, sizes_are text xs (z ∷ zs) e, some_text z zs a.0) in
    absurd (omega (arith, none))

none_left : (old ys : List TextLine) → old ++ ys ≡ [] → ys ≡ []
none_left [] ys e = e
none_left (l ∷ old) ys e = cc

not_nil : (bytes : List ℕ) → 0 < length bytes → is_nil bytes ≡ false
not_nil [] h = let none : 0 < 0 = h in absurd (omega arith)
not_nil (b ∷ bs) h = refl

one_true : (a b : Bool) → (a && b) ≡ false → b ≡ true → a ≡ false
one_true true b h k = sym k ∙ h
one_true false b h k = refl

-- whether an open line stands early, by the bytes around the place
pub opens_same : (text : List ℕ) (xs old given ys : List TextLine) → cut text ≡ xs ++ (old ++ ys) → AreLines given → opens_at text (size xs) (size old) (text_of given) ≡ is_open_early (xs ++ (given ++ ys))
opens_same text xs old [] ys e k = sym (gone_closed xs old ys (subst AreLines e (lines_cut text)))
opens_same text xs old (g ∷ gs) ys e k =
    let whole : AreLines (xs ++ (old ++ ys)) = subst AreLines e (lines_cut text) in
    let goal = given_open xs old g gs ys whole k in
    rw (not_nil (text_of (g ∷ gs)) (some_text g gs k.0))
    (elim (cases_Bool (size xs == length text)) [
      | inl h ↦
          let none : ys ≡ [] = none_left old ys (none_after text xs (old ++ ys) e h) in
          let all : take (size xs) text ≡ text = ap (λ n. take n text) (eqb-true (size xs) (length text) h) ∙ take-length text in
          rw h
          (ap ends_open (sym all) ∙ (front_open text xs (old ++ ys) e
          ∙ (sym (or_none (last_open xs)) ∙ (ap (λ t. last_open xs || t) (sym (and_none (last_open (g ∷ gs)))) ∙ (ap (λ zs. last_open xs || (last_open (g ∷ gs) && has_line zs)) (sym none) ∙ sym goal)))))
      | inr h ↦
          let closed : last_open xs ≡ false = one_true (last_open xs) (has_line (old ++ ys)) (are_closed xs (old ++ ys) whole).seam (some_after text xs (old ++ ys) e h) in
          let more : nat_lt (size xs + size old) (length text) ≡ has_line ys =
          ap (λ n. nat_lt n (length text)) (sym (size_append xs old)) ∙ more_lines text (xs ++ old) ys (e ∙ sym (append_assoc xs old ys)) (after_lines old ys (after_lines xs (old ++ ys) whole)) in
          rw h
          (ap (λ t. t && nat_lt (size xs + size old) (length text)) (open_text g gs k)
          ∙ (ap (λ t. last_open (g ∷ gs) && t) more ∙ (ap (λ t. t || (last_open (g ∷ gs) && has_line ys)) (sym closed) ∙ sym goal)))
    ])

-- the text with lines in the place of others
pub apart : (xs ys zs : List TextLine) → text_of (xs ++ (ys ++ zs)) ≡ text_of xs ++ (text_of ys ++ text_of zs)
apart xs ys zs = text_append xs (ys ++ zs) ∙ ap (λ t. text_of xs ++ t) (text_append ys zs)

-- of which the last bytes stay
pub put_printed : (text : List ℕ) (xs old given ys : List TextLine) (gone new kept : List ℕ) → cut text ≡ xs ++ (old ++ ys) → text_of old ≡ gone ++ kept → text_of given ≡ new ++ kept
    → spliced (size xs) (size old - length kept) (take (size given - length kept) (text_of given)) text ≡ text_of (xs ++ (given ++ ys))
put_printed text xs old given ys gone new kept e p q =
    let bytes : text ≡ text_of xs ++ (gone ++ (kept ++ text_of ys)) =
    sym (text_cut text) ∙ (ap text_of e ∙ (apart xs old ys ∙ (ap (λ t. text_of xs ++ (t ++ text_of ys)) p ∙ ap (λ t. text_of xs ++ t) (append_assoc gone kept (text_of ys))))) in
    let count : size old - length kept ≡ length gone = omega (arith, ap length p, length-append gone kept) in
    let most : size given - length kept ≡ length new = omega (arith, ap length q, length-append new kept) in
    let put : take (size given - length kept) (text_of given) ≡ new = ap (λ n. take n (text_of given)) most ∙ (ap (take (length new)) q ∙ take-append_seam new kept) in
    ap (λ n. spliced (size xs) n (take (size given - length kept) (text_of given)) text) count
    ∙ (ap (λ t. spliced (size xs) (length gone) t text) put
    ∙ (ap (spliced (size xs) (length gone) new) bytes
    ∙ (spliced_there (text_of xs) gone (kept ++ text_of ys) new
    ∙ (ap (λ t. text_of xs ++ t) (sym (append_assoc new kept (text_of ys))) ∙ (ap (λ t. text_of xs ++ (t ++ text_of ys)) (sym q) ∙ sym (apart xs given ys))))))
