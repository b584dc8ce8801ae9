-- Places between fields before an edit's splice are places between fields after it, and what was known of names is known still.
use Rattle.std.proofs.Common.{◌≡◌, ◌≤◌, ◌<◌, ◌++◌, ℕ, Bool, false, Option, List, [], ◌∷◌, refl, ap, sym, ◌∙◌, subst, min, arith, inl, inr, append_assoc, ◌⊎◌}
use Rattle.std.specs.Global.{Vec}
use Rattle.mk_line.specs.Lines.{TextLine}
use Rattle.mk_head.specs.Splits.{IsRun}
use Rattle.mk_tree.specs.Spans.{size}
use Rattle.mk_tree.proofs.Descent.{size_append}
use Rattle.mk_decide.specs.FieldPuts.{LinePut}
use Rattle.mk_decide.proofs.PutPlans.{lines_put}
use Rattle.mk_decide.proofs.Runs.{run_join}
use Rattle.mk_edit.specs.inner.FieldNames.{BeginsField, IsKnown, KnowsNames}
use Rattle.mk_edit.proofs.PassedNames.{knows_front, overlap, run_front, Overlap}

nothing_after : (ls : List TextLine) → ls ≡ ls ++ []
nothing_after [] = refl
nothing_after (l ∷ ls) = ap (λ xs. l ∷ xs) (nothing_after ls)

-- a place of the same number of bytes, with no more lines before it
abbrev Stays : (ls : List TextLine) (q : LinePut) (bytes : ℕ) → BeginsField ls bytes → Type 0
Stays ls q bytes b = (c : BeginsField (lines_put q) bytes) × ((xs : List TextLine) × (b.before ≡ c.before ++ xs))

stays_by : (ls : List TextLine) (q : LinePut) (bytes : ℕ) → IsRun false (q.given ++ q.after) → bytes ≤ size q.before → (b : BeginsField ls bytes) → Overlap b.before b.after q.before (q.old ++ q.after) → Stays ls q bytes b
stays_by ls q bytes run h b (inl p) =
    let zs = p.0 in
    let rest = q.given ++ q.after in (
      record {
        before = b.before;
        after = zs ++ rest;
        whole = sym (append_assoc b.before zs rest) ∙ ap (λ xs. xs ++ rest) (sym p.1);
        takes = b.takes;
        run = run_join false zs rest (run_front false zs (q.old ++ q.after) (subst (IsRun false) p.2 b.run)) run;
      },
      ([], nothing_after b.before),
    )
stays_by ls q bytes run h b (inr p) = (
  record {
    before = q.before;
    after = q.given ++ q.after;
    whole = refl;
    takes = omega (arith, h, b.takes, ap size p.1, size_append q.before p.0);
    run = run;
  },
  (p.0, p.1),
)

seam_stays : (ls : List TextLine) (q : LinePut) (bytes : ℕ) → q.before ++ (q.old ++ q.after) ≡ ls → IsRun false (q.given ++ q.after) → bytes ≤ size q.before → (b : BeginsField ls bytes) → Stays ls q bytes b
seam_stays ls q bytes stood run h b = stays_by ls q bytes run h b (overlap b.before b.after q.before (q.old ++ q.after) (b.whole ∙ sym stood))

pub place_stays : (ls : List TextLine) (q : LinePut) (bytes : ℕ) → q.before ++ (q.old ++ q.after) ≡ ls → IsRun false (q.given ++ q.after) → bytes ≤ size q.before → BeginsField ls bytes → BeginsField (lines_put q) bytes
place_stays ls q bytes stood run h b = (seam_stays ls q bytes stood run h b).0

-- the names before it
abbrev Either : ℕ → ℕ → Type 0
Either a b = (a ≤ b) ⊎ (b < a)

either : (a b : ℕ) → Either a b
either a b = grind arith

names_by : (ls : List TextLine) (q : LinePut) (bytes : ℕ) (marks : Option (Vec Bool)) → IsRun false (q.given ++ q.after) → size q.before < bytes → (k : IsKnown ls bytes marks) → Overlap k.place.before k.place.after q.before (q.old ++ q.after) → KnowsNames q.before marks
names_by ls q bytes marks run h k (inl p) = absurd (omega (arith, h, k.place.takes, ap size p.1, size_append k.place.before p.0))
names_by ls q bytes marks run h k (inr p) = knows_front k.place.before q.before p.0 marks p.1 k.known

known_by : (ls : List TextLine) (q : LinePut) (bytes : ℕ) (marks : Option (Vec Bool)) → q.before ++ (q.old ++ q.after) ≡ ls → IsRun false (q.given ++ q.after) → (k : IsKnown ls bytes marks) → Either bytes (size q.before) → IsKnown (lines_put q) (min bytes (size q.before)) marks
known_by ls q bytes marks stood run k (inl h) =
    let stays = seam_stays ls q bytes stood run h k.place in
    let same : bytes ≡ min bytes (size q.before) = omega (arith, h) in
    subst (λ n. IsKnown (lines_put q) n marks) same (record { place = stays.0; known = knows_front k.place.before stays.0.before stays.1.0 marks stays.1.1 k.known })
known_by ls q bytes marks stood run k (inr h) =
    let same : size q.before ≡ min bytes (size q.before) = omega (arith, h) in
    subst (λ n. IsKnown (lines_put q) n marks) same
    (record {
      place = record { before = q.before; after = q.given ++ q.after; whole = refl; takes = refl; run = run };
      known = names_by ls q bytes marks run h k (overlap k.place.before k.place.after q.before (q.old ++ q.after) (k.place.whole ∙ sym stood));
    })

pub names_stay : (ls : List TextLine) (q : LinePut) (bytes : ℕ) (marks : Option (Vec Bool)) → q.before ++ (q.old ++ q.after) ≡ ls → IsRun false (q.given ++ q.after) → IsKnown ls bytes marks → IsKnown (lines_put q) (min bytes (size q.before)) marks
names_stay ls q bytes marks stood run k = known_by ls q bytes marks stood run k (either bytes (size q.before))
