-- What is printed is read back.
use Rattle.std.proofs.Common.{◌≡◌, ◌+◌, ◌-◌, ◌^◌, ◌≤◌, ◌<◌, ◌++◌, ℕ, zero, suc, Some, List, [], ◌∷◌, refl, ap, sym, ◌∙◌, length, map, codes, decimal, arith, append_assoc}
use Rattle.std.specs.List.{flat_map}
use Rattle.mk_splice.specs.declared.reading.Version.TheVariants.{Two}
use Rattle.mk_splice.specs.Splices.{Splice}
use Rattle.mk_splice.specs.Readers.{AllGood}
use Rattle.mk_splice.specs.Grammar.{Entry, StepText, IsEntry, IsStep, IsDigest, number_of, spell_entry, spell_step}
use Rattle.mk_splice.specs.Journals.{JournalText, Meaning, IsJournal, spell_journal, meaning, saturated, splice_meant, digest_of}
use Rattle.mk_splice.specs.Printed.{printed_entry, printed_step, printed, IsSmall, AreSmall}
use Rattle.mk_splice.specs.JournalLaws.{PrintedIsRead, PrintedOfTextIsRead}
use Rattle.mk_splice.specs.inner.Parts.{step_meant, printed_entries, printed_steps, AreSmallSplices, AreSmallSteps}
use Rattle.mk_splice.proofs.Decimals.{decimal_number, decimal_value}
use Rattle.mk_splice.proofs.Hexes.{digest_good}
use Rattle.mk_splice.proofs.Spelled.{spelled_is_found}

-- the texts that are printed
abbrev entry_text : Splice → Entry
entry_text s = record { place = decimal s.place; old_size = decimal (length s.old); new_size = decimal (length s.new); old = s.old; new = s.new }

abbrev step_text : List Splice → StepText
step_text ss = record { count = decimal (length ss); entries = map entry_text ss }

abbrev journal_text : List ℕ → List (List Splice) → ℕ → JournalText
journal_text digest ss done = record { version = Two; digest = digest; done = decimal done; undone = decimal (length ss - done); steps = map step_text ss }

-- they are spelled as they are printed
entry_printed : (s : Splice) → spell_entry (entry_text s) ≡ printed_entry s
entry_printed s = simp append_assoc refl

entries_printed : (ss : List Splice) → flat_map spell_entry (map entry_text ss) ≡ printed_entries ss
entries_printed [] = refl
entries_printed (s ∷ ss) = ap (λ k. k ++ flat_map spell_entry (map entry_text ss)) (entry_printed s) ∙ ap (λ k. printed_entry s ++ k) (entries_printed ss)

step_printed : (ss : List Splice) → spell_step Two (step_text ss) ≡ printed_step ss
step_printed ss = ap (λ k. (decimal (length ss) ++ 10 ∷ []) ++ k) (entries_printed ss)

steps_printed : (ss : List (List Splice)) → flat_map (spell_step Two) (map step_text ss) ≡ printed_steps ss
steps_printed [] = refl
steps_printed (s ∷ ss) = ap (λ k. k ++ flat_map (spell_step Two) (map step_text ss)) (step_printed s) ∙ ap (λ k. printed_step s ++ k) (steps_printed ss)

regrouped : (h g l d u s : List ℕ) → (((h ++ (g ++ l)) ++ d) ++ u) ++ s ≡ (h ++ (g ++ (l ++ (d ++ u)))) ++ s
regrouped h g l d u s = simp append_assoc refl

journal_printed : (digest : List ℕ) (ss : List (List Splice)) (done : ℕ) → spell_journal (journal_text digest ss done) ≡ printed digest ss done
journal_printed digest ss done =
    ap (λ k. ((((codes "mimejournal 2\n" ++ (digest ++ 10 ∷ [])) ++ (decimal done ++ 32 ∷ [])) ++ (decimal (length ss - done) ++ 10 ∷ []))) ++ k) (steps_printed ss)
    ∙ regrouped (codes "mimejournal 2\n") digest (10 ∷ []) (decimal done ++ 32 ∷ []) (decimal (length ss - done) ++ 10 ∷ []) (printed_steps ss)

-- they are good
entry_good : (s : Splice) → IsSmall s → IsEntry (entry_text s)
entry_good s h = record {
  place = decimal_number s.place h.place;
  old_size = decimal_number (length s.old) h.old;
  new_size = decimal_number (length s.new) h.new;
  old = sym (decimal_value (length s.old) h.old);
  new = sym (decimal_value (length s.new) h.new);
}

entries_good : (n : ℕ) (ss : List Splice) → AreSmallSplices ss → length ss ≡ n → AllGood IsEntry n (map entry_text ss)
entries_good zero [] h e = tt
entries_good zero (s ∷ ss) h e = absurd (omega (arith, e))
entries_good (suc n) [] h e = absurd (omega (arith, e))
entries_good (suc n) (s ∷ ss) h e = (entry_good s h.0, entries_good n ss h.1 (omega (arith, e)))

step_good : (ss : List Splice) → length ss < 2 ^ 64 → AreSmallSplices ss → IsStep Two (step_text ss)
step_good ss n h = record { count = decimal_number (length ss) n; entries = entries_good (number_of (decimal (length ss))) ss h (sym (decimal_value (length ss) n)) }

steps_good : (n : ℕ) (ss : List (List Splice)) → AreSmallSteps ss → length ss ≡ n → AllGood (IsStep Two) n (map step_text ss)
steps_good zero [] h e = tt
steps_good zero (s ∷ ss) h e = absurd (omega (arith, e))
steps_good (suc n) [] h e = absurd (omega (arith, e))
steps_good (suc n) (s ∷ ss) h e = (step_good s h.0.0 h.0.1, steps_good n ss h.1 (omega (arith, e)))

journal_good : (digest : List ℕ) (ss : List (List Splice)) (done : ℕ) → IsDigest Two digest → done ≤ length ss → AreSmall ss → IsJournal (journal_text digest ss done)
journal_good digest ss done d w h =
    let small : done < 2 ^ 64 = omega (arith, w, h.0) in
    let rest : length ss - done < 2 ^ 64 = omega (arith, w, h.0) in
    record {
      digest = d;
      done = decimal_number done small;
      undone = decimal_number (length ss - done) rest;
      steps = steps_good (number_of (decimal done) + number_of (decimal (length ss - done))) ss h.1 (omega (arith, w, decimal_value done small, decimal_value (length ss - done) rest));
    }

-- they mean what was printed
place_meant : (n : ℕ) → n < 2 ^ 64 → saturated (number_of (decimal n)) ≡ n
place_meant n h = omega (arith, h, decimal_value n h)

entry_meant : (s : Splice) → IsSmall s → splice_meant (entry_text s) ≡ s
entry_meant s h = ap (λ n. let t : Splice = record { place = n; old = s.old; new = s.new } in t) (place_meant s.place h.place)

entries_meant : (ss : List Splice) → AreSmallSplices ss → map splice_meant (map entry_text ss) ≡ ss
entries_meant [] h = refl
entries_meant (s ∷ ss) h = ap (λ k. k ∷ map splice_meant (map entry_text ss)) (entry_meant s h.0) ∙ ap (λ k. s ∷ k) (entries_meant ss h.1)

steps_meant : (ss : List (List Splice)) → AreSmallSteps ss → map step_meant (map step_text ss) ≡ ss
steps_meant [] h = refl
steps_meant (s ∷ ss) h = ap (λ k. k ∷ map step_meant (map step_text ss)) (entries_meant s h.0.1) ∙ ap (λ k. s ∷ k) (steps_meant ss h.1)

journal_meant : (digest : List ℕ) (ss : List (List Splice)) (done : ℕ) → done ≤ length ss → AreSmall ss → meaning (journal_text digest ss done) ≡ record { digest = Some digest; steps = ss; done = done }
journal_meant digest ss done w h =
    ap (λ k. let m : Meaning = record { digest = Some digest; steps = k; done = number_of (decimal done) } in m) (steps_meant ss h.1)
    ∙ ap (λ k. let m : Meaning = record { digest = Some digest; steps = ss; done = k } in m) (decimal_value done (omega (arith, w, h.0)))

pub printed_is_read : PrintedIsRead
printed_is_read digest ss done d w h = (
  journal_text digest ss done,
  spelled_is_found (printed digest ss done) (journal_text digest ss done) (journal_good digest ss done d w h) (journal_printed digest ss done),
  journal_meant digest ss done w h,
)

pub printed_of_text_is_read : PrintedOfTextIsRead
printed_of_text_is_read text ss done w h = printed_is_read (digest_of text) ss done (digest_good text) w h
