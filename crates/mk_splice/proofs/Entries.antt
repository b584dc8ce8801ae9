-- Entries, steps and journals are read as they are spelled.
use Rattle.std.proofs.Common.{◌≡◌, ◌==◌, ◌+◌, ◌++◌, ℕ, true, inl, inr, List, [], ◌∷◌, refl, ap, sym, ◌∙◌, length, eq-eqb, eqb-true, codes}
use Rattle.std.proofs.lemmas.Bool.{or_cases}
use Rattle.std.specs.List.{flat_map}
use Rattle.mk_splice.specs.declared.reading.Version.{Version}
use Rattle.mk_splice.specs.declared.reading.Version.TheVariants.{One, Two}
use Rattle.mk_splice.specs.Readers.{read_times, read_byte, read_run, AllGood}
use Rattle.mk_splice.specs.Grammar.{Entry, StepText, IsNumber, IsEntry, IsStep, IsDigest, IsCount, is_hex, count_of, number_of, read_number, read_sizes, read_entry, read_version, read_digest, read_count, read_step, spell_entry, spell_version, spell_line, spell_step}
use Rattle.mk_splice.specs.Journals.{JournalText, IsJournal, spell_journal, read_front, read_journal}
use Rattle.mk_splice.specs.inner.Parts.{read_mark, is_version, version_of, read_end, entry_of, step_of, journal_of, read_first}
use Rattle.mk_splice.proofs.Sequences.{Reads, reads_two, reads_named}
use Rattle.mk_splice.proofs.Parts.{reads_nothing, reads_byte, reads_mark, reads_run, some_run, reads_text, reads_times, some_times}
use Rattle.mk_splice.proofs.Numbers.{reads_spaced, reads_lined}

-- the number 0
some_number : (ds : List ℕ) × IsNumber ds
some_number = (48 ∷ [], (refl, tt))

-- the byte that is given
some_mark : (e : ℕ) → (c : ℕ) × (c == e ≡ true)
some_mark e = (e, eq-eqb e e refl)

-- the numbers of an entry
reads_sizes : Reads ((List ℕ × List ℕ) × List ℕ) (λ p. (IsNumber p.0.0 × IsNumber p.0.1) × IsNumber p.1) (λ p. ((p.0.0 ++ 32 ∷ []) ++ (p.0.1 ++ 32 ∷ [])) ++ (p.1 ++ 10 ∷ [])) read_sizes
reads_sizes =
    reads_two _ _ _ _ _ (λ p ds. IsNumber ds) (λ p ds. ds ++ 10 ∷ []) (λ p. read_number 10)
    (reads_two _ _ _ _ _ (λ p ds. IsNumber ds) (λ p ds. ds ++ 32 ∷ []) (λ p. read_number 32) reads_spaced (λ p g. reads_spaced) (λ p g. some_number))
    (λ p g. reads_lined)
    (λ p g. some_number)

-- bytes and a line feed
reads_end : (n : ℕ) → Reads (List ℕ × ℕ) (λ p. (length p.0 ≡ n) × (p.1 == 10 ≡ true)) (λ p. p.0 ++ p.1 ∷ []) (read_end n)
reads_end n = reads_two _ _ _ _ _ (λ p c. c == 10 ≡ true) (λ p c. c ∷ []) (λ p. read_mark 10) (reads_run n) (λ p g. reads_mark 10) (λ p g. some_mark 10)

some_end : (n : ℕ) → (p : List ℕ × ℕ) × ((length p.0 ≡ n) × (p.1 == 10 ≡ true))
some_end n = let xs = some_run n in ((xs.0, 10), (xs.1, refl))

entry_good : (p : (((List ℕ × List ℕ) × List ℕ) × List ℕ) × (List ℕ × ℕ)) → ((((IsNumber p.0.0.0.0 × IsNumber p.0.0.0.1) × IsNumber p.0.0.1) × (length p.0.1 ≡ number_of p.0.0.0.1)) × ((length p.1.0 ≡ number_of p.0.0.1) × (p.1.1 == 10 ≡ true)))
    → IsEntry (entry_of p) × (spell_entry (entry_of p) ≡ (((((p.0.0.0.0 ++ 32 ∷ []) ++ (p.0.0.0.1 ++ 32 ∷ [])) ++ (p.0.0.1 ++ 10 ∷ [])) ++ p.0.1) ++ (p.1.0 ++ p.1.1 ∷ [])))
entry_good p g = (
  record { place = g.0.0.0.0; old_size = g.0.0.0.1; new_size = g.0.0.1; old = g.0.1; new = g.1.0 },
  ap (λ c. ((((p.0.0.0.0 ++ 32 ∷ []) ++ (p.0.0.0.1 ++ 32 ∷ [])) ++ (p.0.0.1 ++ 10 ∷ [])) ++ p.0.1) ++ (p.1.0 ++ c ∷ [])) (sym (eqb-true p.1.1 10 g.1.1)),
)

entry_from : (e : Entry) → IsEntry e
    → (p : (((List ℕ × List ℕ) × List ℕ) × List ℕ) × (List ℕ × ℕ)) × ((((IsNumber p.0.0.0.0 × IsNumber p.0.0.0.1) × IsNumber p.0.0.1) × (length p.0.1 ≡ number_of p.0.0.0.1)) × ((length p.1.0 ≡ number_of p.0.0.1) × (p.1.1 == 10 ≡ true))) × (entry_of p ≡ e)
entry_from e g = (((((e.place, e.old_size), e.new_size), e.old), (e.new, 10)), (((((g.place, g.old_size), g.new_size), g.old), (g.new, refl))), refl)

pub reads_entry : Reads Entry IsEntry spell_entry read_entry
reads_entry =
    reads_named _ Entry _ _ _ entry_of IsEntry spell_entry
    (reads_two _ _ _ _ _ (λ p q. (length q.0 ≡ number_of p.0.1) × (q.1 == 10 ≡ true)) (λ p q. q.0 ++ q.1 ∷ []) (λ p. read_end (number_of p.0.1))
    (reads_two _ _ _ _ _ (λ p xs. length xs ≡ number_of p.0.1) (λ p xs. xs) (λ p. read_run (number_of p.0.1)) reads_sizes (λ p g. reads_run (number_of p.0.1)) (λ p g. some_run (number_of p.0.1)))
    (λ p g. reads_end (number_of p.0.1))
    (λ p g. some_end (number_of p.0.1)))
    entry_good
    entry_from

some_entry : (e : Entry) × IsEntry e
some_entry = (record { place = 48 ∷ []; old_size = 48 ∷ []; new_size = 48 ∷ []; old = []; new = [] }, record { place = (refl, tt); old_size = (refl, tt); new_size = (refl, tt); old = refl; new = refl })

-- a version
version_good : (c : ℕ) → is_version c ≡ true → Unit {0} × (spell_version (version_of c) ≡ c ∷ [])
version_good c h =
    elim (or_cases (c == 49) (c == 50) h) [
      | inl e ↦ (tt, ap (λ d. spell_version (version_of d)) (eqb-true c 49 e) ∙ ap (λ d. d ∷ []) (sym (eqb-true c 49 e)))
      | inr e ↦ (tt, ap (λ d. spell_version (version_of d)) (eqb-true c 50 e) ∙ ap (λ d. d ∷ []) (sym (eqb-true c 50 e)))
    ]

version_from : (v : Version) → Unit {0} → (c : ℕ) × (is_version c ≡ true) × (version_of c ≡ v)
version_from One u = (49, refl, refl)
version_from Two u = (50, refl, refl)

reads_version : Reads Version (λ v. Unit {0}) spell_version read_version
reads_version = reads_named ℕ Version _ _ _ version_of (λ v. Unit {0}) spell_version (reads_byte is_version 49 refl) version_good version_from

-- a digest
digits_spelled : (ds : List ℕ) → flat_map (λ c. c ∷ []) ds ≡ ds
digits_spelled [] = refl
digits_spelled (c ∷ cs) = ap (λ k. c ∷ k) (digits_spelled cs)

pub reads_digest : (v : Version) → Reads (List ℕ) (IsDigest v) (spell_line v) (read_digest v)
reads_digest One = reads_nothing
reads_digest Two =
    reads_named (List ℕ × ℕ) (List ℕ) _ _ _ (λ p. p.0) (IsDigest Two) (spell_line Two)
    (reads_two _ _ _ _ _ (λ ds c. c == 10 ≡ true) (λ ds c. c ∷ []) (λ ds. read_mark 10) (reads_times ℕ (λ c. is_hex c ≡ true) (λ c. c ∷ []) (read_byte is_hex) (reads_byte is_hex 48 refl) 48 refl 64) (λ p g. reads_mark 10) (λ p g. some_mark 10))
    (λ p g. (g.0, ap (λ k. k ++ 10 ∷ []) (sym (digits_spelled p.0)) ∙ ap (λ c. flat_map (λ d. d ∷ []) p.0 ++ c ∷ []) (sym (eqb-true p.1 10 g.1))))
    (λ ds g. ((ds, 10), (g, refl), refl))

some_digest : (v : Version) → (ds : List ℕ) × IsDigest v ds
some_digest One = ([], refl)
some_digest Two = some_times ℕ (λ c. is_hex c ≡ true) (λ c. c ∷ []) (read_byte is_hex) (reads_byte is_hex 48 refl) 48 refl 64

-- a step
reads_count : (v : Version) → Reads (List ℕ) (IsCount v) (spell_line v) (read_count v)
reads_count One = reads_nothing
reads_count Two = reads_lined

some_count : (v : Version) → (ds : List ℕ) × IsCount v ds
some_count One = ([], refl)
some_count Two = some_number

reads_entries : (n : ℕ) → Reads (List Entry) (AllGood IsEntry n) (flat_map spell_entry) (read_times n read_entry)
reads_entries n = reads_times Entry IsEntry spell_entry read_entry reads_entry some_entry.0 some_entry.1 n

some_entries : (n : ℕ) → (es : List Entry) × AllGood IsEntry n es
some_entries n = some_times Entry IsEntry spell_entry read_entry reads_entry some_entry.0 some_entry.1 n

pub reads_step : (v : Version) → Reads StepText (IsStep v) (spell_step v) (read_step v)
reads_step v =
    reads_named (List ℕ × List Entry) StepText _ _ _ step_of (IsStep v) (spell_step v)
    (reads_two _ _ _ _ _ (λ ds es. AllGood IsEntry (count_of v ds) es) (λ ds es. flat_map spell_entry es) (λ ds. read_times (count_of v ds) read_entry) (reads_count v) (λ ds g. reads_entries (count_of v ds)) (λ ds g. some_entries (count_of v ds)))
    (λ p g. (record { count = g.0; entries = g.1 }, refl))
    (λ s g. ((s.count, s.entries), (g.count, g.entries), refl))

some_step : (v : Version) → (s : StepText) × IsStep v s
some_step v = let ds = some_count v in let es = some_entries (count_of v ds.0) in (record { count = ds.0; entries = es.0 }, record { count = ds.1; entries = es.1 })

reads_steps : (v : Version) (n : ℕ) → Reads (List StepText) (AllGood (IsStep v) n) (flat_map (spell_step v)) (read_times n (read_step v))
reads_steps v n = reads_times StepText (IsStep v) (spell_step v) (read_step v) (reads_step v) (some_step v).0 (some_step v).1 n

some_steps : (v : Version) (n : ℕ) → (es : List StepText) × AllGood (IsStep v) n es
some_steps v n = some_times StepText (IsStep v) (spell_step v) (read_step v) (reads_step v) (some_step v).0 (some_step v).1 n

-- a journal
reads_first : Reads ((List ℕ × Version) × ℕ) (λ p. ((p.0.0 ≡ codes "mimejournal ") × Unit {0}) × (p.1 == 10 ≡ true)) (λ p. (p.0.0 ++ spell_version p.0.1) ++ p.1 ∷ []) read_first
reads_first =
    reads_two _ _ _ _ _ (λ p c. c == 10 ≡ true) (λ p c. c ∷ []) (λ p. read_mark 10)
    (reads_two _ _ _ _ _ (λ p v. Unit {0}) (λ p v. spell_version v) (λ p. read_version) (reads_text (codes "mimejournal ")) (λ p g. reads_version) (λ p g. (One, tt)))
    (λ p g. reads_mark 10)
    (λ p g. some_mark 10)

-- what stands before the steps
abbrev IsFront : (((((List ℕ × Version) × ℕ) × List ℕ) × List ℕ) × List ℕ) → Type 0
IsFront p = (((((p.0.0.0.0.0 ≡ codes "mimejournal ") × Unit {0}) × (p.0.0.0.1 == 10 ≡ true)) × IsDigest p.0.0.0.0.1 p.0.0.1) × IsNumber p.0.1) × IsNumber p.1

abbrev spell_front : (((((List ℕ × Version) × ℕ) × List ℕ) × List ℕ) × List ℕ) → List ℕ
spell_front p = ((((p.0.0.0.0.0 ++ spell_version p.0.0.0.0.1) ++ p.0.0.0.1 ∷ []) ++ spell_line p.0.0.0.0.1 p.0.0.1) ++ (p.0.1 ++ 32 ∷ [])) ++ (p.1 ++ 10 ∷ [])

reads_front : Reads (((((List ℕ × Version) × ℕ) × List ℕ) × List ℕ) × List ℕ) IsFront spell_front read_front
reads_front =
    reads_two _ _ _ _ _ (λ p ds. IsNumber ds) (λ p ds. ds ++ 10 ∷ []) (λ p. read_number 10)
    (reads_two _ _ _ _ _ (λ p ds. IsNumber ds) (λ p ds. ds ++ 32 ∷ []) (λ p. read_number 32)
    (reads_two _ _ _ _ _ (λ p ds. IsDigest p.0.1 ds) (λ p ds. spell_line p.0.1 ds) (λ p. read_digest p.0.1) reads_first (λ p g. reads_digest p.0.1) (λ p g. some_digest p.0.1))
    (λ p g. reads_spaced)
    (λ p g. some_number))
    (λ p g. reads_lined)
    (λ p g. some_number)

journal_good : (p : (((((List ℕ × Version) × ℕ) × List ℕ) × List ℕ) × List ℕ) × List StepText) → IsFront p.0 × AllGood (IsStep p.0.0.0.0.0.1) (number_of p.0.0.1 + number_of p.0.1) p.1
    → IsJournal (journal_of p) × (spell_journal (journal_of p) ≡ spell_front p.0 ++ flat_map (spell_step p.0.0.0.0.0.1) p.1)
journal_good p g = (
  record { digest = g.0.0.0.1; done = g.0.0.1; undone = g.0.1; steps = g.1 },
  ap (λ w. (((((w ++ spell_version p.0.0.0.0.0.1) ++ 10 ∷ []) ++ spell_line p.0.0.0.0.0.1 p.0.0.0.1) ++ (p.0.0.1 ++ 32 ∷ [])) ++ (p.0.1 ++ 10 ∷ [])) ++ flat_map (spell_step p.0.0.0.0.0.1) p.1) (sym g.0.0.0.0.0.0)
      ∙ ap (λ c. (((((p.0.0.0.0.0.0 ++ spell_version p.0.0.0.0.0.1) ++ c ∷ []) ++ spell_line p.0.0.0.0.0.1 p.0.0.0.1) ++ (p.0.0.1 ++ 32 ∷ [])) ++ (p.0.1 ++ 10 ∷ [])) ++ flat_map (spell_step p.0.0.0.0.0.1) p.1) (sym (eqb-true p.0.0.0.0.1 10 g.0.0.0.0.1)),
)

journal_from : (j : JournalText) → IsJournal j → (p : (((((List ℕ × Version) × ℕ) × List ℕ) × List ℕ) × List ℕ) × List StepText) × (IsFront p.0 × AllGood (IsStep p.0.0.0.0.0.1) (number_of p.0.0.1 + number_of p.0.1) p.1) × (journal_of p ≡ j)
journal_from j g = (((((((codes "mimejournal ", j.version), 10), j.digest), j.done), j.undone), j.steps), ((((((refl, tt), refl), g.digest), g.done), g.undone), g.steps), refl)

pub reads_journal : Reads JournalText IsJournal spell_journal read_journal
reads_journal =
    reads_named _ JournalText _ _ _ journal_of IsJournal spell_journal
    (reads_two _ _ _ _ _ (λ p ss. AllGood (IsStep p.0.0.0.0.1) (number_of p.0.1 + number_of p.1) ss) (λ p ss. flat_map (spell_step p.0.0.0.0.1) ss) (λ p. read_times (number_of p.0.1 + number_of p.1) (read_step p.0.0.0.0.1)) reads_front (λ p g. reads_steps p.0.0.0.0.1 (number_of p.0.1 + number_of p.1)) (λ p g. some_steps p.0.0.0.0.1 (number_of p.0.1 + number_of p.1)))
    journal_good
    journal_from
