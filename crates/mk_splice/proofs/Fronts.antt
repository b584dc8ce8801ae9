-- Journals are read where their parts are, and say as much in memory.
use Rattle.std.proofs.Common.{◌≡◌, ◌+◌, ◌-◌, ◌^◌, ◌≤◌, ◌<◌, ℕ, zero, suc, Option, Ok, Err, List, [], ◌∷◌, refl, ap, sym, subst, length, codes, arith, length-append}
use Rattle.mk_splice.specs.declared.reading.Version.{Version}
use Rattle.mk_splice.specs.Splices.{Splice}
use Rattle.mk_splice.specs.Readers.{AllGood, and_then, named, read_text, read_times}
use Rattle.mk_splice.specs.Grammar.{StepText, number_of, read_number, read_version, read_digest, read_step}
use Rattle.mk_splice.specs.Journals.{JournalText, Meaning, read_front, read_journal, saturated, spell_journal}
use Rattle.mk_splice.specs.inner.Parts.{read_mark, journal_of, read_first}
use Rattle.mk_splice.proofs.Entries.{reads_journal}
use Rattle.mk_splice.proofs.Readings.{next_goes}

-- what stands before the steps
pub front_goes : (b r1 r2 r3 r4 r5 r6 t digest done undone : List ℕ) (w v : Version) (m : ℕ) → read_text (codes "mimejournal ") b ≡ Ok (t, r1) → read_version r1 ≡ Ok (v, r2) → w ≡ v → read_mark 10 r2 ≡ Ok (m, r3) → read_digest w r3 ≡ Ok (digest, r4) → read_number 32 r4 ≡ Ok (done, r5) → read_number 10 r5 ≡ Ok (undone, r6)
    → read_front b ≡ Ok ((((((t, w), m), digest), done), undone), r6)
front_goes b r1 r2 r3 r4 r5 r6 t digest done undone w v m e1 e2 same e3 e4 e5 e6 =
    let version : read_version r1 ≡ Ok (w, r2) = subst (λ k. read_version r1 ≡ Ok (k, r2)) (sym same) e2 in
    let first : read_first b ≡ Ok (((t, w), m), r3) =
    next_goes (List ℕ × Version) ℕ (and_then (read_text (codes "mimejournal ") b) (λ p. read_version)) (λ p. read_mark 10) (t, w) r2 m r3 (next_goes (List ℕ) Version (read_text (codes "mimejournal ") b) (λ p. read_version) t r1 w r2 e1 version) e3
    in
    next_goes ((((List ℕ × Version) × ℕ) × List ℕ) × List ℕ) (List ℕ) (and_then (and_then (read_first b) (λ p. read_digest p.0.1)) (λ p. read_number 32)) (λ p. read_number 10) ((((t, w), m), digest), done) r5 undone r6
    (next_goes (((List ℕ × Version) × ℕ) × List ℕ) (List ℕ) (and_then (read_first b) (λ p. read_digest p.0.1)) (λ p. read_number 32) (((t, w), m), digest) r4 done r5
    (next_goes ((List ℕ × Version) × ℕ) (List ℕ) (read_first b) (λ p. read_digest p.0.1) ((t, w), m) r3 digest r4 first e4) e5) e6

-- the whole
pub journal_goes : (b r1 r2 : List ℕ) (p : ((((List ℕ × Version) × ℕ) × List ℕ) × List ℕ) × List ℕ) (v : Version) (ss : List StepText) → read_front b ≡ Ok (p, r1) → v ≡ p.0.0.0.0.1 → read_times (number_of p.0.1 + number_of p.1) (read_step v) r1 ≡ Ok (ss, r2)
    → read_journal b ≡ Ok (journal_of (p, ss), r2)
journal_goes b r1 r2 p v ss e same g =
    ap (named journal_of)
    (next_goes (((((List ℕ × Version) × ℕ) × List ℕ) × List ℕ) × List ℕ) (List StepText) (read_front b) (λ q. read_times (number_of q.0.1 + number_of q.1) (read_step q.0.0.0.0.1)) p r1 ss r2 e
    (subst (λ w. read_times (number_of p.0.1 + number_of p.1) (read_step w) r1 ≡ Ok (ss, r2)) same g))

-- counts that are held
pub sum_held : (done undone d u count : ℕ) → done ≡ saturated d → undone ≡ saturated u → count ≡ saturated (done + undone) → count ≡ saturated (d + u)
sum_held done undone d u count e f g = omega (arith, e, f, g)

good_length : (A : Type 0) (G : A → Type 0) (n : ℕ) (xs : List A) → AllGood G n xs → length xs ≡ n
good_length A G zero [] g = refl
good_length A G zero (x ∷ xs) g = absurd g
good_length A G (suc n) [] g = absurd g
good_length A G (suc n) (x ∷ xs) g = omega (arith, good_length A G n xs g.1)

pub steps_counted : (b : List ℕ) (j : JournalText) (l : List ℕ) → read_journal b ≡ Ok (j, l) → number_of j.done ≤ length j.steps
steps_counted b j l h = omega (arith, good_length StepText _ (number_of j.done + number_of j.undone) j.steps (reads_journal.found b j l h).0.steps)

pub done_within : (done d n m : ℕ) → done ≡ saturated d → d ≤ m → n ≡ m → done ≤ n
done_within done d n m e h k = omega (arith, e, h, k)

pub done_held : (done d n m : ℕ) → done ≡ saturated d → d ≤ m → n ≡ m → n < 2 ^ 64 - 1 → done ≡ d
done_held done d n m e h k small = omega (arith, e, h, k, small)

pub meaning_same : (digest other : Option (List ℕ)) (ss rs : List (List Splice)) (m n : ℕ) → digest ≡ other → ss ≡ rs → m ≡ n → ◌≡◌ {A = Meaning} (record { digest = digest; steps = ss; done = m }) (record { digest = other; steps = rs; done = n })
meaning_same digest other ss rs m n e f g = cc

-- what is left is of the file
pub rest_within : (b : List ℕ) (j : JournalText) (l : List ℕ) → read_journal b ≡ Ok (j, l) → length l ≤ length b
rest_within b j l h = let p = reads_journal.found b j l h in omega (arith, ap length p.1, length-append (spell_journal j) l)

pub left_within : (b l : List ℕ) → read_journal b ≡ Err l → length l ≤ length b
left_within b l h = let z = reads_journal.stops b l h in omega (arith, ap length z.whole, length-append z.front l)
