-- What is loaded, from what a journal in memory says and whether its steps fit.
use Rattle.std.proofs.Common.{Result, Ok, Err, ◌≡◌, ◌∙◌, ◌≤◌, ℕ, true, false, Option, None, Some, List, refl, ap, sym, length, map, arith}
use Rattle.std.proofs.lemmas.List.{length-map}
use Rattle.mk_splice.specs.declared.journals.Journal.{Journal}
use Rattle.mk_splice.specs.Journals.{JournalText, Meaning, ReadsAs, belongs, digest_of, journal}
use Rattle.std.specs.Global.{Vec}
use Rattle.mk_splice.specs.declared.splicing.Splice.{Splice as SpliceIn}
use Rattle.mk_splice.specs.declared.fitting.FitError.{FitError}
use Rattle.mk_splice.specs.declared.fitting.FitError.TheVariants.{Misfit, Memory as NoMemoryToFit}
use Rattle.mk_splice.specs.Misfits.{misfit, Says}
use Rattle.mk_splice.specs.Fits.{Fit}
use Rattle.mk_splice.specs.JournalViews.{SaysText, meaning_of}
use Rattle.mk_splice.specs.Views.{splice_of, steps_of}
use Rattle.mk_splice.proofs.FoundSteps.{fits_so}
use Rattle.mk_splice.specs.Printed.{printed}
use Rattle.mk_edit.specs.History.{History, history_of}
use Rattle.mk_edit.specs.Histories.{text_now}
use Rattle.mk_edit.proofs.Steps.{fit_text}
use Rattle.mk_edit.specs.inner.Loading.{of_fit}
use Rattle.mk_edit.specs.Saving.{saved, RefusesJournal, JournalOther, described, described_by, loaded, unless_misfit}

-- what is loaded of a file that says what a journal in memory says
told : (text : List ℕ) (j : Journal) (r : Result JournalText ℕ) → SaysText j r → described_by text r ≡ described text (meaning_of j)
told text j (Ok t) h = ap (described text) (sym h)
told text j (Err offset) h = absurd h

-- what is loaded of a file that means this
pub read_as : (text file : List ℕ) (m : Meaning) → ReadsAs file m → loaded text file ≡ described text m
read_as text file m r = ap (described_by text) r.1 ∙ ap (described text) r.2

-- of another text
other_told : (text : List ℕ) (m : Meaning) → belongs m.digest text ≡ false → described text m ≡ Err JournalOther
other_told text m e = rw e refl

-- of the text itself
pub own_told : (text : List ℕ) (m : Meaning) → belongs m.digest text ≡ true → described text m ≡ unless_misfit (misfit text m.steps m.done) (history_of text m.steps m.done)
own_told text m e = rw e refl

pub loaded_other : (text file : List ℕ) (j : Journal) → SaysText j (journal file) → belongs j.digest text ≡ false → loaded text file ≡ Err JournalOther
loaded_other text file j h e = told text j (journal file) h ∙ other_told text (meaning_of j) e

pub loaded_own : (text file : List ℕ) (j : Journal) (o : Option ℕ) → SaysText j (journal file) → belongs j.digest text ≡ true → misfit text (steps_of j.steps.items) j.done ≡ o
    → loaded text file ≡ unless_misfit o (history_of text (steps_of j.steps.items) j.done)
loaded_own text file j o h e m =
    told text j (journal file) h
    ∙ (own_told text (meaning_of j) e ∙ ap (λ p. unless_misfit p (history_of text (steps_of j.steps.items) j.done)) m)

pub loaded_fits : (text : List ℕ) (j : Journal) → j.done ≤ length j.steps.items → misfit text (steps_of j.steps.items) j.done ≡ None → Fit text (steps_of j.steps.items) j.done
loaded_fits text j w m = fits_so text (steps_of j.steps.items) j.done (omega (arith, w, length-map j.steps.items (λ v. map splice_of v.items))) m

-- a step that doesn't fit
pub fit_refuses : (text file : List ℕ) (j : Journal) (ss : List (Vec SpliceIn)) (e : FitError) → SaysText j (journal file) → belongs j.digest text ≡ true → ss ≡ j.steps.items
    → Says e (misfit text (steps_of ss) j.done) → RefusesJournal (of_fit e) (loaded text file)
fit_refuses text file j ss (Misfit n) h b q m = loaded_own text file j (Some n) h b (ap (λ s. misfit text (steps_of s) j.done) (sym q) ∙ m)
fit_refuses text file j ss NoMemoryToFit h b q m = tt

-- what is printed of a session is its journal
pub saved_so : (x text : List ℕ) (vs us : List (Vec SpliceIn)) (done : ℕ) (h : History) → Fit x (steps_of us) done → history_of x (steps_of us) done ≡ h → text ≡ x → vs ≡ us → printed (digest_of text) (steps_of vs) done ≡ saved h
saved_so x text vs us done h f e p q =
    ap (λ y. printed (digest_of y) (steps_of vs) done) (p ∙ sym (fit_text x (steps_of us) done f))
    ∙ (ap (λ ws. printed (digest_of (text_now (history_of x (steps_of us) done))) (steps_of ws) done) q ∙ ap saved e)
