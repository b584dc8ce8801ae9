-- The journal of a history, loaded with its text, gives the history again.
use Rattle.std.proofs.Common.{◌≡◌, ◌∙◌, ℕ, true, inl, inr, Some, Ok, List, nat_eq, refl, ap, sym}
use Rattle.std.proofs.lemmas.Bool.{cases_Bool}
use Rattle.std.specs.Cmp.Lexicographic.{other_text, pointwise}
use Rattle.mk_splice.specs.Journals.{digest_of}
use Rattle.mk_splice.proofs.FoundSteps.{fits_is}
use Rattle.mk_splice.proofs.Prints.{printed_of_text_is_read}
use Rattle.mk_edit.specs.History.{history_of}
use Rattle.mk_edit.specs.Histories.{text_now}
use Rattle.mk_edit.specs.Saving.{SavedIsLoaded, saved, unless_misfit}
use Rattle.mk_edit.proofs.Loadings.{own_told, read_as}
use Rattle.mk_edit.proofs.Saved.{history_again, history_fits}

pointwise_same : (xs : List ℕ) → pointwise nat_eq xs xs ≡ true
pointwise_same xs =
    elim (cases_Bool (pointwise nat_eq xs xs)) [
      | inl e ↦ e
      | inr e ↦ absurd (other_text xs xs (sym e) refl)
    ]

pub saved_is_loaded : SavedIsLoaded
saved_is_loaded h b s =
    read_as (text_now h) (saved h) (record { digest = Some (digest_of (text_now h)); steps = h.steps; done = h.place }) (printed_of_text_is_read (text_now h) h.steps h.place b.within s)
    ∙ (own_told (text_now h) (record { digest = Some (digest_of (text_now h)); steps = h.steps; done = h.place }) (pointwise_same (digest_of (text_now h)))
    ∙ (ap (λ o. unless_misfit o (history_of (text_now h) h.steps h.place)) (fits_is (text_now h) h.steps h.place (history_fits h b))
    ∙ ap (λ g. Ok g) (history_again h b)))
