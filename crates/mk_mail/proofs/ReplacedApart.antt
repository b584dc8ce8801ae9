-- Messages that are replaced by texts that fit their places, or left out, stay apart.
use Rattle.std.proofs.Common.{◌≡◌, ℕ, Bool, true, false, Option, None, Some, List, [], ◌∷◌, refl, sym, subst, inl, inr, map}
use Rattle.std.proofs.lemmas.Bool.{cases_Bool}
use Rattle.std.specs.List.{AllZip, flat_map}
use Rattle.std.specs.Prelude.{IfSome}
use Rattle.mk_line.specs.Lines.{TextLine, cut}
use Rattle.mk_mailbox.specs.declared.from_lines.FromLines.{FromLines}
use Rattle.mk_mailbox.specs.Pieces.{mailbox_pieces}
use Rattle.mk_mailbox.specs.Places.{begins_from, ends_empty, takes_place}
use Rattle.mk_mail.specs.Filtered.{is_left}
use Rattle.mk_mail.specs.Replaced.{texts_left}
use Rattle.mk_mail.proofs.MailChains.{AreBefore, IsMail, begins_left, mail_of, mail_parted, some_lines}
use Rattle.mk_mail.proofs.SectionsApart.{placed}

-- each message is left out, or a text that fits there takes its place
abbrev pub AreReplaced : FromLines → List (List ℕ) → List (Option (List ℕ)) → Type 0
AreReplaced way ms os = AllZip (λ message o. IfSome o (λ text. takes_place way message text ≡ true)) ms os

-- what may stand after some message may stand after an empty line
after_empty : (way : FromLines) (e : Bool) (ms : List (List TextLine)) → AreBefore way e ms → AreBefore way true ms
after_empty way e [] h = tt
after_empty way e (m ∷ ms) h = (refl, h.1)

-- where the messages begin with a From-line, so do the texts that are left
begins_replaced : (way : FromLines) (ms : List (List ℕ)) (os : List (Option (List ℕ))) → IsMail way ms → AreBefore way true (map cut ms) → AreReplaced way ms os → AreBefore way true (map cut (texts_left os))
begins_replaced way [] [] h b r = tt
begins_replaced way [] (o ∷ os) h b r = absurd r
begins_replaced way (m ∷ ms) [] h b r = absurd r
begins_replaced way (m ∷ ms) (None ∷ os) h b r = begins_replaced way ms os h.2 (after_empty way (ends_empty false (cut m)) (map cut ms) h.1) r.1
begins_replaced way (m ∷ ms) (Some text ∷ os) h b r =
    let begins : begins_from way (cut text) ≡ true = (placed way m text r.0).begins b.1 in
    rw (begins_left way text begins) (refl, begins)

-- what may stand after a text may stand after a text that ends as a message did
ends_replaced : (way : FromLines) (m text : List ℕ) (ms : List (List ℕ)) (os : List (Option (List ℕ))) → IsMail way ms → AreBefore way (ends_empty false (cut m)) (map cut ms) → AreReplaced way ms os
    → (ends_empty false (cut m) ≡ true → ends_empty false (cut text) ≡ true) → AreBefore way (ends_empty false (cut text)) (map cut (texts_left os))
ends_replaced way m text [] [] h b r e = tt
ends_replaced way m text [] (o ∷ os) h b r e = absurd r
ends_replaced way m text (q ∷ qs) os h b r e =
    subst (λ x. AreBefore way x (map cut (texts_left os))) (sym (e b.0)) (begins_replaced way (q ∷ qs) os h (after_empty way (ends_empty false (cut m)) (map cut (q ∷ qs)) b) r)

mail_replaced : (way : FromLines) (ms : List (List ℕ)) (os : List (Option (List ℕ))) → IsMail way ms → AreReplaced way ms os → IsMail way (texts_left os)
mail_replaced way [] [] h r = tt
mail_replaced way [] (o ∷ os) h r = absurd r
mail_replaced way (m ∷ ms) [] h r = absurd r
mail_replaced way (m ∷ ms) (None ∷ os) h r = mail_replaced way ms os h.2 r.1
mail_replaced way (m ∷ ms) (Some text ∷ os) h r =
    let kept = placed way m text r.0 in
    let rest = mail_replaced way ms os h.2 r.1 in
    elim (cases_Bool (is_left text)) [
      | inl t ↦ rw t ((some_lines text (cut text) refl t, kept.whole), ends_replaced way m text ms os h.2 h.1 r.1 kept.ends, rest)
      | inr n ↦ rw n rest
    ]

pub replaced_apart : (way : FromLines) (mailbox : List ℕ) (os : List (Option (List ℕ))) → AllZip (λ message o. IfSome o (λ text. takes_place way message text ≡ true)) (mailbox_pieces way mailbox) os → mailbox_pieces way (flat_map (λ text. text) (texts_left os)) ≡ texts_left os
replaced_apart way mailbox os r = mail_parted way (texts_left os) (mail_replaced way (mailbox_pieces way mailbox) os (mail_of way mailbox) r)
