-- Many calls of a mailbox.
use Rattle.mk_mailbox.specs.declared.from_lines.FromLines.{FromLines}
use Rattle.std.proofs.Common.{◌≡◌, ◌++◌, ℕ, true, List, [], ◌∷◌, refl, ap, subst, sym, ◌∙◌, append-nil, append_assoc}
use Rattle.mk_mailbox.specs.Held.{Held}
use Rattle.mk_mailbox.specs.MailboxLaws.{AreCalls, Call, IsReply, Reply, message, none, error, given_by, message_of, read_by, unread_mailbox}
use Rattle.mk_mailbox.specs.Mailboxes.{IsOver}
use Rattle.mk_mailbox.specs.Pieces.{mailbox_pieces}

-- once the input has ended nothing is read
over_reads : (calls : List Call) (old new : Held) → AreCalls old calls new → old.ended ≡ true → (read_by calls ≡ []) × (new.ended ≡ true)
over_reads [] old new h e = (refl, ap (λ h. h.ended) h ∙ e)
over_reads (c ∷ cs) old new h e =
    let rest = over_reads cs h.0 new h.2 (h.1.stays e) in (
      ap (λ r. r ++ read_by cs) (h.1.over e) ∙ rest.0,
      rest.1,
    )

none_both : (xs ys : List ℕ) → xs ≡ [] → ys ≡ [] → xs ++ ys ≡ []
none_both xs ys e f = ap (λ zs. zs ++ ys) e ∙ f

regrouped : (kept read rest more : List ℕ) → (kept ++ (read ++ rest)) ++ more ≡ (kept ++ read) ++ (rest ++ more)
regrouped kept read rest more = ap (λ x. x ++ more) (sym (append_assoc kept read rest)) ∙ append_assoc (kept ++ read) rest more

-- a call, and what comes after it
by_reply : (way : FromLines) (reply : Reply) (old next : Held) (read rest more : List ℕ) (pieces : List (List ℕ)) → old.from_lines ≡ way → IsReply reply old read next → (next.ended ≡ true → rest ++ more ≡ [])
    → mailbox_pieces way ((next.kept ++ rest) ++ more) ≡ pieces → mailbox_pieces way ((old.kept ++ (read ++ rest)) ++ more) ≡ message_of reply ++ pieces
by_reply way (message piece) old next read rest more pieces s h o e =
    ap (mailbox_pieces way) (regrouped old.kept read rest more)
    ∙ (subst (λ w. mailbox_pieces w ((old.kept ++ read) ++ (rest ++ more)) ≡ piece ∷ mailbox_pieces w (next.kept ++ (rest ++ more))) s (h.stays (rest ++ more) o) ∙ ap (λ ps. piece ∷ ps) (ap (mailbox_pieces way) (sym (append_assoc next.kept rest more)) ∙ e))
by_reply way none old next read rest more pieces s h o e =
    ap (mailbox_pieces way) (regrouped old.kept read rest more)
    ∙ (ap (λ x. mailbox_pieces way (x ++ (rest ++ more))) (h.none ∙ sym h.kept) ∙ (ap (mailbox_pieces way) (sym (append_assoc next.kept rest more)) ∙ e))
by_reply way error old next read rest more pieces s h o e =
    ap (mailbox_pieces way) (regrouped old.kept read rest more)
    ∙ (ap (λ x. mailbox_pieces way (x ++ (rest ++ more))) (sym h) ∙ (ap (mailbox_pieces way) (sym (append_assoc next.kept rest more)) ∙ e))

calls_from : (way : FromLines) (calls : List Call) (old now : Held) → old.from_lines ≡ way → AreCalls old calls now → (more : List ℕ) → (now.ended ≡ true → more ≡ []) → mailbox_pieces way ((old.kept ++ read_by calls) ++ more) ≡ given_by calls ++ mailbox_pieces way (now.kept ++ more)
calls_from way [] old now s h more o = ap (λ x. mailbox_pieces way (x ++ more)) (append-nil old.kept ∙ ap (λ x. x.kept) (sym h))
calls_from way (c ∷ cs) old now s h more o =
    by_reply way c.reply old h.0 c.read (read_by cs) more (given_by cs ++ mailbox_pieces way (now.kept ++ more)) s h.1.reply
    (λ e. let rest = over_reads cs h.0 now h.2 e in none_both (read_by cs) more rest.0 (o rest.1))
    (calls_from way cs h.0 now (h.1.same ∙ s) h.2 more o)
    ∙ sym (append_assoc (message_of c.reply) (given_by cs) (mailbox_pieces way (now.kept ++ more)))

pub calls_give : (way : FromLines) (calls : List Call) (now : Held) → AreCalls (unread_mailbox way) calls now → (more : List ℕ) → (now.ended ≡ true → more ≡ []) → mailbox_pieces way (read_by calls ++ more) ≡ given_by calls ++ mailbox_pieces way (now.kept ++ more)
calls_give way calls now h more o = calls_from way calls (unread_mailbox way) now refl h more o

right_none : (xs ys : List ℕ) → xs ++ ys ≡ [] → ys ≡ []
right_none [] ys e = e
right_none (x ∷ xs) ys e = cc

left_none : {A : Type 0} (xs ys : List A) → xs ++ ys ≡ [] → xs ≡ []
left_none [] ys e = refl
left_none (x ∷ xs) ys e = cc

pub ends_whole : (way : FromLines) (calls : List Call) (last now : Held) (read : List ℕ) → AreCalls (unread_mailbox way) calls last → IsOver last read now → mailbox_pieces way (read_by calls ++ read) ≡ given_by calls
ends_whole way calls last now read h o =
    calls_give way calls last h read (λ _. right_none last.kept read o.none)
    ∙ (ap (λ x. given_by calls ++ mailbox_pieces way x) o.none ∙ append-nil (given_by calls))

pub ends_stay : (calls : List Call) (last : Held) (read : List ℕ) (over now : Held) → IsOver last read over → AreCalls over calls now → (read_by calls ≡ []) × (given_by calls ≡ [])
ends_stay calls last read over now o h =
    let none = over_reads calls over now h o.ended in (
      none.0,
      left_none (given_by calls) (mailbox_pieces over.from_lines (now.kept ++ []))
          (sym (calls_from over.from_lines calls over now refl h [] (λ _. refl)) ∙ ap (mailbox_pieces over.from_lines) (append-nil (over.kept ++ read_by calls) ∙ none_both over.kept (read_by calls) o.kept none.0)),
    )
