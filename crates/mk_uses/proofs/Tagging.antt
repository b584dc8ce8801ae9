-- A mailbox read to its end, and each message of it tagged.
use Rattle.std.proofs.Common.{◌≡◌, ◌++◌, ◌||◌, ℕ, Bool, true, false, not, Option, None, Some, Result, List, [], ◌∷◌, refl, ap, sym, subst, ◌∙◌, map, append-nil, append_assoc, inl, inr}
use Rattle.std.specs.Io.KnownBytes.{Consumes}
use Rattle.std.specs.List.{AllByRecursion, AllZip, flat_map}
use Rattle.std.specs.Prelude.{IfSome}
use Rattle.std.proofs.lemmas.Bool.{cases_Bool}
use Rattle.std.proofs.lemmas.Grind.{flat_map-append}
use Rattle.mk_line.specs.Lines.{cut}
use Rattle.mk_tree.specs.Documents.{Document, tree}
use Rattle.mk_decide.specs.Answers.{IsRefusedBy}
use Rattle.mk_decide.specs.Edits.{AddField, Refusal}
use Rattle.mk_decide.specs.Outcomes.{edited}
use Rattle.mk_mailbox.specs.declared.from_lines.FromLines.{FromLines}
use Rattle.mk_mailbox.specs.declared.from_lines.FromLines.TheVariants.{Any}
use Rattle.mk_mailbox.specs.Held.{Held}
use Rattle.mk_mailbox.specs.MailboxLaws.{AreCalls, Call, IsCall, given_by, message, message_of, read_by, unread_mailbox}
use Rattle.mk_mailbox.specs.Mailboxes.{IsOver}
use Rattle.mk_mailbox.specs.Pieces.{mailbox_pieces}
use Rattle.mk_mailbox.specs.Places.{begins_from, ends_empty, is_uncut, takes_place}
use Rattle.mk_mailbox.specs.inner.Parts.{AreOnes, at_most_one}
use Rattle.mk_mail.proofs.ReplacedApart.{AreReplaced}
use Rattle.mk_mail.specs.Replaced.{texts_left}
use Rattle.mk_uses.specs.Tagged.{all_tagged, kept_or, tagged, tagged_one, text_made}

-- the calls so far read these bytes, and the messages that they gave, each with the field, are these
pub record AreTagged (field : List ℕ) (before now : Option (List ℕ)) (mailbox : Held) (out : List ℕ) : Type 0 where
  pub calls : List Call
  pub are : AreCalls (unread_mailbox Any) calls mailbox
  pub read : Consumes before now (read_by calls)
  pub made : out ≡ flat_map (tagged_one field) (given_by calls)

pub none_tagged : (field : List ℕ) (bytes : Option (List ℕ)) (mailbox : Held) (out : List ℕ) → mailbox ≡ unread_mailbox Any → out ≡ [] → Consumes bytes bytes [] → AreTagged field bytes bytes mailbox out
none_tagged field bytes mailbox out m o c = record { calls = []; are = m; read = c; made = o }

-- nothing is read at first
pub reads_none : (bytes : Option (List ℕ)) → Consumes bytes bytes []
reads_none None = tt
reads_none (Some xs) = refl

-- what is read after something else
pub reads_more : (a b c : Option (List ℕ)) (xs ys : List ℕ) → Consumes a b xs → Consumes b c ys → Consumes a c (xs ++ ys)
reads_more None b c xs ys h k = tt
reads_more (Some x) None c xs ys h k = absurd h
reads_more (Some x) (Some y) None xs ys h k = absurd k
reads_more (Some x) (Some y) (Some z) xs ys h k = h ∙ (ap (λ t. xs ++ t) k ∙ sym (append_assoc xs ys z))

-- a call after others
more_calls : (old now next : Held) (calls : List Call) (call : Call) → AreCalls old calls now → IsCall now call next → AreCalls old (calls ++ call ∷ []) next
more_calls old now next [] call h k = (next, subst (λ m. IsCall m call next) h k, refl)
more_calls old now next (c ∷ cs) call h k = (h.0, h.1, more_calls h.0 now next cs call h.2 k)

-- one more message
pub more_tagged : (field : List ℕ) (a b c : Option (List ℕ)) (now next : Held) (out more read m : List ℕ) → AreTagged field a b now out → Consumes b c read → IsCall now (record { read = read; reply = message m }) next
    → more ≡ out ++ tagged_one field m → AreTagged field a c next more
more_tagged field a b c now next out more read m t k call made =
    let one : Call = record { read = read; reply = message m } in
    record {
      calls = t.calls ++ one ∷ [];
      are = more_calls (unread_mailbox Any) now next t.calls one t.are call;
      read =
          subst (λ xs. Consumes a c xs) (sym (flat_map-append (λ (x : Call). x.read) t.calls (one ∷ []) ∙ ap (λ xs. read_by t.calls ++ xs) (append-nil read)))
          (reads_more a b c (read_by t.calls) read t.read k);
      made =
          made
          ∙ (ap (λ xs. xs ++ tagged_one field m) t.made
          ∙ (ap (λ xs. flat_map (tagged_one field) (given_by t.calls) ++ xs) (sym (append-nil (tagged_one field m)))
          ∙ (sym (flat_map-append (tagged_one field) (given_by t.calls) (m ∷ [])) ∙ ap (flat_map (tagged_one field)) (sym (flat_map-append (λ (x : Call). message_of x.reply) t.calls (one ∷ []))))));
    }

-- ---- the messages stay apart

by_itself : (b : Bool) → (not b || b) ≡ true
by_itself true = refl
by_itself false = refl

-- a message takes its own place
own_place : (m : List ℕ) → mailbox_pieces Any m ≡ m ∷ [] → takes_place Any m m ≡ true
own_place m e =
    let one : is_uncut Any m ≡ true = ap at_most_one e in
    rw (one, by_itself (begins_from Any (cut m)), by_itself (ends_empty false (cut m))) refl

tagged_place : (m : List ℕ) (made : Option (List ℕ)) → mailbox_pieces Any m ≡ m ∷ [] → takes_place Any m (kept_or m made) ≡ true
tagged_place m (Some text) e =
    elim (cases_Bool (takes_place Any m text)) [
      | inl h ↦ rw h h
      | inr h ↦ rw h (own_place m e)
    ]
tagged_place m None e = own_place m e

replaced : (field : List ℕ) (ms : List (List ℕ)) → AreOnes Any ms → AreReplaced Any ms (map (λ m. Some (tagged_one field m)) ms)
replaced field [] h = tt
replaced field (m ∷ ms) h = (tagged_place m (text_made (edited (AddField (1 ∷ []) false field) (tree m))) h.0, replaced field ms h.1)

-- no bytes add nothing
joined : (field : List ℕ) (ms : List (List ℕ)) → flat_map (tagged_one field) ms ≡ flat_map (λ text. text) (texts_left (map (λ m. Some (tagged_one field m)) ms))
joined field [] = refl
joined field (m ∷ ms) = one (tagged_one field m) (joined field ms)
  where
    one : (text : List ℕ) → flat_map (tagged_one field) ms ≡ flat_map (λ t. t) (texts_left (map (λ x. Some (tagged_one field x)) ms))
        → text ++ flat_map (tagged_one field) ms ≡ flat_map (λ t. t) (texts_left (Some text ∷ map (λ x. Some (tagged_one field x)) ms))
    one [] e = e
    one (x ∷ xs) e = ap (λ ys. (x ∷ xs) ++ ys) e

pub apart : ((way : FromLines) (text : List ℕ) → AllByRecursion (λ p. mailbox_pieces way p ≡ p ∷ []) (mailbox_pieces way text))
    → ((way : FromLines) (mailbox : List ℕ) (os : List (Option (List ℕ))) → AllZip (λ message o. IfSome o (λ text. takes_place way message text ≡ true)) (mailbox_pieces way mailbox) os
    → mailbox_pieces way (flat_map (λ text. text) (texts_left os)) ≡ texts_left os)
    → (field mailbox out : List ℕ) → out ≡ all_tagged field mailbox → mailbox_pieces Any out ≡ texts_left (tagged field mailbox)
apart uncut law field mailbox out e =
    ap (mailbox_pieces Any) (e ∙ joined field (mailbox_pieces Any mailbox))
    ∙ law Any mailbox (tagged field mailbox) (replaced field (mailbox_pieces Any mailbox) (uncut Any mailbox))

-- the end of the mailbox: all messages of what was read are tagged
pub all_made : ((way : FromLines) (calls : List Call) (last now : Held) (read : List ℕ) → AreCalls (unread_mailbox way) calls last → IsOver last read now → mailbox_pieces way (read_by calls ++ read) ≡ given_by calls)
    → (field : List ℕ) (a b c : Option (List ℕ)) (now next : Held) (out read : List ℕ) → AreTagged field a b now out → Consumes b c read → IsOver now read next
    → (all : List ℕ) × Consumes a c all × (out ≡ all_tagged field all)
all_made whole field a b c now next out read t k over = (
  read_by t.calls ++ read,
  reads_more a b c (read_by t.calls) read t.read k,
  t.made ∙ ap (flat_map (tagged_one field)) (sym (whole Any t.calls now next read t.are over)),
)

-- ---- one message

-- what is written of it, by the text that was made
pub kept_well : (field m text : List ℕ) → Some text ≡ text_made (edited (AddField (1 ∷ []) false field) (tree m)) → takes_place Any m text ≡ true → text ≡ tagged_one field m
kept_well field m text e h = sym (ap (kept_or m) (sym e) ∙ rw h refl)

pub kept_back : (field m text : List ℕ) → Some text ≡ text_made (edited (AddField (1 ∷ []) false field) (tree m)) → takes_place Any m text ≡ false → m ≡ tagged_one field m
kept_back field m text e h = sym (ap (kept_or m) (sym e) ∙ rw h refl)

pub kept_refused : (field m : List ℕ) → None ≡ text_made (edited (AddField (1 ∷ []) false field) (tree m)) → m ≡ tagged_one field m
kept_refused field m e = sym (ap (kept_or m) (sym e))

-- a refused edit makes no text
pub none_made : (o : Option Refusal) (r : Result Document Refusal) (reason : Refusal) → o ≡ Some reason → IsRefusedBy o r → None ≡ text_made r
none_made None r reason e h = cc
none_made (Some x) r reason e h = sym (ap text_made h)
