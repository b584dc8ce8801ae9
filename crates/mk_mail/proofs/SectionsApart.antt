-- Rounds at any path: what they leave of the messages of a mailbox takes the places of these messages.
use Rattle.std.specs.List.{flat_map}
use Rattle.mk_mail.specs.Filtered.{is_left}
use Rattle.std.specs.Prelude.{filter, map}
use Rattle.std.proofs.Common.{◌≡◌, ◌&&◌, ◌||◌, if◌then◌else◌, ℕ, Bool, true, false, not, Ok, Err, List, [], ◌∷◌, refl, ap, sym, ◌∙◌, subst, inl, inr, eqb-true}
use Rattle.std.proofs.lemmas.Bool.{cases_Bool}
use Rattle.mk_mailbox.specs.declared.from_lines.FromLines.{FromLines}
use Rattle.mk_mailbox.specs.Pieces.{is_first, is_left_alone, needs_field, mailbox_pieces}
use Rattle.mk_mailbox.specs.Places.{begins_from, ends_empty, is_uncut, takes_place}
use Rattle.mk_mailbox.proofs.PlaceLemmas.{are_whole, uncut}
use Rattle.mk_line.specs.Lines.{TextLine, cut, is_nil}
use Rattle.mk_mail.specs.Apart.{always_fits, mail_left, mail_made, section_made}
use Rattle.mk_mail.specs.Letters.{is_root, root_path}
use Rattle.mk_mail.specs.Rounds.{Made, PlainRound}
use Rattle.mk_decide.specs.Edits.{Recut}
use Rattle.mk_line.specs.Results.{made_of}
use Rattle.std.specs.Result.{result_unwrap_or}
use Rattle.mk_mail.proofs.FieldNames.{both_true}
use Rattle.mk_mail.proofs.MailChains.{AreMessage, IsKept, IsWhole, kept_apart}
use Rattle.mk_mail.proofs.RoundsMade.{IsMadeKept, left_kept, rounds_kept, unchanged}

whole_by : (way : FromLines) (e : Bool) (ls : List TextLine) → are_whole way e ls ≡ true → IsWhole way e ls
whole_by way e [] h = tt
whole_by way e (l ∷ ls) h =
    elim (cases_Bool (is_first way e l.content ls)) [
      | inl t ↦ let no : false ≡ true = (rw t at h) in absurd (cc)
      | inr n ↦ (n, whole_by way (is_nil l.content) ls (rw n at h))
    ]

by_other : (a b : Bool) → (not a || b) ≡ true → a ≡ true → b ≡ true
by_other true b h t = h
by_other false b h t = cc

-- a text that takes the place of another
pub placed : (way : FromLines) (old new : List ℕ) → takes_place way old new ≡ true → IsKept way (cut old) (cut new)
placed way old new h =
    let begins = (not (begins_from way (cut old)) || begins_from way (cut new)) in
    let ends = (not (ends_empty false (cut old)) || ends_empty false (cut new)) in
    let parts = both_true (is_uncut way new) (begins && ends) h in
    let both = both_true begins ends parts.1 in
    record {
      whole = whole_by way false (cut new) (sym (uncut way new) ∙ parts.0);
      ends = by_other (ends_empty false (cut old)) (ends_empty false (cut new)) both.1;
      begins = by_other (begins_from way (cut old)) (begins_from way (cut new)) both.0;
    }

-- what was made, where it takes the place of a message
abbrev pub placed_made : FromLines → List ℕ → Made → Made
placed_made way text m = made_of (λ made. if takes_place way text made then Ok made else Err Recut) m

placed_kept : (way : FromLines) (text : List ℕ) (m : Made) → IsMadeKept way text (placed_made way text m)
placed_kept way text (Ok made) =
    elim (cases_Bool (takes_place way text made)) [
      | inl t ↦ rw t (placed way text made t)
      | inr n ↦ rw n tt
    ]
placed_kept way text (Err reason) = tt

root_is : (path : List ℕ) → is_root path ≡ true → path ≡ root_path
root_is [] h = cc
root_is (k ∷ []) h = ap (λ n. n ∷ []) (eqb-true k 1 h)
root_is (k ∷ n ∷ ks) h = cc

not_true : (t : Bool) → not t ≡ true → t ≡ false
not_true true h = cc
not_true false h = refl

apart_kept : (way : FromLines) (path : List ℕ) (rs : List PlainRound) (text : List ℕ) → IsWhole way false (cut text) → IsMadeKept way text (mail_made way path rs text)
apart_kept way path rs text w =
    elim (cases_Bool (always_fits way path)) [
      | inl t ↦
          let both = both_true (is_root path) (not (needs_field way)) t in
          rw t (subst (λ q. IsMadeKept way text (section_made q rs text)) (sym (root_is path both.0)) (rounds_kept way rs text (not_true (needs_field way) both.1) w))
      | inr n ↦ rw n (placed_kept way text (section_made path rs text))
    ]

message_kept : (way : FromLines) (path : List ℕ) (rs : List PlainRound) (text : List ℕ) (alone : Bool) → AreMessage way (cut text)
    → IsKept way (cut text) (cut (if alone then text else result_unwrap_or (mail_made way path rs text) text))
message_kept way path rs text true m = unchanged way (cut text) m.1
message_kept way path rs text false m = left_kept way text (mail_made way path rs text) m.1 (apart_kept way path rs text m.1)

pub sections_apart : (way : FromLines) (path : List ℕ) (rs : List PlainRound) (text : List ℕ) → mailbox_pieces way (flat_map (mail_left way path rs) (mailbox_pieces way text)) ≡ filter is_left (map (mail_left way path rs) (mailbox_pieces way text))
sections_apart way path rs text = kept_apart way (mail_left way path rs) (λ message m. message_kept way path rs message (is_left_alone way message) m) text
