-- Rounds: what they make, one after another, and the messages of a mailbox that they leave.
use Rattle.std.specs.List.{flat_map}
use Rattle.std.specs.Prelude.{filter, map}
use Rattle.std.proofs.Common.{◌≡◌, ◌++◌, if◌then◌else◌, ℕ, Bool, true, false, Option, None, Some, Ok, Err, List, [], ◌∷◌, refl, ap, ◌∙◌, inl, inr}
use Rattle.std.proofs.lemmas.Bool.{cases_Bool}
use Rattle.mk_mailbox.specs.declared.from_lines.FromLines.{FromLines}
use Rattle.mk_mailbox.specs.Pieces.{is_left_alone, needs_field, mailbox_pieces}
use Rattle.mk_line.specs.Lines.{TextLine, cut, eol_of, is_lf}
use Rattle.mk_edit.specs.Groups.{Together}
use Rattle.mk_line.specs.declared.cutting.Ending.{Ending}
use Rattle.mk_head.specs.Fields.{FieldText, is_named}
use Rattle.mk_tree.specs.Documents.{tree}
use Rattle.mk_mail.specs.Filtered.{IsFielded, filtered, is_left}
use Rattle.mk_mail.specs.Letters.{PlainLetters, fields_at, root_path}
use Rattle.mk_mail.specs.Rules.{FieldChange, FieldRule, Stays, Goes, Becomes, change_edits, following_number, rule_edits}
use Rattle.mk_mail.specs.Rounds.{ByLetters, ByRule, Made, PlainRound, letters_by_ending, made_text, round_edits, round_outcome, rounds_left, rounds_left_in, rounds_made, rounds_made_at, round_of_letters}
use Rattle.mk_line.specs.Results.{made_of}
use Rattle.std.specs.Result.{result_unwrap_or}
use Rattle.mk_mail.proofs.FilteredMail.{AreRootEdits, as_it_was, edits_fielded, edits_kept, edits_root, fielded_on, joined, outcome, text_left}
use Rattle.mk_mail.proofs.MailChains.{AreMessage, IsKept, IsWhole, kept_apart}

-- ---- the edits of a round are edits of the root's fields

change_root : (name : List ℕ) (k : ℕ) (c : FieldChange) → AreRootEdits (change_edits root_path name k c)
change_root name k Stays = tt
change_root name k Goes = (refl, tt)
change_root name k (Becomes text) = (refl, tt)

rule_root : (eol : Ending) (r : FieldRule) (o : Option ℕ) (fs : List FieldText) → AreRootEdits (rule_edits root_path eol r o fs)
rule_root eol r o [] = tt
rule_root eol r None (f ∷ fs) = tt
rule_root eol r (Some k) (f ∷ fs) =
    elim (cases_Bool (is_named r.name f)) [
      | inl t ↦ rw t (let c = r.change eol f.raw in joined (change_edits root_path r.name k c) (rule_edits root_path eol r (following_number k c) fs) (change_root r.name k c) (rule_root eol r (following_number k c) fs))
      | inr n ↦ rw n (rule_root eol r (Some k) fs)
    ]

round_root : (text : List ℕ) (r : PlainRound) → AreRootEdits (round_edits root_path text r)
round_root text (ByLetters lf crlf) = edits_root text (letters_by_ending lf crlf text)
round_root text (ByRule rule) = rule_root (eol_of (cut text)) rule (Some 1) (fields_at root_path text)

one_text : (text : List ℕ) (r : Together) → result_unwrap_or (made_of (rounds_made_at root_path []) (made_text r)) text ≡ text_left text r
one_text text (Ok p) = refl
one_text text (Err q) = refl

same_letters : (l : PlainLetters) (t : Bool) → (if t then l else l) ≡ l
same_letters l true = refl
same_letters l false = refl

pub one_round : (l : PlainLetters) (text : List ℕ) → rounds_left (round_of_letters l ∷ []) text ≡ filtered l text
one_round l text =
    ap (λ k. result_unwrap_or (made_of (rounds_made_at root_path []) (made_text (outcome k text))) text) (same_letters l (is_lf (eol_of (cut text))))
    ∙ one_text text (outcome l text)

piped_on : (rs more : List PlainRound) (m : Made) → ((text : List ℕ) → rounds_made (rs ++ more) text ≡ made_of (rounds_made more) (rounds_made rs text))
    → made_of (rounds_made (rs ++ more)) m ≡ made_of (rounds_made more) (made_of (rounds_made rs) m)
piped_on rs more (Ok text) h = h text
piped_on rs more (Err reason) h = refl

pub piped : (rs more : List PlainRound) (text : List ℕ) → rounds_made (rs ++ more) text ≡ made_of (rounds_made more) (rounds_made rs text)
piped [] more text = refl
piped (r ∷ rs) more text = piped_on rs more (made_text (round_outcome root_path text r)) (λ next. piped rs more next)

-- ---- what stays of a message

pub unchanged : (way : FromLines) (ls : List TextLine) → IsWhole way false ls → IsKept way ls ls
unchanged way ls w = record { whole = w; ends = λ h. h; begins = λ h. h }

kept_on : (way : FromLines) (a b c : List TextLine) → IsKept way a b → IsKept way b c → IsKept way a c
kept_on way a b c k m = record { whole = m.whole; ends = λ h. m.ends (k.ends h); begins = λ h. m.begins (k.begins h) }

-- a text that was made keeps what makes a message of its lines
abbrev pub IsMadeKept : FromLines → List ℕ → Made → Type 0
IsMadeKept way text (Ok made) = IsKept way (cut text) (cut made)
IsMadeKept way text (Err reason) = Unit {0}

text_kept : (way : FromLines) (text : List ℕ) (r : Together) → IsKept way (cut text) (cut (text_left text r)) → IsMadeKept way text (made_text r)
text_kept way text (Ok p) k = k
text_kept way text (Err q) k = tt

later_kept : (way : FromLines) (text made : List ℕ) (m : Made) → IsKept way (cut text) (cut made) → IsMadeKept way made m → IsMadeKept way text m
later_kept way text made (Ok last) k h = kept_on way (cut text) (cut made) (cut last) k h
later_kept way text made (Err reason) k h = tt

made_kept : (way : FromLines) (text : List ℕ) (f : List ℕ → Made) (m : Made) → IsMadeKept way text m → ((made : List ℕ) → IsWhole way false (cut made) → IsMadeKept way made (f made)) → IsMadeKept way text (made_of f m)
made_kept way text f (Ok made) k h = later_kept way text made (f made) k (h made k.whole)
made_kept way text f (Err reason) k h = tt

pub rounds_kept : (way : FromLines) (rs : List PlainRound) (text : List ℕ) → needs_field way ≡ false → IsWhole way false (cut text) → IsMadeKept way text (rounds_made rs text)
rounds_kept way [] text n w = unchanged way (cut text) w
rounds_kept way (r ∷ rs) text n w =
    made_kept way text (rounds_made rs) (made_text (round_outcome root_path text r)) (text_kept way text (round_outcome root_path text r) (edits_kept way (round_edits root_path text r) text n (round_root text r) w)) (λ made v. rounds_kept way rs made n v)

pub left_kept : (way : FromLines) (text : List ℕ) (m : Made) → IsWhole way false (cut text) → IsMadeKept way text m → IsKept way (cut text) (cut (result_unwrap_or m text))
left_kept way text (Ok made) w k = k
left_kept way text (Err reason) w k = unchanged way (cut text) w

message_kept : (way : FromLines) (rs : List PlainRound) (text : List ℕ) (alone : Bool) → needs_field way ≡ false → AreMessage way (cut text) → IsKept way (cut text) (cut (if alone then text else rounds_left rs text))
message_kept way rs text true n m = unchanged way (cut text) m.1
message_kept way rs text false n m = left_kept way text (rounds_made rs text) m.1 (rounds_kept way rs text n m.1)

pub rounds_apart : (way : FromLines) → needs_field way ≡ false → (rs : List PlainRound) (text : List ℕ) → mailbox_pieces way (flat_map (rounds_left_in way rs) (mailbox_pieces way text)) ≡ filter is_left (map (rounds_left_in way rs) (mailbox_pieces way text))
rounds_apart way n rs text = kept_apart way (rounds_left_in way rs) (λ message m. message_kept way rs message (is_left_alone way message) n m) text

-- ---- what changes of it

-- a text that was made differs in the fields of the root alone
abbrev IsMadeFielded : List ℕ → Made → Type 0
IsMadeFielded text (Ok made) = IsFielded (tree text) (tree made)
IsMadeFielded text (Err reason) = Unit {0}

text_fielded : (text : List ℕ) (r : Together) → IsFielded (tree text) (tree (text_left text r)) → IsMadeFielded text (made_text r)
text_fielded text (Ok p) f = f
text_fielded text (Err q) f = tt

later_fielded : (text made : List ℕ) (m : Made) → IsFielded (tree text) (tree made) → IsMadeFielded made m → IsMadeFielded text m
later_fielded text made (Ok last) f g = fielded_on (tree text) (tree made) (tree last) f g
later_fielded text made (Err reason) f g = tt

made_fielded : (text : List ℕ) (f : List ℕ → Made) (m : Made) → IsMadeFielded text m → ((made : List ℕ) → IsMadeFielded made (f made)) → IsMadeFielded text (made_of f m)
made_fielded text f (Ok made) g h = later_fielded text made (f made) g (h made)
made_fielded text f (Err reason) g h = tt

rounds_fielded : (rs : List PlainRound) (text : List ℕ) → IsMadeFielded text (rounds_made rs text)
rounds_fielded [] text = as_it_was (tree text)
rounds_fielded (r ∷ rs) text =
    made_fielded text (rounds_made rs) (made_text (round_outcome root_path text r)) (text_fielded text (round_outcome root_path text r) (edits_fielded (round_edits root_path text r) text (round_root text r))) (λ made. rounds_fielded rs made)

left_fielded : (text : List ℕ) (m : Made) → IsMadeFielded text m → IsFielded (tree text) (tree (result_unwrap_or m text))
left_fielded text (Ok made) f = f
left_fielded text (Err reason) f = as_it_was (tree text)

pub rounds_alone : (rs : List PlainRound) (text : List ℕ) → IsFielded (tree text) (tree (rounds_left rs text))
rounds_alone rs text = left_fielded text (rounds_made rs text) (rounds_fielded rs text)
