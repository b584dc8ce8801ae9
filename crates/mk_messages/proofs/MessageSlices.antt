-- Listed messages as slices of their mailbox.
use Rattle.std.proofs.Common.{◌≡◌, ◌+◌, ◌++◌, ◌∙◌, ℕ, suc, List, [], ◌∷◌, append_assoc, arith, ap, drop, length, length-append, refl, sym, take}
use Rattle.std.proofs.Math.Seq.{drop_at, take_at}
use Rattle.std.specs.List.{flat_map}
use Rattle.mk_mailbox.specs.declared.from_lines.FromLines.{FromLines}
use Rattle.mk_mailbox.specs.Pieces.{mailbox_pieces}
use Rattle.mk_mailbox.proofs.PieceLaws.{all_pieces}
use Rattle.mk_messages.specs.MessageLines.{lines_from, mailbox_listing, message_line}
use Rattle.mk_messages.proofs.Listed.{lines_append}
use Rattle.mk_messages.proofs.Taken.{size_of}

-- where a message begins after others
abbrev start_after : List (List ℕ) → ℕ
start_after before = length (flat_map (λ p. p) before)

joined_append : (ms ns : List (List ℕ)) → flat_map (λ p. p) (ms ++ ns) ≡ flat_map (λ p. p) ms ++ flat_map (λ p. p) ns
joined_append [] ns = refl
joined_append (m ∷ ms) ns = ap (λ x. m ++ x) (joined_append ms ns) ∙ sym (append_assoc m (flat_map (λ p. p) ms) (flat_map (λ p. p) ns))

size_joined : (ms : List (List ℕ)) → size_of ms ≡ start_after ms
size_joined [] = refl
size_joined (m ∷ ms) = ap (λ n. length m + n) (size_joined ms) ∙ sym (length-append m (flat_map (λ p. p) ms))

pub message_sliced : (way : FromLines) (text : List ℕ) (before : List (List ℕ)) (message : List ℕ) (after : List (List ℕ)) → mailbox_pieces way text ≡ before ++ (message ∷ after)
    → (mailbox_listing way text ≡ lines_from 1 0 before ++ (message_line (length before + 1) (start_after before) message ++ lines_from (length before + 2) (start_after before + length message) after))
    × (take (length message) (drop (start_after before) text) ≡ message)
message_sliced way text before message after e = (
  ap (lines_from 1 0) e ∙ (lines_append message_line 1 0 before (message ∷ after) ∙ ap (λ x. lines_from 1 0 before ++ x) (λ i. message_line (number_is i) (start_is i) message ++ lines_from (next_is i) (end_is i) after)),
  ap (λ t. take (length message) (drop (start_after before) t)) text_is
      ∙ (ap (take (length message)) (drop_at (flat_map (λ p. p) before) (message ++ flat_map (λ p. p) after) (start_after before) refl)
      ∙ take_at message (flat_map (λ p. p) after) (length message) refl),
)
  where
    number_is : 1 + length before ≡ length before + 1
    number_is = omega arith

    start_is : 0 + size_of before ≡ start_after before
    start_is = omega (arith, size_joined before)

    next_is : suc (1 + length before) ≡ length before + 2
    next_is = omega arith

    end_is : (0 + size_of before) + length message ≡ start_after before + length message
    end_is = omega (arith, size_joined before)

    text_is : text ≡ flat_map (λ p. p) before ++ (message ++ flat_map (λ p. p) after)
    text_is = sym (all_pieces way text) ∙ (ap (flat_map (λ p. p)) e ∙ joined_append before (message ∷ after))
