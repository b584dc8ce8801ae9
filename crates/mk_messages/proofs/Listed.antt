-- The lines of messages that were listed in turn.
use Rattle.std.proofs.Common.{◌≡◌, ◌+◌, ◌++◌, ℕ, suc, Bool, true, false, Option, List, [], ◌∷◌, refl, ap, sym, ◌∙◌, subst, inl, length, append-nil, append_assoc, arith}
use Rattle.std.specs.Io.KnownBytes.{Appends}
use Rattle.std.proofs.KnownBytes.{Appends-trans}
use Rattle.mk_mailbox.specs.declared.from_lines.FromLines.{FromLines}
use Rattle.mk_mailbox.specs.Devices.{AppendsFront, Rose}
use Rattle.mk_mailbox.specs.Held.{Held}
use Rattle.mk_mailbox.specs.Pieces.{mailbox_pieces}
use Rattle.mk_transfer.specs.declared.status.Cause.{Cause}
use Rattle.mk_transfer.specs.declared.transfer.Stop.{Stop}
use Rattle.mk_transfer.specs.declared.transfer.Stop.TheVariants.{Fault as Stopped, Memory as Wanting}
use Rattle.mk_transfer.specs.RunClauses.{Counts, IsBlamed, cause_of_writing}
use Rattle.mk_transfer.proofs.Fronts.{AppendsFront-following, AppendsFront-none}
use Rattle.mk_messages.specs.MessageLines.{lines_by, mailbox_lines}
use Rattle.mk_messages.proofs.Taken.{AreTaken, size_of}

pub lines_append : (line : ℕ → ℕ → List ℕ → List ℕ) (number start : ℕ) (ms ns : List (List ℕ)) → lines_by line number start (ms ++ ns) ≡ lines_by line number start ms ++ lines_by line (number + length ms) (start + size_of ms) ns
lines_append line number start [] ns = (λ i. lines_by line (number_is i) (start_is i) ns)
  where
    number_is : number ≡ number + 0
    number_is = omega arith

    start_is : start ≡ start + 0
    start_is = omega arith
lines_append line number start (m ∷ ms) ns =
    ap (λ x. line number start m ++ x) (lines_append line (suc number) (start + length m) ms ns ∙ ap (λ x. lines_by line (suc number) (start + length m) ms ++ x) (λ i. lines_by line (number_is i) (start_is i) ns))
    ∙ sym (append_assoc (line number start m) (lines_by line (suc number) (start + length m) ms) (lines_by line (number + suc (length ms)) (start + (length m + size_of ms)) ns))
  where
    number_is : suc number + length ms ≡ number + suc (length ms)
    number_is = omega arith

    start_is : (start + length m) + size_of ms ≡ start + (length m + size_of ms)
    start_is = omega arith

-- the lines of messages and of one more
lines_more : (line : ℕ → ℕ → List ℕ → List ℕ) (turn start : ℕ) (m : List ℕ) (done rest : List (List ℕ)) → turn ≡ length done → start ≡ size_of done
    → lines_by line 1 0 (done ++ (m ∷ rest)) ≡ lines_by line 1 0 done ++ (line (turn + 1) start m ++ lines_by line (suc (1 + length done)) ((0 + size_of done) + length m) rest)
lines_more line turn start m done rest t s =
    lines_append line 1 0 done (m ∷ rest)
    ∙ ap (λ x. lines_by line 1 0 done ++ (x ++ lines_by line (suc (1 + length done)) ((0 + size_of done) + length m) rest)) (λ i. line (number_is i) (start_is i) m)
  where
    number_is : 1 + length done ≡ turn + 1
    number_is = omega (arith, t)

    start_is : 0 + size_of done ≡ start
    start_is = omega (arith, s)

-- the line of a message more went out
pub line_out : (line : ℕ → ℕ → List ℕ → List ℕ) (turn start : ℕ) (m : List ℕ) (done : List (List ℕ)) (out mid after : Option (List ℕ)) → turn ≡ length done → start ≡ size_of done → Appends out mid (lines_by line 1 0 done) → Appends mid after (line (turn + 1) start m)
    → Appends out after (lines_by line 1 0 (done ++ m ∷ []))
line_out line turn start m done out mid after t s a b =
    subst (Appends out after) (sym (lines_more line turn start m done [] t s ∙ ap (λ x. lines_by line 1 0 done ++ x) (append-nil (line (turn + 1) start m))))
    (Appends-trans out mid after (lines_by line 1 0 done) (line (turn + 1) start m) a b)

-- the listing stopped within a line
pub stopped_within : (line : ℕ → ℕ → List ℕ → List ℕ) (way : FromLines) (turn start : ℕ) (text m : List ℕ) (done rest : List (List ℕ)) (out mid after : Option (List ℕ)) → turn ≡ length done → start ≡ size_of done → mailbox_pieces way text ≡ done ++ (m ∷ rest)
    → Appends out mid (lines_by line 1 0 done) → AppendsFront mid after (line (turn + 1) start m) → AppendsFront out after (mailbox_lines line way text)
stopped_within line way turn start text m done rest out mid after t s e a b =
    AppendsFront-following out mid after (lines_by line 1 0 done) (line (turn + 1) start m) (lines_by line (suc (1 + length done)) ((0 + size_of done) + length m) rest) (mailbox_lines line way text) a b
    (ap (lines_by line 1 0) e ∙ lines_more line turn start m done rest t s)

-- the listing stopped between two lines
pub stopped_between : (line : ℕ → ℕ → List ℕ → List ℕ) (way : FromLines) (text : List ℕ) (done rest : List (List ℕ)) (out after : Option (List ℕ)) → mailbox_pieces way text ≡ done ++ rest
    → Appends out after (lines_by line 1 0 done) → AppendsFront out after (mailbox_lines line way text)
stopped_between line way text done rest out after e a =
    AppendsFront-following out after after (lines_by line 1 0 done) [] (lines_by line (1 + length done) (0 + size_of done) rest) (mailbox_lines line way text) a (AppendsFront-none after [])
    (ap (lines_by line 1 0) e ∙ lines_append line 1 0 done rest)

-- the same where nothing more was read
pub stopped_here : (line : ℕ → ℕ → List ℕ → List ℕ) (way : FromLines) (text : List ℕ) (done : List (List ℕ)) (now : Held) (out after : Option (List ℕ)) → AreTaken way text done now → Appends out after (lines_by line 1 0 done) → AppendsFront out after (mailbox_lines line way text)
stopped_here line way text done now out after a b =
    subst (λ x. AppendsFront out after (mailbox_lines line way x)) (append-nil text)
    (stopped_between line way (text ++ []) done (mailbox_pieces way (now.kept ++ [])) out after (a [] (λ _. refl)) b)

-- all messages were listed
pub listed_all : (line : ℕ → ℕ → List ℕ → List ℕ) (way : FromLines) (text : List ℕ) (done : List (List ℕ)) (out after : Option (List ℕ)) → mailbox_pieces way text ≡ done → Appends out after (lines_by line 1 0 done) → Appends out after (mailbox_lines line way text)
listed_all line way text done out after e a = subst (λ ms. Appends out after (lines_by line 1 0 ms)) (sym e) a

-- sending a line stopped
pub sending_blamed : (stop : Stop) (cause : Cause) (before after : Counts) → cause ≡ cause_of_writing stop → (stop ≡ Stopped → Rose before.output after.output) → (stop ≡ Wanting → after.output ≡ before.output)
    → after.input ≡ before.input → after.errors ≡ before.errors → IsBlamed cause before after
sending_blamed Stopped cause before after e fault memory input errors = subst (λ c. IsBlamed c before after) (sym e) (record { failed = inl (fault refl); input = input; errors = omega (arith, errors) })
sending_blamed Wanting cause before after e fault memory input errors = subst (λ c. IsBlamed c before after) (sym e) (record { input = input; output = memory refl; errors = errors })

pub not_both : (t : Bool) → t ≡ true → t ≡ false → ⊥
not_both t a b = cc

pub not_both_stops : {A : Type 0} (stop : Stop) → stop ≡ Stopped → stop ≡ Wanting → A
not_both_stops stop a b = cc
