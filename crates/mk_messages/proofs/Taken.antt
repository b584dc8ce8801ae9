-- Messages taken from a mailbox in turn: all that was read is these and what is kept.
use Rattle.std.proofs.Common.{◌≡◌, ◌≤◌, ◌+◌, ◌*◌, ◌⊎◌, ◌++◌, ℕ, true, Option, None, Some, IfSome, List, [], ◌∷◌, refl, ap, sym, ◌∙◌, subst, inl, inr, length, length-append, append_assoc, append-nil, slice_get, arith}
use Rattle.std.specs.Io.KnownBytes.{Consumes, IsAtEnd}
use Rattle.std.proofs.lemmas.Option.{slice_get_past}
use Rattle.mk_mailbox.specs.declared.from_lines.FromLines.{FromLines}
use Rattle.mk_mailbox.specs.Devices.{IsFull, IsLong}
use Rattle.mk_mailbox.specs.Held.{Held}
use Rattle.mk_mailbox.specs.Mailboxes.{FitsReads, IsNextPiece, IsOver, read_limit}
use Rattle.mk_mailbox.specs.Pieces.{mailbox_pieces}

-- the messages of a text, and of what may follow it, are these and those of what is kept
abbrev pub AreTaken : FromLines → List ℕ → List (List ℕ) → Held → Type 0
AreTaken way text done now = (more : List ℕ) → (now.ended ≡ true → more ≡ []) → mailbox_pieces way (text ++ more) ≡ done ++ mailbox_pieces way (now.kept ++ more)

pub none_taken : (way : FromLines) (now : Held) → now.kept ≡ [] → AreTaken way [] [] now
none_taken way now e = λ more _. ap (λ x. mailbox_pieces way (x ++ more)) (sym e)

-- what was read in a call, with what went before it
taken_with : (way : FromLines) (text read : List ℕ) (done : List (List ℕ)) (now : Held) → AreTaken way text done now → (now.ended ≡ true → read ≡ [])
    → (more : List ℕ) → (now.ended ≡ true → more ≡ []) → mailbox_pieces way ((text ++ read) ++ more) ≡ done ++ mailbox_pieces way ((now.kept ++ read) ++ more)
taken_with way text read done now a r more m =
    ap (mailbox_pieces way) (append_assoc text read more)
    ∙ (a (read ++ more) (λ e. (λ i. r e i ++ m e i)) ∙ ap (λ x. done ++ mailbox_pieces way x) (sym (append_assoc now.kept read more)))

-- the same where nothing more is read
pub taken_all : (way : FromLines) (text read : List ℕ) (done : List (List ℕ)) (now : Held) → AreTaken way text done now → (now.ended ≡ true → read ≡ [])
    → mailbox_pieces way (text ++ read) ≡ done ++ mailbox_pieces way (now.kept ++ read)
taken_all way text read done now a r =
    ap (mailbox_pieces way) (sym (append-nil (text ++ read)))
    ∙ (taken_with way text read done now a r [] (λ _. refl) ∙ ap (λ x. done ++ mailbox_pieces way x) (append-nil (now.kept ++ read)))

-- the next message, and what follows it
pub taken_next : (way : FromLines) (text read m : List ℕ) (done : List (List ℕ)) (old now : Held) → AreTaken way text done old → (old.ended ≡ true → read ≡ []) → (old.ended ≡ true → now.ended ≡ true)
    → old.from_lines ≡ way → IsNextPiece m old read now
    → (more : List ℕ) → (now.ended ≡ true → more ≡ []) → mailbox_pieces way ((text ++ read) ++ more) ≡ done ++ (m ∷ mailbox_pieces way (now.kept ++ more))
taken_next way text read m done old now a r s w p more e =
    taken_with way text read done old a r more (λ t. e (s t))
    ∙ ap (λ xs. done ++ xs) (subst (λ v. mailbox_pieces v ((old.kept ++ read) ++ more) ≡ m ∷ mailbox_pieces v (now.kept ++ more)) w (p.stays more e))

pub one_taken : (way : FromLines) (text read m : List ℕ) (done : List (List ℕ)) (old now : Held) → AreTaken way text done old → (old.ended ≡ true → read ≡ []) → (old.ended ≡ true → now.ended ≡ true)
    → old.from_lines ≡ way → IsNextPiece m old read now → AreTaken way (text ++ read) (done ++ m ∷ []) now
one_taken way text read m done old now a r s w p =
    λ more e. taken_next way text read m done old now a r s w p more e ∙ sym (append_assoc done (m ∷ []) (mailbox_pieces way (now.kept ++ more)))

-- there is no message more
pub all_taken : (way : FromLines) (text read : List ℕ) (done : List (List ℕ)) (old now : Held) → AreTaken way text done old → (old.ended ≡ true → read ≡ []) → IsOver old read now
    → mailbox_pieces way (text ++ read) ≡ done
all_taken way text read done old now a r o =
    taken_all way text read done old a r ∙ (ap (λ x. done ++ mailbox_pieces way x) o.none ∙ append-nil done)

-- how many bytes messages have in all
abbrev pub size_of : List (List ℕ) → ℕ
size_of [] = 0
size_of (m ∷ ms) = length m + size_of ms

pub size_more : (done : List (List ℕ)) (m : List ℕ) → size_of (done ++ m ∷ []) ≡ size_of done + length m
size_more [] m = omega arith
size_more (d ∷ done) m = let rest = size_more done m in omega (arith, rest)

-- ---- the message of a number

at_seam : (xs ys : List (List ℕ)) (y : List ℕ) → slice_get (xs ++ (y ∷ ys)) (length xs) ≡ Some y
at_seam [] ys y = refl
at_seam (x ∷ xs) ys y = at_seam xs ys y

pub picked_some : (way : FromLines) (old new : Option (List ℕ)) (text m : List ℕ) (done : List (List ℕ)) (now : Held) (index : ℕ) → Consumes old new text → (now.ended ≡ true → IsAtEnd new)
    → ((more : List ℕ) → (now.ended ≡ true → more ≡ []) → mailbox_pieces way (text ++ more) ≡ done ++ (m ∷ mailbox_pieces way (now.kept ++ more))) → index ≡ length done
    → IfSome old (λ mailbox. Some m ≡ slice_get (mailbox_pieces way mailbox) index)
picked_some way None new text m done now index c e n l = tt
picked_some way (Some x) None text m done now index c e n l = absurd c
picked_some way (Some x) (Some y) text m done now index c e n l =
    sym (ap (slice_get (mailbox_pieces way x)) l ∙ (ap (λ t. slice_get (mailbox_pieces way t) (length done)) c ∙ (ap (λ ps. slice_get ps (length done)) (n y e) ∙ at_seam done (mailbox_pieces way (now.kept ++ y)) m)))

pub picked_none : (way : FromLines) (old new : Option (List ℕ)) (text : List ℕ) (done : List (List ℕ)) (index : ℕ) → Consumes old new text → IsAtEnd new
    → mailbox_pieces way text ≡ done → length done ≤ index
    → IfSome old (λ mailbox. None ≡ slice_get (mailbox_pieces way mailbox) index)
picked_none way None new text done index c e n l = tt
picked_none way (Some x) None text done index c e n l = absurd c
picked_none way (Some x) (Some y) text done index c e n l =
    let all : x ≡ text = c ∙ (ap (λ z. text ++ z) e ∙ append-nil text) in
    sym (ap (λ z. slice_get (mailbox_pieces way z) index) all ∙ (ap (λ ps. slice_get ps index) n ∙ slice_get_past done index l))

-- ---- reads

-- a call gives no more bytes than it reads, and each read gives no more than a chunk
pub counted_on : (start before reads now : ℕ) (m read : List ℕ) (old new : Held) → (start + length old.kept + read_limit * before ≤ read_limit * reads) ⊎ IsFull reads → FitsReads read reads now → IsNextPiece m old read new
    → ((start + length m) + length new.kept + read_limit * before ≤ read_limit * now) ⊎ IsFull now
counted_on start before reads now m read old new c f p =
    let sizes : length (old.kept ++ read) ≡ length (m ++ new.kept) = ap length p.whole in
    elim f [
      | inr full ↦ inr full
      | inl fits ↦ elim c [
        | inr full ↦ inr (omega (arith, full, fits))
        | inl less ↦ inl (omega (arith, less, fits, sizes, length-append old.kept read, length-append m new.kept))
      ]
    ]

pub long_on : (start kept before reads now : ℕ) → (start + kept + read_limit * before ≤ read_limit * reads) ⊎ IsFull reads → IsLong reads now → IsLong before now
long_on start kept before reads now c h =
    elim h [
      | inr full ↦ inr full
      | inl more ↦ elim c [
        | inr full ↦ inr (omega (arith, full, more))
        | inl less ↦ inl (omega (arith, less, more))
      ]
    ]

-- the same of the reads alone
pub counted_kept : (before reads now : ℕ) (m read : List ℕ) (old new : Held) → (0 + length old.kept + read_limit * before ≤ read_limit * reads) ⊎ IsFull reads → FitsReads read reads now → IsNextPiece m old read new
    → (0 + length new.kept + read_limit * before ≤ read_limit * now) ⊎ IsFull now
counted_kept before reads now m read old new c f p =
    elim (counted_on 0 before reads now m read old new c f p) [
      | inl less ↦ inl (omega (arith, less))
      | inr full ↦ inr full
    ]

pub counted_on_to : (start end before reads now : ℕ) (m read : List ℕ) (old new : Held) → (start + length old.kept + read_limit * before ≤ read_limit * reads) ⊎ IsFull reads → FitsReads read reads now → IsNextPiece m old read new
    → end ≡ start + length m → (end + length new.kept + read_limit * before ≤ read_limit * now) ⊎ IsFull now
counted_on_to start end before reads now m read old new c f p e =
    elim (counted_on start before reads now m read old new c f p) [
      | inl less ↦ inl (omega (arith, less, e))
      | inr full ↦ inr full
    ]
