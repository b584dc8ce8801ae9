-- Texts that are cut as one message at most: no line of them begins another.
use Rattle.std.proofs.Common.{◌≡◌, ◌&&◌, if◌then◌else◌, ℕ, Bool, true, false, List, [], ◌∷◌, refl, ap, sym, ◌∙◌, inl, inr, map}
use Rattle.std.proofs.lemmas.Bool.{cases_Bool}
use Rattle.mk_line.specs.Lines.{TextLine, cut, is_nil, text_of}
use Rattle.mk_mailbox.specs.declared.from_lines.FromLines.{FromLines}
use Rattle.mk_mailbox.specs.Pieces.{is_first, is_followed, is_mail_start, later, parted}
use Rattle.mk_mailbox.specs.Places.{is_uncut}
use Rattle.mk_mailbox.specs.inner.Parts.{at_most_one}

-- no line begins a message, where `e` says whether the line before the first is empty
abbrev pub are_whole : FromLines → Bool → List TextLine → Bool
are_whole way e [] = true
are_whole way e (l ∷ ls) = if is_first way e l.content ls then false else are_whole way (is_nil l.content) ls

none_later : (way : FromLines) (e : Bool) (ls : List TextLine) → is_nil (map text_of (later way e ls)) ≡ are_whole way e ls
none_later way e [] = refl
none_later way e (l ∷ ls) =
    elim (cases_Bool (is_first way e l.content ls)) [
      | inl t ↦ rw t refl
      | inr n ↦ rw n (none_later way (is_nil l.content) ls)
    ]

whole_lines : (way : FromLines) (ls : List TextLine) → at_most_one (map text_of (parted way ls)) ≡ are_whole way false ls
whole_lines way [] = refl
whole_lines way (l ∷ ls) = none_later way (is_nil l.content) ls

pub uncut : (way : FromLines) (text : List ℕ) → is_uncut way text ≡ are_whole way false (cut text)
uncut way text = whole_lines way (cut text)

-- a line that begins another message
pub parted_here : (way : FromLines) (text : List ℕ) (e : Bool) (l : TextLine) (ls rest : List TextLine) → ls ≡ l ∷ rest → e ≡ true → (is_mail_start way l.content && is_followed way rest) ≡ true → are_whole way e ls ≡ are_whole way false (cut text) → false ≡ is_uncut way text
parted_here way text e l ls rest s t m h =
    let gone : are_whole way e ls ≡ false = ap (are_whole way e) s ∙ (ap (λ b. are_whole way b (l ∷ rest)) t ∙ ap (λ b. if b then false else are_whole way (is_nil l.content) rest) m) in
    sym gone ∙ (h ∙ sym (uncut way text))

-- no line is left
pub whole_here : (way : FromLines) (text : List ℕ) (e : Bool) (ls : List TextLine) → ls ≡ [] → are_whole way e ls ≡ are_whole way false (cut text) → true ≡ is_uncut way text
whole_here way text e ls s h = sym (ap (are_whole way e) s) ∙ (h ∙ sym (uncut way text))
