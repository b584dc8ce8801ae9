-- What goes to a sink in several parts.
use Rattle.std.proofs.Common.{◌≡◌, ◌≤◌, ℕ, not, ◌||◌, List, [], ◌∷◌, ◌++◌, append-nil, Option, None, Some, refl, sym, ap, ◌∙◌, append_assoc, inl, inr, arith}
use Rattle.std.specs.Io.KnownBytes.{Appends, Keeps}
use Rattle.std.proofs.KnownBytes.{Appends-nil, Appends-trans}
use Rattle.mk_line.specs.Lines.{is_nil}
use Rattle.mk_mailbox.specs.Devices.{AppendsFront, Rose}

-- where nothing went out, a front did
pub AppendsFront-none : (known : Option (List ℕ)) (bytes : List ℕ) → AppendsFront known known bytes
AppendsFront-none known bytes = ([], bytes, refl, Appends-nil known)

-- bytes that went out after a call that wrote nothing
Keeps-Appends : (old mid new : Option (List ℕ)) (bytes : List ℕ) → Keeps old mid → Appends mid new bytes → Appends old new bytes
Keeps-Appends None mid new bytes k a = tt
Keeps-Appends (Some x) None new bytes k a = absurd k
Keeps-Appends (Some x) (Some y) None bytes k a = absurd a
Keeps-Appends (Some x) (Some y) (Some z) bytes k a = a ∙ ap (λ l. l ++ bytes) k

-- a front that went out after a call that wrote nothing
pub AppendsFront-kept : (old mid new : Option (List ℕ)) (bytes : List ℕ) → Keeps old mid → AppendsFront mid new bytes → AppendsFront old new bytes
AppendsFront-kept old mid new bytes k a = (a.0, a.1, a.2, Keeps-Appends old mid new a.0 k a.3)

-- where all went out, a front did
pub AppendsFront-whole : (old new : Option (List ℕ)) (bytes : List ℕ) → Appends old new bytes → AppendsFront old new bytes
AppendsFront-whole old new bytes h = (bytes, [], sym (append-nil bytes), h)

-- a front of further bytes, after bytes that went out
pub AppendsFront-following : (a b c : Option (List ℕ)) (front bytes more all : List ℕ) → Appends a b front → AppendsFront b c bytes
    → all ≡ front ++ (bytes ++ more) → AppendsFront a c all
AppendsFront-following a b c front bytes more all sent part e = (
  front ++ part.0,
  part.1 ++ more,
  e ∙ ap (λ l. front ++ (l ++ more)) part.2 ∙ ap (λ l. front ++ l) (append_assoc part.0 part.1 more) ∙ sym (append_assoc front part.0 (part.1 ++ more)),
  Appends-trans a b c front part.0 sent part.3,
)

-- bytes and then others are none only where both are
pub not-is_nil-append : (xs ys : List ℕ) → not (is_nil (xs ++ ys)) ≡ (not (is_nil xs) || not (is_nil ys))
not-is_nil-append [] ys = refl
not-is_nil-append (x ∷ xs) ys = refl

-- a count that rose stays so when it goes on
pub Rose-on : (a b c : ℕ) → Rose a b → b ≤ c → Rose a c
Rose-on a b c rose on = elim rose [ inl less ↦ inl (omega arith) | inr full ↦ inr (omega arith) ]
