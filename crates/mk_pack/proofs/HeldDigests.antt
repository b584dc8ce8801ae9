-- What a hasher holds once pieces were added, each after its length.
use Rattle.std.proofs.Common.{◌≡◌, ◌++◌, ◌∙◌, ℕ, List, [], ◌∷◌, ap, sym, subst, append_assoc, append-nil, length, decimal}
use Rattle.std.specs.List.{flat_map}
use Rattle.sha2.specs.declared.Sha256.{Sha256}
use Rattle.sha2.specs.Hashers.{Holds256}
use Rattle.mk_pack.specs.OwnBoundary.{measured}

-- the length, a colon and the piece
pub held_piece : (s : Sha256) (before digits piece : List ℕ) → digits ≡ decimal (length piece) → Holds256 s (((before ++ digits) ++ 58 ∷ []) ++ piece) → Holds256 s (before ++ measured piece)
held_piece s before digits piece e h =
    subst (Holds256 s)
    (append_assoc (before ++ digits) (58 ∷ []) piece ∙ (append_assoc before digits (58 ∷ piece) ∙ ap (λ d. before ++ (d ++ (58 ∷ piece))) e)) h

-- two texts and three, one after another
pub held_two : (s : Sha256) (before a b : List ℕ) → Holds256 s ((before ++ a) ++ b) → Holds256 s (before ++ (a ++ b))
held_two s before a b h = subst (Holds256 s) (append_assoc before a b) h

pub held_three : (s : Sha256) (before a b c : List ℕ) → Holds256 s (((before ++ a) ++ b) ++ c) → Holds256 s (before ++ (a ++ (b ++ c)))
held_three s before a b c h = subst (Holds256 s) (append_assoc (before ++ a) b c ∙ append_assoc before a (b ++ c)) h

-- the same text in other words
pub held_as : (s : Sha256) (a b : List ℕ) → a ≡ b → Holds256 s a → Holds256 s b
held_as s a b e h = subst (Holds256 s) e h

-- all pieces of a list
pub held_all : {Y : Type 0} (s : Sha256) (g : Y → List ℕ) (ys : List Y) (now all : List ℕ) → ys ≡ [] → now ++ flat_map g ys ≡ all → Holds256 s now → Holds256 s all
held_all s g ys now all n e h = subst (Holds256 s) (sym (append-nil now) ∙ (ap (λ zs. now ++ flat_map g zs) (sym n) ∙ e)) h
