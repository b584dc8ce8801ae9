-- Parts of words, byte by byte.
use Rattle.std.proofs.Common.{◌≡◌, ◌++◌, ℕ, List, Option, None, Some, refl, ap, append_assoc, sym}
use Rattle.mk_texts.specs.Words.{with_front}

-- bytes put before others
pub front_more : (a b : List ℕ) (o : Option (List ℕ × List ℕ)) → with_front a (with_front b o) ≡ with_front (a ++ b) o
front_more a b None = refl
front_more a b (Some p) = ap (λ bytes. Some (bytes, p.1)) (sym (append_assoc a b p.0))
