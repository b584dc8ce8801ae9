-- A text has no more than one content.
use Rattle.std.proofs.Common.{◌≡◌, ℕ, List, sym, ◌∙◌}
use Rattle.mk_head.specs.declared.encodings.Encoding.{Encoding}
use Rattle.mk_head.specs.declared.encodings.Encoding.TheVariants.{Identity, Qp, Base64, Other}
use Rattle.mk_code.specs.Contents.{IsContent}
use Rattle.mk_code.proofs.Base64Laws.{content_only}

pub content_same : (encoding : Encoding) (text a b : List ℕ) → IsContent encoding text a → IsContent encoding text b → a ≡ b
content_same Identity text a b h k = h ∙ sym k
content_same Qp text a b h k = h ∙ sym k
content_same Base64 text a b h k = content_only text a b h k
content_same Other text a b h k = absurd h
