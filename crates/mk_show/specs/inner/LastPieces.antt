-- The last piece of a content, in memory.
use Rattle.std.specs.Prelude.{ℕ, List}
use Rattle.mk_head.specs.declared.encodings.Encoding.{Encoding}
use Rattle.mk_head.specs.declared.encodings.Encoding.TheVariants.{Identity, Qp, Base64, Other}

-- a front of the text where it stands for itself, or else what was decoded
abbrev pub last_piece : Encoding → List ℕ → List ℕ → List ℕ
last_piece Identity plain decoded = plain
last_piece Qp plain decoded = decoded
last_piece Base64 plain decoded = decoded
last_piece Other plain decoded = decoded
