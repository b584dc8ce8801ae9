-- What a mailbox holds between two calls.
use Rattle.std.specs.Prelude.{ℕ, Bool, List}
use Rattle.mk_mailbox.specs.declared.from_lines.FromLines.{FromLines}

-- the bytes that were read and not given yet, whether the input has ended, and which From-lines begin messages
pub record Held : Type 0 where
  pub kept : List ℕ
  pub ended : Bool
  pub from_lines : FromLines
