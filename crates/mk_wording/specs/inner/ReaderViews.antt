-- Readers of lists of addresses as what they have read, for private contracts.
use Rattle.std.specs.Prelude.{◌==◌, ◌&&◌, ◌||◌, ◌++◌, if◌then◌else◌, ℕ, Bool, true, false, not, List, [], ◌∷◌, map}
use Rattle.mk_line.specs.Ascii.{full_stop, line_feed}
use Rattle.mk_line.specs.Lines.{is_nil}
use Rattle.mk_head.specs.Values.{is_plain}
use Rattle.mk_wording.specs.AddressLists.{ListPiece, Sign, are_joined, at_sign, has_at_sign, is_joint, last_sign, list_pieces, may_be_address, lines_of_pieces}
use Rattle.mk_wording.specs.declared.address_lists.Reader.{Reader}
use Rattle.mk_wording.specs.inner.ScanViews.{scan_of}

-- what was read of a piece: the mark before it, its bytes, the last of them, and whether they are joined and have an at sign
pub record Begun : Type 0 where
  pub before : ℕ
  pub text : List ℕ
  pub last : ℕ
  pub joined : Bool
  pub at_sign : Bool

-- nothing after a mark
abbrev pub begun_after : ℕ → Begun
begun_after mark = record { before = mark; text = []; last = full_stop; joined = true; at_sign = false }

-- a byte more
abbrev pub with_sign : Begun → Sign → Begun
with_sign b sign = record { before = b.before; text = b.text ++ sign.byte ∷ []; last = sign.byte; joined = b.joined && (not sign.apart || (is_joint b.last || is_joint sign.byte)); at_sign = b.at_sign || (not (is_nil b.text) && (sign.plain && sign.byte == at_sign)) }

-- what was read may be followed by these bytes of an address
abbrev pub completes : Begun → List Sign → Bool
completes b signs = (b.joined && are_joined b.last signs) && ((b.at_sign || has_at_sign (not (is_nil b.text)) signs) && not (last_sign b.last signs == at_sign))

-- the line of what was read with the rest of its piece
abbrev pub begun_line : Begun → ListPiece → List ℕ
begun_line b p = if may_be_address b.before p.end && completes b p.signs then (b.text ++ map (λ sign. sign.byte) p.signs) ++ line_feed ∷ [] else []

-- the lines of that and of the pieces after it
abbrev pub begun_lines : Begun → List ListPiece → List ℕ
begun_lines b [] = []
begun_lines b (p ∷ ps) = begun_line b p ++ lines_of_pieces p.end ps

-- what a reader has read of a piece
abbrev pub begun_of : Reader → Begun
begun_of r = record { before = r.before; text = r.text.items; last = r.last; joined = r.joined; at_sign = r.has_at_sign }

-- the byte that it reads next
abbrev pub sign_of : Reader → ℕ → Sign
sign_of r byte = record { byte = byte; apart = r.apart; plain = not r.in_literal && is_plain (scan_of r.scan) }

-- the lines that it writes of bytes to come
abbrev pub lines_to_come : Reader → List ℕ → List ℕ
lines_to_come r bytes = begun_lines (begun_of r) (list_pieces r.apart r.in_literal (scan_of r.scan) bytes)
