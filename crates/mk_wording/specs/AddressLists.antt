-- The addresses of a field, without names and comments (RFC 5322, 3.4 and 4.4; what is read where a value breaks the grammar is own).
use Rattle.std.specs.Prelude.{◌==◌, ◌&&◌, ◌||◌, ◌++◌, if◌then◌else◌, ℕ, Bool, true, false, not, List, [], ◌∷◌, codes, map}
use Rattle.mk_line.specs.Ascii.{full_stop, line_feed}
use Rattle.mk_head.specs.Values.{Scan, Plain, is_kept, is_plain, scan}
use Rattle.mk_mail.specs.Prepended.{is_white}
use Rattle.mk_wording.specs.Scanned.{is_one_of}

-- b','
abbrev pub comma : ℕ
comma = 44

-- b'<'
abbrev pub opening_angle : ℕ
opening_angle = 60

-- b'>'
abbrev pub closing_angle : ℕ
closing_angle = 62

-- b'@'
abbrev pub at_sign : ℕ
at_sign = 64

-- b'['
abbrev pub opening_bracket : ℕ
opening_bracket = 91

-- b']'
abbrev pub closing_bracket : ℕ
closing_bracket = 93

-- whether the byte after this one stands in a domain literal: between a bracket outside quotes and comments, and the next closing one
abbrev pub in_literal : Bool → Scan → ℕ → Bool
in_literal true s byte = not (byte == closing_bracket)
in_literal false s byte = is_plain s && byte == opening_bracket

-- where that byte stands; a domain literal has neither quotes nor comments
abbrev pub scan_beyond : Bool → Scan → ℕ → Scan
scan_beyond true s byte = s
scan_beyond false s byte = scan s byte

-- what stands between addresses, names and groups, outside quotes, comments and domain literals
abbrev pub is_list_mark : Bool → Scan → ℕ → Bool
is_list_mark literal s byte = not literal && (is_plain s && is_one_of (codes "<>,;:") byte)

-- a byte of a comment, or of white space outside quotes and domain literals
abbrev pub is_gap : Bool → Scan → ℕ → Bool
is_gap literal s byte = not literal && (not (is_kept s byte) || is_plain s && is_white byte)

-- a byte of an address; whether white space or a comment stands before it, and whether it stands outside quotes and domain literals
pub record Sign : Type 0 where
  pub byte : ℕ
  pub apart : Bool
  pub plain : Bool

-- what stands between two marks, without white space and comments, and the mark after it: a comma where the value ends
pub record ListPiece : Type 0 where
  pub signs : List Sign
  pub end : ℕ

-- a byte before those of the first piece
abbrev pub push_sign : Sign → List ListPiece → List ListPiece
push_sign sign [] = []
push_sign sign (p ∷ ps) = record { signs = sign ∷ p.signs; end = p.end } ∷ ps

-- a value as such pieces
abbrev pub list_pieces : Bool → Bool → Scan → List ℕ → List ListPiece
list_pieces apart literal s [] = record { signs = []; end = comma } ∷ []
list_pieces apart literal s (byte ∷ bytes) =
    if is_list_mark literal s byte then record { signs = []; end = byte } ∷ list_pieces false false Plain bytes
    else (if is_gap literal s byte then list_pieces true (in_literal literal s byte) (scan_beyond literal s byte) bytes
    else push_sign (record { byte = byte; apart = apart; plain = not literal && is_plain s }) (list_pieces false (in_literal literal s byte) (scan_beyond literal s byte) bytes))

-- a full stop or an at sign, beside which an address may have white space and comments
abbrev pub is_joint : ℕ → Bool
is_joint byte = byte == full_stop || byte == at_sign

-- white space and comments stand nowhere else in an address (RFC 5322, 4.4)
abbrev pub are_joined : ℕ → List Sign → Bool
are_joined last [] = true
are_joined last (sign ∷ signs) = (not sign.apart || (is_joint last || is_joint sign.byte)) && are_joined sign.byte signs

-- an at sign stands after another byte, outside quotes and domain literals
abbrev pub has_at_sign : Bool → List Sign → Bool
has_at_sign begun [] = false
has_at_sign begun (sign ∷ signs) = (begun && (sign.plain && sign.byte == at_sign)) || has_at_sign true signs

-- the last byte, or this one where there is none
abbrev pub last_sign : ℕ → List Sign → ℕ
last_sign last [] = last
last_sign last (sign ∷ signs) = last_sign sign.byte signs

-- a local part, an at sign and a domain
abbrev pub is_address : List Sign → Bool
is_address signs = are_joined full_stop signs && (has_at_sign false signs && not (last_sign full_stop signs == at_sign))

-- what stands between these marks may be an address: one in angles, or between two others, neither a name before angles nor one
-- before a colon, nor what follows angles
abbrev pub may_be_address : ℕ → ℕ → Bool
may_be_address before end = before == opening_angle || (end == closing_angle || not (before == closing_angle) && is_one_of (codes ",;") end)

-- the line of a piece after a mark, if it is an address
abbrev pub piece_line : ℕ → ListPiece → List ℕ
piece_line before p = if may_be_address before p.end && is_address p.signs then map (λ sign. sign.byte) p.signs ++ line_feed ∷ [] else []

-- the lines of pieces in turn, the first after this mark
abbrev pub lines_of_pieces : ℕ → List ListPiece → List ℕ
lines_of_pieces before [] = []
lines_of_pieces before (p ∷ ps) = piece_line before p ++ lines_of_pieces p.end ps

-- the addresses of a value, each on a line
abbrev pub address_lines : List ℕ → List ℕ
address_lines value = lines_of_pieces comma (list_pieces false false Plain value)
