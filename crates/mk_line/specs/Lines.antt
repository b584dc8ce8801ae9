-- Lines of a text (RFC 5322, 2.1; that LF alone ends a line too, and that the last line may be open, is our own).
use Rattle.std.specs.Prelude.{◌≡◌, ◌==◌, ◌&&◌, ◌||◌, if◌then◌else◌, ℕ, Bool, true, false, not, List, [], ◌∷◌, ◌++◌}
use Rattle.mk_line.specs.declared.cutting.Ending.{Ending}
use Rattle.mk_line.specs.declared.cutting.Ending.TheVariants.{Crlf, Lf, Missing}
use Rattle.mk_line.specs.Ascii.{line_feed, carriage_return}

-- a line, without where it lies in memory
pub record TextLine : Type 0 where
  pub content : List ℕ
  pub ending : Ending

-- a line of a content and an ending
abbrev pub text_line : List ℕ → Ending → TextLine
text_line content ending = record { content = content; ending = ending }

-- the bytes of an ending
abbrev pub ending_bytes : Ending → List ℕ
ending_bytes Crlf = carriage_return ∷ line_feed ∷ []
ending_bytes Lf = line_feed ∷ []
ending_bytes Missing = []

-- a line as it stands in a text
abbrev pub printed_line : TextLine → List ℕ
printed_line l = l.content ++ ending_bytes l.ending

-- the text of lines
abbrev pub text_of : List TextLine → List ℕ
text_of [] = []
text_of (l ∷ ls) = printed_line l ++ text_of ls

-- the ending is a line feed alone
abbrev pub is_lf : Ending → Bool
is_lf Crlf = false
is_lf Lf = true
is_lf Missing = false

-- an open line has no ending
abbrev pub is_open : Ending → Bool
is_open Crlf = false
is_open Lf = false
is_open Missing = true

-- nothing is there
abbrev pub is_nil : {X : Type 0} → List X → Bool
is_nil [] = true
is_nil (byte ∷ bytes) = false

-- a line with a byte put before it: a carriage return before a lone line feed belongs to the ending
abbrev pub with_byte : ℕ → TextLine → TextLine
with_byte byte l =
    if (is_lf l.ending && is_nil l.content) && byte == carriage_return then text_line [] Crlf else text_line (byte ∷ l.content) l.ending

-- lines with a byte put before the first
abbrev pub onto_first : ℕ → List TextLine → List TextLine
onto_first byte [] = text_line (byte ∷ []) Missing ∷ []
onto_first byte (l ∷ ls) = with_byte byte l ∷ ls

-- the lines of a text, which is cut after each line feed
abbrev pub cut : List ℕ → List TextLine
cut [] = []
cut (byte ∷ bytes) = if byte == line_feed then text_line [] Lf ∷ cut bytes else onto_first byte (cut bytes)

-- the line of these bytes, which a line feed follows
abbrev pub ended : List ℕ → TextLine
ended [] = text_line [] Lf
ended (byte ∷ bytes) = with_byte byte (ended bytes)

-- an ending as it is, and LF in the place of a missing one (own)
abbrev pub closed : Ending → Ending
closed Crlf = Crlf
closed Lf = Lf
closed Missing = Lf

-- the ending that new lines get: that of the first line, and a line feed where that has none (own)
abbrev pub eol_of : List TextLine → Ending
eol_of [] = Lf
eol_of (l ∷ ls) = closed l.ending

-- some byte is a line feed
abbrev pub has_line_feed : List ℕ → Bool
has_line_feed [] = false
has_line_feed (byte ∷ bytes) = byte == line_feed || has_line_feed bytes

-- the last byte is a carriage return
abbrev pub ends_in_return : List ℕ → Bool
ends_in_return [] = false
ends_in_return (byte ∷ []) = byte == carriage_return
ends_in_return (byte ∷ next ∷ bytes) = ends_in_return (next ∷ bytes)

-- a text ends open where it isn't empty and no line feed is its last byte
abbrev pub ends_open : List ℕ → Bool
ends_open [] = false
ends_open (byte ∷ []) = not (byte == line_feed)
ends_open (byte ∷ next ∷ bytes) = ends_open (next ∷ bytes)

-- a line ended by LF doesn't end in CR, and an open line isn't empty
abbrev pub EndsWell : Ending → List ℕ → Type 0
EndsWell Crlf content = Unit {0}
EndsWell Lf content = ends_in_return content ≡ false
EndsWell Missing content = is_nil content ≡ false

-- a line by itself
pub record IsLine (l : TextLine) : Type 0 where
  pub no_feed : has_line_feed l.content ≡ false
  pub ends_well : EndsWell l.ending l.content

-- the lines of some text: only the last may be open
abbrev pub AreLines : List TextLine → Type 0
AreLines [] = Unit {0}
AreLines (l ∷ ls) = IsLine l × (l.ending ≡ Missing → ls ≡ []) × AreLines ls
