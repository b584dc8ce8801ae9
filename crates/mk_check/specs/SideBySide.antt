-- Structured values in which two words stand side by side, as where a semicolon or quotes are missing (RFC 2045, 5.1; own).
use Rattle.std.specs.Prelude.{◌==◌, ◌||◌, if◌then◌else◌, ℕ, Bool, false, nat_le, List, [], ◌∷◌}
use Rattle.mk_line.specs.Ascii.{is_blank, opening, quote}
use Rattle.mk_head.specs.Values.{Scan, Plain, Quoted, QuotedEscaped, Comment, CommentEscaped, is_token_byte, scan}
use Rattle.mk_check.specs.declared.words.Word.{Word}
use Rattle.mk_check.specs.declared.words.Word.TheVariants.{No, Open, Ended}

-- a byte of a word: one of a token, or one that isn't ASCII
abbrev pub is_word_byte : ℕ → Bool
is_word_byte byte = is_token_byte byte || nat_le 128 byte

-- a word isn't open any more
abbrev pub ended_word : Word → Word
ended_word No = No
ended_word Open = Ended
ended_word Ended = Ended

-- what comes of the word before a byte outside comments and quoted strings
abbrev pub word_after : Word → ℕ → Word
word_after word byte =
    if byte == quote || is_word_byte byte then Open
    else if byte == opening || is_blank byte then ended_word word
    else No

-- the same wherever the byte stands: a quoted string is a word, and a comment stands for a blank
abbrev pub next_word : Scan → Word → ℕ → Word
next_word Plain word byte = word_after word byte
next_word Quoted word byte = if byte == quote then Ended else word
next_word QuotedEscaped word byte = word
next_word (Comment depth) word byte = word
next_word (CommentEscaped depth) word byte = word

-- a byte outside comments and quoted strings begins a word beside another one
abbrev pub begins_beside : Word → ℕ → Bool
begins_beside No byte = false
begins_beside Open byte = byte == quote
begins_beside Ended byte = byte == quote || is_word_byte byte

-- the same wherever the byte stands
abbrev pub meets : Scan → Word → ℕ → Bool
meets Plain word byte = begins_beside word byte
meets Quoted word byte = false
meets QuotedEscaped word byte = false
meets (Comment depth) word byte = false
meets (CommentEscaped depth) word byte = false

-- two words of a value stand side by side, from a place on
abbrev pub beside_from : Scan → Word → List ℕ → Bool
beside_from s word [] = false
beside_from s word (byte ∷ bytes) = meets s word byte || beside_from (scan s byte) (next_word s word byte) bytes

-- two words of a value stand side by side
abbrev pub has_words_beside : List ℕ → Bool
has_words_beside value = beside_from Plain No value
