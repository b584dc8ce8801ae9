-- What a word of a script may stand for: edits, or a fault (own).
use Rattle.std.specs.Prelude.{Result, List}
use Rattle.mk_decide.specs.Edits.{PlainEdit}

-- why a word stands for no edits
pub data WordFault : Type 0 where
  -- the transfer encoding of a leaf is one that nothing can be written in (RFC 2045, 6)
  UnknownEncoding : WordFault
  -- the content of a leaf is said to be base64, and isn't (RFC 2045, 6.8)
  BadBase64 : WordFault
  -- a media type that can't be attached
  BadType : WordFault
  -- a name that can't be written
  BadName : WordFault
  -- a charset that can't be named, or in which no text is these bytes (RFC 2045, 5.1; RFC 2046, 4.1.2)
  BadCharset : WordFault
  -- a content that can't stand unencoded: it holds a NUL, or a line that is too long (RFC 2045, 2.8)
  BinaryContent : WordFault

-- the edits, or the fault
abbrev pub Meaning : Type 0
Meaning = Result (List PlainEdit) WordFault
