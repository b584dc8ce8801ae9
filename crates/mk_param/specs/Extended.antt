-- Values with a charset and a language (RFC 2231, 4), whole or in segments (4.1).
use Rattle.std.specs.Prelude.{◌++◌, ℕ, List, [], ◌∷◌, Option, Some, None, option_and_then}
use Rattle.std.specs.Option.{option_map}
use Rattle.std.specs.Str.{str_to_ascii_lowercase}
use Rattle.mk_line.specs.Parting.{before, following}
use Rattle.mk_code.specs.EncodedWords.{as_text, in_utf8}
use Rattle.mk_param.specs.Percents.{apostrophe, percent_decoded}
use Rattle.mk_param.specs.Segments.{Segment, Plain, Encoded}

-- the text that bytes are in a charset, named in any case
abbrev pub text_in : List ℕ → List ℕ → Option (List ℕ)
text_in charset bytes = option_and_then as_text (in_utf8 (str_to_ascii_lowercase charset) bytes)

-- what follows the second apostrophe, which ends the language (RFC 2231, 4)
abbrev pub after_language : List ℕ → Option (List ℕ)
after_language value = option_and_then (following apostrophe) (following apostrophe value)

-- the bytes of a segment, if they can be read
abbrev pub segment_bytes : Segment → Option (List ℕ)
segment_bytes (Plain value) = Some value
segment_bytes (Encoded value) = percent_decoded value

-- the bytes of segments one after another, if all can be read
abbrev pub joined : List Segment → Option (List ℕ)
joined [] = Some []
joined (segment ∷ others) = option_and_then (λ front. option_map (λ back. front ++ back) (joined others)) (segment_bytes segment)

-- the text of segments: an encoded first one begins with a charset and a language, each with an apostrophe after it, and says
-- the charset of all (RFC 2231, 4.1); after a plain first one the bytes are UTF-8 (own)
abbrev pub segments_text : List Segment → Option (List ℕ)
segments_text [] = None
segments_text (Plain value ∷ others) = option_and_then as_text (joined (Plain value ∷ others))
segments_text (Encoded value ∷ others) =
    option_and_then (λ text. option_and_then (text_in (before apostrophe value)) (joined (Encoded text ∷ others))) (after_language value)

-- the text of a value with a charset: it is the only segment (RFC 2231, 4)
abbrev pub extended_text : List ℕ → Option (List ℕ)
extended_text value = segments_text (Encoded value ∷ [])
