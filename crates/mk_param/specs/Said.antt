-- What the parameters of a name say as text (RFC 2231; RFC 2047 in a plain value, which mailers write, is own).
use Rattle.std.specs.Prelude.{ℕ, List, length, Option, option_and_then}
use Rattle.std.specs.Option.{option_or}
use Rattle.mk_head.specs.Values.{param_of}
use Rattle.mk_code.specs.EncodedWords.{as_text, words_decoded}
use Rattle.mk_param.specs.Segments.{encoded_name, segments_from}
use Rattle.mk_param.specs.Extended.{extended_text, segments_text}

-- the text of a plain value, with its encoded words decoded
abbrev pub plain_text : List ℕ → Option (List ℕ)
plain_text value = as_text (words_decoded value)

-- the first of three that can be read: the encoded value, the segments, of which there are at most so many, the plain value
abbrev pub text_by_lookup : (List ℕ → Option (List ℕ)) → ℕ → List ℕ → Option (List ℕ)
text_by_lookup look most name =
    option_or (option_and_then extended_text (look (encoded_name name)))
    (option_or (segments_text (segments_from look name 0 most))
    (option_and_then plain_text (look name)))

-- the text that parameters say for a name in lower case
unfoldable pub said_text : List ℕ → List (List ℕ × List ℕ) → Option (List ℕ)
said_text name params = text_by_lookup (λ asked. param_of asked params) (length params) name
