-- What parameters say is a text in UTF-8.
use Rattle.std.proofs.Common.{◌≡◌, ◌∷◌, ℕ, Bool, true, false, List, [], None, Some, refl, subst, length, if◌then◌else◌}
use Rattle.std.specs.Prelude.{Option, option_and_then}
use Rattle.std.specs.Option.{option_or}
use Rattle.std.specs.Str.{IsUtf8, is_utf8, str_to_ascii_lowercase}
use Rattle.std.proofs.lemmas.Str.{IsUtf8-from_is_utf8}
use Rattle.mk_line.specs.Parting.{before}
use Rattle.mk_head.specs.Values.{param_of}
use Rattle.mk_code.specs.EncodedWords.{in_utf8, words_decoded, as_text}
use Rattle.mk_param.specs.Percents.{apostrophe}
use Rattle.mk_param.specs.Segments.{Segment, Plain, Encoded, encoded_name, segments_from}
use Rattle.mk_param.specs.Extended.{after_language, extended_text, joined, segments_text, text_in}
use Rattle.mk_param.specs.Said.{plain_text, said_text}

-- each text that may come out is UTF-8
abbrev Says : Option (List ℕ) → Type 0
Says found = (t : List ℕ) → found ≡ Some t → IsUtf8 t

when_utf8 : (b : Bool) (bytes : List ℕ) → is_utf8 bytes ≡ b → Says (if b then Some bytes else None)
when_utf8 true bytes e t h = let same : bytes ≡ t = cc in subst IsUtf8 same (IsUtf8-from_is_utf8 bytes e)
when_utf8 false bytes e t h = absurd cc

as_text_utf8 : (bytes : List ℕ) → Says (as_text bytes)
as_text_utf8 bytes = when_utf8 (is_utf8 bytes) bytes refl

and_then_utf8 : (f : List ℕ → Option (List ℕ)) → ((x : List ℕ) → Says (f x)) → (found : Option (List ℕ)) → Says (option_and_then f found)
and_then_utf8 f each None t h = absurd cc
and_then_utf8 f each (Some x) t h = each x t h

pub or_utf8 : (one other : Option (List ℕ)) → ((t : List ℕ) → one ≡ Some t → IsUtf8 t) → ((t : List ℕ) → other ≡ Some t → IsUtf8 t) → (t : List ℕ) → option_or one other ≡ Some t → IsUtf8 t
or_utf8 None other first second t h = second t h
or_utf8 (Some x) other first second t h = first t h

text_in_utf8 : (charset bytes : List ℕ) → Says (text_in charset bytes)
text_in_utf8 charset bytes = and_then_utf8 as_text as_text_utf8 (in_utf8 (str_to_ascii_lowercase charset) bytes)

segments_utf8 : (segments : List Segment) → Says (segments_text segments)
segments_utf8 [] t h = absurd cc
segments_utf8 (Plain value ∷ others) t h = and_then_utf8 as_text as_text_utf8 (joined (Plain value ∷ others)) t h
segments_utf8 (Encoded value ∷ others) t h =
    and_then_utf8 (λ text. option_and_then (text_in (before apostrophe value)) (joined (Encoded text ∷ others)))
    (λ text. and_then_utf8 (text_in (before apostrophe value)) (text_in_utf8 (before apostrophe value)) (joined (Encoded text ∷ others))) (after_language value) t h

pub said_utf8 : (name : List ℕ) (params : List (List ℕ × List ℕ)) (t : List ℕ) → said_text name params ≡ Some t → IsUtf8 t
unfolding said_text
said_utf8 name params =
    let look = λ (asked : List ℕ). param_of asked params in
    or_utf8 (option_and_then extended_text (look (encoded_name name))) (option_or (segments_text (segments_from look name 0 (length params))) (option_and_then plain_text (look name)))
    (and_then_utf8 extended_text (λ value. segments_utf8 (Encoded value ∷ [])) (look (encoded_name name)))
    (or_utf8 (segments_text (segments_from look name 0 (length params))) (option_and_then plain_text (look name)) (segments_utf8 (segments_from look name 0 (length params)))
    (and_then_utf8 plain_text (λ value. as_text_utf8 (words_decoded value)) (look name)))
