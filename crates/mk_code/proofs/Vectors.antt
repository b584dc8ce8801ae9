-- What the definitions give on worked rows, each computed.
use Rattle.std.specs.Char.{encode_utf8}
use Rattle.std.proofs.Common.{◌≡◌, ◌++◌, ◌∷◌, [], length, refl, replicate, List, ℕ}
use Rattle.std.specs.Prelude.{codes}
use Rattle.base64.proofs.OnLiterals.{base64_on_literals}
use Rattle.mk_line.specs.declared.cutting.Ending.TheVariants.{Crlf, Lf}
use Rattle.mk_code.specs.Base64Text.{letters, lined, base64_encoded}
use Rattle.mk_code.specs.QuotedPrintable.{qp_decoded, qp_encoded}
use Rattle.mk_code.specs.Charsets.{iso_tables, other_tables}
use Rattle.mk_code.specs.EncodedWords.{words_decoded, words_encoded}

letters_found : letters (codes "aG\n!k=zz") ≡ codes "aGk"
letters_found = refl

base64_hi : base64_encoded Lf (codes "hi") ≡ codes "aGk="
unfolding base64_on_literals lined
base64_hi = refl

base64_nothing : base64_encoded Lf [] ≡ []
unfolding base64_on_literals lined
base64_nothing = refl

base64_full_line : base64_encoded Lf (replicate 57 0) ≡ replicate 76 65
unfolding base64_on_literals lined
base64_full_line = refl

base64_second_line : base64_encoded Lf (replicate 58 0) ≡ replicate 76 65 ++ codes "\nAA=="
unfolding base64_on_literals lined
base64_second_line = refl

qp_rows : qp_decoded (codes "=c3=A9 =\n =zz \n") ≡ 195 ∷ 169 ∷ 32 ∷ 32 ∷ 61 ∷ 122 ∷ 122 ∷ 10 ∷ []
qp_rows = refl

qp_equals : qp_encoded Lf (codes "a=b") ≡ codes "a=3Db"
qp_equals = refl

qp_hyphens : qp_encoded Lf (codes "-- \n") ≡ codes "=2D-=20\n"
qp_hyphens = refl

qp_full_line : qp_encoded Lf (replicate 76 97) ≡ replicate 76 97
qp_full_line = refl

qp_soft_break : qp_encoded Lf (replicate 77 97) ≡ replicate 75 97 ++ codes "=\naa"
qp_soft_break = refl

qp_tab : qp_encoded Lf (codes "x\t") ≡ codes "x=09"
qp_tab = refl

qp_from : qp_encoded Lf (codes "From here") ≡ codes "=46rom here"
qp_from = refl

qp_crlf_as_bytes : qp_encoded Lf (codes "\r\n") ≡ codes "=0D\n"
qp_crlf_as_bytes = refl

qp_crlf_as_ending : qp_encoded Crlf (codes "\r\n") ≡ codes "\r\n"
qp_crlf_as_ending = refl

words_latin : words_decoded (codes "=?iso-8859-1?Q?caf=E9?= =?UTF-8?B?w6k=?= x") ≡ 99 ∷ 97 ∷ 102 ∷ 195 ∷ 169 ∷ 195 ∷ 169 ∷ 32 ∷ 120 ∷ []
unfolding base64_on_literals encode_utf8
words_latin = refl

words_unknown : words_decoded (codes "=?x?Q?a?= =?utf-8?Q?b?=") ≡ codes "=?x?Q?a?= b"
unfolding iso_tables other_tables
words_unknown = refl

words_bad_digits : words_decoded (codes "=?utf-8?Q?a=?=") ≡ codes "=?utf-8?Q?a=?="
words_bad_digits = refl

words_accent : words_encoded Lf (195 ∷ 169 ∷ []) ≡ codes "=?utf-8?B?w6k=?="
unfolding base64_on_literals
words_accent = refl

words_plain : words_encoded Lf (codes "a b") ≡ codes "a b"
words_plain = refl

-- 23 times a character of two bytes
accents : List ℕ
accents =
    195 ∷ 169 ∷ 195 ∷ 169 ∷ 195 ∷ 169 ∷ 195 ∷ 169 ∷ 195 ∷ 169 ∷ 195 ∷ 169 ∷ 195 ∷ 169 ∷ 195 ∷ 169 ∷ 195 ∷ 169 ∷ 195 ∷ 169 ∷ 195 ∷ 169
    ∷ 195 ∷ 169 ∷ 195 ∷ 169 ∷ 195 ∷ 169 ∷ 195 ∷ 169 ∷ 195 ∷ 169 ∷ 195 ∷ 169 ∷ 195 ∷ 169 ∷ 195 ∷ 169 ∷ 195 ∷ 169 ∷ 195 ∷ 169 ∷ 195 ∷ 169
    ∷ 195 ∷ 169 ∷ []

words_two_pieces : length (words_encoded Lf accents) ≡ 90
unfolding base64_on_literals accents
words_two_pieces = refl
