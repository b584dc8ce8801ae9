-- Values that the grammar has, read byte by byte.
use Rattle.std.proofs.Common.{◌≡◌, ◌==◌, ◌++◌, ℕ, suc, true, false, List, [], ◌∷◌, refl, ap, sym, ◌∙◌, append_assoc}
use Rattle.std.specs.List.{join_with_byte, onto_first}
use Rattle.mk_line.specs.Ascii.{backslash, closing, opening, quote, semicolon}
use Rattle.mk_head.specs.Values.{Scan, Plain, Quoted, Comment, out_of, scan, pieces, uncommented, unquoted}
use Rattle.mk_head.specs.Grammar.{IsComment, Ended, Bare, Escaped, Nested, IsQuoted, Closed, Plainly, Paired, IsValue, Nothing, Byte, Quotes, Remark, Semicolon}

-- a comment's text leaves the scan at the same depth
comment_left : (depth : ℕ) (text more : List ℕ) → IsComment text → uncommented (Comment depth) (text ++ more) ≡ uncommented (Comment depth) more
comment_left depth _ more Ended = refl
comment_left depth _ more (Bare byte text a b c h) = rw (c, a, b) (comment_left depth text more h)
comment_left depth _ more (Escaped byte text h) = comment_left depth text more h
comment_left depth _ more (Nested inner text h k) =
    ap (uncommented (Comment (suc depth))) (append_assoc inner (41 ∷ text) more)
    ∙ (comment_left (suc depth) inner (41 ∷ (text ++ more)) h
    ∙ comment_left depth text more k)

-- a quoted string is kept
quoted_left : (text bytes more : List ℕ) → IsQuoted text bytes → uncommented Quoted (text ++ more) ≡ text ++ uncommented Quoted more
quoted_left _ _ more Closed = refl
quoted_left _ _ more (Plainly byte text bytes a b h) = rw (b, a) (ap (λ xs. byte ∷ xs) (quoted_left text bytes more h))
quoted_left _ _ more (Paired byte text bytes h) = ap (λ xs. 92 ∷ byte ∷ xs) (quoted_left text bytes more h)

-- and in one piece
quoted_whole : (text bytes more piece : List ℕ) (others : List (List ℕ)) → IsQuoted text bytes → pieces Plain more ≡ piece ∷ others
    → pieces Quoted (text ++ 34 ∷ more) ≡ (text ++ 34 ∷ piece) ∷ others
quoted_whole _ _ more piece others Closed e = ap (onto_first 34) e
quoted_whole _ _ more piece others (Plainly byte text bytes a b h) e = rw (b, a) (ap (onto_first byte) (quoted_whole text bytes more piece others h e))
quoted_whole _ _ more piece others (Paired byte text bytes h) e = ap (λ ps. onto_first 92 (onto_first byte ps)) (quoted_whole text bytes more piece others h e)

-- bytes put before the first part stand before all
joined_more : (front piece : List ℕ) (others : List (List ℕ)) → join_with_byte 59 ((front ++ piece) ∷ others) ≡ front ++ join_with_byte 59 (piece ∷ others)
joined_more front piece [] = refl
joined_more front piece (next ∷ others) = append_assoc front piece (59 ∷ join_with_byte 59 (next ∷ others))

-- a value has a part
record HasPart (parts : List (List ℕ)) : Type 0 where
  piece : List ℕ
  others : List (List ℕ)
  are : parts ≡ piece ∷ others

has_part : (value : List ℕ) (parts : List (List ℕ)) → IsValue value parts → HasPart parts
has_part _ _ Nothing = record { piece = []; others = []; are = refl }
has_part _ _ (Byte byte text piece others a b c h) = record { piece = byte ∷ piece; others = others; are = refl }
has_part _ _ (Quotes inside bytes text piece others h k) = record { piece = 34 ∷ (inside ++ 34 ∷ piece); others = others; are = refl }
has_part _ _ (Remark inside text parts h k) = has_part text parts k
has_part _ _ (Semicolon text parts h) = record { piece = []; others = parts; are = refl }

bare_read : (value : List ℕ) (parts : List (List ℕ)) → IsValue value parts → uncommented Plain value ≡ join_with_byte 59 parts
bare_read _ _ Nothing = refl
bare_read _ _ (Byte byte text piece others a b c h) =
    rw (a, b) (ap (λ xs. byte ∷ xs) (bare_read text (piece ∷ others) h) ∙ sym (joined_more (byte ∷ []) piece others))
bare_read _ _ (Quotes inside bytes text piece others h k) =
    ap (λ xs. 34 ∷ xs) (quoted_left inside bytes (34 ∷ text) h ∙ ap (λ xs. inside ++ 34 ∷ xs) (bare_read text (piece ∷ others) k))
    ∙ (sym (append_assoc (34 ∷ inside) (34 ∷ []) (join_with_byte 59 (piece ∷ others)))
    ∙ (sym (joined_more ((34 ∷ inside) ++ 34 ∷ []) piece others)
    ∙ ap (λ p. join_with_byte 59 (p ∷ others)) (append_assoc (34 ∷ inside) (34 ∷ []) piece)))
bare_read _ _ (Remark inside text parts h k) = comment_left 0 inside (41 ∷ text) h ∙ bare_read text parts k
bare_read _ _ (Semicolon text parts h) =
    let p = has_part text parts h in
    ap (λ xs. 59 ∷ xs) (bare_read text parts h) ∙ (ap (λ ps. 59 ∷ join_with_byte 59 ps) p.are ∙ ap (λ ps. join_with_byte 59 ([] ∷ ps)) (sym p.are))

byte_parted : (byte : ℕ) (bytes piece : List ℕ) (others : List (List ℕ)) → (byte == 34) ≡ false → (byte == 40) ≡ false → (byte == 59) ≡ false
    → pieces Plain bytes ≡ piece ∷ others → pieces Plain (byte ∷ bytes) ≡ (byte ∷ piece) ∷ others
byte_parted byte bytes piece others a b c e = rw (a, b, c) (ap (onto_first byte) e)

parts_read : (value : List ℕ) (parts : List (List ℕ)) → IsValue value parts → pieces Plain (uncommented Plain value) ≡ parts
parts_read _ _ Nothing = refl
parts_read _ _ (Byte byte text piece others a b c h) =
    let kept : uncommented Plain (byte ∷ text) ≡ byte ∷ uncommented Plain text = rw (a, b) refl in
    ap (pieces Plain) kept ∙ byte_parted byte (uncommented Plain text) piece others a b c (parts_read text (piece ∷ others) h)
parts_read _ _ (Quotes inside bytes text piece others h k) =
    ap (λ xs. pieces Plain (34 ∷ xs)) (quoted_left inside bytes (34 ∷ text) h)
    ∙ ap (onto_first 34) (quoted_whole inside bytes (uncommented Plain text) piece others h (parts_read text (piece ∷ others) k))
parts_read _ _ (Remark inside text parts h k) = ap (pieces Plain) (comment_left 0 inside (41 ∷ text) h) ∙ parts_read text parts k
parts_read _ _ (Semicolon text parts h) = ap (λ ps. [] ∷ ps) (parts_read text parts h)

pub values_read : (value : List ℕ) (parts : List (List ℕ)) → IsValue value parts → (uncommented Plain value ≡ join_with_byte 59 parts) × (pieces Plain (uncommented Plain value) ≡ parts)
values_read value parts h = (bare_read value parts h, parts_read value parts h)

pub quoted_read : (text bytes more : List ℕ) → IsQuoted text bytes → unquoted false (text ++ 34 ∷ more) ≡ bytes
quoted_read _ _ more Closed = refl
quoted_read _ _ more (Plainly byte text bytes a b h) = rw (a, b) (ap (λ xs. byte ∷ xs) (quoted_read text bytes more h))
quoted_read _ _ more (Paired byte text bytes h) = ap (λ xs. byte ∷ xs) (quoted_read text bytes more h)
