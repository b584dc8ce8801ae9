-- Comments of structured values as encoded words (RFC 5322, 3.2.2; RFC 2047, 5; which need them is own).
use Rattle.std.specs.Prelude.{◌==◌, ◌&&◌, ◌||◌, ◌++◌, if◌then◌else◌, ℕ, Bool, true, false, Option, None, Some, List, [], ◌∷◌, codes, drop, nat_lt, take}
use Rattle.std.specs.List.{list_all, prefix_len}
use Rattle.std.specs.Option.{option_map}
use Rattle.mk_line.specs.declared.cutting.Ending.{Ending}
use Rattle.mk_line.specs.Ascii.{backslash, quote, space}
use Rattle.mk_line.specs.Marks.{trimmed}
use Rattle.mk_head.specs.Values.{Scan, Plain, Quoted, QuotedEscaped, Comment, CommentEscaped, is_plain, scan}
use Rattle.mk_code.specs.EncodedWords.{words_encoded}
use Rattle.mk_mail.specs.Prepended.{is_break, is_white, needs_words}
use Rattle.mk_wording.specs.Scanned.{is_one_of}
use Rattle.mk_wording.specs.declared.stretches.Outside.{Outside}
use Rattle.mk_wording.specs.declared.stretches.Outside.TheVariants.{Names, Ascii}

-- bytes outside comments, and the comment after them, if there is one: its parenthesis, what it holds, and its closing one, if it has one
pub record Stretch : Type 0 where
  pub outside : List ℕ
  pub begin : List ℕ
  pub inside : List ℕ
  pub end : List ℕ

-- a byte before the first stretch, outside its comment
abbrev pub push_outside : ℕ → List Stretch → List Stretch
push_outside byte [] = record { outside = byte ∷ []; begin = []; inside = []; end = [] } ∷ []
push_outside byte (s ∷ ss) = record { outside = byte ∷ s.outside; begin = s.begin; inside = s.inside; end = s.end } ∷ ss

-- a byte before what the first comment holds
abbrev pub push_inside : ℕ → List Stretch → List Stretch
push_inside byte [] = record { outside = []; begin = []; inside = byte ∷ []; end = [] } ∷ []
push_inside byte (s ∷ ss) = record { outside = s.outside; begin = s.begin; inside = byte ∷ s.inside; end = s.end } ∷ ss

-- a parenthesis that begins the first comment
abbrev pub begin_comment : ℕ → List Stretch → List Stretch
begin_comment byte [] = record { outside = []; begin = byte ∷ []; inside = []; end = [] } ∷ []
begin_comment byte (s ∷ ss) = record { outside = []; begin = byte ∷ []; inside = s.inside; end = s.end } ∷ ss

-- inside a comment
abbrev pub is_in_comment : Scan → Bool
is_in_comment Plain = false
is_in_comment Quoted = false
is_in_comment QuotedEscaped = false
is_in_comment (Comment depth) = true
is_in_comment (CommentEscaped depth) = true

-- what begins a comment
abbrev pub parenthesis : List ℕ
parenthesis = codes "("

-- a text as stretches; a comment in a comment is part of what the outer one holds
abbrev pub stretches : Scan → List ℕ → List Stretch
stretches s [] = record { outside = []; begin = []; inside = []; end = [] } ∷ []
stretches s (byte ∷ bytes) =
    if is_in_comment s then
    (if is_plain (scan s byte) then record { outside = []; begin = []; inside = []; end = byte ∷ [] } ∷ stretches Plain bytes
    else push_inside byte (stretches (scan s byte) bytes))
    else
    (if is_plain s && is_one_of parenthesis byte then begin_comment byte (stretches (Comment 0) bytes) else push_outside byte (stretches (scan s byte) bytes))

-- what a name says: without quotes and folds, and each backslash replaced by the byte after it
abbrev pub name_said : Bool → List ℕ → List ℕ
name_said escaped [] = []
name_said true (byte ∷ bytes) = byte ∷ name_said false bytes
name_said false (byte ∷ bytes) =
    if byte == backslash then name_said true bytes else (if byte == quote || is_break byte then name_said false bytes else byte ∷ name_said false bytes)

-- what a comment says: the same, but quotes are its own
abbrev pub comment_said : Bool → List ℕ → List ℕ
comment_said escaped [] = []
comment_said true (byte ∷ bytes) = byte ∷ comment_said false bytes
comment_said false (byte ∷ bytes) =
    if byte == backslash then comment_said true bytes else (if is_break byte then comment_said false bytes else byte ∷ comment_said false bytes)

-- without the white space before it
abbrev pub unindented : List ℕ → List ℕ
unindented text = drop (prefix_len is_white text) text

-- that white space
abbrev pub indent : List ℕ → List ℕ
indent text = take (prefix_len is_white text) text

-- the text of a name between the white space before it and the blanks after it
abbrev pub name_words : List ℕ → List ℕ
name_words name = name_said false (trimmed (unindented name))

-- a name in encoded words after its white space and before a space, where it needs them
abbrev pub worded_name : Ending → List ℕ → List ℕ
worded_name eol name = if needs_words (name_words name) then indent name ++ (words_encoded eol (name_words name) ++ space ∷ []) else name

-- what a comment holds, in encoded words, where it needs them
abbrev pub worded_comment : Ending → List ℕ → List ℕ
worded_comment eol inside = if needs_words (comment_said false inside) then words_encoded eol (comment_said false inside) else inside

-- bytes of ASCII
abbrev pub are_ascii : List ℕ → Bool
are_ascii bytes = list_all (λ byte. nat_lt byte 128) bytes

-- bytes outside comments: a name, or what has to be ASCII
abbrev pub worded_outside : Outside → Ending → List ℕ → Option (List ℕ)
worded_outside Names eol bytes = Some (worded_name eol bytes)
worded_outside Ascii eol bytes = if are_ascii bytes then Some bytes else None

-- a part, and bytes after it, before others, where there are all
abbrev pub part_before : List ℕ → Option (List ℕ) → Option (List ℕ) → Option (List ℕ)
part_before bytes None others = None
part_before bytes (Some part) others = option_map (λ more. part ++ (bytes ++ more)) others

-- the comment of a stretch, in encoded words, where it needs them
abbrev pub comment_of : Ending → Stretch → List ℕ
comment_of eol s = s.begin ++ (worded_comment eol s.inside ++ s.end)

-- stretches in encoded words
abbrev pub worded_stretches : Outside → Ending → List Stretch → Option (List ℕ)
worded_stretches which eol [] = Some []
worded_stretches which eol (s ∷ ss) = part_before (comment_of eol s) (worded_outside which eol s.outside) (worded_stretches which eol ss)

-- a text in encoded words, where it needs them: its names and comments, or its comments alone
abbrev pub worded_text : Outside → Ending → List ℕ → Option (List ℕ)
worded_text which eol text = worded_stretches which eol (stretches Plain text)
