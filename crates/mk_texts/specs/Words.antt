-- Rules for texts as words of the command line (own, after sed).
use Rattle.std.specs.Prelude.{◌==◌, ◌&&◌, ◌++◌, if◌then◌else◌, ℕ, Bool, true, false, not, Option, None, Some, List, [], ◌∷◌}
use Rattle.std.specs.Option.{option_and_then, option_map, option_map_or}
use Rattle.std.specs.Str.{is_utf8}
use Rattle.mk_line.specs.Ascii.{backslash, colon, slash}
use Rattle.mk_line.specs.Kinds.{is_name}
use Rattle.mk_line.specs.Lines.{is_nil}
use Rattle.mk_mail.specs.Prepended.{is_one_line}
use Rattle.mk_script.specs.Paths.{parted}
use Rattle.mk_texts.specs.Texts.{PlainReplacement}

-- b'g'
abbrev pub small_g : ℕ
small_g = 103

-- b'i'
abbrev pub small_i : ℕ
small_i = 105

-- b's'
abbrev pub small_s : ℕ
small_s = 115

-- b'~'
abbrev pub tilde : ℕ
tilde = 126

-- what follows a tilde
abbrev pub after_tilde : List ℕ → Option (List ℕ)
after_tilde [] = None
after_tilde (byte ∷ bytes) = if byte == tilde then Some bytes else None

-- `NAME:~PATTERN`: the name and the pattern
abbrev pub drop_asked : List ℕ → Option (List ℕ × List ℕ)
drop_asked word = option_and_then (λ p. option_map (λ pattern. (p.0, pattern)) (after_tilde p.1)) (parted colon word)

-- what follows `s/`
abbrev pub after_s : List ℕ → Option (List ℕ)
after_s [] = None
after_s (byte ∷ []) = None
after_s (byte ∷ next ∷ bytes) = if byte == small_s && next == slash then Some bytes else None

-- bytes put before the first of two texts
abbrev pub with_front : List ℕ → Option (List ℕ × List ℕ) → Option (List ℕ × List ℕ)
with_front front parts = option_map (λ p. (front ++ p.0, p.1)) parts

-- a byte after a backslash: the backslash stays before any but a slash
abbrev pub escaped_bytes : ℕ → List ℕ
escaped_bytes byte = if byte == slash then slash ∷ [] else backslash ∷ byte ∷ []

-- what stands before the first slash that no backslash escapes, and what follows it; whether a backslash stands before
abbrev pub part_from : Bool → List ℕ → Option (List ℕ × List ℕ)
part_from escaped [] = None
part_from true (byte ∷ bytes) = with_front (escaped_bytes byte) (part_from false bytes)
part_from false (byte ∷ bytes) =
    if byte == slash then Some ([], bytes) else (if byte == backslash then part_from true bytes else with_front (byte ∷ []) (part_from false bytes))

-- a part of a word and what follows its slash
abbrev pub first_part : List ℕ → Option (List ℕ × List ℕ)
first_part text = part_from false text

-- the flags at the end: `g` for each match, `i` for letters in any case
pub record PlainFlags : Type 0 where
  pub each : Bool
  pub any_case : Bool

-- flags after others: each at most once, and nothing else
abbrev pub flags_from : Bool → Bool → List ℕ → Option PlainFlags
flags_from each any_case [] = Some (record { each = each; any_case = any_case })
flags_from each any_case (byte ∷ bytes) =
    if byte == small_g && not each then flags_from true any_case bytes
    else (if byte == small_i && not any_case then flags_from each true bytes else None)

-- the flags of a word
abbrev pub flags_of : List ℕ → Option PlainFlags
flags_of text = flags_from false false text

-- a text in the place of what a pattern matches
pub record PlainSub : Type 0 where
  pub name : List ℕ
  pub pattern : List ℕ
  pub replacement : List ℕ
  pub each : Bool
  pub any_case : Bool

-- that of these texts and flags; the pattern isn't empty
abbrev pub sub_with : List ℕ → List ℕ → List ℕ → Option PlainFlags → Option PlainSub
sub_with name pattern replacement flags =
    if is_nil pattern then None
    else option_map (λ f. record { name = name; pattern = pattern; replacement = replacement; each = f.each; any_case = f.any_case }) flags

-- that of a name and of what follows `s/`
abbrev pub sub_after : List ℕ → List ℕ → Option PlainSub
sub_after name body = option_and_then (λ old. option_and_then (λ new. sub_with name old.0 new.0 (flags_of new.1)) (first_part old.1)) (first_part body)

-- `NAME:s/OLD/NEW/[g][i]`
abbrev pub sub_asked : List ℕ → Option PlainSub
sub_asked word = option_and_then (λ p. option_and_then (sub_after p.0) (after_s p.1)) (parted colon word)

-- a rule that is asked for
pub record PlainAsked : Type 0 where
  pub name : List ℕ
  pub pattern : List ℕ
  pub any_case : Bool
  pub put : Option PlainReplacement

-- fields that go where a pattern matches
abbrev pub asked_by_drop : List ℕ × List ℕ → PlainAsked
asked_by_drop p = record { name = p.0; pattern = p.1; any_case = false; put = None }

-- fields that get another text
abbrev pub asked_by_sub : PlainSub → PlainAsked
asked_by_sub s = record { name = s.name; pattern = s.pattern; any_case = s.any_case; put = Some (record { text = s.replacement; each = s.each }) }

-- its name is valid, and its replacement one line
abbrev pub has_form : PlainAsked → Bool
has_form a = is_name a.name && option_map_or (λ p. is_one_line p.text) a.put true

-- a rule that may be asked for: its pattern is UTF-8, too
abbrev pub may_be_asked : PlainAsked → Bool
may_be_asked a = is_utf8 a.pattern && has_form a

-- a rule that is asked for, where it may be
abbrev pub if_may_be : Option PlainAsked → Option PlainAsked
if_may_be asked = option_and_then (λ a. if may_be_asked a then Some a else None) asked

-- the rule that a word of `--drop` asks for
abbrev pub drop_form : List ℕ → Option PlainAsked
drop_form word = if_may_be (option_map asked_by_drop (drop_asked word))

-- the rule that a word of `--sub` asks for
abbrev pub sub_form : List ℕ → Option PlainAsked
sub_form word = if_may_be (option_map asked_by_sub (sub_asked word))
