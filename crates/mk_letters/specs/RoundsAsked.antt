-- Letters and rules of a command line in rounds (own).
use Rattle.std.specs.Prelude.{◌≡◌, ◌++◌, if◌then◌else◌, ℕ, Bool, true, false, Option, None, Some, List, [], ◌∷◌, is_some, unwrap_or}
use Rattle.std.specs.Option.{option_map_or}
use Rattle.mk_line.specs.declared.cutting.Ending.{Ending}
use Rattle.mk_line.specs.declared.cutting.Ending.TheVariants.{Crlf, Lf}
use Rattle.mk_mail.specs.LetterViews.{letters_of}
use Rattle.mk_mail.specs.Letters.{PlainLetters}
use Rattle.mk_mail.specs.Rounds.{ByLetters, ByRule, PlainRound}
use Rattle.mk_texts.specs.TextViews.{rule_of}
use Rattle.mk_texts.specs.Words.{PlainAsked, drop_asked, drop_form, sub_form}
use Rattle.mk_texts.specs.WordViews.{IsAsked, IsFaultIn}
use Rattle.mk_texts.specs.declared.words.RuleFault.{RuleFault}
use Rattle.mk_letters.specs.Asked.{PlainWords, have_colons, letters_asked, words_of}
use Rattle.mk_letters.specs.FieldForms.{words_in_form}
use Rattle.mk_letters.specs.declared.words.RoundLetters.{RoundLetters}
use Rattle.mk_letters.specs.declared.words.RoundLetters.TheVariants.{Letters as OfLetters, Rule as OfRule}
use Rattle.mk_letters.specs.declared.words.RoundWords.{RoundWords}
use Rattle.mk_letters.specs.declared.words.RoundWords.TheVariants.{Letters as InLetters, Rule as InRule}
use Rattle.mk_letters.specs.declared.words.RuleKind.{RuleKind}
use Rattle.mk_letters.specs.declared.words.RuleKind.TheVariants.{Substitution, Removal}
use Rattle.mk_letters.specs.declared.forms.FieldForm.{FieldForm}
use Rattle.mk_letters.specs.declared.words.Letter.{Letter}
use Rattle.mk_letters.specs.declared.words.Letter.TheVariants.{Prepend, Drops, Keeps, KeepsOnly, Rename, AddIf, Add, Prefixed, Only, First, Last, Take, Whole, Sub}
use Rattle.mk_letters.specs.declared.words.LetterWord.{LetterWord}

-- a letter, and the word after it
pub record PlainWord : Type 0 where
  pub letter : Letter
  pub word : List ℕ

-- a word as it is
abbrev pub word_of : LetterWord → PlainWord
word_of w = record { letter = w.letter; word = w.word.now }

-- no words
abbrev pub no_words : PlainWords
no_words = record { prepend = None; drops = []; keeps = []; keep_only = false; rename = None; add_if = None; add = None; prefixed = None; only = None; first = None; last = None; take = None; whole = None }

-- the rule that a letter and its word are: `--sub` is one, and so is `--drop` of a pattern
abbrev pub kind_of_rule : Letter → List ℕ → Option RuleKind
kind_of_rule Sub word = Some Substitution
kind_of_rule Drops word = if is_some (drop_asked word) then Some Removal else None
kind_of_rule other word = None

-- the same for a letter with its word
abbrev pub rule_kind : PlainWord → Option RuleKind
rule_kind x = kind_of_rule x.letter x.word

-- whether a round has its one word of a letter; it may have any number of `--drop`, `--keep` and `--keep-only`
abbrev pub is_given : Letter → PlainWords → Bool
is_given Prepend w = is_some w.prepend
is_given Drops w = false
is_given Keeps w = false
is_given KeepsOnly w = false
is_given Rename w = is_some w.rename
is_given AddIf w = is_some w.add_if
is_given Add w = is_some w.add
is_given Prefixed w = is_some w.prefixed
is_given Only w = is_some w.only
is_given First w = is_some w.first
is_given Last w = is_some w.last
is_given Take w = is_some w.take
is_given Whole w = is_some w.whole
is_given Sub w = false

-- the words of a round, and this one of a letter
abbrev pub with_letter : Letter → List ℕ → PlainWords → PlainWords
with_letter Prepend word w = record w { prepend = Some word }
with_letter Drops word w = record w { drops = w.drops ++ word ∷ [] }
with_letter Keeps word w = record w { keeps = w.keeps ++ word ∷ [] }
with_letter KeepsOnly word w = record w { keeps = w.keeps ++ word ∷ []; keep_only = true }
with_letter Rename word w = record w { rename = Some word }
with_letter AddIf word w = record w { add_if = Some word }
with_letter Add word w = record w { add = Some word }
with_letter Prefixed word w = record w { prefixed = Some word }
with_letter Only word w = record w { only = Some word }
with_letter First word w = record w { first = Some word }
with_letter Last word w = record w { last = Some word }
with_letter Take word w = record w { take = Some word }
with_letter Whole word w = record w { whole = Some word }
with_letter Sub word w = w

-- the words of a round, and this one
abbrev pub with_word : PlainWord → PlainWords → PlainWords
with_word x w = with_letter x.letter x.word w

-- the words of a round: those of letters, or the one word of a rule
pub data PlainRoundWords : Type 0 where
  LetterRound : (words : PlainWords) → PlainRoundWords
  RuleRound : (kind : RuleKind) (word : List ℕ) → PlainRoundWords

-- the words of a round as they are
abbrev pub round_words : RoundWords → PlainRoundWords
round_words (InLetters w) = LetterRound (words_of w)
round_words (InRule kind word) = RuleRound kind word.now

-- the round of letters that has begun, where one has
abbrev pub round_begun : Option PlainWords → List PlainRoundWords
round_begun None = []
round_begun (Some w) = LetterRound w ∷ []

-- its words so far
abbrev pub words_begun : Option PlainWords → PlainWords
words_begun o = unwrap_or o no_words

-- rounds, where one of letters may have begun: a rule is a round by itself, and a letter that the round has already begins another
abbrev pub rounds_from : Option PlainWords → List PlainWord → List PlainRoundWords
rounds_from o [] = round_begun o
rounds_from o (x ∷ xs) =
    option_map_or (λ kind. round_begun o ++ RuleRound kind x.word ∷ rounds_from None xs) (rule_kind x)
    (if is_given x.letter (words_begun o) then round_begun o ++ rounds_from (Some (with_word x no_words)) xs else rounds_from (Some (with_word x (words_begun o))) xs)

-- the rounds of words in their order
abbrev pub rounds_given : List PlainWord → List PlainRoundWords
rounds_given xs = rounds_from None xs

-- the letters that words ask for, their fields in a form
abbrev pub letters_in : FieldForm → Ending → PlainWords → PlainLetters
letters_in form eol w = letters_asked (words_in_form form eol w)

-- the letters, where all names have their colons
abbrev pub letters_if : FieldForm → Ending → PlainWords → Option PlainLetters
letters_if form eol w = if have_colons w then Some (letters_in form eol w) else None

-- letters are those that words ask for, for both endings; all names have their colons
pub record AreLettersAsked (form : FieldForm) (w : PlainWords) (lf crlf : PlainLetters) : Type 0 where
  pub colons : have_colons w ≡ true
  pub lf_is : lf ≡ letters_in form Lf w
  pub crlf_is : crlf ≡ letters_in form Crlf w

-- what was made of the words of letters is what they ask for
abbrev pub AreRoundLetters : FieldForm → PlainWords → RoundLetters → Type 0
AreRoundLetters form w (OfLetters lf crlf) = AreLettersAsked form w (letters_of lf) (letters_of crlf)
AreRoundLetters form w (OfRule rule) = ⊥

-- the rule that a word asks for by its kind
abbrev pub rule_form : RuleKind → List ℕ → Option PlainAsked
rule_form Substitution word = sub_form word
rule_form Removal word = drop_form word

-- what was made of the word of a rule is that rule
abbrev pub IsRoundRule : RuleKind → List ℕ → RoundLetters → Type 0
IsRoundRule kind word (OfLetters lf crlf) = ⊥
IsRoundRule kind word (OfRule rule) = IsAsked (rule_form kind word) rule

-- what was made of the words of a round is what they ask for
abbrev pub IsRoundAsked : FieldForm → RoundWords → RoundLetters → Type 0
IsRoundAsked form (InLetters w) letters = AreRoundLetters form (words_of w) letters
IsRoundAsked form (InRule kind word) letters = IsRoundRule kind word.now letters

-- the words of a round ask for none: a name has no colon after it, or a rule is refused
abbrev pub IsInvalidRound : RoundWords → Type 0
IsInvalidRound (InLetters w) = have_colons (words_of w) ≡ false
IsInvalidRound (InRule kind word) = (fault : RuleFault) × IsFaultIn (rule_form kind word.now) fault

-- the letters or the rule of a round as they are
abbrev pub round_letters : RoundLetters → PlainRound
round_letters (OfLetters lf crlf) = ByLetters (letters_of lf) (letters_of crlf)
round_letters (OfRule rule) = ByRule (rule_of rule)
