-- Rules for texts in memory, and the words that ask for them.
use Rattle.std.specs.Prelude.{◌≡◌, ◌≢◌, ℕ, Bool, false, Option, None, List, IsSomeAnd}
use Rattle.std.specs.Option.{option_map}
use Rattle.mk_texts.specs.TextViews.{replacement_in}
use Rattle.mk_texts.specs.Words.{PlainAsked}
use Rattle.mk_texts.specs.declared.rules.TextRule.{TextRule}
use Rattle.mk_texts.specs.declared.words.RuleFault.{RuleFault}
use Rattle.mk_texts.specs.declared.words.RuleFault.TheVariants.{Form, Pattern}
use Rattle.regex.specs.Bytes.{IsReadFromSource, regex_config, regex_source}
use Rattle.regex.specs.Patterns.{Config, default_config}
use Rattle.regex.specs.Sources.{IsRefusal}
use Rattle.regex.specs.declared.bytes.regex.Regex.{Regex}
use Rattle.regex.specs.declared.error.Error.{Error}
use Rattle.regex.specs.declared.error.Error.TheVariants.{OutOfMemory}

-- the options with which a pattern is read: letters match in any case or not, and it may match what isn't UTF-8
abbrev pub config_of : Bool → Config
config_of any_case = record default_config { flags = record default_config.flags { case_insensitive = any_case }; utf8 = false }

-- a compiled pattern is that of a text, with its letters in any case or not
pub record IsPatternOf (text : List ℕ) (any_case : Bool) (r : Regex) : Type 0 where
  pub source : regex_source r ≡ text
  pub config : regex_config r ≡ config_of any_case
  pub read : IsReadFromSource r

-- a text is refused as a pattern; memory running out is no refusal
abbrev pub IsPatternRefused : List ℕ → Bool → Error → Type 0
IsPatternRefused source any_case error = IsRefusal (config_of any_case) source error × (error ≢ OutOfMemory)

-- a rule is the one that was asked for
pub record IsReading (a : PlainAsked) (t : TextRule) : Type 0 where
  pub name : t.name.items ≡ a.name
  pub pattern : IsPatternOf a.pattern a.any_case t.pattern
  pub put : option_map replacement_in t.replacement ≡ a.put

-- the rule is what a word asks for
abbrev pub IsAsked : Option PlainAsked → TextRule → Type 0
IsAsked asked t = IsSomeAnd asked (λ a. IsReading a t)

-- the fault is that of a word: it asks for no rule, or its pattern is refused
abbrev pub IsFaultIn : Option PlainAsked → RuleFault → Type 0
IsFaultIn asked Form = asked ≡ None
IsFaultIn asked (Pattern error) = IsSomeAnd asked (λ a. IsPatternRefused a.pattern a.any_case error)
