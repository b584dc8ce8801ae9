-- Fields that say other texts, by the parts of those that they replace.
use Rattle.std.proofs.Common.{◌≡◌, ◌&&◌, ◌∙◌, ℕ, Bool, List, Some, ap, false, if◌then◌else◌, refl, sym, true}
use Rattle.std.specs.Option.{option_map_or}
use Rattle.mk_line.specs.declared.cutting.Ending.{Ending}
use Rattle.mk_line.specs.Ascii.{colon}
use Rattle.mk_line.specs.Marks.{trimmed}
use Rattle.mk_mail.specs.Rules.{Stays}
use Rattle.mk_script.specs.Paths.{parted}
use Rattle.mk_wording.specs.Stretches.{are_ascii}
use Rattle.mk_wording.specs.Wording.{worded_field}
use Rattle.mk_wording.specs.declared.names.FieldKind.{FieldKind}
use Rattle.mk_texts.specs.Texts.{PlainTextRule, field_written, plain_field, reads_words, text_change, value_change}

-- a field that isn't ASCII
pub raw_stays : (eol : Ending) (raw : List ℕ) (kind : FieldKind) (name value text : List ℕ) (b : Bool) → b ≡ are_ascii raw → b ≡ false → plain_field name text ≡ field_written eol raw kind name value text
raw_stays eol raw kind name value text b e h = rw (sym e ∙ h) refl

-- one whose encoded words aren't read
pub words_stay : (eol : Ending) (raw : List ℕ) (k kind : FieldKind) (name value text : List ℕ) (b : Bool) → k ≡ kind → b ≡ reads_words k value → b ≡ false → plain_field name text ≡ field_written eol raw kind name value text
words_stay eol raw k kind name value text b y e h = rw (ap (λ x. reads_words x value) (sym y) ∙ (sym e ∙ h)) (unread (are_ascii raw))
  where
    unread : (a : Bool) → plain_field name text ≡ (if a && false then worded_field eol (plain_field name text) else plain_field name text)
    unread true = refl
    unread false = refl

-- what becomes of a field by its name and value
pub changed : (r : PlainTextRule) (eol : Ending) (raw name value n : List ℕ) → parted colon raw ≡ Some (name, value) → n ≡ trimmed name → value_change r eol raw n value ≡ text_change r eol raw
changed r eol raw name value n p a = (λ i. value_change r eol raw (a i) value) ∙ ap (λ o. option_map_or (λ q. value_change r eol raw (trimmed q.0) q.1) o Stays) (sym p)
