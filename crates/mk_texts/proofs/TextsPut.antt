-- Replacements of rules, and the templates that write them.
use Rattle.std.proofs.Common.{◌≡◌, ◌∙◌, ℕ, Bool, List, Option, None, Some, refl, ap, subst}
use Rattle.std.specs.Option.{option_map}
use Rattle.mk_head.specs.Values.{stripped}
use Rattle.mk_texts.specs.TextViews.{replacement_in}
use Rattle.mk_texts.specs.Texts.{PlainReplacement, PlainTextRule, put_places, text_put}
use Rattle.mk_texts.specs.declared.rules.Replacement.{Replacement}
use Rattle.mk_texts.specs.inner.ChangeViews.{IsTemplate}
use Rattle.regex.specs.Bytes.{IsReadFrom, IsWrittenBy}
use Rattle.regex.specs.Patterns.{Re}
use Rattle.regex.specs.Replace.{group_bytes, replaced_by}
use Rattle.regex.specs.Templates.{written_after}
use Rattle.regex.specs.declared.bytes.template.Template.{Template}

-- the template of a replacement that is there
pub template_given : (names groups : List (Option (List ℕ))) (o : Option Replacement) (p : Replacement) (text : List ℕ) (t : Template) → o ≡ Some p → names ≡ groups → text ≡ p.text.items → IsReadFrom names text t
    → IsTemplate groups (option_map replacement_in o) (Some t)
template_given names groups o p text t e n x h = rw e (subst (λ y. IsReadFrom groups y t) x (subst (λ g. IsReadFrom g text t) n h))

pub no_template : (groups : List (Option (List ℕ))) (o : Option Replacement) → o ≡ None → IsTemplate groups (option_map replacement_in o) None
no_template groups o e = rw e tt

-- where there is no template, there is no replacement
pub none_put : (groups : List (Option (List ℕ))) (o : Option PlainReplacement) (u : Option Template) (f : PlainReplacement → List ℕ) → u ≡ None → IsTemplate groups o u → None ≡ option_map f o
none_put groups None u f e h = refl
none_put groups (Some p) u f e h = absurd (rw e at h)

template_read : (groups : List (Option (List ℕ))) (o : Option Replacement) (p : Replacement) (u : Option Template) (t : Template) → o ≡ Some p → u ≡ Some t → IsTemplate groups (option_map replacement_in o) u → IsReadFrom groups p.text.items t
template_read groups o p u t e f h = rw f at (rw e at h)

written : (r : PlainTextRule) (p : PlainReplacement) (t : Template) (re : Re) (each : Bool) (text made : List ℕ) → re ≡ r.re → each ≡ p.each → IsReadFrom r.groups p.text t → IsWrittenBy t text (put_places re each text) made → stripped made ≡ text_put r p text
written r p t re each text made e f read w =
    ap stripped (w.read r.groups p.text read) ∙ (λ i. stripped (replaced_by (λ m. written_after r.groups (group_bytes text m) p.text 0) text 0 (put_places (e i) (f i) text)))

-- what a template writes
pub text_written : (r : PlainTextRule) (o : Option Replacement) (p : Replacement) (u : Option Template) (t : Template) (re : Re) (each : Bool) (text made out : List ℕ) → o ≡ Some p → u ≡ Some t → IsTemplate r.groups (option_map replacement_in o) u → re ≡ r.re
    → each ≡ p.each → IsWrittenBy t text (put_places re each text) made → out ≡ stripped made → Some out ≡ option_map (λ q. text_put r q text) (option_map replacement_in o)
text_written r o p u t re each text made out e f h x y w s =
    rw e (ap (λ b. Some b) (s ∙ written r (replacement_in p) t re each text made x y (template_read r.groups o p u t e f h) w))
