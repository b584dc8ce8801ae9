-- The edits of a rule, field by field.
use Rattle.std.proofs.Common.{◌≡◌, ◌++◌, ℕ, false, List, [], ◌∷◌, Option, None, Some, refl, ap, sym, ◌∙◌}
use Rattle.std.specs.List.{list_any}
use Rattle.std.proofs.lemmas.Bool.{or_parts}
use Rattle.mk_line.specs.declared.cutting.Ending.{Ending}
use Rattle.mk_head.specs.Fields.{FieldText, is_named}
use Rattle.mk_decide.specs.Edits.{PlainEdit}
use Rattle.mk_mail.specs.Rules.{FieldRule, rule_edits}

-- a rule of which no field has the name
pub none_changed : (path : List ℕ) (eol : Ending) (r : FieldRule) (k : ℕ) (fs : List FieldText) → list_any (is_named r.name) fs ≡ false → rule_edits path eol r (Some k) fs ≡ []
none_changed path eol r k [] h = refl
none_changed path eol r k (f ∷ fs) h = let t = or_parts (is_named r.name f) (list_any (is_named r.name) fs) h in rw t.0 (none_changed path eol r k fs t.1)

no_more : (path : List ℕ) (eol : Ending) (r : FieldRule) (fs : List FieldText) → rule_edits path eol r None fs ≡ []
no_more path eol r [] = refl
no_more path eol r (f ∷ fs) = refl

-- a field after the last that is counted
pub rest_changed : (path : List ℕ) (eol : Ending) (r : FieldRule) (f : FieldText) (o : Option ℕ) (list all : List PlainEdit) (fields rest : List FieldText) → o ≡ None → fields ≡ f ∷ rest
    → list ++ rule_edits path eol r o fields ≡ all → list ++ rule_edits path eol r o rest ≡ all
rest_changed path eol r f o list all fields rest n e h =
    (λ i. list ++ rule_edits path eol r (n i) rest) ∙ (ap (λ ys. list ++ ys) (no_more path eol r rest) ∙ ((λ i. list ++ rule_edits path eol r (sym n i) (sym e i)) ∙ h))
