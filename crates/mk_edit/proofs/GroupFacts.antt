-- Edits made one after another: their splices lead from the first text to the last, and back.
use Rattle.std.proofs.Common.{◌≡◌, ℕ, Result, Ok, Err, List, [], ◌∷◌, refl, ap, sym, subst}
use Rattle.mk_tree.specs.Documents.{Document, tree, printed}
use Rattle.mk_tree.proofs.Kept.{text_kept}
use Rattle.mk_decide.specs.Edits.{PlainEdit, Refusal}
use Rattle.mk_decide.specs.EditSplices.{splices_of}
use Rattle.mk_edit.specs.Groups.{Together, following, made_on, together}
use Rattle.mk_edit.specs.Laws.{GroupsLead, GroupsReadBack}
use Rattle.mk_decide.specs.Outcomes.{edited}
use Rattle.mk_splice.specs.Splices.{Splice, LeadsTo}
use Rattle.mk_splice.proofs.Bytes.{leads_to, leads_on}
use Rattle.mk_decide.proofs.EditsLead.{splices_lead_lem, edits_read_back_lem}

-- what edits give: their splices lead to it, and it is read back
abbrev pub LeadsFrom : List ℕ → Together → Type 0
LeadsFrom x (Ok p) = LeadsTo p.1 x (printed p.0) × (tree (printed p.0) ≡ p.0)
LeadsFrom x (Err q) = Unit {0}

after_leads : (x y : List ℕ) (ss : List Splice) (r : Together) → LeadsTo ss x y → LeadsFrom y r → LeadsFrom x (following 1 ss r)
after_leads x y ss (Ok p) l h = (leads_on ss p.1 x y (printed p.0) l h.0, h.1)
after_leads x y ss (Err q) l h = tt

-- the edits after an accepted one are made in what it gave, which is read back
next_leads : (e : PlainEdit) (es : List PlainEdit) (x : List ℕ) (r : Result Document Refusal) → edited e (tree x) ≡ r → ((y : List ℕ) → LeadsFrom y (together es (tree y)))
    → LeadsFrom x (made_on (splices_of e (tree x)) (together es) r)
next_leads e es x (Ok t) o others =
    after_leads x (printed t) (splices_of e (tree x)) (together es t) (splices_lead_lem e x t o)
    (subst (λ u. LeadsFrom (printed t) (together es u)) (edits_read_back_lem e x t o) (others (printed t)))
next_leads e es x (Err f) o others = tt

pub together_leads : (es : List PlainEdit) (x : List ℕ) → LeadsFrom x (together es (tree x))
together_leads [] x = (leads_to [] x (printed (tree x)) tt (sym (text_kept x)), ap tree (text_kept x))
together_leads (e ∷ es) x = next_leads e es x (edited e (tree x)) refl (together_leads es)

pub groups_lead_lem : GroupsLead
groups_lead_lem es text t ss h = (subst (LeadsFrom text) h (together_leads es text)).0

pub groups_read_back_lem : GroupsReadBack
groups_read_back_lem es text t ss h = (subst (LeadsFrom text) h (together_leads es text)).1
