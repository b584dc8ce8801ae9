-- Where nothing is found, everything decodes.
use Rattle.std.proofs.Common.{◌≡◌, ◌∙◌, ◌++◌, ℕ, List, [], ◌∷◌, refl, inl, inr}
use Rattle.std.specs.List.{flat_map}
use Rattle.mk_tree.specs.Documents.{tree}
use Rattle.mk_tree.specs.Sections.{Placed}
use Rattle.mk_view.specs.Extracts.{IsContentOf}
use Rattle.mk_view.specs.Listed.{Listed, listed}
use Rattle.mk_view.specs.Listing.{path_text}
use Rattle.mk_check.specs.declared.lines.FindingForm.{FindingForm}
use Rattle.mk_check.specs.declared.lines.FindingForm.TheVariants.{Plain, Json}
use Rattle.mk_check.specs.CheckLaws.{HaveContents}
use Rattle.mk_check.specs.FindingLines.{AreFindingLines, finding_line}
use Rattle.mk_check.specs.Findings.{AreContentFaults, AreFaults, FoundFault, plain_faults}

-- two lists of which nothing comes
both_empty : {A : Type 0} (xs ys : List A) → [] ≡ xs ++ ys → ([] ≡ xs) × ([] ≡ ys)
both_empty [] ys e = (refl, e)
both_empty (x ∷ xs) ys e = absurd cc

-- no line is empty
line_not_empty : (form : FindingForm) (path : List ℕ) (f : FoundFault) → [] ≡ finding_line form path f → ⊥
line_not_empty Plain path f e = none _ _ (both_empty (path_text path) _ e).1
  where
    none : (x : ℕ) (xs : List ℕ) → [] ≡ x ∷ xs → ⊥
    none x xs e = cc
line_not_empty Json path f e = cc

no_faults : (form : FindingForm) (path : List ℕ) (faults : List FoundFault) → [] ≡ flat_map (finding_line form path) faults → [] ≡ faults
no_faults form path [] e = refl
no_faults form path (f ∷ fs) e = absurd (line_not_empty form path f (both_empty (finding_line form path f) (flat_map (finding_line form path) fs) e).0)

some_found : (f : FoundFault) → [] ≡ f ∷ [] → ⊥
some_found f e = cc

-- a section with nothing found in its content decodes
decodes : (p : Placed) (content : List FoundFault) → AreContentFaults p content → [] ≡ content → (bytes : List ℕ) × IsContentOf p bytes
decodes p content (inl h) e = (h.0, h.1)
decodes p content (inr (inl h)) e = absurd (some_found _ (e ∙ h.1))
decodes p content (inr (inr h)) e = absurd (some_found _ (e ∙ h.1))

clean : (form : FindingForm) (ss : List Listed) (text : List ℕ) → [] ≡ text → AreFindingLines form ss text → HaveContents ss
clean form [] text e h = tt
clean form (s ∷ ss) text e h =
    let faults = h.0 in
    let rest = h.1 in
    let are : AreFaults s.section faults = h.2 in
    let parts = both_empty (flat_map (finding_line form s.path) faults) rest (e ∙ h.4) in
    let content = (both_empty (plain_faults s.section) are.content (no_faults form s.path faults parts.0 ∙ are.all)).1 in
    (decodes s.section are.content are.in_content content, clean form ss rest parts.1 h.3)

pub clean_decodes : (form : FindingForm) (message : List ℕ) → AreFindingLines form (listed (tree message)) [] → HaveContents (listed (tree message))
clean_decodes form message h = clean form (listed (tree message)) [] refl h
