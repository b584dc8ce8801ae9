-- Findings one after another.
use Rattle.std.proofs.Common.{◌≡◌, ◌∙◌, ◌++◌, ℕ, List, [], ◌∷◌, refl, ap, subst, sym, append_assoc}
use Rattle.std.specs.List.{flat_map}
use Rattle.mk_view.specs.Listed.{Listed}
use Rattle.mk_check.specs.declared.lines.FindingForm.{FindingForm}
use Rattle.mk_check.specs.FindingLines.{AreFindingLines, finding_line}
use Rattle.mk_check.specs.Findings.{AreFaults, FoundFault}

-- six lists put one after another
pub six : {A : Type 0} (a b c d e g t0 t1 t2 t3 t4 t5 t6 : List A) → t0 ≡ [] → t1 ≡ t0 ++ a → t2 ≡ t1 ++ b → t3 ≡ t2 ++ c → t4 ≡ t3 ++ d → t5 ≡ t4 ++ e → t6 ≡ t5 ++ g
    → t6 ≡ a ++ (b ++ (c ++ (d ++ (e ++ g))))
six a b c d e g t0 t1 t2 t3 t4 t5 t6 h0 h1 h2 h3 h4 h5 h6 =
    h6
    ∙ (ap (λ t. t ++ g) (h5 ∙ ap (λ t. t ++ e) (h4 ∙ ap (λ t. t ++ d) (h3 ∙ ap (λ t. t ++ c) (h2 ∙ ap (λ t. t ++ b) (h1 ∙ ap (λ t. t ++ a) h0)))))
    ∙ (append_assoc (((a ++ b) ++ c) ++ d) e g
    ∙ (append_assoc ((a ++ b) ++ c) d (e ++ g)
    ∙ (append_assoc (a ++ b) c (d ++ (e ++ g))
    ∙ append_assoc a b (c ++ (d ++ (e ++ g)))))))

-- what was written of the first sections, with what is to come of the others
abbrev pub GoesOnto : FindingForm → List Listed → List Listed → List ℕ → Type 0
GoesOnto form all left text = (rest : List ℕ) → AreFindingLines form left rest → AreFindingLines form all (text ++ rest)

-- one more section
pub one_more : (form : FindingForm) (all : List Listed) (s : Listed) (ss : List Listed) (text new : List ℕ) (faults : List FoundFault) → GoesOnto form all (s ∷ ss) text
    → AreFaults s.section faults → new ≡ text ++ flat_map (finding_line form s.path) faults → GoesOnto form all ss new
one_more form all s ss text new faults goes are e rest lines =
    subst (AreFindingLines form all) (sym (append_assoc text (flat_map (finding_line form s.path) faults) rest) ∙ ap (λ t. t ++ rest) (sym e))
    (goes (flat_map (finding_line form s.path) faults ++ rest) (faults, rest, are, lines, refl))
