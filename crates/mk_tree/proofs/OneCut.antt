-- Lines have one cut by a boundary, and no other.
use Rattle.std.proofs.Common.{◌≡◌, ◌++◌, ℕ, Option, None, Some, List, [], ◌∷◌, refl, ap, sym, ◌∙◌, append_assoc}
use Rattle.std.specs.List.{AllByRecursion, flat_map}
use Rattle.mk_line.specs.declared.marks.Mark.{Mark}
use Rattle.mk_line.specs.declared.marks.Mark.TheVariants.{No, Part, Close}
use Rattle.mk_line.specs.Lines.{TextLine}
use Rattle.mk_line.specs.Marks.{mark}
use Rattle.mk_tree.specs.Cutting.{Cut, cut_before, cut_by, tail_lines, Unmarked, IsCutBy}
use Rattle.mk_tree.specs.Reading.{Closes}

-- the lines of parts, each after its delimiter
abbrev pub parts_lines : List (TextLine × List TextLine) → List TextLine
parts_lines ps = flat_map (λ p. p.0 ∷ p.1) ps

-- each part begins with a delimiter, and holds no other mark
abbrev pub ArePartsOf : List ℕ → List (TextLine × List TextLine) → Type 0
ArePartsOf b ps = AllByRecursion (λ p. (mark b p.0.content ≡ Part) × Unmarked b p.1) ps

append_parts : (c : Cut) → c.preamble ++ (parts_lines c.parts ++ tail_lines c.tail) ≡ (c.preamble ++ parts_lines c.parts) ++ tail_lines c.tail
append_parts c = sym (append_assoc c.preamble (parts_lines c.parts) (tail_lines c.tail))

cut_step : (b : List ℕ) (m : Mark) (l : TextLine) (ls : List TextLine) (c : Cut) → mark b l.content ≡ m → IsCutBy b ls c → IsCutBy b (l ∷ ls) (cut_before m l ls c)
cut_step b No l ls c e h = record { joined = ap (λ xs. l ∷ xs) h.joined; preamble = (e, h.preamble); parts = h.parts; tail = h.tail }
cut_step b Part l ls c e h = record { joined = ap (λ xs. l ∷ xs) (sym (append_parts c) ∙ h.joined); preamble = tt; parts = ((e, h.preamble), h.parts); tail = h.tail }
cut_step b Close l ls c e h = record { joined = refl; preamble = tt; parts = tt; tail = e }

pub cut_is : (b : List ℕ) (ls : List TextLine) → IsCutBy b ls (cut_by b ls)
cut_is b [] = record { joined = refl; preamble = tt; parts = tt; tail = tt }
cut_is b (l ∷ ls) = cut_step b (mark b l.content) l ls (cut_by b ls) refl (cut_is b ls)

-- lines without marks are a preamble
pub cut_unmarked : (b : List ℕ) (ls rest : List TextLine) → Unmarked b ls → cut_by b (ls ++ rest) ≡ record { preamble = ls ++ (cut_by b rest).preamble; parts = (cut_by b rest).parts; tail = (cut_by b rest).tail }
cut_unmarked b [] rest h = refl
cut_unmarked b (l ∷ ls) rest h = ap (λ m. cut_before m l (ls ++ rest) (cut_by b (ls ++ rest))) h.0 ∙ ap (cut_before No l (ls ++ rest)) (cut_unmarked b ls rest h.1)

append_end : (xs : List TextLine) → xs ++ [] ≡ xs
append_end [] = refl
append_end (x ∷ xs) = ap (λ ys. x ∷ ys) (append_end xs)

cut_tail : (b : List ℕ) (t : Option (TextLine × List TextLine)) → Closes b t → cut_by b (tail_lines t) ≡ record { preamble = []; parts = []; tail = t }
cut_tail b None h = refl
cut_tail b (Some p) h = ap (λ m. cut_before m p.0 p.1 (cut_by b p.1)) h

cut_parts : (b : List ℕ) (ps : List (TextLine × List TextLine)) (t : Option (TextLine × List TextLine)) → ArePartsOf b ps → Closes b t → cut_by b (parts_lines ps ++ tail_lines t) ≡ record { preamble = []; parts = ps; tail = t }
cut_parts b [] t h k = cut_tail b t k
cut_parts b (p ∷ ps) t h k =
    let rest : cut_by b ((p.1 ++ parts_lines ps) ++ tail_lines t) ≡ record { preamble = p.1; parts = ps; tail = t } =
    ap (cut_by b) (append_assoc p.1 (parts_lines ps) (tail_lines t)) ∙ (cut_unmarked b p.1 (parts_lines ps ++ tail_lines t) h.0.1
    ∙ (ap (λ (c : Cut). record { preamble = p.1 ++ c.preamble; parts = c.parts; tail = c.tail }) (cut_parts b ps t h.1 k)
    ∙ (λ i. record { preamble = append_end p.1 i; parts = ps; tail = t }))) in
    ap (λ m. cut_before m p.0 ((p.1 ++ parts_lines ps) ++ tail_lines t) (cut_by b ((p.1 ++ parts_lines ps) ++ tail_lines t))) h.0.0
    ∙ ap (cut_before Part p.0 ((p.1 ++ parts_lines ps) ++ tail_lines t)) rest

pub cut_of : (b : List ℕ) (ls : List TextLine) (c : Cut) → IsCutBy b ls c → cut_by b ls ≡ c
cut_of b ls c h =
    ap (cut_by b) (sym h.joined)
    ∙ (cut_unmarked b c.preamble (parts_lines c.parts ++ tail_lines c.tail) h.preamble
    ∙ (ap (λ (d : Cut). record { preamble = c.preamble ++ d.preamble; parts = d.parts; tail = d.tail }) (cut_parts b c.parts c.tail h.parts h.tail)
    ∙ (λ i. record { preamble = append_end c.preamble i; parts = c.parts; tail = c.tail })))
