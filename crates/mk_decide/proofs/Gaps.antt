-- Where the parts after so many begin: by the sections of a multipart, and by its parts.
use Rattle.std.proofs.Common.{◌≡◌, ◌+◌, ◌-◌, ◌≤◌, ◌++◌, ◌||◌, ℕ, zero, suc, Bool, Option, None, Some, List, [], ◌∷◌, refl, ap, sym, ◌∙◌, length, arith}
use Rattle.std.specs.Option.{option_map}
use Rattle.mk_line.specs.Lines.{TextLine, text_of}
use Rattle.mk_head.specs.Split.{Head, head_lines}
use Rattle.mk_head.specs.Fields.{counted}
use Rattle.mk_tree.specs.Cutting.{tail_lines}
use Rattle.mk_tree.specs.Tree.{Entity, leaf, message, multi, Parts, no_parts, part, print, print_parts, entity_head}
use Rattle.mk_tree.specs.Sections.{Placed, parts_placed, children_of, body_lines, preamble_lines}
use Rattle.mk_tree.proofs.TreeNames.{has_tail}
use Rattle.mk_tree.specs.Spans.{size, digest_below}
use Rattle.mk_tree.proofs.Descent.{size_append}
use Rattle.mk_decide.specs.Plans.{parts_at}
use Rattle.mk_decide.specs.EditSplices.{front_lines}
use Rattle.mk_decide.specs.SectionAnswers.{end_of, body_place, gap_at}

-- a number, where there are so many parts
abbrev pub at_parts : ℕ → Option (Parts × Parts) → Option ℕ
at_parts n o = option_map (λ (x : Parts × Parts). n) o

same_there : (f : Parts × Parts → Parts × Parts) (m n : ℕ) (o : Option (Parts × Parts)) → m ≡ n → at_parts m o ≡ at_parts n (option_map f o)
same_there f m n None e = refl
same_there f m n (Some x) e = ap (λ k. Some k) e

first_end : (place : ℕ) (l : TextLine) (e : Entity) → place + size (l ∷ []) + length (text_of (print e)) ≡ place + size (l ∷ (print e ++ []))
first_end place l e = omega (arith, size_append (l ∷ []) (print e ++ []), size_append (print e) [])

next_end : (place : ℕ) (l : TextLine) (e : Entity) (ls : List TextLine) → place + size (l ∷ []) + size (print e) + size ls ≡ place + size (l ∷ (print e ++ ls))
next_end place l e ls = omega (arith, size_append (l ∷ []) (print e ++ ls), size_append (print e) ls)

parts_gap : (j place : ℕ) (followed digest : Bool) (ps : Parts) → option_map end_of (counted (suc j) (parts_placed place followed digest ps)) ≡ at_parts (place + size (front_lines (suc j) ps)) (parts_at (suc j) ps)
parts_gap j place followed digest no_parts = refl
parts_gap zero place followed digest (part l e ps) = ap (λ k. Some k) (first_end place l e)
parts_gap (suc i) place followed digest (part l e ps) =
    parts_gap i (place + size (l ∷ []) + size (print e)) followed digest ps
    ∙ same_there (λ q. (part l e q.0, q.1)) (place + size (l ∷ []) + size (print e) + size (front_lines (suc i) ps)) (place + size (l ∷ (print e ++ front_lines (suc i) ps))) (parts_at (suc i) ps) (next_end place l e (front_lines (suc i) ps))

-- a multipart in its place
abbrev multi_at : Placed → Head → List ℕ → List TextLine → Parts → Option (TextLine × List TextLine) → Placed
multi_at p h b pre ps t = record p { entity = multi h b pre ps t }

sum_of : (start : ℕ) (head pre ls : List TextLine) → start + size head + size pre + size ls ≡ start + size (head ++ (pre ++ ls))
sum_of start head pre ls = omega (arith, size_append head (pre ++ ls), size_append pre ls)

none_more : (start : ℕ) (head pre : List TextLine) → start + size head + size pre ≡ start + size (head ++ (pre ++ []))
none_more start head pre = omega (arith, sum_of start head pre [])

pub gap_told : (k : ℕ) (p : Placed) (h : Head) (b : List ℕ) (pre : List TextLine) (ps : Parts) (t : Option (TextLine × List TextLine)) → p.entity ≡ multi h b pre ps t
    → gap_at k p ≡ at_parts (p.start + size (head_lines h ++ (pre ++ front_lines k ps))) (parts_at k ps)
gap_told zero p h b pre ps t e = ap (λ x. Some (p.start + size (head_lines (entity_head x)) + size (preamble_lines x))) e ∙ ap (λ n. Some n) (none_more p.start (head_lines h) pre)
gap_told (suc j) p h b pre ps t e =
    ap (λ x. option_map end_of (counted (suc j) (children_of p x))) e
    ∙ (parts_gap j (p.start + size (head_lines h) + size pre) (has_tail t || p.followed) (digest_below p.digest h) ps
    ∙ ap (λ n. at_parts n (parts_at (suc j) ps)) (sum_of p.start (head_lines h) pre (front_lines (suc j) ps)))

-- the lines of so many parts are among those of all
front_within : (k : ℕ) (ps : Parts) → size (front_lines k ps) ≤ size (print_parts ps)
front_within zero ps = omega arith
front_within (suc k) no_parts = omega arith
front_within (suc k) (part l e ps) =
    omega (arith, front_within k ps, size_append (l ∷ []) (print e ++ front_lines k ps), size_append (print e) (front_lines k ps), size_append (l ∷ []) (print e ++ print_parts ps), size_append (print e) (print_parts ps))

some_at : (n m : ℕ) (o : Option (Parts × Parts)) → at_parts n o ≡ Some m → m ≡ n
some_at n m None e = cc
some_at n m (Some x) e = cc

pub gap_within : (k place : ℕ) (p : Placed) (h : Head) (b : List ℕ) (pre : List TextLine) (ps : Parts) (t : Option (TextLine × List TextLine)) → p.entity ≡ multi h b pre ps t → gap_at k p ≡ Some place → place ≤ p.start + size (print p.entity)
gap_within k place p h b pre ps t e g =
    let is : place ≡ p.start + size (head_lines h ++ (pre ++ front_lines k ps)) = some_at (p.start + size (head_lines h ++ (pre ++ front_lines k ps))) place (parts_at k ps) (sym (gap_told k p h b pre ps t e) ∙ g) in
    omega (arith, is, front_within k ps, ap (λ x. size (print x)) e, sum_of 0 (head_lines h) pre (front_lines k ps), size_append (head_lines h) (pre ++ (print_parts ps ++ tail_lines t)), size_append pre (print_parts ps ++ tail_lines t), size_append (print_parts ps) (tail_lines t))

-- what follows the preamble of a section
pub preamble_within : (e : Entity) → size (preamble_lines e) ≤ size (body_lines e)
preamble_within (leaf h ls) = omega arith
preamble_within (message h e) = omega arith
preamble_within (multi h b pre ps t) = omega (arith, size_append pre (print_parts ps ++ tail_lines t))

pub print_apart : (e : Entity) → size (print e) ≡ size (head_lines (entity_head e)) + size (body_lines e)
print_apart (leaf h ls) = size_append (head_lines h) ls
print_apart (message h e) = size_append (head_lines h) (print e)
print_apart (multi h b pre ps t) = size_append (head_lines h) (pre ++ (print_parts ps ++ tail_lines t))

-- before the parts, by what follows it
first_place : (start end body pre head : ℕ) → end ≡ start + (head + body) → pre ≤ body → end - (body - pre) ≡ start + head + pre
first_place start end body pre head e h = omega (arith, e, h)

pub first_gap : (k : ℕ) (p : Placed) (end : ℕ) (body pre : List ℕ) → k ≡ 0 → end ≡ p.start + size (print p.entity) → body ≡ text_of (body_lines p.entity) → pre ≡ text_of (preamble_lines p.entity) → Some (end - (length body - length pre)) ≡ gap_at k p
first_gap k p end body pre z e b q =
    ap (λ n. Some n)
    (first_place p.start end (length body) (length pre) (size (head_lines (entity_head p.entity))) (omega (arith, e, print_apart p.entity, ap length b)) (omega (arith, preamble_within p.entity, ap length b, ap length q))
    ∙ ap (λ n. body_place p + n) (ap length q))
    ∙ ap (λ n. gap_at n p) (sym z)

-- in any section
some_is : (n m : ℕ) → ◌≡◌ {A = Option ℕ} (Some n) (Some m) → m ≡ n
some_is n m e = cc

none_is : {A : Type 0} (m : ℕ) → ◌≡◌ {A = Option ℕ} None (Some m) → A
none_is m e = cc

message_gap : (j place : ℕ) (p : Placed) (h : Head) (x : Entity) → p.entity ≡ message h x → option_map end_of (counted (suc j) (children_of p (message h x))) ≡ Some place → place ≤ p.start + size (print p.entity)
message_gap zero place p h x e g = omega (arith, some_is (p.start + size (head_lines h) + size (print x)) place g, ap (λ y. size (print y)) e, size_append (head_lines h) (print x))
message_gap (suc j) place p h x e g = none_is place g

gap_by : (k place : ℕ) (p : Placed) (x : Entity) → p.entity ≡ x → gap_at k p ≡ Some place → place ≤ p.start + size (print p.entity)
gap_by zero place p x e g = omega (arith, some_is (body_place p + size (preamble_lines p.entity)) place g, print_apart p.entity, preamble_within p.entity)
gap_by (suc j) place p (leaf h ls) e g = none_is place (sym (ap (λ x. option_map end_of (counted (suc j) (children_of p x))) e) ∙ g)
gap_by (suc j) place p (message h x) e g = message_gap j place p h x e (sym (ap (λ y. option_map end_of (counted (suc j) (children_of p y))) e) ∙ g)
gap_by (suc j) place p (multi h b pre ps t) e g = gap_within (suc j) place p h b pre ps t e g

pub gap_inside : (k place : ℕ) (p : Placed) → gap_at k p ≡ Some place → place ≤ p.start + size (print p.entity)
gap_inside k place p g = gap_by k place p p.entity refl g
