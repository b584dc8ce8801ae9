-- The bodies of the sections below a section stand in its body one after another, with whole lines between them.
use Rattle.std.proofs.Common.{◌≡◌, ◌<◌, ◌≤◌, ◌+◌, ◌-◌, ◌^◌, ◌++◌, ℕ, Bool, Result, Ok, Err, IfOk, List, [], ◌∷◌, refl, ap, sym, ◌∙◌, subst, length, length-append, take, drop, append_assoc, append-nil, arith, ◌||◌}
use Rattle.std.proofs.lemmas.List.{drop_at, take_at}
use Rattle.mk_line.specs.Lines.{AreLines, TextLine, cut, text_of}
use Rattle.mk_line.proofs.Cuts.{cut_text, length_cut, lines_following, lines_cut, text_append}
use Rattle.mk_head.specs.Split.{head_lines}
use Rattle.std.specs.Option.{option_to_list}
use Rattle.mk_tree.specs.Cutting.{tail_lines}
use Rattle.mk_tree.specs.Documents.{tree}
use Rattle.mk_tree.specs.Sections.{Placed, body_lines, body_text, children, children_of, parts_placed}
use Rattle.mk_tree.proofs.TreeNames.{has_tail}
use Rattle.mk_tree.specs.Spans.{digest_below, size}
use Rattle.mk_tree.specs.Tree.{Entity, leaf, message, multi, Parts, no_parts, part, entity_head, print, print_parts}
use Rattle.mk_tree.proofs.Descent.{size_append}
use Rattle.mk_tree.proofs.Heads.{lines_front}
use Rattle.mk_tree.proofs.Kept.{lines_kept}
use Rattle.std.specs.List.{flat_map}
use Rattle.mk_view.specs.Listed.{along, listed_from}
use Rattle.mk_view.specs.Listing.{listing_line}
use Rattle.mk_view.proofs.Sections.{listed_one}

pub head_and_body : (e : Entity) → print e ≡ head_lines (entity_head e) ++ body_lines e
head_and_body (leaf h ls) = refl
head_and_body (message h e) = refl
head_and_body (multi h b pre ps t) = refl

-- from a place on stand these lines, and in them the bodies of sections, each after lines of its own
abbrev pub AreSpread : ℕ → List TextLine → List Placed → Type 0
AreSpread place ls [] = Unit {0}
AreSpread place ls (q ∷ qs) =
    (gap : List TextLine) × (rest : List TextLine)
    × (ls ≡ gap ++ (body_lines q.entity ++ rest))
    × (q.start + size (head_lines (entity_head q.entity)) ≡ place + size gap)
    × AreSpread (q.start + size (print q.entity)) rest qs

part_lines : (before : List TextLine) (l : TextLine) (e : Entity) (rest tail : List TextLine) → before ++ ((l ∷ (print e ++ rest)) ++ tail) ≡ (before ++ (l ∷ head_lines (entity_head e))) ++ (body_lines e ++ (rest ++ tail))
part_lines before l e rest tail =
    ap (λ ls. before ++ ((l ∷ (ls ++ rest)) ++ tail)) (head_and_body e) ∙ regrouped before (l ∷ head_lines (entity_head e)) (body_lines e) rest tail
  where
    regrouped : (a h b r t : List TextLine) → a ++ (((h ++ b) ++ r) ++ t) ≡ (a ++ h) ++ (b ++ (r ++ t))
    regrouped a h b r t = simp append_assoc refl

parts_spread : (start place : ℕ) (before tail : List TextLine) (followed digest : Bool) (ps : Parts) → place ≡ start + size before → AreSpread start (before ++ (print_parts ps ++ tail)) (parts_placed place followed digest ps)
parts_spread start place before tail followed digest no_parts h = tt
parts_spread start place before tail followed digest (part l e ps) h = (
  before ++ (l ∷ head_lines (entity_head e)),
  print_parts ps ++ tail,
  part_lines before l e (print_parts ps) tail,
  omega (arith, h, size_append before (l ∷ head_lines (entity_head e)), size_append (l ∷ []) (head_lines (entity_head e))),
  parts_spread (place + size (l ∷ []) + size (print e)) (place + size (l ∷ []) + size (print e)) [] tail followed digest ps (omega arith),
)

spread_in : (p : Placed) (e : Entity) → p.entity ≡ e → AreSpread (p.start + size (head_lines (entity_head e))) (body_lines e) (children_of p e)
spread_in p (leaf h ls) k = tt
spread_in p (message h e) k = (head_lines (entity_head e), [], head_and_body e ∙ ap (λ ls. head_lines (entity_head e) ++ ls) (sym (append-nil (body_lines e))), refl, tt)
spread_in p (multi h b pre ps t) k = parts_spread (p.start + size (head_lines h)) (p.start + size (head_lines h) + size pre) pre (tail_lines t) (has_tail t || p.followed) (digest_below p.digest h) ps refl

-- so do those of a section's
pub spread_below : (p : Placed) → AreSpread (p.start + size (head_lines (entity_head p.entity))) (body_lines p.entity) (children p)
spread_below p = spread_in p p.entity refl

-- lines that are left of a body, from a place on, with those that were counted before them
pub record IsLeft (total : ℕ) (place count : ℕ) (rest : List ℕ) (below : List Placed) : Type 0 where
  pub lines : List TextLine
  pub are_lines : AreLines lines
  pub text : rest ≡ text_of lines
  pub spread : AreSpread place lines below
  pub counted : count + length lines ≡ total

pub left_begun : (p : Placed) (rest : List ℕ) (place : ℕ) (below : List Placed) → AreLines (body_lines p.entity) → rest ≡ text_of (body_lines p.entity) → place ≡ p.start + size (head_lines (entity_head p.entity)) → below ≡ children p
    → IsLeft (length (body_lines p.entity)) place 0 rest below
left_begun p rest place below a r e b = record {
  lines = body_lines p.entity;
  are_lines = a;
  text = r;
  spread = subst (AreSpread place (body_lines p.entity)) (sym b) (subst (λ n. AreSpread n (body_lines p.entity) (children p)) (sym e) (spread_below p));
  counted = omega arith;
}

-- the lines of what is left
pub left_count : (total place count : ℕ) (rest : List ℕ) (below : List Placed) → IsLeft total place count rest below → count + length (cut rest) ≡ total
left_count total place count rest below w = ap (λ t. count + length (cut t)) w.text ∙ (ap (λ ls. count + length ls) (cut_text w.lines w.are_lines) ∙ w.counted)

-- the next section: its body stands after a front of what is left
pub record IsNext (total place count : ℕ) (rest : List ℕ) (q : Placed) (below : List Placed) : Type 0 where
  pub following : place ≤ q.start + size (head_lines (entity_head q.entity))
  pub within : q.start + size (head_lines (entity_head q.entity)) - place ≤ length rest
  pub ordered : q.start + size (head_lines (entity_head q.entity)) ≤ q.start + size (print q.entity)
  pub own : AreLines (body_lines q.entity)
  pub fits : q.start + size (print q.entity) - (q.start + size (head_lines (entity_head q.entity))) ≤ length (drop (q.start + size (head_lines (entity_head q.entity)) - place) rest)
  pub left : IsLeft total (q.start + size (print q.entity)) (count + length (cut (take (q.start + size (head_lines (entity_head q.entity)) - place) rest)) + length (body_lines q.entity))
      (drop (q.start + size (print q.entity) - (q.start + size (head_lines (entity_head q.entity)))) (drop (q.start + size (head_lines (entity_head q.entity)) - place) rest)) below

next_in : (total place count : ℕ) (rest : List ℕ) (q : Placed) (qs : List Placed) (lines gap more : List TextLine) → AreLines lines → rest ≡ text_of lines → lines ≡ gap ++ (body_lines q.entity ++ more)
    → q.start + size (head_lines (entity_head q.entity)) ≡ place + size gap → AreSpread (q.start + size (print q.entity)) more qs → count + length lines ≡ total → IsNext total place count rest q qs
next_in total place count rest q qs lines gap more a t e s n k =
    let body = body_lines q.entity in
    let head = head_lines (entity_head q.entity) in
    let all = subst AreLines e a in
    let after_gap = lines_following gap (body ++ more) all in
    let in_gap : AreLines gap = lines_front gap (body ++ more) all in
    let in_body : AreLines body = lines_front body more after_gap in
    let in_more : AreLines more = lines_following body more after_gap in
    let whole : size (print q.entity) ≡ size head + size body = ap size (head_and_body q.entity) ∙ size_append head body in
    let text : rest ≡ text_of gap ++ (text_of body ++ text_of more) = t ∙ (ap text_of e ∙ (text_append gap (body ++ more) ∙ ap (λ x. text_of gap ++ x) (text_append body more))) in
    let first : q.start + size head - place ≡ length (text_of gap) = omega (arith, s) in
    let second : q.start + size (print q.entity) - (q.start + size head) ≡ length (text_of body) = omega (arith, whole) in
    let gap_is : take (q.start + size head - place) rest ≡ text_of gap = (λ i. take (first i) (text i)) ∙ take_at (text_of gap) (text_of body ++ text_of more) (length (text_of gap)) refl in
    let following_is : drop (q.start + size head - place) rest ≡ text_of body ++ text_of more = (λ i. drop (first i) (text i)) ∙ drop_at (text_of gap) (text_of body ++ text_of more) (length (text_of gap)) refl in
    let rest_is : drop (q.start + size (print q.entity) - (q.start + size head)) (drop (q.start + size head - place) rest) ≡ text_of more =
    (λ i. drop (second i) (following_is i)) ∙ drop_at (text_of body) (text_of more) (length (text_of body)) refl in
    let sizes : length rest ≡ length (text_of gap) + (length (text_of body) + length (text_of more)) =
    ap length text ∙ (length-append (text_of gap) (text_of body ++ text_of more) ∙ ap (λ m. length (text_of gap) + m) (length-append (text_of body) (text_of more))) in
    let counts : length lines ≡ length gap + (length body + length more) =
    ap length e ∙ (length-append gap (body ++ more) ∙ ap (λ m. length gap + m) (length-append body more)) in
    let gap_lines : length (cut (take (q.start + size head - place) rest)) ≡ length gap = ap (λ x. length (cut x)) gap_is ∙ ap length (cut_text gap in_gap) in
    let after_size : length (drop (q.start + size head - place) rest) ≡ length (text_of body) + length (text_of more) = ap length following_is ∙ length-append (text_of body) (text_of more) in
    record {
      following = omega (arith, s);
      within = omega (arith, first, sizes);
      ordered = omega (arith, whole);
      own = in_body;
      fits = omega (arith, second, after_size);
      left = record { lines = more; are_lines = in_more; text = rest_is; spread = n; counted = omega (arith, gap_lines, counts, k) };
    }

pub next_one : (total place count : ℕ) (rest : List ℕ) (q : Placed) (all qs : List Placed) → IsLeft total place count rest all → all ≡ q ∷ qs → IsNext total place count rest q qs
next_one total place count rest q all qs w e =
    let spread = subst (AreSpread place w.lines) e w.spread in
    next_in total place count rest q qs w.lines spread.0 spread.1 w.are_lines w.text spread.2 spread.3 spread.4 w.counted

-- the lines of the root's body
pub root_lines : (text : List ℕ) → AreLines (body_lines (tree text).root)
root_lines text =
    let t = tree text in
    let all : AreLines (option_to_list t.envelope ++ (head_lines (entity_head t.root) ++ body_lines t.root)) =
    subst AreLines (sym (lines_kept text) ∙ ap (λ ls. option_to_list t.envelope ++ ls) (head_and_body t.root)) (lines_cut text) in
    lines_following (head_lines (entity_head t.root)) (body_lines t.root) (lines_following (option_to_list t.envelope) (head_lines (entity_head t.root) ++ body_lines t.root) all)

-- what is left after the next section, by what was counted of it and where it begins and ends
lines_counted : (place begin lines start : ℕ) (rest front : List ℕ) → begin ≡ start → front ≡ take (begin - place) rest → lines ≡ length (cut front) → lines ≡ length (cut (take (start - place) rest))
lines_counted place begin lines start rest front b f l = l ∙ ap (λ t. length (cut t)) (f ∙ ap (λ m. take (m - place) rest) b)

pub next_room : (total place count : ℕ) (rest : List ℕ) (q : Placed) (qs : List Placed) → IsNext total place count rest q qs → (begin lines own : ℕ) (front : List ℕ) → begin ≡ q.start + size (head_lines (entity_head q.entity))
    → front ≡ take (begin - place) rest → lines ≡ length (cut front) → own ≡ length (body_lines q.entity) → count + lines + own ≤ total
next_room total place count rest q qs n begin lines own front b f l o =
    let lines_is = lines_counted place begin lines (q.start + size (head_lines (entity_head q.entity))) rest front b f l in
    omega (arith, n.left.counted, lines_is, o)

pub left_moved : (total place count : ℕ) (rest : List ℕ) (q : Placed) (qs : List Placed) → IsNext total place count rest q qs → (begin end lines own next : ℕ) (front following after : List ℕ) → begin ≡ q.start + size (head_lines (entity_head q.entity))
    → end ≡ q.start + size (print q.entity) → front ≡ take (begin - place) rest → following ≡ drop (begin - place) rest → lines ≡ length (cut front) → own ≡ length (body_lines q.entity) → after ≡ drop (end - begin) following
    → next ≡ q.start + size (print q.entity) → IsLeft total next (count + lines + own) after qs
left_moved total place count rest q qs n begin end lines own next front following after b e f h l o g p =
    let head = q.start + size (head_lines (entity_head q.entity)) in
    let lines_is = lines_counted place begin lines head rest front b f l in
    let after_is : after ≡ drop (q.start + size (print q.entity) - head) (drop (head - place) rest) = g ∙ (λ i. drop (e i - b i) ((h ∙ ap (λ m. drop (m - place) rest) b) i)) in
    subst (λ x. IsLeft total x (count + lines + own) after qs) (sym p)
    (subst (λ x. IsLeft total (q.start + size (print q.entity)) (count + x + own) after qs) (sym lines_is)
    (subst (λ x. IsLeft total (q.start + size (print q.entity)) (count + length (cut (take (head - place) rest)) + x) after qs) (sym o)
    (subst (λ x. IsLeft total (q.start + size (print q.entity)) (count + length (cut (take (head - place) rest)) + length (body_lines q.entity)) x qs) (sym after_is) n.left)))

-- all lines of the body were counted
pub all_counted : (p : Placed) (place count lines : ℕ) (rest : List ℕ) (below : List Placed) → AreLines (body_lines p.entity) → IsLeft (length (body_lines p.entity)) place count rest below → lines ≡ length (cut rest)
    → count + lines ≡ length (cut (body_text p))
all_counted p place count lines rest below a w l =
    ap (λ n. count + n) l ∙ (left_count (length (body_lines p.entity)) place count rest below w ∙ ap length (sym (cut_text (body_lines p.entity) a)))

pub body_counted : (p : Placed) → AreLines (body_lines p.entity) → length (cut (body_text p)) ≡ length (body_lines p.entity)
body_counted p a = ap length (cut_text (body_lines p.entity) a)

pub body_few : (p : Placed) (text : List ℕ) → AreLines (body_lines p.entity) → text ≡ body_text p → length text < 2 ^ 64 → length (body_lines p.entity) < 2 ^ 64
body_few p text a t h = omega (arith, h, ap length t, length_cut (body_text p), body_counted p a)

-- a section's line, and after it those of the sections below
pub listed_written : (path : List ℕ) (p : Placed) (lines below new : List ℕ) → below ≡ flat_map listing_line (along listed_from path 1 (children p)) → new ≡ lines ++ (listing_line (record { path = path; section = p }) ++ below)
    → new ≡ lines ++ flat_map listing_line (listed_from path p)
listed_written path p lines below new b n = n ∙ (ap (λ x. lines ++ (listing_line (record { path = path; section = p }) ++ x)) b ∙ ap (λ ls. lines ++ flat_map listing_line ls) (sym (listed_one path p)))

pub if_ok : {A E : Type 0} (r : Result A E) (x y : A) → IfOk r (λ a. a ≡ x) → x ≡ y → IfOk r (λ a. a ≡ y)
if_ok (Ok a) x y h e = h ∙ e
if_ok (Err e) x y h k = tt
