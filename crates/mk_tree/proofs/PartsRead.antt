-- The parts of a multipart, read one by one.
use Rattle.std.proofs.Common.{◌≡◌, ◌≤◌, ◌+◌, ◌-◌, ◌++◌, ℕ, Bool, true, false, List, [], ◌∷◌, refl, ap, sym, ◌∙◌, subst, length, map, arith}
use Rattle.mk_line.specs.Lines.{TextLine, printed_line, cut as lines_of}
use Rattle.mk_line.proofs.Cuts.{append_nil}
use Rattle.mk_tree.specs.declared.node.Node.{Node}
use Rattle.mk_tree.specs.Cutting.{Cut}
use Rattle.mk_tree.specs.Tree.{read, parts_by}
use Rattle.mk_tree.specs.Spans.{size, Span, Spans, more_spans, no_spans, span_of, spans_of}
use Rattle.mk_tree.specs.Nodes.{node_span, spans_with}
use Rattle.mk_tree.specs.Upto.{upto, beyond, inner}
use Rattle.mk_tree.specs.Steps.{begins_part, after_first, first_size, AtMark, KeptOfParts}
use Rattle.mk_tree.proofs.Descent.{from_mark, inner_front, PartFirst, part_first, inner_end, at_beyond, beyond_inside, size_cut, size_beyond}

pub spans_push : (xs : List Span) (x : Span) (rest : Spans) → spans_with (xs ++ x ∷ []) rest ≡ spans_with xs (more_spans x rest)
spans_push [] x rest = refl
spans_push (y ∷ xs) x rest = ap (more_spans y) (spans_push xs x rest)

map_push : {X Y : Type 0} (f : X → Y) (xs : List X) (x : X) → map f (xs ++ x ∷ []) ≡ map f xs ++ f x ∷ []
map_push f [] x = refl
map_push f (y ∷ xs) x = ap (λ ys. f y ∷ ys) (map_push f xs x)

one_line : (l : TextLine) → first_size (l ∷ []) ≡ size (l ∷ [])
one_line l = ap length (sym (append_nil (printed_line l)))

-- so many parts are read, and the lines from a mark on are left
pub record PartsRead (left : ℕ) (digest : Bool) (bs : List (List ℕ)) (b : List ℕ) (ls : List TextLine) (front : ℕ) (done : List Span) (rest : List TextLine) : Type 0 where
  pub preamble : front ≡ size (inner bs b ls).preamble
  pub parts : spans_with done (spans_of digest (parts_by (read left digest) (inner bs b rest).parts)) ≡ spans_of digest (parts_by (read left digest) (inner bs b ls).parts)
  pub tail : (inner bs b rest).tail ≡ (inner bs b ls).tail
  pub beyond : beyond bs rest ≡ beyond bs ls
  pub at : AtMark (bs ++ b ∷ []) rest

begun : (left : ℕ) (digest : Bool) (bs : List (List ℕ)) (b : List ℕ) (ls : List TextLine) (front : ℕ) → front ≡ size (upto (bs ++ b ∷ []) ls) → PartsRead left digest bs b ls front [] (beyond (bs ++ b ∷ []) ls)
begun left digest bs b ls front h = record {
  preamble = h ∙ ap (λ (c : Cut). size c.preamble) (sym (inner_front bs b ls));
  parts = ap (λ (c : Cut). spans_of digest (parts_by (read left digest) c.parts)) (sym (inner_front bs b ls));
  tail = ap (λ (c : Cut). c.tail) (sym (inner_front bs b ls));
  beyond = beyond_inside bs b ls;
  at = at_beyond (bs ++ b ∷ []) ls;
}

pub parts_begin : (left : ℕ) (digest : Bool) (bs inside : List (List ℕ)) (b : List ℕ) (body rest : List ℕ) → inside ≡ bs ++ b ∷ [] → length body ≡ size (upto inside (lines_of body)) + length rest → beyond inside (lines_of body) ≡ lines_of rest
    → PartsRead left digest bs b (lines_of body) (length body - length rest) [] (lines_of rest)
parts_begin left digest bs inside b body rest i s r =
    let front : length body - length rest ≡ size (upto inside (lines_of body)) = omega (arith, s) in
    subst (λ ls. PartsRead left digest bs b (lines_of body) (length body - length rest) [] ls)
    (ap (λ is. beyond is (lines_of body)) (sym i) ∙ r)
    (begun left digest bs b (lines_of body) (length body - length rest) (front ∙ ap (λ is. size (upto is (lines_of body))) i))

first_part : (left : ℕ) (digest : Bool) (bs : List (List ℕ)) (b : List ℕ) (ls : List TextLine) (front : ℕ) (done : List Span) (l : TextLine) (rest : List TextLine) (n : Span)
    → PartsRead left digest bs b ls front done (l ∷ rest) → PartFirst bs b l rest → n ≡ span_of digest (size (l ∷ [])) (read left digest (upto (bs ++ b ∷ []) rest))
    → PartsRead left digest bs b ls front (done ++ n ∷ []) (beyond (bs ++ b ∷ []) rest)
first_part left digest bs b ls front done l rest n h p e = record {
  preamble = h.preamble;
  parts =
      spans_push done n (spans_of digest (parts_by (read left digest) (from_mark bs b rest).parts))
      ∙ (ap (λ m. spans_with done (more_spans m (spans_of digest (parts_by (read left digest) (from_mark bs b rest).parts)))) e
      ∙ (ap (λ ps. spans_with done (spans_of digest (parts_by (read left digest) ps))) (sym p.parts) ∙ h.parts));
  tail = sym p.tail ∙ h.tail;
  beyond = beyond_inside bs b rest ∙ (sym p.beyond ∙ h.beyond);
  at = at_beyond (bs ++ b ∷ []) rest;
}

next_part : (left : ℕ) (digest : Bool) (bs : List (List ℕ)) (b : List ℕ) (ls : List TextLine) (front : ℕ) (done : List Span) (rest : List TextLine) (n : Span)
    → PartsRead left digest bs b ls front done rest → begins_part bs b rest ≡ true → n ≡ span_of digest (first_size rest) (read left digest (upto (bs ++ b ∷ []) (after_first rest)))
    → PartsRead left digest bs b ls front (done ++ n ∷ []) (beyond (bs ++ b ∷ []) (after_first rest))
next_part left digest bs b ls front done [] n h g e = cc
next_part left digest bs b ls front done (l ∷ rest) n h g e = first_part left digest bs b ls front done l rest n h (part_first bs b l rest g) (e ∙ ap (λ k. span_of digest k (read left digest (upto (bs ++ b ∷ []) rest))) (one_line l))

pub parts_next : (left : ℕ) (digest : Bool) (bs inside : List (List ℕ)) (b : List ℕ) (ls : List TextLine) (front : ℕ) (items pushed : List Node) (node : Node) (delimiter : ℕ) (rest start next : List ℕ)
    → inside ≡ bs ++ b ∷ []
    → PartsRead left digest bs b ls front (map node_span items) (lines_of rest)
    → begins_part bs b (lines_of rest) ≡ true
    → lines_of start ≡ after_first (lines_of rest)
    → length rest ≡ first_size (lines_of rest) + length start
    → delimiter ≡ length rest - length start
    → node_span node ≡ span_of digest delimiter (read left digest (upto inside (lines_of start)))
    → lines_of next ≡ beyond inside (lines_of start)
    → pushed ≡ items ++ node ∷ []
    → PartsRead left digest bs b ls front (map node_span pushed) (lines_of next)
parts_next left digest bs inside b ls front items pushed node delimiter rest start next i h g s d k e n p =
    let size_is : delimiter ≡ first_size (lines_of rest) = omega (arith, d, k) in
    let node_is : node_span node ≡ span_of digest (first_size (lines_of rest)) (read left digest (upto (bs ++ b ∷ []) (after_first (lines_of rest)))) =
    e ∙ (ap (λ j. span_of digest j (read left digest (upto inside (lines_of start)))) size_is
    ∙ (ap (λ is. span_of digest (first_size (lines_of rest)) (read left digest (upto is (lines_of start)))) i
    ∙ ap (λ xs. span_of digest (first_size (lines_of rest)) (read left digest (upto (bs ++ b ∷ []) xs))) s)) in
    let next_is : beyond (bs ++ b ∷ []) (after_first (lines_of rest)) ≡ lines_of next = ap (beyond (bs ++ b ∷ [])) (sym s) ∙ (ap (λ is. beyond is (lines_of start)) (sym i) ∙ sym n) in
    subst (λ ns. PartsRead left digest bs b ls front ns (lines_of next)) (sym (map_push node_span items node) ∙ ap (map node_span) (sym p))
    (subst (λ ls'. PartsRead left digest bs b ls front (map node_span items ++ node_span node ∷ []) ls') next_is
    (next_part left digest bs b ls front (map node_span items) (lines_of rest) (node_span node) h g node_is))

pub parts_end : (left : ℕ) (digest : Bool) (bs : List (List ℕ)) (b : List ℕ) (ls : List TextLine) (front : ℕ) (done : List Span) (rest : List TextLine)
    → PartsRead left digest bs b ls front done rest → begins_part bs b rest ≡ false → KeptOfParts left digest bs b ls front (spans_with done no_spans) rest
parts_end left digest bs b ls front done rest h g =
    let e = inner_end bs b rest h.at g in
    record {
      preamble = h.preamble;
      parts = ap (λ (c : Cut). spans_with done (spans_of digest (parts_by (read left digest) c.parts))) (sym e) ∙ h.parts;
      tail = ap (λ (c : Cut). c.tail) (sym e) ∙ h.tail;
      beyond = h.beyond;
    }

-- what is left is shorter
pub shorter_beyond : (bs : List (List ℕ)) (text rest : List ℕ) → lines_of rest ≡ beyond bs (lines_of text) → length rest ≤ length text
shorter_beyond bs text rest e = omega (arith, size_cut text, size_cut rest, ap size e, size_beyond bs (lines_of text))
