-- A part more, and a part less.
use Rattle.std.proofs.Common.{◌≡◌, ◌≤◌, ◌<◌, ◌+◌, ◌-◌, ◌++◌, ℕ, zero, suc, Bool, Option, List, [], ◌∷◌, refl, ap, sym, ◌∙◌, subst, length, arith}
use Rattle.mk_line.specs.Lines.{TextLine, AreLines, cut, text_of}
use Rattle.mk_line.proofs.Cuts.{text_append, cut_text, lines_following}
use Rattle.mk_head.specs.Split.{Head, head_lines}
use Rattle.std.specs.Option.{option_to_list}
use Rattle.mk_tree.specs.declared.changing.Own.TheVariants as own
use Rattle.mk_tree.specs.declared.node.Node.{Node}
use Rattle.mk_tree.specs.Tree.{Entity, multi, Parts, no_parts, part, read, print, print_parts}
use Rattle.mk_tree.specs.Spans.{size, tail_sizes, multi_form, Span, span, Spans, span_of, spans_of, digest_below}
use Rattle.mk_tree.specs.Nodes.{node_span}
use Rattle.mk_tree.specs.Reading.{IsWellRead}
use Rattle.mk_tree.specs.Sections.{Placed}
use Rattle.mk_tree.specs.Forms.{form_digest, form_in}
use Rattle.mk_tree.specs.Places.{append_parts, below, in_multi}
use Rattle.mk_tree.specs.Changed.{FitsOwn, own_changed, with_span, without_span, span_count}
use Rattle.mk_tree.specs.Splicing.{part_count, HasPart}
use Rattle.mk_tree.specs.Planning.{LacksPart, IsBehindParts, MakesAll}
use Rattle.mk_tree.proofs.Descent.{size_append, size_cut}
use Rattle.mk_tree.proofs.Heads.{lines_front}
use Rattle.mk_tree.proofs.WellRead.{well_read}
use Rattle.mk_tree.proofs.Plugs.{print_append, own_of}
use Rattle.mk_tree.proofs.Planned.{changed_so, front_of, rest_of, print_sides, print_with, spans_with_one, spans_without_one, counts_with, counts_within, text_apart}

less_one : (n : ℕ) → n - 1 ≡ below n
less_one zero = refl
less_one (suc n) = omega arith

-- the new part is read as it stands in the multipart
part_read : (left : ℕ) (digest g : Bool) (k : ℕ) (new rest : List ℕ) (s e : Entity) (b : HasPart k new s e) → g ≡ form_digest (form_in digest s) → ((l : TextLine) (ls : List TextLine) → cut new ≡ l ∷ ls → cut rest ≡ ls) → AreLines (print e) → IsWellRead left digest e
    → (read (left - 1) g (cut rest) ≡ b.new) × (length new ≡ size (b.delimiter ∷ []) + length rest) × (g ≡ digest_below digest b.head)
part_read left digest g k new rest s e b q following lines well =
    let front = front_of b.head b.preamble b.before in
    let own : List TextLine = b.delimiter ∷ print b.new in
    let printed : print e ≡ front ++ (own ++ rest_of b.after b.tail) = ap print b.result_is ∙ print_with b.head b.boundary b.preamble b.before b.delimiter b.new b.after b.tail in
    let own_lines : AreLines own = lines_front own (rest_of b.after b.tail) (lines_following front (own ++ rest_of b.after b.tail) (subst AreLines printed lines)) in
    let new_cut : cut new ≡ own = ap cut (sym b.text_is) ∙ cut_text own own_lines in
    let rest_cut : cut rest ≡ print b.new = following b.delimiter (print b.new) new_cut in
    let digest_is : g ≡ digest_below digest b.head = q ∙ ap (λ x. form_digest (form_in digest x)) b.section_is in
    let there : IsWellRead left digest (multi b.head b.boundary b.preamble (append_parts b.before (part b.delimiter b.new b.after)) b.tail) = subst (IsWellRead left digest) b.result_is well in
    let inner : IsWellRead (below left) (digest_below digest b.head) b.new = own_of left digest (in_multi b.head b.boundary b.preamble b.before b.delimiter b.after b.tail ∷ []) b.new there in (
      (λ i. read (less_one left i) (digest_is i) (rest_cut i)) ∙ well_read (below left) (digest_below digest b.head) b.new inner,
      omega (arith, size_cut new, size_cut rest, ap size new_cut, ap size rest_cut, size_append (b.delimiter ∷ []) (print b.new)),
      digest_is,
    )

abbrev multi_span : Bool → ℕ → Head → List ℕ → List TextLine → Option (TextLine × List TextLine) → ℕ → Spans → Span
multi_span digest n h b pre t whole spans = span n (size h.fields) (size (option_to_list h.separator)) whole (multi_form b (digest_below digest h) (size pre) (tail_sizes t)) spans

pub makes_part : (p : Placed) (left deeper k place delimiter : ℕ) (g : Bool) (new rest : List ℕ) (node : Node) → IsBehindParts p k place → node_span node ≡ span_of g delimiter (read deeper g (cut rest)) → deeper ≡ left - 1 → g ≡ form_digest (form_in p.digest p.entity)
    → ((l : TextLine) (ls : List TextLine) → cut new ≡ l ∷ ls → cut rest ≡ ls) → delimiter ≡ length new - length rest
    → MakesAll p left (HasPart k new) new (record { place = place; count = 0; own = own.Part k node })
makes_part p left deeper k place delimiter g new rest node a n v q following m = λ e b lines well.
    let front = front_of b.head b.preamble b.before in
    let own_text : text_of (b.delimiter ∷ print b.new) ≡ new = b.text_is in
    let rd = part_read left p.digest g k new rest p.entity e b q following lines well in
    let sides : print p.entity ≡ front ++ ([] ++ rest_of b.after b.tail) = ap print b.section_is ∙ print_sides b.head b.boundary b.preamble b.before b.after b.tail in
    let after : text_of (print e) ≡ text_of front ++ (new ++ text_of (rest_of b.after b.tail)) =
    ap (λ x. text_of (print x)) b.result_is
    ∙ (ap text_of (print_with b.head b.boundary b.preamble b.before b.delimiter b.new b.after b.tail)
    ∙ (text_apart front (b.delimiter ∷ print b.new) (rest_of b.after b.tail) ∙ ap (λ t. text_of front ++ (t ++ text_of (rest_of b.after b.tail))) own_text)) in
    let c = changed_so p e new front [] (rest_of b.after b.tail) place 0 sides after (a b.head b.boundary b.preamble b.before b.after b.tail b.section_is b.place_is) refl in
    let delimiter_size : delimiter ≡ size (b.delimiter ∷ []) = omega (arith, m, rd.1) in
    let child : node_span node ≡ span_of (digest_below p.digest b.head) (size (b.delimiter ∷ [])) b.new =
    n ∙ ((λ i. span_of (rd.2 i) (delimiter_size i) (read (v i) g (cut rest))) ∙ ap (span_of (digest_below p.digest b.head) (size (b.delimiter ∷ []))) rd.0) in
    let made = multi b.head b.boundary b.preamble (append_parts b.before (part b.delimiter b.new b.after)) b.tail in
    let old = multi b.head b.boundary b.preamble (append_parts b.before b.after) b.tail in
    let whole : size (print old) - 0 + length new ≡ size (print made) = ap (λ x. size (print x) - 0 + length new) (sym b.section_is) ∙ (sym c.longer ∙ ap (λ x. size (print x)) b.result_is) in
    record {
      begins = c.begins;
      ends = c.ends;
      text = c.text;
      lengths = λ j.
          ap (λ x. own_changed (own.Part k node) 0 (length new) (span_of p.digest j x)) b.section_is
          ∙ ((λ i. multi_span p.digest j b.head b.boundary b.preamble b.tail (whole i) (with_span (sym b.place_is i) (child i) (spans_of (digest_below p.digest b.head) (append_parts b.before b.after))))
          ∙ (ap (multi_span p.digest j b.head b.boundary b.preamble b.tail (size (print made))) (spans_with_one (digest_below p.digest b.head) b.before b.delimiter b.new b.after) ∙ ap (span_of p.digest j) (sym b.result_is)));
      fits = λ j. subst (λ x. FitsOwn (own.Part k node) 0 (span_of p.digest j x)) (sym b.section_is) (subst (λ m. m ≤ span_count (spans_of (digest_below p.digest b.head) (append_parts b.before b.after))) b.place_is (counts_with (digest_below p.digest b.head) b.before b.after));
    }

-- without a part
append_last : (before : Parts) (l : TextLine) (x : Entity) (after : Parts) → append_parts before (part l x after) ≡ append_parts (append_parts before (part l x no_parts)) after
append_last no_parts l x after = refl
append_last (part m e ps) l x after = ap (part m e) (append_last ps l x after)

count_last : (before : Parts) (l : TextLine) (x : Entity) → part_count (append_parts before (part l x no_parts)) ≡ suc (part_count before)
count_last no_parts l x = refl
count_last (part m e ps) l x = ap suc (count_last ps l x)

-- where the part is, from its delimiter on
pub record IsAtPart (p : Placed) (number place end : ℕ) (h : Head) (pre : List TextLine) (before : Parts) (l : TextLine) (x : Entity) : Type 0 where
  pub counts : 1 ≤ number
  pub begins : place ≡ p.start + size (front_of h pre before)
  pub ends : end ≡ place + size (l ∷ print x)

pub at_part : (p : Placed) (number place end : ℕ) (e : Entity) (b : LacksPart number p.entity e) → IsBehindParts p (number - 1) place → IsBehindParts p number end → IsAtPart p number place end b.head b.preamble b.before b.delimiter b.old
at_part p number place end e b f g =
    let begins = f b.head b.boundary b.preamble b.before (part b.delimiter b.old b.after) b.tail b.section_is (omega (arith, b.number_is)) in
    let last = append_parts b.before (part b.delimiter b.old no_parts) in
    let ends = g b.head b.boundary b.preamble last b.after b.tail (b.section_is ∙ ap (λ qs. multi b.head b.boundary b.preamble qs b.tail) (append_last b.before b.delimiter b.old b.after)) (count_last b.before b.delimiter b.old ∙ b.number_is) in
    let own : List TextLine = b.delimiter ∷ print b.old in
    let printed : size (print_parts last) ≡ size (print_parts b.before) + size own =
    omega (arith, ap size (print_append b.before (part b.delimiter b.old no_parts)), size_append (print_parts b.before) (b.delimiter ∷ (print b.old ++ [])), size_append own []) in
    record {
      counts = omega (arith, b.number_is);
      begins = begins;
      ends = omega (arith, begins, ends, printed, size_append (head_lines b.head) (b.preamble ++ print_parts b.before), size_append b.preamble (print_parts b.before), size_append (head_lines b.head) (b.preamble ++ print_parts last), size_append b.preamble (print_parts last));
    }

pub makes_removal : (p : Placed) (left number place end : ℕ) → IsBehindParts p (number - 1) place → IsBehindParts p number end → MakesAll p left (LacksPart number) [] (record { place = place; count = end - place; own = own.NoPart (number - 1) })
makes_removal p left number place end f g = λ e b lines well.
    let a = at_part p number place end e b f g in
    let front = front_of b.head b.preamble b.before in
    let old : List TextLine = b.delimiter ∷ print b.old in
    let made = multi b.head b.boundary b.preamble (append_parts b.before b.after) b.tail in
    let was = multi b.head b.boundary b.preamble (append_parts b.before (part b.delimiter b.old b.after)) b.tail in
    let sides : print p.entity ≡ front ++ (old ++ rest_of b.after b.tail) = ap print b.section_is ∙ print_with b.head b.boundary b.preamble b.before b.delimiter b.old b.after b.tail in
    let after : text_of (print e) ≡ text_of front ++ ([] ++ text_of (rest_of b.after b.tail)) =
    ap (λ x. text_of (print x)) b.result_is ∙ (ap text_of (print_sides b.head b.boundary b.preamble b.before b.after b.tail) ∙ text_append front (rest_of b.after b.tail)) in
    let c = changed_so p e [] front old (rest_of b.after b.tail) place (end - place) sides after a.begins (omega (arith, a.ends)) in
    let whole : size (print was) - (end - place) + 0 ≡ size (print made) = ap (λ x. size (print x) - (end - place) + 0) (sym b.section_is) ∙ (sym c.longer ∙ ap (λ x. size (print x)) b.result_is) in
    let count : number - 1 ≡ part_count b.before = omega (arith, b.number_is) in
    record {
      begins = c.begins;
      ends = c.ends;
      text = c.text;
      lengths = λ j.
          ap (λ x. own_changed (own.NoPart (number - 1)) (end - place) 0 (span_of p.digest j x)) b.section_is
          ∙ ((λ i. multi_span p.digest j b.head b.boundary b.preamble b.tail (whole i) (without_span (count i) (spans_of (digest_below p.digest b.head) (append_parts b.before (part b.delimiter b.old b.after)))))
          ∙ (ap (multi_span p.digest j b.head b.boundary b.preamble b.tail (size (print made))) (spans_without_one (digest_below p.digest b.head) b.before b.delimiter b.old b.after) ∙ ap (span_of p.digest j) (sym b.result_is)));
      fits = λ j.
          subst (λ x. FitsOwn (own.NoPart (number - 1)) (end - place) (span_of p.digest j x)) (sym b.section_is)
          (subst (λ m. m < span_count (spans_of (digest_below p.digest b.head) (append_parts b.before (part b.delimiter b.old b.after)))) (sym count) (counts_within (digest_below p.digest b.head) b.before b.delimiter b.old b.after));
    }
