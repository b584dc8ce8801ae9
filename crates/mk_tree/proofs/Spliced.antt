-- A document where a section becomes another entity: its bytes and the lengths of its tree.
use Rattle.std.proofs.Common.{◌≡◌, ◌≤◌, ◌<◌, ◌+◌, ◌-◌, ◌^◌, ◌++◌, ℕ, zero, suc, Bool, false, Option, None, Some, List, [], ◌∷◌, refl, ap, sym, ◌∙◌, subst, length, take, drop, arith, length-append, option_and_then}
use Rattle.std.proofs.Math.Seq.{take-length}
use Rattle.std.proofs.lemmas.List.{take_at, drop_at}
use Rattle.std.specs.Option.{option_map, option_to_list}
use Rattle.mk_line.specs.Lines.{TextLine, AreLines, text_of}
use Rattle.mk_line.proofs.Cuts.{lines_cut, lines_following, text_append}
use Rattle.mk_tree.specs.declared.changing.Own.TheVariants as own
use Rattle.mk_tree.specs.declared.planning.Plan.{Plan}
use Rattle.mk_tree.specs.Tree.{Entity, print, field_lines, with_fields}
use Rattle.mk_tree.specs.Documents.{Document, IsStable, levels, tree, printed}
use Rattle.mk_tree.specs.Spans.{size, Span, span_of}
use Rattle.mk_tree.specs.Reading.{IsWellRead}
use Rattle.mk_tree.specs.Sections.{Placed, section_at, head_text, raw_of}
use Rattle.mk_tree.specs.Places.{Frame, below, left_at, default_at, lines_before, lines_after, place_at, step_to, placed, put}
use Rattle.mk_tree.specs.Changed.{FitsOwn, LeadsTo, own_changed, respan}
use Rattle.mk_splice.specs.Splices.{spliced}
use Rattle.mk_tree.specs.Splicing.{ChangesFields, IsDigestOf, DigestsAt, DigestsBelow, SectionBecomes, HasPart, PartGoes}
use Rattle.mk_tree.specs.Planning.{LacksPart, Makes, MakesAll, Puts}
use Rattle.mk_tree.proofs.Kept.{text_kept}
use Rattle.mk_tree.proofs.Descent.{size_append}
use Rattle.mk_tree.proofs.Heads.{lines_front}
use Rattle.mk_tree.proofs.Placed.{place_plug, sections_placed}
use Rattle.mk_tree.proofs.Plugs.{lines_end, own_of}
use Rattle.mk_tree.proofs.Stability.{stable_kept}
use Rattle.mk_tree.proofs.OwnFields.{size_entity, own_fields, fields_fit}
use Rattle.mk_tree.proofs.Respans.{Grows, respan_place}
use Rattle.mk_tree.proofs.Leads.{leads_place}
use Rattle.mk_tree.proofs.FieldsChanged.{field_sizes, around_is as fields_around, size_put, stable_well}
use Rattle.mk_splice.proofs.Bytes.{length-spliced}
use Rattle.mk_tree.proofs.HeadChanged.{apart, spliced_middle, text_apart, fields_after, head_after, after_fields, entity_lines, changed_lines}

some_same : (p q : Placed) → ◌≡◌ {A = Option Placed} (Some p) (Some q) → p ≡ q
some_same p q e = ap (λ (o : Option Placed). elim o [ None ↦ p | Some r ↦ r ]) e

-- a section that is found at a path
found_at : (t : Document) (path numbers : List ℕ) (fs : List Frame) (s : Entity) → path ≡ 1 ∷ numbers → place_at numbers t.root ≡ Some (fs, s) → section_at path t ≡ Some (placed t.envelope fs s)
found_at t path numbers fs s p f = ap (λ ks. section_at ks t) p ∙ (sections_placed t numbers ∙ ap (option_map (λ q. placed t.envelope q.0 q.1)) f)

section_found : (t : Document) (path : List ℕ) (place count : ℕ) (new : List ℕ) (c : ChangesFields path place count new t) → section_at path t ≡ Some (placed t.envelope c.around c.section)
section_found t path place count new c = found_at t path c.numbers c.around c.section c.path_is c.found

-- the section that is found, by its answer
pub found_is : (t : Document) (path : List ℕ) (place count : ℕ) (new : List ℕ) (c : ChangesFields path place count new t) (o : Option Placed) (p : Placed) → o ≡ section_at path t → o ≡ Some p → p ≡ placed t.envelope c.around c.section
found_is t path place count new c o p e s = some_same p (placed t.envelope c.around c.section) (sym s ∙ (e ∙ section_found t path place count new c))

pub begins_at : (t : Document) (path : List ℕ) (place count start : ℕ) (new : List ℕ) (c : ChangesFields path place count new t) (o : Option Placed) (p : Placed) → o ≡ section_at path t → o ≡ Some p → start ≡ p.start
    → (start ≤ place) × (place - start + count ≤ length (head_text p))
begins_at t path place count start new c o p e s q =
    let f = found_is t path place count new c o p e s in
    let b : start ≡ (placed t.envelope c.around c.section).start = q ∙ ap (λ (r : Placed). r.start) f in
    let l : length (head_text p) ≡ size (field_lines c.section) = ap (λ (r : Placed). length (head_text r)) f in
    (omega (arith, b, c.begins), omega (arith, b, c.begins, c.ends, l))

digest_is : (t : Document) (path : List ℕ) (place count : ℕ) (new : List ℕ) (g : Bool) (c : ChangesFields path place count new t) → DigestsBelow path place count new t g → IsDigestOf g (default_at false c.around) c.fields c.section
digest_is t path place count new g c d =
    subst (λ fs. IsDigestOf g (default_at false c.around) fs c.section) (fields_after t path place count new c)
    (subst (DigestsAt place count new g) (section_found t path place count new c) d)

pub rest_numbers : (path numbers : List ℕ) (k : ℕ) → path ≡ k ∷ numbers → take (length path - 1) (drop 1 path) ≡ numbers
rest_numbers path numbers k e =
    ap (λ ks. take (length ks - 1) (drop 1 ks)) e ∙ (ap (λ n. take n numbers) (omega arith) ∙ take-length numbers)

-- the document by what stands around a section
pub around_is : (t : Document) (numbers : List ℕ) (fs : List Frame) (s : Entity) → place_at numbers t.root ≡ Some (fs, s) → put t.envelope fs s ≡ t
around_is t numbers fs s f = λ i. record { envelope = t.envelope; root = place_plug numbers t.root fs s f i }

put_text : (envelope : Option TextLine) (fs : List Frame) (e : Entity) → printed (put envelope fs e) ≡ text_of (option_to_list envelope ++ lines_before fs) ++ (text_of (print e) ++ text_of (lines_after fs))
put_text envelope fs e =
    ap text_of (apart envelope fs e (print e) [] (sym (lines_end (print e)))) ∙ text_apart (option_to_list envelope ++ lines_before fs) (print e) (lines_after fs)

-- what the plan makes is the document's text
pub made_text : (t : Document) (numbers : List ℕ) (fs : List Frame) (s e : Entity) (new : List ℕ) (q : Plan) → place_at numbers t.root ≡ Some (fs, s) → Makes (placed t.envelope fs s) e new q → spliced q.place q.count new (printed t) ≡ printed (put t.envelope fs e)
made_text t numbers fs s e new q f m =
    let front = text_of (option_to_list t.envelope ++ lines_before fs) in
    let rest = text_of (lines_after fs) in
    ap (λ d. spliced q.place q.count new (printed d)) (sym (around_is t numbers fs s f))
    ∙ (ap (spliced q.place q.count new) (put_text t.envelope fs s)
    ∙ (spliced_middle front (text_of (print s)) rest new q.place q.count m.begins m.ends ∙ (ap (λ x. front ++ (x ++ rest)) m.text ∙ sym (put_text t.envelope fs e))))

made_grows : (p : Placed) (e : Entity) (new : List ℕ) (q : Plan) → Makes p e new q → Grows q.count (length new) p.entity e
made_grows p e new q m =
    let room : q.count ≤ size (print p.entity) = omega (arith, m.begins, m.ends) in
    record { room = room; longer = omega (arith, room, ap length m.text, length-spliced (q.place - p.start) q.count new (raw_of p) (omega (arith, m.begins, m.ends))) }

-- what the plan makes is the document's tree
pub puts : (t : Document) (path numbers : List ℕ) (fs : List Frame) (s e : Entity) (new : List ℕ) (q : Plan) → path ≡ 1 ∷ numbers → place_at numbers t.root ≡ Some (fs, s) → IsStable (put t.envelope fs e) → Makes (placed t.envelope fs s) e new q → Puts path new t q
puts t path numbers fs s e new q p f k m =
    let grows = made_grows (placed t.envelope fs s) e new q m in
    let text = made_text t numbers fs s e new q f m in
    let before : length (printed t) ≡ size (option_to_list t.envelope) + (size (lines_before fs) + (size (print s) + size (lines_after fs))) = ap (λ d. length (printed d)) (sym (around_is t numbers fs s f)) ∙ size_put t.envelope fs s in
    let start = size_append (option_to_list t.envelope) (lines_before fs) in
    let within : q.place + q.count ≤ length (printed t) = omega (arith, m.ends, start, before) in
    record {
      numbers = numbers;
      after = put t.envelope fs e;
      path_is = p;
      within = within;
      text = ap tree text ∙ k;
      envelope = refl;
      leads = λ l.
          (leads_place numbers t.root fs s f).1 q.count (length new) (FitsOwn q.own q.count) false grows.room
          (omega (arith, l, ap length text, length-spliced q.place q.count new (printed t) within, m.begins, m.ends, start, size_append (option_to_list t.envelope) (print t.root), grows.room, (leads_place numbers t.root fs s f).0))
          m.fits 0;
      lengths = (respan_place numbers t.root fs s f q.count (length new) (own_changed q.own q.count (length new)) false e grows m.lengths).1 0;
    }

less_none : (n : ℕ) → n - length {A = ℕ} [] ≡ n
less_none n = omega arith

-- the fields of a section
fields_make : (t : Document) (path : List ℕ) (place count : ℕ) (new : List ℕ) (g : Bool) (c : ChangesFields path place count new t) → IsStable t → IsDigestOf g (default_at false c.around) c.fields c.section
    → Makes (placed t.envelope c.around c.section) (with_fields c.fields c.section) new (record { place = place; count = count; own = own.Fields g })
fields_make t path place count new g c k d =
    let sizes = field_sizes t path place count new c in
    let p = placed t.envelope c.around c.section in
    let well : IsWellRead (left_at levels c.around) (default_at false c.around) c.section =
    own_of levels false c.around c.section (stable_well t.envelope c.around c.section (subst IsStable (sym (fields_around t path place count new c)) k)) in
    let after : IsWellRead (left_at levels c.around) (default_at false c.around) (with_fields c.fields c.section) =
    own_of levels false c.around (with_fields c.fields c.section) (stable_well t.envelope c.around (with_fields c.fields c.section) c.stable) in
    let rest = text_of (after_fields c.section) in
    let head = text_of (field_lines c.section) in
    let from = place - p.start in
    let whole : raw_of p ≡ head ++ rest = ap text_of (entity_lines c.section) ∙ text_append (field_lines c.section) (after_fields c.section) in
    record {
      begins = c.begins;
      ends = omega (arith, c.ends, size_entity c.section);
      text =
          ap (spliced from count new) whole
          ∙ (spliced_middle [] head rest new from count (omega arith) (omega (arith, c.begins, c.ends))
          ∙ (ap (λ n. spliced n count new head ++ rest) (less_none from) ∙ (ap (λ x. x ++ rest) (head_after t path place count new c) ∙ (sym (text_append c.fields (after_fields c.section)) ∙ ap text_of (sym (changed_lines c.fields c.section))))));
      lengths = own_fields (left_at levels c.around) (default_at false c.around) g count (length new) c.fields c.section sizes.count_fits sizes.fields_size d well after;
      fits = fields_fit (default_at false c.around) g count c.section sizes.count_fits;
    }

pub fields_put : (t : Document) (path : List ℕ) (place count : ℕ) (new : List ℕ) (g : Bool) → ChangesFields path place count new t → IsStable t → DigestsBelow path place count new t g → Puts path new t (record { place = place; count = count; own = own.Fields g })
fields_put t path place count new g c k d =
    puts t path c.numbers c.around c.section (with_fields c.fields c.section) new (record { place = place; count = count; own = own.Fields g }) c.path_is c.found c.stable
    (fields_make t path place count new g c k (digest_is t path place count new g c d))

-- how deep a section lies
below_less : (n : ℕ) → below n ≡ n - 1
below_less zero = refl
below_less (suc n) = omega arith

left_less : (n : ℕ) (fs : List Frame) → left_at n fs ≡ n - length fs
left_less n [] = omega arith
left_less n (f ∷ fs) = left_less (below n) fs ∙ omega (arith, below_less n)

abbrev AsLong : List ℕ → Option (List Frame × Entity) → Type 0
AsLong ks None = Unit {0}
AsLong ks (Some q) = length ks ≡ length q.0

one_longer : (k : ℕ) (ks : List ℕ) (f : Frame) (o : Option (List Frame × Entity)) → AsLong ks o → AsLong (k ∷ ks) (option_map (λ q. (f ∷ q.0, q.1)) o)
one_longer k ks f None h = tt
one_longer k ks f (Some q) h = ap suc h

steps_long : (k : ℕ) (ks : List ℕ) → ((x : Entity) → AsLong ks (place_at ks x)) → (o : Option (Frame × Entity)) → AsLong (k ∷ ks) (option_and_then (λ (r : Frame × Entity). option_map (λ (q : List Frame × Entity). (r.0 ∷ q.0, q.1)) (place_at ks r.1)) o)
steps_long k ks h None = tt
steps_long k ks h (Some r) = one_longer k ks r.0 (place_at ks r.1) (h r.1)

as_long : (ks : List ℕ) (e : Entity) → AsLong ks (place_at ks e)
as_long [] e = refl
as_long (k ∷ ks) e = steps_long k ks (as_long ks) (step_to k e)

-- a plan for the section that is found makes the document that the section's becoming leads to
pub record IsMade (path : List ℕ) (new : List ℕ) (t u : Document) (q : Plan) : Type 0 where
  pub text : spliced q.place q.count new (printed t) ≡ printed u
  pub puts : Puts path new t q

pub made : (t u : Document) (path : List ℕ) (P : Entity → Entity → Type 0) (new : List ℕ) (left : ℕ) (q : Plan) (o : Option Placed) (p : Placed) → SectionBecomes path P t u → o ≡ section_at path t → o ≡ Some p → left ≡ levels - (length path - 1) → MakesAll p left P new q → IsMade path new t u q
made t u path P new left q o p b e s l m =
    let there : p ≡ placed t.envelope b.around b.section = some_same p (placed t.envelope b.around b.section) (sym s ∙ (e ∙ found_at t path b.numbers b.around b.section b.path_is b.found)) in
    let stable : IsStable (put t.envelope b.around b.new) = subst IsStable b.result b.stable in
    let deep : left ≡ left_at levels b.around =
    omega (arith, l, ap length b.path_is, subst (AsLong b.numbers) b.found (as_long b.numbers t.root), left_less levels b.around) in
    let well : IsWellRead (left_at levels b.around) (default_at false b.around) b.new = own_of levels false b.around b.new (stable_well t.envelope b.around b.new stable) in
    let front = option_to_list t.envelope ++ lines_before b.around in
    let lines : AreLines (print b.new) =
    lines_front (print b.new) (lines_after b.around)
    (lines_following front (print b.new ++ lines_after b.around)
    (subst AreLines ((stable_kept (put t.envelope b.around b.new) stable).lines ∙ apart t.envelope b.around b.new (print b.new) [] (sym (lines_end (print b.new)))) (lines_cut (printed (put t.envelope b.around b.new))))) in
    let own : Makes (placed t.envelope b.around b.section) b.new new q =
    subst (λ n. MakesAll (placed t.envelope b.around b.section) n P new q) deep (subst (λ x. MakesAll x left P new q) there m) b.new b.becomes lines well in
    record {
      text = made_text t b.numbers b.around b.section b.new new q b.found own ∙ ap printed (sym b.result);
      puts = puts t path b.numbers b.around b.section b.new new q b.path_is b.found stable own;
    }

-- the section is there, and becomes something
pub becomes_there : (t u : Document) (path : List ℕ) (P : Entity → Entity → Type 0) (o : Option Placed) (p : Placed) → SectionBecomes path P t u → o ≡ section_at path t → o ≡ Some p → (e : Entity) × P p.entity e
becomes_there t u path P o p b e s =
    let there : p ≡ placed t.envelope b.around b.section = some_same p (placed t.envelope b.around b.section) (sym s ∙ (e ∙ found_at t path b.numbers b.around b.section b.path_is b.found)) in
    (b.new, subst (λ x. P x b.new) (ap (λ (x : Placed). x.entity) (sym there)) b.becomes)

none_same : (q : Placed) → ◌≡◌ {A = Option Placed} None (Some q) → ⊥
none_same q e = cc

pub not_missing : (t u : Document) (path : List ℕ) (P : Entity → Entity → Type 0) (o : Option Placed) → SectionBecomes path P t u → o ≡ section_at path t → o ≡ None → ⊥
not_missing t u path P o b e s = none_same (placed t.envelope b.around b.section) (sym s ∙ (e ∙ found_at t path b.numbers b.around b.section b.path_is b.found))

-- the lengths of a tree that a plan changes
pub record AreChanged (path new after : List ℕ) (q : Plan) (root : Span) (envelope : ℕ) : Type 0 where
  pub leads : LeadsTo (take (length path - 1) (drop 1 path)) q.count (length new) (FitsOwn q.own q.count) root
  pub lengths : respan (take (length path - 1) (drop 1 path)) q.count (length new) (own_changed q.own q.count (length new)) root ≡ span_of false 0 (tree after).root
  pub front : envelope ≡ size (option_to_list (tree after).envelope)

pub put_within : (path new old : List ℕ) (q : Plan) → Puts path new (tree old) q → q.place + q.count ≤ length old
put_within path new old q h = omega (arith, h.within, ap length (text_kept old))

pub put_changed : (path new old after : List ℕ) (q : Plan) (root : Span) (envelope : ℕ) → Puts path new (tree old) q → root ≡ span_of false 0 (tree old).root → envelope ≡ size (option_to_list (tree old).envelope) → after ≡ spliced q.place q.count new old
    → length old + (length new - q.count) < 2 ^ 64 → AreChanged path new after q root envelope
put_changed path new old after q root envelope h r f e l =
    let numbers = rest_numbers path h.numbers 1 h.path_is in
    let tree_is : h.after ≡ tree after = sym h.text ∙ (ap (λ x. tree (spliced q.place q.count new x)) (text_kept old) ∙ ap tree (sym e)) in
    let room : length (printed h.after) < 2 ^ 64 =
    omega (arith, l, ap (λ d. length (printed d)) tree_is, ap length (text_kept after), ap length e, length-spliced q.place q.count new old (put_within path new old q h), put_within path new old q h) in
    let all = own_changed q.own q.count (length new) in
    record {
      leads =
          subst (λ ks. LeadsTo ks q.count (length new) (FitsOwn q.own q.count) root) (sym numbers) (subst (LeadsTo h.numbers q.count (length new) (FitsOwn q.own q.count)) (sym r) (h.leads room));
      lengths = ap (λ ks. respan ks q.count (length new) all root) numbers ∙ (ap (respan h.numbers q.count (length new) all) r ∙ (h.lengths ∙ ap (λ (d : Document). span_of false 0 d.root) tree_is));
      front = f ∙ (ap (λ o. size (option_to_list o)) (sym h.envelope) ∙ ap (λ (d : Document). size (option_to_list d.envelope)) tree_is);
    }

-- paths by their last number
abbrev first_or : ℕ → List ℕ → ℕ
first_or k [] = k
first_or k (n ∷ ns) = n

pub last_same : (xs ys : List ℕ) (x y : ℕ) → xs ++ x ∷ [] ≡ ys ++ y ∷ [] → (xs ≡ ys) × (x ≡ y)
last_same xs ys x y e =
    let l : length xs ≡ length ys = omega (arith, ap length e, length-append xs (x ∷ []), length-append ys (y ∷ [])) in (
      sym (take_at xs (x ∷ []) (length xs) refl) ∙ (ap (take (length xs)) e ∙ take_at ys (y ∷ []) (length xs) (sym l)),
      ap (first_or x) (sym (drop_at xs (x ∷ []) (length xs) refl) ∙ (ap (drop (length xs)) e ∙ drop_at ys (y ∷ []) (length xs) (sym l))),
    )

lacks_part : (before : ℕ) (text : List ℕ) (s e : Entity) → HasPart before text e s → LacksPart (suc before) s e
lacks_part before text s e h = record {
  head = h.head;
  boundary = h.boundary;
  preamble = h.preamble;
  before = h.before;
  delimiter = h.delimiter;
  old = h.new;
  after = h.after;
  tail = h.tail;
  section_is = h.result_is;
  result_is = h.section_is;
  number_is = ap suc h.place_is;
}

becomes_less : (path : List ℕ) (before : ℕ) (text : List ℕ) (t u : Document) → SectionBecomes path (λ s e. HasPart before text e s) t u → SectionBecomes path (LacksPart (suc before)) t u
becomes_less path before text t u b = record {
  numbers = b.numbers;
  around = b.around;
  section = b.section;
  new = b.new;
  path_is = b.path_is;
  found = b.found;
  becomes = lacks_part before text b.section b.new b.becomes;
  result = b.result;
  stable = b.stable;
}

-- a part that goes, by the path of what holds it
pub part_goes : (path around : List ℕ) (number : ℕ) (t u : Document) → path ≡ around ++ number ∷ [] → PartGoes path t u → SectionBecomes around (LacksPart number) t u
part_goes path around number t u e g =
    let s = last_same g.around around (suc g.before) number (sym g.path_is ∙ e) in
    subst (λ (q : List ℕ × ℕ). SectionBecomes q.0 (LacksPart q.1) t u) (λ i. (s.0 i, s.1 i)) (becomes_less g.around g.before g.text t u g.becomes)
