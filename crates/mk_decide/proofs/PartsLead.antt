-- The splices of new bodies, sections and parts, and of parts that go, lead from text to text.
use Rattle.std.proofs.Common.{◌≡◌, ◌+◌, ◌-◌, ◌++◌, ℕ, zero, suc, false, Option, None, Some, List, [], ◌∷◌, refl, ap, sym, ◌∙◌, subst, arith, append_assoc}
use Rattle.std.specs.Option.{option_map, option_to_list}
use Rattle.mk_line.specs.declared.cutting.Ending.{Ending}
use Rattle.mk_line.specs.Lines.{TextLine, text_of, cut, text_line}
use Rattle.mk_line.proofs.Cuts.{text_append, text_cut, append_nil}
use Rattle.mk_head.specs.Split.{Head, head_lines}
use Rattle.mk_tree.specs.Cutting.{tail_lines}
use Rattle.mk_tree.specs.Tree.{Entity, leaf, message, multi, Parts, no_parts, part, read, print, print_parts, entity_head}
use Rattle.mk_tree.specs.Documents.{levels, printed}
use Rattle.mk_tree.specs.Spans.{size, digest_below}
use Rattle.mk_tree.specs.Sections.{body_lines}
use Rattle.mk_tree.specs.Places.{Frame, in_message, in_multi, append_parts, plug_one, plug, put, placed, below, left_at, default_at, lines_before}
use Rattle.mk_tree.proofs.Descent.{size_append}
use Rattle.mk_tree.proofs.Kept.{print_read}
use Rattle.mk_line.specs.Marks.{delimiter_line}
use Rattle.mk_decide.specs.Wrapping.{wrapped}
use Rattle.std.specs.Prelude.{unwrap_or}
use Rattle.mk_decide.specs.Plans.{plain_plan, parts_at, set_body, insert, without, last_without, wrap}
use Rattle.mk_decide.proofs.PlanNames.{read_plan, part_read, insert_between, remove}
use Rattle.mk_splice.specs.Splices.{Splice}
use Rattle.mk_decide.specs.EditSplices.{one_splice, made_separator, front_lines, part_splices, own_delimiter}
use Rattle.mk_decide.proofs.Answered.{Holds}
use Rattle.mk_decide.proofs.Leads.{Led, Within, put_led, put_first, IsLed}
use Rattle.mk_decide.proofs.PartChanges.{Sides, sides, print_added, print_sides}
use Rattle.mk_decide.proofs.Replacing.{LastWithout, without_is}

-- another section
whole_within : (s n : Entity) → Within s n 0 (text_of (print s)) (text_of (print n))
whole_within s n = record {
  front = [];
  following = [];
  at_is = refl;
  before = sym (append_nil (text_of (print s)));
  after = sym (append_nil (text_of (print n)));
}

pub wrap_led : (envelope : Option TextLine) (eol : Ending) (fs : List Frame) (s : Entity) (subtype boundary : List ℕ)
    → IsLed envelope fs s (one_splice (placed envelope fs s).start (text_of (print s)) (text_of (print (wrapped eol fs s subtype boundary)))) (wrap eol fs s subtype boundary)
wrap_led envelope eol fs s subtype boundary =
    let new = wrapped eol fs s subtype boundary in
    put_first envelope fs s new (text_of (print s)) (text_of (print new)) (whole_within s new)

pub read_led : (envelope : Option TextLine) (fs : List Frame) (s : Entity) (text : List ℕ) → IsLed envelope fs s (one_splice (placed envelope fs s).start (text_of (print s)) text) (read_plan fs (cut text))
read_led envelope fs s text =
    let new = read (left_at levels fs) (default_at false fs) (cut text) in
    let kept : text_of (print new) ≡ text = ap text_of (print_read (left_at levels fs) (default_at false fs) (cut text)) ∙ text_cut text in
    put_first envelope fs s new (text_of (print s)) text (subst (Within s new 0 (text_of (print s))) kept (whole_within s new))

-- another body, after the separator or a made one
pub separated : (eol : Ending) (o : Option TextLine) → unwrap_or o (text_line [] eol) ∷ [] ≡ option_to_list o ++ made_separator eol o
separated eol None = refl
separated eol (Some l) = refl

body_text : (eol : Ending) (h : Head) (text : List ℕ) → text_of ((h.fields ++ (unwrap_or h.separator (text_line [] eol) ∷ [])) ++ cut text) ≡ text_of (head_lines h) ++ ((text_of (made_separator eol h.separator) ++ text) ++ [])
body_text eol h text =
    let made = made_separator eol h.separator in
    let head : h.fields ++ (unwrap_or h.separator (text_line [] eol) ∷ []) ≡ head_lines h ++ made = ap (λ ls. h.fields ++ ls) (separated eol h.separator) ∙ sym (append_assoc h.fields (option_to_list h.separator) made) in
    ap (λ ls. text_of (ls ++ cut text)) head
    ∙ (text_append (head_lines h ++ made) (cut text)
    ∙ (ap (λ t. t ++ text_of (cut text)) (text_append (head_lines h) made)
    ∙ (append_assoc (text_of (head_lines h)) (text_of made) (text_of (cut text))
    ∙ ap (λ t. text_of (head_lines h) ++ t) (ap (λ t. text_of made ++ t) (text_cut text) ∙ sym (append_nil (text_of made ++ text))))))

pub body_led : (envelope : Option TextLine) (eol : Ending) (fs : List Frame) (s : Entity) (text : List ℕ)
    → Holds (IsLed envelope fs s (one_splice ((placed envelope fs s).start + size (head_lines (entity_head s))) (text_of (body_lines s)) (text_of (made_separator eol (entity_head s).separator) ++ text))) (set_body eol fs s (cut text))
body_led envelope eol fs (message h e) text = tt
body_led envelope eol fs (multi h b pre ps t) text = tt
body_led envelope eol fs (leaf h ls) text =
    put_led envelope fs (leaf h ls) (leaf (record { fields = h.fields; separator = Some (unwrap_or h.separator (text_line [] eol)) }) (cut text)) (size (head_lines h)) (text_of ls) (text_of (made_separator eol h.separator) ++ text)
    (record {
      front = text_of (head_lines h);
      following = [];
      at_is = refl;
      before = text_append (head_lines h) ls ∙ ap (λ t. text_of (head_lines h) ++ t) (sym (append_nil (text_of ls)));
      after = body_text eol h text;
    })

-- the lines of a multipart at the start of a part, and after it
abbrev pub front_of : Head → List TextLine → Parts → List TextLine
front_of h pre before = head_lines h ++ (pre ++ print_parts before)

abbrev rest_of : Parts → Option (TextLine × List TextLine) → List TextLine
rest_of after t = print_parts after ++ tail_lines t

part_text : (h : Head) (b : List ℕ) (pre : List TextLine) (before : Parts) (l : TextLine) (x : Entity) (after : Parts) (t : Option (TextLine × List TextLine))
    → text_of (print (multi h b pre (append_parts before (part l x after)) t)) ≡ text_of (front_of h pre before) ++ (text_of (l ∷ print x) ++ text_of (rest_of after t))
part_text h b pre before l x after t =
    ap text_of (print_added h b pre before l x after t)
    ∙ (text_append (front_of h pre before) ((l ∷ print x) ++ rest_of after t) ∙ ap (λ s. text_of (front_of h pre before) ++ s) (text_append (l ∷ print x) (rest_of after t)))

sides_text : (h : Head) (b : List ℕ) (pre : List TextLine) (before after : Parts) (t : Option (TextLine × List TextLine))
    → text_of (print (multi h b pre (append_parts before after) t)) ≡ text_of (front_of h pre before) ++ text_of (rest_of after t)
sides_text h b pre before after t = ap text_of (print_sides h b pre before after t) ∙ text_append (front_of h pre before) (rest_of after t)

-- a part more
abbrev pub FrontOf : ℕ → Parts → Option (Parts × Parts) → Type 0
FrontOf k ps None = Unit {0}
FrontOf k ps (Some q) = front_lines k ps ≡ print_parts q.0

front_later : (k : ℕ) (l : TextLine) (e : Entity) (ps : Parts) (o : Option (Parts × Parts)) → FrontOf k ps o → FrontOf (suc k) (part l e ps) (option_map (λ q. (part l e q.0, q.1)) o)
front_later k l e ps None h = tt
front_later k l e ps (Some q) h = ap (λ ls. l ∷ (print e ++ ls)) h

pub front_is : (k : ℕ) (ps : Parts) → FrontOf k ps (parts_at k ps)
front_is zero ps = refl
front_is (suc k) no_parts = tt
front_is (suc k) (part l e ps) = front_later k l e ps (parts_at k ps) (front_is k ps)

made_part : (fs : List Frame) (h : Head) (l : TextLine) (text : List ℕ) → text_of (l ∷ print (part_read fs h (cut text))) ≡ text_of (l ∷ []) ++ text
made_part fs h l text =
    text_append (l ∷ []) (print (part_read fs h (cut text)))
    ∙ ap (λ t. text_of (l ∷ []) ++ t) (ap text_of (print_read (below (left_at levels fs)) (digest_below (default_at false fs) h) (cut text)) ∙ text_cut text)

between_led : (envelope : Option TextLine) (eol : Ending) (fs : List Frame) (h : Head) (b : List ℕ) (pre : List TextLine) (t : Option (TextLine × List TextLine)) (text : List ℕ) (place : ℕ) (ps : Parts) (o : Option (Parts × Parts)) → Sides ps o → FrontOf place ps o
    → Holds (IsLed envelope fs (multi h b pre ps t) (part_splices eol (placed envelope fs (multi h b pre ps t)).start place text (multi h b pre ps t))) (insert_between eol fs h b pre t (cut text) o)
between_led envelope eol fs h b pre t text place ps None s f = tt
between_led envelope eol fs h b pre t text place ps (Some q) s f =
    let l = delimiter_line eol b in
    put_led envelope fs (multi h b pre ps t) (multi h b pre (append_parts q.0 (part l (part_read fs h (cut text)) q.1)) t) (size (head_lines h ++ (pre ++ front_lines place ps))) [] (text_of (l ∷ []) ++ text)
    (record {
      front = text_of (front_of h pre q.0);
      following = text_of (rest_of q.1 t);
      at_is = ap (λ ls. size (head_lines h ++ (pre ++ ls))) f;
      before = ap (λ qs. text_of (print (multi h b pre qs t))) (sym s) ∙ sides_text h b pre q.0 q.1 t;
      after = part_text h b pre q.0 l (part_read fs h (cut text)) q.1 t ∙ ap (λ x. text_of (front_of h pre q.0) ++ (x ++ text_of (rest_of q.1 t))) (made_part fs h l text);
    })

pub insert_led : (envelope : Option TextLine) (eol : Ending) (fs : List Frame) (s : Entity) (place : ℕ) (text : List ℕ) → Holds (IsLed envelope fs s (part_splices eol (placed envelope fs s).start place text s)) (insert eol fs s place (cut text))
insert_led envelope eol fs (leaf h ls) place text = tt
insert_led envelope eol fs (message h e) place text = tt
insert_led envelope eol fs (multi h b pre ps t) place text = between_led envelope eol fs h b pre t text place ps (parts_at place ps) (sides place ps) (front_is place ps)

-- frames around others
plug_join : (fs gs : List Frame) (e : Entity) → plug (fs ++ gs) e ≡ plug fs (plug gs e)
plug_join [] gs e = refl
plug_join (f ∷ fs) gs e = ap (plug_one f) (plug_join fs gs e)

pub before_join : (fs gs : List Frame) → lines_before (fs ++ gs) ≡ lines_before fs ++ lines_before gs
before_join [] gs = refl
before_join (in_message h ∷ fs) gs = ap (λ ls. head_lines h ++ ls) (before_join fs gs) ∙ sym (append_assoc (head_lines h) (lines_before fs) (lines_before gs))
before_join (in_multi h b pre before l after t ∷ fs) gs = rw (before_join fs gs) (simp append_assoc refl)

pub last_delimiter : (fs : List Frame) (f : Frame) → own_delimiter (fs ++ (f ∷ [])) ≡ own_delimiter (f ∷ [])
last_delimiter [] f = refl
last_delimiter (in_message h ∷ []) f = refl
last_delimiter (in_multi h b pre before l after t ∷ []) f = refl
last_delimiter (in_message h ∷ g ∷ fs) f = last_delimiter (g ∷ fs) f
last_delimiter (in_multi h b pre before l after t ∷ g ∷ fs) f = last_delimiter (g ∷ fs) f

-- a part that goes, with its delimiter: its splice
abbrev pub gone_splices : Option TextLine → List Frame → Entity → List Splice
gone_splices envelope fs s = one_splice ((placed envelope fs s).start - size (own_delimiter fs)) (text_of (own_delimiter fs ++ print s)) []

start_back : (envelope : Option TextLine) (gs : List Frame) (h : Head) (b : List ℕ) (pre : List TextLine) (before : Parts) (l : TextLine) (after : Parts) (t : Option (TextLine × List TextLine))
    → size (option_to_list envelope ++ lines_before (gs ++ (in_multi h b pre before l after t ∷ []))) - size (l ∷ []) ≡ size (option_to_list envelope ++ lines_before gs) + size (front_of h pre before)
start_back envelope gs h b pre before l after t =
    let around = option_to_list envelope ++ lines_before gs in
    let lines : option_to_list envelope ++ lines_before (gs ++ (in_multi h b pre before l after t ∷ [])) ≡ around ++ (front_of h pre before ++ (l ∷ [])) =
    ap (λ ls. option_to_list envelope ++ ls) (before_join gs (in_multi h b pre before l after t ∷ [])) ∙ simp append_assoc refl in
    omega (arith, ap size lines, size_append around (front_of h pre before ++ (l ∷ [])), size_append (front_of h pre before) (l ∷ []))

gone_within : (h : Head) (b : List ℕ) (pre : List TextLine) (before : Parts) (l : TextLine) (s : Entity) (after : Parts) (t : Option (TextLine × List TextLine))
    → Within (multi h b pre (append_parts before (part l s after)) t) (multi h b pre (append_parts before after) t) (size (front_of h pre before)) (text_of (l ∷ print s)) []
gone_within h b pre before l s after t = record {
  front = text_of (front_of h pre before);
  following = text_of (rest_of after t);
  at_is = refl;
  before = part_text h b pre before l s after t;
  after = sides_text h b pre before after t;
}

gone_led : (envelope : Option TextLine) (gs : List Frame) (h : Head) (b : List ℕ) (pre : List TextLine) (before : Parts) (l : TextLine) (s : Entity) (after : Parts) (t : Option (TextLine × List TextLine)) (fs : List Frame) → fs ≡ gs ++ (in_multi h b pre before l after t ∷ [])
    → Led (printed (put envelope fs s)) (printed (put envelope gs (multi h b pre (append_parts before after) t))) (gone_splices envelope fs s)
gone_led envelope gs h b pre before l s after t fs e =
    let new = multi h b pre (append_parts before after) t in
    let f = in_multi h b pre before l after t in
    let mark : own_delimiter (gs ++ (f ∷ [])) ≡ l ∷ [] = last_delimiter gs f in
    let place : size (option_to_list envelope ++ lines_before (gs ++ (f ∷ []))) - size (own_delimiter (gs ++ (f ∷ []))) ≡ size (option_to_list envelope ++ lines_before gs) + size (front_of h pre before) =
    ap (λ ls. size (option_to_list envelope ++ lines_before (gs ++ (f ∷ []))) - size ls) mark ∙ start_back envelope gs h b pre before l after t in
    let led = put_led envelope gs (plug_one f s) new (size (front_of h pre before)) (text_of (l ∷ print s)) [] (gone_within h b pre before l s after t) in
    let there = subst (λ (root : Entity). Led (printed (record { envelope = envelope; root = root })) (printed (put envelope gs new)) (one_splice (size (option_to_list envelope ++ lines_before gs) + size (front_of h pre before)) (text_of (l ∷ print s)) [])) (sym (plug_join gs (f ∷ []) s)) led in
    let named = subst (λ ls. Led (printed (put envelope (gs ++ (f ∷ [])) s)) (printed (put envelope gs new)) (one_splice (size (option_to_list envelope ++ lines_before gs) + size (front_of h pre before)) (text_of (ls ++ print s)) [])) (sym mark) there in
    let begun = subst (λ k. Led (printed (put envelope (gs ++ (f ∷ [])) s)) (printed (put envelope gs new)) (one_splice k (text_of (own_delimiter (gs ++ (f ∷ [])) ++ print s)) [])) (sym place) named in
    subst (λ rs. Led (printed (put envelope rs s)) (printed (put envelope gs new)) (gone_splices envelope rs s)) (sym e) begun

none_some : {A : Type 0} (e : Entity) → ◌≡◌ {A = Option Entity} None (Some e) → A
none_some e h = cc

some_same : (d e : Entity) → ◌≡◌ {A = Option Entity} (Some d) (Some e) → d ≡ e
some_same d e h = cc

last_led : (envelope : Option TextLine) (fs gs : List Frame) (s new : Entity) (f : Frame) → fs ≡ gs ++ (f ∷ []) → without f ≡ Some new → IsLed envelope fs s (gone_splices envelope fs s) (plain_plan gs new [])
last_led envelope fs gs s new (in_message h) e w = none_some new w
last_led envelope fs gs s new (in_multi h b pre before l after t) e w =
    subst (λ n. Led (printed (put envelope fs s)) (printed (put envelope gs n)) (gone_splices envelope fs s)) (some_same (multi h b pre (append_parts before after) t) new w)
    (gone_led envelope gs h b pre before l s after t fs e)

remove_by : (envelope : Option TextLine) (fs : List Frame) (s : Entity) (o : Option (List Frame × Entity)) → LastWithout fs o → Holds (IsLed envelope fs s (gone_splices envelope fs s)) (remove o)
remove_by envelope fs s None h = tt
remove_by envelope fs s (Some q) h = last_led envelope fs q.0 s q.1 h.0 h.1 h.2

pub remove_led : (envelope : Option TextLine) (fs : List Frame) (s : Entity) → Holds (IsLed envelope fs s (gone_splices envelope fs s)) (remove (last_without fs))
remove_led envelope fs s = remove_by envelope fs s (last_without fs) (without_is fs)
