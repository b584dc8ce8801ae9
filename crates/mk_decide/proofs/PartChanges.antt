-- New sections, bodies and parts show of themselves what an edit has to.
use Rattle.std.proofs.Common.{◌≡◌, ◌++◌, ℕ, zero, suc, Bool, true, false, Option, None, Some, List, [], ◌∷◌, refl, ap, sym, subst, append_assoc}
use Rattle.std.specs.Option.{option_map, option_to_list}
use Rattle.mk_line.specs.declared.cutting.Ending.{Ending}
use Rattle.mk_line.specs.declared.marks.Mark.TheVariants.{No, Part}
use Rattle.mk_line.specs.Lines.{TextLine, cut, is_open, IsLine, is_nil, text_line}
use Rattle.mk_line.specs.Marks.{mark, delimiter_line}
use Rattle.mk_line.proofs.Cuts.{lines_cut}
use Rattle.mk_head.specs.Split.{Head, is_empty, head_lines}
use Rattle.mk_head.specs.Splits.{Follows}
use Rattle.std.specs.Prelude.{not, unwrap_or}
use Rattle.mk_tree.specs.Cutting.{tail_lines, Unmarked}
use Rattle.mk_tree.specs.Tree.{Entity, leaf, message, multi, Parts, no_parts, part, read, print, print_parts, entity_head, field_lines}
use Rattle.mk_tree.specs.Documents.{levels}
use Rattle.mk_tree.specs.Spans.{digest_below}
use Rattle.mk_tree.specs.Sections.{body_lines}
use Rattle.mk_tree.specs.Places.{Frame, append_parts, below, left_at, default_at}
use Rattle.mk_tree.specs.Reading.{IsWellRead, AreWellRead}
use Rattle.mk_tree.specs.Splicing.{part_count}
use Rattle.mk_tree.proofs.Kept.{print_read}
use Rattle.mk_tree.proofs.WellRead.{read_well}
use Rattle.mk_tree.proofs.Plugs.{unmarked_left, unmarked_right, unmarked_join, print_append}
use Rattle.mk_decide.specs.Plans.{Plan, part_plan, set_body, insert, parts_at}
use Rattle.mk_decide.proofs.PlanNames.{read_plan, part_read, insert_between, HeaderEnds}
use Rattle.mk_decide.proofs.Openings.{Each, each_line, each_join, each_front, each_back}
use Rattle.mk_decide.proofs.Answered.{Holds}
use Rattle.mk_decide.proofs.Late.{plain_fair, part_fair}
use Rattle.mk_decide.proofs.Locals.{IsEdit}
use Rattle.mk_decide.proofs.NewFields.{ends_follow, follow_ends}
use Rattle.mk_decide.proofs.Bounds.{read_bound, made_line, delimiter_is, delimiter_mark}

-- a section read from a text
pub read_edit : (fs : List Frame) (s : Entity) (text : List ℕ) → IsEdit (left_at levels fs) (default_at false fs) s (read_plan fs (cut text)) (Unit {0})
read_edit fs s text =
    let n = left_at levels fs in
    let d = default_at false fs in
    let kept : print (read n d (cut text)) ≡ cut text = print_read n d (cut text) in
    record {
      fair = plain_fair fs (read n d (cut text)) (cut text) (λ b u. subst (Unmarked b) kept u);
      lines = λ w k e. subst Each (sym kept) (each_line (cut text) (lines_cut text));
      marks = λ b w u v. subst (Unmarked b) (sym kept) v;
      asked_of = λ w e v. tt;
      of_asked = λ w e u k. read_well n d (cut text);
    }

-- a separator, made or not
pub separator_line : (eol : Ending) (o : Option TextLine) → is_open eol ≡ false → Each (option_to_list o) → IsLine (unwrap_or o (text_line [] eol))
separator_line eol None c e = made_line eol [] c refl refl
separator_line eol (Some l) c e = e.0

pub separator_mark : (b : List ℕ) (eol : Ending) (o : Option TextLine) → Unmarked b (option_to_list o) → mark b (unwrap_or o (text_line [] eol)).content ≡ No
separator_mark b eol None u = refl
separator_mark b eol (Some l) u = u.0

pub separator_empty : (eol : Ending) (inside : Bool) (o : Option TextLine) (ls : List TextLine) → Follows inside o ls → is_empty (unwrap_or o (text_line [] eol)) ≡ true
separator_empty eol inside None ls f = refl
separator_empty eol inside (Some l) ls f = f

-- the body of a leaf
abbrev pub NewBody : Ending → List Frame → Entity → Plan → Type 0
NewBody eol fs s p = (p.around ≡ fs) × IsEdit (left_at levels fs) (default_at false fs) s p (Unit {0})

pub body_edit : (eol : Ending) (fs : List Frame) (s : Entity) (text : List ℕ) → is_open eol ≡ false → Holds (NewBody eol fs s) (set_body eol fs s (cut text))
body_edit eol fs (message h e) text c = tt
body_edit eol fs (multi h b pre ps t) text c = tt
body_edit eol fs (leaf h ls) text c =
    let separator = unwrap_or h.separator (text_line [] eol) in (
      refl,
      record {
        fair = plain_fair fs (leaf (record { fields = h.fields; separator = Some separator }) (cut text)) (cut text) (λ b u. unmarked_right b (h.fields ++ (separator ∷ [])) (cut text) u);
        lines = λ w k e.
            let head = each_front (h.fields ++ option_to_list h.separator) ls e in
            each_join (h.fields ++ (separator ∷ [])) (cut text)
            (each_join h.fields (separator ∷ []) (each_front h.fields (option_to_list h.separator) head) (separator_line eol h.separator c (each_back h.fields (option_to_list h.separator) head), tt))
            (each_line (cut text) (lines_cut text));
        marks = λ b w u v.
            let head = unmarked_left b (h.fields ++ option_to_list h.separator) ls u in
            unmarked_join b (h.fields ++ (separator ∷ [])) (cut text)
            (unmarked_join b h.fields (separator ∷ []) (unmarked_left b h.fields (option_to_list h.separator) head) (separator_mark b eol h.separator (unmarked_right b h.fields (option_to_list h.separator) head), tt))
            v;
        asked_of = λ w e v. tt;
        of_asked = λ w e u k. (record { run = w.0.run; next = separator_empty eol (not (is_nil h.fields)) h.separator ls w.0.next }, w.1);
      },
    )

-- parts on both sides of a place are the parts
abbrev pub Sides : Parts → Option (Parts × Parts) → Type 0
Sides ps None = Unit {0}
Sides ps (Some q) = append_parts q.0 q.1 ≡ ps

sides_later : (l : TextLine) (e : Entity) (ps : Parts) (o : Option (Parts × Parts)) → Sides ps o → Sides (part l e ps) (option_map (λ q. (part l e q.0, q.1)) o)
sides_later l e ps None h = tt
sides_later l e ps (Some q) h = ap (λ qs. part l e qs) h

pub sides : (k : ℕ) (ps : Parts) → Sides ps (parts_at k ps)
sides zero ps = refl
sides (suc k) no_parts = tt
sides (suc k) (part l e ps) = sides_later l e ps (parts_at k ps) (sides k ps)

-- so many parts stand before a place
abbrev CountsTo : ℕ → Option (Parts × Parts) → Type 0
CountsTo k None = Unit {0}
CountsTo k (Some q) = part_count q.0 ≡ k

counts_later : (k : ℕ) (l : TextLine) (e : Entity) (o : Option (Parts × Parts)) → CountsTo k o → CountsTo (suc k) (option_map (λ q. (part l e q.0, q.1)) o)
counts_later k l e None h = tt
counts_later k l e (Some q) h = ap (λ n. suc n) h

counts_to : (k : ℕ) (ps : Parts) → CountsTo k (parts_at k ps)
counts_to zero ps = refl
counts_to (suc k) no_parts = tt
counts_to (suc k) (part l e ps) = counts_later k l e (parts_at k ps) (counts_to k ps)

pub counted_at : (k : ℕ) (ps : Parts) (q : Parts × Parts) → parts_at k ps ≡ Some q → part_count q.0 ≡ k
counted_at k ps q h = subst (CountsTo k) h (counts_to k ps)

-- the lines of a multipart with a part more, and without it
pub print_added : (h : Head) (b : List ℕ) (pre : List TextLine) (before : Parts) (l : TextLine) (x : Entity) (after : Parts) (t : Option (TextLine × List TextLine))
    → print (multi h b pre (append_parts before (part l x after)) t) ≡ (head_lines h ++ (pre ++ print_parts before)) ++ ((l ∷ print x) ++ (print_parts after ++ tail_lines t))
print_added h b pre before l x after t = rw (print_append before (part l x after)) (simp append_assoc refl)

pub print_sides : (h : Head) (b : List ℕ) (pre : List TextLine) (before after : Parts) (t : Option (TextLine × List TextLine))
    → print (multi h b pre (append_parts before after) t) ≡ (head_lines h ++ (pre ++ print_parts before)) ++ (print_parts after ++ tail_lines t)
print_sides h b pre before after t = rw (print_append before after) (simp append_assoc refl)

part_added : (n : ℕ) (g : Bool) (b : List ℕ) (before : Parts) (l : TextLine) (x : Entity) (after : Parts) → mark b l.content ≡ Part → Unmarked b (print x) → IsWellRead n g x → AreWellRead n g b (append_parts before after) → AreWellRead n g b (append_parts before (part l x after))
part_added n g b no_parts l x after m u r w = (m, u, r, w)
part_added n g b (part k e ps) l x after m u r w = (w.0, w.1, w.2, part_added n g b ps l x after m u r w.3)

between_edit : (eol : Ending) (fs : List Frame) (h : Head) (b : List ℕ) (pre : List TextLine) (t : Option (TextLine × List TextLine)) (text : List ℕ) (before after : Parts) → is_open eol ≡ false
    → IsEdit (left_at levels fs) (default_at false fs) (multi h b pre (append_parts before after) t) (part_plan eol fs h b pre t (cut text) (before, after))
    (HeaderEnds h.fields h.separator (pre ++ (print_parts (append_parts before (part (delimiter_line eol b) (part_read fs h (cut text)) after)) ++ tail_lines t)))
between_edit eol fs h b pre t text before after c =
    let n = left_at levels fs in
    let d = default_at false fs in
    let g = digest_below d h in
    let l = delimiter_line eol b in
    let x = part_read fs h (cut text) in
    let front = head_lines h ++ (pre ++ print_parts before) in
    let rest = print_parts after ++ tail_lines t in
    let kept : print (part_read fs h (cut text)) ≡ cut text = print_read (below n) g (cut text) in
    let old = print_sides h b pre before after t in
    let new = print_added h b pre before l x after t in
    record {
      fair = part_fair eol fs h b pre t (cut text) (before, after);
      lines = λ w k e.
          let apart = subst Each old e in
          let head = each_front (head_lines h) (pre ++ (print_parts (append_parts before after) ++ tail_lines t)) e in
          let bound = read_bound n h.fields d b g (each_front h.fields (option_to_list h.separator) head) w.1 in
          subst Each (sym new) (each_join front ((l ∷ print x) ++ rest) (each_front front rest apart) (each_join (l ∷ print x) rest (delimiter_is eol b c bound, subst Each (sym kept) (each_line (cut text) (lines_cut text))) (each_back front rest apart)));
      marks = λ m w u v.
          let apart = subst (Unmarked m) old u in
          subst (Unmarked m) (sym new) (unmarked_join m front ((l ∷ print x) ++ rest) (unmarked_left m front rest apart) (unmarked_join m (l ∷ print x) rest (v.0, subst (Unmarked m) (sym kept) v.1) (unmarked_right m front rest apart)));
      asked_of = λ w e v. follow_ends h.fields h.separator (pre ++ (print_parts (append_parts before (part l x after)) ++ tail_lines t)) v.0.run v.0.next;
      of_asked = λ w e u k.
          let head = each_front (head_lines h) (pre ++ (print_parts (append_parts before after) ++ tail_lines t)) e in
          let bound = read_bound n h.fields d b g (each_front h.fields (option_to_list h.separator) head) w.1 in (
            record { run = w.0.run; next = ends_follow (not (is_nil h.fields)) h.fields h.separator (pre ++ (print_parts (append_parts before after) ++ tail_lines t)) (pre ++ (print_parts (append_parts before (part l x after)) ++ tail_lines t)) w.0.next k },
            w.1,
            part_added (below n) g b before l x after (delimiter_mark b bound.trimmed_so) (subst (Unmarked b) (sym kept) u) (read_well (below n) g (cut text)) w.2,
            w.3,
            w.4,
          );
    }

-- a part more
abbrev pub NewPart : List Frame → Entity → Plan → Type 0
NewPart fs s p = (p.around ≡ fs) × IsEdit (left_at levels fs) (default_at false fs) s p (HeaderEnds (field_lines p.new) (entity_head p.new).separator (body_lines p.new))

insert_by : (eol : Ending) (fs : List Frame) (h : Head) (b : List ℕ) (pre : List TextLine) (t : Option (TextLine × List TextLine)) (text : List ℕ) (ps : Parts) (o : Option (Parts × Parts)) → is_open eol ≡ false → Sides ps o
    → Holds (NewPart fs (multi h b pre ps t)) (insert_between eol fs h b pre t (cut text) o)
insert_by eol fs h b pre t text ps None c s = tt
insert_by eol fs h b pre t text ps (Some q) c s = (
  refl,
  subst (λ qs. IsEdit (left_at levels fs) (default_at false fs) (multi h b pre qs t) (part_plan eol fs h b pre t (cut text) q) (HeaderEnds h.fields h.separator (pre ++ (print_parts (append_parts q.0 (part (delimiter_line eol b) (part_read fs h (cut text)) q.1)) ++ tail_lines t)))) s
      (between_edit eol fs h b pre t text q.0 q.1 c),
)

pub insert_edit : (eol : Ending) (fs : List Frame) (s : Entity) (place : ℕ) (text : List ℕ) → is_open eol ≡ false → Holds (NewPart fs s) (insert eol fs s place (cut text))
insert_edit eol fs (leaf h ls) place text c = tt
insert_edit eol fs (message h e) place text c = tt
insert_edit eol fs (multi h b pre ps t) place text c = insert_by eol fs h b pre t text ps (parts_at place ps) c (sides place ps)
