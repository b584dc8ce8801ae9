-- The part that a wrapped section becomes: its lines, its marks, and what it is read back under.
use Rattle.std.proofs.Common.{◌≡◌, ◌++◌, if◌then◌else◌, ℕ, Bool, true, false, List, [], ◌∷◌, refl, ap, sym, ◌∙◌, subst}
use Rattle.mk_line.specs.declared.cutting.Ending.{Ending}
use Rattle.mk_line.specs.declared.marks.Mark.TheVariants.{No}
use Rattle.mk_line.specs.Lines.{TextLine, text_line, is_nil, is_open, EndsWell, IsLine}
use Rattle.mk_line.specs.Marks.{mark}
use Rattle.mk_head.specs.Split.{Head, head_lines}
use Rattle.std.specs.Option.{option_to_list}
use Rattle.mk_head.specs.Splits.{IsSplit}
use Rattle.std.specs.Prelude.{not, unwrap_or}
use Rattle.mk_tree.specs.Cutting.{tail_lines, Unmarked}
use Rattle.mk_tree.specs.Kinds.{Multi, kind_at}
use Rattle.mk_tree.specs.Tree.{Entity, leaf, message, multi, print, print_parts, field_lines}
use Rattle.mk_tree.specs.Spans.{digest_below}
use Rattle.mk_tree.specs.Sections.{body_lines}
use Rattle.mk_tree.specs.Places.{Frame, below, lines_after}
use Rattle.mk_tree.specs.Reading.{IsWellRead, AreWellRead}
use Rattle.mk_tree.proofs.Plugs.{unmarked_left, unmarked_right, unmarked_join}
use Rattle.mk_decide.specs.Wrapping.{content_fields, ended_lines, inner_head, inner_part}
use Rattle.mk_decide.specs.Local.{FitsLevels, MayEnd, BodyMayEnd}
use Rattle.mk_decide.proofs.Openings.{Each, each_join, each_front, each_back}
use Rattle.mk_decide.proofs.Bounds.{made_line}
use Rattle.mk_decide.proofs.NewFields.{digest_kind, kind_at_other}
use Rattle.mk_decide.proofs.PartChanges.{separator_line, separator_mark, separator_empty}
use Rattle.mk_decide.proofs.WrapFields.{content_each, content_marks, are_runs, are_unmarked, content_kind}
use Rattle.mk_decide.proofs.WrapLevels.{level_multi, kind_down, level_down, levels_down, level_fits}

-- an ending put after lines
ended_by : (eol : Ending) (t : Bool) (l : TextLine) → is_open eol ≡ false → IsLine l → (t ≡ true → EndsWell eol l.content) → Each (if t then text_line l.content eol ∷ [] else l ∷ text_line [] eol ∷ [])
ended_by eol true l c h m = (record { no_feed = h.no_feed; ends_well = m refl }, tt)
ended_by eol false l c h m = (h, (made_line eol [] c refl refl, tt))

ended_each : (eol : Ending) (ls : List TextLine) → is_open eol ≡ false → Each ls → MayEnd eol ls → Each (ended_lines eol ls)
ended_each eol [] c e m = (made_line eol [] c refl refl, tt)
ended_each eol (l ∷ []) c e m = ended_by eol (is_open l.ending) l c e.0 m
ended_each eol (l ∷ k ∷ ls) c e m = (e.0, ended_each eol (k ∷ ls) c e.1 m)

may_by : (eol : Ending) (t : Bool) (l : TextLine) → Each (if t then text_line l.content eol ∷ [] else l ∷ text_line [] eol ∷ []) → t ≡ true → EndsWell eol l.content
may_by eol true l e o = e.0.ends_well
may_by eol false l e o = cc

each_ended : (eol : Ending) (ls : List TextLine) → Each (ended_lines eol ls) → MayEnd eol ls
each_ended eol [] e = tt
each_ended eol (l ∷ []) e = may_by eol (is_open l.ending) l e
each_ended eol (l ∷ k ∷ ls) e = each_ended eol (k ∷ ls) e.1

end_each : (eol : Ending) (t : Bool) (ls : List TextLine) → is_open eol ≡ false → Each ls → (t ≡ false → MayEnd eol ls) → Each (if t then ls else ended_lines eol ls)
end_each eol true ls c e m = e
end_each eol false ls c e m = ended_each eol ls c e (m refl)

each_end : (eol : Ending) (t : Bool) (ls : List TextLine) → Each (if t then ls else ended_lines eol ls) → t ≡ false → MayEnd eol ls
each_end eol true ls e o = cc
each_end eol false ls e o = each_ended eol ls e

ended_marks_by : (b : List ℕ) (eol : Ending) (t : Bool) (l : TextLine) → mark b l.content ≡ No → Unmarked b (if t then text_line l.content eol ∷ [] else l ∷ text_line [] eol ∷ [])
ended_marks_by b eol true l m = (m, tt)
ended_marks_by b eol false l m = (m, (refl, tt))

ended_marks : (b : List ℕ) (eol : Ending) (ls : List TextLine) → Unmarked b ls → Unmarked b (ended_lines eol ls)
ended_marks b eol [] u = (refl, tt)
ended_marks b eol (l ∷ []) u = ended_marks_by b eol (is_open l.ending) l u.0
ended_marks b eol (l ∷ k ∷ ls) u = (u.0, ended_marks b eol (k ∷ ls) u.1)

end_marks : (b : List ℕ) (eol : Ending) (t : Bool) (ls : List TextLine) → Unmarked b ls → Unmarked b (if t then ls else ended_lines eol ls)
end_marks b eol true ls u = u
end_marks b eol false ls u = ended_marks b eol ls u

-- the head and the body of the section
head_each : (h : Head) (body : List TextLine) → Each (head_lines h ++ body) → Each h.fields × Each (option_to_list h.separator) × Each body
head_each h body e =
    let head = each_front (h.fields ++ option_to_list h.separator) body e in
    (each_front h.fields (option_to_list h.separator) head, each_back h.fields (option_to_list h.separator) head, each_back (h.fields ++ option_to_list h.separator) body e)

inner_each_by : (eol : Ending) (h : Head) (old new : List TextLine) → is_open eol ≡ false → Each (head_lines h ++ old) → Each new → Each (head_lines (inner_head eol h) ++ new)
inner_each_by eol h old new c e n =
    let p = head_each h old e in
    each_join (content_fields false h.fields ++ (unwrap_or h.separator (text_line [] eol) ∷ [])) new
    (each_join (content_fields false h.fields) (unwrap_or h.separator (text_line [] eol) ∷ []) (content_each false h.fields p.0) (separator_line eol h.separator c p.1, tt)) n

pub inner_each : (eol : Ending) (fs : List Frame) (s : Entity) → is_open eol ≡ false → BodyMayEnd eol fs s → Each (print s) → Each (print (inner_part eol fs s))
inner_each eol fs (leaf h ls) c m e = inner_each_by eol h ls (if not (is_nil (lines_after fs)) then ls else ended_lines eol ls) c e (end_each eol (not (is_nil (lines_after fs))) ls c (head_each h ls e).2 m)
inner_each eol fs (message h x) c m e = inner_each_by eol h (print x) (print x) c e (head_each h (print x) e).2
inner_each eol fs (multi h b pre ps t) c m e = let body = pre ++ (print_parts ps ++ tail_lines t) in inner_each_by eol h body body c e (head_each h body e).2

pub inner_may : (eol : Ending) (fs : List Frame) (s : Entity) → Each (print (inner_part eol fs s)) → BodyMayEnd eol fs s
inner_may eol fs (leaf h ls) e = each_end eol (not (is_nil (lines_after fs))) ls (each_back (head_lines (inner_head eol h)) (if not (is_nil (lines_after fs)) then ls else ended_lines eol ls) e)
inner_may eol fs (message h x) e = tt
inner_may eol fs (multi h b pre ps t) e = tt

-- marks of a boundary around
inner_marks_by : (b : List ℕ) (eol : Ending) (h : Head) (old new : List TextLine) → Unmarked b (head_lines h ++ old) → Unmarked b new → Unmarked b (head_lines (inner_head eol h) ++ new)
inner_marks_by b eol h old new u n =
    let head = unmarked_left b (h.fields ++ option_to_list h.separator) old u in
    unmarked_join b (content_fields false h.fields ++ (unwrap_or h.separator (text_line [] eol) ∷ [])) new
    (unmarked_join b (content_fields false h.fields) (unwrap_or h.separator (text_line [] eol) ∷ []) (content_marks b false h.fields (unmarked_left b h.fields (option_to_list h.separator) head)) (separator_mark b eol h.separator (unmarked_right b h.fields (option_to_list h.separator) head), tt)) n

pub inner_marks : (b : List ℕ) (eol : Ending) (fs : List Frame) (s : Entity) → Unmarked b (print s) → Unmarked b (print (inner_part eol fs s))
inner_marks b eol fs (leaf h ls) u = inner_marks_by b eol h ls (if not (is_nil (lines_after fs)) then ls else ended_lines eol ls) u (end_marks b eol (not (is_nil (lines_after fs))) ls (unmarked_right b (head_lines h) ls u))
inner_marks b eol fs (message h x) u = inner_marks_by b eol h (print x) (print x) u (unmarked_right b (head_lines h) (print x) u)
inner_marks b eol fs (multi h c pre ps t) u = let body = pre ++ (print_parts ps ++ tail_lines t) in inner_marks_by b eol h body body u (unmarked_right b (head_lines h) body u)

-- marks of the new boundary: only the body is looked at
empty_content : (b content : List ℕ) → is_nil content ≡ true → mark b content ≡ No
empty_content b [] h = refl
empty_content b (c ∷ cs) h = cc

inner_free_by : (b : List ℕ) (eol : Ending) (h : Head) (old new : List TextLine) → IsSplit h old → Unmarked b new → Unmarked b (head_lines (inner_head eol h) ++ new)
inner_free_by b eol h old new s n =
    unmarked_join b (content_fields false h.fields ++ (unwrap_or h.separator (text_line [] eol) ∷ [])) new
    (unmarked_join b (content_fields false h.fields) (unwrap_or h.separator (text_line [] eol) ∷ []) ((are_unmarked b h.fields).out false s.run) (empty_content b (unwrap_or h.separator (text_line [] eol)).content (separator_empty eol (not (is_nil h.fields)) h.separator old s.next), tt)) n

pub inner_free : (n : ℕ) (d : Bool) (b : List ℕ) (eol : Ending) (fs : List Frame) (s : Entity) → IsWellRead n d s → Unmarked b (body_lines s) → Unmarked b (print (inner_part eol fs s))
inner_free n d b eol fs (leaf h ls) w u = inner_free_by b eol h ls (if not (is_nil (lines_after fs)) then ls else ended_lines eol ls) w.0 (end_marks b eol (not (is_nil (lines_after fs))) ls u)
inner_free n d b eol fs (message h x) w u = inner_free_by b eol h (print x) (print x) w.0 u
inner_free n d b eol fs (multi h c pre ps t) w u = let body = pre ++ (print_parts ps ++ tail_lines t) in inner_free_by b eol h body body w.0 u

-- it is read back
inner_split : (eol : Ending) (h : Head) (old new : List TextLine) → IsSplit h old → IsSplit (inner_head eol h) new
inner_split eol h old new s = record { run = (are_runs h.fields).content_out false s.run; next = separator_empty eol (not (is_nil h.fields)) h.separator old s.next }

pub inner_read : (n : ℕ) (d g : Bool) (eol : Ending) (fs : List Frame) (s : Entity) → FitsLevels (below n) s → kind_at (below n) (content_fields false (field_lines s)) g ≡ kind_at n (field_lines s) d → IsWellRead n d s → IsWellRead (below n) g (inner_part eol fs s)
inner_read n d g eol fs (leaf h ls) f k w = (inner_split eol h ls (if not (is_nil (lines_after fs)) then ls else ended_lines eol ls) w.0, k ∙ w.1)
inner_read n d g eol fs (message h x) f k w = (inner_split eol h (print x) (print x) w.0, k ∙ w.1, level_down (below n) false x f.1 w.2)
inner_read n d g eol fs (multi h b pre ps t) f k w =
    let body = pre ++ (print_parts ps ++ tail_lines t) in
    let q : digest_below g (inner_head eol h) ≡ digest_below d h = digest_kind (below n) (content_fields false h.fields) g b (digest_below d h) (k ∙ w.1) in
    (inner_split eol h body body w.0, k ∙ (w.1 ∙ ap (λ x. Multi b x) (sym q)), subst (λ x. AreWellRead (below (below n)) x b ps) (sym q) (levels_down (below n) (digest_below d h) b ps f.1 w.2), w.3, w.4)

-- what follows where it is
pub inner_fits : (n : ℕ) (g : Bool) (eol : Ending) (fs : List Frame) (s : Entity) → IsWellRead n g (inner_part eol fs s) → FitsLevels n s
inner_fits n g eol fs (leaf h ls) w = tt
inner_fits n g eol fs (message h x) w = level_fits n g (message (inner_head eol h) x) w
inner_fits n g eol fs (multi h b pre ps t) w = level_fits n g (multi (inner_head eol h) b pre ps t) w

pub inner_kind : (n : ℕ) (d g : Bool) (eol : Ending) (fs : List Frame) (s : Entity) → IsWellRead n d s → IsWellRead (below n) g (inner_part eol fs s) → kind_at (below n) (content_fields false (field_lines s)) g ≡ kind_at n (field_lines s) d
inner_kind n d g eol fs (leaf h ls) w v = v.1 ∙ sym w.1
inner_kind n d g eol fs (message h x) w v = v.1 ∙ sym w.1
inner_kind n d g eol fs (multi h b pre ps t) w v =
    let x = digest_below g (inner_head eol h) in
    let plain : kind_at (below n) h.fields g ≡ Multi b (digest_below g (inner_head eol h)) = sym (content_kind (below n) h.fields g) ∙ v.1 in
    let here : kind_at n h.fields g ≡ Multi b (digest_below g (inner_head eol h)) = sym (kind_down n h.fields g (level_multi (below n) h.fields g b (digest_below g (inner_head eol h)) plain)) ∙ plain in
    v.1 ∙ sym (kind_at_other n h.fields g d b (digest_below g (inner_head eol h)) here)
