-- A part that goes from a stable document leaves a stable one.
use Rattle.std.proofs.Common.{◌≡◌, ◌++◌, ℕ, Bool, false, Option, None, Some, List, [], ◌∷◌, refl, ap, sym, ◌∙◌, subst, append_assoc}
use Rattle.mk_line.specs.declared.marks.Mark.TheVariants.{Part}
use Rattle.mk_line.specs.Marks.{mark}
use Rattle.mk_line.specs.Lines.{TextLine, AreLines, is_nil}
use Rattle.mk_line.proofs.Cuts.{lines_cut, cut_text, lines_following}
use Rattle.mk_head.specs.Split.{Head, head_lines}
use Rattle.std.specs.Option.{option_to_list}
use Rattle.mk_head.specs.Splits.{Stops, Follows}
use Rattle.std.specs.Prelude.{not}
use Rattle.mk_tree.specs.Cutting.{tail_lines, Unmarked}
use Rattle.mk_tree.specs.Kinds.{kind_at}
use Rattle.mk_tree.specs.Tree.{Entity, multi, Parts, no_parts, part, print, print_parts}
use Rattle.mk_tree.specs.Documents.{levels, printed, document_lines, IsStable}
use Rattle.mk_tree.specs.Spans.{digest_below}
use Rattle.mk_tree.specs.Places.{Frame, in_message, in_multi, append_parts, below, left_at, default_at, lines_before, lines_after, put}
use Rattle.mk_tree.specs.Locality.{FitsIn, RootFits}
use Rattle.mk_tree.proofs.TreeNames.{Continues}
use Rattle.mk_tree.specs.Reading.{Closes, IsWellRead, AreWellRead}
use Rattle.mk_tree.proofs.WellRead.{well_read, well_of}
use Rattle.mk_tree.proofs.Plugs.{unmarked_left, unmarked_right, unmarked_join, print_append, print_plug, untyped, multi_leaf}
use Rattle.mk_tree.proofs.Stability.{replaced, fields_plain}
use Rattle.mk_decide.proofs.MarkLines.{part_mark, close_mark, marks_stop}
use Rattle.mk_decide.proofs.Marked.{unmarked_given}

-- lines between others may go
some_nil : {A : Type 0} (xs : List TextLine) (y : TextLine) (ys : List TextLine) → xs ++ (y ∷ ys) ≡ [] → A
some_nil [] y ys e = cc
some_nil (x ∷ xs) y ys e = cc

lines_between : (xs : List TextLine) (y : TextLine) (ys zs : List TextLine) → AreLines (xs ++ (y ∷ (ys ++ zs))) → AreLines (xs ++ zs)
lines_between [] y ys zs h = lines_following (y ∷ ys) zs h
lines_between (x ∷ xs) y ys zs h = (h.0, (λ e. some_nil xs y (ys ++ zs) (h.1 e)), lines_between xs y ys zs h.2)

-- the first line after a header, without a part
tail_stops : (inside : Bool) (b : List ℕ) (l : TextLine) (ls : List TextLine) (t : Option (TextLine × List TextLine)) → mark b l.content ≡ Part → Closes b t → Stops inside (l ∷ ls) → Stops inside (tail_lines t)
tail_stops inside b l ls None m c s = tt
tail_stops inside b l ls (Some p) m c s = marks_stop inside b l p.0 ls p.1 (part_mark b l m) (close_mark b p.0 c) s

less_stops : (n : ℕ) (g : Bool) (inside : Bool) (b : List ℕ) (pre : List TextLine) (before : Parts) (l : TextLine) (x : Entity) (after : Parts) (t : Option (TextLine × List TextLine)) → AreWellRead n g b (append_parts before (part l x after)) → Closes b t
    → Stops inside (pre ++ (print_parts (append_parts before (part l x after)) ++ tail_lines t)) → Stops inside (pre ++ (print_parts (append_parts before after) ++ tail_lines t))
less_stops n g inside b (p ∷ pre) before l x after t w c s = s
less_stops n g inside b [] (part m e ps) l x after t w c s = s
less_stops n g inside b [] no_parts l x (part m e ps) t w c s = marks_stop inside b l m ((print x ++ print_parts (part m e ps)) ++ tail_lines t) ((print e ++ print_parts ps) ++ tail_lines t) (part_mark b l w.0) (part_mark b m w.3.0) s
less_stops n g inside b [] no_parts l x no_parts t w c s = tail_stops inside b l ((print x ++ []) ++ tail_lines t) t w.0 c s

less_follows : (n : ℕ) (g : Bool) (inside : Bool) (o : Option TextLine) (b : List ℕ) (pre : List TextLine) (before : Parts) (l : TextLine) (x : Entity) (after : Parts) (t : Option (TextLine × List TextLine)) → AreWellRead n g b (append_parts before (part l x after)) → Closes b t
    → Follows inside o (pre ++ (print_parts (append_parts before (part l x after)) ++ tail_lines t)) → Follows inside o (pre ++ (print_parts (append_parts before after) ++ tail_lines t))
less_follows n g inside (Some m) b pre before l x after t w c s = s
less_follows n g inside None b pre before l x after t w c s = less_stops n g inside b pre before l x after t w c s

less_read : (n : ℕ) (g : Bool) (b : List ℕ) (before : Parts) (l : TextLine) (x : Entity) (after : Parts) → AreWellRead n g b (append_parts before (part l x after)) → AreWellRead n g b (append_parts before after)
less_read n g b no_parts l x after w = w.3
less_read n g b (part m e ps) l x after w = (w.0, w.1, w.2, less_read n g b ps l x after w.3)

-- the multipart is read back without the part
without_read : (n : ℕ) (d : Bool) (h : Head) (b : List ℕ) (pre : List TextLine) (before : Parts) (l : TextLine) (x : Entity) (after : Parts) (t : Option (TextLine × List TextLine))
    → IsWellRead n d (multi h b pre (append_parts before (part l x after)) t) → IsWellRead n d (multi h b pre (append_parts before after) t)
without_read n d h b pre before l x after t w = (
  record { run = w.0.run; next = less_follows (below n) (digest_below d h) (not (is_nil h.fields)) h.separator b pre before l x after t w.2 w.4 w.0.next },
  w.1,
  less_read (below n) (digest_below d h) b before l x after w.2,
  w.3,
  w.4,
)

-- a multipart isn't what a message's head without a separator is followed by
multi_continues : (n : ℕ) (h : Head) (b : List ℕ) (pre : List TextLine) (ps : Parts) (t : Option (TextLine × List TextLine)) (fields : List TextLine) (o : Option TextLine) (e : Entity)
    → Continues fields o (multi h b pre ps t) → IsWellRead n false (multi h b pre ps t) → Continues fields o e
multi_continues n h b pre ps t fields (Some l) e c w = tt
multi_continues n h b pre ps t fields None e c w = absurd (multi_leaf b (digest_below false h) (sym w.1 ∙ (ap (λ (k : Head). kind_at n k.fields false) c.0 ∙ untyped n)))

fits_multi : (n : ℕ) (d : Bool) (fs : List Frame) (h : Head) (b : List ℕ) (pre : List TextLine) (ps : Parts) (t : Option (TextLine × List TextLine)) (e : Entity)
    → FitsIn fs (multi h b pre ps t) → IsWellRead (left_at n fs) (default_at d fs) (multi h b pre ps t) → FitsIn fs e
fits_multi n d [] h b pre ps t e j w = tt
fits_multi n d (in_message g ∷ []) h b pre ps t e j w = multi_continues (below n) h b pre ps t g.fields g.separator e j w
fits_multi n d (in_multi g c qre before l after u ∷ []) h b pre ps t e j w = tt
fits_multi n d (in_message g ∷ f ∷ fs) h b pre ps t e j w = fits_multi (below n) false (f ∷ fs) h b pre ps t e j w
fits_multi n d (in_multi g c qre before l after u ∷ f ∷ fs) h b pre ps t e j w = fits_multi (below n) (digest_below d g) (f ∷ fs) h b pre ps t e j w

-- a multipart that is the root begins with a field
multi_fields : (n : ℕ) (h : Head) (b : List ℕ) (pre : List TextLine) (ps : Parts) (t : Option (TextLine × List TextLine)) → IsWellRead n false (multi h b pre ps t) → h.fields ≡ [] → ⊥
multi_fields n h b pre ps t w e = multi_leaf b (digest_below false h) (sym w.1 ∙ (ap (λ xs. kind_at n xs false) e ∙ untyped n))

root_multi : (n : ℕ) (envelope : Option TextLine) (fs : List Frame) (h : Head) (b : List ℕ) (pre : List TextLine) (ps qs : Parts) (t : Option (TextLine × List TextLine))
    → IsWellRead (left_at n fs) (default_at false fs) (multi h b pre ps t) → RootFits envelope fs (multi h b pre ps t) → RootFits envelope fs (multi h b pre qs t)
root_multi n (Some l) fs h b pre ps qs t w r = tt
root_multi n None (f ∷ fs) h b pre ps qs t w r = tt
root_multi n None [] h b pre ps qs t w r = fields_plain h.fields (option_to_list h.separator) (pre ++ (print_parts ps ++ tail_lines t)) (pre ++ (print_parts qs ++ tail_lines t)) (multi_fields n h b pre ps t w) r

-- the lines with the part, and without it
print_with : (h : Head) (b : List ℕ) (pre : List TextLine) (before : Parts) (l : TextLine) (x : Entity) (after : Parts) (t : Option (TextLine × List TextLine))
    → print (multi h b pre (append_parts before (part l x after)) t) ≡ (head_lines h ++ (pre ++ print_parts before)) ++ (l ∷ (print x ++ (print_parts after ++ tail_lines t)))
print_with h b pre before l x after t = rw (print_append before (part l x after)) (simp append_assoc refl)

print_without : (h : Head) (b : List ℕ) (pre : List TextLine) (before after : Parts) (t : Option (TextLine × List TextLine))
    → print (multi h b pre (append_parts before after) t) ≡ (head_lines h ++ (pre ++ print_parts before)) ++ (print_parts after ++ tail_lines t)
print_without h b pre before after t = rw (print_append before after) (simp append_assoc refl)

less_unmarked : (c : List ℕ) (xs : List TextLine) (l : TextLine) (ys zs : List TextLine) → Unmarked c (xs ++ (l ∷ (ys ++ zs))) → Unmarked c (xs ++ zs)
less_unmarked c xs l ys zs u = unmarked_join c xs zs (unmarked_left c xs (l ∷ (ys ++ zs)) u) (unmarked_right c ys zs (unmarked_right c xs (l ∷ (ys ++ zs)) u).1)

put_lines : (envelope : Option TextLine) (fs : List Frame) (e : Entity) (xs ys : List TextLine) → print e ≡ xs ++ ys → document_lines (put envelope fs e) ≡ (option_to_list envelope ++ (lines_before fs ++ xs)) ++ (ys ++ lines_after fs)
put_lines envelope fs e xs ys p = ap (λ ls. option_to_list envelope ++ ls) (print_plug fs e ∙ ap (λ ls. lines_before fs ++ (ls ++ lines_after fs)) p) ∙ (simp append_assoc refl)

pub removed_stable : (envelope : Option TextLine) (fs : List Frame) (h : Head) (b : List ℕ) (pre : List TextLine) (before : Parts) (l : TextLine) (x : Entity) (after : Parts) (t : Option (TextLine × List TextLine))
    → IsStable (put envelope fs (multi h b pre (append_parts before (part l x after)) t)) → IsStable (put envelope fs (multi h b pre (append_parts before after) t))
removed_stable envelope fs h b pre before l x after t s =
    let old = multi h b pre (append_parts before (part l x after)) t in
    let new = multi h b pre (append_parts before after) t in
    let front = head_lines h ++ (pre ++ print_parts before) in
    let rest = print_parts after ++ tail_lines t in
    let r = (replaced envelope fs old old s).0 s in
    let w = well_of (left_at levels fs) (default_at false fs) old r.own in
    let whole : AreLines (document_lines (put envelope fs old)) = subst AreLines r.lines (lines_cut (printed (put envelope fs old))) in
    let apart : AreLines ((option_to_list envelope ++ (lines_before fs ++ front)) ++ (l ∷ (print x ++ (rest ++ lines_after fs)))) =
    subst AreLines (put_lines envelope fs old front (l ∷ (print x ++ rest)) (print_with h b pre before l x after t) ∙ ap (λ ls. (option_to_list envelope ++ (lines_before fs ++ front)) ++ (l ∷ ls)) (append_assoc (print x) rest (lines_after fs))) whole in
    let less : AreLines (document_lines (put envelope fs new)) =
    subst AreLines (sym (put_lines envelope fs new front rest (print_without h b pre before after t))) (lines_between (option_to_list envelope ++ (lines_before fs ++ front)) l (print x) (rest ++ lines_after fs) apart) in
    (replaced envelope fs old new s).1 (record {
      lines = cut_text (document_lines (put envelope fs new)) less;
      unmarked = unmarked_given fs (print old) (print new) (λ c u. subst (Unmarked c) (sym (print_without h b pre before after t)) (less_unmarked c front l (print x) rest (subst (Unmarked c) (print_with h b pre before l x after t) u))) r.unmarked;
      own = well_read (left_at levels fs) (default_at false fs) new (without_read (left_at levels fs) (default_at false fs) h b pre before l x after t w);
      continues = fits_multi levels false fs h b pre (append_parts before (part l x after)) t new r.continues w;
      first = root_multi levels envelope fs h b pre (append_parts before (part l x after)) (append_parts before after) t w r.first;
    })
