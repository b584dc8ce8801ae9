-- An entity at a place: its lines among the others, what its place says of it, and another entity there.
use Rattle.std.proofs.Common.{◌≡◌, ◌&&◌, ◌++◌, ℕ, zero, suc, Bool, false, Option, None, Some, List, [], ◌∷◌, refl, ap, sym, ◌∙◌, subst, append_assoc, take}
use Rattle.std.proofs.lemmas.Bool.{or_parts}
use Rattle.mk_line.specs.Lines.{TextLine, is_nil}
use Rattle.mk_head.specs.Split.{Head, is_start, is_more, head_of, head_lines, after_head, belongs}
use Rattle.mk_head.specs.Splits.{IsRun, Stops, Follows, IsSplit}
use Rattle.std.specs.Prelude.{not}
use Rattle.mk_head.proofs.Apart.{splits_read, reads_split}
use Rattle.mk_tree.specs.Cutting.{tail_lines, Unmarked}
use Rattle.mk_tree.specs.Kinds.{Leaf, Message, Multi, kind, kind_at}
use Rattle.mk_tree.specs.Tree.{Entity, Parts, no_parts, part, print, print_parts, entity_head}
use Rattle.mk_tree.specs.Spans.{digest_below}
use Rattle.mk_tree.specs.Places.{Frame, in_message, in_multi, append_parts, plug, below, left_at, default_at, lines_before, lines_after}
use Rattle.mk_tree.specs.Locality.{Unmarked_in, open_head, Ends, FitsIn}
use Rattle.mk_tree.proofs.TreeNames.{Continues}
use Rattle.mk_tree.specs.Reading.{IsWellRead, AreWellRead}
use Rattle.mk_tree.proofs.WellRead.{well_read, read_head}

pub lines_end : (ls : List TextLine) → ls ++ [] ≡ ls
lines_end [] = refl
lines_end (l ∷ ls) = ap (λ xs. l ∷ xs) (lines_end ls)

pub print_append : (ps qs : Parts) → print_parts (append_parts ps qs) ≡ print_parts ps ++ print_parts qs
print_append no_parts qs = refl
print_append (part l e ps) qs = ap (λ xs. l ∷ xs) (ap (λ xs. print e ++ xs) (print_append ps qs) ∙ sym (append_assoc (print e) (print_parts ps) (print_parts qs)))

-- the lines with an entity at a place are those before, its own, and those after
pub print_plug : (fs : List Frame) (e : Entity) → print (plug fs e) ≡ lines_before fs ++ (print e ++ lines_after fs)
print_plug [] e = sym (lines_end (print e))
print_plug (in_message h ∷ fs) e = ap (λ xs. head_lines h ++ xs) (print_plug fs e) ∙ sym (append_assoc (head_lines h) (lines_before fs) (print e ++ lines_after fs))
print_plug (in_multi h b pre before l after t ∷ fs) e = rw (print_append before (part l (plug fs e) after), print_plug fs e) (simp append_assoc refl)

pub unmarked_left : (b : List ℕ) (xs ys : List TextLine) → Unmarked b (xs ++ ys) → Unmarked b xs
unmarked_left b [] ys u = tt
unmarked_left b (x ∷ xs) ys u = (u.0, unmarked_left b xs ys u.1)

pub unmarked_right : (b : List ℕ) (xs ys : List TextLine) → Unmarked b (xs ++ ys) → Unmarked b ys
unmarked_right b [] ys u = u
unmarked_right b (x ∷ xs) ys u = unmarked_right b xs ys u.1

pub unmarked_join : (b : List ℕ) (xs ys : List TextLine) → Unmarked b xs → Unmarked b ys → Unmarked b (xs ++ ys)
unmarked_join b [] ys u v = v
unmarked_join b (x ∷ xs) ys u v = (u.0, unmarked_join b xs ys u.1 v)

pub unmarked_section : (b : List ℕ) (fs : List Frame) (e : Entity) → Unmarked b (print (plug fs e)) → Unmarked b (print e)
unmarked_section b fs e u = unmarked_left b (print e) (lines_after fs) (unmarked_right b (lines_before fs) (print e ++ lines_after fs) (subst (Unmarked b) (print_plug fs e) u))

pub unmarked_replaced : (b : List ℕ) (fs : List Frame) (s e : Entity) → Unmarked b (print (plug fs s)) → Unmarked b (print e) → Unmarked b (print (plug fs e))
unmarked_replaced b fs s e u v =
    let w : Unmarked b (lines_before fs ++ (print s ++ lines_after fs)) = subst (Unmarked b) (print_plug fs s) u in
    let after : Unmarked b (lines_after fs) = unmarked_right b (print s) (lines_after fs) (unmarked_right b (lines_before fs) (print s ++ lines_after fs) w) in
    subst (Unmarked b) (sym (print_plug fs e))
    (unmarked_join b (lines_before fs) (print e ++ lines_after fs) (unmarked_left b (lines_before fs) (print s ++ lines_after fs) w) (unmarked_join b (print e) (lines_after fs) v after))

-- one of the parts that are read back
pub part_is : (n : ℕ) (d : Bool) (b : List ℕ) (before : Parts) (l : TextLine) (e : Entity) (after : Parts) → AreWellRead n d b (append_parts before (part l e after)) → Unmarked b (print e) × IsWellRead n d e
part_is n d b no_parts l e after w = (w.1, w.2)
part_is n d b (part m x ps) l e after w = part_is n d b ps l e after w.3

-- another entity in its place
pub part_put : (n : ℕ) (d : Bool) (b : List ℕ) (before : Parts) (l : TextLine) (s e : Entity) (after : Parts) → AreWellRead n d b (append_parts before (part l s after)) → Unmarked b (print e) → IsWellRead n d e → AreWellRead n d b (append_parts before (part l e after))
part_put n d b no_parts l s e after w u o = (w.0, u, o, w.3)
part_put n d b (part m x ps) l s e after w u o = (w.0, w.1, w.2, part_put n d b ps l s e after w.3 u o)

-- a section is read back at its place
pub own_of : (n : ℕ) (d : Bool) (fs : List Frame) (e : Entity) → IsWellRead n d (plug fs e) → IsWellRead (left_at n fs) (default_at d fs) e
own_of n d [] e w = w
own_of n d (in_message h ∷ fs) e w = own_of (below n) false fs e w.2
own_of n d (in_multi h b pre before l after t ∷ fs) e w = own_of (below n) (digest_below d h) fs e (part_is (below n) (digest_below d h) b before l (plug fs e) after w.2).1

-- no line of a section is a mark of an enclosing multipart
pub unmarked_of : (n : ℕ) (d : Bool) (fs : List Frame) (e : Entity) → IsWellRead n d (plug fs e) → Unmarked_in fs (print e)
unmarked_of n d [] e w = tt
unmarked_of n d (in_message h ∷ fs) e w = unmarked_of (below n) false fs e w.2
unmarked_of n d (in_multi h b pre before l after t ∷ fs) e w =
    let p = part_is (below n) (digest_below d h) b before l (plug fs e) after w.2 in
    (unmarked_section b fs e p.0, unmarked_of (below n) (digest_below d h) fs e p.1)

-- no fields under text/plain mean a leaf
untyped_kind : kind [] false ≡ Leaf
unfolding kind
untyped_kind = refl

pub untyped : (n : ℕ) → kind_at n [] false ≡ Leaf
untyped zero = refl
untyped (suc n) = untyped_kind

pub message_leaf : Message ≡ Leaf → ⊥
message_leaf e = cc

pub multi_leaf : (b : List ℕ) (g : Bool) → Multi b g ≡ Leaf → ⊥
multi_leaf b g e = cc

-- so an entity with another below it has fields
pub has_fields : (n : ℕ) (f : Frame) (fs : List Frame) (e : Entity) → IsWellRead n false (plug (f ∷ fs) e) → (entity_head (plug (f ∷ fs) e)).fields ≡ [] → ⊥
has_fields n (in_message h) fs e w p = message_leaf (sym w.1 ∙ (ap (λ xs. kind_at n xs false) p ∙ untyped n))
has_fields n (in_multi h b pre before l after t) fs e w p = multi_leaf b (digest_below false h) (sym w.1 ∙ (ap (λ xs. kind_at n xs false) p ∙ untyped n))

-- lines whose first neither starts a field nor is empty have no head
no_start : (inside : Bool) (l : TextLine) → belongs inside l ≡ false → belongs false l ≡ false
no_start inside l h = rw (or_parts (is_start l) (inside && is_more l) h).0 refl

pub bare_lines : (inside : Bool) (ls : List TextLine) → Stops inside ls → head_of ls ≡ open_head []
bare_lines inside [] h = refl
bare_lines inside (l ∷ ls) h = rw (no_start inside l h.0, h.1) refl

-- what such lines are read as has no head
pub bare : (inside : Bool) (n : ℕ) (d : Bool) (e : Entity) → Stops inside (print e) → IsWellRead n d e → entity_head e ≡ open_head []
bare inside n d e h w = ap entity_head (sym (well_read n d e w)) ∙ (read_head n d (print e) ∙ bare_lines inside (print e) h)

pub stops_first : (inside : Bool) (ls : List TextLine) → Stops inside ls → Stops inside (take 1 ls)
stops_first inside [] h = tt
stops_first inside (l ∷ ls) h = h

pub first_stops : (inside : Bool) (ls : List TextLine) → Stops inside (take 1 ls) → Stops inside ls
first_stops inside [] h = tt
first_stops inside (l ∷ ls) h = h

pub ends_of : (fields ls : List TextLine) → IsSplit (open_head fields) ls → Ends fields ls
ends_of fields ls s =
    let p = splits_read (open_head fields) ls s in
    record {
      head = ap (λ xs. head_of (xs ++ ls)) (sym (lines_end fields)) ∙ p.0;
      body = ap (λ xs. after_head (xs ++ ls)) (sym (lines_end fields)) ∙ p.1;
    }

pub of_ends : (fields ls : List TextLine) → Ends fields ls → IsSplit (open_head fields) ls
of_ends fields ls h = subst (λ k. IsSplit k ls) h.head (subst (IsSplit (head_of (fields ++ ls))) h.body (reads_split (fields ++ ls)))

-- an entity that is read back after a head of a message continues it
pub continues_of : (n : ℕ) (d : Bool) (fields : List TextLine) (o : Option TextLine) (e : Entity) → IsRun false fields → Follows (not (is_nil fields)) o (print e) → IsWellRead n d e → Continues fields o e
continues_of n d fields (Some l) e r h w = tt
continues_of n d fields None e r h w =
    (bare (not (is_nil fields)) n d e h w, ends_of fields (take 1 (print e)) (record { run = r; next = stops_first (not (is_nil fields)) (print e) h }))

continues_follows : (fields : List TextLine) (o : Option TextLine) (s e : Entity) → Follows (not (is_nil fields)) o (print s) → Continues fields o e → Follows (not (is_nil fields)) o (print e)
continues_follows fields (Some l) s e h c = h
continues_follows fields None s e h c = first_stops (not (is_nil fields)) (print e) (of_ends fields (take 1 (print e)) c.1).next

pub fits_in_of : (n : ℕ) (d : Bool) (fs : List Frame) (e : Entity) → IsWellRead n d (plug fs e) → FitsIn fs e
fits_in_of n d [] e w = tt
fits_in_of n d (in_message h ∷ []) e w = continues_of (below n) false h.fields h.separator e w.0.run w.0.next w.2
fits_in_of n d (in_multi h b pre before l after t ∷ []) e w = tt
fits_in_of n d (in_message h ∷ g ∷ fs) e w = fits_in_of (below n) false (g ∷ fs) e w.2
fits_in_of n d (in_multi h b pre before l after t ∷ g ∷ fs) e w =
    fits_in_of (below n) (digest_below d h) (g ∷ fs) e (part_is (below n) (digest_below d h) b before l (plug (g ∷ fs) e) after w.2).1

-- after a head without a separator nothing stands deeper than one level
nothing_deeper : (inside : Bool) (n : ℕ) (f : Frame) (fs : List Frame) (s : Entity) → Stops inside (print (plug (f ∷ fs) s)) → IsWellRead n false (plug (f ∷ fs) s) → ⊥
nothing_deeper inside n f fs s h w = has_fields n f fs s w (ap (λ k. k.fields) (bare inside n false (plug (f ∷ fs) s) h w))

deeper_follows : (n : ℕ) (inside : Bool) (o : Option TextLine) (f : Frame) (fs : List Frame) (s e : Entity) → Follows inside o (print (plug (f ∷ fs) s)) → IsWellRead n false (plug (f ∷ fs) s) → Follows inside o (print (plug (f ∷ fs) e))
deeper_follows n inside (Some l) f fs s e h w = h
deeper_follows n inside None f fs s e h w = absurd (nothing_deeper inside n f fs s h w)

-- what a message's head is followed by, with another entity at a place below it
message_follows : (n : ℕ) (h : Head) (fs : List Frame) (s e : Entity) → Follows (not (is_nil h.fields)) h.separator (print (plug fs s)) → IsWellRead n false (plug fs s) → FitsIn (in_message h ∷ fs) e → Follows (not (is_nil h.fields)) h.separator (print (plug fs e))
message_follows n h [] s e p w j = continues_follows h.fields h.separator s e p j
message_follows n h (f ∷ fs) s e p w j = deeper_follows n (not (is_nil h.fields)) h.separator f fs s e p w

-- the first line of a multipart's body is never inside a part
pub stops_same : (inside : Bool) (pre : List TextLine) (before : Parts) (l : TextLine) (s e : Entity) (after : Parts) (rest : List TextLine) → Stops inside (pre ++ (print_parts (append_parts before (part l s after)) ++ rest)) → Stops inside (pre ++ (print_parts (append_parts before (part l e after)) ++ rest))
stops_same inside (p ∷ pre) before l s e after rest h = h
stops_same inside [] no_parts l s e after rest h = h
stops_same inside [] (part m x ps) l s e after rest h = h

pub multi_follows : (inside : Bool) (o : Option TextLine) (pre : List TextLine) (before : Parts) (l : TextLine) (s e : Entity) (after : Parts) (rest : List TextLine) → Follows inside o (pre ++ (print_parts (append_parts before (part l s after)) ++ rest)) → Follows inside o (pre ++ (print_parts (append_parts before (part l e after)) ++ rest))
multi_follows inside (Some m) pre before l s e after rest h = h
multi_follows inside None pre before l s e after rest h = stops_same inside pre before l s e after rest h

tail_fits : (f : Frame) (fs : List Frame) (e : Entity) → FitsIn (f ∷ fs) e → FitsIn fs e
tail_fits f [] e j = tt
tail_fits f (g ∷ fs) e j = j

-- another entity at a place of an entity that is read back: it is read back with it
pub put_back : (n : ℕ) (d : Bool) (fs : List Frame) (s e : Entity) → IsWellRead n d (plug fs s) → Unmarked_in fs (print e) → IsWellRead (left_at n fs) (default_at d fs) e → FitsIn fs e → IsWellRead n d (plug fs e)
put_back n d [] s e w u o j = o
put_back n d (in_message h ∷ fs) s e w u o j = (
  record { run = w.0.run; next = message_follows (below n) h fs s e w.0.next w.2 j },
  w.1,
  put_back (below n) false fs s e w.2 u o (tail_fits (in_message h) fs e j),
)
put_back n d (in_multi h b pre before l after t ∷ fs) s e w u o j =
    let g = digest_below d h in
    let p = part_is (below n) g b before l (plug fs s) after w.2 in (
      record { run = w.0.run; next = multi_follows (not (is_nil h.fields)) h.separator pre before l (plug fs s) (plug fs e) after (tail_lines t) w.0.next },
      w.1,
      part_put (below n) g b before l (plug fs s) (plug fs e) after w.2 (unmarked_replaced b fs s e p.0 u.0) (put_back (below n) g fs s e p.1 u.1 o (tail_fits (in_multi h b pre before l after t) fs e j)),
      w.3,
      w.4,
    )
