-- An entity is read back from its lines exactly where it is read back level by level.
use Rattle.std.proofs.Common.{◌≡◌, ◌++◌, ℕ, zero, suc, Bool, false, Option, List, [], ◌∷◌, refl, ap, sym, ◌∙◌, subst}
use Rattle.mk_line.specs.Lines.{TextLine}
use Rattle.mk_head.specs.Split.{Head, head_of, head_lines, after_head}
use Rattle.mk_head.specs.Splits.{IsSplit}
use Rattle.mk_head.proofs.Apart.{splits_read, reads_split}
use Rattle.mk_tree.specs.Cutting.{Cut, cut_by, tail_lines, Unmarked}
use Rattle.mk_tree.specs.Kinds.{Kind, Leaf, Message, Multi, kind, kind_at, is_digest}
use Rattle.mk_tree.specs.Tree.{Entity, leaf, message, multi, Parts, no_parts, part, parts_by, entity_by, read, print, print_parts, entity_head}
use Rattle.mk_tree.specs.Spans.{digest_below}
use Rattle.mk_tree.specs.Places.{below}
use Rattle.mk_tree.specs.Reading.{Closes, IsWellRead, AreWellRead}
use Rattle.mk_tree.proofs.Kept.{print_parts_by, print_read}
use Rattle.mk_tree.proofs.OneCut.{parts_lines, ArePartsOf, cut_is, cut_of}

-- one level of reading
pub read_is : (n : ℕ) (d : Bool) (ls : List TextLine) → read n d ls ≡ entity_by (read (below n)) (kind_at n (head_of ls).fields d) (head_of ls) (after_head ls)
read_is zero d ls = refl
read_is (suc n) d ls = refl

pub read_split : (n : ℕ) (d : Bool) (h : Head) (ls : List TextLine) → IsSplit h ls → read n d (head_lines h ++ ls) ≡ entity_by (read (below n)) (kind_at n h.fields d) h ls
read_split n d h ls s =
    let p = splits_read h ls s in
    read_is n d (head_lines h ++ ls) ∙ (λ i. entity_by (read (below n)) (kind_at n (p.0 i).fields d) (p.0 i) (p.1 i))

pub head_by : (f : Bool → List TextLine → Entity) (k : Kind) (h : Head) (ls : List TextLine) → entity_head (entity_by f k h ls) ≡ h
head_by f Leaf h ls = refl
head_by f Message h ls = refl
head_by f (Multi b digest) h ls = refl

pub read_head : (n : ℕ) (d : Bool) (ls : List TextLine) → entity_head (read n d ls) ≡ head_of ls
read_head n d ls = ap entity_head (read_is n d ls) ∙ head_by (read (below n)) (kind_at n (head_of ls).fields d) (head_of ls) (after_head ls)

-- the parts as a cut has them
abbrev cut_parts_of : Parts → List (TextLine × List TextLine)
cut_parts_of no_parts = []
cut_parts_of (part l e ps) = (l, print e) ∷ cut_parts_of ps

cut_parts_lines : (ps : Parts) → parts_lines (cut_parts_of ps) ≡ print_parts ps
cut_parts_lines no_parts = refl
cut_parts_lines (part l e ps) = ap (λ xs. l ∷ (print e ++ xs)) (cut_parts_lines ps)

cut_parts_are : (n : ℕ) (d : Bool) (b : List ℕ) (ps : Parts) → AreWellRead n d b ps → ArePartsOf b (cut_parts_of ps)
cut_parts_are n d b no_parts w = tt
cut_parts_are n d b (part l e ps) w = ((w.0, w.1), cut_parts_are n d b ps w.3)

multi_cut : (n : ℕ) (d : Bool) (b : List ℕ) (pre : List TextLine) (ps : Parts) (t : Option (TextLine × List TextLine)) → AreWellRead n d b ps → Unmarked b pre → Closes b t → cut_by b (pre ++ (print_parts ps ++ tail_lines t)) ≡ record { preamble = pre; parts = cut_parts_of ps; tail = t }
multi_cut n d b pre ps t w u c =
    cut_of b (pre ++ (print_parts ps ++ tail_lines t)) (record { preamble = pre; parts = cut_parts_of ps; tail = t })
    (record { joined = ap (λ xs. pre ++ (xs ++ tail_lines t)) (cut_parts_lines ps); preamble = u; parts = cut_parts_are n d b ps w; tail = c })

mutual
  pub well_read : (n : ℕ) (d : Bool) (e : Entity) → IsWellRead n d e → read n d (print e) ≡ e
  well_read n d (leaf h ls) w = read_split n d h ls w.0 ∙ ap (λ k. entity_by (read (below n)) k h ls) w.1
  well_read n d (message h e) w =
      read_split n d h (print e) w.0
      ∙ (ap (λ k. entity_by (read (below n)) k h (print e)) w.1 ∙ ap (λ f. message h f) (well_read (below n) false e w.2))
  well_read n d (multi h b pre ps t) w =
      read_split n d h (pre ++ (print_parts ps ++ tail_lines t)) w.0
      ∙ (ap (λ k. entity_by (read (below n)) k h (pre ++ (print_parts ps ++ tail_lines t))) w.1
      ∙ (ap (λ (c : Cut). multi h b c.preamble (parts_by (read (below n) (digest_below d h)) c.parts) c.tail) (multi_cut (below n) (digest_below d h) b pre ps t w.2 w.3 w.4)
      ∙ ap (λ qs. multi h b pre qs t) (parts_well_read (below n) (digest_below d h) b ps w.2)))

  parts_well_read : (n : ℕ) (d : Bool) (b : List ℕ) (ps : Parts) → AreWellRead n d b ps → parts_by (read n d) (cut_parts_of ps) ≡ ps
  parts_well_read n d b no_parts w = refl
  parts_well_read n d b (part l e ps) w = λ i. part l (well_read n d e w.2 i) (parts_well_read n d b ps w.3 i)

read_parts_well : (n : ℕ) (d : Bool) (b : List ℕ) → ((ls : List TextLine) → IsWellRead n d (read n d ls)) → (ps : List (TextLine × List TextLine)) → ArePartsOf b ps → AreWellRead n d b (parts_by (read n d) ps)
read_parts_well n d b f [] h = tt
read_parts_well n d b f (p ∷ ps) h = (h.0.0, subst (Unmarked b) (sym (print_read n d p.1)) h.0.1, f p.1, read_parts_well n d b f ps h.1)

kind_well : (n : ℕ) (d : Bool) (k : Kind) (h : Head) (ls : List TextLine) → ((g : Bool) (ms : List TextLine) → IsWellRead n g (read n g ms)) → IsSplit h ls → kind h.fields d ≡ k → IsWellRead (suc n) d (entity_by (read n) k h ls)
kind_well n d Leaf h ls f s e = (s, e)
kind_well n d Message h ls f s e = (subst (IsSplit h) (sym (print_read n false ls)) s, e, f false ls)
kind_well n d (Multi b g) h ls f s e =
    let c = cut_is b ls in
    let digest : digest_below d h ≡ g = ap is_digest e in
    let lines : (cut_by b ls).preamble ++ (print_parts (parts_by (read n g) (cut_by b ls).parts) ++ tail_lines (cut_by b ls).tail) ≡ ls =
    ap (λ xs. (cut_by b ls).preamble ++ (xs ++ tail_lines (cut_by b ls).tail)) (print_parts_by (read n g) (print_read n g) (cut_by b ls).parts) ∙ c.joined in (
      subst (IsSplit h) (sym lines) s,
      e ∙ ap (λ x. Multi b x) (sym digest),
      subst (λ x. AreWellRead n x b (parts_by (read n g) (cut_by b ls).parts)) (sym digest) (read_parts_well n g b (f g) (cut_by b ls).parts c.parts),
      c.preamble,
      c.tail,
    )

-- what is read is read back
pub read_well : (n : ℕ) (d : Bool) (ls : List TextLine) → IsWellRead n d (read n d ls)
read_well zero d ls = (reads_split ls, refl)
read_well (suc n) d ls = kind_well n d (kind (head_of ls).fields d) (head_of ls) (after_head ls) (read_well n) (reads_split ls) refl

pub well_of : (n : ℕ) (d : Bool) (e : Entity) → read n d (print e) ≡ e → IsWellRead n d e
well_of n d e p = subst (IsWellRead n d) p (read_well n d (print e))
