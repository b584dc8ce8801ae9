-- Edits made one after another from a list by its places.
use Rattle.std.proofs.Common.{◌≡◌, ◌+◌, ◌<◌, ◌++◌, ℕ, Option, Some, Ok, Err, List, [], ◌∷◌, ap, sym, ◌∙◌, subst, length, take, drop, map, get_or, arith, append_assoc, add-zero}
use Rattle.std.proofs.lemmas.List.{drop_more}
use Rattle.mk_tree.specs.Documents.{tree}
use Rattle.mk_splice.specs.Splices.{spliced, Splice, forth_one, forth_step, GoesForth}
use Rattle.mk_decide.specs.Answers.{IsRefusedBy}
use Rattle.mk_decide.specs.LocalAnswers.{IsDecided, PlainSplice}
use Rattle.mk_decide.specs.Edits.{PlainEdit, Refusal, Member}
use Rattle.mk_decide.specs.EditSplices.{splices_of}
use Rattle.mk_edit.specs.Groups.{Together, following, made_on, together}
use Rattle.mk_edit.specs.History.{History}
use Rattle.mk_edit.specs.Histories.{grouped_by}
use Rattle.mk_edit.specs.Made.{IsMade}
use Rattle.mk_decide.specs.Outcomes.{edited}
use Rattle.mk_decide.proofs.EditsLead.{edits_read_back_lem}
use Rattle.mk_splice.proofs.Bytes.{forth_append, copied_stands}

-- an accepted edit, once its bytes are in place
pub made_so : (e : PlainEdit) (x y : List ℕ) (r : PlainSplice) (old : List ℕ) → IsDecided e x r → old ≡ take r.count (drop r.place x) → y ≡ spliced r.place r.count r.new x → IsMade e x (record { place = r.place; old = old; new = r.new }) y
made_so e x y r old d o t =
    let at = copied_stands r.place r.count x old d.within o in
    let same : tree y ≡ d.document = ap tree (t ∙ sym d.printed_so) ∙ edits_read_back_lem e x d.document d.accepted in
    record {
      accepted = d.accepted ∙ ap (λ u. Ok u) (sym same);
      splices = d.splices ∙ ap (λ b. record { place = r.place; old = b; new = r.new } ∷ []) (sym o);
      stands = at.0;
      text = t ∙ ap (λ k. spliced r.place k r.new x) (sym at.1);
    }

-- splices made after others
goes_append : (ss rs : List Splice) (x : List ℕ) → GoesForth ss x → GoesForth rs (forth_step ss x) → GoesForth (ss ++ rs) x
goes_append [] rs x g h = h
goes_append (s ∷ ss) rs x g h = (g.0, goes_append ss rs (forth_one s x) g.1 h)

pub goes_next : (e : PlainEdit) (first x y : List ℕ) (ss more : List Splice) (s : Splice) → IsMade e x s y → more ≡ ss ++ s ∷ [] → x ≡ forth_step ss first → GoesForth ss first → GoesForth more first
goes_next e first x y ss more s m q t g = subst (λ rs. GoesForth rs first) (sym q) (goes_append ss (s ∷ []) first g (subst (λ z. GoesForth (s ∷ []) z) t (m.stands, tt)))

pub text_next : (e : PlainEdit) (first x y : List ℕ) (ss more : List Splice) (s : Splice) → IsMade e x s y → more ≡ ss ++ s ∷ [] → x ≡ forth_step ss first → y ≡ forth_step more first
text_next e first x y ss more s m q t = m.text ∙ (ap (forth_one s) t ∙ (sym (forth_append ss (s ∷ []) first) ∙ ap (λ rs. forth_step rs first) (sym q)))

-- one edit more after those that were made
one_more : (i k : ℕ) → i + (1 + k) ≡ (i + 1) + k
one_more i k = omega arith

after_more : (i : ℕ) (ss : List Splice) (s : Splice) (r : Together) → following i ss (following 1 (s ∷ []) r) ≡ following (i + 1) (ss ++ s ∷ []) r
after_more i ss s (Ok p) = ap (λ rs. Ok (p.0, rs)) (sym (append_assoc ss (s ∷ []) p.1))
after_more i ss s (Err q) = ap (λ k. Err (k, q.1)) (one_more i q.0)

-- the edits that are left, with the next before them
left_edits : {X : Type 0} (f : X → PlainEdit) (cs : List X) (i : ℕ) (d : X) → i < length cs → map f (drop i cs) ≡ f (get_or cs i d) ∷ map f (drop (i + 1) cs)
left_edits f cs i d l = ap (map f) (drop_more cs i d l)

pub told_next : {X : Type 0} (f : X → PlainEdit) (cs : List X) (i : ℕ) (d : X) (x y : List ℕ) (ss more : List Splice) (s : Splice) (r : Together) → i < length cs → IsMade (f (get_or cs i d)) x s y → more ≡ ss ++ s ∷ []
    → following i ss (together (map f (drop i cs)) (tree x)) ≡ r → following (i + 1) more (together (map f (drop (i + 1) cs)) (tree y)) ≡ r
told_next f cs i d x y ss more s r l m q t =
    let rest = map f (drop (i + 1) cs) in
    ap (λ rs. following (i + 1) rs (together rest (tree y))) q
    ∙ (sym (after_more i ss s (together rest (tree y)))
    ∙ (ap (λ rs. following i ss (made_on rs (together rest) (Ok (tree y)))) (sym m.splices)
    ∙ (ap (λ o. following i ss (made_on (splices_of (f (get_or cs i d)) (tree x)) (together rest) o)) (sym m.accepted)
    ∙ (ap (λ es. following i ss (together es (tree x))) (sym (left_edits f cs i d l)) ∙ t))))

-- a refused edit is a refused group
pub told_refused : {X : Type 0} (f : X → PlainEdit) (cs : List X) (i : ℕ) (d : X) (x : List ℕ) (ss : List Splice) (r : Together) (o : Option Refusal) (reason : Refusal) (h : History) → i < length cs
    → following i ss (together (map f (drop i cs)) (tree x)) ≡ r → IsRefusedBy o (edited (f (get_or cs i d)) (tree x)) → o ≡ Some reason → grouped_by h r ≡ Err (Member i reason)
told_refused f cs i d x ss r o reason h l t e q =
    let refused : edited (f (get_or cs i d)) (tree x) ≡ Err reason = subst (λ p. IsRefusedBy p (edited (f (get_or cs i d)) (tree x))) q e in
    let rest = map f (drop (i + 1) cs) in
    ap (grouped_by h) (sym t)
    ∙ (ap (λ es. grouped_by h (following i ss (together es (tree x)))) (left_edits f cs i d l)
    ∙ (ap (λ p. grouped_by h (following i ss (made_on (splices_of (f (get_or cs i d)) (tree x)) (together rest) p))) refused
    ∙ ap (λ k. Err (Member k reason)) (add-zero i)))
