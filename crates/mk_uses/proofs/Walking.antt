-- What was made of the leaves or sections so far, and of one more.
use Rattle.std.proofs.Common.{◌≡◌, ◌+◌, ◌++◌, ℕ, suc, List, [], ◌∷◌, refl, ap, sym, ◌∙◌, append-nil, append_assoc, arith, length, map}
use Rattle.std.specs.List.{flat_map}
use Rattle.mk_tree.specs.Documents.{Document}
use Rattle.mk_tree.specs.Sections.{section_at}
use Rattle.mk_view.specs.Extracts.{IsExtract}
use Rattle.mk_uses.specs.declared.listings.Attachment.{Attachment}
use Rattle.mk_uses.specs.Walked.{AreContents}

-- one content more
pub content_more : (t : Document) (found : List Attachment) (a : Attachment) → AreContents t found → IsExtract (section_at a.path.items t) a.content.items → AreContents t (found ++ a ∷ [])
content_more t [] a h e = (e, tt)
content_more t (x ∷ found) a h e = (h.0, content_more t found a h.1 e)

-- what is made of one more comes next
pub more_gone : {A B C : Type 0} (f : B → List A) (view : C → B) (now new : List A) (x : C) (before rest : List C) (total : List A)
    → before ≡ x ∷ rest → now ++ flat_map f (map view before) ≡ total → new ≡ now ++ f (view x) → new ++ flat_map f (map view rest) ≡ total
more_gone f view now new x before rest total b t e =
    ap (λ xs. xs ++ flat_map f (map view rest)) e
    ∙ (append_assoc now (f (view x)) (flat_map f (map view rest)) ∙ (ap (λ cs. now ++ flat_map f (map view cs)) (sym b) ∙ t))

-- none is left
pub all_gone : {A B C : Type 0} (f : B → List A) (view : C → B) (now : List A) (rest : List C) (total : List A) → rest ≡ [] → now ++ flat_map f (map view rest) ≡ total → now ≡ total
all_gone f view now rest total b t = sym (append-nil now) ∙ (ap (λ cs. now ++ flat_map f (map view cs)) (sym b) ∙ t)

-- one less is left
pub count_left : {C : Type 0} (x : C) (before rest : List C) (m n : ℕ) → length before ≡ m → before ≡ x ∷ rest → n + 1 ≡ m → length rest ≡ n
count_left x before rest m n e b h = let sizes : length before ≡ suc (length rest) = ap (λ cs. length cs) b in omega arith

pub none_left : {C : Type 0} (cs : List C) → length cs ≡ 0 → cs ≡ []
none_left [] e = refl
none_left (c ∷ cs) e = absurd (omega arith)
