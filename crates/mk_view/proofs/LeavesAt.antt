-- Sections at their paths, and leaves put after others.
use Rattle.std.proofs.Common.{◌≡◌, ◌+◌, ◌==◌, ◌++◌, if◌then◌else◌, ℕ, suc, Bool, true, false, Option, None, Some, List, [], ◌∷◌, option_and_then, ap, sym, subst, ◌∙◌, arith, refl}
use Rattle.mk_head.specs.Fields.{counted}
use Rattle.mk_tree.specs.Documents.{Document}
use Rattle.mk_tree.specs.Sections.{Placed, children, root_of, section_at, section_below}
use Rattle.std.specs.List.{flat_map}
use Rattle.mk_head.specs.Values.{MediaType}
use Rattle.mk_tree.specs.declared.shapes.Kind.{Kind}
use Rattle.mk_tree.specs.declared.shapes.Kind.TheVariants.{Leaf, Multi, Message}
use Rattle.mk_tree.specs.Forms.{kind_in}
use Rattle.mk_view.specs.declared.storing.Leaf.{Leaf as LeafIn}
use Rattle.mk_view.specs.declared.text_names.NameForm.TheVariants.{Plain}
use Rattle.mk_view.specs.Listed.{Listed}
use Rattle.mk_view.specs.Listing.{type_of}
use Rattle.mk_view.specs.LeafViews.{AreAt, IsAt}

one_below : (p q r : Placed) (n : ℕ) → ◌≡◌ {A = Option Placed} (Some p) (Some q) → counted n (children q) ≡ Some r → counted n (children p) ≡ Some r
one_below p q r n h c = let same : p ≡ q = cc in ap (λ s. counted n (children s)) same ∙ c

found : (o : Option Placed) (r : Placed) → o ≡ Some r → option_and_then (section_below []) o ≡ Some r
found None r h = absurd cc
found (Some s) r h = h

stepped : (ks : List ℕ) (n : ℕ) (o : Option Placed) (q r : Placed) → ((s : Placed) → section_below ks s ≡ Some q → section_below (ks ++ n ∷ []) s ≡ Some r)
    → option_and_then (section_below ks) o ≡ Some q → option_and_then (section_below (ks ++ n ∷ [])) o ≡ Some r
stepped ks n None q r f h = absurd cc
stepped ks n (Some s) q r f h = f s h

-- one number more leads to a section below
one_more : (ks : List ℕ) (n : ℕ) (p q r : Placed) → section_below ks p ≡ Some q → counted n (children q) ≡ Some r → section_below (ks ++ n ∷ []) p ≡ Some r
one_more [] n p q r h c = found (counted n (children p)) r (one_below p q r n h c)
one_more (k ∷ ks) n p q r h c = stepped ks n (counted k (children p)) q r (λ s e. one_more ks n s q r e c) h

chosen : (b : Bool) (ks : List ℕ) (n : ℕ) (p q r : Placed) → (if b then section_below ks p else None) ≡ Some q → counted n (children q) ≡ Some r
    → (if b then section_below (ks ++ n ∷ []) p else None) ≡ Some r
chosen true ks n p q r h c = one_more ks n p q r h c
chosen false ks n p q r h c = absurd cc

-- a section below one at a path is at the path with its number after it
pub at_below : (t : Document) (path below : List ℕ) (n : ℕ) (p q : Placed) → below ≡ path ++ n ∷ [] → section_at path t ≡ Some p → counted n (children p) ≡ Some q → section_at below t ≡ Some q
at_below t [] below n p q e h c = absurd cc
at_below t (k ∷ ks) below n p q e h c = ap (λ ns. section_at ns t) e ∙ chosen (k == 1) ks n (root_of t) p q h c

-- sections that are still to come, of which the first has a number
abbrev pub AreFrom : ℕ → List Placed → List Placed → Type 0
AreFrom number all rest = (k : ℕ) → counted (k + number) all ≡ counted (suc k) rest

pub from_first : (all rest : List Placed) → rest ≡ all → AreFrom 1 all rest
from_first all rest e k = let same : k + 1 ≡ suc k = omega arith in ap (λ n. counted n all) same ∙ ap (counted (suc k)) (sym e)

pub from_next : (number next : ℕ) (all rest more : List Placed) (q : Placed) → AreFrom number all rest → rest ≡ q ∷ more → next ≡ number + 1 → AreFrom next all more
from_next number next all rest more q h e n k =
    let same : k + next ≡ suc k + number = omega (arith, n) in
    ap (λ m. counted m all) same ∙ (h (suc k) ∙ ap (counted (suc (suc k))) e)

pub first_from : (number : ℕ) (all rest more : List Placed) (q : Placed) → AreFrom number all rest → rest ≡ q ∷ more → counted number all ≡ Some q
first_from number all rest more q h e =
    let same : number ≡ 0 + number = omega arith in
    ap (λ n. counted n all) same ∙ (h 0 ∙ ap (counted 1) e)

-- one more leaf that is at its path
pub at_more : (t : Document) (ls : List LeafIn) (l : LeafIn) → AreAt t ls → IsAt t l → AreAt t (ls ++ l ∷ [])
at_more t [] l h i = (i, tt)
at_more t (m ∷ ls) l h i = (h.0, at_more t ls l h.1 i)

-- one more leaf with another name than one that is at its path
pub at_named : (t : Document) (ns more : List LeafIn) (o g : LeafIn) → more ≡ ns ++ g ∷ [] → g.path ≡ o.path → g.section ≡ o.section → AreAt t ns → IsAt t o → AreAt t more
at_named t ns more o g e p s h i =
    let here : IsAt t g = ap (λ v. section_at v.items t) p ∙ (i ∙ ap (λ (q : Placed). Some q) (sym s)) in
    subst (AreAt t) (sym e) (at_more t ns g h here)
