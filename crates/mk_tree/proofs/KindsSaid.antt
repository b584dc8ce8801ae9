-- What fields say of a body, by their values.
use Rattle.std.proofs.Common.{◌≡◌, ◌&&◌, if◌then◌else◌, ℕ, Bool, true, false, Option, None, Some, Result, IfOk, List, refl, ap, sym, ◌∙◌, subst, codes}
use Rattle.mk_line.specs.Lines.{TextLine}
use Rattle.mk_head.specs.declared.encodings.Encoding.{Encoding}
use Rattle.mk_head.specs.declared.encodings.Encoding.TheVariants.{Identity, Qp, Base64, Other}
use Rattle.mk_head.specs.Types.{field_value, type_by, header_encoding}
use Rattle.mk_head.specs.Values.{MediaType, content_type_of}
use Rattle.mk_tree.specs.Kinds.{Kind, Leaf, Message, kind, kind_of, is_identity}

pub kind_by : (fields : List TextLine) (digest : Bool) (e : Encoding) (o : Option (List ℕ)) → e ≡ header_encoding fields → o ≡ field_value (codes "Content-Type") fields → kind fields digest ≡ kind_of (type_by digest o) e
unfolding kind
kind_by fields digest e o h k = λ i. kind_of (type_by digest (sym k i)) (sym h i)

pub kind_some : {X V : Type 0} (fields : List TextLine) (digest : Bool) (e : Encoding) (value : List ℕ) (media : MediaType) (f : X → Kind) (r : Result X V)
    → e ≡ header_encoding fields → Some value ≡ field_value (codes "Content-Type") fields → media ≡ content_type_of value
    → IfOk r (λ d. f d ≡ kind_of media e) → IfOk r (λ d. f d ≡ kind fields digest)
kind_some fields digest e value media f r h k m o =
    subst (λ g. IfOk r (λ d. f d ≡ g)) (ap (λ t. kind_of t e) m ∙ sym (kind_by fields digest e (Some value) h k)) o

pub kind_default : (digest : Bool) (e : Encoding) (t : Bool) → (digest && is_identity e) ≡ t → kind_of (type_by digest None) e ≡ (if t then Message else Leaf)
kind_default true Identity true h = refl
kind_default true Qp true h = cc
kind_default true Base64 true h = cc
kind_default true Other true h = cc
kind_default false e true h = cc
kind_default true Identity false h = cc
kind_default true Qp false h = refl
kind_default true Base64 false h = refl
kind_default true Other false h = refl
kind_default false e false h = refl

pub kind_none : (fields : List TextLine) (digest : Bool) (e : Encoding) (t : Bool) → e ≡ header_encoding fields → None ≡ field_value (codes "Content-Type") fields → (digest && is_identity e) ≡ t → (if t then Message else Leaf) ≡ kind fields digest
kind_none fields digest e t h k q = sym (kind_by fields digest e None h k ∙ kind_default digest e t q)
