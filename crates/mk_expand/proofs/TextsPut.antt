-- Texts that are put into leaves with their charsets, and attached, as they are made.
use Rattle.std.proofs.Common.{◌≡◌, ◌++◌, if◌then◌else◌, ℕ, true, Option, None, Some, Ok, Err, List, sym, ap, ◌∙◌}
use Rattle.mk_line.specs.declared.cutting.Ending.{Ending}
use Rattle.mk_head.specs.Values.{MediaType}
use Rattle.mk_tree.specs.declared.shapes.Kind.TheVariants.{Leaf}
use Rattle.mk_tree.specs.Forms.{kind_in}
use Rattle.mk_tree.specs.Sections.{Placed}
use Rattle.mk_decide.specs.Edits.{PlainEdit}
use Rattle.mk_view.specs.Listing.{encoding_in, type_of}
use Rattle.mk_build.specs.Building.{Attached, attach_refusal}
use Rattle.mk_build.specs.Multiparts.{attached_as}
use Rattle.mk_pack.specs.Parts.{is_text}
use Rattle.mk_expand.specs.Appends.{made_part}
use Rattle.mk_expand.specs.Charsets.{charset_field}
use Rattle.mk_expand.specs.Contents.{encoded_in}
use Rattle.mk_expand.specs.FieldWords.{put}
use Rattle.mk_expand.specs.Meanings.{BadType}
use Rattle.mk_expand.specs.Words.{append, attach_text, attach_text_by, before_those, body_set, said_charset, text_for, text_of_type, text_set, text_set_by, text_set_in}

-- a leaf whose type and whose content were put
pub text_told : (eol : Ending) (path charset bytes : List ℕ) (o : Option Placed) (p : Placed) (m : MediaType) (field : List ℕ) (edits others all : List PlainEdit) → o ≡ Some p → kind_in p.entity ≡ Leaf → m ≡ type_of p
    → text_for charset m bytes ≡ Ok bytes → field ≡ charset_field eol charset m → edits ≡ put path field o → body_set eol path p.followed (encoded_in (encoding_in p) eol bytes) ≡ Ok others → all ≡ edits ++ others
    → text_set eol path charset bytes o ≡ Ok all
text_told eol path charset bytes o p m field edits others all found is_leaf media allowed named made body joined =
    let put_so : put path (charset_field eol charset (type_of p)) (Some p) ≡ edits = sym (made ∙ (ap (λ f. put path f o) (named ∙ ap (charset_field eol charset) media) ∙ ap (put path (charset_field eol charset (type_of p))) found)) in
    ap (text_set eol path charset bytes) found
    ∙ (ap (λ k. text_set_in k eol path charset bytes p) is_leaf
    ∙ (ap (λ x. text_set_by eol path charset p (text_for charset x bytes)) (sym media)
    ∙ (ap (text_set_by eol path charset p) allowed
    ∙ (ap (before_those (put path (charset_field eol charset (type_of p)) (Some p))) body
    ∙ (ap (λ xs. Ok (xs ++ others)) put_so ∙ ap (λ xs. Ok xs) (sym joined))))))

-- a text that may be attached is appended
pub attach_text_told : (eol : Ending) (path media text : List ℕ) (place : Option Placed) (charset : Option (List ℕ)) (b : Attached) (made part : List ℕ) (edits : List PlainEdit) → is_text media ≡ true → said_charset text ≡ Ok charset
    → b ≡ text_of_type media text → attach_refusal b ≡ None → made ≡ attached_as eol charset b → part ≡ made_part eol made place → edits ≡ append eol path part place → attach_text eol path media text place ≡ Ok edits
attach_text_told eol path media text place charset b made part edits of_text said same allowed is grown put_so =
    let a = text_of_type media text in
    ap (λ t. if t then attach_text_by eol path a place (said_charset text) (attach_refusal a) else Err BadType) of_text
    ∙ (ap (λ r. attach_text_by eol path a place r (attach_refusal a)) said
    ∙ (ap (λ x. attach_text_by eol path x place (Ok charset) (attach_refusal x)) (sym same)
    ∙ (ap (attach_text_by eol path b place (Ok charset)) allowed
    ∙ (ap (λ t. Ok (append eol path (made_part eol t place) place)) (sym is) ∙ (ap (λ t. Ok (append eol path t place)) (sym grown) ∙ ap (λ xs. Ok xs) (sym put_so))))))
