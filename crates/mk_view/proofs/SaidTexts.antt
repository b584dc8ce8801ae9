-- Texts that fields say are UTF-8.
use Rattle.std.proofs.Common.{◌≡◌, ℕ, Option, None, Some, List, codes}
use Rattle.std.specs.Str.{IsUtf8}
use Rattle.mk_head.specs.Types.{field_value}
use Rattle.mk_head.specs.Values.{content_type_of}
use Rattle.mk_param.specs.Said.{said_text}
use Rattle.mk_param.proofs.SaidTexts.{said_utf8, or_utf8}
use Rattle.mk_tree.specs.Sections.{Placed}
use Rattle.mk_tree.specs.Tree.{field_lines}
use Rattle.mk_view.specs.declared.text_names.NameForm.{NameForm}
use Rattle.mk_view.specs.declared.text_names.NameForm.TheVariants.{Plain, Utf8}
use Rattle.mk_view.specs.Listing.{type_of}
use Rattle.mk_view.specs.TextNames.{disposed_text, name_text, text_in}

disposed_utf8 : (value : Option (List ℕ)) (t : List ℕ) → disposed_text value ≡ Some t → IsUtf8 t
disposed_utf8 None t h = absurd cc
disposed_utf8 (Some value) t h = said_utf8 (codes "filename") (content_type_of value).params t h

text_utf8 : (form : NameForm) (p : Placed) (t : List ℕ) → text_in form p ≡ Some t → IsUtf8 t
text_utf8 Plain p t h = absurd cc
text_utf8 Utf8 p t h =
    or_utf8 (disposed_text (field_value (codes "Content-Disposition") (field_lines p.entity))) (said_text (codes "name") (type_of p).params)
    (disposed_utf8 (field_value (codes "Content-Disposition") (field_lines p.entity))) (said_utf8 (codes "name") (type_of p).params) t h

pub counting_utf8 : (id : Option (List ℕ)) (form : NameForm) (p : Placed) (t : List ℕ) → name_text id form p ≡ Some t → IsUtf8 t
counting_utf8 None form p t h = text_utf8 form p t h
counting_utf8 (Some id) form p t h = absurd cc
