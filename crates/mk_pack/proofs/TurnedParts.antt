-- The message of parts whose texts are turned, or aren't.
use Rattle.std.proofs.Common.{◌≡◌, ℕ, Bool, true, false, IfSome, List, None, Option, Some, map, refl, sym, ap, ◌∙◌}
use Rattle.std.specs.Prelude.{IfNone, MatchOption}
use Rattle.std.proofs.lemmas.Simd.{map-map}
use Rattle.mk_line.specs.declared.cutting.Ending.{Ending}
use Rattle.mk_line.specs.Lines.{cut, eol_of}
use Rattle.mk_build.specs.declared.attachment.Attach.{Attach}
use Rattle.mk_build.specs.BuildViews.{attached_of, written_in}
use Rattle.mk_build.specs.Building.{named_in_utf8}
use Rattle.mk_build.specs.Forwards.{Forwarded}
use Rattle.mk_pack.specs.Packing.{Manner, fields_given, packed_in, turned_part, turned_parts}
use Rattle.mk_pack.specs.inner.PackedFrom.{packed_from}

-- names don't change with texts
turned_in : (utf8 : Bool) (eol : Ending) (given parts : List Attach) → map attached_of given ≡ map (turned_part eol) (map attached_of parts)
    → map (written_in utf8) given ≡ map (turned_part eol) (map (written_in utf8) parts)
turned_in false eol given parts h = h
turned_in true eol given parts h =
    sym (map-map named_in_utf8 attached_of given)
    ∙ (ap (map named_in_utf8) h
    ∙ (map-map named_in_utf8 (turned_part eol) (map attached_of parts)
    ∙ (sym (map-map (turned_part eol) named_in_utf8 (map attached_of parts)) ∙ ap (map (turned_part eol)) (map-map named_in_utf8 attached_of parts))))

-- the message of parts that were turned
pub packed_turned : (m : Manner) (eol : Ending) (fields : List (List ℕ)) (given parts : List Attach) (messages : List Forwarded) (text : List ℕ)
    → m.turned ≡ true → eol ≡ eol_of (cut text) → fields ≡ fields_given (cut text) → map attached_of given ≡ map (turned_part eol) (map attached_of parts)
    → packed_from m eol fields (map attached_of given) (map (written_in m.utf8_names) given) messages ≡ packed_in m parts messages text
packed_turned m eol fields given parts messages text asked e f h =
    let files = h ∙ (ap (λ x. map (turned_part x) (map attached_of parts)) e ∙ sym (ap (λ b. turned_parts b (eol_of (cut text)) (map attached_of parts)) asked)) in
    let listed = turned_in m.utf8_names eol given parts h
    ∙ (ap (λ x. map (turned_part x) (map (written_in m.utf8_names) parts)) e ∙ sym (ap (λ b. turned_parts b (eol_of (cut text)) (map (written_in m.utf8_names) parts)) asked)) in
    λ i. packed_from m (e i) (f i) (files i) (listed i) messages

-- the message of parts as they are
pub packed_plain : (m : Manner) (eol : Ending) (fields : List (List ℕ)) (parts : List Attach) (messages : List Forwarded) (text : List ℕ)
    → m.turned ≡ false → eol ≡ eol_of (cut text) → fields ≡ fields_given (cut text)
    → packed_from m eol fields (map attached_of parts) (map (written_in m.utf8_names) parts) messages ≡ packed_in m parts messages text
packed_plain m eol fields parts messages text asked e f =
    let files = sym (ap (λ b. turned_parts b (eol_of (cut text)) (map attached_of parts)) asked) in
    let listed = sym (ap (λ b. turned_parts b (eol_of (cut text)) (map (written_in m.utf8_names) parts)) asked) in
    λ i. packed_from m (e i) (f i) (files i) (listed i) messages

-- the message of the parts that are chosen: those that were turned, where that is asked for
pub packed_chosen : {X : Type 0} (items : X → List Attach) (m : Manner) (eol : Ending) (given parts : List Attach) (turned : Option X) (messages : List Forwarded) (text : List ℕ) → eol ≡ eol_of (cut text)
    → MatchOption turned (given ≡ parts) (λ list. given ≡ items list)
    → IfSome turned (λ list. (m.turned ≡ true) × (map attached_of (items list) ≡ map (turned_part eol) (map attached_of parts)))
    → IfNone turned (m.turned ≡ false)
    → packed_from m (eol_of (cut text)) (fields_given (cut text)) (map attached_of given) (map (written_in m.utf8_names) given) messages ≡ packed_in m parts messages text
packed_chosen items m eol given parts None messages text e g s n =
    ap (λ list. packed_from m (eol_of (cut text)) (fields_given (cut text)) (map attached_of list) (map (written_in m.utf8_names) list) messages) g
    ∙ packed_plain m (eol_of (cut text)) (fields_given (cut text)) parts messages text n refl refl
packed_chosen items m eol given parts (Some list) messages text e g s n =
    ap (λ list. packed_from m (eol_of (cut text)) (fields_given (cut text)) (map attached_of list) (map (written_in m.utf8_names) list) messages) g
    ∙ packed_turned m (eol_of (cut text)) (fields_given (cut text)) (items list) parts messages text s.0 refl refl (s.1 ∙ ap (λ x. map (turned_part x) (map attached_of parts)) e)
