-- A built message says the names that were attached.
use Rattle.std.proofs.Common.{◌≡◌, ◌++◌, ◌&&◌, if◌then◌else◌, ℕ, zero, suc, Bool, true, not, Option, None, Some, List, [], ◌∷◌, refl, ap, sym, ◌∙◌, map, codes, length, nat_le, nat_lt}
use Rattle.std.specs.List.{list_all}
use Rattle.std.specs.Option.{option_map, option_or, option_map_or}
use Rattle.std.specs.Str.{is_utf8}
use Rattle.mk_line.specs.declared.cutting.Ending.{Ending}
use Rattle.mk_line.specs.Parting.{following}
use Rattle.mk_line.proofs.Cuts.{append_nil}
use Rattle.mk_head.specs.Fields.{counted}
use Rattle.mk_head.specs.Types.{field_value}
use Rattle.std.specs.Prelude.{unwrap_or, option_and_then}
use Rattle.mk_param.specs.Said.{said_text}
use Rattle.mk_tree.specs.Sections.{Placed, section_at}
use Rattle.mk_tree.specs.Tree.{field_lines}
use Rattle.mk_view.specs.Listing.{type_of}
use Rattle.mk_view.specs.TextNames.{disposed_text, text_name}
use Rattle.mk_mail.proofs.BuiltParts.{charset_for, part_entity, part_fields}
use Rattle.mk_mail.proofs.SaidNames.{disposed, value_of}
use Rattle.mk_mail.proofs.BuiltMessages.{AreGood, is_built, part_at}
use Rattle.mk_mail.proofs.PartTypes.{InQuotes, both, name_quotes}
use Rattle.mk_mail.specs.BuiltLaws.{BuiltNamesAreSaid}
use Rattle.mk_build.specs.Building.{Attached, is_name, is_name_byte, is_said, longest, longest_said, named_in_utf8, plain_name}
use Rattle.mk_line.specs.Lines.{is_nil}
use Rattle.mk_code.specs.EncodedWords.{is_shown}
use Rattle.mk_param.specs.Percents.{percent_encoded}

-- the value of the disposition of a part
disposition_value : (eol : Ending) (media : List ℕ) (charset : Option (List ℕ)) (name said : List ℕ) (base64 : Bool) → field_value (codes "Content-Disposition") (part_fields eol media charset (Some name) (Some said) base64) ≡ Some (value_of name (percent_encoded said))
disposition_value eol media charset name said base64 = ap (λ cs. Some (unwrap_or (following 58 cs) [])) (append_nil (codes "Content-Disposition:" ++ value_of name (percent_encoded said)))

-- what its fields say
part_says : (eol : Ending) (charset : Option (List ℕ)) (a : Attached) (name said : List ℕ) (p : Placed) → p.entity ≡ part_entity eol charset a → a.name ≡ Some name → a.said ≡ Some said → InQuotes name
    → list_all (λ byte. nat_lt byte 256) said ≡ true → is_utf8 said ≡ true → text_name p ≡ Some said
part_says eol charset a name said p e n s q b u =
    let here = charset_for charset a.media in
    ap (λ o. option_or (disposed_text o) (said_text (codes "name") (type_of p).params))
    (ap (λ x. field_value (codes "Content-Disposition") (field_lines x)) e
    ∙ ((λ i. field_value (codes "Content-Disposition") (part_fields eol a.media here (n i) (s i) a.base64)) ∙ disposition_value eol a.media here name said a.base64))
    ∙ ap (λ o. option_or o (said_text (codes "name") (type_of p).params)) (disposed name said q b u)

-- the parts of names in UTF-8
counted_map : (f : Attached → Attached) (list : List Attached) (k : ℕ) (a : Attached) → counted k list ≡ Some a → counted k (map f list) ≡ Some (f a)
counted_map f [] k a e = absurd cc
counted_map f (x ∷ list) zero a e = absurd cc
counted_map f (x ∷ list) (suc zero) a e = ap (λ o. option_map f o) e
counted_map f (x ∷ list) (suc (suc k)) a e = counted_map f list (suc k) a e

name_given : (a : Attached) (name : List ℕ) → a.name ≡ Some name → is_said name ≡ true → (named_in_utf8 a).name ≡ Some (plain_name name)
name_given a name e h = ap (λ o. option_map (λ n. if is_said n then plain_name n else n) o) e ∙ rw h refl

said_given : (a : Attached) (name : List ℕ) → a.name ≡ Some name → is_said name ≡ true → (named_in_utf8 a).said ≡ Some name
said_given a name e h = ap (λ o. option_and_then (λ n. if is_said n then Some n else None) o) e ∙ rw h refl

-- a name that may be written stands in quotes
good_name : (eol : Ending) (list : List Attached) (k : ℕ) (a : Attached) (name : List ℕ) → AreGood list → counted k list ≡ Some a → a.name ≡ Some name → is_name name ≡ true
good_name eol [] k a name g e n = absurd cc
good_name eol (x ∷ list) zero a name g e n = absurd cc
good_name eol (x ∷ list) (suc zero) a name g e n = let same : x ≡ a = cc in ap (λ o. option_map_or is_name o true) (sym (ap (λ (y : Attached). y.name) same ∙ n)) ∙ g.1
good_name eol (x ∷ list) (suc (suc k)) a name g e n = good_name eol list (suc k) a name g.3 e n

in_quotes : (name : List ℕ) → is_name name ≡ true → InQuotes name
in_quotes name h =
    let p = both (not (is_nil name)) (nat_le (length name) longest && list_all is_name_byte name) h in
    name_quotes name (both (nat_le (length name) longest) (list_all is_name_byte name) p.1).1

said_text_is : (name : List ℕ) → is_said name ≡ true → is_utf8 name ≡ true
said_text_is name h =
    let p = both (nat_le (length name) longest_said) (is_utf8 name && not (list_all is_shown name)) h in
    (both (is_utf8 name) (not (list_all is_shown name)) p.1).0

pub names_said : BuiltNamesAreSaid
names_said eol fields files messages m is small none k a name p e n h b found =
    let parts = map named_in_utf8 files in
    let whole = is_built eol fields parts messages m is small none in
    let c = counted_map named_in_utf8 files k a e in
    let part = part_at eol fields m parts messages k (named_in_utf8 a) c in
    let given = name_given a name n h in
    let same : ◌≡◌ {A = Option Placed} (Some part.place) (Some p) = sym part.found ∙ (ap (section_at (1 ∷ k ∷ [])) (sym whole.read) ∙ found) in
    let here : part.place ≡ p = cc in
    part_says eol m.charset (named_in_utf8 a) (plain_name name) name p (ap (λ (q : Placed). q.entity) (sym here) ∙ part.entity_is) given (said_given a name n h)
    (in_quotes (plain_name name) (good_name eol parts k (named_in_utf8 a) (plain_name name) whole.good c given)) b (said_text_is name h)
