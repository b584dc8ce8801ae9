-- What was attached is given back, a file under its name.
use Rattle.mk_mail.specs.BuiltLaws.{AreBytes}
use Rattle.std.proofs.Common.{◌≡◌, ◌≢◌, ◌&&◌, not, nat_le, length, if◌then◌else◌, ℕ, Bool, true, false, Option, None, Some, Result, Ok, Err, List, refl, ap, sym, ◌∙◌, subst, codes}
use Rattle.std.specs.List.{list_all}
use Rattle.std.specs.Option.{option_map_or}
use Rattle.std.specs.Str.{is_utf8}
use Rattle.mk_line.specs.declared.cutting.Ending.{Ending}
use Rattle.mk_line.specs.declared.cutting.Ending.TheVariants.{Missing}
use Rattle.mk_head.specs.Values.{is_token}
use Rattle.mk_tree.specs.Documents.{Document, tree}
use Rattle.mk_tree.specs.Sections.{Placed, section_at}
use Rattle.mk_decide.specs.Edits.{PlainEdit}
use Rattle.mk_build.specs.declared.attaching.AttachError.{AttachError}
use Rattle.mk_build.specs.declared.attaching.AttachError.TheVariants as attach
use Rattle.mk_build.specs.Multiparts.{attached, attached_as}
use Rattle.mk_build.specs.Building.{Attached, attach_refusal, is_media, is_name, is_said, longest_said, plain_name}
use Rattle.mk_code.specs.EncodedWords.{is_shown}
use Rattle.mk_mail.proofs.PartTypes.{both}
use Rattle.mk_script.specs.Script.{Attaches, AttachesText}
use Rattle.mk_pack.specs.Parts.{file_name, is_text}
use Rattle.mk_expand.specs.Appends.{appended, follows_last, made_part}
use Rattle.mk_expand.specs.Charsets.{are_ascii}
use Rattle.mk_expand.specs.ExpandLaws.{all_edited}
use Rattle.mk_expand.specs.Meanings.{Meaning, WordFault, BadCharset, BadType}
use Rattle.mk_expand.specs.Pieces.{Pieces, piece_lines, piece_text}
use Rattle.mk_expand.specs.Words.{append, attach_by, attach_fault, attach_file, attach_text, attach_text_by, attached_bytes, said_charset, script_file, text_of_type}
use Rattle.mk_expand.proofs.NewParts.{appended_new}
use Rattle.mk_run.specs.AttachLaws.{IsLeafOf, IsWordMade, new_path, SaysFile}
use Rattle.mk_run.proofs.AttachedNames.{says_name, says_text}
use Rattle.mk_run.proofs.AttachedParts.{entity_by, given_text, holds_given, not_open, read_given}
use Rattle.mk_run.proofs.TurnedBytes.{attached_are, lines_given}

-- what may be attached
allowed_by : (t n : Bool) → (if t then (if n then None else Some attach.BadName) else Some attach.BadType) ≡ None → (t ≡ true) × (n ≡ true)
allowed_by true true h = (refl, refl)
allowed_by true false h = absurd cc
allowed_by false n h = absurd cc

err_edits : {A : Type 0} (fault : WordFault) (edits : List PlainEdit) → ◌≡◌ {A = Meaning} (Err fault) (Ok edits) → A
err_edits fault edits h = cc

same_edits : (xs ys : List PlainEdit) → ◌≡◌ {A = Meaning} (Ok xs) (Ok ys) → xs ≡ ys
same_edits xs ys h = cc

attached_by : (eol : Ending) (path : List ℕ) (a : Attached) (p : Option Placed) (o : Option AttachError) (edits : List PlainEdit) → attach_by eol path a p o ≡ Ok edits → (o ≡ None) × (append eol path (made_part eol (attached eol a) p) p ≡ edits)
attached_by eol path a p None edits h = (refl, same_edits (append eol path (made_part eol (attached eol a) p) p) edits h)
attached_by eol path a p (Some error) edits h = err_edits (attach_fault error) edits h

-- the new part
record IsAttached (eol : Ending) (charset : Option (List ℕ)) (a : Attached) (o : Option Placed) : Type 0 where
  part : Placed
  found : o ≡ Some part
  follows : Bool
  followed : part.followed ≡ follows
  entity : part.entity ≡ entity_by eol charset a follows
  named : option_map_or is_name a.name true ≡ true

attached_there : (eol : Ending) (path mail : List ℕ) (charset : Option (List ℕ)) (a : Attached) (edits : List PlainEdit) (u : Document) (p : Placed) → eol ≢ Missing → option_map_or is_token charset true ≡ true → section_at path (tree mail) ≡ Some p
    → attach_refusal a ≡ None → append eol path (made_part eol (attached_as eol charset a) (Some p)) (Some p) ≡ edits → all_edited edits (tree mail) ≡ Ok u → IsAttached eol charset a (section_at (new_path path p) u)
attached_there eol path mail charset a edits u p n t found allowed means made =
    let may = allowed_by (is_media a.media) (option_map_or is_name a.name true) allowed in
    let text = given_text eol charset a (follows_last p) in
    let done : all_edited (appended eol path text p) (tree mail) ≡ Ok u = ap (λ es. all_edited es (tree mail)) means ∙ made in
    let new = appended_new eol path text mail u p found done in
    record {
      part = new.part;
      found = new.found;
      follows = follows_last p;
      followed = new.followed;
      entity = new.is_read ∙ read_given new.left new.below eol charset a (follows_last p) (not_open eol n) t may.0 may.1;
      named = may.1;
    }

-- ---- a file

file_of : (pieces : Pieces) (eol : Ending) (media name : List ℕ) (piece : ℕ) → Attached
file_of pieces eol media name piece = script_file pieces eol media name piece

file_there : (pieces : Pieces) (eol : Ending) (mail path media name : List ℕ) (piece : ℕ) (u : Document) (p : Placed) → eol ≢ Missing → section_at path (tree mail) ≡ Some p → IsWordMade pieces eol mail (Attaches path media name piece) u
    → IsAttached eol None (file_of pieces eol media name piece) (section_at (new_path path p) u)
unfolding file_of
file_there pieces eol mail path media name piece u p n found m =
    let a = file_of pieces eol media name piece in
    let is = attached_by eol path a (Some p) (attach_refusal a) m.edits (ap (attach_file eol path a) (sym found) ∙ m.means) in
    attached_there eol path mail None a m.edits u p n refl found is.0 is.1 m.made

pub files_given_back : (pieces : Pieces) (eol : Ending) (mail path media name : List ℕ) (piece : ℕ) (u : Document) (p : Placed) → eol ≢ Missing → AreBytes (piece_text pieces piece) → section_at path (tree mail) ≡ Some p → IsWordMade pieces eol mail (Attaches path media name piece) u → IsLeafOf (section_at (new_path path p) u) (attached_bytes pieces eol media piece)
unfolding file_of
files_given_back pieces eol mail path media name piece u p n small found m =
    let new = file_there pieces eol mail path media name piece u p n found m in
    subst (λ o. IsLeafOf o (attached_bytes pieces eol media piece)) (sym new.found)
    (holds_given eol None (file_of pieces eol media name piece) new.part new.follows (not_open eol n) (attached_are pieces eol media piece small) new.followed new.entity)

some_same : (p q : Placed) → ◌≡◌ {A = Option Placed} (Some p) (Some q) → p ≡ q
some_same p q e = cc

-- a name that is written in UTF-8 is a text
said_is_text : (name : List ℕ) → is_said name ≡ true → is_utf8 name ≡ true
said_is_text name h = (both (is_utf8 name) (not (list_all is_shown name)) (both (nat_le (length name) longest_said) (is_utf8 name && not (list_all is_shown name)) h).1).0

pub names_said : (pieces : Pieces) (eol : Ending) (mail path media name : List ℕ) (piece : ℕ) (u : Document) (p q : Placed) → eol ≢ Missing → section_at path (tree mail) ≡ Some p → IsWordMade pieces eol mail (Attaches path media name piece) u → section_at (new_path path p) u ≡ Some q → SaysFile (file_name name) q
unfolding file_of
names_said pieces eol mail path media name piece u p q n found m there =
    let new = file_there pieces eol mail path media name piece u p n found m in
    let same : new.part ≡ q = some_same new.part q (sym new.found ∙ there) in
    let file = file_of pieces eol media name piece in
    let named = file_name name in
    let is : q.entity ≡ entity_by eol None file new.follows = ap (λ (x : Placed). x.entity) (sym same) ∙ new.entity in
    record {
      plain = λ h.
          let given : file.name ≡ Some named = rw h refl in
          says_name eol None file named new.follows q is given (rw h refl) (ap (λ o. option_map_or is_name o true) (sym given) ∙ new.named);
      said = λ h b.
          let given : file.name ≡ Some (plain_name named) = rw h refl in
          says_text eol None file (plain_name named) named new.follows q is given (rw h refl) (ap (λ o. option_map_or is_name o true) (sym given) ∙ new.named) b (said_is_text named h);
    }

-- ---- a text

record IsText (eol : Ending) (path : List ℕ) (a : Attached) (p : Option Placed) (r : Result (Option (List ℕ)) WordFault) (o : Option AttachError) (edits : List PlainEdit) : Type 0 where
  charset : Option (List ℕ)
  said : r ≡ Ok charset
  allowed : o ≡ None
  means : append eol path (made_part eol (attached_as eol charset a) p) p ≡ edits

text_by : (eol : Ending) (path : List ℕ) (a : Attached) (p : Option Placed) (r : Result (Option (List ℕ)) WordFault) (o : Option AttachError) (edits : List PlainEdit) → attach_text_by eol path a p r o ≡ Ok edits → IsText eol path a p r o edits
text_by eol path a p (Err fault) o edits h = err_edits fault edits h
text_by eol path a p (Ok charset) None edits h = record { charset = charset; said = refl; allowed = refl; means = same_edits (append eol path (made_part eol (attached_as eol charset a) p) p) edits h }
text_by eol path a p (Ok charset) (Some error) edits h = err_edits (attach_fault error) edits h

typed : (t : Bool) (x : Meaning) (edits : List PlainEdit) → (if t then x else Err BadType) ≡ Ok edits → x ≡ Ok edits
typed true x edits h = h
typed false x edits h = err_edits BadType edits h

same_charset : (x y : Option (List ℕ)) → ◌≡◌ {A = Result (Option (List ℕ)) WordFault} (Ok x) (Ok y) → x ≡ y
same_charset x y h = cc

err_charset : {A : Type 0} (fault : WordFault) (x : Option (List ℕ)) → ◌≡◌ {A = Result (Option (List ℕ)) WordFault} (Err fault) (Ok x) → A
err_charset fault x h = cc

-- the charset that is named is a token
token_by : (ascii utf8 : Bool) (charset : Option (List ℕ)) → (if ascii then Ok None else (if utf8 then Ok (Some (codes "utf-8")) else Err BadCharset)) ≡ Ok charset → option_map_or is_token charset true ≡ true
token_by true utf8 charset h = ap (λ o. option_map_or is_token o true) (sym (same_charset None charset h))
token_by false true charset h = ap (λ o. option_map_or is_token o true) (sym (same_charset (Some (codes "utf-8")) charset h))
token_by false false charset h = err_charset BadCharset charset h

pub texts_given_back : (pieces : Pieces) (eol : Ending) (mail path media : List ℕ) (piece : ℕ) (u : Document) (p : Placed) → eol ≢ Missing → AreBytes (piece_text pieces piece) → section_at path (tree mail) ≡ Some p → IsWordMade pieces eol mail (AttachesText path media piece) u → IsLeafOf (section_at (new_path path p) u) (piece_lines pieces eol piece)
texts_given_back pieces eol mail path media piece u p n small found m =
    let text = piece_lines pieces eol piece in
    let a = text_of_type media text in
    let means : attach_text eol path media text (Some p) ≡ Ok m.edits = ap (attach_text eol path media text) (sym found) ∙ m.means in
    let is = text_by eol path a (Some p) (said_charset text) (attach_refusal a) m.edits (typed (is_text media) (attach_text_by eol path a (Some p) (said_charset text) (attach_refusal a)) m.edits means) in
    let new = attached_there eol path mail is.charset a m.edits u p n (token_by (are_ascii text) (is_utf8 text) is.charset is.said) found is.allowed is.means m.made in
    subst (λ o. IsLeafOf o text) (sym new.found) (holds_given eol is.charset a new.part new.follows (not_open eol n) (lines_given pieces eol piece small) new.followed new.entity)
