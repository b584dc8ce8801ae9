-- The fields at the start of a built message: their lines are fields, and none says a content.
use Rattle.std.proofs.Common.{◌≡◌, ◌==◌, ◌&&◌, ◌++◌, if◌then◌else◌, ℕ, Bool, true, false, not, List, [], ◌∷◌, refl, ap, sym, ◌∙◌, subst, append_assoc, codes, nat_eq, inl, inr}
use Rattle.std.proofs.lemmas.Bool.{cases_Bool, eqb-true, or_parts}
use Rattle.std.specs.List.{flat_map, list_all, slice_get, starts_with}
use Rattle.std.specs.Option.{option_map_or}
use Rattle.std.specs.Str.{bytes_eq}
use Rattle.mk_line.specs.Ascii.{is_blank}
use Rattle.mk_line.specs.declared.cutting.Ending.{Ending}
use Rattle.mk_line.specs.declared.cutting.Ending.TheVariants.{Crlf, Lf, Missing}
use Rattle.mk_line.specs.Kinds.{is_field_start}
use Rattle.mk_line.specs.Lines.{TextLine, text_line, ending_bytes, is_lf, is_nil, is_open, onto_first, cut, text_of, AreLines, ends_open}
use Rattle.mk_line.proofs.Blanks.{untold}
use Rattle.mk_line.proofs.Cuts.{lines_cut, text_append, text_cut}
use Rattle.mk_head.specs.Fields.{field_text, is_named, is_one_field, name_of}
use Rattle.mk_head.specs.Split.{belongs, is_more, is_start}
use Rattle.mk_head.specs.Splits.{IsRun}
use Rattle.mk_head.specs.Types.{field_value}
use Rattle.mk_head.specs.Values.{lowered}
use Rattle.mk_head.proofs.FieldRuns.{more_start}
use Rattle.mk_build.specs.Building.{closed_field, is_free_field, is_made_name}
use Rattle.mk_mail.proofs.BuiltLines.{AreClosed, AreSome, closed_joined, cut_ended, lines_joined, one_more, some_closed}
use Rattle.mk_mail.proofs.FieldLines.{first_content, name_after, name_first, name_in, start_after, start_first}
use Rattle.mk_mail.proofs.PartTypes.{both}

not_true : (t : Bool) → not t ≡ true → t ≡ false
not_true true e = absurd cc
not_true false e = refl

-- the first line isn't that of a field that is made
abbrev is_free_start : List TextLine → Bool
is_free_start ls = option_map_or (λ l. not (is_made_name (name_of l))) (slice_get ls 0) false

-- lines that continue
abbrev pub AreMore : List TextLine → Type 0
AreMore [] = Unit {0}
AreMore (l ∷ ls) = (is_more l ≡ true) × AreMore ls

all_more : (ls : List TextLine) → list_all is_more ls ≡ true → AreMore ls
all_more [] h = tt
all_more (l ∷ ls) h = let p = both (is_more l) (list_all is_more ls) h in (p.0, all_more ls p.1)

-- lines that continue after the first
abbrev AreMoreBehind : List TextLine → Type 0
AreMoreBehind [] = Unit {0}
AreMoreBehind (l ∷ ls) = AreMore ls

more_after_of : (ls : List TextLine) → AreMore ls → AreMoreBehind ls
more_after_of [] h = tt
more_after_of (l ∷ ls) h = h.1

more_onto : (byte : ℕ) (ls : List TextLine) → AreMoreBehind ls → AreMoreBehind (onto_first byte ls)
more_onto byte [] h = tt
more_onto byte (l ∷ ls) h = h

onto_more : (byte : ℕ) (ls : List TextLine) → AreMoreBehind (onto_first byte ls) → AreMoreBehind ls
onto_more byte [] h = tt
onto_more byte (l ∷ ls) h = h

blank_return : {A : Type 0} (byte : ℕ) → byte ≡ 13 → is_blank byte ≡ true → A
blank_return byte e h = let bad : false ≡ true = ap is_blank (sym e) ∙ h in absurd cc

kept_by : (t : Bool) (byte : ℕ) (l : TextLine) → (t ≡ true → byte ≡ 13) → is_blank byte ≡ true → is_more (if t then text_line [] Crlf else text_line (byte ∷ l.content) l.ending) ≡ true
kept_by true byte l r h = blank_return byte (r refl) h
kept_by false byte l r h = h

return_at : (byte : ℕ) (l : TextLine) → ((is_lf l.ending && is_nil l.content) && byte == 13) ≡ true → byte ≡ 13
return_at byte l t = eqb-true byte 13 (both (is_lf l.ending && is_nil l.content) (byte == 13) t).1

blank_onto : (byte : ℕ) (ls : List TextLine) → is_blank byte ≡ true → AreMoreBehind ls → AreMore (onto_first byte ls)
blank_onto byte [] h k = (h, tt)
blank_onto byte (l ∷ ls) h k = (kept_by ((is_lf l.ending && is_nil l.content) && byte == 13) byte l (return_at byte l) h, k)

by_more : (t : Bool) (byte : ℕ) (l : TextLine) → is_more (if t then text_line [] Crlf else text_line (byte ∷ l.content) l.ending) ≡ true → is_blank byte ≡ true
by_more true byte l h = absurd cc
by_more false byte l h = h

onto_blank : (byte : ℕ) (ls : List TextLine) → AreMore (onto_first byte ls) → is_blank byte ≡ true
onto_blank byte [] h = h.0
onto_blank byte (l ∷ ls) h = by_more ((is_lf l.ending && is_nil l.content) && byte == 13) byte l h.0

-- whether a line feed is the last byte
abbrev pub ends_fed : List ℕ → Bool
ends_fed [] = false
ends_fed (byte ∷ []) = byte == 10
ends_fed (byte ∷ next ∷ bytes) = ends_fed (next ∷ bytes)

open_unfed : (byte : ℕ) (bytes : List ℕ) → ends_open (byte ∷ bytes) ≡ not (ends_fed (byte ∷ bytes))
open_unfed byte [] = refl
open_unfed byte (next ∷ bytes) = open_unfed next bytes

fed_feed : {A : Type 0} (byte : ℕ) → (byte == 10) ≡ true → ends_fed (byte ∷ []) ≡ false → A
fed_feed byte e h = let bad : true ≡ false = sym e ∙ h in absurd cc

fed_rest : (byte : ℕ) (bytes : List ℕ) → ends_fed (byte ∷ bytes) ≡ false → ends_fed bytes ≡ false
fed_rest byte [] h = refl
fed_rest byte (next ∷ bytes) h = h

-- an ending after an open last line
mutual
  more_ended : (text : List ℕ) (e : Ending) → is_open e ≡ false → is_nil text ≡ false → ends_fed text ≡ false → AreMore (cut text) → AreMore (cut (text ++ ending_bytes e))
  more_ended [] e c n f h = absurd cc
  more_ended (byte ∷ bytes) e c n f h =
      elim (cases_Bool (byte == 10)) [
        | inl feed ↦ let now = rw feed at h in let bad : false ≡ true = now.0 in absurd cc
        | inr other ↦
            let now = rw other at h in
            rw other (blank_onto byte (cut (bytes ++ ending_bytes e)) (onto_blank byte (cut bytes) now) (ended_after bytes e c (fed_rest byte bytes f) (onto_more byte (cut bytes) (more_after_of (onto_first byte (cut bytes)) now))))
      ]

  -- but for the first line
  ended_after : (text : List ℕ) (e : Ending) → is_open e ≡ false → ends_fed text ≡ false → AreMoreBehind (cut text) → AreMoreBehind (cut (text ++ ending_bytes e))
  ended_after [] Crlf c f h = tt
  ended_after [] Lf c f h = tt
  ended_after [] Missing c f h = absurd cc
  ended_after (byte ∷ []) e c f h =
      elim (cases_Bool (byte == 10)) [
        | inl feed ↦ fed_feed byte feed f
        | inr other ↦ rw other (more_onto byte (cut (ending_bytes e)) (ended_after [] e c refl tt))
      ]
  ended_after (byte ∷ next ∷ bytes) e c f h =
      elim (cases_Bool (byte == 10)) [
        | inl feed ↦ rw feed (more_ended (next ∷ bytes) e c refl f (rw feed at h))
        | inr other ↦ rw other (more_onto byte (cut ((next ∷ bytes) ++ ending_bytes e)) (ended_after (next ∷ bytes) e c f (onto_more byte (cut (next ∷ bytes)) (rw other at h))))
      ]

-- a text that ends so has no open line
closed_fed : (text : List ℕ) → ends_fed text ≡ true → AreSome (cut text)
closed_fed [] h = absurd cc
closed_fed (byte ∷ []) h =
    elim (cases_Bool (byte == 10)) [
      | inl feed ↦ rw feed (refl, tt)
      | inr other ↦ absurd (unfed byte other h)
    ]
  where
    unfed : (byte : ℕ) → (byte == 10) ≡ false → ends_fed (byte ∷ []) ≡ true → ⊥
    unfed byte n h = let bad : false ≡ true = sym n ∙ h in cc
closed_fed (byte ∷ next ∷ bytes) h = one_more (byte == 10) byte (cut (next ∷ bytes)) (closed_fed (next ∷ bytes) h)

-- the lines of a field that may stand at the start
pub record IsFieldLines (ls : List TextLine) : Type 0 where
  pub first : TextLine
  pub more : List TextLine
  pub lines_are : ls ≡ first ∷ more
  pub start : is_start first ≡ true
  pub free : is_made_name (name_of first) ≡ false
  pub continues : AreMore more
  pub closed : AreClosed ls

field_first : (l : TextLine) (ls : List TextLine) (text : List ℕ) → cut text ≡ l ∷ ls → (is_start l ≡ is_field_start text) × (name_of l ≡ name_in text)
field_first l ls text e =
    let same : l.content ≡ first_content (cut text) = ap first_content (sym e) in
    (ap is_field_start same ∙ start_first text, ap name_in same ∙ name_first text)

some_lines : (l : TextLine) (ls : List TextLine) (field : List ℕ) (eol : Ending) (ms : List TextLine) → cut field ≡ l ∷ ls → is_start l ≡ true → is_made_name (name_of l) ≡ false
    → cut (field ++ ending_bytes eol) ≡ ms → AreSome ms → AreMoreBehind ms → IsFieldLines ms
some_lines l ls field eol [] e s n m some more = absurd some
some_lines l ls field eol (m ∷ ms) e s n here some more =
    let old = field_first l ls field e in
    let new = field_first m ms (field ++ ending_bytes eol) here in
    let begins : is_field_start field ≡ true = sym old.0 ∙ s in
    record {
      first = m;
      more = ms;
      lines_are = refl;
      start = new.0 ∙ start_after field (ending_bytes eol) begins;
      free = ap is_made_name (new.1 ∙ (name_after field (ending_bytes eol) begins ∙ sym old.1)) ∙ n;
      continues = more;
      closed = some;
    }

-- a field whose last line is open
of_open : (eol : Ending) (field : List ℕ) (ls : List TextLine) → is_open eol ≡ false → cut field ≡ ls → is_one_field ls ≡ true → is_free_start ls ≡ true → ends_fed field ≡ false → IsFieldLines (cut (field ++ ending_bytes eol))
of_open eol field [] c e h k f = absurd cc
of_open eol field (l ∷ ls) c e h k f =
    let one = both (is_start l) (list_all is_more ls) h in
    let more = ended_after field eol c f (subst AreMoreBehind (sym e) (all_more ls one.1)) in
    some_lines l ls field eol (cut (field ++ ending_bytes eol)) e one.0 (not_true (is_made_name (name_of l)) k) refl (cut_ended field eol c) more

-- a field whose last line isn't
of_closed : (field : List ℕ) (ls : List TextLine) → cut field ≡ ls → is_one_field ls ≡ true → is_free_start ls ≡ true → ends_fed field ≡ true → IsFieldLines (cut field)
of_closed field [] e h k f = absurd cc
of_closed field (l ∷ ls) e h k f =
    let one = both (is_start l) (list_all is_more ls) h in
    record {
      first = l;
      more = ls;
      lines_are = e;
      start = one.0;
      free = not_true (is_made_name (name_of l)) k;
      continues = all_more ls one.1;
      closed = some_closed (cut field) (closed_fed field f);
    }

pub field_lines : (eol : Ending) (field : List ℕ) → is_open eol ≡ false → is_free_field field ≡ true → IsFieldLines (cut (closed_field eol field))
field_lines eol [] c h = absurd cc
field_lines eol (byte ∷ bytes) c h =
    let p = both (is_one_field (cut (byte ∷ bytes))) (is_free_start (cut (byte ∷ bytes))) h in
    elim (cases_Bool (ends_fed (byte ∷ bytes))) [
      | inl fed ↦
          let closed : ends_open (byte ∷ bytes) ≡ false = open_unfed byte bytes ∙ ap not fed in
          rw closed (of_closed (byte ∷ bytes) (cut (byte ∷ bytes)) refl p.0 p.1 fed)
      | inr unfed ↦
          let opened : ends_open (byte ∷ bytes) ≡ true = open_unfed byte bytes ∙ ap not unfed in
          rw opened (of_open eol (byte ∷ bytes) (cut (byte ∷ bytes)) c refl p.0 p.1 unfed)
    ]

-- the lines of all fields
abbrev pub fields_lines : Ending → List (List ℕ) → List TextLine
fields_lines eol [] = []
fields_lines eol (field ∷ fields) = cut (closed_field eol field) ++ fields_lines eol fields

-- all may stand at the start
abbrev pub AreFreeFields : List (List ℕ) → Type 0
AreFreeFields [] = Unit {0}
AreFreeFields (field ∷ fields) = (is_free_field field ≡ true) × AreFreeFields fields

pub fields_text : (eol : Ending) (fields : List (List ℕ)) → text_of (fields_lines eol fields) ≡ flat_map (closed_field eol) fields
fields_text eol [] = refl
fields_text eol (field ∷ fields) =
    text_append (cut (closed_field eol field)) (fields_lines eol fields)
    ∙ (λ i. text_cut (closed_field eol field) i ++ fields_text eol fields i)

pub fields_closed : (eol : Ending) (fields : List (List ℕ)) → is_open eol ≡ false → AreFreeFields fields → AreClosed (fields_lines eol fields)
fields_closed eol [] c h = tt
fields_closed eol (field ∷ fields) c h = closed_joined (cut (closed_field eol field)) (fields_lines eol fields) (field_lines eol field c h.0).closed (fields_closed eol fields c h.1)

pub fields_are_lines : (eol : Ending) (fields : List (List ℕ)) → is_open eol ≡ false → AreFreeFields fields → AreLines (fields_lines eol fields)
fields_are_lines eol [] c h = tt
fields_are_lines eol (field ∷ fields) c h =
    lines_joined (cut (closed_field eol field)) (fields_lines eol fields) (lines_cut (closed_field eol field)) (field_lines eol field c h.0).closed (fields_are_lines eol fields c h.1)

belongs_more : (l : TextLine) → is_more l ≡ true → belongs true l ≡ true
belongs_more l h =
    elim (cases_Bool (is_start l)) [
      | inl s ↦ rw s refl
      | inr s ↦ rw (s, h) refl
    ]

run_more : (ms rest : List TextLine) → AreMore ms → IsRun true rest → IsRun true (ms ++ rest)
run_more [] rest h r = r
run_more (m ∷ ms) rest h r = (belongs_more m h.0, run_more ms rest h.1 r)

apart : (xs ys zs rest : List TextLine) → xs ≡ ys → (xs ++ zs) ++ rest ≡ ys ++ (zs ++ rest)
apart xs ys zs rest e = ap (λ ls. (ls ++ zs) ++ rest) e ∙ append_assoc ys zs rest

-- they are fields
pub run_fields : (inside : Bool) (eol : Ending) (fields : List (List ℕ)) (rest : List TextLine) → is_open eol ≡ false → AreFreeFields fields → ((j : Bool) → IsRun j rest) → IsRun inside (fields_lines eol fields ++ rest)
run_fields inside eol [] rest c h r = r inside
run_fields inside eol (field ∷ fields) rest c h r =
    let k = field_lines eol field c h.0 in
    subst (IsRun inside) (sym (apart (cut (closed_field eol field)) (k.first ∷ k.more) (fields_lines eol fields) rest k.lines_are))
    (rw k.start refl, run_more k.more (fields_lines eol fields ++ rest) k.continues (run_fields true eol fields rest c h.1 r))

-- a name that begins with Content-
abbrev pub Describes : List ℕ → Type 0
Describes name = starts_with nat_eq (lowered name) (codes "content-") ≡ true

unnamed : (name : List ℕ) (l : TextLine) → Describes name → is_made_name (name_of l) ≡ false → is_named name (field_text l []) ≡ false
unnamed name l d h =
    let other = (or_parts (bytes_eq (lowered (name_of l)) (lowered (codes "MIME-Version"))) (starts_with nat_eq (lowered (name_of l)) (codes "content-")) h).1 in
    untold (lowered (name_of l)) (lowered name) (λ e. let bad : true ≡ false = sym d ∙ (ap (λ cs. starts_with nat_eq cs (codes "content-")) (sym e) ∙ other) in cc)

skip_more : (name : List ℕ) (ms rest : List TextLine) → AreMore ms → field_value name (ms ++ rest) ≡ field_value name rest
skip_more name [] rest h = refl
skip_more name (m ∷ ms) rest h = rw (more_start m h.0) (skip_more name ms rest h.1)

-- and none of them has such a name
pub skip_fields : (name : List ℕ) (eol : Ending) (fields : List (List ℕ)) (rest : List TextLine) → Describes name → is_open eol ≡ false → AreFreeFields fields → field_value name (fields_lines eol fields ++ rest) ≡ field_value name rest
skip_fields name eol [] rest d c h = refl
skip_fields name eol (field ∷ fields) rest d c h =
    let k = field_lines eol field c h.0 in
    ap (field_value name) (apart (cut (closed_field eol field)) (k.first ∷ k.more) (fields_lines eol fields) rest k.lines_are)
    ∙ (rw (k.start, unnamed name k.first d k.free) (skip_more name k.more (fields_lines eol fields ++ rest) k.continues)
    ∙ skip_fields name eol fields rest d c h.1)
