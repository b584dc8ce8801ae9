-- The last piece of a text, and the body after a head.
use Rattle.std.proofs.Common.{◌≡◌, ◌≢◌, ◌++◌, ℕ, suc, Bool, true, false, Option, None, Some, List, [], ◌∷◌, ◌<◌, codes, length, length-append, length-drop, drop, map, nat_lt, arith, sym, ap, ◌∙◌, refl, inl, inr}
use Rattle.std.proofs.lemmas.Bool.{cases_Bool, le-ltb, lt-ltb}
use Rattle.std.specs.Option.{option_map, unwrap_or}
use Rattle.mk_line.specs.declared.cutting.Ending.{Ending}
use Rattle.mk_line.specs.Lines.{TextLine, cut, eol_of, text_of, is_nil}
use Rattle.mk_line.proofs.Cuts.{cut_rest, text_apart}
use Rattle.mk_head.specs.Split.{after_head, head_lines, head_of}
use Rattle.mk_head.specs.Fields.{HeaderView, header_view}
use Rattle.std.specs.Prelude.{not}
use Rattle.mk_head.proofs.Splits.{head_body}
use Rattle.mk_script.specs.Paths.{parted}
use Rattle.mk_script.specs.inner.Numbers.{pieces_of}
use Rattle.mk_pack.specs.Parts.{last_of}
use Rattle.mk_build.specs.declared.building.BuildError.TheVariants as refused
use Rattle.mk_build.specs.Building.{Attached, is_free_field}
use Rattle.mk_build.specs.Forwards.{build_refusal, built}
use Rattle.mk_build.specs.declared.attachment.Attach.{Attach}
use Rattle.mk_build.specs.BuildViews.{attached_of}
use Rattle.mk_build.proofs.Failing.{position_here, position_more}
use Rattle.std.specs.List.{position}
use Rattle.mk_pack.specs.Packing.{Manner, fields_given, fields_in_front, has_body, packed, packed_in, told, usual_manner}
use Rattle.mk_transfer.specs.Said.{shown}
use Rattle.mk_script.proofs.PathLemmas.{pieces_of-parted, pieces_of-whole}
use Rattle.mk_script.proofs.PieceLemmas.{HasFirst, pieces_of-some}

last_more : (piece : List ℕ) (pieces : List (List ℕ)) → HasFirst pieces → last_of (piece ∷ pieces) ≡ last_of pieces
last_more piece [] h = absurd h
last_more piece (next ∷ pieces) h = refl

pub last_after : (separator : ℕ) (text : List ℕ) (p : List ℕ × List ℕ) → parted separator text ≡ Some p → last_of (pieces_of separator text) ≡ last_of (pieces_of separator p.1)
last_after separator text p e = ap last_of (pieces_of-parted separator text p e) ∙ last_more p.0 (pieces_of separator p.1) (pieces_of-some separator p.1)

pub last_whole : {A : Type 0} (f : A → List ℕ × List ℕ) (separator : ℕ) (text : List ℕ) (found : Option A) → option_map f found ≡ parted separator text → ((p : A) → found ≢ Some p) → last_of (pieces_of separator text) ≡ text
last_whole f separator text None e n = ap last_of (pieces_of-whole separator text (sym e))
last_whole f separator text (Some p) e n = absurd (n p refl)

some_left : (rest : List ℕ) (y : TextLine) (ys : List TextLine) → cut rest ≡ y ∷ ys → 0 < length rest
some_left [] y ys e = cc
some_left (byte ∷ bytes) y ys e = omega arith

-- a text goes on after its first lines exactly where there are more
goes_on : (text : List ℕ) (xs ys : List TextLine) → cut text ≡ xs ++ ys → nat_lt (length (text_of xs)) (length text) ≡ not (is_nil ys)
goes_on text xs [] e =
    le-ltb (length (text_of xs)) (length text) (omega (arith, ap length (text_apart text xs [] e), length-append (text_of xs) []))
goes_on text xs (y ∷ ys) e =
    lt-ltb (length (text_of xs)) (length text) (omega (arith, some_left (drop (length (text_of xs)) text) y ys (cut_rest text xs (y ∷ ys) e), length-drop (length (text_of xs)) text))

-- the text goes on after its head exactly where there is a body
pub body_told : (text : List ℕ) (h : HeaderView) (body : ℕ) → h ≡ header_view (head_of (cut text)) → body ≡ h.body → nat_lt body (length text) ≡ has_body (cut text)
body_told text h body e b =
    let apart = head_body (cut text) in
    ap (λ n. nat_lt n (length text)) (b ∙ ap (λ v. v.body) e)
    ∙ goes_on text (head_lines (head_of (cut text))) (after_head (cut text)) (sym apart)

-- a multipart/mixed with a boundary
abbrev pub between : List ℕ → Manner
between boundary = record { utf8_names = false; subtype = codes "mixed"; charset = None; boundary = Some boundary; turned = false }

-- what goes out where there is no reason against it
pub packed_well : (boundary : List ℕ) (parts : List Attached) (text : List ℕ) (fields : List (List ℕ)) (output errors : List ℕ) (eol : Ending)
    → fields ≡ fields_given (cut text) → eol ≡ eol_of (cut text) → build_refusal fields parts boundary ≡ None → output ≡ built eol fields parts boundary → errors ≡ []
    → shown output errors ≡ packed boundary parts text
packed_well boundary parts text fields output errors eol f e r o n =
    ap (λ x. shown output x) n ∙ (ap (λ x. shown x []) o ∙ (ap (told (built eol fields parts boundary)) (sym r)
    ∙ (ap (λ fs. told (built eol fs parts boundary) (build_refusal fs parts boundary)) f
    ∙ ap (λ x. told (built x (fields_given (cut text)) parts boundary) (build_refusal (fields_given (cut text)) parts boundary)) e)))

more_or : (o : Option ℕ) (n : ℕ) → unwrap_or (option_map suc o) (suc n) ≡ suc (unwrap_or o n)
more_or None n = refl
more_or (Some k) n = refl

-- after others one is found
failing_after : {X : Type 0} (p : X → Bool) (xs : List X) (y : X) → p y ≡ true → position p (xs ++ y ∷ []) ≡ Some (unwrap_or (position p xs) (length xs))
failing_after p [] y h = position_here p y [] h
failing_after p (x ∷ xs) y h = elim (cases_Bool (p x)) [
  | inl t ↦ position_here p x (xs ++ y ∷ []) t ∙ ap (λ o. Some (unwrap_or o (suc (length xs)))) (sym (position_here p x xs t))
  | inr f ↦
      position_more p x (xs ++ y ∷ []) f
      ∙ (ap (option_map suc) (failing_after p xs y h)
      ∙ (ap (λ n. Some n) (sym (more_or (position p xs) (length xs))) ∙ ap (λ o. Some (unwrap_or o (suc (length xs)))) (sym (position_more p x xs f))))
]

pub body_refused : (text : List ℕ) (parts : List Attached) (boundary : List ℕ) → has_body (cut text) ≡ true
    → build_refusal (fields_given (cut text)) parts boundary ≡ Some (refused.BadField (unwrap_or (position (λ f. not (is_free_field f)) (fields_in_front (cut text))) (length (fields_in_front (cut text)))))
body_refused text parts boundary has = rw (has, failing_after (λ f. not (is_free_field f)) (fields_in_front (cut text)) [] refl) refl

-- where only a boundary is given, and no message, the message is that of the fields and the parts
pub packed_plainly : (m : Manner) (boundary : List ℕ) (parts : List Attach) (text : List ℕ) → m ≡ between boundary → packed_in m parts [] text ≡ packed boundary (map attached_of parts) text
packed_plainly m boundary parts text e =
    ap (λ (k : Manner). packed_in k parts [] text) e

-- a boundary in the manner where nothing is asked for
pub between_of : (m : Manner) (boundary : List ℕ) → m ≡ usual_manner → record { utf8_names = m.utf8_names; subtype = m.subtype; charset = m.charset; boundary = Some boundary; turned = m.turned } ≡ between boundary
between_of m boundary e = ap (λ (k : Manner). record { utf8_names = k.utf8_names; subtype = k.subtype; charset = k.charset; boundary = Some boundary; turned = k.turned }) e
