-- The body of a part: an encoded text with an ending after it.
use Rattle.std.proofs.Common.{◌≡◌, ◌==◌, ◌&&◌, ◌++◌, if◌then◌else◌, ℕ, Bool, true, false, List, [], ◌∷◌, refl, ap, sym, ◌∙◌, inl, inr, append_assoc}
use Rattle.std.proofs.lemmas.Bool.{cases_Bool, eqb-true, ne_eqb}
use Rattle.std.proofs.lemmas.List.Folds.{list_all-append}
use Rattle.std.specs.List.{list_all}
use Rattle.mk_line.specs.Ascii.{is_blank}
use Rattle.mk_line.specs.declared.cutting.Ending.{Ending}
use Rattle.mk_line.specs.declared.cutting.Ending.TheVariants.{Crlf, Lf, Missing}
use Rattle.mk_line.specs.Lines.{TextLine, text_line, ending_bytes, is_lf, is_nil, is_open, onto_first, cut, text_of}
use Rattle.mk_line.specs.Marks.{dashed, trimmed_before, trimmed}
use Rattle.mk_code.specs.OutputLines.{IsSafe, AreSafe}
use Rattle.mk_tree.specs.Cutting.{Unmarked}
use Rattle.mk_tree.specs.Sections.{unended}
use Rattle.mk_tree.proofs.Endings.{ended_crlf, ended_lf}
use Rattle.mk_decide.proofs.WrapFields.{mark_none}
use Rattle.mk_code.proofs.NoReturns.{is_other}
use Rattle.mk_mail.proofs.PartTypes.{both}

-- whether bytes begin with a hyphen
abbrev pub begins_hyphen : List ℕ → Bool
begins_hyphen [] = false
begins_hyphen (byte ∷ bytes) = byte == 45

-- no line begins with a hyphen
abbrev pub AreFree : List TextLine → Type 0
AreFree [] = Unit {0}
AreFree (l ∷ ls) = (begins_hyphen l.content ≡ false) × AreFree ls

-- none after the first
abbrev AreFreeBehind : List TextLine → Type 0
AreFreeBehind [] = Unit {0}
AreFreeBehind (l ∷ ls) = AreFree ls

after_of : (ls : List TextLine) → AreFree ls → AreFreeBehind ls
after_of [] h = tt
after_of (l ∷ ls) h = h.1

onto_after : (byte : ℕ) (ls : List TextLine) → AreFreeBehind ls → AreFreeBehind (onto_first byte ls)
onto_after byte [] h = tt
onto_after byte (l ∷ ls) h = h

after_onto : (byte : ℕ) (ls : List TextLine) → AreFreeBehind (onto_first byte ls) → AreFreeBehind ls
after_onto byte [] h = tt
after_onto byte (l ∷ ls) h = h

first_by : (t : Bool) (byte : ℕ) (l : TextLine) → (byte == 45) ≡ false → begins_hyphen (if t then text_line [] Crlf else text_line (byte ∷ l.content) l.ending).content ≡ false
first_by true byte l h = refl
first_by false byte l h = h

onto_free : (byte : ℕ) (ls : List TextLine) → (byte == 45) ≡ false → AreFreeBehind ls → AreFree (onto_first byte ls)
onto_free byte [] h k = (h, tt)
onto_free byte (l ∷ ls) h k = (first_by ((is_lf l.ending && is_nil l.content) && byte == 13) byte l h, k)

by_first : (t : Bool) (byte : ℕ) (l : TextLine) → (t ≡ true → (byte == 13) ≡ true) → begins_hyphen (if t then text_line [] Crlf else text_line (byte ∷ l.content) l.ending).content ≡ false → (byte == 45) ≡ false
by_first true byte l r h = let same : byte ≡ 13 = eqb-true byte 13 (r refl) in ap (λ c. c == 45) same
by_first false byte l r h = h

first_free : (byte : ℕ) (ls : List TextLine) → AreFree (onto_first byte ls) → (byte == 45) ≡ false
first_free byte [] h = h.0
first_free byte (l ∷ ls) h = by_first ((is_lf l.ending && is_nil l.content) && byte == 13) byte l (λ t. (both (is_lf l.ending && is_nil l.content) (byte == 13) t).1) h.0

-- an ending after a text makes no line begin with a hyphen
mutual
  pub free_ended : (text : List ℕ) (e : Ending) → is_open e ≡ false → AreFree (cut text) → AreFree (cut (text ++ ending_bytes e))
  free_ended [] Crlf c h = (refl, tt)
  free_ended [] Lf c h = (refl, tt)
  free_ended [] Missing c h = absurd cc
  free_ended (byte ∷ text) e c h =
      elim (cases_Bool (byte == 10)) [
        | inl feed ↦ rw feed (refl, free_ended text e c (rw feed at h).1)
        | inr other ↦
            let now = rw other at h in
            rw other (onto_free byte (cut (text ++ ending_bytes e)) (first_free byte (cut text) now) (after_ended text e c (after_onto byte (cut text) (after_of (onto_first byte (cut text)) now))))
      ]

  after_ended : (text : List ℕ) (e : Ending) → is_open e ≡ false → AreFreeBehind (cut text) → AreFreeBehind (cut (text ++ ending_bytes e))
  after_ended [] Crlf c h = tt
  after_ended [] Lf c h = tt
  after_ended [] Missing c h = absurd cc
  after_ended (byte ∷ text) e c h =
      elim (cases_Bool (byte == 10)) [
        | inl feed ↦ rw feed (free_ended text e c (rw feed at h))
        | inr other ↦ rw other (onto_after byte (cut (text ++ ending_bytes e)) (after_ended text e c (after_onto byte (cut text) (rw other at h))))
      ]

safe_first : (content : List ℕ) → IsSafe content → begins_hyphen content ≡ false
safe_first [] h = refl
safe_first (byte ∷ bytes) h = ne_eqb byte 45 h.no_hyphen

-- safe lines are such lines
pub safe_free : (ls : List TextLine) → AreSafe ls → AreFree ls
safe_free [] h = tt
safe_free (l ∷ ls) h = (safe_first l.content h.0, safe_free ls h.1)

not_hyphen : (c : ℕ) → (c == 45) ≡ false → c ≡ 45 → ⊥
not_hyphen c n e = let bad : false ≡ true = sym n ∙ ap (λ d. d == 45) e in cc

before_dash : (c : ℕ) (ts x : List ℕ) → (c == 45) ≡ false → trimmed_before c ts ≡ 45 ∷ x → ⊥
before_dash c [] x n e =
    elim (cases_Bool (is_blank c)) [
      | inl blank ↦ let now = rw blank at e in cc
      | inr other ↦ let now = rw other at e in not_hyphen c n cc
    ]
before_dash c (d ∷ ds) x n e = not_hyphen c n cc

undashed : (content x : List ℕ) → begins_hyphen content ≡ false → trimmed content ≡ dashed x → ⊥
undashed [] x h e = cc
undashed (c ∷ cs) x h e = before_dash c (trimmed cs) (45 ∷ x) h e

-- and no line is a mark
pub free_unmarked : (b : List ℕ) (ls : List TextLine) → AreFree ls → Unmarked b ls
free_unmarked b [] h = tt
free_unmarked b (l ∷ ls) h = (mark_none b l.content (λ x e. undashed l.content x h.0 e), free_unmarked b ls h.1)

returned : (enc f : List ℕ) → list_all is_other enc ≡ true → enc ≡ f ++ 13 ∷ [] → ⊥
returned enc f h e =
    let parts = both (list_all is_other f) (list_all is_other (13 ∷ [])) (sym (list_all-append is_other f (13 ∷ [])) ∙ (ap (list_all is_other) (sym e) ∙ h)) in
    let bad : false ≡ true = parts.1 in
    cc

-- what is left of such a body without the ending at its end
pub body_content : (enc : List ℕ) (e : Ending) → is_open e ≡ false → (e ≡ Lf → list_all is_other enc ≡ true) → text_of (unended (cut (enc ++ ending_bytes e))) ≡ enc
body_content enc Crlf c h = sym (ended_crlf (enc ++ 13 ∷ 10 ∷ []) (enc ++ 13 ∷ []) enc (sym (append_assoc enc (13 ∷ []) (10 ∷ []))) refl)
body_content enc Lf c h = sym (ended_lf (enc ++ 10 ∷ []) enc refl (λ f e. returned enc f (h refl) e))
body_content enc Missing c h = absurd cc
