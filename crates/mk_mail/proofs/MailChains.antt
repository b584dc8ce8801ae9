-- Texts that are messages of one mailbox: joined they are cut into these messages again.
use Rattle.mk_mailbox.specs.declared.from_lines.FromLines.{FromLines}
use Rattle.std.proofs.Common.{◌≡◌, ◌++◌, ℕ, Bool, true, false, List, [], ◌∷◌, refl, ap, sym, ◌∙◌, subst, inl, inr, map, filter, append-nil}
use Rattle.std.specs.List.{flat_map}
use Rattle.std.proofs.lemmas.Bool.{cases_Bool}
use Rattle.mk_line.specs.declared.cutting.Ending.{Ending}
use Rattle.mk_line.specs.declared.cutting.Ending.TheVariants.{Crlf, Lf, Missing}
use Rattle.mk_line.specs.Lines.{AreLines, IsLine, TextLine, cut, is_nil, text_line, text_of}
use Rattle.mk_line.proofs.Cuts.{cut_text, lines_cut, text_append, text_cut}
use Rattle.std.specs.Prelude.{not}
use Rattle.mk_mail.specs.Filtered.{is_left}
use Rattle.mk_mailbox.specs.declared.from_lines.FromLines.TheVariants.{Any, Dated, Fielded}
use Rattle.mk_mailbox.specs.Pieces.{is_first, is_followed, is_mail_start, front, later, may_begin, parted, mailbox_pieces}
use Rattle.mk_mailbox.specs.Places.{begins_from, ends_empty}
use Rattle.mk_mail.proofs.FieldNames.{both_true}
use Rattle.mk_mailbox.proofs.LineStarts.{begin_none, begin_some, other_first}
use Rattle.mk_mailbox.proofs.PieceLaws.{lines_front, still_belongs}

-- no line begins a message, where `e` says whether the line before the first is empty
abbrev pub IsWhole : FromLines → Bool → List TextLine → Type 0
IsWhole way e [] = Unit {0}
IsWhole way e (l ∷ ls) = (is_first way e l.content ls ≡ false) × IsWhole way (is_nil l.content) ls

-- lines of a message: some, none of which begins another
abbrev pub AreMessage : FromLines → List TextLine → Type 0
AreMessage way ls = (not (is_nil ls) ≡ true) × IsWhole way false ls

-- what stands before other messages ends with an empty line, and they begin with a From-line
abbrev pub AreBefore : FromLines → Bool → List (List TextLine) → Type 0
AreBefore way t [] = Unit {0}
AreBefore way t (m ∷ ms) = (t ≡ true) × (begins_from way m ≡ true)

-- the lines of the messages of a mailbox
abbrev pub AreMail : FromLines → List (List TextLine) → Type 0
AreMail way [] = Unit {0}
AreMail way (m ∷ ms) = AreMessage way m × AreBefore way (ends_empty false m) ms × AreMail way ms

-- texts that are the messages of one mailbox
abbrev pub IsMail : FromLines → List (List ℕ) → Type 0
IsMail way ps = AreMail way (map cut ps)

-- ---- joined lines are parted again

-- a line of a message that ends with an empty line begins no other, whatever follows the message
before_more : (way : FromLines) (e : Bool) (l : TextLine) (ls ms : List TextLine) → is_first way e l.content ls ≡ false → ends_empty e (l ∷ ls) ≡ true → is_first way e l.content (ls ++ ms) ≡ false
before_more way e l [] ms h t = other_first way e l.content ms (none_begins way e l.content t)
  where
    none_begins : (way : FromLines) (e : Bool) (content : List ℕ) → is_nil content ≡ true → may_begin way e content ≡ false
    none_begins way e [] t = begin_none way e
    none_begins way e (byte ∷ bytes) t = cc
before_more way e l (m ∷ ls) ms h t = h

front_whole : (way : FromLines) (e : Bool) (ls ms : List TextLine) → IsWhole way e ls → ends_empty e ls ≡ true → front way e (ls ++ ms) ≡ ls ++ front way (ends_empty e ls) ms
front_whole way e [] ms w t = refl
front_whole way e (l ∷ ls) ms w t = rw (before_more way e l ls ms w.0 t) (ap (λ (xs : List TextLine). l ∷ xs) (front_whole way (is_nil l.content) ls ms w.1 t))

later_whole : (way : FromLines) (e : Bool) (ls ms : List TextLine) → IsWhole way e ls → ends_empty e ls ≡ true → later way e (ls ++ ms) ≡ later way (ends_empty e ls) ms
later_whole way e [] ms w t = refl
later_whole way e (l ∷ ls) ms w t = rw (before_more way e l ls ms w.0 t) (later_whole way (is_nil l.content) ls ms w.1 t)

front_alone : (way : FromLines) (e : Bool) (ls : List TextLine) → IsWhole way e ls → front way e ls ≡ ls
front_alone way e [] w = refl
front_alone way e (l ∷ ls) w = rw w.0 (ap (λ (xs : List TextLine). l ∷ xs) (front_alone way (is_nil l.content) ls w.1))

later_alone : (way : FromLines) (e : Bool) (ls : List TextLine) → IsWhole way e ls → later way e ls ≡ []
later_alone way e [] w = refl
later_alone way e (l ∷ ls) w = rw w.0 (later_alone way (is_nil l.content) ls w.1)

front_from : (way : FromLines) (ms : List TextLine) → begins_from way ms ≡ true → front way true ms ≡ []
front_from way [] b = refl
front_from way (m ∷ ms) b = rw b refl

later_from : (way : FromLines) (ms : List TextLine) → begins_from way ms ≡ true → later way true ms ≡ parted way ms
later_from way [] b = refl
later_from way (m ∷ ms) b = rw b refl

-- the lines of a message, and after them those of others
parted_before : (way : FromLines) (ls ms : List TextLine) → AreMessage way ls → ends_empty false ls ≡ true → begins_from way ms ≡ true → parted way (ls ++ ms) ≡ ls ∷ parted way ms
parted_before way [] ms a e b = cc
parted_before way (l ∷ ls) ms a e b =
    let i = is_nil l.content in
    let front_is : front way i (ls ++ ms) ≡ ls = front_whole way i ls ms a.1.1 e ∙ (ap (λ x. ls ++ front way x ms) e ∙ (ap (λ xs. ls ++ xs) (front_from way ms b) ∙ append-nil ls)) in
    let later_is : later way i (ls ++ ms) ≡ parted way ms = later_whole way i ls ms a.1.1 e ∙ (ap (λ x. later way x ms) e ∙ later_from way ms b) in
    (λ k. (l ∷ front_is k) ∷ later_is k)

-- the lines of a message alone
parted_alone : (way : FromLines) (ls : List TextLine) → AreMessage way ls → parted way ls ≡ ls ∷ []
parted_alone way [] a = cc
parted_alone way (l ∷ ls) a =
    let i = is_nil l.content in
    (λ k. (l ∷ front_alone way i ls a.1.1 k) ∷ later_alone way i ls a.1.1 k)

-- ---- joined texts

-- an empty line has an ending, so lines may stand after it
closed_empty : (l : TextLine) (ms : List TextLine) → IsLine l → is_nil l.content ≡ true → l.ending ≡ Missing → ms ≡ []
closed_empty l ms h n m = absurd (no_empty l.ending l.content h m n)
  where
    no_empty : (e : Ending) (content : List ℕ) → IsLine (text_line content e) → e ≡ Missing → is_nil content ≡ true → ⊥
    no_empty Crlf content h m n = cc
    no_empty Lf content h m n = cc
    no_empty Missing content h m n = let open_some = h.ends_well in cc

lines_joined : (e : Bool) (ls ms : List TextLine) → AreLines ls → ends_empty e ls ≡ true → AreLines ms → AreLines (ls ++ ms)
lines_joined e [] ms h t g = g
lines_joined e (l ∷ []) ms h t g = (h.0, closed_empty l ms h.0 t, g)
lines_joined e (l ∷ m ∷ ls) ms h t g = (h.0, (λ o. absurd (some_after m ls (h.1 o))), lines_joined (is_nil l.content) (m ∷ ls) ms h.2 t g)
  where
    some_after : (m : TextLine) (ls : List TextLine) → m ∷ ls ≡ [] → ⊥
    some_after m ls q = cc

-- texts of which the first ends with an empty line
cut_joined : (p rest : List ℕ) → ends_empty false (cut p) ≡ true → cut (p ++ rest) ≡ cut p ++ cut rest
cut_joined p rest t =
    ap cut (λ i. sym (text_cut p) i ++ sym (text_cut rest) i)
    ∙ (ap cut (sym (text_append (cut p) (cut rest))) ∙ cut_text (cut p ++ cut rest) (lines_joined false (cut p) (cut rest) (lines_cut p) t (lines_cut rest)))

followed_on : (way : FromLines) (ls ms : List TextLine) → is_followed way ls ≡ true → is_followed way (ls ++ ms) ≡ true
followed_on Any [] ms f = refl
followed_on Dated [] ms f = refl
followed_on Fielded [] ms f = cc
followed_on way (l ∷ ls) ms f = f

begins_on : (way : FromLines) (ls ms : List TextLine) → begins_from way ls ≡ true → begins_from way (ls ++ ms) ≡ true
begins_on way [] ms b = cc
begins_on way (l ∷ ls) ms b =
    let both = both_true (is_mail_start way l.content) (is_followed way ls) b in
    rw (both.0, followed_on way ls ms both.1) refl

-- all texts of a mailbox begin as the first does
begins_joined : (way : FromLines) (q : List ℕ) (qs : List (List ℕ)) → AreBefore way (ends_empty false (cut q)) (map cut qs) → begins_from way (cut q) ≡ true → begins_from way (cut (q ++ flat_map (λ p. p) qs)) ≡ true
begins_joined way q [] j b = ap (λ x. begins_from way (cut x)) (append-nil q) ∙ b
begins_joined way q (r ∷ rs) j b = ap (begins_from way) (cut_joined q (flat_map (λ p. p) (r ∷ rs)) j.0) ∙ begins_on way (cut q) (cut (flat_map (λ p. p) (r ∷ rs))) b

pub mail_parted : (way : FromLines) (ps : List (List ℕ)) → IsMail way ps → mailbox_pieces way (flat_map (λ p. p) ps) ≡ ps
mail_parted way [] h = refl
mail_parted way (p ∷ []) h =
    ap (mailbox_pieces way) (append-nil p)
    ∙ (ap (λ ls. map text_of ls) (parted_alone way (cut p) h.0) ∙ ap (λ x. x ∷ []) (text_cut p))
mail_parted way (p ∷ q ∷ qs) h =
    let rest = flat_map (λ p. p) (q ∷ qs) in
    ap (λ ls. map text_of (parted way ls)) (cut_joined p rest h.1.0)
    ∙ (ap (λ ls. map text_of ls) (parted_before way (cut p) (cut rest) h.0 h.1.0 (begins_joined way q qs h.2.1 h.1.1))
    ∙ (λ i. text_cut p i ∷ mail_parted way (q ∷ qs) h.2 i))

-- ---- the messages of a mailbox are so

whole_front : (way : FromLines) (e : Bool) (ls : List TextLine) → IsWhole way e (front way e ls)
whole_front way e [] = tt
whole_front way e (l ∷ ls) =
    elim (cases_Bool (is_first way e l.content ls)) [
      | inl t ↦ rw t tt
      | inr n ↦ rw n (still_belongs way e (is_nil l.content) l.content ls n, whole_front way (is_nil l.content) ls)
    ]

-- the field after a From-line stays in its message
followed_front : (way : FromLines) (e : Bool) (ls : List TextLine) → e ≡ false → is_followed way ls ≡ true → is_followed way (front way e ls) ≡ true
followed_front way e [] n f = f
followed_front way e (l ∷ ls) n f = rw n f

begins_front : (way : FromLines) (e : Bool) (l : TextLine) (ls : List TextLine) → is_first way e l.content ls ≡ true → (e ≡ true) × (begins_from way (l ∷ front way (is_nil l.content) ls) ≡ true)
begins_front way e l ls t =
    let both = both_true (may_begin way e l.content) (is_followed way ls) t in
    let parts = both_true e (is_mail_start way l.content) both.0 in
    let stays : is_followed way (front way (is_nil l.content) ls) ≡ true = followed_front way (is_nil l.content) ls (begin_some way e l.content both.0) both.1 in
    (parts.0, rw (parts.1, stays) refl)

before_later : (way : FromLines) (e : Bool) (ls : List TextLine) → AreBefore way (ends_empty e (front way e ls)) (later way e ls)
before_later way e [] = tt
before_later way e (l ∷ ls) =
    elim (cases_Bool (is_first way e l.content ls)) [
      | inl t ↦ rw t (begins_front way e l ls t)
      | inr n ↦ rw n (before_later way (is_nil l.content) ls)
    ]

mail_later : (way : FromLines) (e : Bool) (ls : List TextLine) → AreMail way (later way e ls)
mail_later way e [] = tt
mail_later way e (l ∷ ls) =
    let i = is_nil l.content in
    elim (cases_Bool (is_first way e l.content ls)) [
      | inl t ↦ rw t ((refl, (refl, whole_front way i ls)), before_later way i ls, mail_later way i ls)
      | inr n ↦ rw n (mail_later way i ls)
    ]

mail_lines : (way : FromLines) (ls : List TextLine) → AreMail way (parted way ls)
mail_lines way [] = tt
mail_lines way (l ∷ ls) = let i = is_nil l.content in ((refl, (refl, whole_front way i ls)), before_later way i ls, mail_later way i ls)

-- the lines of a message are those of its text
abbrev AllLines : List (List TextLine) → Type 0
AllLines [] = Unit {0}
AllLines (m ∷ ms) = AreLines m × AllLines ms

lines_message : (way : FromLines) (l : TextLine) (ls : List TextLine) → AreLines (l ∷ ls) → AreLines (l ∷ front way (is_nil l.content) ls)
lines_message way l ls h = (h.0, (λ o. ap (front way (is_nil l.content)) (h.1 o)), lines_front way (is_nil l.content) ls h.2)

lines_later : (way : FromLines) (e : Bool) (ls : List TextLine) → AreLines ls → AllLines (later way e ls)
lines_later way e [] h = tt
lines_later way e (l ∷ ls) h =
    let rest = lines_later way (is_nil l.content) ls h.2 in
    elim (cases_Bool (is_first way e l.content ls)) [
      | inl t ↦ rw t (lines_message way l ls h, rest)
      | inr n ↦ rw n rest
    ]

lines_parted : (way : FromLines) (ls : List TextLine) → AreLines ls → AllLines (parted way ls)
lines_parted way [] h = tt
lines_parted way (l ∷ ls) h = (lines_message way l ls h, lines_later way (is_nil l.content) ls h.2)

cut_again : (ms : List (List TextLine)) → AllLines ms → map cut (map text_of ms) ≡ ms
cut_again [] h = refl
cut_again (m ∷ ms) h = (λ i. cut_text m h.0 i ∷ cut_again ms h.1 i)

pub mail_of : (way : FromLines) (text : List ℕ) → IsMail way (mailbox_pieces way text)
mail_of way text = subst (AreMail way) (sym (cut_again (parted way (cut text)) (lines_parted way (cut text) (lines_cut text)))) (mail_lines way (cut text))

-- ---- messages changed one by one

-- lines in the place of those of a message: none begins another, and they begin and end as these do
pub record IsKept (way : FromLines) (old new : List TextLine) : Type 0 where
  pub whole : IsWhole way false new
  pub ends : ends_empty false old ≡ true → ends_empty false new ≡ true
  pub begins : begins_from way old ≡ true → begins_from way new ≡ true

pub some_lines : (p : List ℕ) (ls : List TextLine) → cut p ≡ ls → is_left p ≡ true → not (is_nil ls) ≡ true
some_lines p [] e t = ap is_left (sym (ap text_of e) ∙ text_cut p) ∙ t
some_lines p (l ∷ ls) e t = refl

ends_left : (p : List ℕ) → ends_empty false (cut p) ≡ true → is_left p ≡ true
ends_left [] h = cc
ends_left (x ∷ xs) h = refl

pub begins_left : (way : FromLines) (p : List ℕ) → begins_from way (cut p) ≡ true → is_left p ≡ true
begins_left way [] h = cc
begins_left way (x ∷ xs) h = refl

pub mail_kept : (way : FromLines) (f : List ℕ → List ℕ) → ((p : List ℕ) → AreMessage way (cut p) → IsKept way (cut p) (cut (f p))) → (ps : List (List ℕ)) → IsMail way ps → IsMail way (filter is_left (map f ps))
mail_kept way f k [] h = tt
mail_kept way f k (p ∷ []) h =
    let kp = k p h.0 in
    elim (cases_Bool (is_left (f p))) [
      | inl t ↦ rw t ((some_lines (f p) (cut (f p)) refl t, kp.whole), tt, tt)
      | inr n ↦ rw n tt
    ]
mail_kept way f k (p ∷ q ∷ qs) h =
    let kp = k p h.0 in
    let kq = k q h.2.0 in
    let ends = kp.ends h.1.0 in
    let begins = kq.begins h.1.1 in
    let first : is_left (f p) ≡ true = ends_left (f p) ends in
    let second : is_left (f q) ≡ true = begins_left way (f q) begins in
    let rest_is : filter is_left (map f (q ∷ qs)) ≡ f q ∷ filter is_left (map f qs) = rw second refl in
    let all_is : filter is_left (map f (p ∷ q ∷ qs)) ≡ f p ∷ filter is_left (map f (q ∷ qs)) = rw first refl in
    subst (IsMail way) (sym (all_is ∙ ap (λ xs. f p ∷ xs) rest_is)) (
      (some_lines (f p) (cut (f p)) refl first, kp.whole),
      (ends, begins),
      subst (IsMail way) rest_is (mail_kept way f k (q ∷ qs) h.2),
    )

-- an empty text adds nothing
joined_left : (ps : List (List ℕ)) → flat_map (λ p. p) (filter is_left ps) ≡ flat_map (λ p. p) ps
joined_left [] = refl
joined_left ([] ∷ ps) = joined_left ps
joined_left ((x ∷ xs) ∷ ps) = ap (λ ys. (x ∷ xs) ++ ys) (joined_left ps)

joined_map : (f : List ℕ → List ℕ) (ps : List (List ℕ)) → flat_map f ps ≡ flat_map (λ p. p) (map f ps)
joined_map f [] = refl
joined_map f (p ∷ ps) = ap (λ x. f p ++ x) (joined_map f ps)

-- messages that are changed one by one so stay apart
pub kept_apart : (way : FromLines) (f : List ℕ → List ℕ) → ((p : List ℕ) → AreMessage way (cut p) → IsKept way (cut p) (cut (f p))) → (text : List ℕ)
    → mailbox_pieces way (flat_map f (mailbox_pieces way text)) ≡ filter is_left (map f (mailbox_pieces way text))
kept_apart way f k text =
    let ps = mailbox_pieces way text in
    ap (mailbox_pieces way) (joined_map f ps ∙ sym (joined_left (map f ps))) ∙ mail_parted way (filter is_left (map f ps)) (mail_kept way f k ps (mail_of way text))
