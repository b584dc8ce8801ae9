-- Where a mailbox is cut.
use Rattle.std.proofs.Common.{◌≡◌, ◌≢◌, ◌&&◌, ◌++◌, ◌∙◌, ℕ, Bool, true, false, List, [], ◌∷◌, refl, ap, sym, subst, inl, inr, map}
use Rattle.std.proofs.lemmas.Bool.{cases_Bool}
use Rattle.mk_line.specs.Lines.{AreLines, TextLine, cut, is_nil, text_of}
use Rattle.mk_line.proofs.Cuts.{cut_text, lines_cut, lines_following, text_cut}
use Rattle.mk_mailbox.specs.declared.from_lines.FromLines.{FromLines}
use Rattle.mk_mailbox.specs.MailboxLaws.{are_parted}
use Rattle.mk_mailbox.specs.Pieces.{front, is_first, is_followed, is_mail_start, later, mailbox_pieces, may_begin, parted}
use Rattle.mk_mailbox.specs.Places.{begins_from, ends_empty}
use Rattle.mk_mailbox.proofs.LineStarts.{begin_none, other_first}

lines_before : (xs ys : List TextLine) → AreLines (xs ++ ys) → AreLines xs
lines_before [] ys h = tt
lines_before (x ∷ xs) ys h = (h.0, (λ o. none_before xs ys (h.1 o)), lines_before xs ys h.2)
  where
    none_before : (xs ys : List TextLine) → xs ++ ys ≡ [] → xs ≡ []
    none_before [] ys e = refl
    none_before (x ∷ xs) ys e = cc

-- an empty line begins no message
empty_first : (way : FromLines) (e : Bool) (content : List ℕ) (ls : List TextLine) → is_nil content ≡ true → is_first way e content ls ≡ false
empty_first way e [] ls h = other_first way e [] ls (begin_none way e)
empty_first way e (byte ∷ bytes) ls h = cc

-- whether a line before a place begins a message, the lines before the place tell
first_before : (way : FromLines) (e : Bool) (l : TextLine) (xs ys : List TextLine) → ends_empty (is_nil l.content) xs ≡ true → is_first way e l.content (xs ++ ys) ≡ is_first way e l.content xs
first_before way e l [] ys h = empty_first way e l.content ys h ∙ sym (empty_first way e l.content [] h)
first_before way e l (x ∷ xs) ys h = refl

-- a line after an empty one that is a From-line which counts begins a message
starts_here : (way : FromLines) (e : Bool) (content : List ℕ) (ls : List TextLine) → e ≡ true → (is_mail_start way content && is_followed way ls) ≡ true → is_first way e content ls ≡ true
starts_here way e content ls h b = rw h b

front_parted : (way : FromLines) (e : Bool) (xs : List TextLine) (y : TextLine) (ys : List TextLine) → ends_empty e xs ≡ true → begins_from way (y ∷ ys) ≡ true → front way e (xs ++ (y ∷ ys)) ≡ front way e xs
front_parted way e [] y ys h b = rw (starts_here way e y.content ys h b) refl
front_parted way e (l ∷ xs) y ys h b =
    let same = first_before way e l xs (y ∷ ys) h in
    elim (cases_Bool (is_first way e l.content xs)) [
      | inl t ↦ rw (same ∙ t, t) refl
      | inr n ↦ rw (same ∙ n, n) (ap (λ (zs : List TextLine). l ∷ zs) (front_parted way (is_nil l.content) xs y ys h b))
    ]

later_parted : (way : FromLines) (e : Bool) (xs : List TextLine) (y : TextLine) (ys : List TextLine) → ends_empty e xs ≡ true → begins_from way (y ∷ ys) ≡ true
    → later way e (xs ++ (y ∷ ys)) ≡ later way e xs ++ parted way (y ∷ ys)
later_parted way e [] y ys h b = rw (starts_here way e y.content ys h b) refl
later_parted way e (l ∷ xs) y ys h b =
    let same = first_before way e l xs (y ∷ ys) h in
    elim (cases_Bool (is_first way e l.content xs)) [
      | inl t ↦ rw (same ∙ t, t) (λ i. (l ∷ front_parted way (is_nil l.content) xs y ys h b i) ∷ later_parted way (is_nil l.content) xs y ys h b i)
      | inr n ↦ rw (same ∙ n, n) (later_parted way (is_nil l.content) xs y ys h b)
    ]

parted_apart : (way : FromLines) (xs : List TextLine) (y : TextLine) (ys : List TextLine) → ends_empty false xs ≡ true → begins_from way (y ∷ ys) ≡ true → parted way (xs ++ (y ∷ ys)) ≡ parted way xs ++ parted way (y ∷ ys)
parted_apart way [] y ys h b = cc
parted_apart way (l ∷ xs) y ys h b = λ i. (l ∷ front_parted way (is_nil l.content) xs y ys h b i) ∷ later_parted way (is_nil l.content) xs y ys h b i

map_parted : (xs ys : List (List TextLine)) → map text_of (xs ++ ys) ≡ map text_of xs ++ map text_of ys
map_parted [] ys = refl
map_parted (x ∷ xs) ys = ap (λ (zs : List (List ℕ)). text_of x ∷ zs) (map_parted xs ys)

both_hold : (a b : Bool) → (a && b) ≡ true → (a ≡ true) × (b ≡ true)
both_hold true b h = (refl, h)
both_hold false b h = cc

pub cuts_made : (way : FromLines) (text : List ℕ) (xs ys : List TextLine) → cut text ≡ xs ++ ys → are_parted way xs ys ≡ true → mailbox_pieces way text ≡ mailbox_pieces way (text_of xs) ++ mailbox_pieces way (text_of ys)
cuts_made way text xs [] e p = let none = (both_hold (ends_empty false xs) false p).1 in cc
cuts_made way text xs (y ∷ ys) e p =
    let lines = subst AreLines e (lines_cut text) in
    let parts = both_hold (ends_empty false xs) (begins_from way (y ∷ ys)) p in
    ap (λ ls. map text_of (parted way ls)) e
    ∙ (ap (map text_of) (parted_apart way xs y ys parts.0 parts.1)
    ∙ (map_parted (parted way xs) (parted way (y ∷ ys))
    ∙ (λ i. map text_of (parted way (sym (cut_text xs (lines_before xs (y ∷ ys) lines)) i)) ++ map text_of (parted way (sym (cut_text (y ∷ ys) (lines_following xs (y ∷ ys) lines)) i)))))

not_first : (a b c : Bool) → (a && (b && c)) ≡ false → ((a && b) && c) ≡ false
not_first true b c h = h
not_first false b c h = refl

-- lines without a place to cut all belong to the message
all_belong : (way : FromLines) (e : Bool) (ls : List TextLine) → ((xs ys : List TextLine) → ls ≡ xs ++ ys → (ends_empty e xs && begins_from way ys) ≡ false) → (front way e ls ≡ ls) × (later way e ls ≡ [])
all_belong way e [] none = (refl, refl)
all_belong way e (l ∷ ls) none =
    let rest = all_belong way (is_nil l.content) ls (λ xs ys q. none (l ∷ xs) ys (ap (λ (zs : List TextLine). l ∷ zs) q)) in
    rw (not_first e (is_mail_start way l.content) (is_followed way ls) (none [] (l ∷ ls) refl)) (ap (λ (zs : List TextLine). l ∷ zs) rest.0, rest.1)

parted_whole : (way : FromLines) (ls : List TextLine) → ls ≢ [] → ((xs ys : List TextLine) → ls ≡ xs ++ ys → are_parted way xs ys ≡ false) → parted way ls ≡ ls ∷ []
parted_whole way [] some none = absurd (some refl)
parted_whole way (l ∷ ls) some none =
    let rest = all_belong way (is_nil l.content) ls (λ xs ys q. none (l ∷ xs) ys (ap (λ (zs : List TextLine). l ∷ zs) q)) in
    λ i. (l ∷ rest.0 i) ∷ rest.1 i

pub others_none : (way : FromLines) (text : List ℕ) → text ≢ [] → ((xs ys : List TextLine) → cut text ≡ xs ++ ys → are_parted way xs ys ≡ false) → mailbox_pieces way text ≡ text ∷ []
others_none way text some none =
    ap (map text_of) (parted_whole way (cut text) (λ q. some (sym (text_cut text) ∙ ap text_of q)) none) ∙ ap (λ (t : List ℕ). t ∷ []) (text_cut text)
