-- The parts of forwarded messages: their lines, that they are read back, and what they hold.
use Rattle.std.proofs.Common.{◌≡◌, ◌≢◌, ◌+◌, ◌&&◌, ◌||◌, ◌++◌, if◌then◌else◌, ℕ, zero, suc, Bool, true, false, not, Option, Some, List, [], ◌∷◌, refl, ap, sym, ◌∙◌, subst, append_assoc, codes, length, nat_eq, inl, inr}
use Rattle.std.proofs.lemmas.Bool.{cases_Bool}
use Rattle.std.proofs.lemmas.Bool.Decides.{Decides-eqb}
use Rattle.std.proofs.lemmas.Slice.Eq.{starts_is}
use Rattle.std.specs.List.{flat_map, list_all, starts_with}
use Rattle.mk_line.specs.declared.cutting.Ending.{Ending}
use Rattle.mk_line.specs.declared.cutting.Ending.TheVariants.{Crlf, Lf, Missing}
use Rattle.mk_line.specs.declared.marks.Mark.TheVariants.{No}
use Rattle.mk_line.specs.Ascii.{is_blank}
use Rattle.mk_line.specs.Lines.{TextLine, text_line, ending_bytes, ends_in_return, is_open, cut, text_of}
use Rattle.mk_line.specs.Marks.{dashed, delimiter_line, mark, trimmed, trimmed_before}
use Rattle.mk_line.proofs.Blanks.{untold}
use Rattle.mk_line.proofs.Cuts.{append_nil, lines_cut, text_append, text_cut}
use Rattle.mk_head.specs.Fields.{counted}
use Rattle.mk_head.specs.Split.{Head, head_lines}
use Rattle.mk_head.specs.Splits.{IsRun}
use Rattle.mk_tree.specs.Cutting.{Unmarked}
use Rattle.mk_tree.specs.Kinds.{Message, kind}
use Rattle.mk_tree.specs.Reading.{AreWellRead}
use Rattle.mk_tree.specs.Sections.{Placed, content_text, has_part, parts_placed, unended}
use Rattle.mk_tree.specs.Spans.{size}
use Rattle.mk_tree.specs.Tree.{Entity, message, Parts, no_parts, part, print, print_parts, read}
use Rattle.mk_tree.proofs.Endings.{ended_crlf, ended_lf}
use Rattle.mk_tree.proofs.Kept.{print_read}
use Rattle.mk_tree.proofs.Plugs.{unmarked_join}
use Rattle.mk_tree.proofs.WellRead.{read_well}
use Rattle.mk_decide.proofs.Bounds.{delimiter_is, delimiter_mark}
use Rattle.mk_decide.proofs.Renaming.{ends_after}
use Rattle.mk_decide.proofs.Typed.{MayBound, made_bound}
use Rattle.mk_build.specs.Forwards.{Forwarded, attachment_line, eight_bit_line, ending_after, forwarded_part, is_8bit, is_clear}
use Rattle.mk_build.proofs.EndedTexts.{Grows, divided_by}
use Rattle.mk_tree.specs.declared.shapes.Kind.TheVariants.{Message as IsOne}
use Rattle.mk_tree.specs.Forms.{kind_in}
use Rattle.std.specs.Prelude.{IsSomeAnd}
use Rattle.mk_mail.proofs.BuiltBodies.{free_unmarked}
use Rattle.mk_mail.proofs.BuiltLines.{cut_ended, some_closed}
use Rattle.mk_mail.proofs.BuiltParts.{AreFull, empty_line, full_join, full_none, full_one, inner_line}

-- the lines of a part's fields
abbrev attachment : Ending → Bool → List TextLine
attachment eol true = []
attachment eol false = text_line (codes "Content-Disposition: attachment") eol ∷ []

abbrev pub eight : Ending → Bool → List TextLine
eight eol true = text_line (codes "Content-Transfer-Encoding: 8bit") eol ∷ []
eight eol false = []

abbrev forward_fields : Ending → Bool → Bool → List TextLine
forward_fields eol inline wide = text_line (codes "Content-Type: message/rfc822") eol ∷ (attachment eol inline ++ eight eol wide)

abbrev forward_head : Ending → Bool → Bool → Head
forward_head eol inline wide = record { fields = forward_fields eol inline wide; separator = Some (empty_line eol) }

abbrev forward_body : Ending → List ℕ → List TextLine
forward_body eol text = cut (text ++ ending_bytes (ending_after eol text))

-- the part as an entity, with so many levels below its message
abbrev forward_entity : ℕ → Ending → Forwarded → Entity
forward_entity n eol f = message (forward_head eol f.inline (is_8bit f.text)) (read n false (forward_body eol f.text))

abbrev pub forwards : ℕ → Ending → List ℕ → List Forwarded → Parts
forwards n eol b [] = no_parts
forwards n eol b (f ∷ fs) = part (delimiter_line eol b) (forward_entity n eol f) (forwards n eol b fs)

-- its text
wide_alone : (t w e rest : List ℕ) → ((t ++ e) ++ ((w ++ e) ++ (([] ++ e) ++ []))) ++ rest ≡ t ++ (e ++ ([] ++ ((w ++ e) ++ (e ++ rest))))
wide_alone t w e rest = simp append_assoc

none_alone : (t e rest : List ℕ) → ((t ++ e) ++ (([] ++ e) ++ [])) ++ rest ≡ t ++ (e ++ ([] ++ ([] ++ (e ++ rest))))
none_alone t e rest = simp append_assoc

wide_attached : (t d w e rest : List ℕ) → ((t ++ e) ++ ((d ++ e) ++ ((w ++ e) ++ (([] ++ e) ++ [])))) ++ rest ≡ t ++ (e ++ ((d ++ e) ++ ((w ++ e) ++ (e ++ rest))))
wide_attached t d w e rest = simp append_assoc

none_attached : (t d e rest : List ℕ) → ((t ++ e) ++ ((d ++ e) ++ (([] ++ e) ++ []))) ++ rest ≡ t ++ (e ++ ((d ++ e) ++ ([] ++ (e ++ rest))))
none_attached t d e rest = simp append_assoc

head_text : (eol : Ending) (inline wide : Bool) (rest : List ℕ)
    → text_of (head_lines (forward_head eol inline wide)) ++ rest
    ≡ codes "Content-Type: message/rfc822" ++ (ending_bytes eol ++ (attachment_line eol inline ++ (eight_bit_line eol wide ++ (ending_bytes eol ++ rest))))
head_text eol true true rest = wide_alone (codes "Content-Type: message/rfc822") (codes "Content-Transfer-Encoding: 8bit") (ending_bytes eol) rest
head_text eol true false rest = none_alone (codes "Content-Type: message/rfc822") (ending_bytes eol) rest
head_text eol false true rest = wide_attached (codes "Content-Type: message/rfc822") (codes "Content-Disposition: attachment") (codes "Content-Transfer-Encoding: 8bit") (ending_bytes eol) rest
head_text eol false false rest = none_attached (codes "Content-Type: message/rfc822") (codes "Content-Disposition: attachment") (ending_bytes eol) rest

-- what stands after its delimiter
abbrev sent : Ending → Forwarded → List ℕ
sent eol f =
    codes "Content-Type: message/rfc822"
    ++ (ending_bytes eol ++ (attachment_line eol f.inline ++ (eight_bit_line eol (is_8bit f.text) ++ (ending_bytes eol ++ (f.text ++ ending_bytes (ending_after eol f.text))))))

entity_text : (n : ℕ) (eol : Ending) (f : Forwarded) → text_of (print (forward_entity n eol f)) ≡ sent eol f
entity_text n eol f =
    let head = head_lines (forward_head eol f.inline (is_8bit f.text)) in
    let body = forward_body eol f.text in
    let bytes = f.text ++ ending_bytes (ending_after eol f.text) in
    ap (λ ls. text_of (head ++ ls)) (print_read n false body)
    ∙ (text_append head body ∙ (ap (λ t. text_of head ++ t) (text_cut bytes) ∙ head_text eol f.inline (is_8bit f.text) bytes))

forward_regroup : (h b e x rest : List ℕ) → ((h ++ b) ++ e) ++ (x ++ rest) ≡ (h ++ (b ++ (e ++ x))) ++ rest
forward_regroup h b e x rest = simp append_assoc

pub forwards_text : (n : ℕ) (eol : Ending) (b : List ℕ) (fs : List Forwarded) → text_of (print_parts (forwards n eol b fs)) ≡ flat_map (forwarded_part eol b) fs
forwards_text n eol b [] = refl
forwards_text n eol b (f ∷ fs) =
    ap (λ t. (dashed b ++ ending_bytes eol) ++ t) (text_append (print (forward_entity n eol f)) (print_parts (forwards n eol b fs)))
    ∙ ((λ i. (dashed b ++ ending_bytes eol) ++ (entity_text n eol f i ++ forwards_text n eol b fs i))
    ∙ forward_regroup (codes "--") b (ending_bytes eol) (sent eol f) (flat_map (forwarded_part eol b) fs))

-- its lines are lines
attachment_full : (eol : Ending) (inline : Bool) → is_open eol ≡ false → AreFull (attachment eol inline)
attachment_full eol true c = full_none
attachment_full eol false c = full_one (codes "Content-Disposition: attachment") eol c (inner_line eol (codes "Content-Disposition: attachment") c refl)

pub eight_full : (eol : Ending) (wide : Bool) → is_open eol ≡ false → AreFull (eight eol wide)
eight_full eol true c = full_one (codes "Content-Transfer-Encoding: 8bit") eol c (inner_line eol (codes "Content-Transfer-Encoding: 8bit") c refl)
eight_full eol false c = full_none

head_full : (eol : Ending) (inline wide : Bool) → is_open eol ≡ false → AreFull (head_lines (forward_head eol inline wide))
head_full eol inline wide c =
    full_join (forward_fields eol inline wide) (empty_line eol ∷ [])
    (full_join (text_line (codes "Content-Type: message/rfc822") eol ∷ []) (attachment eol inline ++ eight eol wide)
    (full_one (codes "Content-Type: message/rfc822") eol c (inner_line eol (codes "Content-Type: message/rfc822") c refl))
    (full_join (attachment eol inline) (eight eol wide) (attachment_full eol inline c) (eight_full eol wide c)))
    (full_one [] eol c (inner_line eol [] c refl))

after_closed : (eol : Ending) (text : List ℕ) → is_open eol ≡ false → is_open (ending_after eol text) ≡ false
after_closed eol text c = by_return (ends_in_return text)
  where
    by_return : (t : Bool) → is_open (if t then Crlf else eol) ≡ false
    by_return true = refl
    by_return false = c

entity_full : (n : ℕ) (eol : Ending) (f : Forwarded) → is_open eol ≡ false → AreFull (print (forward_entity n eol f))
entity_full n eol f c =
    let head = head_lines (forward_head eol f.inline (is_8bit f.text)) in
    let body = forward_body eol f.text in
    let after = ending_after eol f.text in
    subst (λ ls. AreFull (head ++ ls)) (sym (print_read n false body))
    (full_join head body (head_full eol f.inline (is_8bit f.text) c)
    (record { lines = lines_cut (f.text ++ ending_bytes after); closed = some_closed body (cut_ended f.text after (after_closed eol f.text c)) }))

pub forwards_full : (n : ℕ) (eol : Ending) (b : List ℕ) (fs : List Forwarded) → is_open eol ≡ false → MayBound b → AreFull (print_parts (forwards n eol b fs))
forwards_full n eol b [] c m = full_none
forwards_full n eol b (f ∷ fs) c m =
    full_join (delimiter_line eol b ∷ []) (print (forward_entity n eol f) ++ print_parts (forwards n eol b fs)) (full_one (dashed b) eol c (delimiter_is eol b c (made_bound b m)))
    (full_join (print (forward_entity n eol f)) (print_parts (forwards n eol b fs)) (entity_full n eol f c) (forwards_full n eol b fs c m))

-- a line that doesn't begin with two hyphens and the boundary is no mark
front_by : (c : ℕ) (cs ts rest : List ℕ) → cs ≡ ts ++ rest → (more : List ℕ) × (c ∷ cs ≡ trimmed_before c ts ++ more)
front_by c cs [] rest e = elim (cases_Bool (is_blank c)) [
  | inl t ↦ (c ∷ cs, rw t refl)
  | inr f ↦ (cs, rw f refl)
]
front_by c cs (t ∷ ts) rest e = (rest, ap (λ xs. c ∷ xs) e)

trimmed_front : (cs : List ℕ) → (rest : List ℕ) × (cs ≡ trimmed cs ++ rest)
trimmed_front [] = ([], refl)
trimmed_front (c ∷ cs) = let p = trimmed_front cs in front_by c cs (trimmed cs) p.0 p.1

two_of : (t : Bool) → t ≡ true → t ≡ false → ⊥
two_of true h k = cc
two_of false h k = cc

no_front : (b cs more : List ℕ) → starts_with nat_eq cs (dashed b) ≡ false → trimmed cs ≡ dashed b ++ more → ⊥
no_front b cs more f e =
    let p = trimmed_front cs in
    let is : cs ≡ dashed b ++ (more ++ p.0) = p.1 ∙ (ap (λ t. t ++ p.0) e ∙ append_assoc (dashed b) more p.0) in
    two_of (starts_with nat_eq cs (dashed b)) ((starts_is Decides-eqb cs (dashed b) (starts_with nat_eq cs (dashed b)) refl).1 (more ++ p.0) is) f

no_mark : (b cs : List ℕ) → starts_with nat_eq cs (dashed b) ≡ false → mark b cs ≡ No
no_mark b cs f =
    rw (untold (trimmed cs) (dashed b) (λ e. no_front b cs [] f (e ∙ sym (append_nil (dashed b)))), untold (trimmed cs) (dashed b ++ 45 ∷ 45 ∷ []) (λ e. no_front b cs (45 ∷ 45 ∷ []) f e)) refl

not_true : (t : Bool) → not t ≡ true → t ≡ false
not_true true e = absurd cc
not_true false e = refl

both : (a b : Bool) → (a && b) ≡ true → (a ≡ true) × (b ≡ true)
both true b h = (refl, h)
both false b h = absurd cc

-- whether a line may stand in a message
abbrev clear : List ℕ → List ℕ → Bool
clear b cs = not (starts_with nat_eq cs (dashed b))

clear_unmarked : (b : List ℕ) (ls : List TextLine) → list_all (λ l. clear b l.content) ls ≡ true → Unmarked b ls
clear_unmarked b [] h = tt
clear_unmarked b (l ∷ ls) h =
    let p = both (clear b l.content) (list_all (λ l. clear b l.content) ls) h in
    (no_mark b l.content (not_true (starts_with nat_eq l.content (dashed b)) p.0), clear_unmarked b ls p.1)

-- an ending after a text makes no such line
grown_clear : (b : List ℕ) (ls ms : List TextLine) → Grows ls ms → list_all (λ l. clear b l.content) ls ≡ true → list_all (λ l. clear b l.content) ms ≡ true
grown_clear b [] [] g h = absurd g
grown_clear b [] (m ∷ []) g h = rw g refl
grown_clear b [] (m ∷ n ∷ ms) g h = absurd g
grown_clear b (l ∷ ls) [] g h = absurd g
grown_clear b (l ∷ ls) (m ∷ ms) (inl g) h =
    let p = both (clear b l.content) (list_all (λ l. clear b l.content) ls) h in
    rw (subst (λ (x : TextLine). clear b x.content ≡ true) g.0 p.0, grown_clear b ls ms g.1 p.1) refl
grown_clear b (l ∷ ls) (m ∷ ms) (inr g) h =
    let p = both (clear b l.content) (list_all (λ l. clear b l.content) ls) h in
    rw (g.1, subst (λ cs. clear b cs ≡ true) g.2 p.0) refl

head_free : (b : List ℕ) (eol : Ending) (inline wide : Bool) → Unmarked b (head_lines (forward_head eol inline wide))
head_free b eol true true = free_unmarked b (head_lines (forward_head eol true true)) (refl, (refl, (refl, tt)))
head_free b eol true false = free_unmarked b (head_lines (forward_head eol true false)) (refl, (refl, tt))
head_free b eol false true = free_unmarked b (head_lines (forward_head eol false true)) (refl, (refl, (refl, (refl, tt))))
head_free b eol false false = free_unmarked b (head_lines (forward_head eol false false)) (refl, (refl, (refl, tt)))

forward_free : (n : ℕ) (b : List ℕ) (eol : Ending) (f : Forwarded) → eol ≢ Missing → is_clear b f.text ≡ true → Unmarked b (print (forward_entity n eol f))
forward_free n b eol f is h =
    let head = head_lines (forward_head eol f.inline (is_8bit f.text)) in
    let body = forward_body eol f.text in
    subst (λ ls. Unmarked b (head ++ ls)) (sym (print_read n false body))
    (unmarked_join b head body (head_free b eol f.inline (is_8bit f.text)) (clear_unmarked b body (grown_clear b (cut f.text) body (divided_by eol f.text (ends_in_return f.text) is refl) h)))

-- the messages of which no line begins so
abbrev pub AreClear : List ℕ → List Forwarded → Type 0
AreClear b [] = Unit {0}
AreClear b (f ∷ fs) = (is_clear b f.text ≡ true) × AreClear b fs

-- they are read back
forward_kind : (digest : Bool) (eol : Ending) (inline wide : Bool) → kind (forward_fields eol inline wide) digest ≡ Message
unfolding kind
forward_kind digest eol true true = refl
forward_kind digest eol true false = refl
forward_kind digest eol false true = refl
forward_kind digest eol false false = refl

forward_run : (eol : Ending) (inline wide : Bool) → IsRun false (forward_fields eol inline wide)
forward_run eol true true = (refl, (refl, tt))
forward_run eol true false = (refl, tt)
forward_run eol false true = (refl, (refl, (refl, tt)))
forward_run eol false false = (refl, (refl, tt))

pub forwards_well : (n : ℕ) (digest : Bool) (eol : Ending) (b : List ℕ) (fs : List Forwarded) → eol ≢ Missing → MayBound b → AreClear b fs → AreWellRead (suc n) digest b (forwards n eol b fs)
forwards_well n digest eol b [] is m g = tt
forwards_well n digest eol b (f ∷ fs) is m g = (
  delimiter_mark b (made_bound b m).trimmed_so,
  forward_free n b eol f is g.0,
  (record { run = forward_run eol f.inline (is_8bit f.text); next = refl }, forward_kind digest eol f.inline (is_8bit f.text), read_well n false (forward_body eol f.text)),
  forwards_well n digest eol b fs is m g.1,
)

-- what they hold
pub or_true : (t : Bool) → true ≡ (t || true)
or_true true = refl
or_true false = refl

-- the ending after a message is no content of it
return_back : (text : List ℕ) → text_of (unended (cut (text ++ (13 ∷ 10 ∷ [])))) ≡ text
return_back text = sym (ended_crlf (text ++ (13 ∷ 10 ∷ [])) (text ++ (13 ∷ [])) text (sym (append_assoc text (13 ∷ []) (10 ∷ []))) refl)

no_return : (text front : List ℕ) → ends_in_return text ≡ false → text ≢ front ++ (13 ∷ [])
no_return text front h = λ e. two_of (ends_in_return text) (ap ends_in_return e ∙ ends_after front 13 []) h

message_back : (t : Bool) (eol : Ending) (text : List ℕ) → ends_in_return text ≡ t → eol ≢ Missing → text_of (unended (cut (text ++ ending_bytes (if t then Crlf else eol)))) ≡ text
message_back true eol text h is = return_back text
message_back false Crlf text h is = return_back text
message_back false Lf text h is = sym (ended_lf (text ++ (10 ∷ [])) text refl (λ f. no_return text f h))
message_back false Missing text h is = absurd (is refl)

forward_content : (n : ℕ) (eol : Ending) (f : Forwarded) (start : ℕ) (digest followed : Bool) → eol ≢ Missing → true ≡ followed
    → content_text (record { start = start; followed = followed; digest = digest; entity = forward_entity n eol f }) ≡ f.text
forward_content n eol f start digest followed is t =
    let body = forward_body eol f.text in
    subst (λ u. text_of (if u then unended (print (read n false body)) else print (read n false body)) ≡ f.text) t
    (ap (λ ls. text_of (unended ls)) (print_read n false body) ∙ message_back (ends_in_return f.text) eol f.text refl is)

-- a section is a message of these bytes
abbrev pub IsMessage : Option Placed → List ℕ → Type 0
IsMessage o text = IsSomeAnd o (λ p. (kind_in p.entity ≡ IsOne) × (content_text p ≡ text))

first_message : (x f : Forwarded) → ◌≡◌ {A = Option Forwarded} (Some x) (Some f) → x ≡ f
first_message x f e = cc

pub forwards_hold : (n : ℕ) (eol : Ending) (b : List ℕ) (place : ℕ) (digest : Bool) (fs : List Forwarded) (k : ℕ) (f : Forwarded) → eol ≢ Missing → counted k fs ≡ Some f
    → IsMessage (counted k (parts_placed place true digest (forwards n eol b fs))) f.text
forwards_hold n eol b place digest [] k f is e = absurd cc
forwards_hold n eol b place digest (x ∷ fs) zero f is e = absurd cc
forwards_hold n eol b place digest (x ∷ fs) (suc zero) f is e =
    (refl, forward_content n eol x (place + size (delimiter_line eol b ∷ [])) digest (has_part (forwards n eol b fs) || true) is (or_true (has_part (forwards n eol b fs))) ∙ ap (λ y. y.text) (first_message x f e))
forwards_hold n eol b place digest (x ∷ fs) (suc (suc k)) f is e =
    forwards_hold n eol b (place + size (delimiter_line eol b ∷ []) + size (print (forward_entity n eol x))) digest fs (suc k) f is e

pub none_counted : (fs : List Forwarded) (f : Forwarded) → counted 0 fs ≡ Some f → ⊥
none_counted [] f e = cc
none_counted (x ∷ fs) f e = cc

pub forwards_count : (n : ℕ) (eol : Ending) (b : List ℕ) (place : ℕ) (digest : Bool) (fs : List Forwarded) → length (parts_placed place true digest (forwards n eol b fs)) ≡ length fs
forwards_count n eol b place digest [] = refl
forwards_count n eol b place digest (f ∷ fs) = ap suc (forwards_count n eol b (place + size (delimiter_line eol b ∷ []) + size (print (forward_entity n eol f))) digest fs)
