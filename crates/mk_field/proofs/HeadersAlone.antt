-- A message whose header alone is edited: what follows its header stays as it is, and decides nothing.
use Rattle.std.proofs.Common.{◌≡◌, ◌≢◌, ◌⊎◌, ◌+◌, ◌≤◌, ◌<◌, ◌++◌, if◌then◌else◌, ℕ, zero, suc, Bool, true, false, Option, None, Some, Result, Ok, Err, List, [], ◌∷◌, refl, ap, sym, ◌∙◌, subst, inl, inr, length, take, drop, append_assoc, arith}
use Rattle.std.proofs.lemmas.List.{drop-append-le, length-drop, take-append-drop, take-append-le}
use Rattle.std.proofs.lemmas.Bool.{and_parts}
use Rattle.std.specs.List.{list_all}
use Rattle.std.specs.Option.{option_to_list}
use Rattle.mk_line.specs.Kinds.{is_from_line}
use Rattle.mk_line.specs.Lines.{TextLine, cut, text_of, ends_open, eol_of, is_lf}
use Rattle.mk_head.specs.Split.{Head, after_head, head_lines, head_of}
use Rattle.mk_head.specs.Splits.{Follows, IsSplit}
use Rattle.mk_head.proofs.Apart.{reads_split, splits_read}
use Rattle.mk_head.proofs.Splits.{head_body}
use Rattle.mk_tree.specs.Kinds.{Kind, Leaf, Message, Multi, kind_at}
use Rattle.mk_tree.specs.Tree.{Entity, entity_by, entity_head, read}
use Rattle.mk_tree.specs.Documents.{Document, document_of, levels, printed, tree}
use Rattle.mk_tree.specs.Spans.{size}
use Rattle.mk_tree.proofs.Kept.{text_kept}
use Rattle.mk_splice.specs.Splices.{Splice, spliced}
use Rattle.mk_decide.specs.Looks.{has_separator}
use Rattle.mk_mailbox.proofs.QuietLines.{cut_whole_lines}
use Rattle.std.specs.Option.{option_map_or}
use Rattle.std.proofs.Common.{map}
use Rattle.mk_line.specs.declared.cutting.Ending.{Ending}
use Rattle.mk_head.specs.Fields.{FieldText, fields_of}
use Rattle.mk_decide.specs.declared.field_edits.FieldEdit.{FieldEdit}
use Rattle.mk_decide.specs.Edits.{PlainEdit, Refusal}
use Rattle.mk_decide.specs.EditSplices.{splices_of}
use Rattle.mk_decide.specs.FieldPuts.{plain_of, puts}
use Rattle.mk_decide.specs.LocalAnswers.{PlainSplice}
use Rattle.mk_decide.specs.Outcomes.{edited}
use Rattle.mk_decide.proofs.Openings.{ends_after}
use Rattle.mk_edit.specs.Groups.{Together, following, made_on, together}
use Rattle.mk_edit.specs.RootFields.{lines_in, root_in}
use Rattle.mk_edit.specs.HeaderEdits.{edits_header}
use Rattle.mk_edit.proofs.GroupsMade.{made_so}
use Rattle.mk_edit.proofs.HeaderEdits.{answer_there, header_edit, made_in, refused_in}
use Rattle.mk_edit.proofs.SilentFields.{NamesSilent}
use Rattle.mk_mail.specs.Letters.{PlainLetters, edits_at, fields_at, letter_edits, prepending, root_path}
use Rattle.mk_mail.specs.Rules.{rule_edits}
use Rattle.mk_mail.specs.Rounds.{ByLetters, ByRule, Made, PlainRound, letters_by_ending, made_text, round_edits, round_outcome}
use Rattle.mk_field.specs.inner.ByHeaders.{IsHeader}

-- ---- lines after a separator

follows_on : (inside : Bool) (o : Option TextLine) (xs ys : List TextLine) → has_separator o ≡ true → Follows inside o xs → Follows inside o ys
follows_on inside None xs ys s f = cc
follows_on inside (Some l) xs ys s f = f

-- they don't change the head
head_apart : (ls ms : List TextLine) → has_separator (head_of ls).separator ≡ true → head_of (ls ++ ms) ≡ head_of ls
head_apart ls ms s =
    let split = reads_split ls in
    let rest = after_head ls in
    let apart : IsSplit (head_of ls) (rest ++ ms) = record { run = split.run; next = follows_on _ (head_of ls).separator rest (rest ++ ms) s split.next } in
    ap head_of (ap (λ xs. xs ++ ms) (sym (head_body ls)) ∙ append_assoc (head_lines (head_of ls)) rest ms) ∙ (splits_read (head_of ls) (rest ++ ms) apart).0

head_by : (f : Bool → List TextLine → Entity) (k : Kind) (h : Head) (ls : List TextLine) → entity_head (entity_by f k h ls) ≡ h
head_by f Leaf h ls = refl
head_by f Message h ls = refl
head_by f (Multi b digest) h ls = refl

head_read : (n : ℕ) (digest : Bool) (ls : List TextLine) → entity_head (read n digest ls) ≡ head_of ls
head_read zero digest ls = refl
head_read (suc n) digest ls = head_by (read n) (kind_at (suc n) (head_of ls).fields digest) (head_of ls) (after_head ls)

read_apart : (ls ms : List TextLine) → has_separator (entity_head (read levels false ls)).separator ≡ true → entity_head (read levels false (ls ++ ms)) ≡ entity_head (read levels false ls)
read_apart ls ms s =
    head_read levels false (ls ++ ms)
    ∙ (head_apart ls ms (ap (λ (h : Head). has_separator h.separator) (sym (head_read levels false ls)) ∙ s) ∙ sym (head_read levels false ls))

-- what two texts have in common of which one is the header of the other
pub record AreHeaded (t u : Document) : Type 0 where
  pub envelope : u.envelope ≡ t.envelope
  pub head : entity_head u.root ≡ entity_head t.root

document_apart : (ls ms : List TextLine) → has_separator (entity_head (document_of ls).root).separator ≡ true → AreHeaded (document_of ls) (document_of (ls ++ ms))
document_apart [] ms s = absurd (nothing (ap (λ (h : Head). has_separator h.separator) (sym (head_read levels false [])) ∙ s))
  where
    nothing : false ≡ true → ⊥
    nothing e = cc
document_apart (l ∷ ls) ms s = by (is_from_line l.content) refl
  where
    by : (t : Bool) → is_from_line l.content ≡ t → AreHeaded (document_of (l ∷ ls)) (document_of (l ∷ (ls ++ ms)))
    by true e = rw e (record { envelope = refl; head = read_apart ls ms (rw e at s) })
    by false e = rw e (record { envelope = refl; head = read_apart (l ∷ ls) ms (rw e at s) })

lines_apart : (a body : List ℕ) → IsHeader a → cut (a ++ body) ≡ cut a ++ cut body
lines_apart a body h = cut_whole_lines a body h.whole

pub headed : (a body : List ℕ) → IsHeader a → AreHeaded (tree a) (tree (a ++ body))
headed a body h = subst (λ ls. AreHeaded (tree a) (document_of ls)) (sym (lines_apart a body h)) (document_apart (cut a) (cut body) h.separated)

-- the fields, and where they begin
pub same_start : (a body : List ℕ) → IsHeader a → (root_in (a ++ body)).start ≡ (root_in a).start
same_start a body h = ap (λ o. size (option_to_list o)) (headed a body h).envelope

pub same_lines : (a body : List ℕ) → IsHeader a → lines_in (a ++ body) ≡ lines_in a
same_lines a body h = ap (λ (x : Head). cut (text_of x.fields)) (headed a body h).head

pub separated_on : (a body : List ℕ) → IsHeader a → has_separator (entity_head (root_in (a ++ body)).entity).separator ≡ true
separated_on a body h = ap (λ (x : Head). has_separator x.separator) (headed a body h).head ∙ h.separated

-- ---- an edit

spliced_on : (place count : ℕ) (new a body : List ℕ) → place + count ≤ length a → spliced place count new (a ++ body) ≡ spliced place count new a ++ body
spliced_on place count new a body h =
    ap (λ xs. xs ++ (new ++ drop (place + count) (a ++ body))) (take-append-le place a body (omega (arith, h)))
    ∙ (ap (λ xs. take place a ++ (new ++ xs)) (drop-append-le (place + count) a body h)
    ∙ (ap (λ xs. take place a ++ xs) (sym (append_assoc new (drop (place + count) a) body))
    ∙ sym (append_assoc (take place a) (new ++ drop (place + count) a) body)))

-- an end that isn't empty says how a text ends
ends_as : (xs ys : List ℕ) → 0 < length ys → ends_open (xs ++ ys) ≡ ends_open ys
ends_as xs [] h = absurd (omega (arith, h))
ends_as xs (b ∷ bs) h = ends_after xs b bs

whole_on : (place count : ℕ) (new a : List ℕ) → place + count < length a → ends_open a ≡ false → ends_open (spliced place count new a) ≡ false
whole_on place count new a h w =
    let rest = drop (place + count) a in
    let some : 0 < length rest = omega (arith, h, length-drop (place + count) a) in
    ap ends_open (sym (append_assoc (take place a) new rest))
    ∙ (ends_as (take place a ++ new) rest some ∙ (sym (ends_as (take (place + count) a) rest some) ∙ (ap ends_open (take-append-drop (place + count) a) ∙ w)))

-- what an edit makes of a header, and of a message with this header and body
pub record IsMadeApart (e : PlainEdit) (a body made : List ℕ) : Type 0 where
  pub alone : edited e (tree a) ≡ Ok (tree made)
  pub whole : edited e (tree (a ++ body)) ≡ Ok (tree (made ++ body))
  pub header : IsHeader made

pub record IsRefusedApart (e : PlainEdit) (a body : List ℕ) (reason : Refusal) : Type 0 where
  pub alone : edited e (tree a) ≡ Err reason
  pub whole : edited e (tree (a ++ body)) ≡ Err reason

abbrev GoesApart : PlainEdit → List ℕ → List ℕ → Type 0
GoesApart e a body = ((made : List ℕ) × IsMadeApart e a body made) ⊎ ((reason : Refusal) × IsRefusedApart e a body reason)

goes_by : (edit : FieldEdit) (a body : List ℕ) (x : Result PlainSplice Refusal) → NamesSilent edit → IsHeader a → answer_there (root_in a).start (puts edit (lines_in a)) ≡ x → GoesApart (plain_of (1 ∷ []) edit) a body
goes_by edit a body (Ok r) n h e =
    let m = made_in a edit r n h.separated e in
    let b = made_in (a ++ body) edit r n (separated_on a body h) ((λ i. answer_there (same_start a body h i) (puts edit (same_lines a body h i))) ∙ e) in
    let plain = plain_of (1 ∷ []) edit in
    let made = spliced r.place r.count r.new a in
    let w = m.within in
    inl (
      made,
      record {
        alone = (made_so plain a made r _ m.decided refl refl).accepted;
        whole = (made_so plain (a ++ body) (made ++ body) r _ b.decided refl (sym (spliced_on r.place r.count r.new a body (omega (arith, w))))).accepted;
        header = record { separated = m.separated; whole = whole_on r.place r.count r.new a w h.whole };
      },
    )
goes_by edit a body (Err reason) n h e =
    inr (
      reason,
      record {
        alone = refused_in a edit reason n h.separated e;
        whole = refused_in (a ++ body) edit reason n (separated_on a body h) ((λ i. answer_there (same_start a body h i) (puts edit (same_lines a body h i))) ∙ e);
      },
    )

goes_apart : (e : PlainEdit) (a body : List ℕ) → edits_header e ≡ true → IsHeader a → GoesApart e a body
goes_apart e a body s h =
    let f = header_edit e s in
    subst (λ x. GoesApart x a body) f.plain (goes_by f.edit a body (answer_there (root_in a).start (puts f.edit (lines_in a))) f.silent h refl)

-- ---- edits, one after another

-- what is made of a header, with a body after it
abbrev pub with_body : List ℕ → Made → Made
with_body body (Ok made) = Ok (made ++ body)
with_body body (Err reason) = Err reason

text_follows : (n : ℕ) (ss : List Splice) (t : Together) → made_text (following n ss t) ≡ made_text t
text_follows n ss (Ok p) = refl
text_follows n ss (Err q) = refl

pub record AreMadeApart (alone whole : Made) (body : List ℕ) : Type 0 where
  pub same : whole ≡ with_body body alone
  pub header : (made : List ℕ) → alone ≡ Ok made → IsHeader made

same_made : (m n : List ℕ) → ◌≡◌ {A = Made} (Ok m) (Ok n) → m ≡ n
same_made m n e = cc

never_made : {A : Type 0} (reason : Refusal) (made : List ℕ) → ◌≡◌ {A = Made} (Err reason) (Ok made) → A
never_made reason made e = cc

next_apart : (e : PlainEdit) (es : List PlainEdit) (a body : List ℕ) → GoesApart e a body → ((made : List ℕ) → IsHeader made → AreMadeApart (made_text (together es (tree made))) (made_text (together es (tree (made ++ body)))) body)
    → AreMadeApart (made_text (together (e ∷ es) (tree a))) (made_text (together (e ∷ es) (tree (a ++ body)))) body
next_apart e es a body (inl g) rest =
    let r = rest g.0 g.1.header in
    let alone : made_text (together (e ∷ es) (tree a)) ≡ made_text (together es (tree g.0)) =
    ap (λ o. made_text (made_on (splices_of e (tree a)) (together es) o)) g.1.alone ∙ text_follows 1 (splices_of e (tree a)) (together es (tree g.0)) in
    let whole : made_text (together (e ∷ es) (tree (a ++ body))) ≡ made_text (together es (tree (g.0 ++ body))) =
    ap (λ o. made_text (made_on (splices_of e (tree (a ++ body))) (together es) o)) g.1.whole ∙ text_follows 1 (splices_of e (tree (a ++ body))) (together es (tree (g.0 ++ body))) in
    record {
      same = whole ∙ (r.same ∙ ap (with_body body) (sym alone));
      header = λ made is. r.header made (sym alone ∙ is);
    }
next_apart e es a body (inr g) rest =
    let alone : made_text (together (e ∷ es) (tree a)) ≡ Err g.0 = ap (λ o. made_text (made_on (splices_of e (tree a)) (together es) o)) g.1.alone in
    let whole : made_text (together (e ∷ es) (tree (a ++ body))) ≡ Err g.0 = ap (λ o. made_text (made_on (splices_of e (tree (a ++ body))) (together es) o)) g.1.whole in
    record {
      same = whole ∙ ap (with_body body) (sym alone);
      header = λ made is. never_made g.0 made (sym alone ∙ is);
    }

pub group_apart : (es : List PlainEdit) (a body : List ℕ) → list_all edits_header es ≡ true → IsHeader a → AreMadeApart (made_text (together es (tree a))) (made_text (together es (tree (a ++ body)))) body
group_apart [] a body s h = record {
  same = ap (λ (t : List ℕ). made_now t) (text_kept (a ++ body)) ∙ ap (λ (t : List ℕ). made_now (t ++ body)) (sym (text_kept a));
  header = λ made is. subst IsHeader (sym (text_kept a) ∙ same_made (printed (tree a)) made is) h;
}
  where
    made_now : List ℕ → Made
    made_now t = Ok t
group_apart (e ∷ es) a body s h =
    let p = and_parts (edits_header e) (list_all edits_header es) s in
    next_apart e es a body (goes_apart e a body p.0 h) (λ made m. group_apart es made body p.1 m)

-- ---- rounds

eol_on : (ls ms : List TextLine) → ls ≢ [] → eol_of (ls ++ ms) ≡ eol_of ls
eol_on [] ms h = absurd (h refl)
eol_on (l ∷ ls) ms h = refl

some_lines : (a : List ℕ) → IsHeader a → cut a ≢ []
some_lines a h e = none (ap (λ ls. has_separator (entity_head (document_of ls).root).separator) (sym e) ∙ h.separated)
  where
    none : has_separator (entity_head (document_of []).root).separator ≡ true → ⊥
    none s = nothing (ap (λ (x : Head). has_separator x.separator) (sym (head_read levels false [])) ∙ s)
      where
        nothing : false ≡ true → ⊥
        nothing x = cc

same_eol : (a body : List ℕ) → IsHeader a → eol_of (cut (a ++ body)) ≡ eol_of (cut a)
same_eol a body h = ap eol_of (lines_apart a body h) ∙ eol_on (cut a) (cut body) (some_lines a h)

same_fields : (a body : List ℕ) → IsHeader a → fields_at root_path (a ++ body) ≡ fields_at root_path a
same_fields a body h = ap (λ (x : Head). fields_of x.fields) (headed a body h).head

same_edits : (l : PlainLetters) (a body : List ℕ) → IsHeader a → edits_at root_path (a ++ body) l ≡ edits_at root_path a l
same_edits l a body h = λ i. edits_of (same_eol a body h i) (same_fields a body h i)
  where
    edits_of : Ending → List FieldText → List PlainEdit
    edits_of eol fs = option_map_or (λ p. prepending root_path eol p (Some 1) fs) l.prepend [] ++ letter_edits root_path eol l (map (λ f. f.name) fs)

same_letters : (lf crlf : PlainLetters) (a body : List ℕ) → IsHeader a → letters_by_ending lf crlf (a ++ body) ≡ letters_by_ending lf crlf a
same_letters lf crlf a body h = ap (λ (eol : Ending). if is_lf eol then lf else crlf) (same_eol a body h)

same_round : (r : PlainRound) (a body : List ℕ) → IsHeader a → round_edits root_path (a ++ body) r ≡ round_edits root_path a r
same_round (ByLetters lf crlf) a body h = ap (edits_at root_path (a ++ body)) (same_letters lf crlf a body h) ∙ same_edits (letters_by_ending lf crlf a) a body h
same_round (ByRule rule) a body h = λ i. rule_edits root_path (same_eol a body h i) rule (Some 1) (same_fields a body h i)

-- what a round makes of a message is what it makes of the header
pub round_apart : (r : PlainRound) (a body : List ℕ) → list_all edits_header (round_edits root_path a r) ≡ true → IsHeader a
    → AreMadeApart (made_text (round_outcome root_path a r)) (made_text (round_outcome root_path (a ++ body) r)) body
round_apart r a body s h =
    let g = group_apart (round_edits root_path a r) a body s h in
    record { same = ap (λ es. made_text (together es (tree (a ++ body)))) (same_round r a body h) ∙ g.same; header = g.header }
