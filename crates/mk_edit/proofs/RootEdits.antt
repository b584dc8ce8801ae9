-- An edit of the root's fields that says nothing of its body is accepted where no open line would stand before another, and
-- the fields stand where they stood.
use Rattle.std.proofs.Common.{◌≡◌, ◌+◌, ◌-◌, ◌≤◌, ◌<◌, ◌++◌, if◌then◌else◌, ℕ, zero, suc, Bool, true, false, Option, None, Some, Result, Ok, Err, List, [], ◌∷◌, IfErr, refl, ap, sym, ◌∙◌, subst, length, take, drop, min, arith, length-append}
use Rattle.std.proofs.Math.Seq.{take-append_seam, drop-append_seam}
use Rattle.std.proofs.lemmas.Bool.{ltb-true}
use Rattle.std.proofs.lemmas.List.{length-take-le}
use Rattle.mk_line.specs.Lines.{TextLine, cut, text_of}
use Rattle.mk_line.proofs.Cuts.{cut_text, text_cut, text_append}
use Rattle.std.specs.Option.{option_to_list}
use Rattle.mk_head.specs.Splits.{IsRun}
use Rattle.mk_tree.specs.Kinds.{Kind, Leaf, Message, Multi, kind, kind_at, is_digest}
use Rattle.mk_tree.specs.Tree.{Entity, leaf, message, multi, entity_head, field_lines, with_fields}
use Rattle.mk_tree.specs.Documents.{Document, IsStable, levels, tree}
use Rattle.mk_tree.specs.Sections.{Placed, root_of, head_text, body_text, body_lines}
use Rattle.mk_tree.specs.Places.{below, placed, lines_after}
use Rattle.mk_tree.specs.Reading.{IsWellRead}
use Rattle.mk_tree.specs.Spans.{size}
use Rattle.mk_splice.specs.Splices.{spliced}
use Rattle.mk_tree.proofs.Descent.{size_append}
use Rattle.mk_tree.proofs.FieldsChanged.{stable_well}
use Rattle.mk_tree.proofs.Placed.{sections_placed}
use Rattle.mk_tree.proofs.Plugs.{own_of}
use Rattle.mk_tree.proofs.Stability.{read_stable}
use Rattle.mk_decide.specs.declared.field_edits.FieldEdit.{FieldEdit}
use Rattle.mk_decide.specs.declared.field_edits.Put.{Put}
use Rattle.mk_decide.specs.declared.errors.EditError.{EditError}
use Rattle.mk_decide.specs.Answers.{refusal_of, IsRefusedBy}
use Rattle.mk_decide.specs.LocalAnswers.{IsDecided, PlainSplice, opens_at, fits_at, unless_recut, unless_held, answer_puts, answer}
use Rattle.mk_decide.specs.Edits.{Refusal, OpenLine}
use Rattle.mk_decide.specs.FieldPuts.{LinePut, PutsLines, IsPut, puts, plain_of}
use Rattle.mk_decide.specs.KindsKept.{keeps_kinds}
use Rattle.mk_decide.specs.Local.{IsAlike, AreKept, parts_of}
use Rattle.mk_decide.specs.Looks.{has_separator, ends_there}
use Rattle.mk_edit.specs.Made.{IsMade}
use Rattle.mk_decide.specs.Outcomes.{edited}
use Rattle.mk_edit.specs.declared.silent_edits.SilentEdit.{SilentEdit}
use Rattle.mk_edit.specs.inner.FieldNames.{BeginsField, IsKnown}
use Rattle.mk_edit.specs.RootFields.{root_in, lines_in, HasFields, Replaces}
use Rattle.mk_edit.specs.SilentEdits.{numbered, IsSilent}
use Rattle.mk_decide.proofs.FieldAnswers.{put_document, put_law, put_splice, answered_ok, answered_err}
use Rattle.mk_decide.proofs.FieldFits.{IsPutAt, IsClosed, KindsStay, kinds_stay, put_are, put_head, look_there, parts_fit, line_put, given_put, fits_told}
use Rattle.mk_decide.proofs.FieldPutFacts.{puts_is, puts_fit}
use Rattle.mk_edit.proofs.GroupsMade.{made_so}
use Rattle.mk_decide.proofs.KindsTold.{kept_same}
use Rattle.mk_decide.proofs.PutPlans.{lines_put}
use Rattle.mk_decide.proofs.PutSites.{opens_told, hit_told, printed_told}
use Rattle.mk_decide.proofs.SectionSites.{IsSite, site_lines, front_lines, rest_lines, head_cut, head_is_run, head_within}
use Rattle.mk_edit.proofs.SilentFields.{NamesSilent, names_silent, kind_stays}
use Rattle.mk_edit.proofs.PassedFields.{put_goes_on}
use Rattle.mk_edit.proofs.PlacesKept.{names_stay, place_stays}

-- the root in its place
some_is : (p q : Placed) → ◌≡◌ {A = Option Placed} (Some p) (Some q) → p ≡ q
some_is p q e = cc

pub root_placed : (t : Document) → root_of t ≡ placed t.envelope [] t.root
root_placed t = some_is (root_of t) (placed t.envelope [] t.root) (sections_placed t [])

pub root_well : (text : List ℕ) → IsWellRead levels false (tree text).root
root_well text = own_of levels false [] (tree text).root (stable_well (tree text).envelope [] (tree text).root (read_stable text))

abbrev pub root_site : (text : List ℕ) → IsSite text (1 ∷ []) (root_in text)
root_site text = record { numbers = []; around = []; path_is = refl; found = refl; placed_is = root_placed (tree text); whole = refl; well = root_well text }

-- the section stays of its kind, and its parts of theirs
kind_at_same : (n : ℕ) (xs ys : List TextLine) (d : Bool) → kind xs d ≡ kind ys d → kind_at n xs d ≡ kind_at n ys d
kind_at_same zero xs ys d h = refl
kind_at_same (suc n) xs ys d h = h

alike : (k : Kind) → IsAlike k k
alike Leaf = refl
alike Message = refl
alike (Multi b g) = refl

kinds_same : (n : ℕ) (d : Bool) (fields : List TextLine) (e : Entity) → kind fields d ≡ kind (field_lines e) d → KindsStay n d fields e
kinds_same n d fields e h =
    let old = kind_at n (field_lines e) d in
    let same : old ≡ kind_at n fields d = sym (kind_at_same n fields (field_lines e) d h) in
    (subst (IsAlike old) same (alike old), subst (λ k. AreKept (below n) (is_digest old) (is_digest k) (parts_of e)) same (kept_same (below n) (is_digest old) (parts_of e)))

kinds_keep : (text : List ℕ) (edit : FieldEdit) (q : LinePut) → NamesSilent edit → IsPutAt edit (root_in text) q → IsClosed text (1 ∷ []) (root_in text) (root_site text) q → keeps_kinds 1 (put_head (root_in text) q) (root_in text) ≡ true
kinds_keep text edit q i h c =
    let p = root_in text in
    let s = root_site text in
    let same = kind_stays edit false (cut (head_text p)) q i h ∙ ap (λ ls. kind ls false) (head_cut text (1 ∷ []) p s) in
    (kinds_stay text (1 ∷ []) edit p s q h c).1 (kinds_same levels false (lines_put q) p.entity same)

-- a separator ends any fields
ends_separated : (none first : Bool) (o : Option TextLine) (body : List TextLine) → has_separator o ≡ true → ends_there none first o body ≡ true
ends_separated none first o body h = rw h refl

fits_root : (text : List ℕ) (edit : FieldEdit) (q : LinePut) → NamesSilent edit → has_separator (entity_head (root_in text).entity).separator ≡ true → IsPutAt edit (root_in text) q → IsClosed text (1 ∷ []) (root_in text) (root_site text) q
    → fits_at (tree text) [] (root_in text) (put_head (root_in text) q) ≡ true
fits_root text edit q i e h c =
    let p = root_in text in
    parts_fit false (look_there text (1 ∷ []) p (root_site text) q) (keeps_kinds 1 (put_head p q) p) refl
    (ends_separated _ _ (entity_head p.entity).separator (cut (body_text p)) e) (kinds_keep text edit q i h c)

-- what is known where no open line would stand before another
pub record RootPut (text : List ℕ) (edit : FieldEdit) (q : LinePut) : Type 0 where
  pub closed : IsClosed text (1 ∷ []) (root_in text) (root_site text) q
  pub fits : fits_at (tree text) [] (root_in text) (put_head (root_in text) q) ≡ true
  pub stable : IsStable (put_document text (1 ∷ []) (root_in text) (root_site text) q)

pub root_put : (text : List ℕ) (edit : FieldEdit) (q : LinePut) → NamesSilent edit → has_separator (entity_head (root_in text).entity).separator ≡ true → IsPutAt edit (root_in text) q
    → opens_at text ((root_in text).start + size q.before) (size q.old) (text_of q.given) ≡ false → RootPut text edit q
root_put text edit q i e h o =
    let p = root_in text in
    let s = root_site text in
    let path = 1 ∷ [] in
    let l = line_put edit p q h in
    let g = given_put edit p q h in
    let c : IsClosed text path p s q = sym (opens_told text path p s q l g) ∙ o in
    let f = fits_root text edit q i e h c in
    record { closed = c; fits = f; stable = (put_law text path edit p s q h).1 ((fits_told text path edit p s q h c (sym (hit_told text path p s q g))).0 f) }

answer_fits : (opens fits : Bool) (r : PlainSplice) → opens ≡ false → fits ≡ true → (if opens then Err OpenLine else unless_held None (unless_recut fits r)) ≡ Ok r
answer_fits opens fits r o f = rw (o, f) refl

pub answer_root : (text : List ℕ) (edit : FieldEdit) (q : LinePut) → IsPutAt edit (root_in text) q → opens_at text ((root_in text).start + size q.before) (size q.old) (text_of q.given) ≡ false
    → fits_at (tree text) [] (root_in text) (put_head (root_in text) q) ≡ true → answer text (1 ∷ []) edit ≡ Ok (put_splice (root_in text) q)
answer_root text edit q h o f =
    let p = root_in text in
    ap (answer_puts text [] p) h
    ∙ answer_fits (opens_at text (p.start + size q.before) (size q.old) (text_of q.given)) (fits_at (tree text) [] p (put_head p q)) (put_splice p q) o f

-- where the fields stand then
fields_at : (text : List ℕ) (t : Document) (start size : ℕ) → tree text ≡ t → start ≡ (root_of t).start → size ≡ length (head_text (root_of t)) → has_separator (entity_head (root_of t).entity).separator ≡ true → HasFields text start size
fields_at text t start size e b l s = record {
  begins = b ∙ ap (λ u. (root_of u).start) (sym e);
  takes = l ∙ ap (λ u. length (head_text (root_of u))) (sym e);
  separated = ap (λ u. has_separator (entity_head (root_of u).entity).separator) e ∙ s;
}

same_separator : (fields : List TextLine) (e : Entity) → (entity_head (with_fields fields e)).separator ≡ (entity_head e).separator
same_separator fields (leaf h ls) = refl
same_separator fields (message h e) = refl
same_separator fields (multi h b pre ps t) = refl

same_fields : (fields : List TextLine) (e : Entity) → (entity_head (with_fields fields e)).fields ≡ fields
same_fields fields (leaf h ls) = refl
same_fields fields (message h e) = refl
same_fields fields (multi h b pre ps t) = refl

-- what the fields take then
sizes : (b old given after kept gone new whole : ℕ) → whole ≡ b + (old + after) → old ≡ gone + kept → given ≡ new + kept → whole - (old - kept) + new ≡ b + (given + after)
sizes b old given after kept gone new whole w o g = omega (arith, w, o, g)

pub head_size : (text : List ℕ) (edit : FieldEdit) (q : LinePut) → IsPutAt edit (root_in text) q → length (head_text (root_in text)) ≡ size q.before + (size q.old + size q.after)
head_size text edit q h =
    let p = root_in text in
    let i = line_put edit p q h in
    sym (ap length (text_cut (head_text p))) ∙ (ap size (sym i.whole) ∙ (size_append q.before (q.old ++ q.after) ∙ ap (λ n. size q.before + n) (size_append q.old q.after)))

left_fields : (text : List ℕ) (edit : FieldEdit) (q : LinePut) → (e : has_separator (entity_head (root_in text).entity).separator ≡ true) → IsPutAt edit (root_in text) q → RootPut text edit q
    → HasFields (spliced (put_splice (root_in text) q).place (put_splice (root_in text) q).count (put_splice (root_in text) q).new text) (root_in text).start
    (length (head_text (root_in text)) - (put_splice (root_in text) q).count + length (put_splice (root_in text) q).new)
left_fields text edit q e h k =
    let p = root_in text in
    let s = root_site text in
    let path : List ℕ = 1 ∷ [] in
    let i = line_put edit p q h in
    let r : PlainSplice = put_splice p q in
    let u : Document = put_document text path p s q in
    let read : tree (spliced r.place r.count r.new text) ≡ u = ap tree (printed_told text path p s q i) ∙ k.stable in
    let whole = head_size text edit q h in
    let old : size q.old ≡ length i.gone + length q.kept = ap length i.old_is ∙ length-append i.gone q.kept in
    let given : size q.given ≡ length i.new + length q.kept = ap length i.given_is ∙ length-append i.new q.kept in
    let added : length r.new ≡ length i.new = length-take-le (size q.given - length q.kept) (text_of q.given) (omega arith) ∙ omega (arith, given) in
    let all : length (head_text (root_of u)) ≡ size q.before + (size q.given + size q.after) =
    ap size (same_fields (lines_put q) p.entity) ∙ (size_append q.before (q.given ++ q.after) ∙ ap (λ n. size q.before + n) (size_append q.given q.after)) in
    fields_at (spliced r.place r.count r.new text) u p.start (length (head_text p) - r.count + length r.new) read refl
    (ap (λ n. length (head_text p) - r.count + n) added ∙ (sizes (size q.before) (size q.old) (size q.given) (size q.after) (length q.kept) (length i.gone) (length i.new) (length (head_text p)) whole old given ∙ sym all))
    (ap has_separator (same_separator (lines_put q) p.entity) ∙ e)

-- what an edit makes of the root
pub record IsReplaced (text : List ℕ) (edit : FieldEdit) (q : LinePut) (r : PlainSplice) : Type 0 where
  pub decided : IsDecided (plain_of (1 ∷ []) edit) text r
  pub inside : size q.before + r.count ≤ length (head_text (root_in text))
  pub left : HasFields (spliced r.place r.count r.new text) (root_in text).start (length (head_text (root_in text)) - r.count + length r.new)
  pub lines : lines_in (spliced r.place r.count r.new text) ≡ lines_put q
  pub stood : q.before ++ (q.old ++ q.after) ≡ lines_in text

new_lines : (text : List ℕ) (edit : FieldEdit) (q : LinePut) → IsPutAt edit (root_in text) q → RootPut text edit q
    → lines_in (spliced (put_splice (root_in text) q).place (put_splice (root_in text) q).count (put_splice (root_in text) q).new text) ≡ lines_put q
new_lines text edit q h k =
    let p = root_in text in
    let s = root_site text in
    let path : List ℕ = 1 ∷ [] in
    let read = ap tree (printed_told text path p s q (line_put edit p q h)) ∙ k.stable in
    ap (λ t. cut (head_text (root_of t))) read ∙ (ap (λ ls. cut (text_of ls)) (same_fields (lines_put q) p.entity) ∙ cut_text (lines_put q) (put_are text path edit p s q h k.closed))

pub replaces_put : (text : List ℕ) (edit : FieldEdit) (q : LinePut) → NamesSilent edit → has_separator (entity_head (root_in text).entity).separator ≡ true → IsPutAt edit (root_in text) q
    → opens_at text ((root_in text).start + size q.before) (size q.old) (text_of q.given) ≡ false → IsReplaced text edit q (put_splice (root_in text) q)
replaces_put text edit q i e h o =
    let k = root_put text edit q i e h o in
    record {
      decided = answered_ok text (1 ∷ []) edit (put_splice (root_in text) q) (answer_root text edit q h o k.fits);
      inside = omega (arith, head_size text edit q h);
      left = left_fields text edit q e h k;
      lines = new_lines text edit q h k;
      stood = (line_put edit (root_in text) q h).whole;
    }

-- the fields of the root in its text
parted : (text : List ℕ) → text ≡ text_of (front_lines text (1 ∷ []) (root_in text) (root_site text)) ++ (text_of (field_lines (root_in text).entity) ++ text_of (rest_lines text (1 ∷ []) (root_in text) (root_site text)))
parted text =
    let p = root_in text in
    let s = root_site text in
    let front = front_lines text (1 ∷ []) p s in
    let rest = rest_lines text (1 ∷ []) p s in
    sym (text_cut text) ∙ (ap text_of (site_lines text (1 ∷ []) p s) ∙ (text_append front (field_lines p.entity ++ rest) ∙ ap (λ xs. text_of front ++ xs) (text_append (field_lines p.entity) rest)))

cut_out : (front fields rest : List ℕ) → take (length fields) (drop (length front) (front ++ (fields ++ rest))) ≡ fields
cut_out front fields rest = ap (take (length fields)) (drop-append_seam front (fields ++ rest)) ∙ take-append_seam fields rest

pub root_head : (text : List ℕ) (start size : ℕ) → HasFields text start size → take size (drop start text) ≡ head_text (root_in text)
root_head text start size h =
    let p = root_in text in
    let s = root_site text in
    let front = text_of (front_lines text (1 ∷ []) p s) in
    let rest = text_of (rest_lines text (1 ∷ []) p s) in
    let begins : start ≡ length front = h.begins ∙ ap (λ (x : Placed). x.start) s.placed_is in
    ap (λ xs. take size (drop start xs)) (parted text)
    ∙ (ap (λ n. take n (drop start (front ++ (head_text p ++ rest)))) h.takes ∙ (ap (λ n. take (length (head_text p)) (drop n (front ++ (head_text p ++ rest)))) begins ∙ cut_out front (head_text p) rest))

pub root_run : (text : List ℕ) → IsRun false (cut (head_text (root_in text)))
root_run text = head_is_run text (1 ∷ []) (root_in text) (root_site text)

pub root_within : (text : List ℕ) (start size : ℕ) → HasFields text start size → start + size ≤ length text
root_within text start size h = omega (arith, h.begins, h.takes, head_within text (1 ∷ []) (root_in text) (root_site text))

-- a byte follows them
pub root_ends : (text : List ℕ) (start size : ℕ) → HasFields text start size → start + size < length text
root_ends text start taken h =
    let p = root_in text in
    let s = root_site text in
    let front = front_lines text (1 ∷ []) p s in
    let rest = rest_lines text (1 ∷ []) p s in
    let own = option_to_list (entity_head p.entity).separator in
    let begins : start ≡ size front = h.begins ∙ ap (λ (x : Placed). x.start) s.placed_is in
    let all : length text ≡ size (front ++ (field_lines p.entity ++ rest)) = sym (ap length (text_cut text)) ∙ ap size (site_lines text (1 ∷ []) p s) in
    let some : 0 < size own = ltb-true 0 (size own) h.separated in
    omega (arith, begins, h.takes, all, some, size_append front (field_lines p.entity ++ rest), size_append (field_lines p.entity) rest, size_append (own ++ body_lines p.entity) (lines_after s.around), size_append own (body_lines p.entity))

-- what is put in memory
pub record RootFit (text : List ℕ) (start : ℕ) (r : Put) : Type 0 where
  pub before_end : start + r.from < length text
  pub within : start + r.from + r.count ≤ length text
  pub stays : r.kept ≤ r.count
  pub kept : r.kept ≤ length r.lines.items

pub root_fit : (text : List ℕ) (start size : ℕ) (edit : FieldEdit) (r : Put) → HasFields text start size → IsPut r (puts edit (cut (head_text (root_in text)))) → RootFit text start r
root_fit text start size edit r h m =
    let fields = cut (head_text (root_in text)) in
    let fit = puts_fit fields r (puts edit fields) (puts_is edit fields) m in
    let long = ap length (text_cut (head_text (root_in text))) in
    record {
      before_end = omega (arith, fit.within, long, root_ends text start size h, h.takes);
      within = omega (arith, fit.within, long, root_within text start size h, h.takes);
      stays = fit.stays;
      kept = fit.kept;
    }

splice_is : (w : PlainSplice) (place count : ℕ) (new : List ℕ) → w.place ≡ place → w.count ≡ count → w.new ≡ new → record { place = place; count = count; new = new } ≡ w
splice_is w place count new p c n = λ i. record { place = sym p i; count = sym c i; new = sym n i }

-- whether an open line would stand before another
opens_put : (text : List ℕ) (start : ℕ) (r : Put) (q : LinePut) (t : Bool) → PutsLines r q → start ≡ (root_in text).start → opens_at text (start + r.from) r.count r.lines.items ≡ t → opens_at text ((root_in text).start + size q.before) (size q.old) (text_of q.given) ≡ t
opens_put text start r q t m b o =
    ap (λ n. opens_at text (n + size q.before) (size q.old) (text_of q.given)) (sym b)
    ∙ (ap (λ n. opens_at text (start + n) (size q.old) (text_of q.given)) (sym m.from)
    ∙ (ap (λ n. opens_at text (start + r.from) n (text_of q.given)) (sym m.count) ∙ (ap (opens_at text (start + r.from) r.count) (sym m.lines) ∙ o)))

-- the search goes on after the splice
held_after : (text : List ℕ) (edit : SilentEdit) (q : LinePut) (r : PlainSplice) (start size : ℕ) → puts (numbered edit edit.k) (lines_in text) ≡ Ok q → IsReplaced text (numbered edit edit.k) q r → start ≡ (root_in text).start → size ≡ length (head_text (root_in text))
    → r.place ≡ start + length (text_of q.before) → Replaces edit text start size r
held_after text edit q r start size h d b t p =
    let g = put_goes_on edit (lines_in text) q (root_run text) h in
    let taken : length (text_of q.before) ≡ r.place - start = omega (arith, p) in
    record {
      decided = d.decided;
      inside = omega (arith, d.inside, t, taken);
      following = omega (arith, p);
      left = subst (λ n. HasFields (spliced r.place r.count r.new text) n (size - r.count + length r.new)) (sym b) (subst (λ n. HasFields (spliced r.place r.count r.new text) (root_in text).start (n - r.count + length r.new)) (sym t) d.left);
      passed = record { place = record { before = q.before; after = q.given ++ q.after; whole = sym d.lines; takes = taken; run = g.run }; holds = g.holds };
      stays = λ bytes within place.
          subst (λ ls. BeginsField ls bytes) (sym d.lines) (place_stays (lines_in text) q bytes d.stood g.run (omega (arith, within, taken)) place);
      known = λ bytes marks known.
          subst (λ ls. IsKnown ls (min bytes (r.place - start)) marks) (sym d.lines) (subst (λ n. IsKnown (lines_put q) (min bytes n) marks) taken (names_stay (lines_in text) q bytes marks d.stood g.run known));
    }

put_by : (text : List ℕ) (start size : ℕ) (edit : SilentEdit) (r : Put) (w : PlainSplice) (x : Result LinePut Refusal) → HasFields text start size → IsSilent edit → puts (numbered edit edit.k) (lines_in text) ≡ x → IsPut r x
    → opens_at text (start + r.from) r.count r.lines.items ≡ false → w.place ≡ start + r.from → w.count ≡ r.count - r.kept → w.new ≡ take (length r.lines.items - r.kept) r.lines.items
    → Replaces edit text start size w
put_by text start taken edit r w (Err e) f i h m o place count new = absurd m
put_by text start taken edit r w (Ok q) f i h m o place count new =
    let root = root_in text in
    let same = splice_is w (root.start + size q.before) (size q.old - length q.kept) (take (size q.given - length q.kept) (text_of q.given))
    (place ∙ (ap (λ n. n + r.from) f.begins ∙ ap (λ n. root.start + n) m.from))
    (count ∙ (ap (λ n. n - r.kept) m.count ∙ ap (λ n. size q.old - n) m.kept))
    (new ∙ (ap (λ xs. take (length xs - r.kept) xs) m.lines ∙ ap (λ n. take (size q.given - n) (text_of q.given)) m.kept)) in
    let done = replaces_put text (numbered edit edit.k) q (names_silent edit edit.k i) f.separated h (opens_put text start r q false m f.begins o) in
    held_after text edit q w start taken h (subst (IsReplaced text (numbered edit edit.k) q) same done) f.begins f.takes (place ∙ ap (λ n. start + n) m.from)

pub put_root : (text : List ℕ) (start size : ℕ) (edit : SilentEdit) (r : Put) (w : PlainSplice) → HasFields text start size → IsSilent edit → IsPut r (puts (numbered edit edit.k) (lines_in text)) → opens_at text (start + r.from) r.count r.lines.items ≡ false
    → w.place ≡ start + r.from → w.count ≡ r.count - r.kept → w.new ≡ take (length r.lines.items - r.kept) r.lines.items → Replaces edit text start size w
put_root text start size edit r w f i m o place count new = put_by text start size edit r w (puts (numbered edit edit.k) (lines_in text)) f i refl m o place count new

-- the reasons against it
refused_puts : (text : List ℕ) (o : Option Refusal) (x : Result LinePut Refusal) → IsRefusedBy o x → IsRefusedBy o (answer_puts text [] (root_in text) x)
refused_puts text None x h = tt
refused_puts text (Some e) x h = ap (answer_puts text [] (root_in text)) h

refused_root : (text : List ℕ) (edit : FieldEdit) (o : Option Refusal) → IsRefusedBy o (puts edit (cut (head_text (root_in text)))) → IsRefusedBy o (edited (plain_of (1 ∷ []) edit) (tree text))
refused_root text edit o r = answered_err text (1 ∷ []) edit o (refused_puts text o (puts edit (cut (head_text (root_in text)))) r)

pub refused_by : (text : List ℕ) (edit : FieldEdit) (r : Result Put EditError) → IfErr r (λ e. IsRefusedBy (refusal_of e) (puts edit (cut (head_text (root_in text))))) → IfErr r (λ e. IsRefusedBy (refusal_of e) (edited (plain_of (1 ∷ []) edit) (tree text)))
refused_by text edit (Ok r) h = tt
refused_by text edit (Err e) h = refused_root text edit (refusal_of e) h

opens_by : (text : List ℕ) (start : ℕ) (r : Put) (x : Result LinePut Refusal) → IsPut r x → start ≡ (root_in text).start → opens_at text (start + r.from) r.count r.lines.items ≡ true → answer_puts text [] (root_in text) x ≡ Err OpenLine
opens_by text start r (Err e) m b o = absurd m
opens_by text start r (Ok q) m b o = let opens = opens_put text start r q true m b o in rw opens refl

pub opens_root : (text : List ℕ) (start size : ℕ) (edit : FieldEdit) (r : Put) → HasFields text start size → IsPut r (puts edit (cut (head_text (root_in text)))) → opens_at text (start + r.from) r.count r.lines.items ≡ true → edited (plain_of (1 ∷ []) edit) (tree text) ≡ Err OpenLine
opens_root text start size edit r f m o = answered_err text (1 ∷ []) edit (Some OpenLine) (opens_by text start r (puts edit (cut (head_text (root_in text)))) m f.begins o)

-- an edit that was made
pub made_root : (edit : SilentEdit) (text x y old : List ℕ) (start size : ℕ) (r : PlainSplice) → Replaces edit text start size r → text ≡ x → old ≡ take r.count (drop r.place text) → y ≡ spliced r.place r.count r.new text
    → IsMade (plain_of (1 ∷ []) (numbered edit edit.k)) x (record { place = r.place; old = old; new = r.new }) y
made_root edit text x y old start size r h e o t =
    let plain = plain_of (1 ∷ []) (numbered edit edit.k) in
    subst (λ z. IsMade plain z (record { place = r.place; old = old; new = r.new }) y) e (made_so plain text y r old h.decided o t)
