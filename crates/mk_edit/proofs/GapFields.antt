-- The fields of the root in a text with a gap.
use Rattle.std.proofs.Common.{◌≡◌, ◌==◌, ◌&&◌, ◌+◌, ◌-◌, ◌≤◌, ◌<◌, ◌++◌, ◌⊎◌, if◌then◌else◌, ℕ, Bool, false, nat_lt, min, Option, None, List, refl, ap, sym, ◌∙◌, subst, filter, length, take, drop, arith, inl, inr, length-append, []}
use Rattle.std.proofs.lemmas.Bool.{cases_Bool, ltb-true}
use Rattle.std.proofs.lemmas.Bool.Decides.{nat_tests}
use Rattle.std.proofs.lemmas.List.{drop_at, drop-append-le, drop-drop, drop-take, length-drop, take-take, take_all}
use Rattle.std.proofs.Math.Seq.{take-append_seam}
use Rattle.std.specs.Global.{Vec}
use Rattle.mk_line.specs.Lines.{TextLine, cut, ends_open, is_nil}
use Rattle.mk_line.proofs.Cuts.{text_cut}
use Rattle.mk_head.specs.Splits.{IsRun}
use Rattle.mk_tree.specs.Sections.{head_text}
use Rattle.mk_tree.specs.Spans.{size}
use Rattle.mk_tree.proofs.Descent.{size_append}
use Rattle.mk_splice.specs.Splices.{spliced}
use Rattle.mk_decide.specs.LocalAnswers.{opens_at, PlainSplice}
use Rattle.mk_decide.specs.FieldEdits.{starts_named}
use Rattle.mk_edit.specs.declared.silent_edits.SilentEdit.{SilentEdit}
use Rattle.mk_edit.specs.inner.FieldNames.{may_have, BeginsField, IsKnown}
use Rattle.mk_edit.specs.RootFields.{root_in, lines_in, HasFields, HasPassed, IsBehind, Replaces}
use Rattle.mk_edit.specs.inner.Gaps.{Gapped, without_gap}
use Rattle.mk_edit.specs.inner.GapFields.{IsHeldInParts}
use Rattle.mk_edit.proofs.PassedFields.{following_is}
use Rattle.mk_edit.proofs.PassedNames.{none_named}
use Rattle.mk_edit.proofs.RootEdits.{root_head, root_run}

-- a part of a text after the gap
drop_gap : (t : Gapped) (n : ℕ) → length t.front ≤ n → drop n (without_gap t) ≡ drop (n - length t.front) t.rest
drop_gap t n h =
    let front = length t.front in
    let same : n ≡ front + (n - front) = omega arith in
    ap (λ k. drop k (without_gap t)) same ∙ (sym (drop-drop (n - front) front (without_gap t)) ∙ ap (drop (n - front)) (drop_at t.front t.rest front refl))

pub parts_size : (t : Gapped) → length (without_gap t) ≡ length t.front + length t.rest
parts_size t = length-append t.front t.rest

-- the fields after some of them
pub gap_fields : (t : Gapped) (start size bytes : ℕ) → HasFields (without_gap t) start size → bytes ≤ size → length t.front ≤ start + bytes
    → take (size - bytes) (drop (start + bytes - length t.front) t.rest) ≡ drop bytes (head_text (root_in (without_gap t)))
gap_fields t start size bytes h within front =
    let left = size - bytes in
    ap (take left) (sym (drop_gap t (start + bytes) front) ∙ sym (drop-drop bytes start (without_gap t)))
    ∙ (sym (drop-take bytes left (drop start (without_gap t))) ∙ ap (drop bytes) (ap (λ n. take n (drop start (without_gap t))) (omega arith) ∙ root_head (without_gap t) start size h))

-- the fields between a place and the gap
pub front_fields : (t : Gapped) (start size bytes : ℕ) → HasFields (without_gap t) start size → start + bytes ≤ length t.front → length t.front ≤ start + size
    → drop (start + bytes) t.front ≡ take (length t.front - start - bytes) (drop bytes (head_text (root_in (without_gap t))))
front_fields t start size bytes h within fits =
    let text = without_gap t in
    let there = drop (start + bytes) t.front in
    let long : length t.front - start - bytes ≡ length there = omega (arith, length-drop (start + bytes) t.front) in
    let left = size - bytes in
    let fields : drop bytes (head_text (root_in text)) ≡ take left (drop (start + bytes) text) =
    sym (ap (drop bytes) (ap (λ n. take n (drop start text)) (omega arith) ∙ root_head text start size h)) ∙ (drop-take bytes left (drop start text) ∙ ap (take left) (drop-drop bytes start text)) in
    let parts : drop (start + bytes) text ≡ there ++ t.rest = drop-append-le (start + bytes) t.front t.rest within in
    sym
    (ap (λ n. take n (drop bytes (head_text (root_in text)))) long
    ∙ (ap (take (length there)) (fields ∙ ap (take left) parts) ∙ (take-take (length there) left (there ++ t.rest) (omega (arith, long)) ∙ take-append_seam there t.rest)))

pub part_before_gap : (t : Gapped) (start size bytes : ℕ) (front : List ℕ) → HasFields (without_gap t) start size → bytes < length t.front - start → length t.front - start ≤ size → front ≡ t.front
    → (drop (start + bytes) front ≡ take (length (drop (start + bytes) front)) (drop bytes (head_text (root_in (without_gap t))))) × (bytes + length (drop (start + bytes) front) ≡ length t.front - start)
part_before_gap t start size bytes front h less within e =
    let long : length (drop (start + bytes) front) ≡ length t.front - start - bytes = omega (arith, length-drop (start + bytes) front, ap length e) in
    (ap (drop (start + bytes)) e ∙ (front_fields t start size bytes h (omega (arith, less)) (omega (arith, less, within)) ∙ ap (λ n. take n (drop bytes (head_text (root_in (without_gap t))))) (sym long)), omega (arith, long, less))

-- a place between fields is among them, and a run follows
pub place_inside : (text : List ℕ) (start taken bytes : ℕ) → HasFields text start taken → BeginsField (lines_in text) bytes → bytes ≤ taken
place_inside text start taken bytes h p =
    omega (arith, h.takes, p.takes, ap length (text_cut (head_text (root_in text))), ap size (sym p.whole), size_append p.before p.after)

pub after_inside : (text : List ℕ) (start taken bytes k : ℕ) (edit : SilentEdit) → HasFields text start taken → IsBehind (lines_in text) bytes edit k → bytes ≤ taken
after_inside text start taken bytes k edit h p =
    omega (arith, h.takes, p.takes, ap length (text_cut (head_text (root_in text))), ap size (sym p.whole), size_append p.before p.following)

pub run_left : (fields left : List ℕ) (bytes k : ℕ) (edit : SilentEdit) → left ≡ drop bytes fields → IsBehind (cut fields) bytes edit k → IsRun false (cut left)
run_left fields left bytes k edit e b = subst (IsRun false) (sym (ap cut e ∙ following_is fields bytes k edit b)) b.run

-- the gap after it went back
pub gap_back_at : (ls : List TextLine) (edit : SilentEdit) (front start bytes k new : ℕ) → BeginsField ls (front - start) → IsBehind ls bytes edit k → new ≡ min front (start + bytes) → BeginsField ls (new - start)
gap_back_at ls edit front start bytes k new g b e =
    elim (cases_Bool (nat_lt (start + bytes) front)) [
      | inl t ↦
          let less : start + bytes < front = ltb-true (start + bytes) front t in
          subst (BeginsField ls) (omega (arith, e, less)) (record { before = b.before; after = b.following; whole = b.whole; takes = b.takes; run = b.run })
      | inr f ↦
          let more : front ≤ start + bytes = grind (arith, nat_tests, f) in
          subst (BeginsField ls) (omega (arith, e, more)) g
    ]

-- an open line among the bytes after the gap
opens_by : (here there rest text count : ℕ) (none left all lines : Bool) → (here == rest) ≡ false → (there == text) ≡ false → nat_lt (here + count) rest ≡ nat_lt (there + count) text
    → (if none then false else (if here == rest then left else lines && nat_lt (here + count) rest)) ≡ (if none then false else (if there == text then all else lines && nat_lt (there + count) text))
opens_by here there rest text count none left all lines h k e = rw (h, k, e) refl

unlike : (a b : ℕ) → a < b → (a == b) ≡ false
unlike a b h = grind (arith, nat_tests)

lower : (a b n : ℕ) → nat_lt a b ≡ nat_lt (n + a) (n + b)
lower a b n = grind (arith, nat_tests)

opens_gap : (t : Gapped) (place count : ℕ) (lines : List ℕ) → length t.front ≤ place → place < length (without_gap t) → opens_at t.rest (place - length t.front) count lines ≡ opens_at (without_gap t) place count lines
opens_gap t place count lines h k =
    let front = length t.front in
    let here = place - front in
    let less : nat_lt (here + count) (length t.rest) ≡ nat_lt (place + count) (length (without_gap t)) =
    lower (here + count) (length t.rest) front ∙ (ap (λ n. nat_lt n (front + length t.rest)) (omega arith) ∙ ap (nat_lt (place + count)) (sym (parts_size t))) in
    opens_by here place (length t.rest) (length (without_gap t)) count (is_nil lines) (ends_open t.rest) (ends_open (without_gap t)) (ends_open lines) (unlike here (length t.rest) (omega (arith, parts_size t))) (unlike place (length (without_gap t)) k) less

pub opens_there : (text : List ℕ) (t : Gapped) (rest : List ℕ) (place front count : ℕ) (lines : List ℕ) → without_gap t ≡ text → rest ≡ t.rest → front ≡ length t.front → length t.front ≤ place → place < length text
    → opens_at rest (place - front) count lines ≡ opens_at text place count lines
opens_there text t rest place front count lines e r f h k =
    ap (λ (xs : List ℕ). opens_at xs (place - front) count lines) r
    ∙ (ap (λ n. opens_at t.rest (place - n) count lines) f ∙ (opens_gap t place count lines h (omega (arith, k, ap length e)) ∙ ap (λ (xs : List ℕ). opens_at xs place count lines) e))

-- before the first field
pub first_place : (text : List ℕ) → BeginsField (lines_in text) 0
first_place text = record { before = []; after = lines_in text; whole = refl; takes = refl; run = root_run text }

-- the fields of a document's root
pub gap_first : (doc : List ℕ) (t : Gapped) (start size : ℕ) (name : List ℕ) (bytes fields known : ℕ) (marks : Option (Vec Bool)) → ◌≡◌ {A = List ℕ} t.front [] → t.rest ≡ doc → HasFields doc start size → bytes ≡ 0 → fields ≡ 0 → known ≡ 0 → marks ≡ None
    → IsHeldInParts t start size name bytes fields known marks
gap_first doc t start size name bytes fields known marks f r h b n k m =
    let text = without_gap t in
    let same : text ≡ doc = ap (λ xs. xs ++ t.rest) f ∙ r in
    let first = first_place text in
    record {
      fields = subst (λ x. HasFields x start size) (sym same) h;
      passed = subst (λ i. HasPassed (lines_in text) name i fields) (sym b) (subst (HasPassed (lines_in text) name 0) (sym n) (record { place = record { before = []; after = lines_in text; whole = refl; takes = refl; run = root_run text }; holds = refl }));
      names = subst (λ i. IsKnown (lines_in text) i marks) (sym k) (subst (IsKnown (lines_in text) 0) (sym m) (record { place = record { before = []; after = lines_in text; whole = refl; takes = refl; run = root_run text }; known = refl }));
      gap = subst (BeginsField (lines_in text)) (omega (arith, ap length f)) first;
    }

-- bytes at a place after the gap
pub copied_there : (text : List ℕ) (t : Gapped) (rest : List ℕ) (place front count : ℕ) → without_gap t ≡ text → rest ≡ t.rest → front ≡ length t.front → length t.front ≤ place → take count (drop (place - front) rest) ≡ take count (drop place text)
copied_there text t rest place front count e r f h =
    ap (take count) (ap (drop (place - front)) r ∙ (ap (λ n. drop (place - n) t.rest) f ∙ (sym (drop_gap t place h) ∙ ap (drop place) e)))

-- where the field of an edit is looked for
pub after_passed : (ls : List TextLine) (edit : SilentEdit) (name : List ℕ) (bytes fields : ℕ) → HasPassed ls name bytes fields → fields < edit.k → name ≡ edit.name.now → IsBehind ls bytes edit (edit.k - fields)
after_passed ls edit name bytes fields p less e = record {
  before = p.place.before;
  following = p.place.after;
  whole = p.place.whole;
  takes = p.place.takes;
  number = omega (arith, less, p.holds, ap (λ n. length (filter (starts_named n) p.place.before)) e);
  some = omega (arith, less);
  run = p.place.run;
}

pub after_known : (ls : List TextLine) (edit : SilentEdit) (bytes : ℕ) (marks : Option (Vec Bool)) → IsKnown ls bytes marks → may_have marks edit.name.now ≡ false → 0 < edit.k → IsBehind ls bytes edit edit.k
after_known ls edit bytes marks h none some = record {
  before = h.place.before;
  following = h.place.after;
  whole = h.place.whole;
  takes = h.place.takes;
  number = omega (arith, none_named h.place.before edit.name.now marks h.known none);
  some = some;
  run = h.place.run;
}

pub after_nothing : (text : List ℕ) (edit : SilentEdit) → 0 < edit.k → IsBehind (lines_in text) 0 edit edit.k
after_nothing text edit some = record { before = []; following = lines_in text; whole = refl; takes = refl; number = omega arith; some = some; run = root_run text }

-- the part of a list from a place on, as it is sliced
pub sliced : (n : ℕ) (xs : List ℕ) → take (length xs - n) (drop n xs) ≡ drop n xs
sliced n xs = take_all (length xs - n) (drop n xs) (omega (arith, length-drop n xs))

-- the fields of the root after an edit
gap_made : (edit : SilentEdit) (text : List ℕ) (start size front new : ℕ) (r : PlainSplice) → Replaces edit text start size r → BeginsField (lines_in text) (front - start) → front ≤ r.place → (new ≡ r.place) ⊎ (new ≡ front)
    → BeginsField (lines_in (spliced r.place r.count r.new text)) (new - start)
gap_made edit text start taken front new r h g before (inl e) = subst (λ n. BeginsField (lines_in (spliced r.place r.count r.new text)) (n - start)) (sym e) h.passed.place
gap_made edit text start taken front new r h g before (inr e) = subst (λ n. BeginsField (lines_in (spliced r.place r.count r.new text)) (n - start)) (sym e) (h.stays (front - start) (omega (arith, before)) g)

pub held_made : (edit : SilentEdit) (text name : List ℕ) (t : Gapped) (start size added known learned front : ℕ) (r : PlainSplice) (marks : Option (Vec Bool)) → Replaces edit text start size r → without_gap t ≡ spliced r.place r.count r.new text → name ≡ edit.name.now → added ≡ length r.new
    → IsKnown (lines_in text) known marks → learned ≡ min known (r.place - start) → BeginsField (lines_in text) (front - start) → front ≤ r.place → (length t.front ≡ r.place) ⊎ (length t.front ≡ front)
    → IsHeldInParts t start (size - r.count + added) name (r.place - start) (edit.k - 1) learned marks
held_made edit text name t start taken added known learned front r marks h e n a k l g before at =
    let lines = ap (λ (x : List ℕ). lines_in x) (sym e) in
    record {
      fields = subst (λ m. HasFields (without_gap t) start (taken - r.count + m)) (sym a) (subst (λ x. HasFields x start (taken - r.count + length r.new)) (sym e) h.left);
      passed = subst (λ m. HasPassed (lines_in (without_gap t)) m (r.place - start) (edit.k - 1)) (sym n) (subst (λ ls. HasPassed ls edit.name.now (r.place - start) (edit.k - 1)) lines h.passed);
      names = subst (λ m. IsKnown (lines_in (without_gap t)) m marks) (sym l) (subst (λ ls. IsKnown ls (min known (r.place - start)) marks) lines (h.known known marks k));
      gap = subst (λ ls. BeginsField ls (length t.front - start)) lines (gap_made edit text start taken front (length t.front) r h g before at);
    }

-- the place after the fields that come next
pub next_place : (ls : List TextLine) (known passed n : ℕ) → BeginsField ls known → BeginsField ls passed → n ≡ passed - known → BeginsField ls (known + n)
next_place ls known passed n k p e =
    elim (cases_Bool (nat_lt known passed)) [
      | inl t ↦ let less : known < passed = ltb-true known passed t in subst (BeginsField ls) (omega (arith, e, less)) p
      | inr f ↦ let more : passed ≤ known = grind (arith, nat_tests, f) in subst (BeginsField ls) (omega (arith, e, more)) k
    ]
