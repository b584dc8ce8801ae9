-- The parts of what is gathered, and what its last line tells.
use Rattle.mk_mailbox.specs.declared.from_lines.FromLines.{FromLines}
use Rattle.mk_mailbox.specs.declared.gathering.Told.{Told}
use Rattle.mk_mailbox.specs.declared.gathering.Told.TheVariants.{Begins, Waits, Belongs}
use Rattle.std.proofs.Common.{◌≡◌, ◌<◌, ◌+◌, ◌-◌, ◌&&◌, if◌then◌else◌, ◌++◌, ℕ, Bool, true, false, List, [], refl, ap, sym, ◌∙◌, inl, inr, length, nat_lt, take, drop, subst, length-append, append-nil, append_assoc, arith}
use Rattle.std.proofs.Math.Seq.{drop-append_seam, take-append_seam}
use Rattle.std.proofs.lemmas.Bool.{cases_Bool, lt-ltb, ltb-true}
use Rattle.mk_line.specs.Kinds.{is_field_start}
use Rattle.mk_line.specs.Lines.{cut, has_line_feed, is_nil}
use Rattle.mk_mailbox.specs.inner.Gathered.{IsOneLine, IsOnePiece, IsSplit, IsWaiting, IsWholeLine, front_of, later_of, told_by}
use Rattle.mk_mailbox.specs.Pieces.{is_first, is_mail_start, mailbox_pieces, may_begin, needs_field}
use Rattle.mk_mailbox.specs.inner.Parts.{IsOpenInFront}
use Rattle.mk_mailbox.proofs.LineBytes.{one_line_on}
use Rattle.mk_mailbox.proofs.MessageLines.{front_first, later_first, starts_line, whole_closed, whole_some}
use Rattle.mk_mailbox.proofs.LineStarts.{free_first, field_first, begin_some, Goes, goes_on, line_goes, pair_goes}

-- whole lines of one message, then a line that waits or none, and then at most one line
pub record AreParts (way : FromLines) (bytes : List ℕ) (start line : ℕ) (e : Bool) : Type 0 where
  pub before : List ℕ
  pub from : List ℕ
  pub last : List ℕ
  pub parts : bytes ≡ before ++ (from ++ last)
  pub start_is : start ≡ length before
  pub line_is : line ≡ length before + length from
  pub one : IsOnePiece way before e
  pub waiting : IsWaiting way e from
  pub one_line : IsOneLine last
  pub some : e ≡ true → 0 < length before

pub front_is : (way : FromLines) (bytes : List ℕ) (start line : ℕ) (e : Bool) (g : AreParts way bytes start line e) → take start bytes ≡ g.before
front_is way bytes start line e g = (λ i. take (g.start_is i) (g.parts i)) ∙ take-append_seam g.before (g.from ++ g.last)

pub rest_is : (way : FromLines) (bytes : List ℕ) (start line : ℕ) (e : Bool) (g : AreParts way bytes start line e) → drop start bytes ≡ g.from ++ g.last
rest_is way bytes start line e g = (λ i. drop (g.start_is i) (g.parts i)) ∙ drop-append_seam g.before (g.from ++ g.last)

pub last_is : (way : FromLines) (bytes : List ℕ) (start line : ℕ) (e : Bool) (g : AreParts way bytes start line e) → drop line bytes ≡ g.last
last_is way bytes start line e g =
    (λ i. drop (line_at i) ((g.parts ∙ sym (append_assoc g.before g.from g.last)) i)) ∙ drop-append_seam (g.before ++ g.from) g.last
  where
    line_at : line ≡ length (g.before ++ g.from)
    line_at = g.line_is ∙ sym (length-append g.before g.from)

-- where nothing waits
pub plain_parts : (bytes before from last : List ℕ) → bytes ≡ before ++ (from ++ last) → from ≡ [] → bytes ≡ before ++ last
plain_parts bytes before from last p n = p ∙ ap (λ x. before ++ (x ++ last)) n

-- ---- more of the last line

pub grown_parts : (way : FromLines) (bytes more : List ℕ) (start line : ℕ) (e : Bool) → AreParts way bytes start line e → has_line_feed (drop line bytes) ≡ false → IsOneLine more → AreParts way (bytes ++ more) start line e
grown_parts way bytes more start line e g h one = record {
  before = g.before;
  from = g.from;
  last = g.last ++ more;
  parts = ap (λ x. x ++ more) g.parts ∙ (append_assoc g.before (g.from ++ g.last) more ∙ ap (λ x. g.before ++ x) (append_assoc g.from g.last more));
  start_is = g.start_is;
  line_is = g.line_is;
  one = g.one;
  waiting = g.waiting;
  one_line = one_line_on g.last more (sym (ap has_line_feed (last_is way bytes start line e g)) ∙ h) one;
  some = g.some;
}

pub grown_parts_if : (way : FromLines) (t : Bool) (bytes more : List ℕ) (start line : ℕ) (e : Bool) → AreParts way bytes start line e → has_line_feed (drop line bytes) ≡ false → IsOneLine more → AreParts way (if t then bytes ++ more else bytes) start line e
grown_parts_if way true bytes more start line e g h one = grown_parts way bytes more start line e g h one
grown_parts_if way false bytes more start line e g h one = g

-- ---- what the last line tells

-- a line waits where the place and the last line are apart
abbrev pub waits : ℕ → ℕ → Bool
waits start line = nat_lt start line

pub none_waits : (way : FromLines) (bytes : List ℕ) (start line : ℕ) (e : Bool) (g : AreParts way bytes start line e) → g.from ≡ [] → waits start line ≡ false
none_waits way bytes start line e g n =
    let size : length g.from ≡ 0 = ap length n in
    let same : line ≡ start = omega (arith, size, g.start_is, g.line_is) in
    ap (nat_lt start) same ∙ never start
  where
    never : (n : ℕ) → nat_lt n n ≡ false
    never n = elim (cases_Bool (nat_lt n n)) [
      | inl t ↦ absurd (omega (arith, ltb-true n n t))
      | inr f ↦ f
    ]

pub one_waits : (way : FromLines) (bytes content : List ℕ) (start line : ℕ) (e : Bool) (g : AreParts way bytes start line e) → IsWholeLine g.from content → waits start line ≡ true
one_waits way bytes content start line e g w = lt-ltb start line (omega (arith, whole_some g.from content w, g.start_is, g.line_is))

pub alone_begins : (m n : Bool) → (if m then (if n then Waits else Begins) else Belongs) ≡ Begins → (m ≡ true) × (n ≡ false)
alone_begins true true h = cc
alone_begins true false h = (refl, refl)
alone_begins false n h = cc

pub alone_waits : (m n : Bool) → (if m then (if n then Waits else Begins) else Belongs) ≡ Waits → (m ≡ true) × (n ≡ true)
alone_waits true true h = (refl, refl)
alone_waits true false h = cc
alone_waits false n h = cc

pub alone_belongs : (m n : Bool) → (if m then (if n then Waits else Begins) else Belongs) ≡ Belongs → m ≡ false
alone_belongs true true h = cc
alone_belongs true false h = cc
alone_belongs false n h = refl

pub next_begins : (f : Bool) → (if f then Begins else Belongs) ≡ Begins → f ≡ true
next_begins true h = refl
next_begins false h = cc

pub next_waits : (f : Bool) → (if f then Begins else Belongs) ≡ Waits → ⊥
next_waits true h = cc
next_waits false h = cc

pub next_belongs : (f : Bool) → (if f then Begins else Belongs) ≡ Belongs → f ≡ false
next_belongs true h = cc
next_belongs false h = refl

-- what is told, where nothing waits or a line does
pub told_alone : (way : FromLines) (t e : Bool) (content : List ℕ) (v : Told) → t ≡ false → told_by way t e content ≡ v → told_by way false e content ≡ v
told_alone way t e content v n h = sym (ap (λ x. told_by way x e content) n) ∙ h

pub told_next : (way : FromLines) (t e : Bool) (content : List ℕ) (v : Told) → t ≡ true → told_by way t e content ≡ v → told_by way true e content ≡ v
told_next way t e content v n h = sym (ap (λ x. told_by way x e content) n) ∙ h

-- ---- the lines belong to the message

pub parts_on : (way : FromLines) (bytes content : List ℕ) (start line : ℕ) (e : Bool) → AreParts way bytes start line e → IsWholeLine (drop line bytes) content → told_by way (waits start line) e content ≡ Belongs
    → AreParts way bytes (length bytes) (length bytes) (is_nil content)
parts_on way bytes content start line e g v h =
    let w : IsWholeLine g.last content = subst (λ x. IsWholeLine x content) (last_is way bytes start line e g) v in
    let goes : Goes way e (g.from ++ g.last) (is_nil content) =
    elim g.waiting [
      | inl n ↦
          let tells = told_alone way (waits start line) e content Belongs (none_waits way bytes start line e g n) h in
          subst (λ x. Goes way e (x ++ g.last) (is_nil content)) (sym n) (line_goes way e g.last content w (alone_belongs (may_begin way e content) (needs_field way) tells))
      | inr f ↦
          let tells = told_next way (waits start line) e content Belongs (one_waits way bytes f.0 start line e g f.1) h in
          pair_goes way e g.from f.0 g.last content f.1 w f.2 f.3 (next_belongs (is_field_start content) tells)
    ] in
    let long : 0 < length bytes = omega (arith, whole_some g.last content w, ap length g.parts, length-append g.before (g.from ++ g.last), length-append g.from g.last) in
    record {
      before = bytes;
      from = [];
      last = [];
      parts = sym (append-nil bytes);
      start_is = refl;
      line_is = omega arith;
      one = subst (λ x. IsOnePiece way x (is_nil content)) (sym g.parts) (goes_on way false e (is_nil content) g.before (g.from ++ g.last) g.one goes);
      waiting = inl refl;
      one_line = inl refl;
      some = λ _. long;
    }

-- ---- the line waits for the next one

pub parts_wait : (way : FromLines) (bytes content : List ℕ) (start line : ℕ) (e : Bool) → AreParts way bytes start line e → IsWholeLine (drop line bytes) content → told_by way (waits start line) e content ≡ Waits
    → AreParts way bytes start (length bytes) e
parts_wait way bytes content start line e g v h =
    let w : IsWholeLine g.last content = subst (λ x. IsWholeLine x content) (last_is way bytes start line e g) v in
    elim g.waiting [
      | inl n ↦
          let tells = told_alone way (waits start line) e content Waits (none_waits way bytes start line e g n) h in
          let both = alone_waits (may_begin way e content) (needs_field way) tells in
          let parts : bytes ≡ g.before ++ g.last = plain_parts bytes g.before g.from g.last g.parts n in
          record {
            before = g.before;
            from = g.last;
            last = [];
            parts = parts ∙ ap (λ x. g.before ++ x) (sym (append-nil g.last));
            start_is = g.start_is;
            line_is = ap length parts ∙ length-append g.before g.last;
            one = g.one;
            waiting = inr (content, w, both.0, both.1);
            one_line = inl refl;
            some = g.some;
          }
      | inr f ↦ absurd (next_waits (is_field_start content) (told_next way (waits start line) e content Waits (one_waits way bytes f.0 start line e g f.1) h))
    ]

-- ---- a message begins at the place

-- bytes that begin a message after a line, whatever follows
abbrev pub BeginsHere : FromLines → Bool → List ℕ → Type 0
BeginsHere way e rest = (more : List ℕ) → (front_of way e (rest ++ more) ≡ []) × (later_of way e (rest ++ more) ≡ mailbox_pieces way (rest ++ more)) × (IsOpenInFront (cut (rest ++ more)) → ⊥)

pub line_begins : (way : FromLines) (e : Bool) (line content : List ℕ) → IsWholeLine line content → may_begin way e content ≡ true → needs_field way ≡ false → BeginsHere way e line
line_begins way e line content w m n = λ more.
    let first = free_first way e content (cut more) m n in (
      front_first way e line content more w first,
      later_first way e line content more w first,
      whole_closed line content more w,
    )

pub pair_begins : (way : FromLines) (e : Bool) (line content next other : List ℕ) → IsWholeLine line content → IsWholeLine next other → may_begin way e content ≡ true → needs_field way ≡ true → is_field_start other ≡ true
    → BeginsHere way e (line ++ next)
pair_begins way e line content next other w v m n s = λ more.
    let first : is_first way e content (cut (next ++ more)) ≡ true = field_first way e content (cut (next ++ more)) m n (starts_line next other more v ∙ s) in
    let joined = append_assoc line next more in (
      ap (front_of way e) joined ∙ front_first way e line content (next ++ more) w first,
      ap (later_of way e) joined ∙ (later_first way e line content (next ++ more) w first ∙ ap (mailbox_pieces way) (sym joined)),
      (λ o. whole_closed line content (next ++ more) w (subst (λ x. IsOpenInFront (cut x)) joined o)),
    )

pub split_at : (way : FromLines) (e : Bool) (piece rest : List ℕ) → IsOnePiece way piece e → 0 < length piece → 0 < length rest → BeginsHere way e rest → IsSplit way piece (piece ++ rest) rest
split_at way e piece rest one some more_than b = record {
  parts = refl;
  some = some;
  rest = more_than;
  front = λ more. ap (front_of way false) (append_assoc piece rest more) ∙ ((one (rest ++ more)).0 ∙ (ap (λ x. piece ++ x) (b more).0 ∙ append-nil piece));
  later = λ more. ap (later_of way false) (append_assoc piece rest more) ∙ ((one (rest ++ more)).1 ∙ (b more).1);
  closed = λ more. (b more).2;
}

pub at_places : (way : FromLines) (piece old new before rest : List ℕ) → piece ≡ before → old ≡ before ++ rest → new ≡ rest → IsSplit way before (before ++ rest) rest → IsSplit way piece old new
at_places way piece old new before rest p o n s = subst (λ x. IsSplit way x old new) (sym p) (subst (λ x. IsSplit way before x new) (sym o) (subst (λ x. IsSplit way before (before ++ rest) x) (sym n) s))

pub and_first : (a b : Bool) → (a && b) ≡ true → a ≡ true
and_first true b h = refl
and_first false b h = h

pub begins_after : (way : FromLines) (e : Bool) (content : List ℕ) → may_begin way e content ≡ true → e ≡ true
begins_after way e content m = and_first e (is_mail_start way content) m

pub split_parts : (way : FromLines) (bytes content : List ℕ) (start line : ℕ) (e : Bool) → AreParts way bytes start line e → IsWholeLine (drop line bytes) content → told_by way (waits start line) e content ≡ Begins
    → IsSplit way (take start bytes) bytes (drop start bytes)
split_parts way bytes content start line e g v h =
    let w : IsWholeLine g.last content = subst (λ x. IsWholeLine x content) (last_is way bytes start line e g) v in
    let split : IsSplit way g.before (g.before ++ (g.from ++ g.last)) (g.from ++ g.last) =
    elim g.waiting [
      | inl n ↦
          let tells = told_alone way (waits start line) e content Begins (none_waits way bytes start line e g n) h in
          let both = alone_begins (may_begin way e content) (needs_field way) tells in
          split_at way e g.before (g.from ++ g.last) g.one (g.some (begins_after way e content both.0)) (omega (arith, whole_some g.last content w, length-append g.from g.last))
          (subst (λ x. BeginsHere way e (x ++ g.last)) (sym n) (line_begins way e g.last content w both.0 both.1))
      | inr f ↦
          let tells = told_next way (waits start line) e content Begins (one_waits way bytes f.0 start line e g f.1) h in
          split_at way e g.before (g.from ++ g.last) g.one (g.some (begins_after way e f.0 f.2)) (omega (arith, whole_some g.last content w, length-append g.from g.last))
          (pair_begins way e g.from f.0 g.last content f.1 w f.2 f.3 (next_begins (is_field_start content) tells))
    ] in
    at_places way (take start bytes) bytes (drop start bytes) g.before (g.from ++ g.last) (front_is way bytes start line e g) g.parts (rest_is way bytes start line e g) split

-- what is left begins a message, and its last line isn't known
pub parts_left : (way : FromLines) (bytes : List ℕ) (start line : ℕ) (e : Bool) → AreParts way bytes start line e → AreParts way (drop start bytes) (line - start) (line - start) false
parts_left way bytes start line e g =
    let size : line - start ≡ length g.from = omega (arith, g.start_is, g.line_is) in
    let one : IsOnePiece way g.from false =
    elim g.waiting [
      | inl n ↦ subst (λ x. IsOnePiece way x false) (sym n) (λ more. (refl, refl))
      | inr f ↦ subst (IsOnePiece way g.from) (begin_some way e f.0 f.2) (line_goes way false g.from f.0 f.1 refl)
    ] in
    record {
      before = g.from;
      from = [];
      last = g.last;
      parts = rest_is way bytes start line e g;
      start_is = size;
      line_is = omega (arith, size);
      one = one;
      waiting = inl refl;
      one_line = g.one_line;
      some = λ t. cc;
    }

-- more bytes after
pub split_on : (way : FromLines) (piece old new rest : List ℕ) → IsSplit way piece old new → IsSplit way piece (old ++ rest) (new ++ rest)
split_on way piece old new rest s = record {
  parts = ap (λ x. x ++ rest) s.parts ∙ append_assoc piece new rest;
  some = s.some;
  rest = omega (arith, s.rest, length-append new rest);
  front = λ more. ap (front_of way false) (append_assoc old rest more) ∙ s.front (rest ++ more);
  later = λ more. ap (later_of way false) (append_assoc old rest more) ∙ (s.later (rest ++ more) ∙ ap (mailbox_pieces way) (sym (append_assoc new rest more)));
  closed = λ more h. s.closed (rest ++ more) (subst (λ x. IsOpenInFront (cut x)) (append_assoc new rest more) h);
}
