-- The end of the input, and messages that aren't known to be whole yet.
use Rattle.mk_mailbox.specs.declared.from_lines.FromLines.{FromLines}
use Rattle.mk_mailbox.specs.declared.gathering.Told.{Told}
use Rattle.mk_mailbox.specs.declared.gathering.Told.TheVariants.{Begins, Waits, Belongs}
use Rattle.std.proofs.Common.{◌≡◌, ◌==◌, ◌<◌, if◌then◌else◌, ◌++◌, ◌⊎◌, ℕ, Bool, true, false, List, [], ◌∷◌, refl, ap, sym, ◌∙◌, inl, inr, map, length, take, drop, subst, length-append, append-nil, arith}
use Rattle.std.proofs.lemmas.Bool.{cases_Bool, or_parts}
use Rattle.mk_line.specs.declared.cutting.Ending.TheVariants.{Missing}
use Rattle.mk_line.specs.Kinds.{is_field_start}
use Rattle.mk_line.specs.Lines.{cut, has_line_feed, is_nil, text_line, text_of}
use Rattle.mk_line.proofs.Cuts.{cut_whole}
use Rattle.mk_mailbox.specs.inner.Gathered.{IsLastSplit, IsOnePiece, IsWholeLine, front_of, later_of, told_by}
use Rattle.mk_mailbox.specs.Mailboxes.{IsKnownWhole, is_known_start}
use Rattle.mk_mailbox.specs.Pieces.{front, is_first, later, mailbox_pieces, may_begin, needs_field, parted, starts_field}
use Rattle.mk_mailbox.specs.inner.Parts.{KnowsFirst, after_line}
use Rattle.mk_mailbox.proofs.MessageLines.{front_first, front_line, later_first, later_line, pieces_of, whole_some}
use Rattle.mk_mailbox.proofs.LineStarts.{other_first, free_first, field_first, bare_first, begin_none, begin_some, later_first_none}
use Rattle.mk_mailbox.proofs.GatheredParts.{AreParts, front_is, rest_is, last_is, waits, none_waits, one_waits, alone_begins, next_begins, told_alone, told_next, begins_after}

-- ---- an open line, or none, at the end

pub front_open_line : (way : FromLines) (e : Bool) (line : List ℕ) → is_first way e line [] ≡ false → text_of (front way e (text_line line Missing ∷ [])) ≡ line
front_open_line way e line t = rw t (append-nil (line ++ []) ∙ append-nil line)

pub later_open_line : (way : FromLines) (e : Bool) (line : List ℕ) → is_first way e line [] ≡ false → map text_of (later way e (text_line line Missing ∷ [])) ≡ []
later_open_line way e line t = rw t refl

pub front_open : (way : FromLines) (e : Bool) (line : List ℕ) → has_line_feed line ≡ false → is_first way e line [] ≡ false → front_of way e line ≡ line
front_open way e [] h t = refl
front_open way e (byte ∷ bytes) h t = ap (λ ls. text_of (front way e ls)) (cut_whole (byte ∷ bytes) (omega arith) h) ∙ front_open_line way e (byte ∷ bytes) t

pub later_open : (way : FromLines) (e : Bool) (line : List ℕ) → has_line_feed line ≡ false → is_first way e line [] ≡ false → later_of way e line ≡ []
later_open way e [] h t = refl
later_open way e (byte ∷ bytes) h t = ap (λ ls. map text_of (later way e ls)) (cut_whole (byte ∷ bytes) (omega arith) h) ∙ later_open_line way e (byte ∷ bytes) t

pub front_open_first : (way : FromLines) (e : Bool) (line : List ℕ) → has_line_feed line ≡ false → is_first way e line [] ≡ true → front_of way e line ≡ []
front_open_first way e [] h t = refl
front_open_first way e (byte ∷ bytes) h t = ap (λ ls. text_of (front way e ls)) (cut_whole (byte ∷ bytes) (omega arith) h) ∙ none_of way e (byte ∷ bytes) t
  where
    none_of : (way : FromLines) (e : Bool) (line : List ℕ) → is_first way e line [] ≡ true → text_of (front way e (text_line line Missing ∷ [])) ≡ []
    none_of way e line t = rw t refl

pub later_open_first : (way : FromLines) (e : Bool) (line : List ℕ) → has_line_feed line ≡ false → is_first way e line [] ≡ true → later_of way e line ≡ mailbox_pieces way line
later_open_first way e [] h t = absurd (first_none (is_first way e [] []) t (other_first way e [] [] (begin_none way e)))
  where
    first_none : (t : Bool) → t ≡ true → t ≡ false → ⊥
    first_none true a b = cc
    first_none false a b = cc
later_open_first way e (byte ∷ bytes) h t =
    ap (λ ls. map text_of (later way e ls)) (cut_whole (byte ∷ bytes) (omega arith) h)
    ∙ (one_of way e (byte ∷ bytes) t ∙ ap (λ ls. map text_of (parted way ls)) (sym (cut_whole (byte ∷ bytes) (omega arith) h)))
  where
    one_of : (way : FromLines) (e : Bool) (line : List ℕ) → is_first way e line [] ≡ true → map text_of (later way e (text_line line Missing ∷ [])) ≡ map text_of (parted way (text_line line Missing ∷ []))
    one_of way e line t = rw t refl

pub starts_open : (line : List ℕ) → has_line_feed line ≡ false → starts_field (cut line) ≡ is_field_start line
starts_open [] h = refl
starts_open (byte ∷ bytes) h = ap starts_field (cut_whole (byte ∷ bytes) (omega arith) h)

-- a line that waited, and an open one
pub front_pair : (way : FromLines) (e : Bool) (line content last : List ℕ) → IsWholeLine line content → has_line_feed last ≡ false → may_begin way e content ≡ true → needs_field way ≡ true → is_field_start last ≡ false
    → (front_of way e (line ++ last) ≡ line ++ last) × (later_of way e (line ++ last) ≡ [])
front_pair way e line content last w h m n s =
    let bare : is_first way e content (cut last) ≡ false = bare_first way e content (cut last) n (starts_open last h ∙ s) in
    let none : is_first way (is_nil content) last [] ≡ false = later_first_none way (is_nil content) last [] (begin_some way e content m) in (
      front_line way e line content last w bare ∙ ap (λ x. line ++ x) (front_open way (is_nil content) last h none),
      later_line way e line content last w bare ∙ later_open way (is_nil content) last h none,
    )

-- what is told of an open line
pub open_begins : (way : FromLines) (e : Bool) (last : List ℕ) → told_by way false e last ≡ Begins → is_first way e last [] ≡ true
open_begins way e last h = let both = alone_begins (may_begin way e last) (needs_field way) h in free_first way e last [] both.0 both.1

pub open_belongs : (way : FromLines) (e : Bool) (last : List ℕ) → (told_by way false e last ≡ Begins → ⊥) → is_first way e last [] ≡ false
open_belongs way e last h =
    elim (cases_Bool (may_begin way e last)) [
      | inl m ↦ elim (cases_Bool (needs_field way)) [
        | inl n ↦ bare_first way e last [] n refl
        | inr f ↦ absurd (h (rw (m, f) refl))
      ]
      | inr m ↦ other_first way e last [] m
    ]

pub next_other : (f : Bool) → ((if f then Begins else Belongs) ≡ Begins → ⊥) → f ≡ false
next_other true h = absurd (h refl)
next_other false h = refl

-- ---- the input has ended

pub last_at : (way : FromLines) (e : Bool) (piece rest : List ℕ) → IsOnePiece way piece e → 0 < length piece → front_of way e rest ≡ [] → later_of way e rest ≡ mailbox_pieces way rest → IsLastSplit way piece (piece ++ rest) rest
last_at way e piece rest one some f l = record {
  parts = refl;
  some = some;
  front = (one rest).0 ∙ (ap (λ x. piece ++ x) f ∙ append-nil piece);
  later = (one rest).1 ∙ l;
}

pub at_last : (way : FromLines) (piece old new before rest : List ℕ) → piece ≡ before → old ≡ before ++ rest → new ≡ rest → IsLastSplit way before (before ++ rest) rest → IsLastSplit way piece old new
at_last way piece old new before rest p o n s = subst (λ x. IsLastSplit way x old new) (sym p) (subst (λ x. IsLastSplit way before x new) (sym o) (subst (λ x. IsLastSplit way before (before ++ rest) x) (sym n) s))

-- and its last line tells that a message begins
pub last_split_parts : (way : FromLines) (bytes : List ℕ) (start line : ℕ) (e : Bool) → AreParts way bytes start line e → has_line_feed (drop line bytes) ≡ false → told_by way (waits start line) e (drop line bytes) ≡ Begins
    → IsLastSplit way (take start bytes) bytes (drop start bytes)
last_split_parts way bytes start line e g k v =
    let last = last_is way bytes start line e g in
    let h : has_line_feed g.last ≡ false = sym (ap has_line_feed last) ∙ k in
    let told : told_by way (waits start line) e g.last ≡ Begins = sym (ap (told_by way (waits start line) e) last) ∙ v in
    let split : IsLastSplit way g.before (g.before ++ (g.from ++ g.last)) (g.from ++ g.last) =
    elim g.waiting [
      | inl n ↦
          let tells = told_alone way (waits start line) e g.last Begins (none_waits way bytes start line e g n) told in
          let first = open_begins way e g.last tells in
          let some = g.some (begins_after way e g.last (alone_begins (may_begin way e g.last) (needs_field way) tells).0) in
          subst (λ x. IsLastSplit way g.before (g.before ++ (x ++ g.last)) (x ++ g.last)) (sym n)
          (last_at way e g.before g.last g.one some (front_open_first way e g.last h first) (later_open_first way e g.last h first))
      | inr f ↦
          let tells = told_next way (waits start line) e g.last Begins (one_waits way bytes f.0 start line e g f.1) told in
          let first : is_first way e f.0 (cut g.last) ≡ true = field_first way e f.0 (cut g.last) f.2 f.3 (starts_open g.last h ∙ next_begins (is_field_start g.last) tells) in
          last_at way e g.before (g.from ++ g.last) g.one (g.some (begins_after way e f.0 f.2)) (front_first way e g.from f.0 g.last f.1 first) (later_first way e g.from f.0 g.last f.1 first)
    ] in
    at_last way (take start bytes) bytes (drop start bytes) g.before (g.from ++ g.last) (front_is way bytes start line e g) g.parts (rest_is way bytes start line e g) split

-- what stands after the place belongs to the message
pub rest_belongs : (way : FromLines) (bytes : List ℕ) (start line : ℕ) (e : Bool) (g : AreParts way bytes start line e) → has_line_feed g.last ≡ false → (told_by way (waits start line) e g.last ≡ Begins → ⊥)
    → (front_of way e (g.from ++ g.last) ≡ g.from ++ g.last) × (later_of way e (g.from ++ g.last) ≡ [])
rest_belongs way bytes start line e g h v =
    elim g.waiting [
      | inl n ↦
          let waiting = none_waits way bytes start line e g n in
          let first = open_belongs way e g.last (λ tells. v (ap (λ x. told_by way x e g.last) waiting ∙ tells)) in
          subst (λ x. (front_of way e (x ++ g.last) ≡ x ++ g.last) × (later_of way e (x ++ g.last) ≡ [])) (sym n) (front_open way e g.last h first, later_open way e g.last h first)
      | inr f ↦
          let waiting = one_waits way bytes f.0 start line e g f.1 in
          front_pair way e g.from f.0 g.last f.1 h f.2 f.3 (next_other (is_field_start g.last) (λ tells. v (ap (λ x. told_by way x e g.last) waiting ∙ tells)))
    ]

-- and its last line belongs to the message
pub last_whole_parts : (way : FromLines) (bytes : List ℕ) (start line : ℕ) (e : Bool) → AreParts way bytes start line e → has_line_feed (drop line bytes) ≡ false → (told_by way (waits start line) e (drop line bytes) ≡ Begins → ⊥) → 0 < length bytes
    → IsLastSplit way bytes bytes []
last_whole_parts way bytes start line e g k v o =
    let last = last_is way bytes start line e g in
    let both = rest_belongs way bytes start line e g (sym (ap has_line_feed last) ∙ k) (λ told. v (ap (told_by way (waits start line) e) last ∙ told)) in
    record {
      parts = sym (append-nil bytes);
      some = o;
      front = ap (front_of way false) g.parts ∙ ((g.one (g.from ++ g.last)).0 ∙ (ap (λ x. g.before ++ x) both.0 ∙ sym g.parts));
      later = ap (later_of way false) g.parts ∙ ((g.one (g.from ++ g.last)).1 ∙ both.1);
    }

-- ---- what isn't known yet

pub tells_or_not : (v : Told) → (v ≡ Begins) ⊎ (v ≡ Begins → ⊥)
tells_or_not Begins = inl refl
tells_or_not Waits = inr (λ h. cc)
tells_or_not Belongs = inr (λ h. cc)

pub true_and_false : (t : Bool) → t ≡ true → t ≡ false → ⊥
true_and_false true a b = cc
true_and_false false a b = cc

pub some_bytes : (xs : List ℕ) → is_nil xs ≡ false → 0 < length xs
some_bytes [] h = cc
some_bytes (x ∷ xs) h = omega arith

-- the message that a text begins is known by its first lines
pub knows_start : (way : FromLines) (t : Bool) (p text : List ℕ) → needs_field way ≡ t → 0 < length text → front_of way false text ≡ text → KnowsFirst way (p ∷ mailbox_pieces way text) → is_known_start t text ≡ true
knows_start way t p text n some f k =
    let known : is_known_start (needs_field way) (front_of way false text) ≡ true = subst (λ ps. KnowsFirst way (p ∷ ps)) (pieces_of way text some) k in
    sym (λ i. is_known_start (n i) (f i)) ∙ known

pub after_feed : (before last : List ℕ) → has_line_feed before ≡ false → after_line ((before ++ 10 ∷ []) ++ last) ≡ last
after_feed [] last h = refl
after_feed (byte ∷ bytes) last h =
    let both = or_parts (byte == 10) (has_line_feed bytes) h in
    rw both.0 (after_feed bytes last both.1)

pub after_whole : (line content last : List ℕ) → IsWholeLine line content → after_line (line ++ last) ≡ last
after_whole line content last w = ap (λ x. after_line (x ++ last)) w.parts ∙ after_feed w.before last w.no_feed

pub line_unknown : (way : FromLines) (e : Bool) (p line : List ℕ) → has_line_feed line ≡ false → told_by way false e line ≡ Begins → KnowsFirst way (p ∷ mailbox_pieces way line) → ⊥
line_unknown way e p line h told k =
    let both = alone_begins (may_begin way e line) (needs_field way) told in
    let known : has_line_feed line ≡ true = knows_start way false p line both.1 (some_bytes line (begin_some way e line both.0)) (front_open way false line h refl) k in
    true_and_false (has_line_feed line) known h

pub pair_unknown : (way : FromLines) (e : Bool) (p line content last : List ℕ) → IsWholeLine line content → has_line_feed last ≡ false → may_begin way e content ≡ true → needs_field way ≡ true → KnowsFirst way (p ∷ mailbox_pieces way (line ++ last)) → ⊥
pair_unknown way e p line content last w h m n k =
    let none : is_first way (is_nil content) last [] ≡ false = later_first_none way (is_nil content) last [] (begin_some way e content m) in
    let whole : front_of way false (line ++ last) ≡ line ++ last = front_line way false line content last w refl ∙ ap (λ x. line ++ x) (front_open way (is_nil content) last h none) in
    let known : has_line_feed (after_line (line ++ last)) ≡ true = knows_start way true p (line ++ last) n (omega (arith, whole_some line content w, length-append line last)) whole k in
    true_and_false (has_line_feed last) (sym (ap has_line_feed (after_whole line content last w)) ∙ known) h

pub begun_unknown : (way : FromLines) (p bytes : List ℕ) (start line : ℕ) (e : Bool) (g : AreParts way bytes start line e) → has_line_feed g.last ≡ false → told_by way (waits start line) e g.last ≡ Begins
    → KnowsFirst way (p ∷ later_of way e (g.from ++ g.last)) → ⊥
begun_unknown way p bytes start line e g h told k =
    elim g.waiting [
      | inl n ↦
          let tells = told_alone way (waits start line) e g.last Begins (none_waits way bytes start line e g n) told in
          let later = later_open_first way e g.last h (open_begins way e g.last tells) in
          line_unknown way e p g.last h tells (subst (λ ps. KnowsFirst way (p ∷ ps)) (ap (λ x. later_of way e (x ++ g.last)) n ∙ later) k)
      | inr f ↦
          let tells = told_next way (waits start line) e g.last Begins (one_waits way bytes f.0 start line e g f.1) told in
          let first : is_first way e f.0 (cut g.last) ≡ true = field_first way e f.0 (cut g.last) f.2 f.3 (starts_open g.last h ∙ next_begins (is_field_start g.last) tells) in
          pair_unknown way e p g.from f.0 g.last f.1 h f.2 f.3 (subst (λ ps. KnowsFirst way (p ∷ ps)) (later_first way e g.from f.0 g.last f.1 first) k)
    ]

-- as long as its last line is open, no message of what is gathered is known to be whole
pub parts_unknown : (way : FromLines) (bytes : List ℕ) (start line : ℕ) (e : Bool) → AreParts way bytes start line e → has_line_feed (drop line bytes) ≡ false → IsKnownWhole way bytes → ⊥
parts_unknown way [] start line e g h k = k
parts_unknown way (byte ∷ bytes) start line e g k known =
    let all = byte ∷ bytes in
    let h : has_line_feed g.last ≡ false = sym (ap has_line_feed (last_is way all start line e g)) ∙ k in
    let later : later_of way false all ≡ later_of way e (g.from ++ g.last) = ap (later_of way false) g.parts ∙ (g.one (g.from ++ g.last)).1 in
    let knows : KnowsFirst way (front_of way false all ∷ later_of way e (g.from ++ g.last)) = subst (λ ps. KnowsFirst way (front_of way false all ∷ ps)) later (subst (KnowsFirst way) (pieces_of way all (omega arith)) known) in
    elim (tells_or_not (told_by way (waits start line) e g.last)) [
      | inl told ↦ begun_unknown way (front_of way false all) all start line e g h told knows
      | inr told ↦ subst (λ ps. KnowsFirst way (front_of way false all ∷ ps)) (rest_belongs way all start line e g h told).1 knows
    ]
