-- Lines that are gathered, and what is given of them.
use Rattle.mk_mailbox.specs.declared.from_lines.FromLines.{FromLines}
use Rattle.mk_mailbox.specs.declared.gathering.Told.TheVariants.{Begins, Waits, Belongs}
use Rattle.std.proofs.Common.{◌≡◌, ◌==◌, ◌<◌, ◌≤◌, ◌-◌, if◌then◌else◌, suc, ◌++◌, ℕ, Bool, false, List, [], ◌∷◌, refl, ap, sym, ◌∙◌, length, nat_lt, take, drop, subst, length-append, append_assoc, take-append-drop, arith}
use Rattle.std.proofs.Math.Seq.{drop-append_seam, take-append_seam}
use Rattle.std.proofs.lemmas.Bool.{ne_eqb}
use Rattle.std.proofs.lemmas.List.{length-take-le, take-take}
use Rattle.mk_line.specs.Lines.{has_line_feed, is_nil}
use Rattle.mk_mailbox.specs.inner.Gathered.{IsGathered, IsLastSplit, IsOneLine, IsOnePiece, IsSplit, IsWaiting, IsWholeLine, told_by}
use Rattle.mk_mailbox.specs.Mailboxes.{IsKnownWhole}
use Rattle.mk_mailbox.proofs.GatheredParts.{AreParts, front_is, last_is, grown_parts_if, parts_on, parts_wait, split_parts, parts_left}
use Rattle.mk_mailbox.proofs.LastLines.{last_split_parts, last_whole_parts, parts_unknown}

pub nil_is : (xs : List ℕ) → (length xs == 0) ≡ is_nil xs
nil_is [] = refl
nil_is (x ∷ xs) = ne_eqb (suc (length xs)) 0 (λ e. absurd (omega (arith, e)))

front_of_line : (bytes : List ℕ) (start line : ℕ) → start ≤ line → take line bytes ≡ take start bytes ++ drop start (take line bytes)
front_of_line bytes start line o = sym (take-append-drop start (take line bytes)) ∙ ap (λ x. x ++ drop start (take line bytes)) (take-take start line bytes o)

parts_of : (way : FromLines) (bytes : List ℕ) (start line : ℕ) (e : Bool) → IsGathered way bytes start line e → AreParts way bytes start line e
parts_of way bytes start line e g =
    let front : take line bytes ≡ take start bytes ++ drop start (take line bytes) = front_of_line bytes start line g.ordered in
    let to_line : length (take line bytes) ≡ line = length-take-le line bytes g.within in
    let to_start : length (take start bytes) ≡ start = length-take-le start bytes (omega (arith, g.ordered, g.within)) in
    let sum : length (take line bytes) ≡ length (take start bytes ++ drop start (take line bytes)) = ap length front in
    record {
      before = take start bytes;
      from = drop start (take line bytes);
      last = drop line bytes;
      parts = sym (take-append-drop line bytes) ∙ (ap (λ x. x ++ drop line bytes) front ∙ append_assoc (take start bytes) (drop start (take line bytes)) (drop line bytes));
      start_is = sym to_start;
      line_is = omega (arith, to_line, sum, length-append (take start bytes) (drop start (take line bytes)));
      one = g.before;
      waiting = g.between;
      one_line = g.following;
      some = λ t. let some = g.some t in omega (arith, some, to_start);
    }

gathered_of : (way : FromLines) (bytes : List ℕ) (start line : ℕ) (e : Bool) → AreParts way bytes start line e → IsGathered way bytes start line e
gathered_of way bytes start line e g =
    let size = ap length g.parts in
    let sum = length-append g.before (g.from ++ g.last) in
    let to_line : take line bytes ≡ g.before ++ g.from =
    (λ i. take ((g.line_is ∙ sym (length-append g.before g.from)) i) ((g.parts ∙ sym (append_assoc g.before g.from g.last)) i)) ∙ take-append_seam (g.before ++ g.from) g.last in
    let between : drop start (take line bytes) ≡ g.from = (λ i. drop (g.start_is i) (to_line i)) ∙ drop-append_seam g.before g.from in
    record {
      ordered = omega (arith, g.start_is, g.line_is);
      within = omega (arith, g.line_is, size, sum, length-append g.from g.last);
      before = subst (λ x. IsOnePiece way x e) (sym (front_is way bytes start line e g)) g.one;
      between = subst (IsWaiting way e) (sym between) g.waiting;
      following = subst IsOneLine (sym (last_is way bytes start line e g)) g.one_line;
      some = λ t. let some = g.some t in omega (arith, some, g.start_is);
    }

pub grown_if : (way : FromLines) (t : Bool) (bytes more : List ℕ) (start line : ℕ) (e : Bool) → IsGathered way bytes start line e → has_line_feed (drop line bytes) ≡ false → IsOneLine more → IsGathered way (if t then bytes ++ more else bytes) start line e
grown_if way t bytes more start line e g h one = gathered_of way (if t then bytes ++ more else bytes) start line e (grown_parts_if way t bytes more start line e (parts_of way bytes start line e g) h one)

pub gathered_on : (way : FromLines) (bytes content : List ℕ) (start line : ℕ) (e : Bool) → IsGathered way bytes start line e → IsWholeLine (drop line bytes) content → told_by way (nat_lt start line) e content ≡ Belongs
    → IsGathered way bytes (length bytes) (length bytes) (is_nil content)
gathered_on way bytes content start line e g w h = gathered_of way bytes (length bytes) (length bytes) (is_nil content) (parts_on way bytes content start line e (parts_of way bytes start line e g) w h)

pub gathered_waits : (way : FromLines) (bytes content : List ℕ) (start line : ℕ) (e : Bool) → IsGathered way bytes start line e → IsWholeLine (drop line bytes) content → told_by way (nat_lt start line) e content ≡ Waits
    → IsGathered way bytes start (length bytes) e
gathered_waits way bytes content start line e g w h = gathered_of way bytes start (length bytes) e (parts_wait way bytes content start line e (parts_of way bytes start line e g) w h)

pub split_is : (way : FromLines) (bytes content : List ℕ) (start line : ℕ) (e : Bool) → IsGathered way bytes start line e → IsWholeLine (drop line bytes) content → told_by way (nat_lt start line) e content ≡ Begins
    → IsSplit way (take start bytes) bytes (drop start bytes)
split_is way bytes content start line e g w h = split_parts way bytes content start line e (parts_of way bytes start line e g) w h

pub split_rest : (way : FromLines) (bytes : List ℕ) (start line : ℕ) (e : Bool) → IsGathered way bytes start line e → IsGathered way (drop start bytes) (line - start) (line - start) false
split_rest way bytes start line e g = gathered_of way (drop start bytes) (line - start) (line - start) false (parts_left way bytes start line e (parts_of way bytes start line e g))

pub last_split : (way : FromLines) (bytes : List ℕ) (start line : ℕ) (e : Bool) → IsGathered way bytes start line e → has_line_feed (drop line bytes) ≡ false → told_by way (nat_lt start line) e (drop line bytes) ≡ Begins
    → IsLastSplit way (take start bytes) bytes (drop start bytes)
last_split way bytes start line e g h v = last_split_parts way bytes start line e (parts_of way bytes start line e g) h v

pub last_whole : (way : FromLines) (bytes : List ℕ) (start line : ℕ) (e : Bool) → IsGathered way bytes start line e → has_line_feed (drop line bytes) ≡ false → (told_by way (nat_lt start line) e (drop line bytes) ≡ Begins → ⊥) → 0 < length bytes
    → IsLastSplit way bytes bytes []
last_whole way bytes start line e g h v o = last_whole_parts way bytes start line e (parts_of way bytes start line e g) h v o

pub gathered_unknown : (way : FromLines) (bytes : List ℕ) (start line : ℕ) (e : Bool) → IsGathered way bytes start line e → has_line_feed (drop line bytes) ≡ false → IsKnownWhole way bytes → ⊥
gathered_unknown way bytes start line e g h k = parts_unknown way bytes start line e (parts_of way bytes start line e g) h k
