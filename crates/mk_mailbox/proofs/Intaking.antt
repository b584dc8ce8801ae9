-- What a call of a mailbox answers, by what was gathered.
use Rattle.mk_mailbox.specs.declared.from_lines.FromLines.{FromLines}
use Rattle.std.proofs.Common.{◌≡◌, ◌<◌, ◌≤◌, ◌+◌, ◌*◌, ◌-◌, ◌^◌, ◌⊎◌, ◌++◌, ℕ, zero, suc, nat_lt, if◌then◌else◌, Bool, true, false, List, [], ◌∷◌, Option, None, Some, Result, Ok, Err, IfOk, IfNone, MatchOption, MatchResult, OnErr, refl, ap, sym, ◌∙◌, length, slice_get, subst, length-append, append-nil, append_assoc, inl, inr, drop, take, take-append-drop, arith}
use Rattle.std.proofs.lemmas.Bool.{ltb-false}
use Rattle.std.proofs.lemmas.List.{drop-drop, drop-take}
use Rattle.std.specs.Global.{Vec}
use Rattle.std.specs.Option.{option_map}
use Rattle.std.proofs.KnownBytes.{Consumes-trans}
use Rattle.std.specs.Io.KnownBytes.{Consumes}
use Rattle.mk_line.specs.Lines.{cut, has_line_feed}
use Rattle.mk_mailbox.specs.inner.Gathered.{IsLastSplit, IsSplit, chunk_bytes, later_of}
use Rattle.mk_line.specs.Meters.{ticked}
use Rattle.mk_mailbox.specs.Devices.{IsFull}
use Rattle.mk_mailbox.specs.Held.{Held}
use Rattle.mk_mailbox.specs.declared.intake.Intake.{Intake}
use Rattle.mk_mailbox.specs.inner.Intakes.{IsIntake, held_of, kept_by, unread}
use Rattle.mk_mailbox.specs.Mailboxes.{FitsReads, IsKnownWhole, IsNextPiece, read_limit}
use Rattle.mk_mailbox.specs.inner.Answers.{Answers}
use Rattle.mk_mailbox.specs.MailboxLaws.{IsReply, call_reply}
use Rattle.mk_mailbox.specs.declared.mailbox.MailFault.{MailFault}
use Rattle.mk_mailbox.specs.Pieces.{mailbox_pieces}
use Rattle.mk_mailbox.specs.inner.Parts.{IsOpenInFront}
use Rattle.mk_mailbox.proofs.LinesGathered.{gathered_unknown}
use Rattle.mk_mailbox.proofs.MessageLines.{pieces_of}

longer : (piece new old : List ℕ) → old ≡ piece ++ new → 0 < length piece → 0 < length old
longer piece new old p s = let e : length old ≡ length (piece ++ new) = ap length p in omega (arith, e, s, length-append piece new)

longer_on : (old more : List ℕ) → 0 < length old → 0 < length (old ++ more)
longer_on old more h = omega (arith, h, length-append old more)

split_pieces : (way : FromLines) (piece old new more : List ℕ) → IsSplit way piece old new → mailbox_pieces way (old ++ more) ≡ piece ∷ mailbox_pieces way (new ++ more)
split_pieces way piece old new more s =
    pieces_of way (old ++ more) (longer_on old more (longer piece new old s.parts s.some))
    ∙ (ap (λ p. p ∷ later_of way false (old ++ more)) (s.front more) ∙ ap (λ ps. piece ∷ ps) (s.later more))

first_of : (way : FromLines) (old piece : List ℕ) (pieces : List (List ℕ)) → mailbox_pieces way (old ++ []) ≡ piece ∷ pieces → slice_get (mailbox_pieces way old) 0 ≡ Some piece
first_of way old piece pieces e = ap (λ x. slice_get (mailbox_pieces way x) 0) (sym (append-nil old)) ∙ ap (λ ps. slice_get ps 0) e

none_long : {A : Type 0} (xs : List ℕ) → xs ≡ [] → 0 < length xs → A
none_long xs e h = let z : length xs ≡ 0 = ap length e in absurd (omega (arith, z, h))

-- a message is whole, whatever is read after it
pub piece_next : (piece read : List ℕ) (old new : Held) → IsSplit old.from_lines piece (old.kept ++ read) new.kept → IsNextPiece piece old read new
piece_next piece read old new s = record {
  whole = s.parts;
  first = first_of old.from_lines (old.kept ++ read) piece (mailbox_pieces old.from_lines (new.kept ++ [])) (split_pieces old.from_lines piece (old.kept ++ read) new.kept [] s);
  stays = λ more _. split_pieces old.from_lines piece (old.kept ++ read) new.kept more s;
  some = s.some;
  all = λ e. none_long new.kept e s.rest;
  closed = λ h. absurd (s.closed [] (subst (λ x. IsOpenInFront (cut x)) (sym (append-nil new.kept)) h));
}

last_pieces : (way : FromLines) (piece old new more : List ℕ) → more ≡ [] → IsLastSplit way piece old new → mailbox_pieces way (old ++ more) ≡ piece ∷ mailbox_pieces way (new ++ more)
last_pieces way piece old new more e s =
    ap (λ m. mailbox_pieces way (old ++ m)) e
    ∙ (ap (mailbox_pieces way) (append-nil old)
    ∙ (pieces_of way old (longer piece new old s.parts s.some)
    ∙ (ap (λ p. p ∷ later_of way false old) s.front
    ∙ (ap (λ ps. piece ∷ ps) s.later
    ∙ (ap (λ x. piece ∷ mailbox_pieces way x) (sym (append-nil new)) ∙ ap (λ m. piece ∷ mailbox_pieces way (new ++ m)) (sym e))))))

-- a message of an input that has ended
pub last_next : (piece read : List ℕ) (old new : Held) → new.ended ≡ true → IsLastSplit old.from_lines piece (old.kept ++ read) new.kept → IsNextPiece piece old read new
last_next piece read old new e s = record {
  whole = s.parts;
  first = first_of old.from_lines (old.kept ++ read) piece (mailbox_pieces old.from_lines (new.kept ++ [])) (last_pieces old.from_lines piece (old.kept ++ read) new.kept [] refl s);
  stays = λ more h. last_pieces old.from_lines piece (old.kept ++ read) new.kept more (h e) s;
  some = s.some;
  all = λ _. e;
  closed = λ _. e;
}

-- what is answered where the input has ended
pub last_answers : {E : Type 0} (r : Result (Option (Vec ℕ)) E) (way : FromLines) (mid read : List ℕ) (old new : Held) → new.ended ≡ true → way ≡ old.from_lines → mid ≡ old.kept ++ read
    → IfOk r (λ o. MatchOption o (mid ≡ []) (λ piece. IsLastSplit way piece.items mid new.kept)) → IfOk r (λ o. IfNone o (new.kept ≡ [])) → OnErr r (new.kept ≡ mid)
    → MatchResult r (λ o. Answers (option_map (λ v. v.items) o) old read new) (λ _. new.kept ≡ old.kept ++ read)
last_answers (Ok None) way mid read old new t w e h n k = record { none = sym e ∙ h; kept = n; ended = t }
last_answers (Ok (Some piece)) way mid read old new t w e h n k =
    last_next piece.items read old new t (subst (λ x. IsLastSplit old.from_lines piece.items x new.kept) e (subst (λ v. IsLastSplit v piece.items mid new.kept) w h))
last_answers (Err x) way mid read old new t w e h n k = k ∙ e

-- a chunk of which all was taken
pub unread_none : (chunk : List ℕ) (at filled : ℕ) → at ≡ filled → unread chunk at filled ≡ []
unread_none chunk at filled e = ap (λ n. drop n (take filled chunk)) e ∙ none_left filled chunk
  where
    none_left : (n : ℕ) (xs : List ℕ) → drop n (take n xs) ≡ []
    none_left zero [] = refl
    none_left zero (x ∷ xs) = refl
    none_left (suc n) [] = refl
    none_left (suc n) (x ∷ xs) = none_left n xs

-- where all of the chunk was taken, what was gathered is all that is kept
pub kept_gathered : (i : Intake) → i.at ≡ i.filled → kept_by i ≡ i.gathered.bytes.items
kept_gathered i e = ap (λ rest. i.gathered.bytes.items ++ rest) (unread_none i.chunk.items i.at i.filled e) ∙ append-nil i.gathered.bytes.items

-- and while its last line is open, no message of it is known to be whole
pub kept_unknown : (i : Intake) → IsIntake i → i.at ≡ i.filled → has_line_feed (drop i.gathered.line i.gathered.bytes.items) ≡ false → IsKnownWhole i.gathered.from_lines (kept_by i) → ⊥
kept_unknown i w e h k = gathered_unknown i.gathered.from_lines i.gathered.bytes.items i.gathered.start i.gathered.line i.gathered.after_empty w.gathered h (subst (IsKnownWhole i.gathered.from_lines) (kept_gathered i e) k)

-- the same bytes, cut at the same From-lines
pub known_on : (way old : FromLines) (now text : List ℕ) → way ≡ old → now ≡ text → IsKnownWhole old text → IsKnownWhole way now
known_on way old now text w e k = subst (λ v. IsKnownWhole v now) (sym w) (subst (IsKnownWhole old) (sym e) k)

-- a message that is known to be whole without a read
pub known_piece : {E : Type 0} (r : Result (Option (Vec ℕ)) E) (old new : Intake) (was now : Held) → was ≡ held_of old → now ≡ held_of new
    → IfOk r (λ o. MatchOption o (kept_by new ≡ kept_by old) (λ piece. IsSplit old.gathered.from_lines piece.items (kept_by old) (kept_by new)))
    → IfOk r (λ o. MatchOption o (now.kept ≡ was.kept) (λ piece. IsNextPiece piece.items was [] now))
known_piece (Ok None) old new was now w n h = ap (λ (k : Held). k.kept) n ∙ (h ∙ sym (ap (λ (k : Held). k.kept) w))
known_piece (Ok (Some piece)) old new was now w n h =
    subst (λ k. IsNextPiece piece.items k [] now) (sym w)
    (subst (λ k. IsNextPiece piece.items (held_of old) [] k) (sym n)
    (piece_next piece.items [] (held_of old) (held_of new) (subst (λ k. IsSplit old.gathered.from_lines piece.items k (kept_by new)) (sym (append-nil (kept_by old))) h)))
known_piece (Err e) old new was now w n h = tt

-- and none is where no message is given
pub none_known : {E : Type 0} (r : Result (Option (Vec ℕ)) E) (old new : Intake) (was : Held) → was ≡ held_of old → IsIntake new → new.gathered.from_lines ≡ old.gathered.from_lines
    → IfOk r (λ o. MatchOption o (kept_by new ≡ kept_by old) (λ piece. IsSplit old.gathered.from_lines piece.items (kept_by old) (kept_by new)))
    → IfOk r (λ o. IfNone o (new.at ≡ new.filled)) → IfOk r (λ o. IfNone o (has_line_feed (drop new.gathered.line new.gathered.bytes.items) ≡ false))
    → IfOk r (λ o. IfNone o (IsKnownWhole was.from_lines was.kept → ⊥))
none_known (Ok None) old new was w i s h t u = λ known. kept_unknown new i t u (known_on _ _ _ _ s h (subst (λ (k : Held). IsKnownWhole k.from_lines k.kept) w known))
none_known (Ok (Some piece)) old new was w i s h t u = tt
none_known (Err e) old new was w i s h t u = tt

-- bytes that came from one read more, or from none
ticked_by : (t : Bool) (n old new : ℕ) → nat_lt old (2 ^ 64 - 1) ≡ t → n ≤ chunk_bytes → new ≡ (if t then old + 1 else old) → (n + read_limit * old ≤ read_limit * new) ⊎ IsFull new
ticked_by true n old new h l e = inl (omega (arith, l, e))
ticked_by false n old new h l e = inr (omega (arith, ltb-false old (2 ^ 64 - 1) h, e))

pub fits_read : (read : List ℕ) (old new : ℕ) → length read ≤ chunk_bytes → new ≡ ticked old → FitsReads read old new
fits_read read old new l e = ticked_by (nat_lt old (2 ^ 64 - 1)) (length read) old new refl l e

pub fits_none : (reads : ℕ) → FitsReads [] reads reads
fits_none reads = inl (omega arith)

-- bytes that were taken from the chunk
part_is : (chunk : List ℕ) (at filled : ℕ) → at ≤ filled → take (filled - at) (drop at chunk) ≡ unread chunk at filled
part_is chunk at filled o = sym (drop-take at (filled - at) chunk) ∙ ap (λ n. drop at (take n chunk)) (omega (arith, o))

pub taken_over : (chunk old new : List ℕ) (at filled count : ℕ) → at ≤ filled → new ≡ old ++ take count (take (filled - at) (drop at chunk)) → new ++ unread chunk (at + count) filled ≡ old ++ unread chunk at filled
taken_over chunk old new at filled count o e =
    let u = unread chunk at filled in
    ap (λ x. x ++ unread chunk (at + count) filled) (e ∙ ap (λ x. old ++ take count x) (part_is chunk at filled o))
    ∙ (append_assoc old (take count u) (unread chunk (at + count) filled)
    ∙ ap (λ x. old ++ x) (ap (λ x. take count u ++ x) (sym (drop-drop count at (take filled chunk))) ∙ take-append-drop count u))

-- bytes that were read in two parts
fits_more : (first next : List ℕ) (old mid new : ℕ) → FitsReads first old mid → FitsReads next mid new → FitsReads (first ++ next) old new
fits_more first next old mid new f n =
    elim n [
      | inr full ↦ inr full
      | inl more ↦ elim f [
        | inr full ↦ inr (omega (arith, full, more))
        | inl less ↦ inl (omega (arith, less, more, length-append first next))
      ]
    ]

pub read_more : (left between right : Option (List ℕ)) (ended : Bool) (kept mid new first next : List ℕ) (old reads now : ℕ)
    → Consumes left between first → (ended ≡ true → first ≡ []) → FitsReads first old reads → mid ≡ kept ++ first
    → Consumes between right next → (ended ≡ true → ⊥) → new ≡ mid ++ next → FitsReads next reads now
    → (read : List ℕ) × Consumes left right read × (ended ≡ true → read ≡ []) × FitsReads read old now × (new ≡ kept ++ read)
read_more left between right ended kept mid new first next old reads now c e f k d n l g = (
  first ++ next,
  Consumes-trans left between right first next c d,
  (λ t. absurd (n t)),
  fits_more first next old reads now f g,
  l ∙ (ap (λ x. x ++ next) k ∙ append_assoc kept first next),
)

-- one turn more
counted_by : (t : Bool) (old turn mid new : ℕ) → nat_lt mid (2 ^ 64 - 1) ≡ t → (old + turn ≤ mid) ⊎ IsFull mid → new ≡ (if t then mid + 1 else mid) → (old + (turn + 1) ≤ new) ⊎ IsFull new
counted_by true old turn mid new h c e =
    elim c [
      | inl l ↦ inl (omega (arith, l, e))
      | inr full ↦ inr (omega (arith, full, e))
    ]
counted_by false old turn mid new h c e = inr (omega (arith, ltb-false mid (2 ^ 64 - 1) h, e))

pub counted_on : (old turn mid new : ℕ) → (old + turn ≤ mid) ⊎ IsFull mid → new ≡ ticked mid → (old + (turn + 1) ≤ new) ⊎ IsFull new
counted_on old turn mid new c e = counted_by (nat_lt mid (2 ^ 64 - 1)) old turn mid new refl c e

pub true_or_false : {A : Type 0} (t : Bool) → t ≡ true → t ≡ false → A
true_or_false true a b = cc
true_or_false false a b = cc

-- a read more, which took a byte unless the input ended
pub grown_on : (before turn : ℕ) (kept mid now read : List ℕ) (was ended : Bool) → before + turn ≤ length kept + (if was then 1 else 0) → was ≡ false → mid ≡ kept → now ≡ mid ++ read → (ended ≡ false → length mid < length now)
    → before + (turn + 1) ≤ length now + (if ended then 1 else 0)
grown_on before turn kept mid now read true ended h w m n g = cc
grown_on before turn kept mid now read false true h w m n g = let a = ap length m in let b = ap length n in omega (arith, h, a, b, length-append mid read)
grown_on before turn kept mid now read false false h w m n g = let a = ap length m in let b = g refl in omega (arith, h, a, b)

-- what a call answers, as the laws speak of it
pub replied : (answer : Result (Option (Vec ℕ)) MailFault) (old : Held) (read : List ℕ) (new : Held) → MatchResult answer (λ o. Answers (option_map (λ v. v.items) o) old read new) (λ _. new.kept ≡ old.kept ++ read) → IsReply (call_reply answer) old read new
replied (Ok (Some piece)) old read new a = a
replied (Ok None) old read new a = a
replied (Err fault) old read new a = a

-- and back
pub answered : (found : Option (Vec ℕ)) (old : Held) (read : List ℕ) (new : Held) → IsReply (call_reply (Ok found)) old read new → Answers (option_map (λ v. v.items) found) old read new
answered (Some piece) old read new a = a
answered None old read new a = a
