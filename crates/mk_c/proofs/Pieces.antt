-- What a mailbox reads of a piece.
use Rattle.std.proofs.Common.{◌≡◌, ◌+◌, ◌-◌, ◌++◌, append_assoc, ◌<◌, ◌&&◌, ◌⊎◌, inl, inr, ℕ, Bool, true, false, not, List, [], ◌∷◌, refl, ap, sym, subst, ◌∙◌, length, length-append, arith, take}
use Rattle.std.proofs.lemmas.List.{append_cancel_right}
use Rattle.std.proofs.Math.Seq.{take-append_seam}
use Rattle.std.proofs.Common.{Option, None, Some, Ok, Err, nat_lt}
use Rattle.std.specs.Global.{Vec}
use Rattle.std.specs.Option.{option_map}
use borrow.Author.Tests.{ltb-true}
use Rattle.mk_line.specs.Lines.{is_nil}
use Rattle.mk_mailbox.specs.declared.mailbox.MailFault.{MailFault}
use Rattle.mk_mailbox.specs.declared.mailbox.MailFault.TheVariants as fault
use Rattle.mk_mailbox.specs.Devices.{IsLong}
use Rattle.mk_mailbox.specs.Held.{Held}
use Rattle.mk_mailbox.specs.Mailboxes.{IsKnownWhole}
use Rattle.mk_mailbox.specs.inner.Answers.{Answers}
use Rattle.mk_mailbox.specs.MailboxLaws.{IsReply, Reply, error, message, none}
use Rattle.mk_c.specs.Mail.{IsShort, ReadsOn}
use Rattle.mk_c.specs.inner.Inputs.{ReadsTo, is_drained, reason_for, to_read}

-- what was read comes first, and the rest is left
pub parted : (last : Bool) (given read rest : List ℕ) → to_read last given ≡ read ++ to_read last rest → given ≡ read ++ rest
parted true given read rest e = e
parted false given read rest e = append_cancel_right given (read ++ rest) (0 ∷ []) (e ∙ sym (append_assoc read rest (0 ∷ [])))

-- the end is found only where nothing more is to come
pub ends : (last : Bool) (rest : List ℕ) → to_read last rest ≡ [] → (last ≡ true) × (rest ≡ [])
ends true rest e = (refl, e)
ends false [] e = cc
ends false (x ∷ xs) e = cc

pub reads_on : (given : List ℕ) (last : Bool) (used : ℕ) (reply : Reply) (read rest : List ℕ) (old new : Held)
    → to_read last given ≡ read ++ to_read last rest → used ≡ length given - length rest
    → IsReply reply old read new → (old.ended ≡ true → read ≡ []) → (old.ended ≡ true → new.ended ≡ true) → new.from_lines ≡ old.from_lines
    → (new.ended ≡ true → (old.ended ≡ true) ⊎ (to_read last rest ≡ []))
    → ReadsOn given last used reply old new
reads_on given last used reply read rest old new e u replies over stays same ended =
    let parts = parted last given read rest e in
    let sizes : length given ≡ length read + length rest = ap (λ xs. length xs) parts ∙ length-append read rest in
    let many : used ≡ length read = omega arith in
    let taken : take used given ≡ read = ap (λ n. take n given) many ∙ (ap (take (length read)) parts ∙ take-append_seam read rest) in
    record {
      within = omega arith;
      call = record {
        reply = subst (λ xs. IsReply reply old xs new) (sym taken) replies;
        over = λ h. taken ∙ over h;
        stays = stays;
        same = same;
      };
      ended = λ h. at_end (ended h) sizes;
    }
  where
    at_end : (old.ended ≡ true) ⊎ (to_read last rest ≡ []) → length given ≡ length read + length rest → (old.ended ≡ true) ⊎ ((last ≡ true) × (used ≡ length given))
    at_end (inl h) sizes = inl h
    at_end (inr h) sizes =
        let both = ends last rest h in
        let none : length rest ≡ 0 = ap (λ xs. length xs) both.1 in
        inr (both.0, omega arith)

-- a message, or none
pub answered : (given : List ℕ) (last : Bool) (used : ℕ) (read rest : List ℕ) (old new : Held) (o : Option (Vec ℕ))
    → to_read last given ≡ read ++ to_read last rest → used ≡ length given - length rest
    → Answers (option_map (λ v. v.items) o) old read new → (old.ended ≡ true → read ≡ []) → (old.ended ≡ true → new.ended ≡ true) → new.from_lines ≡ old.from_lines
    → (new.ended ≡ true → (old.ended ≡ true) ⊎ (to_read last rest ≡ []))
    → ReadsTo given last used (Ok o) old new
answered given last used read rest old new (Some m) e u replies over stays same ended = reads_on given last used (message m.items) read rest old new e u replies over stays same ended
answered given last used read rest old new None e u replies over stays same ended = reads_on given last used none read rest old new e u replies over stays same ended

both : (a b : Bool) → (a && b) ≡ true → (a ≡ true) × (b ≡ true)
both true b h = (refl, h)
both false b h = cc

is_none : (bytes : List ℕ) → is_nil bytes ≡ true → bytes ≡ []
is_none [] h = refl
is_none (x ∷ xs) h = cc

is_false : (b : Bool) → not b ≡ true → b ≡ false
is_false true h = cc
is_false false h = refl

-- all was read, and it isn't the last
pub short : (given : List ℕ) (last : Bool) (used reads start : ℕ) (rest : List ℕ) (new : Held) → used ≡ length given - length rest → is_drained last reads rest ≡ true → start ≡ 0
    → ((IsKnownWhole new.from_lines new.kept → ⊥) ⊎ IsLong start reads) → IsShort given last used new
short given last used reads start rest new u d s known =
    let first = both (is_nil rest) (not last && nat_lt reads 2147483647) d in
    let second = both (not last) (nat_lt reads 2147483647) first.1 in
    let none : length rest ≡ 0 = ap (λ xs. length xs) (is_none rest first.0) in
    let few : reads < 2147483647 = ltb-true reads 2147483647 second.1 in
    record {
      all = omega arith;
      more = is_false last second.0;
      unknown = not_known few known;
    }
  where
    not_known : reads < 2147483647 → ((IsKnownWhole new.from_lines new.kept → ⊥) ⊎ IsLong start reads) → IsKnownWhole new.from_lines new.kept → ⊥
    not_known few (inl never) = never
    not_known few (inr (inl long)) = absurd (omega arith)
    not_known few (inr (inr full)) = absurd (omega arith)

pub refused : (given : List ℕ) (last : Bool) (used : ℕ) (old new : Held) (f : MailFault) (drained : Bool) → ReadsOn given last used error old new
    → (f ≡ fault.ReadFault → drained ≡ true → IsShort given last used new) → ReadsTo given last used (Err (reason_for f drained)) old new
refused given last used old new fault.ReadFault true reads is_short = (reads, is_short refl refl)
refused given last used old new fault.ReadFault false reads is_short = reads
refused given last used old new fault.Memory drained reads is_short = reads
