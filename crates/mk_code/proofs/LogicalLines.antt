-- Bytes cut at an ending.
use Rattle.std.proofs.Common.{◌≡◌, ◌≢◌, ◌==◌, ◌&&◌, ◌+◌, ◌-◌, if◌then◌else◌, ℕ, Bool, suc, true, false, List, [], ◌∷◌, ◌++◌, refl, ap, sym, ◌∙◌, length, take, drop, arith, append_assoc, None, Some}
use Rattle.std.proofs.lemmas.Bool.{or_parts}
use Rattle.std.proofs.lemmas.List.{take_rest}
use denote.Ref.{Bor}
use Rattle.std.specs.Prelude.{Option, MatchOption}
use Rattle.std.specs.List.{flat_map, join_by}
use Rattle.memchr.specs.Find.{FindsNeedle}
use Rattle.mk_line.specs.declared.cutting.Ending.{Ending}
use Rattle.mk_line.specs.declared.cutting.Ending.TheVariants.{Crlf, Lf, Missing}
use Rattle.mk_line.specs.Parting.{has_byte}
use Rattle.mk_code.specs.EncodedWords.{has_pair}
use Rattle.mk_code.specs.QuotedPrintable.{before_lines, logical_lines}
use Rattle.mk_code.proofs.Pairs.{to_pair, from_pair, lacks_pair, pair_parted, pair_unfound}

-- there is always a line
if_some : (t : Bool) (a b : List ℕ) (xs ys : List (List ℕ)) → (if t then a ∷ xs else b ∷ ys) ≡ [] → ⊥
if_some true a b xs ys e = cc
if_some false a b xs ys e = cc

before_some : (eol : Ending) (byte : ℕ) (lines : List (List ℕ)) → before_lines eol byte lines ≡ [] → ⊥
before_some eol byte [] e = cc
before_some Lf byte (line ∷ lines) e = if_some (byte == 10) [] (byte ∷ line) (line ∷ lines) lines e
before_some Crlf byte ([] ∷ lines) e = cc
before_some Crlf byte ((next ∷ line) ∷ lines) e = if_some (byte == 13 && next == 10) [] (byte ∷ next ∷ line) (line ∷ lines) lines e
before_some Missing byte (line ∷ lines) e = cc

pub logical_some : (eol : Ending) (bytes : List ℕ) → logical_lines eol bytes ≢ []
logical_some eol [] e = cc
logical_some eol (byte ∷ bytes) e = before_some eol byte (logical_lines eol bytes) e

pub logical_missing : (bytes : List ℕ) → logical_lines Missing bytes ≡ bytes ∷ []
logical_missing [] = refl
logical_missing (byte ∷ bytes) = ap (before_lines Missing byte) (logical_missing bytes)

-- cut at LF
feed_before : (lines : List (List ℕ)) → lines ≢ [] → before_lines Lf 10 lines ≡ [] ∷ lines
feed_before [] h = absurd (h refl)
feed_before (line ∷ lines) h = refl

before_feed_none : (byte : ℕ) (line : List ℕ) (lines : List (List ℕ)) → (byte == 10) ≡ false → before_lines Lf byte (line ∷ lines) ≡ (byte ∷ line) ∷ lines
before_feed_none byte line lines h = rw h refl

lf_apart : (front following : List ℕ) → has_byte 10 front ≡ false → logical_lines Lf (front ++ 10 ∷ following) ≡ front ∷ logical_lines Lf following
lf_apart [] following h = feed_before (logical_lines Lf following) (logical_some Lf following)
lf_apart (x ∷ xs) following h =
    let both = or_parts (x == 10) (has_byte 10 xs) h in
    ap (before_lines Lf x) (lf_apart xs following both.1) ∙ before_feed_none x xs (logical_lines Lf following) both.0

pub lf_parted : (bytes front following : List ℕ) → bytes ≡ front ++ 10 ∷ following → has_byte 10 front ≡ false → logical_lines Lf bytes ≡ front ∷ logical_lines Lf following
lf_parted bytes front following e h = ap (logical_lines Lf) e ∙ lf_apart front following h

pub lf_whole : (bytes : List ℕ) → has_byte 10 bytes ≡ false → logical_lines Lf bytes ≡ bytes ∷ []
lf_whole [] h = refl
lf_whole (x ∷ xs) h =
    let both = or_parts (x == 10) (has_byte 10 xs) h in
    ap (before_lines Lf x) (lf_whole xs both.1) ∙ before_feed_none x xs [] both.0

-- the same, by what a search for LF gives
pub lf_split : (bytes : List ℕ) (r : Option (Bor (List ℕ) × Bor (List ℕ))) → MatchOption r (has_byte 10 bytes ≡ false) (λ p. bytes ≡ p.0.now ++ 10 ∷ p.1.now) → MatchOption r (has_byte 10 bytes ≡ false) (λ p. has_byte 10 p.0.now ≡ false)
    → MatchOption r (logical_lines Lf bytes ≡ bytes ∷ []) (λ p. logical_lines Lf bytes ≡ p.0.now ∷ logical_lines Lf p.1.now)
lf_split bytes None h k = lf_whole bytes h
lf_split bytes (Some p) h k = lf_parted bytes p.0.now p.1.now h k

-- cut at CR LF
feed_onto : (line : List ℕ) (lines : List (List ℕ)) → before_lines Crlf 10 (line ∷ lines) ≡ (10 ∷ line) ∷ lines
feed_onto [] lines = refl
feed_onto (x ∷ xs) lines = refl

crlf_before : (lines : List (List ℕ)) → lines ≢ [] → before_lines Crlf 13 (before_lines Crlf 10 lines) ≡ [] ∷ lines
crlf_before [] h = absurd (h refl)
crlf_before (line ∷ lines) h = ap (before_lines Crlf 13) (feed_onto line lines)

before_crlf_none : (x y : ℕ) (line : List ℕ) (lines : List (List ℕ)) → (x == 13 && y == 10) ≡ false → before_lines Crlf x ((y ∷ line) ∷ lines) ≡ (x ∷ y ∷ line) ∷ lines
before_crlf_none x y line lines h = rw h refl

crlf_apart : (front following : List ℕ) → has_pair 13 10 front ≡ false → logical_lines Crlf (front ++ 13 ∷ 10 ∷ following) ≡ front ∷ logical_lines Crlf following
crlf_apart [] following h = crlf_before (logical_lines Crlf following) (logical_some Crlf following)
crlf_apart (x ∷ []) following h = ap (before_lines Crlf x) (crlf_apart [] following refl)
crlf_apart (x ∷ y ∷ ys) following h =
    let both = or_parts (x == 13 && y == 10) (has_pair 13 10 (y ∷ ys)) h in
    ap (before_lines Crlf x) (crlf_apart (y ∷ ys) following both.1) ∙ before_crlf_none x y ys (logical_lines Crlf following) both.0

crlf_whole : (bytes : List ℕ) → has_pair 13 10 bytes ≡ false → logical_lines Crlf bytes ≡ bytes ∷ []
crlf_whole [] h = refl
crlf_whole (x ∷ []) h = refl
crlf_whole (x ∷ y ∷ ys) h =
    let both = or_parts (x == 13 && y == 10) (has_pair 13 10 (y ∷ ys)) h in
    ap (before_lines Crlf x) (crlf_whole (y ∷ ys) both.1) ∙ before_crlf_none x y ys [] both.0

after_two : (text : List ℕ) (n : ℕ) → drop (suc (suc n)) text ≡ take (length text - (n + 2)) (drop (n + 2) text)
after_two text n =
    let two : n + 2 ≡ suc (suc n) = omega arith in
    ap (λ k. drop k text) (sym two) ∙ sym (take_rest text (n + 2))

-- what a search for CR LF says
pub crlf_found : (text : List ℕ) (n : ℕ) → FindsNeedle text (13 ∷ 10 ∷ []) 0 (Some n) → logical_lines Crlf text ≡ take n text ∷ logical_lines Crlf (take (length text - (n + 2)) (drop (n + 2) text))
crlf_found text n h =
    ap (logical_lines Crlf) (pair_parted 13 10 n text (to_pair 13 10 text n h.1))
    ∙ (crlf_apart (take n text) (drop (suc (suc n)) text) (lacks_pair 13 10 n text (λ k l p. h.0.before k (omega arith) l (from_pair 13 10 text k p)))
    ∙ ap (λ xs. take n text ∷ logical_lines Crlf xs) (after_two text n))

pub crlf_unfound : (text : List ℕ) → FindsNeedle text (13 ∷ 10 ∷ []) 0 None → logical_lines Crlf text ≡ text ∷ []
crlf_unfound text h = crlf_whole text (pair_unfound 13 10 text h)

-- a line and its ending before the rest, with something put between lines
pub joined_next : (f : List ℕ → List ℕ) (sep : List ℕ) (lines : List (List ℕ)) → lines ≢ [] → flat_map (λ y. sep ++ f y) lines ≡ sep ++ join_by f sep lines
joined_next f sep [] h = absurd (h refl)
joined_next f sep (x ∷ xs) h = append_assoc sep (f x) (flat_map (λ y. sep ++ f y) xs)
