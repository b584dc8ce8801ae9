-- Plain addresses in lists.
use Rattle.std.proofs.Common.{◌≡◌, ◌∙◌, ◌++◌, ◌∷◌, ◌&&◌, ◌||◌, ◌==◌, [], ℕ, Bool, true, false, not, List, map, codes, refl, ap, append_assoc}
use Rattle.std.specs.List.{AllByRecursion, flat_map, list_all}
use Rattle.mk_line.specs.Ascii.{line_feed, opening, quote}
use Rattle.mk_line.specs.Lines.{is_nil}
use Rattle.mk_head.specs.Values.{Plain}
use Rattle.mk_mail.specs.Prepended.{is_white}
use Rattle.mk_wording.specs.Scanned.{is_one_of}
use Rattle.mk_wording.specs.AddressLaws.{IsPlainAddress, PlainAddressesAreLines, needs_no_quotes}
use Rattle.mk_wording.specs.AddressLists.{ListPiece, Sign, are_joined, at_sign, comma, has_at_sign, last_sign, list_pieces, opening_bracket, piece_line, lines_of_pieces, push_sign}

and_left : (a b : Bool) → (a && b) ≡ true → a ≡ true
and_left true b e = refl
and_left false b e = cc

and_right : (a b : Bool) → (a && b) ≡ true → b ≡ true
and_right true b e = e
and_right false b e = cc

not_so : (a : Bool) → not a ≡ true → a ≡ false
not_so true e = cc
not_so false e = refl

or_left : (a b : Bool) → (a || b) ≡ false → a ≡ false
or_left true b e = cc
or_left false b e = refl

or_right : (a b : Bool) → (a || b) ≡ false → b ≡ false
or_right true b e = cc
or_right false b e = e

or_true : (a : Bool) → (a || true) ≡ true
or_true true = refl
or_true false = refl

abbrev plain_sign : ℕ → Sign
plain_sign byte = record { byte = byte; apart = false; plain = true }

-- a bare byte is read into an address
bare_step : (b : ℕ) (bytes : List ℕ) → needs_no_quotes b ≡ true → list_pieces false false Plain (b ∷ bytes) ≡ push_sign (plain_sign b) (list_pieces false false Plain bytes)
bare_step b bytes bare =
    let white = not_so (is_white b) (and_left (not (is_white b)) _ bare) in
    let others = and_right (not (is_white b)) (not (is_one_of (codes "<>,;:") b) && not (b == quote || (b == opening || b == opening_bracket))) bare in
    let mark = not_so (is_one_of (codes "<>,;:") b) (and_left (not (is_one_of (codes "<>,;:") b)) _ others) in
    let begins = not_so (b == quote || (b == opening || b == opening_bracket)) (and_right (not (is_one_of (codes "<>,;:") b)) (not (b == quote || (b == opening || b == opening_bracket))) others) in
    let quotes = or_left (b == quote) (b == opening || b == opening_bracket) begins in
    let more = or_right (b == quote) (b == opening || b == opening_bracket) begins in
    let comment = or_left (b == opening) (b == opening_bracket) more in
    let literal = or_right (b == opening) (b == opening_bracket) more in
    rw mark (rw comment (rw white (rw literal (rw quotes refl))))

-- what bare bytes before pieces are
abbrev before_pieces : List ℕ → List ListPiece → List ListPiece
before_pieces [] ps = ps
before_pieces (b ∷ bs) ps = push_sign (plain_sign b) (before_pieces bs ps)

bare_pieces : (bs rest : List ℕ) → list_all needs_no_quotes bs ≡ true → list_pieces false false Plain (bs ++ rest) ≡ before_pieces bs (list_pieces false false Plain rest)
bare_pieces [] rest bare = refl
bare_pieces (b ∷ bs) rest bare =
    bare_step b (bs ++ rest) (and_left (needs_no_quotes b) (list_all needs_no_quotes bs) bare)
    ∙ ap (push_sign (plain_sign b)) (bare_pieces bs rest (and_right (needs_no_quotes b) (list_all needs_no_quotes bs) bare))

before_first : (bs : List ℕ) (end : ℕ) (ps : List ListPiece) → before_pieces bs (record { signs = []; end = end } ∷ ps) ≡ record { signs = map plain_sign bs; end = end } ∷ ps
before_first [] end ps = refl
before_first (b ∷ bs) end ps = ap (push_sign (plain_sign b)) (before_first bs end ps)

joined : (last : ℕ) (bs : List ℕ) → are_joined last (map plain_sign bs) ≡ true
joined last [] = refl
joined last (b ∷ bs) = joined b bs

at_after : (xs ys : List ℕ) → has_at_sign true (map plain_sign (xs ++ at_sign ∷ ys)) ≡ true
at_after [] ys = refl
at_after (x ∷ xs) ys = ap (λ h. (x == at_sign) || h) (at_after xs ys) ∙ or_true (x == at_sign)

has_one : (xs ys : List ℕ) → is_nil xs ≡ false → has_at_sign false (map plain_sign (xs ++ at_sign ∷ ys)) ≡ true
has_one [] ys e = cc
has_one (x ∷ xs) ys e = at_after xs ys

last_not : (last : ℕ) (ys : List ℕ) → (last == at_sign) ≡ false → list_all (λ byte. not (byte == at_sign)) ys ≡ true → (last_sign last (map plain_sign ys) == at_sign) ≡ false
last_not last [] e h = e
last_not last (y ∷ ys) e h =
    last_not y ys (not_so (y == at_sign) (and_left (not (y == at_sign)) (list_all (λ byte. not (byte == at_sign)) ys) h)) (and_right (not (y == at_sign)) (list_all (λ byte. not (byte == at_sign)) ys) h)

last_ends : (last : ℕ) (ys : List ℕ) → is_nil ys ≡ false → list_all (λ byte. not (byte == at_sign)) ys ≡ true → (last_sign last (map plain_sign ys) == at_sign) ≡ false
last_ends last [] e h = cc
last_ends last (y ∷ ys) e h =
    last_not y ys (not_so (y == at_sign) (and_left (not (y == at_sign)) (list_all (λ byte. not (byte == at_sign)) ys) h)) (and_right (not (y == at_sign)) (list_all (λ byte. not (byte == at_sign)) ys) h)

last_past : (last : ℕ) (xs ys : List ℕ) → last_sign last (map plain_sign (xs ++ at_sign ∷ ys)) ≡ last_sign at_sign (map plain_sign ys)
last_past last [] ys = refl
last_past last (x ∷ xs) ys = last_past x xs ys

spelled : (bs : List ℕ) → map (λ sign. sign.byte) (map plain_sign bs) ≡ bs
spelled [] = refl
spelled (b ∷ bs) = ap (λ xs. b ∷ xs) (spelled bs)

-- the line of a plain address
line_of : (a : List ℕ) → IsPlainAddress a → piece_line comma (record { signs = map plain_sign a; end = comma }) ≡ a ++ line_feed ∷ []
line_of a p =
    let there = ap (λ x. has_at_sign false (map plain_sign x)) p.is ∙ has_one p.local p.domain p.begins in
    let last = ap (λ x. last_sign 46 (map plain_sign x) == at_sign) p.is ∙ (ap (λ l. l == at_sign) (last_past 46 p.local p.domain) ∙ last_ends at_sign p.domain p.ends p.once) in
    rw (joined 46 a) (rw there (rw last (rw (spelled a) refl)))

lines_of : (addresses : List (List ℕ)) → AllByRecursion IsPlainAddress addresses → lines_of_pieces comma (list_pieces false false Plain (flat_map (λ a. a ++ comma ∷ []) addresses)) ≡ flat_map (λ a. a ++ line_feed ∷ []) addresses
lines_of [] all = refl
lines_of (a ∷ others) all =
    let rest = flat_map (λ a. a ++ comma ∷ []) others in
    ap (λ v. lines_of_pieces comma (list_pieces false false Plain v)) (append_assoc a (comma ∷ []) rest)
    ∙ (ap (lines_of_pieces comma) (bare_pieces a (comma ∷ rest) all.0.bare ∙ before_first a comma (list_pieces false false Plain rest))
    ∙ (ap (λ l. l ++ lines_of_pieces comma (list_pieces false false Plain rest)) (line_of a all.0)
    ∙ ap (λ l. (a ++ line_feed ∷ []) ++ l) (lines_of others all.1)))

pub plain_addresses_are_lines : PlainAddressesAreLines
plain_addresses_are_lines = lines_of
