-- Pieces of lists of addresses, byte by byte.
use Rattle.std.proofs.Common.{◌≡◌, ◌∙◌, ◌++◌, ◌∷◌, ◌&&◌, ◌||◌, ◌==◌, if◌then◌else◌, [], ℕ, Bool, true, false, not, List, map, refl, sym, ap, append_assoc}
use Rattle.mk_line.specs.Ascii.{line_feed}
use Rattle.mk_line.specs.Lines.{is_nil}
use Rattle.mk_head.specs.Values.{Scan, is_plain}
use Rattle.mk_wording.specs.AddressLists.{ListPiece, Sign, are_joined, at_sign, has_at_sign, in_literal, is_gap, is_joint, is_list_mark, last_sign, list_pieces, may_be_address, lines_of_pieces, push_sign, scan_beyond}
use Rattle.mk_wording.specs.inner.ReaderViews.{Begun, begun_after, begun_line, begun_lines, completes, with_sign}

and_assoc : (a b c : Bool) → (a && b) && c ≡ a && (b && c)
and_assoc true b c = refl
and_assoc false b c = refl

or_assoc : (a b c : Bool) → (a || b) || c ≡ a || (b || c)
or_assoc true b c = refl
or_assoc false b c = refl

not_nil : (xs : List ℕ) (x : ℕ) → not (is_nil (xs ++ x ∷ [])) ≡ true
not_nil [] x = refl
not_nil (y ∷ ys) x = refl

-- what was read and a byte before the rest of a piece
completed : (b : Begun) (sign : Sign) (signs : List Sign) → completes b (sign ∷ signs) ≡ completes (with_sign b sign) signs
completed b sign signs =
    let joined = and_assoc b.joined (not sign.apart || (is_joint b.last || is_joint sign.byte)) (are_joined sign.byte signs) in
    let begun = not_nil b.text sign.byte in
    let at = or_assoc b.at_sign (not (is_nil b.text) && (sign.plain && sign.byte == at_sign)) (has_at_sign true signs) in
    let at_is = ap (λ n. (b.at_sign || (not (is_nil b.text) && (sign.plain && sign.byte == at_sign))) || has_at_sign n signs) begun ∙ at in
    ap (λ j. j && ((b.at_sign || ((not (is_nil b.text) && (sign.plain && sign.byte == at_sign)) || has_at_sign true signs)) && not (last_sign sign.byte signs == at_sign))) (sym joined)
    ∙ ap (λ a. ((b.joined && (not sign.apart || (is_joint b.last || is_joint sign.byte))) && are_joined sign.byte signs) && (a && not (last_sign sign.byte signs == at_sign))) (sym at_is)

-- a byte before the pieces that follow
pub begun_push : (b : Begun) (sign : Sign) (ps : List ListPiece) → begun_lines b (push_sign sign ps) ≡ begun_lines (with_sign b sign) ps
begun_push b sign [] = refl
begun_push b sign (p ∷ ps) =
    ap (λ c. (if may_be_address b.before p.end && c then (b.text ++ sign.byte ∷ map (λ s. s.byte) p.signs) ++ line_feed ∷ [] else []) ++ lines_of_pieces p.end ps) (completed b sign p.signs)
    ∙ ap (λ t. (if may_be_address b.before p.end && completes (with_sign b sign) p.signs then t ++ line_feed ∷ [] else []) ++ lines_of_pieces p.end ps) (sym (append_assoc b.text (sign.byte ∷ []) (map (λ s. s.byte) p.signs)))

-- the pieces after a mark
begun_anew : (mark : ℕ) (ps : List ListPiece) → begun_lines (begun_after mark) ps ≡ lines_of_pieces mark ps
begun_anew mark [] = refl
begun_anew mark (p ∷ ps) = refl

-- a mark before them
pub begun_mark : (b : Begun) (mark : ℕ) (ps : List ListPiece)
    → begun_lines b (record { signs = []; end = mark } ∷ ps) ≡ begun_line b (record { signs = []; end = mark }) ++ begun_lines (begun_after mark) ps
begun_mark b mark ps = ap (λ lines. begun_line b (record { signs = []; end = mark }) ++ lines) (sym (begun_anew mark ps))

-- a byte of a comment or of white space
pub read_gap : (b b' : Begun) (apart apart' literal literal' : Bool) (s s' : Scan) (byte : ℕ) (bytes : List ℕ)
    → false ≡ is_list_mark literal s byte → true ≡ is_gap literal s byte
    → b' ≡ b → apart' ≡ true → literal' ≡ in_literal literal s byte → s' ≡ scan_beyond literal s byte
    → begun_lines b' (list_pieces apart' literal' s' bytes) ≡ begun_lines b (list_pieces apart literal s (byte ∷ bytes))
read_gap b b' apart apart' literal literal' s s' byte bytes mark gap begun_is apart_is literal_is s_is =
    rw begun_is (rw apart_is (rw literal_is (rw s_is (rw (sym mark) (rw (sym gap) refl)))))

-- another byte that is no mark
pub read_sign : (b b' : Begun) (apart apart' literal literal' : Bool) (s s' : Scan) (byte : ℕ) (bytes : List ℕ)
    → false ≡ is_list_mark literal s byte → false ≡ is_gap literal s byte
    → b' ≡ with_sign b (record { byte = byte; apart = apart; plain = not literal && is_plain s }) → apart' ≡ false → literal' ≡ in_literal literal s byte → s' ≡ scan_beyond literal s byte
    → begun_lines b' (list_pieces apart' literal' s' bytes) ≡ begun_lines b (list_pieces apart literal s (byte ∷ bytes))
read_sign b b' apart apart' literal literal' s s' byte bytes mark gap begun_is apart_is literal_is s_is =
    rw begun_is (rw apart_is (rw literal_is (rw s_is (rw (sym mark) (rw (sym gap)
    (sym (begun_push b (record { byte = byte; apart = apart; plain = not literal && is_plain s }) (list_pieces false (in_literal literal s byte) (scan_beyond literal s byte) bytes))))))))
