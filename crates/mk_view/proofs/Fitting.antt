-- Characters put after a text, as long as there is room for them.
use Rattle.std.proofs.Common.{◌≡◌, ◌<◌, ◌≤◌, ◌+◌, ◌-◌, ℕ, true, false, List, [], ◌∷◌, ◌++◌, refl, ap, sym, ◌∙◌, map, drop, length, get_or, append_assoc}
use Rattle.std.specs.Prelude.{nat_le, encode_utf8, encode_utf8_all}
use Rattle.std.specs.Char.{len_utf8}
use Rattle.std.proofs.lemmas.Bool.{le-leb, lt-leb}
use Rattle.std.proofs.lemmas.List.{append-nil}
use Rattle.mk_param.proofs.Kept.{items_at}
use Rattle.mk_view.specs.TextNames.{fitting, plain_character}

-- what is still to come from a place on
abbrev rest_at : ℕ → List ℕ → ℕ → List ℕ
rest_at room cs i = encode_utf8_all (fitting room (map plain_character (drop i cs)))

rest_from : (room i : ℕ) (cs : List ℕ) (c : ℕ) → i < length cs → c ≡ get_or cs i c → rest_at room cs i ≡ encode_utf8_all (fitting room (plain_character c ∷ map plain_character (drop (i + 1) cs)))
rest_from room i cs c l e = ap (λ xs. encode_utf8_all (fitting room (map plain_character xs))) (items_at cs i c l e)

pub room_ends : (front all cs : List ℕ) (room i c kept size : ℕ) → i < length cs → c ≡ get_or cs i c → kept ≡ plain_character c → size ≡ len_utf8 kept → room < size → front ++ rest_at room cs i ≡ all → front ≡ all
room_ends front all cs room i c kept size l e k s full h =
    let fails : nat_le (len_utf8 (plain_character c)) room ≡ false = ap (λ x. nat_le x room) (sym (s ∙ ap len_utf8 k)) ∙ lt-leb size room full in
    let none : rest_at room cs i ≡ [] = rest_from room i cs c l e ∙ rw fails refl in
    sym (append-nil front) ∙ (ap (λ xs. front ++ xs) (sym none) ∙ h)

pub room_stays : (front new all cs : List ℕ) (room i c kept size : ℕ) → i < length cs → c ≡ get_or cs i c → kept ≡ plain_character c → size ≡ len_utf8 kept → size ≤ room → new ≡ front ++ encode_utf8 kept → front ++ rest_at room cs i ≡ all
    → new ++ rest_at (room - size) cs (i + 1) ≡ all
room_stays front new all cs room i c kept size l e k s fits pushed h =
    let same : size ≡ len_utf8 (plain_character c) = s ∙ ap len_utf8 k in
    let holds : nat_le (len_utf8 (plain_character c)) room ≡ true = ap (λ x. nat_le x room) (sym same) ∙ le-leb size room fits in
    let more : rest_at room cs i ≡ encode_utf8 (plain_character c) ++ rest_at (room - len_utf8 (plain_character c)) cs (i + 1) = rest_from room i cs c l e ∙ rw holds refl in
    ap (λ xs. xs ++ rest_at (room - size) cs (i + 1)) (pushed ∙ ap (λ x. front ++ encode_utf8 x) k)
    ∙ (append_assoc front (encode_utf8 (plain_character c)) (rest_at (room - size) cs (i + 1))
    ∙ (ap (λ n. front ++ (encode_utf8 (plain_character c) ++ rest_at (room - n) cs (i + 1))) same
    ∙ (ap (λ xs. front ++ xs) (sym more) ∙ h)))
