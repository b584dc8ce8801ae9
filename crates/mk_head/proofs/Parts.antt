-- Pieces of values, and what stands before and after a byte.
use Rattle.std.proofs.Common.{◌≡◌, ◌==◌, ◌&&◌, ◌+◌, ◌-◌, ℕ, suc, zero, false, Option, None, Some, Result, List, [], ◌∷◌, ◌++◌, refl, ap, sym, ◌∙◌, inl, inr, length, take, drop, slice_index, arith, append_assoc}
use Rattle.std.proofs.lemmas.Bool.{cases_Bool}
use Rattle.std.proofs.lemmas.Bool.Decides.{eqb_tells}
use Rattle.std.proofs.lemmas.List.{take_rest}
use Rattle.std.specs.List.{prefix_len, onto_first}
use Rattle.std.specs.Option.{option_map}
use Rattle.std.specs.Result.{IfOk}
use Rattle.std.proofs.lemmas.Result.{IfOk-weaker}
use Rattle.std.specs.Global.{Vec}
use Rattle.mk_line.specs.Ascii.{is_blank, semicolon, slash, equals_sign}
use Rattle.mk_line.specs.Lines.{TextLine, text_line, is_nil, cut, onto_first as line_onto, with_byte}
use Rattle.mk_line.specs.declared.cutting.Ending.{Ending}
use Rattle.mk_line.specs.declared.cutting.Ending.TheVariants.{Crlf, Lf, Missing}
use Rattle.mk_line.proofs.Cuts.{cut_other}
use Rattle.mk_line.specs.Marks.{trimmed}
use Rattle.mk_line.specs.Parting.{before, following, following as stands_after}
use Rattle.mk_head.specs.Values.{Scan, Plain, scan, is_plain, is_token, lowered, media_type, pieces, unled, stripped, parameters, parameter_before, typed_as, type_of_pieces}
use Rattle.mk_head.specs.Depths.{first_piece, other_pieces, pieces_after}
use Rattle.mk_head.specs.Unfolding.{contents, value_in}
use Rattle.std.specs.Prelude.{unwrap_or}
use Rattle.mk_head.specs.Boundaries.{ends_in_space}

-- the pieces are the first and the others
pub pieces_parts : (s : Scan) (bytes : List ℕ) → pieces s bytes ≡ first_piece s bytes ∷ other_pieces s bytes
pieces_parts s [] = refl
pieces_parts s (b ∷ bytes) =
    elim (cases_Bool (is_plain s && b == semicolon)) [
      | inl h ↦ rw h refl
      | inr h ↦ rw h (ap (onto_first b) (pieces_parts (scan s b) bytes))
    ]

one_more : (n : ℕ) → 1 + n ≡ suc n
one_more n = omega arith

-- without the blanks at the start
pub unled_at : (text : List ℕ) → unled text ≡ drop (prefix_len is_blank text) text
unled_at [] = refl
unled_at (b ∷ text) =
    elim (cases_Bool (is_blank b)) [
      | inl h ↦ rw (h, one_more (prefix_len is_blank text)) (unled_at text)
      | inr h ↦ rw h refl
    ]

pub stripped_at : (text : List ℕ) (n : ℕ) → n ≡ prefix_len is_blank text → trimmed (take (length text - n) (drop n text)) ≡ stripped text
stripped_at text n e = ap trimmed (take_rest text n ∙ (ap (λ k. drop k text) e ∙ sym (unled_at text)))

-- the last byte tells whether a text ends in a space
last_at : (b : ℕ) (bytes : List ℕ) (n : ℕ) → length bytes ≡ n → (slice_index (b ∷ bytes) n == 32) ≡ ends_in_space (b ∷ bytes)
last_at b [] zero e = refl
last_at b [] (suc n) e = absurd (omega (arith, e))
last_at b (c ∷ bytes) zero e = absurd (omega (arith, e))
last_at b (c ∷ bytes) (suc n) e = last_at c bytes n (omega (arith, e))

pub last_space : (bytes : List ℕ) → (slice_index bytes (length bytes - 1) == 32) ≡ ends_in_space bytes
last_space [] = refl
last_space (b ∷ bytes) = last_at b bytes (length (b ∷ bytes) - 1) (omega arith)

-- after the colon of a field's lines
with_contents : (b : ℕ) (content : List ℕ) (e : Ending) (ls : List TextLine) → (b == 58) ≡ false → following 58 (contents (with_byte b (text_line content e) ∷ ls)) ≡ following 58 (contents (text_line content e ∷ ls))
with_contents b content Crlf ls h = rw h refl
with_contents b [] Lf ls h =
    elim (cases_Bool (b == 13)) [
      | inl r ↦ rw r refl
      | inr r ↦ rw r (rw h refl)
    ]
with_contents b (c ∷ content) Lf ls h = rw h refl
with_contents b content Missing ls h = rw h refl

onto_contents : (b : ℕ) (ls : List TextLine) → (b == 58) ≡ false → following 58 (contents (line_onto b ls)) ≡ following 58 (contents ls)
onto_contents b [] h = rw h refl
onto_contents b (l ∷ ls) h = with_contents b l.content l.ending ls h

colon_line : (content : List ℕ) (e : Ending) (ls : List TextLine) → following 58 (contents (with_byte 58 (text_line content e) ∷ ls)) ≡ Some (contents (text_line content e ∷ ls))
colon_line content Crlf ls = refl
colon_line [] Lf ls = refl
colon_line (c ∷ content) Lf ls = refl
colon_line content Missing ls = refl

colon_contents : (ls : List TextLine) → following 58 (contents (line_onto 58 ls)) ≡ Some (contents ls)
colon_contents [] = refl
colon_contents (l ∷ ls) = colon_line l.content l.ending ls

pub after_contents : (text : List ℕ) → following 58 (contents (cut text)) ≡ option_map (λ rest. contents (cut rest)) (following 58 text)
after_contents [] = refl
after_contents (b ∷ text) =
    elim (eqb_tells b 58) [
      | inl h ↦ rw h.1 (colon_contents (cut text))
      | inr h ↦
          elim (cases_Bool (b == 10)) [
            | inl f ↦ rw (f, h.0) (after_contents text)
            | inr f ↦ rw (cut_other b text f, h.0) (onto_contents b (cut text) h.0 ∙ after_contents text)
          ]
    ]

pub value_some : (raw rest : List ℕ) → following 58 raw ≡ Some rest → contents (cut rest) ≡ value_in (cut raw)
value_some raw rest e = sym (ap (λ o. unwrap_or o []) (after_contents raw ∙ ap (option_map (λ r. contents (cut r))) e))

pub unfolded_none : (raw : List ℕ) → following 58 raw ≡ None → [] ≡ value_in (cut raw)
unfolded_none raw e = sym (ap (λ o. unwrap_or o []) (after_contents raw ∙ ap (option_map (λ r. contents (cut r))) e))

pub unfolded_some : {V : Type 0} (raw rest : List ℕ) (r : Result (Vec ℕ) V) → following 58 raw ≡ Some rest → IfOk r (λ v. v.items ≡ contents (cut rest)) → IfOk r (λ v. v.items ≡ value_in (cut raw))
unfolded_some raw rest r e h = IfOk-weaker r (λ v. v.items ≡ contents (cut rest)) (λ v. v.items ≡ value_in (cut raw)) (λ v p. p ∙ value_some raw rest e) h

-- a list with no element, and one with some
pub some_token : (text : List ℕ) → (length text == 0) ≡ false → is_nil text ≡ false
some_token [] h = cc
some_token (b ∷ text) h = refl

-- the pieces after a semicolon
pub after_parts : (rest following others : List ℕ) (end : ℕ) (b : ℕ) → rest ≡ b ∷ following → other_pieces Plain following ≡ pieces_after (drop end following) → others ≡ drop end following → pieces_after rest ≡ first_piece Plain following ∷ pieces_after others
after_parts rest following others end b e o q = ap pieces_after e ∙ (pieces_parts Plain following ∙ ap (λ ps. first_piece Plain following ∷ ps) (o ∙ ap pieces_after (sym q)))

parameter_append : (name : List ℕ) (value : Option (List ℕ)) (others : List (List ℕ × List ℕ)) → parameter_before name value others ≡ parameter_before name value [] ++ others
parameter_append name None others = refl
parameter_append name (Some value) others = refl

-- one parameter more
pub parameters_next : (params more all : List (List ℕ × List ℕ)) (rest following others piece : List ℕ) (end b : ℕ) → rest ≡ b ∷ following → other_pieces Plain following ≡ pieces_after (drop end following) → others ≡ drop end following
    → first_piece Plain following ≡ take end following → piece ≡ take end following → more ≡ params ++ parameter_before (before equals_sign piece) (stands_after equals_sign piece) []
    → params ++ parameters (pieces_after rest) ≡ all → more ++ parameters (pieces_after others) ≡ all
parameters_next params more all rest following others piece end b e o q f p m t =
    let named : piece ≡ first_piece Plain following = p ∙ sym f in
    ap (λ xs. xs ++ parameters (pieces_after others)) m
    ∙ (append_assoc params (parameter_before (before equals_sign piece) (stands_after equals_sign piece) []) (parameters (pieces_after others))
    ∙ (ap (λ xs. params ++ xs) (sym (parameter_append (before equals_sign piece) (stands_after equals_sign piece) (parameters (pieces_after others))))
    ∙ (ap (λ x. params ++ parameter_before (before equals_sign x) (stands_after equals_sign x) (parameters (pieces_after others))) named
    ∙ (ap (λ ps. params ++ parameters ps) (sym (after_parts rest following others end b e o q)) ∙ t))))

-- the content type of its pieces
pub typed_parts : (text first others : List ℕ) (end : ℕ) → first_piece Plain text ≡ take end text → other_pieces Plain text ≡ pieces_after (drop end text) → first ≡ take end text → others ≡ drop end text
    → typed_as (before slash (stripped first)) (stands_after slash (stripped first)) (parameters (pieces_after others)) ≡ type_of_pieces (pieces Plain text)
typed_parts text first others end f o p q =
    let named : first ≡ first_piece Plain text = p ∙ sym f in
    ap (λ x. typed_as (before slash (stripped x)) (stands_after slash (stripped x)) (parameters (pieces_after others))) named
    ∙ (ap (λ ps. typed_as (before slash (stripped (first_piece Plain text))) (stands_after slash (stripped (first_piece Plain text))) (parameters ps)) (ap pieces_after q ∙ sym o)
    ∙ ap type_of_pieces (sym (pieces_parts Plain text)))

-- the type and the subtype are the same whatever the parameters are
typed_names : (main : List ℕ) (sub : Option (List ℕ)) (params : List (List ℕ × List ℕ)) → ((typed_as main sub params).main ≡ (typed_as main sub []).main) × ((typed_as main sub params).sub ≡ (typed_as main sub []).sub)
typed_names main None params = (refl, refl)
typed_names main (Some sub) params =
    elim (cases_Bool (is_token main && is_token sub)) [
      | inl h ↦ (rw h refl, rw h refl)
      | inr h ↦ (rw h refl, rw h refl)
    ]

-- they are read from the first piece alone
names_first : (value first main sub : List ℕ) (end : ℕ) → first ≡ take end value → first_piece Plain value ≡ take end value → media_type (lowered main) (lowered sub) [] ≡ typed_as (before slash (stripped first)) (stands_after slash (stripped first)) []
    → ((type_of_pieces (pieces Plain value)).main ≡ lowered main) × ((type_of_pieces (pieces Plain value)).sub ≡ lowered sub)
names_first value first main sub end p f n =
    let named : first ≡ first_piece Plain value = p ∙ sym f in
    let parts = ap type_of_pieces (pieces_parts Plain value) in
    let said = typed_names (before slash (stripped (first_piece Plain value))) (stands_after slash (stripped (first_piece Plain value))) (parameters (other_pieces Plain value)) in
    let same : typed_as (before slash (stripped (first_piece Plain value))) (stands_after slash (stripped (first_piece Plain value))) [] ≡ media_type (lowered main) (lowered sub) [] =
    ap (λ x. typed_as (before slash (stripped x)) (stands_after slash (stripped x)) []) (sym named) ∙ sym n in
    (ap (λ t. t.main) parts ∙ (said.0 ∙ ap (λ t. t.main) same), ap (λ t. t.sub) parts ∙ (said.1 ∙ ap (λ t. t.sub) same))

-- a type and a subtype after others, with a slash between them
pub type_appended : (value first main sub old new : List ℕ) (end : ℕ) → first ≡ take end value → first_piece Plain value ≡ take end value → media_type (lowered main) (lowered sub) [] ≡ typed_as (before slash (stripped first)) (stands_after slash (stripped first)) []
    → new ≡ old ++ (lowered main ++ slash ∷ lowered sub) → new ≡ old ++ ((type_of_pieces (pieces Plain value)).main ++ slash ∷ (type_of_pieces (pieces Plain value)).sub)
type_appended value first main sub old new end p f n a =
    let are = names_first value first main sub end p f n in
    a ∙ (ap (λ xs. old ++ (xs ++ slash ∷ lowered sub)) (sym are.0) ∙ ap (λ xs. old ++ ((type_of_pieces (pieces Plain value)).main ++ slash ∷ xs)) (sym are.1))
