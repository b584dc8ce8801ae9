-- What a line's front tells of marks.
use Rattle.std.proofs.Common.{◌≡◌, ◌<◌, ◌+◌, ◌||◌, ◌++◌, if◌then◌else◌, ℕ, Bool, true, false, List, [], ◌∷◌, refl, ap, sym, ◌∙◌, nat_eq, drop, get_or, length}
use Rattle.std.specs.List.{starts_with}
use Rattle.std.specs.Str.{bytes_eq}
use Rattle.std.specs.Borrow.{Bor}
use Rattle.std.proofs.lemmas.List.{drop_more}
use Rattle.mk_tree.specs.Steps.{boundaries_of}
use Rattle.std.proofs.lemmas.Slice.Eq.{bytes_eq-Decides}
use Rattle.mk_line.specs.Ascii.{is_blank}
use Rattle.mk_line.specs.declared.marks.Mark.TheVariants.{No}
use Rattle.mk_line.specs.Lines.{TextLine}
use Rattle.mk_line.specs.Marks.{mark, trimmed, trimmed_before}
use Rattle.mk_head.proofs.Bytes.{trimmed_twice}
use Rattle.mk_tree.specs.Upto.{is_mark, is_marked}

abbrev pub dashes : List ℕ
dashes = 45 ∷ 45 ∷ []

-- blanks at the end change nothing
pub mark_trimmed : (b content : List ℕ) → mark b (trimmed content) ≡ mark b content
mark_trimmed b content = rw (trimmed_twice content) refl

first_kept : (t : Bool) (x : ℕ) (ts : List ℕ) (w : ℕ) (ws : List ℕ) → is_blank x ≡ t → trimmed_before x ts ≡ w ∷ ws → x ≡ w
first_kept t x (u ∷ us) w ws e h = cc
first_kept true x [] w ws e h = let none : (if is_blank x then [] else x ∷ []) ≡ [] = rw e refl in cc
first_kept false x [] w ws e h = let one : (if is_blank x then [] else x ∷ []) ≡ x ∷ [] = rw e refl in cc

-- what begins with two hyphens without the blanks at its end begins so
second_kept : (t : Bool) (x : ℕ) (xs ts ys : List ℕ) → is_blank x ≡ t → trimmed xs ≡ ts → trimmed_before x ts ≡ 45 ∷ 45 ∷ ys → starts_with nat_eq (x ∷ xs) dashes ≡ true
second_kept true x xs [] ys e f h = let none : (if is_blank x then [] else x ∷ []) ≡ [] = rw e refl in cc
second_kept false x xs [] ys e f h = let one : (if is_blank x then [] else x ∷ []) ≡ x ∷ [] = rw e refl in cc
second_kept t x [] (u ∷ us) ys e f h = cc
second_kept t x (z ∷ zs) (u ∷ us) ys e f h =
    let a : x ≡ 45 = cc in
    let b : u ≡ 45 = cc in
    let c : z ≡ u = first_kept (is_blank z) z (trimmed zs) u us refl f in
    rw (a, c, b) refl

front_kept : (xs ys : List ℕ) → trimmed xs ≡ 45 ∷ 45 ∷ ys → starts_with nat_eq xs dashes ≡ true
front_kept [] ys h = cc
front_kept (x ∷ xs) ys h = second_kept (is_blank x) x xs (trimmed xs) ys refl refl h

other : (xs ys : List ℕ) (t : Bool) → starts_with nat_eq xs dashes ≡ false → bytes_eq (trimmed xs) (45 ∷ 45 ∷ ys) ≡ t → t ≡ false
other xs ys false h e = refl
other xs ys true h e = let f = front_kept xs ys ((bytes_eq-Decides (trimmed xs) (45 ∷ 45 ∷ ys)).0 e) in cc

undashed : (b content : List ℕ) → starts_with nat_eq content dashes ≡ false → mark b content ≡ No
undashed b content h =
    rw (other content b (bytes_eq (trimmed content) (45 ∷ 45 ∷ b)) h refl, other content (b ++ 45 ∷ 45 ∷ []) (bytes_eq (trimmed content) (45 ∷ 45 ∷ b ++ 45 ∷ 45 ∷ [])) h refl) refl

pub unmarked : (bs : List (List ℕ)) (l : TextLine) → starts_with nat_eq l.content dashes ≡ false → is_marked bs l ≡ false
unmarked [] l h = refl
unmarked (b ∷ bs) l h = rw (undashed b l.content h, unmarked bs l h) refl

-- a step of a look at the boundaries one by one
pub marked_here : (bs : List (Bor (List ℕ))) (i : ℕ) (d : Bor (List ℕ)) (l : TextLine) (content : List ℕ) (t : Bool) → content ≡ trimmed l.content → i < length bs → t ≡ is_mark (mark (get_or bs i d).now content) → t ≡ true → is_marked (boundaries_of (drop i bs)) l ≡ is_marked (boundaries_of bs) l → true ≡ is_marked (boundaries_of bs) l
marked_here bs i d l content t q k m h e =
    let here : is_mark (mark (get_or bs i d).now l.content) ≡ true = ap is_mark (sym (mark_trimmed (get_or bs i d).now l.content)) ∙ (ap (λ xs. is_mark (mark (get_or bs i d).now xs)) (sym q) ∙ (sym m ∙ h)) in
    sym (ap (λ x. x || is_marked (boundaries_of (drop (i + 1) bs)) l) here) ∙ (sym (ap (λ xs. is_marked (boundaries_of xs) l) (drop_more bs i d k)) ∙ e)

pub unmarked_here : (bs : List (Bor (List ℕ))) (i : ℕ) (d : Bor (List ℕ)) (l : TextLine) (content : List ℕ) (t : Bool) → content ≡ trimmed l.content → i < length bs → t ≡ is_mark (mark (get_or bs i d).now content) → t ≡ false → is_marked (boundaries_of (drop i bs)) l ≡ is_marked (boundaries_of bs) l → is_marked (boundaries_of (drop (i + 1) bs)) l ≡ is_marked (boundaries_of bs) l
unmarked_here bs i d l content t q k m h e =
    let here : is_mark (mark (get_or bs i d).now l.content) ≡ false = ap is_mark (sym (mark_trimmed (get_or bs i d).now l.content)) ∙ (ap (λ xs. is_mark (mark (get_or bs i d).now xs)) (sym q) ∙ (sym m ∙ h)) in
    sym (ap (λ x. x || is_marked (boundaries_of (drop (i + 1) bs)) l) here) ∙ (sym (ap (λ xs. is_marked (boundaries_of xs) l) (drop_more bs i d k)) ∙ e)
