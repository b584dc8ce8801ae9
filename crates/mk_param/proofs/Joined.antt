-- Segments, found and read one after another.
use Rattle.std.proofs.Common.{◌≡◌, ◌<◌, ◌+◌, ◌-◌, ℕ, suc, List, [], ◌∷◌, ◌++◌, refl, ap, sym, ◌∙◌, arith, zero, map, length, drop, get_or, drop-cons, None, Some, append_assoc, add-one}
use Rattle.std.proofs.lemmas.List.{append-nil, map-append}
use Rattle.std.specs.Prelude.{Option, option_and_then}
use Rattle.std.specs.Option.{option_map, option_map_or}
use Rattle.mk_param.specs.declared.segments.Segment.{Segment as SegmentIn}
use Rattle.mk_param.specs.Extended.{joined, segment_bytes}
use Rattle.mk_param.specs.Said.{text_by_lookup}
use Rattle.mk_param.specs.Segments.{Segment, encoded_name, segment_at, segment_name, segments_from}
use Rattle.mk_param.specs.SegmentViews.{segment_of}

-- a step up to the first number that is missing
step_at : (look : List ℕ → Option (List ℕ)) (name : List ℕ) (number most : ℕ) → number < most
    → segments_from look name number (most - number) ≡ option_map_or (λ segment. segment ∷ segments_from look name (number + 1) (most - (number + 1))) (segment_at look name number) []
step_at look name number most l =
    let count : most - number ≡ suc (most - (number + 1)) = omega arith in
    ap (segments_from look name number) count
    ∙ ap (λ next. option_map_or (λ segment. segment ∷ segments_from look name next (most - (number + 1))) (segment_at look name number) []) (sym (add-one number))

pub segments_end : (look : List ℕ → Option (List ℕ)) (name : List ℕ) (number most : ℕ) (found all : List Segment) → number < most → None ≡ segment_at look name number
    → found ++ segments_from look name number (most - number) ≡ all → found ≡ all
segments_end look name number most found all l none h =
    let nothing : segments_from look name number (most - number) ≡ [] =
    step_at look name number most l ∙ ap (λ s. option_map_or (λ segment. segment ∷ segments_from look name (number + 1) (most - (number + 1))) s []) (sym none) in
    sym (append-nil found) ∙ ap (λ rest. found ++ rest) (sym nothing) ∙ h

pub segments_more : (look : List ℕ → Option (List ℕ)) (name : List ℕ) (number most : ℕ) (found new all : List Segment) (segment : Segment) → number < most → Some segment ≡ segment_at look name number
    → new ≡ found ++ segment ∷ [] → found ++ segments_from look name number (most - number) ≡ all → new ++ segments_from look name (number + 1) (most - (number + 1)) ≡ all
segments_more look name number most found new all segment l some pushed h =
    let rest = segments_from look name (number + 1) (most - (number + 1)) in
    let more : segments_from look name number (most - number) ≡ segment ∷ rest =
    step_at look name number most l ∙ ap (λ s. option_map_or (λ segment. segment ∷ rest) s []) (sym some) in
    ap (λ front. front ++ rest) pushed ∙ append_assoc found (segment ∷ []) rest ∙ ap (λ back. found ++ back) (sym more) ∙ h

-- the bytes of one more segment
step : (out new : List ℕ) (here rest : Option (List ℕ)) → Some new ≡ option_map (λ bytes. out ++ bytes) here
    → option_map (λ bytes. new ++ bytes) rest ≡ option_map (λ bytes. out ++ bytes) (option_and_then (λ front. option_map (λ back. front ++ back) rest) here)
step out new None rest h = cc
step out new (Some front) None h = refl
step out new (Some front) (Some back) h = let same : new ≡ out ++ front = cc in ap Some (ap (λ xs. xs ++ back) same ∙ append_assoc out front back)

joined_step : (out new : List ℕ) (segment : Segment) (others : List Segment) (all : Option (List ℕ)) → Some new ≡ option_map (λ bytes. out ++ bytes) (segment_bytes segment) → option_map (λ bytes. out ++ bytes) (joined (segment ∷ others)) ≡ all
    → option_map (λ bytes. new ++ bytes) (joined others) ≡ all
joined_step out new segment others all h before = step out new (segment_bytes segment) (joined others) h ∙ before

-- what is said is the same by look-ups that agree
segments_same : (look other : List ℕ → Option (List ℕ)) → ((asked : List ℕ) → look asked ≡ other asked) → (name : List ℕ) (number most : ℕ) → segments_from look name number most ≡ segments_from other name number most
segments_same look other same name number zero = refl
segments_same look other same name number (suc most) =
    rw (same (encoded_name (segment_name name number)), same (segment_name name number), segments_same look other same name (suc number) most) refl

pub said_same : (look other : List ℕ → Option (List ℕ)) → ((asked : List ℕ) → look asked ≡ other asked) → (most : ℕ) (name : List ℕ) → text_by_lookup look most name ≡ text_by_lookup other most name
said_same look other same most name = rw (same (encoded_name name), segments_same look other same name 0 most, same name) refl

-- what is mapped, after one more
pub map_push : {A B : Type 0} (f : A → B) (xs ys : List A) (x : A) → ys ≡ xs ++ x ∷ [] → map f ys ≡ map f xs ++ f x ∷ []
map_push f xs ys x e = ap (map f) e ∙ map-append f xs (x ∷ [])

-- a segment that can't be read
stop : (out : List ℕ) (here rest : Option (List ℕ)) → None ≡ option_map (λ bytes. out ++ bytes) here
    → None ≡ option_map (λ bytes. out ++ bytes) (option_and_then (λ front. option_map (λ back. front ++ back) rest) here)
stop out None rest h = refl
stop out (Some front) rest h = cc

joined_none : (out : List ℕ) (segment : Segment) (others : List Segment) (all : Option (List ℕ)) → None ≡ option_map (λ bytes. out ++ bytes) (segment_bytes segment) → option_map (λ bytes. out ++ bytes) (joined (segment ∷ others)) ≡ all
    → None ≡ all
joined_none out segment others all h before = stop out (segment_bytes segment) (joined others) h ∙ before

-- the segments from a place on are the one there and those after it
segments_at : (xs : List SegmentIn) (i : ℕ) (d : SegmentIn) → i < length xs → map segment_of (drop i xs) ≡ segment_of (get_or xs i d) ∷ map segment_of (drop (i + 1) xs)
segments_at xs i d l = ap (map segment_of) (drop-cons xs i d l ∙ ap (λ n. get_or xs i d ∷ drop n xs) (sym (add-one i)))

pub read_more : (xs : List SegmentIn) (i : ℕ) (d : SegmentIn) (out new : List ℕ) (all : Option (List ℕ)) → i < length xs → Some new ≡ option_map (λ bytes. out ++ bytes) (segment_bytes (segment_of (get_or xs i d)))
    → option_map (λ bytes. out ++ bytes) (joined (map segment_of (drop i xs))) ≡ all → option_map (λ bytes. new ++ bytes) (joined (map segment_of (drop (i + 1) xs))) ≡ all
read_more xs i d out new all l h before =
    joined_step out new (segment_of (get_or xs i d)) (map segment_of (drop (i + 1) xs)) all h (ap (λ s. option_map (λ bytes. out ++ bytes) (joined s)) (sym (segments_at xs i d l)) ∙ before)

pub read_none : (xs : List SegmentIn) (i : ℕ) (d : SegmentIn) (out : List ℕ) (all : Option (List ℕ)) → i < length xs → None ≡ option_map (λ bytes. out ++ bytes) (segment_bytes (segment_of (get_or xs i d)))
    → option_map (λ bytes. out ++ bytes) (joined (map segment_of (drop i xs))) ≡ all → None ≡ all
read_none xs i d out all l h before =
    joined_none out (segment_of (get_or xs i d)) (map segment_of (drop (i + 1) xs)) all h (ap (λ s. option_map (λ bytes. out ++ bytes) (joined s)) (sym (segments_at xs i d l)) ∙ before)
