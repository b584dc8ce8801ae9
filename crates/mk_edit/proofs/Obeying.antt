-- Orders obeyed one after another.
use Rattle.std.proofs.Common.{◌≡◌, ◌+◌, ◌<◌, ◌++◌, ℕ, suc, zero, Option, Some, List, [], ◌∷◌, refl, ap, sym, ◌∙◌, length, take, drop, map, get_or, arith, append_assoc}
use Rattle.std.proofs.lemmas.List.{drop_more, take_more, length-map, map-append}
use Rattle.mk_edit.specs.declared.replies.Reply.{Reply}
use Rattle.mk_edit.specs.Answers.{reply_of}
use Rattle.mk_decide.specs.Edits.{Order, Refusal}
use Rattle.mk_edit.specs.History.{History}
use Rattle.mk_edit.specs.Histories.{step, after_all, replies}
use Rattle.mk_edit.proofs.HistoryNames.{after}
use Rattle.std.specs.Result.{result_err}

-- one order more
after_more : (xs : List Order) (o : Order) (h : History) → after_all (xs ++ o ∷ []) h ≡ after o (after_all xs h)
after_more [] o h = refl
after_more (x ∷ xs) o h = after_more xs o (after x h)

-- one turn of obeying orders from a list by its places
rest_orders : {X : Type 0} (f : X → Order) (cs : List X) (i : ℕ) (d : X) → i < length cs → map f (drop i cs) ≡ f (get_or cs i d) ∷ map f (drop (i + 1) cs)
rest_orders f cs i d l = ap (map f) (drop_more cs i d l)

-- replies as they are told
abbrev pub told : List (Option Refusal) → List (Option (Option Refusal))
told rs = map (λ r. Some r) rs

pub told_next : {X : Type 0} (f : X → Order) (cs : List X) (i : ℕ) (d : X) (all more : List Reply) (rs : List (Option (Option Refusal))) (r : Reply) (h g : History) → i < length cs
    → reply_of r ≡ Some (result_err (step (f (get_or cs i d)) h)) → g ≡ after (f (get_or cs i d)) h → more ≡ all ++ r ∷ [] → map reply_of all ++ told (replies (map f (drop i cs)) h) ≡ rs
    → map reply_of more ++ told (replies (map f (drop (i + 1) cs)) g) ≡ rs
told_next f cs i d all more rs r h g l e q m t =
    let rest = map f (drop (i + 1) cs) in
    ap (λ xs. map reply_of xs ++ told (replies rest g)) m
    ∙ (ap (λ xs. xs ++ told (replies rest g)) (map-append reply_of all (r ∷ []))
    ∙ (append_assoc (map reply_of all) (reply_of r ∷ []) (told (replies rest g))
    ∙ (ap (λ x. map reply_of all ++ x ∷ told (replies rest g)) e
    ∙ (ap (λ k. map reply_of all ++ Some (result_err (step (f (get_or cs i d)) h)) ∷ told (replies rest k)) q
    ∙ (ap (λ os. map reply_of all ++ told (replies os h)) (sym (rest_orders f cs i d l)) ∙ t)))))

pub rest_next : {X : Type 0} (f : X → Order) (cs : List X) (i : ℕ) (d : X) (h g k : History) → i < length cs → g ≡ after (f (get_or cs i d)) h → after_all (map f (drop i cs)) h ≡ k → after_all (map f (drop (i + 1) cs)) g ≡ k
rest_next f cs i d h g k l q t =
    ap (after_all (map f (drop (i + 1) cs))) q ∙ (ap (λ os. after_all os h) (sym (rest_orders f cs i d l)) ∙ t)

map_at : {X Y : Type 0} (f : X → Y) (cs : List X) (i : ℕ) (d : X) → get_or (map f cs) i (f d) ≡ f (get_or cs i d)
map_at f [] i d = refl
map_at f (c ∷ cs) zero d = refl
map_at f (c ∷ cs) (suc i) d = map_at f cs i d

pub front_next : {X : Type 0} (f : X → Order) (cs : List X) (i : ℕ) (d : X) (h g k : History) → i < length cs → g ≡ after (f (get_or cs i d)) h → h ≡ after_all (take i (map f cs)) k → g ≡ after_all (take (i + 1) (map f cs)) k
front_next f cs i d h g k l q t =
    q ∙ (ap (after (f (get_or cs i d))) t ∙ (sym (after_more (take i (map f cs)) (f (get_or cs i d)) k)
    ∙ ap (λ os. after_all os k) (sym (take_more (map f cs) i (f d) (omega (arith, l, length-map cs f)) ∙ ap (λ o. take i (map f cs) ++ o ∷ []) (map_at f cs i d)))))
