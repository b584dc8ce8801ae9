-- What is done in a group, as one step.
use Rattle.std.proofs.Common.{◌≡◌, ◌+◌, ◌≤◌, ◌++◌, ◌∙◌, ℕ, suc, List, [], ◌∷◌, refl, ap, sym, subst, add-one, append-nil, append_assoc, arith, length, length-append, map, slice_index_or, take}
use Rattle.std.proofs.lemmas.List.{length-take-le}
use Rattle.std.specs.Global.{Vec}
use Rattle.mk_splice.specs.declared.splicing.Splice.{Splice as SpliceIn}
use Rattle.mk_splice.specs.Splices.{Splice, forth_step, GoesForth}
use Rattle.mk_splice.specs.Fits.{Fit, AllForth, back_all, forth_all}
use Rattle.mk_splice.specs.Views.{splice_of, steps_of}
use Rattle.mk_splice.proofs.Bytes.{forth_append, found_append}
use Rattle.mk_edit.specs.History.{History, history_of}
use Rattle.mk_edit.specs.Histories.{AreLinked, IsHistory, all_splices, done_splices, first_text, text_now, with_step}
use Rattle.mk_edit.proofs.Moves.{more_steps, put_text}
use Rattle.mk_edit.proofs.Steps.{Stepped, all_forth_back, edit_is, take_all}

-- the splices of several steps make what these make
splices_go : (ss : List (List Splice)) (x : List ℕ) → AllForth ss x → GoesForth (all_splices ss) x
splices_go [] x h = tt
splices_go (s ∷ ss) x h = found_append s (all_splices ss) x h.0 (splices_go ss (forth_step s x) h.1)

splices_make : (ss : List (List Splice)) (x : List ℕ) → forth_step (all_splices ss) x ≡ forth_all ss x
splices_make [] x = refl
splices_make (s ∷ ss) x = forth_append s (all_splices ss) x ∙ splices_make ss (forth_step s x)

-- the fields of a session after it took what a group did
pub commit_moves : (h g : History) (x y : List ℕ) (vs ws gs : List (Vec SpliceIn)) (n m : ℕ) (v : Vec SpliceIn) → Fit x (steps_of vs) n → history_of x (steps_of vs) n ≡ h → Fit y (steps_of gs) m → history_of y (steps_of gs) m ≡ g
    → first_text g ≡ text_now h → map splice_of v.items ≡ all_splices (take m (steps_of gs)) → ws ≡ take n vs ++ v ∷ [] → Stepped x (steps_of vs) n (map splice_of v.items) y (steps_of ws)
commit_moves h g x y vs ws gs n m v f e k q first is w =
    let done = take m (steps_of gs) in
    let p = all_forth_back done y k.back in
    let start : back_all done y ≡ x = ap first_text q ∙ (first ∙ sym (put_text h x (steps_of vs) n f e)) in
    let goes : GoesForth (map splice_of v.items) x = subst (λ ss. GoesForth ss x) (sym is) (splices_go done x (subst (AllForth done) start p.0)) in
    let text : y ≡ forth_step (map splice_of v.items) x = sym (ap (λ ss. forth_step ss x) is ∙ (splices_make done x ∙ (ap (forth_all done) (sym start) ∙ p.1))) in
    edit_is x (steps_of vs) n (map splice_of v.items) y (steps_of ws) f goes text (more_steps vs ws v n w)

-- what others see of that
pub commit_seen : (h g : History) (x y : List ℕ) (ss rs gs : List (List Splice)) (n m : ℕ) (s : List Splice) → history_of x ss n ≡ h → Fit y gs m → history_of y gs m ≡ g → s ≡ all_splices (take m gs) → Stepped x ss n s y rs
    → history_of y rs (n + 1) ≡ with_step h (text_now g) (done_splices g)
commit_seen h g x y ss rs gs n m s e k q is t =
    t.history
    ∙ (ap (λ z. with_step z y s) e
    ∙ (ap (λ z. with_step h z s) (put_text g y gs m k q) ∙ ap (with_step h (text_now g)) (is ∙ ap done_splices q)))

-- one step more in a group
splices_more : (ss : List (List Splice)) (s : List Splice) → all_splices (ss ++ s ∷ []) ≡ all_splices ss ++ s
splices_more [] s = append-nil s
splices_more (r ∷ ss) s = ap (λ xs. r ++ xs) (splices_more ss s) ∙ sym (append_assoc r (all_splices ss) s)

pub done_more : (h : History) (y : List ℕ) (s : List Splice) → IsHistory h → done_splices (with_step h y s) ≡ done_splices h ++ s
done_more h y s v =
    let steps = take h.place h.steps ++ s ∷ [] in
    let size : length steps ≡ h.place + 1 = omega (arith, length-append (take h.place h.steps) (s ∷ []), length-take-le h.place h.steps v.within) in
    ap all_splices (take_all (h.place + 1) steps size) ∙ splices_more (take h.place h.steps) s

-- it begins with the same text
first_of : (n : ℕ) (x y : List ℕ) (xs : List (List ℕ)) → slice_index_or (take (n + 1) (x ∷ xs) ++ y ∷ []) 0 [] ≡ x
first_of n x y xs = ap (λ k. slice_index_or (take k (x ∷ xs) ++ y ∷ []) 0 []) (add-one n)

pub first_stays : (h : History) (y : List ℕ) (s : List Splice) → IsHistory h → first_text (with_step h y s) ≡ first_text h
first_stays h y s v =
    ap (λ ts. slice_index_or (take (h.place + 1) ts ++ y ∷ []) 0 []) v.texts ∙ (first_of h.place v.first y v.others ∙ ap (λ ts. slice_index_or ts 0 []) (sym v.texts))

-- the text after a step
linked_length : (x : List ℕ) (ys : List (List ℕ)) (ss : List (List Splice)) → AreLinked x ys ss → length ys ≡ length ss
linked_length x [] [] h = refl
linked_length x [] (s ∷ ss) h = absurd h
linked_length x (y ∷ ys) [] h = absurd h
linked_length x (y ∷ ys) (s ∷ ss) h = ap suc (linked_length y ys ss h.1)

last_text : (xs : List (List ℕ)) (y : List ℕ) → slice_index_or (xs ++ y ∷ []) (length xs) [] ≡ y
last_text [] y = refl
last_text (x ∷ xs) y = last_text xs y

pub text_after : (h : History) (y : List ℕ) (s : List Splice) → IsHistory h → text_now (with_step h y s) ≡ y
text_after h y s v =
    let texts : length h.texts ≡ suc (length v.others) = ap length v.texts in
    let steps : length v.others ≡ length h.steps = linked_length v.first v.others h.steps v.linked in
    let within : h.place ≤ length h.steps = v.within in
    let count : length (take (h.place + 1) h.texts) ≡ h.place + 1 = length-take-le (h.place + 1) h.texts (omega arith) in
    subst (λ n. slice_index_or (take (h.place + 1) h.texts ++ y ∷ []) n [] ≡ y) count (last_text (take (h.place + 1) h.texts) y)
