-- The fields that a script picks, as they are written.
use Rattle.std.proofs.Common.{◌≡◌, ℕ, List, ◌∷◌, ◌++◌, Some, decimal, sym, ap, ◌∙◌, subst, append_assoc}
use Rattle.std.specs.Option.{option_map}
use Rattle.mk_line.specs.Ascii.{space}
use Rattle.mk_script.specs.Targets.{Target, as_name, count_of, read_first, whole_target, target_front}
use Rattle.mk_script.specs.Written.{IsTarget, written_path, written_target}
use Rattle.mk_script.proofs.NumberLemmas.{some_same}
use Rattle.mk_script.proofs.FirstWords.{count-read, count-then, count_of-decimal, count_of-written, map-some, name-read, name-then, path-read, path-then}

-- the numbered field of a path and a name
abbrev numbered : List ℕ → List ℕ → ℕ → Target
numbered path name k = record { path = path; name = name; k = k }

-- a text that picks a field is it as it is written
pub whole_target-read : (text : List ℕ) (target : Target) → whole_target text ≡ Some target → IsTarget target × (text ≡ written_target target)
whole_target-read text target e =
    let p = path-read (λ path. read_first as_name (λ name number. option_map (numbered path name) (count_of number))) text target e in
    let n = name-read (λ name number. option_map (numbered p.0 name) (count_of number)) p.1 target p.3 in
    let k = map-some (numbered p.0 n.0) (count_of n.1) target n.3 in
    let number = count_of-decimal n.1 k.0 k.1 in
    subst (λ (u : Target). IsTarget u × (text ≡ written_target u)) k.2
    (record { path = p.2; name = n.2; fits = number.0 }, p.4 ∙ ap (λ l. written_path p.0 ++ (space ∷ l)) (n.4 ∙ ap (λ l. n.0 ++ (space ∷ l)) number.1))

pub whole_target-written : (target : Target) → IsTarget target → whole_target (written_target target) ≡ Some target
whole_target-written target h =
    path-then (λ path. read_first as_name (λ name number. option_map (numbered path name) (count_of number))) target.path (target.name ++ (space ∷ decimal target.k)) h.path
    ∙ (name-then (λ name number. option_map (numbered target.path name) (count_of number)) target.name (decimal target.k) h.name
    ∙ ap (option_map (numbered target.path target.name)) (count_of-written target.k h.fits))

-- a field and what follows it, in one row
written_front : (target : Target) (rest : List ℕ)
    → written_target target ++ (space ∷ rest) ≡ written_path target.path ++ (space ∷ (target.name ++ (space ∷ (decimal target.k ++ (space ∷ rest)))))
written_front target rest = simp append_assoc

-- a text whose front picks a field is that field as it is written, a space and what follows
pub target_front-read : (text : List ℕ) (front : Target × List ℕ) → target_front text ≡ Some front → IsTarget front.0 × (text ≡ written_target front.0 ++ (space ∷ front.1))
target_front-read text front e =
    let p = path-read (λ path. read_first as_name (λ name. read_first count_of (λ k rest. Some (numbered path name k, rest)))) text front e in
    let n = name-read (λ name. read_first count_of (λ k rest. Some (numbered p.0 name k, rest))) p.1 front p.3 in
    let k = count-read (λ k rest. Some (numbered p.0 n.0 k, rest)) n.1 front n.3 in
    let is : text ≡ written_path p.0 ++ (space ∷ (n.0 ++ (space ∷ (decimal k.0 ++ (space ∷ k.1))))) =
    p.4 ∙ ap (λ l. written_path p.0 ++ (space ∷ l)) (n.4 ∙ ap (λ l. n.0 ++ (space ∷ l)) k.4) in
    subst (λ (f : Target × List ℕ). IsTarget f.0 × (text ≡ written_target f.0 ++ (space ∷ f.1))) (some_same k.3)
    (record { path = p.2; name = n.2; fits = k.2 }, is ∙ sym (written_front (numbered p.0 n.0 k.0) k.1))

pub target_front-written : (target : Target) (rest : List ℕ) → IsTarget target → target_front (written_target target ++ (space ∷ rest)) ≡ Some (target, rest)
target_front-written target rest h =
    ap target_front (written_front target rest)
    ∙ (path-then (λ path. read_first as_name (λ name. read_first count_of (λ k rest. Some (numbered path name k, rest)))) target.path (target.name ++ (space ∷ (decimal target.k ++ (space ∷ rest)))) h.path
    ∙ (name-then (λ name. read_first count_of (λ k rest. Some (numbered target.path name k, rest))) target.name (decimal target.k ++ (space ∷ rest)) h.name
    ∙ count-then (λ k rest. Some (numbered target.path target.name k, rest)) target.k rest h.fits))
