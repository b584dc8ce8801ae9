-- Texts that get longer begin with what they were.
use Rattle.std.proofs.Common.{◌≡◌, ◌≤◌, ◌++◌, if◌then◌else◌, ℕ, List, Result, Ok, Err, is_ok, length, take, ap, sym, ◌∙◌, arith, length-take}
use Rattle.std.proofs.lemmas.List.{take-append-le, take-take, take_all}
use Rattle.mk_line.specs.inner.Kept.{IsKept}

pub kept_itself : (text : List ℕ) → IsKept text text
kept_itself text = take_all (length text) text (omega arith)

pub kept_same : (old new : List ℕ) → new ≡ old → IsKept old new
kept_same old new e = ap (take (length old)) e ∙ kept_itself old

pub kept_grown : (old more new : List ℕ) → new ≡ old ++ more → IsKept old new
kept_grown old more new e = ap (take (length old)) e ∙ (take-append-le (length old) old more (omega arith) ∙ kept_itself old)

pub kept_on : (old mid new : List ℕ) → IsKept old mid → IsKept mid new → IsKept old new
kept_on old mid new f g =
    let fits : length old ≤ length mid = omega (arith, sym (ap length f) ∙ length-take (length old) mid) in
    sym (take-take (length old) (length mid) new fits) ∙ (ap (take (length old)) g ∙ f)

pub kept_if : {A E : Type 0} (r : Result A E) (old more new : List ℕ) → new ≡ (if is_ok r then old ++ more else old) → IsKept old new
kept_if (Ok x) old more new e = kept_grown old more new e
kept_if (Err x) old more new e = kept_same old new e
