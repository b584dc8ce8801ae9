-- The lines that report refusals, put together.
use Rattle.std.proofs.Common.{◌≡◌, ℕ, List, [], ◌∷◌, ◌++◌, Option, Some, None, IfSome, codes, decimal, ap, ◌∙◌, append_assoc}
use Rattle.mk_line.specs.Ascii.{line_feed}
use Rattle.mk_decide.specs.Edits.{Refusal}
use Rattle.mk_report.specs.Reports.{reason_name, after_name}

error_line-row : (a b c d e f : List ℕ) → ((a ++ (b ++ (c ++ d))) ++ e) ++ f ≡ a ++ (b ++ (c ++ (d ++ (e ++ f))))
error_line-row a b c d e f = simp append_assoc

-- the line is its front with the name, what follows that, and its ending
pub report_joined : (word : List ℕ) (reason : Option Refusal) (path name front line : List ℕ) (number : ℕ) → front ≡ word ++ (decimal number ++ (codes ": " ++ name))
    → IfSome reason (λ r. name ≡ reason_name r) → IfSome reason (λ r. line ≡ front ++ after_name path r)
    → IfSome reason (λ r. line ++ line_feed ∷ [] ≡ word ++ (decimal number ++ (codes ": " ++ (reason_name r ++ (after_name path r ++ line_feed ∷ [])))))
report_joined word None path name front line number begins named placed = tt
report_joined word (Some r) path name front line number begins named placed =
    let begun : front ≡ word ++ (decimal number ++ (codes ": " ++ reason_name r)) = begins ∙ ap (λ n. word ++ (decimal number ++ (codes ": " ++ n))) named in
    let whole : line ≡ (word ++ (decimal number ++ (codes ": " ++ reason_name r))) ++ after_name path r = placed ∙ ap (λ f. f ++ after_name path r) begun in
    ap (λ l. l ++ line_feed ∷ []) whole ∙ error_line-row word (decimal number) (codes ": ") (reason_name r) (after_name path r) (line_feed ∷ [])
