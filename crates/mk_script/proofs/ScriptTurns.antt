-- One line more of a script that is read.
use Rattle.std.proofs.Common.{◌≡◌, ◌+◌, ℕ, false, Option, List, [], ◌∷◌, ◌++◌, length, ap, sym, ◌∙◌, append_assoc}
use Rattle.std.proofs.lemmas.List.{length-map}
use Rattle.std.specs.Global.{Vec}
use Rattle.mk_line.specs.Lines.{TextLine}
use Rattle.mk_script.specs.Script.{ScriptLine, NumberedLine, is_skipped, line_of, lines_from}
use Rattle.mk_script.specs.ScriptViews.{items_of}

pub lines_turn : (count number : ℕ) (all more : List NumberedLine) (line : TextLine) (lines : List TextLine) (said : Option ScriptLine) (t : List NumberedLine) → is_skipped line.content ≡ false → line_of count line.content ≡ said
    → all ++ lines_from count number (line ∷ lines) ≡ t → more ≡ all ++ (number, said) ∷ [] → more ++ lines_from count (number + 1) lines ≡ t
lines_turn count number all more line lines said t s w h m =
    let rest = lines_from count (number + 1) lines in
    ap (λ ws. ws ++ rest) m ∙ (append_assoc all ((number, said) ∷ []) rest ∙ (ap (λ o. all ++ (number, o) ∷ rest) (sym w) ∙ (rw s at h)))

pub texts_length : (pieces : List (Vec ℕ)) → length (items_of pieces) ≡ length pieces
texts_length pieces = length-map pieces (λ v. v.items)
