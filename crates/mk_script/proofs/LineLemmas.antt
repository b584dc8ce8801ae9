-- The lines of a script, as they are written.
use Rattle.std.proofs.Common.{◌≡◌, ℕ, true, false, List, Some, None, codes, refl, sym, ap, ◌∙◌, subst, inl, inr}
use Rattle.std.proofs.lemmas.Bool.{cases_Bool}
use Rattle.std.proofs.lemmas.Slice.Eq.{bytes_eq-Decides}
use Rattle.std.specs.Option.{option_map}
use Rattle.std.specs.Str.{bytes_eq}
use Rattle.mk_script.specs.Script.{ScriptWord, ScriptLine, Edits, Undoes, Redoes, Begins, Ends, word_of, line_of}
use Rattle.mk_script.specs.Written.{written, IsLine, written_line}
use Rattle.mk_script.proofs.NumberLemmas.{some_same, none_some}
use Rattle.mk_script.proofs.FirstWords.{map-some}
use Rattle.mk_script.proofs.WordLemmas.{word_of-read, word_of-written}

-- a line that is one name
alone : (count : ℕ) (name bytes : List ℕ) (said line : ScriptLine) → bytes_eq bytes name ≡ true → IsLine count said → written_line said ≡ name → said ≡ line → IsLine count line × (bytes ≡ written_line line)
alone count name bytes said line same is writes e = subst (λ l. IsLine count l × (bytes ≡ written_line l)) e (is, (bytes_eq-Decides bytes name).0 same ∙ sym writes)

-- what a line says may be written, and the line writes it
pub line_of-read : (count : ℕ) (bytes : List ℕ) (line : ScriptLine) → line_of count bytes ≡ Some line → IsLine count line × (bytes ≡ written_line line)
line_of-read count bytes line said = elim (cases_Bool (bytes_eq bytes (codes "undo"))) [
  | inl undo ↦ alone count (codes "undo") bytes Undoes line undo tt refl (some_same (rw undo at said))
  | inr other ↦ elim (cases_Bool (bytes_eq bytes (codes "redo"))) [
    | inl redo ↦ alone count (codes "redo") bytes Redoes line redo tt refl (some_same (rw (other, redo) at said))
    | inr neither ↦ elim (cases_Bool (bytes_eq bytes (codes "begin"))) [
      | inl begin ↦ alone count (codes "begin") bytes Begins line begin tt refl (some_same (rw (other, neither, begin) at said))
      | inr none ↦ elim (cases_Bool (bytes_eq bytes (codes "end"))) [
        | inl end ↦ alone count (codes "end") bytes Ends line end tt refl (some_same (rw (other, neither, none, end) at said))
        | inr no_name ↦
            let found = map-some (λ word. Edits word) (word_of count bytes) line (rw (other, neither, none, no_name) at said) in
            subst (λ l. IsLine count l × (bytes ≡ written_line l)) found.2 (word_of-read count bytes found.0 found.1)
      ]
    ]
  ]
]

-- a line that says a word is none of the names that stand alone
no_name : (count : ℕ) (bytes name : List ℕ) (word : ScriptWord) → word_of count bytes ≡ Some word → word_of count name ≡ None → bytes_eq bytes name ≡ false
no_name count bytes name word said none = elim (cases_Bool (bytes_eq bytes name)) [
  | inl same ↦ absurd (none_some (sym none ∙ (ap (word_of count) (sym ((bytes_eq-Decides bytes name).0 same)) ∙ said)))
  | inr other ↦ other
]

-- a line that is written says what it writes
pub line_of-written : (count : ℕ) (line : ScriptLine) → IsLine count line → line_of count (written_line line) ≡ Some line
line_of-written count Undoes h = refl
line_of-written count Redoes h = refl
line_of-written count Begins h = refl
line_of-written count Ends h = refl
line_of-written count (Edits word) h =
    let said = word_of-written count word h in
    let undo = no_name count (written word) (codes "undo") word said refl in
    let redo = no_name count (written word) (codes "redo") word said refl in
    let begin = no_name count (written word) (codes "begin") word said refl in
    let end = no_name count (written word) (codes "end") word said refl in
    rw (undo, redo, begin, end) (ap (option_map (λ w. Edits w)) said)
