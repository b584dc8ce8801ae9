-- Runs that print what is found in a message (own).
use Rattle.std.specs.Prelude.{◌≡◌, if◌then◌else◌, ℕ, List, []}
use Rattle.mk_line.specs.Lines.{is_nil}
use Rattle.mk_tree.specs.Documents.{tree}
use Rattle.mk_transfer.specs.declared.status.Status.TheVariants.{Well, Refused}
use Rattle.mk_transfer.specs.Said.{Run}
use Rattle.mk_view.specs.Listed.{listed}
use Rattle.mk_check.specs.declared.lines.FindingForm.{FindingForm}
use Rattle.mk_check.specs.FindingLines.{AreFindingLines}

-- findings go out, and the status says whether there are any
abbrev pub run_of_findings : List ℕ → Run
run_of_findings text = record { output = text; errors = []; status = if is_nil text then Well else Refused }

-- what is found in a message goes out
abbrev pub IsCheckRun : FindingForm → List ℕ → Run → Type 0
IsCheckRun form message run = (text : List ℕ) × AreFindingLines form (listed (tree message)) text × (run ≡ run_of_findings text)
