use Rattle.std.proofs.Common.{◌≡◌, ℕ, List, Some}
use Rattle.std.proofs.lemmas.Result.{on_err_weaker, on_ok_weaker}
use Rattle.mk_tree.specs.Documents.{tree}
use Rattle.mk_tree.specs.Sections.{Placed, section_at}
use Rattle.mk_view.specs.Extracts.{IsExtract}
use Rattle.mk_show.specs.GivenPieces.{IsLeft}
use Rattle.mk_show.proofs.SentPieces.{ShowsSoFar-content}
use Rattle.mk_show.proofs.showing.show_content.Goals as goal

pub returns-in-Ok-Ok-clause-shows : goal.returns-in-Ok-Ok-clause-shows
returns-in-Ok-Ok-clause-shows g c input left ended =
    let held : (place : Placed) × (section_at c.args.path.now (tree c.args.doc.now) ≡ Some place) × ((bytes : List ℕ) × IsExtract (Some place) bytes × IsLeft c.in-Ok-Ok.content bytes) =
    rw c.in-Ok-Ok.field-0-is at c.in-Ok-Ok.ensures in
    let gave = c.give_content.ensures in
    ShowsSoFar-content c.args.path.now c.args.doc.now held.0 held.2.0 c.give_content.result input left _ _ _ held.1 held.2.1 ended
    gave.well (on_ok_weaker c.give_content.result (λ all. all held.2.0 held.2.2) gave.all) (on_err_weaker c.give_content.result (λ front. front held.2.0 held.2.2) gave.front) gave.not_read
