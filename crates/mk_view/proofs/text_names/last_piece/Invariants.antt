use Rattle.std.proofs.Common.{◌≡◌, length}
use Rattle.std.specs.List.{after_last}
use Rattle.mk_view.specs.FileNames.{is_divider}
use Rattle.mk_view.proofs.LastPieces.{last_by}
use Rattle.mk_view.proofs.text_names.last_piece.Given as goal

abbrev pub invariant-each : goal.invariant-each
invariant-each l = last_by is_divider l.piece l.rest ≡ after_last is_divider l.characters

abbrev pub decreases-each : goal.decreases-each
decreases-each l = length l.rest
