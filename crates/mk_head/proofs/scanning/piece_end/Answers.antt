use Rattle.std.proofs.Common.{◌<◌, length, arith}
use Rattle.std.proofs.lemmas.List.{take_rest}
use Rattle.mk_head.proofs.Semicolons.{none_found, semicolon_found, other_found}
use Rattle.mk_head.proofs.scanning.piece_end.Goals as goal

pub returns-in-None : goal.returns-in-None
returns-in-None c =
    let cut = none_found c.args.text.now c.in-None.ensures in
    record { within = omega arith; front = cut.0; rest = cut.1 }

pub returns-then-text-place-eq-SEMICOLON : goal.returns-then-text-place-eq-SEMICOLON
returns-then-text-place-eq-SEMICOLON c =
    let place : c.in-Some.place < length c.args.text.now = c.in-Some.ensures.0.high in
    let cut = semicolon_found c.args.text.now c.in-Some.place c.in-Some.ensures c.if-text-place-eq-SEMICOLON.true in
    record { within = omega (arith, place); front = cut.0; rest = cut.1 }

pub returns-else-text-place-eq-SEMICOLON-clause-front : goal.returns-else-text-place-eq-SEMICOLON-clause-front
returns-else-text-place-eq-SEMICOLON-clause-front c =
    (other_found c.args.text.now _ c.in-Some.place c.scanned_end.result c.in-Some.ensures (take_rest c.args.text.now c.in-Some.place) (c.scanned_end.ensures.front, c.scanned_end.ensures.rest)).0

pub returns-else-text-place-eq-SEMICOLON-clause-rest : goal.returns-else-text-place-eq-SEMICOLON-clause-rest
returns-else-text-place-eq-SEMICOLON-clause-rest c =
    (other_found c.args.text.now _ c.in-Some.place c.scanned_end.result c.in-Some.ensures (take_rest c.args.text.now c.in-Some.place) (c.scanned_end.ensures.front, c.scanned_end.ensures.rest)).1
