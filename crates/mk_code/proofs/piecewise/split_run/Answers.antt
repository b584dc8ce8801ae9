use Rattle.std.proofs.Common.{sym, ◌∙◌, refl}
use Rattle.std.proofs.lemmas.List.{append-nil}
use Rattle.mk_code.proofs.Base64Blocks.{cut_in_two}
use Rattle.mk_code.proofs.PieceLetters.{step_end, step_run, stray_run, window_run}
use Rattle.mk_code.proofs.piecewise.split_run.Goals as goal

pub returns-in-Some-clause-letters : goal.returns-in-Some-clause-letters
returns-in-Some-clause-letters c =
    let text = c.args.text.now in
    let run = c.split_at.result.0.now in
    let following = c.split_at.result.1.now in
    let strays = c.split_at-2.result.0.now in
    step_end text run following strays c.split_at-2.result.1.now c.in-Some.field-0.0.now c.in-Some.field-0.1.now
    (cut_in_two text run following _ c.split_at.ensures.front c.split_at.ensures.back)
    (cut_in_two following strays c.split_at-2.result.1.now _ c.split_at-2.ensures.front c.split_at-2.ensures.back)
    (window_run text _ run _ c.run_of.result refl c.run_of.ensures.front c.run_of.ensures.within c.split_at.ensures.front)
    (stray_run following strays c.run_of-2.result c.run_of-2.ensures.front c.split_at-2.ensures.front)
    c.in-Some.ensures.parts c.in-Some.ensures.first
    ∙ sym (append-nil run)

pub returns-in-None-clause-letters : goal.returns-in-None-clause-letters
returns-in-None-clause-letters c =
    let text = c.args.text.now in
    let run = c.split_at.result.0.now in
    let following = c.split_at.result.1.now in
    let strays = c.split_at-2.result.0.now in
    step_run text run following strays c.split_at-2.result.1.now
    (cut_in_two text run following _ c.split_at.ensures.front c.split_at.ensures.back)
    (cut_in_two following strays c.split_at-2.result.1.now _ c.split_at-2.ensures.front c.split_at-2.ensures.back)
    (window_run text _ run _ c.run_of.result refl c.run_of.ensures.front c.run_of.ensures.within c.split_at.ensures.front)
    (stray_run following strays c.run_of-2.result c.run_of-2.ensures.front c.split_at-2.ensures.front)
    c.in-None.ensures.parts
