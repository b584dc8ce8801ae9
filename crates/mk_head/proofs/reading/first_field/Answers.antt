use Rattle.std.proofs.Common.{◌≡◌, ℕ, List, Some, length, sym, ap, ◌∙◌}
use Rattle.mk_line.specs.Lines.{cut, text_of}
use Rattle.mk_line.specs.Kinds.{name_len}
use Rattle.mk_head.specs.inner.Folds.{folded}
use Rattle.mk_head.proofs.FieldRuns.{FieldInFront, field_in_front, front_text, front_rest, front_size}
use Rattle.mk_head.proofs.NamedStarts.{StartsField, starts_field, starts_none}
use Rattle.mk_head.proofs.reading.first_field.Goals as goal

-- the field that is found, and its bytes
found : (text : List ℕ) (n size : ℕ) → Some n ≡ name_len text → size ≡ length (text_of (folded (cut text))) → (s : StartsField text n) × FieldInFront text s.line s.more size
found text n size e f =
    let s = starts_field text n (sym e) in
    (s, field_in_front text s.line s.more size s.lines (f ∙ ap (λ ls. length (text_of (folded ls))) s.lines))

pub returns-in_err-name-clause-none : goal.returns-in_err-name-clause-none
returns-in_err-name-clause-none c = rw c.from_residual.ensures (starts_none c.args.text.now (sym c.name_len.ensures ∙ c.in_err-name.was))

pub returns-clause-begins : goal.returns-clause-begins
returns-clause-begins c =
    let f = found c.args.text.now c.in_ok-name.name c.folded_size.result (sym c.in_ok-name.was ∙ c.name_len.ensures) c.folded_size.ensures.size in
    record {
      start = f.0.line;
      more = f.0.more;
      lines = f.0.lines;
      starts = f.0.starts;
      following = ap cut c.split_at.ensures.back ∙ f.1.rest;
    }

pub returns-clause-field : goal.returns-clause-field
returns-clause-field c =
    let f = found c.args.text.now c.in_ok-name.name c.folded_size.result (sym c.in_ok-name.was ∙ c.name_len.ensures) c.folded_size.ensures.size in
    front_text c.args.text.now f.0.line f.0.more c.folded_size.result _ _ _ f.0.lines f.0.starts f.1 f.0.named c.split_at.ensures.front c.split_at.ensures.back

pub returns-clause-size : goal.returns-clause-size
returns-clause-size c =
    let f = found c.args.text.now c.in_ok-name.name c.folded_size.result (sym c.in_ok-name.was ∙ c.name_len.ensures) c.folded_size.ensures.size in
    front_size c.args.text.now f.0.line f.0.more c.folded_size.result _ f.0.lines f.0.starts f.1 c.split_at.ensures.back

pub returns-clause-rest : goal.returns-clause-rest
returns-clause-rest c =
    let f = found c.args.text.now c.in_ok-name.name c.folded_size.result (sym c.in_ok-name.was ∙ c.name_len.ensures) c.folded_size.ensures.size in
    front_rest c.args.text.now f.0.line f.0.more c.folded_size.result _ f.0.lines f.0.starts f.1 c.split_at.ensures.back
