use Rattle.std.proofs.Common.{sym, ◌∙◌, ap, ℕ, List, Bool}
use Rattle.std.specs.Str.{bytes_eq, str_to_ascii_lowercase}
use Rattle.mk_code.proofs.CharsetNames.{none_so_far, one_passes}
use Rattle.mk_code.proofs.charsets.has_label.Goals as goal

pub returns-then-is_named : goal.returns-then-is_named
returns-then-is_named c =
    let named : List ℕ → Bool = λ other. bytes_eq (str_to_ascii_lowercase c.args.charset.now) (str_to_ascii_lowercase other) in
    one_passes named (λ x. x.now) c.args.labels.now c.loop-label.label-index _ c.loop-label-test.true
    (ap named (sym c.as_bytes.ensures.value) ∙ (sym c.is_named.ensures ∙ c.if-is_named.true))

pub loop-label-preserved : goal.loop-label-preserved
loop-label-preserved c =
    let named : List ℕ → Bool = λ other. bytes_eq (str_to_ascii_lowercase c.args.charset.now) (str_to_ascii_lowercase other) in
    none_so_far named (λ x. x.now) c.args.labels.now c.loop-label.label-index _ c.loop-label-test.true c.loop-label.invariant
    (ap named (sym c.as_bytes.ensures.value) ∙ (sym c.is_named.ensures ∙ c.if-is_named.false))
