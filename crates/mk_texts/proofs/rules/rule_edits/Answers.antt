use Rattle.std.proofs.Common.{map}
use Rattle.mk_head.specs.Views.{field_view}
use Rattle.mk_decide.specs.Views.{edit_of}
use Rattle.mk_texts.specs.TextViews.{rule_of}
use Rattle.mk_texts.proofs.RuleEdits.{rest_changed}
use Rattle.mk_texts.proofs.rules.rule_edits.Goals as goal

pub loop-field-preserved : goal.loop-field-preserved
loop-field-preserved c =
    let l = c.loop-field in
    record {
      edits = rest_changed c.args.path.now c.args.eol (rule_of c.args.rule.now) (field_view c.in-Some.field) l.next (map edit_of l.edits.items) _ l.field-iterator c.next.new.self c.in_default.is c.in-Some.ensures.steps l.invariant.edits;
      changer = l.invariant.changer;
    }
