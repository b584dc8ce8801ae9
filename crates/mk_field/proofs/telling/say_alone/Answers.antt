use Rattle.mk_field.specs.inner.Telling.{told_said}
use Rattle.mk_transfer.proofs.Blames.{sends_counted}
use Rattle.mk_field.proofs.ToldLemmas.{says_alone, says_alone_partly, sent_fault, sent_memory, sent_well}
use Rattle.mk_field.proofs.telling.say_alone.Goals as goal

pub returns-clause-all : goal.returns-clause-all
returns-clause-all g c =
    says_alone (told_said c.args.path.now c.args.number c.args.told.now) c.report.result _ _ _ _ _ _ c.in_ok-send_printed.ensures.sends.whole
    c.report.ensures.sends c.report.ensures.told

pub returns-clause-some : goal.returns-clause-some
returns-clause-some g c =
    says_alone_partly (told_said c.args.path.now c.args.number c.args.told.now) c.report.result _ _ _ _ _ _ c.in_ok-send_printed.ensures.sends.whole
    c.report.ensures.sends

pub returns-clause-failed : goal.returns-clause-failed
returns-clause-failed g c = sent_fault c.report.result _ _ _ _ _ _ c.report.ensures.sends

pub returns-clause-memory : goal.returns-clause-memory
returns-clause-memory g c = sent_memory c.report.result _ _ _ _ _ _ _ c.in_ok-send_printed.ensures.sends.well c.report.ensures.sends

pub returns-clause-errors_well : goal.returns-clause-errors_well
returns-clause-errors_well g c = sent_well c.report.result _ _ _ _ _ c.report.ensures.sends

pub returns-clause-counted : goal.returns-clause-counted
returns-clause-counted g c = sends_counted c.report.result _ _ _ _ _ c.report.ensures.sends
