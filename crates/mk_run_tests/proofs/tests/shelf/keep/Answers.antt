use Rattle.mk_run_tests.proofs.KeptLemmas.{texts_kept}
use Rattle.mk_run_tests.proofs.tests.shelf.keep.Goals as goal

pub returns-clause-put : goal.returns-clause-put
returns-clause-put c =
    rw (c.in_ok-name.ensures.items, c.in_ok-text.ensures.items) at (texts_kept c.args.kept.now c.insert.new.self c.in_ok-name.name c.in_ok-text.text c.in_ok-insert.ensures.updates)
