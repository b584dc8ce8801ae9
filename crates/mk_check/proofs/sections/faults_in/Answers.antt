use Rattle.std.proofs.Common.{◌∙◌, ◌++◌, ap, map}
use Rattle.mk_check.specs.inner.FoundViews.{found_of}
use Rattle.mk_check.proofs.InTurn.{six}
use Rattle.mk_check.proofs.sections.faults_in.Goals as goal

pub returns : goal.returns
returns c =
    let content = c.in_ok-push_content_faults.ensures in
    record {
      content = content.0;
      in_content = content.1;
      all =
          content.2
          ∙ ap (λ found. found ++ content.0)
          (six _ _ _ _ _ _ _ _ _ _ _ _ _ (ap (map found_of) c.new-found.ensures.items) c.in_ok-push_line_faults.ensures c.in_ok-push_repeated.ensures
          c.in_ok-push_unseparated.ensures c.in_ok-push_unseparated-2.ensures c.in_ok-push_boundary_faults.ensures c.in_ok-push_multi_faults.ensures);
    }
