use Rattle.std.proofs.Common.{◌≡◌, ap, ◌∙◌, subst, sym}
use Rattle.mk_tree.specs.Sections.{section_at}
use Rattle.mk_view.specs.ListedViews.{AreListedAt}
use Rattle.mk_view.proofs.Walks.{listed_more}
use Rattle.mk_view.proofs.walking.push_section.Goals as goal

pub returns-clause-placed : goal.returns-clause-placed
returns-clause-placed c = λ t here at_old.
    let path : c.in_ok-path.path.items ≡ c.args.path.now = c.in_ok-path.ensures.items in
    subst (AreListedAt t) (sym c.in_ok-push.ensures.items) (listed_more t _ _ at_old (ap (λ ns. section_at ns t) path ∙ here))
