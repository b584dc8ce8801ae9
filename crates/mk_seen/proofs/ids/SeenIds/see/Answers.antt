use Rattle.std.proofs.Common.{◌∙◌, map, not, ap, refl}
use Rattle.std.specs.FinSet as set
use Rattle.mk_seen.proofs.KeysSeen.{keys_found, keys_put}
use Rattle.mk_seen.proofs.ids.SeenIds.see.Goals as goal
use Rattle.mk_seen.proofs.ids.SeenIds.see.Goals.{in-Ok, in-Err}

pub returns-clause-first : goal.returns-clause-first
returns-clause-first c = elim c.match-insert.branch [
  | in-Ok w ↦ rw w.result-is (w.in-Ok.ensures.added ∙ ap not (keys_found _ (λ a b. refl) c.args.id c.self.inside.ids.keys ∙ ap (λ s. set.contains s c.args.id.items) c.self.view_is))
  | in-Err w ↦ rw w.result-is tt
]

pub returns-clause-seen : goal.returns-clause-seen
returns-clause-seen c = elim c.match-insert.branch [
  | in-Ok w ↦ rw w.result-is (ap (λ ks. set.from_list (map (λ k. k.items) ks)) w.in-Ok.ensures.keys ∙ (keys_put _ (λ a b. refl) c.args.id c.self.inside.ids.keys ∙ ap (λ s. set.insert s c.args.id.items) c.self.view_is))
  | in-Err w ↦ rw w.result-is tt
]
