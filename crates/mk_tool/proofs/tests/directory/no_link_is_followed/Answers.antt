use Rattle.std.proofs.Common.{refl, [], ◌∷◌}
use Rattle.mk_view.proofs.CleanTexts.{fit_safe}
use Rattle.mk_tool.proofs.tests.directory.no_link_is_followed.Goals as goal

pub put-requires : goal.put-requires
put-requires g c = fit_safe (110 ∷ []) refl refl refl

pub put-requires-2 : goal.put-requires-2
put-requires-2 g c = fit_safe (110 ∷ []) refl refl refl

pub put-requires-3 : goal.put-requires-3
put-requires-3 g c = fit_safe (108 ∷ 105 ∷ 110 ∷ 107 ∷ []) refl refl refl

pub put-requires-4 : goal.put-requires-4
put-requires-4 g c = fit_safe (108 ∷ 105 ∷ 110 ∷ 107 ∷ []) refl refl refl
