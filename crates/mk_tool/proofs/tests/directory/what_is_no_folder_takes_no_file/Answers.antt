use Rattle.std.proofs.Common.{refl, [], ◌∷◌}
use Rattle.mk_view.proofs.CleanTexts.{fit_safe}
use Rattle.mk_tool.proofs.tests.directory.what_is_no_folder_takes_no_file.Goals as goal

pub put-requires : goal.put-requires
put-requires g c = fit_safe (110 ∷ []) refl refl refl
