-- A text with the ending after it that a part needs, cut into lines.
use Rattle.std.proofs.Common.{◌≢◌, ℕ, List, refl}
use Rattle.mk_line.specs.declared.cutting.Ending.{Ending}
use Rattle.mk_line.specs.declared.cutting.Ending.TheVariants.{Missing}
use Rattle.mk_line.specs.Lines.{cut, ends_in_return}
use Rattle.mk_build.proofs.EndedTexts.{Grows, divided_by}
use Rattle.mk_expand.specs.Contents.{divided}

pub grown_divided : (eol : Ending) (text : List ℕ) → eol ≢ Missing → Grows (cut text) (cut (divided eol text))
grown_divided eol text n = divided_by eol text (ends_in_return text) n refl
