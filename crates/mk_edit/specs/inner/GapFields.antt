-- The fields of the root in a text with a gap.
use Rattle.std.specs.Prelude.{◌-◌, ℕ, Bool, Option, List, length}
use Rattle.std.specs.Global.{Vec}
use Rattle.mk_edit.specs.RootFields.{lines_in, HasFields, HasPassed}
use Rattle.mk_edit.specs.inner.FieldNames.{BeginsField, IsKnown}
use Rattle.mk_edit.specs.inner.Gaps.{Gapped, without_gap}

-- the root's fields stand in the text, some of them were passed over, the names of some are known, and the gap lies before a
-- field or after the last
pub record IsHeldInParts (text : Gapped) (start size : ℕ) (name : List ℕ) (bytes named known : ℕ) (marks : Option (Vec Bool)) : Type 0 where
  pub fields : HasFields (without_gap text) start size
  pub passed : HasPassed (lines_in (without_gap text)) name bytes named
  pub names : IsKnown (lines_in (without_gap text)) known marks
  pub gap : BeginsField (lines_in (without_gap text)) (length text.front - start)
