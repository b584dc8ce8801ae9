use Rattle.std.proofs.Common.{◌≡◌, ◌++◌, drop, map}
use Rattle.std.specs.List.{flat_map}
use Rattle.mk_head.specs.ValueViews.{media_type_of, parameter_of}
use Rattle.mk_expand.specs.Charsets.{parameter_text}
use Rattle.mk_expand.proofs.texts.push_parameters.Given as goal

abbrev pub invariant-loop-parameter : goal.invariant-loop-parameter
invariant-loop-parameter l = l.text.items ++ flat_map parameter_text (map parameter_of (drop l.parameter-index l.parameter-items)) ≡ l.fn.text.items ++ flat_map parameter_text (media_type_of l.media).params
