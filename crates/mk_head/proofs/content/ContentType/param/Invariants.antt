use Rattle.std.proofs.Common.{◌≡◌, drop, map}
use Rattle.mk_head.specs.Values.{param_of}
use Rattle.mk_head.specs.ValueViews.{parameter_of, media_type_of}
use Rattle.mk_head.proofs.content.ContentType.param.Given as goal

abbrev pub invariant-loop-param : goal.invariant-loop-param
invariant-loop-param l = param_of l.name (map parameter_of (drop l.param-index l.param-items)) ≡ param_of l.name (media_type_of l.self).params
