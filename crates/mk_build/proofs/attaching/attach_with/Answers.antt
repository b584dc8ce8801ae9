use Rattle.std.proofs.Common.{◌≡◌, None, IfErr, IfOk, subst}
use Rattle.mk_build.specs.BuildViews.{IsAttachRefused}
use Rattle.std.specs.Option.{option_map}
use Rattle.mk_build.specs.Building.{attach_refusal}
use Rattle.mk_build.specs.Multiparts.{attached_as}
use Rattle.mk_build.proofs.attaching.attach_with.Goals as goal

pub returns-clause-text : goal.returns-clause-text
returns-clause-text c = subst (λ a. IfOk c.attach_of.result (λ text. (attach_refusal a ≡ None) × (text.items ≡ attached_as c.args.eol (option_map (λ c. c.now) c.args.options.charset) a))) c.in_ok-written.ensures c.attach_of.ensures.text

pub returns-clause-refused : goal.returns-clause-refused
returns-clause-refused c = subst (λ a. IfErr c.attach_of.result (λ error. IsAttachRefused a error)) c.in_ok-written.ensures c.attach_of.ensures.refused
