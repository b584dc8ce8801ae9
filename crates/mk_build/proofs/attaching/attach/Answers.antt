use Rattle.std.proofs.Common.{◌≡◌, None, IfErr, IfOk, subst}
use Rattle.std.specs.Option.{option_map}
use Rattle.mk_build.specs.declared.attaching.AttachOptions.{AttachOptions}
use Rattle.mk_build.specs.BuildViews.{IsAttachRefused, written_in}
use Rattle.mk_build.specs.Building.{attach_refusal}
use Rattle.mk_build.specs.Multiparts.{attached_as}
use Rattle.mk_build.proofs.attaching.attach.Goals as goal

pub returns-clause-text : goal.returns-clause-text
returns-clause-text c = subst (λ (o : AttachOptions). IfOk c.attach_with.result (λ text. (attach_refusal (written_in o.utf8_names c.args.attached.now) ≡ None) × (text.items ≡ attached_as c.args.eol (option_map (λ c. c.now) o.charset) (written_in o.utf8_names c.args.attached.now)))) c.default.ensures c.attach_with.ensures.text

pub returns-clause-refused : goal.returns-clause-refused
returns-clause-refused c = subst (λ (o : AttachOptions). IfErr c.attach_with.result (λ error. IsAttachRefused (written_in o.utf8_names c.args.attached.now) error)) c.default.ensures c.attach_with.ensures.refused
