-- What is attached, in memory, as plain data; and why it is refused.
use Rattle.std.specs.Prelude.{◌≡◌, Bool, true, false, None, Some}
use Rattle.std.specs.Option.{option_map}
use Rattle.mk_build.specs.declared.attachment.Attach.{Attach}
use Rattle.mk_build.specs.declared.attachment.Written.{Written}
use Rattle.mk_build.specs.declared.attaching.AttachError.{AttachError}
use Rattle.mk_build.specs.declared.attaching.AttachError.TheVariants as attach
use Rattle.mk_build.specs.Building.{Attached, attach_refusal, named_in_utf8}

-- its fields as lists
abbrev pub attached_of : Attach → Attached
attached_of a = record { media = a.media.items; name = option_map (λ v. v.items) a.name; said = None; text = a.text.items; base64 = a.base64 }

-- what is attached, under a name in UTF-8 where that is asked for
abbrev pub written_in : Bool → Attach → Attached
written_in false a = attached_of a
written_in true a = named_in_utf8 (attached_of a)

-- what is written of it
abbrev pub written_of : Written → Attached
written_of w = record { media = w.media.now; name = option_map (λ v. v.items) w.name; said = option_map (λ v. v.now) w.said; text = w.text.now; base64 = w.base64 }

-- the reason is the first; memory may be wanted at any time
abbrev pub IsAttachRefused : Attached → AttachError → Type 0
IsAttachRefused a attach.BadType = attach_refusal a ≡ Some attach.BadType
IsAttachRefused a attach.BadName = attach_refusal a ≡ Some attach.BadName
IsAttachRefused a attach.Memory = Unit {0}
