use Rattle.std.proofs.Common.{◌&&◌, ap, sym, ◌∙◌, refl, false, true}
use Rattle.mk_line.specs.Lines.{cut as lines_of}
use Rattle.mk_head.specs.Split.{fields_from}
use Rattle.mk_head.specs.Types.{header_encoding}
use Rattle.std.specs.Option.{option_map_or}
use Rattle.mk_tree.specs.Kinds.{is_identity}
use Rattle.mk_tree.proofs.KindsSaid.{kind_none}
use Rattle.mk_head.specs.Encodings.{encoding_of}
use Rattle.mk_head.specs.declared.encodings.Encoding.TheVariants.{Identity}
use Rattle.mk_tree.proofs.describing.describe_untyped.Goals as goal

pub returns-then-not-digest : goal.returns-then-not-digest
returns-then-not-digest c =
    let fields = fields_from false (lines_of c.args.head.now) in
    kind_none fields c.args.digest (header_encoding fields) false refl (sym c.requires.untyped) (ap (λ t. t && is_identity (header_encoding fields)) c.if-not-digest.true)

pub returns-then-is_identity : goal.returns-then-is_identity
returns-then-is_identity c =
    kind_none (fields_from false (lines_of c.args.head.now)) c.args.digest c.in_ok-encoding.encoding true (c.in_ok-encoding.ensures ∙ ap (λ o. option_map_or encoding_of o Identity) c.requires.said) (sym c.requires.untyped)
    (ap (λ t. t && is_identity c.in_ok-encoding.encoding) c.if-not-digest.false ∙ (sym c.is_identity.ensures ∙ c.if-is_identity.true))

pub returns-else-is_identity : goal.returns-else-is_identity
returns-else-is_identity c =
    kind_none (fields_from false (lines_of c.args.head.now)) c.args.digest c.in_ok-encoding.encoding false (c.in_ok-encoding.ensures ∙ ap (λ o. option_map_or encoding_of o Identity) c.requires.said) (sym c.requires.untyped)
    (ap (λ t. t && is_identity c.in_ok-encoding.encoding) c.if-not-digest.false ∙ (sym c.is_identity.ensures ∙ c.if-is_identity.false))
