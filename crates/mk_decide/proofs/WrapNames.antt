-- Parts of what a section is wrapped in, by names.
use Rattle.std.proofs.Common.{◌++◌, ℕ, Bool, List, [], ◌∷◌, codes, nat_eq}
use Rattle.std.specs.List.{starts_with}
use Rattle.mk_line.specs.declared.cutting.Ending.{Ending}
use Rattle.mk_line.specs.Lines.{TextLine}
use Rattle.mk_head.specs.Fields.{name_of}
use Rattle.mk_head.specs.Types.{type_line}
use Rattle.mk_head.specs.Values.{lowered}
use Rattle.mk_tree.specs.Places.{Frame}
use Rattle.mk_decide.specs.Wrapping.{version_lines}

-- a field start whose name begins with Content-
abbrev pub describes_content : TextLine → Bool
describes_content l = starts_with nat_eq (lowered (name_of l)) (codes "content-")

-- the fields of the multipart: those that don't describe the content, and the made ones
abbrev pub outer_fields : Ending → List Frame → List TextLine → List ℕ → List ℕ → List TextLine
outer_fields eol fs others subtype boundary = others ++ (version_lines eol fs others ++ (type_line eol subtype boundary ∷ []))
