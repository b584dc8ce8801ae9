-- The message of fields, parts and messages, as it is packed with an ending of lines.
use Rattle.std.specs.Prelude.{ℕ, List, unwrap_or}
use Rattle.mk_line.specs.declared.cutting.Ending.{Ending}
use Rattle.mk_build.specs.Building.{Attached}
use Rattle.mk_build.specs.Forwards.{Forwarded, built_with, refusal_with}
use Rattle.mk_pack.specs.Packing.{Manner, multipart_with, told}
use Rattle.mk_pack.specs.FreeBoundary.{free_boundary}
use Rattle.mk_transfer.specs.Said.{Run}

-- the message, or the reason against it; the boundary is made of the files as they are named
abbrev pub packed_from : Manner → Ending → (fields : List (List ℕ)) → (files parts : List Attached) → List Forwarded → Run
packed_from m eol fields files parts messages =
    let multipart = multipart_with m (unwrap_or m.boundary (free_boundary fields files messages)) in
    told (built_with eol fields parts messages multipart) (refusal_with fields parts messages multipart)
