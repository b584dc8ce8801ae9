-- What pieces in memory are still to give, and what is put down before the bytes of a part.
use Rattle.std.specs.Prelude.{◌+◌, ◌++◌, ℕ, Option, List, codes, length, map, sum}
use Rattle.std.specs.List.{flat_map}
use Rattle.mk_line.specs.declared.cutting.Ending.{Ending}
use Rattle.mk_line.specs.declared.cutting.Ending.TheVariants.{Missing}
use Rattle.mk_line.specs.Lines.{ending_bytes}
use Rattle.mk_code.specs.Base64Text.{base64_encoded}
use Rattle.mk_code.specs.QuotedPrintable.{qp_encoded}
use Rattle.mk_build.specs.declared.pieces.Body.{Body}
use Rattle.mk_build.specs.declared.pieces.Coding.{Coding}
use Rattle.mk_build.specs.declared.pieces.Coding.TheVariants.{Qp, Base64, Plain}
use Rattle.mk_build.specs.declared.pieces.Segment.{Segment}
use Rattle.mk_build.specs.Building.{Attached, disposition_line, encoding_line}
use Rattle.mk_build.specs.Forwards.{Forwarded, attachment_line, eight_bit_line, is_8bit}
use Rattle.mk_build.specs.Multiparts.{type_line_as}

-- bytes as they go
abbrev pub coded : Coding → Ending → List ℕ → List ℕ
coded Qp eol bytes = qp_encoded eol bytes
coded Base64 eol bytes = base64_encoded eol bytes
coded Plain eol bytes = bytes

-- the ending between what goes of a front, cut where it may be, and of the rest
abbrev pub gap : Coding → Ending → Ending
gap Qp eol = eol
gap Base64 eol = eol
gap Plain eol = Missing

-- what goes of a body: its bytes, and the ending after them
abbrev pub coded_body : Ending → Body → List ℕ
coded_body eol b = coded b.coding eol b.bytes.now ++ ending_bytes b.ending

-- what goes of a segment
abbrev pub coded_segment : Ending → Segment → List ℕ
coded_segment eol s = s.made.items ++ coded_body eol s.body

-- what goes of the body that is under way, and of the segments after it
abbrev pub to_come : Ending → Body → List Segment → List ℕ
to_come eol body segments = coded_body eol body ++ flat_map (coded_segment eol) segments

-- in at most so many pieces: one for each byte of a body, and one for each segment
abbrev pub most_left : Body → List Segment → ℕ
most_left body segments = length body.bytes.now + sum (map (λ s. length s.body.bytes.now + 1) segments)

-- the fields of a part, and the empty line after them
abbrev pub part_fields : Ending → Option (List ℕ) → Attached → List ℕ
part_fields eol charset a = type_line_as eol charset a ++ (disposition_line eol a.name a.said ++ (encoding_line eol a.base64 ++ ending_bytes eol))

-- the delimiter before a forwarded message, the fields of its part, and the empty line after them
abbrev pub forward_fields : Ending → List ℕ → Forwarded → List ℕ
forward_fields eol boundary f =
    codes "--"
    ++ (boundary
    ++ (ending_bytes eol
    ++ (codes "Content-Type: message/rfc822" ++ (ending_bytes eol ++ (attachment_line eol f.inline ++ (eight_bit_line eol (is_8bit f.text) ++ ending_bytes eol))))))
