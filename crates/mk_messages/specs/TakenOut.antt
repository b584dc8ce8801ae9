-- A message of a mailbox as it was before it went in: without the line that ends it there, and without the marks of lines (own; RFC
-- 4155, appendix A, and the marks of mboxrd).
use Rattle.std.specs.Prelude.{◌==◌, ◌&&◌, ◌-◌, if◌then◌else◌, ℕ, Bool, nat_eq, nat_lt, List, None, codes, drop, length, map, take}
use Rattle.std.specs.List.{last_or, prefix_len, starts_with}
use Rattle.std.specs.Option.{option_map_or}
use Rattle.mk_line.specs.Lines.{TextLine, cut, ending_bytes, is_nil, text_line, text_of}
use Rattle.mk_mailbox.specs.declared.from_lines.FromLines.TheVariants.{Any}
use Rattle.mk_mailbox.specs.Places.{begins_from}

-- a message that begins with a From-line, without its last line where that is empty; any other text as it is
abbrev pub without_separator : List ℕ → List ℕ
without_separator text =
    let separator = option_map_or (λ l. if is_nil l.content then length (ending_bytes l.ending) else 0) (last_or None (cut text)) 0 in
    if begins_from Any (cut text) then take (length text - separator) text else text

-- b'>'
abbrev pub mark : ℕ
mark = 62

-- a line that a mailbox has marked, so that it is no From-line: one mark or more, and then `From `
abbrev pub is_marked : List ℕ → Bool
is_marked content =
    let marks = prefix_len (λ byte. byte == mark) content in
    nat_lt 0 marks && starts_with nat_eq (drop marks content) (codes "From ")

-- a line without one of its marks
abbrev pub unmarked_line : TextLine → TextLine
unmarked_line l = if is_marked l.content then text_line (drop 1 l.content) l.ending else l

-- a message without one mark of each line that a mailbox has marked
abbrev pub unmarked : List ℕ → List ℕ
unmarked text = text_of (map unmarked_line (cut text))

-- a message as it was before it went in, without the marks of its lines where that is asked for
abbrev pub taken_out : Bool → List ℕ → List ℕ
taken_out unquote message = if unquote then unmarked (without_separator message) else without_separator message
