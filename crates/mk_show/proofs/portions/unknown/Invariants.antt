use Rattle.std.proofs.Common.{◌≡◌, ◌++◌, if◌then◌else◌, codes, map, take}
use Rattle.mk_line.specs.Ascii.{underscore}
use Rattle.mk_head.specs.Values.{is_token_byte}
use Rattle.mk_view.specs.Listing.{path_text}
use Rattle.mk_show.proofs.portions.unknown.Given as goal

abbrev pub invariant-loop-byte : goal.invariant-loop-byte
invariant-loop-byte l = l.line.items ≡ path_text l.path ++ (codes ": UnknownCharset " ++ map (λ byte. if is_token_byte byte then byte else underscore) (take l.byte-index l.charset))
