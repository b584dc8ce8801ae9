use Rattle.std.proofs.Common.{◌≡◌, take, true, is_some, encode_utf8}
use Rattle.std.specs.List.{flat_map, list_all}
use Rattle.std.specs.Prelude.{unwrap_or}
use Rattle.std.specs.String.{string_bytes}
use Rattle.mk_code.specs.Charsets.{character_in}
use Rattle.mk_code.proofs.charsets.from_table.Given as goal

abbrev pub invariant-loop-byte : goal.invariant-loop-byte
invariant-loop-byte l = record {
  stand : list_all (λ byte. is_some (character_in l.upper byte)) (take l.byte-index l.bytes) ≡ true;
  text : string_bytes l.text ≡ flat_map (λ byte. encode_utf8 (unwrap_or (character_in l.upper byte) 0)) (take l.byte-index l.bytes);
}
