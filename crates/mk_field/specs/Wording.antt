-- Values of fields as they are printed: on one line (RFC 5322, 2.2.3), encoded words decoded (RFC 2047; where they are read is own).
use Rattle.std.specs.Prelude.{◌++◌, ℕ, List, [], ◌∷◌, map}
use Rattle.mk_line.specs.Ascii.{line_feed}
use Rattle.mk_code.specs.EncodedWords.{text_decoded, unfolded}
use Rattle.mk_wording.specs.AddressLists.{address_lines}
use Rattle.mk_wording.specs.Values.{line_byte, unbroken}
use Rattle.mk_field.specs.declared.filters.ValueForm.{ValueForm}
use Rattle.mk_field.specs.declared.filters.ValueForm.TheVariants.{AsWritten, Unfolded, Decoded, Addresses}

-- a text as a line, without the blanks at both ends
abbrev pub one_line : List ℕ → List ℕ
one_line text = unbroken text ++ line_feed ∷ []

-- a value as it is printed: as it is written, unfolded (`--unfold`), with its encoded words decoded besides (`--decode`), or its
-- addresses (`--addresses`)
abbrev pub printed_value : ValueForm → List ℕ → List ℕ
printed_value AsWritten value = value
printed_value Unfolded value = one_line (unfolded value)
printed_value Decoded value = one_line (text_decoded value)
printed_value Addresses value = address_lines (map line_byte (unfolded value))
