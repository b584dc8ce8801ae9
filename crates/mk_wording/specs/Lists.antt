-- Lists of addresses and of parameters as they are written (RFC 5322, 3.4; RFC 2045, 5.1).
use Rattle.std.specs.Prelude.{ℕ, Option, Some, List, [], ◌∷◌, codes}
use Rattle.mk_line.specs.declared.cutting.Ending.{Ending}
use Rattle.mk_line.specs.Ascii.{colon}
use Rattle.mk_head.specs.Values.{Plain}
use Rattle.mk_wording.specs.Addresses.{angle, worded_address}
use Rattle.mk_wording.specs.Parameters.{parameter_first}
use Rattle.mk_wording.specs.Scanned.{ListEntry, before_mark, entries, from_mark, is_one_of}
use Rattle.mk_wording.specs.Stretches.{part_before, stretches, worded_text}
use Rattle.mk_wording.specs.declared.lists.ListKind.{ListKind}
use Rattle.mk_wording.specs.declared.lists.ListKind.TheVariants.{Addresses, Parameters}
use Rattle.mk_wording.specs.declared.stretches.Outside.TheVariants.{Ascii}

-- what ends an address or the name of a group, and what ends a parameter
abbrev pub ends_of : ListKind → List ℕ
ends_of Addresses = codes ",;:"
ends_of Parameters = codes ";"

-- an entry with its name in encoded words, where it needs them, or with its charset; nothing where another part isn't ASCII
abbrev pub worded_entry : ListKind → Ending → ListEntry → Option (List ℕ)
worded_entry Addresses eol e = worded_address eol (is_one_of e.end colon) (before_mark angle Plain e.text) (from_mark angle Plain e.text)
worded_entry Parameters eol e = parameter_first eol (stretches Plain e.text)

-- such entries
abbrev pub worded_entries : ListKind → Ending → List ListEntry → Option (List ℕ)
worded_entries kind eol [] = Some []
worded_entries kind eol (e ∷ es) = part_before e.end (worded_entry kind eol e) (worded_entries kind eol es)

-- a list of such entries
abbrev pub worded_list : ListKind → Ending → List ℕ → Option (List ℕ)
worded_list kind eol value = worded_entries kind eol (entries (ends_of kind) Plain value)

-- what stands before the first parameter, and the parameters
abbrev pub worded_pieces : Ending → List ListEntry → Option (List ℕ)
worded_pieces eol [] = Some []
worded_pieces eol (e ∷ es) = part_before e.end (worded_text Ascii eol e.text) (worded_entries Parameters eol es)

-- a value with parameters, each with its charset where it isn't ASCII; nothing where another part isn't
abbrev pub worded_parameters : Ending → List ℕ → Option (List ℕ)
worded_parameters eol value = worded_pieces eol (entries (ends_of Parameters) Plain value)
