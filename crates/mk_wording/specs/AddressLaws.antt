-- Plain addresses in lists (RFC 5322, 3.4).
use Rattle.std.specs.Prelude.{◌≡◌, ◌==◌, ◌&&◌, ◌||◌, ◌++◌, ℕ, Bool, true, false, not, List, [], ◌∷◌, codes}
use Rattle.std.specs.List.{AllByRecursion, flat_map, list_all}
use Rattle.mk_line.specs.Ascii.{line_feed, opening, quote}
use Rattle.mk_line.specs.Lines.{is_nil}
use Rattle.mk_mail.specs.Prepended.{is_white}
use Rattle.mk_wording.specs.Scanned.{is_one_of}
use Rattle.mk_wording.specs.AddressLists.{address_lines, at_sign, comma, opening_bracket}

-- a byte that is no white space, no mark between addresses, and begins no quoted string, comment or domain literal
abbrev pub needs_no_quotes : ℕ → Bool
needs_no_quotes byte = not (is_white byte) && (not (is_one_of (codes "<>,;:") byte) && not (byte == quote || (byte == opening || byte == opening_bracket)))

-- a local part and a domain of such bytes, with an at sign between them
pub record IsPlainAddress (address : List ℕ) : Type 0 where
  pub local : List ℕ
  pub domain : List ℕ
  pub is : address ≡ local ++ at_sign ∷ domain
  pub bare : list_all needs_no_quotes address ≡ true
  pub begins : is_nil local ≡ false
  pub ends : is_nil domain ≡ false
  pub once : list_all (λ byte. not (byte == at_sign)) domain ≡ true

-- of plain addresses, each with a comma after it, each is printed on a line
abbrev pub PlainAddressesAreLines : Type 0
PlainAddressesAreLines = (addresses : List (List ℕ)) → AllByRecursion IsPlainAddress addresses → address_lines (flat_map (λ a. a ++ comma ∷ []) addresses) ≡ flat_map (λ a. a ++ line_feed ∷ []) addresses
