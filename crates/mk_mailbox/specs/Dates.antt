-- Dates at the end of From-lines (RFC 4155, appendix A: as asctime prints them, `Www Mmm DD hh:mm:ss yyyy`; the zone is our own).
use Rattle.std.specs.Prelude.{◌==◌, ◌&&◌, ◌||◌, ◌+◌, ◌-◌, ◌*◌, ℕ, Bool, false, not, List, [], ◌∷◌, codes, drop, length, nat_eq, nat_lt, if◌then◌else◌}
use Rattle.std.specs.Char.{is_ascii_alphabetic, is_ascii_digit}
use Rattle.std.specs.List.{list_all, starts_with}
use Rattle.std.specs.Option.{option_map_or}
use Rattle.mk_line.specs.Ascii.{colon, hyphen, is_blank, space}
use Rattle.mk_line.specs.Lines.{is_nil}
use Rattle.mk_line.specs.Parting.{before, following}

-- b'+'
abbrev pub plus_sign : ℕ
plus_sign = 43

-- the name of a day comes first, and a space
abbrev pub begins_with_weekday : List ℕ → Bool
begins_with_weekday text =
    starts_with nat_eq text (codes "Mon ")
    || starts_with nat_eq text (codes "Tue ")
    || starts_with nat_eq text (codes "Wed ")
    || starts_with nat_eq text (codes "Thu ")
    || starts_with nat_eq text (codes "Fri ")
    || starts_with nat_eq text (codes "Sat ")
    || starts_with nat_eq text (codes "Sun ")

-- the name of a month comes first, and a space
abbrev pub begins_with_month : List ℕ → Bool
begins_with_month text =
    starts_with nat_eq text (codes "Jan ")
    || starts_with nat_eq text (codes "Feb ")
    || starts_with nat_eq text (codes "Mar ")
    || starts_with nat_eq text (codes "Apr ")
    || starts_with nat_eq text (codes "May ")
    || starts_with nat_eq text (codes "Jun ")
    || starts_with nat_eq text (codes "Jul ")
    || starts_with nat_eq text (codes "Aug ")
    || starts_with nat_eq text (codes "Sep ")
    || starts_with nat_eq text (codes "Oct ")
    || starts_with nat_eq text (codes "Nov ")
    || starts_with nat_eq text (codes "Dec ")

-- two digits come first, or a space and a digit, and a space
abbrev pub begins_with_day : List ℕ → Bool
begins_with_day [] = false
begins_with_day (tens ∷ []) = false
begins_with_day (tens ∷ ones ∷ []) = false
begins_with_day (tens ∷ ones ∷ next ∷ more) = (tens == space || is_ascii_digit tens) && is_ascii_digit ones && next == space

-- a number below a limit comes first, of two digits, and this byte
abbrev pub begins_below : ℕ → ℕ → List ℕ → Bool
begins_below limit last [] = false
begins_below limit last (tens ∷ []) = false
begins_below limit last (tens ∷ ones ∷ []) = false
begins_below limit last (tens ∷ ones ∷ next ∷ more) = is_ascii_digit tens && is_ascii_digit ones && nat_lt ((tens - 48) * 10 + (ones - 48)) limit && next == last

-- a time comes first, and a space; second 60 is a leap second
abbrev pub begins_with_time : List ℕ → Bool
begins_with_time text = begins_below 24 colon text && begins_below 60 colon (drop 3 text) && begins_below 61 space (drop 6 text)

-- a year, or the digits of an offset
abbrev pub are_four_digits : List ℕ → Bool
are_four_digits (a ∷ b ∷ c ∷ d ∷ []) = (is_ascii_digit a && is_ascii_digit b) && (is_ascii_digit c && is_ascii_digit d)
are_four_digits text = false

-- a sign and four digits
abbrev pub is_offset : List ℕ → Bool
is_offset [] = false
is_offset (sign ∷ digits) = (sign == plus_sign || sign == hyphen) && are_four_digits digits

-- a zone: one letter or more, or an offset
abbrev pub is_zone : List ℕ → Bool
is_zone text = not (is_nil text) && list_all is_ascii_alphabetic text || is_offset text

-- a year, with a zone before it or after it, or without one
abbrev pub is_year : List ℕ → Bool
is_year text =
    let first = before space text in
    option_map_or (λ last. are_four_digits first && is_zone last || is_zone first && are_four_digits last) (following space text) (are_four_digits first)

-- a date: the shortest has 24 bytes, and the year comes after 20
abbrev pub is_date : List ℕ → Bool
is_date text =
    if nat_lt (length text) 24 then false
    else begins_with_weekday text && begins_with_month (drop 4 text) && begins_with_day (drop 8 text) && begins_with_time (drop 11 text) && is_year (drop 20 text)

-- a date stands at the end, after a blank
abbrev pub ends_with_date : List ℕ → Bool
ends_with_date [] = false
ends_with_date (byte ∷ bytes) = is_blank byte && is_date bytes || ends_with_date bytes
