-- The media types of files, by the endings of their names (the types are those of IANA's registry of media types; which endings mean them is own).
use Rattle.std.specs.Prelude.{◌==◌, ◌∷◌, [], if◌then◌else◌, ℕ, List, codes, is_some}
use Rattle.std.specs.List.{slice_split}
use Rattle.std.specs.Str.{bytes_eq, str_to_ascii_lowercase}
use Rattle.mk_line.specs.Parting.{following}
use Rattle.mk_pack.specs.Parts.{file_name, last_of}

-- an ending, in lower case, and the type of files whose names end so
pub record FileRow : Type 0 where
  pub ending : List ℕ
  pub media : List ℕ

-- a row of the table
abbrev row : List ℕ → List ℕ → FileRow
row ending media = record { ending = ending; media = media }

-- the endings that are known
abbrev pub file_rows : List FileRow
file_rows =
    row (codes "txt") (codes "text/plain")
    ∷ row (codes "text") (codes "text/plain")
    ∷ row (codes "log") (codes "text/plain")
    ∷ row (codes "md") (codes "text/markdown")
    ∷ row (codes "html") (codes "text/html")
    ∷ row (codes "htm") (codes "text/html")
    ∷ row (codes "css") (codes "text/css")
    ∷ row (codes "csv") (codes "text/csv")
    ∷ row (codes "js") (codes "text/javascript")
    ∷ row (codes "ics") (codes "text/calendar")
    ∷ row (codes "vcf") (codes "text/vcard")
    ∷ row (codes "xml") (codes "application/xml")
    ∷ row (codes "json") (codes "application/json")
    ∷ row (codes "pdf") (codes "application/pdf")
    ∷ row (codes "rtf") (codes "application/rtf")
    ∷ row (codes "ps") (codes "application/postscript")
    ∷ row (codes "doc") (codes "application/msword")
    ∷ row (codes "docx") (codes "application/vnd.openxmlformats-officedocument.wordprocessingml.document")
    ∷ row (codes "xls") (codes "application/vnd.ms-excel")
    ∷ row (codes "xlsx") (codes "application/vnd.openxmlformats-officedocument.spreadsheetml.sheet")
    ∷ row (codes "ppt") (codes "application/vnd.ms-powerpoint")
    ∷ row (codes "pptx") (codes "application/vnd.openxmlformats-officedocument.presentationml.presentation")
    ∷ row (codes "odt") (codes "application/vnd.oasis.opendocument.text")
    ∷ row (codes "ods") (codes "application/vnd.oasis.opendocument.spreadsheet")
    ∷ row (codes "odp") (codes "application/vnd.oasis.opendocument.presentation")
    ∷ row (codes "epub") (codes "application/epub+zip")
    ∷ row (codes "zip") (codes "application/zip")
    ∷ row (codes "gz") (codes "application/gzip")
    ∷ row (codes "tgz") (codes "application/gzip")
    ∷ row (codes "p7m") (codes "application/pkcs7-mime")
    ∷ row (codes "p7s") (codes "application/pkcs7-signature")
    ∷ row (codes "eml") (codes "message/rfc822")
    ∷ row (codes "jpg") (codes "image/jpeg")
    ∷ row (codes "jpeg") (codes "image/jpeg")
    ∷ row (codes "png") (codes "image/png")
    ∷ row (codes "gif") (codes "image/gif")
    ∷ row (codes "svg") (codes "image/svg+xml")
    ∷ row (codes "webp") (codes "image/webp")
    ∷ row (codes "avif") (codes "image/avif")
    ∷ row (codes "heic") (codes "image/heic")
    ∷ row (codes "bmp") (codes "image/bmp")
    ∷ row (codes "tif") (codes "image/tiff")
    ∷ row (codes "tiff") (codes "image/tiff")
    ∷ row (codes "mp3") (codes "audio/mpeg")
    ∷ row (codes "m4a") (codes "audio/mp4")
    ∷ row (codes "ogg") (codes "audio/ogg")
    ∷ row (codes "flac") (codes "audio/flac")
    ∷ row (codes "wav") (codes "audio/vnd.wave")
    ∷ row (codes "mp4") (codes "video/mp4")
    ∷ row (codes "mov") (codes "video/quicktime")
    ∷ row (codes "mpg") (codes "video/mpeg")
    ∷ row (codes "mpeg") (codes "video/mpeg")
    ∷ []

-- b'.'
abbrev pub full_stop : ℕ
full_stop = 46

-- the type of files of which nothing is known (RFC 2046, 4.5.1)
abbrev pub unknown_type : List ℕ
unknown_type = codes "application/octet-stream"

-- the type of an ending, which is given in lower case
abbrev pub type_in : List FileRow → List ℕ → List ℕ
type_in [] ending = unknown_type
type_in (r ∷ rs) ending = if bytes_eq ending (str_to_ascii_lowercase r.ending) then r.media else type_in rs ending

-- the type of a file: by what follows the last full stop of its name, in any case, where it has one
abbrev pub type_of_file : List ℕ → List ℕ
type_of_file path =
    if is_some (following full_stop (file_name path)) then type_in file_rows (str_to_ascii_lowercase (last_of (slice_split (λ byte. byte == full_stop) (file_name path)))) else unknown_type
