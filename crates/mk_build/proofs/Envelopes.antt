-- Messages that are forwarded: what is left of a text without its envelope; and a message that nothing is against.
use Rattle.mk_line.specs.declared.cutting.Ending.{Ending}
use Rattle.std.specs.Prelude.{[]}
use Rattle.std.proofs.Common.{◌≡◌, ℕ, true, false, not, None, List, ◌∷◌, refl, sym}
use Rattle.std.specs.List.{position}
use Rattle.mk_line.specs.Kinds.{is_from_line}
use Rattle.mk_line.specs.Lines.{TextLine, cut}
use Rattle.mk_line.proofs.Cuts.{text_cut}
use Rattle.mk_build.specs.Building.{Attached, is_free_field, is_media, is_name}
use Rattle.std.specs.Option.{option_map_or}
use Rattle.mk_build.specs.Forwards.{Forwarded, is_clear, refusal_with, without_envelope, built_with, built, build_refusal}
use Rattle.mk_build.specs.Multiparts.{Multipart, multipart_refusal, mixed}

-- a From-line goes, and all else stays
pub envelope_gone : (text : List ℕ) (l : TextLine) (rest : List ℕ) → cut text ≡ l ∷ cut rest → is_from_line l.content ≡ true → rest ≡ without_envelope text
envelope_gone text l rest e t = rw (e, t) (sym (text_cut rest))

pub envelope_none : (text : List ℕ) (l : TextLine) (rest : List ℕ) → cut text ≡ l ∷ cut rest → is_from_line l.content ≡ false → text ≡ without_envelope text
envelope_none text l rest e f = rw (e, f) refl

-- nothing is against a message
pub none_against : (fields : List (List ℕ)) (parts : List Attached) (messages : List Forwarded) (m : Multipart) → position (λ f. not (is_free_field f)) fields ≡ None → position (λ a. not (is_media a.media)) parts ≡ None → position (λ a. not (option_map_or is_name a.name true)) parts ≡ None → multipart_refusal m ≡ None → position (λ f. not (is_clear m.boundary f.text)) messages ≡ None → refusal_with fields parts messages m ≡ None
none_against fields parts messages m f t n r h = rw (f, t, n, r, h) refl

-- what is built of fields and parts alone is said by the message of a multipart/mixed
pub plainly_built : (eol : Ending) (fields : List (List ℕ)) (parts : List Attached) (boundary : List ℕ) → (built eol fields parts boundary ≡ built_with eol fields parts [] (mixed boundary)) × (build_refusal fields parts boundary ≡ refusal_with fields parts [] (mixed boundary))
plainly_built eol fields parts boundary = (refl, refl)
