-- The texts of pieces, put together.
use Rattle.std.proofs.Common.{◌≡◌, ◌++◌, ℕ, Option, Some, List, [], ◌∷◌, ap, sym, ◌∙◌, append_assoc, append-nil, codes}
use Rattle.std.proofs.lemmas.List.Concat.{flat_map-append}
use Rattle.std.specs.List.{flat_map}
use Rattle.mk_line.specs.declared.cutting.Ending.{Ending}
use Rattle.mk_line.specs.Lines.{ending_bytes, printed_line}
use Rattle.mk_line.specs.Marks.{delimiter_line}
use Rattle.mk_line.proofs.Joined.{joined}
use Rattle.mk_build.specs.declared.building.BuildError.{BuildError}
use Rattle.mk_build.specs.declared.building.BuildError.TheVariants as build
use Rattle.mk_build.specs.declared.attaching.AttachError.{AttachError}
use Rattle.mk_build.specs.declared.attaching.AttachError.TheVariants as attach
use Rattle.mk_build.specs.declared.pieces.Segment.{Segment}
use Rattle.mk_build.specs.Building.{Attached, attach_refusal, disposition_line, encoded, encoding_line}
use Rattle.mk_build.specs.BuildViews.{IsAttachRefused}
use Rattle.mk_build.specs.Forwards.{Forwarded, attachment_line, ending_after, eight_bit_line, forwarded_part, is_8bit, refusal_with}
use Rattle.mk_build.specs.ForwardViews.{IsRefusedWith}
use Rattle.mk_build.specs.Multiparts.{Multipart, attached_as, part_as, type_line_as}
use Rattle.mk_build.specs.inner.PieceViews.{forward_fields, part_fields, coded_segment}

-- the reason that is found is the one that is defined
pub refused_with : (fields : List (List ℕ)) (parts : List Attached) (messages : List Forwarded) (m : Multipart) (reason : BuildError) → refusal_with fields parts messages m ≡ Some reason → IsRefusedWith fields parts messages m reason
refused_with fields parts messages m (build.BadField index) h = h
refused_with fields parts messages m (build.BadType index) h = h
refused_with fields parts messages m (build.BadName index) h = h
refused_with fields parts messages m build.BadSubtype h = h
refused_with fields parts messages m build.BadCharset h = h
refused_with fields parts messages m build.BadBoundary h = h
refused_with fields parts messages m (build.HoldsBoundary index) h = h
refused_with fields parts messages m build.Memory h = tt

pub attach_refused : (a : Attached) (reason : AttachError) → attach_refusal a ≡ Some reason → IsAttachRefused a reason
attach_refused a attach.BadType h = h
attach_refused a attach.BadName h = h
attach_refused a attach.Memory h = tt

-- four texts, and more after them
four : (a b c d t : List ℕ) → (a ++ (b ++ (c ++ d))) ++ t ≡ a ++ (b ++ (c ++ (d ++ t)))
four a b c d t = simp append_assoc

eight : (a b c d e f g h t : List ℕ) → (a ++ (b ++ (c ++ (d ++ (e ++ (f ++ (g ++ h))))))) ++ t ≡ a ++ (b ++ (c ++ (d ++ (e ++ (f ++ (g ++ (h ++ t)))))))
eight a b c d e f g h t = simp append_assoc

-- a part is its fields and its bytes
pub part_whole : (eol : Ending) (charset : Option (List ℕ)) (a : Attached) (bytes : List ℕ)
    → part_fields eol charset a ++ bytes ≡ type_line_as eol charset a ++ (disposition_line eol a.name a.said ++ (encoding_line eol a.base64 ++ (ending_bytes eol ++ bytes)))
part_whole eol charset a bytes = four (type_line_as eol charset a) (disposition_line eol a.name a.said) (encoding_line eol a.base64) (ending_bytes eol) bytes

-- and a forwarded message its fields and its text
pub forward_whole : (eol : Ending) (boundary : List ℕ) (f : Forwarded) (tail : List ℕ) → tail ≡ f.text ++ ending_bytes (ending_after eol f.text)
    → forward_fields eol boundary f ++ tail ≡ forwarded_part eol boundary f
forward_whole eol boundary f tail e =
    eight (codes "--") boundary (ending_bytes eol) (codes "Content-Type: message/rfc822") (ending_bytes eol) (attachment_line eol f.inline) (eight_bit_line eol (is_8bit f.text)) (ending_bytes eol) tail
    ∙ ap (λ t. codes "--" ++ (boundary ++ (ending_bytes eol ++ (codes "Content-Type: message/rfc822" ++ (ending_bytes eol ++ (attachment_line eol f.inline ++ (eight_bit_line eol (is_8bit f.text) ++ (ending_bytes eol ++ t)))))))) e

-- a part behind its delimiter
pub part_told : (eol : Ending) (m : Multipart) (a : Attached) (one two body : List ℕ) → one ≡ [] ++ printed_line (delimiter_line eol m.boundary) → two ≡ one ++ part_fields eol m.charset a → body ≡ encoded eol a ++ ending_bytes eol
    → two ++ body ≡ part_as eol m a
part_told eol m a one two body p q r =
    let fields = part_fields eol m.charset a in
    let end = ending_bytes eol in
    let whole : fields ++ (encoded eol a ++ end) ≡ attached_as eol m.charset a ++ end =
    sym (append_assoc fields (encoded eol a) end) ∙ ap (λ t. t ++ end) (part_whole eol m.charset a (encoded eol a)) in
    ap (λ t. t ++ body) (q ∙ ap (λ t. t ++ fields) p)
    ∙ (append_assoc (printed_line (delimiter_line eol m.boundary)) fields body
    ∙ (ap (λ t. printed_line (delimiter_line eol m.boundary) ++ (fields ++ t)) r
    ∙ (ap (λ t. printed_line (delimiter_line eol m.boundary) ++ t) whole ∙ ap (λ t. codes "--" ++ t) (append_assoc m.boundary end (attached_as eol m.charset a ++ end)))))

-- a part by itself
pub alone_told : (eol : Ending) (charset : Option (List ℕ)) (a : Attached) (made body : List ℕ) → made ≡ [] ++ part_fields eol charset a → body ≡ encoded eol a ++ []
    → made ++ body ≡ attached_as eol charset a
alone_told eol charset a made body p q =
    (λ i. p i ++ (q ∙ append-nil (encoded eol a)) i) ∙ part_whole eol charset a (encoded eol a)

-- one segment more
pub segment_put : (eol : Ending) (old new : List Segment) (s : Segment) (bytes : List ℕ) → new ≡ old ++ s ∷ [] → coded_segment eol s ≡ bytes
    → flat_map (coded_segment eol) new ≡ flat_map (coded_segment eol) old ++ bytes
segment_put eol old new s bytes e b =
    ap (flat_map (coded_segment eol)) e
    ∙ (flat_map-append (coded_segment eol) old (s ∷ []) ∙ ap (λ t. flat_map (coded_segment eol) old ++ t) (append-nil (coded_segment eol s) ∙ b))

pub segment_first : (eol : Ending) (list new : List Segment) (s : Segment) (bytes : List ℕ) → list ≡ [] → new ≡ list ++ s ∷ [] → coded_segment eol s ≡ bytes → flat_map (coded_segment eol) new ≡ bytes
segment_first eol list new s bytes n e b = segment_put eol [] new s bytes (e ∙ ap (λ xs. xs ++ s ∷ []) n) b

-- five texts, one after another
pub five : (f h p m c one two three four : List ℕ) → one ≡ f ++ h → two ≡ one ++ p → three ≡ two ++ m → four ≡ three ++ c → four ≡ f ++ (h ++ (p ++ (m ++ c)))
five f h p m c one two three four a b d e = joined f h (p ++ (m ++ c)) one four a (joined one p (m ++ c) two four b (joined two m c three four d e))
