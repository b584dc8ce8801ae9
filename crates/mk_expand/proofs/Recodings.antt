-- The edits of a content in another transfer encoding, as they are made.
use Rattle.std.proofs.Common.{◌≡◌, ◌++◌, if◌then◌else◌, ℕ, true, false, Option, Some, Ok, Err, List, [], ◌∷◌, sym, ap, ◌∙◌}
use Rattle.mk_line.specs.declared.cutting.Ending.{Ending}
use Rattle.mk_tree.specs.declared.shapes.Kind.TheVariants.{Leaf}
use Rattle.mk_tree.specs.Forms.{kind_in}
use Rattle.mk_tree.specs.Sections.{Placed, content_text}
use Rattle.mk_decide.specs.Edits.{PlainEdit, SetBody}
use Rattle.mk_view.specs.Listing.{encoding_in}
use Rattle.mk_script.specs.declared.script.ChosenEncoding.{ChosenEncoding}
use Rattle.mk_expand.specs.Contents.{body_with}
use Rattle.mk_expand.specs.Encodings.{decoded_in, encoded_as, encoding_field, encoding_set, encoding_set_by, may_be_encoded, recoded, recoded_to}
use Rattle.mk_expand.specs.FieldWords.{put}
use Rattle.mk_expand.specs.Meanings.{BinaryContent}

-- a leaf that was decoded and encoded again
pub recoded_told : (eol : Ending) (path : List ℕ) (to : ChosenEncoding) (o : Option Placed) (p : Placed) (bytes body : List ℕ) (edits : List PlainEdit) → o ≡ Some p → kind_in p.entity ≡ Leaf → decoded_in (encoding_in p) (content_text p) ≡ Ok bytes
    → may_be_encoded to bytes ≡ true → body ≡ body_with eol p.followed (encoded_as to eol bytes) → edits ≡ put path (encoding_field eol to) o ++ SetBody path body ∷ [] → encoding_set eol path to o ≡ Ok edits
recoded_told eol path to o p bytes body edits found is_leaf read allowed made is =
    ap (encoding_set eol path to) found
    ∙ (ap (λ k. encoding_set_by k eol path to p) is_leaf
    ∙ (ap (recoded eol path to p) read
    ∙ (ap (λ b. if b then Ok (recoded_to eol path to p bytes) else Err BinaryContent) allowed
    ∙ (ap (λ x. Ok (put path (encoding_field eol to) (Some p) ++ SetBody path x ∷ [])) (sym made)
    ∙ (ap (λ x. Ok (put path (encoding_field eol to) x ++ SetBody path body ∷ [])) (sym found) ∙ ap Ok (sym is))))))

-- one that may not be in it is refused
pub recoded_refused : (eol : Ending) (path : List ℕ) (to : ChosenEncoding) (o : Option Placed) (p : Placed) (bytes : List ℕ) → o ≡ Some p → kind_in p.entity ≡ Leaf → decoded_in (encoding_in p) (content_text p) ≡ Ok bytes
    → may_be_encoded to bytes ≡ false → encoding_set eol path to o ≡ Err BinaryContent
recoded_refused eol path to o p bytes found is_leaf read refused =
    ap (encoding_set eol path to) found
    ∙ (ap (λ k. encoding_set_by k eol path to p) is_leaf
    ∙ (ap (recoded eol path to p) read ∙ ap (λ b. if b then Ok (recoded_to eol path to p bytes) else Err BinaryContent) refused))
