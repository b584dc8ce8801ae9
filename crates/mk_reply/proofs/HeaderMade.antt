-- A header that is made field by field.
use Rattle.std.proofs.Common.{◌≡◌, ◌∙◌, ◌++◌, ℕ, List, [], Some, codes, false, ap, append_assoc, sym}
use Rattle.mk_line.specs.declared.cutting.Ending.{Ending}
use Rattle.mk_line.specs.Lines.{ending_bytes, is_nil}
use Rattle.mk_head.specs.Fields.{FieldText}
use Rattle.mk_reply.specs.Replies.{addressees, earlier_identifiers, header_of_reply, reply_for, reply_line, subject_of_reply, with_identifier, words_of_name}

five : (a b c d e t0 t1 t2 t3 t4 t5 : List ℕ) → t0 ≡ [] → t1 ≡ t0 ++ a → t2 ≡ t1 ++ b → t3 ≡ t2 ++ c → t4 ≡ t3 ++ d → t5 ≡ t4 ++ e → t5 ≡ a ++ (b ++ (c ++ (d ++ e)))
five a b c d e t0 t1 t2 t3 t4 t5 h0 h1 h2 h3 h4 h5 =
    h5
    ∙ (ap (λ t. t ++ e) (h4 ∙ ap (λ t. t ++ d) (h3 ∙ ap (λ t. t ++ c) (h2 ∙ ap (λ t. t ++ b) (h1 ∙ ap (λ t. t ++ a) h0))))
    ∙ (append_assoc ((a ++ b) ++ c) d e
    ∙ (append_assoc (a ++ b) c (d ++ e)
    ∙ append_assoc a b (c ++ (d ++ e)))))

-- the fields one after another, and the empty line
pub header_made : (eol : Ending) (fields : List FieldText) (to subject identifier references last t0 t1 t2 t3 t4 t5 : List ℕ)
    → to ≡ addressees fields
    → subject ≡ subject_of_reply (words_of_name (codes "Subject") fields)
    → identifier ≡ words_of_name (codes "Message-ID") fields
    → references ≡ with_identifier eol (earlier_identifiers fields) (words_of_name (codes "Message-ID") fields)
    → last ≡ ending_bytes eol
    → is_nil to ≡ false
    → t0 ≡ [] → t1 ≡ t0 ++ reply_line eol (codes "To") to → t2 ≡ t1 ++ reply_line eol (codes "Subject") subject
    → t3 ≡ t2 ++ reply_line eol (codes "In-Reply-To") identifier → t4 ≡ t3 ++ reply_line eol (codes "References") references → t5 ≡ t4 ++ last
    → Some t5 ≡ reply_for eol fields
header_made eol fields to subject identifier references last t0 t1 t2 t3 t4 t5 e1 e2 e3 e4 e5 filled h0 h1 h2 h3 h4 h5 =
    let all : t5 ≡ header_of_reply eol fields =
    five _ _ _ _ _ t0 t1 t2 t3 t4 t5 h0
    (h1 ∙ ap (λ w. t0 ++ reply_line eol (codes "To") w) e1)
    (h2 ∙ ap (λ w. t1 ++ reply_line eol (codes "Subject") w) e2)
    (h3 ∙ ap (λ w. t2 ++ reply_line eol (codes "In-Reply-To") w) e3)
    (h4 ∙ ap (λ w. t3 ++ reply_line eol (codes "References") w) e4)
    (h5 ∙ ap (λ w. t4 ++ w) e5) in
    let some : is_nil (addressees fields) ≡ false = sym (ap is_nil e1) ∙ filled in
    rw some (ap Some all)
