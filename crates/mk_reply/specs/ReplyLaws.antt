-- The law of answers.
use Rattle.std.specs.Prelude.{◌≡◌, ◌++◌, ◌∷◌, [], false, List, ℕ, Some, codes}
use Rattle.mk_line.specs.declared.cutting.Ending.{Ending}
use Rattle.mk_line.specs.Lines.{cut, eol_of, text_line}
use Rattle.mk_head.specs.Fields.{FieldText, fields_of}
use Rattle.mk_head.specs.Split.{fields_from, rest_from}
use Rattle.mk_tree.specs.Documents.{tree}
use Rattle.mk_tree.specs.Sections.{root_of, section_fields}
use Rattle.mk_reply.specs.Replies.{addressees, earlier_identifiers, reply_line, reply_to, subject_of_reply, with_identifier, words_of_name}

-- the field of a line of an answer; none where it says nothing
abbrev pub reply_field : Ending → List ℕ → List ℕ → List FieldText
reply_field eol name [] = []
reply_field eol name (byte ∷ bytes) = record { name = name; raw = reply_line eol name (byte ∷ bytes) } ∷ []

-- the fields of an answer: four at most (RFC 5322, 3.6.3 to 3.6.5)
abbrev pub fields_of_reply : Ending → List FieldText → List FieldText
fields_of_reply eol fields =
    reply_field eol (codes "To") (addressees fields)
    ++ (reply_field eol (codes "Subject") (subject_of_reply (words_of_name (codes "Subject") fields))
    ++ (reply_field eol (codes "In-Reply-To") (words_of_name (codes "Message-ID") fields)
    ++ reply_field eol (codes "References") (with_identifier eol (earlier_identifiers fields) (words_of_name (codes "Message-ID") fields))))

-- the header of an answer is read as its fields and no others, whatever the message holds, and nothing but the empty line follows
pub record IsReadAsReply (message header : List ℕ) : Type 0 where
  pub fields_are : fields_of (fields_from false (cut header)) ≡ fields_of_reply (eol_of (cut message)) (section_fields (root_of (tree message)))
  pub alone : rest_from false (cut header) ≡ text_line [] (eol_of (cut message)) ∷ []

-- the same as a law
abbrev pub RepliesAreHeaders : Type 0
RepliesAreHeaders = (message header : List ℕ) → reply_to message ≡ Some header → IsReadAsReply message header
