-- What edits give, by computing.
use Rattle.std.proofs.Common.{◌≡◌, ℕ, true, false, Result, Ok, Err, List, [], ◌∷◌, refl, codes}
use Rattle.mk_tree.specs.Documents.{Document, tree, printed}
use Rattle.mk_tree.specs.Kinds.{kind}
use Rattle.mk_tree.specs.Equal.{is_stable}
use Rattle.mk_decide.specs.Edits.{PlainEdit, AddField, RemoveField, RenameField, SetField, SetBody, SetSection, InsertPart, RemovePart, Wrap, Refusal, NoSuchSection, NotMultipart, NotLeaf, NotPart, NoSuchField, BadPlace, BadField, BadName, BadBoundary, BadSubtype, OpenLine, HoldsBoundary, Recut}
use Rattle.mk_decide.specs.Outcomes.{edited}

abbrev shown : Result Document Refusal → Result (List ℕ) Refusal
shown (Ok t) = Ok (printed t)
shown (Err e) = Err e

-- the text that an edit of a text gives, or the reason against it
abbrev text_after : PlainEdit → List ℕ → Result (List ℕ) Refusal
text_after e text = shown (edited e (tree text))

first_field : text_after (AddField (1 ∷ []) false (codes "A: b\n")) (codes "") ≡ Ok (codes "A: b\n")
unfolding kind is_stable
first_field = refl

open_field : text_after (AddField (1 ∷ []) false (codes "C: d\n")) (codes "A: b") ≡ Err OpenLine
unfolding kind is_stable
open_field = refl

top_field : text_after (AddField (1 ∷ []) true (codes "C: d\n")) (codes "A: b") ≡ Ok (codes "C: d\nA: b")
unfolding kind is_stable
top_field = refl

no_section : text_after (AddField (2 ∷ []) false (codes "A: b\n")) (codes "") ≡ Err NoSuchSection
unfolding kind is_stable
no_section = refl

bad_field : text_after (AddField (1 ∷ []) false (codes "x\n")) (codes "") ≡ Err BadField
unfolding kind is_stable
bad_field = refl

insert_first : text_after (InsertPart (1 ∷ []) 0 (codes "Content-Transfer-Encoding: base64\n\naGk=\n")) (codes "Subject: t\nContent-Type: multipart/mixed; boundary=\"b\"\n\npre\n--b\n\none\n--b \t\nContent-Type: text/html\n\ntwo\n--b--\nepi\n") ≡ Ok (codes "Subject: t\nContent-Type: multipart/mixed; boundary=\"b\"\n\npre\n--b\nContent-Transfer-Encoding: base64\n\naGk=\n--b\n\none\n--b \t\nContent-Type: text/html\n\ntwo\n--b--\nepi\n")
unfolding kind is_stable
insert_first = refl

insert_last : text_after (InsertPart (1 ∷ []) 2 (codes "Content-Transfer-Encoding: base64\n\naGk=\n")) (codes "Subject: t\nContent-Type: multipart/mixed; boundary=\"b\"\n\npre\n--b\n\none\n--b \t\nContent-Type: text/html\n\ntwo\n--b--\nepi\n") ≡ Ok (codes "Subject: t\nContent-Type: multipart/mixed; boundary=\"b\"\n\npre\n--b\n\none\n--b \t\nContent-Type: text/html\n\ntwo\n--b\nContent-Transfer-Encoding: base64\n\naGk=\n--b--\nepi\n")
unfolding kind is_stable
insert_last = refl

insert_beyond : text_after (InsertPart (1 ∷ []) 3 (codes "Content-Transfer-Encoding: base64\n\naGk=\n")) (codes "Subject: t\nContent-Type: multipart/mixed; boundary=\"b\"\n\npre\n--b\n\none\n--b \t\nContent-Type: text/html\n\ntwo\n--b--\nepi\n") ≡ Err BadPlace
unfolding kind is_stable
insert_beyond = refl

insert_in_leaf : text_after (InsertPart (1 ∷ 1 ∷ []) 0 (codes "Content-Transfer-Encoding: base64\n\naGk=\n")) (codes "Subject: t\nContent-Type: multipart/mixed; boundary=\"b\"\n\npre\n--b\n\none\n--b \t\nContent-Type: text/html\n\ntwo\n--b--\nepi\n") ≡ Err NotMultipart
unfolding kind is_stable
insert_in_leaf = refl

insert_close : text_after (InsertPart (1 ∷ []) 1 (codes "Content-Type: multipart/mixed; boundary=c\n\n--c\n\n--b--\n--c--\n")) (codes "Subject: t\nContent-Type: multipart/mixed; boundary=\"b\"\n\npre\n--b\n\none\n--b \t\nContent-Type: text/html\n\ntwo\n--b--\nepi\n") ≡ Err (HoldsBoundary 1)
unfolding kind is_stable
insert_close = refl

insert_inner : text_after (InsertPart (1 ∷ 1 ∷ []) 0 (codes "Content-Transfer-Encoding: base64\n\naGk=\n")) (codes "Content-Type: multipart/mixed; boundary=b\n\n--b\nContent-Type: multipart/mixed; boundary=b\n\n--b\n\nx\n--b--\n") ≡ Err (HoldsBoundary 1)
unfolding kind is_stable
insert_inner = refl

insert_open : text_after (InsertPart (1 ∷ []) 1 (codes "Content-Transfer-Encoding: base64\n\naGk=\n")) (codes "Content-Type: multipart/mixed; boundary=b\n\n--b\n\nx\ny") ≡ Err OpenLine
unfolding kind is_stable
insert_open = refl

mark_field : text_after (AddField (1 ∷ 1 ∷ []) false (codes "--a:b\n")) (codes "Content-Type: multipart/mixed; boundary=\"a:b\"\n\n--a:b\n\nx\n--a:b--\n") ≡ Err (HoldsBoundary 1)
unfolding kind is_stable
mark_field = refl

remove_only : text_after (RemovePart (1 ∷ 1 ∷ [])) (codes "Content-Type: multipart/mixed; boundary=b\n\n--b\n\nx\n--b--\n") ≡ Ok (codes "Content-Type: multipart/mixed; boundary=b\n\n--b--\n")
unfolding kind is_stable
remove_only = refl

remove_first : text_after (RemovePart (1 ∷ 1 ∷ [])) (codes "Subject: t\nContent-Type: multipart/mixed; boundary=\"b\"\n\npre\n--b\n\none\n--b \t\nContent-Type: text/html\n\ntwo\n--b--\nepi\n") ≡ Ok (codes "Subject: t\nContent-Type: multipart/mixed; boundary=\"b\"\n\npre\n--b \t\nContent-Type: text/html\n\ntwo\n--b--\nepi\n")
unfolding kind is_stable
remove_first = refl

remove_root : text_after (RemovePart (1 ∷ [])) (codes "Subject: t\nContent-Type: multipart/mixed; boundary=\"b\"\n\npre\n--b\n\none\n--b \t\nContent-Type: text/html\n\ntwo\n--b--\nepi\n") ≡ Err NotPart
unfolding kind is_stable
remove_root = refl

remove_none : text_after (RemovePart (1 ∷ 3 ∷ [])) (codes "Subject: t\nContent-Type: multipart/mixed; boundary=\"b\"\n\npre\n--b\n\none\n--b \t\nContent-Type: text/html\n\ntwo\n--b--\nepi\n") ≡ Err NoSuchSection
unfolding kind is_stable
remove_none = refl

set_body_of_multi : text_after (SetBody (1 ∷ []) (codes "x")) (codes "Subject: t\nContent-Type: multipart/mixed; boundary=\"b\"\n\npre\n--b\n\none\n--b \t\nContent-Type: text/html\n\ntwo\n--b--\nepi\n") ≡ Err NotLeaf
unfolding kind is_stable
set_body_of_multi = refl

set_body : text_after (SetBody (1 ∷ []) (codes "hi\n")) (codes "A: b\n") ≡ Ok (codes "A: b\n\nhi\n")
unfolding kind is_stable
set_body = refl

no_field : text_after (RemoveField (1 ∷ []) (codes "Subject") 0) (codes "Subject: t\nContent-Type: multipart/mixed; boundary=\"b\"\n\npre\n--b\n\none\n--b \t\nContent-Type: text/html\n\ntwo\n--b--\nepi\n") ≡ Err NoSuchField
unfolding kind is_stable
no_field = refl

lost_type : text_after (RemoveField (1 ∷ []) (codes "content-type") 1) (codes "Subject: t\nContent-Type: multipart/mixed; boundary=\"b\"\n\npre\n--b\n\none\n--b \t\nContent-Type: text/html\n\ntwo\n--b--\nepi\n") ≡ Err Recut
unfolding kind is_stable
lost_type = refl

lost_field : text_after (RemoveField (1 ∷ []) (codes "A") 1) (codes "A: b\nFrom x\n") ≡ Err Recut
unfolding kind is_stable
lost_field = refl

second_field : text_after (RemoveField (1 ∷ []) (codes "A") 2) (codes "A: 1\nB: 2\na: 3\n 4\n\n") ≡ Ok (codes "A: 1\nB: 2\n\n")
unfolding kind is_stable
second_field = refl

set_no_field : text_after (SetField (1 ∷ []) (codes "Subject") 1 (codes "x\n")) (codes "Subject: t\nContent-Type: multipart/mixed; boundary=\"b\"\n\npre\n--b\n\none\n--b \t\nContent-Type: text/html\n\ntwo\n--b--\nepi\n") ≡ Err BadField
unfolding kind is_stable
set_no_field = refl

bad_name : text_after (RenameField (1 ∷ []) (codes "Subject") 1 (codes "a:b")) (codes "Subject: t\nContent-Type: multipart/mixed; boundary=\"b\"\n\npre\n--b\n\none\n--b \t\nContent-Type: text/html\n\ntwo\n--b--\nepi\n") ≡ Err BadName
unfolding kind is_stable
bad_name = refl

new_name : text_after (RenameField (1 ∷ []) (codes "subject") 1 (codes "Topic")) (codes "Subject: t\nContent-Type: multipart/mixed; boundary=\"b\"\n\npre\n--b\n\none\n--b \t\nContent-Type: text/html\n\ntwo\n--b--\nepi\n") ≡ Ok (codes "Topic: t\nContent-Type: multipart/mixed; boundary=\"b\"\n\npre\n--b\n\none\n--b \t\nContent-Type: text/html\n\ntwo\n--b--\nepi\n")
unfolding kind is_stable
new_name = refl

set_section : text_after (SetSection (1 ∷ 2 ∷ []) (codes "Content-Transfer-Encoding: base64\n\naGk=\n")) (codes "Subject: t\nContent-Type: multipart/mixed; boundary=\"b\"\n\npre\n--b\n\none\n--b \t\nContent-Type: text/html\n\ntwo\n--b--\nepi\n") ≡ Ok (codes "Subject: t\nContent-Type: multipart/mixed; boundary=\"b\"\n\npre\n--b\n\none\n--b \t\nContent-Transfer-Encoding: base64\n\naGk=\n--b--\nepi\n")
unfolding kind is_stable
set_section = refl

wrap_leaf : text_after (Wrap (1 ∷ []) (codes "mixed") (codes "b")) (codes "hello\n") ≡ Ok (codes "MIME-Version: 1.0\nContent-Type: multipart/mixed; boundary=\"b\"\n\n--b\n\nhello\n\n--b--\n")
unfolding kind is_stable
wrap_leaf = refl

wrap_marked : text_after (Wrap (1 ∷ []) (codes "mixed") (codes "b")) (codes "x\n--b\n") ≡ Err (HoldsBoundary 1)
unfolding kind is_stable
wrap_marked = refl

wrap_return : text_after (Wrap (1 ∷ []) (codes "mixed") (codes "b")) (codes "x\r") ≡ Err Recut
unfolding kind is_stable
wrap_return = refl

wrap_open_field : text_after (Wrap (1 ∷ []) (codes "mixed") (codes "b")) (codes "A: b") ≡ Err OpenLine
unfolding kind is_stable
wrap_open_field = refl

wrap_same : text_after (Wrap (1 ∷ 1 ∷ []) (codes "mixed") (codes "b")) (codes "Subject: t\nContent-Type: multipart/mixed; boundary=\"b\"\n\npre\n--b\n\none\n--b \t\nContent-Type: text/html\n\ntwo\n--b--\nepi\n") ≡ Err (HoldsBoundary 1)
unfolding kind is_stable
wrap_same = refl

wrap_part : text_after (Wrap (1 ∷ 1 ∷ []) (codes "mixed") (codes "c")) (codes "Subject: t\nContent-Type: multipart/mixed; boundary=\"b\"\n\npre\n--b\n\none\n--b \t\nContent-Type: text/html\n\ntwo\n--b--\nepi\n") ≡ Ok (codes "Subject: t\nContent-Type: multipart/mixed; boundary=\"b\"\n\npre\n--b\nContent-Type: multipart/mixed; boundary=\"c\"\n\n--c\n\none\n--c--\n--b \t\nContent-Type: text/html\n\ntwo\n--b--\nepi\n")
unfolding kind is_stable
wrap_part = refl

wrap_boundary : text_after (Wrap (1 ∷ 1 ∷ []) (codes "mixed") (codes "b\"")) (codes "Subject: t\nContent-Type: multipart/mixed; boundary=\"b\"\n\npre\n--b\n\none\n--b \t\nContent-Type: text/html\n\ntwo\n--b--\nepi\n") ≡ Err BadBoundary
unfolding kind is_stable
wrap_boundary = refl

wrap_subtype : text_after (Wrap (1 ∷ 1 ∷ []) (codes "a/b") (codes "c")) (codes "Subject: t\nContent-Type: multipart/mixed; boundary=\"b\"\n\npre\n--b\n\none\n--b \t\nContent-Type: text/html\n\ntwo\n--b--\nepi\n") ≡ Err BadSubtype
unfolding kind is_stable
wrap_subtype = refl

wrap_in_digest : text_after (Wrap (1 ∷ 1 ∷ []) (codes "mixed") (codes "c")) (codes "Content-Type: multipart/digest; boundary=b\n\n--b\n\nSubject: s\n\nx\n--b--\n") ≡ Err Recut
unfolding kind is_stable
wrap_in_digest = refl

digest_to_mixed : text_after (SetField (1 ∷ []) (codes "Content-Type") 1 (codes "Content-Type: multipart/mixed; boundary=b\n")) (codes "Content-Type: multipart/digest; boundary=b\n\n--b\n\nSubject: s\n\nx\n--b--\n") ≡ Err Recut
unfolding kind is_stable
digest_to_mixed = refl

typed_to_mixed : text_after (SetField (1 ∷ []) (codes "Content-Type") 1 (codes "Content-Type: multipart/mixed; boundary=b\n")) (codes "Content-Type: multipart/digest; boundary=b\n\n--b\nContent-Type: text/plain\n\nx\n--b--\n") ≡ Ok (codes "Content-Type: multipart/mixed; boundary=b\n\n--b\nContent-Type: text/plain\n\nx\n--b--\n")
unfolding kind is_stable
typed_to_mixed = refl

wrap_crlf : text_after (Wrap (1 ∷ []) (codes "mixed") (codes "z")) (codes "A: b\r\n\r\nx\r") ≡ Ok (codes "A: b\r\nMIME-Version: 1.0\r\nContent-Type: multipart/mixed; boundary=\"z\"\r\n\r\n--z\r\n\r\nx\r\r\n--z--\r\n")
unfolding kind is_stable
wrap_crlf = refl

wrap_open_multi : text_after (Wrap (1 ∷ []) (codes "mixed") (codes "z")) (codes "Content-Type: multipart/mixed; boundary=b\n\n--b\n\ny") ≡ Err OpenLine
unfolding kind is_stable
wrap_open_multi = refl
