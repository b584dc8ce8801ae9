-- What messages are read as, by computing.
use Rattle.std.proofs.Common.{◌≡◌, ℕ, false, List, [], refl, codes}
use Rattle.mk_line.specs.Lines.{cut, text_of}
use Rattle.mk_tree.specs.Kinds.{kind}
use Rattle.mk_tree.specs.Tree.{Entity, leaf, message, multi, Parts, no_parts, part, read}

-- an entity with the texts of its leaves
mutual
  data Shape : Type 0 where
    text : List ℕ → Shape
    holds : Shape → Shape
    parts : List ℕ → Shapes → Shape

  data Shapes : Type 0 where
    none : Shapes
    more : Shape → Shapes → Shapes

abbrev mutual
  shape : Entity → Shape
  shape (leaf h ls) = text (text_of ls)
  shape (message h e) = holds (shape e)
  shape (multi h b pre ps t) = parts (text_of pre) (shapes ps)

  shapes : Parts → Shapes
  shapes no_parts = none
  shapes (part l e ps) = more (shape e) (shapes ps)

abbrev shape_of : List ℕ → Shape
shape_of x = shape (read 100 false (cut x))

two_parts : shape_of (codes "Subject: t\nContent-Type: multipart/mixed; boundary=\"b\"\n\npre\n--b\n\none\n--b \t\nContent-Type: text/html\n\ntwo\n--b--\nepi\n") ≡ parts (codes "pre\n") (more (text (codes "one\n")) (more (text (codes "two\n")) none))
unfolding kind
two_parts = refl

outer_ends_inner : shape_of (codes "Content-Type: multipart/mixed; boundary=b\n\n--b\nContent-Type: multipart/mixed; boundary=b\n\n--b\n\nx\n--b--\n") ≡ parts [] (more (parts [] none) (more (text (codes "x\n")) none))
unfolding kind
outer_ends_inner = refl

digest_of_messages : shape_of (codes "Content-Type: multipart/digest; boundary=b\n\n--b\n\nSubject: s\n\nx\n--b--\n") ≡ parts [] (more (holds (text (codes "x\n"))) none)
unfolding kind
digest_of_messages = refl

encoded_message : shape_of (codes "Content-Type: message/rfc822\nContent-Transfer-Encoding: base64\n\nQTogYgo=\n") ≡ text (codes "QTogYgo=\n")
unfolding kind
encoded_message = refl

global_message : shape_of (codes "Content-Type: message/global\n\nA: b\n\nx\n") ≡ holds (text (codes "x\n"))
unfolding kind
global_message = refl

blank_boundary : shape_of (codes "Content-Type: multipart/mixed; boundary=\" \"\n\n-- \n") ≡ text (codes "-- \n")
unfolding kind
blank_boundary = refl
