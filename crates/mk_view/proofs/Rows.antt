-- What messages are listed as, and what names are made into, by computing.
use Rattle.std.proofs.Common.{◌≡◌, false, [], ◌∷◌, refl, map, codes}
use Rattle.std.specs.Fmt.{digits}
use Rattle.mk_tree.specs.Kinds.{kind}
use Rattle.mk_tree.specs.Documents.{tree}
use Rattle.mk_view.specs.Listed.{listed_from}
use Rattle.mk_view.specs.Listing.{path_text, listing_line, listing}
use Rattle.mk_view.specs.FileNames.{cleaned}
use Rattle.mk_view.specs.declared.text_names.NameForm.TheVariants.{Plain}
use Rattle.mk_view.specs.TextNames.{all_stored_in, plain_storing, stored_in}
use Rattle.mk_view.specs.GivenNames.{numbered}

one_leaf : listing (tree (codes "A: b\r\n\r\nx\ry\nz")) ≡ codes "1 leaf text/plain identity 0 8 13 1 2\n"
unfolding kind listed_from listing_line digits
one_leaf = refl

two_parts : listing (tree (codes "Subject: t\nContent-Type: multipart/mixed; boundary=\"b\"\n\npre\n--b\n\none\n--b \t\nContent-Type: text/html\n\ntwo\n--b--\nepi\n"))
    ≡ codes "1 multi multipart/mixed identity 0 56 114 2 10\n1.1 leaf text/plain identity 64 65 69 0 1\n1.2 leaf text/html identity 75 100 104 1 1\n"
unfolding kind listed_from listing_line digits
two_parts = refl

message_inside : listing (tree (codes "Content-Type: message/global\n\nA: b\n\nx\n")) ≡ codes "1 message message/global identity 0 30 38 1 3\n1.1 leaf text/plain identity 30 36 38 1 1\n"
unfolding kind listed_from listing_line digits
message_inside = refl

path_written : path_text (1 ∷ 4 ∷ 12 ∷ []) ≡ codes "1.4.12"
unfolding digits
path_written = refl

name_cleaned : cleaned (codes "../a b.pdf") ≡ codes "a_b.pdf"
name_cleaned = refl

name_shown : cleaned (codes ".hidden\\-x") ≡ codes "_x"
name_shown = refl

nothing_left : cleaned (codes "a/") ≡ []
nothing_left = refl

name_numbered : numbered (codes "a_b.pdf") 1 ≡ codes "a_b.pdf.1"
unfolding digits
name_numbered = refl

-- an empty name is a name, so the text isn't left out
empty_name : all_stored_in (plain_storing false) (tree (codes "Content-Type: text/plain; name=x\nContent-Disposition: attachment; filename=\"\"\n\nx\n")) ≡ (1 ∷ [], codes "part-1") ∷ []
unfolding kind listed_from stored_in digits
empty_name = refl

own_names : map (λ n. n.1) (all_stored_in (plain_storing false) (tree (codes "Content-Type: multipart/mixed; boundary=b\n\n--b\nContent-Type: text/plain\n\nx\n--b\nContent-Type: application/pdf; name=\"../a b.pdf\"\n\nx\n--b\nContent-Type: image/png\nContent-Disposition: attachment; filename=\"a b.pdf\"\n\nx\n--b\nContent-Type: image/gif\n\nx\n--b--\n")))
    ≡ codes "a_b.pdf" ∷ codes "a_b.pdf" ∷ codes "part-1.4" ∷ []
unfolding kind listed_from stored_in digits
own_names = refl
