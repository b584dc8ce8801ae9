use Rattle.std.proofs.Common.{◌≡◌, ◌+◌, ◌++◌, ℕ, List, [], ◌∷◌, append_assoc, append-nil, decimal, length, ◌∙◌, ap}
use Rattle.std.specs.List.{flat_map}
use Rattle.mk_line.specs.Ascii.{line_feed, space}
use Rattle.mk_line.specs.Lines.{cut}
use Rattle.mk_head.specs.Split.{head_lines}
use Rattle.mk_tree.specs.Forms.{kind_in}
use Rattle.mk_tree.specs.Sections.{Placed, body_text, head_text}
use Rattle.mk_tree.specs.Spans.{size}
use Rattle.mk_tree.specs.Tree.{entity_head, print}
use Rattle.mk_view.specs.Listing.{columns, encoding_in, encoding_name, kind_name, listing_line, path_text, type_of, type_text}
use Rattle.mk_view.specs.inner.Columns.{column, line_counts, nature, places}
use Rattle.mk_view.proofs.listing.push_line.Goals as goal

regroup : (o p n l k f : List ℕ) → ((((o ++ p) ++ n) ++ l) ++ k) ++ f ≡ o ++ (p ++ (n ++ (l ++ (k ++ f))))
regroup o p n l k f = simp append_assoc

written : (o a b c d e p n l k f : List ℕ) → a ≡ o ++ p → b ≡ a ++ n → c ≡ b ++ l → d ≡ c ++ k → e ≡ d ++ f → e ≡ o ++ (p ++ (n ++ (l ++ (k ++ f))))
written o a b c d e p n l k f ha hb hc hd he = let same = regroup o p n l k f in cc

-- eight columns in three groups
in_groups : (a b c d e f g h x : List ℕ) → (a ++ (b ++ c)) ++ ((d ++ (e ++ f)) ++ ((g ++ h) ++ x)) ≡ (a ++ (b ++ (c ++ (d ++ (e ++ (f ++ (g ++ (h ++ [])))))))) ++ x
in_groups a b c d e f g h x = simp (append_assoc, append-nil)

grouped : (p : Placed) (x : List ℕ) → nature p ++ (places p ++ (line_counts p ++ x)) ≡ flat_map (λ text. space ∷ text) (columns p) ++ x
grouped p x =
    in_groups (column (kind_name (kind_in p.entity))) (column (type_text (type_of p))) (column (encoding_name (encoding_in p))) (column (decimal p.start))
    (column (decimal (p.start + size (head_lines (entity_head p.entity))))) (column (decimal (p.start + size (print p.entity)))) (column (decimal (length (cut (head_text p))))) (column (decimal (length (cut (body_text p))))) x

line_written : (path : List ℕ) (p : Placed) (o a b c d e : List ℕ) → a ≡ o ++ path_text path → b ≡ a ++ nature p → c ≡ b ++ places p → d ≡ c ++ line_counts p → e ≡ d ++ line_feed ∷ [] → e ≡ o ++ listing_line (record { path = path; section = p })
unfolding listing_line
line_written path p o a b c d e ha hb hc hd he =
    written o a b c d e (path_text path) (nature p) (places p) (line_counts p) (line_feed ∷ []) ha hb hc hd he ∙ ap (λ xs. o ++ (path_text path ++ xs)) (grouped p (line_feed ∷ []))

pub returns : goal.returns
returns c =
    line_written c.args.path.now c.args.section.now _ _ _ _ _ _ c.in_ok-push_path.ensures.appended c.in_ok-push_nature.ensures c.in_ok-push_places.ensures c.in_ok-push_line_counts.ensures c.in_ok-push.ensures.items
