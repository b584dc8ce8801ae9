-- How long the texts of a section are.
use Rattle.std.proofs.Common.{◌≡◌, ◌+◌, ◌<◌, ◌≤◌, ◌++◌, ℕ, List, ap, length, length-append, arith}
use Rattle.std.specs.Option.{option_to_list}
use Rattle.mk_line.specs.Lines.{TextLine, text_of}
use Rattle.mk_line.proofs.Cuts.{text_append}
use Rattle.mk_head.specs.Split.{Head, head_lines}
use Rattle.mk_tree.specs.declared.shapes.Kind.{Kind}
use Rattle.mk_tree.specs.declared.shapes.Kind.TheVariants.{Leaf, Multi, Message}
use Rattle.mk_tree.specs.Forms.{kind_in}
use Rattle.mk_tree.specs.Sections.{Placed, head_text}
use Rattle.mk_tree.specs.Spans.{size}
use Rattle.mk_tree.specs.Tree.{Entity, leaf, message, multi, entity_head, print}
use Rattle.mk_check.specs.Findings.{section_end, own_text, own_text_by}

front_within : (xs ys : List TextLine) → size xs ≤ size (xs ++ ys)
front_within xs ys = omega (arith, ap (λ t. length t) (text_append xs ys), length-append (text_of xs) (text_of ys))

fields_within : (h : Head) (ls : List TextLine) → size h.fields ≤ size (head_lines h ++ ls)
fields_within h ls = omega (arith, front_within h.fields (option_to_list h.separator), front_within (head_lines h) ls)

entity_within : (e : Entity) → size (entity_head e).fields ≤ size (print e)
entity_within (leaf h ls) = fields_within h ls
entity_within (message h e) = fields_within h (print e)
entity_within (multi h b pre ps t) = fields_within h _

pub head_within : (p : Placed) → length (head_text p) ≤ size (print p.entity)
head_within p = entity_within p.entity

own_by : (k : Kind) (p : Placed) → length (own_text_by k p) ≤ size (print p.entity)
own_by Leaf p = omega arith
own_by Multi p = entity_within p.entity
own_by Message p = entity_within p.entity

pub own_within : (p : Placed) → length (own_text p) ≤ size (print p.entity)
own_within p = own_by (kind_in p.entity) p

-- they fit after the start of the section
pub head_fits : (p : Placed) (start : ℕ) (head : List ℕ) → start ≡ p.start → head ≡ head_text p → section_end p < 18446744073709551616 → start + length head < 18446744073709551616
head_fits p start head e h fits = omega (arith, e, ap (λ t. length t) h, head_within p, fits)

pub own_fits : (p : Placed) (start : ℕ) (own : List ℕ) → start ≡ p.start → own ≡ own_text p → section_end p < 18446744073709551616 → start + length own < 18446744073709551616
own_fits p start own e h fits = omega (arith, e, ap (λ t. length t) h, own_within p, fits)
