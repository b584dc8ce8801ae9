-- The root of a document over what follows its envelope.
use Rattle.std.proofs.Common.{◌≡◌, ◌≤◌, ℕ, Bool, true, false, List, [], ◌∷◌, refl, ap, sym, ◌∙◌, length, drop, arith}
use Rattle.mk_line.specs.Lines.{TextLine, cut}
use Rattle.mk_line.specs.Kinds.{is_from_line}
use Rattle.mk_line.proofs.Cuts.{cut_rest}
use Rattle.std.specs.Option.{option_to_list}
use Rattle.mk_tree.specs.Tree.{read, print}
use Rattle.mk_tree.specs.Spans.{Span, size, span_of}
use Rattle.mk_tree.specs.Documents.{Document, levels, document_of, tree}
use Rattle.mk_tree.specs.Layouts.{delimiter_of, IsSpanOver}
use Rattle.mk_tree.proofs.Kept.{enveloped, lines_kept}
use Rattle.mk_tree.proofs.Slices.{front_within}
use Rattle.mk_tree.proofs.Below.{delimiter_span}

abbrev envelope_size : Document → ℕ
envelope_size t = size (option_to_list t.envelope)

after_envelope : (test : Bool) (l : TextLine) (ls : List TextLine) (text : List ℕ) → cut text ≡ l ∷ ls → read levels false (cut (drop (envelope_size (enveloped test l ls)) text)) ≡ (enveloped test l ls).root
after_envelope true l ls text e = ap (read levels false) (cut_rest text (l ∷ []) ls e)
after_envelope false l ls text e = ap (read levels false) e

root_after : (lines : List TextLine) (text : List ℕ) → cut text ≡ lines → read levels false (cut (drop (envelope_size (document_of lines)) text)) ≡ (document_of lines).root
root_after [] text e = ap (read levels false) e
root_after (l ∷ ls) text e = after_envelope (is_from_line l.content) l ls text e

pub envelope_within : (text : List ℕ) (n : ℕ) → n ≡ envelope_size (tree text) → n ≤ length text
envelope_within text n p = omega (arith, p, front_within text (option_to_list (tree text).envelope) (print (tree text).root) (sym (lines_kept text)))

pub root_read : (text raw : List ℕ) (n : ℕ) → n ≡ envelope_size (tree text) → raw ≡ drop n text → read levels false (cut raw) ≡ (tree text).root
root_read text raw n p e = ap (λ xs. read levels false (cut xs)) (e ∙ ap (λ k. drop k text) p) ∙ root_after (cut text) text refl

pub root_over : (text raw : List ℕ) (n : ℕ) (s : Span) → s ≡ span_of false 0 (tree text).root → n ≡ envelope_size (tree text) → raw ≡ drop n text → IsSpanOver s raw false levels
root_over text raw n s h p e =
    let none : delimiter_of s ≡ 0 = ap delimiter_of h ∙ delimiter_span false 0 (tree text).root in
    h ∙ (λ i. span_of false (sym none i) (sym (root_read text raw n p e) i))
