-- An entity, read as its head and its body.
use Rattle.std.proofs.Common.{◌≡◌, ◌+◌, ◌-◌, ℕ, Bool, false, List, refl, ap, sym, ◌∙◌, subst, length, take, arith}
use Rattle.mk_line.specs.Lines.{TextLine, cut as lines_of}
use Rattle.mk_head.specs.Split.{Head, head_of, after_head, fields_from, separator_of, body_of}
use Rattle.std.specs.Option.{option_to_list}
use Rattle.mk_tree.specs.Kinds.{kind_at}
use Rattle.mk_tree.specs.Tree.{Entity, leaf, message, multi, read, entity_by, entity_head, print}
use Rattle.mk_tree.specs.Places.{below}
use Rattle.mk_tree.specs.Spans.{size, Form, span, Spans, span_of}
use Rattle.mk_tree.specs.Upto.{upto, beyond, fields_until, rest_until}
use Rattle.mk_tree.specs.Steps.{KeptOfBody}
use Rattle.mk_tree.specs.Forms.{form_in, spans_in}
use Rattle.mk_tree.proofs.Kept.{print_read}
use Rattle.mk_tree.proofs.WellRead.{read_is, head_by}
use Rattle.mk_tree.proofs.Descent.{size_cut, size_beyond}
use Rattle.mk_tree.proofs.Heads.{fields_upto, rest_upto, beyond_rest, fields_again, until_apart, separator_upto, front_lines}

span_parts : (digest : Bool) (d : ℕ) (e : Entity) → span_of digest d e ≡ span d (size (entity_head e).fields) (size (option_to_list (entity_head e).separator)) (size (print e)) (form_in digest e) (spans_in digest e)
span_parts digest d (leaf h ls) = refl
span_parts digest d (message h e) = refl
span_parts digest d (multi h b pre ps t) = refl

abbrev head_until : List (List ℕ) → List TextLine → Head
head_until bs ls = record { fields = fields_until bs false ls; separator = separator_of (rest_until bs false ls) }

head_is : (bs : List (List ℕ)) (ls : List TextLine) → head_of (upto bs ls) ≡ head_until bs ls
head_is bs ls = λ i. record { fields = fields_upto bs false ls i; separator = (ap separator_of (rest_upto bs false ls) ∙ (separator_upto bs (rest_until bs false ls)).0) i }

following_is : (bs : List (List ℕ)) (ls : List TextLine) → after_head (upto bs ls) ≡ upto bs (body_of (rest_until bs false ls))
following_is bs ls = ap body_of (rest_upto bs false ls) ∙ (separator_upto bs (rest_until bs false ls)).1

-- the entity up to a mark
abbrev entity_until : ℕ → Bool → List (List ℕ) → List TextLine → List TextLine → Entity
entity_until left digest bs ls body = entity_by (read (below left)) (kind_at left (fields_until bs false ls) digest) (head_until bs ls) (upto bs body)

read_until : (left : ℕ) (digest : Bool) (bs : List (List ℕ)) (ls body : List TextLine) → body_of (rest_until bs false ls) ≡ body → read left digest (upto bs ls) ≡ entity_until left digest bs ls body
read_until left digest bs ls body e =
    read_is left digest (upto bs ls)
    ∙ (λ i. entity_by (read (below left)) (kind_at left (fields_upto bs false ls i) digest) (head_is bs ls i) ((following_is bs ls ∙ ap (upto bs) e) i))

span_until : (left : ℕ) (digest : Bool) (bs : List (List ℕ)) (delimiter : ℕ) (ls body : List TextLine) (fields separator whole : ℕ) (form : Form) (spans : Spans)
    → body_of (rest_until bs false ls) ≡ body
    → fields ≡ size (fields_until bs false ls) → separator ≡ size (option_to_list (separator_of (rest_until bs false ls))) → whole ≡ size (upto bs ls)
    → KeptOfBody left digest (fields_until bs false ls) (upto bs body) form spans
    → span delimiter fields separator whole form spans ≡ span_of digest delimiter (read left digest (upto bs ls))
span_until left digest bs delimiter ls body fields separator whole form spans d f s w k =
    let is = read_until left digest bs ls body d in
    let head = head_by (read (below left)) (kind_at left (fields_until bs false ls) digest) (head_until bs ls) (upto bs body) in
    let kept = k (separator_of (rest_until bs false ls)) in
    let printed : whole ≡ size (print (entity_until left digest bs ls body)) = w ∙ (ap size (sym (print_read left digest (upto bs ls))) ∙ ap (λ e. size (print e)) is) in
    (λ i. span delimiter ((f ∙ ap (λ (h : Head). size h.fields) (sym head)) i) ((s ∙ ap (λ (h : Head). size (option_to_list h.separator)) (sym head)) i) (printed i) (kept.0 i) (kept.1 i))
    ∙ (sym (span_parts digest delimiter (entity_until left digest bs ls body)) ∙ ap (span_of digest delimiter) (sym is))

-- what follows the entity
pub entity_rest : (bs : List (List ℕ)) (text following body rest : List ℕ)
    → rest_until bs false (lines_of text) ≡ lines_of following → body_of (lines_of following) ≡ lines_of body → lines_of rest ≡ beyond bs (lines_of body)
    → lines_of rest ≡ beyond bs (lines_of text)
entity_rest bs text following body rest b d r =
    r ∙ (ap (beyond bs) (sym d) ∙ ((separator_upto bs (lines_of following)).2 ∙ (ap (beyond bs) (sym b) ∙ beyond_rest bs false (lines_of text))))

head_lines_are : (bs : List (List ℕ)) (text following : List ℕ) → length text ≡ size (fields_until bs false (lines_of text)) + length following
    → fields_from false (lines_of (take (length text - length following) text)) ≡ fields_until bs false (lines_of text)
head_lines_are bs text following a =
    ap (fields_from false) (front_lines text (fields_until bs false (lines_of text)) (rest_until bs false (lines_of text)) (length text - length following) (sym (until_apart bs false (lines_of text))) (omega (arith, a)))
    ∙ fields_again bs false (lines_of text)

pub entity_kept : (left : ℕ) (digest : Bool) (bs : List (List ℕ)) (delimiter : ℕ) (text following body rest : List ℕ) (form : Form) (spans : Spans)
    → length text ≡ size (fields_until bs false (lines_of text)) + length following
    → rest_until bs false (lines_of text) ≡ lines_of following
    → length following ≡ size (option_to_list (separator_of (lines_of following))) + length body
    → body_of (lines_of following) ≡ lines_of body
    → KeptOfBody left digest (fields_from false (lines_of (take (length text - length following) text))) (upto bs (lines_of body)) form spans
    → lines_of rest ≡ beyond bs (lines_of body)
    → span delimiter (length text - length following) (length following - length body) (length text - length rest) form spans ≡ span_of digest delimiter (read left digest (upto bs (lines_of text)))
entity_kept left digest bs delimiter text following body rest form spans a b c d k r =
    let same = entity_rest bs text following body rest b d r in
    span_until left digest bs delimiter (lines_of text) (lines_of body) (length text - length following) (length following - length body) (length text - length rest) form spans
    (ap body_of b ∙ d)
    (omega (arith, a))
    (omega (arith, c, ap (λ ls. size (option_to_list (separator_of ls))) b))
    (omega (arith, size_cut text, size_cut rest, ap size same, size_beyond bs (lines_of text)))
    (subst (λ fs. KeptOfBody left digest fs (upto bs (lines_of body)) form spans) (head_lines_are bs text following a) k)
