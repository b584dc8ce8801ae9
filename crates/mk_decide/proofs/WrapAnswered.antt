-- The answer of Wrap from what its steps answer.
use Rattle.std.proofs.Common.{◌≡◌, ◌==◌, ◌+◌, ◌++◌, ℕ, Bool, true, false, Option, None, Result, Ok, List, [], ◌∷◌, refl, ap, sym, ◌∙◌, subst, length, arith, IfOk, IfErr}
use Rattle.mk_line.specs.declared.cutting.Ending.{Ending}
use Rattle.mk_line.specs.Lines.{cut, ending_bytes, is_nil, eol_of}
use Rattle.mk_head.specs.Boundaries.{is_boundary}
use Rattle.mk_head.specs.Values.{is_token}
use Rattle.mk_tree.specs.Documents.{tree}
use Rattle.mk_tree.specs.Sections.{Placed, root_of, raw_of, head_text, body_text}
use Rattle.mk_decide.specs.declared.deciding.Replacement.{Replacement}
use Rattle.mk_decide.specs.declared.errors.EditError.{EditError}
use Rattle.mk_decide.specs.Answers.{refusal_of, IsRefusedBy}
use Rattle.mk_decide.specs.Around.{hit_below}
use Rattle.mk_decide.specs.LocalAnswers.{PlainSplice, after_first, answer_by, plain_splice}
use Rattle.mk_decide.specs.Outcomes.{has_mark}
use Rattle.mk_decide.specs.SectionAnswers.{or_own}
use Rattle.mk_decide.specs.WrapAnswers.{content_part, other_part, version_bytes, type_bytes, delimiter_bytes, close_bytes, made_bytes, separator_text, separator_part, end_part, wrap_bytes, wrap_opens, wrap_fits, wrap_in, wrap_answer}
use Rattle.mk_decide.proofs.WrapFits.{told_in}
use Rattle.mk_decide.proofs.WrapPieces.{not_zero}

-- the bytes of the steps
pub record AreSteps (text numbers subtype b : List ℕ) (p : Placed) (eol : Ending) (first : Bool) (head separator body others content given version kind delimiter close : List ℕ) : Type 0 where
  pub eol_is : eol ≡ eol_of (cut text)
  pub first_is : first ≡ is_nil numbers
  pub head_is : head ≡ head_text p
  pub separator_is : separator ≡ separator_text p
  pub body_is : body ≡ body_text p
  pub others_is : others ≡ other_part head
  pub content_is : content ≡ content_part head
  pub given_is : given ≡ others
  pub version_is : version ≡ version_bytes eol first given
  pub kind_is : kind ≡ type_bytes eol subtype b
  pub delimiter_is : delimiter ≡ delimiter_bytes eol b
  pub close_is : close ≡ close_bytes eol b

-- give all bytes, and the made lines
module _ (text numbers subtype b : List ℕ) (p : Placed) (eol : Ending) (first : Bool) (head separator body others content given version kind delimiter close : List ℕ) (s : AreSteps text numbers subtype b p eol first head separator body others content given version kind delimiter close) where
  pub others_are : others ≡ other_part (head_text p)
  others_are = s.others_is ∙ ap other_part s.head_is

  pub version_are : version ≡ version_bytes (eol_of (cut text)) (is_nil numbers) (other_part (head_text p))
  version_are =
      s.version_is
      ∙ (ap (version_bytes eol first) (s.given_is ∙ others_are)
      ∙ (ap (λ e. version_bytes e first (other_part (head_text p))) s.eol_is ∙ ap (λ f. version_bytes (eol_of (cut text)) f (other_part (head_text p))) s.first_is))

  pub lines_are : (lines : List ℕ) → lines ≡ ((version ++ kind) ++ delimiter) ++ close → lines ≡ made_bytes (eol_of (cut text)) (is_nil numbers) (other_part (head_text p)) subtype b
  lines_are lines e =
      e
      ∙ (ap (λ x. ((x ++ kind) ++ delimiter) ++ close) version_are
      ∙ (ap (λ x. ((version_bytes (eol_of (cut text)) (is_nil numbers) (other_part (head_text p)) ++ x) ++ delimiter) ++ close) s.kind_is
      ∙ (ap (λ x. ((version_bytes (eol_of (cut text)) (is_nil numbers) (other_part (head_text p)) ++ type_bytes eol subtype b) ++ x) ++ close) s.delimiter_is
      ∙ (ap (λ x. ((version_bytes (eol_of (cut text)) (is_nil numbers) (other_part (head_text p)) ++ type_bytes eol subtype b) ++ delimiter_bytes eol b) ++ x) s.close_is
      ∙ ap (λ e. ((version_bytes (eol_of (cut text)) (is_nil numbers) (other_part (head_text p)) ++ type_bytes e subtype b) ++ delimiter_bytes e b) ++ close_bytes e b) s.eol_is))))

  pub front_are : (((others ++ version) ++ kind) ++ ending_bytes eol) ++ delimiter ≡ (((other_part (head_text p) ++ version_bytes (eol_of (cut text)) (is_nil numbers) (other_part (head_text p))) ++ type_bytes (eol_of (cut text)) subtype b) ++ ending_bytes (eol_of (cut text))) ++ delimiter_bytes (eol_of (cut text)) b
  front_are =
      ap (λ x. (((x ++ version) ++ kind) ++ ending_bytes eol) ++ delimiter) others_are
      ∙ (ap (λ x. (((other_part (head_text p) ++ x) ++ kind) ++ ending_bytes eol) ++ delimiter) version_are
      ∙ (ap (λ x. (((other_part (head_text p) ++ version_bytes (eol_of (cut text)) (is_nil numbers) (other_part (head_text p))) ++ x) ++ ending_bytes eol) ++ delimiter) s.kind_is
      ∙ (ap (λ x. (((other_part (head_text p) ++ version_bytes (eol_of (cut text)) (is_nil numbers) (other_part (head_text p))) ++ type_bytes eol subtype b) ++ ending_bytes eol) ++ x) s.delimiter_is
      ∙ ap (λ e. (((other_part (head_text p) ++ version_bytes (eol_of (cut text)) (is_nil numbers) (other_part (head_text p))) ++ type_bytes e subtype b) ++ ending_bytes e) ++ delimiter_bytes e b) s.eol_is)))

  pub part_are : ((content ++ separator_part eol separator) ++ body) ++ end_part eol p ≡ ((content_part (head_text p) ++ separator_part (eol_of (cut text)) (separator_text p)) ++ body_text p) ++ end_part (eol_of (cut text)) p
  part_are =
      ap (λ x. ((x ++ separator_part eol separator) ++ body) ++ end_part eol p) (s.content_is ∙ ap content_part s.head_is)
      ∙ (ap (λ x. ((content_part (head_text p) ++ separator_part eol x) ++ body) ++ end_part eol p) s.separator_is
      ∙ (ap (λ x. ((content_part (head_text p) ++ separator_part eol (separator_text p)) ++ x) ++ end_part eol p) s.body_is
      ∙ ap (λ e. ((content_part (head_text p) ++ separator_part e (separator_text p)) ++ body_text p) ++ end_part e p) s.eol_is))

  pub bytes_are : (new : List ℕ) → new ≡ (((((others ++ version) ++ kind) ++ ending_bytes eol) ++ delimiter) ++ (((content ++ separator_part eol separator) ++ body) ++ end_part eol p)) ++ close → new ≡ wrap_bytes (eol_of (cut text)) (is_nil numbers) p subtype b
  bytes_are new e =
      e
      ∙ (ap (λ x. (x ++ (((content ++ separator_part eol separator) ++ body) ++ end_part eol p)) ++ close) front_are
      ∙ (ap (λ x. (((((other_part (head_text p) ++ version_bytes (eol_of (cut text)) (is_nil numbers) (other_part (head_text p))) ++ type_bytes (eol_of (cut text)) subtype b) ++ ending_bytes (eol_of (cut text))) ++ delimiter_bytes (eol_of (cut text)) b) ++ x) ++ close) part_are
      ∙ ap (λ x. (((((other_part (head_text p) ++ version_bytes (eol_of (cut text)) (is_nil numbers) (other_part (head_text p))) ++ type_bytes (eol_of (cut text)) subtype b) ++ ending_bytes (eol_of (cut text))) ++ delimiter_bytes (eol_of (cut text)) b)
      ++ (((content_part (head_text p) ++ separator_part (eol_of (cut text)) (separator_text p)) ++ body_text p) ++ end_part (eol_of (cut text)) p)) ++ x) (s.close_is ∙ ap (λ e. close_bytes e b) s.eol_is)))

-- where nothing holds against it
answered : (o : Bool) (h : Option ℕ) (f : Bool) (s r : PlainSplice) → o ≡ false → h ≡ None → f ≡ true → s ≡ r → answer_by o h f s ≡ Ok r
answered o h f s r a b c d = ap (λ t. answer_by t h f s) a ∙ (ap (λ t. answer_by false t f s) b ∙ (ap (λ t. answer_by false None t s) c ∙ ap (λ x. Ok x) d))

same_splice : (place count : ℕ) (new : List ℕ) (r : PlainSplice) → r.place ≡ place → r.count ≡ count → r.new ≡ new → ◌≡◌ {A = PlainSplice} (record { place = place; count = count; new = new }) r
same_splice place count new r a b c = λ i. record { place = sym a i; count = sym b i; new = sym c i }

pub wrapped_in : (text numbers subtype b : List ℕ) (p : Placed) (r : PlainSplice) → wrap_opens text p ≡ false
    → or_own (hit_below (cut (made_bytes (eol_of (cut text)) (is_nil numbers) (other_part (head_text p)) subtype b)) 1 numbers (root_of (tree text))) (has_mark b (cut (body_text p))) (length numbers + 1) ≡ None
    → wrap_fits (tree text) (eol_of (cut text)) numbers subtype p ≡ true → r.place ≡ p.start → r.count ≡ length (raw_of p) → r.new ≡ wrap_bytes (eol_of (cut text)) (is_nil numbers) p subtype b → wrap_in text numbers subtype b p ≡ Ok r
wrapped_in text numbers subtype b p r o h f place count new =
    answered (wrap_opens text p) (or_own (hit_below (cut (made_bytes (eol_of (cut text)) (is_nil numbers) (other_part (head_text p)) subtype b)) 1 numbers (root_of (tree text))) (has_mark b (cut (body_text p))) (length numbers + 1))
    (wrap_fits (tree text) (eol_of (cut text)) numbers subtype p) (record { place = p.start; count = length (raw_of p); new = wrap_bytes (eol_of (cut text)) (is_nil numbers) p subtype b }) r
    o h f (same_splice p.start (length (raw_of p)) (wrap_bytes (eol_of (cut text)) (is_nil numbers) p subtype b) r place count new)

pub nil_told : (xs : List ℕ) → (length xs == 0) ≡ is_nil xs
nil_told [] = refl
nil_told (x ∷ xs) = not_zero (length (x ∷ xs)) (λ e. absurd (omega (arith, e)))

-- after the tests of what is given
same_in : (text path numbers subtype b : List ℕ) (p : Placed) → after_first path ≡ numbers → is_boundary b ≡ true → is_token subtype ≡ true → wrap_in text numbers subtype b p ≡ wrap_answer text (after_first path) subtype b p
same_in text path numbers subtype b p n k h = sym (told_in text (after_first path) subtype b p k h ∙ ap (λ ks. wrap_in text ks subtype b p) n)

pub in_ok : (text path numbers subtype b : List ℕ) (p : Placed) (r : Result Replacement EditError) → after_first path ≡ numbers → is_boundary b ≡ true → is_token subtype ≡ true → IfOk r (λ x. wrap_in text numbers subtype b p ≡ Ok (plain_splice x)) → IfOk r (λ x. wrap_answer text (after_first path) subtype b p ≡ Ok (plain_splice x))
in_ok text path numbers subtype b p r n k h i = subst (λ a. IfOk r (λ x. a ≡ Ok (plain_splice x))) (same_in text path numbers subtype b p n k h) i

pub in_err : (text path numbers subtype b : List ℕ) (p : Placed) (r : Result Replacement EditError) → after_first path ≡ numbers → is_boundary b ≡ true → is_token subtype ≡ true → IfErr r (λ x. IsRefusedBy (refusal_of x) (wrap_in text numbers subtype b p)) → IfErr r (λ x. IsRefusedBy (refusal_of x) (wrap_answer text (after_first path) subtype b p))
in_err text path numbers subtype b p r n k h i = subst (λ a. IfErr r (λ x. IsRefusedBy (refusal_of x) a)) (same_in text path numbers subtype b p n k h) i
