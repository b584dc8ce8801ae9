use Rattle.std.proofs.Common.{◌≡◌, ℕ, List, Result, Ok, Err, ◌∷◌, false, ap, ◌∙◌, refl, sym, subst, length, arith, IfOk, IfErr}
use Rattle.mk_line.specs.Lines.{cut as lines_of}
use Rattle.mk_line.proofs.Cuts.{text_cut}
use Rattle.mk_head.specs.Splits.{IsRun}
use Rattle.mk_tree.specs.Sections.{Placed, head_text}
use Rattle.mk_decide.specs.declared.field_edits.Put.{Put}
use Rattle.mk_decide.specs.Answers.{refusal_of, IsRefusedBy}
use Rattle.mk_decide.specs.Edits.{Refusal}
use Rattle.mk_decide.specs.FieldPuts.{LinePut, puts, IsPut}
use Rattle.mk_decide.specs.LocalAnswers.{answer_bytes, answer_puts, looked_bytes, looked_put, plain_splice}
use Rattle.mk_decide.proofs.SectionSites.{site, head_is_run, head_within}
use Rattle.mk_decide.proofs.FieldPutFacts.{puts_is, puts_fit}
use Rattle.mk_decide.proofs.field_answers.decide_at.Goals as goal

pub put_of-requires : goal.put_of-requires
put_of-requires c =
    let path = 1 ∷ c.args.numbers.now in
    let s = site c.args.doc.now path c.args.section.now c.requires in
    subst (λ xs. IsRun false (lines_of xs)) (sym (c.deref.ensures.value ∙ (c.in_ok-head.ensures.copy ∙ c.head.ensures))) (head_is_run c.args.doc.now path c.args.section.now s)

pub decide_put-requires-clause-within : goal.decide_put-requires-clause-within
decide_put-requires-clause-within c =
    let path = 1 ∷ c.args.numbers.now in
    let s = site c.args.doc.now path c.args.section.now c.requires in
    let fields = lines_of c.deref.result.now in
    let fit = puts_fit fields c.in_ok-put.put (puts c.args.edit.now fields) (puts_is c.args.edit.now fields) c.in_ok-put.ensures.ok in
    omega (arith, fit.within, head_within c.args.doc.now path c.args.section.now s, ap length (text_cut c.deref.result.now), ap length (c.deref.ensures.value ∙ (c.in_ok-head.ensures.copy ∙ c.head.ensures)))

pub decide_put-requires-clause-inside : goal.decide_put-requires-clause-inside
decide_put-requires-clause-inside c =
    let fields = lines_of c.deref.result.now in
    let fit = puts_fit fields c.in_ok-put.put (puts c.args.edit.now fields) (puts_is c.args.edit.now fields) c.in_ok-put.ensures.ok in
    omega (arith, fit.within, ap length (text_cut c.deref.result.now), ap length c.deref.ensures.value)

pub decide_put-requires-clause-stays : goal.decide_put-requires-clause-stays
decide_put-requires-clause-stays c =
    let fields = lines_of c.deref.result.now in
    (puts_fit fields c.in_ok-put.put (puts c.args.edit.now fields) (puts_is c.args.edit.now fields) c.in_ok-put.ensures.ok).stays

-- what is in memory is answered as the lines that it is
answer_same : (text numbers : List ℕ) (p : Placed) (r : Put) (x : Result LinePut Refusal) → IsPut r x → answer_bytes text numbers p r.from r.count r.lines.items r.kept ≡ answer_puts text numbers p x
answer_same text numbers p r (Ok q) i = rw (i.from, i.count, i.lines, i.kept) refl
answer_same text numbers p r (Err e) i = absurd i

looked_same : (text : List ℕ) (p : Placed) (r : Put) (x : Result LinePut Refusal) → IsPut r x → looked_bytes text p r.from r.count r.lines.items ≡ looked_put text p x
looked_same text p r (Ok q) i = rw (i.from, i.count, i.lines) refl
looked_same text p r (Err e) i = absurd i

pub returns-clause-ok : goal.returns-clause-ok
returns-clause-ok c =
    let head : c.deref.result.now ≡ head_text c.args.section.now = c.deref.ensures.value ∙ (c.in_ok-head.ensures.copy ∙ c.head.ensures) in
    subst (λ a. IfOk c.decide_put.result (λ r. a ≡ Ok (plain_splice r)))
    (answer_same c.args.doc.now c.args.numbers.now c.args.section.now c.in_ok-put.put (puts c.args.edit.now (lines_of c.deref.result.now)) c.in_ok-put.ensures.ok
    ∙ ap (λ h. answer_puts c.args.doc.now c.args.numbers.now c.args.section.now (puts c.args.edit.now (lines_of h))) head)
    c.decide_put.ensures.ok

pub returns-clause-err : goal.returns-clause-err
returns-clause-err c =
    let head : c.deref.result.now ≡ head_text c.args.section.now = c.deref.ensures.value ∙ (c.in_ok-head.ensures.copy ∙ c.head.ensures) in
    subst (λ a. IfErr c.decide_put.result (λ e. IsRefusedBy (refusal_of e) a))
    (answer_same c.args.doc.now c.args.numbers.now c.args.section.now c.in_ok-put.put (puts c.args.edit.now (lines_of c.deref.result.now)) c.in_ok-put.ensures.ok
    ∙ ap (λ h. answer_puts c.args.doc.now c.args.numbers.now c.args.section.now (puts c.args.edit.now (lines_of h))) head)
    c.decide_put.ensures.err

pub returns-clause-most : goal.returns-clause-most
returns-clause-most c =
    let head : c.deref.result.now ≡ head_text c.args.section.now = c.deref.ensures.value ∙ (c.in_ok-head.ensures.copy ∙ c.head.ensures) in
    let same : looked_bytes c.args.doc.now c.args.section.now c.in_ok-put.put.from c.in_ok-put.put.count c.in_ok-put.put.lines.items ≡ looked_put c.args.doc.now c.args.section.now (puts c.args.edit.now (lines_of (head_text c.args.section.now))) =
    looked_same c.args.doc.now c.args.section.now c.in_ok-put.put (puts c.args.edit.now (lines_of c.deref.result.now)) c.in_ok-put.ensures.ok
    ∙ ap (λ h. looked_put c.args.doc.now c.args.section.now (puts c.args.edit.now (lines_of h))) head in
    omega (arith, same, c.decide_put.ensures.most, c.in_ok-head.ensures.most, ap (λ h. length (lines_of h)) c.head.ensures)
