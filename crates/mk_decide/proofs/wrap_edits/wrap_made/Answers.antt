use Rattle.std.proofs.Common.{◌≡◌, ◌+◌, ◌∙◌, ap, refl, sym, length}
use Rattle.mk_line.specs.Lines.{cut, eol_of, is_nil}
use Rattle.mk_tree.specs.Documents.{tree}
use Rattle.mk_tree.specs.Sections.{root_of, head_text}
use Rattle.mk_decide.specs.Around.{hit_below}
use Rattle.mk_decide.specs.Outcomes.{has_mark}
use Rattle.mk_decide.specs.SectionAnswers.{or_own}
use Rattle.mk_decide.specs.WrapAnswers.{made_bytes, other_part, content_part, type_bytes, delimiter_bytes, close_bytes, version_bytes, wrap_opens, wrap_fits}
use Rattle.mk_decide.proofs.WrapAnswered.{AreSteps, lines_are, bytes_are, wrapped_in}
use Rattle.mk_decide.proofs.wrap_edits.wrap_made.Goals as goal

pub returns-clause-ok : goal.returns-clause-ok
returns-clause-ok c =
    let text = c.args.doc.now in
    let numbers = c.args.numbers.now in
    let subtype = c.args.subtype.now in
    let b = c.args.boundary.now in
    let p = c.args.section.now in
    let w = c.args.wrapping.now in
    let eol = w.eol in
    let apart = w.apart in
    let divided = w.divided in
    let made = w.made in
    let ended = c.requires.ending in
    let lines = c.in_ok-lines.lines.items in
    let new = c.in_ok-wrapped.field-0.items in
    let others : divided.others.items ≡ other_part (apart.head.now) = c.requires.others ∙ ap other_part (sym c.requires.head) in
    let steps : AreSteps text numbers subtype b p eol (is_nil numbers) apart.head.now apart.separator.now apart.body.now divided.others.items divided.content.items divided.others.items made.version.items made.kind.items made.delimiter.items made.close.items =
    record {
      eol_is = ended;
      first_is = refl;
      head_is = c.requires.head;
      separator_is = c.requires.separator;
      body_is = c.requires.body;
      others_is = others;
      content_is = c.requires.content ∙ ap content_part (sym c.requires.head);
      given_is = refl;
      version_is = c.requires.version ∙ (ap (λ e. version_bytes e (is_nil numbers) (other_part (head_text p))) (sym ended) ∙ ap (version_bytes eol (is_nil numbers)) (sym c.requires.others));
      kind_is = c.requires.kind ∙ ap (λ e. type_bytes e subtype b) (sym ended);
      delimiter_is = c.requires.delimiter ∙ ap (λ e. delimiter_bytes e b) (sym ended);
      close_is = c.requires.close ∙ ap (λ e. close_bytes e b) (sym ended);
    } in
    let lines_told : c.deref.result.now ≡ made_bytes (eol_of (cut c.args.doc.now)) (is_nil c.args.numbers.now) (other_part (head_text c.args.section.now)) c.args.subtype.now c.args.boundary.now =
    c.deref.ensures.value ∙ lines_are _ _ _ _ _ _ _ _ _ _ _ _ _ _ _ _ _ steps lines c.in_ok-lines.ensures in
    let level = length numbers + 1 in
    let root = root_of (tree text) in
    let all = made_bytes (eol_of (cut text)) (is_nil numbers) (other_part (head_text p)) subtype b in
    wrapped_in text numbers subtype b p (record { place = c.start.result; count = length c.raw.result.now; new = new }) c.requires.opens
    (sym (ap (λ ls. or_own (hit_below (cut ls) 1 numbers root) (has_mark b (cut apart.body.now)) level) lines_told ∙ ap (λ x. or_own (hit_below (cut all) 1 numbers root) (has_mark b (cut x)) level) steps.body_is)
    ∙ (sym c.part_hits.ensures ∙ c.in_default.is))
    (sym (ap (λ e. wrap_fits (tree text) e numbers subtype p) steps.eol_is) ∙ (sym c.in_ok-fits.ensures ∙ c.if-not-branch.false)) c.start.ensures (ap length c.raw.ensures)
    (bytes_are _ _ _ _ _ _ _ _ _ _ _ _ _ _ _ _ _ steps new c.in_ok-wrapped.ensures)
