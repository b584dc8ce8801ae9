use Rattle.std.proofs.Common.{◌∙◌, ◌∷◌, sym, ap}
use Rattle.mk_code.specs.EncodedWords.{parts_decoded}
use Rattle.mk_code.proofs.WordParts.{parts_cut, parts_whole, word_cut, word_starts_bad, word_ends_bad, word_good}
use Rattle.mk_code.proofs.one_word.split_word.Goals.{else-eq-via-then-eq+else-eq-2, else-eq-via-else-eq}
use Rattle.mk_code.proofs.one_word.split_word.Goals as goal

pub returns-in_err-start : goal.returns-in_err-start
returns-in_err-start c = rw c.from_residual.ensures (ap parts_decoded (parts_whole c.args.word.now c.in_err-start.ensures.parts))

pub returns-in_err-charset : goal.returns-in_err-charset
returns-in_err-charset c =
    rw c.from_residual-in_err-charset.ensures (ap parts_decoded (parts_cut c.args.word.now c.in_ok-start.start.now c.in_ok-start.rest.now c.in_ok-start.ensures.parts c.in_ok-start.ensures.first
    ∙ ap (λ ps. c.in_ok-start.start.now ∷ ps) (parts_whole c.in_ok-start.rest.now c.in_err-charset.ensures.parts)))

pub returns-in_err-name : goal.returns-in_err-name
returns-in_err-name c =
    rw c.from_residual-in_err-name.ensures (ap parts_decoded (parts_cut c.args.word.now c.in_ok-start.start.now c.in_ok-start.rest.now c.in_ok-start.ensures.parts c.in_ok-start.ensures.first
    ∙ ap (λ ps. c.in_ok-start.start.now ∷ ps) (parts_cut c.in_ok-start.rest.now c.in_ok-charset.charset.now c.in_ok-charset.rest.now c.in_ok-charset.ensures.parts c.in_ok-charset.ensures.first
    ∙ ap (λ ps. c.in_ok-charset.charset.now ∷ ps) (parts_whole c.in_ok-charset.rest.now c.in_err-name.ensures.parts))))

pub returns-in_err-text : goal.returns-in_err-text
returns-in_err-text c =
    rw c.from_residual-in_err-text.ensures (ap parts_decoded (parts_cut c.args.word.now c.in_ok-start.start.now c.in_ok-start.rest.now c.in_ok-start.ensures.parts c.in_ok-start.ensures.first
    ∙ ap (λ ps. c.in_ok-start.start.now ∷ ps) (parts_cut c.in_ok-start.rest.now c.in_ok-charset.charset.now c.in_ok-charset.rest.now c.in_ok-charset.ensures.parts c.in_ok-charset.ensures.first
    ∙ ap (λ ps. c.in_ok-charset.charset.now ∷ ps) (parts_cut c.in_ok-charset.rest.now c.in_ok-name.name.now c.in_ok-name.rest.now c.in_ok-name.ensures.parts c.in_ok-name.ensures.first
    ∙ ap (λ ps. c.in_ok-name.name.now ∷ ps) (parts_whole c.in_ok-name.rest.now c.in_err-text.ensures.parts)))))

pub returns-then-eq-2 : goal.returns-then-eq-2
returns-then-eq-2 c =
    word_good c.args.word.now c.in_ok-start.start.now c.in_ok-charset.charset.now c.in_ok-name.name.now c.in_ok-text.text.now c.in_ok-text.end.now
    (word_cut c.args.word.now c.in_ok-start.start.now c.in_ok-start.rest.now c.in_ok-charset.charset.now c.in_ok-charset.rest.now c.in_ok-name.name.now c.in_ok-name.rest.now c.in_ok-text.text.now c.in_ok-text.end.now
    c.in_ok-start.ensures.parts c.in_ok-start.ensures.first c.in_ok-charset.ensures.parts c.in_ok-charset.ensures.first c.in_ok-name.ensures.parts c.in_ok-name.ensures.first c.in_ok-text.ensures.parts c.in_ok-text.ensures.first)
    (sym c.eq.ensures ∙ c.if-eq.true) (sym c.eq-then-eq.ensures ∙ c.if-eq-2.true)

pub returns-else-eq : goal.returns-else-eq
returns-else-eq c =
    elim c.else-eq.branch [
      | else-eq-via-then-eq+else-eq-2 w ↦
          word_ends_bad c.args.word.now c.in_ok-start.start.now c.in_ok-charset.charset.now c.in_ok-name.name.now c.in_ok-text.text.now c.in_ok-text.end.now
          (word_cut c.args.word.now c.in_ok-start.start.now c.in_ok-start.rest.now c.in_ok-charset.charset.now c.in_ok-charset.rest.now c.in_ok-name.name.now c.in_ok-name.rest.now c.in_ok-text.text.now c.in_ok-text.end.now
          c.in_ok-start.ensures.parts c.in_ok-start.ensures.first c.in_ok-charset.ensures.parts c.in_ok-charset.ensures.first c.in_ok-name.ensures.parts c.in_ok-name.ensures.first c.in_ok-text.ensures.parts c.in_ok-text.ensures.first)
          (sym w.eq-then-eq.ensures ∙ w.if-eq-2.false)
      | else-eq-via-else-eq w ↦
          word_starts_bad c.args.word.now c.in_ok-start.start.now c.in_ok-charset.charset.now c.in_ok-name.name.now c.in_ok-text.text.now c.in_ok-text.end.now
          (word_cut c.args.word.now c.in_ok-start.start.now c.in_ok-start.rest.now c.in_ok-charset.charset.now c.in_ok-charset.rest.now c.in_ok-name.name.now c.in_ok-name.rest.now c.in_ok-text.text.now c.in_ok-text.end.now
          c.in_ok-start.ensures.parts c.in_ok-start.ensures.first c.in_ok-charset.ensures.parts c.in_ok-charset.ensures.first c.in_ok-name.ensures.parts c.in_ok-name.ensures.first c.in_ok-text.ensures.parts c.in_ok-text.ensures.first)
          (sym c.eq.ensures ∙ w.if-eq.false)
    ]
