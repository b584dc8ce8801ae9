use Rattle.std.proofs.Common.{◌∙◌, ap, codes, inl, subst, sym}
use Rattle.std.proofs.lemmas.Result.{IfOk-weaker}
use Rattle.mk_head.specs.Values.{param_of}
use Rattle.mk_view.specs.Extracts.{IsExtract}
use Rattle.mk_show.specs.Portions.{text_run}
use Rattle.mk_show.proofs.portions.text.Goals as goal

pub returns-in_ok-media-in-Ok : goal.returns-in_ok-media-in-Ok
returns-in_ok-media-in-Ok c =
    IfOk-weaker c.in_charset.result _ _ (λ a run. inl (record {
      section = c.in-Some.section;
      place_is = sym c.in-Some.ensures;
      bytes = c.in-Ok.bytes.items;
      content = subst (λ place. IsExtract place c.in-Ok.bytes.items) c.in-Some.ensures c.in-Ok.ensures.content;
      run_is = run ∙ ap (λ charset. text_run c.args.path.now charset c.in-Ok.bytes.items) (c.param.ensures ∙ ap (λ m. param_of (codes "charset") m.params) c.in_ok-media-in-Ok.ensures);
    })) c.in_charset.ensures
