use Rattle.std.proofs.Common.{◌∙◌, ◌∷◌, [], ap}
use Rattle.std.proofs.lemmas.List.{map-append}
use Rattle.std.specs.Cow.{cow_slice_items}
use Rattle.std.specs.Vec.Iter.{into_iter_items}
use Rattle.mk_mail.specs.LetterWork.{plain_edits, texts_of}
use Rattle.mk_mail.proofs.FieldNames.{rest_respelling, rest_respelt}
use Rattle.mk_mail.proofs.filtering.respell.Goals as goal

pub loop-own-preserved : goal.loop-own-preserved
loop-own-preserved c =
    let l = c.loop-own in
    let old = c.args.old.now in
    let new = c.args.new.now in
    let own = cow_slice_items c.in-Some.own in
    let rest = texts_of (into_iter_items c.next.new.self) in
    record {
      names = rest_respelt old new own l.next (texts_of l.list.items) (texts_of c.push-in-None-next.new.self.items) _ (texts_of (into_iter_items l.own-iterator)) rest c.in-None-next.is
          (ap texts_of c.in-Some.ensures.steps.0) (ap texts_of c.in_ok-push-in-None-next.ensures.items ∙ map-append cow_slice_items l.list.items (c.in-Some.own ∷ [])) l.invariant.names;
      edits = rest_respelling c.args.path.now old new own l.next (plain_edits l.edits.items) _ (texts_of (into_iter_items l.own-iterator)) rest c.in-None-next.is (ap texts_of c.in-Some.ensures.steps.0) l.invariant.edits;
    }
