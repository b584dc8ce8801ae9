use Rattle.std.proofs.Common.{◌≡◌, ◌∙◌, ◌∷◌, ◌++◌, ◌&&◌, ◌||◌, [], true, false, ap, sym, drop, map}
use Rattle.std.proofs.lemmas.List.{map-append}
use Rattle.std.specs.Cow.{cow_slice_items}
use Rattle.std.specs.List.{list_any}
use Rattle.mk_decide.specs.Edits.{RemoveField}
use Rattle.mk_mail.specs.Letters.{same_name, those, with_first}
use Rattle.mk_mail.specs.LetterWork.{plain_edits, texts_of}
use Rattle.mk_mail.proofs.FieldNames.{any_on, first_kept, gone_on, later_kept}
use Rattle.mk_mail.proofs.filtering.remove_later.Goals as goal

-- the field goes, whose name is borrowed or owned
pub loop-own-preserved-in_ok-push_removal : goal.loop-own-preserved-in_ok-push_removal
loop-own-preserved-in_ok-push_removal c =
    let l = c.loop-own in
    let name = c.args.name.now in
    let own = cow_slice_items c.in-Some.own in
    let h : (l.is_there && same_name name own) ≡ true = ap (λ b. l.is_there && b) (sym (c.is_same-same.ensures ∙ ap (same_name name) c.deref.ensures.value)) ∙ c.if-is_there-same.true in
    gone_on c.args.path.now name own c.args.k l.is_there (texts_of l.list.items) (texts_of l.yielded) _ (plain_edits c.args.edits.now.items) (plain_edits l.edits.items) (plain_edits c.push_removal.new.edits.items)
    (map-append cow_slice_items l.yielded (c.in-Some.own ∷ [])) h l.invariant
    c.in_ok-push_removal.ensures

pub loop-own-preserved-in_ok-push_removal-2 : goal.loop-own-preserved-in_ok-push_removal-2
loop-own-preserved-in_ok-push_removal-2 c =
    let l = c.loop-own in
    let name = c.args.name.now in
    let own = cow_slice_items c.in-Some.own in
    let h : (l.is_there && same_name name own) ≡ true = ap (λ b. l.is_there && b) (sym (c.is_same-same.ensures ∙ ap (same_name name) c.deref.ensures.value)) ∙ c.if-is_there-same.true in
    gone_on c.args.path.now name own c.args.k l.is_there (texts_of l.list.items) (texts_of l.yielded) _ (plain_edits c.args.edits.now.items) (plain_edits l.edits.items) (plain_edits c.push_removal.new.edits.items)
    (map-append cow_slice_items l.yielded (c.in-Some.own ∷ [])) h l.invariant
    c.in_ok-push_removal.ensures

pub loop-own-preserved : goal.loop-own-preserved
loop-own-preserved c =
    let l = c.loop-own in
    let name = c.args.name.now in
    let own = cow_slice_items c.in-Some.own in
    let xs = texts_of l.yielded in
    let more = map-append cow_slice_items l.yielded (c.in-Some.own ∷ []) in
    let same = c.is_same-same.ensures ∙ ap (same_name name) c.deref.ensures.value in
    let h : (l.is_there && same_name name own) ≡ false = ap (λ b. l.is_there && b) (sym same) ∙ c.if-is_there-same.false in
    record {
      there = (λ i. l.invariant.there i || same i) ∙ sym (ap (list_any (same_name name)) more ∙ any_on (same_name name) xs own);
      names = ap texts_of c.in_ok-push.ensures.items ∙ (map-append cow_slice_items l.list.items (c.in-Some.own ∷ []) ∙ (ap (λ ns. ns ++ own ∷ []) l.invariant.names ∙ sym (ap (with_first name) more ∙ first_kept name xs own l.is_there l.invariant.there h)));
      edits = l.invariant.edits ∙ ap (λ ns. plain_edits c.args.edits.now.items ++ map (λ own. RemoveField c.args.path.now name c.args.k) ns) (sym (ap (λ ns. drop 1 (those name ns)) more ∙ later_kept name xs own l.is_there l.invariant.there h));
    }
