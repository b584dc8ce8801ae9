use Rattle.std.proofs.Common.{◌≡◌, ℕ, true, false, List, [], ◌∷◌, ◌++◌, refl, ap, ◌∙◌, subst, None, Some, map, IfOk}
use Rattle.std.specs.Prelude.{Option}
use Rattle.std.specs.Option.{option_map}
use Rattle.std.specs.String.{string_bytes}
use Rattle.mk_line.specs.Parting.{before, following}
use Rattle.mk_param.specs.Extended.{joined, segments_text, text_in}
use Rattle.mk_param.specs.Percents.{percent_decoded}
use Rattle.mk_param.specs.Segments.{Segment, Encoded}
use Rattle.mk_param.specs.SegmentViews.{segment_of}
use Rattle.mk_param.proofs.extended.encoded_text.Goals as goal

-- what was read, and was put after other bytes
was_read : (out new : List ℕ) (o : Option (List ℕ)) → Some new ≡ option_map (λ bytes. out ++ bytes) o → (bytes : List ℕ) × (o ≡ Some bytes) × (new ≡ out ++ bytes)
was_read out new None e = cc
was_read out new (Some bytes) e = let same : new ≡ out ++ bytes = cc in (bytes, refl, same)

not_read : (out new : List ℕ) (o : Option (List ℕ)) → None ≡ option_map (λ bytes. out ++ bytes) o → o ≡ None
not_read out new None e = refl
not_read out new (Some bytes) e = cc

-- all was read: the bytes of the first segment, and those of the others
all_read : (value language text charset none first front whole back : List ℕ) (others : List Segment) → charset ≡ before 39 value → following 39 value ≡ Some language → following 39 language ≡ Some text
    → percent_decoded text ≡ Some front → joined others ≡ Some back → none ≡ [] → first ≡ none ++ front → whole ≡ first ++ back → text_in charset whole ≡ segments_text (Encoded value ∷ others)
all_read value language text charset none first front whole back others e f g p j n a b =
    ap (text_in charset) (b ∙ ap (λ xs. xs ++ back) (a ∙ ap (λ xs. xs ++ front) n)) ∙ rw (e, f, g, p, j) refl

pub returns-in_default : goal.returns-in_default
returns-in_default c = rw c.in_default.ensures.none refl

pub returns-in_default-split_at_first : goal.returns-in_default-split_at_first
returns-in_default-split_at_first c = rw (c.in-Some.ensures.some.1, c.in_default-split_at_first.ensures.none) refl

pub returns-then-not-branch : goal.returns-then-not-branch
returns-then-not-branch c =
    let read = rw c.if-not-branch.true at c.in_ok-push_decoded.ensures in
    let none = not_read c.in_ok-bytes.bytes.items c.push_decoded.new.out.items (percent_decoded c.in-Some-split_at_first.text.now) read in
    rw (c.in-Some.ensures.some.1, c.in-Some-split_at_first.ensures.some.1, none) refl

pub returns-then-not-branch-2 : goal.returns-then-not-branch-2
returns-then-not-branch-2 c =
    let first = rw c.if-not-branch.false at c.in_ok-push_decoded.ensures in
    let read = rw c.if-not-branch-2.true at c.in_ok-push_joined.ensures in
    let front = was_read c.in_ok-bytes.bytes.items c.push_decoded.new.out.items (percent_decoded c.in-Some-split_at_first.text.now) first in
    let none = not_read c.push_decoded.new.out.items c.push_joined.new.out.items (joined (map segment_of c.args.others.now)) read in
    rw (c.in-Some.ensures.some.1, c.in-Some-split_at_first.ensures.some.1, front.1, none) refl

pub returns : goal.returns
returns c =
    let text = c.in-Some-split_at_first.text.now in
    let others = map segment_of c.args.others.now in
    let first = rw c.if-not-branch.false at c.in_ok-push_decoded.ensures in
    let whole = rw c.if-not-branch-2.false at c.in_ok-push_joined.ensures in
    let front = was_read c.in_ok-bytes.bytes.items c.push_decoded.new.out.items (percent_decoded text) first in
    let back = was_read c.push_decoded.new.out.items c.push_joined.new.out.items (joined others) whole in
    subst (λ said. IfOk c.text_in.result (λ text. option_map string_bytes text ≡ said))
    (all_read c.args.value.now c.in-Some.language.now text c.in-Some.charset.now c.in_ok-bytes.bytes.items c.push_decoded.new.out.items front.0 c.push_joined.new.out.items back.0 others
    c.in-Some.ensures.some.0 c.in-Some.ensures.some.1 c.in-Some-split_at_first.ensures.some.1 front.1 back.1 c.in_ok-bytes.ensures.items front.2 back.2)
    c.text_in.ensures
