-- Lengths where one entity is changed.
use Rattle.std.specs.Prelude.{◌≤◌, ◌<◌, ◌+◌, ◌-◌, ◌^◌, ℕ, zero, suc, Bool, List, [], ◌∷◌}
use Rattle.mk_tree.specs.declared.changing.Own.{Own}
use Rattle.mk_tree.specs.declared.changing.Own.TheVariants as own
use Rattle.mk_tree.specs.Nodes.{node_span}
use Rattle.mk_tree.specs.Spans.{Form, leaf_form, message_form, multi_form, Span, span, Spans, no_spans, more_spans}

-- a form whose parts' default is given
abbrev pub redigested : Bool → Form → Form
redigested digest leaf_form = leaf_form
redigested digest message_form = message_form
redigested digest (multi_form boundary old preamble tail) = multi_form boundary digest preamble tail

-- the lengths after another delimiter
abbrev pub redelimited : ℕ → Span → Span
redelimited delimiter (span old fields separator whole form spans) = span delimiter fields separator whole form spans

-- spans with one more, after so many
abbrev pub with_span : ℕ → Span → Spans → Spans
with_span zero s ss = more_spans s ss
with_span (suc k) s no_spans = more_spans s no_spans
with_span (suc k) s (more_spans r ss) = more_spans r (with_span k s ss)

-- spans without the one after so many
abbrev pub without_span : ℕ → Spans → Spans
without_span k no_spans = no_spans
without_span zero (more_spans s ss) = ss
without_span (suc k) (more_spans s ss) = more_spans s (without_span k ss)

-- how many there are
abbrev pub span_count : Spans → ℕ
span_count no_spans = 0
span_count (more_spans s ss) = suc (span_count ss)

-- an entity whose lines are longer or shorter
abbrev pub resized : ℕ → ℕ → Span → Span
resized count added (span delimiter fields separator whole form spans) = span delimiter fields separator (whole - count + added) form spans

-- it has so many bytes to lose, and its length stays in 64 bits
abbrev pub Resizes : ℕ → ℕ → Span → Type 0
Resizes count added (span delimiter fields separator whole form spans) = (count ≤ whole) × (whole - count + added < 2 ^ 64)

-- what becomes of the entity itself, where so many bytes go and others come
abbrev pub own_changed : Own → ℕ → ℕ → Span → Span
own_changed (own.Fields digest) count added (span delimiter fields separator whole form spans) =
    span delimiter (fields - count + added) separator (whole - count + added) (redigested digest form) spans
own_changed (own.Entity node) count added (span delimiter fields separator whole form spans) = redelimited delimiter (node_span node)
own_changed (own.Part place node) count added (span delimiter fields separator whole form spans) =
    span delimiter fields separator (whole - count + added) form (with_span place (node_span node) spans)
own_changed (own.NoPart place) count added (span delimiter fields separator whole form spans) =
    span delimiter fields separator (whole - count + added) form (without_span place spans)

-- it can be changed so
abbrev pub FitsOwn : Own → ℕ → Span → Type 0
FitsOwn (own.Fields digest) count (span delimiter fields separator whole form spans) = (count ≤ fields) × (fields ≤ whole)
FitsOwn (own.Entity node) count s = Unit {0}
FitsOwn (own.Part place node) count (span delimiter fields separator whole form spans) = place ≤ span_count spans
FitsOwn (own.NoPart place) count (span delimiter fields separator whole form spans) = place < span_count spans

-- the k-th of spans, counted from 1, changed
abbrev pub changed_at : ℕ → (Span → Span) → Spans → Spans
changed_at k f no_spans = no_spans
changed_at zero f (more_spans s ss) = more_spans s ss
changed_at (suc zero) f (more_spans s ss) = more_spans (f s) ss
changed_at (suc (suc k)) f (more_spans s ss) = more_spans s (changed_at (suc k) f ss)

-- the lengths where the entity at the numbers below is changed, and loses bytes and gets others
abbrev pub respan : List ℕ → ℕ → ℕ → (Span → Span) → Span → Span
respan [] count added f s = f s
respan (k ∷ ks) count added f (span delimiter fields separator whole form spans) =
    span delimiter fields separator (whole - count + added) form (changed_at k (respan ks count added f) spans)

-- the k-th of spans is there, counted from 1, and meets a condition
abbrev pub LeadsAt : ℕ → (Span → Type 0) → Spans → Type 0
LeadsAt k P no_spans = ⊥
LeadsAt zero P (more_spans s ss) = ⊥
LeadsAt (suc zero) P (more_spans s ss) = P s
LeadsAt (suc (suc k)) P (more_spans s ss) = LeadsAt (suc k) P ss

-- the numbers lead to an entity that can be changed so, and all lengths stay in 64 bits
abbrev pub LeadsTo : List ℕ → ℕ → ℕ → (Span → Type 0) → Span → Type 0
LeadsTo [] count added P s = Resizes count added s × P s
LeadsTo (k ∷ ks) count added P (span delimiter fields separator whole form spans) = (count ≤ whole) × (whole - count + added < 2 ^ 64) × LeadsAt k (LeadsTo ks count added P) spans
