-- Text that is gathered: what went out of it, and what is lost where the output fails.
use Rattle.std.proofs.Common.{◌≡◌, ◌++◌, arith, ℕ, List, [], Option, Result, Ok, Err, IfErr, OnOk, OnErr, refl, ap, sym, ◌∙◌, subst, append_assoc, append-nil}
use Rattle.std.proofs.KnownBytes.{Appends-nil, Appends-trans}
use Rattle.std.specs.Io.KnownBytes.{Appends}
use Rattle.mk_mailbox.specs.Devices.{AppendsFront, Rose}
use Rattle.mk_transfer.specs.declared.transfer.Stop.{Stop}
use Rattle.mk_transfer.specs.declared.transfer.Stop.TheVariants.{Fault as Stopped}
use Rattle.mk_transfer.specs.RunClauses.{IsSent, IsStopped, Sends}
use Rattle.mk_transfer.proofs.Fronts.{AppendsFront-following}
use Rattle.mk_field.specs.inner.Telling.{Gathers, GathersFront}

-- ---- texts one after another

-- all of it is gathered
pub gathers_all : (text old new : List ℕ) (out : Option (List ℕ)) → new ≡ old ++ text → Gathers text old new out out
gathers_all text old new out e = record { went = []; output = Appends-nil out; parts = sym e }

-- what was gathered went out
pub gathers_flushed : (old new : List ℕ) (out out_after : Option (List ℕ)) → new ≡ [] → Appends out out_after old → Gathers [] old new out out_after
gathers_flushed old new out out_after e a = record { went = old; output = a; parts = ap (λ x. old ++ x) (sym e) }

-- the text went out
pub gathers_sent : (text held : List ℕ) (out out_after : Option (List ℕ)) → held ≡ [] → Appends out out_after text → Gathers text held held out out_after
gathers_sent text held out out_after e a = record { went = text; output = a; parts = ap (λ x. x ++ text) e ∙ (sym (append-nil text) ∙ ap (λ x. text ++ x) (sym e)) }

pub gathers_on : (a b old mid new : List ℕ) (out out_mid out_after : Option (List ℕ)) → Gathers a old mid out out_mid → Gathers b mid new out_mid out_after → Gathers (a ++ b) old new out out_after
gathers_on a b old mid new out out_mid out_after x y = record {
  went = x.went ++ y.went;
  output = Appends-trans out out_mid out_after x.went y.went x.output y.output;
  parts = sym (append_assoc old a b)
      ∙ (ap (λ z. z ++ b) x.parts
      ∙ (append_assoc x.went mid b
      ∙ (ap (λ z. x.went ++ z) y.parts ∙ sym (append_assoc x.went y.went new))));
}

-- what is gathered goes out after a text
pub gathers_then : (text old mid new : List ℕ) (out out_mid out_after : Option (List ℕ)) → Gathers text old mid out out_mid → Gathers [] mid new out_mid out_after → Gathers text old new out out_after
gathers_then text old mid new out out_mid out_after x y = subst (λ t. Gathers t old new out out_after) (append-nil text) (gathers_on text [] old mid new out out_mid out_after x y)

-- ---- up to a failure

pub front_whole : (text old new : List ℕ) (out out_after : Option (List ℕ)) → Gathers text old new out out_after → GathersFront text old new out out_after
front_whole text old new out out_after x = record { went = x.went; lost = []; output = x.output; parts = x.parts ∙ sym (append-nil (x.went ++ new)) }

pub front_none : (text held : List ℕ) (out : Option (List ℕ)) → GathersFront text held held out out
front_none text held out = record { went = []; lost = text; output = Appends-nil out; parts = refl }

-- what was gathered went out in part
pub front_flushed : (text old new : List ℕ) (out out_after : Option (List ℕ)) → new ≡ [] → AppendsFront out out_after old → GathersFront text old new out out_after
front_flushed text old new out out_after e a = record {
  went = a.0;
  lost = a.1 ++ text;
  output = a.3;
  parts = ap (λ x. x ++ text) a.2 ∙ (append_assoc a.0 a.1 text ∙ ap (λ x. x ++ (a.1 ++ text)) (sym (append-nil a.0) ∙ ap (λ x. a.0 ++ x) (sym e)));
}

-- the text went out in part
pub front_sent : (text held : List ℕ) (out out_after : Option (List ℕ)) → held ≡ [] → AppendsFront out out_after text → GathersFront text held held out out_after
front_sent text held out out_after e a = record {
  went = a.0;
  lost = a.1;
  output = a.3;
  parts = ap (λ x. x ++ text) e ∙ (a.2 ∙ ap (λ x. x ++ a.1) (sym (append-nil a.0) ∙ ap (λ x. a.0 ++ x) (sym e)));
}

pub front_on : (a b old mid new : List ℕ) (out out_mid out_after : Option (List ℕ)) → Gathers a old mid out out_mid → GathersFront b mid new out_mid out_after → GathersFront (a ++ b) old new out out_after
front_on a b old mid new out out_mid out_after x y = record {
  went = x.went ++ y.went;
  lost = y.lost;
  output = Appends-trans out out_mid out_after x.went y.went x.output y.output;
  parts = sym (append_assoc old a b)
      ∙ (ap (λ z. z ++ b) x.parts
      ∙ (append_assoc x.went mid b
      ∙ (ap (λ z. x.went ++ z) y.parts
      ∙ (sym (append_assoc x.went (y.went ++ new) y.lost) ∙ ap (λ z. z ++ y.lost) (sym (append_assoc x.went y.went new))))));
}

-- after a text
pub front_then : (text old mid new : List ℕ) (out out_mid out_after : Option (List ℕ)) → Gathers text old mid out out_mid → GathersFront [] mid new out_mid out_after → GathersFront text old new out out_after
front_then text old mid new out out_mid out_after x y = subst (λ t. GathersFront t old new out out_after) (append-nil text) (front_on text [] old mid new out out_mid out_after x y)

-- before more text, of which nothing went out
pub front_more : (text more all old new : List ℕ) (out out_after : Option (List ℕ)) → all ≡ text ++ more → GathersFront text old new out out_after → GathersFront all old new out out_after
front_more text more all old new out out_after e x = record {
  went = x.went;
  lost = x.lost ++ more;
  output = x.output;
  parts = ap (λ z. old ++ z) e ∙ (sym (append_assoc old text more) ∙ (ap (λ z. z ++ more) x.parts ∙ append_assoc (x.went ++ new) x.lost more));
}

-- a text in two pieces
pub two_all : {X : Type 0} (r : Result X Stop) (a b all old mid new : List ℕ) (out out_mid out_after : Option (List ℕ)) → a ++ b ≡ all → Gathers a old mid out out_mid → OnOk r (Gathers b mid new out_mid out_after) → OnOk r (Gathers all old new out out_after)
two_all (Ok x) a b all old mid new out out_mid out_after e g h = subst (λ t. Gathers t old new out out_after) e (gathers_on a b old mid new out out_mid out_after g h)
two_all (Err stop) a b all old mid new out out_mid out_after e g h = tt

pub two_some : {X : Type 0} (r : Result X Stop) (a b all old mid new : List ℕ) (out out_mid out_after : Option (List ℕ)) → a ++ b ≡ all → Gathers a old mid out out_mid → OnErr r (GathersFront b mid new out_mid out_after) → OnErr r (GathersFront all old new out out_after)
two_some (Ok x) a b all old mid new out out_mid out_after e g h = tt
two_some (Err stop) a b all old mid new out out_mid out_after e g h = subst (λ t. GathersFront t old new out out_after) e (front_on a b old mid new out out_mid out_after g h)

pub two_fault : {X : Type 0} (r : Result X Stop) (before between after : ℕ) → between ≡ before → OnErr r (Rose between after) → OnErr r (Rose before after)
two_fault (Ok x) before between after e h = tt
two_fault (Err stop) before between after e h = subst (λ n. Rose n after) e h

pub two_well : {X : Type 0} (r : Result X Stop) (before between after : ℕ) → between ≡ before → OnOk r (after ≡ between) → OnOk r (after ≡ before)
two_well (Ok x) before between after e h = h ∙ e
two_well (Err stop) before between after e h = tt

pub two_sent : {X : Type 0} (r : Result X Stop) (a b all : List ℕ) (out out_mid out_after : Option (List ℕ)) (before between after : ℕ) → a ++ b ≡ all → IsSent a out out_mid before between → Sends r b out_mid out_after between after → Sends r all out out_after before after
two_sent (Ok x) a b all out out_mid out_after before between after e g s = record {
  whole = subst (Appends out out_after) e (Appends-trans out out_mid out_after a b g.whole s.whole);
  well = s.well ∙ g.well;
}
two_sent (Err stop) a b all out out_mid out_after before between after e g s = record {
  front = AppendsFront-following out out_mid out_after a b [] all g.whole s.front (sym e ∙ ap (λ xs. a ++ xs) (sym (append-nil b)));
  fault = λ f. subst (λ n. Rose n after) g.well (s.fault f);
  steady = λ w. s.steady w ∙ g.well;
  counted = (let c = s.counted in let w = g.well in omega (arith, c, w));
}

pub one_stopped : (stop : Stop) (a b all : List ℕ) (out out_after : Option (List ℕ)) (before after : ℕ) → a ++ b ≡ all → IsStopped stop a out out_after before after → IsStopped stop all out out_after before after
one_stopped stop a b all out out_after before after e s = record {
  front = (let f = s.front in (f.0, f.1 ++ b, sym e ∙ (ap (λ xs. xs ++ b) f.2 ∙ append_assoc f.0 f.1 b), f.3));
  fault = s.fault;
  steady = s.steady;
  counted = s.counted;
}

-- ---- what is gathered last goes out

pub flushed_all : (text left : List ℕ) (out out_mid out_after : Option (List ℕ)) → Gathers text [] left out out_mid → Appends out_mid out_after left → Appends out out_after text
flushed_all text left out out_mid out_after x a = subst (Appends out out_after) (sym x.parts) (Appends-trans out out_mid out_after x.went left x.output a)

pub flushed_front : (text left : List ℕ) (out out_mid out_after : Option (List ℕ)) → GathersFront text [] left out out_mid → AppendsFront out_mid out_after left → AppendsFront out out_after text
flushed_front text left out out_mid out_after x a = (
  x.went ++ a.0,
  a.1 ++ x.lost,
  x.parts
      ∙ (ap (λ z. (x.went ++ z) ++ x.lost) a.2
      ∙ (ap (λ z. z ++ x.lost) (sym (append_assoc x.went a.0 a.1)) ∙ append_assoc (x.went ++ a.0) a.1 x.lost)),
  Appends-trans out out_mid out_after x.went a.0 x.output a.3,
)

-- ---- a text goes out by itself, with nothing gathered

pub put_all : {X : Type 0} (r : Result X Stop) (text old held : List ℕ) (out out_mid out_after : Option (List ℕ)) (before after : ℕ) → held ≡ [] → Gathers [] old held out out_mid → Sends r text out_mid out_after before after → OnOk r (Gathers text old held out out_after)
put_all (Ok x) text old held out out_mid out_after before after e g s = gathers_on [] text old held held out out_mid out_after g (gathers_sent text held out_mid out_after e s.whole)
put_all (Err stop) text old held out out_mid out_after before after e g s = tt

pub put_some : {X : Type 0} (r : Result X Stop) (text old held : List ℕ) (out out_mid out_after : Option (List ℕ)) (before after : ℕ) → held ≡ [] → Gathers [] old held out out_mid → Sends r text out_mid out_after before after → OnErr r (GathersFront text old held out out_after)
put_some (Ok x) text old held out out_mid out_after before after e g s = tt
put_some (Err stop) text old held out out_mid out_after before after e g s = front_on [] text old held held out out_mid out_after g (front_sent text held out_mid out_after e s.front)

pub put_fault : {X : Type 0} (r : Result X Stop) (text : List ℕ) (out out_after : Option (List ℕ)) (start before after : ℕ) → before ≡ start → IfErr r (λ stop. stop ≡ Stopped) → Sends r text out out_after before after → OnErr r (Rose start after)
put_fault (Ok x) text out out_after start before after e only s = tt
put_fault (Err stop) text out out_after start before after e only s = subst (λ n. Rose n after) e (s.fault only)

pub put_well : {X : Type 0} (r : Result X Stop) (text : List ℕ) (out out_after : Option (List ℕ)) (start before after : ℕ) → before ≡ start → Sends r text out out_after before after → OnOk r (after ≡ start)
put_well (Ok x) text out out_after start before after e s = s.well ∙ e
put_well (Err stop) text out out_after start before after e s = tt
