-- Rounds in a session: what was made so far, and all taken back where a round is refused.
use Rattle.std.proofs.Common.{◌≡◌, ◌+◌, ◌-◌, ◌<◌, ◌++◌, ℕ, Bool, true, false, zero, suc, if◌then◌else◌, Option, None, Some, Result, Ok, Err, List, [], ◌∷◌, refl, ap, sym, ◌∙◌, subst, length, take, drop, map, get_or, slice_index_or, arith, length-append}
use Rattle.std.specs.List.{list_all}
use Rattle.std.proofs.lemmas.Bool.{and_parts, lt-ltb}
use Rattle.std.proofs.lemmas.List.{length-take-le}
use Rattle.mk_tree.specs.Documents.{printed, tree}
use Rattle.mk_decide.specs.declared.errors.EditError.{EditError}
use Rattle.mk_decide.specs.Answers.{refusal_of}
use Rattle.mk_decide.specs.Edits.{Group, Member, NoSuchSection, NothingToUndo, PlainEdit, Recut, Refusal, Undo}
use Rattle.mk_edit.specs.Answers.{IsGroupRefusedBy}
use Rattle.mk_edit.specs.declared.errors.GroupError.TheVariants.{Member as MemberIn}
use Rattle.mk_edit.specs.Groups.{Together, together}
use Rattle.mk_edit.specs.Histories.{first_text, grouped_by, started, step, text_now, with_step}
use Rattle.mk_edit.specs.History.{History}
use Rattle.mk_mailbox.specs.declared.places.Place.{Place}
use Rattle.mk_mailbox.specs.declared.from_lines.FromLines.{FromLines}
use Rattle.mk_mailbox.specs.Places.{begins_from, ends_empty, fits_place}
use Rattle.mk_line.specs.Lines.{cut}
use Rattle.mk_mail.specs.Apart.{always_fits, has_section, mail_made, section_made}
use Rattle.mk_mail.proofs.SectionsApart.{placed_made}
use Rattle.mk_field.specs.Filtering.{PlainFilter, filter_made}
use Rattle.mk_mail.specs.Rounds.{Made, PlainRound, made_text, round_edits, round_outcome, rounds_made_at}
use Rattle.mk_line.specs.Results.{made_of}
use Rattle.mk_field.specs.FilterClauses.{AreEditsMade, IsEdited, IsFitted, IsReason, IsRoundMade, fitted}
use Rattle.mk_field.specs.FilterViews.{is_round, round_of}
use Rattle.mk_field.specs.declared.filters.Round.{Round}

-- ---- the edits of letters, as one step

abbrev member_of : Refusal → Refusal
member_of (Member index reason) = reason
member_of reason = reason

abbrev reason_by : Result History Refusal → Refusal
reason_by (Ok h) = NothingToUndo
reason_by (Err e) = member_of e

pub edits_made : (es : List PlainEdit) (old new : History) → step (Group es) old ≡ Ok new → AreEditsMade es None old new
edits_made es old new h = h

refused_by : (h : History) (r : Together) (index : ℕ) (reason : Refusal) (error : EditError) → grouped_by h r ≡ Err (Member index reason) → refusal_of error ≡ Some reason → IsReason (Some error) (made_text r)
refused_by h (Ok p) index reason error e n = cc
refused_by h (Err q) index reason error e n = n ∙ ap (λ x. Some x) (sym (ap reason_by e))

pub edits_refused : (es : List PlainEdit) (old new : History) (index : ℕ) (error : EditError) → new ≡ old → IsGroupRefusedBy (MemberIn index error) (step (Group es) old) → AreEditsMade es (Some error) old new
edits_refused es old new index error n r = (n, refused_by old (together es (tree (text_now old))) index r.0 error r.2 r.1)

-- they are those of a round
pub edits_of_round : (path : List ℕ) (r : PlainRound) (es : List PlainEdit) (refusal : Option EditError) (old new : History) → es ≡ round_edits path (text_now old) r → AreEditsMade es refusal old new → IsRoundMade path r refusal old new
edits_of_round path r es refusal old new e h = subst (λ x. AreEditsMade x refusal old new) e h

-- ---- rounds, one after another

-- rounds were made so far: what is to be made is what the others make of the text that stands
pub record SoFar (path : List ℕ) (all rest : List PlainRound) (text : List ℕ) (h : History) : Type 0 where
  pub made : rounds_made_at path all text ≡ rounds_made_at path rest (text_now h)
  pub first : first_text h ≡ text
  pub room : h.place < length h.texts

pub begun : (path : List ℕ) (all : List PlainRound) (text : List ℕ) (h : History) → h ≡ started text → SoFar path all all text h
begun path all text h e = subst (SoFar path all all text) (sym e) (record { made = refl; first = refl; room = omega arith })

-- the last of some texts
last_text : (xs : List (List ℕ)) (x : List ℕ) (n : ℕ) → n ≡ length xs → slice_index_or (xs ++ x ∷ []) n [] ≡ x
last_text [] x zero e = refl
last_text [] x (suc n) e = cc
last_text (y ∷ ys) x zero e = cc
last_text (y ∷ ys) x (suc n) e = last_text ys x n (omega (arith, e))

-- the first of some texts stays the first
front_text : (xs more : List (List ℕ)) (n : ℕ) → 0 < length xs → slice_index_or (take (n + 1) xs ++ more) 0 [] ≡ slice_index_or xs 0 []
front_text [] more n h = absurd (omega (arith, h))
front_text (x ∷ xs) more n h = let k : n + 1 ≡ suc n = omega arith in ap (λ j. slice_index_or (take j (x ∷ xs) ++ more) 0 []) k

-- the text that edits made in a history stands in it
pub record Stands (h new : History) (o : Together) : Type 0 where
  pub text : made_text o ≡ Ok (text_now new)
  pub first : first_text new ≡ first_text h
  pub room : new.place < length new.texts

pub group_stands : (h new : History) (o : Together) → h.place < length h.texts → grouped_by h o ≡ Ok new → Stands h new o
group_stands h new (Ok p) room k =
    let same : with_step h (printed p.0) p.1 ≡ new = cc in
    let size : length (take (h.place + 1) h.texts) ≡ h.place + 1 = length-take-le (h.place + 1) h.texts (omega (arith, room)) in
    let stands : text_now (with_step h (printed p.0) p.1) ≡ printed p.0 = last_text (take (h.place + 1) h.texts) (printed p.0) (h.place + 1) (sym size) in
    subst (λ n. Stands h n (Ok p)) same (record {
      text = ap (λ (t : List ℕ). made_now t) (sym stands);
      first = front_text h.texts (printed p.0 ∷ []) h.place (omega (arith, room));
      room = omega (arith, size, length-append (take (h.place + 1) h.texts) (printed p.0 ∷ []));
    })
  where
    made_now : List ℕ → Made
    made_now t = Ok t
group_stands h new (Err q) room k = cc

steps_on : (path : List ℕ) (all rest : List PlainRound) (r : PlainRound) (text : List ℕ) (h new : History) (o : Together) → o ≡ round_outcome path (text_now h) r → SoFar path all (r ∷ rest) text h → grouped_by h o ≡ Ok new → SoFar path all rest text new
steps_on path all rest r text h new o e s k =
    let g = group_stands h new o s.room k in
    record {
      made = s.made ∙ (ap (λ x. made_of (rounds_made_at path rest) (made_text x)) (sym e) ∙ ap (made_of (rounds_made_at path rest)) g.text);
      first = g.first ∙ s.first;
      room = g.room;
    }

-- one round more
pub round_on : (path : List ℕ) (all rest : List PlainRound) (r : PlainRound) (text : List ℕ) (h new : History) → SoFar path all (r ∷ rest) text h → IsRoundMade path r None h new → SoFar path all rest text new
round_on path all rest r text h new s k = steps_on path all rest r text h new (round_outcome path (text_now h) r) refl s k

pub refused_now : (m : Made) (error : EditError) (f : List ℕ → Made) → IsReason (Some error) m → IsReason (Some error) (made_of f m)
refused_now (Ok made) error f h = absurd h
refused_now (Err reason) error f h = h

all_left : (place : Option Place) (text left : List ℕ) (error : EditError) (made m : Made) → made ≡ m → IsReason (Some error) m → left ≡ text → IsEdited (fitted place made) text (Some error) left
all_left place text left error made (Ok n) e h s = absurd h
all_left place text left error made (Err reason) e h s = rw e (record { left_is = s; reason = h })

-- a round is refused, and all is taken back
pub round_refused : (path : List ℕ) (all rest : List PlainRound) (r : PlainRound) (place : Option Place) (text left : List ℕ) (h new : History) (error : EditError) → SoFar path all (r ∷ rest) text h → IsRoundMade path r (Some error) h new → left ≡ first_text new
    → IsEdited (fitted place (rounds_made_at path all text)) text (Some error) left
round_refused path all rest r place text left h new error s k back =
    let m = made_text (round_outcome path (text_now h) r) in
    all_left place text left error (rounds_made_at path all text) (made_of (rounds_made_at path rest) m) s.made (refused_now m error (rounds_made_at path rest) k.1) (back ∙ (ap first_text k.0 ∙ s.first))

-- all rounds were made, and what they made fits a place, or all is taken back
pub rounds_done : (path : List ℕ) (all : List PlainRound) (place : Option Place) (refusal : Option EditError) (text : List ℕ) (h new : History) → SoFar path all [] text h → IsFitted place refusal h new
    → IsEdited (fitted place (rounds_made_at path all text)) text refusal (text_now new)
rounds_done path all place None text h new s f = rw s.made (rw f.1 (record { left_is = ap text_now f.0; reason = tt }))
rounds_done path all place (Some e) text h new s f = rw s.made (rw f.1 (record { left_is = f.2 ∙ s.first; reason = f.0 }))

-- a message that has no section at a path is refused
pub none_there : (path : List ℕ) (rs : List PlainRound) (place : Option Place) (text left : List ℕ) (error : EditError) → has_section path text ≡ false → refusal_of error ≡ Some NoSuchSection → left ≡ text
    → IsEdited (fitted place (section_made path rs text)) text (Some error) left
none_there path rs place text left error n e s = rw n (record { left_is = s; reason = e })

pub some_there : (path : List ℕ) (rs : List PlainRound) (place : Option Place) (text left : List ℕ) (refusal : Option EditError) → has_section path text ≡ true → IsEdited (fitted place (rounds_made_at path rs text)) text refusal left
    → IsEdited (fitted place (section_made path rs text)) text refusal left
some_there path rs place text left refusal t h = rw t h

-- a round that comes next may be asked for
pub round_at : (rs : List Round) (i : ℕ) (x : Round) (rest : List Round) → drop i rs ≡ x ∷ rest → list_all is_round (map round_of rs) ≡ true → is_round (round_of x) ≡ true
round_at [] zero x rest e h = cc
round_at [] (suc i) x rest e h = cc
round_at (y ∷ ys) zero x rest e h =
    let same : y ≡ x = cc in
    subst (λ z. is_round (round_of z) ≡ true) same (and_parts (is_round (round_of y)) (list_all is_round (map round_of ys)) h).0
round_at (y ∷ ys) (suc i) x rest e h = round_at ys i x rest e (and_parts (is_round (round_of y)) (list_all is_round (map round_of ys)) h).1

-- the first of some rounds
pub first_of_rounds : {A : Type 0} (f : List PlainRound → A) (g : PlainRound → A) (rs : List Round) (x : Round) → ((r : PlainRound) (more : List PlainRound) → f (r ∷ more) ≡ g r) → 0 < length rs → x ≡ get_or rs 0 x → g (round_of x) ≡ f (map round_of rs)
first_of_rounds f g [] x k h e = absurd (omega (arith, h))
first_of_rounds f g (y ∷ ys) x k h e = ap (λ z. g (round_of z)) e ∙ sym (k (round_of y) (map round_of ys))

-- ---- taking back

pub undone : (h new : History) → 0 < h.place → step Undo h ≡ Ok new → (new.texts ≡ h.texts) × (new.place + 1 ≡ h.place)
undone h new p e =
    let less : step Undo h ≡ Ok (record h { place = h.place - 1 }) = rw (lt-ltb 0 h.place p) refl in
    let same : record h { place = h.place - 1 } ≡ new = cc in
    (ap (λ (g : History). g.texts) (sym same), let place : new.place ≡ h.place - 1 = ap (λ (g : History). g.place) (sym same) in omega (arith, place, p))

-- ---- the place of a message in a mailbox

fitted_so : (way : FromLines) (p : Place) (text : List ℕ) (m : Made) → p.from_lines ≡ way → p.begins ≡ begins_from way (cut text) → p.ends ≡ ends_empty false (cut text) → fitted (Some p) m ≡ placed_made way text m
fitted_so way p text (Ok made) a b e = λ i. if fits_place (a i) (b i) (e i) made then Ok made else Err Recut
fitted_so way p text (Err reason) a b e = refl

-- what is made of a message of a mailbox fits its place, where it is looked at
pub place_kept : (f : PlainFilter) (each always : Bool) (p : Place) (text : List ℕ) → each ≡ true → always ≡ always_fits f.from_lines f.path → always ≡ false → p.from_lines ≡ f.from_lines → p.begins ≡ begins_from f.from_lines (cut text)
    → p.ends ≡ ends_empty false (cut text) → fitted (Some p) (section_made f.path f.rounds text) ≡ filter_made each f text
place_kept f each always p text t r n a b e =
    let m = section_made f.path f.rounds text in
    fitted_so f.from_lines p text m a b e
    ∙ sym (ap (λ x. if x then mail_made f.from_lines f.path f.rounds text else m) t ∙ ap (λ x. if x then m else placed_made f.from_lines text m) (sym r ∙ n))
