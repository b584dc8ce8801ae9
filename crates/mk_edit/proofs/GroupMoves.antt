-- A group as a step in memory: what a session's fields are after it.
use Rattle.std.proofs.Common.{◌≡◌, ◌+◌, ◌++◌, ℕ, Ok, List, [], ◌∷◌, ap, sym, ◌∙◌, subst, take, map}
use Rattle.std.specs.Global.{Vec}
use Rattle.mk_tree.specs.Documents.{tree}
use Rattle.mk_tree.proofs.Kept.{text_kept}
use Rattle.mk_edit.specs.declared.errors.GroupError.{GroupError}
use Rattle.mk_splice.specs.declared.splicing.Splice.{Splice as SpliceIn}
use Rattle.mk_edit.specs.Answers.{IsGroupRefusedBy}
use Rattle.mk_decide.specs.Edits.{PlainEdit, Group}
use Rattle.mk_splice.specs.Fits.{Fit}
use Rattle.mk_edit.specs.History.{history_of, History}
use Rattle.mk_edit.specs.Groups.{together}
use Rattle.mk_edit.specs.Histories.{grouped_by, step, text_now, with_step}
use Rattle.mk_edit.specs.Made.{AreMade}
use Rattle.mk_splice.specs.Splices.{Splice}
use Rattle.mk_splice.specs.Views.{splice_of, steps_of}
use Rattle.mk_edit.proofs.Moves.{more_steps, put_text}
use Rattle.mk_edit.proofs.Steps.{Stepped, edit_is}

pub group_moves : (es : List PlainEdit) (x : List ℕ) (vs ws : List (Vec SpliceIn)) (n : ℕ) (v : Vec SpliceIn) (y : List ℕ) → Fit x (steps_of vs) n → AreMade es x (map splice_of v.items) y → ws ≡ take n vs ++ v ∷ [] → Stepped x (steps_of vs) n (map splice_of v.items) y (steps_of ws)
group_moves es x vs ws n v y f m w = edit_is x (steps_of vs) n (map splice_of v.items) y (steps_of ws) f m.goes m.text (more_steps vs ws v n w)

pub group_accepted : (es : List PlainEdit) (h : History) (x y : List ℕ) (ss rs : List (List Splice)) (n : ℕ) (s : List Splice) → Fit x ss n → history_of x ss n ≡ h → AreMade es x s y → Stepped x ss n s y rs → step (Group es) h ≡ Ok (history_of y rs (n + 1))
group_accepted es h x y ss rs n s f e m t =
    ap (λ z. grouped_by h (together es (tree z))) (sym (put_text h x ss n f e))
    ∙ (ap (grouped_by h) m.accepted
    ∙ (ap (λ z. Ok (with_step h z s)) (text_kept y)
    ∙ (ap (λ g. Ok (with_step g y s)) (sym e) ∙ ap (λ g. Ok g) (sym t.history))))

pub group_refused : (es : List PlainEdit) (h : History) (x : List ℕ) (error : GroupError) → x ≡ text_now h → ((g : History) → IsGroupRefusedBy error (grouped_by g (together es (tree x)))) → IsGroupRefusedBy error (step (Group es) h)
group_refused es h x error q r = subst (λ z. IsGroupRefusedBy error (grouped_by h (together es (tree z)))) q (r h)
