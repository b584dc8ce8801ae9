-- The handle owns what the pointer did.
use Rattle.std.proofs.Common.{◌≡◌, List, [], ◌∷◌, ◌++◌, refl, sym, ap, ◌∙◌, subst, true}
use mir.Raw.{raw as bare}
use mir.Val.{Val, vptr, vstruct, vcons, vnil, of_list}
use base.Logic.{SProp, ent, emp, never, id⊢, fst∗}
use base.Fml.{ftrue}
use prog.Wp.{WpFn}
use types.Logic.{sem}
use types.Kit.{‵, raw, ◌⊛◌, ◌$◌, ◌∵◌, !, qed, by, move, keep, drop, split, fsplit, fjoin, fpick, suffices, use0, feq_l}
use types.Run.{stop, fld, of_opd, no_more, and_then, true_lit, returns, enter}
use types.ByLocal.{alloc_all, pass_all, free_all, look_at, get, get_in, sets}
use types.Part.{agg, sub, whole}
use contract.Monad.{fact, fact_i}
use contract.Running.{tables}
use denote.Exit.{no}
use denote.RattleType.{RattleType, owns}
use denote.Signature.{types_at, plain}
use denote.RawPtr.{Ptr, block_ptr, null_ptr, ptr_val, in_a_block}
use denote.Steps.{nothing}
use denote.Param.{layout}
use denote.Triple.Walked.{Stays, stay_dropped, walk_of}
use Rattle.std.specs.Prelude.{Some}
use Rattle.std.specs.contracts.impls.GlobalAllocator.TheImpl as heap_impl
use Rattle.std.proofs.alloc.Calls.{Goes-blank}
use Rattle.std.proofs.raw_atomic.Walks.{proved_at, leaves}
use Rattle.mk_c.specs.inner.Owned.{block_owns, heap}
use Rattle.mk_c.specs.contracts.editor.Editor as editor
use Rattle.mk_c.specs.contracts.handle.Loose as loose
use Rattle.mk_c.specs.contracts.handle.Handle as handle
use Rattle.mk_c.proofs.Handles.{handle_val, handle_in}
use Rattle.mk_c.specs.contracts.handle.Handle.of as f
use Rattle.mk_c.proofs.handle.Handle.of.Statement.{statement}
use Rattle.mk_c.proofs.handle.Handle.of.Code as code

abbrev From : RattleType
From = loose.the_row editor.the_row

abbrev stayed : Stays f.ended.signature.params f.ended.kept
stayed = (stay_dropped (plain (λ _. From)) no, tt)

pub of_spec : {M : Type 1} → statement M
of_spec 𝓤 𝓛 𝓜 𝓡 wired =
    let H = 𝓛.H in let 𝓣 = tables 𝓤 H 𝓜 𝓡 𝓡.env in let c = f.clauses 𝓛 𝓜.mem 𝓡.returns in let X = editor.the_row in let fn = code.function in
    proved_at 𝓛 f.ended stayed c 𝓜 𝓡 (Goes-blank 𝓛 0 (plain (λ _. From)) no (λ κs x g. tt), tt)
    f.Key.name fn (code.unfolded 𝓤 H 𝓜 𝓡 wired) (λ z are.
    let v = z.0.3.0 in let Post : Val → SProp 𝓤 = (walk_of 𝓛 f.ended stayed c).post z in let Run : List Val → SProp 𝓤 = λ us. WpFn 𝓤 H 𝓣.C 𝓣.Λ fn us Post in
    qed 𝓛 ((‵ ftrue ⊛ ‵ (owns (types_at f.ended.signature.params z.0.0) z.0.3 z.0.4)) ∷ raw ((c z.0.0 z.0.3).requires z.1) ∷ []) ∵
    split ! $ move ! (1 ∷ []) $ fsplit ! $ fsplit ! $ fpick ! (λ vss. fsplit ! $ feq_l ! (λ ev. fsplit ! $ feq_l ! (λ ep. drop ! $
    in_a_block ! v.at (λ p. block_owns X p v.value) (fst∗ 𝓤 (never 𝓤) (sem 𝓛 (heap_impl.ghosts.dealloc_token heap (bare (layout X)) null_ptr))) (λ b o e.
    let w : Val = vstruct (vcons (vptr b o) vnil) in let out : Val = handle_val (block_ptr b o) true in let made : handle.the_row.Denot = record { at = block_ptr b o; used = true; desk = Some v.value } in let Told = made.desk ≡ Some v.value in
    suffices ! (Run (w ∷ [])) (subst (λ (us : List Val). ent 𝓤 (Run (w ∷ [])) (Run us)) (sym (λ i. (ev ∙ (λ j. vstruct (of_list ((ep ∙ ap (λ (p : Ptr). ptr_val p ∷ []) e) j ++ [])) ∷ [])) i ++ [])) (id⊢ 𝓤 _)) $
    enter ! 𝓣.C 𝓣.Λ fn (w ∷ []) Post $ alloc_all ! (λ l. pass_all ! refl ((tt, (tt, tt)), tt) $
    sets ! (of_opd ! (get_in ! (fld ! refl (stop !)) (sub ! 0 refl (whole !)))) refl (tt, tt) $ sets ! (of_opd ! (get ! refl)) refl (tt, tt) $
    sets ! (agg ! (and_then ! (get ! refl) (and_then ! (true_lit !) (no_more !)))) refl (tt, (tt, (tt, tt))) $
    handle_in ! (block_ptr b o) true (Some v.value) $
    use0 𝓛 (raw (fact 𝓤 Told)) (fact_i 𝓤 Told (emp 𝓤) refl) $ nothing ! $ nothing ! $ fjoin ! $ nothing ! $
    returns ! (look_at ! 0 refl) $ free_all ! refl $ keep ! (0 ∷ 1 ∷ 3 ∷ 2 ∷ []) $ by ! (leaves 𝓛 f.ended stayed c z out made (tt, tt) (tt, tt))))))))
