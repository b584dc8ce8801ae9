-- A handle and the box that it came from, at their machine values. Assumes `Logic`.
use Rattle.std.proofs.Common.{◌≡◌, ℕ, List, [], ◌∷◌, Bool, true, false, refl, lit<}
use lib.Dec.{T}
use base.Logic.{never, never_e, fst∗}
use base.Fml.{ftrue}
use types.Logic.{sem}
use denote.Memory.{lone}
use seplogic.Ra.Ura.{Ura}
use mir.Syntax.{Dict, impl, tcons, tnil, dnil, ty_ptr}
use mir.Val.{Val, vbool, vstruct, vcons, vnil, has_ty, WT}
use types.Logic.{Logic}
use types.Kit.{Item, Goal, Seq, Step, step, ‵, ◌$◌, given, learn, drop, use1, fjoin, fpack, feq_i}
use denote.RattleType.{RattleType, Valss}
use denote.Builtin.{RawPtr, bool}
use denote.RawPtr.{Ptr, block_ptr, null_ptr, ptr_val, in_a_block}
use mir.Raw.{raw as bare}
use denote.Exit.{no}
use denote.Param.{layout, arg}
use denote.Param.Laws.{arg_laws}
use Rattle.std.proofs.alloc.Calls.{Al}
use denote.Steps.{nothing}
use denote.Struct.Struct.{within}
use denote.Struct.Owning.{shape}
use Rattle.std.specs.Prelude.{Option, Some, None}
use Rattle.std.specs.contracts.alloc.Global as heap
use Rattle.std.specs.contracts.impls.GlobalAllocator.TheImpl as heap_impl
use Rattle.std.proofs.alloc.Global.TheLaws as heap_laws
use Rattle.mk_c.specs.Desks.{Desk}
use Rattle.mk_c.specs.contracts.editor.Editor as editor
use Rattle.mk_c.specs.contracts.handle.Handle as handle
use Rattle.mk_c.specs.inner.Owned as Owned
use Rattle.mk_c.specs.inner.Owned.{block_owns, handle_owns}

-- the heap's handle, as it is passed to generic code
abbrev pub heap_row : RattleType
heap_row = arg (bare (layout heap.the_row)) no heap.the_row

-- how it is let go: nothing is done
abbrev pub heap_drop : Dict
heap_drop = impl ("mk_c::Destruct++none::drop" ∷ []) (tcons (layout heap_row) tnil) dnil

abbrev pub heap_al : Al
heap_al = record { row = heap_row; laws = arg_laws (bare (layout heap.the_row)) no heap.the_row heap_laws.the_row_laws refl; g = heap_impl.ghosts; d = heap_impl.dict; drops = heap_drop }

-- a handle in the machine
abbrev pub handle_val : Ptr → Bool → Val
handle_val p t = vstruct (vcons (ptr_val p) (vcons (vbool t) vnil))

pub ptr_good : (p : Ptr) → T (has_ty ty_ptr (ptr_val p)) × WT (ptr_val p)
ptr_good (block_ptr b o) = (tt, tt)
ptr_good null_ptr = (tt, record { fits = lit< tt })

pub handle_good : (p : Ptr) (t : Bool) → T (has_ty (lone handle.the_row.mir) (handle_val p t)) × WT (handle_val p t)
handle_good (block_ptr b o) t = (tt, (tt, (tt, tt)))
handle_good null_ptr t = (tt, (record { fits = lit< tt }, (tt, tt)))

module _ {M : Type 1} {𝓤 : Ura M} {𝓛 : Logic 𝓤} {K : Type 0} {Γ : List (Item 𝓤)} {G : Goal 𝓤 𝓛.H} where
  pub handle_in : K → (p : Ptr) (t : Bool) (x : Option Desk)
      → Step K 𝓛 (‵ (handle.the_row.own_val (record { at = p; used = t; desk = x }) (handle_val p t ∷ [])) ∷ Γ) G (‵ (handle_owns editor.the_row t p x) ∷ Γ) G
  handle_in k p t x = step (λ s. nothing k $ feq_i k (List Val) (vbool t ∷ []) (vbool t ∷ []) refl $ fjoin k $ feq_i k (List Val) (ptr_val p ∷ []) (ptr_val p ∷ []) refl $ fjoin k $
      feq_i k (List Val) (handle_val p t ∷ []) (handle_val p t ∷ []) refl $ fjoin k $
      fpack k (Valss (RawPtr ∷ bool ∷ [])) (within (shape handle.the_type) (p, (t, tt)) (handle_val p t ∷ [])) (ptr_val p ∷ [], (vbool t ∷ [], tt)) $ fjoin k $ s)

  -- a handle is used, and has its block, or is closed
  pub handle_out : K → (p : Ptr) (t : Bool) (x : Option Desk)
      → (t ≡ false → x ≡ None → Seq K 𝓛 Γ G)
      → ((b o : ℕ) (y : Desk) → p ≡ block_ptr b o → t ≡ true → x ≡ Some y → Seq K 𝓛 (‵ (block_owns editor.the_row (block_ptr b o) y) ∷ Γ) G)
      → Seq K 𝓛 (‵ (handle_owns editor.the_row t p x) ∷ Γ) G
  handle_out k p false None none has = drop k $ none refl refl
  handle_out k p true (Some y) none has = in_a_block k p (λ q. block_owns editor.the_row q y) (fst∗ 𝓤 (never 𝓤) (sem 𝓛 (heap_impl.ghosts.dealloc_token Owned.heap (bare (layout editor.the_row)) null_ptr))) (λ b o e. has b o y e refl refl)
  handle_out k p true None none has = use1 𝓛 (given ⊥ (‵ ftrue)) (never_e 𝓤 _) $ learn k (λ z. absurd z)
  handle_out k p false (Some y) none has = use1 𝓛 (given ⊥ (‵ ftrue)) (never_e 𝓤 _) $ learn k (λ z. absurd z)
