-- The machine values of a handle and of the parts of a box. Assumes `Logic`.
use Rattle.std.proofs.Common.{◌≡◌, ℕ, List, [], ◌∷◌, ◌++◌, refl, subst}
use mathlib.Core.Bool.{Bool, true, ◌&&◌}
use lib.Dec.{T}
use seplogic.Ra.Ura.{Ura}
use mir.Syntax.{impl, tnil, dnil}
use mir.Raw.{raw as bare}
use mir.Val.{Val, vptr, vstruct, vcons, vnil, of_list, has_ty, WT}
use base.Logic.{never, fst∗, snd∗, via, guard_i}
use types.Logic.{Logic, sem}
use types.Kit.{Item, Goal, Seq, Step, step, ‵, ◌$◌, move, drop, fsplit, fjoin, fpick, fpack, feq_i, feq_l, given, learn, use1}
use contract.Monad.{fact_use}
use denote.RattleType.{RattleType, Valss}
use denote.Builtin.{RawPtr}
use denote.Memory.{lone}
use denote.RawPtr.{Ptr, block_ptr, null_ptr, ptr_val, in_a_block, lies_at, Testable}
use denote.Steps.{nothing}
use denote.Param.{layout}
use denote.Struct.Struct.{within}
use denote.Struct.Owning.{shape, fields, to}
use Rattle.core.proofs.alloc.Calls.{Al, handle_tells}
use Rattle.core.proofs.cell.Inside.{Good}
use Rattle.core.proofs.atomic.Steps.{Ptr-Good}
use Rattle.std_alloc.specs.Box.Ownership.{box_owns}
use Rattle.std_alloc.proofs.ResultValues.{and_tt}
use Rattle.std.specs.contracts.alloc.Global as heap
use Rattle.std.proofs.alloc.Global.TheLaws as heap_laws
use Rattle.std.specs.contracts.impls.GlobalAllocator.TheImpl.{ghosts}
use Rattle.std.proofs.GlobalToken.{dealloc_token-Testable}
use Rattle.std.specs.Prelude.{Option, None, Some}
use Rattle.handle_base.specs.Held.{handle_owns}
use Rattle.handle_base.specs.Keeping.{IsKept}
use Rattle.handle_base.specs.contracts.kept.Kept as kept
use Rattle.handle_base.specs.contracts.parts.Parts as parts
use Rattle.handle_base.specs.contracts.handle.Handle as handle

abbrev pub both : Val → Val → Val
both v w = vstruct (vcons v (vcons w vnil))

abbrev pub Z : RattleType
Z = heap.the_row

abbrev pub R : RattleType
R = kept.the_row

abbrev pub Parts : RattleType
Parts = parts.the_row R Z ghosts

abbrev pub Handle : RattleType
Handle = handle.the_row

abbrev pub al : Al
al = record { row = Z; laws = heap_laws.the_row_laws; g = ghosts; d = impl [] tnil dnil; drops = impl [] tnil dnil }

and_tt2 : (x y : Bool) → T x → T y → T (x && y)
and_tt2 true y s t = t
and_tt2 mathlib.Core.Bool.false y s t = absurd s

pub both_good : (p : Ptr) (h : Val) → Good (layout Z) h → T (has_ty mir.Syntax.ty_ptr (ptr_val p) && (has_ty (layout Z) h && true)) × WT (both (ptr_val p) h)
both_good p h fits = (and_tt2 _ _ (Ptr-Good p).0 (and_tt (has_ty (layout Z) h) fits.0), ((Ptr-Good p).1, (fits.1, tt)))

module _ {M : Type 1} {𝓤 : Ura M} {𝓛 : Logic 𝓤} {K : Type 0} {Γ : List (Item 𝓤)} {G : Goal 𝓤 𝓛.H} where
  pub parts_out : K → (d : Parts.Denot) (vs : List Val)
      → ((b o : ℕ) (h : Val) → d.ptr ≡ block_ptr b o → vs ≡ both (vptr b o) h ∷ [] → Good (layout Z) h → Seq K 𝓛 (‵ (box_owns (ghosts.dealloc_token d.alloc) R (block_ptr b o) d.value) ∷ ‵ (Z.own_val d.alloc (h ∷ [])) ∷ Γ) G)
      → Seq K 𝓛 (‵ (Parts.own_val d vs) ∷ Γ) G
  parts_out t d vs k =
      fsplit t $ fpick t (λ vss. fsplit t $ feq_l t (λ ev. fsplit t $ feq_l t (λ ep. fsplit t $ handle_tells al t d.alloc vss.1.0 (λ h ea fits. move t (1 ∷ []) $ drop t $ move t (1 ∷ []) $
      in_a_block t d.ptr (λ p. box_owns (ghosts.dealloc_token d.alloc) R p d.value) (fst∗ 𝓤 (never 𝓤) (sem 𝓛 (ghosts.dealloc_token d.alloc (bare (lone R.mir)) null_ptr))) (λ b o e. k b o h e
      (subst (λ (p : Ptr). vs ≡ vstruct (of_list (ptr_val p ∷ h ∷ [])) ∷ []) e
      (subst (λ (ws : List Val). vs ≡ vstruct (of_list (ptr_val d.ptr ∷ (ws ++ []))) ∷ []) ea (subst (λ (ps : List Val). vs ≡ vstruct (of_list (ps ++ (vss.1.0 ++ []))) ∷ []) ep ev))) fits)))))

  pub parts_in : K → (b o : ℕ) (h : Val) (a : Z.Denot) (x : R.Denot)
      → Step K 𝓛 (‵ (Parts.own_val (record { ptr = block_ptr b o; alloc = a; value = x }) (both (vptr b o) h ∷ [])) ∷ Γ) G (‵ (box_owns (ghosts.dealloc_token a) R (block_ptr b o) x) ∷ ‵ (Z.own_val a (h ∷ [])) ∷ Γ) G
  parts_in t b o h a x = step (λ s. let v : Val = both (vptr b o) h in
      nothing t $ move t (2 ∷ 0 ∷ []) $ fjoin t $ feq_i t (List Val) (vptr b o ∷ []) (vptr b o ∷ []) refl $ fjoin t $ feq_i t (List Val) (v ∷ []) (v ∷ []) refl $ fjoin t $
      fpack t (Valss (RawPtr ∷ Z ∷ [])) (within (shape (parts.the_type R Z ghosts)) (block_ptr b o, (a, tt)) (v ∷ [])) (vptr b o ∷ [], (h ∷ [], tt)) $ fjoin t $ s)

  pub handle_out : K → (d : Handle.Denot) (vs : List Val)
      → ((h : Val) → vs ≡ both (ptr_val d.at) h ∷ [] → Good (layout Z) h → Seq K 𝓛 (‵ (handle_owns d.alloc d.at d.kept) ∷ ‵ (Z.own_val d.alloc (h ∷ [])) ∷ Γ) G)
      → Seq K 𝓛 (‵ (Handle.own_val d vs) ∷ Γ) G
  handle_out t d vs k =
      fsplit t $ fpick t (λ vss. fsplit t $ feq_l t (λ ev. fsplit t $ feq_l t (λ ep. fsplit t $ handle_tells al t d.alloc vss.1.0 (λ h ea fits. move t (1 ∷ []) $ drop t $ move t (1 ∷ []) $ k h
      (subst (λ (ws : List Val). vs ≡ vstruct (of_list (ptr_val d.at ∷ (ws ++ []))) ∷ []) ea (subst (λ (ps : List Val). vs ≡ vstruct (of_list (ps ++ (vss.1.0 ++ []))) ∷ []) ep ev)) fits))))

  pub handle_in : K → (d : Handle.Denot) (h : Val)
      → Step K 𝓛 (‵ (Handle.own_val d (both (ptr_val d.at) h ∷ [])) ∷ Γ) G (‵ (handle_owns d.alloc d.at d.kept) ∷ ‵ (Z.own_val d.alloc (h ∷ [])) ∷ Γ) G
  handle_in t d h = step (λ s. let v : Val = both (ptr_val d.at) h in
      nothing t $ move t (2 ∷ 0 ∷ []) $ fjoin t $ feq_i t (List Val) (ptr_val d.at ∷ []) (ptr_val d.at ∷ []) refl $ fjoin t $ feq_i t (List Val) (v ∷ []) (v ∷ []) refl $ fjoin t $
      fpack t (Valss (fields handle.the_type)) (within (shape handle.the_type) (to handle.the_type d) (v ∷ [])) (ptr_val d.at ∷ [], (h ∷ [], tt)) $ fjoin t $ s)

  -- a box's pointer may be compared with null
  pub tested : K → (a : Z.Denot) (p : Ptr) (x : R.Denot) → (Testable p → Seq K 𝓛 (‵ (box_owns (ghosts.dealloc_token a) R p x) ∷ Γ) G) → Seq K 𝓛 (‵ (box_owns (ghosts.dealloc_token a) R p x) ∷ Γ) G
  tested t a p x k =
      use1 𝓛 (given (Testable p) (‵ (box_owns (ghosts.dealloc_token a) R p x)))
      (fact_use 𝓤 (Testable p) (via 𝓤 _ (snd∗ 𝓤 (sem 𝓛 (lies_at R base.Fraction.full_share p x)) (sem 𝓛 (ghosts.dealloc_token a (bare (lone R.mir)) p))) (dealloc_token-Testable 𝓛 a (bare (lone R.mir)) p)) (guard_i 𝓤 (Testable p) (sem 𝓛 (box_owns (ghosts.dealloc_token a) R p x)))) $
      learn t k

  -- an empty handle is null, and any other one owns what a box owns
  pub either : K → (a : Z.Denot) (p : Ptr) (k : Option R.Denot) → (k ≡ None → p ≡ null_ptr → Seq K 𝓛 Γ G)
      → ((b o : ℕ) (x : R.Denot) → k ≡ Some x → IsKept x → p ≡ block_ptr b o → Testable (block_ptr b o) → Seq K 𝓛 (‵ (box_owns (ghosts.dealloc_token a) R (block_ptr b o) x) ∷ Γ) G)
      → Seq K 𝓛 (‵ (handle_owns a p k) ∷ Γ) G
  either t a p None none one = feq_l t (λ e. none refl e)
  either t a p (Some x) none one =
      fsplit t $ fpick t (λ good. drop t $ in_a_block t p (λ q. box_owns (ghosts.dealloc_token a) R q x) (fst∗ 𝓤 (never 𝓤) (sem 𝓛 (ghosts.dealloc_token a (bare (lone R.mir)) null_ptr))) (λ b o e. tested t a (block_ptr b o) x (λ s. one b o x refl good e s)))
