-- `into_parts` tests the pointer. At null there is nothing, and else a box's parts.
use Rattle.std.proofs.Common.{◌≡◌, List, [], ◌∷◌, ◌++◌, refl, sym, subst, lit<}
use mir.Val.{Val, vptr, vcons, vnil}
use base.Logic.{SProp, ent, emp, id⊢}
use base.Fml.{ftrue}
use prog.Wp.{WpFn}
use types.Kit.{‵, raw, ◌⊛◌, at_ret, ◌$◌, ◌∵◌, !, qed, move, drop, split, join, fsplit, fjoin, suffices, use0, use1, done}
use types.Run.{stop, fld, lit, of_opd, bin, no_more, and_then, first, branches, exec, returns, enter}
use types.ByLocal.{alloc_all, pass_all, free_all, look_at, get, get_in, sets, sets_last, env}
use types.Part.{agg, sub, whole}
use types.Match.{live}
use contract.Running.{tables}
use denote.Exit.{yes}
use denote.RattleType.{RattleType, owns}
use denote.Signature.{types_at, type_at, plain}
use denote.RawPtr.{Ptr, block_ptr, null_ptr, ptr_val, tests_null}
use denote.Steps.{nothing}
use denote.Param.{layout}
use denote.Triple.Walked.{says, Stays, stay_dropped, walk_of, ends_at, Goes-dropped}
use Rattle.core.proofs.alloc.Shapes.{after}
use Rattle.core.proofs.atomic.Steps.{Ptr-Good}
use Rattle.core.proofs.cell.Inside.{Good}
use Rattle.core.proofs.option.Made.{Some-of, none_of}
use Rattle.std_alloc.proofs.ResultValues.{and_tt}
use Rattle.std.proofs.raw_atomic.Walks.{proved_at}
use Rattle.std.specs.Prelude.{None, Some}
use Rattle.handle_base.proofs.Words.{both, both_good, Parts, Handle, parts_in, handle_out, either}
use Rattle.handle_base.specs.contracts.handle.Handle.into_parts.{ended, clauses}
use Rattle.handle_base.specs.contracts.handle.Handle.into_parts.Key.{name as #self}
use Rattle.handle_base.proofs.handle.Handle.into_parts.Statement.{statement}
use Rattle.handle_base.proofs.handle.Handle.into_parts.Code as code

pub into_parts_spec : {M : Type 1} → statement M
into_parts_spec 𝓤 𝓛 𝓜 𝓡 wired =
    let H = 𝓛.H in let 𝓣 = tables 𝓤 H 𝓜 𝓡 𝓡.env in let En = ended in let c = clauses 𝓛 𝓜.mem 𝓡.returns in let fn = code.function in
    let hs : Stays En.signature.params En.kept = (stay_dropped (plain (λ _. Handle)) yes, tt) in let Out : RattleType = type_at En.signature.result tt in
    proved_at 𝓛 En hs c 𝓜 𝓡 (Goes-dropped 𝓛 0 (plain (λ _. Handle)) yes (λ κs x f. refl), tt) #self fn (code.unfolded 𝓤 H 𝓜 𝓡 wired) (λ z are.
    let d = z.0.3.0 in let Post : Val → SProp 𝓤 = (walk_of 𝓛 En hs c).post z in let Run : List Val → SProp 𝓤 = λ ws. WpFn 𝓤 H 𝓣.C 𝓣.Λ fn ws Post in
    qed 𝓛 ((‵ ftrue ⊛ ‵ (owns (types_at En.signature.params tt) z.0.3 z.0.4)) ∷ raw (emp 𝓤) ∷ []) ∵ split ! $ drop ! $ fsplit ! $ handle_out ! d z.0.4.0 (λ h ws fits. move ! (2 ∷ 3 ∷ []) $ drop ! $ drop ! $
    let start : (p : Ptr) → d.at ≡ p → z.0.4.0 ++ [] ≡ both (ptr_val p) h ∷ [] = λ p e. subst (λ (q : Ptr). z.0.4.0 ++ [] ≡ both (ptr_val q) h ∷ []) e (λ i. ws i ++ []) in
    either ! d.alloc d.at d.kept
    (λ is e. let w : Val = both (ptr_val null_ptr) h in
    suffices ! (Run (w ∷ [])) (subst (λ (us : List Val). ent 𝓤 (Run (w ∷ [])) (Run us)) (sym (start null_ptr e)) (id⊢ 𝓤 (Run (w ∷ [])))) $
    enter ! 𝓣.C 𝓣.Λ fn (w ∷ []) Post $ alloc_all ! (λ l. pass_all ! refl (both_good null_ptr h fits, tt) $ let Ev = env fn.locals l in
    sets ! (of_opd ! (get_in ! (fld ! refl (stop !)) (sub ! 0 refl (whole !)))) refl (Ptr-Good null_ptr) $ sets ! (of_opd ! (get_in ! (fld ! refl (stop !)) (sub ! 1 refl (whole !)))) refl fits $
    sets ! (bin ! (get ! refl) (lit ! tt) tt) refl (tt, tt) $ first ! $ branches ! (get ! refl)
    (λ _. sets_last ! (agg ! (and_then ! (lit ! tt) (no_more !))) refl (tt, (record { fits = lit< tt }, tt)) $ exec ! 𝓣.C 𝓣.Λ Ev (after 4 fn.body) (at_ret Ev Post) $ sets ! (of_opd ! (get ! refl)) refl (tt, (record { fits = lit< tt }, tt)) $
    returns ! (look_at ! 0 refl) $ free_all ! refl $ drop ! $
    use0 𝓛 (‵ (Out.own_val None (live 0 vnil ∷ []))) (none_of 𝓛 Parts) $
    suffices ! _ (ends_at 𝓛 En hs c z (live 0 vnil) None (tt, tt) (tt, tt)) $ says ! is $
    nothing ! $ nothing ! $ fjoin ! $ join ! $ nothing ! $ join ! $ done !) (λ wrong. absurd wrong)))
    (λ b o x is good_x e t. let w : Val = both (vptr b o) h in let typed = both_good (block_ptr b o) h fits in let made : Parts.Denot = record { ptr = block_ptr b o; alloc = d.alloc; value = x } in let v₁ : Val = live 1 (vcons w vnil) in
    let good : Good (layout Out) v₁ = (and_tt _ typed.0, (record { fits = lit< tt }, (typed.1, tt))) in
    suffices ! (Run (w ∷ [])) (subst (λ (us : List Val). ent 𝓤 (Run (w ∷ [])) (Run us)) (sym (start (block_ptr b o) e)) (id⊢ 𝓤 (Run (w ∷ [])))) $
    enter ! 𝓣.C 𝓣.Λ fn (w ∷ []) Post $ alloc_all ! (λ l. pass_all ! refl (typed, tt) $ let Ev = env fn.locals l in
    sets ! (of_opd ! (get_in ! (fld ! refl (stop !)) (sub ! 0 refl (whole !)))) refl (tt, tt) $ sets ! (of_opd ! (get_in ! (fld ! refl (stop !)) (sub ! 1 refl (whole !)))) refl fits $
    sets ! (bin ! (get ! refl) (lit ! tt) (tests_null (block_ptr b o) t)) refl (tt, tt) $ first ! $ branches ! (get ! refl) (λ wrong. absurd wrong) (λ _.
    sets ! (of_opd ! (get ! refl)) refl (tt, tt) $ sets ! (agg ! (and_then ! (get ! refl) (and_then ! (get ! refl) (no_more !)))) refl typed $ sets_last ! (agg ! (and_then ! (lit ! tt) (and_then ! (get ! refl) (no_more !)))) refl good $
    exec ! 𝓣.C 𝓣.Λ Ev (after 4 fn.body) (at_ret Ev Post) $ sets ! (of_opd ! (get ! refl)) refl good $
    returns ! (look_at ! 0 refl) $ free_all ! refl $
    parts_in ! b o h d.alloc x $ use1 𝓛 (‵ (Out.own_val (Some made) (v₁ ∷ []))) (Some-of 𝓛 Parts made w) $
    suffices ! _ (ends_at 𝓛 En hs c z v₁ (Some made) (tt, tt) (tt, tt)) $ says ! (is, good_x) $
    nothing ! $ nothing ! $ fjoin ! $ join ! $ nothing ! $ join ! $ done !)))))
