-- `give_up` lets go of nothing.
use Rattle.std.proofs.Common.{◌≡◌, List, [], ◌∷◌, ◌++◌, refl, sym, subst}
use mir.Syntax.{Fn}
use mir.Val.{Val, vunit}
use base.Logic.{SProp, ent, id⊢}
use prog.Wp.{WpFn}
use types.Kit.{‵, raw, ◌⊛◌, ◌$◌, ◌∵◌, !, qed, by, move, keep, drop, split, fjoin, suffices, feq_i}
use types.Run.{of_opd, unit_lit, returns, enter}
use types.ByLocal.{alloc_all, pass_all, free_all, look_at, sets}
use contract.Monad.{fact}
use contract.Running.{tables}
use denote.RattleType.{owns}
use denote.Signature.{types_at, plain}
use denote.Steps.{nothing}
use denote.Param.{layout}
use Rattle.core.proofs.cell.Inside.{one}
use Rattle.hl_c_log.proofs.page_slot.PageSlot.TheLaws as slot_laws
use denote.Triple.Entry.{alive}
use denote.Triple.Walked.{Stays, stay_dropped, walk_of}
use Rattle.core.proofs.alloc.Calls.{Goes-blank}
use Rattle.std.specs.declared.option.Option.TheVariants.{None}
use Rattle.std.proofs.raw_atomic.Walks.{proved_at, leaves}
use Rattle.hl_c_log.proofs.PageValues.{PageSlot}
use Rattle.hl_c_log.specs.contracts.page_slot.PageSlot.give_up.{ended, clauses}
use Rattle.hl_c_log.specs.contracts.page_slot.PageSlot.give_up.Key.{name as #self}
use Rattle.hl_c_log.proofs.page_slot.PageSlot.give_up.Statement.{statement}
use Rattle.hl_c_log.proofs.page_slot.PageSlot.give_up.Code as code

pub give_up_spec : {M : Type 1} → statement M
give_up_spec 𝓤 𝓛 𝓜 𝓡 wired =
    let H = 𝓛.H in let 𝓣 = tables 𝓤 H 𝓜 𝓡 𝓡.env in let En = ended in let c = clauses 𝓛 𝓜.mem 𝓡.returns in let fn : Fn = code.function in
    let hs : Stays En.signature.params En.kept = (stay_dropped (plain (λ _. PageSlot)) En.kept.0, tt) in
    proved_at 𝓛 En hs c 𝓜 𝓡 (Goes-blank 𝓛 0 (plain (λ _. PageSlot)) En.kept.0 (λ κs x f. tt), tt) #self fn (code.unfolded 𝓤 H 𝓜 𝓡 wired) (λ z are.
    let d = z.0.3.0 in let Post : Val → SProp 𝓤 = (walk_of 𝓛 En hs c).post z in let Run : List Val → SProp 𝓤 = λ ws. WpFn 𝓤 H 𝓣.C 𝓣.Λ fn ws Post in
    let v = one (layout PageSlot) z.0.4.0 ((slot_laws.the_row_laws.lawful 𝓛).typed d z.0.4.0 are.0) in
    qed 𝓛 ((raw (alive 𝓛 En.signature z.0.0 z.0.1) ⊛ ‵ (owns (types_at En.signature.params z.0.0) z.0.3 z.0.4)) ∷ raw (fact 𝓤 (d.value ≡ None)) ∷ []) ∵ move ! (1 ∷ []) $ drop ! $ split ! $ keep ! (0 ∷ []) $
    suffices ! (Run (v.0 ∷ [])) (subst (λ (us : List Val). ent 𝓤 (Run (v.0 ∷ [])) (Run us)) (sym (λ i. v.1 i ++ [])) (id⊢ 𝓤 (Run (v.0 ∷ [])))) $
    enter ! 𝓣.C 𝓣.Λ fn (v.0 ∷ []) Post $ alloc_all ! (λ l. pass_all ! refl (v.2, tt) $
    sets ! (of_opd ! (unit_lit !)) refl (tt, tt) $ feq_i ! (List Val) (vunit ∷ []) (vunit ∷ []) refl $ nothing ! $ nothing ! $ nothing ! $ fjoin ! $
    returns ! (look_at ! 0 refl) $ free_all ! refl $ keep ! (3 ∷ 0 ∷ 2 ∷ 1 ∷ []) $
    by ! (leaves 𝓛 En hs c z vunit tt (_, tt) (tt, tt))))
