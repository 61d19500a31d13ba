-- A filter owns the box that was loose.
use Rattle.std.proofs.Common.{◌≡◌, List, [], ◌∷◌, ◌++◌, refl, sym, subst}
use mathlib.Core.Bool.{true}
use mir.Val.{Val, vptr}
use base.Logic.{SProp, ent, emp, id⊢}
use prog.Wp.{WpFn}
use types.Kit.{‵, raw, ◌⊛◌, ◌$◌, ◌∵◌, !, qed, by, move, keep, split, fsplit, fjoin, suffices, use0}
use types.Run.{stop, fld, of_opd, true_lit, no_more, and_then, returns, enter}
use types.ByLocal.{alloc_all, pass_all, free_all, look_at, get, get_in, sets}
use types.Part.{agg, sub, whole}
use contract.Monad.{fact, fact_i}
use contract.Running.{tables}
use denote.Exit.{yes}
use denote.RattleType.{RattleType, owns}
use denote.RawPtr.{Ptr, block_ptr}
use denote.Signature.{types_at, plain}
use denote.Steps.{nothing}
use denote.Triple.Entry.{alive}
use denote.Triple.Walked.{Stays, stay_dropped, walk_of}
use Rattle.std.proofs.alloc.Calls.{Goes-blank}
use Rattle.std.proofs.raw_atomic.Walks.{proved_at, leaves}
use Rattle.std.specs.contracts.alloc.Global as heap
use Rattle.std.specs.contracts.impls.GlobalAllocator.TheImpl.{ghosts}
use Rattle.std.proofs.alloc.Global.TheLaws as heap_laws
use Rattle.cutterash.specs.contracts.loaded.Loaded as loaded
use Rattle.cutterash.specs.contracts.loose.Loose as loose
use Rattle.cutterash.proofs.Values.{Filter, word, both, loose_good, loose_out, filter_in}
use Rattle.cutterash.specs.contracts.filter.Filter.of.{ended, clauses}
use Rattle.cutterash.specs.contracts.filter.Filter.of.Key.{name as #self}
use Rattle.cutterash.proofs.filter.Filter.of.Statement.{statement}
use Rattle.cutterash.proofs.filter.Filter.of.Code as code

pub of_spec : {M : Type 1} → statement M
of_spec 𝓤 𝓛 𝓜 𝓡 wired =
    let H = 𝓛.H in let 𝓣 = tables 𝓤 H 𝓜 𝓡 𝓡.env in let En = ended in let c = clauses 𝓛 𝓜.mem 𝓡.returns in let fn = code.function in
    let E : RattleType = loaded.the_row in let Z : RattleType = heap.the_row in let LZ = heap_laws.the_row_laws in let Lr : RattleType = loose.the_row E Z ghosts in
    let hs : Stays En.signature.params En.kept = (stay_dropped (plain (λ _. Lr)) yes, tt) in
    proved_at 𝓛 En hs c 𝓜 𝓡 (Goes-blank 𝓛 0 (plain (λ _. Lr)) yes (λ κs x f. tt), tt) #self fn (code.unfolded 𝓤 H 𝓜 𝓡 wired) (λ z are.
    let v : Lr.Denot = z.0.3.0 in let Post : Val → SProp 𝓤 = (walk_of 𝓛 En hs c).post z in let Run : List Val → SProp 𝓤 = λ ws. WpFn 𝓤 H 𝓣.C 𝓣.Λ fn ws Post in
    qed 𝓛 ((raw (alive 𝓛 En.signature z.0.0 z.0.1) ⊛ ‵ (owns (types_at En.signature.params z.0.0) z.0.3 z.0.4)) ∷ raw ((c z.0.0 z.0.3).requires z.1) ∷ []) ∵
    split ! $ move ! (1 ∷ []) $ fsplit ! $ loose_out E Z LZ ghosts ! v z.0.4.0 (λ b o h e ws fits.
    let w : Val = both (vptr b o) h in let p : Ptr = block_ptr b o in let r : Filter.Denot = record { at = p; is_open = true; code = v.value } in let Told : Type 0 = (true ≡ true) × (v.value ≡ v.value) in
    -- [the box; the tokens]
    keep ! (0 ∷ 3 ∷ []) $ filter_in ! p true v.value $
    suffices ! (Run (w ∷ [])) (subst (λ (us : List Val). ent 𝓤 (Run (w ∷ [])) (Run us)) (sym (λ i. ws i ++ [])) (id⊢ 𝓤 (Run (w ∷ [])))) $
    enter ! 𝓣.C 𝓣.Λ fn (w ∷ []) Post $ alloc_all ! (λ l. pass_all ! refl (loose_good E Z LZ ghosts b o h fits, tt) $
    sets ! (of_opd ! (get_in ! (fld ! refl (stop !)) (sub ! 0 refl (whole !)))) refl (tt, tt) $ sets ! (of_opd ! (get ! refl)) refl (tt, tt) $
    sets ! (agg ! (and_then ! (get ! refl) (and_then ! (true_lit !) (no_more !)))) refl (tt, (tt, (tt, tt))) $
    use0 𝓛 (raw (fact 𝓤 Told)) (fact_i 𝓤 Told (emp 𝓤) (refl, refl)) $ nothing ! $ nothing ! $ fjoin ! $
    returns ! (look_at ! 0 refl) $ free_all ! refl $ keep ! (3 ∷ 0 ∷ 2 ∷ 1 ∷ []) $ by ! (leaves 𝓛 En hs c z (word p true) r (tt, tt) (tt, tt)))))
