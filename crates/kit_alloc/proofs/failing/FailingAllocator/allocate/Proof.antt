-- It returns an error if the gate refuses the request, and else what the inner allocator returns. Assumes `Logic`.
use Rattle.std.proofs.Common.{◌≡◌, ℕ, ◌^◌, ◌<◌, Bool, true, false, List, [], ◌∷◌, Ok, Err, refl, w64}
use seplogic.Ra.Ura.{Ura}
use mir.Syntax.{Ty, Fn}
use mir.Val.{Val, vbool, vint, vptr}
use mir.MapTy.{inst_fn}
use base.Logic.{SProp, ent, sep, id⊢}
use base.Fml.{Lft, Share, ftrue, froom, flft}
use prog.Memory.{Memory, size, align, capped}
use prog.Routine.{Routine}
use prog.Wp.{Env, WpFn, Tables}
use types.Logic.{Logic, sem}
use contract.BorrowLft.{◌⊑◌, ⊑_trans}
use contract.Monad.{Fun, fact}
use contract.Running.{tables, tables_of}
use sound.WpLaws.{fm_of, WpFn-mono}
use types.Kit.{‵, raw, ◌⊛◌, some, later, given, at_ret, ◌$◌, ◌∵◌, !, qed, by, move, keep, use0, use1, use2, split, join, pick, learn, fsplit, fjoin, suffices, await, done}
use types.Part.{agg}
use types.Run.{stop, fld, addr, lit, no_more, and_then, first, branches, skips, exec, returns, returns_within, enter}
use types.ByLocal.{alloc_all, pass_all, free_all, look_at, get, through, sets, lands_as, env}
use denote.Builtin.{usize}
use denote.Exit.{yes}
use denote.Opens.{unhide}
use denote.Plain.{uint_vals, uint_Tells}
use denote.RattleType.{owns}
use denote.RawPtr.{block_ptr}
use denote.Ref.{shr_vals}
use denote.Signature.{plain, types_at}
use denote.Steps.{heard, nothing}
use denote.Triple.Call.{calls_at}
use denote.Triple.Clauses.{Ended, Clauses}
use denote.Triple.Spec.{triple_of}
use denote.Triple.Statement.{Contract, Triple}
use denote.Triple.Table.{entered, cited}
use denote.Triple.Walked.{Stays, stay_dropped, walk_of, ends_at, walked, Goes-dropped, walk_Meets}
use Rattle.std.proofs.alloc.Calls.{Al, seen, token, Answer, answer_val, Answer-typed, Answer-Ok, Answer-err, takes_key, Takes, at_takes, Answered, Takes-goes, Takes-gives, answers}
use Rattle.std.proofs.VecSteps.Shapes.{after}
use Rattle.kit_alloc.proofs.GateCall.{Asks, at_asks, Asks-goes, Asks-gives}
use Rattle.kit_alloc.proofs.FailingLayout.{args, self, Handle, inner_place, gate_place}
use Rattle.kit_alloc.proofs.gate.Gate.refuses_next.Symbol as asks_symbol
use Rattle.kit_alloc.proofs.gate.Gate.refuses_next.Met as asks_met
use Rattle.kit_alloc.specs.contracts.failing.FailingAllocator.allocate as f
use Rattle.kit_alloc.specs.contracts.failing.FailingAllocator.allocate.Key as key
use Rattle.kit_alloc.proofs.failing.FailingAllocator.allocate.Statement.{statement}
use Rattle.kit_alloc.proofs.failing.FailingAllocator.allocate.Code as code

module _ (Z : Al) where
  abbrev here : Fn
  here = inst_fn (args Z) code.function

  abbrev ended : Ended
  ended = f.ended Z.row Z.g Z.d Z.drops

  abbrev stayed : Stays ended.signature.params ended.kept
  stayed = (stay_dropped (self Z) yes, (stay_dropped (plain (λ _. usize)) yes, (stay_dropped (plain (λ _. usize)) yes, tt)))

module _ (Z : Al) {M : Type 1} {𝓤 : Ura M} (𝓛 : Logic 𝓤) (at_mem : Memory → SProp 𝓤) (run : Routine → Fun 𝓤) (𝓣 : Tables 𝓤 𝓛.H) (takes : Triple 𝓤 (𝓣.C (takes_key Z)) (Takes Z 𝓛 at_mem run)) (asks : Triple 𝓤 (𝓣.C asks_symbol.name) (Asks 𝓛 at_mem run)) where
  open 𝓛 use {H, A}

  abbrev clauses : Clauses 𝓤 (ended Z)
  clauses = f.clauses Z.row Z.g Z.d Z.drops 𝓛 at_mem run

  abbrev W : Contract 𝓤
  W = walk_of 𝓛 (ended Z) (stayed Z) clauses

  module _ (κ₁ κ₂ : Lft) (q₁ q₂ : Share) (inn : κ₁ ⊑ κ₂) (r : Handle Z) (n a : ℕ) (τ : Ty) where
    abbrev bound : W.Ghost
    bound = (((κ₁, (κ₂, tt)), (q₁, (q₂, tt)), (inn, tt), (r, (n, (a, tt))), (shr_vals r, (vint w64 n ∷ [], (vint w64 a ∷ [], tt)))), τ)

    abbrev passed : List Val
    passed = vptr r.ref_ptr.0 r.ref_ptr.1 ∷ vint w64 n ∷ vint w64 a ∷ []

    -- what is left of the lifetimes' tokens at the return
    abbrev alive : SProp 𝓤
    alive = sep 𝓤 (A.lft κ₁ q₁) (sep 𝓤 (A.lft κ₂ q₂) (sem 𝓛 ftrue))

    ends_ok : (b o : ℕ) → ent 𝓤 (sep 𝓤 (H.room τ b o) (sep 𝓤 (sem 𝓛 (token Z r.now.inner τ (block_ptr b o))) alive)) (W.post bound (answer_val true b o))
    ends_ok b o =
        qed 𝓛 (‵ (froom τ b o) ∷ ‵ (token Z r.now.inner τ (block_ptr b o)) ∷ ‵ (flft κ₁ q₁) ∷ (‵ (flft κ₂ q₂) ⊛ ‵ ftrue) ∷ []) ∵ fjoin ! $
        suffices ! _ (ends_at 𝓛 (ended Z) (stayed Z) clauses bound (answer_val true b o) (Ok (block_ptr b o)) (tt, (tt, (tt, tt))) (tt, (tt, (tt, tt)))) $
        use0 𝓛 (‵ (Answer.own_val (Ok (block_ptr b o)) (answer_val true b o ∷ []))) (Answer-Ok 𝓛 b o) $
        nothing ! $ nothing ! $ fjoin ! $ nothing ! $ fjoin ! $ nothing ! $ fjoin ! $ join ! $ move ! (2 ∷ 3 ∷ []) $ join ! $ join ! $ done !

    ends_err : ent 𝓤 alive (W.post bound (answer_val false 0 0))
    ends_err =
        qed 𝓛 (‵ (flft κ₁ q₁) ∷ (‵ (flft κ₂ q₂) ⊛ ‵ ftrue) ∷ []) ∵ nothing ! $
        suffices ! _ (ends_at 𝓛 (ended Z) (stayed Z) clauses bound (answer_val false 0 0) (Err (record {})) (tt, (tt, (tt, tt))) (tt, (tt, (tt, tt)))) $
        use0 𝓛 (‵ (Answer.own_val (Err (record {})) (answer_val false 0 0 ∷ []))) (Answer-err 𝓛) $
        nothing ! $ nothing ! $ fjoin ! $ nothing ! $ fjoin ! $ nothing ! $ fjoin ! $ join ! $ move ! (2 ∷ 3 ∷ []) $ join ! $ join ! $ done !

    walk : n < 2 ^ 64 → a < 2 ^ 64 → ent 𝓤 (W.pre bound) (WpFn 𝓤 H 𝓣.C 𝓣.Λ (here Z) passed (W.post bound))
    walk fn fa =
        let inner : Z.row.Denot = r.now.inner in
        let p : ℕ × ℕ = inner_place Z r in
        let c : ℕ × ℕ = gate_place Z r in
        let y : (Takes Z 𝓛 at_mem run).Ghost = at_takes Z 𝓛 at_mem run κ₁ q₁ p inner n a τ in
        let z : (Asks 𝓛 at_mem run).Ghost = at_asks 𝓛 at_mem run κ₁ q₁ c r.now.gate in
        let Said : Type 0 = (capped (size τ) ≡ n) × (capped (align τ) ≡ a) in
        qed 𝓛 (((‵ (flft κ₁ q₁) ⊛ ‵ (flft κ₂ q₂) ⊛ ‵ ftrue) ⊛ ‵ (owns (types_at (ended Z).signature.params bound.0.0) bound.0.3 bound.0.4)) ∷ (raw (fact 𝓤 (κ₂ ⊑ Z.row.lives)) ⊛ raw (fact 𝓤 Said)) ∷ []) ∵
        move ! (1 ∷ []) $ split ! $ heard ! (κ₂ ⊑ Z.row.lives) (λ lives. heard ! Said (λ said.
        split ! $ split ! $ move ! (2 ∷ []) $ fsplit ! $ fsplit ! $ move ! (1 ∷ []) $ unhide ! $ fsplit ! $ fsplit ! $ use1 𝓛 (‵ (seen Z κ₁ p inner)) (id⊢ 𝓤 _) $ move ! (1 ∷ []) $ fsplit ! $ keep ! (0 ∷ 6 ∷ 2 ∷ 7 ∷ []) $
        enter ! 𝓣.C 𝓣.Λ (here Z) passed _ $ alloc_all ! (λ l. pass_all ! refl ((tt, tt), ((tt, record { fits = fn }), ((tt, record { fits = fa }), tt))) $
        let En : Env 𝓤 H = env (here Z).locals l in
        -- [the `&` to `gate`; its lifetime's token; the `&` to `inner`; the other token]
        sets ! (addr ! (through ! refl (fld ! refl (stop !)))) refl (tt, tt) $
        use2 𝓛 (raw ((Asks 𝓛 at_mem run).pre z)) (Asks-goes 𝓛 at_mem run κ₁ q₁ c r.now.gate) $
        calls_at ! (fm_of 𝓤 H 𝓛.laws 𝓣) (Asks 𝓛 at_mem run) asks z (and_then ! (get ! refl) (no_more !)) (λ u.
        use1 𝓛 (later (some (λ (refused : Bool). given (u ≡ vbool refused) (‵ (flft κ₁ q₁))))) (Asks-gives 𝓛 at_mem run κ₁ q₁ c r.now.gate u) $ await ! tt $ pick ! (λ refused. learn ! (λ is. lands_as ! is refl (tt, tt) $
        -- [its lifetime's token; the `&` to `inner`; the other token]
        first ! $ branches ! (get ! refl)
        (λ refuses. sets ! (agg ! (no_more !)) refl (tt, tt) $
        sets ! (agg ! (and_then ! (lit ! tt) (and_then ! (get ! refl) (no_more !)))) refl (Answer-typed false 0 0) $
        returns_within ! (W.post bound) refl (look_at ! 0 refl) $ free_all ! refl $
        keep ! (0 ∷ 2 ∷ []) $ by ! ends_err)
        (λ admits. skips ! $ exec ! 𝓣.C 𝓣.Λ En (after 3 (here Z).body) (at_ret En (W.post bound)) $ move ! (1 ∷ []) $
        sets ! (addr ! (through ! refl (fld ! refl (stop !)))) refl (tt, tt) $
        use2 𝓛 (raw ((Takes Z 𝓛 at_mem run).pre y)) (Takes-goes Z 𝓛 at_mem run κ₁ q₁ p inner (⊑_trans κ₁ κ₂ Z.row.lives inn lives) n a τ said.0 said.1 fn fa) $
        calls_at ! (fm_of 𝓤 H 𝓛.laws 𝓣) (Takes Z 𝓛 at_mem run) takes y (and_then ! (get ! refl) (and_then ! (get ! refl) (and_then ! (get ! refl) (no_more !)))) (λ v.
        use1 𝓛 (later (raw (Answered Z 𝓛 at_mem run inner τ v) ⊛ ‵ (flft κ₁ q₁))) (Takes-gives Z 𝓛 at_mem run κ₁ q₁ p inner n a τ v) $ await ! tt $ split ! $
        answers Z ! at_mem run inner τ v
        (λ b o e. lands_as ! e refl (Answer-typed true b o) $ returns ! (look_at ! 0 refl) $ free_all ! refl $ by ! (ends_ok b o))
        (λ e. lands_as ! e refl (Answer-typed false 0 0) $ returns ! (look_at ! 0 refl) $ free_all ! refl $ by ! ends_err)))))))))

pub allocate_spec : {M : Type 1} → statement M
unfolding tables_of
allocate_spec 𝓤 𝓛 𝓜 𝓡 wired Y laws g d drops met _ =
    let Z : Al = record { row = Y; laws = laws; g = g; d = d; drops = drops } in
    let 𝓣 : Tables 𝓤 𝓛.H = tables_of 𝓤 𝓛.H 𝓜 (tables 𝓤 𝓛.H 𝓜 𝓡 𝓡.env) in
    let c = f.clauses Y g d drops 𝓛 𝓜.mem 𝓡.returns in
    entered 𝓤 𝓛.H (triple_of 𝓛 (f.signature Y) (f.spec Y g d drops 𝓛 𝓜.mem 𝓡.returns)) 𝓣.C 𝓣.Λ (key.name (args Z)) (here Z) (code.unfolded 𝓤 𝓛.H 𝓜 𝓡 wired (Y, tt) d drops)
    (walk_Meets 𝓛 (ended Z) (stayed Z) (Goes-dropped 𝓛 2 (self Z) yes (λ κs x f. refl), (Goes-dropped 𝓛 2 (plain (λ _. usize)) yes (λ κs x f. refl), (Goes-dropped 𝓛 2 (plain (λ _. usize)) yes (λ κs x f. refl), tt))) c (WpFn 𝓤 𝓛.H 𝓣.C 𝓣.Λ (here Z)) (WpFn-mono 𝓤 𝓛.H 𝓛.laws 𝓣 (here Z))
    (walked 𝓛 (ended Z) (stayed Z) c (WpFn 𝓤 𝓛.H 𝓣.C 𝓣.Λ (here Z)) (λ κs. (shr_vals, (uint_vals w64, (uint_vals w64, tt)))) (λ κs. ((λ r vs s. s.0), (uint_Tells w64, (uint_Tells w64, tt))))
    (λ κs qs bounds a τ are. walk Z 𝓛 𝓜.mem 𝓡.returns 𝓣 (met.allocate drops) (cited 𝓤 𝓛.H _ 𝓜 𝓡 𝓡.env asks_symbol.name (𝓡.env asks_symbol.name) refl (asks_met.met 𝓤 𝓛 𝓜 𝓡 (code.calls-kit_alloc::gate::Gate::refuses_next 𝓡.env wired))) κs.0 κs.1.0 qs.0 qs.1.0 bounds.0 a.0 a.1.0 a.1.1.0 τ are.1.0.1 are.1.1.0.1)))
