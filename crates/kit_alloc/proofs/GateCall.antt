-- `Gate::refuses_next` and `Gate::counts_returned` at a call: what each takes, and what a caller gets from it. Assumes
-- `Logic`.
use Rattle.std.proofs.Common.{◌≡◌, ℕ, Bool, List, [], ◌∷◌, refl, ap}
use seplogic.Ra.Ura.{Ura}
use mir.Val.{Val, vbool, vptr, vunit}
use base.Logic.{SProp, ent, ex, sep, guard, id⊢}
use base.Fml.{Lft, Share, ftrue, fsep, flft}
use prog.Memory.{Memory}
use prog.Routine.{Routine}
use types.Logic.{Logic, sem}
use contract.Monad.{Fun, fact}
use types.Kit.{‵, raw, ◌⊛◌, some, later, ◌$◌, ◌∵◌, !, qed, move, keep, use1, split, join, pick, fjoin, feq_i, feq_l, check, show, await, updating, now as at_once, done}
use denote.Memory.{hidden_shr}
use denote.Builtin.{bool, unit}
use denote.Steps.{nothing, only}
use denote.Triple.Statement.{Contract}
use denote.Triple.Spec.{triple_of}
use Rattle.kit_alloc.specs.declared.gate.Gate.{Gate}
use Rattle.kit_alloc.specs.contracts.gate.Gate as gate
use Rattle.kit_alloc.specs.contracts.gate.Gate.counts_returned as n
use Rattle.kit_alloc.specs.contracts.gate.Gate.refuses_next as f
use Rattle.kit_alloc.specs.Plan.{IsAnswer}

module _ {M : Type 1} {𝓤 : Ura M} (𝓛 : Logic 𝓤) (at_mem : Memory → SProp 𝓤) (run : Routine → Fun 𝓤) where
  abbrev pub Asks : Contract 𝓤
  Asks = triple_of 𝓛 f.signature (f.spec 𝓛 at_mem run)

  abbrev pub at_asks : Lft → Share → ℕ × ℕ → Gate → Asks.Ghost
  at_asks κ q p g = (((κ, tt), (q, tt), tt, (record { ref_ptr = p; now = g }, tt), (vptr p.0 p.1 ∷ [], tt)), tt)

  abbrev pub Notes : Contract 𝓤
  Notes = triple_of 𝓛 n.signature (n.spec 𝓛 at_mem run)

  abbrev pub at_notes : Lft → Share → ℕ × ℕ → Gate → Notes.Ghost
  at_notes κ q p g = (((κ, tt), (q, tt), tt, (record { ref_ptr = p; now = g }, tt), (vptr p.0 p.1 ∷ [], tt)), tt)

module _ {M : Type 1} {𝓤 : Ura M} (𝓛 : Logic 𝓤) (at_mem : Memory → SProp 𝓤) (run : Routine → Fun 𝓤) (κ : Lft) (q : Share) (p : ℕ × ℕ) (g : Gate) where
  open 𝓛 use {H, A}

  pub Asks-goes : ent 𝓤 (sep 𝓤 (sem 𝓛 (hidden_shr gate.the_row κ g p.0 p.1)) (A.lft κ q)) ((Asks 𝓛 at_mem run).pre (at_asks 𝓛 at_mem run κ q p g))
  Asks-goes =
      qed 𝓛 (‵ (hidden_shr gate.the_row κ g p.0 p.1) ∷ ‵ (flft κ q) ∷ []) ∵ feq_i ! (List Val) (vptr p.0 p.1 ∷ []) (vptr p.0 p.1 ∷ []) refl $ fjoin ! $
      nothing ! $ move ! (1 ∷ []) $ fjoin ! $ nothing ! $ move ! (2 ∷ []) $ join ! $ join ! $ nothing ! $ move ! (1 ∷ []) $ done !

  pub Asks-gives : (v : Val) → ent 𝓤 ((Asks 𝓛 at_mem run).post (at_asks 𝓛 at_mem run κ q p g) v) (H.⇛ (ex 𝓤 (λ (r : Bool). guard 𝓤 (v ≡ vbool r) (A.lft κ q))))
  Asks-gives v =
      qed 𝓛 (raw ((Asks 𝓛 at_mem run).post (at_asks 𝓛 at_mem run κ q p g) v) ∷ []) ∵ updating ! $
      use1 𝓛 (later (some (λ (r : Bool). ((‵ (flft κ q) ⊛ ‵ ftrue) ⊛ ‵ (bool.own_val r (v ∷ []))) ⊛ some (λ (ws : Unit {0} × Unit {0}). ‵ (fsep ftrue ftrue) ⊛ raw (fact 𝓤 (IsAnswer g.plan r)))))) (id⊢ 𝓤 _) $
      await ! tt $ pick ! (λ r. split ! $ split ! $ move ! (1 ∷ []) $ feq_l ! (λ is. split ! $ at_once ! $ show ! (λ (r : Bool). guard 𝓤 (v ≡ vbool r) (A.lft κ q)) r $ check ! (ap only is) $ keep ! (0 ∷ []) $ done !))

  pub Notes-goes : ent 𝓤 (sep 𝓤 (sem 𝓛 (hidden_shr gate.the_row κ g p.0 p.1)) (A.lft κ q)) ((Notes 𝓛 at_mem run).pre (at_notes 𝓛 at_mem run κ q p g))
  Notes-goes =
      qed 𝓛 (‵ (hidden_shr gate.the_row κ g p.0 p.1) ∷ ‵ (flft κ q) ∷ []) ∵ feq_i ! (List Val) (vptr p.0 p.1 ∷ []) (vptr p.0 p.1 ∷ []) refl $ fjoin ! $
      nothing ! $ move ! (1 ∷ []) $ fjoin ! $ nothing ! $ move ! (2 ∷ []) $ join ! $ join ! $ nothing ! $ move ! (1 ∷ []) $ done !

  pub Notes-gives : (v : Val) → ent 𝓤 ((Notes 𝓛 at_mem run).post (at_notes 𝓛 at_mem run κ q p g) v) (H.⇛ (guard 𝓤 (v ≡ vunit) (A.lft κ q)))
  Notes-gives v =
      qed 𝓛 (raw ((Notes 𝓛 at_mem run).post (at_notes 𝓛 at_mem run κ q p g) v) ∷ []) ∵ updating ! $
      use1 𝓛 (later (some (λ (r : Unit {0}). ((‵ (flft κ q) ⊛ ‵ ftrue) ⊛ ‵ (unit.own_val r (v ∷ []))) ⊛ some (λ (ws : Unit {0} × Unit {0}). ‵ (fsep ftrue ftrue) ⊛ ‵ ftrue)))) (id⊢ 𝓤 _) $
      await ! tt $ pick ! (λ r. split ! $ split ! $ move ! (1 ∷ []) $ feq_l ! (λ is. split ! $ at_once ! $ check ! (ap only is) $ keep ! (0 ∷ []) $ done !))
