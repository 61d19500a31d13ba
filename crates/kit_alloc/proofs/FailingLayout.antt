-- The layout of the wrapper around the inner allocator, which the proofs of its two methods share.
use Rattle.std.proofs.Common.{ℕ, ◌+◌, [], ◌∷◌, Bor}
use mir.Syntax.{Args, a_type, dnil, dcons}
use prog.Memory.{size, align, up}
use denote.Param.{bounded, param}
use denote.Builtin.{RefOf}
use denote.Signature.{Slot, plain}
use Rattle.std.proofs.alloc.Calls.{Al, α}
use Rattle.kit_alloc.specs.contracts.failing.Failing as wrapper

module _ (Z : Al) where
  abbrev pub args : Args
  args = bounded (a_type ∷ []) (Z.row, tt) (dcons Z.d (dcons Z.drops dnil))

  abbrev pub self : Slot 2
  self = RefOf (0 ∷ []) tt (plain (λ _. wrapper.the_row (param 0 Z.row))) (λ _. tt)

  abbrev pub Handle : Type 0
  Handle = Bor (wrapper.the_row Z.row).Denot

  -- the place of the field `inner`
  abbrev pub inner_place : Handle → ℕ × ℕ
  inner_place r = (r.ref_ptr.0, r.ref_ptr.1 + up (align (α Z)) 0)

  -- the place of the field `gate`, whose words align to 8 bytes
  abbrev pub gate_place : Handle → ℕ × ℕ
  gate_place r = (r.ref_ptr.0, r.ref_ptr.1 + up 8 (up (align (α Z)) 0 + size (α Z)))
