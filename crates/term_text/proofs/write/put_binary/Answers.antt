use Rattle.std.proofs.Common.{[], ◌∷◌}
use Rattle.term_text.specs.Character.{less, greater}
use Rattle.term_text.proofs.Bytes.{binary_bytes, three}
use Rattle.term_text.proofs.write.put_binary.Goals as goal

pub returns-clause-items : goal.returns-clause-items
returns-clause-items g c =
    rw (binary_bytes c.args.form c.args.bytes.now) (three _ (less ∷ less ∷ []) _ (greater ∷ greater ∷ []) _ _ _ c.in_ok-extend_from_slice.ensures.items c.in_ok-put_segments.ensures.items c.in_ok-extend_from_slice-2.ensures.items)
