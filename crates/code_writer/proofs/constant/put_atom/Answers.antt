use Rattle.std.proofs.Common.{◌≡◌, [], ◌∷◌, ◌++◌, OnOk, arith, rules}
use Rattle.std.proofs.lemmas.Result.{on_ok_weaker}
use Rattle.code_writer.proofs.LeafLemmas.{text_bytes_are, text_bytes_fit}
use Rattle.code_writer.proofs.WriteLemmas.{three}
use Rattle.code_writer.proofs.constant.put_atom.Goals as goal

pub overflow_cast-text : goal.overflow_cast-text
overflow_cast-text g c = omega (arith, text_bytes_fit _ c.utf8.text c.requires)

pub returns : goal.returns
returns g c =
    let last : OnOk c.extend_from_slice.result (c.extend_from_slice.new.self.items ≡ c.put_u16.new.out.items ++ c.args.text.now) = search rules in
    rw (text_bytes_are _ c.utf8.text)
    (on_ok_weaker c.extend_from_slice.result (λ last. three _ (2 ∷ []) _ _ _ _ _ c.in_ok-put_u8.ensures c.in_ok-put_u16.ensures last) last)
