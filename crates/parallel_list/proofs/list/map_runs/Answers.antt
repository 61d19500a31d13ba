use Rattle.std.proofs.Common.{max, ap, subst, ◌∙◌, arith}
use Rattle.std.specs.List.{AllZip, flat_map}
use Rattle.rayon.specs.Lists.{chunks_of, chunks_slice, chunks_size, min_len_base}
use Rattle.rayon.proofs.ListFacts.{IfOk-then}
use Rattle.rayon.proofs.ToStd.{chunks_of-concat}
use Rattle.parallel_list.proofs.RunLemmas.{collected}
use Rattle.parallel_list.proofs.list.map_runs.Goals as goal

pub returns : goal.returns
returns g c =
    let size = max c.args.size 1 in
    IfOk-then c.collect.result _ _ c.collect.ensures (λ v h.
    let chain = h.1 in
    let base = ap min_len_base c.map.ensures.base ∙ c.with_min_len.ensures.base in
    let slice_is = ap chunks_slice base ∙ c.par_chunks.ensures.slice in
    let size_is = ap chunks_size base ∙ c.par_chunks.ensures.size in
    let whole = ap (flat_map (λ l. l)) (chain.1 ∙ (λ i. chunks_of (max (size_is i) 1) (slice_is i))) ∙ chunks_of-concat size c.args.items.now (omega arith) in
    IfOk-then v _ _ (collected (λ run r. g.F.Fn.post c.args.f (run, tt) r) (λ w. w.items) chain.0 h.0 v _ (subst (λ k. AllZip (λ run r. g.F.Fn.post k (run, tt) r) chain.0 h.0) c.map.ensures.f chain.2) h.2) (λ made each. (chain.0, whole, each)))
