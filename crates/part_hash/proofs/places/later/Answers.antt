use Rattle.std.proofs.Common.{rules, of_calls, ◌≡◌, ◌-◌, ap, sym, ◌∙◌, length, take, drop}
use Rattle.std.proofs.Math.Seq.{take-length}
use Rattle.std.specs.Prelude.{◌&&◌, find, nat_le, nat_lt}
use Rattle.std.proofs.lemmas.List.{length-drop}
use Rattle.std.proofs.lemmas.Fn.{always_returns_same}
use Rattle.part_rows.specs.declared.place.Place.{Place}
use Rattle.part_hash.proofs.PlaceLemmas.{parted, skipped}
use Rattle.part_hash.proofs.places.later.Goals as goal

pub returns : goal.returns
returns c = λ rising test.
    let places = c.args.places.now in
    let begin = c.partition_point-begin.result in
    let point = c.partition_point-begin.ensures.partitioned (λ (p : Place). nat_lt p.made c.args.from) (always_returns_same _ _ _ (λ a r f k. search (rules, of_calls))) (parted c.args.from places rising) in
    let rest : take (length places - begin) (drop begin places) ≡ drop begin places = ap (λ n. take n (drop begin places)) (sym (length-drop begin places)) ∙ take-length (drop begin places) in
    ap (find (λ (p : Place). nat_le c.args.from p.made && test p)) rest ∙ skipped c.args.from begin places point.0 test
