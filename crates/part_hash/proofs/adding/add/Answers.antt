use Rattle.std.proofs.Common.{rules, arith, ◌≡◌, ◌<◌, ◌-◌, ◌+◌, ◌^◌, ◌++◌, List, [], ◌∷◌, refl, ap, sym, subst, ◌∙◌, length}
use Rattle.std.specs.Prelude.{Some, None, unwrap_or}
use Rattle.std.proofs.lemmas.Result.{err_from_is_err_and}
use Rattle.slab.specs.Slab.{Updates, get, slab_len}
use Rattle.term_core.specs.Datum.{Datum}
use Rattle.term_core.specs.Datum.Datum.{nil}
use Rattle.term_core.specs.KeyHash.{key_hash}
use Rattle.hash_index.specs.Index.{Puts, cells}
use Rattle.part_core.specs.declared.kind.TableKind.TheVariants.{Set}
use Rattle.part_core.specs.After.{slots_after}
use Rattle.part_core.specs.Rows.{Row}
use Rattle.part_rows.specs.declared.place.Place.{Place}
use Rattle.part_hash.specs.Mixed.{mixed}
use Rattle.part_hash.specs.Places.{Kept, low_of}
use Rattle.part_hash.specs.Slots.{AreListed, Listing}
use Rattle.part_hash.proofs.AddLemmas.{grown_by_one, is_added, stands_more}
use Rattle.part_hash.proofs.adding.add.Goals as goal

pub returns-clause-done : goal.returns-clause-done
returns-clause-done g c = λ rows none stands.
    let o = c.args.settings in
    let object : Datum = unwrap_or c.args.object.now nil in
    let key : Datum = c.args.key in
    let row : Row = (key, object ∷ []) in
    let s = c.reserve.ensures.kept o rows stands in
    let store = c.reserve.new.store in
    let t = c.enter-passed.new.store in
    let p : Place = record { made = store.made; at = c.in_ok-at.at; low = c.low_of.result } in
    let hash : c.key_hash-hash.result ≡ key_hash key = c.key_hash-hash.ensures in
    let row_is : c.new-row.result ≡ (row, store.made) = c.new-row.ensures ∙ ap (λ (d : Datum). ((key, d ∷ []), store.made)) c.taken.ensures.object in
    let vacant : get store.rows p.at ≡ None = c.in_ok-at.ensures.none in
    let updates : Updates store.rows t.rows p.at (Some (row, p.made)) = subst (λ i. Updates store.rows t.rows i (Some (row, p.made))) (sym c.in_ok-at.ensures.at) (subst (λ (r : Kept). Updates store.rows t.rows store.rows.vacant_key (Some r)) row_is c.enter-passed.ensures.rows) in
    let low : p.low ≡ low_of o key = search rules in
    let puts : Puts (cells store.index) (cells t.index) (mixed store.seed key) p.at = subst (λ i. Puts (cells store.index) (cells t.index) (mixed store.seed key) i) (sym c.in_ok-at.ensures.at) (subst (λ m. Puts (cells store.index) (cells t.index) m store.rows.vacant_key) (c.requires.mixed ∙ ap (λ n. mixed n key) (sym c.reserve.ensures.seed)) c.enter-passed.ensures.index) in
    let later : c.in-Some.made ≡ store.made + 1 = search rules in
    let listed = c.in_ok-enlist.ensures.listed t.rows row s.list hash (is_added store.rows t.rows p row vacant updates) s.placed.low s.listed in
    let entered = stands_more o store t rows row p s none refl vacant refl low updates c.enter-passed.ensures.count puts c.enter-passed.ensures.seed (c.enter-passed.ensures.made ∙ later) c.enter-passed.ensures.dying c.enter-passed.ensures.lost (subst (λ (vs : List Listing). AreListed o t.rows (p.made + 1) vs (s.list ++ (p, row) ∷ [])) (sym c.enter-passed.ensures.slots) listed) in (
      c.keep_short.ensures.kept o (rows ++ row ∷ []) entered,
      c.keep_short.ensures.slots ∙ ap length c.enter-passed.ensures.slots ∙ c.in_ok-enlist.ensures.slots ∙ ap (λ n. slots_after Set (n - 1) n (length store.slots.items)) c.with_one-count.ensures ∙ grown_by_one (slab_len store.rows) (length rows) (length store.slots.items) (length c.args.store.now.slots.items) s.count c.reserve.ensures.slots,
    )

pub low_of-requires : goal.low_of-requires
low_of-requires g c = c.spread_of.ensures.some

pub with_one-count-requires : goal.with_one-count-requires
with_one-count-requires g c = c.in_ok-reserve.ensures.rows

pub enlist-requires-clause-base : goal.enlist-requires-clause-base
enlist-requires-clause-base g c = c.reserve.new.store.is_base

pub enlist-requires-clause-some : goal.enlist-requires-clause-some
enlist-requires-clause-some g c = omega (arith, c.with_one-count.ensures)

pub invariant_of-store : goal.invariant_of-store
invariant_of-store g c = record {
  is_base = c.enlist.ensures.base;
  only = λ mixed at has. c.reserve.new.store.only mixed at has;
}

pub enter-passed-requires-clause-rows : goal.enter-passed-requires-clause-rows
enter-passed-requires-clause-rows g c = c.in_ok-reserve.ensures.rows

pub enter-passed-requires-clause-index : goal.enter-passed-requires-clause-index
enter-passed-requires-clause-index g c = c.in_ok-reserve.ensures.index

pub enter-passed-requires-clause-small : goal.enter-passed-requires-clause-small
enter-passed-requires-clause-small g c =
    subst (λ n. n < 2 ^ 32 - 1) c.in_ok-at.ensures.at c.in_ok-at.ensures.small

pub returns-in_err-enlist-clause-refused : goal.returns-in_err-enlist-clause-refused
returns-in_err-enlist-clause-refused g c =
    let back = err_from_is_err_and c.from_residual-in_err-enlist.result c.from_residual-in_err-enlist.ensures.1 in
    rw back.1 (λ rows stands.
    let s = c.reserve.ensures.kept c.args.settings rows stands in record {
      list = s.list;
      are = s.are;
      placed = s.placed;
      listed = c.in_err-enlist.ensures.refused c.reserve.new.store.made s.list s.listed;
      found = s.found;
      apart = s.apart;
      count = s.count;
      noted = s.noted;
    })

pub taken-requires : goal.taken-requires
taken-requires g c = c.requires.object
