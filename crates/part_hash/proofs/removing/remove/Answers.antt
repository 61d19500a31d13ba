use Rattle.std.proofs.Common.{◌≡◌, ◌≢◌, ◌/◌, ◌%◌, List, refl, ap, sym, subst, ◌∙◌, length}
use Rattle.std.specs.Prelude.{is_some}
use Rattle.term_core.specs.KeyHash.{key_hash}
use Rattle.hash_index.specs.Index.{HasIn, cells}
use Rattle.part_core.specs.States.{IsBase}
use Rattle.part_hash.specs.Places.{Kept, slot_at}
use Rattle.part_hash.specs.Slots.{AreListedWithGone, Listing}
use Rattle.part_hash.proofs.ListedLemmas.{others}
use Rattle.part_hash.proofs.RemoveLemmas.{gone_listed, stands_less}
use Rattle.part_hash.proofs.removing.remove.Goals as goal

pub remove-row-requires : goal.remove-row-requires
remove-row-requires g c = c.args.store.now.only c.args.mixed c.args.at c.requires.known

pub invariant_of-store : goal.invariant_of-store
invariant_of-store g c = record {
  is_base = subst IsBase (sym c.unlist.ensures.count) c.args.store.now.is_base;
  only = λ mixed at has.
      let apart : at ≢ c.args.at = λ same. c.take.ensures.takes.gone mixed (subst (λ i. HasIn (cells c.take.new.self) mixed i) same has) in
      ap is_some (c.remove-row.ensures.updates.others at apart) ∙ c.args.store.now.only mixed at (c.take.ensures.takes.only mixed at has);
}

pub returns-clause-done : goal.returns-clause-done
returns-clause-done g c = λ o rows spread s.
    let slots : List Listing = c.args.store.now.slots.items in
    let row : Kept = c.remove-row.result in
    let hash : c.key_hash-hash.result ≡ key_hash row.0.0 = c.key_hash-hash.ensures ∙ ap key_hash c.key.ensures in
    let number : slot_at o (length slots) row.0.0 ≡ (c.key_hash-hash.result / c.args.spread) % length slots = sym (ap (λ h. (h / c.args.spread) % length slots) hash ∙ ap (λ d. (key_hash row.0.0 / d) % length slots) spread) in
    stands_less o c.args.store.now _ rows c.args.at row s c.remove-row.ensures.value c.remove-row.ensures.updates c.remove-row.ensures.len c.take.ensures.takes refl refl refl refl
    (c.unlist.ensures.listed o c.args.store.now.made (others row.0.0 s.list) (subst (λ n. AreListedWithGone o c.remove-row.new.self c.args.store.now.made slots n (others row.0.0 s.list)) number (gone_listed o c.args.store.now c.remove-row.new.self rows c.args.at row s c.remove-row.ensures.value c.remove-row.ensures.updates)))
