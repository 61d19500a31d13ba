-- No rows.
use Rattle.std.proofs.Common.{◌≡◌, ℕ, ◌<◌, List, [], refl, ap, sym, subst, ◌∙◌, length, get_or, arith}
use Rattle.std.specs.Prelude.{true, false, not, Option, Some, None, is_some, replicate}
use Rattle.std.specs.List.{IsDistinct, count_by}
use Rattle.std.specs.Option.{option_map_or}
use Rattle.std.proofs.lemmas.Bool.{true≢false}
use Rattle.std.proofs.lemmas.List.{get_or-replicate, length-replicate}
use Rattle.slab.specs.Slab.{Slab, get}
use Rattle.term_operand.specs.Order.{is_same}
use Rattle.part_core.specs.declared.settings.Settings.{Settings}
use Rattle.part_core.specs.Rows.{is_live}
use Rattle.part_rows.specs.declared.place.Place.{Place}
use Rattle.part_hash.specs.declared.store.Store.{Store}
use Rattle.part_hash.specs.Places.{Kept, Standing, low_of}
use Rattle.part_hash.specs.Slots.{IsListed, Listing, listing_at, no_listing}
use Rattle.part_hash.specs.Standing.{Stands}
use Rattle.part_hash.proofs.StandLemmas.{None≢Some, all_none}

get_past : (slab : Slab Kept) → slab.slots ≡ [] → (at : ℕ) → get slab at ≡ None
get_past slab none at = ap (λ (rs : List (Option Kept)). get_or rs at None) none

none_there : (slab : Slab Kept) → slab.slots ≡ [] → (at : ℕ) (r : Kept) → get slab at ≡ Some r → ⊥
none_there slab none at r there = None≢Some (sym (get_past slab none at) ∙ there)

none_apart : IsDistinct is_same []
unfolding IsDistinct
none_apart = tt

pub stands_none : {A : Type 0} (o : Settings) (s : Store A) (count : ℕ) → s.rows.slots ≡ [] → s.slots.items ≡ replicate count no_listing → Stands o s []
stands_none {A} o s count rows lists = record {
  list = [];
  are = refl;
  placed = record {
    stands = all_none (λ (e : Standing). get s.rows e.0.at ≡ Some (e.1, e.0.made));
    rising = tt;
    below = all_none (λ (e : Standing). e.0.made < s.made);
    low = all_none (λ (e : Standing). e.0.low ≡ low_of o e.1.0);
  };
  listed = λ j below. subst (λ v. IsListed s.rows s.made v []) (sym (ap (λ vs. listing_at vs j) lists ∙ get_or-replicate count j no_listing no_listing (omega (arith, below, ap length lists, length-replicate {A = Listing} count no_listing)))) (record {
    there = refl;
    gone = omega arith;
    passed = λ k d low high. absurd (omega (arith, high));
    below = all_none (λ (p : Place). p.made < s.made);
    front = omega arith;
  });
  found = record {
    those = λ at r there. absurd (none_there s.rows rows at r there);
    once = λ i j r q there also same. absurd (none_there s.rows rows i r there);
    known = λ at r there. absurd (none_there s.rows rows at r there);
  };
  apart = none_apart;
  count = ap (λ (xs : List (Option Kept)). count_by is_some xs) rows;
  noted = λ at dead. absurd (true≢false (sym dead ∙ ap (λ (f : Option Kept). option_map_or (λ (r : Kept). not (is_live r.0)) f false) (get_past s.rows rows at)));
}
