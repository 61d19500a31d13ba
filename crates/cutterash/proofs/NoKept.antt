-- An engine that a closed table has in the proofs, where the code has none.
use Rattle.std.proofs.Common.{ℕ, [], refl, inl, arith}
use Rattle.std.specs.declared.alloc.Global.{Global}
use Rattle.std.specs.declared.vec.Vec.{Vec}
use Rattle.std_collections.specs.Layout.BTreeMap.{btree_map}
use denote.RawPtr.{null_ptr}
use Rattle.tool_script.specs.declared.script.Current.TheVariants as current
use Rattle.cutterash.specs.declared.kept.Kept.{Kept}
use Rattle.cutterash.specs.Held.{heap}

no_items : {X : Type 0} → Vec X Global
no_items = record { ptr = null_ptr; len = 0; cap = 0; alloc = heap; items = []; ok = (refl, omega arith); small = omega arith }

pub no_kept : Kept
no_kept =
    record {
      engine = record {
        script = record { alloc = heap; current = current.NoTable; count = 0; walks = record { «open» = btree_map [] (inl tt); next = 0 }; taken = 0 };
        replies = no_items;
      };
    }
