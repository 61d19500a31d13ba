-- The lines above a listing.
use Rattle.std.specs.Prelude.{ℕ, Option, Some, None, List, [], ◌∷◌, ◌++◌, length, codes, decimal}
use Rattle.std.specs.List.{flat_map}
use Rattle.term_core.specs.Datum.{Datum}
use Rattle.tool_io.specs.Lines.{text_of}

abbrev pub walk_text : ℕ → List ℕ
walk_text keypos = codes "walk at keypos " ++ decimal keypos ++ codes ": "

-- a blank and a key
abbrev pub key_text : Datum → List ℕ
key_text key = 32 ∷ text_of key

-- which objects a walk visits: those of the named keys, with their number and the keys, or all
abbrev pub plan_text : ℕ → Option (List Datum) → List ℕ
plan_text keypos None = walk_text keypos ++ codes "all objects\n"
plan_text keypos (Some keys) =
    walk_text keypos ++ decimal (length keys) ++ codes " looked up:" ++ flat_map key_text keys ++ codes "\n"

-- the maximal number of instructions that a run executes, and the maximal depth of its stack
abbrev pub bounds_text : ℕ → ℕ → List ℕ
bounds_text budget depth =
    codes "instructions of a run at most " ++ decimal budget ++ codes ", stack at most " ++ decimal depth ++ codes "\n"
