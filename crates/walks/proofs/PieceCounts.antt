-- Counts of walks in pieces.
use Rattle.std.proofs.Common.{ℕ, ◌≡◌, ◌+◌, ◌++◌, List, [], ◌∷◌, arith, ap, sym, subst, ◌∙◌, length}
use Rattle.std.specs.Prelude.{min}
use Rattle.std.proofs.lemmas.List.{append-nil, length-append}
use Rattle.term_core.specs.Datum.{Datum}
use Rattle.part_core.specs.Replies.{most_counted}
use Rattle.tables.specs.Turns.{Home, Views}
use Rattle.walk_core.specs.Goes.{way, whole, IsAt}
use Rattle.walk_core.specs.Walk.{Walk, Position, IsWalk, start_of, is_done}
use Rattle.walk_core.specs.Moments.{Span, span, Gathers, IsSoFar, AreLegal, ArePlaced}
use Rattle.walk_core.proofs.GoesLemmas.{begins_so_far, goes_so_far, stops_so_far}
use Rattle.walks.specs.Counting.{CountsSoFar, CountsTo, StopsAtCount, IsCount}

pub begun : (w : Walk) (now : Views) → IsWalk w → CountsSoFar w [] now (start_of w) 0
begun w now walk = record { found = []; so_far = begins_so_far w now walk; count = omega arith }

-- what is kept counts as returned
all_given : (w : Walk) (calls : List Span) (given kept : List Datum) (now : Views) (at : Position)
    → IsSoFar w calls given now at kept → IsSoFar w calls (given ++ kept) now at []
all_given w calls given kept now at s = record {
  gathers = subst (Gathers w calls now (is_done w at)) (sym (append-nil (given ++ kept))) s.gathers;
  position = s.position;
}

counts_add : (n m : ℕ) (found more : List Datum) → IsCount n found → IsCount m more → IsCount (min (n + m) most_counted) (found ++ more)
counts_add n m found more a b = omega (arith, a, b, length-append found more)

module _ (h : Home) (w : Walk) (calls : List Span) (v u : Views) (at later : Position) (number more : ℕ) (is_at : IsAt h w) (walk : IsWalk w) (legal : AreLegal w.options v) (placed : ArePlaced w.options u) (s : CountsSoFar w calls v at number) where
  pub gone_on : CountsTo h w at later more v u → CountsSoFar w (calls ++ span v u ∷ []) u later (min (number + more) most_counted)
  gone_on t = record {
    found = s.found ++ t.0;
    so_far = all_given w (calls ++ span v u ∷ []) s.found t.0 u later (goes_so_far h w whole calls s.found (way v at []) (way u later t.0) is_at walk legal placed s.so_far t.1);
    count = counts_add number more s.found t.0 s.count t.2;
  }

  pub stopped : StopsAtCount h w at later more v u → CountsSoFar w (calls ++ span v u ∷ []) u later (min (number + more) most_counted)
  stopped t = record {
    found = s.found ++ t.0;
    so_far = all_given w (calls ++ span v u ∷ []) s.found t.0 u later (stops_so_far h w whole calls s.found (way v at []) later t.0 u is_at walk legal placed s.so_far t.1);
    count = counts_add number more s.found t.0 s.count t.2;
  }
