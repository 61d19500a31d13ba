-- The input so far is what the reader has lost, with at most 65,536 bytes for each read.
use Rattle.std.proofs.Common.{◌≡◌, ◌≤◌, ◌*◌, length}
use Rattle.std.specs.Io.KnownBytes.{Consumes}
use Rattle.tool_io.proofs.input.read_within.Given as goal

abbrev pub invariant-loop-read : goal.invariant-loop-read
invariant-loop-read g l =
    Consumes (g.R.Read.remaining l.fn.reader) (g.R.Read.remaining l.reader) l.input.items
    × (length l.buffer.items ≡ 65536) × (length l.input.items ≤ 65536 * l._read)
