-- Replies put together.
use Rattle.std.proofs.Common.{◌≡◌, ◌⊎◌, ℕ, inl, inr, List, Bool, false, length}
use Rattle.mcode.specs.Program.{Program}
use Rattle.tool_io.specs.declared.fault.ToolFault.TheVariants as fault
use Rattle.tool_query.specs.Query.{IsLoaded}
use Rattle.cutterash.specs.declared.filter.Filter.{Filter}
use Rattle.cutterash.specs.declared.reply.Reply.{Reply}
use Rattle.cutterash.specs.Reply.{Gives, IsPut, put_status, plain_reply, refusal_reply}
use Rattle.cutterash.specs.Calls.{IsOpened, Loads}

-- the reply for bytes that were copied into the room, or not
pub gives : (bytes old new : List ℕ) (fits : Bool) (r : Reply) → IsPut bytes old new fits → r ≡ plain_reply (put_status fits) (length bytes) → Gives bytes old new r
gives bytes old new fits r put reply = record { fits = fits; put = put; reply = reply }

-- the reply for a filter that was opened by the code of a file, or not because memory ran out
pub loads : (bytes : List ℕ) (p : Program) (new : Filter) (r : Reply) → IsLoaded bytes p → IsOpened p new r ⊎ ((new.is_open ≡ false) × (r ≡ refusal_reply fault.Memory)) → Loads bytes new r
loads bytes p new r loaded (inl opened) = inl (p, loaded, opened)
loads bytes p new r loaded (inr closed) = inr (fault.Memory, tt, closed.0, closed.1)
