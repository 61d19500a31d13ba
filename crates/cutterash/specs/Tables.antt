-- What each call of a table does.
use Rattle.std.specs.Prelude.{ℕ, ◌≡◌, ◌⊎◌, true, false, List, [], length}
use Rattle.term_text.specs.declared.fault.TextFault.{TextFault}
use Rattle.tool_io.specs.Wrapped.{of_text}
use Rattle.tool_io.specs.declared.fault.ToolFault.TheVariants as fault
use Rattle.tool_script.specs.Engine.{IsIn, lines_of, IsObeyed, IsUnread, IsLost}
use Rattle.tool_script.specs.Script.{beginning}
use Rattle.cutterash.specs.declared.kept.Kept.{Kept}
use Rattle.cutterash.specs.declared.reply.Reply.{Reply}
use Rattle.cutterash.specs.declared.table.Table.{Table}
use Rattle.cutterash.specs.Reply.{Gives, done_reply, lost_reply, refusal_reply}

-- the table is open, at its beginning, without replies; or it is closed, because memory ran out
abbrev pub OpensTable : (new : Table) → Reply → Type 0
OpensTable new r =
    ((new.is_open ≡ true) × IsIn new.kept.engine beginning × (lines_of new.kept.engine ≡ []) × (r ≡ done_reply))
    ⊎ ((new.is_open ≡ false) × (r ≡ refusal_reply fault.Memory))

-- a text is rejected, or memory ran out while it was read: no command is obeyed, and nothing is changed
pub record IsRefused (before now : Kept) (text old new : List ℕ) (r : Reply) : Type 0 where
  pub why : TextFault
  pub because : IsUnread text why
  pub kept : now ≡ before
  pub room : new ≡ old
  pub reply : r ≡ refusal_reply (of_text why)

-- Memory ran out while the commands of a text were obeyed: the table has the lines of the replies to the first of the
-- terms, and the reply has their number of bytes.
pub record IsLostAt (before now : Kept) (text old new : List ℕ) (r : Reply) : Type 0 where
  pub lost : IsLost before.engine now.engine text
  pub room : new ≡ old
  pub reply : r ≡ lost_reply (length (lines_of now.engine))

-- the commands that a text spells are obeyed, and the reply has the lines of their replies; or they are not, and the
-- reply says why
abbrev pub Obeys : (before now : Kept) → (text old new : List ℕ) → Reply → Type 0
Obeys before now text old new r =
    (IsObeyed before.engine now.engine text × Gives (lines_of now.engine) old new r)
    ⊎ (IsRefused before now text old new r ⊎ IsLostAt before now text old new r)
