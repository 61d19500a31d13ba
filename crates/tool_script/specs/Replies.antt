-- The replies as the code has them in memory, and how a list of objects is written.
use Rattle.std.specs.Prelude.{ℕ, pos, flat_map, List, ◌∷◌}
use Rattle.term_core.specs.Datum.{Datum, cells}
use Rattle.term_core.specs.Datum.Datum.{integer, nil}
use Rattle.term_operand.specs.Operand.{boolean}
use Rattle.tool_io.specs.Lines.{text_of}
use Rattle.tool_script.specs.declared.reply.CommandReply as reply_type
use Rattle.tool_script.specs.declared.reply.CommandReply.TheVariants as reply
use Rattle.tool_script.specs.Script.{error, key_or_end}
use Rattle.tool_script.specs.Walks.{fault_term, piece_term}

-- the term of a reply
abbrev pub reply_term : {A : Type 0} → reply_type.CommandReply A → Datum
reply_term (reply.Flag b) = boolean b
reply_term (reply.Objects os) = cells os.items nil
reply_term (reply.Key k) = key_or_end k
reply_term (reply.Piece os c) = piece_term os.items c
reply_term (reply.Count n) = integer (pos n)
reply_term (reply.Error n) = error n
reply_term (reply.Fault f) = fault_term f

-- the texts of terms, each after a comma
abbrev pub behind_commas : List Datum → List ℕ
behind_commas ds = flat_map (λ d. 44 ∷ text_of d) ds
