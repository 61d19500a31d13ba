-- What a call replies, and what it leaves in the caller's room (the buffer that it passes).
use Rattle.std.specs.Prelude.{ℕ, ◌≡◌, ◌≤◌, ◌<◌, ◌==◌, Bool, true, false, if◌then◌else◌, List, length, take, drop, slice_index_or}
use Rattle.tool_io.specs.Fault.{number_of, arguments_of}
use Rattle.tool_io.specs.declared.fault.ToolFault.{ToolFault}
use Rattle.cutterash.specs.declared.reply.Reply.{Reply}

-- a reply with a status and a length, and nothing else
abbrev pub plain_reply : ℕ → ℕ → Reply
plain_reply status length =
    record { status = status; number = 0; count = 0; first = 0; second = 0; length = length }

-- the replies of a call that did its work; of a run without an answer; and of a call for a closed filter or table
abbrev pub done_reply : Reply
done_reply = plain_reply 0 0

abbrev pub nothing_reply : Reply
nothing_reply = plain_reply 1 0

abbrev pub closed_reply : Reply
closed_reply = plain_reply 5 0

-- memory ran out while a table obeyed a text; the table has `length` bytes of replies
abbrev pub lost_reply : ℕ → Reply
lost_reply length =
    record { status = 6; number = 1; count = 0; first = 0; second = 0; length = length }

-- the reply with the budget and the depth of code
abbrev pub bounds_reply : ℕ → ℕ → Reply
bounds_reply budget depth =
    record { status = 0; number = 0; count = 2; first = budget; second = depth; length = 0 }

-- the status of a fault: 3 for out of memory (error code 1), else 2
abbrev pub refusal_status : ℕ → ℕ
refusal_status number = if number == 1 then 3 else 2

-- the reply with the error code of a fault and its arguments, at most two
abbrev pub refusal_reply : ToolFault → Reply
refusal_reply f =
    record {
      status =
          refusal_status (number_of f);
      number = number_of f;
      count = length (arguments_of f);
      first = slice_index_or (arguments_of f) 0 0;
      second = slice_index_or (arguments_of f) 1 0;
      length = 0;
    }

-- the bytes are at the front of the room, and what follows them is unchanged
pub record Holds (bytes old new : List ℕ) : Type 0 where
  pub fits : length bytes ≤ length old
  pub front : take (length bytes) new ≡ bytes
  pub rest : drop (length bytes) new ≡ drop (length bytes) old

-- bytes that fit are at the front of the room; if they don't fit, the room is unchanged
abbrev pub IsPut : List ℕ → (old new : List ℕ) → Bool → Type 0
IsPut bytes old new true = Holds bytes old new
IsPut bytes old new false = (length old < length bytes) × (new ≡ old)

-- the status 0 for bytes that fit, else 4
abbrev pub put_status : Bool → ℕ
put_status true = 0
put_status false = 4

-- the reply has the number of these bytes, and they are in the room if they fit
pub record Gives (bytes old new : List ℕ) (r : Reply) : Type 0 where
  pub fits : Bool
  pub put : IsPut bytes old new fits
  pub reply : r ≡ plain_reply (put_status fits) (length bytes)
