-- The reply to a request is the term of what its call returns.
use Rattle.std.proofs.Common.{◌≡◌, ℕ, refl}
use Rattle.term_core.specs.Datum.{Datum}
use Rattle.part_core.specs.Acts.{Act}
use Rattle.part_core.specs.Settings.{is_object}
use Rattle.part_core.proofs.KeyLemmas.{by_test}
use Rattle.tables.specs.Options.{settings_of}
use Rattle.tables.specs.OneThread.{TableState, can_fix, can_unfix}
use Rattle.open_table.specs.Calls as call
use Rattle.tool_script.specs.Command.{Ask}
use Rattle.tool_script.specs.Command.Ask.{Insert, InsertNew, Lookup, Member, Delete, DeleteObject, Take, Fix, Unfix, Leave, First, Next}
use Rattle.tool_script.specs.CallLaws.{call_of}
use Rattle.tool_script.specs.Script.{answer_term, asked, at_object}

with_object : (t : TableState) (n : ℕ) (object : Datum) (act : Act) → ((at_object t n object act).0 ≡ answer_term (call.at_object n object act t).0) × ((at_object t n object act).1 ≡ (call.at_object n object act t).1)
with_object t n object act = by_test (is_object (settings_of t.options) object) _ (λ is. rw is (refl, refl)) (λ other. rw other (refl, refl))

pub said_by_calls : (t : TableState) (n : ℕ) (ask : Ask) → ((asked t n ask).0 ≡ answer_term (call_of n ask t).0) × ((asked t n ask).1 ≡ (call_of n ask t).1)
said_by_calls t n (Insert object) = with_object t n object (Act.Insert object)
said_by_calls t n (InsertNew object) = with_object t n object (Act.InsertNew object)
said_by_calls t n (Lookup k) = (refl, refl)
said_by_calls t n (Member k) = (refl, refl)
said_by_calls t n (Delete k) = (refl, refl)
said_by_calls t n (DeleteObject object) = with_object t n object (Act.DeleteObject object)
said_by_calls t n (Take k) = (refl, refl)
said_by_calls t n Fix = by_test (can_fix t n) _ (λ can. rw can (refl, refl)) (λ other. rw other (refl, refl))
said_by_calls t n Unfix = by_test (can_unfix t n) _ (λ can. rw can (refl, refl)) (λ other. rw other (refl, refl))
said_by_calls t n Leave = (refl, refl)
said_by_calls t n First = (refl, refl)
said_by_calls t n (Next k) = (refl, refl)
