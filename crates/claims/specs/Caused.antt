-- Each call and each answer of a session has its cause in the history.
use Rattle.std.specs.Prelude.{◌≡◌, ◌≢◌, ◌<◌, ◌⊎◌, ◌++◌, ℕ, List, [], ◌∷◌, length, Option, Some, None}
use Rattle.rpc_message.specs.Call.{xid_at}
use Rattle.world_model.specs.declared.answer.Answer.{Answer}
use Rattle.world_model.specs.declared.answer.Answer.TheVariants.{Done, Refused}
use Rattle.world_model.specs.declared.answer.Fault.{Fault}
use Rattle.world_model.specs.declared.answer.Fault.TheVariants as faults
use Rattle.world_model.specs.declared.answer.Value.{Value}
use Rattle.world_model.specs.declared.entry.Entry.{Entry}
use Rattle.world_model.specs.declared.entry.Entry.TheVariants.{Sent}
use Rattle.world_model.specs.declared.op.Op.{Op}
use Rattle.claims.specs.CallCounts.{CallCounts}
use Rattle.claims.specs.CallsAsked.{CallsAsked}
use Rattle.world_model.specs.Counts.{different}
use Rattle.claims.specs.OkRows.{OkRow}
use Rattle.world_model.specs.Operations.{Ended}
use Rattle.claims.specs.RefusalRows.{RefusalRow}
use Rattle.claims.specs.Rights.{NoPlace, NoRight}
use Rattle.claims.specs.Terms.{Terms}

-- the number that is there, if it is
abbrev pub number_of : Option ℕ → List ℕ
number_of None = []
number_of (Some x) = x ∷ []

-- the xids of the records that were sent, in the order of their sending
abbrev pub xids_of : List Entry → List ℕ
xids_of [] = []
xids_of (Sent bytes ∷ es) = number_of (xid_at bytes) ++ xids_of es
xids_of (e ∷ es) = xids_of es

-- how many calls were made: those of MOUNT too
abbrev pub calls_in : List Entry → ℕ
calls_in h = length (different (xids_of h))

-- neither that the session is lost nor that memory ran out, which come before all else
pub record IsTried (answer : Answer) : Type 0 where
  pub lost : answer ≢ Refused faults.Lost
  pub memory : answer ≢ Refused faults.Memory

-- Each call and each answer of a session has its cause:
-- - calls are asked for, and not too many;
-- - each answer has its row;
-- - an operation that finds no place in its slots, or no right, is answered so;
-- - a session that is lost stays lost;
-- - if an operation was refused for want of calls, a session that ends by itself has made all that it may make. It
--   ends so at status 0 or 1.
pub record Caused (terms : Terms) (script : List Entry) (status : ℕ) (h : List Entry) : Type 0 where
  pub calls : CallsAsked terms h
  pub counts : CallCounts terms script h
  pub ok : (lane x y : ℕ) (op : Op) (value : Value) → Ended h lane x op y (Done value) → OkRow terms h lane x y op value
  pub refused : (lane x y : ℕ) (op : Op) (fault : Fault) → Ended h lane x op y (Refused fault) → RefusalRow terms h lane x y op fault
  pub slot : (lane x y : ℕ) (op : Op) (answer : Answer) → Ended h lane x op y answer → IsTried answer → NoPlace terms h lane x op → answer ≡ Refused faults.Slot
  pub mode : (lane x y : ℕ) (op : Op) (answer : Answer) → Ended h lane x op y answer → IsTried answer → NoRight terms h lane x op → answer ≡ Refused faults.Mode
  pub lost : (lane x y other w z : ℕ) (op later : Op) (answer : Answer) → Ended h lane x op y (Refused faults.Lost) → Ended h other w later z answer → y < z
      → (answer ≡ Refused faults.Lost) ⊎ (answer ≡ Refused faults.Memory)
  pub spent : (lane x y : ℕ) (op : Op) → (status ≡ 0) ⊎ (status ≡ 1) → Ended h lane x op y (Refused faults.Spent) → calls_in h ≡ terms.calls
