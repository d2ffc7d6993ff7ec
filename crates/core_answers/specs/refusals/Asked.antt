-- That an operation asks for a call that was sent for it, as far as that is known.
use Rattle.std.specs.Prelude.{◌≡◌, ℕ, List}
use Rattle.world_model.specs.declared.entry.Entry.{Entry}
use Rattle.world_model.specs.declared.message.Call.{Call}
use Rattle.world_model.specs.declared.op.Op.{Op}
use Rattle.world_model.specs.declared.op.Op.TheVariants as ops
use Rattle.claims.specs.Asks.{Asks, IsWriter}
use Rattle.claims.specs.Terms.{Terms}
use Rattle.core_answers.specs.asks.RemoveCalls.{IsHiding}
use Rattle.core_answers.specs.asks.SlotCalls.{IsRemoval}

-- The operation asks for the call; or it is a write, fill or put, which may make room by it; a remove, which hides its file by it; or a close, which removes
-- what was hidden. (When room is made, what a slot holds as a file is hidden, and where the hidden file is, isn't said here.)
pub data AskedOr (terms : Terms) (h : List Entry) (x n : ℕ) (op : Op) (call : Call) : Type 0 where
  asked : Asks terms h x n op call → AskedOr terms h x n op call
  rooms : IsWriter op → AskedOr terms h x n op call
  hides : (path : List (List ℕ)) → op ≡ ops.Remove path → IsHiding terms h x n path call → AskedOr terms h x n op call
  removes : (slot : ℕ) → op ≡ ops.Close slot → IsRemoval call → AskedOr terms h x n op call
