-- A history each of whose refusals shows its cause is one in which nothing is refused if nothing goes wrong.
use Rattle.std.specs.Prelude.{ℕ, List, []}
use Rattle.nfs_file_calls.specs.declared.call.FileCall.TheVariants.{Write}
use Rattle.world_model.specs.declared.answer.Answer.TheVariants.{Refused}
use Rattle.world_model.specs.declared.answer.Fault.{Fault}
use Rattle.world_model.specs.declared.entry.Entry.{Entry}
use Rattle.world_model.specs.declared.entry.Entry.TheVariants.{Sent}
use Rattle.world_model.specs.declared.message.Call.TheVariants.{File}
use Rattle.world_model.specs.declared.op.Op.{Op}
use Rattle.claims.specs.Complete.{Completes}
use Rattle.world_model.specs.Entries.{At}
use Rattle.world_model.specs.History.{History}
use Rattle.world_model.specs.Messages.{SpellsCall}
use Rattle.world_model.specs.Operations.{Ended}
use Rattle.claims.specs.RefusalRows.{RefusalRow}
use Rattle.claims.specs.Terms.{Terms}
use Rattle.law_calls.specs.Calls.{Numbered}

-- Each refusal has its row; calls are numbered; and each WRITE carries a byte.
pub record HasRows (terms : Terms) (h : List Entry) : Type 0 where
  pub refused : (lane x y : ℕ) (op : Op) (fault : Fault) → Ended h lane x op y (Refused fault) → RefusalRow terms h lane x y op fault
  pub numbered : Numbered h
  pub carries : (i xid : ℕ) (bytes f : List ℕ) (offset how : ℕ) → At h i (Sent bytes) → SpellsCall xid (File (Write f offset how [])) bytes → ⊥

-- If nothing disturbs the session, operations then succeed, or have a reason of their own why not.
abbrev pub RowsComplete : Type 0
RowsComplete = (terms : Terms) (t : History) → HasRows terms t.entries → Completes terms t
