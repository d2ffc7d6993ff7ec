-- What a write, fill or put shows that is refused as it makes room for its bytes.
use Rattle.std.specs.Prelude.{◌≢◌, ◌⊎◌, ℕ, List}
use Rattle.world_model.specs.declared.answer.Answer.TheVariants.{Refused}
use Rattle.world_model.specs.declared.answer.Fault.{Fault}
use Rattle.world_model.specs.declared.answer.Fault.TheVariants as faults
use Rattle.world_model.specs.declared.entry.Entry.{Entry}
use Rattle.world_model.specs.declared.message.Call.{Call}
use Rattle.world_model.specs.declared.op.Op.{Op}
use Rattle.claims.specs.Asks.{IsWriter}
use Rattle.world_model.specs.Operations.{Ended, UnderWay}
use Rattle.claims.specs.PageRules.{RefusedSo}
use Rattle.claims.specs.RefusalRows.{RefusalRow}
use Rattle.claims.specs.Terms.{Terms, jukebox}
use Rattle.op_machines.specs.declared.begun.Mounted.{Mounted}
use Rattle.op_machines.specs.Begun.{IsAsked}
use Rattle.client_core.specs.declared.setup.Setup.{Setup}
use Rattle.client_core.specs.View.{View}
use Rattle.core_answers.specs.asks.PutCalls.{IsForRoom}
use Rattle.core_answers.specs.refusals.Rowed.{GoesSo}

-- no status from which a call is made again: not NFS3ERR_JUKEBOX (RFC 1813, section 2.6)
abbrev pub IsNoJukebox : Fault → Type 0
IsNoJukebox (faults.Nfs n) = n ≢ jukebox
IsNoJukebox fault = Unit {0}

-- A record refused so a WRITE or COMMIT of some file. It was first sent to make room for the write, fill or put in this lane, as that was under way.
pub record RefusedForRoom (h : List Entry) (lane x y : ℕ) (op : Op) (fault : Fault) : Type 0 where
  pub call : Call
  pub refused : RefusedSo h x y call fault
  pub writer : IsWriter op
  pub room : IsForRoom call
  pub under_way : UnderWay h lane x refused.heard.sent_at op

-- Each operation of a script that is refused, but by that status, has its row; or it makes room, and was refused so.
abbrev pub RefusalsRoomed : Type 0
RefusalsRoomed = (m : Mounted) (terms : Terms) (setup : Setup) (h : List Entry) (v : View) → GoesSo m terms setup h v
    → (lane x y : ℕ) (op : Op) (fault : Fault) → IsAsked op → IsNoJukebox fault → Ended h lane x op y (Refused fault)
    → RefusalRow terms h lane x y op fault ⊎ RefusedForRoom h lane x y op fault
