-- What an operation shows that is refused with NFS3ERR_JUKEBOX (RFC 1813, section 2.6).
use Rattle.std.specs.Prelude.{◌⊎◌, ℕ, List}
use Rattle.world_model.specs.declared.answer.Answer.TheVariants.{Refused}
use Rattle.world_model.specs.declared.answer.Fault.TheVariants.{Nfs}
use Rattle.world_model.specs.declared.entry.Entry.{Entry}
use Rattle.world_model.specs.declared.op.Op.{Op}
use Rattle.claims.specs.GoesOn.{GoesOn}
use Rattle.world_model.specs.Operations.{Ended}
use Rattle.claims.specs.RefusalRows.{RefusalRow}
use Rattle.claims.specs.Terms.{Terms, jukebox}
use Rattle.op_machines.specs.declared.begun.Mounted.{Mounted}
use Rattle.op_machines.specs.Begun.{IsAsked}
use Rattle.client_core.specs.declared.setup.Setup.{Setup}
use Rattle.client_core.specs.View.{View}
use Rattle.core_answers.specs.refusals.Rowed.{GoesSo}
use Rattle.core_session.specs.outcomes.Refusals.{MakesNoRoom}
use Rattle.core_session.specs.outcomes.Rooms.{RefusedForRoom}

-- Each operation of a script that is refused so, and that makes no room for bytes, has its row.
abbrev pub BusyRowsShown : Type 0
BusyRowsShown = (m : Mounted) (terms : Terms) (setup : Setup) (h : List Entry) (v : View) → GoesSo m terms setup h v
    → (lane x y : ℕ) (op : Op) → IsAsked op → MakesNoRoom op → Ended h lane x op y (Refused (Nfs jukebox))
    → RefusalRow terms h lane x y op (Nfs jukebox)

-- A record refused so a WRITE or COMMIT that was first sent for the write, fill or put in this lane, to make room; and it doesn't go on from that.
pub record BusyForRoom (terms : Terms) (h : List Entry) (lane x y : ℕ) (op : Op) : Type 0 where
  pub made : RefusedForRoom h lane x y op (Nfs jukebox)
  pub ends : GoesOn terms h x made.refused.heard.got_at op made.call jukebox → ⊥

-- Each operation of a script that is refused so has its row; or it makes room, and was refused so.
abbrev pub BusyRowsRoomed : Type 0
BusyRowsRoomed = (m : Mounted) (terms : Terms) (setup : Setup) (h : List Entry) (v : View) → GoesSo m terms setup h v
    → (lane x y : ℕ) (op : Op) → IsAsked op → Ended h lane x op y (Refused (Nfs jukebox))
    → RefusalRow terms h lane x y op (Nfs jukebox) ⊎ BusyForRoom terms h lane x y op
