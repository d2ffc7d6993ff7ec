-- How the program ends.
use Rattle.std.specs.Prelude.{ℕ}
use Rattle.export_session.specs.declared.next.End.{End}
use Rattle.export_session.specs.declared.next.End.TheVariants as ends
use Rattle.page_store.specs.declared.fault.StoreFault.{StoreFault}
use Rattle.page_store.specs.declared.fault.StoreFault.TheVariants as faults
use Rattle.session_commands.specs.declared.ending.SessionEnding.TheVariants as sessions
use Rattle.session_commands.specs.Endings.{status_of}
use Rattle.nfs3.specs.declared.ending.Ending.{Ending}
use Rattle.nfs3.specs.declared.ending.Ending.TheVariants as endings

-- the exit status
abbrev pub exit_status : Ending → ℕ
exit_status (endings.Session ending) = status_of ending
exit_status endings.Served = 0
exit_status endings.Made = 0
exit_status endings.Store = 9
exit_status endings.TooLong = 9
exit_status endings.Lost = 6

-- a store that failed: its file can't be used, or out of memory
abbrev pub unformatted_as : StoreFault → Ending
unformatted_as faults.Fault = endings.Store
unformatted_as faults.Memory = endings.Session sessions.Memory

-- the end of serving
abbrev pub ended_as : End → Ending
ended_as ends.Served = endings.Served
ended_as ends.Lost = endings.Lost
ended_as ends.Memory = endings.Session sessions.Memory
