-- How a command of a session ends.
use Rattle.std.specs.Prelude.{ℕ, List, codes, ◌==◌, if◌then◌else◌, Option, Some, None}
use Rattle.world_link.specs.declared.schedule.ScheduleFault.{ScheduleFault}
use Rattle.world_link.specs.declared.schedule.ScheduleFault.TheVariants as schedules
use Rattle.net_edge.specs.declared.stand_ins.StandardStream.{StandardStream}
use Rattle.net_edge.specs.declared.stand_ins.StandardStream.TheVariants as streams
use Rattle.session_commands.specs.declared.ending.SessionEnding.{SessionEnding}
use Rattle.session_commands.specs.declared.ending.SessionEnding.TheVariants as endings

-- the exit status
abbrev pub status_of : SessionEnding → ℕ
status_of endings.Usage = 2
status_of endings.Memory = 7
status_of (endings.Schedule line) = 9
status_of (endings.Ran status) = status
status_of endings.ReadFault = 4
status_of endings.WriteFault = 5

-- a schedule that can't be read from its text: its faulty line, or out of memory
abbrev pub refused_as : ScheduleFault → SessionEnding
refused_as (schedules.Line line) = endings.Schedule line
refused_as schedules.Memory = endings.Memory

-- a standard stream that is closed, if nothing can be opened in its place: input can't be read, and the others can't be written
abbrev pub closed_as : StandardStream → SessionEnding
closed_as streams.Input = endings.ReadFault
closed_as streams.Output = endings.WriteFault
closed_as streams.Error = endings.WriteFault

-- what standard error says of a session that ended with the status
abbrev pub message_of : ℕ → Option (List ℕ)
message_of status =
    if status == 2 then Some (codes "usage")
    else if status == 3 then Some (codes "script refused")
    else if status == 4 then Some (codes "read fault")
    else if status == 5 then Some (codes "write fault")
    else if status == 6 then Some (codes "link lost")
    else if status == 7 then Some (codes "want of memory")
    else if status == 8 then Some (codes "mount refused")
    else if status == 9 then Some (codes "trace")
    else if status == 10 then Some (codes "no port")
    else None
