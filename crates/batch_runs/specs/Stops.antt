-- Why no further batch is run.
use Rattle.std.specs.Prelude.{ℕ, Result, Ok, Err}
use Rattle.outside.specs.declared.link.LinkFault.{LinkFault}
use Rattle.outside.specs.declared.link.LinkFault.TheVariants as links
use Rattle.lane_session.specs.declared.halt.Halt.{Halt}
use Rattle.lane_session.specs.declared.halt.Halt.TheVariants as halts
use Rattle.script_batches.specs.declared.held.ReadFault.{ReadFault}
use Rattle.script_batches.specs.declared.held.ReadFault.TheVariants as reads
use Rattle.batch_runs.specs.declared.stop.Stop.{Stop}
use Rattle.batch_runs.specs.declared.stop.Stop.TheVariants as stops

abbrev pub status_of : Stop → ℕ
status_of stops.Source = 4
status_of stops.Output = 5
status_of stops.Memory = 7

abbrev pub of_halt : Halt → Stop
of_halt halts.Output = stops.Output
of_halt halts.Memory = stops.Memory

abbrev pub of_link : LinkFault → Stop
of_link links.Failed = stops.Output
of_link links.Memory = stops.Memory

abbrev pub of_read : ReadFault → Stop
of_read reads.Failed = stops.Source
of_read reads.Memory = stops.Memory

-- the sink ends a run only with the one cause, and the source only with the other
abbrev pub CausedBy : {T : Type 0} → Result T Stop → Type 0 → Type 0 → Type 0
CausedBy (Ok x) source sink = Unit {0}
CausedBy (Err stops.Source) source sink = source
CausedBy (Err stops.Output) source sink = sink
CausedBy (Err stops.Memory) source sink = Unit {0}
