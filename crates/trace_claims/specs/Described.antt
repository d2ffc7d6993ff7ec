-- A digest of a trace: what it says of the trace's history.
use Rattle.std.specs.Prelude.{length}
use Rattle.trace_data.specs.declared.trace.Trace.{Trace}
use Rattle.trace_data.specs.Histories.{history_of}
use Rattle.world_model.specs.Mounts.{Origin}
use Rattle.claims.specs.Modes.{Modes}
use Rattle.trace_claims.specs.declared.digest.Digest.{Digest}
use Rattle.trace_claims.specs.Coming.{HasCame}
use Rattle.trace_claims.specs.Readings.{HasReadings}
use Rattle.trace_claims.specs.Touching.{HasOperations, HasForeign, HasLeft}

pub record Describes (m : Modes) (origin : Origin) (t : Trace) (d : Digest) : Type 0 where
  pub operations : HasOperations m origin t.entries.items d.operations.items
  pub foreign : HasForeign (history_of t) d.foreign.items
  pub left : HasLeft m t.entries.items d.left.items
  pub came : HasCame t.entries.items (length t.entries.items) d.came.items
  pub readings : HasReadings m t d.readings.items
