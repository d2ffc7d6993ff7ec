-- The modes of the session that a trace tells of.
use Rattle.claims.specs.Modes.{Modes, modes_with}
use Rattle.trace_data.specs.declared.trace.Trace.{Trace}

abbrev pub modes_of : Trace → Modes
modes_of t = modes_with t.lives t.noac t.nocto
