use Rattle.std.proofs.Common.{refl}
use Rattle.run_ports.specs.Sessions.{found, unfound}
use Rattle.run_ports.proofs.Fitting.{options_at, calls_at, xid_at}
use Rattle.run_ports.proofs.Running.{runs_at}
use Rattle.run_ports.proofs.top.run_by.Goals as goal

pub returns-in-Ok-find_ports-clause-session : goal.returns-in-Ok-find_ports-clause-session
returns-in-Ok-find_ports-clause-session g c =
    let taken = rw c.as_slice.ensures.value at c.in-Ok.ensures.found in
    found c.in-Ok-find_ports.ports (record { settings = c.in-Ok.settings; is = taken }) c.in-Ok-find_ports.ensures.ported
    (runs_at _ c.in-Ok-find_ports.ports c.in-Ok.settings _ _ _ _ _ c.in-Ok-find_ports.ensures.range taken c.at_ports-settings.ensures (record {
      statuses = c.run_with.ensures.statuses;
      taken = c.run_with.ensures.taken;
      script = c.run_with.ensures.script;
      unspelled = c.run_with.ensures.unspelled;
      unread = c.run_with.ensures.unread;
      refused = c.run_with.ensures.refused;
      source = c.run_with.ensures.source;
      sink = c.run_with.ensures.sink;
      headline = c.run_with.ensures.headline;
      shown = c.run_with.ensures.shown;
    }))

pub returns-in-Err-clause-session : goal.returns-in-Err-clause-session
returns-in-Err-clause-session g c = unfound c.in-Err.fault (record { settings = c.in-Ok.settings; is = rw c.as_slice.ensures.value at c.in-Ok.ensures.found }) c.in-Err.ensures.ported (record {
  told = refl;
  faults = refl;
  readings = refl;
  source_faults = refl;
  said = c.end_unfound.ensures.said;
  sink = c.end_unfound.ensures.sink;
})

pub run_with-requires-clause-options : goal.run_with-requires-clause-options
run_with-requires-clause-options g c = options_at _ c.in-Ok.settings _ c.in-Ok-find_ports.ports c.in-Ok.ensures.found c.at_ports-settings.ensures

pub run_with-requires-clause-most : goal.run_with-requires-clause-most
run_with-requires-clause-most g c = calls_at _ c.in-Ok.settings _ c.in-Ok-find_ports.ports c.in-Ok.ensures.found c.at_ports-settings.ensures

pub run_with-requires-clause-xid : goal.run_with-requires-clause-xid
run_with-requires-clause-xid g c = xid_at _ c.in-Ok.settings _ c.in-Ok-find_ports.ports c.in-Ok.ensures.found c.at_ports-settings.ensures
