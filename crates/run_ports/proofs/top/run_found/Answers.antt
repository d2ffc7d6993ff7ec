use Rattle.std.proofs.Common.{map, string_bytes, refl}
use Rattle.run_ports.specs.Sessions.{unnamed, named}
use Rattle.run_ports.proofs.top.run_found.Goals as goal

pub returns-in-Ok-None-clause-session : goal.returns-in-Ok-None-clause-session
returns-in-Ok-None-clause-session g c = unnamed (rw c.in-Ok-None.field-0-is at c.in-Ok-None.ensures.found) refl (record {
  statuses = c.run.ensures.statuses;
  untaken = c.run.ensures.words;
  no_words = c.run.ensures.no_words;
  script = c.run.ensures.script;
  unspelled = c.run.ensures.unspelled;
  unread = c.run.ensures.unread;
  refused = c.run.ensures.refused;
  source = c.run.ensures.source;
  sink = c.run.ensures.sink;
  headline = c.run.ensures.headline;
  shown = c.run.ensures.shown;
})

pub returns-in-Ok-Some-clause-session : goal.returns-in-Ok-Some-clause-session
returns-in-Ok-Some-clause-session g c =
    named c.in-Ok-Some.portmap.port (map string_bytes c.in-Ok-Some.portmap.others.items)
    (rw c.in-Ok-Some.field-0-is at c.in-Ok-Some.ensures.found) c.run_by.ensures.session
