-- A world in which nothing happened yet.
use Rattle.std.specs.Prelude.{[], None, replicate}
use Rattle.export_fs.specs.View.{View}
use Rattle.world_link.specs.Plans.{PlanView}
use Rattle.world_link.specs.Readings.{ReadView}
use Rattle.world_link.specs.View.{WorldView}

abbrev pub begun : PlanView → View → WorldView
begun plan start = record {
  plan = plan;
  start = start;
  server = record { export = start; entries = []; partials = []; sent = λ s. None; ready = []; held = [] };
  waiting = [];
  counts = replicate 22 0;
  turns = replicate 22 0;
  dials = 0;
  faults = 0;
}

-- the world of a schedule that was read
abbrev pub world_of : ReadView → WorldView
world_of read = begun read.plan read.export
