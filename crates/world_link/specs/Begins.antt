-- The world that a schedule begins.
use Rattle.std.specs.Prelude.{◌≡◌, ℕ, Result, Ok, Err}
use Rattle.world_link.specs.declared.schedule.ScheduleFault.{ScheduleFault}
use Rattle.world_link.specs.declared.schedule.ScheduleFault.TheVariants as faults
use Rattle.world_link.specs.declared.world.World.{World}
use Rattle.world_link.specs.Readings.{ReadView}
use Rattle.world_link.specs.Starting.{world_of}
use Rattle.world_link.specs.View.{seen}

-- it begins as it was read
pub record BeginsAs (read : ReadView) (world : World) (tick : ℕ) : Type 0 where
  pub world_is : seen world ≡ world_of read
  pub tick_is : tick ≡ read.plan.tick

abbrev pub BeginsBy : Result ReadView ℕ → World → ℕ → Type 0
BeginsBy (Ok read) world tick = BeginsAs read world tick
BeginsBy (Err n) world tick = ⊥

-- A text that is read begins a world, or its first fault is named. Out of memory may come at any text.
abbrev pub Begins : Result ReadView ℕ → Result (World × ℕ) ScheduleFault → Type 0
Begins read (Ok begun) = BeginsBy read begun.0 begun.1
Begins read (Err (faults.Line n)) = read ≡ Err n
Begins read (Err faults.Memory) = Unit {0}
