-- Under which name an open finds its file, and a put, of an honest server (RFC 1813, section 3.3.3; nfs(5), acregmin to acdirmax).
use Rattle.std.specs.Prelude.{ℕ, List}
use Rattle.world_model.specs.Fresh.{Fresh}
use Rattle.world_model.specs.History.{History}
use Rattle.world_model.specs.Lawful.{Lawful}
use Rattle.claims.specs.Modes.{Modes}
use Rattle.world_model.specs.Mounts.{Origin}
use Rattle.claims.specs.Recent.{FoundByName, NamesTrue}
use Rattle.claims.specs.Slots.{Opens, PutsTo}
use Rattle.op_machines.specs.Begun.{machine_of}
use Rattle.op_machines.specs.declared.begun.Mounted.{Mounted}
use Rattle.client_core.specs.declared.setup.Setup.{Setup}
use Rattle.client_core.specs.View.{View}
use Rattle.core_facts.specs.Naming.{KnowsRoot}
use Rattle.core_facts.specs.Reaches.{Reaches}
use Rattle.core_answers.specs.bonds.Aged.{TakesReadings}
use Rattle.core_answers.specs.bonds.Kept.{LastAtMost}

-- A history of an honest server with fresh stamps, with which the core goes: attributes are believed for so long at most.
pub record GoesHonestly (m : Mounted) (setup : Setup) (modes : Modes) (origin : Origin) (t : History) (v : View) : Type 0 where
  pub lasts : LastAtMost setup.lives modes.longest
  pub lawful : Lawful t
  pub fresh : Fresh t
  pub takes : TakesReadings t.entries
  pub root : KnowsRoot origin t.entries m.root
  pub reached : Reaches (machine_of m) setup t.entries v

-- The file of an open that succeeded stood under the last name of its path at a moment of the open. The names before it lead to its directory, by
-- what directories held at recent moments.
abbrev pub OpensFound : Type 0
OpensFound = (m : Mounted) (setup : Setup) (modes : Modes) (origin : Origin) (t : History) (v : View) → GoesHonestly m setup modes origin t v
    → (lane slot x y : ℕ) (f : List ℕ) (o : Opens modes t.entries lane slot x y f) → FoundByName modes origin t x y o.path f

-- So did the file of a put.
abbrev pub PutsFound : Type 0
PutsFound = (m : Mounted) (setup : Setup) (modes : Modes) (origin : Origin) (t : History) (v : View) → GoesHonestly m setup modes origin t v
    → (x y offset : ℕ) (f bytes : List ℕ) (p : PutsTo t.entries x y f offset bytes) → FoundByName modes origin t x y p.path f

-- Both: the file of each open and put had its name then.
abbrev pub NamesHeld : Type 0
NamesHeld = (m : Mounted) (setup : Setup) (modes : Modes) (origin : Origin) (t : History) (v : View) → GoesHonestly m setup modes origin t v
    → NamesTrue modes origin t
