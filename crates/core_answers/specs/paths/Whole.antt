-- What a list shows, of an honest server whose cookies rise (RFC 1813, section 3.3.17).
use Rattle.world_model.specs.History.{History}
use Rattle.claims.specs.Modes.{Modes}
use Rattle.world_model.specs.Mounts.{Origin}
use Rattle.claims.specs.Recent.{ListTrue}
use Rattle.world_model.specs.Rising.{Rising}
use Rattle.op_machines.specs.declared.begun.Mounted.{Mounted}
use Rattle.client_core.specs.declared.setup.Setup.{Setup}
use Rattle.client_core.specs.View.{View}
use Rattle.core_answers.specs.paths.Found.{GoesHonestly}

-- A list shows names in byte order, each once. The directory to which its path leads held each of them at a moment of the list. Each name that it held
-- all the while is among them.
abbrev pub ListsWhole : Type 0
ListsWhole = (m : Mounted) (setup : Setup) (modes : Modes) (origin : Origin) (t : History) (v : View) → GoesHonestly m setup modes origin t v → Rising t
    → ListTrue modes origin t
