-- What stands on the server past the size of a truncate, and what reads show there (RFC 1813, section 3.3.2).
use Rattle.std.specs.Prelude.{◌≡◌, true}
use Rattle.world_model.specs.Fresh.{Fresh}
use Rattle.world_model.specs.History.{History}
use Rattle.world_model.specs.Lawful.{Lawful}
use Rattle.world_model.specs.Once.{Once}
use Rattle.claims.specs.Terms.{Terms}
use Rattle.claims.specs.ReadTrue.{ReadCut}
use Rattle.claims.specs.Cuts.{CutsStay}
use Rattle.op_machines.specs.declared.begun.Mounted.{Mounted}
use Rattle.op_machines.specs.Begun.{machine_of}
use Rattle.client_core.specs.declared.setup.Setup.{Setup}
use Rattle.client_core.specs.View.{View}
use Rattle.core_facts.specs.Naming.{KnowsRoot}
use Rattle.core_facts.specs.Notes.{Notes}
use Rattle.core_session.specs.current.Recent.{KeepsBriefly}
use Rattle.core_session.specs.settled.Settling.{OnlySetsUp}
use Rattle.core_session.specs.syncs.Synced.{PutsNamed}
use Rattle.core_answers.specs.pages.True.{GivenTrue}

-- Of a session in which answers are noted before records are sent and received. Let a truncate succeed. From then on an honest server that executes no late
-- copies has no byte but zeros past its size. That lasts as long as nothing of this client, and no other client, may have changed the place.
abbrev pub CutsStayBare : Type 0
CutsStayBare = (m : Mounted) (terms : Terms) (setup : Setup) (t : History) (v : View) → m.nocto ≡ terms.modes.nocto → Notes (machine_of m) setup t.entries v
    → KnowsRoot terms.origin t.entries m.root → PutsNamed t.entries → OnlySetsUp t.entries → Lawful t → Once t.entries → CutsStay terms.modes terms.origin t

-- So a read shows zeros past the size of each truncate that succeeded before it began, by `claims`. For that the server gives each change of a file another
-- stamp.
abbrev pub CutsRead : Type 0
CutsRead = (m : Mounted) (terms : Terms) (setup : Setup) (t : History) (v : View) → m.nocto ≡ terms.modes.nocto → m.noac ≡ terms.modes.noac
    → Notes (machine_of m) setup t.entries v → (terms.modes.nocto ≡ true → KeepsBriefly terms.modes setup t.entries) → KnowsRoot terms.origin t.entries m.root
    → PutsNamed t.entries → OnlySetsUp t.entries → Lawful t → Fresh t → GivenTrue setup.pages t → Once t.entries → ReadCut terms.modes terms.origin t
