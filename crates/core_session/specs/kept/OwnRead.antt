-- What reads show of the bytes that this client itself wrote, and where they end (RFC 1813, sections 2.6, 3.3.6, 3.3.7 and 4.8).
use Rattle.std.specs.Prelude.{◌≡◌, true}
use Rattle.world_model.specs.Fresh.{Fresh}
use Rattle.world_model.specs.History.{History}
use Rattle.world_model.specs.Lawful.{Lawful}
use Rattle.world_model.specs.Once.{Once}
use Rattle.claims.specs.ReadTrue.{ReadOwn, ReadShort}
use Rattle.claims.specs.Terms.{Terms}
use Rattle.op_machines.specs.declared.begun.Mounted.{Mounted}
use Rattle.client_core.specs.declared.setup.Setup.{Setup}
use Rattle.client_core.specs.View.{View}
use Rattle.core_facts.specs.Naming.{KnowsRoot}
use Rattle.core_facts.specs.SlotAnswers.{GoesWith}
use Rattle.core_session.specs.current.Recent.{KeepsBriefly}
use Rattle.core_session.specs.settled.Settling.{OnlySetsUp}
use Rattle.core_session.specs.syncs.Synced.{PutsNamed}
use Rattle.core_answers.specs.pages.True.{GivenTrue}

-- Let the server be honest, give each change of a file another stamp, and execute no late copies. Each byte of a write, fill or put that succeeded before a
-- read began is seen in the range that was asked for. That is so unless it was touched. It needn't have been settled.
abbrev pub OwnBytesRead : Type 0
OwnBytesRead = (m : Mounted) (terms : Terms) (setup : Setup) (t : History) (v : View) → GoesWith m terms setup t.entries v → m.noac ≡ terms.modes.noac
    → (terms.modes.nocto ≡ true → KeepsBriefly terms.modes setup t.entries) → KnowsRoot terms.origin t.entries m.root → PutsNamed t.entries
    → OnlySetsUp t.entries → Lawful t → Fresh t → GivenTrue setup.pages t → Once t.entries → ReadOwn terms.modes terms.origin t

-- And an answer of fewer bytes than were asked for ends where the file ended at a moment that the read may show. It doesn't end before such a byte.
abbrev pub ReadsEndRightly : Type 0
ReadsEndRightly = (m : Mounted) (terms : Terms) (setup : Setup) (t : History) (v : View) → GoesWith m terms setup t.entries v → m.noac ≡ terms.modes.noac
    → (terms.modes.nocto ≡ true → KeepsBriefly terms.modes setup t.entries) → KnowsRoot terms.origin t.entries m.root → PutsNamed t.entries
    → OnlySetsUp t.entries → Lawful t → Fresh t → GivenTrue setup.pages t → Once t.entries → ReadShort terms.modes terms.origin t
