-- What reads show (RFC 1813, sections 2.6 and 3.3.6): bytes that were dirty in this client during the read, bytes that the server's file had, and zeros in
-- holes.
use Rattle.std.specs.Prelude.{◌≡◌, true}
use Rattle.world_model.specs.Fresh.{Fresh}
use Rattle.world_model.specs.History.{History}
use Rattle.world_model.specs.Lawful.{Lawful}
use Rattle.claims.specs.ReadTrue.{ReadCurrent}
use Rattle.claims.specs.Terms.{Terms}
use Rattle.op_machines.specs.declared.begun.Mounted.{Mounted}
use Rattle.client_core.specs.declared.setup.Setup.{Setup}
use Rattle.client_core.specs.View.{View}
use Rattle.core_facts.specs.Naming.{KnowsRoot}
use Rattle.core_facts.specs.SlotAnswers.{GoesWith}
use Rattle.core_session.specs.current.Recent.{KeepsBriefly}
use Rattle.core_session.specs.syncs.Synced.{PutsNamed}
use Rattle.core_answers.specs.pages.True.{GivenTrue}

-- Each byte of each answer to a read is current, by `claims`. For that the server is honest and gives each change of a file another stamp. The root's handle
-- is known, and the paths of puts name a file. The pages that were kept from the start are true.
abbrev pub ReadsCurrent : Type 0
ReadsCurrent = (m : Mounted) (terms : Terms) (setup : Setup) (t : History) (v : View) → GoesWith m terms setup t.entries v → m.noac ≡ terms.modes.noac
    → (terms.modes.nocto ≡ true → KeepsBriefly terms.modes setup t.entries) → KnowsRoot terms.origin t.entries m.root → PutsNamed t.entries → Lawful t → Fresh t
    → GivenTrue setup.pages t
    → ReadCurrent terms.modes terms.origin t
