-- What the messages show of bytes that an answer settled (RFC 1813, sections 3.3.7 and 3.3.21).
use Rattle.std.specs.Prelude.{List}
use Rattle.world_model.specs.declared.entry.Entry.{Entry}
use Rattle.claims.specs.Settled.{Evident}
use Rattle.claims.specs.Terms.{Terms}
use Rattle.op_machines.specs.declared.begun.Mounted.{Mounted}
use Rattle.client_core.specs.declared.setup.Setup.{Setup}
use Rattle.client_core.specs.View.{View}
use Rattle.core_facts.specs.Naming.{KnowsRoot}
use Rattle.core_facts.specs.SlotAnswers.{GoesWith}
use Rattle.core_session.specs.syncs.Synced.{PutsNamed}

-- Of each byte that a sync, close or put settled there is evidence by that answer, unless this client overtook it; also if the session is lost later.
abbrev pub SettledEvident : Type 0
SettledEvident = (m : Mounted) (terms : Terms) (setup : Setup) (h : List Entry) (v : View) → GoesWith m terms setup h v → KnowsRoot terms.origin h m.root → PutsNamed h
    → Evident terms.modes terms.origin h
