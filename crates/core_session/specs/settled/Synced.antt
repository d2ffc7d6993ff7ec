-- Bytes that a write, fill or put wrote stay on the server once they were settled (RFC 1813, sections 3.3.7, 3.3.21 and 4.8). A later sync, close or put
-- settled them, or the put itself.
use Rattle.std.specs.Prelude.{◌<◌, ◌≤◌, ℕ, List, length}
use Rattle.world_model.specs.History.{History}
use Rattle.world_model.specs.Lawful.{Lawful}
use Rattle.world_model.specs.Once.{Once}
use Rattle.claims.specs.Settled.{HoldsStable, SettledBy}
use Rattle.claims.specs.Terms.{Terms}
use Rattle.claims.specs.Touched.{Wrote}
use Rattle.law_stable.specs.OwnCalls.{NoForeign}
use Rattle.op_machines.specs.declared.begun.Mounted.{Mounted}
use Rattle.client_core.specs.declared.setup.Setup.{Setup}
use Rattle.client_core.specs.View.{View}
use Rattle.core_facts.specs.SlotAnswers.{GoesWith}
use Rattle.core_facts.specs.Naming.{KnowsRoot}
use Rattle.core_session.specs.syncs.Synced.{PutsNamed}
use Rattle.core_session.specs.syncs.Until.{TouchedUntil}
use Rattle.core_session.specs.settled.Settling.{OnlySetsUp}

-- Let the server be honest, and execute no late copies. A byte is settled by the answer of a sync, close or put that began after the write's answer; or by
-- that of the put that wrote it. At each moment after that answer the file holds the byte, and stable, unless one of these happened:
-- - another operation of this client, or another client, may have changed its place;
-- - before it was settled, the last close left the file, and a refusal went with it.
abbrev pub SyncedStay : Type 0
SyncedStay = (m : Mounted) (terms : Terms) (setup : Setup) (t : History) (v : View) → GoesWith m terms setup t.entries v
    → KnowsRoot terms.origin t.entries m.root → PutsNamed t.entries → OnlySetsUp t.entries → Lawful t → Once t.entries
    → (w y : ℕ) (f : List ℕ) (i byte j p : ℕ) → Wrote terms.modes t.entries w y f i byte → SettledBy terms.modes t.entries w y f j
    → j < p → p ≤ length t.entries → (TouchedUntil terms.modes terms.origin t.entries w j p f i → ⊥) → NoForeign t w p f i → HoldsStable (t.at p) f i byte
