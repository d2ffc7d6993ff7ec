-- What becomes of a byte that this client wrote: it is dirty, or it was made stable (RFC 1813, sections 3.3.7, 3.3.21 and 4.8).
use Rattle.std.specs.Prelude.{◌≡◌, ℕ, false, List, length, Some}
use Rattle.write_back.specs.Files.{of_file}
use Rattle.write_back.specs.Segments.{newest_at}
use Rattle.world_model.specs.declared.entry.Entry.{Entry}
use Rattle.claims.specs.Terms.{Terms}
use Rattle.claims.specs.Touched.{Wrote}
use Rattle.op_machines.specs.declared.begun.Mounted.{Mounted}
use Rattle.client_core.specs.declared.setup.Setup.{Setup}
use Rattle.client_core.specs.View.{View}
use Rattle.core_facts.specs.Naming.{KnowsRoot}
use Rattle.core_facts.specs.Notes.{NoneReady}
use Rattle.core_facts.specs.SlotAnswers.{GoesWith}
use Rattle.core_session.specs.syncs.Synced.{MadeAndKept, PutsNamed}
use Rattle.core_session.specs.syncs.Until.{TouchedUntil}

-- The byte is pending, whether it is in flight or not; or it was made stable, and from its first flight on each WRITE of its place carried it.
pub data IsKept (h : List Entry) (v : View) (w : ℕ) (f : List ℕ) (i byte : ℕ) : Type 0 where
  pending : newest_at (of_file f v.shelf.back).segments i ≡ Some byte → IsKept h v w f i byte
  stable : MadeAndKept h w (length h) (length h) f i byte → IsKept h v w f i byte

-- As long as the session isn't lost, and if each answer that is ready was noted: so is each byte of a write, fill or put that succeeded, unless this client
-- touched it since. (That a sync, close or put settled it isn't asked for.)
abbrev pub WrittenKept : Type 0
WrittenKept = (m : Mounted) (terms : Terms) (setup : Setup) (h : List Entry) (v : View) → GoesWith m terms setup h v → v.lost ≡ false
    → KnowsRoot terms.origin h m.root → PutsNamed h → NoneReady v → (w y : ℕ) (f : List ℕ) (i byte : ℕ) → Wrote terms.modes h w y f i byte
    → (TouchedUntil terms.modes terms.origin h w (length h) (length h) f i → ⊥) → IsKept h v w f i byte
