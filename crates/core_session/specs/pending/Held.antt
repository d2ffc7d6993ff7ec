-- Which bytes of the client are dirty: whose they are, and what has happened since.
use Rattle.std.specs.Prelude.{◌≡◌, ◌<◌, ◌≤◌, ℕ, List, length, Some, false}
use Rattle.write_back.specs.Files.{of_file}
use Rattle.write_back.specs.Segments.{newest_at}
use Rattle.world_model.specs.declared.entry.Entry.{Entry}
use Rattle.claims.specs.Modes.{Modes}
use Rattle.world_model.specs.Mounts.{Origin}
use Rattle.world_model.specs.Operations.{AnsweredBefore}
use Rattle.claims.specs.Terms.{Terms}
use Rattle.claims.specs.Touched.{WritesByte, RefusedWrite, Wrote, Truncated, MadeStable}
use Rattle.op_machines.specs.declared.begun.Mounted.{Mounted}
use Rattle.client_core.specs.declared.setup.Setup.{Setup}
use Rattle.client_core.specs.View.{View}
use Rattle.core_facts.specs.Naming.{KnowsRoot}
use Rattle.core_facts.specs.SlotAnswers.{GoesWith}
use Rattle.core_facts.specs.Notes.{NoneReady}
use Rattle.core_session.specs.syncs.Synced.{PutsNamed}
use Rattle.claims.specs.Pending.{Pending, PutSucceeded}

-- Before the moment n an operation w began that writes the byte to the place of the file. It is no write or fill that was refused, and no put that succeeded
-- before n. Since w was answered, and before n:
-- - no write, fill or put that began then and succeeded covers the place;
-- - no truncate cut the file there;
-- - no sync, close or put of it succeeded.
pub record IsUnsettled (m : Modes) (origin : Origin) (h : List Entry) (f : List ℕ) (i n v : ℕ) : Type 0 where
  pub w : ℕ
  pub before : w < n
  pub writes : WritesByte m origin h w f i v
  pub unrefused : RefusedWrite h w → ⊥
  pub unput : PutSucceeded h w n → ⊥
  pub uncovered : (x y u : ℕ) → AnsweredBefore h w x → Wrote m h x y f i u → y < n → ⊥
  pub uncut : (x y size : ℕ) → AnsweredBefore h w x → Truncated m h x y f size → size ≤ i → y < n → ⊥
  pub unsettled : (x y : ℕ) → AnsweredBefore h w x → MadeStable m h x y f → y < n → ⊥

-- As long as the session isn't lost, so is the newest byte that is pending at a place, whether it is in flight or not.
abbrev pub PendingUnsettled : Type 0
PendingUnsettled = (m : Mounted) (terms : Terms) (setup : Setup) (h : List Entry) (v : View) → GoesWith m terms setup h v → v.lost ≡ false
    → KnowsRoot terms.origin h m.root → PutsNamed h → (f : List ℕ) (i byte : ℕ)
    → newest_at (of_file f v.shelf.back).segments i ≡ Some byte → IsUnsettled terms.modes terms.origin h f i (length h) byte

-- If each answer that is ready was noted, it may be pending at this moment, in `claims`'s words.
abbrev pub PendingHeldBack : Type 0
PendingHeldBack = (m : Mounted) (terms : Terms) (setup : Setup) (h : List Entry) (v : View) → GoesWith m terms setup h v → v.lost ≡ false
    → KnowsRoot terms.origin h m.root → PutsNamed h → NoneReady v → (f : List ℕ) (i byte : ℕ)
    → newest_at (of_file f v.shelf.back).segments i ≡ Some byte → Pending terms.modes terms.origin h f i (length h) byte
