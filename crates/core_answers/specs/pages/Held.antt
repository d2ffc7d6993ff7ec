-- What a read answers of an honest server: bytes that its file had (RFC 1813, sections 2.6 and 3.3.6).
use Rattle.std.specs.Prelude.{◌≡◌, ◌<◌, ◌+◌, ℕ, List, take, Some, slice_get}
use Rattle.nfs_types.specs.declared.wcc.Stamp.{Stamp}
use Rattle.world_model.specs.declared.answer.Answer.TheVariants.{Done}
use Rattle.world_model.specs.declared.answer.Value.TheVariants as values
use Rattle.world_model.specs.declared.op.Op.{Op}
use Rattle.world_model.specs.declared.op.Op.TheVariants.{Read}
use Rattle.world_model.specs.Fresh.{Fresh}
use Rattle.world_model.specs.History.{History}
use Rattle.world_model.specs.Lawful.{Lawful}
use Rattle.claims.specs.Modes.{Modes}
use Rattle.world_model.specs.Operations.{Ended}
use Rattle.claims.specs.ReadTrue.{HeldByte}
use Rattle.claims.specs.Slots.{IsOf}
use Rattle.claims.specs.Terms.{Terms}
use Rattle.op_machines.specs.Begun.{machine_of}
use Rattle.op_machines.specs.declared.begun.Mounted.{Mounted}
use Rattle.op_machines.specs.declared.machine.Machine.{Machine}
use Rattle.client_core.specs.declared.setup.Setup.{Setup}
use Rattle.client_core.specs.View.{View}
use Rattle.core_facts.specs.SlotAnswers.{GoesWith}
use Rattle.law_reads.specs.Kept.{HasStamp}
use Rattle.core_answers.specs.pages.Read.{IsShown}
use Rattle.core_answers.specs.pages.True.{GivenTrue}

-- at the moment the file has the stamp
abbrev pub HadStamp : History → List ℕ → Stamp → ℕ → Type 0
HadStamp t file stamp n = (now : List ℕ) × HasStamp t n file stamp now

-- A byte of the file, for a read that began at the place x and was answered at the place y: the file had it at a moment since the read began; or at a
-- moment before the answer at which it had a stamp, and at each moment at which it has that.
pub data IsHeld (t : History) (x y : ℕ) (file : List ℕ) (place v : ℕ) : Type 0 where
  since_begun : HeldByte t (λ n. x < n) y file place v → IsHeld t x y file place v
  with_stamp : (stamp : Stamp) → HeldByte t (HadStamp t file stamp) y file place v
      → ((n : ℕ) (now : List ℕ) → HasStamp t n file stamp now → slice_get now place ≡ Some v) → IsHeld t x y file place v

-- The answer of a read of the file that its slot holds, of bytes that the file had, with what was pending over them.
pub record ReadHeld (machine_of : ℕ → Op → Machine) (setup : Setup) (modes : Modes) (t : History) (x y : ℕ) (op : Op) (offset : ℕ) (bytes : List ℕ) : Type 0 where
  pub file : List ℕ
  pub of : IsOf modes (take y t.entries) x op file
  pub server : List ℕ
  pub held : (k v : ℕ) → slice_get server k ≡ Some v → IsHeld t x y file (offset + k) v
  pub each : (k v : ℕ) → slice_get bytes k ≡ Some v → IsShown machine_of setup (take y t.entries) x file server k (offset + k) v

-- Each answer to a read is so, if the pages that were kept from the start are true.
abbrev pub ReadsHeld : Type 0
ReadsHeld = (m : Mounted) (terms : Terms) (setup : Setup) (t : History) (v : View) → GoesWith m terms setup t.entries v → Lawful t → Fresh t → GivenTrue setup.pages t
    → (lane x slot offset count y : ℕ) (bytes : List ℕ) → Ended t.entries lane x (Read slot offset count) y (Done (values.Bytes bytes))
    → ReadHeld (machine_of m) setup terms.modes t x y (Read slot offset count) offset bytes
