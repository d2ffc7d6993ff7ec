-- WRITEs of puts, syncs and closes are long: a shorter one ends where an earlier WRITE went on (RFC 1813, section 3.3.7).
use Rattle.std.specs.Prelude.{◌≡◌, ◌<◌, ◌≤◌, ◌+◌, ◌⊎◌, ◌++◌, ℕ, true, false, List, length, Some, slice_get}
use Rattle.world_model.specs.declared.answer.Answer.TheVariants.{Done}
use Rattle.world_model.specs.declared.answer.Value.{Value}
use Rattle.world_model.specs.declared.entry.Entry.{Entry}
use Rattle.world_model.specs.declared.entry.Entry.TheVariants.{Began}
use Rattle.world_model.specs.declared.op.Op.{Op}
use Rattle.world_model.specs.declared.op.Op.TheVariants as ops
use Rattle.world_model.specs.Entries.{At}
use Rattle.world_model.specs.Messages.{SpellsCall}
use Rattle.world_model.specs.Operations.{Ended, UnderWay}
use Rattle.claims.specs.Terms.{Terms}
use Rattle.claims.specs.Thrifty.{OneLane, NeverFull, IsSync, CoveredEarlier, LongWrites}
use Rattle.world_model.specs.Waiting.{FirstSent}
use Rattle.write_back.specs.Files.{of_file, HasNoPiece}
use Rattle.write_back.specs.Pieces.{FilePending, rest_at}
use Rattle.write_back.specs.Segments.{Cell}
use Rattle.write_back.specs.States.{is_ready, how_of, ready_of}
use Rattle.file_ops.specs.SlotFiles.{file_at}
use Rattle.op_machines.specs.declared.begun.Mounted.{Mounted}
use Rattle.op_machines.specs.Begun.{machine_of}
use Rattle.client_core.specs.declared.lane.Lane.{Lane}
use Rattle.client_core.specs.declared.setup.Setup.{Setup}
use Rattle.client_core.specs.View.{View}
use Rattle.core_facts.specs.Notes.{Notes}
use Rattle.core_facts.specs.Reaches.{Reaches}
use Rattle.core_session.specs.calls.Whole.{GoesFrom}
use Rattle.core_counts.specs.coarse.WereLong.{write_call}

-- Within the put at the place x a WRITE of the file is first sent, with fewer bytes than the session's WRITE size; `end` is the place of its last byte. The
-- put's own bytes have this place and the one behind it.
pub record ShortPutWrite (setup : Setup) (h : List Entry) (i x : ℕ) (f : List ℕ) (end : ℕ) : Type 0 where
  pub lane : ℕ
  pub path : List (List ℕ)
  pub from : ℕ
  pub text : List ℕ
  pub under_way : UnderWay h lane x i (ops.Put path from text)
  pub low : from ≤ end
  pub high : end + 1 < from + length text
  pub xid : ℕ
  pub bytes : List ℕ
  pub offset : ℕ
  pub how : ℕ
  pub data_ : List ℕ
  pub sent : FirstSent h i xid bytes
  pub spells : SpellsCall xid (write_call f offset how data_) bytes
  pub is : end + 1 ≡ offset + length data_
  pub some : 1 ≤ length data_
  pub short : length data_ < setup.wsize

-- A WRITE of the file that was sent earlier covers the place behind it. That is so if all operations are of one lane, and all writers together write no more
-- bytes than may be dirty at once.
abbrev pub PutWritesLong : Type 0
PutWritesLong = (m : Mounted) (setup : Setup) (h : List Entry) (v : View) → Notes (machine_of m) setup h v → OneLane h → NeverFull h
    → (i x end : ℕ) (f : List ℕ) → ShortPutWrite setup h i x f end → CoveredEarlier h i f (end + 1)

-- Within the sync or close at the place x a WRITE of the file is first sent, with fewer bytes than the session's WRITE size; `end` is the place of its last
-- byte.
pub record ShortSavedWrite (setup : Setup) (h : List Entry) (i x : ℕ) (f : List ℕ) (end : ℕ) : Type 0 where
  pub lane : ℕ
  pub op : Op
  pub under_way : UnderWay h lane x i op
  pub sync : IsSync op
  pub xid : ℕ
  pub bytes : List ℕ
  pub offset : ℕ
  pub how : ℕ
  pub data_ : List ℕ
  pub sent : FirstSent h i xid bytes
  pub spells : SpellsCall xid (write_call f offset how data_) bytes
  pub is : end + 1 ≡ offset + length data_
  pub some : 1 ≤ length data_
  pub short : length data_ < setup.wsize

-- a byte of this place waits to be sent, and not as stable
pub record WaitsPlain (of : FilePending) (place : ℕ) : Type 0 where
  pub cell : Cell
  pub at : rest_at of place ≡ Some cell
  pub ready : is_ready cell.state ≡ true
  pub plain : how_of (ready_of cell.state) ≡ 0

-- no byte of this place that isn't in flight is to be sent as stable
abbrev pub NotAsStable : FilePending → ℕ → Type 0
NotAsStable of place = (cell : Cell) → rest_at of place ≡ Some cell → how_of (ready_of cell.state) ≡ 0

-- a sync or close of the slot
abbrev pub OfSlot : Op → ℕ → Type 0
OfSlot op slot = (op ≡ ops.Sync slot) ⊎ (op ≡ ops.Close slot)

-- The operation at the place x is of a slot of the file. As it began, the core had no byte behind that place which waited so; or a byte of the place itself
-- was to be sent as stable.
pub record BeganOtherwise (m : Mounted) (setup : Setup) (h : List Entry) (x : ℕ) (f : List ℕ) (end : ℕ) : Type 0 where
  pub before : List Entry
  pub after : List Entry
  pub is : h ≡ before ++ after
  pub there : length before ≡ x
  pub lane : ℕ
  pub line : ℕ
  pub op : Op
  pub slot : ℕ
  pub began : At h x (Began lane line op)
  pub of : OfSlot op slot
  pub view : View
  pub reaches : Reaches (machine_of m) setup before view
  pub found : view.lost ≡ false
  pub holds : file_at lane slot view.shelf.opens ≡ Some f
  pub quiet : HasNoPiece f view.shelf.back
  pub idle : (n : ℕ) (l : Lane) → slice_get view.lanes n ≡ Some l → ⊥
  pub other : NotAsStable (of_file f view.shelf.back) end → WaitsPlain (of_file f view.shelf.back) (end + 1) → ⊥

-- If all operations are of one lane, a WRITE of the file that was sent earlier covers the place behind it; or as the operation began it was
-- otherwise.
abbrev pub SavedWritesLong : Type 0
SavedWritesLong = (m : Mounted) (setup : Setup) (h : List Entry) (v : View) → Notes (machine_of m) setup h v → OneLane h
    → (i x end : ℕ) (f : List ℕ) → ShortSavedWrite setup h i x f end → CoveredEarlier h i f (end + 1) ⊎ BeganOtherwise m setup h x f end

-- a write or a fill
pub data IsWrite (op : Op) : Type 0 where
  a_write : (slot offset : ℕ) (bytes : List ℕ) → op ≡ ops.Write slot offset bytes → IsWrite op
  a_fill : (slot offset count byte : ℕ) → op ≡ ops.Fill slot offset count byte → IsWrite op

-- one of this slot, whose bytes have this place and the one behind it
pub data WritesBoth (op : Op) (slot end : ℕ) : Type 0 where
  write : (offset : ℕ) (bytes : List ℕ) → op ≡ ops.Write slot offset bytes → offset ≤ end → end + 1 < offset + length bytes
      → WritesBoth op slot end
  fill : (offset count byte : ℕ) → op ≡ ops.Fill slot offset count byte → offset ≤ end → end + 1 < offset + count → WritesBoth op slot end

-- The write or fill at the place w, of the same slot, succeeded before the sync or close began. It wrote the place of the WRITE's last byte and the one behind
-- it. From then on only writes and fills began before the sync or close.
pub record ShortWrittenWrite (setup : Setup) (h : List Entry) (i x w : ℕ) (f : List ℕ) (end : ℕ) : Type 0 where
  pub saved : ShortSavedWrite setup h i x f end
  pub slot : ℕ
  pub of : OfSlot saved.op slot
  pub op : Op
  pub writes : WritesBoth op slot end
  pub y : ℕ
  pub value : Value
  pub ended : Ended h saved.lane w op y (Done value)
  pub before : y < x
  pub only : (j lane line : ℕ) (o : Op) → At h j (Began lane line o) → w < j → j < x → IsWrite o

-- A WRITE of the file that was sent earlier covers the place behind it. That is so if all operations are of one lane, and all writers together write no more
-- bytes than may be dirty at once.
abbrev pub WrittenWritesLong : Type 0
WrittenWritesLong = (m : Mounted) (setup : Setup) (h : List Entry) (v : View) → Notes (machine_of m) setup h v → OneLane h → NeverFull h
    → (i x w end : ℕ) (f : List ℕ) → ShortWrittenWrite setup h i x w f end → CoveredEarlier h i f (end + 1)

-- So `LongWrites` of `claims` holds of each session that was set up and whose operations are all of one lane.
abbrev pub WritesLong : Type 0
WritesLong = (m : Mounted) (terms : Terms) (setup : Setup) (start h : List Entry) (v : View) → GoesFrom m terms setup start h v
    → Notes (machine_of m) setup h v → OneLane h → LongWrites terms h
