-- What a history shows of a byte that was written (RFC 1813, sections 3.3.7, 3.3.21 and 4.8).
use Rattle.std.specs.Prelude.{◌≡◌, ◌<◌, ◌≤◌, ◌-◌, ◌+◌, ℕ, true, List, length, slice_index, Some}
use Rattle.nfs_types.specs.declared.verf.Verf.{Verf}
use Rattle.nfs_types.specs.declared.wcc.Wcc.{Wcc}
use Rattle.nfs_file_calls.specs.declared.call.FileCall.TheVariants as files
use Rattle.nfs_file_calls.specs.declared.owned.FileKept.TheVariants as kept
use Rattle.rpc_retry.specs.declared.waiting.Waiting.{Waiting}
use Rattle.rpc_retry.specs.Waiting.{waiting_at}
use Rattle.client_core.specs.declared.lane.Purpose.{Purpose}
use Rattle.world_model.specs.declared.entry.Entry.{Entry}
use Rattle.world_model.specs.declared.entry.Entry.TheVariants.{Sent}
use Rattle.world_model.specs.Entries.{At}
use Rattle.world_model.specs.Messages.{HasXid, SpellsCall}
use Rattle.world_model.specs.declared.message.Call.TheVariants as calls
use Rattle.world_model.specs.declared.message.Reply.TheVariants as replies
use Rattle.world_model.specs.Heard.{Asked}
use Rattle.world_model.specs.Commits.{commit_call}
use Rattle.write_back.specs.Segments.{covers}

-- Between two places a WRITE of the file, which has the byte at the place, was first sent. It was answered 0 with a count that reaches it.
pub record WroteByte (h : List Entry) (from to : ℕ) (file : List ℕ) (place byte : ℕ) (firm : ℕ) (verf : Verf) : Type 0 where
  pub offset : ℕ
  pub how : ℕ
  pub bytes : List ℕ
  pub wcc : Wcc
  pub count : ℕ
  pub asked : Asked h from to (calls.File (files.Write file offset how bytes)) (replies.File (kept.Write wcc count firm verf))
  pub inside : covers offset (length bytes) place ≡ true
  pub has : slice_index bytes (place - offset) ≡ byte
  pub reached : place < offset + count

-- the same under a write verifier
pub record WroteUnder (h : List Entry) (from to : ℕ) (file : List ℕ) (place byte : ℕ) (held : List ℕ) : Type 0 where
  pub firm : ℕ
  pub verf : Verf
  pub same : verf.0 ≡ held
  pub wrote : WroteByte h from to file place byte firm verf

-- The reply said that the byte is stable; or after it COMMIT of the whole file was first sent, and answered 0 under the same verifier.
pub data MadeStable (h : List Entry) (from to : ℕ) (file : List ℕ) (place byte : ℕ) : Type 0 where
  at_once : (firm : ℕ) (verf : Verf) → 0 < firm → WroteByte h from to file place byte firm verf → MadeStable h from to file place byte
  by_commit : (middle : ℕ) (wcc : Wcc) (verf : Verf) → middle ≤ to → WroteUnder h from middle file place byte verf.0
      → Asked h middle to (commit_call file) (replies.File (kept.Commit wcc verf)) → MadeStable h from to file place byte

-- Held under a verifier that the reply to its WRITE gave: that came before the place `middle`, and each COMMIT of the file that waits was sent after it,
-- or not yet.
pub record IsHeldBy (h : List Entry) (from : ℕ) (waiting : List (ℕ × Waiting Purpose)) (file : List ℕ) (place byte : ℕ) (held : List ℕ) : Type 0 where
  pub middle : ℕ
  pub low : middle ≤ length h
  pub wrote : WroteUnder h from middle file place byte held
  pub before : (xid : ℕ) (w : Waiting Purpose) → waiting_at xid waiting ≡ Some w → SpellsCall xid (commit_call file) w.bytes → (i : ℕ) (bytes : List ℕ)
      → At h i (Sent bytes) → HasXid bytes xid → middle ≤ i
