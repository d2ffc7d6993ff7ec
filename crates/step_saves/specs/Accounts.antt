-- What became of one byte that was written: it is pending, or it left what is pending for a reason (RFC 1813, sections 3.3.7, 3.3.21 and 4.8).
use Rattle.std.specs.Prelude.{◌≡◌, ◌<◌, ◌-◌, ◌+◌, ℕ, Bool, true, List, length, slice_index, Some, None, Result, Ok}
use Rattle.nfs_types.specs.declared.verf.Verf.{Verf}
use Rattle.nfs_types.specs.declared.wcc.Wcc.{Wcc}
use Rattle.nfs_file_calls.specs.declared.owned.FileKept.TheVariants as kept
use Rattle.world_model.specs.declared.answer.Fault.{Fault}
use Rattle.world_model.specs.declared.message.Reply.{Reply}
use Rattle.world_model.specs.declared.message.Reply.TheVariants as replies
use Rattle.write_back.specs.declared.state.State.TheVariants.{Waiting, Acked}
use Rattle.write_back.specs.declared.state.Ready.{Ready}
use Rattle.write_back.specs.Files.{Pending, of_file}
use Rattle.write_back.specs.Pieces.{Sent, FilePending, Flown, rest_at, fly_at, piece_under}
use Rattle.write_back.specs.Segments.{covers}

-- The byte at a place that came with a write's number is in one of these states: it waits to be sent; it is in flight; the server holds it under a write
-- verifier of which Wrote holds; or it is pending no more and Done holds.
pub data Account (place byte number : ℕ) (Wrote : List ℕ → Type 0) (Done : Type 0) (of : FilePending) : Type 0 where
  it_waits : (ready : Ready) → rest_at of place ≡ Some (record { byte = byte; number = number; state = Waiting ready }) → Account place byte number Wrote Done of
  it_flies : (flown : Flown) → fly_at of place ≡ Some flown → flown.byte ≡ byte → flown.number ≡ number → rest_at of place ≡ None
      → Account place byte number Wrote Done of
  is_held : (verf : Verf) → rest_at of place ≡ Some (record { byte = byte; number = number; state = Acked verf }) → Wrote verf.0
      → Account place byte number Wrote Done of
  is_done : Done → Account place byte number Wrote Done of

-- What a reply to a WRITE shows of the byte at a place of a file: its piece had it there, among the first bytes that the server counts.
pub record Reaches (file : List ℕ) (place byte : ℕ) (back : Pending) (asked : ℕ) (to : List ℕ) (count : ℕ) : Type 0 where
  pub piece : Sent
  pub same : to ≡ file
  pub under : piece_under asked (of_file file back).pieces ≡ Some piece
  pub inside : covers piece.offset (length piece.bytes) place ≡ true
  pub has : slice_index piece.bytes (place - piece.offset) ≡ byte
  pub reached : place < piece.offset + count

-- what holds of the byte by such a reply, and by one to a COMMIT
abbrev pub ByWrite : ℕ → ℕ → (List ℕ → Type 0) → Type 0 → List ℕ → Pending → ℕ → List ℕ → Result Reply Fault → Type 0
ByWrite place byte Wrote Done file back asked to came =
    (wcc : Wcc) (count committed : ℕ) (verf : Verf) → came ≡ Ok (replies.File (kept.Write wcc count committed verf))
    → Reaches file place byte back asked to count → Wrote verf.0 × (0 < committed → Done)

abbrev pub ByCommit : (List ℕ → Type 0) → Type 0 → List ℕ → List ℕ → Result Reply Fault → Type 0
ByCommit Wrote Done file to came = (wcc : Wcc) (verf : Verf) → came ≡ Ok (replies.File (kept.Commit wcc verf)) → to ≡ file → Wrote verf.0 → Done

-- that a verifier is one of some
abbrev pub Told : (List ℕ → Bool) → List ℕ → Type 0
Told wrote verf = wrote verf ≡ true
