-- Which calls have a spelling, and which pending bytes can be sent once more (RFC 1813, section 3.3.7).
use Rattle.std.specs.Prelude.{◌≤◌, ℕ, List, [], ◌∷◌, length, ⊤}
use Rattle.nfs_dir_calls.specs.Calls.{HasSpellingDirCall}
use Rattle.nfs_file_calls.specs.Calls.{HasSpellingCall}
use Rattle.world_model.specs.declared.message.Call.{Call}
use Rattle.world_model.specs.declared.message.Call.TheVariants as calls
use Rattle.write_back.specs.Pieces.{Sent}
use Rattle.write_back.specs.Files.{Pending, of_file}

-- A call of NFS that bytes can spell. No operation calls MOUNT.
abbrev pub IsSpellable : Call → Type 0
IsSpellable (calls.File call) = HasSpellingCall call
IsSpellable (calls.Dir call) = HasSpellingDirCall call
IsSpellable (calls.Mount call) = ⊥

-- A WRITE can carry each of these pieces: it is sent in one of the three ways, and has at most 65,536 bytes.
abbrev pub FitWrites : List Sent → Type 0
FitWrites [] = ⊤
FitWrites (piece ∷ pieces) = (piece.how ≤ 2) × (length piece.bytes ≤ 65536) × FitWrites pieces

-- the same of all that is in flight
abbrev pub AreSpellable : Pending → Type 0
AreSpellable back = (file : List ℕ) → FitWrites (of_file file back).pieces
