-- COMMIT of a whole file (RFC 1813, section 3.3.21).
use Rattle.std.specs.Prelude.{ℕ, List}
use Rattle.nfs_types.specs.declared.wcc.Wcc.{Wcc}
use Rattle.nfs_types.specs.declared.verf.Verf.{Verf}
use Rattle.nfs_file_calls.specs.declared.call.FileCall.TheVariants as files
use Rattle.nfs_file_calls.specs.declared.owned.FileKept.TheVariants as kept
use Rattle.world_model.specs.declared.entry.Entry.{Entry}
use Rattle.world_model.specs.declared.message.Call.{Call}
use Rattle.world_model.specs.declared.message.Call.TheVariants as calls
use Rattle.world_model.specs.declared.message.Reply.TheVariants as replies
use Rattle.world_model.specs.Heard.{Asked}

-- COMMIT of the whole file: offset 0 and count 0
abbrev pub commit_call : List ℕ → Call
commit_call file = calls.File (files.Commit file 0 0)

-- COMMIT of this file, whole, was answered 0.
pub record Committed (h : List Entry) (from to : ℕ) (file : List ℕ) : Type 0 where
  pub wcc : Wcc
  pub verf : Verf
  pub asked : Asked h from to (commit_call file) (replies.File (kept.Commit wcc verf))
