-- The three ways in which a server serves a call, and what is left of them by call and reply.
use Rattle.std.proofs.Common.{◌≡◌, ℕ, Bool, false, List}
use Rattle.std.specs.Prelude.{Decides, ⊤}
use Rattle.std.proofs.lemmas.Bool.Decides.{Decides-like}
use Rattle.nfs_types.specs.declared.status.Status.{Status}
use Rattle.nfs_types.specs.declared.wcc.Wcc.{Wcc}
use Rattle.mount_calls.specs.declared.reply.MountReply.{MountReply}
use Rattle.nfs_dir_calls.specs.declared.keeping.DirKept.{DirKept}
use Rattle.nfs_file_calls.specs.declared.call.FileCall.{FileCall}
use Rattle.nfs_file_calls.specs.declared.call.FileCall.TheVariants as files
use Rattle.nfs_file_calls.specs.declared.owned.FileKept.TheVariants as kept
use Rattle.world_model.specs.declared.message.Call.{Call}
use Rattle.world_model.specs.declared.message.Call.TheVariants as calls
use Rattle.world_model.specs.declared.message.Reply.{Reply}
use Rattle.world_model.specs.declared.message.Reply.TheVariants as replies
use Rattle.world_model.specs.Server.{Server}
use Rattle.world_model.specs.Steps.{Same}
use Rattle.world_model.specs.Service.{Refuses, Does, Serves, refused, broken_off, done}
use Rattle.trace_rules.proofs.Combining.{never}

-- a WRITE and a refusal of it
abbrev pub IsBreaking : Call → Reply → Type 0
IsBreaking (calls.File (files.Write f offset how bytes)) (replies.File (kept.WriteFail status wcc)) = ⊤
IsBreaking call reply = ⊥

-- a call on a file alone
pub only-files-dir : (call : FileCall) (reply : DirKept) → IsBreaking (calls.File call) (replies.Dir reply) → ⊥
only-files-dir files.Null reply b = b
only-files-dir (files.GetAttr _) reply b = b
only-files-dir (files.SetAttr _ _ _) reply b = b
only-files-dir (files.Access _ _) reply b = b
only-files-dir (files.Read _ _ _) reply b = b
only-files-dir (files.Write _ _ _ _) reply b = b
only-files-dir (files.FsStat _) reply b = b
only-files-dir (files.FsInfo _) reply b = b
only-files-dir (files.PathConf _) reply b = b
only-files-dir (files.Commit _ _ _) reply b = b

pub only-files-mount : (call : FileCall) (reply : MountReply) → IsBreaking (calls.File call) (replies.Mount reply) → ⊥
only-files-mount files.Null reply b = b
only-files-mount (files.GetAttr _) reply b = b
only-files-mount (files.SetAttr _ _ _) reply b = b
only-files-mount (files.Access _ _) reply b = b
only-files-mount (files.Read _ _ _) reply b = b
only-files-mount (files.Write _ _ _ _) reply b = b
only-files-mount (files.FsStat _) reply b = b
only-files-mount (files.FsInfo _) reply b = b
only-files-mount (files.PathConf _) reply b = b
only-files-mount (files.Commit _ _ _) reply b = b

module _ (s t : Server) where
  breaking : (call : Call) (reply : Reply) (f : List ℕ) (offset how : ℕ) (bytes : List ℕ) (status : Status) (wcc : Wcc) → call ≡ calls.File (files.Write f offset how bytes) → reply ≡ replies.File (kept.WriteFail status wcc) → IsBreaking call reply
  breaking call reply f offset how bytes status wcc is answer = rw (is, answer) tt

  ways : (P : Type 0) (call : Call) (reply : Reply) → (Refuses s call reply → Same s t → P) → (IsBreaking call reply → P) → (Does s call reply t → P) → Serves s call reply t → P
  ways P call reply r b d (refused x same) = r x same
  ways P call reply r b d (broken_off f offset how bytes status wcc is answer w) = b (breaking call reply f offset how bytes status wcc is answer)
  ways P call reply r b d (done x) = d x

  -- no call of one procedure with a reply of another
  pub off : (call : Call) (reply : Reply) → (Refuses s call reply → ⊥) → (IsBreaking call reply → ⊥) → (Does s call reply t → ⊥) → Decides false (Serves s call reply t)
  off call reply r b d = never (λ w. ways ⊥ call reply (λ x same. r x) b d w)

  pub fails : (call : Call) (reply : Reply) (test : Bool) → (IsBreaking call reply → ⊥) → (Does s call reply t → ⊥) → Decides test (Refuses s call reply × Same s t) → Decides test (Serves s call reply t)
  fails call reply test b d k = Decides-like test (λ w. refused w.0 w.1) (λ w. ways (Refuses s call reply × Same s t) call reply (λ x same. (x, same)) (λ x. absurd (b x)) (λ x. absurd (d x)) w) k

  pub does : (call : Call) (reply : Reply) (test : Bool) → (Refuses s call reply → ⊥) → (IsBreaking call reply → ⊥) → Decides test (Does s call reply t) → Decides test (Serves s call reply t)
  does call reply test r b k = Decides-like test (λ w. done w) (λ w. ways (Does s call reply t) call reply (λ x same. absurd (r x)) (λ x. absurd (b x)) (λ x. x) w) k
