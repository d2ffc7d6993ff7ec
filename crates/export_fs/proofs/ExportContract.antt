-- What the calls of the export promise, from what each makes of it.
use Rattle.std.proofs.Common.{◌≡◌, ℕ, Bool, true, List, Option, Some, None, Result, Ok, Err, refl, sym, subst, ◌∙◌, IfOk, OnOk, OnErr, if◌then◌else◌, unwrap_or}
use Rattle.std.specs.Prelude.{⊤}
use Rattle.std.proofs.lemmas.Bool.{cond_both}
use Rattle.xdr_codec.specs.Bytes.{IsBytes}
use Rattle.xdr_codec.specs.declared.blob.Memory.{Memory}
use Rattle.nfs_file_calls.specs.declared.call.FileCall.{FileCall}
use Rattle.nfs_file_calls.specs.declared.call.FileCall.TheVariants as files
use Rattle.world_model.specs.declared.message.Call.{Call}
use Rattle.world_model.specs.declared.message.Call.TheVariants as calls
use Rattle.world_model.specs.declared.message.Reply.{Reply}
use Rattle.world_model.specs.Lawful.{Flushes}
use Rattle.world_model.specs.Service.{Serves}
use Rattle.export_fs.specs.View.{View}
use Rattle.export_fs.specs.Parts.{kind}
use Rattle.export_fs.specs.Executed.{executed}
use Rattle.export_fs.specs.Placing.{placed}
use Rattle.export_fs.specs.Restart.{may_restart, after_restart, after_flush}
use Rattle.export_fs.specs.Later.{RestartsLater}
use Rattle.export_fs.specs.Seen.{server_of}
use Rattle.export_fs.specs.Sound.{Sound}
use Rattle.export_fs.specs.Spelled.{HandlesAreBytes, IsFileSpelled, IsSpelled}
use Rattle.export_fs.specs.Spelling.{HasSpellingCall}
use Rattle.export_fs.proofs.NewExportSound.{new_view, begins, placed_stays}
use Rattle.export_fs.proofs.ServesRestart.{restart_stays, restarts, flush_stays, flushes_file}
use Rattle.export_fs.proofs.ExecuteServes.{serves}
use Rattle.export_fs.proofs.SoundAfterCall.{stays_sound}

-- ---- a call

is_file_spelled : (call : FileCall) → HandlesAreBytes (calls.File call) → HasSpellingCall (calls.File call) → IsFileSpelled call
is_file_spelled files.Null b k = tt
is_file_spelled (files.GetAttr file) b k = b
is_file_spelled (files.SetAttr file set guard) b k = b
is_file_spelled (files.Access file bits) b k = b
is_file_spelled (files.Read file offset count) b k = b
is_file_spelled (files.Write file offset how bytes) b k = (b, k.0)
is_file_spelled (files.FsStat file) b k = b
is_file_spelled (files.FsInfo file) b k = b
is_file_spelled (files.PathConf file) b k = b
is_file_spelled (files.Commit file offset count) b k = b

pub is_spelled : (call : Call) → HandlesAreBytes call → HasSpellingCall call → IsSpelled call
is_spelled (calls.File call) b k = is_file_spelled call b k
is_spelled (calls.Dir call) b k = b
is_spelled (calls.Mount call) b k = tt

abbrev Executes : View → View → Call → Result Reply Memory → Type 0
Executes v w call result = IfOk result (λ reply. (w ≡ (executed v call).0) × (reply ≡ (executed v call).1))

pub sound_call : (v w : View) (call : Call) (result : Result Reply Memory) → Executes v w call result → OnErr result (w ≡ v) → HandlesAreBytes call → Sound v → Sound w
sound_call v w call (Ok reply) e k b s = subst Sound (sym e.0) (stays_sound v call s b)
sound_call v w call (Err fault) e k b s = subst Sound (sym k) s

pub serves_call : (v w : View) (call : Call) (result : Result Reply Memory) → Executes v w call result → HandlesAreBytes call → Sound v → HasSpellingCall call → IfOk result (λ reply. Serves (server_of v) call reply (server_of w))
serves_call v w call (Ok reply) e b s k =
    subst (λ (r : Reply). Serves (server_of v) call r (server_of w)) (sym e.1) (subst (λ (z : View). Serves (server_of v) call (executed v call).1 (server_of z)) (sym e.0) (serves v call s (is_spelled call b k)))
serves_call v w call (Err fault) e b s k = tt

-- ---- a restart

abbrev Restarts : View → View → Type 0
Restarts v w = w ≡ (if may_restart v then after_restart v else v)

pub sound_restart : (v w : View) → Restarts v w → Sound v → Sound w
sound_restart v w e s = subst Sound (sym e) (cond_both (may_restart v) (after_restart v) v Sound (λ m. restart_stays v s m) (λ m. s))

pub restarts_later : (v w : View) → Restarts v w → may_restart v ≡ true → RestartsLater v w
restarts_later v w e m = subst (RestartsLater v) (sym (e ∙ simp m)) (restarts v m)

-- ---- a range that becomes stable

pub sound_flush : (v w : View) (file : List ℕ) (start count : ℕ) (result : Result ⊤ Memory) → OnOk result (w ≡ after_flush v file start count) → OnErr result (w ≡ v) → Sound v → Sound w
sound_flush v w file start count (Ok done) e k s = subst Sound (sym e) (flush_stays v s file start count)
sound_flush v w file start count (Err fault) e k s = subst Sound (sym k) s

pub flushes_range : (v w : View) (file : List ℕ) (start count : ℕ) (result : Result ⊤ Memory) → OnOk result (w ≡ after_flush v file start count) → IsBytes file → kind v.nodes file ≡ 1 → OnOk result (Flushes (server_of v) (server_of w) file start count)
flushes_range v w file start count (Ok done) e b k = subst (λ (z : View). Flushes (server_of v) (server_of z) file start count) (sym e) (flushes_file v file start count b k)
flushes_range v w file start count (Err fault) e b k = tt

-- ---- a new export, and an object that is placed

pub sound_new : (v : View) → v ≡ new_view → Sound v
sound_new v e = subst Sound (sym e) begins

placed_or_same : (v : View) (path : List (List ℕ)) (file : Option (List ℕ)) → Sound v → Sound (unwrap_or (placed v path file) v)
placed_or_same v path file s = by_placed (placed v path file) refl where
  by_placed : (o : Option View) → placed v path file ≡ o → Sound (unwrap_or o v)
  by_placed None e = s
  by_placed (Some w) e = placed_stays v w s path file e

pub sound_place : (v w : View) (path : List (List ℕ)) (file : Option (List ℕ)) (result : Result Bool Memory) → OnOk result (w ≡ unwrap_or (placed v path file) v) → OnErr result (w ≡ v) → Sound v → Sound w
sound_place v w path file (Ok done) e k s = subst Sound (sym e) (placed_or_same v path file s)
sound_place v w path file (Err fault) e k s = subst Sound (sym k) s
