-- What the calls of the export keep of stamps and cookies, from what each makes of it.
use Rattle.std.proofs.Common.{◌≡◌, ℕ, Bool, List, [], ◌∷◌, Option, Some, None, Result, Ok, Err, refl, sym, subst, IfOk, OnOk, OnErr, if◌then◌else◌, unwrap_or}
use Rattle.std.specs.Prelude.{⊤}
use Rattle.std.proofs.lemmas.Bool.{cond_both}
use Rattle.xdr_codec.specs.declared.blob.Memory.{Memory}
use Rattle.world_model.specs.declared.message.Call.{Call}
use Rattle.world_model.specs.declared.message.Reply.{Reply}
use Rattle.world_model.specs.Rising.{RisesAt}
use Rattle.world_model.specs.NameService.{keeps_all}
use Rattle.export_fs.specs.View.{View}
use Rattle.export_fs.specs.Changes.{new_dir}
use Rattle.export_fs.specs.Executed.{executed}
use Rattle.export_fs.specs.Placing.{placed}
use Rattle.export_fs.specs.Restart.{may_restart, after_restart, after_flush}
use Rattle.export_fs.specs.Seen.{server_of}
use Rattle.export_fs.specs.Stamped.{Stamped, Proceeds}
use Rattle.export_fs.specs.Risen.{TakesNew}
use Rattle.export_fs.proofs.EachCallProceeds.{stays, executed_proceeds, restart_proceeds, flush_proceeds, placed_proceeds, stamped_after, stamped_new}
use Rattle.export_fs.proofs.Fresh.{changed_above}
use Rattle.export_fs.proofs.Rises.{rises_executed}

-- ---- a call

abbrev Executes : View → View → Call → Result Reply Memory → Type 0
Executes v w call result = IfOk result (λ reply. (w ≡ (executed v call).0) × (reply ≡ (executed v call).1))

pub proceeds_call : (v w : View) (call : Call) (result : Result Reply Memory) → Executes v w call result → OnErr result (w ≡ v) → Proceeds v w
proceeds_call v w call (Ok reply) e k = subst (Proceeds v) (sym e.0) (executed_proceeds v call)
proceeds_call v w call (Err fault) e k = subst (Proceeds v) (sym k) (stays v)

pub stamped_call : (v w : View) (call : Call) (result : Result Reply Memory) → Executes v w call result → OnErr result (w ≡ v) → Stamped v → Stamped w
stamped_call v w call result e k s = stamped_after v w s (proceeds_call v w call result e k)

pub fresh_call : (v w : View) (call : Call) (result : Result Reply Memory) → Executes v w call result → OnErr result (w ≡ v) → TakesNew v w
fresh_call v w call result e k = changed_above v w (proceeds_call v w call result e k)

pub rises_call : (v w : View) (call : Call) (result : Result Reply Memory) → Executes v w call result → Stamped v → IfOk result (λ reply. RisesAt (server_of v) call reply)
rises_call v w call (Ok reply) e s = subst (RisesAt (server_of v) call) (sym e.1) (rises_executed v call s)
rises_call v w call (Err fault) e s = tt

-- ---- a restart

abbrev Restarts : View → View → Type 0
Restarts v w = w ≡ (if may_restart v then after_restart v else v)

pub proceeds_reboot : (v w : View) → Restarts v w → Proceeds v w
proceeds_reboot v w e = subst (Proceeds v) (sym e) (cond_both (may_restart v) (after_restart v) v (Proceeds v) (λ m. restart_proceeds v) (λ m. stays v))

pub stamped_reboot : (v w : View) → Restarts v w → Stamped v → Stamped w
stamped_reboot v w e s = stamped_after v w s (proceeds_reboot v w e)

pub fresh_reboot : (v w : View) → Restarts v w → TakesNew v w
fresh_reboot v w e = changed_above v w (proceeds_reboot v w e)

-- ---- a range that becomes stable

pub proceeds_flush : (v w : View) (file : List ℕ) (start count : ℕ) (result : Result ⊤ Memory) → OnOk result (w ≡ after_flush v file start count) → OnErr result (w ≡ v) → Proceeds v w
proceeds_flush v w file start count (Ok done) e k = subst (Proceeds v) (sym e) (flush_proceeds v file start count)
proceeds_flush v w file start count (Err fault) e k = subst (Proceeds v) (sym k) (stays v)

pub stamped_flushed : (v w : View) (file : List ℕ) (start count : ℕ) (result : Result ⊤ Memory) → OnOk result (w ≡ after_flush v file start count) → OnErr result (w ≡ v) → Stamped v → Stamped w
stamped_flushed v w file start count result e k s = stamped_after v w s (proceeds_flush v w file start count result e k)

pub fresh_flush : (v w : View) (file : List ℕ) (start count : ℕ) (result : Result ⊤ Memory) → OnOk result (w ≡ after_flush v file start count) → OnErr result (w ≡ v) → TakesNew v w
fresh_flush v w file start count result e k = changed_above v w (proceeds_flush v w file start count result e k)

-- ---- a new export, and an object that is placed

pub stamped_first : (v : View) → v ≡ record { nodes = new_dir 0 1 keeps_all ∷ []; counter = 1; reboots = 0 } → Stamped v
stamped_first v e = subst Stamped (sym e) stamped_new

placed_or : (v w : View) (path : List (List ℕ)) (file : Option (List ℕ)) (o : Option View) → placed v path file ≡ o → w ≡ unwrap_or o v → Proceeds v w
placed_or v w path file None p e = subst (Proceeds v) (sym e) (stays v)
placed_or v w path file (Some u) p e = subst (Proceeds v) (sym e) (placed_proceeds v u path file p)

pub proceeds_place : (v w : View) (path : List (List ℕ)) (file : Option (List ℕ)) (result : Result Bool Memory) → OnOk result (w ≡ unwrap_or (placed v path file) v) → OnErr result (w ≡ v) → Proceeds v w
proceeds_place v w path file (Ok done) e k = placed_or v w path file (placed v path file) refl e
proceeds_place v w path file (Err fault) e k = subst (Proceeds v) (sym k) (stays v)

pub stamped_place : (v w : View) (path : List (List ℕ)) (file : Option (List ℕ)) (result : Result Bool Memory) → OnOk result (w ≡ unwrap_or (placed v path file) v) → OnErr result (w ≡ v) → Stamped v → Stamped w
stamped_place v w path file result e k s = stamped_after v w s (proceeds_place v w path file result e k)
