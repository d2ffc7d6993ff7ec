-- What a WRITE that breaks off makes of the export: a server may do it, the export stays sound, and its stamps are fresh.
use Rattle.std.proofs.Common.{◌≡◌, ◌<◌, ℕ, List, [], ◌∷◌, take, Option, Some, None, Result, Ok, Err, refl, sym, ap, subst, arith, inl, IfOk, OnErr, ◌==◌}
use Rattle.std.proofs.lemmas.Bool.{cond_both, eqb-true}
use Rattle.xdr_codec.specs.declared.blob.Memory.{Memory}
use Rattle.nfs_file_calls.specs.declared.call.FileCall.{FileCall}
use Rattle.nfs_file_calls.specs.declared.call.FileCall.TheVariants as files
use Rattle.nfs_file_calls.specs.declared.owned.FileKept.{FileKept}
use Rattle.world_model.specs.declared.message.Call.{Call}
use Rattle.world_model.specs.declared.message.Call.TheVariants as calls
use Rattle.world_model.specs.declared.message.Reply.{Reply}
use Rattle.world_model.specs.declared.message.Reply.TheVariants as replies
use Rattle.world_model.specs.Bytes.{put_at}
use Rattle.world_model.specs.FileService.{Puts}
use Rattle.world_model.specs.Service.{Serves, broken_off}
use Rattle.export_fs.specs.declared.node.Holds.{Holds}
use Rattle.export_fs.specs.declared.node.Holds.TheVariants.{File}
use Rattle.export_fs.specs.Held.{Content}
use Rattle.export_fs.specs.View.{View}
use Rattle.export_fs.specs.Parts.{last_number, wcc}
use Rattle.export_fs.specs.Refusals.{file_refusal}
use Rattle.export_fs.specs.Changes.{with_bytes, written}
use Rattle.export_fs.specs.After.{next}
use Rattle.export_fs.specs.Answer.{status}
use Rattle.export_fs.specs.Executed.{file_executed, executed}
use Rattle.export_fs.specs.Partial.{IsWrite, after_part, partly_written, file_partly_executed, partly_executed}
use Rattle.export_fs.specs.Risen.{TakesNew}
use Rattle.export_fs.specs.Seen.{server_of, object_of, held_of}
use Rattle.export_fs.specs.Sound.{Sound}
use Rattle.export_fs.specs.Spelled.{HandlesAreBytes, IsSpelled}
use Rattle.export_fs.specs.Spelling.{HasSpellingCall, HasSpellingReply}
use Rattle.export_fs.specs.Stamped.{Stamped, Proceeds}
use Rattle.export_fs.proofs.RefusalTable.{file_passes}
use Rattle.export_fs.proofs.ServerOfExport.{Found, found, has_found, true_wcc, looks}
use Rattle.export_fs.proofs.ServesFileCalls.{file_found, puts, write_changed}
use Rattle.export_fs.proofs.DirectoryNames.{numbers_left}
use Rattle.export_fs.proofs.ExecuteServes.{serves}
use Rattle.export_fs.proofs.ExportContract.{is_spelled}
use Rattle.export_fs.proofs.EachCallProceeds.{stays, file_proceeds, executed_proceeds, stamped_after}
use Rattle.export_fs.proofs.Fresh.{changed_above}
use Rattle.export_fs.proofs.Reboots.{same_reboots}
use Rattle.export_fs.proofs.RepliesEncode.{reply_spelled}
use Rattle.export_fs.proofs.SoundAfterCall.{write_stays, stays_sound}

-- ---- the bytes that are written

part_stays : (v : View) → Sound v → (file : List ℕ) (offset : ℕ) (bytes : List ℕ) → v.counter < last_number → Sound (after_part v file offset bytes)
part_stays v s file offset [] room = s
part_stays v s file offset (b ∷ bytes) room = write_stays v s file offset 0 (b ∷ bytes) room

part_proceeds : (v : View) (file : List ℕ) (offset : ℕ) (bytes : List ℕ) → Proceeds v (after_part v file offset bytes)
part_proceeds v file offset [] = stays v
part_proceeds v file offset (b ∷ bytes) = file_proceeds v (files.Write file offset 0 (b ∷ bytes))

part_puts : (v : View) (file : List ℕ) (offset : ℕ) (bytes : List ℕ) (f : Found v file) (content : Content) → f.node.holds ≡ File content
    → Puts (server_of v) (server_of (after_part v file offset bytes)) file content.bytes content.stable (put_at offset bytes content.bytes) content.stable
part_puts v file offset [] f content is = record {
  file = object_of f.place f.node;
  held = ap held_of is;
  turns = record { has = has_found v file f; new = object_of f.place f.node; is = (has_found v file f).is; becomes = record { holds = ap held_of is; gone = refl; kind = refl; fileid = refl } };
  only = (looks v file f).only;
}
part_puts v file offset (b ∷ bytes) f content is =
    puts v (after_part v file offset (b ∷ bytes)) file f (written (next v) offset 0 (b ∷ bytes)) (write_changed v file offset 0 (b ∷ bytes) f) content.bytes content.stable (put_at offset (b ∷ bytes) content.bytes) content.stable
    (ap held_of is) (ap (λ (x : Holds). held_of (with_bytes offset 0 (b ∷ bytes) x)) is)

-- ---- a WRITE

-- each of the two ways: it breaks off, or it is refused as another one
ways : (P : View × FileKept → Type 0) (v : View) (file : List ℕ) (offset how : ℕ) (bytes : List ℕ) (count number : ℕ)
    → (file_refusal v (files.Write file offset how bytes) ≡ 0 → P (partly_written v file offset (take count bytes) number)) → P (file_executed v (files.Write file offset how bytes))
    → P (file_partly_executed v (files.Write file offset how bytes) count number)
ways P v file offset how bytes count number broken whole =
    cond_both (file_refusal v (files.Write file offset how bytes) == 0) (partly_written v file offset (take count bytes) number) (file_executed v (files.Write file offset how bytes)) P
    (λ e. broken (eqb-true (file_refusal v (files.Write file offset how bytes)) 0 e))
    (λ e. whole)

write_serves : (v : View) (file : List ℕ) (offset how : ℕ) (bytes : List ℕ) (count number : ℕ) → Sound v → IsSpelled (calls.File (files.Write file offset how bytes)) → 0 < number
    → Serves (server_of v) (calls.File (files.Write file offset how bytes)) (partly_executed v (calls.File (files.Write file offset how bytes)) count number).1
    (server_of (partly_executed v (calls.File (files.Write file offset how bytes)) count number).0)
write_serves v file offset how bytes count number s b k =
    ways (λ (z : View × FileKept). Serves (server_of v) (calls.File (files.Write file offset how bytes)) (replies.File z.1) (server_of z.0)) v file offset how bytes count number
    (λ e.
    let p = file_passes v (files.Write file offset how bytes) file e in
    let f = found v file b.0 p.stale in
    let c = file_found v (files.Write file offset how bytes) file f p refl in
    let w = after_part v file offset (take count bytes) in
    broken_off file offset how bytes (status number) (wcc v.nodes w.nodes file) refl refl (record {
      now = c.0.bytes;
      stable = c.0.stable;
      steady = c.0.stable;
      count = count;
      puts = part_puts v file offset (take count bytes) f c.0 c.1;
      kept = inl refl;
      nonzero = λ q. omega (arith, k, q);
      shows = true_wcc v w file b.0;
    }))
    (serves v (calls.File (files.Write file offset how bytes)) s b)

write_sound : (v : View) (file : List ℕ) (offset how : ℕ) (bytes : List ℕ) (count number : ℕ) → Sound v → HandlesAreBytes (calls.File (files.Write file offset how bytes))
    → Sound (partly_executed v (calls.File (files.Write file offset how bytes)) count number).0
write_sound v file offset how bytes count number s b =
    ways (λ (z : View × FileKept). Sound z.0) v file offset how bytes count number
    (λ e. part_stays v s file offset (take count bytes) (numbers_left v (file_passes v (files.Write file offset how bytes) file e).full))
    (stays_sound v (calls.File (files.Write file offset how bytes)) s b)

write_spelled : (v : View) (file : List ℕ) (offset how : ℕ) (bytes : List ℕ) (count number : ℕ) → 0 < number → HasSpellingReply (partly_executed v (calls.File (files.Write file offset how bytes)) count number).1
write_spelled v file offset how bytes count number k =
    ways (λ (z : View × FileKept). HasSpellingReply (replies.File z.1)) v file offset how bytes count number (λ e. k) (reply_spelled v (calls.File (files.Write file offset how bytes)) tt)

-- ---- any call

-- what holds of each WRITE holds of each call that is one
of_write : (P : Call → Type 0) → ((file : List ℕ) (offset how : ℕ) (bytes : List ℕ) → P (calls.File (files.Write file offset how bytes))) → (call : Call) → IsWrite call → P call
of_write P f (calls.File (files.Write file offset how bytes)) w = f file offset how bytes
of_write P f (calls.File files.Null) w = absurd w
of_write P f (calls.File (files.GetAttr file)) w = absurd w
of_write P f (calls.File (files.SetAttr file set guard)) w = absurd w
of_write P f (calls.File (files.Access file bits)) w = absurd w
of_write P f (calls.File (files.Read file offset count)) w = absurd w
of_write P f (calls.File (files.FsStat file)) w = absurd w
of_write P f (calls.File (files.FsInfo file)) w = absurd w
of_write P f (calls.File (files.PathConf file)) w = absurd w
of_write P f (calls.File (files.Commit file offset count)) w = absurd w
of_write P f (calls.Dir call) w = absurd w
of_write P f (calls.Mount call) w = absurd w

pub partly_serves : (v : View) (call : Call) (count number : ℕ) → IsWrite call → 0 < number → Sound v → IsSpelled call → Serves (server_of v) call (partly_executed v call count number).1 (server_of (partly_executed v call count number).0)
partly_serves v call count number w k s b =
    of_write (λ (c : Call). IsSpelled c → Serves (server_of v) c (partly_executed v c count number).1 (server_of (partly_executed v c count number).0)) (λ file offset how bytes b. write_serves v file offset how bytes count number s b k) call w b

pub partly_sound : (v : View) (call : Call) (count number : ℕ) → IsWrite call → Sound v → HandlesAreBytes call → Sound (partly_executed v call count number).0
partly_sound v call count number w s b =
    of_write (λ (c : Call). HandlesAreBytes c → Sound (partly_executed v c count number).0) (λ file offset how bytes b. write_sound v file offset how bytes count number s b) call w b

-- the export is what the call makes of it, or a part of a WRITE
either_way : (P : View → Type 0) (v : View) (call : Call) (count number : ℕ) → P (executed v call).0 → ((file : List ℕ) (offset : ℕ) (bytes : List ℕ) → P (after_part v file offset bytes)) → P (partly_executed v call count number).0
either_way P v (calls.File files.Null) count number whole part = whole
either_way P v (calls.File (files.GetAttr file)) count number whole part = whole
either_way P v (calls.File (files.SetAttr file set guard)) count number whole part = whole
either_way P v (calls.File (files.Access file bits)) count number whole part = whole
either_way P v (calls.File (files.Read file offset most)) count number whole part = whole
either_way P v (calls.File (files.Write file offset how bytes)) count number whole part =
    ways (λ (z : View × FileKept). P z.0) v file offset how bytes count number (λ e. part file offset (take count bytes)) whole
either_way P v (calls.File (files.FsStat file)) count number whole part = whole
either_way P v (calls.File (files.FsInfo file)) count number whole part = whole
either_way P v (calls.File (files.PathConf file)) count number whole part = whole
either_way P v (calls.File (files.Commit file offset most)) count number whole part = whole
either_way P v (calls.Dir call) count number whole part = whole
either_way P v (calls.Mount call) count number whole part = whole

pub partly_proceeds : (v : View) (call : Call) (count number : ℕ) → Proceeds v (partly_executed v call count number).0
partly_proceeds v call count number = either_way (Proceeds v) v call count number (executed_proceeds v call) (part_proceeds v)

part_reboots : (v : View) (file : List ℕ) (offset : ℕ) (bytes : List ℕ) → (after_part v file offset bytes).reboots ≡ v.reboots
part_reboots v file offset [] = refl
part_reboots v file offset (b ∷ bytes) = refl

pub partly_reboots : (v : View) (call : Call) (count number : ℕ) → (partly_executed v call count number).0.reboots ≡ v.reboots
partly_reboots v call count number = either_way (λ (w : View). w.reboots ≡ v.reboots) v call count number (same_reboots v call) (part_reboots v)

partly_spelled : (v : View) (call : Call) (count number : ℕ) → IsWrite call → 0 < number → HasSpellingReply (partly_executed v call count number).1
partly_spelled v call count number w k = of_write (λ (c : Call). HasSpellingReply (partly_executed v c count number).1) (λ file offset how bytes. write_spelled v file offset how bytes count number k) call w

-- ---- from what the call gives

other_whole : (v : View) (call : FileCall) (count number : ℕ) → ((file : List ℕ) (offset how : ℕ) (bytes : List ℕ) → call ≡ files.Write file offset how bytes → ⊥) → file_executed v call ≡ file_partly_executed v call count number
other_whole v files.Null count number no_write = refl
other_whole v (files.GetAttr file) count number no_write = refl
other_whole v (files.SetAttr file set guard) count number no_write = refl
other_whole v (files.Access file bits) count number no_write = refl
other_whole v (files.Read file offset most) count number no_write = refl
other_whole v (files.Write file offset how bytes) count number no_write = absurd (no_write file offset how bytes refl)
other_whole v (files.FsStat file) count number no_write = refl
other_whole v (files.FsInfo file) count number no_write = refl
other_whole v (files.PathConf file) count number no_write = refl
other_whole v (files.Commit file offset most) count number no_write = refl

-- a call of another kind is executed whole
pub other_executes : (v w : View) (call : FileCall) (count number : ℕ) (result : Result FileKept Memory) → ((file : List ℕ) (offset how : ℕ) (bytes : List ℕ) → call ≡ files.Write file offset how bytes → ⊥)
    → IfOk result (λ reply. (w ≡ (file_executed v call).0) × (reply ≡ (file_executed v call).1)) → IfOk result (λ reply. (w ≡ (file_partly_executed v call count number).0) × (reply ≡ (file_partly_executed v call count number).1))
other_executes v w call count number result no_write e =
    subst (λ (z : View × FileKept). IfOk result (λ reply. (w ≡ z.0) × (reply ≡ z.1))) (other_whole v call count number no_write) e

abbrev Executes : View → View → Call → ℕ → ℕ → Result Reply Memory → Type 0
Executes v w call count number result = IfOk result (λ reply. (w ≡ (partly_executed v call count number).0) × (reply ≡ (partly_executed v call count number).1))

pub partial_spelled : (v w : View) (call : Call) (count number : ℕ) (result : Result Reply Memory) → Executes v w call count number result → IsWrite call → 0 < number → IfOk result HasSpellingReply
partial_spelled v w call count number (Ok reply) e is k = subst HasSpellingReply (sym e.1) (partly_spelled v call count number is k)
partial_spelled v w call count number (Err fault) e is k = tt

pub partial_sound : (v w : View) (call : Call) (count number : ℕ) (result : Result Reply Memory) → Executes v w call count number result → OnErr result (w ≡ v) → IsWrite call → HandlesAreBytes call → Sound v → Sound w
partial_sound v w call count number (Ok reply) e k is b s = subst Sound (sym e.0) (partly_sound v call count number is s b)
partial_sound v w call count number (Err fault) e k is b s = subst Sound (sym k) s

pub partial_serves : (v w : View) (call : Call) (count number : ℕ) (result : Result Reply Memory) → Executes v w call count number result → IsWrite call → 0 < number → HandlesAreBytes call → Sound v → HasSpellingCall call
    → IfOk result (λ reply. Serves (server_of v) call reply (server_of w))
partial_serves v w call count number (Ok reply) e is k b s h =
    subst (λ (r : Reply). Serves (server_of v) call r (server_of w)) (sym e.1)
    (subst (λ (z : View). Serves (server_of v) call (partly_executed v call count number).1 (server_of z)) (sym e.0) (partly_serves v call count number is k s (is_spelled call b h)))
partial_serves v w call count number (Err fault) e is k b s h = tt

partial_proceeds : (v w : View) (call : Call) (count number : ℕ) (result : Result Reply Memory) → Executes v w call count number result → OnErr result (w ≡ v) → Proceeds v w
partial_proceeds v w call count number (Ok reply) e k = subst (Proceeds v) (sym e.0) (partly_proceeds v call count number)
partial_proceeds v w call count number (Err fault) e k = subst (Proceeds v) (sym k) (stays v)

pub partial_stamped : (v w : View) (call : Call) (count number : ℕ) (result : Result Reply Memory) → Executes v w call count number result → OnErr result (w ≡ v) → Stamped v → Stamped w
partial_stamped v w call count number result e k s = stamped_after v w s (partial_proceeds v w call count number result e k)

pub partial_fresh : (v w : View) (call : Call) (count number : ℕ) (result : Result Reply Memory) → Executes v w call count number result → OnErr result (w ≡ v) → TakesNew v w
partial_fresh v w call count number result e k = changed_above v w (partial_proceeds v w call count number result e k)
