-- What the records that answer MNT and FSINFO mean, from what their results mean.
use Rattle.std.proofs.Common.{ℕ, List, Result, Ok, Err, subst}
use Rattle.nfs_file_calls.specs.Replies.{SpellsFileReply}
use Rattle.mount_calls.specs.Replies.{SpellsMountReply}
use Rattle.call_replies.specs.Records.{HasResults}
use Rattle.world_model.specs.declared.answer.Fault.{Fault}
use Rattle.world_model.specs.declared.answer.Fault.TheVariants as faults
use Rattle.world_model.specs.declared.message.Reply.{Reply}
use Rattle.world_model.specs.declared.message.Reply.TheVariants as replies
use Rattle.world_model.specs.Messages.{SpellsReply}
use Rattle.world_model.specs.Mounts.{mount_call, info_call}
use Rattle.world_model.specs.Rules.{unspelled}
use Rattle.session_setup.specs.declared.opening.SetUpFault.{SetUpFault}
use Rattle.session_setup.specs.declared.opening.SetUpFault.TheVariants.{Refused, Lost, Memory}
use Rattle.session_setup.specs.declared.sizes.Greatest.{Greatest}
use Rattle.session_setup.specs.Replies.{MountHeard, InfoHeard, NoFileReply, NoMountReply, MountedBy, InformedBy}

mount_unspelled : (x : ℕ) (path results rec : List ℕ) → HasResults x results rec → NoMountReply 1 results → (reply : Reply) → SpellsReply x (mount_call path) reply rec → ⊥
mount_unspelled x path results rec one lacks (replies.Mount reply) s = lacks reply (subst (λ (rs : List ℕ). SpellsMountReply 1 reply rs) (one.only s.results s.accepted) s.is)
mount_unspelled x path results rec one lacks (replies.Dir reply) s = s.is
mount_unspelled x path results rec one lacks (replies.File reply) s = s.is

pub mount_heard : (x : ℕ) (path results rec : List ℕ) (result : Result (List ℕ) SetUpFault) → HasResults x results rec → MountedBy results result → MountHeard x path rec result
mount_heard x path results rec (Ok root) one f = (f.0, record { results = results; accepted = one.is; is = f.1 })
mount_heard x path results rec (Err (Refused (faults.Nfs n))) one f = (replies.Mount f.0, record { results = results; accepted = one.is; is = f.1 }, f.2, f.3)
mount_heard x path results rec (Err (Refused (faults.Rpc n))) one f = absurd f
mount_heard x path results rec (Err (Refused (faults.Bad n))) one f = unspelled f.0 one.reply (record { no_reply = mount_unspelled x path results rec one f.1; no_refusal = one.accepted })
mount_heard x path results rec (Err (Refused faults.Lost)) one f = f
mount_heard x path results rec (Err (Refused faults.Spent)) one f = f
mount_heard x path results rec (Err (Refused faults.Slot)) one f = f
mount_heard x path results rec (Err (Refused faults.Mode)) one f = f
mount_heard x path results rec (Err (Refused faults.Kind)) one f = f
mount_heard x path results rec (Err (Refused faults.Many)) one f = f
mount_heard x path results rec (Err (Refused faults.Memory)) one f = f
mount_heard x path results rec (Err Memory) one f = tt
mount_heard x path results rec (Err (Lost tally)) one f = f

info_unspelled : (x : ℕ) (root results rec : List ℕ) → HasResults x results rec → NoFileReply 19 results → (reply : Reply) → SpellsReply x (info_call root) reply rec → ⊥
info_unspelled x root results rec one lacks (replies.File reply) s = lacks reply (subst (λ (rs : List ℕ). SpellsFileReply 19 reply rs) (one.only s.results s.accepted) s.is)
info_unspelled x root results rec one lacks (replies.Dir reply) s = s.is
info_unspelled x root results rec one lacks (replies.Mount reply) s = s.is

pub info_heard : (x : ℕ) (root results rec : List ℕ) (result : Result Greatest Fault) → HasResults x results rec → InformedBy results result → InfoHeard x root rec result
info_heard x root results rec (Ok g) one f = record {
  attr = f.0;
  rtpref = f.1;
  rtmult = f.2;
  wtpref = f.3;
  wtmult = f.4;
  dtpref = f.5;
  maxfilesize = f.6;
  delta = f.7;
  properties = f.8;
  spells = record { results = results; accepted = one.is; is = f.9 };
}
info_heard x root results rec (Err (faults.Nfs n)) one f = (replies.File f.0, record { results = results; accepted = one.is; is = f.1 }, f.2, f.3)
info_heard x root results rec (Err (faults.Rpc n)) one f = absurd f
info_heard x root results rec (Err (faults.Bad n)) one f = unspelled f.0 one.reply (record { no_reply = info_unspelled x root results rec one f.1; no_refusal = one.accepted })
info_heard x root results rec (Err faults.Lost) one f = f
info_heard x root results rec (Err faults.Spent) one f = f
info_heard x root results rec (Err faults.Slot) one f = f
info_heard x root results rec (Err faults.Mode) one f = f
info_heard x root results rec (Err faults.Kind) one f = f
info_heard x root results rec (Err faults.Many) one f = f
info_heard x root results rec (Err faults.Memory) one f = f
