-- MNT and FSINFO have one xid each.
use Rattle.std.proofs.Common.{◌≡◌, ℕ, List, Result, Ok, Err, sym, ap, ◌∙◌, arith}
use Rattle.rpc_message.specs.declared.call.CallHead.{CallHead}
use Rattle.rpc_message.specs.declared.call.CallFault.{CallFault}
use Rattle.rpc_message.specs.declared.cred.Cred.{Cred}
use Rattle.rpc_message.proofs.CallLaws.{call_again}
use Rattle.world_model.specs.declared.entry.Entry.{Entry}
use Rattle.world_model.specs.declared.message.Call.{Call}
use Rattle.world_model.specs.Messages.{SpellsCall, head_of, program_of}
use Rattle.world_model.specs.Mounts.{Origin, mount_call, info_call}
use Rattle.session_setup.specs.Sendings.{IsSetUpCall, mounts, informs, IsSetUpRecord, info_xid}

found_call : CallHead → List ℕ → Result (CallHead × List ℕ) CallFault
found_call head args = Ok (head, args)

head_or : CallHead → Result (CallHead × List ℕ) CallFault → CallHead
head_or a (Ok (head, args)) = head
head_or a (Err fault) = a

head_is : (a b : CallHead) (m n : List ℕ) → found_call a m ≡ found_call b n → a ≡ b
unfolding head_or found_call
head_is a b m n e = ap (head_or a) e

pub heads_same : (x y : ℕ) (c d : Call) (b : List ℕ) → SpellsCall x c b → SpellsCall y d b → head_of x c ≡ head_of y d
unfolding found_call
heads_same x y c d b s t = head_is (head_of x c) (head_of y d) s.args t.args (sym (call_again (head_of x c) s.args b s.head) ∙ call_again (head_of y d) t.args b t.head)

pub same_xid : (a b : CallHead) → a ≡ b → a.xid ≡ b.xid
same_xid a b e = ap (λ (h : CallHead). h.xid) e

pub same_program : (a b : CallHead) → a ≡ b → a.prog ≡ b.prog
same_program a b e = ap (λ (h : CallHead). h.prog) e

pub mount_xid : (o : Origin) (cred : Cred) (first : ℕ) (h : List Entry) (i : ℕ) (b : List ℕ) (x : ℕ) (path : List ℕ) → IsSetUpRecord o cred first h i b → SpellsCall x (mount_call path) b → x ≡ first
mount_xid o cred first h i b x path r s = by_call r.is
  where
    by_call : IsSetUpCall o first h i r.xid r.call → x ≡ first
    by_call (mounts other a is e) = same_xid _ _ (heads_same x r.xid (mount_call path) r.call b s r.made.spells) ∙ e
    by_call (informs root a is e) =
        let p = same_program _ _ (heads_same x r.xid (mount_call path) r.call b s r.made.spells) in
        let q : program_of r.call ≡ program_of (info_call root) = ap program_of is in
        absurd (omega (arith, p, q))

pub info_xid_is : (o : Origin) (cred : Cred) (first : ℕ) (h : List Entry) (i : ℕ) (b : List ℕ) (x : ℕ) (root : List ℕ) → IsSetUpRecord o cred first h i b → SpellsCall x (info_call root) b → x ≡ info_xid o first
info_xid_is o cred first h i b x root r s = by_call r.is
  where
    by_call : IsSetUpCall o first h i r.xid r.call → x ≡ info_xid o first
    by_call (informs other a is e) = same_xid _ _ (heads_same x r.xid (info_call root) r.call b s r.made.spells) ∙ e
    by_call (mounts path a is e) =
        let p = same_program _ _ (heads_same x r.xid (info_call root) r.call b s r.made.spells) in
        let q : program_of r.call ≡ program_of (mount_call path) = ap program_of is in
        absurd (omega (arith, p, q))
