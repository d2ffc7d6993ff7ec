-- A record that is a call on a file is no other call; and one that is a reply to it is no other reply.
use Rattle.std.proofs.Common.{◌≡◌, ℕ, true, false, List, Some, Result, Ok, Err, refl, sym, ap, subst, ◌∙◌, arith}
use Rattle.xdr_codec.specs.declared.reader.XdrFault.{XdrFault}
use Rattle.rpc_message.specs.Reply.{RpcReply, Accepted, refusal_number, SpellsRefusal}
use Rattle.rpc_message.specs.declared.call.CallFault.{CallFault}
use Rattle.rpc_message.specs.declared.call.CallHead.{CallHead}
use Rattle.rpc_message.specs.declared.reply.ReplyFault.{ReplyFault}
use Rattle.rpc_message.proofs.CallLaws.{call_again}
use Rattle.rpc_message.proofs.ReplyLaws.{reply_again}
use Rattle.nfs_dir_calls.specs.declared.call.DirCall.{DirCall}
use Rattle.nfs_dir_calls.specs.declared.call.DirCall.TheVariants as dirs
use Rattle.nfs_dir_calls.specs.Calls.{dir_proc}
use Rattle.nfs_file_calls.specs.declared.call.FileCall.{FileCall}
use Rattle.nfs_file_calls.specs.declared.call.FileCall.TheVariants as files
use Rattle.nfs_file_calls.specs.declared.owned.FileKept.{FileKept}
use Rattle.nfs_file_calls.specs.Calls.{file_proc, is_file_proc, file_call_at, SpellsFileArgs}
use Rattle.nfs_file_calls.proofs.CallLaws as file_laws
use Rattle.nfs_file_calls.proofs.ReplyLaws.{file_reply_codec}
use Rattle.world_model.specs.declared.message.Call.{Call}
use Rattle.world_model.specs.declared.message.Call.TheVariants as calls
use Rattle.world_model.specs.declared.message.Reply.{Reply}
use Rattle.world_model.specs.declared.message.Reply.TheVariants as replies
use Rattle.world_model.specs.Messages.{head_of, program_of, proc_of, SpellsCall, SpellsArguments, SpellsReply, SpellsResults}

-- ---- one head, and one list of arguments

found_call : CallHead → List ℕ → Result (CallHead × List ℕ) CallFault
found_call head args = Ok (head, args)

head_or : CallHead → Result (CallHead × List ℕ) CallFault → CallHead
head_or a (Ok (head, args)) = head
head_or a (Err fault) = a

args_or : List ℕ → Result (CallHead × List ℕ) CallFault → List ℕ
args_or m (Ok (head, args)) = args
args_or m (Err fault) = m

head_is : (a b : CallHead) (m n : List ℕ) → found_call a m ≡ found_call b n → a ≡ b
unfolding head_or found_call
head_is a b m n e = ap (head_or a) e

args_are : (a b : CallHead) (m n : List ℕ) → found_call a m ≡ found_call b n → m ≡ n
unfolding args_or found_call
args_are a b m n e = ap (args_or m) e

-- ---- one call

ok_is : {A : Type 0} (a b : A) → ◌≡◌ {A = Result A XdrFault} (Ok a) (Ok b) → a ≡ b
ok_is a b e = cc

one_file : (a b : FileCall) (args : List ℕ) → file_proc a ≡ file_proc b → SpellsFileArgs a args → SpellsFileArgs b args → a ≡ b
one_file a b args same s t =
    ok_is a b (sym (file_laws.call_again a args s) ∙ ap (λ (n : ℕ). file_call_at n args) same ∙ file_laws.call_again b args t)

file_number : (a : FileCall) → is_file_proc (file_proc a) ≡ true
file_number files.Null = refl
file_number (files.GetAttr file) = refl
file_number (files.SetAttr file set guard) = refl
file_number (files.Access file bits) = refl
file_number (files.Read file offset count) = refl
file_number (files.Write file offset how bytes) = refl
file_number (files.FsStat file) = refl
file_number (files.FsInfo file) = refl
file_number (files.PathConf file) = refl
file_number (files.Commit file offset count) = refl

dir_number : (a : DirCall) → is_file_proc (dir_proc a) ≡ false
dir_number (dirs.Lookup dir name) = refl
dir_number (dirs.ReadLink file) = refl
dir_number (dirs.Create dir name making) = refl
dir_number (dirs.MkDir dir name set) = refl
dir_number (dirs.SymLink dir name set target) = refl
dir_number (dirs.MkNod dir name node) = refl
dir_number (dirs.Remove dir name) = refl
dir_number (dirs.RmDir dir name) = refl
dir_number (dirs.Rename dir name to_dir to) = refl
dir_number (dirs.Link file dir name) = refl
dir_number (dirs.ReadDir dir cookie verf count) = refl
dir_number (dirs.ReadDirPlus dir cookie verf dircount maxcount) = refl

apart : (a : FileCall) (b : DirCall) → file_proc a ≡ dir_proc b → ⊥
apart a b same = let no_way : true ≡ false = sym (file_number a) ∙ ap is_file_proc same ∙ dir_number b in cc

one_args : (a : FileCall) (b : Call) (args : List ℕ) → program_of b ≡ program_of (calls.File a) → file_proc a ≡ proc_of b → SpellsFileArgs a args → SpellsArguments b args
    → calls.File a ≡ b
one_args a (calls.File b) args n same s t = ap (λ (c : FileCall). calls.File c) (one_file a b args same s t)
one_args a (calls.Dir b) args n same s t = absurd (apart a b same)
one_args a (calls.Mount b) args n same s t = absurd (omega (arith, n))

pub one_file_call : (x y : ℕ) (a : FileCall) (b : Call) (bytes : List ℕ) → SpellsCall x (calls.File a) bytes → SpellsCall y b bytes → calls.File a ≡ b
unfolding found_call
one_file_call x y a b bytes s t = one_args a b t.args (ap (λ (h : CallHead). h.prog) (sym head)) (ap (λ (h : CallHead). h.proc) head) (subst (SpellsFileArgs a) args s.is) t.is
  where
    both : found_call (head_of x (calls.File a)) s.args ≡ found_call (head_of y b) t.args
    both = sym (call_again (head_of x (calls.File a)) s.args bytes s.head) ∙ call_again (head_of y b) t.args bytes t.head

    head : head_of x (calls.File a) ≡ head_of y b
    head = head_is (head_of x (calls.File a)) (head_of y b) s.args t.args both

    args : s.args ≡ t.args
    args = args_are (head_of x (calls.File a)) (head_of y b) s.args t.args both

-- ---- one reply

reply_ok : (p q : RpcReply) → ◌≡◌ {A = Result RpcReply ReplyFault} (Ok p) (Ok q) → p ≡ q
reply_ok p q e = cc

-- a record that is a reply refuses nothing
pub unrefused : (x y number : ℕ) (call : Call) (reply : Reply) (b : List ℕ) → SpellsReply x call reply b → SpellsRefusal y number b → ⊥
unrefused x y number call reply b s r = differ (ap refusal_number (reply_ok (Accepted x s.results) r.reply (sym (reply_again (Accepted x s.results) b s.accepted) ∙ reply_again r.reply b r.is)) ∙ r.numbered)
  where
    differ : refusal_number (Accepted x s.results) ≡ Some number → ⊥
    differ e = absurd (cc e)

results_of : List ℕ → RpcReply → List ℕ
results_of d (Accepted x results) = results
results_of d other = d

one_result : (call : FileCall) (a : FileKept) (b : Reply) (results : List ℕ) → SpellsResults (calls.File call) (replies.File a) results → SpellsResults (calls.File call) b results → b ≡ replies.File a
one_result call a (replies.File b) results s t =
    let codec = file_reply_codec (file_proc call) in
    ap (λ (z : FileKept). replies.File z) (ok_is b a (sym (codec.again b results t) ∙ codec.again a results s))
one_result call a (replies.Dir b) results s t = absurd t
one_result call a (replies.Mount b) results s t = absurd t

pub one_file_reply : (x y : ℕ) (call : FileCall) (a : FileKept) (b : Reply) (bytes : List ℕ) → SpellsReply x (calls.File call) (replies.File a) bytes → SpellsReply y (calls.File call) b bytes
    → b ≡ replies.File a
unfolding results_of
one_file_reply x y call a b bytes s t =
    let both : Accepted x s.results ≡ Accepted y t.results =
    reply_ok (Accepted x s.results) (Accepted y t.results) (sym (reply_again (Accepted x s.results) bytes s.accepted) ∙ reply_again (Accepted y t.results) bytes t.accepted) in
    let results : s.results ≡ t.results = ap (results_of s.results) both in
    one_result call a b t.results (subst (λ z. SpellsResults (calls.File call) (replies.File a) z) results s.is) t.is
