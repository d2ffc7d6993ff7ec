-- A record is one call at most.
use Rattle.core_answers.proofs.Prelude.{◌≡◌, ℕ, true, false, List, Result, Ok, Err, refl, sym, ap, subst, ◌∙◌, arith, FileCall, Call, program_of, proc_of, SpellsCall}
use Rattle.world_model.specs.Messages.{head_of, SpellsArguments}
use Rattle.xdr_codec.specs.declared.reader.XdrFault.{XdrFault}
use Rattle.rpc_message.specs.declared.call.CallFault.{CallFault}
use Rattle.rpc_message.specs.declared.call.CallHead.{CallHead}
use Rattle.rpc_message.proofs.CallLaws.{call_again}
use Rattle.nfs_dir_calls.specs.declared.call.DirCall.{DirCall}
use Rattle.nfs_dir_calls.specs.declared.call.DirCall.TheVariants as dirs
use Rattle.nfs_dir_calls.specs.Calls.{dir_proc, dir_call_at, SpellsDirCall}
use Rattle.nfs_dir_calls.proofs.Calls.{dir_call_codec}
use Rattle.nfs_file_calls.specs.declared.call.FileCall.TheVariants as files
use Rattle.nfs_file_calls.specs.Calls.{file_proc, is_file_proc, file_call_at, SpellsFileArgs}
use Rattle.nfs_file_calls.proofs.CallLaws as file_laws
use Rattle.world_model.specs.declared.message.Call.TheVariants as calls

-- ---- one head, and one list of arguments

found_call : CallHead → List ℕ → Result (CallHead × List ℕ) CallFault
found_call head args = Ok (head, args)

head_or : CallHead → Result (CallHead × List ℕ) CallFault → CallHead
head_or a (Ok (head, args)) = head
head_or a (Err fault) = a

args_or : List ℕ → Result (CallHead × List ℕ) CallFault → List ℕ
args_or m (Ok (head, args)) = args
args_or m (Err fault) = m

head-is : (a b : CallHead) (m n : List ℕ) → found_call a m ≡ found_call b n → a ≡ b
unfolding head_or found_call
head-is a b m n e = ap (head_or a) e

args-are : (a b : CallHead) (m n : List ℕ) → found_call a m ≡ found_call b n → m ≡ n
unfolding args_or found_call
args-are a b m n e = ap (args_or m) e

-- ---- one call

ok-is : {A : Type 0} (a b : A) → ◌≡◌ {A = Result A XdrFault} (Ok a) (Ok b) → a ≡ b
ok-is a b e = cc

one-file : (a b : FileCall) (args : List ℕ) → file_proc a ≡ file_proc b → SpellsFileArgs a args → SpellsFileArgs b args → a ≡ b
one-file a b args same s t =
    ok-is a b (sym (file_laws.call_again a args s) ∙ ap (λ (n : ℕ). file_call_at n args) same ∙ file_laws.call_again b args t)

one-dir : (a b : DirCall) (args : List ℕ) → dir_proc a ≡ dir_proc b → SpellsDirCall a args → SpellsDirCall b args → a ≡ b
one-dir a b args same s t =
    ok-is a b (sym ((dir_call_codec (dir_proc a)).again a args (record { of = refl; is = s })) ∙ ap (λ (n : ℕ). dir_call_at n args) same
    ∙ (dir_call_codec (dir_proc b)).again b args (record { of = refl; is = t }))

file-number : (a : FileCall) → is_file_proc (file_proc a) ≡ true
file-number files.Null = refl
file-number (files.GetAttr file) = refl
file-number (files.SetAttr file set guard) = refl
file-number (files.Access file bits) = refl
file-number (files.Read file offset count) = refl
file-number (files.Write file offset how bytes) = refl
file-number (files.FsStat file) = refl
file-number (files.FsInfo file) = refl
file-number (files.PathConf file) = refl
file-number (files.Commit file offset count) = refl

dir-number : (a : DirCall) → is_file_proc (dir_proc a) ≡ false
dir-number (dirs.Lookup dir name) = refl
dir-number (dirs.ReadLink file) = refl
dir-number (dirs.Create dir name making) = refl
dir-number (dirs.MkDir dir name set) = refl
dir-number (dirs.SymLink dir name set target) = refl
dir-number (dirs.MkNod dir name node) = refl
dir-number (dirs.Remove dir name) = refl
dir-number (dirs.RmDir dir name) = refl
dir-number (dirs.Rename dir name to_dir to) = refl
dir-number (dirs.Link file dir name) = refl
dir-number (dirs.ReadDir dir cookie verf count) = refl
dir-number (dirs.ReadDirPlus dir cookie verf dircount maxcount) = refl

apart : (a : FileCall) (b : DirCall) → file_proc a ≡ dir_proc b → ⊥
apart a b same = let no-way : true ≡ false = sym (file-number a) ∙ ap is_file_proc same ∙ dir-number b in cc

-- of NFS
abbrev pub IsNfs : Call → Type 0
IsNfs (calls.File call) = Unit {0}
IsNfs (calls.Dir call) = Unit {0}
IsNfs (calls.Mount call) = ⊥

as-nfs : (a b : Call) → IsNfs a → program_of b ≡ program_of a → IsNfs b
as-nfs a (calls.File call) nfs same = tt
as-nfs a (calls.Dir call) nfs same = tt
as-nfs (calls.File a) (calls.Mount call) nfs same = absurd (omega (arith, same))
as-nfs (calls.Dir a) (calls.Mount call) nfs same = absurd (omega (arith, same))
as-nfs (calls.Mount a) (calls.Mount call) nfs same = nfs

one-args : (a b : Call) (args : List ℕ) → IsNfs a → IsNfs b → proc_of a ≡ proc_of b → SpellsArguments a args → SpellsArguments b args → a ≡ b
one-args (calls.File a) (calls.File b) args m n same s t = ap (λ (c : FileCall). calls.File c) (one-file a b args same s t)
one-args (calls.Dir a) (calls.Dir b) args m n same s t = ap (λ (c : DirCall). calls.Dir c) (one-dir a b args same s t)
one-args (calls.File a) (calls.Dir b) args m n same s t = absurd (apart a b same)
one-args (calls.Dir a) (calls.File b) args m n same s t = absurd (apart b a (sym same))
one-args (calls.Mount a) b args m n same s t = absurd m
one-args (calls.File a) (calls.Mount b) args m n same s t = absurd n
one-args (calls.Dir a) (calls.Mount b) args m n same s t = absurd n

pub one-call : (x y : ℕ) (a b : Call) (bytes : List ℕ) → IsNfs a → SpellsCall x a bytes → SpellsCall y b bytes → a ≡ b
unfolding found_call
one-call x y a b bytes nfs s t = one-args a b t.args nfs (as-nfs a b nfs (ap (λ (h : CallHead). h.prog) (sym head))) (ap (λ (h : CallHead). h.proc) head) (subst (SpellsArguments a) args s.is) t.is
  where
    both : found_call (head_of x a) s.args ≡ found_call (head_of y b) t.args
    both = sym (call_again (head_of x a) s.args bytes s.head) ∙ call_again (head_of y b) t.args bytes t.head

    head : head_of x a ≡ head_of y b
    head = head-is (head_of x a) (head_of y b) s.args t.args both

    args : s.args ≡ t.args
    args = args-are (head_of x a) (head_of y b) s.args t.args both
