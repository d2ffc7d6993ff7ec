-- The arguments that are read are those that spell a call.
use Rattle.std.proofs.Common.{◌≡◌, ℕ, List, Result, Ok, Err, subst}
use Rattle.xdr_codec.specs.declared.reader.XdrFault.{XdrFault}
use Rattle.xdr_codec.specs.declared.reader.XdrFault.TheVariants.{BadValue}
use Rattle.xdr_codec.specs.Bytes.{IsBytes}
use Rattle.xdr_codec.proofs.MoreLaws.{of}
use Rattle.xdr_codec.proofs.WholeLaws.{WholeCodec}
use Rattle.nfs_dir_calls.specs.declared.call.DirCall.{DirCall}
use Rattle.nfs_dir_calls.specs.Calls.{dir_proc, dir_call_at, SpellsDirCall, SpellsDirCallOf}
use Rattle.nfs_dir_calls.proofs.Readers.{at_number}
use Rattle.nfs_dir_calls.proofs.LookupLaws.{lookup_call_takes, lookup_call_again}
use Rattle.nfs_dir_calls.proofs.ReadLinkLaws.{readlink_call_takes, readlink_call_again}
use Rattle.nfs_dir_calls.proofs.CreateLaws.{create_call_takes, create_call_again}
use Rattle.nfs_dir_calls.proofs.MkDirLaws.{mkdir_call_takes, mkdir_call_again}
use Rattle.nfs_dir_calls.proofs.SymLinkLaws.{symlink_call_takes, symlink_call_again}
use Rattle.nfs_dir_calls.proofs.MkNodLaws.{mknod_call_takes, mknod_call_again}
use Rattle.nfs_dir_calls.proofs.RemoveLaws.{remove_call_takes, remove_call_again, rmdir_call_takes, rmdir_call_again}
use Rattle.nfs_dir_calls.proofs.RenameLaws.{rename_call_takes, rename_call_again}
use Rattle.nfs_dir_calls.proofs.LinkLaws.{link_call_takes, link_call_again}
use Rattle.nfs_dir_calls.proofs.ReadDirLaws.{readdir_call_takes, readdir_call_again}
use Rattle.nfs_dir_calls.proofs.ReadDirPlusLaws.{readdirplus_call_takes, readdirplus_call_again}
use Rattle.nfs_dir_calls.specs.declared.call.DirCall.TheVariants as calls

abbrev bad : Result DirCall XdrFault
bad = Err BadValue

no_call : (proc : ℕ) (args : List ℕ) (v : DirCall) → bad ≡ of v → SpellsDirCallOf proc v args
no_call proc args v e = absurd cc

call_takes : (proc : ℕ) (args : List ℕ) (v : DirCall) → IsBytes args → dir_call_at proc args ≡ Ok v → SpellsDirCallOf proc v args
call_takes proc args v fits e =
    let T : ℕ → Type 0 = λ n. SpellsDirCallOf n v args in
    at_number T proc 3 _ _ v (lookup_call_takes args v fits) (λ e0.
    at_number T proc 5 _ _ v (readlink_call_takes args v fits) (λ e1.
    at_number T proc 8 _ _ v (create_call_takes args v fits) (λ e2.
    at_number T proc 9 _ _ v (mkdir_call_takes args v fits) (λ e3.
    at_number T proc 10 _ _ v (symlink_call_takes args v fits) (λ e4.
    at_number T proc 11 _ _ v (mknod_call_takes args v fits) (λ e5.
    at_number T proc 12 _ _ v (remove_call_takes args v fits) (λ e6.
    at_number T proc 13 _ _ v (rmdir_call_takes args v fits) (λ e7.
    at_number T proc 14 _ _ v (rename_call_takes args v fits) (λ e8.
    at_number T proc 15 _ _ v (link_call_takes args v fits) (λ e9.
    at_number T proc 16 _ _ v (readdir_call_takes args v fits) (λ e10.
    at_number T proc 17 _ _ v (readdirplus_call_takes args v fits) (λ e11.
    no_call proc args v e11) e10) e9) e8) e7) e6) e5) e4) e3) e2) e1) e0) e

call_again : (v : DirCall) (args : List ℕ) → SpellsDirCall v args → dir_call_at (dir_proc v) args ≡ Ok v
call_again (calls.Lookup dir name) args s = lookup_call_again dir name args s
call_again (calls.ReadLink file) args s = readlink_call_again file args s
call_again (calls.Create dir name making) args s = create_call_again dir name making args s
call_again (calls.MkDir dir name set) args s = mkdir_call_again dir name set args s
call_again (calls.SymLink dir name set target) args s = symlink_call_again dir name set target args s
call_again (calls.MkNod dir name node) args s = mknod_call_again dir name node args s
call_again (calls.Remove dir name) args s = remove_call_again dir name args s
call_again (calls.RmDir dir name) args s = rmdir_call_again dir name args s
call_again (calls.Rename from_dir «from» to_dir to) args s = rename_call_again from_dir «from» to_dir to args s
call_again (calls.Link file dir name) args s = link_call_again file dir name args s
call_again (calls.ReadDir dir cookie verf count) args s = readdir_call_again dir cookie verf count args s
call_again (calls.ReadDirPlus dir cookie verf dircount maxcount) args s = readdirplus_call_again dir cookie verf dircount maxcount args s

pub dir_call_codec : (proc : ℕ) → WholeCodec (dir_call_at proc) (SpellsDirCallOf proc)
dir_call_codec proc = record {
  takes = λ args v fits e. call_takes proc args v fits e;
  again = λ v args s. subst (λ (n : ℕ). dir_call_at n args ≡ Ok v) s.of (call_again v args s.is);
}
