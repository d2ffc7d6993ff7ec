-- The results that are read are those that spell a reply.
use Rattle.std.proofs.Common.{◌≡◌, ℕ, List, Result, Ok, Err, subst}
use Rattle.xdr_codec.specs.declared.reader.XdrFault.{XdrFault}
use Rattle.xdr_codec.specs.declared.reader.XdrFault.TheVariants.{BadValue}
use Rattle.xdr_codec.specs.Bytes.{IsBytes}
use Rattle.xdr_codec.specs.Arms.{Done, Failure}
use Rattle.xdr_codec.proofs.MoreLaws.{of}
use Rattle.xdr_codec.proofs.WholeLaws.{WholeCodec}
use Rattle.nfs_dir_calls.specs.declared.keeping.DirKept.{DirKept}
use Rattle.nfs_dir_calls.specs.Replies.{reply_proc, dir_reply_at, SpellsReply, SpellsDirReply}
use Rattle.nfs_dir_calls.proofs.Readers.{at_number}
use Rattle.nfs_dir_calls.proofs.LookupLaws.{lookup_takes, lookup_again}
use Rattle.nfs_dir_calls.proofs.ReadLinkLaws.{readlink_takes, readlink_again}
use Rattle.nfs_dir_calls.proofs.CreateLaws.{create_takes, create_again}
use Rattle.nfs_dir_calls.proofs.MkDirLaws.{mkdir_takes, mkdir_again}
use Rattle.nfs_dir_calls.proofs.SymLinkLaws.{symlink_takes, symlink_again}
use Rattle.nfs_dir_calls.proofs.MkNodLaws.{mknod_takes, mknod_again}
use Rattle.nfs_dir_calls.proofs.RemoveLaws.{remove_takes, remove_again, rmdir_takes, rmdir_again}
use Rattle.nfs_dir_calls.proofs.RenameLaws.{rename_takes, rename_again}
use Rattle.nfs_dir_calls.proofs.LinkLaws.{link_takes, link_again}
use Rattle.nfs_dir_calls.proofs.ReadDirLaws.{readdir_takes, readdir_again}
use Rattle.nfs_dir_calls.proofs.ReadDirPlusLaws.{readdirplus_takes, readdirplus_again}
use Rattle.nfs_dir_calls.specs.declared.keeping.DirKept.TheVariants as kept

abbrev bad : Result DirKept XdrFault
bad = Err BadValue

no_reply : (proc : ℕ) (results : List ℕ) (v : DirKept) → bad ≡ of v → SpellsDirReply proc v results
no_reply proc results v e = absurd cc

reply_takes : (proc : ℕ) (results : List ℕ) (v : DirKept) → IsBytes results → dir_reply_at proc results ≡ Ok v → SpellsDirReply proc v results
reply_takes proc results v fits e =
    let T : ℕ → Type 0 = λ n. SpellsDirReply n v results in
    at_number T proc 3 _ _ v (lookup_takes results v fits) (λ e0.
    at_number T proc 5 _ _ v (readlink_takes results v fits) (λ e1.
    at_number T proc 8 _ _ v (create_takes results v fits) (λ e2.
    at_number T proc 9 _ _ v (mkdir_takes results v fits) (λ e3.
    at_number T proc 10 _ _ v (symlink_takes results v fits) (λ e4.
    at_number T proc 11 _ _ v (mknod_takes results v fits) (λ e5.
    at_number T proc 12 _ _ v (remove_takes results v fits) (λ e6.
    at_number T proc 13 _ _ v (rmdir_takes results v fits) (λ e7.
    at_number T proc 14 _ _ v (rename_takes results v fits) (λ e8.
    at_number T proc 15 _ _ v (link_takes results v fits) (λ e9.
    at_number T proc 16 _ _ v (readdir_takes results v fits) (λ e10.
    at_number T proc 17 _ _ v (readdirplus_takes results v fits) (λ e11.
    no_reply proc results v e11) e10) e9) e8) e7) e6) e5) e4) e3) e2) e1) e0) e

reply_again : (v : DirKept) (results : List ℕ) → SpellsReply v results → dir_reply_at (reply_proc v) results ≡ Ok v
reply_again (kept.Lookup found attr dir) results s = lookup_again (Done (found, (attr, dir))) results s
reply_again (kept.LookupFail status dir) results s = lookup_again (Failure status.0 dir) results s
reply_again (kept.ReadLink attr text) results s = readlink_again (Done (attr, text)) results s
reply_again (kept.ReadLinkFail status attr) results s = readlink_again (Failure status.0 attr) results s
reply_again (kept.Create found attr wcc) results s = create_again (Done (found, (attr, wcc))) results s
reply_again (kept.CreateFail status wcc) results s = create_again (Failure status.0 wcc) results s
reply_again (kept.MkDir found attr wcc) results s = mkdir_again (Done (found, (attr, wcc))) results s
reply_again (kept.MkDirFail status wcc) results s = mkdir_again (Failure status.0 wcc) results s
reply_again (kept.SymLink found attr wcc) results s = symlink_again (Done (found, (attr, wcc))) results s
reply_again (kept.SymLinkFail status wcc) results s = symlink_again (Failure status.0 wcc) results s
reply_again (kept.MkNod found attr wcc) results s = mknod_again (Done (found, (attr, wcc))) results s
reply_again (kept.MkNodFail status wcc) results s = mknod_again (Failure status.0 wcc) results s
reply_again (kept.Remove wcc) results s = remove_again (Done wcc) results s
reply_again (kept.RemoveFail status wcc) results s = remove_again (Failure status.0 wcc) results s
reply_again (kept.RmDir wcc) results s = rmdir_again (Done wcc) results s
reply_again (kept.RmDirFail status wcc) results s = rmdir_again (Failure status.0 wcc) results s
reply_again (kept.Rename «from» to) results s = rename_again (Done («from», to)) results s
reply_again (kept.RenameFail status «from» to) results s = rename_again (Failure status.0 («from», to)) results s
reply_again (kept.Link attr wcc) results s = link_again (Done (attr, wcc)) results s
reply_again (kept.LinkFail status attr wcc) results s = link_again (Failure status.0 (attr, wcc)) results s
reply_again (kept.ReadDir attr verf page eof) results s = readdir_again (Done (attr, (verf, (page, eof)))) results s
reply_again (kept.ReadDirFail status attr) results s = readdir_again (Failure status.0 attr) results s
reply_again (kept.ReadDirPlus attr verf page eof) results s = readdirplus_again (Done (attr, (verf, (page, eof)))) results s
reply_again (kept.ReadDirPlusFail status attr) results s = readdirplus_again (Failure status.0 attr) results s

pub dir_reply_codec : (proc : ℕ) → WholeCodec (dir_reply_at proc) (SpellsDirReply proc)
dir_reply_codec proc = record {
  takes = λ results v fits e. reply_takes proc results v fits e;
  again = λ v results s. subst (λ (n : ℕ). dir_reply_at n results ≡ Ok v) s.of (reply_again v results s.is);
}
