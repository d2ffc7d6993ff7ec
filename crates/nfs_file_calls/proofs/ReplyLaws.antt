-- Replies: what is read is spelled so, and what is spelled so is read.
use Rattle.std.proofs.Common.{◌≡◌, ℕ, List, Option, Result, Ok, Err, refl}
use Rattle.std.specs.Prelude.{IfOk}
use Rattle.xdr_codec.specs.declared.reader.XdrFault.{XdrFault}
use Rattle.xdr_codec.specs.Whole.{FindsWhole}
use Rattle.nfs_file_calls.specs.declared.reply.FileReply.{FileReply}
use Rattle.xdr_codec.specs.declared.reader.XdrFault.TheVariants.{BadValue}
use Rattle.xdr_codec.specs.Bytes.{IsBytes}
use Rattle.xdr_codec.specs.Arms.{Arms, Done, Failure, SpellsArms}
use Rattle.xdr_codec.proofs.MoreLaws.{arms_codec}
use Rattle.xdr_codec.proofs.WholeLaws.{WholeCodec, whole_codec}
use Rattle.nfs_types.specs.declared.attr.Attr.{Attr}
use Rattle.nfs_types.specs.declared.wcc.Wcc.{Wcc}
use Rattle.nfs_types.specs.Spells.{SpellsAttr, SpellsOptAttr, SpellsWcc}
use Rattle.nfs_types.proofs.Laws.{attr_codec, opt_attr_codec, wcc_codec}
use Rattle.nfs_file_calls.specs.declared.owned.FileKept.{FileKept}
use Rattle.nfs_file_calls.specs.declared.owned.FileKept.TheVariants as kept
use Rattle.nfs_file_calls.specs.Attributes.{SpellsNothing, AccessDone, SpellsAccessDone}
use Rattle.nfs_file_calls.specs.Transfer.{ReadDone, SpellsReadDone, WriteDone, SpellsWriteDone, CommitDone, SpellsCommitDone}
use Rattle.nfs_file_calls.specs.FileSystem.{FsStatDone, SpellsFsStatDone, FsInfoDone, SpellsFsInfoDone, PathConfDone, SpellsPathConfDone}
use Rattle.nfs_file_calls.specs.Replies.{null_reply_at, get_attr_kept, get_attr_reply_at, set_attr_kept, set_attr_reply_at, access_kept, access_reply_at, read_kept, read_reply_at, write_kept, write_reply_at, fs_stat_kept, fs_stat_reply_at, fs_info_kept, fs_info_reply_at, path_conf_kept, path_conf_reply_at, commit_kept, commit_reply_at, file_reply_at, reply_proc, SpellsFileResults, SpellsFileReply, kept_of, HasSpellingReply}
use Rattle.nfs_file_calls.proofs.Tools.{made_takes, made_again, dispatch, nothing_read}
use Rattle.nfs_file_calls.proofs.AttributesLaws.{nothing_codec, access_done_codec}
use Rattle.nfs_file_calls.proofs.TransferLaws.{read_done_codec, write_done_codec, commit_done_codec}
use Rattle.nfs_file_calls.proofs.FileSystemLaws.{fs_stat_done_codec, fs_info_done_codec, path_conf_done_codec}

null_takes : (results : List ℕ) (v : FileKept) → IsBytes results → null_reply_at results ≡ Ok v → SpellsFileReply 0 v results
unfolding null_reply_at
null_takes = made_takes (SpellsFileReply 0) (λ v. kept.Null) (whole_codec nothing_codec) (λ a results s. record { answers = refl; is = s })

get_attr_spelled : (a : Arms Attr (Unit {0})) (results : List ℕ) → SpellsArms SpellsAttr SpellsNothing a results → SpellsFileReply 1 (get_attr_kept a) results
get_attr_spelled (Done v) results s = record { answers = refl; is = s }
get_attr_spelled (Failure status w) results s = record { answers = refl; is = s }

get_attr_takes : (results : List ℕ) (v : FileKept) → IsBytes results → get_attr_reply_at results ≡ Ok v → SpellsFileReply 1 v results
unfolding get_attr_reply_at
get_attr_takes = made_takes (SpellsFileReply 1) get_attr_kept (whole_codec (arms_codec attr_codec nothing_codec)) get_attr_spelled

set_attr_spelled : (a : Arms Wcc Wcc) (results : List ℕ) → SpellsArms SpellsWcc SpellsWcc a results → SpellsFileReply 2 (set_attr_kept a) results
set_attr_spelled (Done v) results s = record { answers = refl; is = s }
set_attr_spelled (Failure status w) results s = record { answers = refl; is = s }

set_attr_takes : (results : List ℕ) (v : FileKept) → IsBytes results → set_attr_reply_at results ≡ Ok v → SpellsFileReply 2 v results
unfolding set_attr_reply_at
set_attr_takes = made_takes (SpellsFileReply 2) set_attr_kept (whole_codec (arms_codec wcc_codec wcc_codec)) set_attr_spelled

access_spelled : (a : Arms AccessDone (Option Attr)) (results : List ℕ) → SpellsArms SpellsAccessDone SpellsOptAttr a results → SpellsFileReply 4 (access_kept a) results
access_spelled (Done v) results s = record { answers = refl; is = s }
access_spelled (Failure status w) results s = record { answers = refl; is = s }

access_takes : (results : List ℕ) (v : FileKept) → IsBytes results → access_reply_at results ≡ Ok v → SpellsFileReply 4 v results
unfolding access_reply_at
access_takes = made_takes (SpellsFileReply 4) access_kept (whole_codec (arms_codec access_done_codec opt_attr_codec)) access_spelled

read_spelled : (a : Arms ReadDone (Option Attr)) (results : List ℕ) → SpellsArms SpellsReadDone SpellsOptAttr a results → SpellsFileReply 6 (read_kept a) results
read_spelled (Done v) results s = record { answers = refl; is = s }
read_spelled (Failure status w) results s = record { answers = refl; is = s }

read_takes : (results : List ℕ) (v : FileKept) → IsBytes results → read_reply_at results ≡ Ok v → SpellsFileReply 6 v results
unfolding read_reply_at
read_takes = made_takes (SpellsFileReply 6) read_kept (whole_codec (arms_codec read_done_codec opt_attr_codec)) read_spelled

write_spelled : (a : Arms WriteDone Wcc) (results : List ℕ) → SpellsArms SpellsWriteDone SpellsWcc a results → SpellsFileReply 7 (write_kept a) results
write_spelled (Done v) results s = record { answers = refl; is = s }
write_spelled (Failure status w) results s = record { answers = refl; is = s }

write_takes : (results : List ℕ) (v : FileKept) → IsBytes results → write_reply_at results ≡ Ok v → SpellsFileReply 7 v results
unfolding write_reply_at
write_takes = made_takes (SpellsFileReply 7) write_kept (whole_codec (arms_codec write_done_codec wcc_codec)) write_spelled

fs_stat_spelled : (a : Arms FsStatDone (Option Attr)) (results : List ℕ) → SpellsArms SpellsFsStatDone SpellsOptAttr a results → SpellsFileReply 18 (fs_stat_kept a) results
fs_stat_spelled (Done v) results s = record { answers = refl; is = s }
fs_stat_spelled (Failure status w) results s = record { answers = refl; is = s }

fs_stat_takes : (results : List ℕ) (v : FileKept) → IsBytes results → fs_stat_reply_at results ≡ Ok v → SpellsFileReply 18 v results
unfolding fs_stat_reply_at
fs_stat_takes = made_takes (SpellsFileReply 18) fs_stat_kept (whole_codec (arms_codec fs_stat_done_codec opt_attr_codec)) fs_stat_spelled

fs_info_spelled : (a : Arms FsInfoDone (Option Attr)) (results : List ℕ) → SpellsArms SpellsFsInfoDone SpellsOptAttr a results → SpellsFileReply 19 (fs_info_kept a) results
fs_info_spelled (Done v) results s = record { answers = refl; is = s }
fs_info_spelled (Failure status w) results s = record { answers = refl; is = s }

fs_info_takes : (results : List ℕ) (v : FileKept) → IsBytes results → fs_info_reply_at results ≡ Ok v → SpellsFileReply 19 v results
unfolding fs_info_reply_at
fs_info_takes = made_takes (SpellsFileReply 19) fs_info_kept (whole_codec (arms_codec fs_info_done_codec opt_attr_codec)) fs_info_spelled

path_conf_spelled : (a : Arms PathConfDone (Option Attr)) (results : List ℕ) → SpellsArms SpellsPathConfDone SpellsOptAttr a results → SpellsFileReply 20 (path_conf_kept a) results
path_conf_spelled (Done v) results s = record { answers = refl; is = s }
path_conf_spelled (Failure status w) results s = record { answers = refl; is = s }

path_conf_takes : (results : List ℕ) (v : FileKept) → IsBytes results → path_conf_reply_at results ≡ Ok v → SpellsFileReply 20 v results
unfolding path_conf_reply_at
path_conf_takes = made_takes (SpellsFileReply 20) path_conf_kept (whole_codec (arms_codec path_conf_done_codec opt_attr_codec)) path_conf_spelled

commit_spelled : (a : Arms CommitDone Wcc) (results : List ℕ) → SpellsArms SpellsCommitDone SpellsWcc a results → SpellsFileReply 21 (commit_kept a) results
commit_spelled (Done v) results s = record { answers = refl; is = s }
commit_spelled (Failure status w) results s = record { answers = refl; is = s }

commit_takes : (results : List ℕ) (v : FileKept) → IsBytes results → commit_reply_at results ≡ Ok v → SpellsFileReply 21 v results
unfolding commit_reply_at
commit_takes = made_takes (SpellsFileReply 21) commit_kept (whole_codec (arms_codec commit_done_codec wcc_codec)) commit_spelled

reply_takes : (proc : ℕ) (results : List ℕ) (v : FileKept) → IsBytes results → file_reply_at proc results ≡ Ok v → SpellsFileReply proc v results
reply_takes proc results v fits =
    dispatch 0 proc _ _ v (λ p e. rw p (null_takes results v fits e)) (
    dispatch 1 proc _ _ v (λ p e. rw p (get_attr_takes results v fits e)) (
    dispatch 2 proc _ _ v (λ p e. rw p (set_attr_takes results v fits e)) (
    dispatch 4 proc _ _ v (λ p e. rw p (access_takes results v fits e)) (
    dispatch 6 proc _ _ v (λ p e. rw p (read_takes results v fits e)) (
    dispatch 7 proc _ _ v (λ p e. rw p (write_takes results v fits e)) (
    dispatch 18 proc _ _ v (λ p e. rw p (fs_stat_takes results v fits e)) (
    dispatch 19 proc _ _ v (λ p e. rw p (fs_info_takes results v fits e)) (
    dispatch 20 proc _ _ v (λ p e. rw p (path_conf_takes results v fits e)) (
    dispatch 21 proc _ _ v (λ p e. rw p (commit_takes results v fits e)) (
    nothing_read BadValue v))))))))))

pub reply_again : (v : FileKept) (results : List ℕ) → SpellsFileResults v results → file_reply_at (reply_proc v) results ≡ Ok v
unfolding null_reply_at get_attr_reply_at set_attr_reply_at access_reply_at read_reply_at write_reply_at fs_stat_reply_at fs_info_reply_at path_conf_reply_at commit_reply_at
reply_again kept.Null results s = made_again (λ v. kept.Null) (whole_codec nothing_codec) tt results s
reply_again (kept.GetAttr attr) results s = made_again get_attr_kept (whole_codec (arms_codec attr_codec nothing_codec)) (Done attr) results s
reply_again (kept.GetAttrFail status) results s = made_again get_attr_kept (whole_codec (arms_codec attr_codec nothing_codec)) (Failure status.0 tt) results s
reply_again (kept.SetAttr wcc) results s = made_again set_attr_kept (whole_codec (arms_codec wcc_codec wcc_codec)) (Done wcc) results s
reply_again (kept.SetAttrFail status wcc) results s = made_again set_attr_kept (whole_codec (arms_codec wcc_codec wcc_codec)) (Failure status.0 wcc) results s
reply_again (kept.Access attr bits) results s = made_again access_kept (whole_codec (arms_codec access_done_codec opt_attr_codec)) (Done (record { attr = attr; bits = bits })) results s
reply_again (kept.AccessFail status attr) results s = made_again access_kept (whole_codec (arms_codec access_done_codec opt_attr_codec)) (Failure status.0 attr) results s
reply_again (kept.Read attr count eof bytes) results s = made_again read_kept (whole_codec (arms_codec read_done_codec opt_attr_codec)) (Done (record { attr = attr; count = count; eof = eof; bytes = bytes })) results s
reply_again (kept.ReadFail status attr) results s = made_again read_kept (whole_codec (arms_codec read_done_codec opt_attr_codec)) (Failure status.0 attr) results s
reply_again (kept.Write wcc count committed verf) results s = made_again write_kept (whole_codec (arms_codec write_done_codec wcc_codec)) (Done (record { wcc = wcc; count = count; committed = committed; verf = verf })) results s
reply_again (kept.WriteFail status wcc) results s = made_again write_kept (whole_codec (arms_codec write_done_codec wcc_codec)) (Failure status.0 wcc) results s
reply_again (kept.FsStat attr tbytes fbytes abytes tfiles ffiles afiles invarsec) results s = made_again fs_stat_kept (whole_codec (arms_codec fs_stat_done_codec opt_attr_codec)) (Done (record { attr = attr; tbytes = tbytes; fbytes = fbytes; abytes = abytes; tfiles = tfiles; ffiles = ffiles; afiles = afiles; invarsec = invarsec })) results s
reply_again (kept.FsStatFail status attr) results s = made_again fs_stat_kept (whole_codec (arms_codec fs_stat_done_codec opt_attr_codec)) (Failure status.0 attr) results s
reply_again (kept.FsInfo attr rtmax rtpref rtmult wtmax wtpref wtmult dtpref maxfilesize time_delta properties) results s = made_again fs_info_kept (whole_codec (arms_codec fs_info_done_codec opt_attr_codec)) (Done (record { attr = attr; rtmax = rtmax; rtpref = rtpref; rtmult = rtmult; wtmax = wtmax; wtpref = wtpref; wtmult = wtmult; dtpref = dtpref; maxfilesize = maxfilesize; time_delta = time_delta; properties = properties })) results s
reply_again (kept.FsInfoFail status attr) results s = made_again fs_info_kept (whole_codec (arms_codec fs_info_done_codec opt_attr_codec)) (Failure status.0 attr) results s
reply_again (kept.PathConf attr linkmax name_max no_trunc chown_restricted case_insensitive case_preserving) results s = made_again path_conf_kept (whole_codec (arms_codec path_conf_done_codec opt_attr_codec)) (Done (record { attr = attr; linkmax = linkmax; name_max = name_max; no_trunc = no_trunc; chown_restricted = chown_restricted; case_insensitive = case_insensitive; case_preserving = case_preserving })) results s
reply_again (kept.PathConfFail status attr) results s = made_again path_conf_kept (whole_codec (arms_codec path_conf_done_codec opt_attr_codec)) (Failure status.0 attr) results s
reply_again (kept.Commit wcc verf) results s = made_again commit_kept (whole_codec (arms_codec commit_done_codec wcc_codec)) (Done (record { wcc = wcc; verf = verf })) results s
reply_again (kept.CommitFail status wcc) results s = made_again commit_kept (whole_codec (arms_codec commit_done_codec wcc_codec)) (Failure status.0 wcc) results s

pub file_reply_codec : (proc : ℕ) → WholeCodec (file_reply_at proc) (SpellsFileReply proc)
file_reply_codec proc = record {
  takes = reply_takes proc;
  again = λ v results s. rw (← s.answers) (reply_again v results s.is);
}

-- a reply that bytes spell has a spelling
pub reply_has : (v : FileKept) (results : List ℕ) → SpellsFileResults v results → HasSpellingReply v
reply_has kept.Null results s = tt
reply_has (kept.GetAttr attr) results s = tt
reply_has (kept.GetAttrFail status) results s = s.failed
reply_has (kept.SetAttr wcc) results s = tt
reply_has (kept.SetAttrFail status wcc) results s = s.failed
reply_has (kept.Access attr bits) results s = tt
reply_has (kept.AccessFail status attr) results s = s.failed
reply_has (kept.Read attr count eof bytes) results s = s.two.two.two.two.two.bound
reply_has (kept.ReadFail status attr) results s = s.failed
reply_has (kept.Write wcc count committed verf) results s = tt
reply_has (kept.WriteFail status wcc) results s = s.failed
reply_has (kept.FsStat attr tbytes fbytes abytes tfiles ffiles afiles invarsec) results s = tt
reply_has (kept.FsStatFail status attr) results s = s.failed
reply_has (kept.FsInfo attr rtmax rtpref rtmult wtmax wtpref wtmult dtpref maxfilesize time_delta properties) results s = tt
reply_has (kept.FsInfoFail status attr) results s = s.failed
reply_has (kept.PathConf attr linkmax name_max no_trunc chown_restricted case_insensitive case_preserving) results s = tt
reply_has (kept.PathConfFail status attr) results s = s.failed
reply_has (kept.Commit wcc verf) results s = tt
reply_has (kept.CommitFail status wcc) results s = s.failed

pub read_reply_has : (proc : ℕ) (results : List ℕ) (result : Result FileReply XdrFault) → FindsWhole kept_of (SpellsFileReply proc) results result → IfOk result (λ v. HasSpellingReply (kept_of v))
read_reply_has proc results (Ok v) f = reply_has (kept_of v) results f.found.is
read_reply_has proc results (Err e) f = tt
