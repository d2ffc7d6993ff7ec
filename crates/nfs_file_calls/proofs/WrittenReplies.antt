-- The written results of a reply spell it.
use Rattle.std.proofs.Common.{◌≡◌, ◌<◌, ◌≤◌, ◌^◌, ℕ, Bool, List, length, Option, refl, subst}
use Rattle.nfs_types.specs.declared.attr.Attr.{Attr}
use Rattle.nfs_types.specs.declared.status.Status.{Status}
use Rattle.nfs_types.specs.declared.time.Time.{Time}
use Rattle.nfs_types.specs.declared.verf.Verf.{Verf}
use Rattle.nfs_types.specs.declared.wcc.Wcc.{Wcc}
use Rattle.nfs_types.specs.Fields.{attr_bytes, opt_attr_bytes, wcc_bytes, verf_bytes, time_bytes}
use Rattle.nfs_types.specs.Spells.{SpellsAttr, SpellsOptAttr, SpellsWcc, SpellsVerf, SpellsTime}
use Rattle.nfs_file_calls.specs.declared.reply.FileReply.{FileReply}
use Rattle.nfs_file_calls.specs.declared.owned.FileKept.TheVariants as kept
use Rattle.nfs_file_calls.specs.Attributes.{access_done_bytes, SpellsAccessDone}
use Rattle.nfs_file_calls.specs.Transfer.{read_done_bytes, SpellsReadDone, write_done_bytes, SpellsWriteDone, commit_done_bytes, SpellsCommitDone}
use Rattle.nfs_file_calls.specs.FileSystem.{fs_stat_done_bytes, SpellsFsStatDone, fs_info_done_bytes, SpellsFsInfoDone, path_conf_done_bytes, SpellsPathConfDone}
use Rattle.nfs_file_calls.specs.Replies.{kept_of, HasSpellingReply, file_reply_bytes, SpellsFileResults}
use Rattle.nfs_file_calls.proofs.Written.{done_written, failed_written, bare_failed_written, access_done_written, read_done_written, write_done_written, commit_done_written, fs_stat_done_written, fs_info_done_written, path_conf_done_written}

pub null_reply_written : SpellsFileResults kept.Null (file_reply_bytes kept.Null)
unfolding file_reply_bytes
null_reply_written = record { is = refl }

pub get_attr_reply_written : (attr : Attr) → SpellsAttr attr (attr_bytes attr) → SpellsFileResults (kept.GetAttr attr) (file_reply_bytes (kept.GetAttr attr))
unfolding file_reply_bytes
get_attr_reply_written attr s = done_written (SpellsAttr attr) (attr_bytes attr) s

pub get_attr_fail_written : (status : Status) → 0 < status.0 → status.0 < 2 ^ 32 → SpellsFileResults (kept.GetAttrFail status) (file_reply_bytes (kept.GetAttrFail status))
unfolding file_reply_bytes
get_attr_fail_written status failed fits = bare_failed_written status.0 failed fits

pub set_attr_reply_written : (wcc : Wcc) → SpellsWcc wcc (wcc_bytes wcc) → SpellsFileResults (kept.SetAttr wcc) (file_reply_bytes (kept.SetAttr wcc))
unfolding file_reply_bytes
set_attr_reply_written wcc s = done_written (SpellsWcc wcc) (wcc_bytes wcc) s

pub set_attr_fail_written : (status : Status) (wcc : Wcc) → 0 < status.0 → status.0 < 2 ^ 32 → SpellsWcc wcc (wcc_bytes wcc) → SpellsFileResults (kept.SetAttrFail status wcc) (file_reply_bytes (kept.SetAttrFail status wcc))
unfolding file_reply_bytes
set_attr_fail_written status wcc failed fits s = failed_written SpellsWcc status.0 wcc (wcc_bytes wcc) failed fits s

pub access_reply_written : (attr : Option Attr) (bits : ℕ) → SpellsOptAttr attr (opt_attr_bytes attr) → bits < 2 ^ 32 → SpellsFileResults (kept.Access attr bits) (file_reply_bytes (kept.Access attr bits))
unfolding file_reply_bytes
access_reply_written attr bits a b = done_written (SpellsAccessDone (record { attr = attr; bits = bits })) (access_done_bytes attr bits) (access_done_written attr bits a b)

pub access_fail_written : (status : Status) (attr : Option Attr) → 0 < status.0 → status.0 < 2 ^ 32 → SpellsOptAttr attr (opt_attr_bytes attr) → SpellsFileResults (kept.AccessFail status attr) (file_reply_bytes (kept.AccessFail status attr))
unfolding file_reply_bytes
access_fail_written status attr failed fits s = failed_written SpellsOptAttr status.0 attr (opt_attr_bytes attr) failed fits s

pub read_reply_written : (attr : Option Attr) (count : ℕ) (eof : Bool) (bytes : List ℕ) → SpellsOptAttr attr (opt_attr_bytes attr) → count < 2 ^ 32 → length bytes ≤ 65536 → SpellsFileResults (kept.Read attr count eof bytes) (file_reply_bytes (kept.Read attr count eof bytes))
unfolding file_reply_bytes
read_reply_written attr count eof bytes a b c = done_written (SpellsReadDone (record { attr = attr; count = count; eof = eof; bytes = bytes })) (read_done_bytes attr count eof bytes) (read_done_written attr count eof bytes a b c)

pub read_fail_written : (status : Status) (attr : Option Attr) → 0 < status.0 → status.0 < 2 ^ 32 → SpellsOptAttr attr (opt_attr_bytes attr) → SpellsFileResults (kept.ReadFail status attr) (file_reply_bytes (kept.ReadFail status attr))
unfolding file_reply_bytes
read_fail_written status attr failed fits s = failed_written SpellsOptAttr status.0 attr (opt_attr_bytes attr) failed fits s

pub write_reply_written : (wcc : Wcc) (count committed : ℕ) (verf : Verf) → SpellsWcc wcc (wcc_bytes wcc) → count < 2 ^ 32 → committed < 2 ^ 32 → SpellsVerf verf (verf_bytes verf) → SpellsFileResults (kept.Write wcc count committed verf) (file_reply_bytes (kept.Write wcc count committed verf))
unfolding file_reply_bytes
write_reply_written wcc count committed verf a b c d = done_written (SpellsWriteDone (record { wcc = wcc; count = count; committed = committed; verf = verf })) (write_done_bytes wcc count committed verf) (write_done_written wcc count committed verf a b c d)

pub write_fail_written : (status : Status) (wcc : Wcc) → 0 < status.0 → status.0 < 2 ^ 32 → SpellsWcc wcc (wcc_bytes wcc) → SpellsFileResults (kept.WriteFail status wcc) (file_reply_bytes (kept.WriteFail status wcc))
unfolding file_reply_bytes
write_fail_written status wcc failed fits s = failed_written SpellsWcc status.0 wcc (wcc_bytes wcc) failed fits s

pub fs_stat_reply_written : (attr : Option Attr) (tbytes fbytes abytes tfiles ffiles afiles invarsec : ℕ) → SpellsOptAttr attr (opt_attr_bytes attr) → tbytes < 2 ^ 64 → fbytes < 2 ^ 64 → abytes < 2 ^ 64 → tfiles < 2 ^ 64 → ffiles < 2 ^ 64 → afiles < 2 ^ 64 → invarsec < 2 ^ 32 → SpellsFileResults (kept.FsStat attr tbytes fbytes abytes tfiles ffiles afiles invarsec) (file_reply_bytes (kept.FsStat attr tbytes fbytes abytes tfiles ffiles afiles invarsec))
unfolding file_reply_bytes
fs_stat_reply_written attr tbytes fbytes abytes tfiles ffiles afiles invarsec a b c d e f g h = done_written (SpellsFsStatDone (record { attr = attr; tbytes = tbytes; fbytes = fbytes; abytes = abytes; tfiles = tfiles; ffiles = ffiles; afiles = afiles; invarsec = invarsec })) (fs_stat_done_bytes attr tbytes fbytes abytes tfiles ffiles afiles invarsec) (fs_stat_done_written attr tbytes fbytes abytes tfiles ffiles afiles invarsec a b c d e f g h)

pub fs_stat_fail_written : (status : Status) (attr : Option Attr) → 0 < status.0 → status.0 < 2 ^ 32 → SpellsOptAttr attr (opt_attr_bytes attr) → SpellsFileResults (kept.FsStatFail status attr) (file_reply_bytes (kept.FsStatFail status attr))
unfolding file_reply_bytes
fs_stat_fail_written status attr failed fits s = failed_written SpellsOptAttr status.0 attr (opt_attr_bytes attr) failed fits s

pub fs_info_reply_written : (attr : Option Attr) (rtmax rtpref rtmult wtmax wtpref wtmult dtpref maxfilesize : ℕ) (time_delta : Time) (properties : ℕ) → SpellsOptAttr attr (opt_attr_bytes attr) → rtmax < 2 ^ 32 → rtpref < 2 ^ 32 → rtmult < 2 ^ 32 → wtmax < 2 ^ 32 → wtpref < 2 ^ 32 → wtmult < 2 ^ 32 → dtpref < 2 ^ 32 → maxfilesize < 2 ^ 64 → SpellsTime time_delta (time_bytes time_delta) → properties < 2 ^ 32 → SpellsFileResults (kept.FsInfo attr rtmax rtpref rtmult wtmax wtpref wtmult dtpref maxfilesize time_delta properties) (file_reply_bytes (kept.FsInfo attr rtmax rtpref rtmult wtmax wtpref wtmult dtpref maxfilesize time_delta properties))
unfolding file_reply_bytes
fs_info_reply_written attr rtmax rtpref rtmult wtmax wtpref wtmult dtpref maxfilesize time_delta properties a b c d e f g h i j k = done_written (SpellsFsInfoDone (record { attr = attr; rtmax = rtmax; rtpref = rtpref; rtmult = rtmult; wtmax = wtmax; wtpref = wtpref; wtmult = wtmult; dtpref = dtpref; maxfilesize = maxfilesize; time_delta = time_delta; properties = properties })) (fs_info_done_bytes attr rtmax rtpref rtmult wtmax wtpref wtmult dtpref maxfilesize time_delta properties) (fs_info_done_written attr rtmax rtpref rtmult wtmax wtpref wtmult dtpref maxfilesize time_delta properties a b c d e f g h i j k)

pub fs_info_fail_written : (status : Status) (attr : Option Attr) → 0 < status.0 → status.0 < 2 ^ 32 → SpellsOptAttr attr (opt_attr_bytes attr) → SpellsFileResults (kept.FsInfoFail status attr) (file_reply_bytes (kept.FsInfoFail status attr))
unfolding file_reply_bytes
fs_info_fail_written status attr failed fits s = failed_written SpellsOptAttr status.0 attr (opt_attr_bytes attr) failed fits s

pub path_conf_reply_written : (attr : Option Attr) (linkmax name_max : ℕ) (no_trunc chown_restricted case_insensitive case_preserving : Bool) → SpellsOptAttr attr (opt_attr_bytes attr) → linkmax < 2 ^ 32 → name_max < 2 ^ 32 → SpellsFileResults (kept.PathConf attr linkmax name_max no_trunc chown_restricted case_insensitive case_preserving) (file_reply_bytes (kept.PathConf attr linkmax name_max no_trunc chown_restricted case_insensitive case_preserving))
unfolding file_reply_bytes
path_conf_reply_written attr linkmax name_max no_trunc chown_restricted case_insensitive case_preserving a b c = done_written (SpellsPathConfDone (record { attr = attr; linkmax = linkmax; name_max = name_max; no_trunc = no_trunc; chown_restricted = chown_restricted; case_insensitive = case_insensitive; case_preserving = case_preserving })) (path_conf_done_bytes attr linkmax name_max no_trunc chown_restricted case_insensitive case_preserving) (path_conf_done_written attr linkmax name_max no_trunc chown_restricted case_insensitive case_preserving a b c)

pub path_conf_fail_written : (status : Status) (attr : Option Attr) → 0 < status.0 → status.0 < 2 ^ 32 → SpellsOptAttr attr (opt_attr_bytes attr) → SpellsFileResults (kept.PathConfFail status attr) (file_reply_bytes (kept.PathConfFail status attr))
unfolding file_reply_bytes
path_conf_fail_written status attr failed fits s = failed_written SpellsOptAttr status.0 attr (opt_attr_bytes attr) failed fits s

pub commit_reply_written : (wcc : Wcc) (verf : Verf) → SpellsWcc wcc (wcc_bytes wcc) → SpellsVerf verf (verf_bytes verf) → SpellsFileResults (kept.Commit wcc verf) (file_reply_bytes (kept.Commit wcc verf))
unfolding file_reply_bytes
commit_reply_written wcc verf a b = done_written (SpellsCommitDone (record { wcc = wcc; verf = verf })) (commit_done_bytes wcc verf) (commit_done_written wcc verf a b)

pub commit_fail_written : (status : Status) (wcc : Wcc) → 0 < status.0 → status.0 < 2 ^ 32 → SpellsWcc wcc (wcc_bytes wcc) → SpellsFileResults (kept.CommitFail status wcc) (file_reply_bytes (kept.CommitFail status wcc))
unfolding file_reply_bytes
commit_fail_written status wcc failed fits s = failed_written SpellsWcc status.0 wcc (wcc_bytes wcc) failed fits s

-- ---- one reply for another

abbrev pub IsSpelled : FileReply → Type 0
IsSpelled v = SpellsFileResults (kept_of v) (file_reply_bytes (kept_of v))

pub as_spelled : (v w : FileReply) → v ≡ w → (HasSpellingReply (kept_of w) → IsSpelled w) → HasSpellingReply (kept_of v) → IsSpelled v
as_spelled v w is spelled has = rw is (spelled (subst (λ (r : FileReply). HasSpellingReply (kept_of r)) is has))
