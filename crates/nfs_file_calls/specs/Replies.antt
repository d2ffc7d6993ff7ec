-- The replies to calls on files (RFC 1813, section 3.3): how results are read, and their written spelling.
-- Results begin with a status: 0 with what was asked, another with what comes with a failure. Those of NULL are empty.
use Rattle.std.specs.Prelude.{◌≡◌, ◌<◌, ◌≤◌, ℕ, List, [], ◌++◌, length, Option, Result, Ok, Err, ◌==◌, if◌then◌else◌}
use Rattle.xdr_codec.specs.declared.reader.XdrFault.{XdrFault}
use Rattle.xdr_codec.specs.declared.reader.XdrFault.TheVariants.{BadValue}
use Rattle.xdr_codec.specs.Reading.{◌>>=◌}
use Rattle.xdr_codec.specs.Spelling.{u32_bytes}
use Rattle.xdr_codec.specs.Spells.{◌⨾◌, SpellsU32}
use Rattle.xdr_codec.specs.Arms.{Arms, Done, Failure, arms_at, SpellsStatus}
use Rattle.xdr_codec.specs.Whole.{whole_at}
use Rattle.nfs_types.specs.declared.attr.Attr.{Attr}
use Rattle.nfs_types.specs.declared.wcc.Wcc.{Wcc}
use Rattle.nfs_types.specs.Fields.{attr_at, attr_bytes, opt_attr_at, opt_attr_bytes, wcc_at, wcc_bytes}
use Rattle.nfs_types.specs.Spells.{SpellsAttr, SpellsOptAttr, SpellsWcc}
use Rattle.nfs_types.specs.declared.nfs_proc.TheConstants.{NULL, GETATTR, SETATTR, ACCESS, READ, WRITE, FSSTAT, FSINFO, PATHCONF, COMMIT}
use Rattle.nfs_file_calls.specs.declared.reply.FileReply.{FileReply}
use Rattle.nfs_file_calls.specs.declared.reply.FileReply.TheVariants as replies
use Rattle.nfs_file_calls.specs.declared.owned.FileKept.{FileKept}
use Rattle.nfs_file_calls.specs.declared.owned.FileKept.TheVariants as kept
use Rattle.nfs_file_calls.specs.Attributes.{nothing_at, SpellsNothing, AccessDone, access_done_at, access_done_bytes, SpellsAccessDone}
use Rattle.nfs_file_calls.specs.Transfer.{ReadDone, read_done_at, read_done_bytes, SpellsReadDone, WriteDone, write_done_at, write_done_bytes, SpellsWriteDone, CommitDone, commit_done_at, commit_done_bytes, SpellsCommitDone}
use Rattle.nfs_file_calls.specs.FileSystem.{FsStatDone, fs_stat_done_at, fs_stat_done_bytes, SpellsFsStatDone, FsInfoDone, fs_info_done_at, fs_info_done_bytes, SpellsFsInfoDone, PathConfDone, path_conf_done_at, path_conf_done_bytes, SpellsPathConfDone}

-- what a reply says, wherever its data lie
abbrev pub kept_of : FileReply → FileKept
kept_of replies.Null = kept.Null
kept_of (replies.GetAttr attr) = kept.GetAttr attr
kept_of (replies.GetAttrFail status) = kept.GetAttrFail status
kept_of (replies.SetAttr wcc) = kept.SetAttr wcc
kept_of (replies.SetAttrFail status wcc) = kept.SetAttrFail status wcc
kept_of (replies.Access attr bits) = kept.Access attr bits
kept_of (replies.AccessFail status attr) = kept.AccessFail status attr
kept_of (replies.Read attr count eof bytes) = kept.Read attr count eof bytes
kept_of (replies.ReadFail status attr) = kept.ReadFail status attr
kept_of (replies.Write wcc count committed verf) = kept.Write wcc count committed verf
kept_of (replies.WriteFail status wcc) = kept.WriteFail status wcc
kept_of (replies.FsStat attr tbytes fbytes abytes tfiles ffiles afiles invarsec) = kept.FsStat attr tbytes fbytes abytes tfiles ffiles afiles invarsec
kept_of (replies.FsStatFail status attr) = kept.FsStatFail status attr
kept_of (replies.FsInfo attr rtmax rtpref rtmult wtmax wtpref wtmult dtpref maxfilesize time_delta properties) =
    kept.FsInfo attr rtmax rtpref rtmult wtmax wtpref wtmult dtpref maxfilesize time_delta properties
kept_of (replies.FsInfoFail status attr) = kept.FsInfoFail status attr
kept_of (replies.PathConf attr linkmax name_max no_trunc chown_restricted case_insensitive case_preserving) =
    kept.PathConf attr linkmax name_max no_trunc chown_restricted case_insensitive case_preserving
kept_of (replies.PathConfFail status attr) = kept.PathConfFail status attr
kept_of (replies.Commit wcc verf) = kept.Commit wcc verf
kept_of (replies.CommitFail status wcc) = kept.CommitFail status wcc

-- the procedure that a reply answers
abbrev pub reply_proc : FileKept → ℕ
reply_proc kept.Null = 0
reply_proc (kept.GetAttr attr) = 1
reply_proc (kept.GetAttrFail status) = 1
reply_proc (kept.SetAttr wcc) = 2
reply_proc (kept.SetAttrFail status wcc) = 2
reply_proc (kept.Access attr bits) = 4
reply_proc (kept.AccessFail status attr) = 4
reply_proc (kept.Read attr count eof bytes) = 6
reply_proc (kept.ReadFail status attr) = 6
reply_proc (kept.Write wcc count committed verf) = 7
reply_proc (kept.WriteFail status wcc) = 7
reply_proc (kept.FsStat attr tbytes fbytes abytes tfiles ffiles afiles invarsec) = 18
reply_proc (kept.FsStatFail status attr) = 18
reply_proc (kept.FsInfo attr rtmax rtpref rtmult wtmax wtpref wtmult dtpref maxfilesize time_delta properties) = 19
reply_proc (kept.FsInfoFail status attr) = 19
reply_proc (kept.PathConf attr linkmax name_max no_trunc chown_restricted case_insensitive case_preserving) = 20
reply_proc (kept.PathConfFail status attr) = 20
reply_proc (kept.Commit wcc verf) = 21
reply_proc (kept.CommitFail status wcc) = 21

-- ---- reading

unfoldable pub null_reply_at : List ℕ → Result FileKept XdrFault
null_reply_at results = whole_at nothing_at results >>= λ v. Ok kept.Null

abbrev pub get_attr_kept : Arms Attr (Unit {0}) → FileKept
get_attr_kept (Done attr) = kept.GetAttr attr
get_attr_kept (Failure status none) = kept.GetAttrFail (record { 0 = status })

unfoldable pub get_attr_reply_at : List ℕ → Result FileKept XdrFault
get_attr_reply_at results = whole_at (arms_at attr_at nothing_at) results >>= λ v. Ok (get_attr_kept v)

abbrev pub set_attr_kept : Arms Wcc Wcc → FileKept
set_attr_kept (Done wcc) = kept.SetAttr wcc
set_attr_kept (Failure status wcc) = kept.SetAttrFail (record { 0 = status }) wcc

unfoldable pub set_attr_reply_at : List ℕ → Result FileKept XdrFault
set_attr_reply_at results = whole_at (arms_at wcc_at wcc_at) results >>= λ v. Ok (set_attr_kept v)

abbrev pub access_kept : Arms AccessDone (Option Attr) → FileKept
access_kept (Done v) = kept.Access v.attr v.bits
access_kept (Failure status attr) = kept.AccessFail (record { 0 = status }) attr

unfoldable pub access_reply_at : List ℕ → Result FileKept XdrFault
access_reply_at results = whole_at (arms_at access_done_at opt_attr_at) results >>= λ v. Ok (access_kept v)

abbrev pub read_kept : Arms ReadDone (Option Attr) → FileKept
read_kept (Done v) = kept.Read v.attr v.count v.eof v.bytes
read_kept (Failure status attr) = kept.ReadFail (record { 0 = status }) attr

unfoldable pub read_reply_at : List ℕ → Result FileKept XdrFault
read_reply_at results = whole_at (arms_at read_done_at opt_attr_at) results >>= λ v. Ok (read_kept v)

abbrev pub write_kept : Arms WriteDone Wcc → FileKept
write_kept (Done v) = kept.Write v.wcc v.count v.committed v.verf
write_kept (Failure status wcc) = kept.WriteFail (record { 0 = status }) wcc

unfoldable pub write_reply_at : List ℕ → Result FileKept XdrFault
write_reply_at results = whole_at (arms_at write_done_at wcc_at) results >>= λ v. Ok (write_kept v)

abbrev pub fs_stat_kept : Arms FsStatDone (Option Attr) → FileKept
fs_stat_kept (Done v) = kept.FsStat v.attr v.tbytes v.fbytes v.abytes v.tfiles v.ffiles v.afiles v.invarsec
fs_stat_kept (Failure status attr) = kept.FsStatFail (record { 0 = status }) attr

unfoldable pub fs_stat_reply_at : List ℕ → Result FileKept XdrFault
fs_stat_reply_at results = whole_at (arms_at fs_stat_done_at opt_attr_at) results >>= λ v. Ok (fs_stat_kept v)

abbrev pub fs_info_kept : Arms FsInfoDone (Option Attr) → FileKept
fs_info_kept (Done v) = kept.FsInfo v.attr v.rtmax v.rtpref v.rtmult v.wtmax v.wtpref v.wtmult v.dtpref v.maxfilesize v.time_delta v.properties
fs_info_kept (Failure status attr) = kept.FsInfoFail (record { 0 = status }) attr

unfoldable pub fs_info_reply_at : List ℕ → Result FileKept XdrFault
fs_info_reply_at results = whole_at (arms_at fs_info_done_at opt_attr_at) results >>= λ v. Ok (fs_info_kept v)

abbrev pub path_conf_kept : Arms PathConfDone (Option Attr) → FileKept
path_conf_kept (Done v) = kept.PathConf v.attr v.linkmax v.name_max v.no_trunc v.chown_restricted v.case_insensitive v.case_preserving
path_conf_kept (Failure status attr) = kept.PathConfFail (record { 0 = status }) attr

unfoldable pub path_conf_reply_at : List ℕ → Result FileKept XdrFault
path_conf_reply_at results = whole_at (arms_at path_conf_done_at opt_attr_at) results >>= λ v. Ok (path_conf_kept v)

abbrev pub commit_kept : Arms CommitDone Wcc → FileKept
commit_kept (Done v) = kept.Commit v.wcc v.verf
commit_kept (Failure status wcc) = kept.CommitFail (record { 0 = status }) wcc

unfoldable pub commit_reply_at : List ℕ → Result FileKept XdrFault
commit_reply_at results = whole_at (arms_at commit_done_at wcc_at) results >>= λ v. Ok (commit_kept v)

-- the reply to a procedure, from all of the bytes
abbrev pub file_reply_at : ℕ → List ℕ → Result FileKept XdrFault
file_reply_at proc results =
    if proc == NULL then null_reply_at results else
    (if proc == GETATTR then get_attr_reply_at results else
    (if proc == SETATTR then set_attr_reply_at results else
    (if proc == ACCESS then access_reply_at results else
    (if proc == READ then read_reply_at results else
    (if proc == WRITE then write_reply_at results else
    (if proc == FSSTAT then fs_stat_reply_at results else
    (if proc == FSINFO then fs_info_reply_at results else
    (if proc == PATHCONF then path_conf_reply_at results else
    (if proc == COMMIT then commit_reply_at results else Err BadValue)))))))))

-- ---- spelling

-- the results of a reply
abbrev pub SpellsFileResults : FileKept → List ℕ → Type 0
SpellsFileResults kept.Null = SpellsNothing tt
SpellsFileResults (kept.GetAttr attr) = SpellsU32 0 ⨾ SpellsAttr attr
SpellsFileResults (kept.GetAttrFail status) = SpellsStatus SpellsNothing status.0 tt
SpellsFileResults (kept.SetAttr wcc) = SpellsU32 0 ⨾ SpellsWcc wcc
SpellsFileResults (kept.SetAttrFail status wcc) = SpellsStatus SpellsWcc status.0 wcc
SpellsFileResults (kept.Access attr bits) = SpellsU32 0 ⨾ SpellsAccessDone (record { attr = attr; bits = bits })
SpellsFileResults (kept.AccessFail status attr) = SpellsStatus SpellsOptAttr status.0 attr
SpellsFileResults (kept.Read attr count eof bytes) = SpellsU32 0 ⨾ SpellsReadDone (record { attr = attr; count = count; eof = eof; bytes = bytes })
SpellsFileResults (kept.ReadFail status attr) = SpellsStatus SpellsOptAttr status.0 attr
SpellsFileResults (kept.Write wcc count committed verf) =
    SpellsU32 0 ⨾ SpellsWriteDone (record { wcc = wcc; count = count; committed = committed; verf = verf })
SpellsFileResults (kept.WriteFail status wcc) = SpellsStatus SpellsWcc status.0 wcc
SpellsFileResults (kept.FsStat attr tbytes fbytes abytes tfiles ffiles afiles invarsec) =
    SpellsU32 0 ⨾ SpellsFsStatDone (record {
      attr = attr;
      tbytes = tbytes;
      fbytes = fbytes;
      abytes = abytes;
      tfiles = tfiles;
      ffiles = ffiles;
      afiles = afiles;
      invarsec = invarsec;
    })
SpellsFileResults (kept.FsStatFail status attr) = SpellsStatus SpellsOptAttr status.0 attr
SpellsFileResults (kept.FsInfo attr rtmax rtpref rtmult wtmax wtpref wtmult dtpref maxfilesize time_delta properties) =
    SpellsU32 0 ⨾ SpellsFsInfoDone (record {
      attr = attr;
      rtmax = rtmax;
      rtpref = rtpref;
      rtmult = rtmult;
      wtmax = wtmax;
      wtpref = wtpref;
      wtmult = wtmult;
      dtpref = dtpref;
      maxfilesize = maxfilesize;
      time_delta = time_delta;
      properties = properties;
    })
SpellsFileResults (kept.FsInfoFail status attr) = SpellsStatus SpellsOptAttr status.0 attr
SpellsFileResults (kept.PathConf attr linkmax name_max no_trunc chown_restricted case_insensitive case_preserving) =
    SpellsU32 0 ⨾ SpellsPathConfDone (record {
      attr = attr;
      linkmax = linkmax;
      name_max = name_max;
      no_trunc = no_trunc;
      chown_restricted = chown_restricted;
      case_insensitive = case_insensitive;
      case_preserving = case_preserving;
    })
SpellsFileResults (kept.PathConfFail status attr) = SpellsStatus SpellsOptAttr status.0 attr
SpellsFileResults (kept.Commit wcc verf) = SpellsU32 0 ⨾ SpellsCommitDone (record { wcc = wcc; verf = verf })
SpellsFileResults (kept.CommitFail status wcc) = SpellsStatus SpellsWcc status.0 wcc

-- a reply to that procedure
pub record SpellsFileReply (proc : ℕ) (reply : FileKept) (results : List ℕ) : Type 0 where
  pub answers : reply_proc reply ≡ proc
  pub is : SpellsFileResults reply results

-- A reply that bytes can spell: a failure has a status other than 0, and data of a READ are at most 65,536 bytes.
abbrev pub HasSpellingReply : FileKept → Type 0
HasSpellingReply kept.Null = Unit {0}
HasSpellingReply (kept.GetAttr attr) = Unit {0}
HasSpellingReply (kept.GetAttrFail status) = 0 < status.0
HasSpellingReply (kept.SetAttr wcc) = Unit {0}
HasSpellingReply (kept.SetAttrFail status wcc) = 0 < status.0
HasSpellingReply (kept.Access attr bits) = Unit {0}
HasSpellingReply (kept.AccessFail status attr) = 0 < status.0
HasSpellingReply (kept.Read attr count eof bytes) = length bytes ≤ 65536
HasSpellingReply (kept.ReadFail status attr) = 0 < status.0
HasSpellingReply (kept.Write wcc count committed verf) = Unit {0}
HasSpellingReply (kept.WriteFail status wcc) = 0 < status.0
HasSpellingReply (kept.FsStat attr tbytes fbytes abytes tfiles ffiles afiles invarsec) = Unit {0}
HasSpellingReply (kept.FsStatFail status attr) = 0 < status.0
HasSpellingReply (kept.FsInfo attr rtmax rtpref rtmult wtmax wtpref wtmult dtpref maxfilesize time_delta properties) = Unit {0}
HasSpellingReply (kept.FsInfoFail status attr) = 0 < status.0
HasSpellingReply (kept.PathConf attr linkmax name_max no_trunc chown_restricted case_insensitive case_preserving) = Unit {0}
HasSpellingReply (kept.PathConfFail status attr) = 0 < status.0
HasSpellingReply (kept.Commit wcc verf) = Unit {0}
HasSpellingReply (kept.CommitFail status wcc) = 0 < status.0

unfoldable pub file_reply_bytes : FileKept → List ℕ
file_reply_bytes kept.Null = []
file_reply_bytes (kept.GetAttr attr) = u32_bytes 0 ++ attr_bytes attr
file_reply_bytes (kept.GetAttrFail status) = u32_bytes status.0
file_reply_bytes (kept.SetAttr wcc) = u32_bytes 0 ++ wcc_bytes wcc
file_reply_bytes (kept.SetAttrFail status wcc) = u32_bytes status.0 ++ wcc_bytes wcc
file_reply_bytes (kept.Access attr bits) = u32_bytes 0 ++ access_done_bytes attr bits
file_reply_bytes (kept.AccessFail status attr) = u32_bytes status.0 ++ opt_attr_bytes attr
file_reply_bytes (kept.Read attr count eof bytes) = u32_bytes 0 ++ read_done_bytes attr count eof bytes
file_reply_bytes (kept.ReadFail status attr) = u32_bytes status.0 ++ opt_attr_bytes attr
file_reply_bytes (kept.Write wcc count committed verf) = u32_bytes 0 ++ write_done_bytes wcc count committed verf
file_reply_bytes (kept.WriteFail status wcc) = u32_bytes status.0 ++ wcc_bytes wcc
file_reply_bytes (kept.FsStat attr tbytes fbytes abytes tfiles ffiles afiles invarsec) =
    u32_bytes 0 ++ fs_stat_done_bytes attr tbytes fbytes abytes tfiles ffiles afiles invarsec
file_reply_bytes (kept.FsStatFail status attr) = u32_bytes status.0 ++ opt_attr_bytes attr
file_reply_bytes (kept.FsInfo attr rtmax rtpref rtmult wtmax wtpref wtmult dtpref maxfilesize time_delta properties) =
    u32_bytes 0 ++ fs_info_done_bytes attr rtmax rtpref rtmult wtmax wtpref wtmult dtpref maxfilesize time_delta properties
file_reply_bytes (kept.FsInfoFail status attr) = u32_bytes status.0 ++ opt_attr_bytes attr
file_reply_bytes (kept.PathConf attr linkmax name_max no_trunc chown_restricted case_insensitive case_preserving) =
    u32_bytes 0 ++ path_conf_done_bytes attr linkmax name_max no_trunc chown_restricted case_insensitive case_preserving
file_reply_bytes (kept.PathConfFail status attr) = u32_bytes status.0 ++ opt_attr_bytes attr
file_reply_bytes (kept.Commit wcc verf) = u32_bytes 0 ++ commit_done_bytes wcc verf
file_reply_bytes (kept.CommitFail status wcc) = u32_bytes status.0 ++ wcc_bytes wcc
