-- The tests that decide whether an entry serves a call on a file.
use Rattle.std.specs.Prelude.{◌==◌, ◌&&◌, ◌||◌, nat_le, not, ℕ, Bool, false, List, length, take, Option, Some}
use Rattle.nfs_types.specs.declared.attr.Attr.{Attr}
use Rattle.nfs_types.specs.declared.status.Status.{Status}
use Rattle.nfs_types.specs.declared.verf.Verf.{Verf}
use Rattle.nfs_types.specs.declared.wcc.Wcc.{Wcc}
use Rattle.nfs_types.specs.declared.set_attr.SetAttr.{SetAttr}
use Rattle.nfs_file_calls.specs.declared.call.FileCall.{FileCall}
use Rattle.nfs_file_calls.specs.declared.call.FileCall.TheVariants as files
use Rattle.nfs_file_calls.specs.declared.owned.FileKept.{FileKept}
use Rattle.nfs_file_calls.specs.declared.owned.FileKept.TheVariants as kept
use Rattle.trace_data.specs.declared.trace.Trace.{Trace}
use Rattle.trace_data.specs.Histories.{verf_at}
use Rattle.trace_rules.specs.Restarting.{same_verf}
use Rattle.trace_steps.specs.MomentTests.{is_same, is_one, only}
use Rattle.trace_steps.specs.TurnTests.{turns, looks, is_sized, is_read, is_written}
use Rattle.trace_steps.specs.TurnTests.{is_committed, is_broken_off, shows_attr, showed_attr, shows_wcc, showed_wcc}

-- the status isn't 0, and nothing changes
unfoldable pub refuses : Trace → ℕ → Status → Bool
refuses t n status = not (status.0 == 0) && is_same t n

unfoldable pub refuses_with : Trace → ℕ → Status → List ℕ → Option Attr → Bool
refuses_with t n status f attr = refuses t n status && showed_attr t n f attr

unfoldable pub refuses_wcc : Trace → ℕ → Status → List ℕ → Wcc → Bool
refuses_wcc t n status f wcc = refuses t n status && showed_wcc t n f wcc

-- the verifier is that of the server before the entry
unfoldable pub is_verf_of : Trace → ℕ → Verf → Bool
is_verf_of t n verf = same_verf verf (verf_at t.start.verf t.updates.items n)

-- a call that reads an object and shows perhaps its attributes
unfoldable pub asks : Trace → ℕ → List ℕ → Option Attr → Bool
asks t n f attr = looks t n f && shows_attr t n f attr

unfoldable pub sets : Trace → ℕ → List ℕ → SetAttr → Wcc → Bool
sets t n f set wcc = turns (is_sized set.size) t n f && only (is_one f f f) t n && shows_wcc t n f wcc

-- as many bytes as are counted, none only if none was asked for or at the end
unfoldable pub is_counted : ℕ → ℕ → Bool → List ℕ → Bool
is_counted count counted eof bytes = (length bytes == counted) && nat_le counted count && (not (counted == 0) || (count == 0) || eof)

unfoldable pub reads_bytes : Trace → ℕ → List ℕ → ℕ → ℕ → Option Attr → ℕ → Bool → List ℕ → Bool
reads_bytes t n f offset count attr counted eof bytes =
    turns (is_read offset counted eof bytes) t n f && only (is_one f f f) t n && shows_attr t n f attr && is_counted count counted eof bytes

-- as many bytes as are counted, some if there are some, and as stable as was asked
unfoldable pub is_firm : ℕ → List ℕ → ℕ → ℕ → Bool
is_firm how bytes counted committed =
    nat_le counted (length bytes) && (nat_le (length bytes) 0 || nat_le 1 counted) && nat_le how committed && nat_le committed 2

unfoldable pub writes : Trace → ℕ → List ℕ → ℕ → ℕ → List ℕ → Wcc → ℕ → ℕ → Verf → Bool
writes t n f offset how bytes wcc counted committed verf =
    is_firm how bytes counted committed && turns (is_written committed offset (take counted bytes)) t n f && only (is_one f f f) t n
    && shows_wcc t n f wcc && is_verf_of t n verf

-- a WRITE that is refused while a prefix of its bytes was put into the file
unfoldable pub breaks_off : Trace → ℕ → List ℕ → ℕ → List ℕ → Status → Wcc → Bool
breaks_off t n f offset bytes status wcc =
    not (status.0 == 0) && turns (is_broken_off offset bytes) t n f && only (is_one f f f) t n && shows_wcc t n f wcc

unfoldable pub commits : Trace → ℕ → List ℕ → ℕ → ℕ → Wcc → Verf → Bool
commits t n f offset count wcc verf =
    turns (is_committed offset count) t n f && only (is_one f f f) t n && shows_wcc t n f wcc && is_verf_of t n verf

-- ---- each call and its replies

abbrev pub serves_null : Trace → ℕ → FileKept → Bool
serves_null t n kept.Null = is_same t n
serves_null t n reply = false

abbrev pub serves_getattr : Trace → ℕ → List ℕ → FileKept → Bool
serves_getattr t n f (kept.GetAttr attr) = asks t n f (Some attr)
serves_getattr t n f (kept.GetAttrFail status) = refuses t n status
serves_getattr t n f reply = false

abbrev pub serves_setattr : Trace → ℕ → List ℕ → SetAttr → FileKept → Bool
serves_setattr t n f set (kept.SetAttr wcc) = sets t n f set wcc
serves_setattr t n f set (kept.SetAttrFail status wcc) = refuses_wcc t n status f wcc
serves_setattr t n f set reply = false

abbrev pub serves_access : Trace → ℕ → List ℕ → FileKept → Bool
serves_access t n f (kept.Access attr granted) = asks t n f attr
serves_access t n f (kept.AccessFail status attr) = refuses_with t n status f attr
serves_access t n f reply = false

abbrev pub serves_read : Trace → ℕ → List ℕ → ℕ → ℕ → FileKept → Bool
serves_read t n f offset count (kept.Read attr counted eof bytes) = reads_bytes t n f offset count attr counted eof bytes
serves_read t n f offset count (kept.ReadFail status attr) = refuses_with t n status f attr
serves_read t n f offset count reply = false

abbrev pub serves_write : Trace → ℕ → List ℕ → ℕ → ℕ → List ℕ → FileKept → Bool
serves_write t n f offset how bytes (kept.Write wcc counted committed verf) = writes t n f offset how bytes wcc counted committed verf
serves_write t n f offset how bytes (kept.WriteFail status wcc) = refuses_wcc t n status f wcc || breaks_off t n f offset bytes status wcc
serves_write t n f offset how bytes reply = false

abbrev pub serves_fsstat : Trace → ℕ → List ℕ → FileKept → Bool
serves_fsstat t n f (kept.FsStat attr tbytes fbytes abytes tfiles ffiles afiles invarsec) = asks t n f attr
serves_fsstat t n f (kept.FsStatFail status attr) = refuses_with t n status f attr
serves_fsstat t n f reply = false

abbrev pub serves_fsinfo : Trace → ℕ → List ℕ → FileKept → Bool
serves_fsinfo t n f (kept.FsInfo attr rtmax rtpref rtmult wtmax wtpref wtmult dtpref maxfilesize delta properties) = asks t n f attr
serves_fsinfo t n f (kept.FsInfoFail status attr) = refuses_with t n status f attr
serves_fsinfo t n f reply = false

abbrev pub serves_pathconf : Trace → ℕ → List ℕ → FileKept → Bool
serves_pathconf t n f (kept.PathConf attr linkmax name_max no_trunc chown_restricted case_insensitive case_preserving) = asks t n f attr
serves_pathconf t n f (kept.PathConfFail status attr) = refuses_with t n status f attr
serves_pathconf t n f reply = false

abbrev pub serves_commit : Trace → ℕ → List ℕ → ℕ → ℕ → FileKept → Bool
serves_commit t n f offset count (kept.Commit wcc verf) = commits t n f offset count wcc verf
serves_commit t n f offset count (kept.CommitFail status wcc) = refuses_wcc t n status f wcc
serves_commit t n f offset count reply = false

abbrev pub serves_file : Trace → ℕ → FileCall → FileKept → Bool
serves_file t n files.Null reply = serves_null t n reply
serves_file t n (files.GetAttr f) reply = serves_getattr t n f reply
serves_file t n (files.SetAttr f set guard) reply = serves_setattr t n f set reply
serves_file t n (files.Access f bits) reply = serves_access t n f reply
serves_file t n (files.Read f offset count) reply = serves_read t n f offset count reply
serves_file t n (files.Write f offset how bytes) reply = serves_write t n f offset how bytes reply
serves_file t n (files.FsStat f) reply = serves_fsstat t n f reply
serves_file t n (files.FsInfo f) reply = serves_fsinfo t n f reply
serves_file t n (files.PathConf f) reply = serves_pathconf t n f reply
serves_file t n (files.Commit f offset count) reply = serves_commit t n f offset count reply
