-- What is written is spelled.
use Rattle.std.proofs.Common.{◌≡◌, ◌<◌, ◌≤◌, ◌^◌, ℕ, Bool, true, false, List, [], ◌++◌, length, Option, Some, None, refl, append_assoc, arith}
use Rattle.std.proofs.lemmas.List.{append-nil}
use Rattle.xdr_codec.specs.Spelling.{u32_bytes}
use Rattle.xdr_codec.specs.Spells.{◌⨾◌, SpellsU32, SpellsOpt}
use Rattle.xdr_codec.specs.Arms.{SpellsStatus}
use Rattle.xdr_codec.proofs.MoreLaws.{opaque_written}
use Rattle.xdr_codec.proofs.Written.{joined, u32_written, u64_written, flag_written}
use Rattle.nfs_types.specs.declared.attr.Attr.{Attr}
use Rattle.nfs_types.specs.declared.set_attr.SetAttr.{SetAttr}
use Rattle.nfs_types.specs.declared.time.Time.{Time}
use Rattle.nfs_types.specs.declared.verf.Verf.{Verf}
use Rattle.nfs_types.specs.declared.wcc.Wcc.{Wcc}
use Rattle.nfs_types.specs.Fields.{handle_bytes, set_attr_bytes, time_bytes, verf_bytes, opt_attr_bytes, wcc_bytes}
use Rattle.nfs_types.specs.Spells.{SpellsHandle, SpellsSetAttr, SpellsTime, SpellsVerf, SpellsOptAttr, SpellsWcc}
use Rattle.nfs_file_calls.specs.Attributes.{SpellsNothing, guard_bytes, set_attr_args_bytes, SpellsSetAttrArgs, access_args_bytes, SpellsAccessArgs, access_done_bytes, SpellsAccessDone}
use Rattle.nfs_file_calls.specs.Transfer.{SpellsHow, write_args_bytes, SpellsWriteArgs, range_args_bytes, SpellsRangeArgs, read_done_bytes, SpellsReadDone, write_done_bytes, SpellsWriteDone, commit_done_bytes, SpellsCommitDone}
use Rattle.nfs_file_calls.specs.FileSystem.{amounts_bytes, fs_stat_done_bytes, SpellsFsStatDone, sizes_bytes, limits_bytes, fs_info_done_bytes, SpellsFsInfoDone, rules_bytes, path_conf_done_bytes, SpellsPathConfDone}

-- ---- arguments

pub no_guard_written : (guard : Option Time) → guard ≡ None → SpellsOpt SpellsTime guard (guard_bytes guard)
unfolding guard_bytes
no_guard_written guard is = rw is (flag_written false)

pub guard_written : (time : Time) → SpellsTime time (time_bytes time) → SpellsOpt SpellsTime (Some time) (guard_bytes (Some time))
unfolding guard_bytes
guard_written time t = joined _ _ (flag_written true) t

pub set_attr_args_written : (file : List ℕ) (set : SetAttr) (guard : Option Time) → SpellsHandle file (handle_bytes file) → SpellsSetAttr set (set_attr_bytes set) → SpellsOpt SpellsTime guard (guard_bytes guard)
    → SpellsSetAttrArgs (record { file = file; set = set; guard = guard }) (set_attr_args_bytes file set guard)
unfolding set_attr_args_bytes
set_attr_args_written file set guard f s g = simp append_assoc (joined _ _ f (joined _ _ s g))

pub access_args_written : (file : List ℕ) (bits : ℕ) → SpellsHandle file (handle_bytes file) → bits < 2 ^ 32 → SpellsAccessArgs (record { file = file; bits = bits }) (access_args_bytes file bits)
unfolding access_args_bytes
access_args_written file bits f b = joined _ _ f (u32_written bits b)

pub range_args_written : (file : List ℕ) (offset count : ℕ) → SpellsHandle file (handle_bytes file) → offset < 2 ^ 64 → count < 2 ^ 32
    → SpellsRangeArgs (record { file = file; offset = offset; count = count }) (range_args_bytes file offset count)
unfolding range_args_bytes
range_args_written file offset count f o c = simp append_assoc (joined _ _ f (joined _ _ (u64_written offset o) (u32_written count c)))

how_written : (how : ℕ) → how ≤ 2 → SpellsHow how (u32_bytes how)
how_written how h = record { bound = h; is = u32_written how (omega (arith, h)) }

pub write_args_written : (file : List ℕ) (offset how : ℕ) (bytes : List ℕ) → SpellsHandle file (handle_bytes file) → offset < 2 ^ 64 → how ≤ 2 → length bytes ≤ 65536
    → SpellsWriteArgs (record { file = file; offset = offset; how = how; bytes = bytes }) (write_args_bytes file offset how bytes)
unfolding write_args_bytes
write_args_written file offset how bytes f o h b =
    simp append_assoc (joined _ _ f (joined _ _ (u64_written offset o) (joined _ _ (u32_written (length bytes) (omega (arith, b))) (joined _ _ (how_written how h) (opaque_written 65536 bytes b (omega arith))))))

-- ---- results

pub done_written : (S : List ℕ → Type 0) (text : List ℕ) → S text → (SpellsU32 0 ⨾ S) (u32_bytes 0 ++ text)
done_written S text s = joined _ _ (u32_written 0 (omega arith)) s

pub failed_written : {B : Type 0} (S : B → List ℕ → Type 0) (status : ℕ) (v : B) (text : List ℕ) → 0 < status → status < 2 ^ 32 → S v text → SpellsStatus S status v (u32_bytes status ++ text)
failed_written S status v text failed fits s = record { failed = failed; is = joined _ _ (u32_written status fits) s }

pub bare_failed_written : (status : ℕ) → 0 < status → status < 2 ^ 32 → SpellsStatus SpellsNothing status tt (u32_bytes status)
bare_failed_written status failed fits = rw (← append-nil (u32_bytes status)) (failed_written SpellsNothing status tt [] failed fits (record { is = refl }))

pub access_done_written : (attr : Option Attr) (bits : ℕ) → SpellsOptAttr attr (opt_attr_bytes attr) → bits < 2 ^ 32 → SpellsAccessDone (record { attr = attr; bits = bits }) (access_done_bytes attr bits)
unfolding access_done_bytes
access_done_written attr bits a b = joined _ _ a (u32_written bits b)

pub read_done_written : (attr : Option Attr) (count : ℕ) (eof : Bool) (bytes : List ℕ) → SpellsOptAttr attr (opt_attr_bytes attr) → count < 2 ^ 32 → length bytes ≤ 65536
    → SpellsReadDone (record { attr = attr; count = count; eof = eof; bytes = bytes }) (read_done_bytes attr count eof bytes)
unfolding read_done_bytes
read_done_written attr count eof bytes a c b = simp append_assoc (joined _ _ a (joined _ _ (u32_written count c) (joined _ _ (flag_written eof) (opaque_written 65536 bytes b (omega arith)))))

pub write_done_written : (wcc : Wcc) (count committed : ℕ) (verf : Verf) → SpellsWcc wcc (wcc_bytes wcc) → count < 2 ^ 32 → committed < 2 ^ 32 → SpellsVerf verf (verf_bytes verf)
    → SpellsWriteDone (record { wcc = wcc; count = count; committed = committed; verf = verf }) (write_done_bytes wcc count committed verf)
unfolding write_done_bytes
write_done_written wcc count committed verf w c d v = simp append_assoc (joined _ _ w (joined _ _ (u32_written count c) (joined _ _ (u32_written committed d) v)))

pub commit_done_written : (wcc : Wcc) (verf : Verf) → SpellsWcc wcc (wcc_bytes wcc) → SpellsVerf verf (verf_bytes verf) → SpellsCommitDone (record { wcc = wcc; verf = verf }) (commit_done_bytes wcc verf)
unfolding commit_done_bytes
commit_done_written wcc verf w v = joined _ _ w v

pub fs_stat_done_written : (attr : Option Attr) (tbytes fbytes abytes tfiles ffiles afiles invarsec : ℕ) → SpellsOptAttr attr (opt_attr_bytes attr)
    → tbytes < 2 ^ 64 → fbytes < 2 ^ 64 → abytes < 2 ^ 64 → tfiles < 2 ^ 64 → ffiles < 2 ^ 64 → afiles < 2 ^ 64 → invarsec < 2 ^ 32
    → SpellsFsStatDone (record { attr = attr; tbytes = tbytes; fbytes = fbytes; abytes = abytes; tfiles = tfiles; ffiles = ffiles; afiles = afiles; invarsec = invarsec })
    (fs_stat_done_bytes attr tbytes fbytes abytes tfiles ffiles afiles invarsec)
unfolding fs_stat_done_bytes amounts_bytes
fs_stat_done_written attr tbytes fbytes abytes tfiles ffiles afiles invarsec a tb fb ab tf ff af i =
    simp append_assoc (joined _ _ a (
    joined _ _ (u64_written tbytes tb) (joined _ _ (u64_written fbytes fb) (joined _ _ (u64_written abytes ab) (
    joined _ _ (u64_written tfiles tf) (joined _ _ (u64_written ffiles ff) (joined _ _ (u64_written afiles af) (u32_written invarsec i))))))))

pub fs_info_done_written : (attr : Option Attr) (rtmax rtpref rtmult wtmax wtpref wtmult dtpref maxfilesize : ℕ) (time_delta : Time) (properties : ℕ) → SpellsOptAttr attr (opt_attr_bytes attr)
    → rtmax < 2 ^ 32 → rtpref < 2 ^ 32 → rtmult < 2 ^ 32 → wtmax < 2 ^ 32 → wtpref < 2 ^ 32 → wtmult < 2 ^ 32 → dtpref < 2 ^ 32 → maxfilesize < 2 ^ 64
    → SpellsTime time_delta (time_bytes time_delta) → properties < 2 ^ 32
    → SpellsFsInfoDone (record { attr = attr; rtmax = rtmax; rtpref = rtpref; rtmult = rtmult; wtmax = wtmax; wtpref = wtpref; wtmult = wtmult; dtpref = dtpref; maxfilesize = maxfilesize; time_delta = time_delta; properties = properties })
    (fs_info_done_bytes attr rtmax rtpref rtmult wtmax wtpref wtmult dtpref maxfilesize time_delta properties)
unfolding fs_info_done_bytes sizes_bytes limits_bytes
fs_info_done_written attr rtmax rtpref rtmult wtmax wtpref wtmult dtpref maxfilesize time_delta properties a rm rp rt wm wp wt d m t p =
    simp append_assoc (joined _ _ a (
    joined _ _ (u32_written rtmax rm) (joined _ _ (u32_written rtpref rp) (joined _ _ (u32_written rtmult rt) (
    joined _ _ (u32_written wtmax wm) (joined _ _ (u32_written wtpref wp) (joined _ _ (u32_written wtmult wt) (
    joined _ _ (u32_written dtpref d) (joined _ _ (u64_written maxfilesize m) (joined _ _ t (u32_written properties p)))))))))))

pub path_conf_done_written : (attr : Option Attr) (linkmax name_max : ℕ) (no_trunc chown_restricted case_insensitive case_preserving : Bool) → SpellsOptAttr attr (opt_attr_bytes attr)
    → linkmax < 2 ^ 32 → name_max < 2 ^ 32
    → SpellsPathConfDone (record { attr = attr; linkmax = linkmax; name_max = name_max; no_trunc = no_trunc; chown_restricted = chown_restricted; case_insensitive = case_insensitive; case_preserving = case_preserving })
    (path_conf_done_bytes attr linkmax name_max no_trunc chown_restricted case_insensitive case_preserving)
unfolding path_conf_done_bytes rules_bytes
path_conf_done_written attr linkmax name_max no_trunc chown_restricted case_insensitive case_preserving a l n =
    simp append_assoc (joined _ _ a (joined _ _ (u32_written linkmax l) (joined _ _ (u32_written name_max n) (
    joined _ _ (flag_written no_trunc) (joined _ _ (flag_written chown_restricted) (joined _ _ (flag_written case_insensitive) (flag_written case_preserving)))))))
