-- FSSTAT, FSINFO and PATHCONF: what is read is spelled so, and what is spelled so is read.
use Rattle.std.proofs.Common.{refl}
use Rattle.xdr_codec.proofs.Laws.{Codec, field_if, last_if, always, u32_codec, u64_codec}
use Rattle.xdr_codec.proofs.MoreLaws.{flag_codec}
use Rattle.nfs_types.proofs.Laws.{time_codec, opt_attr_codec}
use Rattle.nfs_file_calls.specs.FileSystem.{fs_stat_done_at, SpellsFsStatDone, fs_info_done_at, SpellsFsInfoDone, path_conf_done_at, SpellsPathConfDone}

pub fs_stat_done_codec : Codec fs_stat_done_at SpellsFsStatDone
unfolding fs_stat_done_at
fs_stat_done_codec = always (
    field_if (λ v. v.attr) opt_attr_codec (λ attr.
    field_if (λ v. v.tbytes) u64_codec (λ tbytes.
    field_if (λ v. v.fbytes) u64_codec (λ fbytes.
    field_if (λ v. v.abytes) u64_codec (λ abytes.
    field_if (λ v. v.tfiles) u64_codec (λ tfiles.
    field_if (λ v. v.ffiles) u64_codec (λ ffiles.
    field_if (λ v. v.afiles) u64_codec (λ afiles.
    last_if (λ v. v.invarsec) (λ invarsec. record { attr = attr; tbytes = tbytes; fbytes = fbytes; abytes = abytes; tfiles = tfiles; ffiles = ffiles; afiles = afiles; invarsec = invarsec }) u32_codec
    (λ a. ((((((((tt, refl), refl), refl), refl), refl), refl), refl), refl))
    (λ b k. rw (← k.1, ← k.0.1, ← k.0.0.1, ← k.0.0.0.1, ← k.0.0.0.0.1, ← k.0.0.0.0.0.1, ← k.0.0.0.0.0.0.1) refl)))))))))

pub fs_info_done_codec : Codec fs_info_done_at SpellsFsInfoDone
unfolding fs_info_done_at
fs_info_done_codec = always (
    field_if (λ v. v.attr) opt_attr_codec (λ attr.
    field_if (λ v. v.rtmax) u32_codec (λ rtmax.
    field_if (λ v. v.rtpref) u32_codec (λ rtpref.
    field_if (λ v. v.rtmult) u32_codec (λ rtmult.
    field_if (λ v. v.wtmax) u32_codec (λ wtmax.
    field_if (λ v. v.wtpref) u32_codec (λ wtpref.
    field_if (λ v. v.wtmult) u32_codec (λ wtmult.
    field_if (λ v. v.dtpref) u32_codec (λ dtpref.
    field_if (λ v. v.maxfilesize) u64_codec (λ maxfilesize.
    field_if (λ v. v.time_delta) time_codec (λ time_delta.
    last_if (λ v. v.properties) (λ properties. record { attr = attr; rtmax = rtmax; rtpref = rtpref; rtmult = rtmult; wtmax = wtmax; wtpref = wtpref; wtmult = wtmult; dtpref = dtpref; maxfilesize = maxfilesize; time_delta = time_delta; properties = properties }) u32_codec
    (λ a. (((((((((((tt, refl), refl), refl), refl), refl), refl), refl), refl), refl), refl), refl))
    (λ b k. rw (← k.1, ← k.0.1, ← k.0.0.1, ← k.0.0.0.1, ← k.0.0.0.0.1, ← k.0.0.0.0.0.1, ← k.0.0.0.0.0.0.1, ← k.0.0.0.0.0.0.0.1, ← k.0.0.0.0.0.0.0.0.1, ← k.0.0.0.0.0.0.0.0.0.1) refl))))))))))))

pub path_conf_done_codec : Codec path_conf_done_at SpellsPathConfDone
unfolding path_conf_done_at
path_conf_done_codec = always (
    field_if (λ v. v.attr) opt_attr_codec (λ attr.
    field_if (λ v. v.linkmax) u32_codec (λ linkmax.
    field_if (λ v. v.name_max) u32_codec (λ name_max.
    field_if (λ v. v.no_trunc) flag_codec (λ no_trunc.
    field_if (λ v. v.chown_restricted) flag_codec (λ chown_restricted.
    field_if (λ v. v.case_insensitive) flag_codec (λ case_insensitive.
    last_if (λ v. v.case_preserving) (λ case_preserving. record { attr = attr; linkmax = linkmax; name_max = name_max; no_trunc = no_trunc; chown_restricted = chown_restricted; case_insensitive = case_insensitive; case_preserving = case_preserving }) flag_codec
    (λ a. (((((((tt, refl), refl), refl), refl), refl), refl), refl))
    (λ b k. rw (← k.1, ← k.0.1, ← k.0.0.1, ← k.0.0.0.1, ← k.0.0.0.0.1, ← k.0.0.0.0.0.1) refl))))))))
