-- Messages byte for byte, from the XDR of RFC 1813, section 5.2.
use Rattle.std.proofs.Common.{◌≡◌, ℕ, List, [], ◌∷◌, ◌++◌, Ok, Err, refl}
use Rattle.std.specs.Prelude.{codes}
use Rattle.xdr_codec.specs.declared.reader.XdrFault.TheVariants.{Short, TooLong, Trailing}
use Rattle.xdr_codec.specs.Reading.{flag_at, fixed_at, opaque_at}
use Rattle.xdr_codec.specs.Spelling.{u32_bytes, flag_bytes, fixed_bytes, opaque_bytes}
use Rattle.xdr_codec.proofs.Hex.{hex}
use Rattle.nfs_types.specs.Fields.{handle_at, handle_bytes}
use Rattle.mount_calls.specs.declared.call.MountCall.TheVariants as calls
use Rattle.mount_calls.specs.declared.reply.MountReply.TheVariants as replies
use Rattle.mount_calls.specs.declared.exports.ExportRow.{ExportRow}
use Rattle.mount_calls.specs.Flavors.{flavors_at, words_bytes, flavors_bytes}
use Rattle.mount_calls.specs.Exports.{groups_at, row_at, exports_at, groups_bytes, row_bytes, exports_bytes}
use Rattle.mount_calls.specs.Calls.{mount_call_at, null_call_at, mnt_call_at, umnt_call_at, export_call_at, mount_call_bytes}
use Rattle.mount_calls.specs.Replies.{mount_reply_at, mnt_reply_at, mnt_done_at, export_reply_at, mnt_ok_bytes, mount_reply_bytes}

-- ---- calls

-- `/srv`
abbrev srv : List ℕ
srv = hex (codes "00000004 2f737276")

mnt_written : mount_call_bytes (calls.Mnt (codes "/srv")) ≡ srv
unfolding mount_call_bytes opaque_bytes fixed_bytes u32_bytes
mnt_written = refl

mnt_read : mount_call_at 1 srv ≡ Ok (calls.Mnt (codes "/srv"))
unfolding mnt_call_at opaque_at fixed_at
mnt_read = refl

umnt_written : mount_call_bytes (calls.Umnt (codes "/srv")) ≡ srv
unfolding mount_call_bytes opaque_bytes fixed_bytes u32_bytes
umnt_written = refl

umnt_read : mount_call_at 3 srv ≡ Ok (calls.Umnt (codes "/srv"))
unfolding umnt_call_at opaque_at fixed_at
umnt_read = refl

path_of_1025_bytes : mount_call_at 1 (hex (codes "00000401")) ≡ Err TooLong
unfolding mnt_call_at opaque_at
path_of_1025_bytes = refl

short_path : mount_call_at 3 (hex (codes "000000")) ≡ Err Short
unfolding umnt_call_at opaque_at
short_path = refl

export_of_a_path : mount_call_at 5 srv ≡ Err Trailing
unfolding export_call_at
export_of_a_path = refl

-- ---- the root and its flavors

-- the file handle 1 of 8 bytes, and the flavors AUTH_NONE and AUTH_SYS
abbrev mounted : List ℕ
mounted = hex (codes "00000000 00000008 00000000 00000001 00000002 00000000 00000001")

abbrev root : List ℕ
root = hex (codes "0000000000000001")

mounted_written : mount_reply_bytes (replies.MntOk root (0 ∷ 1 ∷ [])) ≡ mounted
unfolding mount_reply_bytes mnt_ok_bytes handle_bytes flavors_bytes words_bytes opaque_bytes fixed_bytes u32_bytes
mounted_written = refl

mounted_read : mount_reply_at 1 mounted ≡ Ok (replies.MntOk root (0 ∷ 1 ∷ []))
unfolding mnt_reply_at mnt_done_at handle_at flavors_at opaque_at fixed_at
mounted_read = refl

refused_written : mount_reply_bytes (replies.MntFail 13) ≡ hex (codes "0000000d")
unfolding mount_reply_bytes u32_bytes
refused_written = refl

refused_read : mount_reply_at 1 (hex (codes "0000000d")) ≡ Ok (replies.MntFail 13)
unfolding mnt_reply_at
refused_read = refl

flavors_of_65 : mount_reply_at 1 (hex (codes "00000000 00000001 61000000 00000041")) ≡ Err TooLong
unfolding mnt_reply_at mnt_done_at handle_at flavors_at opaque_at fixed_at
flavors_of_65 = refl

-- ---- exports

-- `/srv` for the groups `a` and `bc`, and `/x` for none
abbrev listed : List ℕ
listed = hex (codes "00000001 00000004 2f737276 00000001 00000001 61000000 00000001 00000002 62630000 00000000 00000001 00000002 2f780000 00000000 00000000")

abbrev rows : List ExportRow
rows = record { path = codes "/srv"; groups = codes "a" ∷ codes "bc" ∷ [] } ∷ record { path = codes "/x"; groups = [] } ∷ []

exports_written : mount_reply_bytes (replies.Export rows) ≡ listed
unfolding mount_reply_bytes exports_bytes row_bytes groups_bytes opaque_bytes fixed_bytes flag_bytes u32_bytes
exports_written = refl

exports_read : mount_reply_at 5 listed ≡ Ok (replies.Export rows)
unfolding export_reply_at exports_at row_at groups_at opaque_at fixed_at flag_at
exports_read = refl

-- a group of 256 bytes
long_group : mount_reply_at 5 (hex (codes "00000001 00000004 2f737276 00000001 00000100")) ≡ Err TooLong
unfolding export_reply_at exports_at row_at groups_at opaque_at fixed_at flag_at
long_group = refl
