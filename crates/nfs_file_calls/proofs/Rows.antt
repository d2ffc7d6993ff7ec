-- Calls and replies by hand, from the XDR of RFC 1813, section 3.3.
use Rattle.std.proofs.Common.{◌≡◌, ℕ, List, [], ◌∷◌, ◌++◌, true, false, Some, None, Ok, Err, refl}
use Rattle.std.specs.Prelude.{codes}
use Rattle.xdr_codec.specs.declared.reader.XdrFault.TheVariants.{Short, TooLong, BadBool, BadValue, Trailing}
use Rattle.xdr_codec.specs.Reading.{flag_at, fixed_at, opaque_at}
use Rattle.xdr_codec.specs.Spelling.{u32_bytes, u64_bytes, flag_bytes, fixed_bytes, opaque_bytes}
use Rattle.xdr_codec.proofs.Hex.{hex}
use Rattle.nfs_types.specs.declared.verf.Verf.{Verf}
use Rattle.nfs_types.specs.declared.wcc.Wcc.{Wcc}
use Rattle.nfs_types.specs.Fields.{handle_at, handle_bytes, verf_at, verf_bytes, opt_attr_at, opt_attr_bytes, opt_stamp_at, opt_stamp_bytes, wcc_at, wcc_bytes, opt_u32_at, opt_u64_at, set_time_at, set_time_of, set_attr_at}
use Rattle.nfs_file_calls.specs.declared.call.FileCall.TheVariants as calls
use Rattle.nfs_file_calls.specs.declared.owned.FileKept.TheVariants as kept
use Rattle.nfs_file_calls.specs.Attributes.{guard_at, set_attr_args_at}
use Rattle.nfs_file_calls.specs.Transfer.{how_at, write_args_at, write_args_bytes, range_args_at, range_args_bytes, read_done_at, read_done_bytes, write_done_at}
use Rattle.nfs_file_calls.specs.Calls.{file_call_at, set_attr_call_at, write_call_at, fs_stat_call_at, commit_call_at, file_call_bytes}
use Rattle.nfs_file_calls.specs.Replies.{file_reply_at, read_reply_at, write_reply_at, file_reply_bytes}

abbrev file : List ℕ
file = hex (codes "0000000000000002")

-- ---- WRITE of `hi` at 0, UNSTABLE

abbrev hi : List ℕ
hi = hex (codes "00000008 00000000 00000002 00000000 00000000 00000002 00000000 00000002 68690000")

write_written : file_call_bytes (calls.Write file 0 0 (codes "hi")) ≡ hi
unfolding file_call_bytes write_args_bytes handle_bytes opaque_bytes fixed_bytes u32_bytes u64_bytes
write_written = refl

write_read : file_call_at 7 hi ≡ Ok (calls.Write file 0 0 (codes "hi"))
unfolding write_call_at write_args_at how_at handle_at opaque_at fixed_at
write_read = refl

count_of_3 : file_call_at 7 (hex (codes "00000008 00000000 00000002 00000000 00000000 00000003 00000000 00000002 68690000")) ≡ Err BadValue
unfolding write_call_at write_args_at how_at handle_at opaque_at fixed_at
count_of_3 = refl

how_of_3 : file_call_at 7 (hex (codes "00000008 00000000 00000002 00000000 00000000 00000002 00000003 00000002 68690000")) ≡ Err BadValue
unfolding write_call_at write_args_at how_at handle_at opaque_at fixed_at
how_of_3 = refl

data_of_65537 : file_call_at 7 (hex (codes "00000008 00000000 00000002 00000000 00000000 00010001 00000000 00010001")) ≡ Err TooLong
unfolding write_call_at write_args_at how_at handle_at opaque_at fixed_at
data_of_65537 = refl

-- ---- COMMIT of the whole file

commit_written : file_call_bytes (calls.Commit file 0 0) ≡ hex (codes "00000008 00000000 00000002 00000000 00000000 00000000")
unfolding file_call_bytes range_args_bytes handle_bytes opaque_bytes fixed_bytes u32_bytes u64_bytes
commit_written = refl

commit_read : file_call_at 21 (hex (codes "00000008 00000000 00000002 00000000 00000000 00000000")) ≡ Ok (calls.Commit file 0 0)
unfolding commit_call_at range_args_at handle_at opaque_at fixed_at
commit_read = refl

short_commit : file_call_at 21 (hex (codes "00000008 00000000 00000002 00000000 00000000")) ≡ Err Short
unfolding commit_call_at range_args_at handle_at opaque_at fixed_at
short_commit = refl

-- ---- other calls that are refused

guard_of_2 : file_call_at 2 (hex (codes "00000008 00000000 00000002 00000000 00000000 00000000 00000000 00000000 00000000 00000002")) ≡ Err BadBool
unfolding set_attr_call_at set_attr_args_at guard_at set_attr_at opt_u32_at opt_u64_at set_time_at set_time_of handle_at opaque_at fixed_at flag_at
guard_of_2 = refl

fs_stat_and_more : file_call_at 18 (hex (codes "00000008 00000000 00000002 00000000")) ≡ Err Trailing
unfolding fs_stat_call_at handle_at opaque_at fixed_at
fs_stat_and_more = refl

-- ---- replies

abbrev nothing : Wcc
nothing = record { before = None; after = None }

read_written : file_reply_bytes (kept.Read None 2 true (codes "hi")) ≡ hex (codes "00000000 00000000 00000002 00000001 00000002 68690000")
unfolding file_reply_bytes read_done_bytes opt_attr_bytes opaque_bytes fixed_bytes flag_bytes u32_bytes
read_written = refl

read_read : file_reply_at 6 (hex (codes "00000000 00000000 00000002 00000001 00000002 68690000")) ≡ Ok (kept.Read None 2 true (codes "hi"))
unfolding read_reply_at read_done_at opt_attr_at opaque_at fixed_at flag_at
read_read = refl

eof_of_2 : file_reply_at 6 (hex (codes "00000000 00000000 00000002 00000002 00000000")) ≡ Err BadBool
unfolding read_reply_at read_done_at opt_attr_at opaque_at fixed_at flag_at
eof_of_2 = refl

-- a status that RFC 1813 doesn't have is kept as its number
other_status : file_reply_at 7 (hex (codes "00003039 00000000 00000000")) ≡ Ok (kept.WriteFail (record { 0 = 12345 }) nothing)
unfolding write_reply_at wcc_at opt_stamp_at opt_attr_at flag_at
other_status = refl

-- `committed` is kept as any number
committed_of_9 : file_reply_at 7 (hex (codes "00000000 00000000 00000000 00000002 00000009 0000000000000005")) ≡ Ok (kept.Write nothing 2 9 (record { 0 = 0 ∷ 0 ∷ 0 ∷ 0 ∷ 0 ∷ 0 ∷ 0 ∷ 5 ∷ [] }))
unfolding write_reply_at write_done_at verf_at wcc_at opt_stamp_at opt_attr_at fixed_at flag_at
committed_of_9 = refl

refusal_and_more : file_reply_at 7 (hex (codes "0000001c 00000000 00000000 00000002")) ≡ Err Trailing
unfolding write_reply_at wcc_at opt_stamp_at opt_attr_at flag_at
refusal_and_more = refl
