-- The records of a call and of a reply, as they are written: they spell what they are written for (RFC 5531, section 9).
use Rattle.std.proofs.Common.{◌≡◌, ◌<◌, ◌≤◌, ◌^◌, ℕ, suc, zero, Bool, true, false, List, [], ◌∷◌, ◌++◌, length, get_or, None, refl, append_assoc, arith}
use Rattle.std.proofs.lemmas.List.{length-append}
use Rattle.xdr_codec.specs.Spelling.{u32_bytes, u64_bytes, opaque_bytes, fixed_bytes, flag_bytes}
use Rattle.xdr_codec.proofs.Laws.{u32_codec}
use Rattle.xdr_codec.proofs.Written.{joined, u32_written}
use Rattle.nfs_types.specs.Fields.{handle_bytes, opt_attr_bytes, wcc_bytes, verf_bytes, time_bytes, attr_bytes, owner_bytes, place_bytes as parts_bytes, opt_stamp_bytes, stamp_bytes}
use Rattle.nfs_types.specs.Stamps.{stamp_of}
use Rattle.nfs_types.specs.Spells.{SpellsHandle, SpellsAttr, SpellsTime, SpellsVerf, SpellsWcc}
use Rattle.nfs_types.proofs.Names.{name_of_test}
use Rattle.nfs_types.proofs.Written.{handle_written, name_written, verf_written, time_written, attr_written, none_attr_written, some_attr_written, none_stamp_written, some_stamp_written, stamp_written, wcc_written}
use Rattle.rpc_message.specs.declared.cred.Cred.TheVariants as creds
use Rattle.rpc_message.specs.Call.{call_head_bytes, opening_bytes, program_bytes}
use Rattle.rpc_message.specs.Cred.{none_bytes, cred_bytes}
use Rattle.rpc_message.specs.Reply.{Accepted, accepted_bytes, verified_bytes}
use Rattle.rpc_message.proofs.Creds.{cred_none}
use Rattle.rpc_message.proofs.ReplyLaws.{reply_first}
use Rattle.rpc_message.proofs.Written.{opening_written, program_written, call_written, accepted_written}
use Rattle.mount_calls.specs.declared.call.MountCall.TheVariants as mounts
use Rattle.mount_calls.specs.Calls.{mount_call_bytes}
use Rattle.mount_calls.specs.Flavors.{flavors_bytes, words_bytes}
use Rattle.mount_calls.specs.Replies.{mount_reply_bytes, mnt_ok_bytes}
use Rattle.mount_calls.proofs.Laws.{call_written as mount_call_written, words_written, flavors_written, mnt_ok_written}
use Rattle.nfs_dir_calls.specs.Calls.{dir_call_bytes}
use Rattle.nfs_dir_calls.specs.Lookup.{lookup_bytes}
use Rattle.nfs_dir_calls.specs.Places.{place_bytes}
use Rattle.nfs_dir_calls.specs.Replies.{dir_reply_bytes}
use Rattle.nfs_file_calls.specs.Calls.{file_call_bytes}
use Rattle.nfs_file_calls.specs.FileSystem.{fs_info_done_bytes, sizes_bytes, limits_bytes}
use Rattle.nfs_file_calls.specs.Replies.{file_reply_bytes}
use Rattle.nfs_file_calls.specs.Transfer.{write_done_bytes, commit_done_bytes, read_done_bytes}
use Rattle.nfs_file_calls.proofs.WrittenCalls.{get_attr_call_written, read_call_written, write_call_written, fs_info_call_written, commit_call_written}
use Rattle.nfs_file_calls.proofs.WrittenReplies.{get_attr_reply_written, read_reply_written, write_reply_written, write_fail_written, fs_info_reply_written, commit_reply_written}
use Rattle.world_model.specs.declared.message.Call.{Call}
use Rattle.world_model.specs.declared.message.Call.TheVariants as calls
use Rattle.world_model.specs.declared.message.Reply.{Reply}
use Rattle.world_model.specs.declared.message.Reply.TheVariants as replies
use Rattle.world_model.specs.Messages.{HasXid, proc_of, program_of, head_of, SpellsArguments, SpellsResults, SpellsCall, SpellsReply}
use Rattle.world_model.specs.Mounts.{mount_call, info_call}
use Rattle.world_model.specs.Rules.{most_bytes}
use Rattle.honest_histories.proofs.SmallServer.{State, root, the_file, time, verf, file_attr, mounted_reply, info_reply, the_lookup, the_found, get_attr, got_attr, no_wcc, wcc_of, write_of, wrote_of, commit, committed, no_space, read_of, read_reply}

-- ---- records

abbrev pub args_of : Call → List ℕ
args_of (calls.File call) = file_call_bytes call
args_of (calls.Dir call) = dir_call_bytes call
args_of (calls.Mount call) = mount_call_bytes call

abbrev pub results_of : Reply → List ℕ
results_of (replies.File reply) = file_reply_bytes reply
results_of (replies.Dir reply) = dir_reply_bytes reply
results_of (replies.Mount reply) = mount_reply_bytes reply

-- a call with the credential AUTH_NONE, and an accepted reply
unfoldable pub call_record : ℕ → Call → List ℕ
call_record xid call = call_head_bytes (head_of xid call) creds.None ++ args_of call

unfoldable pub reply_record : ℕ → Reply → List ℕ
reply_record xid reply = accepted_bytes xid ++ results_of reply

after_xid : (xid : ℕ) (bytes rest : List ℕ) → xid < 2 ^ 32 → bytes ≡ u32_bytes xid ++ rest → HasXid bytes xid
after_xid xid bytes rest fits is = rw (is, u32_codec.again xid (u32_bytes xid) rest (u32_written xid fits)) refl

-- the first word of each is its xid
pub call_under : (xid : ℕ) (call : Call) → xid < 2 ^ 32 → HasXid (call_record xid call) xid
unfolding call_record call_head_bytes opening_bytes
call_under xid call fits =
    let head = head_of xid call in
    after_xid xid _ (u32_bytes 0 ++ (u32_bytes 2 ++ (program_bytes head.prog head.vers head.proc ++ (cred_bytes creds.None ++ (none_bytes ++ args_of call))))) fits (simp append_assoc refl)

pub reply_under : (xid : ℕ) (reply : Reply) → xid < 2 ^ 32 → HasXid (reply_record xid reply) xid
unfolding reply_record
reply_under xid reply fits = reply_first (Accepted xid (results_of reply)) _ (accepted_written xid fits (results_of reply))

fits_program : (call : Call) → program_of call < 2 ^ 32
fits_program (calls.File call) = omega arith
fits_program (calls.Dir call) = omega arith
fits_program (calls.Mount call) = omega arith

spells_call : (xid : ℕ) (call : Call) → xid < 2 ^ 32 → proc_of call < 2 ^ 32 → SpellsArguments call (args_of call) → SpellsCall xid call (call_record xid call)
unfolding call_record
spells_call xid call fits proc is = record {
  args = args_of call;
  head = call_written (head_of xid call) creds.None (opening_written xid fits) (program_written (program_of call) 3 (proc_of call) (fits_program call) (omega arith) proc) (cred_none creds.None refl) (args_of call);
  is = is;
}

spells_reply : (xid : ℕ) (call : Call) (reply : Reply) → xid < 2 ^ 32 → SpellsResults call reply (results_of reply) → SpellsReply xid call reply (reply_record xid reply)
unfolding reply_record
spells_reply xid call reply fits is = record { results = results_of reply; accepted = accepted_written xid fits (results_of reply); is = is }

-- A call and its reply, under an xid: the two records spell them, and that of the reply isn't too long.
pub record Talk (xid : ℕ) (call : Call) (reply : Reply) : Type 0 where
  pub call_is : SpellsCall xid call (call_record xid call)
  pub reply_is : SpellsReply xid call reply (reply_record xid reply)
  pub short : length (reply_record xid reply) ≤ most_bytes

short_record : (xid : ℕ) (reply : Reply) → length (results_of reply) ≤ 1000 → length (reply_record xid reply) ≤ most_bytes
unfolding reply_record accepted_bytes verified_bytes none_bytes u32_bytes opaque_bytes fixed_bytes
short_record xid reply le = let n : length (accepted_bytes xid) ≡ 24 = refl in omega (arith, le, n, length-append (accepted_bytes xid) (results_of reply))

pub talk : (xid : ℕ) (call : Call) (reply : Reply) → xid < 2 ^ 32 → proc_of call < 2 ^ 32 → SpellsArguments call (args_of call) → SpellsResults call reply (results_of reply) → length (results_of reply) ≤ 1000
    → Talk xid call reply
talk xid call reply fits proc args results le = record { call_is = spells_call xid call fits proc args; reply_is = spells_reply xid call reply fits results; short = short_record xid reply le }

-- ---- the calls of the small server, with their replies

pub file_fits : SpellsHandle the_file (handle_bytes the_file)
file_fits = handle_written the_file (omega arith)

mount_long : length (results_of mounted_reply) ≤ 1000
unfolding mount_reply_bytes mnt_ok_bytes handle_bytes opaque_bytes fixed_bytes u32_bytes flavors_bytes words_bytes
mount_long = let n : length (results_of mounted_reply) ≡ 16 = refl in omega (arith, n)

pub talk_mount : (xid : ℕ) → xid < 2 ^ 32 → Talk xid (mount_call (47 ∷ [])) mounted_reply
unfolding mount_reply_bytes
talk_mount xid fits = talk xid (mount_call (47 ∷ [])) mounted_reply fits (omega arith) (mount_call_written (mounts.Mnt (47 ∷ [])) (omega arith))
    (record { names = refl; is = mnt_ok_written root (1 ∷ []) (omega arith) (flavors_written (1 ∷ []) (omega arith) (words_written (1 ∷ []) flavor)) })
    mount_long
  where
    flavor : (i : ℕ) → get_or (1 ∷ []) i 0 < 2 ^ 32
    flavor zero = omega arith
    flavor (suc i) = omega arith

time_fits : (n : ℕ) → n < 2 ^ 32 → SpellsTime (time n) (time_bytes (time n))
time_fits n fits = time_written (time n) fits (omega arith)

info_long : length (results_of info_reply) ≤ 1000
unfolding file_reply_bytes fs_info_done_bytes sizes_bytes limits_bytes opt_attr_bytes flag_bytes u32_bytes u64_bytes time_bytes
info_long = let n : length (results_of info_reply) ≡ 56 = refl in omega (arith, n)

pub talk_info : (xid : ℕ) → xid < 2 ^ 32 → Talk xid (info_call root) info_reply
talk_info xid fits = talk xid (info_call root) info_reply fits (omega arith) (fs_info_call_written root (handle_written root (omega arith)))
    (record {
      answers = refl;
      is = fs_info_reply_written None 65536 65536 4096 65536 65536 4096 4096 1048576 (time 1) 27 (none_attr_written None refl) (omega arith) (omega arith) (omega arith) (omega arith) (omega arith) (omega arith)
          (omega arith) (omega arith) (time_fits 1 (omega arith)) (omega arith);
    })
    info_long

found_long : length (results_of the_found) ≤ 1000
unfolding dir_reply_bytes lookup_bytes handle_bytes opaque_bytes fixed_bytes u32_bytes opt_attr_bytes flag_bytes
found_long = let n : length (results_of the_found) ≡ 20 = refl in omega (arith, n)

lookup_args : SpellsArguments the_lookup (args_of the_lookup)
unfolding dir_call_bytes place_bytes
lookup_args = joined _ _ (handle_written root (omega arith)) (name_written (97 ∷ []) (name_of_test (97 ∷ []) (omega arith) refl))

lookup_results : SpellsResults the_lookup the_found (results_of the_found)
unfolding dir_reply_bytes lookup_bytes
lookup_results = record { of = refl; is = simp append_assoc (joined _ _ (u32_written 0 (omega arith)) (joined _ _ file_fits (joined _ _ (none_attr_written None refl) (none_attr_written None refl)))) }

pub talk_lookup : (xid : ℕ) → xid < 2 ^ 32 → Talk xid the_lookup the_found
talk_lookup xid fits = talk xid the_lookup the_found fits (omega arith) lookup_args lookup_results found_long

attr_fits : (s : State) → s.changed < 2 ^ 32 → length s.now < 2 ^ 32 → SpellsAttr (file_attr s) (attr_bytes (file_attr s))
attr_fits s t n = attr_written (file_attr s) (omega arith) (omega arith) (omega arith) (omega arith) (omega arith) (omega (arith, n)) (omega (arith, n)) (omega arith) (omega arith) (omega arith) (omega arith)
    (time_fits 1 (omega arith)) (time_fits s.changed t) (time_fits s.changed t)

attr_long : (s : State) → length (attr_bytes (file_attr s)) ≡ 84
unfolding attr_bytes owner_bytes parts_bytes u32_bytes u64_bytes time_bytes
attr_long s = refl

got_long : (s : State) → length (results_of (got_attr s)) ≤ 1000
unfolding file_reply_bytes u32_bytes
got_long s = omega (arith, attr_long s, length-append (u32_bytes 0) (attr_bytes (file_attr s)))

pub talk_attr : (xid : ℕ) (s : State) → xid < 2 ^ 32 → s.changed < 2 ^ 32 → length s.now < 2 ^ 32 → Talk xid get_attr (got_attr s)
talk_attr xid s fits t n = talk xid get_attr (got_attr s) fits (omega arith) (get_attr_call_written the_file file_fits) (record { answers = refl; is = get_attr_reply_written (file_attr s) (attr_fits s t n) }) (got_long s)

pub no_wcc_fits : SpellsWcc no_wcc (wcc_bytes no_wcc)
no_wcc_fits = wcc_written no_wcc (none_stamp_written None refl) (none_attr_written None refl)

wrote_long : (count how v : ℕ) → length (results_of (wrote_of no_wcc count how v)) ≤ 1000
unfolding file_reply_bytes write_done_bytes wcc_bytes opt_stamp_bytes opt_attr_bytes flag_bytes u32_bytes verf_bytes fixed_bytes
wrote_long count how v = let n : length (results_of (wrote_of no_wcc count how v)) ≡ 28 = refl in omega (arith, n)

pub verf_fits : (v : ℕ) → SpellsVerf (verf v) (verf_bytes (verf v))
verf_fits v = verf_written (verf v) refl

pub talk_write : (xid offset v : ℕ) (bytes : List ℕ) → xid < 2 ^ 32 → offset < 2 ^ 64 → length bytes ≤ 65536 → Talk xid (write_of offset bytes) (wrote_of no_wcc (length bytes) 0 v)
talk_write xid offset v bytes fits o le = talk xid (write_of offset bytes) (wrote_of no_wcc (length bytes) 0 v) fits (omega arith) (write_call_written the_file offset 0 bytes file_fits o (omega arith) le)
    (record { answers = refl; is = write_reply_written no_wcc (length bytes) 0 (verf v) no_wcc_fits (omega (arith, le)) (omega arith) (verf_fits v) }) (wrote_long (length bytes) 0 v)

-- the same with attributes before and after
wcc_fits : (s t : State) → s.changed < 2 ^ 32 → length s.now < 2 ^ 32 → t.changed < 2 ^ 32 → length t.now < 2 ^ 32 → SpellsWcc (wcc_of s t) (wcc_bytes (wcc_of s t))
wcc_fits s t a b c d =
    wcc_written (wcc_of s t) (some_stamp_written (stamp_of (file_attr s)) (stamp_written (stamp_of (file_attr s)) (omega (arith, b)) (time_fits s.changed a) (time_fits s.changed a)))
    (some_attr_written (file_attr t) (attr_fits t c d))

wcc_long : (s t : State) (count how v : ℕ) → length (results_of (wrote_of (wcc_of s t) count how v)) ≤ 1000
unfolding file_reply_bytes write_done_bytes wcc_bytes opt_stamp_bytes stamp_bytes opt_attr_bytes attr_bytes owner_bytes parts_bytes flag_bytes u32_bytes u64_bytes time_bytes verf_bytes fixed_bytes
wcc_long s t count how v = let n : length (results_of (wrote_of (wcc_of s t) count how v)) ≡ 136 = refl in omega (arith, n)

pub talk_write_wcc : (xid offset v : ℕ) (bytes : List ℕ) (s t : State) → xid < 2 ^ 32 → offset < 2 ^ 64 → length bytes ≤ 65536 → s.changed < 2 ^ 32 → length s.now < 2 ^ 32 → t.changed < 2 ^ 32 → length t.now < 2 ^ 32
    → Talk xid (write_of offset bytes) (wrote_of (wcc_of s t) (length bytes) 0 v)
talk_write_wcc xid offset v bytes s t fits o le a b c d = talk xid (write_of offset bytes) (wrote_of (wcc_of s t) (length bytes) 0 v) fits (omega arith) (write_call_written the_file offset 0 bytes file_fits o (omega arith) le)
    (record { answers = refl; is = write_reply_written (wcc_of s t) (length bytes) 0 (verf v) (wcc_fits s t a b c d) (omega (arith, le)) (omega arith) (verf_fits v) }) (wcc_long s t (length bytes) 0 v)

committed_long : (v : ℕ) → length (results_of (committed v)) ≤ 1000
unfolding file_reply_bytes commit_done_bytes wcc_bytes opt_stamp_bytes opt_attr_bytes flag_bytes u32_bytes verf_bytes fixed_bytes
committed_long v = let n : length (results_of (committed v)) ≡ 20 = refl in omega (arith, n)

pub talk_commit : (xid v : ℕ) → xid < 2 ^ 32 → Talk xid commit (committed v)
talk_commit xid v fits = talk xid commit (committed v) fits (omega arith) (commit_call_written the_file 0 0 file_fits (omega arith) (omega arith))
    (record { answers = refl; is = commit_reply_written no_wcc (verf v) no_wcc_fits (verf_fits v) }) (committed_long v)

no_space_long : length (results_of no_space) ≤ 1000
unfolding file_reply_bytes wcc_bytes opt_stamp_bytes opt_attr_bytes flag_bytes u32_bytes
no_space_long = let n : length (results_of no_space) ≡ 12 = refl in omega (arith, n)

pub talk_no_space : (xid offset : ℕ) (bytes : List ℕ) → xid < 2 ^ 32 → offset < 2 ^ 64 → length bytes ≤ 65536 → Talk xid (write_of offset bytes) no_space
talk_no_space xid offset bytes fits o le = talk xid (write_of offset bytes) no_space fits (omega arith) (write_call_written the_file offset 0 bytes file_fits o (omega arith) le)
    (record { answers = refl; is = write_fail_written (record { 0 = 28 }) no_wcc (omega arith) (omega arith) no_wcc_fits }) no_space_long

read_long : (byte : ℕ) (eof : Bool) → length (results_of (read_reply byte eof)) ≤ 1000
unfolding file_reply_bytes read_done_bytes opt_attr_bytes flag_bytes u32_bytes opaque_bytes fixed_bytes
read_long byte true = let n : length (results_of (read_reply byte true)) ≡ 24 = refl in omega (arith, n)
read_long byte false = let n : length (results_of (read_reply byte false)) ≡ 24 = refl in omega (arith, n)

pub talk_read : (xid offset byte : ℕ) (eof : Bool) → xid < 2 ^ 32 → offset < 2 ^ 64 → Talk xid (read_of offset) (read_reply byte eof)
talk_read xid offset byte eof fits o = talk xid (read_of offset) (read_reply byte eof) fits (omega arith) (read_call_written the_file offset 1 file_fits o (omega arith))
    (record { answers = refl; is = read_reply_written None 1 eof (byte ∷ []) (none_attr_written None refl) (omega arith) (omega arith) }) (read_long byte eof)
