-- Messages byte for byte, from RFC 5531, section 9 and appendix A.
use Rattle.std.proofs.Common.{◌≡◌, ℕ, List, [], ◌∷◌, ◌++◌, Some, None, Ok, Err, refl}
use Rattle.std.specs.Prelude.{codes}
use Rattle.xdr_codec.specs.declared.reader.XdrFault.TheVariants.{Short, BadValue, TooLong, Trailing}
use Rattle.xdr_codec.specs.Reading.{fixed_at, opaque_at}
use Rattle.xdr_codec.specs.Spelling.{u32_bytes, fixed_bytes, opaque_bytes}
use Rattle.xdr_codec.proofs.Hex.{hex}
use Rattle.rpc_message.specs.declared.call.CallHead.{CallHead}
use Rattle.rpc_message.specs.declared.call.CallFault.TheVariants as call_faults
use Rattle.rpc_message.specs.declared.cred.Cred.TheVariants as creds
use Rattle.rpc_message.specs.declared.reply.ReplyFault.TheVariants as reply_faults
use Rattle.rpc_message.specs.Auth.{auth_at}
use Rattle.rpc_message.specs.Cred.{none_bytes, sys_bytes, cred_bytes}
use Rattle.rpc_message.specs.Call.{xid_at, head_at, call_at, opening_bytes, program_bytes, call_head_bytes}
use Rattle.rpc_message.specs.Reply.{Accepted, Refused, Denied, range_at, one_word_at, accepted_at, denied_at, answer_at, reply_at, verified_bytes, accepted_bytes, refused_bytes, denied_opening_bytes, denied_bytes}

-- a call of NFS, version 3
abbrev nfs : ℕ → ℕ → CallHead
nfs xid proc = record { xid = xid; prog = 100003; vers = 3; proc = proc }

-- ---- calls

-- NULL, xid 1, as nobody
abbrev null_call : List ℕ
null_call = hex (codes "00000001 00000000 00000002 000186a3 00000003 00000000 00000000 00000000 00000000 00000000")

null_written : call_head_bytes (nfs 1 0) creds.None ≡ null_call
unfolding call_head_bytes opening_bytes program_bytes cred_bytes none_bytes opaque_bytes fixed_bytes u32_bytes
null_written = refl

null_read : call_at null_call ≡ Ok (nfs 1 0, [])
unfolding call_at head_at auth_at opaque_at fixed_at
null_read = refl

null_xid : xid_at null_call ≡ Some 1
null_xid = refl

-- NULL, xid 1, as the user 1000 and the group 100 of the machine nfs3
sys_written : call_head_bytes (nfs 1 0) (creds.Sys (codes "nfs3") 1000 100) ≡ hex (codes "00000001 00000000 00000002 000186a3 00000003 00000000 00000001 00000018 00000000 00000004 6e667333 000003e8 00000064 00000000 00000000 00000000")
unfolding call_head_bytes opening_bytes program_bytes cred_bytes none_bytes sys_bytes opaque_bytes fixed_bytes u32_bytes
sys_written = refl

-- COMMIT, xid 3, up to its arguments
commit_written : call_head_bytes (nfs 3 21) creds.None ≡ hex (codes "00000003 00000000 00000002 000186a3 00000003 00000015 00000000 00000000 00000000 00000000")
unfolding call_head_bytes opening_bytes program_bytes cred_bytes none_bytes opaque_bytes fixed_bytes u32_bytes
commit_written = refl

-- ---- what is no call

three_bytes : xid_at (hex (codes "000000")) ≡ None
three_bytes = refl

short_call : call_at (hex (codes "00000001 00000000 00000002 000186a3 00000003 00000000 00000000 00000000 00000000 000000")) ≡ Err (call_faults.Xdr Short)
unfolding call_at head_at auth_at opaque_at fixed_at
short_call = refl

other_version : call_at (hex (codes "00000001 00000000 00000003")) ≡ Err call_faults.Version
unfolding call_at
other_version = refl

credential_of_401_bytes : call_at (hex (codes "00000001 00000000 00000002 000186a3 00000003 00000000 00000006 00000191")) ≡ Err (call_faults.Xdr TooLong)
unfolding call_at head_at auth_at opaque_at
credential_of_401_bytes = refl

-- ---- replies

-- any verifier stands before the results
accepted_read : reply_at (hex (codes "00000007 00000001 00000000 00000002 00000003 616263ff 00000000") ++ codes "results!") ≡ Ok (Accepted 7 (codes "results!"))
unfolding reply_at answer_at accepted_at auth_at opaque_at fixed_at
accepted_read = refl

accepted_written : accepted_bytes 7 ≡ hex (codes "00000007 00000001 00000000 00000000 00000000 00000000")
unfolding accepted_bytes verified_bytes none_bytes opaque_bytes fixed_bytes u32_bytes
accepted_written = refl

-- PROG_MISMATCH, versions 3 to 4
abbrev prog_mismatch : List ℕ
prog_mismatch = hex (codes "00000007 00000001 00000000 00000000 00000000 00000002 00000003 00000004")

prog_mismatch_read : reply_at prog_mismatch ≡ Ok (Refused 7 2 3 4)
unfolding reply_at answer_at accepted_at range_at auth_at opaque_at fixed_at
prog_mismatch_read = refl

prog_mismatch_written : refused_bytes 7 2 3 4 ≡ prog_mismatch
unfolding refused_bytes verified_bytes none_bytes opaque_bytes fixed_bytes u32_bytes
prog_mismatch_written = refl

-- RPC_MISMATCH, versions 2 to 2
abbrev rpc_mismatch : List ℕ
rpc_mismatch = hex (codes "00000007 00000001 00000001 00000000 00000002 00000002")

rpc_mismatch_read : reply_at rpc_mismatch ≡ Ok (Denied 7 0 2 2)
unfolding reply_at answer_at denied_at range_at
rpc_mismatch_read = refl

rpc_mismatch_written : denied_bytes 7 0 2 2 ≡ rpc_mismatch
unfolding denied_bytes denied_opening_bytes u32_bytes
rpc_mismatch_written = refl

-- AUTH_ERROR with the auth status 5, AUTH_TOOWEAK
abbrev auth_error : List ℕ
auth_error = hex (codes "00000007 00000001 00000001 00000001 00000005")

auth_error_read : reply_at auth_error ≡ Ok (Denied 7 1 5 0)
unfolding reply_at answer_at denied_at one_word_at
auth_error_read = refl

auth_error_written : denied_bytes 7 1 5 0 ≡ auth_error
unfolding denied_bytes denied_opening_bytes u32_bytes
auth_error_written = refl

-- ---- what is no reply, or another message

reply_is_no_call : call_at auth_error ≡ Err call_faults.NotCall
unfolding call_at
reply_is_no_call = refl

call_is_no_reply : reply_at null_call ≡ Err reply_faults.NotReply
unfolding reply_at
call_is_no_reply = refl

short_reply : reply_at (hex (codes "00000007 00000001 00000001 00000001 000000")) ≡ Err (reply_faults.Xdr Short)
unfolding reply_at answer_at denied_at one_word_at
short_reply = refl

-- reply statuses, reject statuses and accept statuses that RFC 5531 doesn't have
reply_status_of_2 : reply_at (hex (codes "00000007 00000001 00000002")) ≡ Err (reply_faults.Xdr BadValue)
unfolding reply_at answer_at
reply_status_of_2 = refl

reject_status_of_2 : reply_at (hex (codes "00000007 00000001 00000001 00000002")) ≡ Err (reply_faults.Xdr BadValue)
unfolding reply_at answer_at denied_at
reject_status_of_2 = refl

accept_status_of_6 : reply_at (hex (codes "00000007 00000001 00000000 00000000 00000000 00000006")) ≡ Err (reply_faults.Xdr BadValue)
unfolding reply_at answer_at accepted_at auth_at opaque_at fixed_at
accept_status_of_6 = refl

-- a byte after a refusal
refusal_and_more : reply_at (hex (codes "00000007 00000001 00000000 00000000 00000000 00000001 00")) ≡ Err (reply_faults.Xdr Trailing)
unfolding reply_at answer_at accepted_at auth_at opaque_at fixed_at
refusal_and_more = refl
