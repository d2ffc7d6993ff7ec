-- Records by hand, from the XDR of RFC 5531, section 9, and RFC 1813, section 3.3, and what they say of a call.
use Rattle.std.proofs.Common.{◌≡◌, Result, Ok, Err, refl}
use Rattle.std.specs.Prelude.{codes}
use Rattle.xdr_codec.specs.Reading.{fixed_at, opaque_at}
use Rattle.xdr_codec.proofs.Hex.{hex}
use Rattle.rpc_message.specs.Auth.{auth_at}
use Rattle.rpc_message.specs.Reply.{range_at, one_word_at, accepted_at, denied_at, answer_at, reply_at}
use Rattle.nfs_file_calls.specs.declared.owned.FileKept.TheVariants as kept
use Rattle.nfs_file_calls.specs.Replies.{get_attr_reply_at}
use Rattle.world_model.specs.declared.answer.Fault.{Fault}
use Rattle.world_model.specs.declared.answer.Fault.TheVariants as faults
use Rattle.world_model.specs.declared.message.Reply.{Reply}
use Rattle.world_model.specs.declared.message.Reply.TheVariants as replies
use Rattle.call_replies.specs.Says.{said_of}

abbrev fails : Fault → Result Reply Fault
fails fault = Err fault

-- a call comes in place of a reply: rule 1
call_is_none : said_of 1 (hex (codes "00000005 00000000 00000002")) ≡ fails (faults.Bad 1)
unfolding reply_at
call_is_none = refl

-- there is an xid alone: rule 2
xid_alone : said_of 1 (hex (codes "00000005")) ≡ fails (faults.Bad 2)
unfolding reply_at
xid_alone = refl

-- RPC refuses the call: PROC_UNAVAIL, RPC_MISMATCH, and the auth status 2
procedure_unavailable : said_of 1 (hex (codes "00000005 00000001 00000000 00000000 00000000 00000003")) ≡ fails (faults.Rpc 3)
unfolding reply_at answer_at accepted_at auth_at opaque_at fixed_at
procedure_unavailable = refl

other_version : said_of 1 (hex (codes "00000005 00000001 00000001 00000000 00000002 00000002")) ≡ fails (faults.Rpc 100)
unfolding reply_at answer_at denied_at range_at
other_version = refl

rejected_credential : said_of 1 (hex (codes "00000005 00000001 00000001 00000001 00000002")) ≡ fails (faults.Rpc 202)
unfolding reply_at answer_at denied_at one_word_at
rejected_credential = refl

-- GETATTR with status 70, NFS3ERR_STALE; the same with a byte more breaks rule 2, and so does a procedure that isn't there
stale : said_of 1 (hex (codes "00000005 00000001 00000000 00000000 00000000 00000000 00000046")) ≡ Ok (replies.File (kept.GetAttrFail (record { 0 = 70 })))
unfolding reply_at answer_at accepted_at auth_at opaque_at fixed_at get_attr_reply_at
stale = refl

byte_more : said_of 1 (hex (codes "00000005 00000001 00000000 00000000 00000000 00000000 00000046 00")) ≡ fails (faults.Bad 2)
unfolding reply_at answer_at accepted_at auth_at opaque_at fixed_at get_attr_reply_at
byte_more = refl

no_procedure : said_of 22 (hex (codes "00000005 00000001 00000000 00000000 00000000 00000000 00000046")) ≡ fails (faults.Bad 2)
unfolding reply_at answer_at accepted_at auth_at opaque_at fixed_at
no_procedure = refl
