-- What is spelled has a spelling.
use Rattle.std.proofs.Common.{ℕ, List, Result, Ok, Err}
use Rattle.std.specs.Prelude.{IfOk}
use Rattle.xdr_codec.specs.declared.reader.XdrFault.{XdrFault}
use Rattle.xdr_codec.specs.declared.codec_fault.CodecFault.{CodecFault}
use Rattle.xdr_codec.specs.Whole.{FindsWhole, FindsOwned}
use Rattle.nfs_dir_calls.specs.declared.call.DirCall.{DirCall}
use Rattle.nfs_dir_calls.specs.declared.keeping.DirKept.{DirKept}
use Rattle.nfs_dir_calls.specs.declared.reply.DirReply.{DirReply}
use Rattle.nfs_dir_calls.specs.Calls.{SpellsDirCall, SpellsDirCallOf, HasSpellingDirCall}
use Rattle.nfs_dir_calls.specs.Kept.{kept_of}
use Rattle.nfs_dir_calls.specs.Replies.{SpellsReply, SpellsDirReply, HasSpellingDirReply}
use Rattle.nfs_dir_calls.specs.declared.call.DirCall.TheVariants as calls
use Rattle.nfs_dir_calls.specs.declared.keeping.DirKept.TheVariants as kept

-- arguments that spell a call show that it has a spelling
pub call_has_spelling : (call : DirCall) (args : List ℕ) → SpellsDirCall call args → HasSpellingDirCall call
call_has_spelling (calls.Lookup dir name) args s = tt
call_has_spelling (calls.ReadLink file) args s = tt
call_has_spelling (calls.Create dir name making) args s = tt
call_has_spelling (calls.MkDir dir name set) args s = tt
call_has_spelling (calls.SymLink dir name set target) args s = s.two.two.two.bound
call_has_spelling (calls.MkNod dir name node) args s = s.two.kind
call_has_spelling (calls.Remove dir name) args s = tt
call_has_spelling (calls.RmDir dir name) args s = tt
call_has_spelling (calls.Rename from_dir «from» to_dir to) args s = tt
call_has_spelling (calls.Link file dir name) args s = tt
call_has_spelling (calls.ReadDir dir cookie verf count) args s = tt
call_has_spelling (calls.ReadDirPlus dir cookie verf dircount maxcount) args s = tt

-- results that spell a reply show that it has a spelling
pub reply_has_spelling : (reply : DirKept) (results : List ℕ) → SpellsReply reply results → HasSpellingDirReply reply
reply_has_spelling (kept.Lookup found attr dir) results s = tt
reply_has_spelling (kept.LookupFail status dir) results s = s.failed
reply_has_spelling (kept.ReadLink attr text) results s = s.two.two.two.bound
reply_has_spelling (kept.ReadLinkFail status attr) results s = s.failed
reply_has_spelling (kept.Create found attr wcc) results s = tt
reply_has_spelling (kept.CreateFail status wcc) results s = s.failed
reply_has_spelling (kept.MkDir found attr wcc) results s = tt
reply_has_spelling (kept.MkDirFail status wcc) results s = s.failed
reply_has_spelling (kept.SymLink found attr wcc) results s = tt
reply_has_spelling (kept.SymLinkFail status wcc) results s = s.failed
reply_has_spelling (kept.MkNod found attr wcc) results s = tt
reply_has_spelling (kept.MkNodFail status wcc) results s = s.failed
reply_has_spelling (kept.Remove wcc) results s = tt
reply_has_spelling (kept.RemoveFail status wcc) results s = s.failed
reply_has_spelling (kept.RmDir wcc) results s = tt
reply_has_spelling (kept.RmDirFail status wcc) results s = s.failed
reply_has_spelling (kept.Rename «from» to) results s = tt
reply_has_spelling (kept.RenameFail status «from» to) results s = s.failed
reply_has_spelling (kept.Link attr wcc) results s = tt
reply_has_spelling (kept.LinkFail status attr wcc) results s = s.failed
reply_has_spelling (kept.ReadDir attr verf page eof) results s = tt
reply_has_spelling (kept.ReadDirFail status attr) results s = s.failed
reply_has_spelling (kept.ReadDirPlus attr verf page eof) results s = tt
reply_has_spelling (kept.ReadDirPlusFail status attr) results s = s.failed

-- so a call that was read has one
pub read_call_has : (proc : ℕ) (args : List ℕ) (result : Result DirCall CodecFault) → FindsOwned (SpellsDirCallOf proc) args result → IfOk result HasSpellingDirCall
read_call_has proc args (Ok v) f = call_has_spelling v args f.found.is
read_call_has proc args (Err e) f = tt

-- and a reply that was read
pub read_reply_has : (proc : ℕ) (results : List ℕ) (result : Result DirReply XdrFault) → FindsWhole kept_of (SpellsDirReply proc) results result → IfOk result (λ v. HasSpellingDirReply (kept_of v))
read_reply_has proc results (Ok v) f = reply_has_spelling (kept_of v) results f.found.is
read_reply_has proc results (Err e) f = tt
