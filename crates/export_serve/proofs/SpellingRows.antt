-- Rows by hand: the records of replies under the xid 9 (RFC 5531, section 9, and RFC 1813).
use Rattle.std.proofs.Common.{◌≡◌, ℕ, true, false, List, [], ◌∷◌, ◌++◌, Option, Some, None, replicate, refl}
use Rattle.xdr_codec.specs.Spelling.{u32_bytes, u64_bytes, flag_bytes, fixed_bytes, opaque_bytes}
use Rattle.nfs_types.specs.Fields.{handle_bytes, name_bytes, verf_bytes, opt_attr_bytes}
use Rattle.mount_calls.specs.declared.reply.MountReply.TheVariants as mounted
use Rattle.mount_calls.specs.Flavors.{flavors_bytes, words_bytes}
use Rattle.mount_calls.specs.Replies.{mount_reply_bytes, mnt_ok_bytes}
use Rattle.nfs_dir_calls.specs.declared.keeping.DirKept.TheVariants as found
use Rattle.nfs_dir_calls.specs.DirPages.{dir_row_bytes}
use Rattle.nfs_dir_calls.specs.OptHandles.{opt_handle_bytes}
use Rattle.nfs_dir_calls.specs.Pages.{page_bytes}
use Rattle.nfs_dir_calls.specs.PlusPages.{plus_row_bytes}
use Rattle.nfs_dir_calls.specs.ReadDir.{readdir_bytes}
use Rattle.nfs_dir_calls.specs.ReadDirPlus.{readdirplus_bytes}
use Rattle.nfs_dir_calls.specs.Replies.{dir_reply_bytes}
use Rattle.nfs_file_calls.specs.declared.owned.FileKept.TheVariants as kept
use Rattle.nfs_file_calls.specs.Replies.{file_reply_bytes}
use Rattle.rpc_message.specs.Cred.{none_bytes}
use Rattle.rpc_message.specs.Reply.{verified_bytes, accepted_bytes}
use Rattle.world_model.specs.declared.message.Reply.{Reply}
use Rattle.world_model.specs.declared.message.Reply.TheVariants as replies
use Rattle.export_serve.specs.Spelling.{reply_bytes}

-- words of four bytes, each a number below 256
abbrev words : List ℕ → List ℕ
words [] = []
words (n ∷ more) = 0 ∷ 0 ∷ 0 ∷ n ∷ words more

-- the record of these results: xid, REPLY, MSG_ACCEPTED, a verifier of AUTH_NONE, SUCCESS
abbrev record_of : List ℕ → List ℕ
record_of results = words (9 ∷ 1 ∷ 0 ∷ 0 ∷ 0 ∷ 0 ∷ []) ++ results

-- the name `a` as a word of its length and its byte
abbrev a : List ℕ
a = words (1 ∷ []) ++ 97 ∷ 0 ∷ 0 ∷ 0 ∷ []

abbrev second : List ℕ
second = 0 ∷ 0 ∷ 0 ∷ 0 ∷ 0 ∷ 0 ∷ 0 ∷ 2 ∷ []

mounted_row : reply_bytes 9 (replies.Mount (mounted.MntOk (0 ∷ 0 ∷ 0 ∷ 0 ∷ 0 ∷ 0 ∷ 0 ∷ 1 ∷ []) (0 ∷ 1 ∷ []))) ≡ record_of (words (0 ∷ 8 ∷ 0 ∷ 1 ∷ 2 ∷ 0 ∷ 1 ∷ []))
unfolding none_bytes u32_bytes fixed_bytes opaque_bytes handle_bytes verified_bytes accepted_bytes mount_reply_bytes mnt_ok_bytes flavors_bytes words_bytes
mounted_row = refl

null_row : reply_bytes 9 (replies.File kept.Null) ≡ record_of []
unfolding none_bytes u32_bytes fixed_bytes opaque_bytes verified_bytes accepted_bytes file_reply_bytes
null_row = refl

stale_row : reply_bytes 9 (replies.File (kept.GetAttrFail (record { 0 = 70 }))) ≡ record_of (words (70 ∷ []))
unfolding none_bytes u32_bytes fixed_bytes opaque_bytes verified_bytes accepted_bytes file_reply_bytes
stale_row = refl

-- READDIRPLUS: status, no attributes, a verifier of zeros; an entry with its number, name, cookie, no attributes and a
-- file handle; no more entries, and it is the last page
plus_row : reply_bytes 9 (replies.Dir (found.ReadDirPlus None (record { 0 = replicate 8 0 }) (record { fileid = 2; name = 97 ∷ []; cookie = 1; attr = None; found = Some second } ∷ []) true))
    ≡ record_of (words (0 ∷ 0 ∷ 0 ∷ 0 ∷ 1 ∷ 0 ∷ 2 ∷ []) ++ a ++ words (0 ∷ 1 ∷ 0 ∷ 1 ∷ 8 ∷ 0 ∷ 2 ∷ 0 ∷ 1 ∷ []))
unfolding none_bytes u32_bytes u64_bytes flag_bytes fixed_bytes opaque_bytes handle_bytes name_bytes verf_bytes opt_attr_bytes opt_handle_bytes page_bytes dir_row_bytes plus_row_bytes readdirplus_bytes dir_reply_bytes verified_bytes accepted_bytes
plus_row = refl

-- READDIR: the entry has no attributes and no file handle; more pages follow
dir_row : reply_bytes 9 (replies.Dir (found.ReadDir None (record { 0 = replicate 8 0 }) (record { fileid = 2; name = 97 ∷ []; cookie = 1 } ∷ []) false))
    ≡ record_of (words (0 ∷ 0 ∷ 0 ∷ 0 ∷ 1 ∷ 0 ∷ 2 ∷ []) ++ a ++ words (0 ∷ 1 ∷ 0 ∷ 0 ∷ []))
unfolding none_bytes u32_bytes u64_bytes flag_bytes fixed_bytes opaque_bytes name_bytes verf_bytes opt_attr_bytes page_bytes dir_row_bytes readdir_bytes dir_reply_bytes verified_bytes accepted_bytes
dir_row = refl
