-- READDIRPLUS (RFC 1813, section 3.3.17).
use Rattle.std.specs.Prelude.{ℕ, List, ◌++◌, Bool, Option, Result, Ok}
use Rattle.xdr_codec.specs.declared.reader.XdrFault.{XdrFault}
use Rattle.xdr_codec.specs.Reading.{◌>>=◌, u32_at, u64_at, flag_at}
use Rattle.xdr_codec.specs.Whole.{whole_at}
use Rattle.xdr_codec.specs.Spelling.{u32_bytes, flag_bytes}
use Rattle.xdr_codec.specs.Arms.{Arms, Done, Failure, arms_at}
use Rattle.nfs_types.specs.declared.attr.Attr.{Attr}
use Rattle.nfs_types.specs.declared.verf.Verf.{Verf}
use Rattle.nfs_types.specs.Fields.{handle_at, opt_attr_at, opt_attr_bytes, verf_at, verf_bytes}
use Rattle.nfs_dir_calls.specs.declared.call.DirCall.{DirCall}
use Rattle.nfs_dir_calls.specs.declared.call.DirCall.TheVariants as calls
use Rattle.nfs_dir_calls.specs.declared.keeping.DirKept.{DirKept}
use Rattle.nfs_dir_calls.specs.declared.keeping.DirKept.TheVariants as kept
use Rattle.nfs_dir_calls.specs.declared.plus_page.PlusRow.{PlusRow}
use Rattle.nfs_dir_calls.specs.Pairs.{◌▸◌}
use Rattle.nfs_dir_calls.specs.Pages.{page_at, page_bytes}
use Rattle.nfs_dir_calls.specs.PlusPages.{plus_row_at, plus_row_bytes}

-- the arguments: the directory, the cookie to go on from, the verifier of the cookies, and the most bytes of names and cookies, and of a reply
unfoldable pub readdirplus_call_at : List ℕ → Result DirCall XdrFault
readdirplus_call_at args = whole_at (handle_at ▸ u64_at ▸ verf_at ▸ u32_at ▸ u32_at) args >>= λ v. Ok (calls.ReadDirPlus v.0 v.1.0 v.1.1.0 v.1.1.1.0 v.1.1.1.1)

-- the results: the directory's attributes, a verifier of the cookies, a page and whether it is the last; in failure the
-- attributes
abbrev pub readdirplus_of : Arms (Option Attr × (Verf × (List PlusRow × Bool))) (Option Attr) → DirKept
readdirplus_of (Done v) = kept.ReadDirPlus v.0 v.1.0 v.1.1.0 v.1.1.1
readdirplus_of (Failure status attr) = kept.ReadDirPlusFail (record { 0 = status }) attr

unfoldable pub readdirplus_at : List ℕ → Result DirKept XdrFault
readdirplus_at results = whole_at (arms_at (opt_attr_at ▸ verf_at ▸ page_at plus_row_at ▸ flag_at) opt_attr_at) results >>= λ v. Ok (readdirplus_of v)

unfoldable pub readdirplus_bytes : Option Attr → Verf → List PlusRow → Bool → List ℕ
readdirplus_bytes attr verf page eof = u32_bytes 0 ++ opt_attr_bytes attr ++ verf_bytes verf ++ page_bytes plus_row_bytes page ++ flag_bytes eof
