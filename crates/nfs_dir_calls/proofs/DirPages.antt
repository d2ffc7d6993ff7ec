-- What is read as an entry of READDIR is spelled so, and what is spelled so is read.
use Rattle.std.proofs.Common.{◌≡◌, ℕ, List, Ok, refl, true}
use Rattle.xdr_codec.specs.Reading.{flag_at}
use Rattle.xdr_codec.specs.Bytes.{IsBytes}
use Rattle.xdr_codec.proofs.Laws.{Codec, field_if, last_if, always, u64_codec}
use Rattle.xdr_codec.proofs.MoreLaws.{flag_codec}
use Rattle.xdr_codec.specs.Spells.{SpellsOpaque, Wrote}
use Rattle.nfs_types.specs.Spells.{SpellsName}
use Rattle.nfs_dir_calls.proofs.Wrote.{wrote_as}
use Rattle.nfs_types.specs.Names.{IsName}
use Rattle.nfs_types.proofs.Laws.{name_codec}
use Rattle.nfs_dir_calls.specs.declared.dir_page.DirRow.{DirRow}
use Rattle.nfs_dir_calls.specs.DirPages.{dir_row_at, SpellsDirRow}

pub dir_row_codec : Codec dir_row_at SpellsDirRow
unfolding dir_row_at
dir_row_codec = always (
    field_if (λ v. v.fileid) u64_codec (λ fileid. field_if (λ v. v.name) name_codec (λ name.
    last_if (λ v. v.cookie) (λ cookie. record { fileid = fileid; name = name; cookie = cookie }) u64_codec (λ a. (((tt, refl), refl), refl)) (λ b k. rw (← k.1, ← k.0.1) refl))))

-- the name of an entry that was read
pub dir_row_named : (bytes more rest : List ℕ) (v : DirRow) → IsBytes bytes → flag_at bytes ≡ Ok (true, more) → dir_row_at more ≡ Ok (v, rest) → IsName v.name
dir_row_named bytes more rest v fits e f =
    let t = dir_row_codec.takes more (v, rest) (flag_codec.takes bytes (true, more) fits e).rest f in
    t.spells.two.one.rule

-- a name that was written as an opaque
pub wrote_name : (name old new : List ℕ) → IsName name → Wrote (SpellsOpaque 255 name) old new → Wrote (SpellsName name) old new
wrote_name name old new k w = wrote_as (SpellsOpaque 255 name) (SpellsName name) old new (λ text s. record { rule = k; is = s }) w
