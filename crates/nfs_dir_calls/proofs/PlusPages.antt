-- What is read as an entry of READDIRPLUS is spelled so, and what is spelled so is read.
use Rattle.std.proofs.Common.{◌≡◌, ℕ, List, Ok, refl, true}
use Rattle.xdr_codec.specs.Reading.{flag_at}
use Rattle.xdr_codec.specs.Bytes.{IsBytes}
use Rattle.xdr_codec.proofs.Laws.{Codec, field_if, last_if, always, u64_codec}
use Rattle.xdr_codec.proofs.MoreLaws.{flag_codec}
use Rattle.xdr_codec.specs.Spells.{◌⨾◌, SpellsU64, Wrote}
use Rattle.nfs_types.specs.Spells.{SpellsName, SpellsOptAttr}
use Rattle.nfs_dir_calls.specs.OptHandles.{SpellsOptHandle}
use Rattle.nfs_dir_calls.proofs.Wrote.{wrote_then, wrote_across, wrote_as, then_across, then_inside}
use Rattle.nfs_types.specs.Names.{IsName}
use Rattle.nfs_types.proofs.Laws.{name_codec, opt_attr_codec}
use Rattle.nfs_dir_calls.specs.declared.plus_page.PlusRow.{PlusRow}
use Rattle.nfs_dir_calls.proofs.OptHandles.{opt_handle_codec}
use Rattle.nfs_dir_calls.specs.PlusPages.{plus_row_at, SpellsPlusRow}

pub plus_row_codec : Codec plus_row_at SpellsPlusRow
unfolding plus_row_at
plus_row_codec = always (
    field_if (λ v. v.fileid) u64_codec (λ fileid. field_if (λ v. v.name) name_codec (λ name. field_if (λ v. v.cookie) u64_codec (λ cookie. field_if (λ v. v.attr) opt_attr_codec (λ attr.
    last_if (λ v. v.found) (λ found. record { fileid = fileid; name = name; cookie = cookie; attr = attr; found = found }) opt_handle_codec
    (λ a. (((((tt, refl), refl), refl), refl), refl)) (λ b k. rw (← k.1, ← k.0.1, ← k.0.0.1, ← k.0.0.0.1) refl))))))

-- the name of an entry that was read
pub plus_row_named : (bytes more rest : List ℕ) (v : PlusRow) → IsBytes bytes → flag_at bytes ≡ Ok (true, more) → plus_row_at more ≡ Ok (v, rest) → IsName v.name
plus_row_named bytes more rest v fits e f =
    let t = plus_row_codec.takes more (v, rest) (flag_codec.takes bytes (true, more) fits e).rest f in
    t.spells.two.one.rule

-- an entry that was written as one of READDIR, and then its attributes and file handle
pub wrote_row : (v : PlusRow) (old mid more new : List ℕ) → Wrote (SpellsU64 v.fileid ⨾ SpellsName v.name ⨾ SpellsU64 v.cookie) old mid
    → Wrote (SpellsOptAttr v.attr) mid more → Wrote (SpellsOptHandle v.found) more new → Wrote (SpellsPlusRow v) old new
wrote_row v old mid more new w a h =
    let T : List ℕ → Type 0 = SpellsOptAttr v.attr ⨾ SpellsOptHandle v.found in
    let F : List ℕ → Type 0 = SpellsName v.name ⨾ SpellsU64 v.cookie in
    wrote_as (SpellsU64 v.fileid ⨾ (F ⨾ T)) (SpellsPlusRow v) old new
    (λ text s. then_inside text (λ back t. then_across back t) s)
    (wrote_across (SpellsU64 v.fileid) F T old mid new w (wrote_then (SpellsOptAttr v.attr) (SpellsOptHandle v.found) mid more new a h))
