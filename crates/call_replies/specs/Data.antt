-- Where the data of a READ stand in their record: last (RFC 1813, section 3.3.6, and RFC 4506, section 4.10).
use Rattle.std.specs.Prelude.{◌≡◌, ℕ, Bool, List, ◌++◌, length, Option, Result, Ok}
use Rattle.xdr_codec.specs.Reading.{padding}
use Rattle.nfs_types.specs.declared.attr.Attr.{Attr}
use Rattle.nfs_file_calls.specs.declared.owned.FileKept.TheVariants as kept
use Rattle.world_model.specs.declared.answer.Fault.{Fault}
use Rattle.world_model.specs.declared.message.Reply.{Reply}
use Rattle.world_model.specs.declared.message.Reply.TheVariants as replies

-- bytes with which others end
pub record EndsIn (last all : List ℕ) : Type 0 where
  pub front : List ℕ
  pub is : all ≡ front ++ last

-- data with which a record ends, but for their padding
pub record StandLast (bytes rec : List ℕ) : Type 0 where
  pub pad : List ℕ
  pub long : length pad ≡ padding (length bytes)
  pub ends : EndsIn (bytes ++ pad) rec

-- the data of a reply to a READ stand so in its record
abbrev pub DataLast : Result Reply Fault → List ℕ → Type 0
DataLast said rec = (attr : Option Attr) (count : ℕ) (eof : Bool) (bytes : List ℕ) → said ≡ Ok (replies.File (kept.Read attr count eof bytes)) → StandLast bytes rec
