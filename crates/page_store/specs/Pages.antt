-- Pages of files in the bodies of slots: the handle's length and 64 bytes for it, the stamp, the page's number, the length of
-- the page and 4,096 bytes for it, and zeros.
use Rattle.std.specs.Prelude.{◌<◌, ◌≡◌, ◌⊎◌, ℕ, ◌+◌, List, ◌++◌, length, take, drop, replicate, Option, Some, None, Result, Ok, Err, nat_lt, if◌then◌else◌}
use Rattle.xdr_codec.specs.declared.reader.XdrFault.{XdrFault}
use Rattle.xdr_codec.specs.declared.reader.XdrFault.TheVariants.{TooLong}
use Rattle.xdr_codec.specs.Reading.{◌>>=◌, u32_at, u64_at, fixed_at}
use Rattle.xdr_codec.specs.Spelling.{u32_bytes, u64_bytes}
use Rattle.nfs_types.specs.declared.wcc.Stamp.{Stamp}
use Rattle.nfs_types.specs.declared.kept_page.KeptPage.{KeptPage}
use Rattle.nfs_types.specs.Fields.{stamp_at, stamp_bytes}
use Rattle.nfs_types.specs.Held.{held}
use Rattle.page_store.specs.Slots.{gate_at, IsOpen}

-- a page of a file, with the stamp under which it is believed
pub record StoredPage : Type 0 where
  pub file : List ℕ
  pub stamp : Stamp
  pub index : ℕ
  pub bytes : List ℕ

-- a page as it is handed out
abbrev pub shows_page : KeptPage → StoredPage
shows_page p = record { file = p.file; stamp = p.stamp; index = p.index; bytes = p.bytes.now }

abbrev pub stored_page : List ℕ → Stamp → ℕ → List ℕ → StoredPage
stored_page file stamp index bytes = record { file = file; stamp = stamp; index = index; bytes = bytes }

-- bytes in a room of that many, behind their length
unfoldable pub field_at : ℕ → List ℕ → Result (List ℕ × List ℕ) XdrFault
field_at room bytes = do
  len ← u32_at bytes
  all ← fixed_at room len.1
  if nat_lt room len.0 then Err TooLong else Ok (take len.0 all.0, all.1)

unfoldable pub field_bytes : ℕ → List ℕ → List ℕ
field_bytes room bytes = u32_bytes (length bytes) ++ held room bytes

-- the page that stands at the front of bytes, and what is behind it
unfoldable pub page_at : List ℕ → Result (StoredPage × List ℕ) XdrFault
page_at bytes = do
  file ← field_at 64 bytes
  stamp ← stamp_at file.1
  index ← u64_at stamp.1
  page ← field_at 4096 index.1
  Ok (stored_page file.0 stamp.0 index.0 page.0, page.1)

abbrev pub found : Result (StoredPage × List ℕ) XdrFault → Option StoredPage
found (Ok p) = Some p.0
found (Err f) = None

-- the page of a body; None if it breaks a rule
abbrev pub page_of : List ℕ → Option StoredPage
page_of body = found (page_at body)

-- the body of a page
unfoldable pub body_bytes : StoredPage → List ℕ
body_bytes p = field_bytes 64 p.file ++ (stamp_bytes p.stamp ++ (u64_bytes p.index ++ (field_bytes 4096 p.bytes ++ replicate 20 0)))

-- the bytes of an image from a place on, with zeros past its end
abbrev pub part_in : ℕ → ℕ → List ℕ → List ℕ
part_in n at image = take n (drop at image ++ replicate n 0)

-- the body of a slot
abbrev pub body_in : List ℕ → ℕ → List ℕ
body_in image k = part_in 4220 (gate_at k + 4) image

-- a slot is open, and its body is this page's
pub record HasPage (image : List ℕ) (k : ℕ) (page : StoredPage) : Type 0 where
  pub opens : IsOpen image k
  pub is : page_of (body_in image k) ≡ Some page

-- a page that an image has in a slot stood there in one of these images
abbrev pub WasKept : (List ℕ → Type 0) → ℕ → StoredPage → Type 0
WasKept old k page = (d : List ℕ) × old d × HasPage d k page

-- each page in the first n slots of an image stood there in one of these images, or it is this one, in its slot
abbrev pub KeepsOnly : ℕ → ℕ → StoredPage → (List ℕ → Type 0) → List ℕ → Type 0
KeepsOnly n slot new old image = (k : ℕ) (page : StoredPage) → k < n → HasPage image k page → WasKept old k page ⊎ ((k ≡ slot) × (page ≡ new))
