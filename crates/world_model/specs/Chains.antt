-- The pages of a listing, one after the other (RFC 1813, section 3.3.17).
use Rattle.std.specs.Prelude.{◌≡◌, ◌++◌, ℕ, List, [], ◌∷◌, Bool, Option, map, filter, not, replicate}
use Rattle.nfs_types.specs.declared.attr.Attr.{Attr}
use Rattle.nfs_types.specs.declared.verf.Verf.{Verf}
use Rattle.nfs_dir_calls.specs.declared.call.DirCall.TheVariants as dirs
use Rattle.nfs_dir_calls.specs.declared.keeping.DirKept.TheVariants as found
use Rattle.nfs_dir_calls.specs.declared.plus_page.PlusRow.{PlusRow}
use Rattle.world_model.specs.declared.entry.Entry.{Entry}
use Rattle.world_model.specs.declared.message.Call.{Call}
use Rattle.world_model.specs.declared.message.Call.TheVariants as calls
use Rattle.world_model.specs.declared.message.Reply.{Reply}
use Rattle.world_model.specs.declared.message.Reply.TheVariants as replies
use Rattle.world_model.specs.Heard.{Asked}
use Rattle.world_model.specs.Names.{is_dots}

-- READDIRPLUS from a cookie on, with the counts that a listing asks for
abbrev pub list_call : List ℕ → ℕ → Verf → Call
list_call d cookie verf = calls.Dir (dirs.ReadDirPlus d cookie verf 8192 32768)

-- eight zero bytes, with which a listing begins
abbrev pub zero_verf : Verf
zero_verf = record { 0 = replicate 8 0 }

-- a page: its entries, the verifier for the next page, and whether it is the last
abbrev pub page_reply : Option Attr → Verf → List PlusRow → Bool → Reply
page_reply attr verf rows eof = replies.Dir (found.ReadDirPlus attr verf rows eof)

-- the names but for `.` and `..`
abbrev pub names_of : List PlusRow → List (List ℕ)
names_of rows = filter (λ name. not (is_dots name)) (map (λ (row : PlusRow). row.name) rows)

-- the cookie of a page's last entry
pub record LastCookie (rows : List PlusRow) (cookie : ℕ) : Type 0 where
  pub front : List PlusRow
  pub row : PlusRow
  pub is : rows ≡ front ++ row ∷ []
  pub cookie_is : row.cookie ≡ cookie

-- Pages of the directory that came between the places x and n, and with them these entries. The first was asked from cookie
-- 0 and a verifier of eight zero bytes. Each next one was asked from the last cookie and the verifier of the one before.
-- The page after them is to be asked from this cookie and verifier.
pub data Chain (h : List Entry) (x n : ℕ) (d : List ℕ) : List PlusRow → ℕ → Verf → Type 0 where
  start : (rows : List PlusRow) (cookie : ℕ) (verf : Verf) → rows ≡ [] → cookie ≡ 0 → verf ≡ zero_verf → Chain h x n d rows cookie verf
  next : (rows before page : List PlusRow) (cookie from : ℕ) (verf with_ : Verf) (attr : Option Attr) (eof : Bool) → Chain h x n d before from with_
      → Asked h x n (list_call d from with_) (page_reply attr verf page eof)
      → LastCookie page cookie → rows ≡ before ++ page → Chain h x n d rows cookie verf
