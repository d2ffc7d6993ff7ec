-- What an answer that an operation was refused shows of the history: a row for each kind of refusal.
use Rattle.std.specs.Prelude.{◌≡◌, ◌≢◌, ◌<◌, ◌≤◌, ◌++◌, ℕ, List, length, Bool, Option}
use Rattle.nfs_types.specs.declared.attr.Attr.{Attr}
use Rattle.nfs_types.specs.declared.verf.Verf.{Verf}
use Rattle.nfs_dir_calls.specs.declared.call.DirCall.TheVariants as dirs
use Rattle.nfs_dir_calls.specs.declared.plus_page.PlusRow.{PlusRow}
use Rattle.nfs_file_calls.specs.declared.call.FileCall.TheVariants as files
use Rattle.nfs_file_calls.specs.declared.owned.FileKept.TheVariants as kept
use Rattle.world_model.specs.declared.answer.Fault.{Fault}
use Rattle.world_model.specs.declared.answer.Fault.TheVariants as faults
use Rattle.world_model.specs.declared.entry.Entry.{Entry}
use Rattle.world_model.specs.declared.message.Call.{Call}
use Rattle.world_model.specs.declared.message.Call.TheVariants as calls
use Rattle.world_model.specs.declared.message.Reply.TheVariants as replies
use Rattle.world_model.specs.declared.op.Op.{Op}
use Rattle.world_model.specs.declared.op.Op.TheVariants as ops
use Rattle.claims.specs.Asks.{Asks, Opening}
use Rattle.world_model.specs.Chains.{Chain, list_call, names_of, page_reply}
use Rattle.claims.specs.GoesOn.{GoesOn}
use Rattle.world_model.specs.Leads.{Leads}
use Rattle.world_model.specs.Lost.{IsLost}
use Rattle.claims.specs.OkRows.{most_names}
use Rattle.claims.specs.PageRules.{RefusedSo}
use Rattle.claims.specs.Rights.{NoPlace, NoRight}
use Rattle.claims.specs.Terms.{Terms}
use Rattle.world_model.specs.Operations.{EndsWith}

-- the REMOVE of a last close, which refuses nothing
pub record IsLastRemove (op : Op) (call : Call) : Type 0 where
  pub slot : ℕ
  pub d : List ℕ
  pub name : List ℕ
  pub close : op ≡ ops.Close slot
  pub remove : call ≡ calls.Dir (dirs.Remove d name)

-- The row of `nfs n`, `rpc n` and `bad n`: a record refused so a call that the operation asks for. The call isn't the
-- REMOVE of a last close, and the operation doesn't go on from that.
pub record RefusedBy (terms : Terms) (h : List Entry) (x y : ℕ) (op : Op) (fault : Fault) : Type 0 where
  pub call : Call
  pub refused : RefusedSo h x y call fault
  pub asks : Asks terms h x refused.heard.sent_at op call
  pub last : IsLastRemove op call → ⊥
  pub ends : (n : ℕ) → fault ≡ faults.Nfs n → GoesOn terms h x refused.heard.got_at op call n → ⊥

-- The row of `type`: an open or put ends with the reply to GETATTR of what it found, and that is of another kind than
-- 1.
pub record IsNoFile (terms : Terms) (h : List Entry) (x y : ℕ) (op : Op) : Type 0 where
  pub path : List (List ℕ)
  pub f : List ℕ
  pub attr : Attr
  pub opening : Opening op path
  pub asks : Asks terms h x y op (calls.File (files.GetAttr f))
  pub ends : EndsWith h x y (calls.File (files.GetAttr f)) (replies.File (kept.GetAttr attr))
  pub other : attr.kind ≢ 1

-- The row of `many`: a list ends with a page of its directory, and with this one there are more names than are listed.
pub record HasMany (terms : Terms) (h : List Entry) (x y : ℕ) (op : Op) : Type 0 where
  pub path : List (List ℕ)
  pub d : List ℕ
  pub before : List PlusRow
  pub page : List PlusRow
  pub cookie : ℕ
  pub verf : Verf
  pub after : Verf
  pub attr : Option Attr
  pub eof : Bool
  pub is : op ≡ ops.List path
  pub leads : Leads terms.origin h y path d
  pub chain : Chain h x y d before cookie verf
  pub ends : EndsWith h x y (list_call d cookie verf) (page_reply attr after page eof)
  pub few : length (names_of before) ≤ most_names
  pub many : most_names < length (names_of (before ++ page))

-- Of the operation in this lane that began at the place x and was answered at the place y. Out of memory has no row,
-- and that of `spent` is said of the whole session.
abbrev pub RefusalRow : Terms → List Entry → ℕ → ℕ → ℕ → Op → Fault → Type 0
RefusalRow terms h lane x y op (faults.Nfs n) = RefusedBy terms h x y op (faults.Nfs n)
RefusalRow terms h lane x y op (faults.Rpc n) = RefusedBy terms h x y op (faults.Rpc n)
RefusalRow terms h lane x y op (faults.Bad n) = RefusedBy terms h x y op (faults.Bad n)
RefusalRow terms h lane x y op faults.Lost = IsLost h y
RefusalRow terms h lane x y op faults.Spent = Unit {0}
RefusalRow terms h lane x y op faults.Slot = NoPlace terms h lane x op
RefusalRow terms h lane x y op faults.Mode = NoRight terms h lane x op
RefusalRow terms h lane x y op faults.Kind = IsNoFile terms h x y op
RefusalRow terms h lane x y op faults.Many = HasMany terms h x y op
RefusalRow terms h lane x y op faults.Memory = Unit {0}
