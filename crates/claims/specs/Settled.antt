-- Bytes that a sync, close or put made stable: what the messages show of it; and that they stay, until something touches them.
use Rattle.std.specs.Prelude.{◌≡◌, ◌≢◌, ◌<◌, ◌≤◌, ◌+◌, ℕ, List, length, Some, slice_get}
use Rattle.nfs_types.specs.declared.verf.Verf.{Verf}
use Rattle.nfs_types.specs.declared.wcc.Wcc.{Wcc}
use Rattle.nfs_file_calls.specs.declared.call.FileCall.TheVariants as files
use Rattle.nfs_file_calls.specs.declared.owned.FileKept.TheVariants as kept
use Rattle.world_model.specs.declared.entry.Entry.{Entry}
use Rattle.world_model.specs.declared.message.Call.TheVariants as calls
use Rattle.world_model.specs.declared.message.Reply.TheVariants as replies
use Rattle.world_model.specs.Commits.{commit_call}
use Rattle.world_model.specs.Heard.{Asked}
use Rattle.world_model.specs.History.{History}
use Rattle.claims.specs.Modes.{Modes}
use Rattle.world_model.specs.Mounts.{Origin}
use Rattle.world_model.specs.Server.{Server, HasBytes}
use Rattle.world_model.specs.Operations.{AnsweredBefore}
use Rattle.claims.specs.Slots.{PutsTo}
use Rattle.claims.specs.Touched.{Covers, WritesByte, Cuts, RefusedWrite, Wrote, MadeStable, Left, GivesUp, Touched}

-- At the place j the write at the place w, answered at y, is known to be stable: the answer of a later sync, close or put
-- of the file, or its own if it is a put.
pub data SettledBy (m : Modes) (h : List Entry) (w y : ℕ) (f : List ℕ) (j : ℕ) : Type 0 where
  later : (x : ℕ) → AnsweredBefore h w x → MadeStable m h x j f → SettledBy m h w y f j
  itself : (offset : ℕ) (bytes : List ℕ) → PutsTo h w y f offset bytes → j ≡ y → SettledBy m h w y f j

-- ---- by the messages alone

-- Between two places a WRITE of the file was first sent and answered 0 (RFC 1813, section 3.3.7). It has the byte at the place
-- i, and the count of its reply reaches this place.
pub record WroteAt (h : List Entry) (from to : ℕ) (f : List ℕ) (i v firm : ℕ) (verf : Verf) : Type 0 where
  pub offset : ℕ
  pub how : ℕ
  pub bytes : List ℕ
  pub wcc : Wcc
  pub count : ℕ
  pub asked : Asked h from to (calls.File (files.Write f offset how bytes)) (replies.File (kept.Write wcc count firm verf))
  pub covers : Covers offset bytes i v
  pub reached : i < offset + count

-- The reply to the WRITE said that its bytes are stable, by DATA_SYNC, 1, or FILE_SYNC, 2; or after it COMMIT of the whole
-- file was first sent, and answered 0 under the same write verifier (RFC 1813, sections 3.3.7 and 3.3.21).
pub data MadeFirm (h : List Entry) (middle to : ℕ) (f : List ℕ) (firm : ℕ) (verf : Verf) : Type 0 where
  at_once : 0 < firm → MadeFirm h middle to f firm verf
  by_commit : (wcc : Wcc) (its : Verf) → its.0 ≡ verf.0 → Asked h middle to (commit_call f) (replies.File (kept.Commit wcc its)) → MadeFirm h middle to f firm verf

-- Between two places the byte was written and made stable.
pub record Evidence (h : List Entry) (from to : ℕ) (f : List ℕ) (i v : ℕ) : Type 0 where
  pub middle : ℕ
  pub firm : ℕ
  pub verf : Verf
  pub by : middle ≤ to
  pub wrote : WroteAt h from middle f i v firm verf
  pub made : MadeFirm h middle to f firm verf

-- where the WRITE was first sent
abbrev pub written_at : {h : List Entry} {from to : ℕ} {f : List ℕ} {i v : ℕ} → Evidence h from to f i v → ℕ
written_at e = e.wrote.asked.heard.sent_at

-- Before the place j something of this client came over the write at the place w: another operation, which wasn't answered
-- before w, writes to the place i of the file or cuts it off; or a last close of the file gave up what was pending.
pub data Overtaken (m : Modes) (origin : Origin) (h : List Entry) (w j : ℕ) (f : List ℕ) (i : ℕ) : Type 0 where
  written : (x v : ℕ) → x ≢ w → x < j → (AnsweredBefore h x w → ⊥) → WritesByte m origin h x f i v → (RefusedWrite h x → ⊥) → Overtaken m origin h w j f i
  cut : (x : ℕ) → x ≢ w → x < j → (AnsweredBefore h x w → ⊥) → Cuts m h x f i → Overtaken m origin h w j f i
  given_up : (k : ℕ) → w < k → k < j → Left m h k f → GivesUp m h k f → Overtaken m origin h w j f i

-- Of each byte of a write, fill or put that succeeded and was then made stable there is evidence by the answer that settled
-- it. That is so whatever the server is: its calls were first sent since the write began. Unless it was overtaken before.
abbrev pub Evident : Modes → Origin → List Entry → Type 0
Evident m origin h = (w y : ℕ) (f : List ℕ) (i v j : ℕ) → Wrote m h w y f i v → SettledBy m h w y f j
    → (Overtaken m origin h w j f i → ⊥) → Evidence h w j f i v

-- ---- on an honest server

-- the file holds this byte at the place i, and would after a restart (RFC 1813, section 4.8)
pub record HoldsStable (s : Server) (f : List ℕ) (i v : ℕ) : Type 0 where
  pub now : List ℕ
  pub stable : List ℕ
  pub has : HasBytes s f now stable
  pub holds : slice_get now i ≡ Some v
  pub steady : slice_get stable i ≡ Some v

-- Each byte of a write, fill or put that succeeded and was then made stable is there at every later moment, and stable. That
-- is so unless it was touched.
abbrev pub Settled : Modes → Origin → History → Type 0
Settled m origin t = (w y : ℕ) (f : List ℕ) (i v j : ℕ) → Wrote m t.entries w y f i v → SettledBy m t.entries w y f j
    → (p : ℕ) → j < p → p ≤ length t.entries → (Touched m origin t w p f i → ⊥) → HoldsStable (t.at p) f i v
