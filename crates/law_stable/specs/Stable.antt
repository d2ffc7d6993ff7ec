-- A byte that was written and made stable is there, now and after a restart (RFC 1813, sections 3.3.7, 3.3.21 and 4.8).
use Rattle.std.specs.Prelude.{◌≡◌, ◌≤◌, ℕ, List, length, Some, slice_get}
use Rattle.nfs_types.specs.declared.verf.Verf.{Verf}
use Rattle.world_model.specs.History.{History}
use Rattle.world_model.specs.Lawful.{Lawful}
use Rattle.claims.specs.Modes.{Modes}
use Rattle.world_model.specs.Mounts.{Origin}
use Rattle.world_model.specs.Once.{Once}
use Rattle.world_model.specs.Server.{Server, HasBytes}
use Rattle.claims.specs.Settled.{HoldsStable, WroteAt, Evidence, written_at}
use Rattle.claims.specs.Touched.{Touched}
use Rattle.law_calls.specs.Calls.{Numbered}
use Rattle.law_stable.specs.OwnCalls.{OwnCalls, NoForeign}

-- the file holds the byte at the place i
pub record HoldsNow (s : Server) (f : List ℕ) (i v : ℕ) : Type 0 where
  pub now : List ℕ
  pub stable : List ℕ
  pub has : HasBytes s f now stable
  pub holds : slice_get now i ≡ Some v

-- After the reply to its WRITE the byte is in the file whenever the server has the write verifier of that reply. That lasts as long as neither this
-- client's calls nor another client's change its place.
abbrev pub WrittenThere : Type 0
WrittenThere = (t : History) → Lawful t → Once t.entries → Numbered t.entries → (from to : ℕ) (f : List ℕ) (i v firm : ℕ) (verf : Verf)
    → (w : WroteAt t.entries from to f i v firm verf) → (p : ℕ) → to ≤ p → p ≤ length t.entries → (t.at p).verf ≡ verf
    → OwnCalls t.entries w.asked.heard.sent_at p f i v → NoForeign t w.asked.heard.sent_at p f i → HoldsNow (t.at p) f i v

-- At each moment after its evidence the byte is in the file, and stable. That lasts as long as neither this client's calls nor another client's change
-- its place.
abbrev pub EvidenceStable : Type 0
EvidenceStable = (t : History) → Lawful t → Once t.entries → Numbered t.entries → (from to : ℕ) (f : List ℕ) (i v : ℕ)
    → (e : Evidence t.entries from to f i v) → (p : ℕ) → to ≤ p → p ≤ length t.entries → OwnCalls t.entries (written_at e) p f i v
    → NoForeign t (written_at e) p f i → HoldsStable (t.at p) f i v

-- And from the reply to its WRITE on it is in the file, also while that isn't stable yet: the COMMIT's verifier shows that no restart lost it.
abbrev pub EvidenceThere : Type 0
EvidenceThere = (t : History) → Lawful t → Once t.entries → Numbered t.entries → (from to : ℕ) (f : List ℕ) (i v : ℕ)
    → (e : Evidence t.entries from to f i v) → (p : ℕ) → e.middle ≤ p → p ≤ length t.entries → OwnCalls t.entries (written_at e) p f i v
    → NoForeign t (written_at e) p f i → HoldsNow (t.at p) f i v

-- a place that wasn't touched since the write at the place w was changed by no other client
abbrev pub UntouchedUnforeign : Type 0
UntouchedUnforeign = (m : Modes) (origin : Origin) (t : History) (w p from : ℕ) (f : List ℕ) (i : ℕ) → (Touched m origin t w p f i → ⊥) → w ≤ from
    → NoForeign t from p f i

-- whether a server holds a byte so is decided: if it can't be otherwise, it is so
abbrev pub StableDecided : Type 0
StableDecided = (s : Server) (f : List ℕ) (i v : ℕ) → ((HoldsStable s f i v → ⊥) → ⊥) → HoldsStable s f i v
