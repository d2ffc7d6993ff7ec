-- Bytes that were settled were made stable, and what this client sends afterwards for their place carries them (RFC 1813, sections 3.3.7, 3.3.21 and 4.8).
use Rattle.std.specs.Prelude.{◌≡◌, ◌<◌, ◌≤◌, ◌-◌, ℕ, true, suc, List, length, slice_index, false}
use Rattle.nfs_file_calls.specs.declared.call.FileCall.TheVariants as files
use Rattle.world_model.specs.declared.entry.Entry.{Entry}
use Rattle.world_model.specs.declared.entry.Entry.TheVariants.{Began, Sent}
use Rattle.world_model.specs.declared.message.Call.TheVariants as calls
use Rattle.world_model.specs.declared.op.Op.TheVariants as ops
use Rattle.world_model.specs.Entries.{At}
use Rattle.world_model.specs.Messages.{SpellsCall}
use Rattle.claims.specs.Terms.{Terms}
use Rattle.claims.specs.Settled.{SettledBy}
use Rattle.claims.specs.Touched.{Wrote}
use Rattle.write_back.specs.Segments.{covers}
use Rattle.op_machines.specs.declared.begun.Mounted.{Mounted}
use Rattle.op_machines.specs.Begun.{IsNamed}
use Rattle.client_core.specs.declared.setup.Setup.{Setup}
use Rattle.client_core.specs.View.{View}
use Rattle.core_facts.specs.Naming.{KnowsRoot}
use Rattle.core_facts.specs.SlotAnswers.{GoesWith}
use Rattle.core_session.specs.saves.Evidence.{MadeStable}
use Rattle.core_session.specs.syncs.Until.{TouchedUntil}

-- each record that is sent between two places, and spells a WRITE of the file that covers the place, has the byte there
abbrev pub WritesCarry : List Entry → ℕ → ℕ → List ℕ → ℕ → ℕ → Type 0
WritesCarry h from to f i byte = (j xid offset how : ℕ) (bytes sent : List ℕ) → At h j (Sent sent) → SpellsCall xid (calls.File (files.Write f offset how bytes)) sent → from ≤ j → j < to
    → covers offset (length bytes) i ≡ true → slice_index bytes (i - offset) ≡ byte

-- After the write at the place w the byte was made stable by the place `to`; and from its first flight on each WRITE of its place carries it, before the place
-- p.
pub record MadeAndKept (h : List Entry) (w to p : ℕ) (f : List ℕ) (i byte : ℕ) : Type 0 where
  pub from : ℕ
  pub after : w < from
  pub made : MadeStable h from to f i byte
  pub kept : WritesCarry h from p f i byte

-- each put is of a path that has a name
abbrev pub PutsNamed : List Entry → Type 0
PutsNamed h = (x lane line offset : ℕ) (path : List (List ℕ)) (bytes : List ℕ) → At h x (Began lane line (ops.Put path offset bytes)) → IsNamed path

-- As long as the session isn't lost: a write, fill or put wrote a byte, and a sync, close or put that began after its answer settled it, or the put itself. So
-- it is of this byte at each later moment up to which nothing of this client touched it.
abbrev pub SyncedBytes : Type 0
SyncedBytes = (m : Mounted) (terms : Terms) (setup : Setup) (h : List Entry) (v : View) → GoesWith m terms setup h v → v.lost ≡ false
    → KnowsRoot terms.origin h m.root → PutsNamed h → (w y : ℕ) (f : List ℕ) (i byte j p : ℕ)
    → Wrote terms.modes h w y f i byte → SettledBy terms.modes h w y f j → j < p → p ≤ length h
    → (TouchedUntil terms.modes terms.origin h w j p f i → ⊥) → MadeAndKept h w (suc j) p f i byte
