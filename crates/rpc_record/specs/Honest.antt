-- A link over an honest wire is honest: what it tells goes along with what is read from the wire.
use Rattle.std.specs.Prelude.{◌≡◌, ◌≤◌, ◌<◌, ℕ, List, [], ◌++◌, length, Option, Some, None}
use Rattle.world_model.specs.declared.entry.Entry.{Entry}
use Rattle.world_model.specs.declared.entry.Entry.TheVariants as entries
use Rattle.world_model.specs.Entries.{At}
use Rattle.world_model.specs.History.{History}
use Rattle.world_model.specs.Told.{IsLawful}
use Rattle.outside.specs.Wire.{WireTold}
use Rattle.outside.specs.Records.{record_at, left}
use Rattle.outside.specs.Reading.{Reading, now_at, reading}
use Rattle.outside.specs.declared.places.WireAdds.{WireAdds}
use Rattle.outside.specs.declared.places.WireAdds.TheVariants as added
use Rattle.rpc_record.specs.Stream.{Stream, Along, now_in, told_of}

-- the entries by which later ones are lawful
abbrev pub IsCited : Entry → Type 0
IsCited (entries.Sent bytes) = Unit {0}
IsCited (entries.Executed xid call reply) = Unit {0}
IsCited e = ⊥

-- What was sent and executed in h before its moment n was so in k before its moment j. And k had no verifier that h hadn't.
pub record Covers (h : History) (n : ℕ) (k : History) (j : ℕ) : Type 0 where
  pub has : (m : ℕ) (e : Entry) → m < n → At h.entries m e → IsCited e → (i : ℕ) × (i < j) × At k.entries i e
  pub verfs : (i : ℕ) → i ≤ j → (m : ℕ) × (m ≤ n) × ((k.at i).verf ≡ (h.at m).verf)

-- the second history goes along with the first, and ends with the same server
pub record GoesWith (h k : History) : Type 0 where
  pub covers : Covers h (length h.entries) k (length k.entries)
  pub server : now_at k ≡ now_at h

-- The whole records at the front of the bytes were delivered, and what is behind them holds none.
pub data Queued (es : List Entry) : List ℕ → List ℕ → Type 0 where
  none : (bytes : List ℕ) → record_at bytes ≡ None → Queued es bytes bytes
  more : (bytes unread : List ℕ) (r : List ℕ × List ℕ) (at : ℕ) → record_at bytes ≡ Some r → At es at (entries.Delivered r.0) → Queued es r.1 unread
      → Queued es bytes unread

-- What the link tells goes along with what is read from the wire. The records that the link has still to deliver are told
-- by the wire as delivered. The records that the wire tells as sent are sent by the link.
pub record Mirrors (r : Reading) (s : Stream) : Type 0 where
  pub goes : GoesWith r.history s.history
  pub pending : List ℕ
  pub came : left s.taken s.came ≡ Some pending
  pub queue : Queued r.history.entries pending r.unread
  pub went : left s.sent s.went ≡ Some r.unsent

abbrev pub Mirrored : Option WireTold → Option Stream → Type 0
Mirrored None now = Unit {0}
Mirrored (Some t) None = ⊥
Mirrored (Some t) (Some s) = Mirrors (reading t) s

-- The wire is honest, what the link tells is lawful, and it goes along with the wire.
pub record HonestOver {W : Type 0} (told : W → Option WireTold) (honest : W → Type 0) (a : Along W) : Type 0 where
  pub wire : honest a.over
  pub lawful : IsLawful (told_of (now_in told a))
  pub mirrored : Mirrored (told a.over) (now_in told a)

-- These bytes, behind those of the record that is going out, are the whole of it.
abbrev pub EndsRecord : Option Stream → List ℕ → Type 0
EndsRecord None bytes = Unit {0}
EndsRecord (Some s) bytes = (begun : List ℕ) × (rec : List ℕ) × (left s.sent s.went ≡ Some begun) × (record_at (begun ++ bytes) ≡ Some (rec, []))

-- an entry of the link's own that speaks of no written bytes
abbrev pub IsOwn : WireAdds → Type 0
IsOwn added.Whole = ⊥
IsOwn adds = Unit {0}

-- nothing was told yet
abbrev pub IsFresh : Option WireTold → Type 0
IsFresh None = Unit {0}
IsFresh (Some t) = t.calls ≡ []
