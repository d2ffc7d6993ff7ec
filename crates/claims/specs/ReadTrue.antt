-- What a read shows: how old its bytes may be, and where it may end.
use Rattle.std.specs.Prelude.{◌≡◌, ◌<◌, ◌≤◌, ◌+◌, ℕ, true, false, List, length, Some, slice_get}
use Rattle.world_model.specs.declared.answer.Answer.TheVariants.{Done}
use Rattle.world_model.specs.declared.answer.Value.TheVariants.{Bytes}
use Rattle.world_model.specs.declared.entry.Entry.{Entry}
use Rattle.world_model.specs.declared.entry.Entry.TheVariants.{Clock}
use Rattle.world_model.specs.declared.op.Op.TheVariants as ops
use Rattle.world_model.specs.Entries.{At}
use Rattle.world_model.specs.History.{History}
use Rattle.claims.specs.Modes.{Modes}
use Rattle.world_model.specs.Mounts.{Origin}
use Rattle.world_model.specs.Server.{HasBytes}
use Rattle.world_model.specs.Operations.{Ended}
use Rattle.claims.specs.Slots.{InSlot}
use Rattle.claims.specs.Pending.{Pending}
use Rattle.claims.specs.Touched.{Wrote, Truncated, Touched}

-- The read at the place r of the file succeeded at the place y, with these bytes; its open began at the place o.
pub record ReadsBytes (m : Modes) (h : List Entry) (r y o : ℕ) (f : List ℕ) (offset count : ℕ) (bytes : List ℕ) : Type 0 where
  pub lane : ℕ
  pub slot : ℕ
  pub ended : Ended h lane r (ops.Read slot offset count) y (Done (Bytes bytes))
  pub holds : InSlot m h r lane slot o f

-- A clock's reading, before the moment n, is less than the longest keeping before each reading that the operation at the
-- place x began after.
pub record IsYoung (m : Modes) (h : List Entry) (x n : ℕ) : Type 0 where
  pub at : ℕ
  pub ms : ℕ
  pub read : At h at (Clock ms)
  pub before : at < n
  pub young : (j later : ℕ) → At h j (Clock later) → j < x → later < ms + m.longest

-- The moment n isn't before those of which the read at the place r may show bytes; its open began at the place o. These
-- begin
-- - with the read, if each read asks again;
-- - else with the open;
-- - or, if an open may go by what is kept, with the time for which that is kept.
pub data Since (m : Modes) (h : List Entry) (r o n : ℕ) : Type 0 where
  each_read : m.noac ≡ true → r ≤ n → Since m h r o n
  opened : m.noac ≡ false → o ≤ n → Since m h r o n
  kept : m.noac ≡ false → m.nocto ≡ true → 0 < m.longest → IsYoung m h o n → Since m h r o n

-- a moment from one place to another
pub record Within (from to n : ℕ) : Type 0 where
  pub late : from ≤ n
  pub soon : n ≤ to

-- at such a moment, up to this place, the file had this byte at the place i
pub record HeldByte (t : History) (such : ℕ → Type 0) (to : ℕ) (f : List ℕ) (i v : ℕ) : Type 0 where
  pub n : ℕ
  pub now : List ℕ
  pub stable : List ℕ
  pub late : such n
  pub soon : n ≤ to
  pub has : HasBytes (t.at n) f now stable
  pub holds : slice_get now i ≡ Some v

-- at such a moment, up to this place, the file had at most so many bytes
pub record HeldSize (t : History) (such : ℕ → Type 0) (to : ℕ) (f : List ℕ) (most : ℕ) : Type 0 where
  pub n : ℕ
  pub now : List ℕ
  pub stable : List ℕ
  pub late : such n
  pub soon : n ≤ to
  pub has : HasBytes (t.at n) f now stable
  pub short : length now ≤ most

-- at a moment between these places the byte may be pending
pub record PendingWithin (m : Modes) (origin : Origin) (h : List Entry) (from to : ℕ) (f : List ℕ) (i v : ℕ) : Type 0 where
  pub n : ℕ
  pub moment : Within from to n
  pub pending : Pending m origin h f i n v

-- A byte that was read at the place i: it was pending during the read; or the file held it at a moment that the read may
-- show; or it is a zero in a hole, past the file's end at such a moment and before a pending byte.
pub data IsCurrent (m : Modes) (origin : Origin) (t : History) (r y o : ℕ) (f : List ℕ) (i v : ℕ) : Type 0 where
  own : PendingWithin m origin t.entries r y f i v → IsCurrent m origin t r y o f i v
  held : HeldByte t (Since m t.entries r o) y f i v → IsCurrent m origin t r y o f i v
  hole : (q u : ℕ) → v ≡ 0 → HeldSize t (Since m t.entries r o) y f i → i < q → PendingWithin m origin t.entries r y f q u → IsCurrent m origin t r y o f i v

-- Each byte that was read is so current.
abbrev pub ReadCurrent : Modes → Origin → History → Type 0
ReadCurrent m origin t = (r y o : ℕ) (f : List ℕ) (offset count : ℕ) (bytes : List ℕ) → ReadsBytes m t.entries r y o f offset count bytes
    → (k v : ℕ) → slice_get bytes k ≡ Some v → IsCurrent m origin t r y o f (offset + k) v

-- A write, fill or put that succeeded before the read began is seen in the range that was asked for, unless it was touched.
abbrev pub ReadOwn : Modes → Origin → History → Type 0
ReadOwn m origin t = (r y o : ℕ) (f : List ℕ) (offset count : ℕ) (bytes : List ℕ) → ReadsBytes m t.entries r y o f offset count bytes
    → (w e k v : ℕ) → Wrote m t.entries w e f (offset + k) v → e < r → k < count → (Touched m origin t w y f (offset + k) → ⊥) → slice_get bytes k ≡ Some v

-- After a truncate that succeeded before the read began, a byte past its size is 0, unless it was touched.
abbrev pub ReadCut : Modes → Origin → History → Type 0
ReadCut m origin t = (r y o : ℕ) (f : List ℕ) (offset count : ℕ) (bytes : List ℕ) → ReadsBytes m t.entries r y o f offset count bytes
    → (x e size k v : ℕ) → Truncated m t.entries x e f size → e < r → size ≤ offset + k → slice_get bytes k ≡ Some v
    → (Touched m origin t x y f (offset + k) → ⊥) → v ≡ 0

pub record ReadTrue (m : Modes) (origin : Origin) (t : History) : Type 0 where
  pub current : ReadCurrent m origin t
  pub own : ReadOwn m origin t
  pub cut : ReadCut m origin t

-- A read of fewer bytes than were asked for ends where the file ended at a moment that the read may show. Before the read
-- this client wrote nothing past that end that wasn't touched.
pub record EndsRightly (m : Modes) (origin : Origin) (t : History) (r y o : ℕ) (f : List ℕ) (end : ℕ) : Type 0 where
  pub short : HeldSize t (Since m t.entries r o) y f end
  pub own : (w e i v : ℕ) → Wrote m t.entries w e f i v → e < r → end ≤ i → (Touched m origin t w y f i → ⊥) → ⊥

abbrev pub ReadShort : Modes → Origin → History → Type 0
ReadShort m origin t = (r y o : ℕ) (f : List ℕ) (offset count : ℕ) (bytes : List ℕ) → ReadsBytes m t.entries r y o f offset count bytes
    → length bytes < count → EndsRightly m origin t r y o f (offset + length bytes)
