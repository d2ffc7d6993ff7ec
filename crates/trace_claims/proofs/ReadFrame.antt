-- Where one entry is added that refuses no write, a read that was answered before shows what it may still.
use Rattle.std.proofs.Common.{◌≡◌, ◌<◌, ◌≤◌, ◌+◌, ℕ, suc, List, [], ◌∷◌, ◌++◌, length, Some, slice_get, arith}
use Rattle.world_model.specs.declared.answer.Answer.TheVariants.{Done, Refused}
use Rattle.world_model.specs.declared.answer.Value.TheVariants.{Bytes}
use Rattle.world_model.specs.declared.entry.Entry.{Entry}
use Rattle.world_model.specs.declared.entry.Entry.TheVariants.{Began, Delivered, Clock, Answered}
use Rattle.world_model.specs.declared.op.Op.TheVariants as ops
use Rattle.world_model.specs.History.{History}
use Rattle.claims.specs.Modes.{Modes}
use Rattle.world_model.specs.Mounts.{Origin}
use Rattle.claims.specs.Touched.{Wrote, Truncated, Left, Touched}
use Rattle.claims.specs.Pending.{PutSucceeded, PutRefused, LeftAlone, Pending}
use Rattle.claims.specs.ReadTrue.{ReadsBytes, Since, each_read, opened, kept, HeldByte, HeldSize, PendingWithin, IsCurrent, own, held, hole, EndsRightly}
use Rattle.world_model.proofs.Places.{At-grow, At-below, At-back}
use Rattle.trace_claims.proofs.Frames.{Ended-grow, Ended-back, Before-back, Opens-grow, InSlot-grow, WritesByte-grow}
use Rattle.trace_claims.proofs.SettledFrame.{InSlot-back, IsOf-back, Wrote-back, Stable-back, RefusesNone, grown, Touched-grow, made-later, wrote-later}

-- ---- what a longer history shows of earlier operations, the shorter one showed

pub Truncated-back : (m : Modes) (h more : List Entry) (x y : ℕ) (f : List ℕ) (size : ℕ) → y < length h → Truncated m (h ++ more) x y f size → Truncated m h x y f size
Truncated-back m h more x y f size below t = record { lane = t.lane; slot = t.slot; value = t.value; of = IsOf-back m h more x (ops.Truncate t.slot size) f (omega (arith, t.ended.later, below)) t.of; ended = Ended-back h more t.lane x (ops.Truncate t.slot size) y (Done t.value) below t.ended }

pub Left-back : (m : Modes) (h more : List Entry) (k : ℕ) (f : List ℕ) → k < length h → Left m (h ++ more) k f → Left m h k f
Left-back m h more k f below l = record { lane = l.lane; slot = l.slot; close = l.close; answer = l.answer; of = IsOf-back m h more l.close (ops.Close l.slot) f (omega (arith, l.ended.later, below)) l.of; ended = Ended-back h more l.lane l.close (ops.Close l.slot) k l.answer below l.ended; last = λ other its_slot x s. l.last other its_slot x (InSlot-grow m h more (suc k) other its_slot x f (omega (arith, below)) s) }

Alone-back : (m : Modes) (h more : List Entry) (k : ℕ) (f : List ℕ) → k < length h → LeftAlone m (h ++ more) k f → LeftAlone m h k f
Alone-back m h more k f below a = record {
  left = Left-back m h more k f below a.left;
  no_put = λ x lane line offset path bytes at lt. Before-back h more x k (omega (arith, below)) (a.no_put x lane line offset path bytes (At-grow h more x (Began lane line (ops.Put path offset bytes)) at) lt);
  unopened = λ lane slot x y opens after none. a.unopened lane slot x y (Opens-grow m h more lane slot x y f opens) after
      (λ j b at from to. none j b (At-back h more j (Delivered b) at (let there = At-below h y (Answered lane opens.ended.line (Done opens.value)) opens.ended.answered in omega (arith, to, there))) from to);
}

pub Reads-back : (m : Modes) (h more : List Entry) (r y o : ℕ) (f : List ℕ) (offset count : ℕ) (bytes : List ℕ) → y < length h → ReadsBytes m (h ++ more) r y o f offset count bytes → ReadsBytes m h r y o f offset count bytes
Reads-back m h more r y o f offset count bytes below b = record { lane = b.lane; slot = b.slot; ended = Ended-back h more b.lane r (ops.Read b.slot offset count) y (Done (Bytes bytes)) below b.ended; holds = InSlot-back m h more r b.lane b.slot o f (omega (arith, b.ended.later, below)) b.holds }

put-back : (h more : List Entry) (w n : ℕ) → n ≤ length h → PutSucceeded (h ++ more) w n → PutSucceeded h w n
put-back h more w n within p = record { lane = p.lane; path = p.path; offset = p.offset; bytes = p.bytes; y = p.y; value = p.value; ended = Ended-back h more p.lane w (ops.Put p.path p.offset p.bytes) p.y (Done p.value) (omega (arith, p.before, within)) p.ended; before = p.before }

refused-grow : (h more : List Entry) (w : ℕ) → PutRefused h w → PutRefused (h ++ more) w
refused-grow h more w p = record { lane = p.lane; path = p.path; offset = p.offset; bytes = p.bytes; y = p.y; fault = p.fault; ended = Ended-grow h more p.lane w (ops.Put p.path p.offset p.bytes) p.y (Refused p.fault) p.ended }

-- ---- what may be pending goes on

pub Pending-grow : (m : Modes) (origin : Origin) (h : List Entry) (e : Entry) (f : List ℕ) (i n v : ℕ) → RefusesNone h e → n ≤ length h → Pending m origin h f i n v → Pending m origin (h ++ e ∷ []) f i n v
Pending-grow m origin h e f i n v none within p = record {
  w = p.w;
  before = p.before;
  writes = WritesByte-grow m origin h e p.w f i v p.writes;
  unrefused = λ r. p.unrefused (none p.w r);
  uncovered = λ x y u after wrote lt. p.uncovered x y u (Before-back h (e ∷ []) p.w x (let a = wrote-later m (h ++ e ∷ []) x y f i u wrote in omega (arith, a, lt, within)) after) (Wrote-back m h (e ∷ []) x y f i u (omega (arith, lt, within)) wrote) lt;
  uncut = λ x y size after cut low lt. p.uncut x y size (Before-back h (e ∷ []) p.w x (omega (arith, cut.ended.later, lt, within)) after) (Truncated-back m h (e ∷ []) x y f size (omega (arith, lt, within)) cut) low lt;
  unsettled = λ x y after made lt. p.unsettled x y (Before-back h (e ∷ []) p.w x (let a = made-later m (h ++ e ∷ []) x y f made in omega (arith, a, lt, within)) after) (Stable-back m h (e ∷ []) x y f (omega (arith, lt, within)) made) lt;
  unput = λ put. p.unput (put-back h (e ∷ []) p.w n within put);
  unleft = λ unrefused k after alone lt. p.unleft (λ r. unrefused (refused-grow h (e ∷ []) p.w r)) k
      (Before-back h (e ∷ []) p.w k (omega (arith, lt, within)) after) (Alone-back m h (e ∷ []) k f (omega (arith, lt, within)) alone) lt;
}

Within-grow : (m : Modes) (origin : Origin) (h : List Entry) (e : Entry) (from to : ℕ) (f : List ℕ) (i v : ℕ) → RefusesNone h e → to ≤ length h → PendingWithin m origin h from to f i v → PendingWithin m origin (h ++ e ∷ []) from to f i v
Within-grow m origin h e from to f i v none within p = record { n = p.n; moment = p.moment; pending = Pending-grow m origin h e f i p.n v none (omega (arith, p.moment.soon, within)) p.pending }

-- ---- moments that a read may show

pub Since-grow : (m : Modes) (h more : List Entry) (r o n : ℕ) → o ≤ length h → Since m h r o n → Since m (h ++ more) r o n
Since-grow m h more r o n within (each_read mode le) = each_read mode le
Since-grow m h more r o n within (opened mode le) = opened mode le
Since-grow m h more r o n within (kept mode nocto some young) = kept mode nocto some (record { at = young.at; ms = young.ms; read = At-grow h more young.at (Clock young.ms) young.read; before = young.before; young = λ j later at lt. young.young j later (At-back h more j (Clock later) at (omega (arith, lt, within))) lt })

Held-grow : (m : Modes) (t : History) (e : Entry) (r o y : ℕ) (f : List ℕ) (i v : ℕ) → o ≤ length t.entries → HeldByte t (Since m t.entries r o) y f i v → HeldByte (grown t e) (Since m (t.entries ++ e ∷ []) r o) y f i v
Held-grow m t e r o y f i v within b = record { n = b.n; now = b.now; stable = b.stable; late = Since-grow m t.entries (e ∷ []) r o b.n within b.late; soon = b.soon; has = b.has; holds = b.holds }

Size-grow : (m : Modes) (t : History) (e : Entry) (r o y : ℕ) (f : List ℕ) (most : ℕ) → o ≤ length t.entries → HeldSize t (Since m t.entries r o) y f most → HeldSize (grown t e) (Since m (t.entries ++ e ∷ []) r o) y f most
Size-grow m t e r o y f most within b = record { n = b.n; now = b.now; stable = b.stable; late = Since-grow m t.entries (e ∷ []) r o b.n within b.late; soon = b.soon; has = b.has; short = b.short }

pub Current-grow : (m : Modes) (origin : Origin) (t : History) (e : Entry) (r y o : ℕ) (f : List ℕ) (i v : ℕ) → RefusesNone t.entries e → y ≤ length t.entries → o ≤ length t.entries
    → IsCurrent m origin t r y o f i v → IsCurrent m origin (grown t e) r y o f i v
Current-grow m origin t e r y o f i v none y_in o_in (own p) = own (Within-grow m origin t.entries e r y f i v none y_in p)
Current-grow m origin t e r y o f i v none y_in o_in (held b) = held (Held-grow m t e r o y f i v o_in b)
Current-grow m origin t e r y o f i v none y_in o_in (hole q u zero size past p) = hole q u zero (Size-grow m t e r o y f i o_in size) past (Within-grow m origin t.entries e r y f q u none y_in p)

-- ---- the rules of one read

-- a read shows bytes that it may show, its own client's writes and cuts, and ends where it may
pub record IsFine (m : Modes) (origin : Origin) (t : History) (r y : ℕ) : Type 0 where
  pub current : (o : ℕ) (f : List ℕ) (offset count : ℕ) (bytes : List ℕ) → ReadsBytes m t.entries r y o f offset count bytes → (k v : ℕ) → slice_get bytes k ≡ Some v → IsCurrent m origin t r y o f (offset + k) v
  pub owned : (o : ℕ) (f : List ℕ) (offset count : ℕ) (bytes : List ℕ) → ReadsBytes m t.entries r y o f offset count bytes → (w e k v : ℕ) → Wrote m t.entries w e f (offset + k) v → e < r → k < count → (Touched m origin t w y f (offset + k) → ⊥) → slice_get bytes k ≡ Some v
  pub cut : (o : ℕ) (f : List ℕ) (offset count : ℕ) (bytes : List ℕ) → ReadsBytes m t.entries r y o f offset count bytes → (x e size k v : ℕ) → Truncated m t.entries x e f size → e < r → size ≤ offset + k → slice_get bytes k ≡ Some v → (Touched m origin t x y f (offset + k) → ⊥) → v ≡ 0
  pub short : (o : ℕ) (f : List ℕ) (offset count : ℕ) (bytes : List ℕ) → ReadsBytes m t.entries r y o f offset count bytes → length bytes < count → EndsRightly m origin t r y o f (offset + length bytes)

pub read-frame : (m : Modes) (origin : Origin) (t : History) (e : Entry) (r y : ℕ) → RefusesNone t.entries e → r < y → y < length t.entries → IsFine m origin t r y → IsFine m origin (grown t e) r y
read-frame m origin t e r y none ry within fine = record {
  current = λ o f offset count bytes reads k v is. Current-grow m origin t e r y o f (offset + k) v none (omega (arith, within)) (o-in o f offset count bytes reads) (fine.current o f offset count bytes (back o f offset count bytes reads) k v is);
  owned = λ o f offset count bytes reads w d k v wrote before k_in untouched. fine.owned o f offset count bytes (back o f offset count bytes reads) w d k v (Wrote-back m t.entries (e ∷ []) w d f (offset + k) v (omega (arith, before, ry, within)) wrote) before k_in
      (λ touched. untouched (Touched-grow m origin t e w y f (offset + k) none (let a = wrote-later m (t.entries ++ e ∷ []) w d f (offset + k) v wrote in omega (arith, a, before, ry, within)) (omega (arith, within)) touched));
  cut = λ o f offset count bytes reads x d size k v cuts before low is untouched. fine.cut o f offset count bytes (back o f offset count bytes reads) x d size k v (Truncated-back m t.entries (e ∷ []) x d f size (omega (arith, before, ry, within)) cuts) before low is
      (λ touched. untouched (Touched-grow m origin t e x y f (offset + k) none (omega (arith, cuts.ended.later, before, ry, within)) (omega (arith, within)) touched));
  short = λ o f offset count bytes reads less. ends o f offset count bytes reads (fine.short o f offset count bytes (back o f offset count bytes reads) less);
}
  where
    back : (o : ℕ) (f : List ℕ) (offset count : ℕ) (bytes : List ℕ) → ReadsBytes m (t.entries ++ e ∷ []) r y o f offset count bytes → ReadsBytes m t.entries r y o f offset count bytes
    back o f offset count bytes reads = Reads-back m t.entries (e ∷ []) r y o f offset count bytes within reads

    o-in : (o : ℕ) (f : List ℕ) (offset count : ℕ) (bytes : List ℕ) → ReadsBytes m (t.entries ++ e ∷ []) r y o f offset count bytes → o ≤ length t.entries
    o-in o f offset count bytes reads = omega (arith, reads.holds.opens.ended.later, reads.holds.before, ry, within)

    ends : (o : ℕ) (f : List ℕ) (offset count : ℕ) (bytes : List ℕ) → ReadsBytes m (t.entries ++ e ∷ []) r y o f offset count bytes → EndsRightly m origin t r y o f (offset + length bytes) → EndsRightly m origin (grown t e) r y o f (offset + length bytes)
    ends o f offset count bytes reads right = record {
      short = Size-grow m t e r o y f (offset + length bytes) (o-in o f offset count bytes reads) right.short;
      own = λ w d i v wrote before past untouched. right.own w d i v (Wrote-back m t.entries (e ∷ []) w d f i v (omega (arith, before, ry, within)) wrote) before past
          (λ touched. untouched (Touched-grow m origin t e w y f i none (let a = wrote-later m (t.entries ++ e ∷ []) w d f i v wrote in omega (arith, a, before, ry, within)) (omega (arith, within)) touched));
    }
