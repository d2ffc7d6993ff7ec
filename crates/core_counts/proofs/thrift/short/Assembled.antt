-- In one lane WRITEs of puts, syncs and closes are long, in the words of the model: by what is pending as the operation begins.
use Rattle.core_counts.proofs.Prelude.{◌≡◌, ◌<◌, ◌≤◌, ◌⊎◌, inl, inr, ◌+◌, ◌-◌, ◌++◌, nat_eq, ℕ, Bool, true, false, List, length, get_or, slice_get, Some, refl, sym, ap, subst, ◌∙◌, arith, eqb-true, eqb-false, le-leb, lt-ltb, slice_get-get_or, Entry, Began, Sent, Op, At, UnderWay, Terms, OneLane, NeverFull, CoveredEarlier, Wrote, At-grow, Unsent, of_file, HasNoPiece, FilePending, rest_at, Cell, covers, is_ready, how_of, ready_of, low-of, high-of, Mounted, machine_of, Lane, Setup, View, Notes, Reaches, GoesFrom, NotAsStable, BeganOtherwise}
use Rattle.std.proofs.lemmas.Option.{slice_get_within}
use Rattle.claims.specs.Thrifty.{IsSync, IsPut, sync, close, Uncut, IsLatest, ShortWrite, WritesAt, earlier, itself}
use Rattle.core_counts.specs.thrift.Writes.{WritesLong}
use Rattle.world_model.specs.declared.op.Op.TheVariants as ops
use Rattle.claims.specs.Touched as touched_by
use Rattle.write_back.specs.declared.state.State.{State}
use Rattle.write_back.specs.declared.state.State.TheVariants.{Waiting}
use Rattle.core_session.proofs.calls.Whole.{calls-asked-but}
use Rattle.core_counts.proofs.counts.reads.WriteSizes.{session-write-size}
use Rattle.core_counts.proofs.thrift.short.PutsLong.{PutWrite, put-covered}
use Rattle.core_counts.proofs.thrift.short.SavedLong.{saved-long}
use Rattle.core_counts.proofs.thrift.short.Tracking.{BeganSo}

-- ---- what it stands on

-- a byte of the second place rests, and what rests at the first isn't older
pub record Pends (of : FilePending) (e : ℕ) : Type 0 where
  pub cell : Cell
  pub at : rest_at of (e + 1) ≡ Some cell
  pub older : (other : Cell) → rest_at of e ≡ Some other → cell.number ≤ other.number

-- so it is as the operation begins, where an earlier one was the last to write both places, and a WRITE of the second wasn't sent
abbrev pub NoLane : View → Type 0
NoLane v = (n : ℕ) (l : Lane) → slice_get v.lanes n ≡ Some l → ⊥

abbrev pub PendsSo : Type 0
PendsSo = (m : Mounted) (terms : Terms) (setup : Setup) (start h : List Entry) (v : View) → GoesFrom m terms setup start h v → Notes (machine_of m) setup h v → OneLane h → NeverFull h
    → (lane line i x e w : ℕ) (op : Op) (f : List ℕ) → At h x (Began lane line op) → x ≤ i → Uncut terms h i f → IsLatest terms h x op f (e + 1) w → IsLatest terms h x op f e w → w < x
    → (before after : List Entry) → h ≡ before ++ after → length before ≡ x → (view : View) → Reaches (machine_of m) setup before view → view.lost ≡ false → HasNoPiece f view.shelf.back → NoLane view
    → CoveredEarlier before (length before) f (e + 1) ⊎ Pends (of_file f view.shelf.back) e

-- what rests wasn't sent, or a WRITE that covers the place was
abbrev pub PlainSo : Type 0
PlainSo = (m : Mounted) (setup : Setup) (f : List ℕ) (i : ℕ) (h : List Entry) (v : View) → Reaches (machine_of m) setup h v → v.lost ≡ false
    → (cell : Cell) → rest_at (of_file f v.shelf.back) i ≡ Some cell → (cell.state ≡ Waiting Unsent) ⊎ CoveredEarlier h (length h) f i

-- what rests to be sent as stable is older than what was never sent
abbrev pub OlderSo : Type 0
OlderSo = (m : Mounted) (setup : Setup) (h : List Entry) (v : View) → Reaches (machine_of m) setup h v → v.lost ≡ false → OneLane h → (f : List ℕ) (p q : ℕ) (a c : Cell)
    → rest_at (of_file f v.shelf.back) p ≡ Some a → (how_of (ready_of a.state) ≡ 0 → ⊥) → rest_at (of_file f v.shelf.back) q ≡ Some c → c.state ≡ Waiting Unsent → a.number < c.number

-- ---- the places of an operation's own bytes

-- the bytes of the put at the place x have the place
record OwnPlace (op : Op) (place : ℕ) : Type 0 where
  path : List (List ℕ)
  from : ℕ
  text : List ℕ
  is : op ≡ ops.Put path from text
  low : from ≤ place
  high : place < from + length text

-- an operation that is answered before another begins is another one
ends-later : (terms : Terms) (h : List Entry) (f : List ℕ) (place w y v : ℕ) → Wrote terms.modes h w y f place v → w < y
ends-later terms h f place w y v (touched_by.write lane slot offset bytes value of ended covers) = ended.later
ends-later terms h f place w y v (touched_by.fill lane slot offset count value of ended low high) = ended.later
ends-later terms h f place w y v (touched_by.put offset bytes to covers) = to.ended.later

-- it began earlier, or is the put itself
own-place : (terms : Terms) (h : List Entry) (x w : ℕ) (op : Op) (f : List ℕ) (place : ℕ) → WritesAt terms h x op f place w → (w < x) ⊎ ((w ≡ x) × OwnPlace op place)
own-place terms h x w op f place (earlier y v wrote before) = inl (let late = ends-later terms h f place w y v wrote in omega (arith, late, before))
own-place terms h x w op f place (itself path offset v bytes is same covers_) =
    let within = slice_get_within bytes covers_.k v covers_.byte in
    let at = covers_.place in
    inr (same, record { path = path; from = offset; text = bytes; is = is; low = omega (arith, at); high = omega (arith, at, within) })

-- a place that the put's bytes cover, it writes itself
own-writes : (terms : Terms) (h : List Entry) (x : ℕ) (op : Op) (f : List ℕ) (place : ℕ) (path : List (List ℕ)) (from : ℕ) (text : List ℕ) → op ≡ ops.Put path from text
    → covers from (length text) place ≡ true → WritesAt terms h x op f place x
own-writes terms h x op f place path from text is inside =
    let low = low-of from (from + length text) place inside in
    let high = high-of from (from + length text) place inside in
    itself path from (get_or text (place - from) 0) text is refl (record {
      k = place - from;
      place = omega (arith, low);
      byte = slice_get-get_or text (place - from) 0 (omega (arith, low, high));
    })

put-same : (path other : List (List ℕ)) (from its_from : ℕ) (text its_text : List ℕ) → ops.Put path from text ≡ ops.Put other its_from its_text → (from ≡ its_from) × (text ≡ its_text)
put-same path other from its_from text its_text e = (cc, cc)

no-put : (op : Op) (path : List (List ℕ)) (from : ℕ) (text : List ℕ) → op ≡ ops.Put path from text → IsSync op → ⊥
no-put op path from text is (sync slot same) = absurd (let k : ops.Sync slot ≡ ops.Put path from text = sym same ∙ is in cc)
no-put op path from text is (close slot same) = absurd (let k : ops.Close slot ≡ ops.Put path from text = sym same ∙ is in cc)

-- ---- one WRITE

module _ (pends : PendsSo) (plain : PlainSo) (older : OlderSo) (m : Mounted) (terms : Terms) (setup : Setup) (start h : List Entry) (v : View) (from : GoesFrom m terms setup start h v) (notes : Notes (machine_of m) setup h v)
    (one : OneLane h) (never : NeverFull h) (i x end w : ℕ) (op : Op) (f : List ℕ) (s : ShortWrite terms h i x op f end) (uncut : Uncut terms h i f) (next : IsLatest terms h x op f (end + 1) w)
    (here : IsLatest terms h x op f end w) where
  abbrev Covered : Type 0
  Covered = CoveredEarlier h i f (end + 1)

  size : s.wsize ≡ setup.wsize
  size = session-write-size terms h (calls-asked-but m terms setup start h v from notes) m setup start v from i s.root s.wsize s.rooted s.sized

  short : length s.data_ < setup.wsize
  short = subst (λ (n : ℕ). length s.data_ < n) size s.short

  -- ---- as it began

  module _ (first : w < x) (b : BeganSo m setup h x f end (end + 1)) where
    one-before : OneLane b.before
    one-before p q lane other line its_line o its_op at its_at =
        one p q lane other line its_line o its_op
        (subst (λ (k : List Entry). At k p (Began lane line o)) (sym b.is) (At-grow b.before b.after p (Began lane line o) at))
        (subst (λ (k : List Entry). At k q (Began other its_line its_op)) (sym b.is) (At-grow b.before b.after q (Began other its_line its_op) its_at))

    grown : CoveredEarlier b.before (length b.before) f (end + 1) → Covered
    grown c = record {
      at = c.at;
      xid = c.xid;
      bytes = c.bytes;
      call = c.call;
      sent = subst (λ (k : List Entry). At k c.at (Sent c.bytes)) (sym b.is) (At-grow b.before b.after c.at (Sent c.bytes) c.sent);
      spells = c.spells;
      covers = c.covers;
      earlier = let early = c.earlier in let there = b.there in let under = s.under_way.before in omega (arith, early, there, under);
    }

    not-so : (p : Pends (of_file f b.view.shelf.back) end) → p.cell.state ≡ Waiting Unsent → ⊥
    not-so p unsent = b.other mild (record {
      cell = p.cell;
      at = p.at;
      ready = ap is_ready unsent;
      plain = ap (λ (z : State). how_of (ready_of z)) unsent;
    })
      where
        mild : NotAsStable (of_file f b.view.shelf.back) end
        mild cell at = by (nat_eq (how_of (ready_of cell.state)) 0) refl
          where
            by : (c : Bool) → nat_eq (how_of (ready_of cell.state)) 0 ≡ c → how_of (ready_of cell.state) ≡ 0
            by true is = eqb-true (how_of (ready_of cell.state)) 0 is
            by false is =
                let less = older m setup b.before b.view b.reaches b.found one-before f end (end + 1) cell p.cell at (eqb-false (how_of (ready_of cell.state)) 0 is) p.at unsent in
                let most = p.older cell at in
                absurd (omega (arith, less, most))

    at-begin : Covered
    at-begin = by (pends m terms setup start h v from notes one never s.lane s.under_way.line i x end w op f s.under_way.began (let under = s.under_way.before in omega (arith, under)) uncut next here first b.before b.after b.is b.there
        b.view b.reaches b.found b.quiet b.idle)
      where
        by : CoveredEarlier b.before (length b.before) f (end + 1) ⊎ Pends (of_file f b.view.shelf.back) end → Covered
        by (inl c) = grown c
        by (inr p) = which (plain m setup f (end + 1) b.before b.view b.reaches b.found p.cell p.at)
          where
            which : (p.cell.state ≡ Waiting Unsent) ⊎ CoveredEarlier b.before (length b.before) f (end + 1) → Covered
            which (inl unsent) = absurd (not-so p unsent)
            which (inr c) = grown c

  -- ---- a sync or close

  of-sync : IsSync op → Covered
  of-sync is = by (saved-long m setup h v notes one i x end f (record {
    lane = s.lane;
    op = op;
    under_way = s.under_way;
    sync = is;
    xid = s.xid;
    bytes = s.bytes;
    offset = s.offset;
    how = s.how;
    data_ = s.data_;
    sent = s.sent;
    spells = s.spells;
    is = s.is;
    some = s.some;
    short = short;
  }))
    where
      first : w < x
      first = elim (own-place terms h x w op f end here.writes) [
        | inl less ↦ less
        | inr own ↦ absurd (no-put op own.1.path own.1.from own.1.text own.1.is is)
      ]

      by : Covered ⊎ BeganOtherwise m setup h x f end → Covered
      by (inl c) = c
      by (inr b) = at-begin first (record { before = b.before; after = b.after; is = b.is; there = b.there; view = b.view; reaches = b.reaches; found = b.found; quiet = b.quiet; idle = b.idle; other = b.other })

  -- ---- a put

  module _ (path : List (List ℕ)) (offset : ℕ) (text : List ℕ) (is : op ≡ ops.Put path offset text) where
    abbrev write : PutWrite setup h i x f end
    write = record {
      lane = s.lane;
      path = path;
      from = offset;
      text = text;
      under_way = subst (λ (o : Op). UnderWay h s.lane x i o) is s.under_way;
      xid = s.xid;
      bytes = s.bytes;
      offset = s.offset;
      how = s.how;
      data_ = s.data_;
      sent = s.sent;
      spells = s.spells;
      is = s.is;
      some = s.some;
      short = short;
    }

    -- a place that an earlier operation was the last to write isn't its own
    outside : (place : ℕ) → IsLatest terms h x op f place w → w < x → covers offset (length text) place ≡ false
    outside place latest first = by (covers offset (length text) place) refl
      where
        by : (c : Bool) → covers offset (length text) place ≡ c → c ≡ false
        by false out = refl
        by true inside = let most = latest.latest x (own-writes terms h x op f place path offset text is inside) in absurd (omega (arith, most, first))

    -- and one that it was the last to write is
    inside : (place : ℕ) → OwnPlace op place → covers offset (length text) place ≡ true
    inside place own =
        let same = put-same own.path path own.from offset own.text text (sym own.is ∙ is) in
        let low : offset ≤ place = subst (λ (n : ℕ). n ≤ place) same.0 own.low in
        let high : place < offset + length text = subst (λ (t : List ℕ). place < offset + length t) same.1 (subst (λ (n : ℕ). place < n + length own.text) same.0 own.high) in
        rw (le-leb offset place low, lt-ltb place (offset + length text) high) refl

    of-put : Covered
    of-put = by (own-place terms h x w op f end here.writes) (own-place terms h x w op f (end + 1) next.writes)
      where
        early : w < x → Covered
        early first = which (put-covered m setup h v notes one never i x end f write false (outside end here first) (outside (end + 1) next first))
          where
            which : Covered ⊎ ((false ≡ false) × BeganSo m setup h x f end (end + 1)) → Covered
            which (inl c) = c
            which (inr b) = at-begin first b.1

        by : (w < x) ⊎ ((w ≡ x) × OwnPlace op end) → (w < x) ⊎ ((w ≡ x) × OwnPlace op (end + 1)) → Covered
        by (inl first) other = early first
        by (inr own) (inl first) = early first
        by (inr own) (inr its) = which (put-covered m setup h v notes one never i x end f write true (inside end own.1) (inside (end + 1) its.1))
          where
            which : Covered ⊎ ((true ≡ false) × BeganSo m setup h x f end (end + 1)) → Covered
            which (inl c) = c
            which (inr b) = absurd (let no_way : true ≡ false = b.0 in cc)

  pub long-write : Covered
  long-write = by s.sync
    where
      by : IsSync op ⊎ IsPut op → Covered
      by (inl is) = of-sync is
      by (inr p) = of-put p.0 p.1 p.2 p.3

pub long-by : PendsSo → PlainSo → OlderSo → WritesLong
long-by pends plain older m terms setup start h v from notes one never i x end w op f s uncut next here = long-write pends plain older m terms setup start h v from notes one never i x end w op f s uncut next here
