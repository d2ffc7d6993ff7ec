-- A byte in flight is that of a WRITE that waits; what lies over it is newer; no COMMIT of the file waits meanwhile.
use Rattle.std.proofs.Common.{bytes_eq, inl, inr, ◌⊎◌, ◌≡◌, ◌≢◌, ◌+◌, ℕ, List, length, Option, Some, None, true, false, refl, sym, ap, ◌∙◌, arith}
use Rattle.std.proofs.lemmas.Slice.Eq.{bytes_eq-Decides}
use Rattle.model_writes.specs.Story.{File, Spot, Call, write, commit, resize, plain, Reply, Entry, Began, Answered, Sent, Executed, Foreign, Reboot, Delivered, Failed, covers, gives, means}
use Rattle.model_writes.specs.Machine.{View, unsent, Cell, Flight, SameCalls, SamePlaces, MakesWrite, MakesCommit, MakesCall, Adds, Drops, Came, stays, covered, acks, firms, returns, PlacesAfter, Took, Renamed, unmoved, moved, Renews, Enters, Move, Asked, makes_write, makes_commit, makes_call, adds, proceeds, opens, frees, cuts, gives_up, gives_up_put, loses}
use Rattle.model_writes.specs.Reaches.{Reaches, begins, enters, moves}
use Rattle.model_writes.proofs.AtLemmas.{same_or_not, same_file_or_not}
use Rattle.model_writes.proofs.ExecutedCallsWait.{some_call, numbered_fact}

pub record Under (c : View) (i : Spot) (f : Flight) : Type 0 where
  pub call : Call
  pub waits : c.wait f.xid ≡ Some call
  pub byte_is : gives call i ≡ Some f.byte

pub record InFlight (c : View) (x : ℕ) (i : Spot) (y : ℕ) : Type 0 where
  pub flight : Flight
  pub there : c.fly i ≡ Some flight
  pub byte_is : flight.byte ≡ y
  pub xid_is : flight.xid ≡ x

pub record Fact (c : View) : Type 0 where
  pub under : (i : Spot) (f : Flight) → c.fly i ≡ Some f → Under c i f
  pub here : (x : ℕ) (i : Spot) (y : ℕ) (call : Call) → c.wait x ≡ Some call → gives call i ≡ Some y → InFlight c x i y
  pub newer : (i : Spot) (f : Flight) (cell : Cell) → c.fly i ≡ Some f → c.rest i ≡ Some cell → cell.mark ≡ unsent
  pub alone : (x : ℕ) (f : File) → c.wait x ≡ Some (commit f) → (i : Spot) → i.file ≡ f → c.fly i ≡ None

-- there is something, or nothing
pub one_or_none : {A : Type 0} (o : Option A) → (o ≡ None) ⊎ ((a : A) × (o ≡ Some a))
one_or_none None = inl refl
one_or_none (Some a) = inr (a, refl)

abbrev some_flight : Flight → Option Flight
some_flight f = Some f

flight_is : (f g : Flight) → some_flight f ≡ some_flight g → f ≡ g
flight_is f g e = cc

abbrev some_cell : Cell → Option Cell
some_cell f = Some f

pub cell_is : (f g : Cell) → some_cell f ≡ some_cell g → f ≡ g
cell_is f g e = cc

-- calls and bytes in flight stay, and what lies over them is as it was or unsent
kept : (b c : View) → SameCalls b c → ((i : Spot) → c.fly i ≡ b.fly i) → ((i : Spot) (cell : Cell) → c.rest i ≡ Some cell → (cell.mark ≡ unsent) ⊎ (b.rest i ≡ Some cell)) → Fact b → Fact c
kept b c k fly rest f = record {
  under = λ i g e. let u = f.under i g (sym (fly i) ∙ e) in record { call = u.call; waits = k.wait g.xid ∙ u.waits; byte_is = u.byte_is };
  here = λ x i y call w e. let o = f.here x i y call (sym (k.wait x) ∙ w) e in record { flight = o.flight; there = fly i ∙ o.there; byte_is = o.byte_is; xid_is = o.xid_is };
  newer = λ i g cell e r. elim (rest i cell r) [ inl u ↦ u | inr was ↦ f.newer i g cell (sym (fly i) ∙ e) was ];
  alone = λ x d w i is. fly i ∙ f.alone x d (sym (k.wait x) ∙ w) i is;
}

places : (b c : View) → SameCalls b c → SamePlaces b c → Fact b → Fact c
places b c k s f = kept b c k (λ i. (s.there i).1) (λ i cell e. inr (sym (s.there i).0 ∙ e)) f

still : (b c : View) → c ≡ b → Fact b → Fact c
still b c e f = rw e f

pub covers_file : (file : File) (o : ℕ) (bytes : List ℕ) (i : Spot) (y : ℕ) → covers file o bytes i ≡ Some y → file ≡ i.file
unfolding covers
covers_file file o bytes i y e = elim (bytes_eq file i.file) as (λ t. bytes_eq file i.file ≡ t → file ≡ i.file) [
  | true ↦ λ is. (bytes_eq-Decides file i.file).0 is
  | false ↦ λ is. absurd (no_byte is e)
] refl
  where
    no_byte : bytes_eq file i.file ≡ false → covers file o bytes i ≡ Some y → ⊥
    no_byte is e = absurd (cc (rw is at e))

adds_ : (b c : View) → Adds b c → Fact b → Fact c
adds_ b c t f = kept b c t.calls t.fly (λ i cell e. elim (one_or_none (means t.op i)) [
  | inl none ↦ inr (sym (t.others i none) ∙ e)
  | inr y ↦ inl (sym (ap (λ (d : Cell). d.mark) (cell_is (record { byte = y.0; number = b.seq + 1; mark = unsent }) cell (sym (t.there i y.0 y.1) ∙ e))))
]) f

writes : (b c : View) (t : MakesWrite b c) → ((z : ℕ) (k : Call) → b.wait z ≡ Some k → z ≢ t.x) → Fact b → Fact c
writes b c t old f = record {
  under = λ i g e. elim (one_or_none (covers t.file t.offset t.bytes i)) [
    | inl none ↦
        let u = f.under i g (sym (t.others i none).1 ∙ e) in
        record { call = u.call; waits = t.calls.others g.xid (old g.xid u.call u.waits) ∙ u.waits; byte_is = u.byte_is }
    | inr y ↦
        let p = t.picks i y.0 y.1 in
        let is = flight_is (record { byte = y.0; number = p.cell.number; xid = t.x }) g (sym p.fly ∙ e) in
        record { call = write t.file t.offset t.bytes t.how; waits = rw (← ap (λ (h : Flight). h.xid) is) t.calls.is; byte_is = y.1 ∙ ap (λ (h : Flight). Some h.byte) is }
  ];
  here = λ z i y call w e. elim (same_or_not z t.x) [
    | inl is ↦
        let same = some_call (write t.file t.offset t.bytes t.how) call (sym t.calls.is ∙ ap (λ k. c.wait k) (sym is) ∙ w) in
        let p = t.picks i y (ap (λ k. gives k i) same ∙ e) in
        record { flight = record { byte = y; number = p.cell.number; xid = t.x }; there = p.fly; byte_is = refl; xid_is = sym is }
    | inr other ↦
        let g = f.here z i y call (sym (t.calls.others z other) ∙ w) e in
        elim (one_or_none (covers t.file t.offset t.bytes i)) [
          | inl none ↦ record { flight = g.flight; there = (t.others i none).1 ∙ g.there; byte_is = g.byte_is; xid_is = g.xid_is }
          | inr v ↦ let p = t.picks i v.0 v.1 in absurd (cc (p.free, g.there))
        ]
  ];
  newer = λ i g cell e r. elim (one_or_none (covers t.file t.offset t.bytes i)) [
    | inl none ↦ f.newer i g cell (sym (t.others i none).1 ∙ e) (sym (t.others i none).0 ∙ r)
    | inr v ↦ let p = t.picks i v.0 v.1 in absurd (cc (p.rest, r))
  ];
  alone = λ z d w i at. elim (same_or_not z t.x) [
    | inl is ↦ absurd (differ d (some_call (write t.file t.offset t.bytes t.how) (commit d) (sym t.calls.is ∙ ap (λ k. c.wait k) (sym is) ∙ w)))
    | inr other ↦
        let k = sym (t.calls.others z other) ∙ w in
        elim (one_or_none (covers t.file t.offset t.bytes i)) [
          | inl none ↦ (t.others i none).1 ∙ f.alone z d k i at
          | inr v ↦ absurd (t.alone z (rw (covers_file t.file t.offset t.bytes i v.0 v.1, at) k))
        ]
  ];
}
  where
    differ : (d : File) → write t.file t.offset t.bytes t.how ≡ commit d → ⊥
    differ d e = absurd (cc e)

commits : (b c : View) (t : MakesCommit b c) → ((z : ℕ) (k : Call) → b.wait z ≡ Some k → z ≢ t.x) → Fact b → Fact c
commits b c t old f = record {
  under = λ i g e.
      let u = f.under i g (sym (t.places.there i).1 ∙ e) in
      elim (same_or_not g.xid t.x) [
        | inl is ↦ record { call = commit t.file; waits = ap (λ z. c.wait z) is ∙ t.calls.is; byte_is = absurd (old g.xid u.call u.waits is) }
        | inr ne ↦ record { call = u.call; waits = t.calls.others g.xid ne ∙ u.waits; byte_is = u.byte_is }
      ];
  here = λ z i y call w e. elim (same_or_not z t.x) [
    | inl is ↦ absurd (cc (ap (λ k. gives k i) (some_call (commit t.file) call (sym t.calls.is ∙ ap (λ k. c.wait k) (sym is) ∙ w)), e))
    | inr ne ↦ let g = f.here z i y call (sym (t.calls.others z ne) ∙ w) e in record { flight = g.flight; there = (t.places.there i).1 ∙ g.there; byte_is = g.byte_is; xid_is = g.xid_is }
  ];
  newer = λ i g cell e r. f.newer i g cell (sym (t.places.there i).1 ∙ e) (sym (t.places.there i).0 ∙ r);
  alone = λ z d w i at. elim (same_or_not z t.x) [
    | inl is ↦ (t.places.there i).1 ∙ t.grounded i (at ∙ sym (file_is d (some_call (commit t.file) (commit d) (sym t.calls.is ∙ ap (λ k. c.wait k) (sym is) ∙ w))))
    | inr ne ↦ (t.places.there i).1 ∙ f.alone z d (sym (t.calls.others z ne) ∙ w) i at
  ];
}
  where
    file_is : (d : File) → commit t.file ≡ commit d → t.file ≡ d
    file_is d e = cc

-- another call, which puts no byte
calls_ : (b c : View) (t : MakesCall b c) → ((z : ℕ) (k : Call) → b.wait z ≡ Some k → z ≢ t.x) → Fact b → Fact c
calls_ b c t old f = record {
  under = λ i g e.
      let u = f.under i g (sym (t.places.there i).1 ∙ e) in
      record { call = u.call; waits = t.calls.others g.xid (old g.xid u.call u.waits) ∙ u.waits; byte_is = u.byte_is };
  here = λ z i y call w e. elim (same_or_not z t.x) [
    | inl is ↦ absurd (gives_none t.call t.asked i y (ap (λ k. gives k i) (some_call t.call call (sym t.calls.is ∙ ap (λ k. c.wait k) (sym is) ∙ w)) ∙ e))
    | inr ne ↦ let g = f.here z i y call (sym (t.calls.others z ne) ∙ w) e in record { flight = g.flight; there = (t.places.there i).1 ∙ g.there; byte_is = g.byte_is; xid_is = g.xid_is }
  ];
  newer = λ i g cell e r. f.newer i g cell (sym (t.places.there i).1 ∙ e) (sym (t.places.there i).0 ∙ r);
  alone = λ z d w i at. elim (same_or_not z t.x) [
    | inl is ↦ absurd (no_commit t.call t.asked d (some_call t.call (commit d) (sym t.calls.is ∙ ap (λ k. c.wait k) (sym is) ∙ w)))
    | inr ne ↦ (t.places.there i).1 ∙ f.alone z d (sym (t.calls.others z ne) ∙ w) i at
  ];
}
  where
    gives_none : (k : Call) → Asked b k → (i : Spot) (y : ℕ) → gives k i ≡ Some y → ⊥
    gives_none (write d o bytes how) a i y e = a
    gives_none (commit d) a i y e = a
    gives_none (resize d s) a i y e = absurd (cc e)
    gives_none (plain n) a i y e = absurd (cc e)

    no_commit : (k : Call) → Asked b k → (d : File) → k ≡ commit d → ⊥
    no_commit (write f o bytes how) a d e = a
    no_commit (commit f) a d e = a
    no_commit (resize f s) a d e = absurd (cc e)
    no_commit (plain n) a d e = absurd (cc e)

-- what is still in flight after the reply to the WRITE x
flying : (x : ℕ) (call : Call) (r : Reply) (i : Spot) (rest : Option Cell) (fly : Option Flight) (rest' : Option Cell) (fly' : Option Flight) → Came x call r i rest fly rest' fly' → (g : Flight) → fly' ≡ Some g → (fly ≡ Some g) × (rest' ≡ rest) × (g.xid ≢ x)
flying _ _ _ _ _ _ _ _ (stays x call r i rest fly rest' fly' other rs fs) g e = (sym fs ∙ e, rs, other g (sym fs ∙ e))
flying _ _ _ _ _ _ _ _ (covered x call r i rest fly rest' fly' f c a xi b rs fs) g e = absurd (cc (fs, e))
flying _ _ _ _ _ _ _ _ (acks x call r i rest fly rest' fly' f n v a xi b is re rs fs) g e = absurd (cc (fs, e))
flying _ _ _ _ _ _ _ _ (firms x call r i rest fly rest' fly' f n k v a xi b is re rs fs) g e = absurd (cc (fs, e))
flying _ _ _ _ _ _ _ _ (returns x call r i rest fly rest' fly' f a xi b rs fs) g e = absurd (cc (fs, e))

-- what is under another number flies on
flies_on : (x : ℕ) (call : Call) (r : Reply) (i : Spot) (rest : Option Cell) (fly : Option Flight) (rest' : Option Cell) (fly' : Option Flight) → Came x call r i rest fly rest' fly' → (g : Flight) → fly ≡ Some g → g.xid ≢ x → fly' ≡ Some g
flies_on _ _ _ _ _ _ _ _ (stays x call r i rest fly rest' fly' other rs fs) g e ne = fs ∙ e
flies_on _ _ _ _ _ _ _ _ (covered x call r i rest fly rest' fly' f c a xi b rs fs) g e ne = absurd (ne (ap (λ (h : Flight). h.xid) (flight_is g f (sym e ∙ a)) ∙ xi))
flies_on _ _ _ _ _ _ _ _ (acks x call r i rest fly rest' fly' f n v a xi b is re rs fs) g e ne = absurd (ne (ap (λ (h : Flight). h.xid) (flight_is g f (sym e ∙ a)) ∙ xi))
flies_on _ _ _ _ _ _ _ _ (firms x call r i rest fly rest' fly' f n k v a xi b is re rs fs) g e ne = absurd (ne (ap (λ (h : Flight). h.xid) (flight_is g f (sym e ∙ a)) ∙ xi))
flies_on _ _ _ _ _ _ _ _ (returns x call r i rest fly rest' fly' f a xi b rs fs) g e ne = absurd (ne (ap (λ (h : Flight). h.xid) (flight_is g f (sym e ∙ a)) ∙ xi))

stays_none : (x : ℕ) (call : Call) (r : Reply) (i : Spot) (rest : Option Cell) (fly : Option Flight) (rest' : Option Cell) (fly' : Option Flight) → Came x call r i rest fly rest' fly' → fly ≡ None → fly' ≡ None
stays_none _ _ _ _ _ _ _ _ (stays x call r i rest fly rest' fly' other rs fs) e = fs ∙ e
stays_none _ _ _ _ _ _ _ _ (covered x call r i rest fly rest' fly' f c a xi b rs fs) e = fs
stays_none _ _ _ _ _ _ _ _ (acks x call r i rest fly rest' fly' f n v a xi b is re rs fs) e = fs
stays_none _ _ _ _ _ _ _ _ (firms x call r i rest fly rest' fly' f n k v a xi b is re rs fs) e = fs
stays_none _ _ _ _ _ _ _ _ (returns x call r i rest fly rest' fly' f a xi b rs fs) e = fs

pub waits_on : (b c : View) (x : ℕ) (r : Reply) (t : Took b c x r) (z : ℕ) (k : Call) → c.wait z ≡ Some k → (z ≢ x) × (b.wait z ≡ Some k)
waits_on b c x r t z k w = elim (same_or_not z x) [
  | inl is ↦ absurd (cc (t.gone, is, w))
  | inr other ↦ (other, sym (t.others z other) ∙ w)
]

takes_write : (b c : View) (x : ℕ) (r : Reply) (call : Call) (t : Took b c x r) → ((i : Spot) → Came x call r i (b.rest i) (b.fly i) (c.rest i) (c.fly i)) → Fact b → Fact c
takes_write b c x r call t p f = record {
  under = λ i g e.
      let o = flying x call r i (b.rest i) (b.fly i) (c.rest i) (c.fly i) (p i) g e in
      let u = f.under i g o.0 in
      record { call = u.call; waits = t.others g.xid o.2 ∙ u.waits; byte_is = u.byte_is };
  here = λ z i y k w e.
      let o = waits_on b c x r t z k w in
      let g = f.here z i y k o.1 e in
      record { flight = g.flight; there = flies_on x call r i (b.rest i) (b.fly i) (c.rest i) (c.fly i) (p i) g.flight g.there (λ is. o.0 (sym g.xid_is ∙ is)); byte_is = g.byte_is; xid_is = g.xid_is };
  newer = λ i g cell e s. let o = flying x call r i (b.rest i) (b.fly i) (c.rest i) (c.fly i) (p i) g e in f.newer i g cell o.0 (sym o.1 ∙ s);
  alone = λ z d w i at. let o = waits_on b c x r t z (commit d) w in stays_none x call r i (b.rest i) (b.fly i) (c.rest i) (c.fly i) (p i) (f.alone z d o.1 i at);
}

-- a reply that leaves what flies: its call put no byte
takes_quiet : (b c : View) (x : ℕ) (r : Reply) (t : Took b c x r) → ((i : Spot) (y : ℕ) → gives t.call i ≡ Some y → ⊥) → ((i : Spot) (f : Flight) (cell : Cell) → b.fly i ≡ Some f → c.rest i ≡ Some cell → b.rest i ≡ Some cell) → ((i : Spot) → c.fly i ≡ b.fly i) → Fact b → Fact c
takes_quiet b c x r t none rest p f = record {
  under = λ i g e.
      let u = f.under i g (sym (p i) ∙ e) in
      elim (same_or_not g.xid x) [
        | inl is ↦ absurd (none i g.byte (ap (λ k. gives k i) (some_call t.call u.call (sym t.waits ∙ ap (λ z. b.wait z) (sym is) ∙ u.waits)) ∙ u.byte_is))
        | inr ne ↦ record { call = u.call; waits = t.others g.xid ne ∙ u.waits; byte_is = u.byte_is }
      ];
  here = λ z i y k v e. let o = waits_on b c x r t z k v in let g = f.here z i y k o.1 e in record { flight = g.flight; there = p i ∙ g.there; byte_is = g.byte_is; xid_is = g.xid_is };
  newer = λ i g cell e s. let old = sym (p i) ∙ e in f.newer i g cell old (rest i g cell old s);
  alone = λ z d v i at. p i ∙ f.alone z d (waits_on b c x r t z (commit d) v).1 i at;
}

takes : (b c : View) (x : ℕ) (r : Reply) (call : Call) (t : Took b c x r) → t.call ≡ call → PlacesAfter x call r b c → Fact b → Fact c
takes b c x r (write d o bytes how) t is p f = takes_write b c x r (write d o bytes how) t p f
takes b c x r (commit d) t is p f = takes_quiet b c x r t (λ i y e. absurd (cc (ap (λ k. gives k i) is, e))) (λ i g cell a s. elim (p i) [ inl k ↦ sym k.0 ∙ s | inr k ↦ absurd (cc (a, f.alone x d (rw is at t.waits) i k.0)) ]) (λ i. elim (p i) [ inl k ↦ k.1 | inr k ↦ k.2 ]) f
takes b c x r (resize d s) t is p f = takes_quiet b c x r t (λ i y e. absurd (cc (ap (λ k. gives k i) is, e))) (λ i g cell a s. sym (p i).0 ∙ s) (λ i. (p i).1) f
takes b c x r (plain d) t is p f = takes_quiet b c x r t (λ i y e. absurd (cc (ap (λ k. gives k i) is, e))) (λ i g cell a s. sym (p i).0 ∙ s) (λ i. (p i).1) f

-- what flies after a call is made again flew before: under the old number if it flies under the new one
pub record Flew (b : View) (x y : ℕ) (i : Spot) (g : Flight) : Type 0 where
  pub old : Flight
  pub was : b.fly i ≡ Some old
  pub byte_is : old.byte ≡ g.byte
  pub number_is : old.number ≡ g.number
  pub xid_is : ((old.xid ≡ x) × (g.xid ≡ y)) ⊎ ((old.xid ≢ x) × (g ≡ old))

pub flew : (b c : View) (x y : ℕ) (i : Spot) → Renamed x y (b.fly i) (c.fly i) → (g : Flight) → c.fly i ≡ Some g → Flew b x y i g
flew b c x y i n g e = go (b.fly i) (c.fly i) n refl e
  where
    go : (o o' : Option Flight) → Renamed x y o o' → b.fly i ≡ o → o' ≡ Some g → Flew b x y i g
    go o o' (unmoved other is) was e = record { old = g; was = was ∙ sym is ∙ e; byte_is = refl; number_is = refl; xid_is = inr (other g (sym is ∙ e), refl) }
    go o o' (moved f a xi is) was e =
        let k = flight_is (record { byte = f.byte; number = f.number; xid = y }) g (sym is ∙ e) in
        record { old = f; was = was ∙ a; byte_is = ap (λ (d : Flight). d.byte) k; number_is = ap (λ (d : Flight). d.number) k; xid_is = inl (xi, sym (ap (λ (d : Flight). d.xid) k)) }

flies_as : (o o' : Option Flight) (x y : ℕ) → Renamed x y o o' → (f : Flight) → o ≡ Some f → ((f.xid ≢ x) × (o' ≡ Some f)) ⊎ ((f.xid ≡ x) × (o' ≡ Some (record { byte = f.byte; number = f.number; xid = y })))
flies_as o o' x y (unmoved other is) f e = inl (other f e, is ∙ e)
flies_as o o' x y (moved g a xi is) f e = let k = flight_is g f (sym a ∙ e) in inr (ap (λ (d : Flight). d.xid) (sym k) ∙ xi, is ∙ ap (λ (d : Flight). Some (record { byte = d.byte; number = d.number; xid = y })) k)

still_none : (o o' : Option Flight) (x y : ℕ) → Renamed x y o o' → o ≡ None → o' ≡ None
still_none o o' x y (unmoved other is) e = is ∙ e
still_none o o' x y (moved g a xi is) e = absurd (cc (a, e))

-- which call waits after a call is made again
pub renewed_wait : (b c : View) (x : ℕ) (r : Reply) (t : Renews b c x r) (z : ℕ) (k : Call) → c.wait z ≡ Some k → ((z ≡ t.y) × (k ≡ t.call)) ⊎ ((z ≢ x) × (z ≢ t.y) × (b.wait z ≡ Some k))
renewed_wait b c x r t z k w = elim (same_or_not z t.y) [
  | inl is ↦ inl (is, some_call k t.call (sym w ∙ ap (λ n. c.wait n) is ∙ t.is))
  | inr ne ↦ elim (same_or_not z x) [
    | inl is ↦ absurd (cc (t.gone, is, w))
    | inr nx ↦ inr (nx, ne, sym (t.others z nx ne) ∙ w)
  ]
]

again_ : (b c : View) (x : ℕ) (r : Reply) (t : Renews b c x r) → ((z : ℕ) (k : Call) → b.wait z ≡ Some k → z ≢ t.y) → Fact b → Fact c
again_ b c x r t old f = record {
  under = λ i g e.
      let k = flew b c x t.y i (t.fly i) g e in
      let u = f.under i k.old k.was in
      elim k.xid_is [
        | inl is ↦ record { call = t.call; waits = rw is.1 t.is; byte_is = ap (λ z. gives z i) (some_call t.call u.call (sym t.waits ∙ ap (λ z. b.wait z) (sym is.0) ∙ u.waits)) ∙ u.byte_is ∙ ap (λ z. Some z) k.byte_is }
        | inr is ↦
            let same_xid : g.xid ≡ k.old.xid = ap (λ (d : Flight). d.xid) is.1 in
            record { call = u.call; waits = ap (λ z. c.wait z) same_xid ∙ t.others k.old.xid is.0 (old k.old.xid u.call u.waits) ∙ u.waits; byte_is = u.byte_is ∙ ap (λ z. Some z) k.byte_is }
      ];
  here = λ z i y k w e. elim (renewed_wait b c x r t z k w) [
    | inl is ↦
        let g = f.here x i y t.call t.waits (ap (λ l. gives l i) (sym is.1) ∙ e) in
        elim (flies_as (b.fly i) (c.fly i) x t.y (t.fly i) g.flight g.there) [
          | inl o ↦ absurd (o.0 g.xid_is)
          | inr o ↦ record { flight = record { byte = g.flight.byte; number = g.flight.number; xid = t.y }; there = o.1; byte_is = g.byte_is; xid_is = sym is.0 }
        ]
    | inr is ↦
        let g = f.here z i y k is.2 e in
        elim (flies_as (b.fly i) (c.fly i) x t.y (t.fly i) g.flight g.there) [
          | inl o ↦ record { flight = g.flight; there = o.1; byte_is = g.byte_is; xid_is = g.xid_is }
          | inr o ↦ absurd (is.0 (sym g.xid_is ∙ o.0))
        ]
  ];
  newer = λ i g cell e s. let k = flew b c x t.y i (t.fly i) g e in f.newer i k.old cell k.was (sym (t.rest i) ∙ s);
  alone = λ z d w i at. elim (renewed_wait b c x r t z (commit d) w) [
    | inl is ↦ still_none (b.fly i) (c.fly i) x t.y (t.fly i) (f.alone x d (rw (sym is.1) at t.waits) i at)
    | inr is ↦ still_none (b.fly i) (c.fly i) x t.y (t.fly i) (f.alone z d is.2 i at)
  ];
}

drops : (b c : View) (d : File) → Drops b c d → Fact b → Fact c
drops b c d g f = kept b c g.calls (λ i. elim (same_file_or_not i.file d) [ inl is ↦ (g.none i is).1 ∙ sym (g.grounded i is) | inr ne ↦ (g.others i ne).1 ]) (λ i cell e. elim (same_file_or_not i.file d) [ inl is ↦ absurd (cc ((g.none i is).0, e)) | inr ne ↦ inr (sym (g.others i ne).0 ∙ e) ]) f

below : (h : List Entry) (b : View) (x : ℕ) → Reaches h b → x ≡ b.next_xid → (z : ℕ) (k : Call) → b.wait z ≡ Some k → z ≢ x
below h b x r is z k w = λ same. let l = (numbered_fact h b r).waits z k w in absurd (omega (arith, l, is, same))

entry : (h : List Entry) (n : ℕ) (b c : View) (e : Entry) → Reaches h b → Enters n b e c → Fact b → Fact c
entry h n b c (Began l o) r t f = places b c t.calls t.places f
entry h n b c (Answered l a) r t f = places b c t.calls t.places f
entry h n b c (Sent x k) r t f = still b c t.1 f
entry h n b c (Delivered x q) r t f = elim t.how [
  | inl d ↦ places b c d.calls d.places f
  | inr u ↦ elim u [ inl k ↦ takes b c x q k.call k refl k.places f | inr g ↦ again_ b c x q g (below h b g.y r g.numbered) f ]
]
entry h n b c Failed r t f = still b c t f
entry h n b c (Executed x k q) r t f = still b c t f
entry h n b c (Foreign o) r t f = still b c t f
entry h n b c Reboot r t f = still b c t f

move : (h : List Entry) (b c : View) → Reaches h b → Move b c → Fact b → Fact c
move h b c r (makes_write m) f = writes b c m (below h b m.x r m.calls.numbered) f
move h b c r (makes_commit m) f = commits b c m (below h b m.x r m.calls.numbered) f
move h b c r (makes_call m) f = calls_ b c m (below h b m.x r m.calls.numbered) f
move h b c r (adds m) f = adds_ b c m f
move h b c r (proceeds m) f = places b c m.calls m.places f
move h b c r (opens m) f = places b c m.calls m.places f
move h b c r (frees m) f = places b c m.calls m.places f
move h b c r (cuts m) f = kept b c m.calls (λ i. elim (m.places i) [ inl k ↦ k.1 | inr k ↦ k.3 ]) (λ i cell e. elim (m.places i) [ inl k ↦ inr (sym k.0 ∙ e) | inr k ↦ absurd (cc (k.2, e)) ]) f
move h b c r (gives_up m) f = drops b c m.file m.drops f
move h b c r (gives_up_put m) f = drops b c m.file m.drops f
move h b c r (loses m) f = places b c m.calls m.places f

pub layers_fact : (h : List Entry) (c : View) → Reaches h c → Fact c
layers_fact _ _ (begins h c e i) = record {
  under = λ j g a. absurd (cc (i.fly j, a));
  here = λ x j y k w a. absurd (cc (i.wait x, w));
  newer = λ j g cell a s. absurd (cc (i.fly j, a));
  alone = λ x d w j at. i.fly j;
}
layers_fact _ _ (enters h c before b e r g t) = entry before (length before) b c e r t (layers_fact before b r)
layers_fact _ _ (moves h c b r m) = move h b c r m (layers_fact h b r)
