-- The tally is kept where an operation begins.
use Rattle.core_counts.proofs.Prelude.{◌≡◌, ◌≢◌, ◌<◌, ◌+◌, ◌⊎◌, inl, inr, ℕ, false, List, [], ◌∷◌, ◌++◌, length, Some, slice_get, refl, sym, ap, subst, ◌∙◌, arith, next_xid, Entry, Began, Sent, Op, Modes, UnderWay, At-last, At-one, of_file, rest_at, Turn, IsUnused, Mounted, machine_of, Fits, Lane, Busy, Setup, IsIdle, numbers_of, counted, StartsLane, View, turn_at, Reaches, last_reading, Given, is-given, Known, lanes-under-way, idle-numbers, number_of, at-push, get-push, to-map, same-rows, unused-next, keeps-bytes, StartsHas, basis-ready, starts-basis, NearAs, stage_of, starts-has, starts-wholly, EachSound}
use Rattle.core_session.proofs.calls.GivenBytes.{Gives, begun-has}
use Rattle.op_machines.proofs.AllLaws as laws
use Rattle.core_session.proofs.room.Entered.{under-early}
use Rattle.core_counts.proofs.coarse.Near.{near-starts}
use Rattle.core_counts.proofs.counts.engine.Lists.{each-map, Elsewhere}
use Rattle.core_counts.proofs.counts.writes.Once.{Gone}
use Rattle.core_counts.proofs.counts.writes.Stepped.{Held, Brought, adds-held, starts-held}
use Rattle.core_counts.proofs.counts.writes.Tally.{In, Writer, Tally, lists-later, sents-later, leads-tally}
use Rattle.core_counts.proofs.counts.writes.Weights.{due_of, low, any}
use Rattle.core_counts.proofs.counts.writes.Before.{held-before, starts-with, began-lane, writer-early, in-each, wrote-it}

module _ (m : Mounted) (modes_of : Modes) (same : m.nocto ≡ modes_of.nocto) (setup : Setup) (f : List ℕ) (i : ℕ) where
  abbrev TallyAt : List Entry → View → Type 0
  TallyAt = Tally m modes_of same setup f i

  abbrev WriterAt : List Entry → ℕ → Type 0
  WriterAt = Writer m modes_of same setup f i

  -- ---- an operation begins

  module _ (h : List Entry) (old new : View) (lane line : ℕ) (op : Op) (r : Reaches (machine_of m) setup h old) (found : old.lost ≡ false) (k : Known setup h old) (idle : IsIdle lane old.lanes)
      (fits : Fits (machine_of m lane op)) (t : StartsLane (counted old (last_reading 0 h)) lane (machine_of m lane op) new) (i_ : TallyAt h old) where
    abbrev begun : List Entry
    begun = h ++ Began lane line op ∷ []

    abbrev now_turn : Turn
    now_turn = turn_at (counted old (last_reading 0 h))

    abbrev w : View
    w = record (counted old (last_reading 0 h)) { lanes = old.lanes ++ record { number = lane; state = Busy t.after } ∷ []; shelf = t.shelf }

    free : IsUnused (next_xid old.calls) old.shelf.back
    free = unused-next setup h old k.rows i_.basis.flying.flown

    began-sent : (bytes : List ℕ) → Began lane line op ≡ Sent bytes → ⊥
    began-sent bytes is = cc

    early : (z : ℕ) → In z i_.lists.writers → z < length h
    early z has = in-each m modes_of same setup f i (λ (n : ℕ). n < length h) z i_.lists.writers (each-map (WriterAt h) (λ (n : ℕ). n < length h) (writer-early m modes_of same setup f i h) i_.lists.writers i_.lists.each_writer) has

    none-under : (z : ℕ) (o : Op) → UnderWay begun lane z (length begun) o → z < length h → ⊥
    none-under z o u low = (lanes-under-way h old k.lanes).idle lane idle.other (record { x = z; op = o; under_way = under-early h (Began lane line op) lane z o low u })

    apart : Elsewhere (length h) i_.lists.writers
    apart = each-map (WriterAt h) (λ (n : ℕ). n ≢ length h) (λ n q is. absurd (let low = writer-early m modes_of same setup f i h n q in omega (arith, low, is))) i_.lists.writers i_.lists.each_writer

    not-lane : (j : ℕ) (l : Lane) → slice_get old.lanes j ≡ Some l → l.number ≡ lane → ⊥
    not-lane j l there is = idle-numbers lane (numbers_of old.lanes) idle.other j (to-map number_of old.lanes j l there ∙ ap Some is)

    before-push : (j : ℕ) (l : Lane) → slice_get (old.lanes ++ record { number = lane; state = Busy t.after } ∷ []) j ≡ Some l → j ≢ length old.lanes → slice_get old.lanes j ≡ Some l
    before-push j l here other = elim (get-push old.lanes (record { number = lane; state = Busy t.after }) j l here) [
      | inl there ↦ there
      | inr last ↦ absurd (other last.0)
    ]

    abbrev Why : Type 0
    Why = WriterAt begun (length h) × Elsewhere (length h) i_.lists.writers × ((t.shelf.seq ≡ old.shelf.seq) ⊎ Gone t.next (stage_of t.after))

    given : Given modes_of h lane old.shelf
    given = is-given modes_of m same setup h old r found lane idle.other

    abbrev y : ℕ
    y = next_xid old.calls

    abbrev n : ℕ
    n = due_of any (rest_at (of_file f old.shelf.back) i)

    brought : StartsHas (λ g o b. NearAs old.wsize now_turn (old.shelf.seq + 1) g o b (old.shelf.seq + 1) × Brought f i y old.shelf.seq n Why g o b) (machine_of m lane op) old.shelf.opens t.next
    brought = starts-with (λ g o b. NearAs old.wsize now_turn (old.shelf.seq + 1) g o b (old.shelf.seq + 1)) (Gives m modes_of begun (length h) op)
        (λ g o b. NearAs old.wsize now_turn (old.shelf.seq + 1) g o b (old.shelf.seq + 1) × Brought f i y old.shelf.seq n Why g o b) (machine_of m lane op) old.shelf.opens t.next
        (λ g o b well near gives. (
          near,
          λ is inside. (
            wrote-it m modes_of same setup f i begun lane line (length h) op (At-last h (Began lane line op)) o b (subst (λ (z : List ℕ). Gives m modes_of begun (length h) op z o b) (sym is) gives) inside,
            apart,
            inr (inl (_, well.1)),
          ),
        ))
        (near-starts (old.shelf.seq + 1) old.wsize now_turn (machine_of m lane op) old.shelf.opens t.next fits) (begun-has modes_of m h lane line old.shelf given op t.next)

    went : Held f i y old.shelf.seq n Why t.shelf.back × EachSound t.shelf.back
    went =
        starts-held f i y old.shelf.seq n Why old.wsize now_turn (old.shelf.seq + 1) (Brought f i y old.shelf.seq n Why) (adds-held f i y old.shelf.seq n Why) (machine_of m lane op) old.shelf t.next t.after
        t.shelf refl brought (held-before f i y old.shelf.seq Why old.shelf.back i_.basis.sound free i_.basis.newest) i_.basis.sound free i_.basis.newest t.starts

    pub starts-tally : TallyAt (h ++ Began lane line op ∷ []) new
    starts-tally =
        leads-tally m modes_of same setup f i h begun w new (length old.lanes) lane t.after t.next (same-rows setup h old w refl k.rows) (record {
          s = old.shelf.seq;
          n = due_of any (rest_at (of_file f old.shelf.back) i);
          x = length h;
          lists = lists-later m modes_of same setup f i h (Began lane line op) i_.lists;
          below = i_.below;
          waits = i_.waits;
          sents = sents-later m modes_of same setup f i h (Began lane line op) i_.lists.made (λ bytes is. absurd (began-sent bytes is)) i_.sents;
          room = i_.few;
          held = went.0;
          sound = went.1;
          ready = laws.starts-ready old.wsize (machine_of m lane op) now_turn old.shelf t.next t.after t.shelf t.starts (basis-ready setup h old k.rows i_.basis);
          has = starts-has old.wsize now_turn (machine_of m lane op) old.shelf t.next t.after t.shelf t.starts free;
          own = λ z o u has. absurd (none-under z o u (early z has));
        })
        (at-push old.lanes (record { number = lane; state = Busy t.after }))
        (λ j l here other z o u has. i_.spent j l (before-push j l here other) z o (under-early h (Began lane line op) l.number z o (early z has) u) has)
        (λ j l here other o u. not-lane j l (before-push j l here other) (began-lane l.number u.line lane line o op
        (At-one begun (length h) (Began l.number u.line o) (Began lane line op) u.began (At-last h (Began lane line op)))))
        (starts-basis m setup h old new lane line op (last_reading 0 h) r found k idle fits t i_.basis) (starts-wholly m setup h old new lane line op (last_reading 0 h) r found k idle t i_.wholly)
        ((keeps-bytes m modes_of same setup).starts h old new lane line op (last_reading 0 h) r found k idle fits t i_.bytes) t.leads
