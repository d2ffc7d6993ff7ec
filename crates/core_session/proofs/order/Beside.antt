-- In the view before a WRITE of a file is sent no other call waits that may change one of its places.
use Rattle.core_session.proofs.Prelude.{◌≡◌, ◌≤◌, ◌<◌, ◌+◌, ◌⊎◌, inl, inr, ℕ, Bool, true, false, List, length, Option, Some, None, slice_get, refl, sym, ap, subst, ◌∙◌, arith, Waiting, waiting_at, covers, Pending, of_file, Flown, flown_in, piece_under, covered, flown-some, fly-under, SetAttr, Time, Entry, Call, LaneFile, Closing, Opening, Putting, Saving, Syncing, Truncating, Writing, EachSound, some-of, flown-from, Mounted, FileMachine, Machine, Opener, PathMachine, machine_of, file_of, Lane, Purpose, Busy, Setup, View, of_writing, of_syncing, of_closing, of_truncating, of_putting, in_flight, AreApart, Reaches, begins-unbegun, seat_of, IsLive, calls-some, seat_close, seat_put, flies_if, flies_save, flies_write, flies_sync, flies_close, flies_put, flies_file, flies_path, flies_of, Known, reached-all, reached-kept, lanes-under-way, look-at, reached-owned, seat_state, seat_in, IsExpected, reached-good, one-call, written_file, IsWaiting, IsInFlight, CallFits, fits-laws, Turned, same-first, IsFirst, CloseTurn, writes-whole, Expects, expects-laws, NoCall, NoShelf, NoStory, no-laws}
use Rattle.write_back.specs.Pieces.{Sent}
use Rattle.write_back.proofs.Flying.{under-whole}
use Rattle.core_facts.proofs.AllCounts.{of_path, path-file}
use Rattle.core_facts.proofs.AllSeats.{path_seat, OnPath}
use Rattle.core_facts.proofs.FileSeats.{seat_write, seat_sync, seat_file, FileLive}
use Rattle.core_facts.proofs.Keeping.{lane-count}
use Rattle.core_facts.proofs.Tales.{AllGood}
use Rattle.core_answers.proofs.writes.AllTurns.{PathTurn, TurnOf, keeps-turned}
use Rattle.core_answers.proofs.writes.Turns.{SyncTurn, WriteTurn, TruncateTurn, PutTurn, FileTurn}
use Rattle.nfs_file_calls.specs.declared.call.FileCall.TheVariants as file_calls
use Rattle.world_model.specs.declared.message.Call.TheVariants as calls
use Rattle.file_ops.specs.declared.close_file.Closing.TheVariants as closing
use Rattle.file_ops.specs.declared.put_file.Putting.TheVariants as putting
use Rattle.file_ops.specs.declared.sync_file.Syncing.TheVariants as syncing
use Rattle.file_ops.specs.declared.truncate_file.Truncating.TheVariants as truncating
use Rattle.file_ops.specs.declared.write_file.Writing.TheVariants as writing
use Rattle.file_ops.specs.Saves as saves
use Rattle.op_machines.specs.declared.file_machine.FileMachine.TheVariants as files
use Rattle.op_machines.specs.declared.machine.Machine.TheVariants as machines
use Rattle.core_facts.specs.Counted.{AreOwned}
use Rattle.core_facts.specs.InFlight.{of_file as calls_of}
use Rattle.core_answers.proofs.writes.CommitsAlone.{tales}
use Rattle.core_answers.proofs.writes.Under.{under-xid}
use Rattle.core_session.specs.order.Altering.{Alters, writes, sizes}
use Rattle.core_session.proofs.order.Basis.{reached-basis}
use Rattle.core_session.proofs.order.Tame.{IsCut, Tame, expects-tame}

none-some : {X : Type 0} → (f : List ℕ) → None ≡ Some f → X
none-some f e = absurd (let no_way : None ≡ Some f = e in cc)

-- ---- the seat of one that sends

module _ (f : List ℕ) where
  save-flies : (s : Saving) → flies_save s ≡ Some f → Some s.file ≡ Some f
  save-flies s is = by (saves.is_sending s.phase) is
    where
      by : (b : Bool) → flies_if b s.file ≡ Some f → Some s.file ≡ Some f
      by true k = k
      by false k = none-some f k

  write-flies : (w : Writing) → flies_write w ≡ Some f → seat_write w ≡ Some f
  write-flies writing.Idle is = none-some f is
  write-flies (writing.Room file s) is = save-flies s is

  sync-flies : (w : Syncing) → flies_sync w ≡ Some f → seat_sync w ≡ Some f
  sync-flies syncing.Idle is = none-some f is
  sync-flies (syncing.Saves s) is = save-flies s is

  close-flies : (w : Closing) → flies_close w ≡ Some f → seat_close w ≡ Some f
  close-flies closing.Idle is = none-some f is
  close-flies (closing.Queued s) is = none-some f is
  close-flies (closing.Saves s) is = save-flies s is
  close-flies (closing.ToRemove removal) is = none-some f is
  close-flies (closing.Removing removal) is = none-some f is

  put-flies : (p : Putting) (w : Writing) → flies_put p w ≡ Some f → seat_put p w ≡ Some f
  put-flies putting.Idle w is = none-some f is
  put-flies putting.Opens w is = none-some f is
  put-flies (putting.Adds file) w is = write-flies w is
  put-flies (putting.Saves s) w is = save-flies s is

  file-flies : (m : FileMachine) → flies_file m ≡ Some f → seat_file m ≡ Some f
  file-flies (files.Open m) is = none-some f is
  file-flies (files.Read m) is = none-some f is
  file-flies (files.Write m) is = write-flies m.state is
  file-flies (files.Sync m) is = sync-flies m.state is
  file-flies (files.Close m) is = close-flies m.state is
  file-flies (files.Truncate m) is = none-some f is
  file-flies (files.Put m) is = put-flies m.state m.write.state is

  path-flies : (b : Bool) (o : Opener) → flies_path b o ≡ Some f → path_seat b o ≡ Some f
  path-flies true o is = file-flies (file_of o) is
  path-flies false o is = none-some f is

  seat-flies : (m : Machine) → flies_of m ≡ Some f → seat_of m ≡ Some f
  seat-flies (machines.File m) is = file-flies m is
  seat-flies (machines.Path m) is = path-flies m.arrived m.opener is
  seat-flies (machines.Name m) is = none-some f is

  -- ---- it is its turn

  as-lane : (l lane : ℕ) (order : List LaneFile) → l ≡ lane → IsFirst l order → IsFirst lane order
  as-lane l lane order same first = subst (λ (n : ℕ). IsFirst n order) same first

  write-first : (T : Type 0) (w : Writing) → WriteTurn T w → 1 ≤ of_writing w → T
  write-first T writing.Idle t some = absurd (omega (arith, some))
  write-first T (writing.Room file s) t some = t some

  sync-first : (T : Type 0) (w : Syncing) → SyncTurn T w → 1 ≤ of_syncing w → T
  sync-first T syncing.Idle t some = absurd (omega (arith, some))
  sync-first T (syncing.Saves s) t some = t some

  close-first : (T : Type 0) (w : Closing) → CloseTurn T w → 1 ≤ of_closing w → T
  close-first T closing.Idle t some = absurd (omega (arith, some))
  close-first T (closing.Queued s) t some = absurd (omega (arith, some))
  close-first T (closing.Saves s) t some = t some
  close-first T (closing.ToRemove removal) t some = t
  close-first T (closing.Removing removal) t some = t

  truncate-first : (T : Type 0) (w : Truncating) → TruncateTurn T w → 1 ≤ of_truncating w → T
  truncate-first T truncating.Idle t some = absurd (omega (arith, some))
  truncate-first T (truncating.Queued file upto) t some = absurd (omega (arith, some))
  truncate-first T (truncating.Asked file upto) t some = t

  put-first : (T : Type 0) (p : Putting) (o : Opening) (w : Writing) → PutTurn T p w → seat_put p w ≡ Some f → 1 ≤ of_putting p o w → T
  put-first T putting.Idle o w t seat some = none-some f seat
  put-first T putting.Opens o w t seat some = none-some f seat
  put-first T (putting.Adds file) o w t seat some = write-first T w t some
  put-first T (putting.Saves s) o w t seat some = t some

  file-first : (m : FileMachine) (lane : ℕ) (order : List LaneFile) → FileLive lane m → FileTurn m order → seat_file m ≡ Some f → 1 ≤ calls_of m → IsFirst lane order
  file-first (files.Open m) lane order live t seat some = none-some f seat
  file-first (files.Read m) lane order live t seat some = none-some f seat
  file-first (files.Write m) lane order live t seat some = as-lane m.lane lane order live.0 (write-first (IsFirst m.lane order) m.state t some)
  file-first (files.Sync m) lane order live t seat some = as-lane m.lane lane order live.0 (sync-first (IsFirst m.lane order) m.state t some)
  file-first (files.Close m) lane order live t seat some = as-lane m.lane lane order live.0 (close-first (IsFirst m.lane order) m.state t some)
  file-first (files.Truncate m) lane order live t seat some = as-lane m.lane lane order live.0 (truncate-first (IsFirst m.lane order) m.state t some)
  file-first (files.Put m) lane order live t seat some =
      as-lane m.write.lane lane order live.0 (put-first (IsFirst m.write.lane order) m.state m.opening m.write.state t seat some)

  path-first : (b : Bool) (m : PathMachine) (lane : ℕ) (order : List LaneFile) → m.arrived ≡ b → OnPath b lane m → PathTurn b m.opener order → path_seat b m.opener ≡ Some f
      → 1 ≤ of_path m → IsFirst lane order
  path-first true m lane order is live t seat some =
      file-first (file_of m.opener) lane order live t seat (let same = path-file m is in omega (arith, some, same))
  path-first false m lane order is live t seat some = none-some f seat

  turn-first : (m : Machine) (lane : ℕ) (order : List LaneFile) → IsLive lane m → TurnOf m order → seat_of m ≡ Some f → 1 ≤ in_flight m → IsFirst lane order
  turn-first (machines.File m) lane order live t seat some = file-first m lane order live t seat some
  turn-first (machines.Path m) lane order live t seat some = path-first m.arrived m lane order refl live t seat some
  turn-first (machines.Name m) lane order live t seat some = none-some f seat

-- ---- pieces of one place

one-piece : (back : Pending) (f : List ℕ) (x y : ℕ) (p q : Sent) (i : ℕ) → EachSound back → piece_under x (of_file f back).pieces ≡ Some p → piece_under y (of_file f back).pieces ≡ Some q
    → covers p.offset (length p.bytes) i ≡ true → covers q.offset (length q.bytes) i ≡ true → x ≡ y
one-piece back f x y p q i sound at_x at_y in_p in_q =
    let ps = (of_file f back).pieces in
    let a = some-of (flown_in p i) (flown-some p i (under-whole x ps p (sound f).sent at_x) in_p) in
    let b = some-of (flown_in q i) (flown-some q i (under-whole y ps q (sound f).sent at_y) in_q) in
    let both : flown_in p i ≡ flown_in q i = sym (fly-under x ps p i (sound f).sent at_x in_p) ∙ fly-under y ps q i (sound f).sent at_y in_q in
    let same : a.0 ≡ b.0 = some-flown a.0 b.0 (sym a.1 ∙ both ∙ b.1) in
    sym (under-xid x ps p at_x) ∙ sym (flown-from p i a.0 a.1).xid ∙ ap (λ (k : Flown). k.xid) same ∙ (flown-from q i b.0 b.1).xid ∙ under-xid y ps q at_y
  where
    some-flown : (a b : Flown) → Some a ≡ Some b → a ≡ b
    some-flown a b e = cc

-- ---- in one view

module _ (m : Mounted) (setup : Setup) (h : List Entry) (v : View) (r : Reaches (machine_of m) setup h v) (found : v.lost ≡ false) where
  known : Known setup h v
  known = reached-all (machine_of m) (begins-unbegun m) setup h v r found

  apart : AreApart v.lanes
  apart = (lanes-under-way h v known.lanes).apart

  turned : Turned v
  turned = reached-kept (machine_of m) (begins-unbegun m) setup Turned (keeps-turned m setup) h v r found

  owned : AreOwned h v
  owned = reached-owned (machine_of m) (begins-unbegun m) setup h v r found

  good : AllGood (machine_of m) (begins-unbegun m) setup CallFits fits-laws (λ g y o c. Unit {0}) (λ g s. Unit {0}) (λ g y o s. Unit {0}) (tales m setup) h v
  good = reached-good (machine_of m) (begins-unbegun m) setup CallFits fits-laws (λ g y o c. Unit {0}) (λ g s. Unit {0}) (λ g y o s. Unit {0}) (tales m setup) h v r

  awaited : AllGood (machine_of m) (begins-unbegun m) setup Expects expects-laws NoCall NoShelf NoStory (no-laws (machine_of m) setup Expects) h v
  awaited = reached-good (machine_of m) (begins-unbegun m) setup Expects expects-laws NoCall NoShelf NoStory (no-laws (machine_of m) setup Expects) h v r

  -- the operation of a call that waits
  record Its (xid : ℕ) (w : Waiting Purpose) : Type 0 where
    at : ℕ
    machine : Machine
    there : slice_get v.lanes at ≡ Some (record { number = w.purpose.lane; state = Busy machine })
    some : 1 ≤ in_flight machine

  its : (xid : ℕ) (w : Waiting Purpose) → waiting_at xid v.calls.calls ≡ Some w → Its xid w
  its xid w waits =
      let o = owned.owned xid w waits in
      let count = lane-count setup h v o.at w.purpose.lane o.machine known o.there in
      let one = calls-some xid v.calls.calls w waits in
      record { at = o.at; machine = o.machine; there = o.there; some = omega (arith, count, one) }

  first-is : (xid : ℕ) (w : Waiting Purpose) (i : Its xid w) (f : List ℕ) → seat_of i.machine ≡ Some f → IsFirst w.purpose.lane v.shelf.order
  first-is xid w i f seat =
      turn-first f i.machine w.purpose.lane v.shelf.order
      (turned.placed.live i.at (record { number = w.purpose.lane; state = Busy i.machine }) i.there).live
      (turned.turns i.at (record { number = w.purpose.lane; state = Busy i.machine }) i.there) seat i.some

  seat-is : (xid : ℕ) (w : Waiting Purpose) (i : Its xid w) → seat_in w.purpose.lane v.lanes ≡ seat_of i.machine
  seat-is xid w i = look-at seat_state v.lanes i.at w.purpose.lane (Busy i.machine) apart i.there

  busy-same : (a b : Machine) → Busy a ≡ Busy b → a ≡ b
  busy-same a b e = cc

  -- two operations that wait for calls on one file are one
  one-machine : (f : List ℕ) (x y : ℕ) (w u : Waiting Purpose) (i : Its x w) (j : Its y u) → seat_of i.machine ≡ Some f → seat_of j.machine ≡ Some f → i.machine ≡ j.machine
  one-machine f x y w u i j a b =
      let same : w.purpose.lane ≡ u.purpose.lane =
      same-first (λ n. seat_in n v.lanes) v.shelf.order turned.placed.sits.sound w.purpose.lane u.purpose.lane f (seat-is x w i ∙ a) (seat-is y u j ∙ b)
      (first-is x w i f a) (first-is y u j f b) in
      let places : i.at ≡ j.at =
      apart i.at j.at (record { number = w.purpose.lane; state = Busy i.machine }) (record { number = u.purpose.lane; state = Busy j.machine }) i.there j.there same in
      let lanes : record { number = w.purpose.lane; state = Busy i.machine } ≡ record { number = u.purpose.lane; state = Busy j.machine } =
      some-lane (record { number = w.purpose.lane; state = Busy i.machine }) (record { number = u.purpose.lane; state = Busy j.machine })
      (sym i.there ∙ ap (λ (n : ℕ). slice_get v.lanes n) places ∙ j.there) in
      busy-same i.machine j.machine (ap (λ (l : Lane). l.state) lanes)
    where
      some-lane : (a b : Lane) → Some a ≡ Some b → a ≡ b
      some-lane a b e = cc

  -- ---- a WRITE beside another call

  module _ (f : List ℕ) (place y : ℕ) (offset how : ℕ) (bytes : List ℕ) (u : IsWaiting setup v y (calls.File (file_calls.Write f offset how bytes))) (from : offset ≤ place)
      (to : place < offset + length bytes) where
    abbrev write : Call
    write = calls.File (file_calls.Write f offset how bytes)

    own : Its y u.waiting
    own = its y u.waiting u.waits

    flies : flies_of own.machine ≡ Some f
    flies =
        let e = (good.each own.at (record { number = u.waiting.purpose.lane; state = Busy own.machine }) own.there).0 y u.waiting u.waits refl in
        let same : write ≡ e.made.asked = one-call y y write e.made.asked u.waiting.bytes tt u.spells.spells e.made.spells.spells in
        e.expects.writes f (sym (ap written_file same))

    in-piece : (x : ℕ) (o k : ℕ) (bs : List ℕ) → IsInFlight x f (calls.File (file_calls.Write f o k bs)) v.shelf.back → o ≤ place → place < o + length bs
        → (p : Sent) × (piece_under x (of_file f v.shelf.back).pieces ≡ Some p) × (covers p.offset (length p.bytes) place ≡ true)
    in-piece x o k bs i low high =
        let offsets : o ≡ i.piece.offset = same-offset o i.piece.offset i.is in
        let texts : bs ≡ i.piece.bytes = same-bytes bs i.piece.bytes i.is in (
          i.piece,
          i.there,
          covered i.piece.offset (length i.piece.bytes) place (omega (arith, offsets, low)) (omega (arith, offsets, high, ap length texts)),
        )
      where
        same-offset : (a b : ℕ) → calls.File (file_calls.Write f a k bs) ≡ calls.File (file_calls.Write f b i.piece.how i.piece.bytes) → a ≡ b
        same-offset a b e = cc

        same-bytes : (a b : List ℕ) → calls.File (file_calls.Write f o k a) ≡ calls.File (file_calls.Write f i.piece.offset i.piece.how b) → a ≡ b
        same-bytes a b e = cc

    -- each other WRITE has its own places
    beside-write : (x o k : ℕ) (bs : List ℕ) → IsWaiting setup v x (calls.File (file_calls.Write f o k bs)) → o ≤ place → place < o + length bs → x ≡ y
    beside-write x o k bs w low high =
        let p = in-piece x o k bs (writes-whole m setup h v r found x (calls.File (file_calls.Write f o k bs)) f w refl) low high in
        let q = in-piece y offset how bytes (writes-whole m setup h v r found y write f u refl) from to in
        one-piece v.shelf.back f x y p.0 q.0 place (reached-basis m setup h v r found).sound p.1 q.1 p.2 q.2

    -- no truncate waits
    beside-size : (x : ℕ) (set : SetAttr) (guard : Option Time) → IsWaiting setup v x (calls.File (file_calls.SetAttr f set guard)) → ⊥
    beside-size x set guard w = by (expects-tame i.machine e.made.asked e.expects i.some)
      where
        i : Its x w.waiting
        i = its x w.waiting w.waits

        e : IsExpected (machine_of m) (begins-unbegun m) setup Expects expects-laws NoCall NoShelf NoStory (no-laws (machine_of m) setup Expects) h w.waiting.purpose.lane x w.waiting i.machine
        e = (awaited.each i.at (record { number = w.waiting.purpose.lane; state = Busy i.machine }) i.there).0 x w.waiting w.waits refl

        asked : calls.File (file_calls.SetAttr f set guard) ≡ e.made.asked
        asked = one-call x x (calls.File (file_calls.SetAttr f set guard)) e.made.asked w.waiting.bytes tt w.spells.spells e.made.spells.spells

        same-file : (a b : List ℕ) (s t : SetAttr) (k l : Option Time) → calls.File (file_calls.SetAttr a s k) ≡ calls.File (file_calls.SetAttr b t l) → a ≡ b
        same-file a b s t k l q = cc

        by : IsCut i.machine e.made.asked ⊎ Tame e.made.asked → ⊥
        by (inr tame) = subst Tame (sym asked) tame
        by (inl c) =
            let file : f ≡ c.file = same-file f c.file set _ guard None (asked ∙ c.asks) in
            let seat : seat_of i.machine ≡ Some f = ap seat_of c.is ∙ ap (λ (t : Truncating). seat_of (machines.File (files.Truncate (record c.m { state = t })))) c.state ∙ ap Some (sym file) in
            let one : i.machine ≡ own.machine = one-machine f x y w.waiting u.waiting i own seat (seat-flies f own.machine flies) in
            none-some f (ap flies_of (sym c.is ∙ one) ∙ flies)

    -- so whatever may change the place is this one
    pub beside : (x : ℕ) (call : Call) → IsWaiting setup v x call → Alters f place call → x ≡ y
    beside x call w (writes o k bs is low high) = beside-write x o k bs (subst (IsWaiting setup v x) is w) low high
    beside x call w (sizes set size guard is sized small) = absurd (beside-size x set guard (subst (IsWaiting setup v x) is w))
