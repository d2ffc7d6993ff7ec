-- While a COMMIT of a file waits nothing of it is in flight, and no WRITE of it waits.
use Rattle.core_answers.proofs.Prelude.{◌≡◌, ◌≢◌, ◌≤◌, ◌⊎◌, inl, inr, ℕ, Bool, true, false, List, [], ◌∷◌, Option, Some, None, option_map, slice_get, refl, sym, ap, subst, ◌∙◌, arith, Waiting, waiting_at, of_file, Sent, piece_under, same-or, Entry, Call, Op, LaneFile, Step, Shelf, IsUnused, Closing, Opening, Putting, Saving, Syncing, Truncating, Writing, Mounted, FileMachine, Machine, Opener, PathMachine, machine_of, file_of, Lane, Purpose, Busy, Setup, View, of_writing, of_syncing, of_closing, of_truncating, of_putting, in_flight, Reaches, begins-unbegun, of_path, path-file, calls-some, flies_if, flies_save, flies_write, flies_sync, flies_close, flies_put, flies_file, flies_path, flies_of, Flies, Flown, sender, look_at, keeps-flown, Known, purpose_at, reached-all, lanes-under-way, TaleLaws, reached-good, Did}
use Rattle.write_back.specs.Files.{HasNoPiece}
use Rattle.core_facts.proofs.Flown.{flies_state}
use Rattle.core_facts.proofs.Keeping.{lane-count, reached-kept}
use Rattle.core_facts.proofs.Tales.{AllGood}
use Rattle.world_model.specs.declared.message.Call.TheVariants as calls
use Rattle.client_shelf.specs.declared.step.Step.TheVariants as nexts
use Rattle.file_ops.specs.declared.close_file.Closing.TheVariants as closing
use Rattle.file_ops.specs.declared.put_file.Putting.TheVariants as putting
use Rattle.file_ops.specs.declared.sync_file.Syncing.TheVariants as syncing
use Rattle.file_ops.specs.declared.truncate_file.Truncating.TheVariants as truncating
use Rattle.file_ops.specs.declared.write_file.Writing.TheVariants as writing
use Rattle.file_ops.specs.Saves as saves
use Rattle.op_machines.specs.declared.file_machine.FileMachine.TheVariants as files
use Rattle.op_machines.specs.declared.machine.Machine.TheVariants as machines
use Rattle.core_facts.specs.Counted.{AreOwned}
use Rattle.core_facts.specs.InFlight.{of_file as calls_of}
use Rattle.core_facts.specs.Lanes.{AreApart}
use Rattle.core_facts.proofs.AllSeats.{path_seat, seat_of, IsLive, OnPath}
use Rattle.core_facts.proofs.FileSeats.{seat_write, seat_sync, seat_close, seat_put, seat_file, FileLive}
use Rattle.core_facts.proofs.Looks.{look-at}
use Rattle.core_facts.proofs.Owning.{reached-owned}
use Rattle.core_facts.proofs.Placing.{seat_state, seat_in}
use Rattle.core_answers.proofs.bonds.OneCall.{IsNfs, one-call}
use Rattle.core_answers.specs.writes.Alone.{written_file, committed_file, IsWaiting, IsQuiet}
use Rattle.core_answers.proofs.writes.AllFits.{commits_path, commits_of, CallFits, fits-laws}
use Rattle.core_answers.proofs.writes.AllTurns.{PathTurn, TurnOf, Turned, keeps-turned}
use Rattle.core_answers.proofs.writes.CallFits.{commits_if, commits_save, commits_write, commits_sync, commits_close, commits_put, commits_file, Fits}
use Rattle.core_answers.proofs.writes.Firsts.{same-first}
use Rattle.core_answers.proofs.writes.Turns.{IsFirst, SyncTurn, CloseTurn, WriteTurn, TruncateTurn, PutTurn, FileTurn}
use Rattle.core_answers.proofs.writes.Under.{under-head}

none-some : {X : Type 0} → (f : List ℕ) → None ≡ Some f → X
none-some f e = absurd (let no_way : None ≡ Some f = e in cc)

-- ---- the seat of one that sends or commits

module _ (f : List ℕ) where
  save-flies : (s : Saving) → flies_save s ≡ Some f → Some s.file ≡ Some f
  save-flies s is = by (saves.is_sending s.phase) is
    where
      by : (b : Bool) → flies_if b s.file ≡ Some f → Some s.file ≡ Some f
      by true k = k
      by false k = none-some f k

  save-commits : (s : Saving) → commits_save s ≡ Some f → Some s.file ≡ Some f
  save-commits s is = by (saves.is_sending s.phase) is
    where
      by : (b : Bool) → commits_if b s.file ≡ Some f → Some s.file ≡ Some f
      by true k = none-some f k
      by false k = k

  save-both : (s : Saving) → flies_save s ≡ Some f → commits_save s ≡ Some f → ⊥
  save-both s is at = by (saves.is_sending s.phase) is at
    where
      by : (b : Bool) → flies_if b s.file ≡ Some f → commits_if b s.file ≡ Some f → ⊥
      by true k l = none-some f l
      by false k l = none-some f k

  write-flies : (w : Writing) → flies_write w ≡ Some f → seat_write w ≡ Some f
  write-flies writing.Idle is = none-some f is
  write-flies (writing.Room file s) is = save-flies s is

  write-commits : (w : Writing) → commits_write w ≡ Some f → seat_write w ≡ Some f
  write-commits writing.Idle is = none-some f is
  write-commits (writing.Room file s) is = save-commits s is

  write-both : (w : Writing) → flies_write w ≡ Some f → commits_write w ≡ Some f → ⊥
  write-both writing.Idle is at = none-some f is
  write-both (writing.Room file s) is at = save-both s is at

  sync-flies : (w : Syncing) → flies_sync w ≡ Some f → seat_sync w ≡ Some f
  sync-flies syncing.Idle is = none-some f is
  sync-flies (syncing.Saves s) is = save-flies s is

  sync-commits : (w : Syncing) → commits_sync w ≡ Some f → seat_sync w ≡ Some f
  sync-commits syncing.Idle is = none-some f is
  sync-commits (syncing.Saves s) is = save-commits s is

  sync-both : (w : Syncing) → flies_sync w ≡ Some f → commits_sync w ≡ Some f → ⊥
  sync-both syncing.Idle is at = none-some f is
  sync-both (syncing.Saves s) is at = save-both s is at

  close-flies : (w : Closing) → flies_close w ≡ Some f → seat_close w ≡ Some f
  close-flies closing.Idle is = none-some f is
  close-flies (closing.Queued s) is = none-some f is
  close-flies (closing.Saves s) is = save-flies s is
  close-flies (closing.ToRemove removal) is = none-some f is
  close-flies (closing.Removing removal) is = none-some f is

  close-commits : (w : Closing) → commits_close w ≡ Some f → seat_close w ≡ Some f
  close-commits closing.Idle is = none-some f is
  close-commits (closing.Queued s) is = none-some f is
  close-commits (closing.Saves s) is = save-commits s is
  close-commits (closing.ToRemove removal) is = none-some f is
  close-commits (closing.Removing removal) is = none-some f is

  close-both : (w : Closing) → flies_close w ≡ Some f → commits_close w ≡ Some f → ⊥
  close-both closing.Idle is at = none-some f is
  close-both (closing.Queued s) is at = none-some f is
  close-both (closing.Saves s) is at = save-both s is at
  close-both (closing.ToRemove removal) is at = none-some f is
  close-both (closing.Removing removal) is at = none-some f is

  put-flies : (p : Putting) (w : Writing) → flies_put p w ≡ Some f → seat_put p w ≡ Some f
  put-flies putting.Idle w is = none-some f is
  put-flies putting.Opens w is = none-some f is
  put-flies (putting.Adds file) w is = write-flies w is
  put-flies (putting.Saves s) w is = save-flies s is

  put-commits : (p : Putting) (w : Writing) → commits_put p w ≡ Some f → seat_put p w ≡ Some f
  put-commits putting.Idle w is = none-some f is
  put-commits putting.Opens w is = none-some f is
  put-commits (putting.Adds file) w is = write-commits w is
  put-commits (putting.Saves s) w is = save-commits s is

  put-both : (p : Putting) (w : Writing) → flies_put p w ≡ Some f → commits_put p w ≡ Some f → ⊥
  put-both putting.Idle w is at = none-some f is
  put-both putting.Opens w is at = none-some f is
  put-both (putting.Adds file) w is at = write-both w is at
  put-both (putting.Saves s) w is at = save-both s is at

  file-flies : (m : FileMachine) → flies_file m ≡ Some f → seat_file m ≡ Some f
  file-flies (files.Open m) is = none-some f is
  file-flies (files.Read m) is = none-some f is
  file-flies (files.Write m) is = write-flies m.state is
  file-flies (files.Sync m) is = sync-flies m.state is
  file-flies (files.Close m) is = close-flies m.state is
  file-flies (files.Truncate m) is = none-some f is
  file-flies (files.Put m) is = put-flies m.state m.write.state is

  file-commits : (m : FileMachine) → commits_file m ≡ Some f → seat_file m ≡ Some f
  file-commits (files.Open m) is = none-some f is
  file-commits (files.Read m) is = none-some f is
  file-commits (files.Write m) is = write-commits m.state is
  file-commits (files.Sync m) is = sync-commits m.state is
  file-commits (files.Close m) is = close-commits m.state is
  file-commits (files.Truncate m) is = none-some f is
  file-commits (files.Put m) is = put-commits m.state m.write.state is

  file-both : (m : FileMachine) → flies_file m ≡ Some f → commits_file m ≡ Some f → ⊥
  file-both (files.Open m) is at = none-some f is
  file-both (files.Read m) is at = none-some f is
  file-both (files.Write m) is at = write-both m.state is at
  file-both (files.Sync m) is at = sync-both m.state is at
  file-both (files.Close m) is at = close-both m.state is at
  file-both (files.Truncate m) is at = none-some f is
  file-both (files.Put m) is at = put-both m.state m.write.state is at

  path-flies : (b : Bool) (o : Opener) → flies_path b o ≡ Some f → path_seat b o ≡ Some f
  path-flies true o is = file-flies (file_of o) is
  path-flies false o is = none-some f is

  path-commits : (b : Bool) (o : Opener) → commits_path b o ≡ Some f → path_seat b o ≡ Some f
  path-commits true o is = file-commits (file_of o) is
  path-commits false o is = none-some f is

  path-both : (b : Bool) (o : Opener) → flies_path b o ≡ Some f → commits_path b o ≡ Some f → ⊥
  path-both true o is at = file-both (file_of o) is at
  path-both false o is at = none-some f is

  seat-flies : (m : Machine) → flies_of m ≡ Some f → seat_of m ≡ Some f
  seat-flies (machines.File m) is = file-flies m is
  seat-flies (machines.Path m) is = path-flies m.arrived m.opener is
  seat-flies (machines.Name m) is = none-some f is

  seat-commits : (m : Machine) → commits_of m ≡ Some f → seat_of m ≡ Some f
  seat-commits (machines.File m) is = file-commits m is
  seat-commits (machines.Path m) is = path-commits m.arrived m.opener is
  seat-commits (machines.Name m) is = none-some f is

  not-both : (m : Machine) → flies_of m ≡ Some f → commits_of m ≡ Some f → ⊥
  not-both (machines.File m) is at = file-both m is at
  not-both (machines.Path m) is at = path-both m.arrived m.opener is at
  not-both (machines.Name m) is at = none-some f is

  -- ---- it is its turn

  as-lane : (l lane : ℕ) (order : List LaneFile) → l ≡ lane → IsFirst l order → IsFirst lane order
  as-lane l lane order same first = subst (λ (n : ℕ). IsFirst n order) same first

  write-first : (T : Type 0) (w : Writing) → WriteTurn T w → 1 ≤ of_writing w → T
  write-first T writing.Idle t some = absurd (omega (arith, some))
  write-first T (writing.Room file s) t some = t some

  sync-first : (T : Type 0) (w : Syncing) → SyncTurn T w → 1 ≤ of_syncing w → T
  sync-first T syncing.Idle t some = absurd (omega (arith, some))
  sync-first T (syncing.Saves s) t some = t some

  close-first : (T : Type 0) (w : Closing) → CloseTurn T w → 1 ≤ of_closing w → T
  close-first T closing.Idle t some = absurd (omega (arith, some))
  close-first T (closing.Queued s) t some = absurd (omega (arith, some))
  close-first T (closing.Saves s) t some = t some
  close-first T (closing.ToRemove removal) t some = t
  close-first T (closing.Removing removal) t some = t

  truncate-first : (T : Type 0) (w : Truncating) → TruncateTurn T w → 1 ≤ of_truncating w → T
  truncate-first T truncating.Idle t some = absurd (omega (arith, some))
  truncate-first T (truncating.Queued file upto) t some = absurd (omega (arith, some))
  truncate-first T (truncating.Asked file upto) t some = t

  put-first : (T : Type 0) (p : Putting) (o : Opening) (w : Writing) → PutTurn T p w → seat_put p w ≡ Some f → 1 ≤ of_putting p o w → T
  put-first T putting.Idle o w t seat some = none-some f seat
  put-first T putting.Opens o w t seat some = none-some f seat
  put-first T (putting.Adds file) o w t seat some = write-first T w t some
  put-first T (putting.Saves s) o w t seat some = t some

  file-first : (m : FileMachine) (lane : ℕ) (order : List LaneFile) → FileLive lane m → FileTurn m order → seat_file m ≡ Some f → 1 ≤ calls_of m → IsFirst lane order
  file-first (files.Open m) lane order live t seat some = none-some f seat
  file-first (files.Read m) lane order live t seat some = none-some f seat
  file-first (files.Write m) lane order live t seat some = as-lane m.lane lane order live.0 (write-first (IsFirst m.lane order) m.state t some)
  file-first (files.Sync m) lane order live t seat some = as-lane m.lane lane order live.0 (sync-first (IsFirst m.lane order) m.state t some)
  file-first (files.Close m) lane order live t seat some = as-lane m.lane lane order live.0 (close-first (IsFirst m.lane order) m.state t some)
  file-first (files.Truncate m) lane order live t seat some = as-lane m.lane lane order live.0 (truncate-first (IsFirst m.lane order) m.state t some)
  file-first (files.Put m) lane order live t seat some =
      as-lane m.write.lane lane order live.0 (put-first (IsFirst m.write.lane order) m.state m.opening m.write.state t seat some)

  path-first : (b : Bool) (m : PathMachine) (lane : ℕ) (order : List LaneFile) → m.arrived ≡ b → OnPath b lane m → PathTurn b m.opener order → path_seat b m.opener ≡ Some f
      → 1 ≤ of_path m → IsFirst lane order
  path-first true m lane order is live t seat some =
      file-first (file_of m.opener) lane order live t seat (let same = path-file m is in omega (arith, some, same))
  path-first false m lane order is live t seat some = none-some f seat

  turn-first : (m : Machine) (lane : ℕ) (order : List LaneFile) → IsLive lane m → TurnOf m order → seat_of m ≡ Some f → 1 ≤ in_flight m → IsFirst lane order
  turn-first (machines.File m) lane order live t seat some = file-first m lane order live t seat some
  turn-first (machines.Path m) lane order live t seat some = path-first m.arrived m lane order refl live t seat some
  turn-first (machines.Name m) lane order live t seat some = none-some f seat

-- ---- each call that waits is one that its operation asked for

any-did : (h : List Entry) (x : ℕ) (op : Op) (next : Step) (new : Machine) (after : Shelf)
    → Did (λ g y o c. Unit {0}) (λ g s. Unit {0}) (λ g y o s. Unit {0}) h x op next new after
any-did h x op (nexts.Send call) new after = record { shelf = tt; asks = tt; then_ = tt }
any-did h x op nexts.Wait new after = record { shelf = tt; asks = tt; then_ = tt }
any-did h x op (nexts.Done answer) new after = record { shelf = tt; asks = tt; then_ = tt }

pub tales : (m : Mounted) (setup : Setup) → TaleLaws (machine_of m) setup CallFits (λ g y o c. Unit {0}) (λ g s. Unit {0}) (λ g y o s. Unit {0})
tales m setup = record {
  fresh = λ h v up fresh. tt;
  starts = λ h lane line op wsize turn old next new after i s. any-did _ _ op next new after;
  resumes = λ h x op machine wsize turn old next new after i s r. any-did h x op next new after;
  takes = λ h x op machine wsize sent turn came old next new after others i s one told t. any-did h x op next new after;
  still = λ h e shelf i. tt;
  waits = λ h e x op call w. tt;
  grows = λ h e x op state quiet s. tt;
  lost = λ h x op l. tt;
}

nfs-commit : (call : Call) (f : List ℕ) → committed_file call ≡ Some f → IsNfs call
nfs-commit (calls.File call) f is = tt
nfs-commit (calls.Dir call) f is = tt
nfs-commit (calls.Mount call) f is = none-some f is

pub nfs-write : (call : Call) (f : List ℕ) → written_file call ≡ Some f → IsNfs call
nfs-write (calls.File call) f is = tt
nfs-write (calls.Dir call) f is = tt
nfs-write (calls.Mount call) f is = none-some f is

module _ (m : Mounted) (setup : Setup) (h : List Entry) (v : View) (r : Reaches (machine_of m) setup h v) (found : v.lost ≡ false) where
  known : Known setup h v
  known = reached-all (machine_of m) (begins-unbegun m) setup h v r found

  apart : AreApart v.lanes
  apart = (lanes-under-way h v known.lanes).apart

  turned : Turned v
  turned = reached-kept (machine_of m) (begins-unbegun m) setup Turned (keeps-turned m setup) h v r found

  flown : Flown v
  flown = reached-kept (machine_of m) (begins-unbegun m) setup Flown (keeps-flown m setup) h v r found

  owned : AreOwned h v
  owned = reached-owned (machine_of m) (begins-unbegun m) setup h v r found

  good : AllGood (machine_of m) (begins-unbegun m) setup CallFits fits-laws (λ g y o c. Unit {0}) (λ g s. Unit {0}) (λ g y o s. Unit {0}) (tales m setup) h v
  good = reached-good (machine_of m) (begins-unbegun m) setup CallFits fits-laws (λ g y o c. Unit {0}) (λ g s. Unit {0}) (λ g y o s. Unit {0}) (tales m setup) h v r

  -- the operation of a call that waits
  record Its (xid : ℕ) (w : Waiting Purpose) : Type 0 where
    at : ℕ
    machine : Machine
    there : slice_get v.lanes at ≡ Some (record { number = w.purpose.lane; state = Busy machine })
    some : 1 ≤ in_flight machine

  its : (xid : ℕ) (w : Waiting Purpose) → waiting_at xid v.calls.calls ≡ Some w → Its xid w
  its xid w waits =
      let o = owned.owned xid w waits in
      let count = lane-count setup h v o.at w.purpose.lane o.machine known o.there in
      let one = calls-some xid v.calls.calls w waits in
      record { at = o.at; machine = o.machine; there = o.there; some = omega (arith, count, one) }

  first-is : (xid : ℕ) (w : Waiting Purpose) (i : Its xid w) (f : List ℕ) → seat_of i.machine ≡ Some f → IsFirst w.purpose.lane v.shelf.order
  first-is xid w i f seat =
      turn-first f i.machine w.purpose.lane v.shelf.order
      (turned.placed.live i.at (record { number = w.purpose.lane; state = Busy i.machine }) i.there).live
      (turned.turns i.at (record { number = w.purpose.lane; state = Busy i.machine }) i.there) seat i.some

  seat-is : (xid : ℕ) (w : Waiting Purpose) (i : Its xid w) → seat_in w.purpose.lane v.lanes ≡ seat_of i.machine
  seat-is xid w i = look-at seat_state v.lanes i.at w.purpose.lane (Busy i.machine) apart i.there

  same-machine : (a b : Lane) → a ≡ b → a.state ≡ b.state
  same-machine a b e = ap (λ (l : Lane). l.state) e

  busy-same : (a b : Machine) → Busy a ≡ Busy b → a ≡ b
  busy-same a b e = cc

  -- one that sends bytes of a file doesn't wait beside one that commits it
  clash : (f : List ℕ) (x y : ℕ) (w u : Waiting Purpose) (i : Its x w) (j : Its y u) → commits_of i.machine ≡ Some f → flies_of j.machine ≡ Some f → ⊥
  clash f x y w u i j commits flies =
      let a = seat-commits f i.machine commits in
      let b = seat-flies f j.machine flies in
      let same : w.purpose.lane ≡ u.purpose.lane =
      same-first (λ n. seat_in n v.lanes) v.shelf.order turned.placed.sits.sound w.purpose.lane u.purpose.lane f (seat-is x w i ∙ a) (seat-is y u j ∙ b)
      (first-is x w i f a) (first-is y u j f b) in
      let places : i.at ≡ j.at =
      apart i.at j.at (record { number = w.purpose.lane; state = Busy i.machine }) (record { number = u.purpose.lane; state = Busy j.machine }) i.there j.there same in
      let lanes : record { number = w.purpose.lane; state = Busy i.machine } ≡ record { number = u.purpose.lane; state = Busy j.machine } =
      some-lane (record { number = w.purpose.lane; state = Busy i.machine }) (record { number = u.purpose.lane; state = Busy j.machine })
      (sym i.there ∙ ap (λ (n : ℕ). slice_get v.lanes n) places ∙ j.there) in
      let machine : i.machine ≡ j.machine = busy-same i.machine j.machine (same-machine _ _ lanes) in
      not-both f j.machine flies (ap commits_of (sym machine) ∙ commits)
    where
      some-lane : (a b : Lane) → Some a ≡ Some b → a ≡ b
      some-lane a b e = cc

  -- what the record of a call spells is what its operation asked for
  fits : (xid : ℕ) (call : Call) (w : IsWaiting setup v xid call) → IsNfs call → Fits (flies_of (its xid w.waiting w.waits).machine) (commits_of (its xid w.waiting w.waits).machine) call
  fits xid call w nfs =
      let i = its xid w.waiting w.waits in
      let e = (good.each i.at (record { number = w.waiting.purpose.lane; state = Busy i.machine }) i.there).0 xid w.waiting w.waits refl in
      let same : call ≡ e.made.asked = one-call xid xid call e.made.asked w.waiting.bytes nfs w.spells.spells e.made.spells.spells in
      subst (Fits (flies_of i.machine) (commits_of i.machine)) (sym same) e.expects

  module _ (f : List ℕ) (xid : ℕ) (call : Call) (w : IsWaiting setup v xid call) (is : committed_file call ≡ Some f) where
    commits : commits_of (its xid w.waiting w.waits).machine ≡ Some f
    commits = (fits xid call w (nfs-commit call f is)).commits_ f is

    no-write : (y : ℕ) (other : Call) → IsWaiting setup v y other → written_file other ≡ Some f → ⊥
    no-write y other u at =
        clash f xid y w.waiting u.waiting (its xid w.waiting w.waits) (its y u.waiting u.waits) commits ((fits y other u (nfs-write other f at)).writes f at)

    none-under : (y : ℕ) (piece : Sent) → piece_under y (of_file f v.shelf.back).pieces ≡ Some piece → ⊥
    none-under y piece there = by (waiting_at y v.calls.calls) refl (flown.flies y)
      where
        unused : IsUnused y v.shelf.back → ⊥
        unused free = absurd (let no_way : None ≡ Some piece = sym (free f) ∙ there in cc)

        flies : (u : Waiting Purpose) (j : Its y u) (o : Option (List ℕ)) → flies_of j.machine ≡ o → Flies y o v.shelf.back → ⊥
        flies u j None e free = unused free
        flies u j (Some g) e mine = file (same-or g f)
          where
            file : (f ≡ g) ⊎ (f ≢ g) → ⊥
            file (inl same) = clash f xid y w.waiting u (its xid w.waiting w.waits) j commits (e ∙ ap Some (sym same))
            file (inr apart_) = absurd (let no_way : None ≡ Some piece = sym (mine.others f apart_) ∙ there in cc)

        by : (o : Option (Waiting Purpose)) → waiting_at y v.calls.calls ≡ o → Flies y (sender (look_at v.lanes) (purpose_at y v.calls.calls)) v.shelf.back → ⊥
        by None e free =
            unused (subst (λ (q : Option Purpose). Flies y (sender (look_at v.lanes) q) v.shelf.back) (ap (option_map (λ (u : Waiting Purpose). u.purpose)) e) free)
        by (Some u) e free =
            let j = its y u e in
            let looks : look_at v.lanes u.purpose.lane ≡ flies_of j.machine = look-at flies_state v.lanes j.at u.purpose.lane (Busy j.machine) apart j.there in
            flies u j (flies_of j.machine) refl
            (subst (λ (s : Option (List ℕ)). Flies y s v.shelf.back)
            (ap (sender (look_at v.lanes)) (ap (option_map (λ (u : Waiting Purpose). u.purpose)) e) ∙ looks) free)

    none : HasNoPiece f v.shelf.back
    none = by (of_file f v.shelf.back).pieces refl
      where
        by : (ps : List Sent) → (of_file f v.shelf.back).pieces ≡ ps → ps ≡ []
        by [] e = refl
        by (p ∷ ps) e = absurd (none-under p.xid p (ap (λ (qs : List Sent). piece_under p.xid qs) e ∙ under-head p.xid p ps refl))

    quiet : IsQuiet setup v f
    quiet = record { none = none; no_write = no-write }

pub commits-alone : (m : Mounted) (setup : Setup) (h : List Entry) (v : View) → Reaches (machine_of m) setup h v → v.lost ≡ false
    → (xid : ℕ) (call : Call) (f : List ℕ) → IsWaiting setup v xid call → committed_file call ≡ Some f → IsQuiet setup v f
commits-alone m setup h v r found xid call f w is = quiet m setup h v r found f xid call w is
