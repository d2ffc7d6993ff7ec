-- A sync or close of a file with two places next to each other: so through each of its steps.
use Rattle.core_counts.proofs.Prelude.{◌≡◌, ◌≤◌, ◌⊎◌, inl, inr, ◌+◌, ℕ, Bool, true, false, List, Option, Some, None, Result, Ok, Err, refl, sym, ap, subst, ◌∙◌, Fault, Reply, LaneFile, Step, Repeat, Shelf, Turn, is_first, goes_again, Pending, of_file, Flown, fly_at, last_end, CloseFile, Closing, Removal, Saving, SyncFile, Syncing, remove_busy, file_at, joined, by-step, ends_as, FileMachine, Machine, Starts, Resumes, Takes, EachSound, IsAwaited, flies_of, flies_if}
use Rattle.core_facts.proofs.Flights.{flies_sync, flies_close}
use Rattle.client_shelf.specs.declared.step.Step.TheVariants as nexts
use Rattle.file_ops.specs.declared.close_file.Closing.TheVariants as closing
use Rattle.file_ops.specs.declared.sync_file.Syncing.TheVariants as syncing
use Rattle.file_ops.specs.Closes as closes
use Rattle.file_ops.specs.Saves as saves
use Rattle.file_ops.specs.Syncs.{sync_next}
use Rattle.file_ops.specs.Syncs as syncs
use Rattle.op_machines.specs.declared.file_machine.FileMachine.TheVariants as files
use Rattle.op_machines.specs.declared.machine.Machine.TheVariants as machines
use Rattle.core_session.proofs.drops.SaveFiles.{goes-save, takes-save}
use Rattle.core_counts.proofs.thrift.short.Ends.{Each, waits, flies}
use Rattle.core_counts.proofs.thrift.short.Holding.{Hold, Early, HoldsOn, hold-goes, hold-takes, hold-unmade}

module _ (before next wsize : ℕ) (is_next : next ≡ before + 1) (some : 1 ≤ wsize) (f : List ℕ) (Cov : Type 0) where
  -- of a save of the file
  abbrev pub SaveIs : Saving → Pending → Type 0
  SaveIs s b = s.file ≡ f → Cov ⊎ Hold before next wsize is_next some s b

  abbrev pub Soon : ℕ → List ℕ → Pending → Type 0
  Soon to file b = Early before next wsize is_next some to file b

  abbrev SaveOn : Step → Saving → Pending → Type 0
  SaveOn (nexts.Send call) s b = SaveIs s b
  SaveOn nexts.Wait s b = SaveIs s b
  SaveOn (nexts.Done answer) s b = Unit {0}

  save-on : (n : Step) (s new : Saving) (b : Pending) → new.file ≡ s.file → (s.file ≡ f → Cov ⊎ HoldsOn before next wsize is_next some n s new b) → SaveOn n new b
  save-on (nexts.Send call) s new b file h = λ same. elim (h (sym file ∙ same)) [ inl c ↦ inl c | inr k ↦ inr k.1 ]
  save-on nexts.Wait s new b file h = λ same. elim (h (sym file ∙ same)) [ inl c ↦ inl c | inr k ↦ inr k.1 ]
  save-on (nexts.Done answer) s new b file h = tt

  -- what is known of what came: the second byte isn't in flight, or was covered; or the call couldn't be made, and was the last one
  abbrev pub HeardSave : Turn → Turn → Result Reply Fault → Saving → Pending → Type 0
  HeardSave sent turn came s b =
      IsAwaited s sent.xid b
      × (Soon turn.xid s.file b × ((flown : Flown) → s.file ≡ f → fly_at (of_file s.file b) next ≡ Some flown → Cov) ⊎ ((fault : Fault) × (came ≡ Err fault) × (s.file ≡ f → Each (λ q. q.xid ≤ sent.xid) (of_file s.file b).pieces)))

  goes-on : (turn : Turn) (b : Pending) (gives : _) (s saved : Saving) (after : Pending) → EachSound b → saves.Goes wsize turn.xid turn.room false s b gives saved after → (s.file ≡ f → Soon turn.xid s.file b)
      → SaveIs s b → SaveOn (sync_next gives) saved after
  goes-on turn b gives s saved after sound g early h =
      save-on (sync_next gives) s saved after (goes-save s.file s.upto wsize turn.xid turn.room false s b gives saved after (record { file_is = refl; upto_is = refl }) g).file_is
      (λ same. elim (h same) [
        | inl c ↦ inl c
        | inr k ↦ inr (hold-goes before next wsize is_next some turn.xid turn.room false s b gives saved after sound (early same) g k)
      ])

  module _ (sent turn : Turn) (came : Result Reply Fault) (s : Saving) (b : Pending) (sound : EachSound b) (heard : HeardSave sent turn came s b) (repeats later : List Repeat) (saved : Saving) (after : Pending) where
    takes-on : (gives : _) → saves.Takes wsize sent turn came repeats s b gives saved after later → SaveIs s b → SaveOn (sync_next gives) saved after
    takes-on gives t h =
        save-on (sync_next gives) s saved after (takes-save s.file s.upto wsize sent turn came repeats s b gives saved after later (record { file_is = refl; upto_is = refl }) t).file_is
        (λ same. elim (h same) [
          | inl c ↦ inl c
          | inr k ↦ elim heard.1 [
            | inl now ↦ elim k.open_.second [
              | flies flown at_ none plain low each ↦ inl (now.1 flown same at_)
              | waits cell at_ ready plain low each ↦
                  inr (hold-takes before next wsize is_next some sent turn came s b sound now.0 k (record { cell = cell; at = at_; ready = ready; plain = plain; low = low; each = each })
                  repeats later gives saved after heard.0 t)
            ]
            | inr lost ↦
                inr (hold-unmade before next wsize is_next some sent turn lost.0 s b sound (lost.2 same) k repeats later gives saved after heard.0
                (subst (λ (c : Result Reply Fault). saves.Takes wsize sent turn c repeats s b gives saved after later) lost.1 t))
          ]
        ])

  -- ---- a sync

  abbrev pub AtSync : Syncing → Pending → Type 0
  AtSync syncing.Idle b = Unit {0}
  AtSync (syncing.Saves s) b = SaveIs s b

  abbrev SyncOn : Step → Syncing → Pending → Type 0
  SyncOn (nexts.Send call) state b = AtSync state b
  SyncOn nexts.Wait state b = AtSync state b
  SyncOn (nexts.Done answer) state b = Unit {0}

  sync-waits : (nx : Step) (state to : Syncing) (b mid : Pending) → nx ≡ nexts.Wait → state ≡ to → b ≡ mid → AtSync to mid → SyncOn nx state b
  sync-waits nx state to b mid n s m h = rw (n, s, m) h

  sync-as : (gives : _) (lane : ℕ) (saved : Saving) (order : List LaneFile) (nx : Step) (state : Syncing) (left : List LaneFile) (b : Pending) → syncs.Follows lane gives saved order nx state left
      → SaveOn (sync_next gives) saved b → SyncOn nx state b
  sync-as gives lane saved order nx state left b f on =
      by-step (λ g. syncs.Follows lane g saved order nx state left → SaveOn (sync_next g) saved b → SyncOn nx state b) (λ call f l. rw (f.next_is, f.state_is) l) (λ f l. rw (f.next_is, f.state_is) l) ended gives f on
    where
      ended : (result : Result (Unit {0}) Fault) → syncs.Follows lane (ends_as result) saved order nx state left → SaveOn (sync_next (ends_as result)) saved b → SyncOn nx state b
      ended result f l = subst (λ (n : Step). SyncOn n state b) (sym f.next_is) tt

  module _ (turn : Turn) (old : Shelf) (sound : EachSound old.back) (early : (file : List ℕ) → Soon turn.xid file old.back) where
    sync-queues : (b : Bool) (lane : ℕ) (s : Saving) (order : List LaneFile) (nx : Step) (state : Syncing) (new : Shelf) → syncs.QueuesIf b wsize lane turn s (record old { order = order }) nx state new → SaveIs s old.back
        → SyncOn nx state new.back
    sync-queues true lane s order nx state new g h = sync-as g.gives lane g.saved order nx state new.order new.back g.follows (goes-on turn old.back g.gives s g.saved new.back sound g.goes (λ same. early s.file) h)
    sync-queues false lane s order nx state new g h = sync-waits nx state (syncing.Saves s) new.back old.back g.next_is g.state_is (ap (λ (z : Shelf). z.back) g.shelf_is) h

    sync-starts : (m : SyncFile) (nx : Step) (state : Syncing) (new : Shelf) → ((file : List ℕ) → file_at m.lane m.slot old.opens ≡ Some file → SaveIs (saves.begun file old.seq) old.back) → syncs.Starts wsize m turn old nx state new → SyncOn nx state new.back
    sync-starts m nx state new begins s = by (file_at m.lane m.slot old.opens) refl s
      where
        by : (found : Option (List ℕ)) → file_at m.lane m.slot old.opens ≡ found → syncs.StartsAt found wsize m turn old nx state new → SyncOn nx state new.back
        by None at s = subst (λ (n : Step). SyncOn n state new.back) (sym s.next_is) tt
        by (Some file) at s = sync-queues (is_first m.lane (joined m.lane file old).order) m.lane (saves.begun file old.seq) (joined m.lane file old).order nx state new s (begins file at)

    sync-resumes : (at : Syncing) (m : SyncFile) (nx : Step) (state : Syncing) (new : Shelf) → syncs.Resumes at wsize m turn old nx state new → AtSync at old.back → SyncOn nx state new.back
    sync-resumes syncing.Idle m nx state new r h = sync-waits nx state syncing.Idle new.back old.back r.next_is r.state_is (ap (λ (z : Shelf). z.back) r.shelf_is) h
    sync-resumes (syncing.Saves s) m nx state new r h = sync-queues (is_first m.lane old.order) m.lane s old.order nx state new r h

  -- ---- a close

  abbrev pub AtClose : Closing → Pending → Type 0
  AtClose closing.Idle b = Unit {0}
  AtClose (closing.Queued s) b = SaveIs s b
  AtClose (closing.Saves s) b = SaveIs s b
  AtClose (closing.ToRemove r) b = Unit {0}
  AtClose (closing.Removing r) b = Unit {0}

  abbrev CloseOn : Step → Closing → Pending → Type 0
  CloseOn (nexts.Send call) state b = AtClose state b
  CloseOn nexts.Wait state b = AtClose state b
  CloseOn (nexts.Done answer) state b = Unit {0}

  close-waits : (nx : Step) (state to : Closing) (b mid : Pending) → nx ≡ nexts.Wait → state ≡ to → b ≡ mid → AtClose to mid → CloseOn nx state b
  close-waits nx state to b mid n s m h = rw (n, s, m) h

  asks-on : (room : Bool) (r : Removal) (old : Shelf) (nx : Step) (state : Closing) (new : Shelf) → closes.Asks room r old nx state new → CloseOn nx state new.back
  asks-on true r old nx state new a = rw (a.next_is, a.state_is) tt
  asks-on false r old nx state new a = rw (a.next_is, a.state_is) tt

  ends-on : (lane : ℕ) (file : List ℕ) (refusal : Option Fault) (old : Shelf) (nx : Step) (state : Closing) (new : Shelf) → closes.Ends lane file refusal old nx state new → CloseOn nx state new.back
  ends-on lane file refusal old nx state new e = subst (λ (n : Step). CloseOn n state new.back) (sym e.next_is) tt

  frees-on : (lane slot : ℕ) (room : Bool) (file : List ℕ) (refusal : Option Fault) (old : Shelf) (nx : Step) (state : Closing) (new : Shelf) → closes.Frees lane slot room file refusal old nx state new
      → CloseOn nx state new.back
  frees-on lane slot room file refusal old nx state new f = by f.place f.ends
    where
      by : (place : Option (List ℕ × List ℕ)) → closes.EndsAt place lane room file refusal f.freed nx state new → CloseOn nx state new.back
      by None e = ends-on lane file refusal f.freed nx state new e
      by (Some place) e = asks-on room (record { file = file; dir = place.0; name = place.1; refusal = refusal }) f.freed nx state new e

  close-as : (gives : _) (lane slot : ℕ) (room begun : Bool) (saved : Saving) (old : Shelf) (nx : Step) (state : Closing) (new : Shelf) → closes.Follows gives lane slot room begun saved old nx state new
      → SaveOn (sync_next gives) saved old.back → CloseOn nx state new.back
  close-as gives lane slot room begun saved old nx state new f on =
      by-step (λ g. closes.Follows g lane slot room begun saved old nx state new → SaveOn (sync_next g) saved old.back → CloseOn nx state new.back) (λ call f l. rw (f.0, f.1, f.2) l)
      (λ f l. wait_ begun f.0 f.1 f.2 l) ended gives f on
    where
      wait_ : (b : Bool) → nx ≡ nexts.Wait → state ≡ closes.waits_as b saved → new ≡ old → SaveIs saved old.back → CloseOn nx state new.back
      wait_ true n s o h = rw (n, s, o) h
      wait_ false n s o h = rw (n, s, o) h

      ended : (result : Result (Unit {0}) Fault) → closes.Follows (ends_as result) lane slot room begun saved old nx state new → SaveOn (sync_next (ends_as result)) saved old.back → CloseOn nx state new.back
      ended (Ok done) f l = frees-on lane slot room saved.file None old nx state new f
      ended (Err fault) f l = frees-on lane slot room saved.file (Some fault) old nx state new f

  module _ (turn : Turn) (old : Shelf) (sound : EachSound old.back) (early : (file : List ℕ) → Soon turn.xid file old.back) where
    close-on : (lane slot : ℕ) (begun : Bool) (s : Saving) (order : List LaneFile) (nx : Step) (state : Closing) (new : Shelf) → closes.GoesOn wsize lane slot turn begun s (record old { order = order }) nx state new
        → SaveIs s old.back → CloseOn nx state new.back
    close-on lane slot begun s order nx state new g h =
        close-as g.gives lane slot turn.room begun g.saved g.gone nx state new g.follows (goes-on turn old.back g.gives s g.saved g.gone.back sound g.goes (λ same. early s.file) h)

    close-queues : (b : Bool) (lane slot : ℕ) (s : Saving) (order : List LaneFile) (nx : Step) (state : Closing) (new : Shelf) → closes.QueuesIf b wsize lane slot turn s (record old { order = order }) nx state new
        → SaveIs s old.back → CloseOn nx state new.back
    close-queues false lane slot s order nx state new k h = close-waits nx state (closing.Queued s) new.back old.back k.next_is k.state_is (ap (λ (z : Shelf). z.back) k.shelf_is) h
    close-queues true lane slot s order nx state new k h = by (last_end (of_file s.file old.back).segments) k
      where
        by : (end : Option ℕ) → closes.Begins end wsize lane slot turn s (record old { order = order }) nx state new → CloseOn nx state new.back
        by None k = frees-on lane slot turn.room s.file None (record old { order = order }) nx state new k
        by (Some end) k = close-on lane slot false s order nx state new k h

    close-starts : (m : CloseFile) (nx : Step) (state : Closing) (new : Shelf) → ((file : List ℕ) → file_at m.lane m.slot old.opens ≡ Some file → SaveIs (saves.begun file old.seq) old.back) → closes.Starts wsize m turn old nx state new → CloseOn nx state new.back
    close-starts m nx state new begins s = by (file_at m.lane m.slot old.opens) refl s
      where
        by : (found : Option (List ℕ)) → file_at m.lane m.slot old.opens ≡ found → closes.StartsAt found wsize m turn old nx state new → CloseOn nx state new.back
        by None at s = subst (λ (n : Step). CloseOn n state new.back) (sym s.next_is) tt
        by (Some file) at s = close-queues (is_first m.lane (joined m.lane file old).order) m.lane m.slot (saves.begun file old.seq) (joined m.lane file old).order nx state new s (begins file at)

    close-resumes : (at : Closing) (m : CloseFile) (nx : Step) (state : Closing) (new : Shelf) → closes.Resumes at wsize m turn old nx state new → AtClose at old.back → CloseOn nx state new.back
    close-resumes closing.Idle m nx state new r h = close-waits nx state closing.Idle new.back old.back r.next_is r.state_is (ap (λ (z : Shelf). z.back) r.shelf_is) h
    close-resumes (closing.Queued s) m nx state new r h = close-queues (is_first m.lane old.order) m.lane m.slot s old.order nx state new r h
    close-resumes (closing.Saves s) m nx state new r h = by (is_first m.lane old.order) r
      where
        by : (b : Bool) → closes.GoesOnIf b wsize m.lane m.slot turn s old nx state new → CloseOn nx state new.back
        by true r = close-on m.lane m.slot true s old.order nx state new r h
        by false r = close-waits nx state (closing.Saves s) new.back old.back r.next_is r.state_is (ap (λ (z : Shelf). z.back) r.shelf_is) h
    close-resumes (closing.ToRemove r) m nx state new a h = asks-on turn.room r old nx state new a
    close-resumes (closing.Removing r) m nx state new a h = close-waits nx state (closing.Removing r) new.back old.back a.next_is a.state_is (ap (λ (z : Shelf). z.back) a.shelf_is) h

  -- ---- what came

  abbrev pub SyncHeard : Turn → Turn → Result Reply Fault → Syncing → Pending → Type 0
  SyncHeard sent turn came syncing.Idle b = Unit {0}
  SyncHeard sent turn came (syncing.Saves s) b = HeardSave sent turn came s b

  abbrev pub CloseHeard : Turn → Turn → Result Reply Fault → Closing → Pending → Type 0
  CloseHeard sent turn came closing.Idle b = Unit {0}
  CloseHeard sent turn came (closing.Queued s) b = Unit {0}
  CloseHeard sent turn came (closing.Saves s) b = HeardSave sent turn came s b
  CloseHeard sent turn came (closing.ToRemove r) b = Unit {0}
  CloseHeard sent turn came (closing.Removing r) b = Unit {0}

  module _ (sent turn : Turn) (came : Result Reply Fault) (old : Shelf) (sound : EachSound old.back) where
    sync-takes : (at : Syncing) (m : SyncFile) (nx : Step) (state : Syncing) (new : Shelf) → syncs.Takes at wsize m sent turn came old nx state new → SyncHeard sent turn came at old.back → AtSync at old.back
        → SyncOn nx state new.back
    sync-takes syncing.Idle m nx state new t heard h = sync-waits nx state syncing.Idle new.back old.back t.next_is t.state_is (ap (λ (z : Shelf). z.back) t.shelf_is) h
    sync-takes (syncing.Saves s) m nx state new t heard h =
        sync-as t.gives m.lane t.saved old.order nx state new.order new.back t.follows (takes-on sent turn came s old.back sound heard old.repeats new.repeats t.saved new.back t.gives t.takes h)

    ends-if : (b : Bool) (lane : ℕ) (r : Removal) (took : Shelf) (nx : Step) (state : Closing) (new : Shelf) → closes.EndsIf b lane r took nx state new → CloseOn nx state new.back
    ends-if true lane r took nx state new e = rw (e.next_is, e.state_is) tt
    ends-if false lane r took nx state new e = ends-on lane r.file r.refusal took nx state new e

    close-takes : (at : Closing) (m : CloseFile) (nx : Step) (state : Closing) (new : Shelf) → closes.Takes at wsize m sent turn came old nx state new → CloseHeard sent turn came at old.back → AtClose at old.back
        → CloseOn nx state new.back
    close-takes closing.Idle m nx state new t heard h = close-waits nx state closing.Idle new.back old.back t.next_is t.state_is (ap (λ (z : Shelf). z.back) t.shelf_is) h
    close-takes (closing.Queued s) m nx state new t heard h = close-waits nx state (closing.Queued s) new.back old.back t.next_is t.state_is (ap (λ (z : Shelf). z.back) t.shelf_is) h
    close-takes (closing.Saves s) m nx state new t heard h =
        close-as t.gives m.lane m.slot turn.room true t.saved t.took nx state new t.follows
        (takes-on sent turn came s old.back sound heard old.repeats t.took.repeats t.saved t.took.back t.gives t.takes h)
    close-takes (closing.ToRemove r) m nx state new t heard h = close-waits nx state (closing.ToRemove r) new.back old.back t.next_is t.state_is (ap (λ (z : Shelf). z.back) t.shelf_is) h
    close-takes (closing.Removing r) m nx state new t heard h = ends-if (goes_again (remove_busy came) sent turn old.repeats) m.lane r t.took nx state new t.ends

  -- ---- its machine

  abbrev pub FileRuns : FileMachine → Pending → Type 0
  FileRuns (files.Sync m) b = AtSync m.state b
  FileRuns (files.Close m) b = AtClose m.state b
  FileRuns (files.Open m) b = ⊥
  FileRuns (files.Read m) b = ⊥
  FileRuns (files.Write m) b = ⊥
  FileRuns (files.Truncate m) b = ⊥
  FileRuns (files.Put m) b = ⊥

  abbrev pub Runs : Machine → Pending → Type 0
  Runs (machines.File m) b = FileRuns m b
  Runs (machines.Path m) b = ⊥
  Runs (machines.Name m) b = ⊥

  abbrev pub RunsOn : Step → Machine → Pending → Type 0
  RunsOn (nexts.Send call) m b = Runs m b
  RunsOn nexts.Wait m b = Runs m b
  RunsOn (nexts.Done answer) m b = Unit {0}

  sync-of : (n : Step) (m : SyncFile) (state : Syncing) (k : FileMachine) (new : Machine) (b : Pending) → new ≡ machines.File k → k ≡ files.Sync (record m { state = state }) → SyncOn n state b → RunsOn n new b
  sync-of (nexts.Send call) m state k new b is at h = subst (λ (z : Machine). Runs z b) (sym is) (subst (λ (z : FileMachine). FileRuns z b) (sym at) h)
  sync-of nexts.Wait m state k new b is at h = subst (λ (z : Machine). Runs z b) (sym is) (subst (λ (z : FileMachine). FileRuns z b) (sym at) h)
  sync-of (nexts.Done answer) m state k new b is at h = tt

  close-of : (n : Step) (m : CloseFile) (state : Closing) (k : FileMachine) (new : Machine) (b : Pending) → new ≡ machines.File k → k ≡ files.Close (record m { state = state }) → CloseOn n state b → RunsOn n new b
  close-of (nexts.Send call) m state k new b is at h = subst (λ (z : Machine). Runs z b) (sym is) (subst (λ (z : FileMachine). FileRuns z b) (sym at) h)
  close-of nexts.Wait m state k new b is at h = subst (λ (z : Machine). Runs z b) (sym is) (subst (λ (z : FileMachine). FileRuns z b) (sym at) h)
  close-of (nexts.Done answer) m state k new b is at h = tt

  module _ (turn : Turn) (old : Shelf) (sound : EachSound old.back) (early : (file : List ℕ) → Soon turn.xid file old.back) (nx : Step) (after : Shelf) where
    pub sync-begins : (m : SyncFile) (new : Machine) → ((file : List ℕ) → file_at m.lane m.slot old.opens ≡ Some file → SaveIs (saves.begun file old.seq) old.back) → Starts wsize (machines.File (files.Sync m)) turn old nx new after → RunsOn nx new after.back
    sync-begins m new begins s =
        sync-of nx m s.step.state s.machine new after.back s.machine_is s.step.machine_is (sync-starts turn old sound early m nx s.step.state after begins s.step.step)

    pub close-begins : (m : CloseFile) (new : Machine) → ((file : List ℕ) → file_at m.lane m.slot old.opens ≡ Some file → SaveIs (saves.begun file old.seq) old.back) → Starts wsize (machines.File (files.Close m)) turn old nx new after → RunsOn nx new after.back
    close-begins m new begins s =
        close-of nx m s.step.state s.machine new after.back s.machine_is s.step.machine_is (close-starts turn old sound early m nx s.step.state after begins s.step.step)

    pub runs-resumes : (m new : Machine) → Runs m old.back → Resumes wsize m turn old nx new after → RunsOn nx new after.back
    runs-resumes (machines.File (files.Sync m)) new h s =
        sync-of nx m s.step.state s.machine new after.back s.machine_is s.step.machine_is (sync-resumes turn old sound early m.state m nx s.step.state after s.step.step h)
    runs-resumes (machines.File (files.Close m)) new h s =
        close-of nx m s.step.state s.machine new after.back s.machine_is s.step.machine_is (close-resumes turn old sound early m.state m nx s.step.state after s.step.step h)
    runs-resumes (machines.File (files.Open m)) new h s = absurd h
    runs-resumes (machines.File (files.Read m)) new h s = absurd h
    runs-resumes (machines.File (files.Write m)) new h s = absurd h
    runs-resumes (machines.File (files.Truncate m)) new h s = absurd h
    runs-resumes (machines.File (files.Put m)) new h s = absurd h
    runs-resumes (machines.Path m) new h s = absurd h
    runs-resumes (machines.Name m) new h s = absurd h

  abbrev pub Hears : Turn → Turn → Result Reply Fault → Machine → Pending → Type 0
  Hears sent turn came (machines.File (files.Sync m)) b = SyncHeard sent turn came m.state b
  Hears sent turn came (machines.File (files.Close m)) b = CloseHeard sent turn came m.state b
  Hears sent turn came (machines.File (files.Open m)) b = Unit {0}
  Hears sent turn came (machines.File (files.Read m)) b = Unit {0}
  Hears sent turn came (machines.File (files.Write m)) b = Unit {0}
  Hears sent turn came (machines.File (files.Truncate m)) b = Unit {0}
  Hears sent turn came (machines.File (files.Put m)) b = Unit {0}
  Hears sent turn came (machines.Path m) b = Unit {0}
  Hears sent turn came (machines.Name m) b = Unit {0}

  pub hears-all : (sent turn : Turn) (came : Result Reply Fault) (m : Machine) (b : Pending) → ((s : Saving) → flies_of m ≡ flies_if (saves.is_sending s.phase) s.file → HeardSave sent turn came s b) → Hears sent turn came m b
  hears-all sent turn came (machines.File (files.Sync m)) b all = by m.state refl
    where
      by : (state : Syncing) → m.state ≡ state → SyncHeard sent turn came state b
      by syncing.Idle is = tt
      by (syncing.Saves s) is = all s (ap flies_sync is)
  hears-all sent turn came (machines.File (files.Close m)) b all = by m.state refl
    where
      by : (state : Closing) → m.state ≡ state → CloseHeard sent turn came state b
      by closing.Idle is = tt
      by (closing.Queued s) is = tt
      by (closing.Saves s) is = all s (ap flies_close is)
      by (closing.ToRemove r) is = tt
      by (closing.Removing r) is = tt
  hears-all sent turn came (machines.File (files.Open m)) b all = tt
  hears-all sent turn came (machines.File (files.Read m)) b all = tt
  hears-all sent turn came (machines.File (files.Write m)) b all = tt
  hears-all sent turn came (machines.File (files.Truncate m)) b all = tt
  hears-all sent turn came (machines.File (files.Put m)) b all = tt
  hears-all sent turn came (machines.Path m) b all = tt
  hears-all sent turn came (machines.Name m) b all = tt

  -- what flies is of its save
  pub flies-save : (m : Machine) (g : List ℕ) (b : Pending) → Runs m b → flies_of m ≡ Some g → (s : Saving) × (flies_of m ≡ flies_if (saves.is_sending s.phase) s.file) × SaveIs s b
  flies-save (machines.File (files.Sync m)) g b r is = by m.state refl r
    where
      by : (state : Syncing) → m.state ≡ state → AtSync state b → (s : Saving) × (flies_of (machines.File (files.Sync m)) ≡ flies_if (saves.is_sending s.phase) s.file) × SaveIs s b
      by syncing.Idle at h = absurd (let no_way : None ≡ Some g = sym (ap flies_sync at) ∙ is in cc)
      by (syncing.Saves s) at h = (s, ap flies_sync at, h)
  flies-save (machines.File (files.Close m)) g b r is = by m.state refl r
    where
      by : (state : Closing) → m.state ≡ state → AtClose state b → (s : Saving) × (flies_of (machines.File (files.Close m)) ≡ flies_if (saves.is_sending s.phase) s.file) × SaveIs s b
      by closing.Idle at h = absurd (let no_way : None ≡ Some g = sym (ap flies_close at) ∙ is in cc)
      by (closing.Queued s) at h = absurd (let no_way : None ≡ Some g = sym (ap flies_close at) ∙ is in cc)
      by (closing.Saves s) at h = (s, ap flies_close at, h)
      by (closing.ToRemove r) at h = absurd (let no_way : None ≡ Some g = sym (ap flies_close at) ∙ is in cc)
      by (closing.Removing r) at h = absurd (let no_way : None ≡ Some g = sym (ap flies_close at) ∙ is in cc)
  flies-save (machines.File (files.Open m)) g b r is = absurd r
  flies-save (machines.File (files.Read m)) g b r is = absurd r
  flies-save (machines.File (files.Write m)) g b r is = absurd r
  flies-save (machines.File (files.Truncate m)) g b r is = absurd r
  flies-save (machines.File (files.Put m)) g b r is = absurd r
  flies-save (machines.Path m) g b r is = absurd r
  flies-save (machines.Name m) g b r is = absurd r

  pub runs-takes : (sent turn : Turn) (came : Result Reply Fault) (old : Shelf) → EachSound old.back → (nx : Step) (after : Shelf) (m new : Machine) → Runs m old.back → Hears sent turn came m old.back
      → Takes wsize m sent turn came old nx new after → RunsOn nx new after.back
  runs-takes sent turn came old sound nx after (machines.File (files.Sync m)) new h heard s =
      sync-of nx m s.step.state s.machine new after.back s.machine_is s.step.machine_is (sync-takes sent turn came old sound m.state m nx s.step.state after s.step.step heard h)
  runs-takes sent turn came old sound nx after (machines.File (files.Close m)) new h heard s =
      close-of nx m s.step.state s.machine new after.back s.machine_is s.step.machine_is (close-takes sent turn came old sound m.state m nx s.step.state after s.step.step heard h)
  runs-takes sent turn came old sound nx after (machines.File (files.Open m)) new h heard s = absurd h
  runs-takes sent turn came old sound nx after (machines.File (files.Read m)) new h heard s = absurd h
  runs-takes sent turn came old sound nx after (machines.File (files.Write m)) new h heard s = absurd h
  runs-takes sent turn came old sound nx after (machines.File (files.Truncate m)) new h heard s = absurd h
  runs-takes sent turn came old sound nx after (machines.File (files.Put m)) new h heard s = absurd h
  runs-takes sent turn came old sound nx after (machines.Path m) new h heard s = absurd h
  runs-takes sent turn came old sound nx after (machines.Name m) new h heard s = absurd h

-- by another fact, where the second byte was covered
pub runs-map : (before next wsize : ℕ) (is_next : next ≡ before + 1) (some : 1 ≤ wsize) (f : List ℕ) (Cov Cov' : Type 0) → (Cov → Cov') → (m : Machine) (b : Pending) → Runs before next wsize is_next some f Cov m b
    → Runs before next wsize is_next some f Cov' m b
runs-map before next wsize is_next some f Cov Cov' conv m b r = by m r
  where
    save-map : (s : Saving) → SaveIs before next wsize is_next some f Cov s b → SaveIs before next wsize is_next some f Cov' s b
    save-map s h = λ same. elim (h same) [ inl c ↦ inl (conv c) | inr k ↦ inr k ]

    sync-map : (state : Syncing) → AtSync before next wsize is_next some f Cov state b → AtSync before next wsize is_next some f Cov' state b
    sync-map syncing.Idle h = h
    sync-map (syncing.Saves s) h = save-map s h

    close-map : (state : Closing) → AtClose before next wsize is_next some f Cov state b → AtClose before next wsize is_next some f Cov' state b
    close-map closing.Idle h = h
    close-map (closing.Queued s) h = save-map s h
    close-map (closing.Saves s) h = save-map s h
    close-map (closing.ToRemove r) h = h
    close-map (closing.Removing r) h = h

    by : (m : Machine) → Runs before next wsize is_next some f Cov m b → Runs before next wsize is_next some f Cov' m b
    by (machines.File (files.Sync m)) h = sync-map m.state h
    by (machines.File (files.Close m)) h = close-map m.state h
    by (machines.File (files.Open m)) h = absurd h
    by (machines.File (files.Read m)) h = absurd h
    by (machines.File (files.Write m)) h = absurd h
    by (machines.File (files.Truncate m)) h = absurd h
    by (machines.File (files.Put m)) h = absurd h
    by (machines.Path m) h = absurd h
    by (machines.Name m) h = absurd h
