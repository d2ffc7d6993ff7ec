-- The file whose WRITEs an operation waits for, which stays the same while one of them waits.
use Rattle.core_facts.proofs.Prelude.{◌≡◌, ◌≤◌, ◌+◌, ◌-◌, ℕ, Bool, true, false, List, Option, Some, None, Result, Ok, Err, inl, inr, refl, sym, ap, subst, ◌∙◌, arith, Fault, Reply, Pending, is_first, Step, Shelf, Turn, CloseFile, Closing, PutFile, Putting, Phase, Sending, Committing, Resending, CommittingAgain, Saving, SyncFile, Syncing, WriteFile, Writing, IsUnused, by-step, ends_as, WalkStep, FileMachine, Machine, Opener, PathMachine, file_of, Resumes, Takes, of_walk, of_saving, of_opening, of_writing, of_syncing, of_closing, of_putting, in_flight}
use Rattle.file_ops.proofs.SaveCounts.{SaveCounts, save-goes, save-takes}
use Rattle.world_model.specs.declared.answer.Answer.TheVariants as answers
use Rattle.client_shelf.specs.declared.step.Step.TheVariants as nexts
use Rattle.file_ops.specs.declared.close_file.Closing.TheVariants as closing
use Rattle.file_ops.specs.declared.put_file.Putting.TheVariants as putting
use Rattle.file_ops.specs.declared.sync_file.Syncing.TheVariants as syncing
use Rattle.file_ops.specs.declared.write_file.Writing.TheVariants as writing
use Rattle.file_ops.specs.Closes as closes
use Rattle.file_ops.specs.PutFile as puts
use Rattle.file_ops.specs.Saves as saves
use Rattle.file_ops.specs.Syncs as syncs
use Rattle.file_ops.specs.WriteFile as writes
use Rattle.file_ops.proofs.PutWalks.{PutHasIn}
use Rattle.file_ops.proofs.Unmade.{InFile, MineIn, Mine}
use Rattle.file_ops.proofs.Walks.{WriteHas, SyncHas, CloseHas}
use Rattle.name_ops.specs.declared.walk.WalkStep.TheVariants as walks
use Rattle.name_ops.specs.Walking as walking
use Rattle.op_machines.specs.declared.file_machine.FileMachine.TheVariants as files
use Rattle.op_machines.specs.declared.machine.Machine.TheVariants as machines
use Rattle.op_machines.specs.FileSteps as steps
use Rattle.op_machines.specs.PathSteps as paths
use Rattle.op_machines.proofs.Walk.{Has}
use Rattle.core_facts.specs.InFlight.{of_file as calls_of}
use Rattle.core_facts.proofs.AllCounts.{of_path, path-file, path-walk}
use Rattle.core_facts.proofs.AllWalks.{PathHas, HasAll}
use Rattle.core_facts.proofs.FileCounts.{write-resumes, write-takes}
use Rattle.core_facts.proofs.NameCounts.{Plain, one-left, WalkCounts, walk-counts, walk-takes}
use Rattle.core_facts.proofs.NameLives.{WhileGoing, going-any, going-done}
use Rattle.core_facts.proofs.PutCounts.{of_put}
use Rattle.core_facts.proofs.SaveCommits.{SaveSteps, goes-steps, takes-steps}

-- ---- the file

abbrev pub flies_if : Bool → List ℕ → Option (List ℕ)
flies_if true file = Some file
flies_if false file = None

abbrev pub flies_save : Saving → Option (List ℕ)
flies_save s = flies_if (saves.is_sending s.phase) s.file

abbrev pub flies_write : Writing → Option (List ℕ)
flies_write writing.Idle = None
flies_write (writing.Room file saving) = flies_save saving

abbrev pub flies_sync : Syncing → Option (List ℕ)
flies_sync syncing.Idle = None
flies_sync (syncing.Saves saving) = flies_save saving

abbrev pub flies_close : Closing → Option (List ℕ)
flies_close closing.Idle = None
flies_close (closing.Queued saving) = None
flies_close (closing.Saves saving) = flies_save saving
flies_close (closing.ToRemove removal) = None
flies_close (closing.Removing removal) = None

abbrev pub flies_put : Putting → Writing → Option (List ℕ)
flies_put putting.Idle write = None
flies_put putting.Opens write = None
flies_put (putting.Adds file) write = flies_write write
flies_put (putting.Saves saving) write = flies_save saving

abbrev pub flies_file : FileMachine → Option (List ℕ)
flies_file (files.Open m) = None
flies_file (files.Read m) = None
flies_file (files.Write m) = flies_write m.state
flies_file (files.Sync m) = flies_sync m.state
flies_file (files.Close m) = flies_close m.state
flies_file (files.Truncate m) = None
flies_file (files.Put m) = flies_put m.state m.write.state

abbrev pub flies_path : Bool → Opener → Option (List ℕ)
flies_path true opener = flies_file (file_of opener)
flies_path false opener = None

abbrev pub flies_of : Machine → Option (List ℕ)
flies_of (machines.File m) = flies_file m
flies_of (machines.Path m) = flies_path m.arrived m.opener
flies_of (machines.Name m) = None

-- What is in flight under an xid is one piece of that file at most, or nothing.
abbrev pub Flies : ℕ → Option (List ℕ) → Pending → Type 0
Flies xid None back = IsUnused xid back
Flies xid (Some file) back = InFile xid file back

-- ---- as it is said of a save

in-phase : (xid : ℕ) (phase : Phase) (file : List ℕ) (back : Pending) → MineIn phase xid file back → Flies xid (flies_if (saves.is_sending phase) file) back
in-phase xid Sending file back m = m
in-phase xid Committing file back m = m
in-phase xid Resending file back m = m
in-phase xid CommittingAgain file back m = m

phase-in : (xid : ℕ) (phase : Phase) (file : List ℕ) (back : Pending) → Flies xid (flies_if (saves.is_sending phase) file) back → MineIn phase xid file back
phase-in xid Sending file back m = m
phase-in xid Committing file back m = m
phase-in xid Resending file back m = m
phase-in xid CommittingAgain file back m = m

module _ (xid : ℕ) (back : Pending) where
  abbrev pub None_of : Pending → Type 0
  None_of b = IsUnused xid b

  write-flies : (w : Writing) → WriteHas None_of (Mine xid) w back → Flies xid (flies_write w) back
  write-flies writing.Idle h = h
  write-flies (writing.Room file s) h = in-phase xid s.phase s.file back h

  write-has : (w : Writing) → Flies xid (flies_write w) back → WriteHas None_of (Mine xid) w back
  write-has writing.Idle h = h
  write-has (writing.Room file s) h = phase-in xid s.phase s.file back h

  sync-flies : (w : Syncing) → SyncHas None_of (Mine xid) w back → Flies xid (flies_sync w) back
  sync-flies syncing.Idle h = h
  sync-flies (syncing.Saves s) h = in-phase xid s.phase s.file back h

  sync-has : (w : Syncing) → Flies xid (flies_sync w) back → SyncHas None_of (Mine xid) w back
  sync-has syncing.Idle h = h
  sync-has (syncing.Saves s) h = phase-in xid s.phase s.file back h

  close-flies : (w : Closing) → CloseHas None_of (Mine xid) w back → Flies xid (flies_close w) back
  close-flies closing.Idle h = h
  close-flies (closing.Queued s) h = h
  close-flies (closing.Saves s) h = in-phase xid s.phase s.file back h
  close-flies (closing.ToRemove removal) h = h
  close-flies (closing.Removing removal) h = h

  close-has : (w : Closing) → Flies xid (flies_close w) back → CloseHas None_of (Mine xid) w back
  close-has closing.Idle h = h
  close-has (closing.Queued s) h = h
  close-has (closing.Saves s) h = phase-in xid s.phase s.file back h
  close-has (closing.ToRemove removal) h = h
  close-has (closing.Removing removal) h = h

  put-flies : (p : Putting) (w : Writing) → PutHasIn None_of (Mine xid) p w back → Flies xid (flies_put p w) back
  put-flies putting.Idle w h = h
  put-flies putting.Opens w h = h
  put-flies (putting.Adds file) w h = write-flies w h
  put-flies (putting.Saves s) w h = in-phase xid s.phase s.file back h

  put-has : (p : Putting) (w : Writing) → Flies xid (flies_put p w) back → PutHasIn None_of (Mine xid) p w back
  put-has putting.Idle w h = h
  put-has putting.Opens w h = h
  put-has (putting.Adds file) w h = write-has w h
  put-has (putting.Saves s) w h = phase-in xid s.phase s.file back h

  file-flies : (m : FileMachine) → Has None_of (Mine xid) m back → Flies xid (flies_file m) back
  file-flies (files.Open m) h = h
  file-flies (files.Read m) h = h
  file-flies (files.Write m) h = write-flies m.state h
  file-flies (files.Sync m) h = sync-flies m.state h
  file-flies (files.Close m) h = close-flies m.state h
  file-flies (files.Truncate m) h = h
  file-flies (files.Put m) h = put-flies m.state m.write.state h

  file-has : (m : FileMachine) → Flies xid (flies_file m) back → Has None_of (Mine xid) m back
  file-has (files.Open m) h = h
  file-has (files.Read m) h = h
  file-has (files.Write m) h = write-has m.state h
  file-has (files.Sync m) h = sync-has m.state h
  file-has (files.Close m) h = close-has m.state h
  file-has (files.Truncate m) h = h
  file-has (files.Put m) h = put-has m.state m.write.state h

  path-flies : (b : Bool) (o : Opener) → PathHas None_of (Mine xid) b o back → Flies xid (flies_path b o) back
  path-flies true o h = file-flies (file_of o) h
  path-flies false o h = h

  path-has : (b : Bool) (o : Opener) → Flies xid (flies_path b o) back → PathHas None_of (Mine xid) b o back
  path-has true o h = file-has (file_of o) h
  path-has false o h = h

  pub has-flies : (m : Machine) → HasAll None_of (Mine xid) m back → Flies xid (flies_of m) back
  has-flies (machines.File m) h = file-flies m h
  has-flies (machines.Path m) h = path-flies m.arrived m.opener h
  has-flies (machines.Name m) h = h

  pub flies-has : (m : Machine) → Flies xid (flies_of m) back → HasAll None_of (Mine xid) m back
  flies-has (machines.File m) h = file-has m h
  flies-has (machines.Path m) h = path-has m.arrived m.opener h
  flies-has (machines.Name m) h = h

-- ---- it stays, while others wait

abbrev pub Stays : Step → ℕ → Option (List ℕ) → Option (List ℕ) → Type 0
Stays next others old new = WhileGoing next (1 ≤ others → new ≡ old)

none-left : (next : Step) (others : ℕ) (old new : Option (List ℕ)) → others ≡ 0 → Stays next others old new
none-left next others old new none = going-any next (1 ≤ others → new ≡ old) (λ some. absurd (omega (arith, none, some)))

same-left : (next : Step) (others : ℕ) (old new : Option (List ℕ)) → new ≡ old → Stays next others old new
same-left next others old new same = going-any next (1 ≤ others → new ≡ old) (λ some. same)

save-kept : (others : ℕ) (s : Saving) (next : Step) (saved : Saving) → SaveSteps (Unit {0}) others s next saved → 1 ≤ others → flies_save saved ≡ flies_save s
save-kept others s next saved c some = ap (λ (b : Bool). flies_if b saved.file) (c.stays some) ∙ ap (λ (f : List ℕ). flies_if (saves.is_sending s.phase) f) c.file

goes-kept : (wsize xid : ℕ) (room by_reply : Bool) (s : Saving) (back : Pending) (next : _) (new : Saving) (after : Pending)
    → saves.Goes wsize xid room by_reply s back next new after → 1 ≤ of_saving s → flies_save new ≡ flies_save s
goes-kept wsize xid room by_reply s back next new after g =
    save-kept (of_saving s) s (syncs.sync_next next) new (goes-steps (Unit {0}) wsize xid room by_reply s back next new after (λ later. tt) g)

takes-kept : (wsize : ℕ) (sent turn : Turn) (came : Result Reply Fault) (repeats : _) (s : Saving) (back : Pending) (next : _) (new : Saving) (after : Pending) (later : _)
    (others : ℕ) → of_saving s ≡ others + 1 → saves.Takes wsize sent turn came repeats s back next new after later → 1 ≤ others → flies_save new ≡ flies_save s
takes-kept wsize sent turn came repeats s back next new after later others one t =
    save-kept others s (syncs.sync_next next) new
    (takes-steps (Unit {0}) wsize sent turn came repeats s back next new after later others one (λ again. tt) (λ idle verf told. tt) t)

-- ---- syncs

sync-as : (gives : _) (saved s : Saving) (others : ℕ) (next : Step) (state : Syncing) → next ≡ syncs.sync_next gives → state ≡ syncs.sync_state gives saved
    → (1 ≤ others → flies_save saved ≡ flies_save s) → Stays next others (flies_save s) (flies_sync state)
sync-as gives saved s others next state n t k = by-step
    (λ g. next ≡ syncs.sync_next g → state ≡ syncs.sync_state g saved → Stays next others (flies_save s) (flies_sync state))
    (λ call n t. going-any next (1 ≤ others → flies_sync state ≡ flies_save s) (λ some. ap flies_sync t ∙ k some))
    (λ n t. going-any next (1 ≤ others → flies_sync state ≡ flies_save s) (λ some. ap flies_sync t ∙ k some))
    (λ result n t. going-done (syncs.answer_of result) next (1 ≤ others → flies_sync state ≡ flies_save s) n) gives n t

sync-queues : (b : Bool) (wsize lane : ℕ) (turn : Turn) (s : Saving) (old : Shelf) (next : Step) (state : Syncing) (new : Shelf)
    → syncs.QueuesIf b wsize lane turn s old next state new → Stays next (of_saving s) (flies_save s) (flies_sync state)
sync-queues true wsize lane turn s old next state new q =
    sync-as q.gives q.saved s (of_saving s) next state q.follows.next_is q.follows.state_is (goes-kept wsize turn.xid turn.room false s old.back q.gives q.saved new.back q.goes)
sync-queues false wsize lane turn s old next state new q = same-left next (of_saving s) (flies_save s) (flies_sync state) (ap flies_sync q.state_is)

sync-resumes : (at : Syncing) (wsize : ℕ) (m : SyncFile) (turn : Turn) (old : Shelf) (next : Step) (state : Syncing) (new : Shelf)
    → syncs.Resumes at wsize m turn old next state new → Stays next (of_syncing at) (flies_sync at) (flies_sync state)
sync-resumes syncing.Idle wsize m turn old next state new r = same-left next 0 None (flies_sync state) (ap flies_sync r.state_is)
sync-resumes (syncing.Saves s) wsize m turn old next state new r = sync-queues (is_first m.lane old.order) wsize m.lane turn s old next state new r

sync-takes : (at : Syncing) (wsize : ℕ) (m : SyncFile) (sent turn : Turn) (came : Result Reply Fault) (old : Shelf) (next : Step) (state : Syncing) (new : Shelf) (others : ℕ)
    → of_syncing at ≡ others + 1 → syncs.Takes at wsize m sent turn came old next state new → Stays next others (flies_sync at) (flies_sync state)
sync-takes syncing.Idle wsize m sent turn came old next state new others one t = absurd (omega (arith, one))
sync-takes (syncing.Saves s) wsize m sent turn came old next state new others one t =
    sync-as t.gives t.saved s others next state t.follows.next_is t.follows.state_is
    (takes-kept wsize sent turn came old.repeats s old.back t.gives t.saved new.back new.repeats others one t.takes)

-- ---- closes

close-follows : (gives : _) (lane slot : ℕ) (room : Bool) (saved s : Saving) (old : Shelf) (next : Step) (state : Closing) (new : Shelf) (others : ℕ)
    → SaveCounts gives others (of_saving saved) → (1 ≤ others → flies_save saved ≡ flies_save s) → closes.Follows gives lane slot room true saved old next state new
    → Stays next others (flies_save s) (flies_close state)
close-follows gives lane slot room saved s old next state new others c k f = by-step
    (λ g. SaveCounts g others (of_saving saved) → closes.Follows g lane slot room true saved old next state new → Stays next others (flies_save s) (flies_close state))
    (λ call c f. going-any next (1 ≤ others → flies_close state ≡ flies_save s) (λ some. ap flies_close f.1 ∙ k some))
    (λ c f. going-any next (1 ≤ others → flies_close state ≡ flies_save s) (λ some. ap flies_close f.1 ∙ k some))
    (λ result c f. none-left next others (flies_save s) (flies_close state) c.0) gives c f

close-on-if : (b : Bool) (wsize lane slot : ℕ) (turn : Turn) (s : Saving) (old : Shelf) (next : Step) (state : Closing) (new : Shelf)
    → closes.GoesOnIf b wsize lane slot turn s old next state new → Stays next (of_saving s) (flies_save s) (flies_close state)
close-on-if true wsize lane slot turn s old next state new g =
    close-follows g.gives lane slot turn.room g.saved s g.gone next state new (of_saving s)
    (save-goes wsize turn.xid turn.room false s old.back g.gives g.saved g.gone.back g.goes)
    (goes-kept wsize turn.xid turn.room false s old.back g.gives g.saved g.gone.back g.goes) g.follows
close-on-if false wsize lane slot turn s old next state new g = same-left next (of_saving s) (flies_save s) (flies_close state) (ap flies_close g.state_is)

close-resumes : (at : Closing) (wsize : ℕ) (m : CloseFile) (turn : Turn) (old : Shelf) (next : Step) (state : Closing) (new : Shelf)
    → closes.Resumes at wsize m turn old next state new → Stays next (of_closing at) (flies_close at) (flies_close state)
close-resumes closing.Idle wsize m turn old next state new r = none-left next 0 None (flies_close state) refl
close-resumes (closing.Queued s) wsize m turn old next state new r = none-left next 0 None (flies_close state) refl
close-resumes (closing.Saves s) wsize m turn old next state new r = close-on-if (is_first m.lane old.order) wsize m.lane m.slot turn s old next state new r
close-resumes (closing.ToRemove removal) wsize m turn old next state new r = none-left next 0 None (flies_close state) refl
close-resumes (closing.Removing removal) wsize m turn old next state new r = same-left next 1 None (flies_close state) (ap flies_close r.state_is)

close-takes : (at : Closing) (wsize : ℕ) (m : CloseFile) (sent turn : Turn) (came : Result Reply Fault) (old : Shelf) (next : Step) (state : Closing) (new : Shelf) (others : ℕ)
    → of_closing at ≡ others + 1 → closes.Takes at wsize m sent turn came old next state new → Stays next others (flies_close at) (flies_close state)
close-takes closing.Idle wsize m sent turn came old next state new others one t = absurd (omega (arith, one))
close-takes (closing.Queued s) wsize m sent turn came old next state new others one t = absurd (omega (arith, one))
close-takes (closing.Saves s) wsize m sent turn came old next state new others one t =
    close-follows t.gives m.lane m.slot turn.room t.saved s t.took next state new others
    (save-takes wsize sent turn came old.repeats s old.back t.gives t.saved t.took.back t.took.repeats others one t.takes)
    (takes-kept wsize sent turn came old.repeats s old.back t.gives t.saved t.took.back t.took.repeats others one t.takes) t.follows
close-takes (closing.ToRemove removal) wsize m sent turn came old next state new others one t = absurd (omega (arith, one))
close-takes (closing.Removing removal) wsize m sent turn came old next state new others one t = none-left next others None (flies_close state) (omega (arith, one))

-- ---- writes

write-leads : (gives : _) (file : List ℕ) (saved s : Saving) (lane : ℕ) (shelf : Shelf) (next : Step) (new : Writing) (after : Shelf) (others : ℕ)
    → (1 ≤ others → flies_save saved ≡ flies_save s)
    → writes.Leads (writes.room_next gives) (writes.room_state gives file saved) (writes.room_shelf gives lane shelf) next new after
    → Stays next others (flies_save s) (flies_write new)
write-leads gives file saved s lane shelf next new after others k l = by-step
    (λ g. writes.Leads (writes.room_next g) (writes.room_state g file saved) (writes.room_shelf g lane shelf) next new after
    → Stays next others (flies_save s) (flies_write new))
    (λ call l. going-any next (1 ≤ others → flies_write new ≡ flies_save s) (λ some. ap flies_write l.keeps ∙ k some))
    (λ l. going-any next (1 ≤ others → flies_write new ≡ flies_save s) (λ some. ap flies_write l.keeps ∙ k some))
    ended gives l
  where
    ended : (result : Result (Unit {0}) Fault)
        → writes.Leads (writes.room_next (ends_as result)) (writes.room_state (ends_as result) file saved) (writes.room_shelf (ends_as result) lane shelf) next new after
        → Stays next others (flies_save s) (flies_write new)
    ended (Ok done) l = going-any next (1 ≤ others → flies_write new ≡ flies_save s) (λ some. ap flies_write l.keeps ∙ k some)
    ended (Err fault) l = going-done (answers.Refused fault) next (1 ≤ others → flies_write new ≡ flies_save s) l.gives_next

write-saves : (b : Bool) (wsize lane : ℕ) (file : List ℕ) (s : Saving) (turn : Turn) (shelf : Shelf) (next : Step) (new : Writing) (after : Shelf)
    → writes.SavesIf b wsize lane file s turn shelf next new after → Stays next (of_saving s) (flies_save s) (flies_write new)
write-saves true wsize lane file s turn shelf next new after g =
    write-leads g.told file g.saved s lane (record shelf { back = g.back }) next new after (of_saving s)
    (goes-kept wsize turn.xid turn.room false s shelf.back g.told g.saved g.back g.goes) g.leads
write-saves false wsize lane file s turn shelf next new after g = same-left next (of_saving s) (flies_save s) (flies_write new) (ap flies_write g.keeps)

write-stays : (at : Writing) (wsize lane : ℕ) (turn : Turn) (shelf : Shelf) (next : Step) (new : Writing) (after : Shelf)
    → writes.ResumesIn at wsize lane turn shelf next new after → Stays next (of_writing at) (flies_write at) (flies_write new)
write-stays writing.Idle wsize lane turn shelf next new after r = same-left next 0 None (flies_write new) (ap flies_write r.keeps)
write-stays (writing.Room file s) wsize lane turn shelf next new after r = write-saves (is_first lane shelf.order) wsize lane file s turn shelf next new after r

write-follows : (gives : _) (wsize : ℕ) (m : WriteFile) (file : List ℕ) (saved s : Saving) (turn : Turn) (shelf : Shelf) (next : Step) (new : Writing) (after : Shelf)
    (others : ℕ) → SaveCounts gives others (of_saving saved) → (1 ≤ others → flies_save saved ≡ flies_save s)
    → writes.Follows gives wsize m file saved turn shelf next new after → Stays next others (flies_save s) (flies_write new)
write-follows gives wsize m file saved s turn shelf next new after others c k f = by-step
    (λ g. SaveCounts g others (of_saving saved) → writes.Follows g wsize m file saved turn shelf next new after → Stays next others (flies_save s) (flies_write new))
    (λ call c l. going-any next (1 ≤ others → flies_write new ≡ flies_save s) (λ some. ap flies_write l.keeps ∙ k some))
    (λ c l. going-any next (1 ≤ others → flies_write new ≡ flies_save s) (λ some. ap flies_write l.keeps ∙ k some))
    (λ result c l. none-left next others (flies_save s) (flies_write new) c.0) gives c f

write-taken : (at : Writing) (wsize : ℕ) (m : WriteFile) (sent turn : Turn) (came : Result Reply Fault) (shelf : Shelf) (next : Step) (new : Writing) (after : Shelf) (others : ℕ)
    → of_writing at ≡ others + 1 → writes.TakesIn at wsize m sent turn came shelf next new after → Stays next others (flies_write at) (flies_write new)
write-taken writing.Idle wsize m sent turn came shelf next new after others one t = absurd (omega (arith, one))
write-taken (writing.Room file s) wsize m sent turn came shelf next new after others one t =
    write-follows t.told wsize m file t.saved s turn _ next new after others
    (save-takes wsize sent turn came shelf.repeats s shelf.back t.told t.saved t.back t.repeats others one t.takes)
    (takes-kept wsize sent turn came shelf.repeats s shelf.back t.told t.saved t.back t.repeats others one t.takes) t.follows

-- ---- puts

put-follows : (gives : _) (lane : ℕ) (saved s : Saving) (write : Writing) (old : Shelf) (next : Step) (state : Putting) (new : Shelf) (others : ℕ)
    → (1 ≤ others → flies_save saved ≡ flies_save s) → puts.Follows gives lane saved old next state new → Stays next others (flies_save s) (flies_put state write)
put-follows gives lane saved s write old next state new others k f = by-step
    (λ g. puts.Follows g lane saved old next state new → Stays next others (flies_save s) (flies_put state write))
    (λ call f. going-any next (1 ≤ others → flies_put state write ≡ flies_save s) (λ some. ap (λ (p : Putting). flies_put p write) f.1 ∙ k some))
    (λ f. going-any next (1 ≤ others → flies_put state write ≡ flies_save s) (λ some. ap (λ (p : Putting). flies_put p write) f.1 ∙ k some))
    (λ result f. going-done _ next (1 ≤ others → flies_put state write ≡ flies_save s) f.next_is) gives f

put-queues : (b : Bool) (wsize lane : ℕ) (turn : Turn) (s : Saving) (write : Writing) (old : Shelf) (next : Step) (state : Putting) (new : Shelf)
    → puts.QueuesIf b wsize lane turn s old next state new → Stays next (of_saving s) (flies_save s) (flies_put state write)
put-queues true wsize lane turn s write old next state new q =
    put-follows q.gives lane q.saved s write q.gone next state new (of_saving s) (goes-kept wsize turn.xid turn.room false s old.back q.gives q.saved q.gone.back q.goes) q.follows
put-queues false wsize lane turn s write old next state new q =
    same-left next (of_saving s) (flies_save s) (flies_put state write) (ap (λ (p : Putting). flies_put p write) q.state_is)

after-write : (told : Step) (wsize lane : ℕ) (file : List ℕ) (turn : Turn) (write : Writing) (was : Option (List ℕ)) (old : Shelf) (next : Step) (state : Putting) (new : Shelf)
    (others : ℕ) → Plain told others (of_writing write) → Stays told others was (flies_write write) → puts.AfterWrite told wsize lane file turn old next state new
    → Stays next others was (flies_put state write)
after-write (nexts.Send call) wsize lane file turn write was old next state new others c k a =
    going-any next (1 ≤ others → flies_put state write ≡ was) (λ some. ap (λ (p : Putting). flies_put p write) a.1 ∙ k some)
after-write nexts.Wait wsize lane file turn write was old next state new others c k a =
    going-any next (1 ≤ others → flies_put state write ≡ was) (λ some. ap (λ (p : Putting). flies_put p write) a.1 ∙ k some)
after-write (nexts.Done (answers.Done value)) wsize lane file turn write was old next state new others c k a = none-left next others was (flies_put state write) c
after-write (nexts.Done (answers.Refused fault)) wsize lane file turn write was old next state new others c k a = none-left next others was (flies_put state write) c

writes-on : (wsize : ℕ) (m : PutFile) (file : List ℕ) (turn : Turn) (told : Step) (written : Writing) (was : Option (List ℕ)) (mid : Shelf) (next : Step) (new : PutFile) (after : Shelf)
    (others : ℕ) → Plain told others (of_writing written) → Stays told others was (flies_write written) → puts.WritesOn wsize m file turn told written mid next new after
    → Stays next others was (flies_put new.state new.write.state)
writes-on wsize m file turn told written was mid next new after others c k w =
    subst (λ (x : Writing). Stays next others was (flies_put new.state x)) (sym (ap (λ (p : PutFile). p.write.state) w.machine_is))
    (after-write told wsize m.write.lane file turn written was mid next new.state after others c k w.follows)

put-resumes : (at : Putting) (wsize : ℕ) (m : PutFile) (turn : Turn) (old : Shelf) (next : Step) (new : PutFile) (after : Shelf) → m.state ≡ at
    → puts.Resumes at wsize m turn old next new after → Stays next (of_putting at m.opening m.write.state) (flies_put at m.write.state) (flies_put new.state new.write.state)
put-resumes putting.Idle wsize m turn old next new after is r = none-left next 0 None (flies_put new.state new.write.state) refl
put-resumes putting.Opens wsize m turn old next new after is r =
    same-left next (of_opening m.opening) None (flies_put new.state new.write.state)
    (ap (λ (p : PutFile). flies_put p.state p.write.state) r.1 ∙ ap (λ (p : Putting). flies_put p m.write.state) is)
put-resumes (putting.Adds file) wsize m turn old next new after is r =
    writes-on wsize m file turn r.told r.written (flies_write m.write.state) r.mid next new after (of_writing m.write.state)
    (write-resumes m.write.state wsize m.write.lane turn old r.told r.written r.mid r.resumes)
    (write-stays m.write.state wsize m.write.lane turn old r.told r.written r.mid r.resumes) r.goes
put-resumes (putting.Saves s) wsize m turn old next new after is r =
    put-queues (is_first m.write.lane old.order) wsize m.write.lane turn s new.write.state old next new.state after r.0

put-takes : (at : Putting) (wsize : ℕ) (m : PutFile) (sent turn : Turn) (came : Result Reply Fault) (old : Shelf) (next : Step) (new : PutFile) (after : Shelf) (others : ℕ)
    → of_putting at m.opening m.write.state ≡ others + 1 → puts.Takes at wsize m sent turn came old next new after
    → Stays next others (flies_put at m.write.state) (flies_put new.state new.write.state)
put-takes putting.Idle wsize m sent turn came old next new after others one t = absurd (omega (arith, one))
put-takes putting.Opens wsize m sent turn came old next new after others one t =
    none-left next others None (flies_put new.state new.write.state) (one-left m.opening.asked others one)
put-takes (putting.Adds file) wsize m sent turn came old next new after others one t =
    writes-on wsize m file turn t.told t.written (flies_write m.write.state) t.mid next new after others
    (write-takes m.write.state wsize m.write sent turn came old t.told t.written t.mid others one t.takes)
    (write-taken m.write.state wsize m.write sent turn came old t.told t.written t.mid others one t.takes) t.goes
put-takes (putting.Saves s) wsize m sent turn came old next new after others one t =
    put-follows t.0.gives m.write.lane t.0.saved s new.write.state t.0.took next new.state after others
    (takes-kept wsize sent turn came old.repeats s old.back t.0.gives t.0.saved t.0.took.back t.0.took.repeats others one t.0.takes) t.0.follows

-- ---- any operation

file-as : (next : Step) (others : ℕ) (old : Option (List ℕ)) (to new : FileMachine) → new ≡ to → Stays next others old (flies_file to) → Stays next others old (flies_file new)
file-as next others old to new is s = subst (λ (m : FileMachine). Stays next others old (flies_file m)) (sym is) s

file-resumes : (m : FileMachine) (wsize : ℕ) (turn : Turn) (old : Shelf) (next : Step) (new : FileMachine) (after : Shelf) → steps.Resumes wsize m turn old next new after
    → Stays next (calls_of m) (flies_file m) (flies_file new)
file-resumes (files.Open m) wsize turn old next new after s = file-as next (calls_of (files.Open m)) None (files.Open _) new s.machine_is (same-left next (calls_of (files.Open m)) None None refl)
file-resumes (files.Read m) wsize turn old next new after s = file-as next (calls_of (files.Read m)) None (files.Read s.machine) new s.machine_is (same-left next (calls_of (files.Read m)) None None refl)
file-resumes (files.Write m) wsize turn old next new after s =
    file-as next (of_writing m.state) (flies_write m.state) (files.Write (record m { state = s.state })) new s.machine_is
    (write-stays m.state wsize m.lane turn old next s.state after s.step)
file-resumes (files.Sync m) wsize turn old next new after s =
    file-as next (of_syncing m.state) (flies_sync m.state) (files.Sync (record m { state = s.state })) new s.machine_is (sync-resumes m.state wsize m turn old next s.state after s.step)
file-resumes (files.Close m) wsize turn old next new after s =
    file-as next (of_closing m.state) (flies_close m.state) (files.Close (record m { state = s.state })) new s.machine_is (close-resumes m.state wsize m turn old next s.state after s.step)
file-resumes (files.Truncate m) wsize turn old next new after s =
    file-as next (calls_of (files.Truncate m)) None (files.Truncate _) new s.machine_is (same-left next (calls_of (files.Truncate m)) None None refl)
file-resumes (files.Put m) wsize turn old next new after s =
    file-as next (of_put m) (flies_put m.state m.write.state) (files.Put s.machine) new s.machine_is (put-resumes m.state wsize m turn old next s.machine after refl s.step)

file-takes : (m : FileMachine) (wsize : ℕ) (sent turn : Turn) (came : Result Reply Fault) (old : Shelf) (next : Step) (new : FileMachine) (after : Shelf) (others : ℕ)
    → calls_of m ≡ others + 1 → steps.Takes wsize m sent turn came old next new after → Stays next others (flies_file m) (flies_file new)
file-takes (files.Open m) wsize sent turn came old next new after others one s = file-as next others None (files.Open _) new s.machine_is (same-left next others None None refl)
file-takes (files.Read m) wsize sent turn came old next new after others one s = file-as next others None (files.Read s.machine) new s.machine_is (same-left next others None None refl)
file-takes (files.Write m) wsize sent turn came old next new after others one s =
    file-as next others (flies_write m.state) (files.Write (record m { state = s.state })) new s.machine_is
    (write-taken m.state wsize m sent turn came old next s.state after others one s.step)
file-takes (files.Sync m) wsize sent turn came old next new after others one s =
    file-as next others (flies_sync m.state) (files.Sync (record m { state = s.state })) new s.machine_is
    (sync-takes m.state wsize m sent turn came old next s.state after others one s.step)
file-takes (files.Close m) wsize sent turn came old next new after others one s =
    file-as next others (flies_close m.state) (files.Close (record m { state = s.state })) new s.machine_is
    (close-takes m.state wsize m sent turn came old next s.state after others one s.step)
file-takes (files.Truncate m) wsize sent turn came old next new after others one s =
    file-as next others None (files.Truncate _) new s.machine_is (same-left next others None None refl)
file-takes (files.Put m) wsize sent turn came old next new after others one s =
    file-as next others (flies_put m.state m.write.state) (files.Put s.machine) new s.machine_is
    (put-takes m.state wsize m sent turn came old next s.machine after others one s.step)

path-as : (next : Step) (others : ℕ) (old : Option (List ℕ)) (m : PathMachine) (opener : Opener) (new : PathMachine) → m.arrived ≡ true → new ≡ record m { opener = opener }
    → Stays next others old (flies_file (file_of opener)) → Stays next others old (flies_path new.arrived new.opener)
path-as next others old m opener new there is s =
    subst (λ (n : PathMachine). Stays next others old (flies_path n.arrived n.opener)) (sym is)
    (subst (λ (b : Bool). Stays next others old (flies_path b opener)) (sym there) s)

way-same : (next : Step) (others : ℕ) (m new : PathMachine) → m.arrived ≡ false → new ≡ m → Stays next others None (flies_path new.arrived new.opener)
way-same next others m new way is =
    same-left next others None (flies_path new.arrived new.opener) (ap (λ (n : PathMachine). flies_path n.arrived n.opener) is ∙ ap (λ (b : Bool). flies_path b m.opener) way)

follows-path : (step : WalkStep) (wsize : ℕ) (m : PathMachine) (turn : Turn) (old : Shelf) (next : Step) (new : PathMachine) (after : Shelf) (before : ℕ) → m.arrived ≡ false
    → WalkCounts step before (of_walk m.walk) → paths.Follows step wsize m turn old next new after → Stays next before None (flies_path new.arrived new.opener)
follows-path (walks.Send call) wsize m turn old next new after before way c f = way-same next before m new way f.1
follows-path walks.Wait wsize m turn old next new after before way c f = way-same next before m new way f.1
follows-path (walks.At dir) wsize m turn old next new after before way c f = none-left next before None (flies_path new.arrived new.opener) c.0
follows-path (walks.Refused fault) wsize m turn old next new after before way c f = way-same next before m new way f.1

path-resumes : (b : Bool) (wsize : ℕ) (m : PathMachine) (turn : Turn) (old : Shelf) (next : Step) (new : PathMachine) (after : Shelf) → m.arrived ≡ b
    → paths.PathResumes b wsize m turn old next new after → Stays next (of_path m) (flies_path b m.opener) (flies_path new.arrived new.opener)
path-resumes true wsize m turn old next new after is r =
    path-as next (of_path m) (flies_file (file_of m.opener)) m r.opener new is r.machine_is
    (subst (λ (n : ℕ). Stays next n (flies_file (file_of m.opener)) (flies_file (file_of r.opener))) (sym (path-file m is))
    (file-resumes (file_of m.opener) wsize turn old next (file_of r.opener) after r.step))
path-resumes false wsize m turn old next new after is r =
    subst (λ (n : ℕ). Stays next n None (flies_path new.arrived new.opener)) (sym (path-walk m is))
    (follows-path (walking.go_next m.walk turn old) wsize (record m { walk = walking.go_after m.walk turn old }) turn (walking.go_shelf m.walk turn old) next new after
    (of_walk m.walk) is (walk-counts m.walk turn old) r)

path-takes : (b : Bool) (wsize : ℕ) (m : PathMachine) (sent turn : Turn) (came : Result Reply Fault) (old : Shelf) (next : Step) (new : PathMachine) (after : Shelf) (others : ℕ)
    → m.arrived ≡ b → of_path m ≡ others + 1 → paths.PathTakes b wsize m sent turn came old next new after → Stays next others (flies_path b m.opener) (flies_path new.arrived new.opener)
path-takes true wsize m sent turn came old next new after others is one t =
    path-as next others (flies_file (file_of m.opener)) m t.opener new is t.machine_is
    (file-takes (file_of m.opener) wsize sent turn came old next (file_of t.opener) after others (sym (path-file m is) ∙ one) t.step)
path-takes false wsize m sent turn came old next new after others is one t =
    let took = walk-takes m.walk sent turn came old t.step t.walked.walk t.heard others (sym (path-walk m is) ∙ one) t.takes in
    none-left next others None (flies_path new.arrived new.opener) took.none

pub resumes-stay : (m : Machine) (wsize : ℕ) (turn : Turn) (old : Shelf) (next : Step) (new : Machine) (after : Shelf) → Resumes wsize m turn old next new after
    → Stays next (in_flight m) (flies_of m) (flies_of new)
resumes-stay (machines.File m) wsize turn old next new after s =
    subst (λ (n : Machine). Stays next (calls_of m) (flies_file m) (flies_of n)) (sym s.machine_is) (file-resumes m wsize turn old next s.machine after s.step)
resumes-stay (machines.Path m) wsize turn old next new after s =
    subst (λ (n : Machine). Stays next (of_path m) (flies_path m.arrived m.opener) (flies_of n)) (sym s.machine_is)
    (path-resumes m.arrived wsize m turn old next s.machine after refl s.step)
resumes-stay (machines.Name m) wsize turn old next new after s =
    subst (λ (n : Machine). Stays next (in_flight (machines.Name m)) None (flies_of n)) (sym s.machine_is) (same-left next (in_flight (machines.Name m)) None None refl)

pub takes-stay : (m : Machine) (wsize : ℕ) (sent turn : Turn) (came : Result Reply Fault) (old : Shelf) (next : Step) (new : Machine) (after : Shelf) (others : ℕ)
    → in_flight m ≡ others + 1 → Takes wsize m sent turn came old next new after → Stays next others (flies_of m) (flies_of new)
takes-stay (machines.File m) wsize sent turn came old next new after others one s =
    subst (λ (n : Machine). Stays next others (flies_file m) (flies_of n)) (sym s.machine_is) (file-takes m wsize sent turn came old next s.machine after others one s.step)
takes-stay (machines.Path m) wsize sent turn came old next new after others one s =
    subst (λ (n : Machine). Stays next others (flies_path m.arrived m.opener) (flies_of n)) (sym s.machine_is)
    (path-takes m.arrived wsize m sent turn came old next s.machine after others refl one s.step)
takes-stay (machines.Name m) wsize sent turn came old next new after others one s =
    subst (λ (n : Machine). Stays next others None (flies_of n)) (sym s.machine_is) (same-left next others None None refl)
