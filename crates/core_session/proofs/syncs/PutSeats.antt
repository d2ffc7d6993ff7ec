-- A put is at its file among those to which lanes put, from its opening to its end; no step of another operation changes that.
use Rattle.core_session.proofs.Prelude.{◌≡◌, ◌-◌, inl, inr, ℕ, List, Bool, true, false, Option, Some, None, Result, Ok, Err, refl, sym, ap, subst, ◌∙◌, if◌then◌else◌, Fault, Reply, last_end, of_file, goes_again, added, left, is_first, LaneFile, Step, Shelf, Turn, Closing, CloseFile, OpeningStep, PutFile, Putting, Saving, SyncFile, Syncing, TruncateFile, Truncating, WriteFile, Writing, is_full, refusal_of, remove_busy, file_to_write, file_at, joined, by-step, ends_as, WalkStep, FileMachine, Machine, Opener, PathMachine, file_of, slot_taken, begun_at, Starts, Resumes, Takes, IsLive, IsFreshFor}
use Rattle.op_machines.specs.Openers.{placed}
use Rattle.core_facts.proofs.AllSeats.{OnPath, OpenerFresh, PathFresh}
use Rattle.world_model.specs.declared.answer.Answer.TheVariants as answers
use Rattle.client_shelf.specs.declared.step.Step.TheVariants as nexts
use Rattle.file_ops.specs.declared.close_file.Closing.TheVariants as closing
use Rattle.file_ops.specs.declared.opening.OpeningStep.TheVariants as openings
use Rattle.file_ops.specs.declared.put_file.Putting.TheVariants as putting
use Rattle.file_ops.specs.declared.sync_file.Syncing.TheVariants as syncing
use Rattle.file_ops.specs.declared.truncate_file.Truncating.TheVariants as truncating
use Rattle.file_ops.specs.declared.write_file.Writing.TheVariants as writing
use Rattle.file_ops.specs.Closes as closes
use Rattle.file_ops.specs.OpenFile as opens
use Rattle.file_ops.specs.Opening as opening
use Rattle.file_ops.specs.PutFile as puts
use Rattle.file_ops.specs.Saves as saves
use Rattle.file_ops.specs.Syncs as syncs
use Rattle.file_ops.specs.TruncateFile as truncates
use Rattle.file_ops.specs.WriteFile as writes
use Rattle.name_ops.specs.declared.walk.WalkStep.TheVariants as walks
use Rattle.name_ops.specs.Walking as walking
use Rattle.op_machines.specs.declared.file_machine.FileMachine.TheVariants as files
use Rattle.op_machines.specs.declared.machine.Machine.TheVariants as machines
use Rattle.op_machines.specs.declared.opener.Opener.TheVariants as openers
use Rattle.op_machines.specs.FileSteps as steps
use Rattle.op_machines.specs.PathSteps as paths
use Rattle.core_facts.proofs.SaveCommits.{goes-steps}
use Rattle.core_session.proofs.drops.SaveFiles.{takes-save}
use Rattle.core_facts.proofs.FileSeats.{FileLive}
use Rattle.core_session.proofs.syncs.NamePuts as names

abbrev Puts : Shelf → List LaneFile
Puts s = s.puts

-- ---- a sync, close, write, truncate, read or open leaves them as they are

sync-queues : (b : Bool) (wsize lane : ℕ) (turn : Turn) (s : Saving) (old : Shelf) (next : Step) (state : Syncing) (new : Shelf) → syncs.QueuesIf b wsize lane turn s old next state new → new.puts ≡ old.puts
sync-queues true wsize lane turn s old next state new g = ap Puts g.others
sync-queues false wsize lane turn s old next state new g = ap Puts g.shelf_is

sync-starts : (found : Option (List ℕ)) (wsize : ℕ) (m : SyncFile) (turn : Turn) (old : Shelf) (next : Step) (state : Syncing) (new : Shelf) → syncs.StartsAt found wsize m turn old next state new → new.puts ≡ old.puts
sync-starts None wsize m turn old next state new s = ap Puts s.shelf_is
sync-starts (Some file) wsize m turn old next state new s =
    sync-queues (is_first m.lane (joined m.lane file old).order) wsize m.lane turn (saves.begun file old.seq) (joined m.lane file old) next state new s

sync-resumes : (at : Syncing) (wsize : ℕ) (m : SyncFile) (turn : Turn) (old : Shelf) (next : Step) (state : Syncing) (new : Shelf) → syncs.Resumes at wsize m turn old next state new → new.puts ≡ old.puts
sync-resumes syncing.Idle wsize m turn old next state new r = ap Puts r.shelf_is
sync-resumes (syncing.Saves s) wsize m turn old next state new r = sync-queues (is_first m.lane old.order) wsize m.lane turn s old next state new r

sync-takes : (at : Syncing) (wsize : ℕ) (m : SyncFile) (sent turn : Turn) (came : Result Reply Fault) (old : Shelf) (next : Step) (state : Syncing) (new : Shelf)
    → syncs.Takes at wsize m sent turn came old next state new → new.puts ≡ old.puts
sync-takes syncing.Idle wsize m sent turn came old next state new t = ap Puts t.shelf_is
sync-takes (syncing.Saves s) wsize m sent turn came old next state new t = ap Puts t.others

close-frees : (lane slot : ℕ) (room : Bool) (file : List ℕ) (refusal : Option Fault) (old : Shelf) (next : Step) (state : Closing) (new : Shelf)
    → closes.Frees lane slot room file refusal old next state new → new.puts ≡ old.puts
close-frees lane slot room file refusal old next state new f = by f.place f.ends ∙ ap Puts f.slot_is
  where
    by : (place : Option (List ℕ × List ℕ)) → closes.EndsAt place lane room file refusal f.freed next state new → new.puts ≡ f.freed.puts
    by None e = ap Puts e.others
    by (Some place) e = ap Puts e.shelf_is

close-follows : (gives : _) (lane slot : ℕ) (room begun : Bool) (saved : Saving) (old : Shelf) (next : Step) (state : Closing) (new : Shelf)
    → closes.Follows gives lane slot room begun saved old next state new → new.puts ≡ old.puts
close-follows gives lane slot room begun saved old next state new f = by-step (λ g. closes.Follows g lane slot room begun saved old next state new → new.puts ≡ old.puts)
    (λ call l. ap Puts l.2) (λ l. ap Puts l.2) (λ result l. close-frees lane slot room saved.file (refusal_of result) old next state new l) gives f

close-on : (wsize lane slot : ℕ) (turn : Turn) (begun : Bool) (s : Saving) (old : Shelf) (next : Step) (state : Closing) (new : Shelf) → closes.GoesOn wsize lane slot turn begun s old next state new
    → new.puts ≡ old.puts
close-on wsize lane slot turn begun s old next state new k = close-follows k.gives lane slot turn.room begun k.saved k.gone next state new k.follows ∙ ap Puts k.others

close-queues : (b : Bool) (wsize lane slot : ℕ) (turn : Turn) (s : Saving) (old : Shelf) (next : Step) (state : Closing) (new : Shelf) → closes.QueuesIf b wsize lane slot turn s old next state new
    → new.puts ≡ old.puts
close-queues false wsize lane slot turn s old next state new k = ap Puts k.shelf_is
close-queues true wsize lane slot turn s old next state new k = by (last_end (of_file s.file old.back).segments) k
  where
    by : (end : Option ℕ) → closes.Begins end wsize lane slot turn s old next state new → new.puts ≡ old.puts
    by None k = close-frees lane slot turn.room s.file None old next state new k
    by (Some end) k = close-on wsize lane slot turn false s old next state new k

close-starts : (found : Option (List ℕ)) (wsize : ℕ) (m : CloseFile) (turn : Turn) (old : Shelf) (next : Step) (state : Closing) (new : Shelf) → closes.StartsAt found wsize m turn old next state new
    → new.puts ≡ old.puts
close-starts None wsize m turn old next state new s = ap Puts s.shelf_is
close-starts (Some file) wsize m turn old next state new s =
    close-queues (is_first m.lane (joined m.lane file old).order) wsize m.lane m.slot turn (saves.begun file old.seq) (joined m.lane file old) next state new s

close-resumes : (at : Closing) (wsize : ℕ) (m : CloseFile) (turn : Turn) (old : Shelf) (next : Step) (state : Closing) (new : Shelf) → closes.Resumes at wsize m turn old next state new → new.puts ≡ old.puts
close-resumes closing.Idle wsize m turn old next state new r = ap Puts r.shelf_is
close-resumes (closing.Queued s) wsize m turn old next state new r = close-queues (is_first m.lane old.order) wsize m.lane m.slot turn s old next state new r
close-resumes (closing.Saves s) wsize m turn old next state new r = by (is_first m.lane old.order) r
  where
    by : (b : Bool) → closes.GoesOnIf b wsize m.lane m.slot turn s old next state new → new.puts ≡ old.puts
    by true k = close-on wsize m.lane m.slot turn true s old next state new k
    by false k = ap Puts k.shelf_is
close-resumes (closing.ToRemove r) wsize m turn old next state new k = ap Puts k.shelf_is
close-resumes (closing.Removing r) wsize m turn old next state new k = ap Puts k.shelf_is

close-takes : (at : Closing) (wsize : ℕ) (m : CloseFile) (sent turn : Turn) (came : Result Reply Fault) (old : Shelf) (next : Step) (state : Closing) (new : Shelf)
    → closes.Takes at wsize m sent turn came old next state new → new.puts ≡ old.puts
close-takes closing.Idle wsize m sent turn came old next state new t = ap Puts t.shelf_is
close-takes (closing.Queued s) wsize m sent turn came old next state new t = ap Puts t.shelf_is
close-takes (closing.Saves s) wsize m sent turn came old next state new t = close-follows t.gives m.lane m.slot turn.room true t.saved t.took next state new t.follows ∙ ap Puts t.others
close-takes (closing.ToRemove r) wsize m sent turn came old next state new t = ap Puts t.shelf_is
close-takes (closing.Removing r) wsize m sent turn came old next state new t = by (goes_again (remove_busy came) sent turn old.repeats) t.ends ∙ ap Puts t.others
  where
    by : (b : Bool) → closes.EndsIf b m.lane r t.took next state new → new.puts ≡ t.took.puts
    by true e = ap Puts e.shelf_is
    by false e = ap Puts e.others

room-shelf : (told : _) (lane : ℕ) (shelf : Shelf) → (writes.room_shelf told lane shelf).puts ≡ shelf.puts
room-shelf told lane shelf = by-step (λ t. (writes.room_shelf t lane shelf).puts ≡ shelf.puts) (λ call. refl) refl by told
  where
    by : (result : Result (Unit {0}) Fault) → (writes.room_shelf (ends_as result) lane shelf).puts ≡ shelf.puts
    by (Ok done) = refl
    by (Err fault) = refl

write-saves : (b : Bool) (wsize lane : ℕ) (file : List ℕ) (s : Saving) (turn : Turn) (shelf : Shelf) (next : Step) (state : Writing) (after : Shelf)
    → writes.SavesIf b wsize lane file s turn shelf next state after → after.puts ≡ shelf.puts
write-saves false wsize lane file s turn shelf next state after r = ap Puts r.shelf_is
write-saves true wsize lane file s turn shelf next state after r = ap Puts r.leads.shelf_is ∙ room-shelf r.told lane (record shelf { back = r.back })

write-writes : (wsize lane : ℕ) (file : List ℕ) (offset : ℕ) (bytes : List ℕ) (turn : Turn) (shelf : Shelf) (next : Step) (state : Writing) (after : Shelf)
    → writes.Writes wsize lane file offset bytes turn shelf next state after → after.puts ≡ shelf.puts
write-writes wsize lane file offset bytes turn shelf next state after wrote = by (is_full bytes shelf.back) wrote
  where
    by : (b : Bool) → writes.WritesIf b wsize lane file offset bytes turn shelf next state after → after.puts ≡ shelf.puts
    by true (inl s) =
        write-saves (is_first lane (joined lane s.of shelf).order) wsize lane file (saves.begun s.of shelf.seq) turn (joined lane s.of shelf) next state after s.saves
    by true (inr s) = ap Puts s.1.shelf_is
    by false (inl s) = ap Puts s.leads.shelf_is
    by false (inr s) = ap Puts s.shelf_is

write-starts : (found : Result (List ℕ) Fault) (wsize : ℕ) (m : WriteFile) (turn : Turn) (shelf : Shelf) (next : Step) (new : WriteFile) (after : Shelf)
    → writes.StartsAt found wsize m turn shelf next new after → after.puts ≡ shelf.puts
write-starts (Err fault) wsize m turn shelf next new after r = ap Puts r.refuses.shelf_is
write-starts (Ok file) wsize m turn shelf next new after (inl r) = write-writes wsize m.lane file m.offset (writes.text_bytes m.text) turn shelf next new.state after r.writes
write-starts (Ok file) wsize m turn shelf next new after (inr r) = ap Puts r.refuses.shelf_is

write-resumes : (at : Writing) (wsize lane : ℕ) (turn : Turn) (old : Shelf) (next : Step) (state : Writing) (after : Shelf) → writes.ResumesIn at wsize lane turn old next state after → after.puts ≡ old.puts
write-resumes writing.Idle wsize lane turn old next state after r = ap Puts r.shelf_is
write-resumes (writing.Room file s) wsize lane turn old next state after r = write-saves (is_first lane old.order) wsize lane file s turn old next state after r

write-takes : (at : Writing) (wsize : ℕ) (m : WriteFile) (sent turn : Turn) (came : Result Reply Fault) (old : Shelf) (next : Step) (state : Writing) (after : Shelf)
    → writes.TakesIn at wsize m sent turn came old next state after → after.puts ≡ old.puts
write-takes writing.Idle wsize m sent turn came old next state after t = ap Puts t.shelf_is
write-takes (writing.Room file s) wsize m sent turn came old next state after t = follows t.told _ t.follows
  where
    follows : (told : _) (shelf : Shelf) → writes.Follows told wsize m file t.saved turn shelf next state after → after.puts ≡ shelf.puts
    follows told shelf f = by-step (λ g. writes.Follows g wsize m file t.saved turn shelf next state after → after.puts ≡ shelf.puts) (λ call l. ap Puts l.shelf_is) (λ l. ap Puts l.shelf_is) by told f
      where
        by : (result : Result (Unit {0}) Fault) → writes.Follows (ends_as result) wsize m file t.saved turn shelf next state after → after.puts ≡ shelf.puts
        by (Ok done) l = write-writes wsize m.lane file m.offset (writes.made_bytes m.text) turn (record shelf { order = left m.lane shelf.order }) next state after l
        by (Err fault) l = ap Puts l.shelf_is

begun-shelf : (found : Result (List ℕ) Fault) (m : TruncateFile) (old : Shelf) → (truncates.begun_shelf found m old).puts ≡ old.puts
begun-shelf (Ok file) m old = refl
begun-shelf (Err fault) m old = refl

took-shelf : (at : Truncating) (m : TruncateFile) (came : Result Reply Fault) (sent turn : Turn) (attrs : _) (back : _) (old : Shelf) → (truncates.took_shelf at m came sent turn attrs back old).puts ≡ old.puts
took-shelf truncating.Idle m came sent turn attrs back old = refl
took-shelf (truncating.Queued file upto) m came sent turn attrs back old = refl
took-shelf (truncating.Asked file upto) m came sent turn attrs back old = refl

-- ---- at which file a put is

abbrev pub put_at_file : Putting → Option (List ℕ)
put_at_file putting.Idle = None
put_at_file putting.Opens = None
put_at_file (putting.Adds file) = Some file
put_at_file (putting.Saves s) = Some s.file

abbrev pub puts_file : FileMachine → Option (List ℕ)
puts_file (files.Open m) = None
puts_file (files.Read m) = None
puts_file (files.Write m) = None
puts_file (files.Sync m) = None
puts_file (files.Close m) = None
puts_file (files.Truncate m) = None
puts_file (files.Put m) = put_at_file m.state

abbrev pub puts_path : Bool → Opener → Option (List ℕ)
puts_path true m = puts_file (file_of m)
puts_path false m = None

abbrev pub puts_of : Machine → Option (List ℕ)
puts_of (machines.File m) = puts_file m
puts_of (machines.Path m) = puts_path m.arrived m.opener
puts_of (machines.Name m) = None

-- the lane of a put
abbrev pub put_lane : FileMachine → ℕ → Type 0
put_lane (files.Open m) lane = Unit {0}
put_lane (files.Read m) lane = Unit {0}
put_lane (files.Write m) lane = Unit {0}
put_lane (files.Sync m) lane = Unit {0}
put_lane (files.Close m) lane = Unit {0}
put_lane (files.Truncate m) lane = Unit {0}
put_lane (files.Put m) lane = m.write.lane ≡ lane

-- what a step leads to
abbrev pub Fin : {M : Type 0} → (Option (List ℕ) → List LaneFile → Type 0) → (M → Option (List ℕ)) → Step → M → List LaneFile → Type 0
Fin S seat (nexts.Send call) machine ps = S (seat machine) ps
Fin S seat nexts.Wait machine ps = S (seat machine) ps
Fin S seat (nexts.Done answer) machine ps = S None ps

module _ (S : Option (List ℕ) → List LaneFile → Type 0) (lane : ℕ) (leaves : (seat : Option (List ℕ)) (ps : List LaneFile) → S seat ps → S None (left lane ps))
    (joins : (seat : Option (List ℕ)) (file : List ℕ) (ps : List LaneFile) → S seat ps → S (Some file) (added (record { lane = lane; file = file }) (left lane ps))) where
  fin-as : {M : Type 0} → (seat : M → Option (List ℕ)) (next : Step) (to new : M) (ps : List LaneFile) → new ≡ to → Fin S seat next to ps → Fin S seat next new ps
  fin-as {M} seat next to new ps is s = subst (λ (m : M). Fin S seat next m ps) (sym is) s

  fin-none : {M : Type 0} → (seat : M → Option (List ℕ)) (next : Step) (new : M) (old ps : List LaneFile) → seat new ≡ None → ps ≡ old → S None old → Fin S seat next new ps
  fin-none seat next new old ps none same s = by next
    where
      here : S None ps
      here = subst (S None) (sym same) s

      by : (n : Step) → Fin S seat n new ps
      by (nexts.Send call) = subst (λ (o : Option (List ℕ)). S o ps) (sym none) here
      by nexts.Wait = subst (λ (o : Option (List ℕ)). S o ps) (sym none) here
      by (nexts.Done answer) = here

  StateFin : Step → Putting → List LaneFile → Type 0
  StateFin next state ps = Fin S put_at_file next state ps

  -- ---- puts

  put-waits : (next to : Step) (state at : Putting) (old new : Shelf) → next ≡ to → state ≡ at → new ≡ old → Fin S put_at_file to at old.puts → Fin S put_at_file next state new.puts
  put-waits next to state at old new n s o f = subst (λ (k : Step). Fin S put_at_file k state new.puts) (sym n) (subst (λ (p : Putting). Fin S put_at_file to p new.puts) (sym s)
      (subst (λ (z : Shelf). Fin S put_at_file to at z.puts) (sym o) f))

  put-ends : (file : List ℕ) (refusal : Option Fault) (seat : Option (List ℕ)) (old : Shelf) (next : Step) (state : Putting) (new : Shelf) → puts.Ends lane file refusal old next state new → S seat old.puts
      → Fin S put_at_file next state new.puts
  put-ends file refusal seat old next state new e s = subst (λ (k : Step). Fin S put_at_file k state new.puts) (sym e.next_is) (subst (S None) (sym (ap Puts e.others)) (leaves seat old.puts s))

  put-follows : (gives : _) (saved : Saving) (old : Shelf) (next : Step) (state : Putting) (new : Shelf) → puts.Follows gives lane saved old next state new → S (Some saved.file) old.puts
      → Fin S put_at_file next state new.puts
  put-follows gives saved old next state new f s = by-step (λ g. puts.Follows g lane saved old next state new → Fin S put_at_file next state new.puts)
      (λ call l. put-waits next (nexts.Send call) state (putting.Saves saved) old new l.0 l.1 l.2 s) (λ l. put-waits next nexts.Wait state (putting.Saves saved) old new l.0 l.1 l.2 s)
      (λ result l. put-ends saved.file (refusal_of result) (Some saved.file) old next state new l s) gives f

  put-queues : (b : Bool) (wsize : ℕ) (turn : Turn) (z : Saving) (old : Shelf) (next : Step) (state : Putting) (new : Shelf) → puts.QueuesIf b wsize lane turn z old next state new → S (Some z.file) old.puts
      → Fin S put_at_file next state new.puts
  put-queues false wsize turn z old next state new k s = put-waits next nexts.Wait state (putting.Saves z) old new k.next_is k.state_is k.shelf_is s
  put-queues true wsize turn z old next state new k s =
      let file = (goes-steps (Unit {0}) wsize turn.xid turn.room false z old.back k.gives k.saved k.gone.back (λ again. tt) k.goes).file in
      put-follows k.gives k.saved k.gone next state new k.follows
      (subst (λ (g : List ℕ). S (Some g) k.gone.puts) (sym file) (subst (S (Some z.file)) (sym (ap Puts k.others)) s))

  after-write : (told : Step) (wsize : ℕ) (file : List ℕ) (turn : Turn) (old : Shelf) (next : Step) (state : Putting) (new : Shelf) → puts.AfterWrite told wsize lane file turn old next state new
      → S (Some file) old.puts → Fin S put_at_file next state new.puts
  after-write (nexts.Send call) wsize file turn old next state new a s = put-waits next (nexts.Send call) state (putting.Adds file) old new a.0 a.1 a.2 s
  after-write nexts.Wait wsize file turn old next state new a s = put-waits next nexts.Wait state (putting.Adds file) old new a.0 a.1 a.2 s
  after-write (nexts.Done (answers.Done value)) wsize file turn old next state new a s =
      put-queues (is_first lane (joined lane file old).order) wsize turn (saves.begun file old.seq) (joined lane file old) next state new a s
  after-write (nexts.Done (answers.Refused fault)) wsize file turn old next state new a s = put-ends file (Some fault) (Some file) old next state new a s

  writes-on : (wsize : ℕ) (m : PutFile) (file : List ℕ) (turn : Turn) (told : Step) (written : Writing) (old mid : Shelf) (next : Step) (new : PutFile) (after : Shelf) → m.write.lane ≡ lane
      → puts.WritesOn wsize m file turn told written mid next new after → mid.puts ≡ old.puts → S (Some file) old.puts → Fin S put_at_file next new.state after.puts
  writes-on wsize m file turn told written old mid next new after same k is s =
      after-write told wsize file turn mid next new.state after (subst (λ (n : ℕ). puts.AfterWrite told wsize n file turn mid next new.state after) same k.follows) (subst (S (Some file)) (sym is) s)

  goes-opening : (b : Bool) (call : _) (state : Putting) (ps : List LaneFile) → put_at_file state ≡ None → S None ps → Fin S put_at_file (opens.goes_as (if b then openings.Wait else openings.Send call)) state ps
  goes-opening true call state ps none s = subst (λ (o : Option (List ℕ)). S o ps) (sym none) s
  goes-opening false call state ps none s = subst (λ (o : Option (List ℕ)). S o ps) (sym none) s

  put-starts : (m : PutFile) (turn : Turn) (old : Shelf) (next : Step) (new : PutFile) (after : Shelf) → next ≡ opens.goes_as (opening.go_next (puts.opening_at turn m) turn) → new.state ≡ putting.Opens
      → after ≡ old → S None old.puts → Fin S put_at_file next new.state after.puts
  put-starts m turn old next new after n at o s =
      subst (λ (k : Step). Fin S put_at_file k new.state after.puts) (sym n)
      (goes-opening (opening.waits (puts.opening_at turn m) turn) (opening.call_of (puts.opening_at turn m) (puts.opening_at turn m).step) new.state after.puts (ap put_at_file at) (subst (S None) (sym (ap Puts o)) s))

  put-resumes : (at : Putting) (wsize : ℕ) (m : PutFile) (turn : Turn) (old : Shelf) (next : Step) (new : PutFile) (after : Shelf) → m.write.lane ≡ lane → m.state ≡ at → puts.Resumes at wsize m turn old next new after
      → S (put_at_file at) old.puts → Fin S put_at_file next new.state after.puts
  put-resumes putting.Idle wsize m turn old next new after same at r s = put-waits next nexts.Wait new.state putting.Idle old after r.next_is (ap (λ (z : PutFile). z.state) r.machine_is ∙ at) r.shelf_is s
  put-resumes putting.Opens wsize m turn old next new after same at r s =
      subst (λ (k : Step). Fin S put_at_file k new.state after.puts) (sym r.0)
      (goes-opening (opening.waits m.opening turn) (opening.call_of m.opening m.opening.step) new.state after.puts (ap put_at_file (ap (λ (z : PutFile). z.state) r.1 ∙ at)) (subst (S None) (sym (ap Puts r.2)) s))
  put-resumes (putting.Adds file) wsize m turn old next new after same at r s =
      writes-on wsize m file turn r.told r.written old r.mid next new after same r.goes (write-resumes m.write.state wsize m.write.lane turn old r.told r.written r.mid r.resumes) s
  put-resumes (putting.Saves z) wsize m turn old next new after same at r s =
      put-queues (is_first lane old.order) wsize turn z old next new.state after (subst (λ (n : ℕ). puts.QueuesIf (is_first n old.order) wsize n turn z old next new.state after) same r.0) s

  put-opened : (step : OpeningStep) (wsize : ℕ) (m : PutFile) (turn : Turn) (old : Shelf) (next : Step) (new : PutFile) (after : Shelf) → m.write.lane ≡ lane → m.state ≡ putting.Opens
      → puts.AfterOpening step wsize m turn old next new after → S None old.puts → Fin S put_at_file next new.state after.puts
  put-opened (openings.Send call) wsize m turn old next new after same at f s =
      put-waits next (nexts.Send call) new.state putting.Opens old after f.0 (ap (λ (z : PutFile). z.state) f.1 ∙ at) f.2 s
  put-opened openings.Wait wsize m turn old next new after same at f s = put-waits next nexts.Wait new.state putting.Opens old after f.next_is (ap (λ (z : PutFile). z.state) f.machine_is ∙ at) f.shelf_is s
  put-opened (openings.Ended (Ok file)) wsize m turn old next new after same at f s =
      writes-on wsize m file turn f.told f.written (puts.put_at m.write.lane file old) f.mid next new after same f.goes
      (write-writes wsize m.write.lane file m.write.offset (writes.made_bytes m.write.text) turn (puts.put_at m.write.lane file old) f.told f.written f.mid f.writes)
      (subst (λ (n : ℕ). S (Some file) (puts.put_at n file old).puts) (sym same) (joins None file old.puts s))
  put-opened (openings.Ended (Err fault)) wsize m turn old next new after same at f s =
      put-waits next (nexts.Done (answers.Refused fault)) new.state putting.Idle old after f.0 (ap (λ (z : PutFile). z.state) f.1) f.2 s

  put-takes : (at : Putting) (wsize : ℕ) (m : PutFile) (sent turn : Turn) (came : Result Reply Fault) (old : Shelf) (next : Step) (new : PutFile) (after : Shelf) → m.write.lane ≡ lane → m.state ≡ at
      → puts.Takes at wsize m sent turn came old next new after → S (put_at_file at) old.puts → Fin S put_at_file next new.state after.puts
  put-takes putting.Idle wsize m sent turn came old next new after same at t s =
      put-waits next nexts.Wait new.state putting.Idle old after t.next_is (ap (λ (z : PutFile). z.state) t.machine_is ∙ at) t.shelf_is s
  put-takes putting.Opens wsize m sent turn came old next new after same at t s =
      put-opened t.step wsize (puts.led (opening.opening_again m.opening sent turn came old.repeats) m turn came t.took.attrs old.pages) turn t.took next new after same at t.follows
      (subst (S None) (sym (ap Puts t.others)) s)
  put-takes (putting.Adds file) wsize m sent turn came old next new after same at t s =
      writes-on wsize m file turn t.told t.written old t.mid next new after same t.goes (write-takes m.write.state wsize m.write sent turn came old t.told t.written t.mid t.takes) s
  put-takes (putting.Saves z) wsize m sent turn came old next new after same at t s =
      let one = subst (λ (n : ℕ). puts.TakesOne wsize n sent turn came z old next new.state after) same t.0 in
      put-follows one.gives one.saved one.took next new.state after one.follows
      (subst (λ (g : List ℕ). S (Some g) one.took.puts)
      (sym (takes-save z.file z.upto wsize sent turn came old.repeats z old.back one.gives one.saved one.took.back one.took.repeats (record { file_is = refl; upto_is = refl }) one.takes).file_is)
      (subst (S (Some z.file)) (sym (ap Puts one.others)) s))

  -- ---- any operation on a file

  as-file : (next : Step) (to new : FileMachine) (ps : List LaneFile) → new ≡ to → Fin S puts_file next to ps → Fin S puts_file next new ps
  as-file next to new ps is s = subst (λ (m : FileMachine). Fin S puts_file next m ps) (sym is) s

  of-put : (next : Step) (m : PutFile) (ps : List LaneFile) → Fin S put_at_file next m.state ps → Fin S puts_file next (files.Put m) ps
  of-put (nexts.Send call) m ps s = s
  of-put nexts.Wait m ps s = s
  of-put (nexts.Done answer) m ps s = s

  no-put : (next : Step) (to new : FileMachine) (old after : Shelf) → new ≡ to → puts_file to ≡ None → after.puts ≡ old.puts → S None old.puts → Fin S puts_file next new after.puts
  no-put next to new old after is none same s = fin-none puts_file next new old.puts after.puts (ap puts_file is ∙ none) same s

  file-starts : (m : FileMachine) (wsize : ℕ) (turn : Turn) (old : Shelf) (next : Step) (new : FileMachine) (after : Shelf) → S None old.puts → steps.Starts wsize m turn old next new after
      → Fin S puts_file next new after.puts
  file-starts (files.Open m) wsize turn old next new after s t = no-put next (files.Open (opens.start_after m turn old.opens)) new old after t.machine_is refl (ap Puts t.shelf_is) s
  file-starts (files.Read m) wsize turn old next new after s t = no-put next (files.Read t.machine) new old after t.machine_is refl (ap Puts t.others) s
  file-starts (files.Write m) wsize turn old next new after s t =
      no-put next (files.Write t.machine) new old after t.machine_is refl (write-starts (file_to_write m.lane m.slot old.opens) wsize m turn old next t.machine after t.step) s
  file-starts (files.Sync m) wsize turn old next new after s t =
      no-put next (files.Sync (record m { state = t.state })) new old after t.machine_is refl (sync-starts (file_at m.lane m.slot old.opens) wsize m turn old next t.state after t.step) s
  file-starts (files.Close m) wsize turn old next new after s t =
      no-put next (files.Close (record m { state = t.state })) new old after t.machine_is refl (close-starts (file_at m.lane m.slot old.opens) wsize m turn old next t.state after t.step) s
  file-starts (files.Truncate m) wsize turn old next new after s t =
      no-put next (files.Truncate (record m { state = truncates.started_state m turn old })) new old after t.machine_is refl
      (ap Puts t.shelf_is ∙ begun-shelf (file_to_write m.lane m.slot old.opens) m old) s
  file-starts (files.Put m) wsize turn old next new after s t =
      let to : PutFile = record m { opening = opening.go_after (puts.opening_at turn m) turn; state = putting.Opens } in
      as-file next (files.Put to) new after.puts t.machine_is (of-put next to after.puts (put-starts m turn old next to after t.next_is refl t.shelf_is s))

  file-resumes : (m : FileMachine) (wsize : ℕ) (turn : Turn) (old : Shelf) (next : Step) (new : FileMachine) (after : Shelf) → FileLive lane m → S (puts_file m) old.puts
      → steps.Resumes wsize m turn old next new after → Fin S puts_file next new after.puts
  file-resumes (files.Open m) wsize turn old next new after live s t = no-put next (files.Open (opens.gone m turn)) new old after t.machine_is refl (ap Puts t.shelf_is) s
  file-resumes (files.Read m) wsize turn old next new after live s t = no-put next (files.Read t.machine) new old after t.machine_is refl (ap Puts t.others) s
  file-resumes (files.Write m) wsize turn old next new after live s t =
      no-put next (files.Write (record m { state = t.state })) new old after t.machine_is refl (write-resumes m.state wsize m.lane turn old next t.state after t.step) s
  file-resumes (files.Sync m) wsize turn old next new after live s t =
      no-put next (files.Sync (record m { state = t.state })) new old after t.machine_is refl (sync-resumes m.state wsize m turn old next t.state after t.step) s
  file-resumes (files.Close m) wsize turn old next new after live s t =
      no-put next (files.Close (record m { state = t.state })) new old after t.machine_is refl (close-resumes m.state wsize m turn old next t.state after t.step) s
  file-resumes (files.Truncate m) wsize turn old next new after live s t =
      no-put next (files.Truncate (record m { state = truncates.resumed_state m.state m turn old })) new old after t.machine_is refl (ap Puts t.shelf_is) s
  file-resumes (files.Put m) wsize turn old next new after live s t =
      as-file next (files.Put t.machine) new after.puts t.machine_is
      (of-put next t.machine after.puts (put-resumes m.state wsize m turn old next t.machine after live.0 refl t.step s))

  file-takes : (m : FileMachine) (wsize : ℕ) (sent turn : Turn) (came : Result Reply Fault) (old : Shelf) (next : Step) (new : FileMachine) (after : Shelf) → FileLive lane m
      → S (puts_file m) old.puts → steps.Takes wsize m sent turn came old next new after → Fin S puts_file next new after.puts
  file-takes (files.Open m) wsize sent turn came old next new after live s t =
      no-put next (files.Open (opens.took_after (opening.opening_again m.opening sent turn came old.repeats) m turn came after.attrs old.pages)) new old after t.machine_is refl (ap Puts t.others) s
  file-takes (files.Read m) wsize sent turn came old next new after live s t = no-put next (files.Read t.machine) new old after t.machine_is refl (ap Puts t.others) s
  file-takes (files.Write m) wsize sent turn came old next new after live s t =
      no-put next (files.Write (record m { state = t.state })) new old after t.machine_is refl (write-takes m.state wsize m sent turn came old next t.state after t.step) s
  file-takes (files.Sync m) wsize sent turn came old next new after live s t =
      no-put next (files.Sync (record m { state = t.state })) new old after t.machine_is refl (sync-takes m.state wsize m sent turn came old next t.state after t.step) s
  file-takes (files.Close m) wsize sent turn came old next new after live s t =
      no-put next (files.Close (record m { state = t.state })) new old after t.machine_is refl (close-takes m.state wsize m sent turn came old next t.state after t.step) s
  file-takes (files.Truncate m) wsize sent turn came old next new after live s t =
      no-put next (files.Truncate (record m { state = truncates.took_state m.state came sent turn old.repeats })) new old after t.machine_is refl
      (ap Puts t.shelf_is ∙ took-shelf m.state m came sent turn after.attrs after.back old) s
  file-takes (files.Put m) wsize sent turn came old next new after live s t =
      as-file next (files.Put t.machine) new after.puts t.machine_is
      (of-put next t.machine after.puts (put-takes m.state wsize m sent turn came old next t.machine after live.0 refl t.step s))

  -- ---- opens and puts on their way

  abbrev pub path_puts : PathMachine → Option (List ℕ)
  path_puts m = puts_path m.arrived m.opener

  fin-path : (next : Step) (m : PathMachine) (opener : Opener) (new : PathMachine) (ps : List LaneFile) → m.arrived ≡ true → new ≡ record m { opener = opener } → Fin S puts_file next (file_of opener) ps
      → Fin S path_puts next new ps
  fin-path next m opener new ps there is s =
      subst (λ (z : PathMachine). Fin S path_puts next z ps) (sym is) (by next s)
    where
      by : (n : Step) → Fin S puts_file n (file_of opener) ps → Fin S path_puts n (record m { opener = opener }) ps
      by (nexts.Send call) s = subst (λ (b : Bool). S (puts_path b opener) ps) (sym there) s
      by nexts.Wait s = subst (λ (b : Bool). S (puts_path b opener) ps) (sym there) s
      by (nexts.Done answer) s = s

  then-resumes : (wsize : ℕ) (m : PathMachine) (turn : Turn) (old : Shelf) (next : Step) (new : PathMachine) (after : Shelf) → m.arrived ≡ true → FileLive lane (file_of m.opener)
      → S (puts_file (file_of m.opener)) old.puts → paths.ThenResumes wsize m turn old next new after → Fin S path_puts next new after.puts
  then-resumes wsize m turn old next new after there live s t =
      fin-path next m t.opener new after.puts there t.machine_is (file-resumes (file_of m.opener) wsize turn old next (file_of t.opener) after live s t.step)

  on-way : (next : Step) (m : PathMachine) (new : PathMachine) (old after : Shelf) → new ≡ m → m.arrived ≡ false → after.puts ≡ old.puts → S None old.puts → Fin S path_puts next new after.puts
  on-way next m new old after is way same s =
      fin-none path_puts next new old.puts after.puts (ap path_puts is ∙ ap (λ (b : Bool). puts_path b m.opener) way) same s

  placed-live : (dir : List ℕ) (o : Opener) → OpenerFresh lane o → FileLive lane (file_of (placed dir o))
  placed-live dir (openers.Open m) fresh = tt
  placed-live dir (openers.Put m) fresh = (fresh, tt)

  placed-none : (dir : List ℕ) (o : Opener) → puts_file (file_of (placed dir o)) ≡ None
  placed-none dir (openers.Open m) = refl
  placed-none dir (openers.Put m) = refl

  begun-fresh : (moment : ℕ) (o : Opener) → OpenerFresh lane o → OpenerFresh lane (begun_at moment o)
  begun-fresh moment (openers.Open m) fresh = tt
  begun-fresh moment (openers.Put m) fresh = fresh

  follows-path : (step : WalkStep) (wsize : ℕ) (m : PathMachine) (turn : Turn) (old : Shelf) (next : Step) (new : PathMachine) (after : Shelf) → m.arrived ≡ false → OpenerFresh lane m.opener
      → S None old.puts → paths.Follows step wsize m turn old next new after → Fin S path_puts next new after.puts
  follows-path (walks.Send call) wsize m turn old next new after way fresh s f = on-way next m new old after f.1 way (ap Puts f.2) s
  follows-path walks.Wait wsize m turn old next new after way fresh s f = on-way next m new old after f.1 way (ap Puts f.2) s
  follows-path (walks.At dir) wsize m turn old next new after way fresh s f =
      then-resumes wsize (record m { opener = placed dir m.opener; arrived = true }) turn old next new after refl (placed-live dir m.opener fresh)
      (subst (λ (o : Option (List ℕ)). S o old.puts) (sym (placed-none dir m.opener)) s) f
  follows-path (walks.Refused fault) wsize m turn old next new after way fresh s f = on-way next m new old after f.1 way (ap Puts f.2) s

  path-resumes : (b : Bool) (wsize : ℕ) (m : PathMachine) (turn : Turn) (old : Shelf) (next : Step) (new : PathMachine) (after : Shelf) → m.arrived ≡ b → OnPath b lane m
      → S (puts_path b m.opener) old.puts → paths.PathResumes b wsize m turn old next new after → Fin S path_puts next new after.puts
  path-resumes true wsize m turn old next new after is live s r = then-resumes wsize m turn old next new after is live s r
  path-resumes false wsize m turn old next new after is live s r =
      follows-path (walking.go_next m.walk turn old) wsize (record m { walk = walking.go_after m.walk turn old }) turn (walking.go_shelf m.walk turn old) next new after is live.1 s r

  path-starts : (taken : Bool) (wsize : ℕ) (m : PathMachine) (turn : Turn) (old : Shelf) (next : Step) (new : PathMachine) (after : Shelf) → PathFresh lane m → S None old.puts
      → paths.StartsIf taken wsize m turn old next new after → Fin S path_puts next new after.puts
  path-starts true wsize m turn old next new after fresh s t = on-way next m new old after t.1 fresh.on_way (ap Puts t.2) s
  path-starts false wsize m turn old next new after fresh s t =
      let begun : PathMachine = record m { opener = begun_at (turn.moment - 1) m.opener } in
      path-resumes m.arrived wsize begun turn old next new after refl
      (subst (λ (b : Bool). OnPath b lane begun) (sym fresh.on_way) (fresh.walk, begun-fresh (turn.moment - 1) m.opener fresh.opener))
      (subst (λ (b : Bool). S (puts_path b (begun_at (turn.moment - 1) m.opener)) old.puts) (sym fresh.on_way) s) t

  path-takes : (b : Bool) (wsize : ℕ) (m : PathMachine) (sent turn : Turn) (came : Result Reply Fault) (old : Shelf) (next : Step) (new : PathMachine) (after : Shelf) → m.arrived ≡ b
      → OnPath b lane m → S (puts_path b m.opener) old.puts → paths.PathTakes b wsize m sent turn came old next new after → Fin S path_puts next new after.puts
  path-takes true wsize m sent turn came old next new after is live s t =
      fin-path next m t.opener new after.puts is t.machine_is (file-takes (file_of m.opener) wsize sent turn came old next (file_of t.opener) after live s t.step)
  path-takes false wsize m sent turn came old next new after is live s t =
      follows-path t.step wsize t.walked turn t.heard next new after (ap (λ (w : PathMachine). w.arrived) t.walked_is ∙ is)
      (subst (OpenerFresh lane) (sym (ap (λ (w : PathMachine). w.opener) t.walked_is)) live.1)
      (subst (S None) (sym (names.walk-rest (walking.waiting_name m.walk) m.walk sent turn came old t.step t.walked.walk t.heard t.takes)) s) t.follows

  -- ---- any operation

  as-machine : (next : Step) (to new : Machine) (ps : List LaneFile) → new ≡ to → Fin S puts_of next to ps → Fin S puts_of next new ps
  as-machine next to new ps is s = subst (λ (m : Machine). Fin S puts_of next m ps) (sym is) s

  of-file : (next : Step) (m : FileMachine) (ps : List LaneFile) → Fin S puts_file next m ps → Fin S puts_of next (machines.File m) ps
  of-file (nexts.Send call) m ps s = s
  of-file nexts.Wait m ps s = s
  of-file (nexts.Done answer) m ps s = s

  of-path : (next : Step) (m : PathMachine) (ps : List LaneFile) → Fin S path_puts next m ps → Fin S puts_of next (machines.Path m) ps
  of-path (nexts.Send call) m ps s = s
  of-path nexts.Wait m ps s = s
  of-path (nexts.Done answer) m ps s = s

  pub puts-starts : (m : Machine) (wsize : ℕ) (turn : Turn) (old : Shelf) (next : Step) (new : Machine) (after : Shelf) → IsFreshFor lane m → S None old.puts → Starts wsize m turn old next new after
      → Fin S puts_of next new after.puts
  puts-starts (machines.File m) wsize turn old next new after fresh s t =
      as-machine next (machines.File t.machine) new after.puts t.machine_is (of-file next t.machine after.puts (file-starts m wsize turn old next t.machine after s t.step))
  puts-starts (machines.Path m) wsize turn old next new after fresh s t =
      as-machine next (machines.Path t.machine) new after.puts t.machine_is
      (of-path next t.machine after.puts (path-starts (slot_taken m.opener old.opens) wsize m turn old next t.machine after fresh s t.step))
  puts-starts (machines.Name m) wsize turn old next new after fresh s t =
      fin-none puts_of next new old.puts after.puts (ap puts_of t.machine_is) (names.name-goes m turn old next t.machine after t.step) s

  pub puts-resumes : (m : Machine) (wsize : ℕ) (turn : Turn) (old : Shelf) (next : Step) (new : Machine) (after : Shelf) → IsLive lane m → S (puts_of m) old.puts
      → Resumes wsize m turn old next new after → Fin S puts_of next new after.puts
  puts-resumes (machines.File m) wsize turn old next new after live s t =
      as-machine next (machines.File t.machine) new after.puts t.machine_is (of-file next t.machine after.puts (file-resumes m wsize turn old next t.machine after live s t.step))
  puts-resumes (machines.Path m) wsize turn old next new after live s t =
      as-machine next (machines.Path t.machine) new after.puts t.machine_is
      (of-path next t.machine after.puts (path-resumes m.arrived wsize m turn old next t.machine after refl live s t.step))
  puts-resumes (machines.Name m) wsize turn old next new after live s t =
      fin-none puts_of next new old.puts after.puts (ap puts_of t.machine_is) (names.name-goes m turn old next t.machine after t.step) s

  pub puts-takes : (m : Machine) (wsize : ℕ) (sent turn : Turn) (came : Result Reply Fault) (old : Shelf) (next : Step) (new : Machine) (after : Shelf) → IsLive lane m → S (puts_of m) old.puts
      → Takes wsize m sent turn came old next new after → Fin S puts_of next new after.puts
  puts-takes (machines.File m) wsize sent turn came old next new after live s t =
      as-machine next (machines.File t.machine) new after.puts t.machine_is (of-file next t.machine after.puts (file-takes m wsize sent turn came old next t.machine after live s t.step))
  puts-takes (machines.Path m) wsize sent turn came old next new after live s t =
      as-machine next (machines.Path t.machine) new after.puts t.machine_is
      (of-path next t.machine after.puts (path-takes m.arrived wsize m sent turn came old next t.machine after refl live s t.step))
  puts-takes (machines.Name m) wsize sent turn came old next new after live s t =
      fin-none puts_of next new old.puts after.puts (ap puts_of t.machine_is) (names.name-takes m sent turn came old next t.machine after t.step) s
