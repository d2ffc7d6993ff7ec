-- What every step of a save carries over, each step of any operation does.
use Rattle.std.proofs.Common.{◌≡◌, ℕ, List, Result, Ok, Err, refl, sym, ap, subst, ◌∙◌}
use Rattle.std.specs.FinMap as finite
use Rattle.world_model.specs.declared.answer.Fault.{Fault}
use Rattle.world_model.specs.declared.message.Call.{Call}
use Rattle.world_model.specs.declared.message.Reply.{Reply}
use Rattle.write_back.specs.Files.{Pending}
use Rattle.client_shelf.specs.declared.shelf.Shelf.{Shelf}
use Rattle.client_shelf.specs.declared.turn.Turn.{Turn}
use Rattle.client_shelf.specs.declared.step.Step.{Step}
use Rattle.client_shelf.specs.declared.step.Step.TheVariants as nexts
use Rattle.file_ops.specs.declared.saving.Saving.{Saving}
use Rattle.file_ops.specs.declared.write_file.Writing.{Writing}
use Rattle.file_ops.specs.declared.write_file.Writing.TheVariants as writing
use Rattle.file_ops.specs.declared.sync_file.Syncing.{Syncing}
use Rattle.file_ops.specs.declared.sync_file.Syncing.TheVariants as syncing
use Rattle.file_ops.specs.declared.close_file.Closing.{Closing}
use Rattle.file_ops.specs.declared.close_file.Closing.TheVariants as closing
use Rattle.file_ops.specs.declared.put_file.Putting.{Putting}
use Rattle.file_ops.specs.declared.put_file.Putting.TheVariants as putting
use Rattle.file_ops.specs.declared.truncate_file.TruncateFile.{TruncateFile}
use Rattle.file_ops.specs.Opening.{go_next, go_after}
use Rattle.file_ops.specs.TruncateFile as truncates
use Rattle.file_ops.specs.PutFile as puts
use Rattle.file_ops.proofs.Walks.{LeftAs, Carries, CarriesReply, SyncHas, CloseHas, WriteHas, sync-starts, sync-resumes, sync-takes, close-starts, close-resumes, close-takes, write-starts, write-resumes, write-takes}
use Rattle.file_ops.proofs.PlainWalks.{PlainAsks, plain-left, as-left, go-asks, open-starts, open-resumes, open-takes, read-starts, read-resumes, read-takes, truncate-starts, truncate-resumes, truncate-takes, truncate-pieces}
use Rattle.file_ops.proofs.PutWalks.{PutHas, PutHasIn, put-resumes, put-takes}
use Rattle.op_machines.specs.declared.file_machine.FileMachine.{FileMachine as Machine}
use Rattle.op_machines.specs.declared.file_machine.FileMachine.TheVariants as machines
use Rattle.op_machines.specs.FileSteps.{Starts, Resumes, Takes}

-- what is said of the save of an operation, or of what is pending where it has none under way
abbrev pub Has : (Pending → Type 0) → (Saving → Pending → Type 0) → Machine → Pending → Type 0
Has P M (machines.Open m) back = P back
Has P M (machines.Read m) back = P back
Has P M (machines.Write m) back = WriteHas P M m.state back
Has P M (machines.Sync m) back = SyncHas P M m.state back
Has P M (machines.Close m) back = CloseHas P M m.state back
Has P M (machines.Truncate m) back = P back
Has P M (machines.Put m) back = PutHas P M m back

-- ---- where it says the same of a save as of what is pending

write-any : (P : Pending → Type 0) (M : Saving → Pending → Type 0) → ((s : Saving) (back : Pending) → P back → M s back) → (state : Writing) (back : Pending)
    → P back → WriteHas P M state back
write-any P M any writing.Idle back p = p
write-any P M any (writing.Room file saving) back p = any saving back p

write-all : (P : Pending → Type 0) (M : Saving → Pending → Type 0) → ((s : Saving) (back : Pending) → M s back → P back) → (state : Writing) (back : Pending)
    → WriteHas P M state back → P back
write-all P M all writing.Idle back h = h
write-all P M all (writing.Room file saving) back h = all saving back h

sync-any : (P : Pending → Type 0) (M : Saving → Pending → Type 0) → ((s : Saving) (back : Pending) → P back → M s back) → (state : Syncing) (back : Pending)
    → P back → SyncHas P M state back
sync-any P M any syncing.Idle back p = p
sync-any P M any (syncing.Saves saving) back p = any saving back p

sync-all : (P : Pending → Type 0) (M : Saving → Pending → Type 0) → ((s : Saving) (back : Pending) → M s back → P back) → (state : Syncing) (back : Pending)
    → SyncHas P M state back → P back
sync-all P M all syncing.Idle back h = h
sync-all P M all (syncing.Saves saving) back h = all saving back h

close-any : (P : Pending → Type 0) (M : Saving → Pending → Type 0) → ((s : Saving) (back : Pending) → P back → M s back) → (state : Closing) (back : Pending)
    → P back → CloseHas P M state back
close-any P M any closing.Idle back p = p
close-any P M any (closing.Queued saving) back p = p
close-any P M any (closing.Saves saving) back p = any saving back p
close-any P M any (closing.ToRemove removal) back p = p
close-any P M any (closing.Removing removal) back p = p

close-all : (P : Pending → Type 0) (M : Saving → Pending → Type 0) → ((s : Saving) (back : Pending) → M s back → P back) → (state : Closing) (back : Pending)
    → CloseHas P M state back → P back
close-all P M all closing.Idle back h = h
close-all P M all (closing.Queued saving) back h = h
close-all P M all (closing.Saves saving) back h = all saving back h
close-all P M all (closing.ToRemove removal) back h = h
close-all P M all (closing.Removing removal) back h = h

put-any : (P : Pending → Type 0) (M : Saving → Pending → Type 0) → ((s : Saving) (back : Pending) → P back → M s back)
    → (state : Putting) (write : Writing) (back : Pending) → P back → PutHasIn P M state write back
put-any P M any putting.Idle write back p = p
put-any P M any putting.Opens write back p = p
put-any P M any (putting.Adds file) write back p = write-any P M any write back p
put-any P M any (putting.Saves saving) write back p = any saving back p

put-all : (P : Pending → Type 0) (M : Saving → Pending → Type 0) → ((s : Saving) (back : Pending) → M s back → P back)
    → (state : Putting) (write : Writing) (back : Pending) → PutHasIn P M state write back → P back
put-all P M all putting.Idle write back h = h
put-all P M all putting.Opens write back h = h
put-all P M all (putting.Adds file) write back h = write-all P M all write back h
put-all P M all (putting.Saves saving) write back h = all saving back h

pub has-any : (P : Pending → Type 0) (M : Saving → Pending → Type 0) → ((s : Saving) (back : Pending) → P back → M s back)
    → (machine : Machine) (back : Pending) → P back → Has P M machine back
has-any P M any (machines.Open m) back p = p
has-any P M any (machines.Read m) back p = p
has-any P M any (machines.Write m) back p = write-any P M any m.state back p
has-any P M any (machines.Sync m) back p = sync-any P M any m.state back p
has-any P M any (machines.Close m) back p = close-any P M any m.state back p
has-any P M any (machines.Truncate m) back p = p
has-any P M any (machines.Put m) back p = put-any P M any m.state m.write.state back p

pub has-all : (P : Pending → Type 0) (M : Saving → Pending → Type 0) → ((s : Saving) (back : Pending) → M s back → P back)
    → (machine : Machine) (back : Pending) → Has P M machine back → P back
has-all P M all (machines.Open m) back h = h
has-all P M all (machines.Read m) back h = h
has-all P M all (machines.Write m) back h = write-all P M all m.state back h
has-all P M all (machines.Sync m) back h = sync-all P M all m.state back h
has-all P M all (machines.Close m) back h = close-all P M all m.state back h
has-all P M all (machines.Truncate m) back h = h
has-all P M all (machines.Put m) back h = put-all P M all m.state m.write.state back h

-- ---- what is read off a step

pub left-call : (P : Pending → Type 0) (H : Machine → Pending → Type 0) (Q : Call → Type 0) (next : Step) (machine : Machine) (back : Pending)
    → LeftAs P H Q next machine back → (call : Call) → next ≡ nexts.Send call → Q call
left-call P H Q (nexts.Send sent) machine back l call asks = let same : sent ≡ call = cc in subst Q same l.1
left-call P H Q nexts.Wait machine back l call asks = absurd cc
left-call P H Q (nexts.Done answer) machine back l call asks = absurd cc

pub left-back : (P : Pending → Type 0) (M : Saving → Pending → Type 0) (Q : Call → Type 0) → ((s : Saving) (back : Pending) → M s back → P back)
    → (next : Step) (machine : Machine) (back : Pending) → LeftAs P (Has P M) Q next machine back → P back
left-back P M Q all (nexts.Send call) machine back l = has-all P M all machine back l.0
left-back P M Q all nexts.Wait machine back l = l
left-back P M Q all (nexts.Done answer) machine back l = l

-- ---- the steps

module _ (wsize : ℕ) (turn : Turn) (P : Pending → Type 0) (M : Saving → Pending → Type 0) (Q : Call → Type 0) (w : Carries wsize turn P M Q) where
  as-machine : {S : Type 0} → (H : S → Pending → Type 0) (next : Step) (state : S) (to new : Machine) (back : Pending) → new ≡ to
      → (H state back → Has P M to back) → LeftAs P H Q next state back → LeftAs P (Has P M) Q next new back
  as-machine H (nexts.Send call) state to new back is has l = (subst (λ (m : Machine). Has P M m back) (sym is) (has l.0), l.1)
  as-machine H nexts.Wait state to new back is has l = l
  as-machine H (nexts.Done answer) state to new back is has l = l

  -- of a machine that puts nothing in flight
  plain-machine : (next : Step) (to new : Machine) (old back : Pending) → new ≡ to → (P back → Has P M to back) → PlainAsks turn next → back ≡ old → P old
      → LeftAs P (Has P M) Q next new back
  plain-machine next to new old back is has asks same p =
      let here : P back = subst P (sym same) p in
      subst (λ (m : Machine). LeftAs P (Has P M) Q next m back) (sym is) (plain-left P (Has P M) Q turn next to back asks w.plain here (has here))

  begun-back : (found : Result (List ℕ) Fault) (m : TruncateFile) (old : Shelf) → (truncates.begun_shelf found m old).back ≡ old.back
  begun-back (Ok file) m old = refl
  begun-back (Err fault) m old = refl

  pub starts-left : (machine : Machine) (old : Shelf) (next : Step) (new : Machine) (after : Shelf) → Starts wsize machine turn old next new after
      → P old.back → LeftAs P (Has P M) Q next new after.back
  starts-left (machines.Open m) old next new after s p = plain-machine next _ new old.back after.back s.machine_is (λ h. h)
      (open-starts m turn old.opens next s.next_is) (ap (λ (x : Shelf). x.back) s.shelf_is) p
  starts-left (machines.Read m) old next new after s p =
      plain-machine next (machines.Read s.machine) new old.back after.back s.machine_is (λ h. h)
      (read-starts (finite.get old.opens (m.lane, m.slot)) turn m old.pages old.back next s.machine after.pages s.step)
      (ap (λ (x : Shelf). x.back) s.others) p
  starts-left (machines.Write m) old next new after s p = as-machine (WriteHas P M) next s.machine.state (machines.Write s.machine) new after.back
      s.machine_is (λ h. h) (write-starts wsize turn P M Q w m old next s.machine after s.step p)
  starts-left (machines.Sync m) old next new after s p = as-machine (SyncHas P M) next s.state (machines.Sync (record m { state = s.state })) new after.back
      s.machine_is (λ h. h) (sync-starts wsize turn P M Q w m old next s.state after s.step p)
  starts-left (machines.Close m) old next new after s p = as-machine (CloseHas P M) next s.state (machines.Close (record m { state = s.state })) new
      after.back s.machine_is (λ h. h) (close-starts wsize turn P M Q w m old next s.state after s.step p)
  starts-left (machines.Truncate m) old next new after s p =
      plain-machine next (machines.Truncate (record m { state = truncates.started_state m turn old })) new old.back after.back s.machine_is (λ h. h)
      (truncate-starts m turn old next s.next_is)
      (ap (λ (x : Shelf). x.back) s.shelf_is ∙ begun-back (truncates.found_file m old) m old) p
  starts-left (machines.Put m) old next new after s p =
      subst (λ (x : Machine). LeftAs P (Has P M) Q next x after.back) (sym s.machine_is)
      (as-left P (Has P M) Q turn (go_next (puts.opening_at turn m) turn) next
      (machines.Put (record m { opening = go_after (puts.opening_at turn m) turn; state = putting.Opens })) old.back after.back s.next_is (ap (λ (x : Shelf). x.back) s.shelf_is)
      (go-asks (puts.opening_at turn m) turn (go_next (puts.opening_at turn m) turn) refl) w.plain p p)

  pub resumes-left : (machine : Machine) (old : Shelf) (next : Step) (new : Machine) (after : Shelf) → Resumes wsize machine turn old next new after
      → P old.back → LeftAs P (Has P M) Q next new after.back
  resumes-left (machines.Open m) old next new after s p = plain-machine next _ new old.back after.back s.machine_is (λ h. h)
      (open-resumes m turn next s.next_is) (ap (λ (x : Shelf). x.back) s.shelf_is) p
  resumes-left (machines.Read m) old next new after s p =
      plain-machine next (machines.Read s.machine) new old.back after.back s.machine_is (λ h. h)
      (read-resumes m.reading turn m old.pages old.back next s.machine after.pages s.step) (ap (λ (x : Shelf). x.back) s.others) p
  resumes-left (machines.Write m) old next new after s p = as-machine (WriteHas P M) next s.state (machines.Write (record m { state = s.state })) new
      after.back s.machine_is (λ h. h) (write-resumes wsize turn P M Q w m.state m.lane old next s.state after s.step p)
  resumes-left (machines.Sync m) old next new after s p = as-machine (SyncHas P M) next s.state (machines.Sync (record m { state = s.state })) new after.back
      s.machine_is (λ h. h) (sync-resumes wsize turn P M Q w m.state m old next s.state after s.step p)
  resumes-left (machines.Close m) old next new after s p = as-machine (CloseHas P M) next s.state (machines.Close (record m { state = s.state })) new
      after.back s.machine_is (λ h. h) (close-resumes wsize turn P M Q w m.state m old next s.state after s.step p)
  resumes-left (machines.Truncate m) old next new after s p =
      plain-machine next (machines.Truncate (record m { state = truncates.resumed_state m.state m turn old })) new old.back after.back s.machine_is (λ h. h)
      (truncate-resumes m.state m turn old next s.next_is) (ap (λ (x : Shelf). x.back) s.shelf_is) p
  resumes-left (machines.Put m) old next new after s p = as-machine (PutHas P M) next s.machine (machines.Put s.machine) new after.back s.machine_is (λ h. h)
      (put-resumes wsize turn P M Q w m.state m old next s.machine after refl s.step p)

  pub takes-left : (sent : Turn) (came : Result Reply Fault) (N : Saving → Pending → Type 0) → CarriesReply wsize sent turn came P N M Q
      → (machine : Machine) (old : Shelf) (next : Step) (new : Machine) (after : Shelf) → Takes wsize machine sent turn came old next new after
      → Has P N machine old.back → LeftAs P (Has P M) Q next new after.back
  takes-left sent came N v (machines.Open m) old next new after s p =
      plain-machine next _ new old.back after.back s.machine_is (λ h. h)
      (open-takes m sent turn came after.attrs old.repeats next old.pages after.pages old.opens after.opens s.steps) (ap (λ (x : Shelf). x.back) s.others) p
  takes-left sent came N v (machines.Read m) old next new after s p =
      plain-machine next (machines.Read s.machine) new old.back after.back s.machine_is (λ h. h)
      (read-takes m.reading sent turn came old.repeats m old.pages old.back next s.machine after.pages s.step) (ap (λ (x : Shelf). x.back) s.others) p
  takes-left sent came N v (machines.Write m) old next new after s h =
      as-machine (WriteHas P M) next s.state (machines.Write (record m { state = s.state })) new after.back s.machine_is (λ h. h)
      (write-takes wsize turn P M Q w sent came N v m.state m old next s.state after s.step h)
  takes-left sent came N v (machines.Sync m) old next new after s h =
      as-machine (SyncHas P M) next s.state (machines.Sync (record m { state = s.state })) new after.back s.machine_is (λ h. h)
      (sync-takes wsize turn P M Q w sent came N v m.state m old next s.state after s.step h)
  takes-left sent came N v (machines.Close m) old next new after s h =
      as-machine (CloseHas P M) next s.state (machines.Close (record m { state = s.state })) new after.back s.machine_is (λ h. h)
      (close-takes wsize turn P M Q w sent came N v m.state m old next s.state after s.step h)
  takes-left sent came N v (machines.Truncate m) old next new after s p =
      plain-machine next (machines.Truncate (record m { state = truncates.took_state m.state came sent turn old.repeats })) new after.back after.back
      s.machine_is (λ h. h) (truncate-takes m.state m came sent turn old.repeats next s.next_is) refl
      (w.pieces old.back after.back (truncate-pieces m.state m came old.back after.back s.back) p)
  takes-left sent came N v (machines.Put m) old next new after s h =
      as-machine (PutHas P M) next s.machine (machines.Put s.machine) new after.back s.machine_is (λ h. h)
      (put-takes wsize turn P M Q w sent came N v m.state m old next s.machine after refl s.step h)
