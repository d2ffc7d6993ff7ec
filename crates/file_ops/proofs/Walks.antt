-- What each step of a save makes of what is pending and of its call, each step of a machine makes of it too.
use Rattle.std.proofs.Common.{◌≡◌, ◌≢◌, ◌&&◌, ◌+◌, ℕ, Bool, true, false, not, nat_lt, length, List, [], ◌∷◌, Option, Some, None, Result, Ok, Err, refl, sym, ap, subst, ◌∙◌, ◌⊎◌, inl, inr}
use Rattle.world_model.specs.declared.answer.Fault.{Fault}
use Rattle.world_model.specs.declared.answer.Answer.{Answer}
use Rattle.world_model.specs.declared.message.Call.{Call}
use Rattle.world_model.specs.declared.message.Reply.{Reply}
use Rattle.write_back.specs.Segments.{last_end}
use Rattle.write_back.specs.Pieces.{nothing}
use Rattle.write_back.specs.Landing.{with_cut}
use Rattle.write_back.specs.Files.{Pending, of_file, OnFile, with_bytes}
use Rattle.write_back.proofs.WritesByFile.{same-or}
use Rattle.open_files.specs.Slots.{Opens}
use Rattle.client_shelf.specs.declared.repeats.Repeat.{Repeat}
use Rattle.client_shelf.specs.declared.shelf.Shelf.{Shelf}
use Rattle.client_shelf.specs.declared.turn.Turn.{Turn}
use Rattle.client_shelf.specs.LaneFiles.{left, is_first}
use Rattle.client_shelf.specs.Repeats.{times_of, ended}
use Rattle.client_shelf.specs.Spelling.{IsSpellable}
use Rattle.client_shelf.specs.declared.step.Step.{Step}
use Rattle.client_shelf.specs.declared.step.Step.TheVariants as nexts
use Rattle.file_ops.specs.declared.saving.Saving.{Saving}
use Rattle.file_ops.specs.declared.saving.SavingStep.{SavingStep}
use Rattle.file_ops.specs.declared.saving.SavingStep.TheVariants.{Send, Wait, Ended}
use Rattle.file_ops.specs.declared.sync_file.SyncFile.{SyncFile}
use Rattle.file_ops.specs.declared.sync_file.Syncing.{Syncing}
use Rattle.file_ops.specs.declared.sync_file.Syncing.TheVariants as syncing
use Rattle.file_ops.specs.declared.closing.Removal.{Removal}
use Rattle.file_ops.specs.declared.close_file.CloseFile.{CloseFile}
use Rattle.file_ops.specs.declared.close_file.Closing.{Closing}
use Rattle.file_ops.specs.declared.close_file.Closing.TheVariants as closing
use Rattle.file_ops.specs.declared.write_file.WriteFile.{WriteFile}
use Rattle.file_ops.specs.declared.write_file.Writing.{Writing}
use Rattle.file_ops.specs.declared.write_file.Writing.TheVariants as writing
use Rattle.file_ops.specs.Adding.{is_full}
use Rattle.client_shelf.specs.Busy.{goes_again}
use Rattle.file_ops.specs.Closings.{GivesIf, GivesUpBy, closed_answer, refusal_of, remove_of, remove_busy}
use Rattle.file_ops.specs.Opens.{file_to_write}
use Rattle.file_ops.specs.Quiet.{is_quiet}
use Rattle.file_ops.specs.SlotFiles.{file_at, joined}
use Rattle.file_ops.specs.Saves as saves
use Rattle.file_ops.specs.Syncs as syncs
use Rattle.file_ops.specs.Closes as closes
use Rattle.file_ops.specs.WriteFile as writes

-- ---- what is carried through a step

-- Of what is pending: P before a step and after it, N or M where a save has asked for a call before or in the step. Of its call: Q.
abbrev pub Left : (Pending → Type 0) → (Saving → Pending → Type 0) → (Call → Type 0) → SavingStep → Saving → Pending → Type 0
Left P M Q (Send call) saving back = M saving back × Q call
Left P M Q Wait saving back = P back
Left P M Q (Ended result) saving back = P back

-- the same of a machine's step, where H says it of the machine's state
abbrev pub LeftAs : {S : Type 0} → (Pending → Type 0) → (S → Pending → Type 0) → (Call → Type 0) → Step → S → Pending → Type 0
LeftAs P H Q (nexts.Send call) state back = H state back × Q call
LeftAs P H Q nexts.Wait state back = P back
LeftAs P H Q (nexts.Done answer) state back = P back

-- each file has the pieces that it had, or none
abbrev pub SamePieces : Pending → Pending → Type 0
SamePieces old new = (file : List ℕ) → ((of_file file new).pieces ≡ (of_file file old).pieces) ⊎ ((of_file file new).pieces ≡ [])

-- what a step of a save without a reply makes of it, and what else a machine may do
pub record Carries (wsize : ℕ) (turn : Turn) (P : Pending → Type 0) (M : Saving → Pending → Type 0) (Q : Call → Type 0) : Type 0 where
  pub goes : (by_reply : Bool) (s : Saving) (back : Pending) (next : SavingStep) (new : Saving) (after : Pending)
      → saves.Goes wsize turn.xid turn.room by_reply s back next new after → P back → Left P M Q next new after
  pub pieces : (old new : Pending) → SamePieces old new → P old → P new
  pub plain : (call : Call) → turn.room ≡ true → IsSpellable call → Q call

-- and one with what came of its call
pub record CarriesReply (wsize : ℕ) (sent turn : Turn) (came : Result Reply Fault) (P : Pending → Type 0) (N M : Saving → Pending → Type 0)
    (Q : Call → Type 0) : Type 0 where
  pub takes : (repeats : List Repeat) (s : Saving) (back : Pending) (next : SavingStep) (new : Saving) (after : Pending) (later : List Repeat)
      → saves.Takes wsize sent turn came repeats s back next new after later → N s back → Left P M Q next new after

-- ---- pieces that stay, or are given up

one-file : (old new : Pending) (file : List ℕ) → ((of_file file new).pieces ≡ (of_file file old).pieces) ⊎ ((of_file file new).pieces ≡ [])
    → ((other : List ℕ) → other ≢ file → of_file other new ≡ of_file other old) → SamePieces old new
one-file old new file here others other = by (same-or file other)
  where
    by : (other ≡ file) ⊎ (other ≢ file) → ((of_file other new).pieces ≡ (of_file other old).pieces) ⊎ ((of_file other new).pieces ≡ [])
    by (inl same) = subst (λ (f : List ℕ). ((of_file f new).pieces ≡ (of_file f old).pieces) ⊎ ((of_file f new).pieces ≡ [])) (sym same) here
    by (inr apart) = inl (ap (λ of. of.pieces) (others other apart))

pub same-pieces : (old new : Pending) → new ≡ old → SamePieces old new
same-pieces old new is file = inl (ap (λ (p : Pending). (of_file file p).pieces) is)

pub given-pieces : (old new : Pending) (file : List ℕ) → OnFile old new file nothing → SamePieces old new
given-pieces old new file on = one-file old new file (inr (ap (λ of. of.pieces) on.here)) on.others

pub cut-pieces : (old new : Pending) (file : List ℕ) (size upto : ℕ) → OnFile old new file (with_cut size upto (of_file file old)) → SamePieces old new
cut-pieces old new file size upto on = one-file old new file (inl (ap (λ of. of.pieces) on.here)) on.others

pub added-pieces : (old new : Pending) (file : List ℕ) (offset number : ℕ) (bytes : List ℕ)
    → OnFile old new file (with_bytes offset bytes number (of_file file old)) → SamePieces old new
added-pieces old new file offset number bytes on = one-file old new file (inl (ap (λ of. of.pieces) on.here ∙ same bytes)) on.others
  where
    same : (bytes : List ℕ) → (with_bytes offset bytes number (of_file file old)).pieces ≡ (of_file file old).pieces
    same [] = refl
    same (b ∷ bs) = refl

given-if : (b : Bool) (file : List ℕ) (old new : Pending) → GivesIf b file old new → SamePieces old new
given-if true file old new g = given-pieces old new file g
given-if false file old new g = same-pieces old new g

pub given-by : (refusal : Option Fault) (file : List ℕ) (opens : Opens) (old new : Pending) → GivesUpBy refusal file opens old new → SamePieces old new
given-by None file opens old new g = same-pieces old new g
given-by (Some fault) file opens old new g = given-if (not g.is_open && is_quiet file old) file old new g.back

-- ---- a call is made again only where there is room for it

never-roomless : (busy : Bool) (sent : Turn) (repeats : List Repeat)
    → (busy && false && nat_lt (times_of sent.xid repeats) 3 && nat_lt (length (ended sent.xid repeats)) 32) ≡ true → false ≡ true
never-roomless true sent repeats h = h
never-roomless false sent repeats h = h

pub again-room : (busy : Bool) (sent turn : Turn) (repeats : List Repeat) → goes_again busy sent turn repeats ≡ true → turn.room ≡ true
again-room busy sent turn repeats h = by turn.room refl
  where
    by : (b : Bool) → turn.room ≡ b → b ≡ true
    by true e = refl
    by false e =
        let wrong : (busy && false && nat_lt (times_of sent.xid repeats) 3 && nat_lt (length (ended sent.xid repeats)) 32) ≡ true = (rw e at h) in
        never-roomless busy sent repeats wrong

-- ---- machines of which each waits where it did

-- a step after which the shelf and what is pending are as before
pub waits-left : {S : Type 0} → (P : Pending → Type 0) (H : S → Pending → Type 0) (Q : Call → Type 0) (next : Step) (state : S) (old new : Pending)
    → next ≡ nexts.Wait → new ≡ old → P old → LeftAs P H Q next state new
waits-left P H Q next state old new waits same p = rw waits (subst P (sym same) p)

pub done-left : {S : Type 0} → (P : Pending → Type 0) (H : S → Pending → Type 0) (Q : Call → Type 0) (answer : Answer) (next : Step) (state : S)
    (old new : Pending) → next ≡ nexts.Done answer → new ≡ old → P old → LeftAs P H Q next state new
done-left P H Q answer next state old new done same p = rw done (subst P (sym same) p)

pub asks-left : {S : Type 0} → (P : Pending → Type 0) (H : S → Pending → Type 0) (Q : Call → Type 0) (call : Call) (next : Step) (state : S)
    (old new : Pending) → next ≡ nexts.Send call → new ≡ old → H state old → Q call → LeftAs P H Q next state new
asks-left P H Q call next state old new asks same h q = rw asks (subst (H state) (sym same) h, q)

-- ---- syncs

abbrev pub SyncHas : (Pending → Type 0) → (Saving → Pending → Type 0) → Syncing → Pending → Type 0
SyncHas P M syncing.Idle back = P back
SyncHas P M (syncing.Saves saving) back = M saving back

module _ (wsize : ℕ) (turn : Turn) (P : Pending → Type 0) (M : Saving → Pending → Type 0) (Q : Call → Type 0) (w : Carries wsize turn P M Q) where
  sync-as : (gives : SavingStep) (saving : Saving) (next : Step) (state : Syncing) (back : Pending) → next ≡ syncs.sync_next gives
      → state ≡ syncs.sync_state gives saving → Left P M Q gives saving back → LeftAs P (SyncHas P M) Q next state back
  sync-as (Send call) saving next state back n s l = rw (n, s) l
  sync-as Wait saving next state back n s l = rw n l
  sync-as (Ended result) saving next state back n s l = rw n l

  sync-queues : (b : Bool) (lane : ℕ) (saving : Saving) (old : Shelf) (next : Step) (state : Syncing) (new : Shelf)
      → syncs.QueuesIf b wsize lane turn saving old next state new → P old.back → LeftAs P (SyncHas P M) Q next state new.back
  sync-queues true lane saving old next state new q p = sync-as q.gives q.saved next state new.back q.follows.next_is q.follows.state_is
      (w.goes false saving old.back q.gives q.saved new.back q.goes p)
  sync-queues false lane saving old next state new q p = waits-left P (SyncHas P M) Q next state old.back new.back q.next_is
      (ap (λ (s : Shelf). s.back) q.shelf_is) p

  pub sync-starts : (machine : SyncFile) (old : Shelf) (next : Step) (state : Syncing) (new : Shelf) → syncs.Starts wsize machine turn old next state new
      → P old.back → LeftAs P (SyncHas P M) Q next state new.back
  sync-starts machine old next state new s p = at (file_at machine.lane machine.slot old.opens) s
    where
      at : (found : Option (List ℕ)) → syncs.StartsAt found wsize machine turn old next state new → LeftAs P (SyncHas P M) Q next state new.back
      at None s = done-left P (SyncHas P M) Q _ next state old.back new.back s.next_is (ap (λ (s : Shelf). s.back) s.shelf_is) p
      at (Some file) s = sync-queues (is_first machine.lane (joined machine.lane file old).order) machine.lane (saves.begun file old.seq)
          (joined machine.lane file old) next state new s p

  pub sync-resumes : (at : Syncing) (machine : SyncFile) (old : Shelf) (next : Step) (state : Syncing) (new : Shelf)
      → syncs.Resumes at wsize machine turn old next state new → P old.back → LeftAs P (SyncHas P M) Q next state new.back
  sync-resumes syncing.Idle machine old next state new s p = waits-left P (SyncHas P M) Q next state old.back new.back s.next_is
      (ap (λ (s : Shelf). s.back) s.shelf_is) p
  sync-resumes (syncing.Saves saving) machine old next state new s p = sync-queues (is_first machine.lane old.order) machine.lane saving old next state new s p

  pub sync-takes : (sent : Turn) (came : Result Reply Fault) (N : Saving → Pending → Type 0) → CarriesReply wsize sent turn came P N M Q
      → (at : Syncing) (machine : SyncFile) (old : Shelf) (next : Step) (state : Syncing) (new : Shelf)
      → syncs.Takes at wsize machine sent turn came old next state new → SyncHas P N at old.back → LeftAs P (SyncHas P M) Q next state new.back
  sync-takes sent came N v syncing.Idle machine old next state new t h = waits-left P (SyncHas P M) Q next state old.back new.back t.next_is
      (ap (λ (s : Shelf). s.back) t.shelf_is) h
  sync-takes sent came N v (syncing.Saves saving) machine old next state new t h =
      sync-as t.gives t.saved next state new.back t.follows.next_is t.follows.state_is
      (v.takes old.repeats saving old.back t.gives t.saved new.back new.repeats t.takes h)

-- ---- closes

abbrev pub CloseHas : (Pending → Type 0) → (Saving → Pending → Type 0) → Closing → Pending → Type 0
CloseHas P M closing.Idle back = P back
CloseHas P M (closing.Queued saving) back = P back
CloseHas P M (closing.Saves saving) back = M saving back
CloseHas P M (closing.ToRemove removal) back = P back
CloseHas P M (closing.Removing removal) back = P back

module _ (wsize : ℕ) (turn : Turn) (P : Pending → Type 0) (M : Saving → Pending → Type 0) (Q : Call → Type 0) (w : Carries wsize turn P M Q) where
  close-waits : (next : Step) (state : Closing) (old new : Shelf) → next ≡ nexts.Wait → new ≡ old → P old.back → LeftAs P (CloseHas P M) Q next state new.back
  close-waits next state old new waits same p = waits-left P (CloseHas P M) Q next state old.back new.back waits (ap (λ (s : Shelf). s.back) same) p

  close-ends : (lane : ℕ) (file : List ℕ) (refusal : Option Fault) (old : Shelf) (next : Step) (state : Closing) (new : Shelf)
      → closes.Ends lane file refusal old next state new → P old.back → LeftAs P (CloseHas P M) Q next state new.back
  close-ends lane file refusal old next state new e p =
      done-left P (CloseHas P M) Q (closed_answer refusal) next state new.back new.back e.next_is refl
      (w.pieces old.back new.back (given-by refusal file old.opens old.back new.back e.back) p)

  close-asks : (b : Bool) (removal : Removal) (old : Shelf) (next : Step) (state : Closing) (new : Shelf) → turn.room ≡ b
      → closes.Asks b removal old next state new → P old.back → LeftAs P (CloseHas P M) Q next state new.back
  close-asks true removal old next state new room a p =
      rw (a.state_is) (asks-left P (CloseHas P M) Q (remove_of removal) next (closing.Removing removal) old.back new.back a.next_is
      (ap (λ (s : Shelf). s.back) a.shelf_is) p (w.plain (remove_of removal) room tt))
  close-asks false removal old next state new room a p = close-waits next state old new a.next_is a.shelf_is p

  close-frees : (lane slot : ℕ) (file : List ℕ) (refusal : Option Fault) (old : Shelf) (next : Step) (state : Closing) (new : Shelf)
      → closes.Frees lane slot turn.room file refusal old next state new → P old.back → LeftAs P (CloseHas P M) Q next state new.back
  close-frees lane slot file refusal old next state new f p = at f.place f.ends
    where
      freed : P f.freed.back
      freed = subst P (sym (ap (λ (s : Shelf). s.back) f.slot_is)) p

      at : (place : Option (List ℕ × List ℕ)) → closes.EndsAt place lane turn.room file refusal f.freed next state new
          → LeftAs P (CloseHas P M) Q next state new.back
      at None e = close-ends lane file refusal f.freed next state new e freed
      at (Some place) e = close-asks turn.room (record { file = file; dir = place.0; name = place.1; refusal = refusal }) f.freed next state new refl e freed

  close-follows : (gives : SavingStep) (lane slot : ℕ) (begun : Bool) (saving : Saving) (old : Shelf) (next : Step) (state : Closing) (new : Shelf)
      → closes.Follows gives lane slot turn.room begun saving old next state new → Left P M Q gives saving old.back
      → LeftAs P (CloseHas P M) Q next state new.back
  close-follows (Send call) lane slot begun saving old next state new f l =
      rw (f.1) (asks-left P (CloseHas P M) Q call next (closing.Saves saving) old.back new.back f.0 (ap (λ (s : Shelf). s.back) f.2) l.0 l.1)
  close-follows Wait lane slot begun saving old next state new f l = close-waits next state old new f.0 f.2 l
  close-follows (Ended result) lane slot begun saving old next state new f l = close-frees lane slot saving.file (refusal_of result) old next state new f l

  close-on : (lane slot : ℕ) (begun : Bool) (saving : Saving) (old : Shelf) (next : Step) (state : Closing) (new : Shelf)
      → closes.GoesOn wsize lane slot turn begun saving old next state new → P old.back → LeftAs P (CloseHas P M) Q next state new.back
  close-on lane slot begun saving old next state new g p = close-follows g.gives lane slot begun g.saved g.gone next state new g.follows
      (w.goes false saving old.back g.gives g.saved g.gone.back g.goes p)

  close-queues : (b : Bool) (lane slot : ℕ) (saving : Saving) (old : Shelf) (next : Step) (state : Closing) (new : Shelf)
      → closes.QueuesIf b wsize lane slot turn saving old next state new → P old.back → LeftAs P (CloseHas P M) Q next state new.back
  close-queues false lane slot saving old next state new q p = close-waits next state old new q.next_is q.shelf_is p
  close-queues true lane slot saving old next state new q p = at (last_end (of_file saving.file old.back).segments) q
    where
      at : (end : Option ℕ) → closes.Begins end wsize lane slot turn saving old next state new → LeftAs P (CloseHas P M) Q next state new.back
      at None b = close-frees lane slot saving.file None old next state new b p
      at (Some end) b = close-on lane slot false saving old next state new b p

  pub close-starts : (machine : CloseFile) (old : Shelf) (next : Step) (state : Closing) (new : Shelf) → closes.Starts wsize machine turn old next state new
      → P old.back → LeftAs P (CloseHas P M) Q next state new.back
  close-starts machine old next state new s p = at (file_at machine.lane machine.slot old.opens) s
    where
      at : (found : Option (List ℕ)) → closes.StartsAt found wsize machine turn old next state new → LeftAs P (CloseHas P M) Q next state new.back
      at None s = done-left P (CloseHas P M) Q _ next state old.back new.back s.next_is (ap (λ (s : Shelf). s.back) s.shelf_is) p
      at (Some file) s = close-queues (is_first machine.lane (joined machine.lane file old).order) machine.lane machine.slot (saves.begun file old.seq)
          (joined machine.lane file old) next state new s p

  pub close-resumes : (at : Closing) (machine : CloseFile) (old : Shelf) (next : Step) (state : Closing) (new : Shelf)
      → closes.Resumes at wsize machine turn old next state new → P old.back → LeftAs P (CloseHas P M) Q next state new.back
  close-resumes closing.Idle machine old next state new s p = close-waits next state old new s.next_is s.shelf_is p
  close-resumes (closing.Queued saving) machine old next state new s p = close-queues (is_first machine.lane old.order) machine.lane machine.slot saving old
      next state new s p
  close-resumes (closing.Saves saving) machine old next state new s p = by (is_first machine.lane old.order) s
    where
      by : (b : Bool) → closes.GoesOnIf b wsize machine.lane machine.slot turn saving old next state new → LeftAs P (CloseHas P M) Q next state new.back
      by true g = close-on machine.lane machine.slot true saving old next state new g p
      by false g = close-waits next state old new g.next_is g.shelf_is p
  close-resumes (closing.ToRemove removal) machine old next state new s p = close-asks turn.room removal old next state new refl s p
  close-resumes (closing.Removing removal) machine old next state new s p = close-waits next state old new s.next_is s.shelf_is p

  pub close-takes : (sent : Turn) (came : Result Reply Fault) (N : Saving → Pending → Type 0) → CarriesReply wsize sent turn came P N M Q
      → (at : Closing) (machine : CloseFile) (old : Shelf) (next : Step) (state : Closing) (new : Shelf)
      → closes.Takes at wsize machine sent turn came old next state new → CloseHas P N at old.back → LeftAs P (CloseHas P M) Q next state new.back
  close-takes sent came N v closing.Idle machine old next state new t h = close-waits next state old new t.next_is t.shelf_is h
  close-takes sent came N v (closing.Queued saving) machine old next state new t h = close-waits next state old new t.next_is t.shelf_is h
  close-takes sent came N v (closing.ToRemove removal) machine old next state new t h = close-waits next state old new t.next_is t.shelf_is h
  close-takes sent came N v (closing.Saves saving) machine old next state new t h =
      close-follows t.gives machine.lane machine.slot true t.saved t.took next state new t.follows
      (v.takes old.repeats saving old.back t.gives t.saved t.took.back t.took.repeats t.takes h)
  close-takes sent came N v (closing.Removing removal) machine old next state new t h = by (goes_again (remove_busy came) sent turn old.repeats) refl t.ends
    where
      took : P t.took.back
      took = subst P (sym (ap (λ (s : Shelf). s.back) t.others)) h

      by : (b : Bool) → goes_again (remove_busy came) sent turn old.repeats ≡ b → closes.EndsIf b machine.lane removal t.took next state new
          → LeftAs P (CloseHas P M) Q next state new.back
      by true again e =
          rw (e.state_is) (asks-left P (CloseHas P M) Q (remove_of removal) next (closing.Removing removal) t.took.back new.back e.next_is
          (ap (λ (s : Shelf). s.back) e.shelf_is) took (w.plain (remove_of removal) (again-room (remove_busy came) sent turn old.repeats again) tt))
      by false again e = close-ends machine.lane removal.file removal.refusal t.took next state new e took

-- ---- writes and fills

abbrev pub WriteHas : (Pending → Type 0) → (Saving → Pending → Type 0) → Writing → Pending → Type 0
WriteHas P M writing.Idle back = P back
WriteHas P M (writing.Room file saving) back = M saving back

module _ (wsize : ℕ) (turn : Turn) (P : Pending → Type 0) (M : Saving → Pending → Type 0) (Q : Call → Type 0) (w : Carries wsize turn P M Q) where
  room-as : (told : SavingStep) (lane : ℕ) (file : List ℕ) (saved : Saving) (shelf : Shelf) (next : Step) (state : Writing) (after : Shelf)
      → writes.Leads (writes.room_next told) (writes.room_state told file saved) (writes.room_shelf told lane shelf) next state after
      → Left P M Q told saved shelf.back → LeftAs P (WriteHas P M) Q next state after.back
  room-as (Send call) lane file saved shelf next state after r l =
      rw (r.keeps) (asks-left P (WriteHas P M) Q call next (writing.Room file saved) shelf.back after.back r.gives_next
      (ap (λ (s : Shelf). s.back) r.shelf_is) l.0 l.1)
  room-as Wait lane file saved shelf next state after r l = waits-left P (WriteHas P M) Q next state shelf.back after.back r.gives_next
      (ap (λ (s : Shelf). s.back) r.shelf_is) l
  room-as (Ended (Ok done)) lane file saved shelf next state after r l = waits-left P (WriteHas P M) Q next state shelf.back after.back r.gives_next
      (ap (λ (s : Shelf). s.back) r.shelf_is) l
  room-as (Ended (Err fault)) lane file saved shelf next state after r l = done-left P (WriteHas P M) Q _ next state shelf.back after.back r.gives_next
      (ap (λ (s : Shelf). s.back) r.shelf_is) l

  write-refuses : (fault : Fault) (shelf : Shelf) (next : Step) (state : Writing) (after : Shelf) → writes.Refuses fault shelf next state after → P shelf.back
      → LeftAs P (WriteHas P M) Q next state after.back
  write-refuses fault shelf next state after r p = done-left P (WriteHas P M) Q _ next state shelf.back after.back r.gives_next
      (ap (λ (s : Shelf). s.back) r.shelf_is) p

  write-saves : (b : Bool) (lane : ℕ) (file : List ℕ) (saving : Saving) (shelf : Shelf) (next : Step) (state : Writing) (after : Shelf)
      → writes.SavesIf b wsize lane file saving turn shelf next state after → P shelf.back → LeftAs P (WriteHas P M) Q next state after.back
  write-saves false lane file saving shelf next state after s p = waits-left P (WriteHas P M) Q next state shelf.back after.back s.gives_next
      (ap (λ (s : Shelf). s.back) s.shelf_is) p
  write-saves true lane file saving shelf next state after s p =
      room-as s.told lane file s.saved (record shelf { back = s.back }) next state after s.leads (w.goes false saving shelf.back s.told s.saved s.back s.goes p)

  pub write-writes : (lane : ℕ) (file : List ℕ) (offset : ℕ) (bytes : List ℕ) (shelf : Shelf) (next : Step) (state : Writing) (after : Shelf)
      → writes.Writes wsize lane file offset bytes turn shelf next state after → P shelf.back → LeftAs P (WriteHas P M) Q next state after.back
  write-writes lane file offset bytes shelf next state after wrote p = by (is_full bytes shelf.back) wrote
    where
      by : (b : Bool) → writes.WritesIf b wsize lane file offset bytes turn shelf next state after → LeftAs P (WriteHas P M) Q next state after.back
      by true (inl s) = write-saves (is_first lane (joined lane s.of shelf).order) lane file (saves.begun s.of shelf.seq) (joined lane s.of shelf) next state
          after s.saves p
      by true (inr s) = write-refuses _ shelf next state after s.1 p
      by false (inl a) = done-left P (WriteHas P M) Q _ next state after.back after.back a.leads.gives_next refl
          (w.pieces shelf.back after.back (added-pieces shelf.back after.back file offset (shelf.seq + 1) bytes a.adds) p)
      by false (inr s) = write-refuses _ shelf next state after s p

  pub write-starts : (machine : WriteFile) (old : Shelf) (next : Step) (new : WriteFile) (after : Shelf) → writes.Starts wsize machine turn old next new after
      → P old.back → LeftAs P (WriteHas P M) Q next new.state after.back
  write-starts machine old next new after s p = at (file_to_write machine.lane machine.slot old.opens) s
    where
      at : (found : Result (List ℕ) Fault) → writes.StartsAt found wsize machine turn old next new after → LeftAs P (WriteHas P M) Q next new.state after.back
      at (Err fault) s = write-refuses fault old next new.state after s.refuses p
      at (Ok file) (inl s) = write-writes machine.lane file machine.offset (writes.text_bytes machine.text) old next new.state after s.writes p
      at (Ok file) (inr s) = write-refuses _ old next new.state after s.refuses p

  pub write-resumes : (at : Writing) (lane : ℕ) (old : Shelf) (next : Step) (state : Writing) (after : Shelf)
      → writes.ResumesIn at wsize lane turn old next state after → P old.back → LeftAs P (WriteHas P M) Q next state after.back
  write-resumes writing.Idle lane old next state after s p = waits-left P (WriteHas P M) Q next state old.back after.back s.gives_next
      (ap (λ (s : Shelf). s.back) s.shelf_is) p
  write-resumes (writing.Room file saving) lane old next state after s p = write-saves (is_first lane old.order) lane file saving old next state after s p

  write-follows : (told : SavingStep) (machine : WriteFile) (file : List ℕ) (saved : Saving) (shelf : Shelf) (next : Step) (state : Writing) (after : Shelf)
      → writes.Follows told wsize machine file saved turn shelf next state after → Left P M Q told saved shelf.back
      → LeftAs P (WriteHas P M) Q next state after.back
  write-follows (Ended (Ok done)) machine file saved shelf next state after f l =
      write-writes machine.lane file machine.offset (writes.made_bytes machine.text) (record shelf { order = left machine.lane shelf.order }) next state after
      f l
  write-follows (Ended (Err fault)) machine file saved shelf next state after f l = room-as (Ended (Err fault)) machine.lane file saved shelf next state after
      f l
  write-follows (Send call) machine file saved shelf next state after f l = room-as (Send call) machine.lane file saved shelf next state after f l
  write-follows Wait machine file saved shelf next state after f l = room-as Wait machine.lane file saved shelf next state after f l

  pub write-takes : (sent : Turn) (came : Result Reply Fault) (N : Saving → Pending → Type 0) → CarriesReply wsize sent turn came P N M Q
      → (at : Writing) (machine : WriteFile) (old : Shelf) (next : Step) (state : Writing) (after : Shelf)
      → writes.TakesIn at wsize machine sent turn came old next state after → WriteHas P N at old.back → LeftAs P (WriteHas P M) Q next state after.back
  write-takes sent came N v writing.Idle machine old next state after t h = waits-left P (WriteHas P M) Q next state old.back after.back t.gives_next
      (ap (λ (s : Shelf). s.back) t.shelf_is) h
  write-takes sent came N v (writing.Room file saving) machine old next state after t h =
      write-follows t.told machine file t.saved _ next state after t.follows (v.takes old.repeats saving old.back t.told t.saved t.back t.repeats t.takes h)
