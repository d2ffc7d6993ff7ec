-- What one step of any operation makes of how many bytes are pending.
use Rattle.core_session.proofs.Prelude.{◌≡◌, ◌≤◌, ◌<◌, ◌+◌, ◌-◌, ◌⊎◌, inl, inr, ℕ, Bool, true, false, List, [], ◌∷◌, length, replicate, Option, Some, None, Result, Ok, Err, refl, sym, ap, subst, ◌∙◌, arith, ltb-true, Answer, Fault, Reply, Pending, all_pending, Step, Shelf, Turn, left, is_first, OpeningStep, PutFile, Putting, Saving, WriteFile, Writing, is_full, closed_answer, refusal_of, file_to_write, joined, by-step, ends_as}
use Rattle.std.proofs.Common.{nat_lt}
use Rattle.world_model.specs.declared.answer.Answer.TheVariants as answers
use Rattle.claims.specs.Asks.{most_pending}
use Rattle.write_back.specs.Sound.{most_pending as most_held}
use Rattle.client_shelf.specs.declared.step.Step.TheVariants as nexts
use Rattle.file_ops.specs.declared.opening.OpeningStep.TheVariants as openings
use Rattle.file_ops.specs.declared.put_file.Putting.TheVariants as puttings
use Rattle.file_ops.specs.declared.write_file.Writing.TheVariants as writings
use Rattle.file_ops.specs.Opening as opening
use Rattle.file_ops.specs.OpenFile as opens
use Rattle.file_ops.specs.PutFile as puts_
use Rattle.file_ops.specs.Saves as saves
use Rattle.file_ops.specs.WriteFile as writes
use Rattle.core_session.proofs.room.Stages.{Stage, storing, putting, settling, is_room, put_stage, going, over, outcome, Verdict, rests, ends, same-verdict, made-size, IsGoing, Written, crowds, gives, adds, Worked, on, written, wider, written-verdict, PutEnds, put-verdict, put-worked}
use Rattle.core_session.proofs.room.Totals.{Less, same-less, less-less, goes-less, takes-less, given-less}

-- ---- whether there is room

same-most : most_held ≡ most_pending
unfolding most_held
same-most = refl

full-most : (bytes : List ℕ) (back : Pending) → is_full bytes back ≡ true → most_pending < all_pending back + length bytes
full-most bytes back full = subst (λ (n : ℕ). n < all_pending back + length bytes) same-most (ltb-true most_held (all_pending back + length bytes) full)

-- ---- the save for room

-- a step of it leads the write on, or refuses it
pub data RoomEnds (next : Step) (state : Writing) : Type 0 where
  stays : IsGoing next → is_room state ≡ true → RoomEnds next state
  refuses : (fault : Fault) → next ≡ nexts.Done (answers.Refused fault) → RoomEnds next state

room-ends : (told : _) (lane : ℕ) (file : List ℕ) (saved : Saving) (shelf : Shelf) (next : Step) (state : Writing) (after : Shelf)
    → writes.Leads (writes.room_next told) (writes.room_state told file saved) (writes.room_shelf told lane shelf) next state after → RoomEnds next state × (after.back ≡ shelf.back)
room-ends told lane file saved shelf next state after l = by-step
    (λ t. writes.Leads (writes.room_next t) (writes.room_state t file saved) (writes.room_shelf t lane shelf) next state after → RoomEnds next state × (after.back ≡ shelf.back))
    (λ call l. (stays (inr (call, l.gives_next)) (ap is_room l.keeps), ap (λ (s : Shelf). s.back) l.shelf_is))
    (λ l. (stays (inl l.gives_next) (ap is_room l.keeps), ap (λ (s : Shelf). s.back) l.shelf_is))
    ended told l
  where
    ended : (result : Result (Unit {0}) Fault)
        → writes.Leads (writes.room_next (ends_as result)) (writes.room_state (ends_as result) file saved) (writes.room_shelf (ends_as result) lane shelf) next state after
        → RoomEnds next state × (after.back ≡ shelf.back)
    ended (Ok done) l = (stays (inl l.gives_next) (ap is_room l.keeps), ap (λ (s : Shelf). s.back) l.shelf_is)
    ended (Err fault) l = (refuses fault l.gives_next, ap (λ (s : Shelf). s.back) l.shelf_is)

saves-room : (b : Bool) (wsize lane : ℕ) (file : List ℕ) (saving : Saving) (turn : Turn) (shelf : Shelf) (next : Step) (state : Writing) (after : Shelf)
    → writes.SavesIf b wsize lane file saving turn shelf next state after → RoomEnds next state × Less shelf.back after.back
saves-room false wsize lane file saving turn shelf next state after s =
    (stays (inl s.gives_next) (ap is_room s.keeps), same-less shelf.back after.back (ap (λ (s : Shelf). s.back) s.shelf_is))
saves-room true wsize lane file saving turn shelf next state after s =
    let r = room-ends s.told lane file s.saved (record shelf { back = s.back }) next state after s.leads in
    (r.0, less-less shelf.back s.back after.back (goes-less wsize turn.xid turn.room false saving shelf.back s.told s.saved s.back s.goes) (same-less s.back after.back r.1))

-- ---- writes and fills

refuses-less : (fault : Fault) (shelf : Shelf) (next : Step) (state : Writing) (after : Shelf) → writes.Refuses fault shelf next state after
    → Less shelf.back after.back
refuses-less fault shelf next state after r = same-less shelf.back after.back (ap (λ (s : Shelf). s.back) r.shelf_is)

write-written : (wsize lane : ℕ) (file : List ℕ) (offset : ℕ) (bytes : List ℕ) (turn : Turn) (shelf : Shelf) (next : Step) (state : Writing) (after : Shelf)
    → writes.Writes wsize lane file offset bytes turn shelf next state after → Written (all_pending shelf.back) (all_pending after.back) (length bytes) next state
write-written wsize lane file offset bytes turn shelf next state after w = by (is_full bytes shelf.back) refl w
  where
    room : RoomEnds next state → Less shelf.back after.back → is_full bytes shelf.back ≡ true → Written (all_pending shelf.back) (all_pending after.back) (length bytes) next state
    room (stays going_on room_is) less full = crowds less (full-most bytes shelf.back full) going_on room_is
    room (refuses fault is) less full = gives fault less is

    by : (b : Bool) → is_full bytes shelf.back ≡ b → writes.WritesIf b wsize lane file offset bytes turn shelf next state after
        → Written (all_pending shelf.back) (all_pending after.back) (length bytes) next state
    by true full (inl s) =
        let r = saves-room (is_first lane (joined lane s.of shelf).order) wsize lane file (saves.begun s.of shelf.seq) turn (joined lane s.of shelf) next state after s.saves in
        room r.0 r.1 full
    by true full (inr s) = gives _ (refuses-less _ shelf next state after s.1) s.1.gives_next
    by false full (inl s) = adds _ s.total s.leads.gives_next
    by false full (inr s) = gives _ (refuses-less _ shelf next state after s) s.gives_next

pub write-resumed : (at : Writing) (wsize lane size : ℕ) (turn : Turn) (old : Shelf) (next : Step) (state : Writing) (after : Shelf)
    → writes.ResumesIn at wsize lane turn old next state after → Worked (all_pending old.back) (all_pending after.back) size (is_room at) next state
write-resumed writings.Idle wsize lane size turn old next state after s =
    on (same-less old.back after.back (ap (λ (s : Shelf). s.back) s.shelf_is)) (inl s.gives_next) (ap is_room s.keeps)
write-resumed (writings.Room file saving) wsize lane size turn old next state after s =
    let r = saves-room (is_first lane old.order) wsize lane file saving turn old next state after s in
    by r.0 r.1
  where
    by : RoomEnds next state → Less old.back after.back → Worked (all_pending old.back) (all_pending after.back) size true next state
    by (stays going_on room_is) less = on less going_on room_is
    by (refuses fault is) less = written (gives fault less is)

write-followed : (told : _) (wsize : ℕ) (machine : WriteFile) (file : List ℕ) (saved : Saving) (turn : Turn) (shelf : Shelf) (next : Step) (state : Writing) (after : Shelf)
    → writes.Follows told wsize machine file saved turn shelf next state after
    → Worked (all_pending shelf.back) (all_pending after.back) (length (writes.text_bytes machine.text)) true next state
write-followed told wsize machine file saved turn shelf next state after f = by-step
    (λ t. writes.Follows t wsize machine file saved turn shelf next state after
    → Worked (all_pending shelf.back) (all_pending after.back) (length (writes.text_bytes machine.text)) true next state)
    (λ call f. on (same-less shelf.back after.back (ap (λ (s : Shelf). s.back) f.shelf_is)) (inr (call, f.gives_next)) (ap is_room f.keeps))
    (λ f. on (same-less shelf.back after.back (ap (λ (s : Shelf). s.back) f.shelf_is)) (inl f.gives_next) (ap is_room f.keeps))
    ended told f
  where
    ended : (result : Result (Unit {0}) Fault) → writes.Follows (ends_as result) wsize machine file saved turn shelf next state after
        → Worked (all_pending shelf.back) (all_pending after.back) (length (writes.text_bytes machine.text)) true next state
    ended (Ok done) f = written (wider (all_pending shelf.back) (all_pending shelf.back) (all_pending after.back) (length (writes.made_bytes machine.text))
        (length (writes.text_bytes machine.text)) next state (omega arith) (made-size machine.text)
        (write-written wsize machine.lane file machine.offset (writes.made_bytes machine.text) turn (record shelf { order = left machine.lane shelf.order }) next state after f))
    ended (Err fault) f = written (gives fault (same-less shelf.back after.back (ap (λ (s : Shelf). s.back) f.shelf_is)) f.gives_next)

-- of fewer bytes that were pending
lower : (old mid after size : ℕ) (room : Bool) (next : Step) (state : Writing) → mid ≤ old → Worked mid after size room next state → Worked old after size room next state
lower old mid after size room next state low (on less goes is) = on (omega (arith, low, less)) goes is
lower old mid after size room next state low (written w) = written (wider mid old after size size next state low (omega arith) w)

pub write-took : (at : Writing) (wsize : ℕ) (machine : WriteFile) (sent turn : Turn) (came : Result Reply Fault) (old : Shelf) (next : Step) (state : Writing) (after : Shelf)
    → writes.TakesIn at wsize machine sent turn came old next state after
    → Worked (all_pending old.back) (all_pending after.back) (length (writes.text_bytes machine.text)) (is_room at) next state
write-took writings.Idle wsize machine sent turn came old next state after t =
    on (same-less old.back after.back (ap (λ (s : Shelf). s.back) t.shelf_is)) (inl t.gives_next) (ap is_room t.keeps)
write-took (writings.Room file saving) wsize machine sent turn came old next state after t =
    lower (all_pending old.back) (all_pending t.back) (all_pending after.back) (length (writes.text_bytes machine.text)) true next state
    (takes-less wsize sent turn came old.repeats saving old.back t.told t.saved t.back t.repeats t.takes)
    (write-followed t.told wsize machine file t.saved turn _ next state after t.follows)

-- ---- puts

module _ (wsize : ℕ) (turn : Turn) where
  put-waits : (old new : Shelf) → new ≡ old → Less old.back new.back
  put-waits old new same = same-less old.back new.back (ap (λ (s : Shelf). s.back) same)

  put-ends : (lane : ℕ) (file : List ℕ) (refusal : Option Fault) (old : Shelf) (next : Step) (state : Putting) (after : Shelf)
      → puts_.Ends lane file refusal old next state after → Less old.back after.back
  put-ends lane file refusal old next state after e = gone (puts_.keeps_refused lane file old.puts old.order) e.back
    where
      gone : (b : Bool) → puts_.GivesUpAlone b refusal file old.opens old.back after.back → Less old.back after.back
      gone true g = same-less old.back after.back g
      gone false g = given-less refusal file old.opens old.back after.back g

  -- it saves its file, or has its answer
  abbrev Settles : ℕ → Step → Putting → Type 0
  Settles size next state = (outcome next (put_stage state size) ≡ going settling) ⊎ ((answer : Answer) × (outcome next (put_stage state size) ≡ over answer))

  goes-so : (size : ℕ) (next told : Step) (state at : Putting) → next ≡ told → state ≡ at → outcome next (put_stage state size) ≡ outcome told (put_stage at size)
  goes-so size next told state at is keeps =
      ap (λ (n : Step). outcome n (put_stage state size)) is ∙ ap (λ (p : Putting). outcome told (put_stage p size)) keeps

  ends-so : (size : ℕ) (next : Step) (answer : Answer) (state : Putting) → next ≡ nexts.Done answer → outcome next (put_stage state size) ≡ over answer
  ends-so size next answer state is = ap (λ (n : Step). outcome n (put_stage state size)) is

  put-follows : (gives_ : _) (lane size : ℕ) (saving : Saving) (old : Shelf) (next : Step) (state : Putting) (after : Shelf)
      → puts_.Follows gives_ lane saving old next state after → Settles size next state × Less old.back after.back
  put-follows gives_ lane size saving old next state after f = by-step
      (λ g. puts_.Follows g lane saving old next state after → Settles size next state × Less old.back after.back)
      (λ call f. (inl (goes-so size next (nexts.Send call) state (puttings.Saves saving) f.0 f.1), put-waits old after f.2))
      (λ f. (inl (goes-so size next nexts.Wait state (puttings.Saves saving) f.0 f.1), put-waits old after f.2))
      (λ result f. (
        inr (closed_answer (refusal_of result), ends-so size next (closed_answer (refusal_of result)) state f.next_is),
        put-ends lane saving.file (refusal_of result) old next state after f,
      ))
      gives_ f

  put-queues : (b : Bool) (lane size : ℕ) (saving : Saving) (old : Shelf) (next : Step) (state : Putting) (after : Shelf)
      → puts_.QueuesIf b wsize lane turn saving old next state after → Settles size next state × Less old.back after.back
  put-queues false lane size saving old next state after q =
      (inl (goes-so size next nexts.Wait state (puttings.Saves saving) q.next_is q.state_is), put-waits old after q.shelf_is)
  put-queues true lane size saving old next state after g =
      let f = put-follows g.gives lane size g.saved g.gone next state after g.follows in
      (f.0, less-less old.back g.gone.back after.back (goes-less wsize turn.xid turn.room false saving old.back g.gives g.saved g.gone.back g.goes) f.1)

  -- what follows a step of its write
  put-wrote : (told : Step) (lane size : ℕ) (file : List ℕ) (old : Shelf) (next : Step) (state : Putting) (after : Shelf)
      → puts_.AfterWrite told wsize lane file turn old next state after → PutEnds told size (outcome next (put_stage state size)) × Less old.back after.back
  put-wrote (nexts.Send call) lane size file old next state after a = (goes-so size next (nexts.Send call) state (puttings.Adds file) a.0 a.1, put-waits old after a.2)
  put-wrote nexts.Wait lane size file old next state after a = (goes-so size next nexts.Wait state (puttings.Adds file) a.0 a.1, put-waits old after a.2)
  put-wrote (nexts.Done (answers.Done value)) lane size file old next state after a =
      put-queues (is_first lane (joined lane file old).order) lane size (saves.begun file old.seq) (joined lane file old) next state after a
  put-wrote (nexts.Done (answers.Refused fault)) lane size file old next state after a =
      ((closed_answer (Some fault), ends-so size next (closed_answer (Some fault)) state a.next_is), put-ends lane file (Some fault) old next state after a)

  -- the stage of the put after it
  abbrev SizeOf : PutFile → ℕ
  SizeOf machine = length (writes.text_bytes machine.write.text)

  resized : (old after : ℕ) (stage : Stage) (next : Step) (state : Putting) (size later : ℕ) → later ≡ size → Verdict old after stage (outcome next (put_stage state size))
      → Verdict old after stage (outcome next (put_stage state later))
  resized old after stage next state size later same v = subst (λ (n : ℕ). Verdict old after stage (outcome next (put_stage state n))) (sym same) v

  rewritten : (machine new : PutFile) (told : Step) (state : Writing) (mid : Shelf) (file : List ℕ) (next : Step) (after : Shelf)
      → puts_.WritesOn wsize machine file turn told state mid next new after → SizeOf new ≡ SizeOf machine
  rewritten machine new told state mid file next after g = ap SizeOf g.machine_is

  put-opened : (step : OpeningStep) (machine : PutFile) (room : Bool) (old : Shelf) (next : Step) (new : PutFile) (after : Shelf) → machine.state ≡ puttings.Opens
      → puts_.AfterOpening step wsize machine turn old next new after
      → Verdict (all_pending old.back) (all_pending after.back) (putting (SizeOf machine) false) (outcome next (put_stage new.state (SizeOf new)))
  put-opened (openings.Send call) machine room old next new after opens_ a =
      same-verdict (all_pending old.back) (all_pending after.back) (putting (SizeOf machine) false) (put_stage new.state (SizeOf new)) next
      (ap (λ (m : PutFile). put_stage m.state (SizeOf m)) a.1 ∙ ap (λ (p : Putting). put_stage p (SizeOf machine)) opens_) (put-waits old after a.2)
  put-opened openings.Wait machine room old next new after opens_ a =
      same-verdict (all_pending old.back) (all_pending after.back) (putting (SizeOf machine) false) (put_stage new.state (SizeOf new)) next
      (ap (λ (m : PutFile). put_stage m.state (SizeOf m)) a.machine_is ∙ ap (λ (p : Putting). put_stage p (SizeOf machine)) opens_) (put-waits old after a.shelf_is)
  put-opened (openings.Ended (Ok file)) machine room old next new after opens_ a =
      let w = write-written wsize machine.write.lane file machine.write.offset (writes.made_bytes machine.write.text) turn (puts_.put_at machine.write.lane file old) a.told a.written a.mid a.writes in
      let all = wider (all_pending old.back) (all_pending old.back) (all_pending a.mid.back) (length (writes.made_bytes machine.write.text)) (SizeOf machine) a.told a.written
      (omega arith) (made-size machine.write.text) w in
      let f = put-wrote a.told machine.write.lane (SizeOf machine) file a.mid next new.state after a.goes.follows in
      resized (all_pending old.back) (all_pending after.back) (putting (SizeOf machine) false) next new.state (SizeOf machine) (SizeOf new)
      (rewritten machine new a.told a.written a.mid file next after a.goes)
      (put-verdict (all_pending old.back) (all_pending a.mid.back) (all_pending after.back) (SizeOf machine) false a.told a.written
      (outcome next (put_stage new.state (SizeOf machine))) all f.0 f.1)
  put-opened (openings.Ended (Err fault)) machine room old next new after opens_ a =
      ends (answers.Refused fault) (put-waits old after a.2) (ends-so (SizeOf new) next (answers.Refused fault) new.state a.0)

  put-room : (machine new : PutFile) (file : List ℕ) (room : Bool) (told : Step) (state : Writing) (old mid : Shelf) (next : Step) (after : Shelf)
      → Worked (all_pending old.back) (all_pending mid.back) (SizeOf machine) room told state → puts_.WritesOn wsize machine file turn told state mid next new after
      → Verdict (all_pending old.back) (all_pending after.back) (putting (SizeOf machine) true) (outcome next (put_stage new.state (SizeOf new)))
  put-room machine new file room told state old mid next after w g =
      let f = put-wrote told machine.write.lane (SizeOf machine) file mid next new.state after g.follows in
      resized (all_pending old.back) (all_pending after.back) (putting (SizeOf machine) true) next new.state (SizeOf machine) (SizeOf new)
      (rewritten machine new told state mid file next after g)
      (put-worked (all_pending old.back) (all_pending mid.back) (all_pending after.back) (SizeOf machine) told state (outcome next (put_stage new.state (SizeOf machine))) room w f.0 f.1)

  put-settles : (old after size : ℕ) (next : Step) (state : Putting) → Settles size next state → after ≤ old → Verdict old after settling (outcome next (put_stage state size))
  put-settles old after size next state (inl on_) less = rests less on_
  put-settles old after size next state (inr over_) less = ends over_.0 less over_.1

  stays-put : (at : Putting) (machine : PutFile) (old : Shelf) (next : Step) (new : PutFile) (after : Shelf) → machine.state ≡ at → puts_.Stays machine old next new after
      → Verdict (all_pending old.back) (all_pending after.back) (put_stage at (SizeOf machine)) (outcome next (put_stage new.state (SizeOf new)))
  stays-put at machine old next new after is s =
      same-verdict (all_pending old.back) (all_pending after.back) (put_stage at (SizeOf machine)) (put_stage new.state (SizeOf new)) next
      (ap (λ (m : PutFile). put_stage m.state (SizeOf m)) s.machine_is ∙ ap (λ (p : Putting). put_stage p (SizeOf machine)) is) (put-waits old after s.shelf_is)

  pub put-resumed : (at : Putting) (machine : PutFile) (old : Shelf) (next : Step) (new : PutFile) (after : Shelf) → machine.state ≡ at
      → puts_.Resumes at wsize machine turn old next new after
      → Verdict (all_pending old.back) (all_pending after.back) (put_stage at (SizeOf machine)) (outcome next (put_stage new.state (SizeOf new)))
  put-resumed puttings.Idle machine old next new after is s = stays-put puttings.Idle machine old next new after is s
  put-resumed puttings.Opens machine old next new after is s =
      same-verdict (all_pending old.back) (all_pending after.back) (putting (SizeOf machine) false) (put_stage new.state (SizeOf new)) next
      (ap (λ (m : PutFile). put_stage m.state (SizeOf m)) s.1 ∙ ap (λ (p : Putting). put_stage p (SizeOf machine)) is) (put-waits old after s.2)
  put-resumed (puttings.Adds file) machine old next new after is s =
      put-room machine new file (is_room machine.write.state) s.told s.written old s.mid next after
      (write-resumed machine.write.state wsize machine.write.lane (SizeOf machine) turn old s.told s.written s.mid s.resumes) s.goes
  put-resumed (puttings.Saves saving) machine old next new after is s =
      let f = put-queues (is_first machine.write.lane old.order) machine.write.lane (SizeOf machine) saving old next new.state after s.0 in
      resized (all_pending old.back) (all_pending after.back) settling next new.state (SizeOf machine) (SizeOf new) (ap SizeOf s.1)
      (put-settles (all_pending old.back) (all_pending after.back) (SizeOf machine) next new.state f.0 f.1)

  pub put-took : (at : Putting) (machine : PutFile) (sent : Turn) (came : Result Reply Fault) (old : Shelf) (next : Step) (new : PutFile) (after : Shelf) → machine.state ≡ at
      → puts_.Takes at wsize machine sent turn came old next new after
      → Verdict (all_pending old.back) (all_pending after.back) (put_stage at (SizeOf machine)) (outcome next (put_stage new.state (SizeOf new)))
  put-took puttings.Idle machine sent came old next new after is t = stays-put puttings.Idle machine old next new after is t
  put-took puttings.Opens machine sent came old next new after is t =
      let same = ap (λ (s : Shelf). all_pending s.back) t.others in
      subst (λ (n : ℕ). Verdict n (all_pending after.back) (putting (SizeOf machine) false) (outcome next (put_stage new.state (SizeOf new)))) same
      (put-opened t.step (puts_.led (opening.opening_again machine.opening sent turn came old.repeats) machine turn came t.took.attrs old.pages) false t.took next new after is t.follows)
  put-took (puttings.Adds file) machine sent came old next new after is t =
      put-room machine new file (is_room machine.write.state) t.told t.written old t.mid next after
      (write-took machine.write.state wsize machine.write sent turn came old t.told t.written t.mid t.takes) t.goes
  put-took (puttings.Saves saving) machine sent came old next new after is t =
      let one = t.0 in
      let f = put-follows one.gives machine.write.lane (SizeOf machine) one.saved one.took next new.state after one.follows in
      resized (all_pending old.back) (all_pending after.back) settling next new.state (SizeOf machine) (SizeOf new) (ap SizeOf t.1)
      (put-settles (all_pending old.back) (all_pending after.back) (SizeOf machine) next new.state f.0
      (less-less old.back one.took.back after.back
      (takes-less wsize sent turn came old.repeats saving old.back one.gives one.saved one.took.back one.took.repeats one.takes) f.1))

-- ---- a write or a fill, whole

module _ (wsize : ℕ) (machine : WriteFile) (turn : Turn) (old : Shelf) (next : Step) (new : WriteFile) (after : Shelf) where
  abbrev Size : ℕ
  Size = length (writes.text_bytes machine.text)

  abbrev Now : Type 0
  Now = Verdict (all_pending old.back) (all_pending after.back) (storing Size false) (outcome next (storing (length (writes.text_bytes new.text)) (is_room new.state)))

  write-unmade : (fault : Fault) → writes.RefusesUnmade fault machine old next new after → Now
  write-unmade fault r =
      ends (answers.Refused fault) (refuses-less fault old next new.state after r.refuses)
      (ap (λ (n : Step). outcome n (storing (length (writes.text_bytes new.text)) (is_room new.state))) r.refuses.gives_next)

  pub write-started : writes.Starts wsize machine turn old next new after → Now
  write-started s = at (file_to_write machine.lane machine.slot old.opens) s
    where
      at : (found : Result (List ℕ) Fault) → writes.StartsAt found wsize machine turn old next new after → Now
      at (Err fault) r = write-unmade fault r
      at (Ok file) (inr r) = write-unmade _ r
      at (Ok file) (inl m) =
          subst (λ (n : ℕ). Verdict (all_pending old.back) (all_pending after.back) (storing Size false) (outcome next (storing n (is_room new.state))))
          (sym (ap (λ (w : WriteFile). length (writes.text_bytes w.text)) m.text))
          (written-verdict (all_pending old.back) (all_pending after.back) Size false next new.state
          (write-written wsize machine.lane file machine.offset (writes.text_bytes machine.text) turn old next new.state after m.writes))
