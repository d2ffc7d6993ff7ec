-- Where a close is refused and no slot holds its file any more, nothing of it is pending: the steps of its machine.
use Rattle.core_session.proofs.Prelude.{◌≡◌, ◌&&◌, inl, inr, ℕ, Bool, true, false, not, List, [], Option, Some, None, Result, Err, slice_get, refl, sym, ap, subst, ◌∙◌, Opens, IsOpen, Answer, Fault, Call, Reply, last_end, Pending, of_file, HasNoPiece, nothing, Step, Shelf, Turn, goes_again, is_first, CloseFile, Closing, Removal, Saving, TellsOpen, GivesUpBy, closed_answer, remove_busy, refusal_of, remove_of, is_quiet, file_at, joined, by-step, Machine, Starts, Resumes, Takes, State, Busy, Over, Leads, IsRefused, View, turn_at, unmade_turn, at-set, file_in}
use Rattle.file_ops.specs.Closings.{GivesIf, GivesUp}
use Rattle.file_ops.specs.Quiet.{are_none}
use Rattle.world_model.specs.declared.answer.Answer.TheVariants as answers
use Rattle.client_shelf.specs.declared.step.Step.TheVariants as nexts
use Rattle.file_ops.specs.declared.close_file.Closing.TheVariants as closing
use Rattle.file_ops.specs.Closes as closes
use Rattle.file_ops.specs.Saves as saves
use Rattle.op_machines.specs.declared.file_machine.FileMachine.TheVariants as files
use Rattle.op_machines.specs.declared.machine.Machine.TheVariants as machines
use Rattle.core_session.proofs.drops.LaneIs.{state-is, busy-over}
use Rattle.core_session.proofs.drops.SaveFiles.{goes-save, takes-save}

some-file : (a b : List ℕ) → Some a ≡ Some b → a ≡ b
some-file a b e = cc

refused-one : (a b : Fault) → answers.Refused a ≡ answers.Refused b → a ≡ b
refused-one a b e = cc

module _ (f : List ℕ) where
  -- nothing is pending, unless something is in flight
  abbrev pub Emptied : Pending → Type 0
  Emptied b = HasNoPiece f b → of_file f b ≡ nothing

  -- what a step leaves: a close of the file still, or nothing where it was refused
  abbrev pub Leaves_ : Step → Closing → Shelf → Type 0
  Leaves_ (nexts.Send call) state new = file_in state ≡ Some f
  Leaves_ nexts.Wait state new = file_in state ≡ Some f
  Leaves_ (nexts.Done (answers.Done value)) state new = Unit {0}
  Leaves_ (nexts.Done (answers.Refused fault)) state new = (IsOpen new.opens f → ⊥) → Emptied new.back

  given-up : (opens : Opens) (old new : Pending) → GivesUp f opens old new → (IsOpen opens f → ⊥) → Emptied new
  given-up opens old new g shut = by g.is_open g.told g.back
    where
      quiet : (b : Bool) → is_quiet f old ≡ b → GivesIf b f old new → Emptied new
      quiet true is on none = on.here
      quiet false is same none =
          let pieces : (of_file f old).pieces ≡ [] = sym (ap (λ (p : Pending). (of_file f p).pieces) same) ∙ none in
          absurd (let no_way : true ≡ false = sym (ap are_none pieces) ∙ is in cc)

      by : (b : Bool) → TellsOpen opens f b → GivesIf (not b && is_quiet f old) f old new → Emptied new
      by true t back = absurd (shut t)
      by false t back = quiet (is_quiet f old) refl back

  sends : (call : Call) (aim : Closing) (next : Step) (state : Closing) (new : Shelf) → next ≡ nexts.Send call → state ≡ aim → file_in aim ≡ Some f → Leaves_ next state new
  sends call aim next state new n s is = subst (λ (z : Step). Leaves_ z state new) (sym n) (ap file_in s ∙ is)

  waits : (aim : Closing) (next : Step) (state : Closing) (new : Shelf) → next ≡ nexts.Wait → state ≡ aim → file_in aim ≡ Some f → Leaves_ next state new
  waits aim next state new n s is = subst (λ (z : Step). Leaves_ z state new) (sym n) (ap file_in s ∙ is)

  ends : (lane : ℕ) (file : List ℕ) (refusal : Option Fault) (old : Shelf) (next : Step) (state : Closing) (new : Shelf) → file ≡ f → closes.Ends lane file refusal old next state new
      → Leaves_ next state new
  ends lane file refusal old next state new same e = by refusal e.next_is e.back
    where
      opens : new.opens ≡ old.opens
      opens = ap (λ (k : Shelf). k.opens) e.others

      by : (r : Option Fault) → next ≡ nexts.Done (closed_answer r) → GivesUpBy r file old.opens old.back new.back → Leaves_ next state new
      by None n g = subst (λ (z : Step). Leaves_ z state new) (sym n) tt
      by (Some fault) n g =
          subst (λ (z : Step). Leaves_ z state new) (sym n)
          (λ shut. given-up old.opens old.back new.back (subst (λ (z : List ℕ). GivesUp z old.opens old.back new.back) same g) (λ o. shut (subst (λ (t : Opens). IsOpen t f) (sym opens) o)))

  asks : (b : Bool) (removal : Removal) (old : Shelf) (next : Step) (state : Closing) (new : Shelf) → removal.file ≡ f → closes.Asks b removal old next state new → Leaves_ next state new
  asks true removal old next state new same a = sends (remove_of removal) (closing.Removing removal) next state new a.next_is a.state_is (ap Some same)
  asks false removal old next state new same a = waits (closing.ToRemove removal) next state new a.next_is a.state_is (ap Some same)

  frees : (lane slot : ℕ) (room : Bool) (file : List ℕ) (refusal : Option Fault) (old : Shelf) (next : Step) (state : Closing) (new : Shelf) → file ≡ f
      → closes.Frees lane slot room file refusal old next state new → Leaves_ next state new
  frees lane slot room file refusal old next state new same e = by e.place e.ends
    where
      by : (place : Option (List ℕ × List ℕ)) → closes.EndsAt place lane room file refusal e.freed next state new → Leaves_ next state new
      by None k = ends lane file refusal e.freed next state new same k
      by (Some place) k = asks room (record { file = file; dir = place.0; name = place.1; refusal = refusal }) e.freed next state new same k

  follows : (gives : _) (lane slot : ℕ) (room begun : Bool) (saved : Saving) (old : Shelf) (next : Step) (state : Closing) (new : Shelf) → saved.file ≡ f
      → closes.Follows gives lane slot room begun saved old next state new → Leaves_ next state new
  follows gives lane slot room begun saved old next state new same k = by-step
      (λ g. closes.Follows g lane slot room begun saved old next state new → Leaves_ next state new)
      (λ call l. sends call (closing.Saves saved) next state new l.0 l.1 (ap Some same))
      (λ l. waiting begun l.0 l.1)
      (λ result l. frees lane slot room saved.file (refusal_of result) old next state new same l)
      gives k
    where
      waiting : (b : Bool) → next ≡ nexts.Wait → state ≡ closes.waits_as b saved → Leaves_ next state new
      waiting true n s = waits (closing.Saves saved) next state new n s (ap Some same)
      waiting false n s = waits (closing.Queued saved) next state new n s (ap Some same)

  goes : (wsize lane slot : ℕ) (turn : Turn) (begun : Bool) (s : Saving) (old : Shelf) (next : Step) (state : Closing) (new : Shelf) → s.file ≡ f
      → closes.GoesOn wsize lane slot turn begun s old next state new → Leaves_ next state new
  goes wsize lane slot turn begun s old next state new same k =
      follows k.gives lane slot turn.room begun k.saved k.gone next state new
      ((goes-save s.file s.upto wsize turn.xid turn.room false s old.back k.gives k.saved k.gone.back (record { file_is = refl; upto_is = refl }) k.goes).file_is ∙ same) k.follows

  queues : (b : Bool) (wsize lane slot : ℕ) (turn : Turn) (s : Saving) (old : Shelf) (next : Step) (state : Closing) (new : Shelf) → s.file ≡ f
      → closes.QueuesIf b wsize lane slot turn s old next state new → Leaves_ next state new
  queues false wsize lane slot turn s old next state new same k = waits (closing.Queued s) next state new k.next_is k.state_is (ap Some same)
  queues true wsize lane slot turn s old next state new same k = by (last_end (of_file s.file old.back).segments) k
    where
      by : (end : Option ℕ) → closes.Begins end wsize lane slot turn s old next state new → Leaves_ next state new
      by None e = frees lane slot turn.room s.file None old next state new same e
      by (Some end) e = goes wsize lane slot turn false s old next state new same e

  resumes-at : (at : Closing) (wsize : ℕ) (m : CloseFile) (turn : Turn) (old : Shelf) (next : Step) (state : Closing) (new : Shelf) → file_in at ≡ Some f
      → closes.Resumes at wsize m turn old next state new → Leaves_ next state new
  resumes-at closing.Idle wsize m turn old next state new is r = absurd (let no_way : None ≡ Some f = is in cc)
  resumes-at (closing.Queued s) wsize m turn old next state new is r = queues (is_first m.lane old.order) wsize m.lane m.slot turn s old next state new (some-file s.file f is) r
  resumes-at (closing.Saves s) wsize m turn old next state new is r = by (is_first m.lane old.order) r
    where
      by : (b : Bool) → closes.GoesOnIf b wsize m.lane m.slot turn s old next state new → Leaves_ next state new
      by true k = goes wsize m.lane m.slot turn true s old next state new (some-file s.file f is) k
      by false k = waits (closing.Saves s) next state new k.next_is k.state_is is
  resumes-at (closing.ToRemove r) wsize m turn old next state new is k = asks turn.room r old next state new (some-file r.file f is) k
  resumes-at (closing.Removing r) wsize m turn old next state new is k = waits (closing.Removing r) next state new k.next_is k.state_is is

  takes-at : (at : Closing) (wsize : ℕ) (m : CloseFile) (sent turn : Turn) (came : Result Reply Fault) (old : Shelf) (next : Step) (state : Closing) (new : Shelf) → file_in at ≡ Some f
      → closes.Takes at wsize m sent turn came old next state new → Leaves_ next state new
  takes-at closing.Idle wsize m sent turn came old next state new is k = absurd (let no_way : None ≡ Some f = is in cc)
  takes-at (closing.Queued s) wsize m sent turn came old next state new is k = waits (closing.Queued s) next state new k.next_is k.state_is is
  takes-at (closing.Saves s) wsize m sent turn came old next state new is k =
      follows k.gives m.lane m.slot turn.room true k.saved k.took next state new
      ((takes-save s.file s.upto wsize sent turn came old.repeats s old.back k.gives k.saved k.took.back k.took.repeats (record { file_is = refl; upto_is = refl }) k.takes).file_is ∙ some-file s.file f is) k.follows
  takes-at (closing.ToRemove r) wsize m sent turn came old next state new is k = waits (closing.ToRemove r) next state new k.next_is k.state_is is
  takes-at (closing.Removing r) wsize m sent turn came old next state new is k = by (goes_again (remove_busy came) sent turn old.repeats) k.ends
    where
      by : (b : Bool) → closes.EndsIf b m.lane r k.took next state new → Leaves_ next state new
      by true e = sends (remove_of r) (closing.Removing r) next state new e.next_is e.state_is is
      by false e = ends m.lane r.file r.refusal k.took next state new (some-file r.file f is) e

  -- one that begins; unless it waits, it is the first
  starts-at : (wsize : ℕ) (m : CloseFile) (turn : Turn) (old : Shelf) (next : Step) (state : Closing) (new : Shelf) → file_at m.lane m.slot old.opens ≡ Some f
      → closes.Starts wsize m turn old next state new → Leaves_ next state new × ((next ≡ nexts.Wait → ⊥) → is_first m.lane (joined m.lane f old).order ≡ true)
  starts-at wsize m turn old next state new at s = by (file_at m.lane m.slot old.opens) at s
    where
      one : (file : List ℕ) (b : Bool) → is_first m.lane (joined m.lane file old).order ≡ b → closes.QueuesIf b wsize m.lane m.slot turn (saves.begun file old.seq) (joined m.lane file old) next state new
          → (next ≡ nexts.Wait → ⊥) → is_first m.lane (joined m.lane file old).order ≡ true
      one file true is q goes_ = is
      one file false is q goes_ = absurd (goes_ q.next_is)

      by : (found : Option (List ℕ)) → found ≡ Some f → closes.StartsAt found wsize m turn old next state new
          → Leaves_ next state new × ((next ≡ nexts.Wait → ⊥) → is_first m.lane (joined m.lane f old).order ≡ true)
      by None is k = absurd (let no_way : None ≡ Some f = is in cc)
      by (Some file) is k =
          let same = some-file file f is in (
            queues (is_first m.lane (joined m.lane file old).order) wsize m.lane m.slot turn (saves.begun file old.seq) (joined m.lane file old) next state new same k,
            λ goes_. subst (λ (z : List ℕ). is_first m.lane (joined m.lane z old).order ≡ true) same (one file (is_first m.lane (joined m.lane file old).order) refl k goes_),
          )

  -- ---- the machine

  pub record StaysClose (next : Step) (new : Machine) (after : Shelf) : Type 0 where
    pub c : CloseFile
    pub is : new ≡ machines.File (files.Close c)
    pub leaves : Leaves_ next c.state after

  pub close-resumes : (machine : Machine) (c : CloseFile) → machine ≡ machines.File (files.Close c) → file_in c.state ≡ Some f → (wsize : ℕ) (turn : Turn) (old : Shelf) (next : Step) (new : Machine) (after : Shelf)
      → Resumes wsize machine turn old next new after → StaysClose next new after
  close-resumes machine c is file wsize turn old next new after s = by (subst (λ (m : Machine). Resumes wsize m turn old next new after) is s)
    where
      by : Resumes wsize (machines.File (files.Close c)) turn old next new after → StaysClose next new after
      by r = record {
        c = record c { state = r.step.state };
        is = r.machine_is ∙ ap machines.File r.step.machine_is;
        leaves = resumes-at c.state wsize c turn old next r.step.state after file r.step.step;
      }

  pub close-takes : (machine : Machine) (c : CloseFile) → machine ≡ machines.File (files.Close c) → file_in c.state ≡ Some f → (wsize : ℕ) (sent turn : Turn) (came : Result Reply Fault) (old : Shelf) (next : Step) (new : Machine)
      (after : Shelf) → Takes wsize machine sent turn came old next new after → StaysClose next new after
  close-takes machine c is file wsize sent turn came old next new after s = by (subst (λ (m : Machine). Takes wsize m sent turn came old next new after) is s)
    where
      by : Takes wsize (machines.File (files.Close c)) sent turn came old next new after → StaysClose next new after
      by r = record {
        c = record c { state = r.step.state };
        is = r.machine_is ∙ ap machines.File r.step.machine_is;
        leaves = takes-at c.state wsize c sent turn came old next r.step.state after file r.step.step;
      }

  pub close-starts : (machine : Machine) (c : CloseFile) → machine ≡ machines.File (files.Close c) → (wsize : ℕ) (turn : Turn) (old : Shelf) (next : Step) (new : Machine) (after : Shelf) → file_at c.lane c.slot old.opens ≡ Some f
      → Starts wsize machine turn old next new after → StaysClose next new after × ((next ≡ nexts.Wait → ⊥) → is_first c.lane (joined c.lane f old).order ≡ true)
  close-starts machine c is wsize turn old next new after at s = by (subst (λ (m : Machine). Starts wsize m turn old next new after) is s)
    where
      by : Starts wsize (machines.File (files.Close c)) turn old next new after → StaysClose next new after × ((next ≡ nexts.Wait → ⊥) → is_first c.lane (joined c.lane f old).order ≡ true)
      by r =
          let k = starts-at wsize c turn old next r.step.state after at r.step.step in
          (record { c = record c { state = r.step.state }; is = r.machine_is ∙ ap machines.File r.step.machine_is; leaves = k.0 }, k.1)

  -- ---- the lane

  over-is : (a b : Answer) → Over a ≡ Over b → a ≡ b
  over-is a b e = cc

  at-end : (next : Step) (new : Machine) (after : Shelf) (answer : Answer) (fault : Fault) → StaysClose next new after → next ≡ nexts.Done answer → answer ≡ answers.Refused fault
      → (IsOpen after.opens f → ⊥) → Emptied after.back
  at-end next new after answer fault k n a = subst (λ (z : Step). Leaves_ z k.c.state after) (n ∙ ap nexts.Done a) k.leaves

  pub leads-emptied : (v new : View) (at number : ℕ) (machine : Machine) (next : Step) → slice_get v.lanes at ≡ Some (record { number = number; state = Busy machine }) → Leads v at number machine next new
      → StaysClose next machine v.shelf → (state : State) → slice_get new.lanes at ≡ Some (record { number = number; state = state }) → (fault : Fault) → state ≡ Over (answers.Refused fault)
      → (IsOpen new.shelf.opens f → ⊥) → Emptied new.shelf.back × (next ≡ nexts.Wait → ⊥)
  leads-emptied v new at number machine (nexts.Send call) there (inl made) k state here fault is shut =
      let lanes : slice_get new.lanes at ≡ slice_get v.lanes at = ap (λ (z : View). slice_get z.lanes at) made.is in
      let busy : state ≡ Busy machine = state-is state (Busy machine) number number (sym here ∙ lanes ∙ there) in
      absurd (busy-over machine (answers.Refused fault) (sym busy ∙ is))
  leads-emptied v new at number machine (nexts.Send call) there (inr r) k state here fault is shut = (
    by r.next refl r.leads,
    λ e. absurd cc,
  )
    where
      lanes : slice_get new.lanes at ≡ Some (record { number = number; state = r.state })
      lanes = ap (λ (z : View). slice_get z.lanes at) r.is ∙ at-set v.lanes at (record { number = number; state = Busy machine }) (record { number = number; state = r.state }) there

      over : r.state ≡ Over (answers.Refused fault)
      over = sym (state-is state r.state number number (sym here ∙ lanes)) ∙ is

      took : StaysClose r.next r.after r.left
      took = close-takes machine k.c k.is k.leaves v.wsize (turn_at v) (unmade_turn v) (Err r.fault) v.shelf r.next r.after r.left r.takes

      shut_ : IsOpen r.left.opens f → ⊥
      shut_ o = shut (subst (λ (z : View). IsOpen z.shelf.opens f) (sym r.is) o)

      by : (n : Step) → r.next ≡ n → IsRefused r.after n r.state → Emptied new.shelf.back
      by (nexts.Send again) e l = absurd l
      by nexts.Wait e l = absurd (busy-over r.after (answers.Refused fault) (sym l ∙ over))
      by (nexts.Done answer) e l =
          subst (λ (z : View). Emptied z.shelf.back) (sym r.is) (at-end r.next r.after r.left answer fault took e (over-is answer (answers.Refused fault) (sym l ∙ over)) shut_)
  leads-emptied v new at number machine nexts.Wait there same k state here fault is shut =
      let lanes : slice_get new.lanes at ≡ slice_get v.lanes at = ap (λ (z : View). slice_get z.lanes at) same in
      let busy : state ≡ Busy machine = state-is state (Busy machine) number number (sym here ∙ lanes ∙ there) in
      absurd (busy-over machine (answers.Refused fault) (sym busy ∙ is))
  leads-emptied v new at number machine (nexts.Done answer) there same k state here fault is shut =
      let lanes : slice_get new.lanes at ≡ Some (record { number = number; state = Over answer }) =
      ap (λ (z : View). slice_get z.lanes at) same ∙ at-set v.lanes at (record { number = number; state = Busy machine }) (record { number = number; state = Over answer }) there in
      let over : state ≡ Over answer = state-is state (Over answer) number number (sym here ∙ lanes) in (
        subst (λ (z : View). Emptied z.shelf.back) (sym same)
            (at-end (nexts.Done answer) machine v.shelf answer fault k refl (over-is answer (answers.Refused fault) (sym over ∙ is)) (λ o. shut (subst (λ (z : View). IsOpen z.shelf.opens f) (sym same) o))),
        λ e. absurd cc,
      )
