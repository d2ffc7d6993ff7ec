-- What the steps of a close cost: the REMOVE of a last close. Its save's WRITEs and COMMITs don't count.
use Rattle.core_counts.proofs.Prelude.{◌≡◌, ◌≤◌, ◌+◌, inl, inr, ℕ, Bool, true, false, List, Option, Some, None, Result, refl, ap, ◌∙◌, arith, of_file, last_end, Fault, Call, Reply, Step, Repeat, Shelf, Turn, goes_again, repeats_after, is_first, CloseFile, Closing, Removal, Saving, refusal_of, remove_busy, file_at, joined, by-step, Saves}
use Rattle.file_ops.specs.Closings.{remove_of, closed_answer}
use Rattle.core_answers.proofs.asks.SavedCalls.{SavesOn, goes-on, takes-on}
use Rattle.client_shelf.specs.declared.step.Step.TheVariants as nexts
use Rattle.file_ops.specs.declared.close_file.Closing.TheVariants as closing
use Rattle.file_ops.specs.Closes as closes
use Rattle.file_ops.specs.Saves as saves
use Rattle.file_ops.specs.Syncs as syncs
use Rattle.world_model.specs.declared.answer.Answer.TheVariants as answers
use Rattle.world_model.specs.declared.answer.Fault.TheVariants as faults
use Rattle.core_facts.specs.InFlight.{of_closing}
use Rattle.core_counts.proofs.counts.equal.Costs.{Costs, costs-as, TakesCosts, repeats_it, goes_on, own-takes}
use Rattle.core_counts.proofs.counts.equal.Tables.{Tabled}
use Rattle.core_counts.proofs.counts.listed.Laws.{table-again}

abbrev pub close_left : Closing → ℕ
close_left closing.Idle = 1
close_left (closing.Queued saving) = 1
close_left (closing.Saves saving) = 1
close_left (closing.ToRemove removal) = 1
close_left (closing.Removing removal) = 0

close-most : (state : Closing) → close_left state ≤ 1
close-most closing.Idle = omega arith
close-most (closing.Queued saving) = omega arith
close-most (closing.Saves saving) = omega arith
close-most (closing.ToRemove removal) = omega arith
close-most (closing.Removing removal) = omega arith

module _ (P : Call → Type 0) (no_saved : (f : List ℕ) (call : Call) → Saves f call → P call → ⊥) where
  abbrev One : Step → Closing → Type 0
  One next state = Costs P 1 next (close_left state)

  one-as : (to next : Step) (s state : Closing) → next ≡ to → state ≡ s → One to s → One next state
  one-as to next s state next_is state_is c = costs-as P 1 to next (close_left s) (close_left state) next_is (ap close_left state_is) c

  one-waits : (s : Closing) (old : Shelf) (next : Step) (state : Closing) (new : Shelf) → closes.Waits s old next state new → One next state
  one-waits s old next state new w = one-as nexts.Wait next s state w.next_is w.state_is (close-most s)

  one-asks : (room : Bool) (removal : Removal) (next : Step) (state : Closing) → next ≡ closes.ask_next room removal → state ≡ closes.ask_state room removal → One next state
  one-asks true removal next state is at = one-as (nexts.Send (remove_of removal)) next (closing.Removing removal) state is at (omega arith, λ p. omega arith)
  one-asks false removal next state is at = one-as nexts.Wait next (closing.ToRemove removal) state is at (omega arith)

  one-ends-at : (place : Option (List ℕ × List ℕ)) (lane : ℕ) (room : Bool) (file : List ℕ) (why : Option Fault) (was : Shelf) (next : Step) (state : Closing) (new : Shelf)
      → closes.EndsAt place lane room file why was next state new → One next state
  one-ends-at None lane room file why was next state new e = costs-as P 1 (nexts.Done (closed_answer why)) next (close_left state) (close_left state) e.next_is refl tt
  one-ends-at (Some place) lane room file why was next state new e = one-asks room _ next state e.next_is e.state_is

  one-frees : (lane slot : ℕ) (room : Bool) (file : List ℕ) (why : Option Fault) (was : Shelf) (next : Step) (state : Closing) (new : Shelf) → closes.Frees lane slot room file why was next state new
      → One next state
  one-frees lane slot room file why was next state new f = one-ends-at f.place lane room file why f.freed next state new f.ends

  waits-most : (begun : Bool) (saving : Saving) → close_left (closes.waits_as begun saving) ≤ 1
  waits-most begun saving = close-most (closes.waits_as begun saving)

  one-follows : (gives : _) (f : List ℕ) (lane slot : ℕ) (room begun : Bool) (saved : Saving) (was : Shelf) (next : Step) (state : Closing) (new : Shelf) → SavesOn f (syncs.sync_next gives) saved
      → closes.Follows gives lane slot room begun saved was next state new → One next state
  one-follows gives f lane slot room begun saved was next state new k l = by-step
      (λ g. SavesOn f (syncs.sync_next g) saved → closes.Follows g lane slot room begun saved was next state new → One next state)
      (λ call j l. one-as (nexts.Send call) next (closing.Saves saved) state l.0 l.1 (omega arith, λ p. absurd (no_saved f call j.asks p)))
      (λ j l. one-as nexts.Wait next (closes.waits_as begun saved) state l.0 l.1 (waits-most begun saved))
      (λ result j l. one-frees lane slot room saved.file (refusal_of result) was next state new l)
      gives k l

  one-goes : (wsize lane slot : ℕ) (turn : Turn) (begun : Bool) (saving : Saving) (was : Shelf) (next : Step) (state : Closing) (new : Shelf)
      → closes.GoesOn wsize lane slot turn begun saving was next state new → One next state
  one-goes wsize lane slot turn begun saving was next state new g =
      one-follows g.gives saving.file lane slot turn.room begun g.saved g.gone next state new
      (goes-on saving.file wsize turn.xid turn.room false saving was.back g.gives g.saved g.gone.back refl g.goes) g.follows

  one-begins : (end : Option ℕ) (wsize lane slot : ℕ) (turn : Turn) (saving : Saving) (was : Shelf) (next : Step) (state : Closing) (new : Shelf)
      → closes.Begins end wsize lane slot turn saving was next state new → One next state
  one-begins None wsize lane slot turn saving was next state new b = one-frees lane slot turn.room saving.file None was next state new b
  one-begins (Some end) wsize lane slot turn saving was next state new b = one-goes wsize lane slot turn false saving was next state new b

  one-queues : (b : Bool) (wsize lane slot : ℕ) (turn : Turn) (saving : Saving) (was : Shelf) (next : Step) (state : Closing) (new : Shelf)
      → closes.QueuesIf b wsize lane slot turn saving was next state new → One next state
  one-queues true wsize lane slot turn saving was next state new q = one-begins (last_end (of_file saving.file was.back).segments) wsize lane slot turn saving was next state new q
  one-queues false wsize lane slot turn saving was next state new q = one-waits (closing.Queued saving) was next state new q

  starts-at : (found : Option (List ℕ)) (wsize : ℕ) (m : CloseFile) (turn : Turn) (was : Shelf) (next : Step) (state : Closing) (new : Shelf) → closes.StartsAt found wsize m turn was next state new
      → One next state
  starts-at None wsize m turn was next state new s = costs-as P 1 (nexts.Done (answers.Refused faults.Slot)) next (close_left state) (close_left state) s.next_is refl tt
  starts-at (Some file) wsize m turn was next state new s =
      one-queues (is_first m.lane (joined m.lane file was).order) wsize m.lane m.slot turn (saves.begun file was.seq) (joined m.lane file was) next state new s

  pub close-starts : (wsize : ℕ) (m : CloseFile) (turn : Turn) (was : Shelf) (next : Step) (state : Closing) (new : Shelf) → closes.Starts wsize m turn was next state new → Costs P 1 next (close_left state)
  close-starts wsize m turn was next state new s = starts-at (file_at m.lane m.slot was.opens) wsize m turn was next state new s

  one-on : (b : Bool) (wsize lane slot : ℕ) (turn : Turn) (saving : Saving) (was : Shelf) (next : Step) (state : Closing) (new : Shelf)
      → closes.GoesOnIf b wsize lane slot turn saving was next state new → One next state
  one-on true wsize lane slot turn saving was next state new g = one-goes wsize lane slot turn true saving was next state new g
  one-on false wsize lane slot turn saving was next state new g = one-waits (closing.Saves saving) was next state new g

  pub close-resumes : (at : Closing) (wsize : ℕ) (m : CloseFile) (turn : Turn) (was : Shelf) (next : Step) (state : Closing) (new : Shelf) → closes.Resumes at wsize m turn was next state new
      → Costs P (close_left at) next (close_left state)
  close-resumes closing.Idle wsize m turn was next state new r = one-waits closing.Idle was next state new r
  close-resumes (closing.Queued saving) wsize m turn was next state new r = one-queues (is_first m.lane was.order) wsize m.lane m.slot turn saving was next state new r
  close-resumes (closing.Saves saving) wsize m turn was next state new r = one-on (is_first m.lane was.order) wsize m.lane m.slot turn saving was next state new r
  close-resumes (closing.ToRemove removal) wsize m turn was next state new r = one-asks turn.room removal next state r.next_is r.state_is
  close-resumes (closing.Removing removal) wsize m turn was next state new r = costs-as P 0 nexts.Wait next 0 (close_left state) r.next_is (ap close_left r.state_is) (omega arith)

  by-table : (sent turn : Turn) (old : List Repeat) (next : Step) (state : Closing) (later : List Repeat) → Tabled sent turn old next later → One next state
      → TakesCosts P 1 sent turn old next (close_left state) later
  by-table sent turn old next state later (inl k) c = repeats_it k.2 (close-most state)
  by-table sent turn old next state later (inr table) c = goes_on table c

  removed-takes : (b : Bool) (lane : ℕ) (sent turn : Turn) (came : Result Reply Fault) (removal : Removal) (was took : Shelf) (next : Step) (state : Closing) (new : Shelf)
      → goes_again (remove_busy came) sent turn was.repeats ≡ b → took.repeats ≡ repeats_after (remove_busy came) sent turn was.repeats → closes.EndsIf b lane removal took next state new
      → TakesCosts P 0 sent turn was.repeats next (close_left state) new.repeats
  removed-takes true lane sent turn came removal was took next state new is table e =
      own-takes P 0 true (remove_busy came) sent turn was.repeats next (close_left state) new.repeats is (ap (λ (s : Shelf). s.repeats) e.shelf_is ∙ table)
      (let same = ap close_left e.state_is in omega (arith, same)) (λ calm. absurd (let no_way : true ≡ false = calm in cc))
  removed-takes false lane sent turn came removal was took next state new is table e =
      goes_on (table-again false (remove_busy came) sent turn was.repeats new.repeats is (ap (λ (s : Shelf). s.repeats) e.others ∙ table))
      (costs-as P 0 (nexts.Done (closed_answer removal.refusal)) next (close_left state) (close_left state) e.next_is refl tt)

  pub close-takes : (at : Closing) (wsize : ℕ) (m : CloseFile) (sent turn : Turn) (came : Result Reply Fault) (was : Shelf) (next : Step) (state : Closing) (new : Shelf) (others : ℕ)
      → of_closing at ≡ others + 1 → Tabled sent turn was.repeats next new.repeats → closes.Takes at wsize m sent turn came was next state new
      → TakesCosts P (close_left at) sent turn was.repeats next (close_left state) new.repeats
  close-takes closing.Idle wsize m sent turn came was next state new others flight w t = absurd (omega (arith, flight))
  close-takes (closing.Queued saving) wsize m sent turn came was next state new others flight w t = absurd (omega (arith, flight))
  close-takes (closing.Saves saving) wsize m sent turn came was next state new others flight w t =
      by-table sent turn was.repeats next state new.repeats w
      (one-follows t.gives saving.file m.lane m.slot turn.room true t.saved t.took next state new
      (takes-on saving.file wsize sent turn came was.repeats saving was.back t.gives t.saved t.took.back t.took.repeats refl t.takes) t.follows)
  close-takes (closing.ToRemove removal) wsize m sent turn came was next state new others flight w t = absurd (omega (arith, flight))
  close-takes (closing.Removing removal) wsize m sent turn came was next state new others flight w t =
      removed-takes (goes_again (remove_busy came) sent turn was.repeats) m.lane sent turn came removal was t.took next state new refl (ap (λ (s : Shelf). s.repeats) t.others) t.ends
