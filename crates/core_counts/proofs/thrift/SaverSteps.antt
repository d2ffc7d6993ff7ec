-- Puts whose bytes are pending, or for which room is made, stay such until they are answered.
use Rattle.core_counts.proofs.Prelude.{◌≡◌, ℕ, Bool, true, false, List, Result, sym, subst, Answer, Fault, Reply, Step, Shelf, Turn, is_first, PutFile, Putting, Saving, Writing, joined, by-step, ThenOf}
use Rattle.world_model.specs.declared.answer.Answer.TheVariants as answers
use Rattle.client_shelf.specs.declared.step.Step.TheVariants as nexts
use Rattle.file_ops.specs.declared.put_file.Putting.TheVariants as putting
use Rattle.file_ops.specs.PutFile as puts
use Rattle.file_ops.specs.Saves as saves

-- its bytes are pending, or room is made for them
abbrev pub StateSaves : Putting → Type 0
StateSaves putting.Idle = ⊥
StateSaves putting.Opens = ⊥
StateSaves (putting.Adds file) = Unit {0}
StateSaves (putting.Saves s) = Unit {0}

abbrev pub PutSaves : PutFile → Type 0
PutSaves p = StateSaves p.state

-- ---- what a step leads to

abbrev pub PutStays : Step → PutFile → Type 0
PutStays next new = ThenOf PutSaves (λ answer. Unit {0}) next new

pub stays-any : {S : Type 0} → (Is : S → Type 0) (next : Step) (new : S) → Is new → ThenOf Is (λ answer. Unit {0}) next new
stays-any Is (nexts.Send call) new own = own
stays-any Is nexts.Wait new own = own
stays-any Is (nexts.Done answer) new own = tt

pub stays-done : {S : Type 0} → (Is : S → Type 0) (answer : Answer) (next : Step) (new : S) → next ≡ nexts.Done answer → ThenOf Is (λ answer. Unit {0}) next new
stays-done Is answer next new is = subst (λ (n : Step). ThenOf Is (λ answer. Unit {0}) n new) (sym is) tt

abbrev at_state : PutFile → Putting → PutFile
at_state p state = record p { state = state }

in-state : (next : Step) (p : PutFile) (to state : Putting) → state ≡ to → StateSaves to → PutStays next (at_state p state)
in-state next p to state is own = stays-any PutSaves next (at_state p state) (subst StateSaves (sym is) own)

put-follows : (gives : _) (lane : ℕ) (saved : Saving) (old : Shelf) (next : Step) (p : PutFile) (state : Putting) (after : Shelf) → puts.Follows gives lane saved old next state after
    → PutStays next (at_state p state)
put-follows gives lane saved old next p state after f = by-step
    (λ g. puts.Follows g lane saved old next state after → PutStays next (at_state p state))
    (λ call l. in-state next p (putting.Saves saved) state l.1 tt)
    (λ l. in-state next p (putting.Saves saved) state l.1 tt)
    (λ result l. stays-done PutSaves _ next (at_state p state) l.next_is)
    gives f

put-queues : (b : Bool) (wsize lane : ℕ) (turn : Turn) (s : Saving) (old : Shelf) (next : Step) (p : PutFile) (state : Putting) (after : Shelf)
    → puts.QueuesIf b wsize lane turn s old next state after → PutStays next (at_state p state)
put-queues true wsize lane turn s old next p state after q = put-follows q.gives lane q.saved q.gone next p state after q.follows
put-queues false wsize lane turn s old next p state after q = in-state next p (putting.Saves s) state q.state_is tt

-- after a step of its write
after-write : (told : Step) (wsize lane : ℕ) (file : List ℕ) (turn : Turn) (old : Shelf) (next : Step) (p : PutFile) (state : Putting) (after : Shelf)
    → puts.AfterWrite told wsize lane file turn old next state after → PutStays next (at_state p state)
after-write (nexts.Send call) wsize lane file turn old next p state after a = in-state next p (putting.Adds file) state a.1 tt
after-write nexts.Wait wsize lane file turn old next p state after a = in-state next p (putting.Adds file) state a.1 tt
after-write (nexts.Done (answers.Done value)) wsize lane file turn old next p state after a =
    put-queues (is_first lane (joined lane file old).order) wsize lane turn (saves.begun file old.seq) (joined lane file old) next p state after a
after-write (nexts.Done (answers.Refused fault)) wsize lane file turn old next p state after a = stays-done PutSaves _ next (at_state p state) a.next_is

writes-then : (wsize : ℕ) (m : PutFile) (file : List ℕ) (turn : Turn) (told : Step) (written : Writing) (mid : Shelf) (next : Step) (new : PutFile) (after : Shelf)
    → puts.WritesOn wsize m file turn told written mid next new after → PutStays next new
writes-then wsize m file turn told written mid next new after w =
    subst (PutStays next) (sym w.machine_is)
    (after-write told wsize m.write.lane file turn mid next (record m { write = record m.write { state = written } }) new.state after w.follows)

pub adds-then : (wsize : ℕ) (m : PutFile) (file : List ℕ) (turn : Turn) (old : Shelf) (next : Step) (new : PutFile) (after : Shelf) → puts.AddsBytes wsize m file turn old next new after
    → PutStays next new
adds-then wsize m file turn old next new after a = writes-then wsize m file turn a.told a.written a.mid next new after a.goes

-- ---- the steps

pub put-resumes : (at : Putting) (wsize : ℕ) (m : PutFile) (turn : Turn) (old : Shelf) (next : Step) (new : PutFile) (after : Shelf) → StateSaves at
    → puts.Resumes at wsize m turn old next new after → PutStays next new
put-resumes putting.Idle wsize m turn old next new after own r = absurd own
put-resumes putting.Opens wsize m turn old next new after own r = absurd own
put-resumes (putting.Adds file) wsize m turn old next new after own r = writes-then wsize m file turn r.told r.written r.mid next new after r.goes
put-resumes (putting.Saves s) wsize m turn old next new after own r =
    subst (PutStays next) (sym r.1) (put-queues (is_first m.write.lane old.order) wsize m.write.lane turn s old next m new.state after r.0)

pub put-takes : (at : Putting) (wsize : ℕ) (m : PutFile) (sent turn : Turn) (came : Result Reply Fault) (old : Shelf) (next : Step) (new : PutFile) (after : Shelf) → StateSaves at
    → puts.Takes at wsize m sent turn came old next new after → PutStays next new
put-takes putting.Idle wsize m sent turn came old next new after own t = absurd own
put-takes putting.Opens wsize m sent turn came old next new after own t = absurd own
put-takes (putting.Adds file) wsize m sent turn came old next new after own t = writes-then wsize m file turn t.told t.written t.mid next new after t.goes
put-takes (putting.Saves s) wsize m sent turn came old next new after own t =
    subst (PutStays next) (sym t.1) (put-follows t.0.gives m.write.lane t.0.saved t.0.took next m new.state after t.0.follows)
