-- What a lane's whole step leads to: its machine's step, and the one at a call that isn't made.
use Rattle.core_session.proofs.Prelude.{◌≡◌, ◌≢◌, ◌≤◌, inl, inr, ℕ, Bool, true, false, nat_eq, List, Option, Some, None, option_map, Err, slice_get, refl, sym, ap, subst, ◌∙◌, arith, eqb-true, eqb-false, Waiting, next_xid, waiting_at, Fault, Entry, Call, Pending, IsFree, Turn, Step, Saving, IsUnused, FileMachine, Machine, Opener, file_of, Takes, Lane, Purpose, State, Busy, Over, Setup, Leads, View, turn_at, unmade_turn, in_flight, AreApart, seat_of, IsLive, flies_of, purpose_at, at-set, look-at, Sits, SitsWith, seat_with, seat-own, seat-other, same-sits, seat_state, seat_in, Rows, set-other, After, Free, waits-late, SameUnder, Shelf}
use Rattle.core_facts.proofs.Flights.{Flies}
use Rattle.world_model.specs.declared.answer.Answer.TheVariants as answers
use Rattle.world_model.specs.declared.answer.Value.TheVariants.{Nothing}
use Rattle.client_shelf.specs.declared.step.Step.TheVariants as nexts
use Rattle.op_machines.specs.declared.file_machine.FileMachine.TheVariants as files
use Rattle.op_machines.specs.declared.opener.Opener.TheVariants as openers
use Rattle.op_machines.specs.declared.machine.Machine.TheVariants as machines
use Rattle.core_facts.proofs.Flown.{Flown, sender, look_at}
use Rattle.core_answers.proofs.writes.AllFits as fitting
use Rattle.core_session.proofs.saves.WholeSteps.{IsSent, Has}
use Rattle.core_session.proofs.syncs.AllJobs.{JobFin, JobKnown, all-takes}
use Rattle.core_session.proofs.syncs.Fates.{file_kind, save-is, job_kind, take-kind, live-lane}
use Rattle.core_session.proofs.syncs.Jobs.{WriteKnown, JobLaws}
use Rattle.core_session.proofs.syncs.Levels.{Owner, ContentReplies, SaveNow}
use Rattle.core_session.proofs.syncs.Passing.{Tale, Ways, Shown, job-in, shown, goes-on, again}
use Rattle.core_session.proofs.syncs.UnmadeOpens.{unmade-opens}
use Rattle.core_session.proofs.syncs.Working.{Moves, GivesPut, Alone, job-laws, job-replies}

-- how the end of a write is known
abbrev pub EndKnown : ℕ → Step → Type 0
EndKnown kind next = kind ≡ 1 → next ≡ nexts.Done (answers.Done Nothing)

-- a close or a put; where it is refused, the shelf is this one
abbrev pub GivesBy : Shelf → ℕ → Step → Bool → Shelf → Type 0
GivesBy tables kind next true slots = (kind ≡ 5) × ((fault : Fault) → next ≡ nexts.Done (answers.Refused fault) → slots ≡ tables)
GivesBy tables kind next false slots = (kind ≡ 3) × ((fault : Fault) → next ≡ nexts.Done (answers.Refused fault) → slots ≡ tables)

pub end-known : (m : Machine) (next : Step) (tables slots : Shelf) → ((fault : Fault) → next ≡ nexts.Done (answers.Refused fault) → slots ≡ tables)
    → JobKnown (EndKnown (job_kind m) next) (GivesBy tables (job_kind m) next) m next slots
end-known (machines.File m) next tables slots same = by m
  where
    by : (m : FileMachine) → WriteKnown (EndKnown (job_kind (machines.File m)) next) (GivesBy tables (job_kind (machines.File m)) next) m next slots
    by (files.Open m) = λ is. absurd (omega (arith, is))
    by (files.Read m) = λ is. absurd (omega (arith, is))
    by (files.Write m) = λ done is. done
    by (files.Sync m) = λ is. absurd (omega (arith, is))
    by (files.Close m) = (refl, same)
    by (files.Truncate m) = λ is. absurd (omega (arith, is))
    by (files.Put m) = (λ is. absurd (omega (arith, is)), (refl, same))
end-known (machines.Path m) next tables slots same = of m.opener
  where
    of : (o : Opener) → WriteKnown (EndKnown (file_kind (file_of o)) next) (GivesBy tables (file_kind (file_of o)) next) (file_of o) next slots
    of (openers.Open o) = λ is. absurd (omega (arith, is))
    of (openers.Put o) = (λ is. absurd (omega (arith, is)), (refl, same))
end-known (machines.Name m) next tables slots same = λ is. absurd (omega (arith, is))

-- where it ends, the shelf is that of the step
pub leads-opens : (v new : View) (at number : ℕ) (machine : Machine) (next : Step) → Leads v at number machine next new → (answer : _) → next ≡ nexts.Done answer
    → v.shelf ≡ new.shelf
leads-opens v new at number machine (nexts.Send call) l answer is = absurd (cc)
leads-opens v new at number machine nexts.Wait l answer is = absurd (cc)
leads-opens v new at number machine (nexts.Done other) l answer is = ap (λ (z : View). z.shelf) (sym l)

-- ---- of the xids

pub unused-zero : (setup : Setup) (h : List Entry) (v : View) → Rows setup h v → Flown v → IsUnused 0 v.shelf.back
unused-zero setup h v r f =
    subst (λ (q : Option Purpose). Flies 0 (sender (look_at v.lanes) q) v.shelf.back) (none (waiting_at 0 v.calls.calls) refl) (f.flies 0)
  where
    none : (o : Option (Waiting Purpose)) → waiting_at 0 v.calls.calls ≡ o → purpose_at 0 v.calls.calls ≡ None
    none None is = ap (option_map (λ (w : Waiting Purpose). w.purpose)) is
    none (Some w) is = absurd (
        let low = waits-late v.calls.cred v.calls.first_xid (next_xid v.calls) 0 v.calls.calls w r.sound.calls.each is in
        let first = r.sound.calls.first in
        omega (arith, low, first))

pub free-after : (old new : Pending) → SameUnder 0 old new → IsUnused 0 old → (file : List ℕ) → IsFree 0 file new
free-after old new same free file = same file ∙ free file

-- the piece of a WRITE that is asked for
pub asked-piece : (xid : ℕ) (next : Step) (machine : Machine) (back : Pending) → After (Free xid) (Has xid) next back → fitting.Asks next machine → (call : Call) → next ≡ nexts.Send call → (f : List ℕ)
    → flies_of machine ≡ Some f → IsSent xid f back
asked-piece xid (nexts.Send call) machine back a asks other is f flies = let i = a f (asks.sends f flies) in record { piece = i.piece; there = i.there }
asked-piece xid nexts.Wait machine back a asks other is f flies = absurd (cc)
asked-piece xid (nexts.Done answer) machine back a asks other is f flies = absurd (cc)

-- where a lane's operation stands, beside the others
pub own-seat : (lanes : List Lane) (order : _) (at number : ℕ) (machine : Machine) → AreApart lanes → slice_get lanes at ≡ Some (record { number = number; state = Busy machine }) → Sits (λ n. seat_in n lanes) order
    → SitsWith number (λ n. seat_in n lanes) (seat_of machine) order
own-seat lanes order at number machine apart there p =
    same-sits (λ n. seat_in n lanes) (seat_with number (seat_of machine) (λ n. seat_in n lanes)) order (λ n. by n (nat_eq n number) refl) p
  where
    by : (n : ℕ) (b : Bool) → nat_eq n number ≡ b → seat_with number (seat_of machine) (λ m. seat_in m lanes) n ≡ seat_in n lanes
    by n true d =
        let same = eqb-true n number d in
        ap (λ (k : ℕ). seat_with number (seat_of machine) (λ m. seat_in m lanes) k) same ∙ seat-own number (seat_of machine) (λ m. seat_in m lanes)
        ∙ sym (ap (λ (k : ℕ). seat_in k lanes) same ∙ look-at seat_state lanes at number (Busy machine) apart there)
    by n false d = seat-other number n (seat_of machine) (λ m. seat_in m lanes) (eqb-false n number d)

-- ---- what a step leads to

module _ (f : List ℕ) (wsize : ℕ) (some : 1 ≤ wsize) (number : ℕ) (least : 1 ≤ number) (most : number ≤ 16) (base : ℕ → Option (List ℕ)) (owner : Option (Owner f number base))
    (C D E : ℕ → Pending → Type 0) (t : Tale) where
  -- the state of the lane at a place afterwards, and that the others are as they were
  pub record Landed (lanes : List Lane) (at kind : ℕ) (new : View) : Type 0 where
    pub state : State
    pub here : slice_get new.lanes at ≡ Some (record { number = number; state = state })
    pub others : (k : ℕ) → k ≢ at → slice_get new.lanes k ≡ slice_get lanes k
    pub shown : Shown f wsize some number least most base owner C D E t kind state new.shelf.seq new.shelf.back new.shelf.order

  -- what is known of a call that was asked for
  pub record IsAsked (v : View) (machine : Machine) : Type 0 where
    pub live : IsLive number machine
    pub some_wait : 1 ≤ in_flight machine
    pub sent : (g : List ℕ) → flies_of machine ≡ Some g → IsSent (next_xid v.calls) g v.shelf.back

  -- and of the step where it isn't made
  pub record Unmade (tables : Shelf) (v : View) (kind : ℕ) : Type 1 where
    pub ways : Ways f wsize (unmade_turn v) C D E t
    pub moves : (next : Step) → Moves C D E t.A (EndKnown kind next) (GivesBy tables kind next) t.Cut t.B next
    pub puts : (next : Step) → GivesPut f E (GivesBy tables kind next) next (Alone f number base owner)
    pub M : Fault → Saving → Pending → Type 0
    pub any : (fault : Fault) (s : Saving) (b : Pending) → M fault s b
    pub replies : (fault : Fault) → ContentReplies wsize (turn_at v) (unmade_turn v) (Err fault) (M fault) C
    pub more : (fault : Fault) → ContentReplies wsize (turn_at v) (unmade_turn v) (Err fault) (M fault) D

  pub leads : (v new : View) (at : ℕ) (machine : Machine) (next : Step) (turn : Turn) (w : Ways f wsize turn C D E t) (tables : Shelf) (tables_are : tables ≡ new.shelf) (u : Unmade tables v (job_kind machine)) → v.wsize ≡ wsize
      → slice_get v.lanes at ≡ Some (record { number = number; state = Busy machine }) → Free 0 v.shelf.back → ((call : Call) → next ≡ nexts.Send call → IsAsked v machine)
      → JobFin (job-in f wsize some number least most base owner C D E t turn w) next machine v.shelf.seq v.shelf.back v.shelf.order → Leads v at number machine next new
      → Landed v.lanes at (job_kind machine) new
  leads v new at machine (nexts.Send call) turn w tables tables_are u size there free asked fin (inl made) = subst (Landed v.lanes at (job_kind machine)) (sym made.is) (record {
    state = Busy machine;
    here = there;
    others = λ k other. refl;
    shown = (refl, goes-on f wsize some number least most base owner C D E t turn w machine v.shelf.seq v.shelf.back v.shelf.order fin);
  })
  leads v new at machine (nexts.Send call) turn w tables tables_are u size there free asked fin (inr r) = subst (Landed v.lanes at (job_kind machine)) (sym r.is) (record {
    state = r.state;
    here = at-set v.lanes at (record { number = number; state = Busy machine }) (record { number = number; state = r.state }) there;
    others = λ k other. set-other v.lanes at k (record { number = number; state = r.state }) other;
    shown = subst (λ (n : ℕ). Shown f wsize some number least most base owner C D E t n r.state r.left.seq r.left.back r.left.order)
        (take-kind v.wsize (unmade_turn v) (turn_at v) (Err r.fault) machine v.shelf r.next r.after r.left r.takes)
        (shown f wsize some number least most base owner C D E t (unmade_turn v) u.ways r.next r.after r.left.seq r.left.back r.left.order r.state left r.leads);
  })
    where
      is : IsAsked v machine
      is = asked call refl

      left : JobFin (job-in f wsize some number least most base owner C D E t (unmade_turn v) u.ways) r.next r.after r.left.seq r.left.back r.left.order
      left = all-takes (job-in f wsize some number least most base owner C D E t (unmade_turn v) u.ways) number wsize (unmade_turn v) r.next (EndKnown (job_kind machine) r.next) (GivesBy tables (job_kind machine) r.next) (turn_at v) (Err r.fault)
          (SaveNow (turn_at v) (u.M r.fault))
          (job-replies f wsize some (unmade_turn v) number least most base owner C D E u.ways.c u.ways.d u.ways.e t.T t.X t.B u.ways.mark u.ways.apart_ends u.ways.settles t.A t.Cut
          (turn_at v) (Err r.fault) (u.M r.fault) (u.replies r.fault) (u.more r.fault))
          machine v.shelf r.after r.left
          (subst (λ (n : ℕ). JobLaws (job-in f wsize some number least most base owner C D E t (unmade_turn v) u.ways) wsize n (unmade_turn v) r.next (EndKnown (job_kind machine) r.next) (GivesBy tables (job_kind machine) r.next))
          (sym (live-lane number machine is.live))
          (job-laws f wsize some (unmade_turn v) number least most base owner C D E u.ways.c u.ways.d u.ways.e t.T t.X t.B u.ways.mark u.ways.apart_ends u.ways.settles t.A t.Cut
          (EndKnown (job_kind machine) r.next) (GivesBy tables (job_kind machine) r.next) r.next (u.moves r.next) (u.puts r.next)))
          (end-known machine r.next tables r.left (λ fault same. sym (ap (λ (z : View). z.shelf) r.is) ∙ sym tables_are)) (subst (λ (n : ℕ). Takes n machine (turn_at v) (unmade_turn v) (Err r.fault) v.shelf r.next r.after r.left) size r.takes)
          (unmade-opens t.A wsize (turn_at v) (unmade_turn v) r.fault machine v.shelf r.next r.after r.left
          (subst (λ (n : ℕ). Takes n machine (turn_at v) (unmade_turn v) (Err r.fault) v.shelf r.next r.after r.left) size r.takes))
          (λ s saved. (
          let o = save-is machine s saved in
          record { waits = o.waits is.some_wait; it = λ sends. is.sent s.file (o.flies_is is.some_wait sends); more = u.any r.fault s v.shelf.back }))
          (again f wsize some number least most base owner C D E t turn (unmade_turn v) w u.ways machine v.shelf.seq v.shelf.back v.shelf.order free fin)
  leads v new at machine nexts.Wait turn w tables tables_are u size there free asked fin is = subst (Landed v.lanes at (job_kind machine)) (sym is) (record {
    state = Busy machine;
    here = there;
    others = λ k other. refl;
    shown = (refl, goes-on f wsize some number least most base owner C D E t turn w machine v.shelf.seq v.shelf.back v.shelf.order fin);
  })
  leads v new at machine (nexts.Done answer) turn w tables tables_are u size there free asked fin is = subst (Landed v.lanes at (job_kind machine)) (sym is) (record {
    state = Over answer;
    here = at-set v.lanes at (record { number = number; state = Busy machine }) (record { number = number; state = Over answer }) there;
    others = λ k other. set-other v.lanes at k (record { number = number; state = Over answer }) other;
    shown = shown f wsize some number least most base owner C D E t turn w (nexts.Done answer) machine v.shelf.seq v.shelf.back v.shelf.order (Over answer) fin refl;
  })
