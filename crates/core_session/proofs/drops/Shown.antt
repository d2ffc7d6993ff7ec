-- The theorems, as they are stated.
use Rattle.core_session.proofs.Prelude.{Option, None, ◌≡◌, ◌⊎◌, inl, inr, ℕ, Bool, List, [], ◌∷◌, ◌++◌, length, nat_eq, true, false, Some, slice_get, refl, sym, ap, ◌∙◌, option_map, ◌≢◌, ◌≤◌, remove, subst, eqb-true, eqb-false, Opened, IsOpen, Answer, Fault, Entry, Began, Delivered, Op, Modes, Terms, is_first, CloseFile, Closing, Removal, PutFile, Putting, Saving, WriteFile, file_at, Mounted, Machine, machine_of, Lane, State, Busy, Over, Setup, IsIdle, counted, StartsLane, AnswersAt, View, AreApart, GoesWith, begins-unbegun, seat_close, seat_put, Known, reached-all, lanes-under-way, at-push, get-remove, skip, still-there, look-at, seat_state, seat_in, same-first, IsPast, IsOwed, file_in, save_in, removal_in, IsClose, IsSaving, IsGuarded, slot, past, LetsGo}
use Rattle.core_session.specs.drops.Told.{BeginsWell, Turned, SlotsHoldOneFile, RefusedClosesAreOwed, OwedClosesLeave, GuardsAreKept}
use Rattle.std.specs.FinMap as finite
use Rattle.world_model.specs.declared.answer.Answer.TheVariants as answers
use Rattle.world_model.specs.declared.op.Op.TheVariants as ops
use Rattle.file_ops.specs.declared.close_file.Closing.TheVariants as closings
use Rattle.file_ops.specs.declared.put_file.Putting.TheVariants as puttings
use Rattle.op_machines.specs.declared.file_machine.FileMachine.TheVariants as files
use Rattle.op_machines.specs.declared.machine.Machine.TheVariants as machines
use Rattle.core_session.specs.drops.LaneSteps.{LaneStep, stirs, takes}
use Rattle.core_session.specs.drops.Told as told
use Rattle.core_session.proofs.drops.BeginSteps.{StartOf, starts-step}
use Rattle.core_session.proofs.drops.Along.{GuardsKnown, known-guards, dropped-entry}
use Rattle.core_session.proofs.drops.DropLaws.{given-step, given-begun}
use Rattle.core_session.proofs.drops.Dropping.{was-at, now-at, dropped-heard}
use Rattle.core_session.proofs.drops.Giving.{past-at}
use Rattle.core_session.proofs.drops.GuardLaws.{StepOf, stirs-step, takes-step, guarded-step}
use Rattle.core_session.proofs.drops.Guards as guards
use Rattle.core_session.proofs.drops.Guards.{Stepping, LetGo, own-now}
use Rattle.core_session.proofs.drops.LaneIs.{state-is, busy-over}
use Rattle.core_session.proofs.drops.Laws.{DropsKnown, OneStepped, stirs-stepped, takes-stepped, starts-begun, drops-stirs, drops-takes, drops-starts}
use Rattle.core_session.proofs.drops.OneFile.{slot-file}

pub slots-one-file : SlotsHoldOneFile
slots-one-file m terms setup h v g n lane its a b f k i j = slot-file m terms setup h v g n lane its a b f k i j

-- ---- closes that are refused

one-removal : (a b : Removal) → Some a ≡ Some b → a ≡ b
one-removal a b e = cc

seat-file : (state : Closing) (f : List ℕ) → file_in state ≡ Some f → seat_close state ≡ Some f
seat-file closings.Idle f is = is
seat-file (closings.Queued saving) f is = is
seat-file (closings.Saves saving) f is = is
seat-file (closings.ToRemove removal) f is = is
seat-file (closings.Removing removal) f is = is

busy-one : (a b : Machine) → Busy a ≡ Busy b → a ≡ b
busy-one a b e = cc

module _ (m : Modes) (g : List Entry) (old new : View) (s : OneStepped m g old new) (apart : AreApart old.lanes) (at n : ℕ) (c : CloseFile) (fault : Fault) (f : List ℕ)
    (t : Turned old new at n (Busy (machines.File (files.Close c))) (Over (answers.Refused fault))) where
  pub own-place : at ≡ s.at
  own-place = by (nat_eq at s.at) refl
    where
      by : (b : Bool) → nat_eq at s.at ≡ b → at ≡ s.at
      by true d = eqb-true at s.at d
      by false d =
          let here = was-at m g old new s f at (record { number = n; state = Over (answers.Refused fault) }) (eqb-false at s.at d) t.after in
          absurd (busy-over (machines.File (files.Close c)) (answers.Refused fault)
          (state-is (Busy (machines.File (files.Close c))) (Over (answers.Refused fault)) n n (sym t.before ∙ here)))

  pub was-close : s.machine ≡ machines.File (files.Close c)
  was-close =
      busy-one s.machine (machines.File (files.Close c))
      (state-is (Busy s.machine) (Busy (machines.File (files.Close c))) s.number n (sym s.there ∙ ap (slice_get old.lanes) (sym own-place) ∙ t.before))

  pub now-over : s.state ≡ Over (answers.Refused fault)
  now-over =
      state-is s.state (Over (answers.Refused fault)) s.number n (sym (now-at m g old new s f) ∙ ap (slice_get new.lanes) (sym own-place) ∙ t.after)

module _ (mounted : Mounted) (terms : Terms) (setup : Setup) (h : List Entry) (v : View) (g : GoesWith mounted terms setup h v) (found : v.lost ≡ false) where
  known : Known setup h v
  known = reached-all (machine_of mounted) (begins-unbegun mounted) setup h v g.reaches found

  guarded : GuardsKnown terms.modes h v
  guarded = known-guards mounted terms.modes g.nocto setup h v g.reaches found

  apart : AreApart v.lanes
  apart = (lanes-under-way h v known.lanes).apart

  goes-owed : (k : List Entry) (w : View) → LaneStep (machine_of mounted) h v k w → (at n : ℕ) (c : CloseFile) (fault : Fault) (f : List ℕ)
      → Turned v w at n (Busy (machines.File (files.Close c))) (Over (answers.Refused fault)) → file_in c.state ≡ Some f → (IsOpen w.shelf.opens f → ⊥) → IsOwed terms.modes (length k) k w f
  goes-owed _ _ (stirs at new t) place n c fault f turn seat shut =
      let s = (stirs-stepped terms.modes h v new at t guarded.drops).0 in
      given-step terms.modes h v new s f c fault guarded.drops.turned apart (was-close terms.modes h v new s apart place n c fault f turn) (seat-file c.state f seat)
      (now-over terms.modes h v new s apart place n c fault f turn) shut
  goes-owed _ _ (takes rec xid call at new waits there t) place n c fault f turn seat shut =
      let s = takes-stepped mounted terms.modes g.nocto setup h v new rec xid call at known waits there t guarded.drops in
      given-step terms.modes (h ++ Delivered rec ∷ []) v new s f c fault guarded.drops.turned apart (was-close terms.modes (h ++ Delivered rec ∷ []) v new s apart place n c fault f turn) (seat-file c.state f seat)
      (now-over terms.modes (h ++ Delivered rec ∷ []) v new s apart place n c fault f turn) shut

  begins-owed : (lane line its now : ℕ) (w : View) (fault : Fault) (f : List ℕ) → IsIdle lane v.lanes → StartsLane (counted v now) lane (machine_of mounted lane (ops.Close its)) w
      → file_at lane its v.shelf.opens ≡ Some f → w.lanes ≡ v.lanes ++ record { number = lane; state = Over (answers.Refused fault) } ∷ [] → (IsOpen w.shelf.opens f → ⊥)
      → IsOwed terms.modes (length (h ++ Began lane line (ops.Close its) ∷ [])) (h ++ Began lane line (ops.Close its) ∷ []) w f
  begins-owed lane line its now w fault f idle t held ends shut =
      let b = starts-begun mounted terms.modes g.nocto setup h v w lane line (ops.Close its) now g.reaches found idle t in
      given-begun mounted terms.modes g.nocto setup h v w lane line its b f fault guarded.drops.turned apart idle held (last-state b.state b.lanes_are) shut
    where
      last-state : (state : State) → w.lanes ≡ v.lanes ++ record { number = lane; state = state } ∷ [] → state ≡ Over (answers.Refused fault)
      last-state state is =
          state-is state (Over (answers.Refused fault)) lane lane
          (sym (at-push v.lanes (record { number = lane; state = state })) ∙ ap (λ (ls : List Lane). slice_get ls (length v.lanes)) (sym is ∙ ends)
          ∙ at-push v.lanes (record { number = lane; state = Over (answers.Refused fault) }))

  -- ---- what guards a byte

  let-go : (number : ℕ) (f : List ℕ) (w : View) (s : Stepping v w) → LetGo number f v w s → LetsGo number f v w
  let-go number f w s (guards.saved c save was saves file enough (inl over)) =
      told.saved s.at s.number c save over.0
      (record { before = s.there ∙ ap (λ (st : State). Some (record { number = s.number; state = st })) was; after = own-now v w s ∙ ap (λ (st : State). Some (record { number = s.number; state = st })) over.1 })
      saves file enough
  let-go number f w s (guards.saved c save was saves file enough (inr (d, removal, is, gone, well))) =
      told.removes s.at s.number c d save removal
      (record { before = s.there ∙ ap (λ (st : State). Some (record { number = s.number; state = st })) was; after = own-now v w s ∙ ap (λ (st : State). Some (record { number = s.number; state = st })) is })
      saves file enough gone well
  let-go number f w s (guards.gave c fault was is file shut) =
      told.gave s.at s.number c fault
      (record { before = s.there ∙ ap (λ (st : State). Some (record { number = s.number; state = st })) was; after = own-now v w s ∙ ap (λ (st : State). Some (record { number = s.number; state = st })) is })
      file shut

  let-go-or : (number : ℕ) (f : List ℕ) (w : View) (s : StepOf v w) → IsGuarded number w f ⊎ LetGo number f v w s.step → IsGuarded number w f ⊎ LetsGo number f v w
  let-go-or number f w s (inl i) = inl i
  let-go-or number f w s (inr l) = inr (let-go number f w s.step l)

  goes-guarded : (k : List Entry) (w : View) → LaneStep (machine_of mounted) h v k w → (number : ℕ) (f : List ℕ) → IsGuarded number v f → IsGuarded number w f ⊎ LetsGo number f v w
  goes-guarded _ _ (stirs at new t) number f i =
      let s = stirs-step setup terms.modes h v new known guarded.drops at t in
      let later = drops-stirs mounted terms.modes g.nocto setup h v new at known t guarded.drops in
      let-go-or number f new s (guarded-step terms.modes h h v new number f s guarded.drops later guarded.ranked i)
  goes-guarded _ _ (takes rec xid call at new waits there t) number f i =
      let s = takes-step setup terms.modes h v new known guarded.drops rec xid call at waits there t in
      let later = drops-takes mounted terms.modes g.nocto setup h v new rec xid call at known waits there t guarded.drops in
      let-go-or number f new s (guarded-step terms.modes h (h ++ Delivered rec ∷ []) v new number f s guarded.drops later guarded.ranked i)

  some-file : (a b : List ℕ) → Some a ≡ Some b → a ≡ b
  some-file a b e = cc

  writes-guard : (number : ℕ) (f : List ℕ) (at n : ℕ) (w : WriteFile) → slice_get v.lanes at ≡ Some (record { number = n; state = Busy (machines.File (files.Write w)) })
      → file_at n w.slot v.shelf.opens ≡ Some f → IsGuarded number v f
  writes-guard number f at n w here held = by (finite.get v.shelf.opens (n, w.slot)) refl held
    where
      no-close : (c : CloseFile) → IsClose v n c → ⊥
      no-close c i =
          let place : i.at ≡ at =
          apart i.at at (record { number = n; state = Busy (machines.File (files.Close c)) }) (record { number = n; state = Busy (machines.File (files.Write w)) }) i.there here refl in
          let machine : machines.File (files.Close c) ≡ machines.File (files.Write w) =
          busy-one (machines.File (files.Close c)) (machines.File (files.Write w))
          (state-is (Busy (machines.File (files.Close c))) (Busy (machines.File (files.Write w))) n n (sym i.there ∙ ap (slice_get v.lanes) place ∙ here)) in
          absurd cc

      by : (o : Option Opened) → finite.get v.shelf.opens (n, w.slot) ≡ o → option_map (λ (k : Opened). k.file) o ≡ Some f → IsGuarded number v f
      by None there is = absurd (let no_way : None ≡ Some f = is in cc)
      by (Some o) there is = slot (n, w.slot) o there (some-file o.file f is) (λ c upto i e. absurd (no-close c i.close))

  save-file : (state : Closing) (save : Saving) (f : List ℕ) → save_in state ≡ Some save → save.file ≡ f → file_in state ≡ Some f
  save-file closings.Idle save f is same = absurd (let no_way : None ≡ Some save = is in cc)
  save-file (closings.Queued saving) save f is same = ap (λ (o : Option Saving). option_map (λ (z : Saving). z.file) o) is ∙ ap Some same
  save-file (closings.Saves saving) save f is same = ap (λ (o : Option Saving). option_map (λ (z : Saving). z.file) o) is ∙ ap Some same
  save-file (closings.ToRemove removal) save f is same = absurd (let no_way : None ≡ Some save = is in cc)
  save-file (closings.Removing removal) save f is same = absurd (let no_way : None ≡ Some save = is in cc)

  begins-guarded : (lane now : ℕ) (op : Op) (w : View) → IsIdle lane v.lanes → StartsLane (counted v now) lane (machine_of mounted lane op) w → (number : ℕ) → number ≤ v.shelf.seq → (f : List ℕ)
      → IsGuarded number v f → IsGuarded number w f ⊎ BeginsWell lane op f v w
  begins-guarded lane now op w idle t number few f i = by (b.guarded later guarded.ranked number few f i)
    where
      later : DropsKnown terms.modes (h ++ Began lane 0 op ∷ []) w
      later = drops-starts mounted terms.modes g.nocto setup h v w lane 0 op now g.reaches found known idle t guarded.drops

      b : StartOf mounted terms.modes g.nocto setup h v w lane 0 op now g.reaches found idle t apart guarded.drops.turned (h ++ Began lane 0 op ∷ [])
      b = starts-step mounted terms.modes g.nocto setup h v w lane 0 op now g.reaches found idle t apart guarded.drops.turned (h ++ Began lane 0 op ∷ [])

      ends : (state : State) → b.step.step.state ≡ state → w.lanes ≡ v.lanes ++ record { number = lane; state = state } ∷ []
      ends state is = b.lanes_are ∙ ap (λ (st : State). v.lanes ++ record { number = lane; state = st } ∷ []) is

      by : IsGuarded number w f ⊎ LetGo number f b.mid w b.step.step → IsGuarded number w f ⊎ BeginsWell lane op f v w
      by (inl j) = inl j
      by (inr (guards.saved c save was saves file enough (inl over))) =
          let k = b.closes c was in
          inr (told.begun_saved k.0 over.0 k.1 (k.2 ∙ save-file c.state save f saves file) (ends (Over (answers.Done over.0)) over.1))
      by (inr (guards.saved c save was saves file enough (inr (d, removal, is, gone, well)))) =
          let k = b.closes c was in
          inr (told.begun_removes k.0 d removal k.1 (k.2 ∙ save-file c.state save f saves file) (ends (Busy (machines.File (files.Close d))) is) gone well)
      by (inr (guards.gave c fault was is file shut)) =
          let k = b.closes c was in
          inr (told.begun_gave k.0 fault k.1 (k.2 ∙ file) (ends (Over (answers.Refused fault)) is) shut)

  noted-guarded : (at lane : ℕ) (answer : Answer) (w : View) → AnswersAt v at lane (Some answer) w → (number : ℕ) (f : List ℕ) → IsGuarded number v f → IsGuarded number w f
  noted-guarded at lane answer w a number f i = subst (λ (z : View). IsGuarded number z f) (sym a.is) (by i)
    where
      close-was : (n : ℕ) (c : CloseFile) → IsClose (record v { lanes = remove v.lanes at }) n c → IsClose v n c
      close-was n c k = record { at = skip at k.at; there = get-remove v.lanes at k.at (record { number = n; state = Busy (machines.File (files.Close c)) }) k.there }

      saving-was : (n : ℕ) (c : CloseFile) (file : List ℕ) (u : ℕ) → IsSaving (record v { lanes = remove v.lanes at }) n c file u → IsSaving v n c file u
      saving-was n c file u k = record { close = close-was n c k.close; save = k.save; is = k.is; file_is = k.file_is; upto_is = k.upto_is }

      not-noted : (n : ℕ) (c : CloseFile) (k : IsClose v n c) → k.at ≢ at
      not-noted n c k same =
          busy-over (machines.File (files.Close c)) a.answer
          (state-is (Busy (machines.File (files.Close c))) (Over a.answer) n lane (sym k.there ∙ ap (slice_get v.lanes) same ∙ a.there))

      close-stays : (n : ℕ) (c : CloseFile) → IsClose v n c → IsClose (record v { lanes = remove v.lanes at }) n c
      close-stays n c k =
          let z = still-there v.lanes at k.at (record { number = n; state = Busy (machines.File (files.Close c)) }) (not-noted n c k) k.there in
          record { at = z.0; there = z.1 }

      by : IsGuarded number v f → IsGuarded number (record v { lanes = remove v.lanes at }) f
      by (slot place of there same all) = slot place of there same (λ c upto k e. all c upto (saving-was place.0 c f upto k) e)
      by (past n c removal fault close gone same refused all) =
          past n c removal fault (close-stays n c close) gone same refused (λ l d upto k. all l d upto (saving-was l d f upto k))

  removal-past : (state : Closing) (r : Removal) (f : List ℕ) → removal_in state ≡ Some r → r.file ≡ f → IsPast f state
  removal-past closings.Idle r f is same = absurd (let no_way : None ≡ Some r = is in cc)
  removal-past (closings.Queued saving) r f is same = absurd (let no_way : None ≡ Some r = is in cc)
  removal-past (closings.Saves saving) r f is same = absurd (let no_way : None ≡ Some r = is in cc)
  removal-past (closings.ToRemove removal) r f is same = ap (λ (q : Removal). q.file) (one-removal removal r is) ∙ same
  removal-past (closings.Removing removal) r f is same = ap (λ (q : Removal). q.file) (one-removal removal r is) ∙ same

  puts-none : (number : ℕ) (f : List ℕ) → IsGuarded number v f → (IsOpen v.shelf.opens f → ⊥) → (at n : ℕ) (p : PutFile) (save : Saving)
      → slice_get v.lanes at ≡ Some (record { number = n; state = Busy (machines.File (files.Put p)) }) → p.state ≡ puttings.Saves save → save.file ≡ f → is_first n v.shelf.order ≡ true → ⊥
  puts-none number f (slot place of there same all) shut at n p save here is of_file first = shut (record { place = place; of = of; there = there; same = same })
  puts-none number f (past l c removal fault close gone same refused all) shut at n p save here is of_file first =
      let q = past-at v close.at l c f guarded.drops.turned apart close.there (removal-past c.state removal f gone same) in
      let seat : seat_in n v.lanes ≡ Some f =
      look-at seat_state v.lanes at n (Busy (machines.File (files.Put p))) apart here ∙ ap (λ (s : Putting). seat_put s p.write.state) is ∙ ap Some of_file in
      let one : l ≡ n = same-first (λ (k : ℕ). seat_in k v.lanes) v.shelf.order guarded.drops.turned.placed.sits.sound l n f q.seat seat q.first first in
      let place : close.at ≡ at =
      apart close.at at (record { number = l; state = Busy (machines.File (files.Close c)) }) (record { number = n; state = Busy (machines.File (files.Put p)) }) close.there here one in
      let machine : machines.File (files.Close c) ≡ machines.File (files.Put p) =
      busy-one (machines.File (files.Close c)) (machines.File (files.Put p))
      (state-is (Busy (machines.File (files.Close c))) (Busy (machines.File (files.Put p))) l n (sym close.there ∙ ap (slice_get v.lanes) place ∙ here)) in
      absurd cc

pub refused-owes : RefusedClosesAreOwed
refused-owes m terms setup h v g found = record { goes = goes-owed m terms setup h v g found; begins = begins-owed m terms setup h v g found }

pub owed-leaves : OwedClosesLeave
owed-leaves m terms setup h v g found = record {
  stays = λ e w t later from f d. dropped-entry m terms g.nocto setup from f h v e w g.reaches t found later (guarded m terms setup h v g found).drops d;
  left = λ may from f d never. dropped-heard terms.modes from h v f may d never;
}

pub guards-kept : GuardsAreKept
guards-kept m terms setup h v g found = record { begins = begins-guarded m terms setup h v g found; noted = noted-guarded m terms setup h v g found; writes = writes-guard m terms setup h v g found; goes = goes-guarded m terms setup h v g found; puts = puts-none m terms setup h v g found }
