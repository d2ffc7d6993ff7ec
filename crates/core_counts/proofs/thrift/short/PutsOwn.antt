-- A put from the moment at which it is at its own save of a file: it ends refused, or well, and the last record before its answer names that file.
use Rattle.core_counts.proofs.Prelude.{◌≡◌, ◌≤◌, ◌<◌, ℕ, Bool, true, false, nat_eq, List, [], ◌∷◌, ◌++◌, length, Option, Some, None, slice_get, refl, sym, ap, subst, ◌∙◌, arith, eqb-true, eqb-false, Answer, Fault, Value, Entry, Answered, Op, UnderWay, PutsTo, At-below, Lane, State, Busy, Over, Setup, AnswersAt, View, Saving, FileMachine, Machine, Opener, file_of, AreApart, Known, Runs, lanes-under-way, number_of, to-map, IsPlain, state-is, own_save, job_kind, Turns}
use Rattle.world_model.specs.Operations.{Ended}
use Rattle.core_facts.proofs.Lists.{still-there}
use Rattle.core_session.proofs.drops.KnowingAlong.{NotedBefore}
use Rattle.core_session.proofs.drops.LaneIs.{number-is, busy-over}
use Rattle.core_session.proofs.syncs.PutGoes.{names-keep, AtSave, OwnAt, file_own, path_own}
use Rattle.core_session.proofs.syncs.Fates.{file_kind}
use Rattle.core_session.proofs.syncs.Turning.{IsFixed, fixed-turns, fixed-answers, fixed-same, fixed-once, under-answers, under-plain}
use Rattle.world_model.specs.declared.answer.Answer.TheVariants as answers
use Rattle.world_model.specs.declared.op.Op.TheVariants as ops
use Rattle.world_model.specs.Waiting.{IsDelivered}
use Rattle.op_machines.specs.declared.file_machine.FileMachine.TheVariants as files
use Rattle.op_machines.specs.declared.machine.Machine.TheVariants as machines
use Rattle.core_facts.specs.Reaches.{IsOpenLine}
use Rattle.core_facts.proofs.Stories.{ended-grow}
use Rattle.core_session.proofs.drops.Noting.{ended-at}
use Rattle.core_session.proofs.drops.SaveFiles.{IsSave}
use Rattle.core_session.proofs.pending.Moments.{ended-in}
use Rattle.core_session.proofs.syncs.Aparts.{names-next, once}
use Rattle.core_session.proofs.syncs.PutEnds.{LastNames, last-names-later}

answered-other : (lane line : ℕ) (answer : Answer) → IsDelivered (Answered lane line answer) → ⊥
answered-other lane line answer d = let e = d.1 in absurd cc

done-refused : (value : Value) (fault : Fault) → answers.Done value ≡ answers.Refused fault → ⊥
done-refused value fault e = cc

-- a save stays of its file
pub file-keeps : (f : List ℕ) (a b : Saving) → IsSave a.file a.upto b → a.file ≡ f → b.file ≡ f
file-keeps f a b is same = (names-keep f 0 a b is (same, omega arith)).0

-- only a put has a save of its own
save-none : {X : Type 0} → AtSave None → X
save-none a = absurd (let no_way : None ≡ Some a.0 = a.1 in cc)

file-save-kind : (m : FileMachine) → AtSave (file_own m) → file_kind m ≡ 3
file-save-kind (files.Open m) a = save-none a
file-save-kind (files.Read m) a = save-none a
file-save-kind (files.Write m) a = save-none a
file-save-kind (files.Sync m) a = save-none a
file-save-kind (files.Close m) a = save-none a
file-save-kind (files.Truncate m) a = save-none a
file-save-kind (files.Put m) a = refl

path-save-kind : (there : Bool) (m : Opener) → AtSave (path_own there m) → file_kind (file_of m) ≡ 3
path-save-kind true m a = file-save-kind (file_of m) a
path-save-kind false m a = save-none a

pub save-kind : (m : Machine) → AtSave (own_save m) → job_kind m ≡ 3
save-kind (machines.File m) a = file-save-kind m a
save-kind (machines.Path m) a = path-save-kind m.arrived m.opener a
save-kind (machines.Name m) a = save-none a

module _ (f : List ℕ) (x : ℕ) (op : Op) where
  abbrev pub OfFile : Option Saving → Type 0
  OfFile own = OwnAt (λ z. z.file ≡ f) own

  -- It is at its own save of the file; or has gone well, as the last record says until that is noted, and as it said then; or was refused.
  pub data Follows (h : List Entry) (v : View) : Type 0 where
    saves : (k number : ℕ) (machine : Machine) → slice_get v.lanes k ≡ Some (record { number = number; state = Busy machine }) → UnderWay h number x (length h) op → OfFile (own_save machine) → Follows h v
    went_well : (k number : ℕ) (value : Value) → slice_get v.lanes k ≡ Some (record { number = number; state = Over (answers.Done value) }) → UnderWay h number x (length h) op → LastNames h (length h) f → Follows h v
    was_refused : (fault : Fault) → IsFixed h v x (answers.Refused fault) → Follows h v
    noted : (lane y : ℕ) (answer : Answer) → Ended h lane x op y answer → LastNames h y f → Follows h v

  -- the place of an answer
  ended-within : (h : List Entry) (lane y : ℕ) (answer : Answer) → Ended h lane x op y answer → y ≤ length h
  ended-within h lane y answer e = let low = At-below h y (Answered lane e.line answer) e.answered in omega (arith, low)

  -- ---- a step of a lane

  module _ (h h2 : List Entry) (old new : View) (at number z : ℕ) (o : Op) (state : State) (t : Turns f h h2 old new at number z o state) where
    -- on: what the last record named then; last: as its answer waits
    pub follows-turns : ((y : ℕ) → y ≤ length h → LastNames h y f → LastNames h2 y f)
        → ((k n : ℕ) (value : Value) → slice_get old.lanes k ≡ Some (record { number = n; state = Over (answers.Done value) }) → LastNames h (length h) f → LastNames h2 (length h2) f)
        → ((n : ℕ) (machine : Machine) → slice_get old.lanes at ≡ Some (record { number = n; state = Busy machine }) → UnderWay h n x (length h) op → OfFile (own_save machine) → Follows h2 new)
        → Follows h old → Follows h2 new
    follows-turns on last own (was_refused fault is) = was_refused fault (fixed-turns f h h2 old new at number z o state t x (answers.Refused fault) is)
    follows-turns on last own (noted lane y answer e k) = noted lane y answer (t.ended lane x y op answer e) (on y (ended-within h lane y answer e) k)
    follows-turns on last own (saves k n machine there u a) = by (nat_eq k at) refl
      where
        by : (b : Bool) → nat_eq k at ≡ b → Follows h2 new
        by true e = own n machine (ap (slice_get old.lanes) (sym (eqb-true k at e)) ∙ there) u a
        by false e =
            let off = eqb-false k at e in
            saves k n machine (t.but.stays k (record { number = n; state = Busy machine }) there off) (t.on n x op (t.apart k (record { number = n; state = Busy machine }) there off) u) a
    follows-turns on last own (went_well k n value there u l) = by (nat_eq k at) refl
      where
        by : (b : Bool) → nat_eq k at ≡ b → Follows h2 new
        by true e = absurd (t.unready n (answers.Done value) (ap (slice_get old.lanes) (sym (eqb-true k at e)) ∙ there))
        by false e =
            let off = eqb-false k at e in
            went_well k n value (t.but.stays k (record { number = n; state = Over (answers.Done value) }) there off)
            (t.on n x op (t.apart k (record { number = n; state = Over (answers.Done value) }) there off) u) (last k n value there l)

  -- ---- an entry of no operation

  pub follows-same : (h : List Entry) (e : Entry) (old new : View) → IsPlain e → NotedBefore e old → new.lanes ≡ old.lanes → Follows h old → Follows (h ++ e ∷ []) new
  follows-same h e old new plain before lanes (was_refused fault is) = was_refused fault (fixed-same h e old new plain lanes x (answers.Refused fault) is)
  follows-same h e old new plain before lanes (noted lane y answer d k) =
      noted lane y answer (ended-grow h e lane x op y answer d) (last-names-later h (e ∷ []) y f (ended-within h lane y answer d) k)
  follows-same h e old new plain before lanes (saves k n machine there u a) = saves k n machine (ap (λ (l : List Lane). slice_get l k) lanes ∙ there) (under-plain h e n x op plain u) a
  follows-same h e old new plain before lanes (went_well k n value there u l) =
      went_well k n value (ap (λ (ls : List Lane). slice_get ls k) lanes ∙ there) (under-plain h e n x op plain u)
      (names-next h e f (λ d. (before d.0 d.1).noted k n (answers.Done value) there) l)

  -- ---- an answer is noted

  module _ (setup : Setup) (h : List Entry) (old new : View) (at lane line : ℕ) (answer : Answer) (known : Known setup h old) (open_line : IsOpenLine h lane line) (s : AnswersAt old at lane (Some answer) new) where
    abbrev later : List Entry
    later = h ++ Answered lane line answer ∷ []

    apart : AreApart old.lanes
    apart = (lanes-under-way h old known.lanes).apart

    runs : Runs h lane
    runs = known.lanes.busy at lane (to-map number_of old.lanes at (record { number = lane; state = Over s.answer }) s.there)

    pub follows-answers : Follows h old → Follows later new
    follows-answers (was_refused fault is) = was_refused fault (fixed-answers setup h old new at lane line answer known open_line s x (answers.Refused fault) is)
    follows-answers (noted n y a d k) =
        noted n y a (ended-grow h (Answered lane line answer) n x op y a d) (last-names-later h (Answered lane line answer ∷ []) y f (ended-within h n y a d) k)
    follows-answers (saves k n machine there u a) = by (nat_eq k at) refl
      where
        by : (b : Bool) → nat_eq k at ≡ b → Follows later new
        by true e = absurd (busy-over machine s.answer (state-is (Busy machine) (Over s.answer) n lane (sym (ap (slice_get old.lanes) (sym (eqb-true k at e)) ∙ there) ∙ s.there)))
        by false e =
            let off = eqb-false k at e in
            let stays = still-there old.lanes at k (record { number = n; state = Busy machine }) off there in
            saves stays.0 n machine (ap (λ (w : View). slice_get w.lanes stays.0) s.is ∙ stays.1)
            (under-answers h lane line answer n x op (λ same. off (apart k at (record { number = n; state = Busy machine }) (record { number = lane; state = Over s.answer }) there s.there same)) u) a
    follows-answers (went_well k n value there u l) = by (nat_eq k at) refl
      where
        by : (b : Bool) → nat_eq k at ≡ b → Follows later new
        by true e =
            let here : slice_get old.lanes at ≡ Some (record { number = n; state = Over (answers.Done value) }) = ap (slice_get old.lanes) (sym (eqb-true k at e)) ∙ there in
            let number : n ≡ lane = number-is (Over (answers.Done value)) (Over s.answer) n lane (sym here ∙ s.there) in
            noted lane (length h) answer (ended-at h lane line x op answer open_line runs (subst (λ (m : ℕ). UnderWay h m x (length h) op) number u))
            (last-names-later h (Answered lane line answer ∷ []) (length h) f (omega arith) l)
        by false e =
            let off = eqb-false k at e in
            let stays = still-there old.lanes at k (record { number = n; state = Over (answers.Done value) }) off there in
            went_well stays.0 n value (ap (λ (w : View). slice_get w.lanes stays.0) s.is ∙ stays.1)
            (under-answers h lane line answer n x op (λ same. off (apart k at (record { number = n; state = Over (answers.Done value) }) (record { number = lane; state = Over s.answer }) there s.there same)) u)
            (names-next h (Answered lane line answer) f (answered-other lane line answer) l)

  -- ---- what it wrote, where it was answered well

  pub puts-to : (h : List Entry) (v : View) (lane y : ℕ) (path : List (List ℕ)) (offset : ℕ) (bytes : List ℕ) (value : Value) → op ≡ ops.Put path offset bytes
      → Ended h lane x (ops.Put path offset bytes) y (answers.Done value) → Follows h v → PutsTo h x y f offset bytes
  puts-to h v lane y path offset bytes value is e (saves k n machine there u a) =
      absurd (u.unanswered (record { lane = lane; op = ops.Put path offset bytes; y = y; answer = answers.Done value; ended = e; before = At-below h y (Answered lane e.line (answers.Done value)) e.answered }))
  puts-to h v lane y path offset bytes value is e (went_well k n other there u l) =
      absurd (u.unanswered (record { lane = lane; op = ops.Put path offset bytes; y = y; answer = answers.Done value; ended = e; before = At-below h y (Answered lane e.line (answers.Done value)) e.answered }))
  puts-to h v lane y path offset bytes value is e (was_refused fault fixed) =
      absurd (done-refused value fault (fixed-once h v x (answers.Refused fault) fixed lane (ops.Put path offset bytes) y (answers.Done value) e))
  puts-to h v lane y path offset bytes value is e (noted other z answer d l) =
      let same = once h x other lane z y op (ops.Put path offset bytes) answer (answers.Done value) d e in
      let its : LastNames h y f = subst (λ (n : ℕ). LastNames h n f) same.0 l in
      record { lane = lane; path = path; value = value; call = its.call; ended = e; names = its.names; asked = its.last }

  -- and so of the whole history
  pub came-puts : (H h rest : List Entry) (v : View) → h ++ rest ≡ H → (lane y : ℕ) (path : List (List ℕ)) (offset : ℕ) (bytes : List ℕ) (value : Value) → op ≡ ops.Put path offset bytes
      → Ended H lane x (ops.Put path offset bytes) y (answers.Done value) → y < length h → Follows h v → PutsTo H x y f offset bytes
  came-puts H h rest v is lane y path offset bytes value same e low follows =
      let to = puts-to h v lane y path offset bytes value same (ended-in H h rest is lane x y (ops.Put path offset bytes) (answers.Done value) low e) follows in
      let l : LastNames H y f = subst (λ (g : List Entry). LastNames g y f) is (last-names-later h rest y f (omega (arith, low)) (record { call = to.call; names = to.names; last = to.asked })) in
      record { lane = lane; path = path; value = value; call = l.call; ended = e; names = l.names; asked = l.last }
