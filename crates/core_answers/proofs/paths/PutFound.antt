-- A put finds its file as an open does, and ends well with the reply to a call on it.
use Rattle.core_answers.proofs.Prelude.{◌≡◌, ◌<◌, ◌+◌, ℕ, Bool, true, false, List, length, Result, Ok, Err, refl, sym, subst, if◌then◌else◌, Answer, Fault, Entry, Call, Reply, is_first, Step, Shelf, Turn, Opening, OpeningStep, PutFile, Putting, Saving, Writing, joined, refusal_of, by-step, of_putting, PutAwaits, then-as, goes-steps, takes-steps, ThenOf}
use Rattle.core_facts.proofs.SaveCommits.{EndsSo}
use Rattle.world_model.specs.declared.answer.Answer.TheVariants as answers
use Rattle.client_shelf.specs.declared.step.Step.TheVariants as nexts
use Rattle.file_ops.specs.declared.opening.OpeningStep.TheVariants as openings
use Rattle.file_ops.specs.declared.put_file.Putting.TheVariants as putting
use Rattle.file_ops.specs.OpenFile as opens
use Rattle.file_ops.specs.Opening as opening
use Rattle.file_ops.specs.PutFile as puts
use Rattle.file_ops.specs.Saves as saves
use Rattle.file_ops.specs.Syncs as syncs
use Rattle.core_answers.proofs.bonds.FileCalls.{PutOn}
use Rattle.core_answers.proofs.bonds.Learnt.{IsOn}
use Rattle.core_answers.proofs.paths.Endings.{ends-map, ends-any, goes-not, takes-not}
use Rattle.core_answers.proofs.paths.Lasts.{IsLast}
use Rattle.core_answers.proofs.paths.OpenFound.{OpeningAt, FoundAs, IsHeard, NextFound, go-at, led-on, led-next}

-- The file was found, and the last record that came is the reply to a call on it.
pub record PutEnd (most : ℕ) (top : List ℕ) (h : List Entry) (x : ℕ) (path : List (List ℕ)) : Type 0 where
  pub file : List ℕ
  pub found : FoundAs most top h x path file
  pub call : Call
  pub on : IsOn file call
  pub reply : Reply
  pub last : IsLast h x (length h) call reply

module _ (most : ℕ) (top : List ℕ) (h : List Entry) (x : ℕ) (path : List (List ℕ)) where
  abbrev pub PutAt : Putting → Opening → Type 0
  PutAt putting.Idle o = Unit {0}
  PutAt putting.Opens o = OpeningAt most top h x path o
  PutAt (putting.Adds file) o = FoundAs most top h x path file
  PutAt (putting.Saves saving) o = FoundAs most top h x path saving.file

  abbrev pub PutAnswer : Answer → Type 0
  PutAnswer (answers.Done value) = PutEnd most top h x path
  PutAnswer (answers.Refused fault) = Unit {0}

  abbrev pub PutThen : Step → PutFile → Type 0
  PutThen next new = ThenOf (λ (q : PutFile). PutAt q.state q.opening) PutAnswer next new

  -- of its state alone
  abbrev StateThen : Opening → Step → Putting → Type 0
  StateThen o next state = ThenOf (λ (s : Putting). PutAt s o) PutAnswer next state

  state-to : (o : Opening) (to next : Step) (at state : Putting) → next ≡ to → state ≡ at → StateThen o to at → StateThen o next state
  state-to o to next at state is same t = subst (λ (n : Step). StateThen o n state) (sym is) (subst (λ (s : Putting). StateThen o to s) (sym same) t)

  as-put : (next : Step) (new : PutFile) → StateThen new.opening next new.state → PutThen next new
  as-put (nexts.Send call) new t = t
  as-put nexts.Wait new t = t
  as-put (nexts.Done answer) new t = t

  -- ---- its save

  put-ends : (o : Opening) (result : Result (Unit {0}) Fault) (lane : ℕ) (file : List ℕ) (was : Shelf) (next : Step) (state : Putting) (new : Shelf)
      → EndsSo (PutEnd most top h x path) (nexts.Done (syncs.answer_of result)) → puts.Ends lane file (refusal_of result) was next state new → StateThen o next state
  put-ends o (Ok done) lane file was next state new e f = subst (λ (n : Step). StateThen o n state) (sym f.next_is) e
  put-ends o (Err fault) lane file was next state new e f = subst (λ (n : Step). StateThen o n state) (sym f.next_is) tt

  put-follows : (o : Opening) (gives : _) (lane : ℕ) (saved : Saving) (was : Shelf) (next : Step) (state : Putting) (new : Shelf) → FoundAs most top h x path saved.file
      → EndsSo (PutEnd most top h x path) (syncs.sync_next gives) → puts.Follows gives lane saved was next state new → StateThen o next state
  put-follows o gives lane saved was next state new found ends f = by-step
      (λ g. EndsSo (PutEnd most top h x path) (syncs.sync_next g) → puts.Follows g lane saved was next state new → StateThen o next state)
      (λ call e l. state-to o (nexts.Send call) next (putting.Saves saved) state l.0 l.1 found)
      (λ e l. state-to o nexts.Wait next (putting.Saves saved) state l.0 l.1 found)
      (λ result e l. put-ends o result lane saved.file was next state new e l) gives ends f

  put-queues : (b : Bool) (o : Opening) (wsize lane : ℕ) (turn : Turn) (s : Saving) (was : Shelf) (next : Step) (state : Putting) (new : Shelf) → FoundAs most top h x path s.file
      → puts.QueuesIf b wsize lane turn s was next state new → StateThen o next state
  put-queues true o wsize lane turn s was next state new found q =
      let steps = goes-steps (Unit {0}) wsize turn.xid turn.room false s was.back q.gives q.saved q.gone.back (λ again. tt) q.goes in
      put-follows o q.gives lane q.saved q.gone next state new (subst (FoundAs most top h x path) (sym steps.file) found)
      (ends-map ⊥ (PutEnd most top h x path) (λ no_way. absurd no_way) (syncs.sync_next q.gives) (goes-not wsize turn.xid turn.room s was.back q.gives q.saved q.gone.back q.goes)) q.follows
  put-queues false o wsize lane turn s was next state new found q = state-to o nexts.Wait next (putting.Saves s) state q.next_is q.state_is found

  after-write : (told : Step) (o : Opening) (wsize lane : ℕ) (file : List ℕ) (turn : Turn) (was : Shelf) (next : Step) (state : Putting) (new : Shelf) → FoundAs most top h x path file
      → puts.AfterWrite told wsize lane file turn was next state new → StateThen o next state
  after-write (nexts.Send call) o wsize lane file turn was next state new found a = state-to o (nexts.Send call) next (putting.Adds file) state a.0 a.1 found
  after-write nexts.Wait o wsize lane file turn was next state new found a = state-to o nexts.Wait next (putting.Adds file) state a.0 a.1 found
  after-write (nexts.Done (answers.Done value)) o wsize lane file turn was next state new found a =
      put-queues (is_first lane (joined lane file was).order) o wsize lane turn (saves.begun file was.seq) (joined lane file was) next state new found a
  after-write (nexts.Done (answers.Refused fault)) o wsize lane file turn was next state new found a = subst (λ (n : Step). StateThen o n state) (sym a.next_is) tt

  writes-on : (wsize : ℕ) (m : PutFile) (file : List ℕ) (turn : Turn) (told : Step) (written : Writing) (mid : Shelf) (next : Step) (new : PutFile) (after : Shelf)
      → FoundAs most top h x path file → puts.WritesOn wsize m file turn told written mid next new after → PutThen next new
  writes-on wsize m file turn told written mid next new after found w =
      as-put next new (after-write told new.opening wsize m.write.lane file turn mid next new.state after found w.follows)

  -- ---- its steps

  stays : (at : Putting) (m : PutFile) (was : Shelf) (next : Step) (new : PutFile) (after : Shelf) → m.state ≡ at → PutAt at m.opening → puts.Stays m was next new after → PutThen next new
  stays at m was next new after is s r =
      subst (λ (k : PutFile). PutThen next k) (sym r.machine_is)
      (then-as (λ (q : PutFile). PutAt q.state q.opening) PutAnswer nexts.Wait next m r.next_is (subst (λ (k : Putting). PutAt k m.opening) (sym is) s))

  pub put-resumes : (at : Putting) (wsize : ℕ) (m : PutFile) (turn : Turn) (was : Shelf) (next : Step) (new : PutFile) (after : Shelf) → m.state ≡ at → PutAt at m.opening
      → puts.Resumes at wsize m turn was next new after → PutThen next new
  put-resumes putting.Idle wsize m turn was next new after is s r = stays putting.Idle m was next new after is tt r
  put-resumes putting.Opens wsize m turn was next new after is s r =
      let gone : PutFile = record m { opening = opening.go_after m.opening turn } in
      let at : PutAt gone.state gone.opening = subst (λ (k : Putting). PutAt k gone.opening) (sym is) (go-at most top h x path m.opening turn s) in
      subst (λ (k : PutFile). PutThen next k) (sym r.1)
      (then-as (λ (q : PutFile). PutAt q.state q.opening) PutAnswer (opens.goes_as (opening.go_next m.opening turn)) next gone r.0 (by (opening.waits m.opening turn) gone at))
    where
      by : (b : Bool) (q : PutFile) → PutAt q.state q.opening → PutThen (opens.goes_as (if b then openings.Wait else openings.Send (opening.call_of m.opening m.opening.step))) q
      by true q a = a
      by false q a = a
  put-resumes (putting.Adds file) wsize m turn was next new after is s r = writes-on wsize m file turn r.told r.written r.mid next new after s r.goes
  put-resumes (putting.Saves saving) wsize m turn was next new after is s r =
      as-put next new (put-queues (is_first m.write.lane was.order) new.opening wsize m.write.lane turn saving was next new.state after s r.0)

  after-opening : (step : OpeningStep) (wsize : ℕ) (m : PutFile) (turn : Turn) (was : Shelf) (next : Step) (new : PutFile) (after : Shelf) → m.state ≡ putting.Opens
      → NextFound most top h x path step m.opening → puts.AfterOpening step wsize m turn was next new after → PutThen next new
  after-opening (openings.Send call) wsize m turn was next new after is s a =
      subst (λ (k : PutFile). PutThen next k) (sym a.1)
      (then-as (λ (q : PutFile). PutAt q.state q.opening) PutAnswer (nexts.Send call) next m a.0 (subst (λ (k : Putting). PutAt k m.opening) (sym is) s))
  after-opening openings.Wait wsize m turn was next new after is s a = stays putting.Opens m was next new after is s a
  after-opening (openings.Ended (Ok file)) wsize m turn was next new after is s a = writes-on wsize m file turn a.told a.written a.mid next new after s.found a.goes
  after-opening (openings.Ended (Err fault)) wsize m turn was next new after is s a =
      then-as (λ (q : PutFile). PutAt q.state q.opening) PutAnswer (nexts.Done (answers.Refused fault)) next new a.0 tt

  -- it ends well by a reply
  ends-by : (came : Result Reply Fault) (call : Call) (file : List ℕ) (wsize : ℕ) (sent turn : Turn) (repeats : _) (s : Saving) (back : _) (gives : _) (saved : Saving) (after : _)
      (later : _) → FoundAs most top h x path file → IsOn file call → IsHeard most top h x path came call → saves.Takes wsize sent turn came repeats s back gives saved after later
      → EndsSo (PutEnd most top h x path) (syncs.sync_next gives)
  ends-by (Ok reply) call file wsize sent turn repeats s back gives saved after later found on told t =
      ends-any (PutEnd most top h x path) (record { file = file; found = found; call = call; on = on; reply = reply; last = (told reply refl).last }) (syncs.sync_next gives)
  ends-by (Err fault) call file wsize sent turn repeats s back gives saved after later found on told t =
      ends-map ⊥ (PutEnd most top h x path) (λ no_way. absurd no_way) (syncs.sync_next gives) (takes-not wsize sent turn fault repeats s back gives saved after later t)

  pub put-takes : (at : Putting) (wsize : ℕ) (m : PutFile) (sent turn : Turn) (came : Result Reply Fault) (was : Shelf) (next : Step) (new : PutFile) (after : Shelf) (others : ℕ) (call : Call)
      → x < length h → m.state ≡ at → of_putting at m.opening m.write.state ≡ others + 1 → PutAt at m.opening → PutOn at m.opening m.write.state call → PutAwaits at m.opening call
      → IsHeard most top h x path came call → puts.Takes at wsize m sent turn came was next new after → PutThen next new
  put-takes putting.Idle wsize m sent turn came was next new after others call within is one s on e told t = stays putting.Idle m was next new after is tt t
  put-takes putting.Opens wsize m sent turn came was next new after others call within is one s on e told t =
      let again = opening.opening_again m.opening sent turn came was.repeats in
      let led = opening.led_on m.opening turn.now came t.took.attrs was.pages in
      let mine : IsHeard most top h x path came (opening.call_of m.opening m.opening.step) = subst (IsHeard most top h x path came) e told in
      after-opening t.step wsize (puts.led again m turn came t.took.attrs was.pages) turn t.took next new after is
      (led-next most top h x path within again m.opening sent turn led t.step was.pages t.took.pages s
      (led-on most top h x path m.opening turn.now came t.took.attrs was.pages s mine) t.leads) t.follows
  put-takes (putting.Adds file) wsize m sent turn came was next new after others call within is one s on e told t =
      writes-on wsize m file turn t.told t.written t.mid next new after s t.goes
  put-takes (putting.Saves saving) wsize m sent turn came was next new after others call within is one s on e told t =
      let steps = takes-steps (Unit {0}) wsize sent turn came was.repeats saving was.back t.0.gives t.0.saved t.0.took.back t.0.took.repeats others one (λ again. tt) (λ idle verf got. tt) t.0.takes in
      as-put next new
      (put-follows new.opening t.0.gives m.write.lane t.0.saved t.0.took next new.state after (subst (FoundAs most top h x path) (sym steps.file) s)
      (ends-by came call saving.file wsize sent turn was.repeats saving was.back t.0.gives t.0.saved t.0.took.back t.0.took.repeats s on told t.0.takes) t.0.follows)
