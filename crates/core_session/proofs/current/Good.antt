-- Of each open that went well, and of each open and read that is under way: its moment, and what is known of its file since it began.
use Rattle.core_session.proofs.Prelude.{◌≡◌, ◌≢◌, ◌<◌, ◌≤◌, ◌+◌, ◌-◌, ◌⊎◌, inl, inr, ℕ, List, [], ◌∷◌, ◌++◌, length, take, remove, Bool, true, false, nat_eq, Some, None, option_map, position, slice_get, slice_set, Option, Result, Ok, Err, refl, sym, ap, subst, ◌∙◌, arith, eqb-true, cases_lt, Attr, Stamp, Wcc, stamp_of, looked, xid_at, Waiting, next_xid, made_call, waiting_at, without, at_made, others_made, others_taken, gone, Pages, after_page, Pending, Answer, Fault, Entry, Began, Answered, Delivered, Clock, Call, Reply, Op, At, SpellsReply, proc_of, Modes, Ended, UnderWay, LastReply, of_object, Finds, At-below, At-grow, length_last, said_of, Step, Shelf, Reading, opened_pages, Mounted, Machine, machine_of, Starts, Lane, Purpose, State, Busy, Over, Setup, IsFresh, is_busy, IsIdle, numbers_of, with_state, record_of, Makes, IsRefused, Leads, Stirs, counted, StartsLane, TakesAt, AnswersAt, View, turn_at, unmade_turn, IsSetUp, HearsRecord, Reaches, IsMade, IsUnsent, IsOutstanding, begins-unbegun, taken_one, Known, reached-kept, idle-numbers, number_of, at-set, at-push, at-position, get-push, get-remove, skip, to-map, Rows, rows-stay, same-rows, silent-grow, rows-grow, taken-quiet, not-sent, taken-rows, ThenOf, Always, set-other, by-place, under-back, LastAtMost, IsOn, ReadOn, IsSentAs, Both, both-asks, SameCalls, IsAged, IsSeen, shown, WasRegular}
use Rattle.rpc_retry.specs.Held.{Held}
use Rattle.page_cache.specs.Pages.{opened}
use Rattle.claims.specs.Slots.{Opens}
use Rattle.client_core.specs.Steps.{Refuses}
use Rattle.core_facts.proofs.Stories.{now-told, answered-under}
use Rattle.core_answers.specs.bonds.Kept.{HadShown}
use Rattle.core_facts.proofs.Owning.{reached-since}
use Rattle.nfs_dir_calls.specs.declared.call.DirCall.TheVariants as dir_calls
use Rattle.nfs_dir_calls.specs.declared.keeping.DirKept.TheVariants as dir_kept
use Rattle.nfs_file_calls.specs.declared.call.FileCall.TheVariants as file_calls
use Rattle.nfs_file_calls.specs.declared.owned.FileKept.TheVariants as kept
use Rattle.world_model.specs.declared.answer.Answer.TheVariants as outcomes
use Rattle.world_model.specs.declared.message.Call.TheVariants as calls
use Rattle.world_model.specs.declared.message.Reply.TheVariants as replies
use Rattle.world_model.specs.declared.op.Op.TheVariants as ops
use Rattle.claims.specs.Slots as slots
use Rattle.client_shelf.specs.declared.step.Step.TheVariants as nexts
use Rattle.file_ops.specs.OpenFile as opens
use Rattle.core_facts.proofs.Flown.{Flown, keeps-flown}
use Rattle.core_facts.proofs.LastReplies.{last-back}
use Rattle.core_facts.proofs.SlotGrowth.{ended-back, ended-now, finds-by, finds-stays}
use Rattle.core_facts.proofs.SlotsAlong.{Plain, plain-laws}
use Rattle.core_answers.specs.bonds.Ages.{began_at, time_next}
use Rattle.core_answers.proofs.bonds.AttrsShown.{time-grows}
use Rattle.core_answers.proofs.engine.Told.{take-early}
use Rattle.core_answers.proofs.bonds.Timed.{MadeAfter, reached-timed}
use Rattle.core_answers.proofs.bonds.MachineCalls.{Asks}
use Rattle.core_answers.proofs.pages.Keeping as keeping
use Rattle.core_answers.proofs.pages.PiecesCalled.{called-sent}
use Rattle.core_session.proofs.current.BelievedAttrs.{IsBelieved, believed-taken}
use Rattle.core_session.proofs.current.FindsOne.{finds-one}
use Rattle.core_session.proofs.current.Along.{IsPlain, KeepsMoments, reached-moments}
use Rattle.core_session.proofs.current.FedMachines.{pages-starts, pages-resumes, pages-takes}
use Rattle.core_session.proofs.current.Moments.{IsMoment, AllTimely, WaitedSo, GoesOn, goes-itself, moment-goes, timely-goes, moment-grows, SinceIn, IsSince, marked-grows, regular-grows, IsToldSince, fed-marks, shows-marks, newly-opened, newly-known, moment-before}
use Rattle.core_session.proofs.current.OpenMarks.{IsOpening, IsRefusal, opening-starts, opening-resumes, opening-takes, Took, took_on, took_well, took_known}
use Rattle.core_session.proofs.current.OpenMarks as marks
use Rattle.core_session.proofs.current.ReadMarks.{past, IsSame, ReadIn, ThenRead, reading-starts, reading-resumes, reading-takes}
use Rattle.core_session.proofs.current.ToldNow.{IsToldNow, told-now}

-- ---- what is known

-- an open under way has its moment
pub record Opening (nocto : Bool) (h : List Entry) (v : View) (x : ℕ) (machine : Machine) : Type 0 where
  pub k : ℕ
  pub moment : IsMoment h v x k
  pub is : IsOpening nocto k machine

pub aged-grows : (modes : Modes) (h : List Entry) (e : Entry) (o s : ℕ) → IsAged modes h o s → IsAged modes (h ++ e ∷ []) o s
aged-grows modes h e o s a = record {
  may = a.may;
  ms = a.ms;
  shown_by = time-grows h (e ∷ []) (s + 1) a.ms a.shown_by;
  less = subst (λ (k : List Entry). time_next k < a.ms + modes.longest) (sym (take-early h (e ∷ []) o a.within)) a.less;
  within = let within = a.within in let more = length_last h e in omega (arith, within, more);
}

-- what is known of the file since an open began, or since such a place
pub record IsKnownSince (modes : Modes) (h : List Entry) (v : View) (f : List ℕ) (o : ℕ) : Type 0 where
  pub s : ℕ
  pub since : IsSince h v f s
  pub age : (s ≡ o) ⊎ IsAged modes h o s

-- One that went well found its file by the last reply, and of that it is known since the open began what its known stamp is.
pub record OpenedSo (modes : Modes) (h : List Entry) (v : View) (x : ℕ) : Type 0 where
  pub file : List ℕ
  pub finds : Finds modes h (length h) file
  pub since : IsKnownSince modes h v file x

-- A read under way has its moment too. Where it asks for the attributes of its file, and they came, it is known since the read began what the file's known
-- stamp is.
pub record AskedSo (h : List Entry) (v : View) (x : ℕ) (r : Reading) : Type 0 where
  pub moment : IsMoment h v x r.moment
  pub marked : past r.phase ≡ true → SinceIn h x r.file r.moment v.shelf.pages

-- of which operations something is said: of reads, where they ask
pub data Kind : Type 0 where
  opening : Kind
  reading : Kind
  neither : Kind

abbrev pub kind_of : Bool → Op → Kind
kind_of noac (ops.OpenFile slot mode path) = opening
kind_of true (ops.Read slot offset count) = reading
kind_of noac op = neither

abbrev pub Story : Modes → List Entry → View → ℕ → Kind → State → Type 0
Story modes h v x opening (Busy machine) = Opening modes.nocto h v x machine
Story modes h v x opening (Over (outcomes.Done value)) = OpenedSo modes h v x
Story modes h v x opening (Over (outcomes.Refused fault)) = Unit {0}
Story modes h v x reading (Busy machine) = ReadIn (AskedSo h v x) machine
Story modes h v x reading (Over answer) = Unit {0}
Story modes h v x neither state = Unit {0}

abbrev pub Then : Modes → List Entry → View → ℕ → Kind → Step → Machine → Type 0
Then modes h v x b next new = ThenOf (λ m. Story modes h v x b (Busy m)) (λ a. Story modes h v x b (Over a)) next new

abbrev pub AllOpened : Modes → List Entry → View → Type 0
AllOpened modes h v = (lane slot o y : ℕ) (f : List ℕ) → Opens modes h lane slot o y f → IsKnownSince modes h v f o

abbrev pub LaneTold : Bool → Modes → List Entry → View → Lane → Type 0
LaneTold noac modes h v lane = (x : ℕ) (op : Op) → UnderWay h lane.number x (length h) op → Story modes h v x (kind_of noac op) lane.state

pub record Good (noac : Bool) (modes : Modes) (h : List Entry) (v : View) : Type 0 where
  pub timely : AllTimely v
  pub opened : AllOpened modes h v
  pub lanes : (k : ℕ) (lane : Lane) → slice_get v.lanes k ≡ Some lane → LaneTold noac modes h v lane

-- ---- from one view to another

-- what is known of an open, and of a moment, is known then too
pub record Carries (h : List Entry) (old : View) (g : List Entry) (new : View) : Type 0 where
  pub moment : (o k : ℕ) → IsMoment h old o k → IsMoment g new o k
  pub marked : (f : List ℕ) (o k : ℕ) → IsMoment h old o k → SinceIn h o f k old.shelf.pages → SinceIn g o f k new.shelf.pages
  pub regular : (f : List ℕ) → WasRegular h f → WasRegular g f
  pub aged : (modes : Modes) (o s : ℕ) → IsAged modes h o s → IsAged modes g o s

carry-since : {h : List Entry} {old : View} {g : List Entry} {new : View} → Carries h old g new → (f : List ℕ) (o : ℕ) → IsSince h old f o → IsSince g new f o
carry-since c f o s = record { k = s.k; moment = c.moment o s.k s.moment; marked = c.marked f o s.k s.moment s.marked; regular = c.regular f s.regular }

pub carry : {modes : Modes} {h : List Entry} {old : View} {g : List Entry} {new : View} → Carries h old g new → (f : List ℕ) (o : ℕ) → IsKnownSince modes h old f o → IsKnownSince modes g new f o
carry {modes} {h} {old} {g} c f o k = record { s = k.s; since = carry-since c f k.s k.since; age = by k.age }
  where
    by : (k.s ≡ o) ⊎ IsAged modes h o k.s → (k.s ≡ o) ⊎ IsAged modes g o k.s
    by (inl same) = inl same
    by (inr old_) = inr (c.aged modes o k.s old_)

module _ (noac : Bool) (modes : Modes) where
  asked-carried : (h : List Entry) (old : View) (g : List Entry) (new : View) → Carries h old g new → (x : ℕ) (r : Reading) → AskedSo h old x r → AskedSo g new x r
  asked-carried h old g new c x r s = record { moment = c.moment x r.moment s.moment; marked = λ far. c.marked r.file x r.moment s.moment (s.marked far) }

  story-carried : (h : List Entry) (old : View) (g : List Entry) (new : View) → Carries h old g new → (x : ℕ) (b : Kind) (state : State)
      → ((answer : Answer) → state ≡ Over answer → (f : List ℕ) → Finds modes h (length h) f → Finds modes g (length g) f) → Story modes h old x b state → Story modes g new x b state
  story-carried h old g new c x opening (Busy machine) finds s = record { k = s.k; moment = c.moment x s.k s.moment; is = s.is }
  story-carried h old g new c x opening (Over (outcomes.Done value)) finds s =
      record { file = s.file; finds = finds (outcomes.Done value) refl s.file s.finds; since = carry c s.file x s.since }
  story-carried h old g new c x opening (Over (outcomes.Refused fault)) finds s = tt
  story-carried h old g new c x reading (Busy machine) finds s = record { m = s.m; is = s.is; r = s.r; reading = s.reading; told = asked-carried h old g new c x s.r s.told }
  story-carried h old g new c x reading (Over answer) finds s = tt
  story-carried h old g new c x neither state finds s = tt

  -- at the same history
  story-same : (h : List Entry) (old new : View) → Carries h old h new → (x : ℕ) (b : Kind) (state : State) → Story modes h old x b state → Story modes h new x b state
  story-same h old new c x b state s = story-carried h old h new c x b state (λ answer is f finds. finds) s

  then-same : (h : List Entry) (old new : View) → Carries h old h new → (x : ℕ) (b : Kind) (next : Step) (machine : Machine) → Then modes h old x b next machine → Then modes h new x b next machine
  then-same h old new c x b (nexts.Send call) machine s = story-same h old new c x b (Busy machine) s
  then-same h old new c x b nexts.Wait machine s = story-same h old new c x b (Busy machine) s
  then-same h old new c x b (nexts.Done answer) machine s = story-same h old new c x b (Over answer) s

  -- with the same pages
  pub same-pages : (h : List Entry) (old new : View) → new.shelf ≡ old.shelf → GoesOn h old new → Carries h old h new
  same-pages h old new is g = record {
    moment = λ o k m. moment-goes h old new o k g m;
    marked = λ f o k m s. subst (λ (z : Shelf). SinceIn h o f k z.pages) (sym is) s;
    regular = λ f r. r;
    aged = λ z o s a. a;
  }

  -- one entry more
  pub grown : (h : List Entry) (e : Entry) (v : View) → Carries h v (h ++ e ∷ []) v
  grown h e v = record { moment = λ o k m. moment-grows h e v o k m; marked = λ f o k m s. marked-grows h e o f k v.shelf.pages s; regular = λ f r. regular-grows h e f r; aged = λ z o s a. aged-grows z h e o s a }

  -- where nothing is said
  none-said : (h : List Entry) (v : View) (x : ℕ) (next : Step) (machine : Machine) → Then modes h v x neither next machine
  none-said h v x (nexts.Send call) machine = tt
  none-said h v x nexts.Wait machine = tt
  none-said h v x (nexts.Done answer) machine = tt

  refusal-said : (h : List Entry) (v : View) (x : ℕ) (answer : Answer) → IsRefusal answer → Story modes h v x opening (Over answer)
  refusal-said h v x (outcomes.Done value) r = absurd r
  refusal-said h v x (outcomes.Refused fault) r = tt

  -- the same read, at another view
  asked-same : (h : List Entry) (old : View) (g : List Entry) (new : View) → Carries h old g new → (x : ℕ) (r n : Reading) → IsSame r n → AskedSo h old x r → AskedSo g new x n
  asked-same h old g new c x r n same s =
      let now = asked-carried h old g new c x r s in
      record {
        moment = subst (IsMoment g new x) (sym same.moment) now.moment;
        marked = λ far. subst (λ (k : ℕ). SinceIn g x n.file k new.shelf.pages) (sym same.moment) (subst (λ (f : List ℕ). SinceIn g x f r.moment new.shelf.pages) (sym same.file) (now.marked (same.far far)));
      }

  then-reading : (h : List Entry) (v : View) (x : ℕ) (next : Step) (machine : Machine) → ThenRead (AskedSo h v x) next machine → Then modes h v x reading next machine
  then-reading h v x (nexts.Send call) machine s = s
  then-reading h v x nexts.Wait machine s = s
  then-reading h v x (nexts.Done answer) machine s = tt

  went-on : (h : List Entry) (v : View) (x k : ℕ) (next : Step) (machine : Machine) → IsMoment h v x k → marks.GoesOn modes.nocto k next machine → Then modes h v x opening next machine
  went-on h v x k (nexts.Send call) machine m g = record { k = k; moment = m; is = g }
  went-on h v x k nexts.Wait machine m g = record { k = k; moment = m; is = g }
  went-on h v x k (nexts.Done answer) machine m g = refusal-said h v x answer g

  well-said : (h : List Entry) (v : View) (x : ℕ) (next : Step) (machine : Machine) → next ≡ opens.well → OpenedSo modes h v x → Then modes h v x opening next machine
  well-said h v x next machine is s = subst (λ (n : Step). Then modes h v x opening n machine) (sym is) s

  -- ---- what a step leads to

  -- The machine of the lane at a place made a step, and what that leads to is still to come.
  record Owing (h : List Entry) (v : View) (at number : ℕ) (machine : Machine) (next : Step) : Type 0 where
    there : slice_get v.lanes at ≡ Some (record { number = number; state = Busy machine })
    timely : AllTimely v
    opened : AllOpened modes h v
    rest : (k : ℕ) (lane : Lane) → slice_get v.lanes k ≡ Some lane → k ≢ at → LaneTold noac modes h v lane
    told : (x : ℕ) (op : Op) → UnderWay h number x (length h) op → Then modes h v x (kind_of noac op) next machine

  -- the lane at the place comes to another state, over a view that carries all on
  set-good : (h : List Entry) (v new : View) (at number : ℕ) (machine : Machine) (next : Step) (state : State) → Owing h v at number machine next
      → new.lanes ≡ slice_set v.lanes at (record { number = number; state = state }) → Carries h v h new → AllTimely new
      → ((x : ℕ) (op : Op) → UnderWay h number x (length h) op → Story modes h new x (kind_of noac op) state) → Good noac modes h new
  set-good h v new at number machine next state o lanes c timely own = record {
    timely = timely;
    opened = λ lane slot p y f opens. carry c f p (o.opened lane slot p y f opens);
    lanes = λ k lane there.
        by-place (LaneTold noac modes h new) (slice_set v.lanes at now) at now (at-set v.lanes at (record { number = number; state = Busy machine }) now o.there) own
        (λ j l here apart x op u. story-same h v new c x (kind_of noac op) l.state (o.rest j l (sym (set-other v.lanes at j now apart) ∙ here) apart x op u)) k lane
        (sym (ap (λ (ls : List Lane). slice_get ls k) lanes) ∙ there);
  }
    where
      now : Lane
      now = record { number = number; state = state }

  -- it stays as it is
  stay-good : (h : List Entry) (v new : View) (at number : ℕ) (machine : Machine) (next : Step) → Owing h v at number machine next → new.lanes ≡ v.lanes → Carries h v h new → AllTimely new
      → ((x : ℕ) (op : Op) → UnderWay h number x (length h) op → Story modes h new x (kind_of noac op) (Busy machine)) → Good noac modes h new
  stay-good h v new at number machine next o lanes c timely own = record {
    timely = timely;
    opened = λ lane slot p y f opens. carry c f p (o.opened lane slot p y f opens);
    lanes = λ k lane there.
        by-place (LaneTold noac modes h new) v.lanes at (record { number = number; state = Busy machine }) o.there own
        (λ j l here apart x op u. story-same h v new c x (kind_of noac op) l.state (o.rest j l here apart x op u)) k lane
        (sym (ap (λ (ls : List Lane). slice_get ls k) lanes) ∙ there);
  }

  some-call : (a b : Waiting Purpose) → Some a ≡ Some b → a ≡ b
  some-call a b e = cc

  goes-state : (h : List Entry) (v : View) (at number : ℕ) (state : State) (shelf : Shelf) → GoesOn h v (with_state v at number state shelf)
  goes-state h v at number state shelf = record { moments = omega arith; calls = λ xid w waits. inl (record { was = w; waited = waits; purpose = refl }) }

  -- a call that is made wasn't sent yet
  made-goes : (setup : Setup) (h : List Entry) (v : View) (number : ℕ) (call : Call) (new : View) (k : Makes v number call new) → Rows setup h v → GoesOn h v new
  made-goes setup h v number call new k r = subst (GoesOn h v) (sym k.is) (record {
    moments = omega arith;
    calls = λ xid w at. by xid w at (nat_eq xid (next_xid v.calls)) refl;
  })
    where
      row : Waiting Purpose
      row = made_call (record_of v call k.args) (record { lane = number; proc = proc_of call; sent = turn_at v })

      by : (xid : ℕ) (w : Waiting Purpose) → waiting_at xid (v.calls.calls ++ (next_xid v.calls, row) ∷ []) ≡ Some w → (b : Bool) → nat_eq xid (next_xid v.calls) ≡ b
          → WaitedSo v xid w ⊎ (IsUnsent h xid × (w.purpose.sent.moment ≤ v.moments + 1))
      by xid w at true d =
          let is : xid ≡ next_xid v.calls = eqb-true xid (next_xid v.calls) d in
          let which : row ≡ w = some-call row w (sym (at_made v.calls.cred v.calls.first_xid (next_xid v.calls) xid (next_xid v.calls) v.calls.calls row r.sound.calls.each is refl) ∙ at) in
          inr (
            λ i bytes sent has. let low = r.used i xid bytes sent has in absurd (omega (arith, low, is)),
            subst (λ (z : Waiting Purpose). z.purpose.sent.moment ≤ v.moments + 1) which (omega arith),
          )
      by xid w at false d = inl (record { was = w; waited = sym (others_made xid (next_xid v.calls) v.calls.calls row d) ∙ at; purpose = refl })

  module _ (setup : Setup) where
    module _ (h : List Entry) (v new : View) (at number : ℕ) (machine : Machine) (call : Call) (f : Refuses v at number machine new) where
      no-reply : (reply : Reply) → ◌≡◌ {A = Result Reply Fault} (Err f.fault) (Ok reply) → ⊥
      no-reply reply e = cc

      -- what a step that finds its call refused makes of the pages
      refused-pages : (p : ℕ) (g : List ℕ) (k : ℕ) → IsMoment h v p k → SinceIn h p g k v.shelf.pages → SinceIn h p g k f.left.pages
      refused-pages p g k m t =
          let given = m.given in
          pages-takes (SinceIn h p g k) (λ file index c. shows-marks h p g k file index c) call (Err f.fault) (turn_at v) (unmade_turn v)
          (fed-marks h p g k call (Err f.fault) (turn_at v) (unmade_turn v) (omega (arith, given)) (λ reply is. absurd (no-reply reply is))) v.shelf (λ reply is. absurd (no-reply reply is))
          machine v.wsize f.next f.after f.left (λ reply is. absurd (no-reply reply is)) f.takes t

      abbrev refused-view : View
      refused-view = with_state v at number f.state f.left

      carried : Carries h v h refused-view
      carried = record {
        moment = λ p k m. moment-goes h v refused-view p k (goes-state h v at number f.state f.left) m;
        marked = λ g p k m s. refused-pages p g k m s;
        regular = λ g r. r;
        aged = λ z o s a. a;
      }

      refused-open : (x : ℕ) → Opening modes.nocto h v x machine → Then modes h refused-view x opening f.next f.after
      refused-open x s = by (opening-takes modes.nocto s.k call (Err f.fault) (turn_at v) (unmade_turn v) machine v.wsize v.shelf f.next f.after f.left s.is (λ reply is. absurd (no-reply reply is)) f.takes)
        where
          by : Took modes.nocto s.k call (Err f.fault) (turn_at v) (unmade_turn v) f.left.attrs v.shelf.pages f.next f.after f.left.pages → Then modes h refused-view x opening f.next f.after
          by (took_on g) = went-on h refused-view x s.k f.next f.after (moment-goes h v refused-view x s.k (goes-state h v at number f.state f.left) s.moment) g
          by (took_well file attr is came on kind later) = absurd (no-reply _ came)
          by (took_known file stamp attr is may (marks.by_lookup a dir came) looked_is kind stamp_is later) = absurd (no-reply _ came)
          by (took_known file stamp attr is may (marks.by_create a wcc came) looked_is kind stamp_is later) = absurd (no-reply _ came)

      refused-read : (x : ℕ) → ReadIn (AskedSo h v x) machine → ThenRead (AskedSo h refused-view x) f.next f.after
      refused-read x s =
          reading-takes (AskedSo h v x) (AskedSo h refused-view x) (asked-same h v h refused-view carried x) (Err f.fault) (turn_at v) (unmade_turn v) machine v.wsize v.shelf f.next f.after f.left
          (λ r n attr came. absurd (no-reply _ came)) s f.takes

      err-told : (x : ℕ) (b : Kind) → Story modes h v x b (Busy machine) → Then modes h refused-view x b f.next f.after
      err-told x neither s = none-said h refused-view x f.next f.after
      err-told x reading s = then-reading h refused-view x f.next f.after (refused-read x s)
      err-told x opening s = refused-open x s

      state-told : (next : Step) (state : State) → IsRefused f.after next state → (x : ℕ) (b : Kind) → Then modes h refused-view x b next f.after → Story modes h refused-view x b state
      state-told (nexts.Send again) state is x b t = absurd is
      state-told nexts.Wait state is x b t = subst (Story modes h refused-view x b) (sym is) t
      state-told (nexts.Done answer) state is x b t = subst (Story modes h refused-view x b) (sym is) t

    leads-good : (h : List Entry) (v new : View) (at number : ℕ) (machine : Machine) (next : Step) → Rows setup h v → Owing h v at number machine next → Leads v at number machine next new
        → Good noac modes h new
    leads-good h v new at number machine (nexts.Send call) r o (inl m) =
        let g = made-goes setup h v number call new m r in
        let c = same-pages h v new (ap (λ (z : View). z.shelf) m.is) g in
        stay-good h v new at number machine (nexts.Send call) o (ap (λ (z : View). z.lanes) m.is) c (timely-goes h v new g o.timely)
        (λ x op u. story-same h v new c x (kind_of noac op) (Busy machine) (o.told x op u))
    leads-good h v new at number machine (nexts.Send call) r o (inr f) =
        subst (Good noac modes h) (sym f.is)
        (set-good h v (with_state v at number f.state f.left) at number machine (nexts.Send call) f.state o refl (carried h v new at number machine call f) o.timely
        (λ x op u. state-told h v new at number machine call f f.next f.state f.leads x (kind_of noac op) (err-told h v new at number machine call f x (kind_of noac op) (o.told x op u))))
    leads-good h v new at number machine nexts.Wait r o is =
        subst (Good noac modes h) (sym is) (stay-good h v v at number machine nexts.Wait o refl (same-pages h v v refl (goes-itself h v)) o.timely o.told)
    leads-good h v new at number machine (nexts.Done answer) r o is =
        subst (Good noac modes h) (sym is)
        (set-good h v (with_state v at number (Over answer) v.shelf) at number machine (nexts.Done answer) (Over answer) o refl
        (same-pages h v (with_state v at number (Over answer) v.shelf) refl (goes-state h v at number (Over answer) v.shelf)) o.timely
        (λ x op u. story-same h v (with_state v at number (Over answer) v.shelf) (same-pages h v (with_state v at number (Over answer) v.shelf) refl (goes-state h v at number (Over answer) v.shelf)) x (kind_of noac op) (Over answer) (o.told x op u)))

-- ---- opens, and what they find

-- an open that was answered before the last entry
pub earlier : (modes : Modes) (h : List Entry) (e : Entry) (lane slot x y : ℕ) (f : List ℕ) → y < length h → Opens modes (h ++ e ∷ []) lane slot x y f → Opens modes h lane slot x y f
earlier modes h e lane slot x y f low o = record {
  mode = o.mode;
  path = o.path;
  value = o.value;
  ended = ended-back h e lane x (ops.OpenFile slot o.mode o.path) y (outcomes.Done o.value) low o.ended;
  finds = finds-by modes (h ++ e ∷ []) y h y f (λ call l. last-back h e y call (omega (arith, low)) l) (λ call l. (refl, refl)) o.finds;
}

pub finds-back : (modes : Modes) (h : List Entry) (e : Entry) (f : List ℕ) → Finds modes (h ++ e ∷ []) (length h) f → Finds modes h (length h) f
finds-back modes h e f = finds-by modes (h ++ e ∷ []) (length h) h (length h) f (λ call l. last-back h e (length h) call (omega arith) l) (λ call l. (refl, refl))

-- no open is answered by an entry that is no answer
pub not-now : (modes : Modes) (h : List Entry) (e : Entry) (lane slot x y : ℕ) (f : List ℕ) → ((n line : ℕ) (answer : Answer) → e ≡ Answered n line answer → ⊥) → length h ≤ y
    → Opens modes (h ++ e ∷ []) lane slot x y f → ⊥
not-now modes h e lane slot x y f never high o =
    let within = At-below (h ++ e ∷ []) y (Answered lane o.ended.line (outcomes.Done o.value)) o.ended.answered in
    let more = length_last h e in
    let here : Ended (h ++ e ∷ []) lane x (ops.OpenFile slot o.mode o.path) (length h) (outcomes.Done o.value) =
    subst (λ (z : ℕ). Ended (h ++ e ∷ []) lane x (ops.OpenFile slot o.mode o.path) z (outcomes.Done o.value)) (omega (arith, high, within, more)) o.ended in
    never lane here.line (outcomes.Done o.value) (ended-now h e lane x (ops.OpenFile slot o.mode o.path) (outcomes.Done o.value) here)

-- the call to which GETATTR's reply answers
some-file : (a b : List ℕ) → Some a ≡ Some b → a ≡ b
some-file a b e = cc

asked-get : (call : Call) (file : List ℕ) (xid : ℕ) (attr : Attr) (bytes : List ℕ) → IsOn file call → SpellsReply xid call (replies.File (kept.GetAttr attr)) bytes
    → call ≡ calls.File (file_calls.GetAttr file)
asked-get (calls.File (file_calls.GetAttr f)) file xid attr bytes on s = ap (λ (g : List ℕ). calls.File (file_calls.GetAttr g)) (some-file f file on)
asked-get (calls.File file_calls.Null) file xid attr bytes on s = absurd (let no_way : 1 ≡ 0 = s.is.answers in omega (arith, no_way))
asked-get (calls.File (file_calls.SetAttr f set guard)) file xid attr bytes on s = absurd (let no_way : 1 ≡ 2 = s.is.answers in omega (arith, no_way))
asked-get (calls.File (file_calls.Access f bits)) file xid attr bytes on s = absurd (let no_way : 1 ≡ 4 = s.is.answers in omega (arith, no_way))
asked-get (calls.File (file_calls.Read f offset count)) file xid attr bytes on s = absurd (let no_way : 1 ≡ 6 = s.is.answers in omega (arith, no_way))
asked-get (calls.File (file_calls.Write f offset how data_)) file xid attr bytes on s = absurd (let no_way : 1 ≡ 7 = s.is.answers in omega (arith, no_way))
asked-get (calls.File (file_calls.FsStat f)) file xid attr bytes on s = absurd (let no_way : 1 ≡ 18 = s.is.answers in omega (arith, no_way))
asked-get (calls.File (file_calls.FsInfo f)) file xid attr bytes on s = absurd (let no_way : 1 ≡ 19 = s.is.answers in omega (arith, no_way))
asked-get (calls.File (file_calls.PathConf f)) file xid attr bytes on s = absurd (let no_way : 1 ≡ 20 = s.is.answers in omega (arith, no_way))
asked-get (calls.File (file_calls.Commit f offset count)) file xid attr bytes on s = absurd (let no_way : 1 ≡ 21 = s.is.answers in omega (arith, no_way))
asked-get (calls.Dir k) file xid attr bytes on s = absurd s.is
asked-get (calls.Mount k) file xid attr bytes on s = absurd s.is

-- LOOKUP's and CREATE's replies answer such calls, and say which file an open found
found-look : (modes : Modes) (h : List Entry) (n : ℕ) (call : Call) (file : List ℕ) (attr dir : Option Attr) (last : LastReply h n call) → modes.nocto ≡ true
    → SpellsReply last.xid call (replies.Dir (dir_kept.Lookup file attr dir)) last.bytes → Finds modes h n file
found-look modes h n (calls.Dir (dir_calls.Lookup d name)) file attr dir last may s = slots.looked_up may d name attr dir last s
found-look modes h n (calls.Dir (dir_calls.ReadLink f)) file attr dir last may s = absurd (let no_way : 3 ≡ 5 = s.is.of in omega (arith, no_way))
found-look modes h n (calls.Dir (dir_calls.Create d name making)) file attr dir last may s = absurd (let no_way : 3 ≡ 8 = s.is.of in omega (arith, no_way))
found-look modes h n (calls.Dir (dir_calls.MkDir d name set)) file attr dir last may s = absurd (let no_way : 3 ≡ 9 = s.is.of in omega (arith, no_way))
found-look modes h n (calls.Dir (dir_calls.SymLink d name set target)) file attr dir last may s = absurd (let no_way : 3 ≡ 10 = s.is.of in omega (arith, no_way))
found-look modes h n (calls.Dir (dir_calls.MkNod d name node)) file attr dir last may s = absurd (let no_way : 3 ≡ 11 = s.is.of in omega (arith, no_way))
found-look modes h n (calls.Dir (dir_calls.Remove d name)) file attr dir last may s = absurd (let no_way : 3 ≡ 12 = s.is.of in omega (arith, no_way))
found-look modes h n (calls.Dir (dir_calls.RmDir d name)) file attr dir last may s = absurd (let no_way : 3 ≡ 13 = s.is.of in omega (arith, no_way))
found-look modes h n (calls.Dir (dir_calls.Rename d name to_dir to)) file attr dir last may s = absurd (let no_way : 3 ≡ 14 = s.is.of in omega (arith, no_way))
found-look modes h n (calls.Dir (dir_calls.Link f d name)) file attr dir last may s = absurd (let no_way : 3 ≡ 15 = s.is.of in omega (arith, no_way))
found-look modes h n (calls.Dir (dir_calls.ReadDir d cookie verf count)) file attr dir last may s = absurd (let no_way : 3 ≡ 16 = s.is.of in omega (arith, no_way))
found-look modes h n (calls.Dir (dir_calls.ReadDirPlus d cookie verf dircount maxcount)) file attr dir last may s = absurd (let no_way : 3 ≡ 17 = s.is.of in omega (arith, no_way))
found-look modes h n (calls.File k) file attr dir last may s = absurd s.is
found-look modes h n (calls.Mount k) file attr dir last may s = absurd s.is

found-made : (modes : Modes) (h : List Entry) (n : ℕ) (call : Call) (file : List ℕ) (attr : Option Attr) (wcc : Wcc) (last : LastReply h n call) → modes.nocto ≡ true
    → SpellsReply last.xid call (replies.Dir (dir_kept.Create (Some file) attr wcc)) last.bytes → Finds modes h n file
found-made modes h n (calls.Dir (dir_calls.Create d name making)) file attr wcc last may s = slots.made may d name making attr wcc last s
found-made modes h n (calls.Dir (dir_calls.Lookup d name)) file attr wcc last may s = absurd (let no_way : 8 ≡ 3 = s.is.of in omega (arith, no_way))
found-made modes h n (calls.Dir (dir_calls.ReadLink f)) file attr wcc last may s = absurd (let no_way : 8 ≡ 5 = s.is.of in omega (arith, no_way))
found-made modes h n (calls.Dir (dir_calls.MkDir d name set)) file attr wcc last may s = absurd (let no_way : 8 ≡ 9 = s.is.of in omega (arith, no_way))
found-made modes h n (calls.Dir (dir_calls.SymLink d name set target)) file attr wcc last may s = absurd (let no_way : 8 ≡ 10 = s.is.of in omega (arith, no_way))
found-made modes h n (calls.Dir (dir_calls.MkNod d name node)) file attr wcc last may s = absurd (let no_way : 8 ≡ 11 = s.is.of in omega (arith, no_way))
found-made modes h n (calls.Dir (dir_calls.Remove d name)) file attr wcc last may s = absurd (let no_way : 8 ≡ 12 = s.is.of in omega (arith, no_way))
found-made modes h n (calls.Dir (dir_calls.RmDir d name)) file attr wcc last may s = absurd (let no_way : 8 ≡ 13 = s.is.of in omega (arith, no_way))
found-made modes h n (calls.Dir (dir_calls.Rename d name to_dir to)) file attr wcc last may s = absurd (let no_way : 8 ≡ 14 = s.is.of in omega (arith, no_way))
found-made modes h n (calls.Dir (dir_calls.Link f d name)) file attr wcc last may s = absurd (let no_way : 8 ≡ 15 = s.is.of in omega (arith, no_way))
found-made modes h n (calls.Dir (dir_calls.ReadDir d cookie verf count)) file attr wcc last may s = absurd (let no_way : 8 ≡ 16 = s.is.of in omega (arith, no_way))
found-made modes h n (calls.Dir (dir_calls.ReadDirPlus d cookie verf dircount maxcount)) file attr wcc last may s = absurd (let no_way : 8 ≡ 17 = s.is.of in omega (arith, no_way))
found-made modes h n (calls.File k) file attr wcc last may s = absurd s.is
found-made modes h n (calls.Mount k) file attr wcc last may s = absurd s.is

-- a place at which the clock had shown something isn't the first
shown-some : (h : List Entry) (n ms : ℕ) → HadShown h n ms → 0 < n
shown-some h n ms (inl b) = let low = b.1.before in omega (arith, low)
shown-some h n ms (inr s) = let low = s.2 in omega (arith, low)

-- ---- the call of a lane

no-story : (next : Step) (new : Machine) → ThenOf (λ k. Unit {0}) (λ a. Unit {0}) next new
no-story (nexts.Send call) new = tt
no-story nexts.Wait new = tt
no-story (nexts.Done answer) new = tt

-- of the shelf and the operations nothing is said
none-laws : (m : Mounted) (setup : Setup) → keeping.BondLaws (machine_of m) setup Both (λ h lane shelf. Unit {0}) (λ h shelf. Unit {0}) (λ h x op state. Unit {0})
none-laws m setup = record {
  starts = λ h lane line op wsize turn old next new after given passed g late s. record { kept = tt; then_ = no-story next new };
  resumes = λ h x op machine wsize turn old next new after g passed within late story r. record { kept = tt; then_ = no-story next new };
  takes = λ h x op machine call wsize sent turn came old next new after g within late story on told t. record { kept = tt; then_ = no-story next new };
  still = λ h e shelf g. tt;
  grows = λ h e x op state story. tt;
  lost = λ h x op l. tt;
}

-- The call that waits is one that the lane's machine waits for, and what is in flight under its xid is what it writes.
record Mine (setup : Setup) (h : List Entry) (clock xid : ℕ) (call : Waiting Purpose) (machine : Machine) (back : Pending) : Type 0 where
  made : IsMade setup.cred xid call
  on : Both machine made.asked
  link : IsSentAs call.purpose.sent.xid made.asked back
  late : (x lane line : ℕ) (op : Op) → At h x (Began lane line op) → began_at h x ≤ clock

mine-of : (m : Mounted) (setup : Setup) (h : List Entry) (old : View) → Reaches (machine_of m) setup h old → old.lost ≡ false → (xid : ℕ) (call : Waiting Purpose) (at number : ℕ) (machine : Machine)
    → waiting_at xid old.calls.calls ≡ Some call → number ≡ call.purpose.lane → slice_get old.lanes at ≡ Some (record { number = number; state = Busy machine })
    → Mine setup h old.clock xid call machine old.shelf.back
mine-of m setup h old r found xid call at number machine waits is there =
    let all = keeping.reached-known m setup Both both-asks (λ k lane shelf. Unit {0}) (λ k shelf. Unit {0}) (λ k x op state. Unit {0}) (none-laws m setup)
    (λ k w lane reached_ found_ idle. tt) (λ k w fresh. tt) h old r in
    let own = (all.lanes at (record { number = number; state = Busy machine }) there).0 xid call waits (sym is) in
    let flown : Flown old = reached-kept (machine_of m) (begins-unbegun m) setup Flown (keeps-flown m setup) h old r found in
    record {
      made = own.made;
      on = own.on;
      link = called-sent setup.cred xid call call.purpose.sent.xid old.shelf.back own.made
          (flown.sents xid call.purpose (ap (option_map (λ (w : Waiting Purpose). w.purpose)) waits)) (all.called xid call waits);
      late = all.late;
    }

-- ---- the laws

-- a step of this lane at the same history
module _ (mounted : Mounted) (modes : Modes) (same : mounted.nocto ≡ modes.nocto) (setup : Setup) (lasts : modes.nocto ≡ true → LastAtMost setup.lives modes.longest) where
  abbrev noac : Bool
  noac = mounted.noac

  abbrev G : List Entry → View → Type 0
  G h v = Good noac modes h v

  lane-rest : (h : List Entry) (old : View) (at number : ℕ) (was : State) (state : State) (shelf : Shelf) → slice_get old.lanes at ≡ Some (record { number = number; state = was })
      → (new : View) → new ≡ with_state old at number state shelf → Carries h old h new → G h old → (k : ℕ) (lane : Lane) → slice_get new.lanes k ≡ Some lane → k ≢ at → LaneTold noac modes h new lane
  lane-rest h old at number was state shelf there new is c g k lane here apart x op u =
      story-same noac modes h old new c x (kind_of noac op) lane.state
      (g.lanes k lane (sym (set-other old.lanes at k (record { number = number; state = state }) apart) ∙ ap (λ (v : View). slice_get v.lanes k) (sym is) ∙ here) x op u)

  -- ---- a step without a reply

  stirs-good : (h : List Entry) (old new : View) (at : ℕ) → Known setup h old → Stirs old at new → G h old → G h new
  stirs-good h old new at known t g =
      leads-good noac modes setup h mid new at t.number t.after t.next ((rows-stay setup h).sets old at t.number (Busy t.machine) (Busy t.after) t.shelf t.there known.rows)
      (record {
        there = at-set old.lanes at (record { number = t.number; state = Busy t.machine }) (record { number = t.number; state = Busy t.after }) t.there;
        timely = g.timely;
        opened = λ lane slot o y f opens. carry carried f o (g.opened lane slot o y f opens);
        rest = lane-rest h old at t.number (Busy t.machine) (Busy t.after) t.shelf t.there mid refl carried g;
        told = λ x op u. own x (kind_of noac op) (g.lanes at (record { number = t.number; state = Busy t.machine }) t.there x op u);
      }) t.leads
    where
      mid : View
      mid = with_state old at t.number (Busy t.after) t.shelf

      carried : Carries h old h mid
      carried = record {
        moment = λ o k m. record { low = m.low; given = m.given; sent = m.sent };
        marked = λ f o k m s. pages-resumes (SinceIn h o f k) (λ file index c. shows-marks h o f k file index c) t.machine old.wsize (turn_at old) old.shelf t.next t.after t.shelf t.resumes s;
        regular = λ f r. r;
        aged = λ z o s a. a;
      }

      own : (x : ℕ) (b : Kind) → Story modes h old x b (Busy t.machine) → Then modes h mid x b t.next t.after
      own x neither s = none-said noac modes h mid x t.next t.after
      own x reading s =
          then-reading noac modes h mid x t.next t.after
          (reading-resumes (AskedSo h old x) (AskedSo h mid x) (asked-same noac modes h old h mid carried x) t.machine old.wsize (turn_at old) old.shelf t.next t.after t.shelf s t.resumes)
      own x opening s =
          went-on noac modes h mid x s.k t.next t.after (carried.moment x s.k s.moment)
          (opening-resumes modes.nocto s.k t.machine old.wsize (turn_at old) old.shelf t.next t.after t.shelf s.is t.resumes)

  -- ---- an operation begins

  began-is : (a b c d : ℕ) (o p : Op) → Began a b o ≡ Began c d p → a ≡ c
  began-is a b c d o p e = cc

  starts-good : (h : List Entry) (old new : View) (lane line : ℕ) (op : Op) (now : ℕ) → Reaches (machine_of mounted) setup h old → old.lost ≡ false → Known setup h old
      → IsIdle lane old.lanes → StartsLane (counted old now) lane (machine_of mounted lane op) new → Rows setup (h ++ Began lane line op ∷ []) (counted old now) → G h old
      → G (h ++ Began lane line op ∷ []) new
  starts-good h old new lane line op now r found known idle t rows g =
      leads-good noac modes setup later mid new (length old.lanes) lane t.after t.next (same-rows setup later (counted old now) mid refl rows)
      (record {
        there = at-push old.lanes (record { number = lane; state = Busy t.after });
        timely = λ xid w waits. let low = g.timely xid w waits in omega (arith, low);
        opened = λ n slot o y f opens. carry carried f o (g.opened n slot o y f (opens-back n slot o y f opens));
        rest = λ k l there apart. by k l apart (get-push old.lanes (record { number = lane; state = Busy t.after }) k l there);
        told = λ x o u. now-told (machine_of mounted) (begins-unbegun mounted) setup Always (λ w z k f number other. tt) Plain (plain-laws mounted) h old lane line op
            (λ y q. Then modes later mid y (kind_of noac q) t.next t.after) known.lanes idle.other (own op refl) x o u;
      }) t.leads
    where
      later : List Entry
      later = h ++ Began lane line op ∷ []

      mid : View
      mid = record (counted old now) { lanes = old.lanes ++ record { number = lane; state = Busy t.after } ∷ []; shelf = t.shelf }

      carried : Carries h old later mid
      carried = record {
        moment = λ o k m. moment-of o k m;
        marked = λ f o k m s.
            pages-starts (SinceIn later o f k) (λ file index c. shows-marks later o f k file index c) (machine_of mounted lane op) old.wsize (turn_at (counted old now)) old.shelf t.next t.after t.shelf t.starts
            (marked-grows h (Began lane line op) o f k old.shelf.pages s);
        regular = λ f r. regular-grows h (Began lane line op) f r;
        aged = λ z o s a. aged-grows z h (Began lane line op) o s a;
      }
        where
          moment-of : (o k : ℕ) → IsMoment h old o k → IsMoment later mid o k
          moment-of o k m =
              let n = moment-grows h (Began lane line op) old o k m in
              record { low = n.low; given = (let given = m.given in omega (arith, given)); sent = n.sent }

      -- its own moment is later than that of each call that waits
      moment : IsMoment later mid (length h) (old.moments + 1)
      moment = record {
        low = let more = length_last h (Began lane line op) in omega (arith, more);
        given = omega arith;
        sent = λ xid w waits late i bytes at has. let low = g.timely xid w waits in absurd (omega (arith, low, late));
      }

      opens-back : (n slot o y : ℕ) (f : List ℕ) → Opens modes later n slot o y f → Opens modes h n slot o y f
      opens-back n slot o y f opens = by (cases_lt y (length h))
        where
          by : (y < length h) ⊎ (length h ≤ y) → Opens modes h n slot o y f
          by (inl low) = earlier modes h (Began lane line op) n slot o y f low opens
          by (inr high) = absurd (not-now modes h (Began lane line op) n slot o y f (λ p q a e. cc) high opens)

      own-read : (slot offset count : ℕ) (b : Bool) → noac ≡ b → Starts old.wsize (machine_of mounted lane (ops.Read slot offset count)) (turn_at (counted old now)) old.shelf t.next t.after t.shelf
          → Then modes later mid (length h) (kind_of b (ops.Read slot offset count)) t.next t.after
      own-read slot offset count true is s =
          then-reading noac modes later mid (length h) t.next t.after
          (reading-starts (AskedSo later mid (length h)) (old.moments + 1)
          (λ r at first. record { moment = subst (IsMoment later mid (length h)) (sym at) moment; marked = λ far. absurd (first far) })
          mounted lane slot offset count old.wsize (turn_at (counted old now)) old.shelf t.next t.after t.shelf is (omega arith) s)
      own-read slot offset count false is s = none-said noac modes later mid (length h) t.next t.after

      own : (o : Op) → op ≡ o → Then modes later mid (length h) (kind_of noac op) t.next t.after
      own (ops.OpenFile slot mode path) is =
          subst (λ (q : Op). Then modes later mid (length h) (kind_of noac q) t.next t.after) (sym is)
          (went-on noac modes later mid (length h) (old.moments + 1) t.next t.after moment
          (opening-starts modes.nocto (old.moments + 1) _ _ old.wsize (turn_at (counted old now)) old.shelf t.next t.after t.shelf refl (omega arith) same
          (subst (λ (q : Op). Starts old.wsize (machine_of mounted lane q) (turn_at (counted old now)) old.shelf t.next t.after t.shelf) is t.starts)))
      own (ops.Read slot offset count) is =
          subst (λ (q : Op). Then modes later mid (length h) (kind_of noac q) t.next t.after) (sym is)
          (own-read slot offset count noac refl
          (subst (λ (q : Op). Starts old.wsize (machine_of mounted lane q) (turn_at (counted old now)) old.shelf t.next t.after t.shelf) is t.starts))
      own o is = subst (λ (q : Op). Then modes later mid (length h) (kind_of noac q) t.next t.after) (sym is) (none-said noac modes later mid (length h) t.next t.after)

      by : (k : ℕ) (l : Lane) → k ≢ length old.lanes → (slice_get old.lanes k ≡ Some l) ⊎ ((k ≡ length old.lanes) × (l ≡ record { number = lane; state = Busy t.after }))
          → LaneTold noac modes later mid l
      by k l apart (inl here) = λ x o u.
          story-carried noac modes h old later mid carried x (kind_of noac o) l.state (λ answer at f finds. finds-stays modes h (Began lane line op) f (λ bytes e. cc) finds)
          (g.lanes k l here x o (under-back h (Began lane line op) l.number x o
          (λ n q e. idle-numbers lane (numbers_of old.lanes) idle.other k (to-map number_of old.lanes k l here ∙ ap Some (sym (began-is lane line l.number n op q e)))) u))
      by k l apart (inr now_) = absurd (apart now_.0)

  -- ---- a record comes

  takes-good : (h : List Entry) (old new : View) (rec : List ℕ) (xid : ℕ) (call : Waiting Purpose) (at : ℕ) → Reaches (machine_of mounted) setup h old → old.lost ≡ false → Known setup h old
      → (fin : View) → HearsRecord old rec fin → xid_at rec ≡ Some xid → waiting_at xid old.calls.calls ≡ Some call → position (is_busy call.purpose.lane) old.lanes ≡ Some at
      → TakesAt (taken_one old xid) at call.purpose.sent (said_of call.purpose.proc rec) new → Rows setup (h ++ Delivered rec ∷ []) (taken_one old xid) → G h old → G (h ++ Delivered rec ∷ []) new
  takes-good h old new rec xid call at r found known fin hears named waits there t rows g =
      leads-good noac modes setup later mid new at t.number t.after t.next ((rows-stay setup later).sets (taken_one old xid) at t.number (Busy t.machine) (Busy t.after) t.shelf t.there rows)
      (record {
        there = at-set old.lanes at (record { number = t.number; state = Busy t.machine }) (record { number = t.number; state = Busy t.after }) t.there;
        timely = λ y w left. let low = g.timely y w (left-waits y w left) in omega (arith, low);
        opened = λ n slot o y f opens. carry carried f o (g.opened n slot o y f (opens-back n slot o y f opens));
        rest = λ k l here apart x op u.
            let was : slice_get old.lanes k ≡ Some l = sym (set-other old.lanes at k (record { number = t.number; state = Busy t.after }) apart) ∙ here in
            story-carried noac modes h old later mid carried x (kind_of noac op) l.state
            (λ answer over f finds. absurd (hears.may.noted k l.number answer (was ∙ ap (λ (s : State). Some (record { number = l.number; state = s })) over)))
            (g.lanes k l was x op (under-back h (Delivered rec) l.number x op (λ n q e. cc) u));
        told = λ x op u.
            own x op (under-back h (Delivered rec) t.number x op (λ n q e. cc) u) (kind_of noac op)
            (g.lanes at (record { number = t.number; state = Busy t.machine }) t.there x op (under-back h (Delivered rec) t.number x op (λ n q e. cc) u))
            (since-began x op (under-back h (Delivered rec) t.number x op (λ n q e. cc) u));
      }) t.leads
    where
      later : List Entry
      later = h ++ Delivered rec ∷ []

      mid : View
      mid = with_state (taken_one old xid) at t.number (Busy t.after) t.shelf

      came : Result Reply Fault
      came = said_of call.purpose.proc rec

      is : t.number ≡ call.purpose.lane
      is = eqb-true t.number call.purpose.lane (at-position (is_busy call.purpose.lane) old.lanes at (record { number = t.number; state = Busy t.machine }) there t.there)

      mine : Mine setup h old.clock xid call t.machine old.shelf.back
      mine = mine-of mounted setup h old r found xid call at t.number t.machine waits is t.there

      told : (reply : Reply) → came ≡ Ok reply → IsToldNow h rec xid call mine.made.asked reply
      told reply said = told-now mounted setup h old rec fin xid call hears r named waits mine.made reply said

      since-told : (o k : ℕ) → IsMoment h old o k → (reply : Reply) → came ≡ Ok reply → IsToldSince later mine.made.asked call.purpose.sent o k reply
      since-told o k m reply said =
          let n = told reply said in
          record { since = n.from; answered = n.answered; later = λ late. m.sent xid call waits late n.from call.bytes n.out.sent.sent n.out.sent.under }

      since-began : (x : ℕ) (op : Op) → UnderWay h t.number x (length h) op → (reply : Reply) → (said : came ≡ Ok reply) → x < (told reply said).from
      since-began x op u reply said =
          let n = told reply said in
          reached-since (machine_of mounted) (begins-unbegun mounted) setup h old r found xid call waits x u.line op
          (subst (λ (k : ℕ). At h x (Began k u.line op)) is u.began) n.from call.bytes n.out.sent.sent n.out.sent.under

      left-waits : (y : ℕ) (w : Waiting Purpose) → waiting_at y (without xid old.calls.calls) ≡ Some w → waiting_at y old.calls.calls ≡ Some w
      left-waits y w left = by (nat_eq y xid) refl
        where
          by : (b : Bool) → nat_eq y xid ≡ b → waiting_at y old.calls.calls ≡ Some w
          by false d = sym (others_taken y xid old.calls.calls d) ∙ left
          by true d = absurd (
              let none : waiting_at xid (without xid old.calls.calls) ≡ None = gone old.calls.cred old.calls.first_xid (next_xid old.calls) xid old.calls.calls known.rows.sound.calls.each in
              let here : waiting_at xid (without xid old.calls.calls) ≡ Some w = ap (λ (n : ℕ). waiting_at n (without xid old.calls.calls)) (sym (eqb-true y xid d)) ∙ left in
              let no_way : None ≡ Some w = sym none ∙ here in cc)

      goes : GoesOn later old mid
      goes = record { moments = omega arith; calls = λ y w left. inl (record { was = w; waited = left-waits y w left; purpose = refl }) }

      moment-of : (o k : ℕ) → IsMoment h old o k → IsMoment later mid o k
      moment-of o k m = moment-goes later old mid o k goes (moment-grows h (Delivered rec) old o k m)

      pages-of : (o : ℕ) (f : List ℕ) (k : ℕ) → IsMoment h old o k → SinceIn h o f k old.shelf.pages → SinceIn later o f k t.shelf.pages
      pages-of o f k m marked =
          let given = m.given in
          pages-takes (SinceIn later o f k) (λ file index c. shows-marks later o f k file index c) mine.made.asked came call.purpose.sent (turn_at (taken_one old xid))
          (fed-marks later o f k mine.made.asked came call.purpose.sent (turn_at (taken_one old xid)) (omega (arith, given)) (since-told o k m)) old.shelf (λ reply said. mine.link) t.machine old.wsize t.next t.after t.shelf
          (λ reply said. mine.on) t.takes (marked-grows h (Delivered rec) o f k old.shelf.pages marked)

      carried : Carries h old later mid
      carried = record { moment = moment-of; marked = λ f o k m s. pages-of o f k m s; regular = λ f r. regular-grows h (Delivered rec) f r; aged = λ z o s a. aged-grows z h (Delivered rec) o s a }

      opens-back : (n slot o y : ℕ) (f : List ℕ) → Opens modes later n slot o y f → Opens modes h n slot o y f
      opens-back n slot o y f opens = by (cases_lt y (length h))
        where
          by : (y < length h) ⊎ (length h ≤ y) → Opens modes h n slot o y f
          by (inl low) = earlier modes h (Delivered rec) n slot o y f low opens
          by (inr high) = absurd (not-now modes h (Delivered rec) n slot o y f (λ p q a e. cc) high opens)

      own-open : (x : ℕ) (op : Op) → UnderWay h t.number x (length h) op → Opening modes.nocto h old x t.machine → ((reply : Reply) → (said : came ≡ Ok reply) → x < (told reply said).from) → Then modes later mid x opening t.next t.after
      own-open x op under s since = by (opening-takes modes.nocto s.k mine.made.asked came call.purpose.sent (turn_at (taken_one old xid)) t.machine old.wsize old.shelf t.next t.after t.shelf s.is (λ reply said. mine.on.0) t.takes)
        where
          by : Took modes.nocto s.k mine.made.asked came call.purpose.sent (turn_at (taken_one old xid)) t.shelf.attrs old.shelf.pages t.next t.after t.shelf.pages → Then modes later mid x opening t.next t.after
          by (took_on went) = went-on noac modes later mid x s.k t.next t.after (moment-of x s.k s.moment) went
          by (took_well file attr well said on kind pages) =
              let reply : Reply = replies.File (kept.GetAttr attr) in
              let n = told reply said in
              let given = s.moment.given in
              let seen : IsSeen later x file (stamp_of attr) = shown (stamp_of attr) n.from mine.made.asked reply attr (since reply said) n.answered (of_object on refl) refl in
              well-said noac modes later mid x t.next t.after well (record {
                file = file;
                finds = slots.asked (subst (λ (q : Call). LastReply later (length later) q) (asked-get mine.made.asked file n.answered.xid attr n.answered.bytes on n.answered.spells) n.last);
                since = record {
                  s = x;
                  since = record {
                    k = s.k;
                    moment = moment-of x s.k s.moment;
                    marked = subst (SinceIn later x file s.k) (sym pages)
                        (newly-opened later x file s.k attr call.purpose.sent (turn_at (taken_one old xid)) old.shelf.pages (omega (arith, given)) seen);
                    regular = record { since = n.from; call = mine.made.asked; reply = reply; attr = attr; answered = n.answered; shows = of_object on refl; kind = kind };
                  };
                  age = inl refl;
                };
              })
          by (took_known file stamp attr well may gives looked_is kind stamp_is pages) =
              let b = believed file attr may looked_is in
              well-said noac modes later mid x t.next t.after well (record {
                file = file;
                finds = finds-given file may gives;
                since = known-from file stamp attr b may kind stamp_is pages (cases_lt x b.since);
              })
            where
              timed : (from : ℕ) → IsOutstanding h xid call.bytes from → MadeAfter h xid call.purpose.sent.now → HadShown later from call.purpose.sent.now
              timed from o (inl none) = inl (
                none,
                record {
                  x = x;
                  lane = t.number;
                  line = under.line;
                  op = op;
                  began = At-grow h (Delivered rec ∷ []) x (Began t.number under.line op) under.began;
                  before = reached-since (machine_of mounted) (begins-unbegun mounted) setup h old r found xid call waits x under.line op
                      (subst (λ (k : ℕ). At h x (Began k under.line op)) is under.began) from call.bytes o.sent.sent o.sent.under;
                },
              )
              timed from o (inr s_) = inr (s_.0, At-grow h (Delivered rec ∷ []) s_.0 (Clock call.purpose.sent.now) s_.1, s_.2 from call.bytes o.sent.sent o.sent.under)

              believed : (file : List ℕ) (attr : Attr) → modes.nocto ≡ true → looked file old.clock t.shelf.attrs ≡ Some attr → IsBelieved later modes.longest old.clock file attr
              believed file attr may looked_is =
                  believed-taken mounted setup modes.longest (lasts may) h (Delivered rec) old r t.machine mine.made.asked old.wsize call.purpose.sent (turn_at (taken_one old xid)) came t.next t.after t.shelf
                  mine.on.0
                  (λ reply said. let n = told reply said in record { since = n.from; timed = timed n.from n.out ((reached-timed (machine_of mounted) setup h old r).1 xid call waits); answered = n.answered })
                  t.takes old.clock file attr looked_is

              finds-given : (file : List ℕ) → modes.nocto ≡ true → marks.Gives came file → Finds modes later (length later) file
              finds-given file may (marks.by_lookup a dir said) = let n = told _ said in found-look modes later (length later) mine.made.asked file a dir n.last may n.spells
              finds-given file may (marks.by_create a wcc said) = let n = told _ said in found-made modes later (length later) mine.made.asked file a wcc n.last may n.spells

              known-at : (file : List ℕ) (stamp : Stamp) (attr : Attr) (b : IsBelieved later modes.longest old.clock file attr) → attr.kind ≡ 1 → stamp_of attr ≡ stamp
                  → t.shelf.pages ≡ opened file stamp s.k old.shelf.pages → (from : ℕ) → from ≤ x → from < b.since → IsSince later mid file from
              known-at file stamp attr b kind stamp_is pages from low first = record {
                k = s.k;
                moment = moment-before later mid from x s.k low (moment-of x s.k s.moment);
                marked = subst (SinceIn later from file s.k) (sym pages)
                    (newly-known later from file s.k stamp old.shelf.pages (shown stamp b.since b.call b.reply attr first b.answered b.shows stamp_is));
                regular = record { since = b.since; call = b.call; reply = b.reply; attr = attr; answered = b.answered; shows = b.shows; kind = kind };
              }

              known-from : (file : List ℕ) (stamp : Stamp) (attr : Attr) (b : IsBelieved later modes.longest old.clock file attr) → modes.nocto ≡ true → attr.kind ≡ 1 → stamp_of attr ≡ stamp
                  → t.shelf.pages ≡ opened file stamp s.k old.shelf.pages → (x < b.since) ⊎ (b.since ≤ x) → IsKnownSince modes later mid file x
              known-from file stamp attr b may kind stamp_is pages (inl after) =
                  record { s = x; since = known-at file stamp attr b kind stamp_is pages x (omega arith) after; age = inl refl }
              known-from file stamp attr b may kind stamp_is pages (inr early) =
                  let some = shown-some later b.since b.ms b.timed in
                  let low = under.before in
                  let less = b.less in
                  let late : began_at later x ≤ old.clock =
                  subst (λ (k : List Entry). time_next k ≤ old.clock) (sym (take-early h (Delivered rec ∷ []) x (omega (arith, low)))) (mine.late x t.number under.line op under.began) in
                  record {
                    s = b.since - 1;
                    since = known-at file stamp attr b kind stamp_is pages (b.since - 1) (omega (arith, early)) (omega (arith, some));
                    age = inr (record {
                      may = may;
                      ms = b.ms;
                      shown_by = subst (λ (n : ℕ). HadShown later n b.ms) (omega (arith, some)) b.timed;
                      less = omega (arith, late, less);
                      within = let more = length_last h (Delivered rec) in omega (arith, low, more);
                    });
                  }

      -- the attributes that the read asked for came
      read-asked : (x : ℕ) → ((reply : Reply) → (said : came ≡ Ok reply) → x < (told reply said).from) → (r n : Reading) (attr : Attr)
          → came ≡ Ok (replies.File (kept.GetAttr attr)) → n.moment ≡ r.moment → n.file ≡ r.file
          → ((T : Pages → Type 0) → ((file : List ℕ) (index : ℕ) (c : Pages) → T c → T (after_page file index c))
          → T (opened_pages r.file attr r.moment call.purpose.sent (turn_at (taken_one old xid)) old.shelf.pages) → T t.shelf.pages) → IsOn r.file mine.made.asked → AskedSo h old x r → AskedSo later mid x n
      read-asked x since r n attr said moment file leaves on s =
          let reply : Reply = replies.File (kept.GetAttr attr) in
          let told_ = told reply said in
          let given = s.moment.given in
          let seen : IsSeen later x r.file (stamp_of attr) = shown (stamp_of attr) told_.from mine.made.asked reply attr (since reply said) told_.answered (of_object on refl) refl in
          let marked : SinceIn later x r.file r.moment t.shelf.pages =
          leaves (SinceIn later x r.file r.moment) (λ file index c. shows-marks later x r.file r.moment file index c)
          (newly-opened later x r.file r.moment attr call.purpose.sent (turn_at (taken_one old xid)) old.shelf.pages (omega (arith, given)) seen) in
          record {
            moment = subst (IsMoment later mid x) (sym moment) (moment-of x r.moment s.moment);
            marked = λ far. subst (λ (k : ℕ). SinceIn later x n.file k t.shelf.pages) (sym moment) (subst (λ (f : List ℕ). SinceIn later x f r.moment t.shelf.pages) (sym file) marked);
          }

      own-read : (x : ℕ) → ReadIn (AskedSo h old x) t.machine → ((reply : Reply) → (said : came ≡ Ok reply) → x < (told reply said).from) → Then modes later mid x reading t.next t.after
      own-read x s since =
          let reads : ReadOn s.m.reading mine.made.asked = subst (λ (n : Machine). Asks n mine.made.asked) s.is mine.on.0 in
          let on : IsOn s.r.file mine.made.asked = subst (λ (o : Option Reading). ReadOn o mine.made.asked) s.reading reads in
          then-reading noac modes later mid x t.next t.after
          (reading-takes (λ r. AskedSo h old x r × IsOn r.file mine.made.asked) (AskedSo later mid x) (λ r n same p. asked-same noac modes h old later mid carried x r n same p.0) came call.purpose.sent
          (turn_at (taken_one old xid)) t.machine old.wsize old.shelf t.next t.after t.shelf (λ r n attr said moment file leaves p. read-asked x since r n attr said moment file leaves p.1 p.0)
          (record { m = s.m; is = s.is; r = s.r; reading = s.reading; told = (s.told, on) }) t.takes)

      own : (x : ℕ) (op : Op) → UnderWay h t.number x (length h) op → (b : Kind) → Story modes h old x b (Busy t.machine) → ((reply : Reply) → (said : came ≡ Ok reply) → x < (told reply said).from) → Then modes later mid x b t.next t.after
      own x op under neither s since = none-said noac modes later mid x t.next t.after
      own x op under reading s since = own-read x s since
      own x op under opening s since = own-open x op under s since

  -- ---- an answer is noted

  some-answer : (a b : Answer) → Some a ≡ Some b → a ≡ b
  some-answer a b e = cc

  answered-parts : (p q l k : ℕ) (c d : Answer) → Answered p l c ≡ Answered q k d → (p ≡ q) × (c ≡ d)
  answered-parts p q l k c d e = (cc, cc)

  answers-good : (h : List Entry) (old new : View) (at lane line : ℕ) (answer : Answer) → Known setup h old → AnswersAt old at lane (Some answer) new → G h old → G (h ++ Answered lane line answer ∷ []) new
  answers-good h old new at lane line answer known a g = subst (G later) (sym a.is) (record {
    timely = g.timely;
    opened = λ n slot o y f opens. by n slot o y f opens (cases_lt y (length h));
    lanes = λ k l here x op u.
        story-carried noac modes h old later left carried x (kind_of noac op) l.state (λ b over f finds. finds-stays modes h (Answered lane line answer) f (λ bytes e. cc) finds)
        (g.lanes (skip at k) l (get-remove old.lanes at k l here) x op (under-back h (Answered lane line answer) l.number x op (λ n q e. cc) u));
  })
    where
      later : List Entry
      later = h ++ Answered lane line answer ∷ []

      left : View
      left = record old { lanes = remove old.lanes at }

      carried : Carries h old later left
      carried = record {
        moment = λ o k m. let n = moment-grows h (Answered lane line answer) old o k m in record { low = n.low; given = n.given; sent = n.sent };
        marked = λ f o k m s. marked-grows h (Answered lane line answer) o f k old.shelf.pages s;
        regular = λ f r. regular-grows h (Answered lane line answer) f r;
        aged = λ z o s a. aged-grows z h (Answered lane line answer) o s a;
      }

      -- the open that is answered now
      now-opened : (n slot o : ℕ) (f : List ℕ) → Opens modes later n slot o (length h) f → IsKnownSince modes later left f o
      now-opened n slot o f opens =
          let parts = answered-parts lane n line opens.ended.line answer (outcomes.Done opens.value)
          (ended-now h (Answered lane line answer) n o (ops.OpenFile slot opens.mode opens.path) (outcomes.Done opens.value) opens.ended) in
          let mine : Ended later lane o (ops.OpenFile slot opens.mode opens.path) (length h) (outcomes.Done opens.value) =
          subst (λ (z : ℕ). Ended later z o (ops.OpenFile slot opens.mode opens.path) (length h) (outcomes.Done opens.value)) (sym parts.0) opens.ended in
          let under = answered-under (machine_of mounted) (begins-unbegun mounted) setup Always (λ w z k q number other. tt) Plain (plain-laws mounted) h lane line answer o
          (ops.OpenFile slot opens.mode opens.path) (outcomes.Done opens.value) mine in
          let given : answer ≡ a.answer = some-answer answer a.answer a.gives in
          let s : OpenedSo modes h old o =
          subst (λ (z : Answer). Story modes h old o opening (Over z)) (sym given ∙ parts.1)
          (g.lanes at (record { number = lane; state = Over a.answer }) a.there o (ops.OpenFile slot opens.mode opens.path) under) in
          let same_file : f ≡ s.file = finds-one modes h (length h) f s.file (finds-back modes h (Answered lane line answer) f opens.finds) s.finds in
          carry carried f o (subst (λ (z : List ℕ). IsKnownSince modes h old z o) (sym same_file) s.since)

      by : (n slot o y : ℕ) (f : List ℕ) → Opens modes later n slot o y f → (y < length h) ⊎ (length h ≤ y) → IsKnownSince modes later left f o
      by n slot o y f opens (inl low) = carry carried f o (g.opened n slot o y f (earlier modes h (Answered lane line answer) n slot o y f low opens))
      by n slot o y f opens (inr high) =
          let within = At-below later y (Answered n opens.ended.line (outcomes.Done opens.value)) opens.ended.answered in
          let more = length_last h (Answered lane line answer) in
          now-opened n slot o f (subst (λ (z : ℕ). Opens modes later n slot o z f) (omega (arith, high, within, more)) opens)

  -- ---- the rest

  -- an entry that changes neither lanes nor the shelf
  plain-good : (h : List Entry) (e : Entry) (old new : View) → IsPlain e → new.lanes ≡ old.lanes → Carries h old (h ++ e ∷ []) new → AllTimely new → G h old → G (h ++ e ∷ []) new
  plain-good h e old new plain lanes c timely g = record {
    timely = timely;
    opened = λ n slot o y f opens. carry c f o (g.opened n slot o y f (back n slot o y f opens));
    lanes = λ k l there x op u.
        story-carried noac modes h old (h ++ e ∷ []) new c x (kind_of noac op) l.state (λ b over f finds. finds-stays modes h e f plain.comes_ finds)
        (g.lanes k l (sym (ap (λ (ls : List Lane). slice_get ls k) lanes) ∙ there) x op (under-back h e l.number x op (λ n q is. plain.begins_ l.number n q is) u));
  }
    where
      back : (n slot o y : ℕ) (f : List ℕ) → Opens modes (h ++ e ∷ []) n slot o y f → Opens modes h n slot o y f
      back n slot o y f opens = by (cases_lt y (length h))
        where
          by : (y < length h) ⊎ (length h ≤ y) → Opens modes h n slot o y f
          by (inl low) = earlier modes h e n slot o y f low opens
          by (inr high) = absurd (not-now modes h e n slot o y f plain.answers_ high opens)

  -- a record for which no call waits
  drops-good : (h : List Entry) (old fin : View) (rec : List ℕ) → HearsRecord old rec fin → G h old → G (h ++ Delivered rec ∷ []) old
  drops-good h old fin rec hears g = record {
    timely = g.timely;
    opened = λ n slot o y f opens. carry c f o (g.opened n slot o y f (back n slot o y f opens));
    lanes = λ k l there x op u.
        story-carried noac modes h old (h ++ Delivered rec ∷ []) old c x (kind_of noac op) l.state
        (λ b over f finds. absurd (hears.may.noted k l.number b (there ∙ ap (λ (s : State). Some (record { number = l.number; state = s })) over)))
        (g.lanes k l there x op (under-back h (Delivered rec) l.number x op (λ n q is. cc) u));
  }
    where
      c : Carries h old (h ++ Delivered rec ∷ []) old
      c = grown noac modes h (Delivered rec) old

      back : (n slot o y : ℕ) (f : List ℕ) → Opens modes (h ++ Delivered rec ∷ []) n slot o y f → Opens modes h n slot o y f
      back n slot o y f opens = by (cases_lt y (length h))
        where
          by : (y < length h) ⊎ (length h ≤ y) → Opens modes h n slot o y f
          by (inl low) = earlier modes h (Delivered rec) n slot o y f low opens
          by (inr high) = absurd (not-now modes h (Delivered rec) n slot o y f (λ p q a is. cc) high opens)

  -- the same calls, but for how often they were sent
  same-goes : (h : List Entry) (old new : View) → new.moments ≡ old.moments → SameCalls old.calls.calls new.calls.calls → GoesOn h old new
  same-goes h old new moments s = record {
    moments = omega (arith, moments);
    calls = λ xid w waits. let k = s.waited xid w waits in inl (record { was = k.was; waited = k.waited; purpose = sym k.purpose });
  }

  same-good : (h : List Entry) (e : Entry) (old new : View) → IsPlain e → new.lanes ≡ old.lanes → new.shelf ≡ old.shelf → new.moments ≡ old.moments → SameCalls old.calls.calls new.calls.calls → G h old
      → G (h ++ e ∷ []) new
  same-good h e old new plain lanes shelf moments s g =
      let goes = same-goes (h ++ e ∷ []) old new moments s in
      let same_pages = same-pages noac modes (h ++ e ∷ []) old new shelf goes in
      let first = grown noac modes h e old in
      plain-good h e old new plain lanes
      (record {
        moment = λ o k m. same_pages.moment o k (first.moment o k m);
        marked = λ f o k m z. same_pages.marked f o k (first.moment o k m) (first.marked f o k m z);
        regular = λ f r. first.regular f r;
        aged = λ z o s a. first.aged z o s a;
      })
      (timely-goes (h ++ e ∷ []) old new goes g.timely) g

  fresh-good : (h : List Entry) (v : View) → IsSetUp setup h → IsFresh setup v → G h v
  fresh-good h v up fresh = record {
    timely = λ xid w waits. absurd (let no_way : None ≡ Some w = sym (ap (λ (c : Held Purpose). waiting_at xid c.calls) fresh.calls) ∙ waits in cc);
    opened = λ n slot o y f opens. absurd (up.unbegun o n opens.ended.line (ops.OpenFile slot opens.mode opens.path) opens.ended.began);
    lanes = λ k lane there. absurd (let no_way : None ≡ Some lane = ap (λ (lanes : List Lane). slice_get lanes k) (sym fresh.lanes) ∙ there in cc);
  }

  later-rows : (h : List Entry) (old : View) (lane line : ℕ) (op : Op) (now : ℕ) → Rows setup h old → Rows setup (h ++ Began lane line op ∷ []) (counted old now)
  later-rows h old lane line op now rows =
      same-rows setup (h ++ Began lane line op ∷ []) old (counted old now) refl
      (silent-grow setup h (Began lane line op) old (record { sent = λ bytes is. cc; came = λ bytes is. cc }) rows)

  heard-rows : (h : List Entry) (old : View) (rec : List ℕ) (xid : ℕ) → xid_at rec ≡ Some xid → Rows setup h old → Rows setup (h ++ Delivered rec ∷ []) (taken_one old xid)
  heard-rows h old rec xid named rows = rows-grow setup h (Delivered rec) (taken_one old xid) (taken-quiet setup h old rec xid rows named) (not-sent rec) (taken-rows setup h old xid rows)

  pub keeps-good : KeepsMoments (machine_of mounted) setup G
  keeps-good = record {
    fresh = λ h v may up fresh. fresh-good h v up fresh;
    stirs = λ h old new at known passed t g. stirs-good h old new at known t g;
    starts = λ h old new lane line op now r found known idle fits t g. starts-good h old new lane line op now r found known idle t (later-rows h old lane line op now known.rows) g;
    takes = λ h old new rec xid call at r found known fin hears named waits there t g.
        takes-good h old new rec xid call at r found known fin hears named waits there t (heard-rows h old rec xid named known.rows) g;
    answers = λ h old new at lane line answer known a g. answers-good h old new at lane line answer known a g;
    same = λ h e old new plain lanes shelf wsize moments s g. same-good h e old new plain lanes shelf moments s g;
    drops = λ h old fin rec known hears g. drops-good h old fin rec hears g;
  }

  pub reached-good : (h : List Entry) (v : View) → Reaches (machine_of mounted) setup h v → v.lost ≡ false → G h v
  reached-good h v r found = reached-moments (machine_of mounted) (begins-unbegun mounted) setup G keeps-good h v r found
