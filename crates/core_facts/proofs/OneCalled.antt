-- Which calls operations of one call ask for, and what their answers show.
use Rattle.core_facts.proofs.Prelude.{◌≡◌, ◌+◌, ◌-◌, ◌⊎◌, inl, inr, ℕ, List, [], ◌∷◌, ◌++◌, length, take, Result, refl, sym, ap, subst, arith, Fault, Value, Entry, Began, Answered, Call, Reply, Op, Rooted, Terms, At-grow, At-back, length_last, Step, Shelf, Turn, Link, Rename, SymLink, Mounted, Machine, front_of, machine_of, Starts, Setup, UnderWay, in_flight, IsCounted, Counts}
use Rattle.op_machines.specs.Begun.{IsAsked}
use Rattle.std.proofs.lemmas.List.Elements.{All-nil}
use Rattle.world_model.specs.declared.answer.Answer.TheVariants as answers
use Rattle.world_model.specs.declared.op.Op.TheVariants as ops
use Rattle.world_model.specs.Leads as leads
use Rattle.claims.specs.OkRows.{ActOk, OkRow}
use Rattle.world_model.proofs.Growth.{Rooted-wide}
use Rattle.client_shelf.specs.declared.step.Step.TheVariants as nexts
use Rattle.name_ops.specs.Pairs as pairs
use Rattle.name_ops.specs.Pairs.{walk_of}
use Rattle.name_ops.specs.Visiting as visiting
use Rattle.core_facts.specs.Naming.{IsOneCall, OneCallsDone}
use Rattle.core_facts.proofs.AllAwaited.{Awaits, awaits-laws}
use Rattle.core_facts.proofs.AllCounts.{begins-unbegun, counts-calls}
use Rattle.core_facts.proofs.FilesKept.{all-starts, all-resumes, all-takes}
use Rattle.core_facts.proofs.Leading.{IsNameTold, NamesTold, names-later, WalkLeads, heard-tells}
use Rattle.core_facts.proofs.OneCalls.{VisitStory, PairStory}
use Rattle.core_facts.proofs.Steps.{ThenOf, AskedOf}
use Rattle.core_facts.proofs.Tales.{IsTold, TaleLaws, reached-answered, WasAsked, NoneYet, reached-asked}
use Rattle.core_facts.proofs.Telling.{AsksFor}
use Rattle.claims.specs.Asks.{Asks}
use Rattle.claims.specs.CallsAsked.{NoneBegan}
use Rattle.core_facts.specs.Asked.{IsMadeFor, CallsCaused}
use Rattle.core_facts.proofs.OneCallAsks.{AsksNow, asks-new, asks-from}
use Rattle.core_facts.proofs.OneCallStory.{given, Runs, Story, Shelved, NoWait, Steps, heard-all, goes, takes, state-later, for-op, until}

-- ---- operations that begin

module _ (m : Mounted) (terms : Terms) where
  walk-begins : (h : List Entry) (path : List (List ℕ)) → WalkLeads m.root h path (walk_of m.root path)
  walk-begins h path = record {
    path_is = refl;
    spot = record {
      few = omega arith;
      leads = leads.root (take (length path - length path) path) m.root (let none : length path - length path ≡ 0 = omega arith in ap (λ (n : ℕ). take n path) none) refl;
    };
  }

  visit-begins : (h : List Entry) (path : List (List ℕ)) → VisitStory m.root h path (visiting.visit_of m.root path)
  visit-begins h path = record { walk = walk-begins h path; done = λ is. absurd (cc) }

  pair-begins : (h : List Entry) (first second : List (List ℕ)) → PairStory m.root h first second (pairs.pair_of m.root first second)
  pair-begins h first second =
      record { one = walk-begins h first; two = walk-begins h second; then_ = λ is. absurd (cc); alone = λ is. refl; done = λ is. absurd (cc) }

  starts : (h : List Entry) (x lane : ℕ) (op : Op) (wsize : ℕ) (turn : Turn) (old : Shelf) (next : Step) (new : Machine) (after : Shelf) → IsOneCall op → NamesTold h old.names
      → Starts wsize (machine_of m lane op) turn old next new after → Steps m.root terms h x op next new
  starts h x lane (ops.Access path bits) wsize turn old next new after one t s = goes m.root terms h x (ops.Access path bits) (machine_of m lane (ops.Access path bits)) wsize turn old next new after
      one t (record { visit = visiting.visit_of m.root path; is = refl; story = visit-begins h path }) s
  starts h x lane (ops.ReadLink path) wsize turn old next new after one t s = goes m.root terms h x (ops.ReadLink path) (machine_of m lane (ops.ReadLink path)) wsize turn old next new after
      one t (record { visit = visiting.visit_of m.root path; is = refl; story = visit-begins h path }) s
  starts h x lane (ops.MakeDir path) wsize turn old next new after one t s = goes m.root terms h x (ops.MakeDir path) (machine_of m lane (ops.MakeDir path)) wsize turn old next new after
      one t (record { visit = visiting.visit_of m.root (front_of path); is = refl; story = visit-begins h (front_of path) }) s
  starts h x lane (ops.RemoveDir path) wsize turn old next new after one t s = goes m.root terms h x (ops.RemoveDir path) (machine_of m lane (ops.RemoveDir path)) wsize turn old next new after
      one t (record { visit = visiting.visit_of m.root (front_of path); is = refl; story = visit-begins h (front_of path) }) s
  starts h x lane (ops.SymLink path target) wsize turn old next new after one t s =
      goes m.root terms h x (ops.SymLink path target) (machine_of m lane (ops.SymLink path target)) wsize turn old next new after
      one t (record { visit = visiting.visit_of m.root (front_of path); is = refl; story = visit-begins h (front_of path) }) s
  starts h x lane (ops.Rename from to) wsize turn old next new after one t s = goes m.root terms h x (ops.Rename from to) (machine_of m lane (ops.Rename from to)) wsize turn old next new after
      one t (record { pair = pairs.pair_of m.root (front_of from) (front_of to); is = refl; story = pair-begins h (front_of from) (front_of to) }) s
  starts h x lane (ops.Link from to) wsize turn old next new after one t s = goes m.root terms h x (ops.Link from to) (machine_of m lane (ops.Link from to)) wsize turn old next new after
      one t (record { pair = pairs.pair_of m.root from (front_of to); is = refl; story = pair-begins h from (front_of to) }) s
  starts h x lane op wsize turn old next new after one t s = absurd one

  -- each call that waits is one that its operation asks for
  abbrev Caused : List Entry → ℕ → Op → Call → Type 0
  Caused h x op call = IsOneCall op → IsAsked op → AsksNow m.root terms h x op call

  told-plain : (h : List Entry) (x : ℕ) (op : Op) (machine : Machine) (came : Result Reply Fault) → IsTold Awaits Caused h x op machine came → IsTold Awaits (NoWait m.root terms) h x op machine came
  told-plain h x op machine came told = record { call = told.call; expects = told.expects; asks = tt; heard = told.heard; refused = told.refused }

  only-runs : (h : List Entry) (x : ℕ) (op : Op) (next : Step) (new : Machine) → Steps m.root terms h x op next new → ThenOf (Runs m.root terms h op) (λ a. Unit {0}) next new
  only-runs h x op (nexts.Send call) new t = t
  only-runs h x op nexts.Wait new t = t
  only-runs h x op (nexts.Done answer) new t = tt

  asks-all : (h : List Entry) (x : ℕ) (op : Op) (next : Step) (before : ℕ) (new : Machine) → (IsOneCall op → IsAsked op → Steps m.root terms h x op next new) → AskedOf Awaits next new
      → (IsOneCall op → IsAsked op → Counts next before new) → AsksFor (Caused h x op) next
  asks-all h x op (nexts.Send call) before new t e c = λ one named.
      asks-new m.root terms h x op (nexts.Send call) before new one named (only-runs h x op (nexts.Send call) new (t one named)) e (c one named)
  asks-all h x op nexts.Wait before new t e c = tt
  asks-all h x op (nexts.Done answer) before new t e c = tt

  runs-counted : (h : List Entry) (op : Op) (machine : Machine) → IsOneCall op → Runs m.root terms h op machine → IsCounted machine
  runs-counted h (ops.Access path bits) machine one k = subst IsCounted (sym k.is) tt
  runs-counted h (ops.ReadLink path) machine one k = subst IsCounted (sym k.is) tt
  runs-counted h (ops.MakeDir path) machine one k = subst IsCounted (sym k.is) tt
  runs-counted h (ops.RemoveDir path) machine one k = subst IsCounted (sym k.is) tt
  runs-counted h (ops.SymLink path target) machine one k = subst IsCounted (sym k.is) tt
  runs-counted h (ops.Rename from to) machine one k = subst IsCounted (sym k.is) tt
  runs-counted h (ops.Link from to) machine one k = subst IsCounted (sym k.is) tt
  runs-counted h op machine one k = absurd one

  one-laws : (setup : Setup) → TaleLaws (machine_of m) setup Awaits Caused (Shelved m.root terms) (Story m.root terms)
  unfolding told-plain
  one-laws setup = record {
    fresh = λ h v up fresh. subst (λ (es : _). NamesTold h es) (sym fresh.names) (All-nil (IsNameTold h));
    starts = λ h lane line op wsize turn old next new after kept s.
        let steps : IsOneCall op → IsAsked op → Steps m.root terms (h ++ Began lane line op ∷ []) (length h) op next new =
        λ one named. starts (h ++ Began lane line op ∷ []) (length h) lane op wsize turn old next new after one kept s in
        record {
          shelf = all-starts (IsNameTold (h ++ Began lane line op ∷ [])) (machine_of m lane op) wsize turn old next new after s kept;
          asks = asks-all (h ++ Began lane line op ∷ []) (length h) op next 0 new steps (awaits-laws.starts (machine_of m lane op) wsize turn old next new after s)
              (λ one named. counts-calls.start wsize (machine_of m lane op) turn old next new after s (begins-unbegun m lane op));
          then_ = for-op m.root terms (h ++ Began lane line op ∷ []) (length h) op next new steps;
        };
    resumes = λ h x op machine wsize turn old next new after kept story r.
        let steps : IsOneCall op → IsAsked op → Steps m.root terms h x op next new = λ one named. goes m.root terms h x op machine wsize turn old next new after one kept (story one named) r in
        record {
          shelf = all-resumes (IsNameTold h) machine wsize turn old next new after r kept;
          asks = asks-all h x op next (in_flight machine) new steps (awaits-laws.resumes machine wsize turn old next new after r).0
              (λ one named. counts-calls.resume wsize machine turn old next new after r (runs-counted h op machine one (story one named)));
          then_ = for-op m.root terms h x op next new steps;
        };
    takes = λ h x op machine wsize sent turn came old next new after others kept story one told t.
        let plain = told-plain h x op machine came told in
        let steps : IsOneCall op → IsAsked op → Steps m.root terms h x op next new =
        λ only named. takes m.root terms h x op machine wsize sent turn came old next new after only named kept (story only named) plain t in
        record {
          shelf = all-takes (IsNameTold h) machine wsize sent turn came old next new after told.call told.expects
              (heard-tells m.root h came told.call (heard-all m.root terms h x op machine came plain)) t kept;
          asks = asks-all h x op next others new steps (awaits-laws.takes machine wsize sent turn came old next new after others one t).0
              (λ only named. counts-calls.take wsize machine sent turn came old next new after others t (runs-counted h op machine only (story only named)) one);
          then_ = for-op m.root terms h x op next new steps;
        };
    still = λ h e shelf kept. names-later h e shelf.names kept;
    waits = λ h e x op call w one named.
        let more = length_last h e in asks-from m.root (given m.root terms) h (e ∷ []) x (length h) (length (h ++ e ∷ [])) op call one (omega (arith, more)) refl (w one named);
    grows = λ h e x op state quiet story one named. state-later m.root terms h e x op state one quiet (story one named);
    lost = λ h x op shown one named. tt;
  }

row-of : (terms : Terms) (h : List Entry) (lane x y : ℕ) (op : Op) (value : Value) → IsOneCall op → ActOk terms h x y op value → OkRow terms h lane x y op value
row-of terms h lane x y (ops.Access path bits) value one k = k
row-of terms h lane x y (ops.ReadLink path) value one k = k
row-of terms h lane x y (ops.MakeDir path) value one k = k
row-of terms h lane x y (ops.RemoveDir path) value one k = k
row-of terms h lane x y (ops.SymLink path target) value one k = k
row-of terms h lane x y (ops.Rename from to) value one k = k
row-of terms h lane x y (ops.Link from to) value one k = k
row-of terms h lane x y op value one k = absurd one

pub one-calls-done : OneCallsDone
one-calls-done m setup h v r terms known lane x op y value one named ended =
    let s = reached-answered (machine_of m) (begins-unbegun m) setup Awaits awaits-laws (Caused m terms) (Shelved m.root terms) (Story m.root terms) (one-laws m terms setup) h v r lane x op y
    (answers.Done value) ended in
    let since = ended.later in
    let rooted : Rooted terms.origin h y m.root = Rooted-wide terms.origin h x y m.root (omega (arith, since)) (known x lane ended.line op ended.began) in
    row-of terms h lane x y op value one
    (subst (λ (k : List Entry). ActOk terms k x y op value) (sym s.is)
    (until m.root terms s.before s.after x y op value one s.there (subst (λ (k : List Entry). Rooted terms.origin k y m.root) s.is rooted) (s.story one named)))

-- ---- records that were sent

under-until : (before after : List Entry) (lane x i : ℕ) (op : Op) → length before ≡ i → UnderWay before lane x (length before) op → UnderWay (before ++ after) lane x i op
under-until before after lane x i op there u = record {
  line = u.line;
  began = At-grow before after x (Began lane u.line op) u.began;
  before = let low = u.before in omega (arith, there, low);
  unanswered = λ a.
      let d = a.ended in
      let early = a.before in
      let since = d.later in
      u.unanswered (record {
        lane = a.lane;
        op = a.op;
        y = a.y;
        answer = a.answer;
        ended = record {
          line = d.line;
          began = At-back before after x (Began a.lane d.line a.op) d.began (omega (arith, there, early, since));
          answered = At-back before after a.y (Answered a.lane d.line a.answer) d.answered (omega (arith, there, early));
          later = d.later;
          first = λ j other at past. d.first j other (At-grow before after j (Answered a.lane d.line other) at) past;
        };
        before = omega (arith, there, early);
      });
}

pub calls-caused : CallsCaused
calls-caused m setup h v r terms known i bytes at = by (reached-asked (machine_of m) (begins-unbegun m) setup Awaits awaits-laws (Caused m terms) (Shelved m.root terms) (Story m.root terms)
    (one-laws m terms setup) h v r i bytes at)
  where
    made : WasAsked (machine_of m) (begins-unbegun m) setup Awaits awaits-laws (Caused m terms) (Shelved m.root terms) (Story m.root terms) (one-laws m terms setup) h i bytes
        → IsMadeFor terms setup.cred h i bytes
    made w =
        let under = under-until w.before w.after w.lane w.x i w.op w.there w.under_way in
        let since = under.before in
        let there = w.there in
        let now : UnderWay h w.lane w.x i w.op = subst (λ (k : List Entry). UnderWay k w.lane w.x i w.op) (sym w.is) under in
        let rooted : Rooted terms.origin h i m.root = Rooted-wide terms.origin h w.x i m.root (omega (arith, since)) (known w.x w.lane now.line w.op now.began) in
        record {
          xid = w.xid;
          call = w.call;
          made = w.made;
          lane = w.lane;
          x = w.x;
          op = w.op;
          under_way = now;
          asks = λ one named. subst (λ (k : List Entry). Asks terms k w.x i w.op w.call) (sym w.is)
              (asks-from m.root terms w.before w.after w.x (length w.before) i w.op w.call one (omega (arith, there))
              (subst (λ (k : List Entry). Rooted terms.origin k i m.root) w.is rooted) (w.asks one named));
        }

    by : NoneYet (machine_of m) (begins-unbegun m) setup Awaits awaits-laws (Caused m terms) (Shelved m.root terms) (Story m.root terms) (one-laws m terms setup) h i
        ⊎ WasAsked (machine_of m) (begins-unbegun m) setup Awaits awaits-laws (Caused m terms) (Shelved m.root terms) (Story m.root terms) (one-laws m terms setup) h i bytes
        → NoneBegan h i ⊎ IsMadeFor terms setup.cred h i bytes
    by (inl none) = inl none
    by (inr w) = inr (made w)
