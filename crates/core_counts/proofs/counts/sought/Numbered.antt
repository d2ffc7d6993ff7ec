-- The number of the next hidden name never passes the number of calls that were made, so it never begins anew; and the names that removes look for have lower ones.
use Rattle.core_counts.proofs.Prelude.{◌≡◌, ◌<◌, ◌≤◌, ◌+◌, ◌-◌, ◌^◌, ◌⊎◌, ◌==◌, inl, inr, ℕ, zero, suc, nat_eq, cond, List, [], ◌∷◌, ◌++◌, length, map, Bool, true, false, Option, Some, None, MatchOption, position, slice_get, slice_set, Result, Ok, Err, refl, sym, ap, subst, ◌∙◌, length-append, arith, if◌then◌else◌, eqb-true, Waiting, failed_after, waiting_at, without, Fault, Entry, Began, Answered, Dialed, Sent, Executed, Foreign, Flushed, Reboot, Delivered, Failed, Clock, Reply, Op, said_of, Step, Send, Wait, Done, Shelf, Turn, Deed, Look, Seek, Move, Remove, Mounted, Machine, NameMachine, machine_of, Lane, Purpose, State, Busy, Over, Setup, IsFresh, is_busy, with_state, IsRefused, Leads, Stirs, moves_none, moves_more, counted, StartsLane, BeginsIf, TakesAt, View, turn_at, StepsTo, Reaches, begins, goes, loses, last_reading, dropped, replied, sent_now, FailedNow, goes_on, gives_up, failed_now, answered_now, taken_one, get-push, get-remove, skip}
use Rattle.std.proofs.Common.{remove}
use Rattle.rpc_retry.specs.Waiting.{sent, first_given_up}
use Rattle.client_core.specs.Lanes.{lost_lane, lost_state}
use Rattle.client_core.specs.Steps.{Moves, failed_view, lost}
use Rattle.core_facts.proofs.Cases.{Heard, heard}
use Rattle.core_facts.proofs.Lists.{in-map}
use Rattle.rpc_retry.proofs.Dues.{length-sent}
use Rattle.rpc_retry.proofs.Failing.{length-failed}
use Rattle.name_ops.specs.RemoveFile.{next_number}
use Rattle.op_machines.specs.declared.machine.Machine.TheVariants as machines
use Rattle.op_machines.specs.declared.name_machine.NameMachine.TheVariants as names
use Rattle.core_facts.proofs.Sound.{Sound, reached-sound}
use Rattle.core_counts.proofs.counts.sought.Names.{DeedBelow, NameBelow, stays, looks}
use Rattle.core_counts.proofs.counts.sought.Steps.{SeeksBelow, starts-on, resumes-on, TookOn, takes-on, begins-below}

-- ---- lanes

abbrev pub StateBelow : State → ℕ → Type 0
StateBelow (Busy machine) n = SeeksBelow machine n
StateBelow (Over answer) n = Unit {0}

abbrev pub LanesBelow : List Lane → ℕ → Type 0
LanesBelow lanes n = (k : ℕ) (lane : Lane) → slice_get lanes k ≡ Some lane → StateBelow lane.state n

deed-wide : (deed : Option Deed) (n k : ℕ) → n ≤ k → DeedBelow n deed → DeedBelow k deed
deed-wide None n k wide d = tt
deed-wide (Some Look) n k wide d = tt
deed-wide (Some (Seek file to)) n k wide d = record { number = d.number; is = d.is; low = let low = d.low in omega (arith, low, wide) }
deed-wide (Some (Move file to)) n k wide d = tt
deed-wide (Some Remove) n k wide d = tt

name-wide : (m : NameMachine) (n k : ℕ) → n ≤ k → NameBelow m n → NameBelow m k
name-wide (names.Remove m) n k wide d = deed-wide m.deed n k wide d
name-wide (names.Change m) n k wide d = tt
name-wide (names.Stat m) n k wide d = tt
name-wide (names.Access m) n k wide d = tt
name-wide (names.ReadLink m) n k wide d = tt
name-wide (names.Rename m) n k wide d = tt
name-wide (names.Link m) n k wide d = tt
name-wide (names.SymLink m) n k wide d = tt
name-wide (names.List m) n k wide d = tt

state-wide : (state : State) (n k : ℕ) → n ≤ k → StateBelow state n → StateBelow state k
state-wide (Busy (machines.File m)) n k wide d = tt
state-wide (Busy (machines.Path m)) n k wide d = tt
state-wide (Busy (machines.Name m)) n k wide d = name-wide m n k wide d
state-wide (Over answer) n k wide d = tt

lanes-wide : (lanes : List Lane) (n k : ℕ) → n ≤ k → LanesBelow lanes n → LanesBelow lanes k
lanes-wide lanes n k wide all = λ at lane here. state-wide lane.state n k wide (all at lane here)

set-was : (lanes : List Lane) (at k : ℕ) (lane other : Lane) → slice_get (slice_set lanes at lane) k ≡ Some other → (other ≡ lane) ⊎ (slice_get lanes k ≡ Some other)
set-was [] at k lane other here = inr here
set-was (l ∷ lanes) zero zero lane other here = inl (cc)
set-was (l ∷ lanes) zero (suc k) lane other here = inr here
set-was (l ∷ lanes) (suc at) zero lane other here = inr here
set-was (l ∷ lanes) (suc at) (suc k) lane other here = set-was lanes at k lane other here

lane-as : (lane to : Lane) (n : ℕ) → lane ≡ to → StateBelow to.state n → StateBelow lane.state n
lane-as lane to n is b = subst (λ (l : Lane). StateBelow l.state n) (sym is) b

set-below : (lanes : List Lane) (at : ℕ) (lane : Lane) (n : ℕ) → LanesBelow lanes n → StateBelow lane.state n → LanesBelow (slice_set lanes at lane) n
set-below lanes at lane n all own = λ k other here. by k other (set-was lanes at k lane other here)
  where
    by : (k : ℕ) (other : Lane) → (other ≡ lane) ⊎ (slice_get lanes k ≡ Some other) → StateBelow other.state n
    by k other (inl is) = lane-as other lane n is own
    by k other (inr here) = all k other here

push-below : (lanes : List Lane) (lane : Lane) (n : ℕ) → LanesBelow lanes n → StateBelow lane.state n → LanesBelow (lanes ++ lane ∷ []) n
push-below lanes lane n all own = λ k other here. by k other (get-push lanes lane k other here)
  where
    by : (k : ℕ) (other : Lane) → (slice_get lanes k ≡ Some other) ⊎ ((k ≡ length lanes) × (other ≡ lane)) → StateBelow other.state n
    by k other (inl here) = all k other here
    by k other (inr is) = lane-as other lane n is.1 own

lost-below : (lanes : List Lane) (n : ℕ) → LanesBelow (map lost_lane lanes) n
lost-below lanes n = λ k other here. let f = in-map lost_lane lanes k other here in lane-as other (lost_lane f.0) n f.2 (over f.0.state)
  where
    over : (state : State) → StateBelow (lost_state state) n
    over (Busy machine) = tt
    over (Over answer) = tt

-- ---- a view

-- The number is no higher than how many calls were made and don't wait any more.
pub record Numbered (v : View) : Type 0 where
  pub few : v.shelf.counter + length v.calls.calls ≤ v.calls.made
  pub below : LanesBelow v.lanes v.shelf.counter

-- a lane's state and the shelf
set-numbered : (old : View) (at number : ℕ) (state : State) (shelf : Shelf) → old.shelf.counter ≤ shelf.counter → shelf.counter + length old.calls.calls ≤ old.calls.made
    → LanesBelow old.lanes old.shelf.counter → StateBelow state shelf.counter → Numbered (with_state old at number state shelf)
set-numbered old at number state shelf wide few all own = record {
  few = few;
  below = set-below old.lanes at (record { number = number; state = state }) shelf.counter (lanes-wide old.lanes old.shelf.counter shelf.counter wide all) own;
}

numbered-as : (to new : View) → new ≡ to → Numbered to → Numbered new
numbered-as to new is n = subst Numbered (sym is) n

state-as : (to state : State) (n : ℕ) → state ≡ to → StateBelow to n → StateBelow state n
state-as to state n is b = subst (λ (s : State). StateBelow s n) (sym is) b

-- what a refusal in place of a call leaves
refused-below : (next : Step) (after : Machine) (state : State) (n : ℕ) → IsRefused after next state → SeeksBelow after n → StateBelow state n
refused-below Wait after state n is b = state-as (Busy after) state n is b
refused-below (Done answer) after state n is b = state-as (Over answer) state n is tt
refused-below (Send call) after state n is b = absurd is

-- a call that is made waits
few-more : (counter made : ℕ) (es : List (ℕ × Waiting Purpose)) (e : ℕ × Waiting Purpose) → counter + length es ≤ made → counter + length (es ++ e ∷ []) ≤ made + 1
few-more counter made es e few = let more = length-append es (e ∷ []) in omega (arith, few, more)

err-ok : (fault : Fault) (reply : Reply) → ◌≡◌ {A = Result Reply Fault} (Err fault) (Ok reply) → ⊥
err-ok fault reply e = let no_way = e in cc

leads-numbered : (w new : View) (at number : ℕ) (after : Machine) (next : Step) → Numbered w → SeeksBelow after w.shelf.counter → Leads w at number after next new → Numbered new
leads-numbered w new at number after (Send call) n own (inl made) =
    numbered-as _ new made.is (record { few = few-more w.shelf.counter w.calls.made w.calls.calls _ n.few; below = n.below })
leads-numbered w new at number after (Send call) n own (inr refused) =
    numbered-as (with_state w at number refused.state refused.left) new refused.is
    (by (takes-on w.wsize after (turn_at w) _ (Err refused.fault) w.shelf refused.next refused.after refused.left refused.takes))
  where
    by : TookOn (Err refused.fault) after w.shelf refused.after refused.left → Numbered (with_state w at number refused.state refused.left)
    by (stays counter below) =
        set-numbered w at number refused.state refused.left (omega (arith, counter)) (let few = n.few in omega (arith, counter, few)) n.below
        (refused-below refused.next refused.after refused.state refused.left.counter refused.leads (subst (SeeksBelow refused.after) (sym counter) (below w.shelf.counter own)))
    by (looks reply is counter now) = absurd (err-ok refused.fault reply is)
leads-numbered w new at number after Wait n own is = numbered-as w new is n
leads-numbered w new at number after (Done answer) n own is =
    numbered-as (with_state w at number (Over answer) w.shelf) new is (set-numbered w at number (Over answer) w.shelf (omega arith) n.few n.below tt)

stirs-numbered : (old new : View) (at : ℕ) → Stirs old at new → Numbered old → Numbered new
stirs-numbered old new at t n =
    let g = resumes-on old.wsize t.machine (turn_at old) old.shelf t.next t.after t.shelf t.resumes in
    let counter = g.counter in
    let few = n.few in
    let own : SeeksBelow t.after t.shelf.counter = subst (SeeksBelow t.after) (sym counter) (g.below old.shelf.counter (n.below at (record { number = t.number; state = Busy t.machine }) t.there)) in
    leads-numbered (with_state old at t.number (Busy t.after) t.shelf) new at t.number t.after t.next
    (set-numbered old at t.number (Busy t.after) t.shelf (omega (arith, counter)) (omega (arith, counter, few)) n.below own) own t.leads

moves-numbered : (old new : View) → Moves old new → Numbered old → Numbered new
moves-numbered _ _ (moves_none old new is) n = numbered-as old new is n
moves-numbered _ _ (moves_more old mid new at m room t first) n = stirs-numbered mid new at t (moves-numbered old mid m n)

-- ---- a reply

next-is : (n : ℕ) → n < 4294967295 → next_number n ≡ n + 1
next-is n low = by (n == 4294967295) refl
  where
    by : (b : Bool) → (n == 4294967295) ≡ b → (if b then 0 else n + 1) ≡ n + 1
    by true is = let same : n ≡ 4294967295 = eqb-true n 4294967295 is in absurd (omega (arith, same, low))
    by false is = refl

takes-numbered : (old new : View) (at : ℕ) (made_at : Turn) (came : Result Reply Fault) → old.shelf.counter + 1 + length old.calls.calls ≤ old.calls.made → old.calls.made ≤ 4294967294
    → LanesBelow old.lanes old.shelf.counter → TakesAt old at made_at came new → Numbered new
takes-numbered old new at made_at came few most all t = by (takes-on old.wsize t.machine made_at (turn_at old) came old.shelf t.next t.after t.shelf t.takes)
  where
    by : TookOn came t.machine old.shelf t.after t.shelf → Numbered new
    by (stays counter below) =
        let own : SeeksBelow t.after t.shelf.counter = subst (SeeksBelow t.after) (sym counter) (below old.shelf.counter (all at (record { number = t.number; state = Busy t.machine }) t.there)) in
        leads-numbered (with_state old at t.number (Busy t.after) t.shelf) new at t.number t.after t.next
        (set-numbered old at t.number (Busy t.after) t.shelf (omega (arith, counter)) (omega (arith, counter, few)) all own) own t.leads
    by (looks reply is counter now) =
        let next : t.shelf.counter ≡ old.shelf.counter + 1 = counter ∙ next-is old.shelf.counter (omega (arith, few, most)) in
        let own : SeeksBelow t.after t.shelf.counter = subst (SeeksBelow t.after) (sym next) now in
        leads-numbered (with_state old at t.number (Busy t.after) t.shelf) new at t.number t.after t.next
        (set-numbered old at t.number (Busy t.after) t.shelf (omega (arith, next)) (omega (arith, next, few)) all own) own t.leads

less-waiting : (xid : ℕ) (es : List (ℕ × Waiting Purpose)) (w : Waiting Purpose) → waiting_at xid es ≡ Some w → length (without xid es) + 1 ≤ length es
less-waiting xid [] w is = absurd (let no_way : None ≡ Some w = is in cc)
less-waiting xid (e ∷ es) w is = by (nat_eq xid e.0) is (λ there. less-waiting xid es w there)
  where
    by : (b : Bool) → cond b (Some e.1) (waiting_at xid es) ≡ Some w → (waiting_at xid es ≡ Some w → length (without xid es) + 1 ≤ length es)
        → length (cond b es (e ∷ without xid es)) + 1 ≤ suc (length es)
    by true there rest = omega arith
    by false there rest = let less = rest there in omega (arith, less)

module _ (m : Mounted) (setup : Setup) where
  heard-numbered : (old : View) (rec : List ℕ) (new : View) → old.calls.made ≤ 4294967294 → Heard old rec new → Numbered old → Numbered new
  heard-numbered old rec new most (dropped none is) n = numbered-as old new is n
  heard-numbered old rec new most (replied xid call named waits f) n = moves-numbered f.first new f.rest (by (position (is_busy call.purpose.lane) old.lanes) f.own)
    where
      less : length (without xid old.calls.calls) + 1 ≤ length old.calls.calls
      less = less-waiting xid old.calls.calls call waits

      by : (o : Option ℕ) → MatchOption o (f.first ≡ taken_one old xid) (λ at. TakesAt (taken_one old xid) at call.purpose.sent (said_of call.purpose.proc rec) f.first) → Numbered f.first
      by None is = numbered-as (taken_one old xid) f.first is (record { few = let few = n.few in let l = less in omega (arith, few, l); below = n.below })
      by (Some at) t =
          takes-numbered (taken_one old xid) f.first at call.purpose.sent (said_of call.purpose.proc rec) (let few = n.few in let l = less in omega (arith, few, l)) most n.below t

  -- ---- each entry

  starts-numbered : (old new : View) (lane : ℕ) (op : Op) → StartsLane old lane (machine_of m lane op) new → Numbered old → Numbered new
  starts-numbered old new lane op t n =
      let g = starts-on old.wsize (machine_of m lane op) (turn_at old) old.shelf t.next t.after t.shelf t.starts in
      let counter = g.counter in
      let few = n.few in
      let own : SeeksBelow t.after t.shelf.counter = subst (SeeksBelow t.after) (sym counter) (g.below old.shelf.counter (begins-below m lane op old.shelf.counter)) in
      leads-numbered (record old { lanes = old.lanes ++ record { number = lane; state = Busy t.after } ∷ []; shelf = t.shelf }) new (length old.lanes) lane t.after t.next
      (record {
        few = omega (arith, counter, few);
        below = push-below old.lanes (record { number = lane; state = Busy t.after }) t.shelf.counter (lanes-wide old.lanes old.shelf.counter t.shelf.counter (omega (arith, counter)) n.below) own;
      }) own t.leads

  begins-numbered : (b : Bool) (old new : View) (lane : ℕ) (op : Op) (now : ℕ) → BeginsIf b old lane (machine_of m lane op) now new → Numbered old → Numbered new
  begins-numbered true old new lane op now is n = numbered-as _ new is (record { few = n.few; below = push-below old.lanes (record { number = lane; state = Over _ }) old.shelf.counter n.below tt })
  begins-numbered false old new lane op now b n = moves-numbered b.first new b.rest (starts-numbered (counted old now) b.first lane op b.own (record { few = n.few; below = n.below }))

  after-length : (o : Option ℕ) (es : List (ℕ × Waiting Purpose)) → length (failed_after o es) ≡ length es
  after-length None es = length-failed true es
  after-length (Some xid) es = length-failed false es

  failed-numbered : (old : View) → Numbered old → Numbered (failed_view old)
  failed-numbered old n = record {
    few = let few = n.few in let same = after-length (first_given_up old.calls.calls) old.calls.calls in omega (arith, few, same);
    below = n.below;
  }

  lost-numbered : (old : View) → Numbered old → Numbered (lost old)
  lost-numbered old n = record { few = n.few; below = lost-below old.lanes old.shelf.counter }

  most-made : (v : View) → Sound setup v → v.calls.made ≤ 4294967294
  most-made v s =
      let made : v.calls.made ≤ v.calls.limit = s.calls.within in
      let first : 1 ≤ v.calls.first_xid = s.calls.first in
      let last : v.calls.first_xid + v.calls.limit ≤ 2 ^ 32 - 1 = s.calls.last in
      omega (arith, made, first, last)

  step-numbered : (h : List Entry) (old : View) (e : Entry) (new : View) → StepsTo (machine_of m) h old e new → Sound setup old → Numbered old → Numbered new
  step-numbered h old (Began lane line op) new t s n = begins-numbered old.lost old new lane op (last_reading 0 h) t.step n
  step-numbered h old (Answered lane line answer) new t s n =
      let a = answered_now old lane answer new t.answers in
      numbered-as (record old { lanes = remove old.lanes a.at }) new a.is.is
      (record { few = n.few; below = λ k other here. n.below (skip a.at k) other (get-remove old.lanes a.at k other here) })
  step-numbered h old (Sent bytes) new t s n =
      let w = sent_now old bytes new t in
      numbered-as (record old { calls = record old.calls { calls = sent old.calls.calls } }) new w.is
      (record { few = let few = n.few in let same = length-sent old.calls.calls in omega (arith, few, same); below = n.below })
  step-numbered h old (Delivered bytes) new t s n = heard-numbered old bytes new (most-made old s) (heard old bytes t.result new t.hears) n
  step-numbered h old Failed new (inl t) s n = by (failed_now old t.0 new t.1)
    where
      by : FailedNow old new → Numbered new
      by (goes_on none is) = numbered-as (failed_view old) new is (failed-numbered old n)
      by (gives_up xid up is) = numbered-as (lost (failed_view old)) new is (lost-numbered (failed_view old) (failed-numbered old n))
  step-numbered h old Failed new (inr t) s n = numbered-as old new t n
  step-numbered h old (Dialed port) new t s n = numbered-as old new t n
  step-numbered h old (Executed xid call reply) new t s n = numbered-as old new t n
  step-numbered h old (Foreign call reply) new t s n = numbered-as old new t n
  step-numbered h old (Flushed file from len) new t s n = numbered-as old new t n
  step-numbered h old (Reboot verf) new t s n = numbered-as old new t n
  step-numbered h old (Clock ms) new t s n = numbered-as old new t n

  fresh-numbered : (v : View) → IsFresh setup v → Numbered v
  fresh-numbered v f = record {
    few =
        let counter = f.counter in
        let waiting : length v.calls.calls ≡ 0 = ap (λ (c : _). length c.calls) f.calls in
        omega (arith, counter, waiting);
    below = subst (λ (ls : List Lane). LanesBelow ls v.shelf.counter) (sym f.lanes) (λ k lane here. absurd (let no_way : None ≡ Some lane = here in cc));
  }

  pub reached-numbered : (h : List Entry) (v : View) → Reaches (machine_of m) setup h v → Numbered v
  reached-numbered _ _ (begins h v may up fresh) = fresh-numbered v fresh
  reached-numbered _ _ (goes h before v b e r is t) = step-numbered before b e v t (reached-sound (machine_of m) setup before b r) (reached-numbered before b r)
  reached-numbered _ _ (loses h v b r shown is) = numbered-as (lost b) v is (lost-numbered b (reached-numbered h b r))

  -- the number stays below 2³²
  pub reached-low : (h : List Entry) (v : View) → Reaches (machine_of m) setup h v → v.shelf.counter ≤ 4294967294
  reached-low h v r = let few = (reached-numbered h v r).few in let most = most-made v (reached-sound (machine_of m) setup h v r) in omega (arith, few, most)
