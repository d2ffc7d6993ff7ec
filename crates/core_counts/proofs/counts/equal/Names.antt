-- What the steps of each operation on names cost: LOOKUPs of the names that are left, and its own call.
use Rattle.core_counts.proofs.Prelude.{◌≡◌, ◌≤◌, ◌+◌, ◌⊎◌, inl, inr, ℕ, Bool, true, false, List, Option, Some, None, Result, refl, sym, ap, subst, ◌∙◌, arith, if◌then◌else◌, Attr, Fault, Value, Call, Reply, Step, Shelf, Turn, fails_busy, goes_again, ended, repeated, Stat, Visit, WalkStep, TakesShow, of_walk, visit_by}
use Rattle.name_ops.specs.Showing.{show_next, shown_answer, Shows}
use Rattle.core_facts.specs.InFlight.{own_or}
use Rattle.attr_cache.specs.Attrs as attrs
use Rattle.client_shelf.specs.declared.step.Step.TheVariants as nexts
use Rattle.name_ops.specs.declared.told.Told.{Told}
use Rattle.name_ops.specs.declared.visit.VisitStep.{VisitStep}
use Rattle.name_ops.specs.declared.visit.VisitStep.TheVariants as visits
use Rattle.name_ops.specs.declared.walk.WalkStep.TheVariants as walks
use Rattle.name_ops.specs.Changing as changing
use Rattle.name_ops.specs.Stat as stats
use Rattle.name_ops.specs.SymLink.{CopiesBy, ChangesByCopy, lacking}
use Rattle.name_ops.specs.Visiting as visiting
use Rattle.name_ops.specs.Walking as walking
use Rattle.core_counts.proofs.counts.equal.Costs.{Costs, costs-as, TakesCosts, repeats_it, goes_on, own-takes, names_left, WalkCosts, go-costs, WalkTakes, walk_again, walk_on, walk-takes}

module _ (P : Call → Type 0) where
  -- ---- a walk and a call

  abbrev pub own_left : Bool → ℕ → ℕ
  own_left true names = 0
  own_left false names = names + 1

  abbrev pub visit_left : Visit → ℕ
  visit_left v = own_left v.asked (names_left v.walk)

  abbrev VisitCosts : ℕ → VisitStep → ℕ → Type 0
  VisitCosts had (visits.Look call) after = after + 1 ≤ had
  VisitCosts had visits.Wait after = after ≤ had
  VisitCosts had (visits.Ask object) after = after + 1 ≤ had
  VisitCosts had (visits.Refused fault) after = Unit {0}

  by-costs : (had : ℕ) (of : List ℕ → Call) (step : VisitStep) (after : ℕ) → VisitCosts had step after → Costs P had (visiting.next_by of step) after
  by-costs had of (visits.Look call) after c = (omega (arith, c), λ p. c)
  by-costs had of visits.Wait after c = c
  by-costs had of (visits.Ask object) after c = (omega (arith, c), λ p. c)
  by-costs had of (visits.Refused fault) after c = tt

  follow-costs : (step : WalkStep) (room : Bool) (v : Visit) (had : ℕ) → v.asked ≡ false → WalkCosts had step (names_left v.walk)
      → VisitCosts (had + 1) (visiting.follow_next step room) (visit_left (visiting.follow_after step room v))
  follow-costs (walks.Send call) room v had idle c = subst (λ (b : Bool). own_left b (names_left v.walk) + 1 ≤ had + 1) (sym idle) (omega (arith, c))
  follow-costs walks.Wait room v had idle c = subst (λ (b : Bool). own_left b (names_left v.walk) ≤ had + 1) (sym idle) (omega (arith, c))
  follow-costs (walks.At object) true v had idle c = omega arith
  follow-costs (walks.At object) false v had idle c = subst (λ (b : Bool). own_left b (names_left v.walk) ≤ had + 1) (sym idle) (omega (arith, c))
  follow-costs (walks.Refused fault) room v had idle c = tt

  visit-costs : (v : Visit) (turn : Turn) (old : Shelf) → VisitCosts (visit_left v) (visiting.visit_next v turn old) (visit_left (visiting.visit_after v turn old))
  visit-costs v turn old = by v.asked refl
    where
      by : (b : Bool) → v.asked ≡ b
          → VisitCosts (own_left b (names_left v.walk)) (if b then visits.Wait else visiting.follow_next (walking.go_next v.walk turn old) turn.room)
          (visit_left (if b then v else visiting.follow_after (walking.go_next v.walk turn old) turn.room (record v { walk = walking.go_after v.walk turn old })))
      by true is = subst (λ (c : Bool). own_left c (names_left v.walk) ≤ 0) (sym is) (omega arith)
      by false is = follow-costs (walking.go_next v.walk turn old) turn.room (record v { walk = walking.go_after v.walk turn old }) (names_left v.walk) is (go-costs v.walk turn old)

  pub visit-goes : (of : List ℕ → Call) (v : Visit) (turn : Turn) (old : Shelf) → Costs P (visit_left v) (visiting.next_by of (visiting.visit_next v turn old)) (visit_left (visiting.visit_after v turn old))
  visit-goes of v turn old = by-costs (visit_left v) of (visiting.visit_next v turn old) (visit_left (visiting.visit_after v turn old)) (visit-costs v turn old)

  -- one whose call carries a copy
  pub copy-goes : (of : List ℕ → Call) (v : Visit) (turn : Turn) (old : Shelf) (next : Step) → CopiesBy of (visiting.visit_next v turn old) next → Costs P (visit_left v) next (visit_left (visiting.visit_after v turn old))
  copy-goes of v turn old next c = copies (visit_left v) of (visiting.visit_next v turn old) (visit_left (visiting.visit_after v turn old)) (visit-costs v turn old) next c
    where
      copies : (had : ℕ) (call : List ℕ → Call) (step : VisitStep) (after : ℕ) → VisitCosts had step after → (n : Step) → CopiesBy call step n → Costs P had n after
      copies had call (visits.Look look) after v_costs n is = costs-as P had (nexts.Send look) n after after is refl (omega (arith, v_costs), λ p. v_costs)
      copies had call visits.Wait after v_costs n is = costs-as P had nexts.Wait n after after is refl v_costs
      copies had call (visits.Ask dir) after v_costs n (inl is) = costs-as P had (nexts.Send (call dir)) n after after is refl (omega (arith, v_costs), λ p. v_costs)
      copies had call (visits.Ask dir) after v_costs n (inr is) = costs-as P had _ n after after is refl tt
      copies had call (visits.Refused fault) after v_costs n is = costs-as P had _ n after after is refl tt

  -- a reply to a LOOKUP of its walk
  visit-walked : (v : Visit) (sent turn : Turn) (came : Result Reply Fault) (old : Shelf) (step : VisitStep) (new : Visit) (after : Shelf) → v.asked ≡ false → 1 ≤ of_walk v.walk
      → visiting.VisitTakes v sent turn came old step new after
      → ((call : Call) × (step ≡ visits.Look call) × (after.repeats ≡ repeated sent.xid turn.xid old.repeats) × (visit_left new ≤ visit_left v))
      ⊎ ((after.repeats ≡ ended sent.xid old.repeats) × VisitCosts (visit_left v) step (visit_left new))
  visit-walked v sent turn came old step new after idle some t = by (walk-takes (walking.waiting_name v.walk) v.walk sent turn came old t.step t.walked.walk after refl some t.takes)
    where
      had : names_left v.walk + 1 ≡ visit_left v
      had = ap (λ (b : Bool). own_left b (names_left v.walk)) (sym idle)

      walked_idle : t.walked.asked ≡ false
      walked_idle = ap (λ (w : Visit). w.asked) t.walked_is ∙ idle

      by : WalkTakes (names_left v.walk) sent turn old.repeats t.step (names_left t.walked.walk) after.repeats
          → ((call : Call) × (step ≡ visits.Look call) × (after.repeats ≡ repeated sent.xid turn.xid old.repeats) × (visit_left new ≤ visit_left v))
          ⊎ ((after.repeats ≡ ended sent.xid old.repeats) × VisitCosts (visit_left v) step (visit_left new))
      by (walk_again call is table few) = inl (
        call,
        t.next_is ∙ ap (λ (s : WalkStep). visiting.follow_next s turn.room) is,
        table,
        (let same : visit_left new ≡ visit_left t.walked = ap visit_left (t.visit_is ∙ ap (λ (s : WalkStep). visiting.follow_after s turn.room t.walked) is) in
            let now : visit_left t.walked ≡ names_left t.walked.walk + 1 = ap (λ (b : Bool). own_left b (names_left t.walked.walk)) walked_idle in omega (arith, same, now, few, had)),
      )
      by (walk_on table c) = inr (
        table,
        subst (λ (n : ℕ). VisitCosts n step (visit_left new)) had
            (subst (λ (s : VisitStep). VisitCosts (names_left v.walk + 1) s (visit_left new)) (sym t.next_is)
            (subst (λ (w : Visit). VisitCosts (names_left v.walk + 1) (visiting.follow_next t.step turn.room) (visit_left w)) (sym t.visit_is)
            (follow-costs t.step turn.room t.walked (names_left v.walk) walked_idle c))),
      )

  pub visit-walks : (of : List ℕ → Call) (v : Visit) (sent turn : Turn) (came : Result Reply Fault) (old : Shelf) (next : Step) (new : Visit) (after : Shelf) → v.asked ≡ false → 1 ≤ of_walk v.walk
      → visiting.Walks of v sent turn came old next new after → TakesCosts P (visit_left v) sent turn old.repeats next (visit_left new) after.repeats
  visit-walks of v sent turn came old next new after idle some w = elim (visit-walked v sent turn came old w.step new after idle some w.takes) [
    | inl k ↦ repeats_it k.2 k.3
    | inr k ↦ goes_on k.0 (costs-as P (visit_left v) (visiting.next_by of w.step) next (visit_left new) (visit_left new) w.next_is refl (by-costs (visit_left v) of w.step (visit_left new) k.1))
  ]

  -- ---- its own call

  pub shown-takes : (had : ℕ) (object : List ℕ) (attr : Option Attr) (told : Result Value Fault) (call : Call) (sent turn : Turn) (old : Shelf) (next : Step) (after : Shelf) (left : ℕ) → left ≤ had
      → Shows object attr told call sent turn old next after → TakesCosts P had sent turn old.repeats next left after.repeats
  shown-takes had object attr told call sent turn old next after left few s =
      own-takes P had (goes_again (fails_busy told) sent turn old.repeats) (fails_busy told) sent turn old.repeats next left after.repeats refl (ap (λ (q : Shelf). q.repeats) s.others) few
      (λ calm. costs-as P had (nexts.Done (shown_answer told)) next left left (s.next_is ∙ ap (λ (b : Bool). show_next b call told) calm) refl tt)

  pub changed-takes : (had : ℕ) (dir : List ℕ) (call : Call) (told : Told) (sent turn : Turn) (old : Shelf) (next : Step) (after : Shelf) (left : ℕ) → left ≤ had
      → changing.Changes dir call told sent turn old next after → TakesCosts P had sent turn old.repeats next left after.repeats
  changed-takes had dir call told sent turn old next after left few s =
      own-takes P had (goes_again (changing.told_busy told.refusal) sent turn old.repeats) (changing.told_busy told.refusal) sent turn old.repeats next left after.repeats refl
      (ap (λ (q : Shelf). q.repeats) s.others) few
      (λ calm. costs-as P had (nexts.Done (changing.answer_of told.refusal)) next left left (s.next_is ∙ ap (λ (b : Bool). changing.change_next b call told) calm) refl tt)

  own-some : (b : Bool) (n others : ℕ) → b ≡ false → visit_by b n ≡ others + 1 → 1 ≤ n
  own-some false n others is count = omega (arith, count)
  own-some true n others is count = absurd (let no_way : true ≡ false = is in cc)

  pub change-takes : (asked : Bool) (of : List ℕ → Call) (told : Told) (v : Visit) (sent turn : Turn) (came : Result Reply Fault) (old : Shelf) (next : Step) (new : Visit) (after : Shelf) (others : ℕ)
      → v.asked ≡ asked → visit_by v.asked (of_walk v.walk) ≡ others + 1 → changing.TakesChange asked of told v sent turn came old next new after
      → TakesCosts P (visit_left v) sent turn old.repeats next (visit_left new) after.repeats
  change-takes true of told v sent turn came old next new after others is flight t =
      changed-takes (visit_left v) v.walk.spot.dir (of v.walk.spot.dir) told sent turn old next after (visit_left new) (let same = ap visit_left t.0 in omega (arith, same)) t.1
  change-takes false of told v sent turn came old next new after others is flight t = visit-walks of v sent turn came old next new after is (own-some v.asked (of_walk v.walk) others is flight) t

  pub show-takes : (asked : Bool) (of : List ℕ → Call) (attr : Option Attr) (told : Result Value Fault) (v : Visit) (sent turn : Turn) (came : Result Reply Fault) (old : Shelf) (next : Step) (new : Visit)
      (after : Shelf) (others : ℕ) → v.asked ≡ asked → visit_by v.asked (of_walk v.walk) ≡ others + 1 → TakesShow asked of attr told v sent turn came old next new after
      → TakesCosts P (visit_left v) sent turn old.repeats next (visit_left new) after.repeats
  show-takes true of attr told v sent turn came old next new after others is flight t =
      shown-takes (visit_left v) v.walk.spot.dir attr told (of v.walk.spot.dir) sent turn old next after (visit_left new) (let same = ap visit_left t.0 in omega (arith, same)) t.1
  show-takes false of attr told v sent turn came old next new after others is flight t = visit-walks of v sent turn came old next new after is (own-some v.asked (of_walk v.walk) others is flight) t

  -- with a copy
  pub copied-takes : (had : ℕ) (dir : List ℕ) (call : Call) (told : Told) (sent turn : Turn) (old : Shelf) (next : Step) (after : Shelf) (left : ℕ) → left ≤ had
      → ChangesByCopy dir call told sent turn old next after → TakesCosts P had sent turn old.repeats next left after.repeats
  copied-takes had dir call told sent turn old next after left few (inl c) = changed-takes had dir call told sent turn old next after left few c
  copied-takes had dir call told sent turn old next after left few (inr c) = changed-takes had dir call (lacking told) sent turn old next after left few c.1

  pub copy-walks : (of : List ℕ → Call) (v : Visit) (sent turn : Turn) (came : Result Reply Fault) (old : Shelf) (step : VisitStep) (next : Step) (new : Visit) (after : Shelf) → v.asked ≡ false → 1 ≤ of_walk v.walk
      → visiting.VisitTakes v sent turn came old step new after → CopiesBy of step next → TakesCosts P (visit_left v) sent turn old.repeats next (visit_left new) after.repeats
  copy-walks of v sent turn came old step next new after idle some t c = elim (visit-walked v sent turn came old step new after idle some t) [
    | inl k ↦ repeats_it k.2 k.3
    | inr k ↦ goes_on k.0 (copies (visit_left v) of step (visit_left new) k.1 next c)
  ]
    where
      copies : (had : ℕ) (call : List ℕ → Call) (s : VisitStep) (left : ℕ) → VisitCosts had s left → (n : Step) → CopiesBy call s n → Costs P had n left
      copies had call (visits.Look look) left v_costs n is = costs-as P had (nexts.Send look) n left left is refl (omega (arith, v_costs), λ p. v_costs)
      copies had call visits.Wait left v_costs n is = costs-as P had nexts.Wait n left left is refl v_costs
      copies had call (visits.Ask dir) left v_costs n (inl is) = costs-as P had (nexts.Send (call dir)) n left left is refl (omega (arith, v_costs), λ p. v_costs)
      copies had call (visits.Ask dir) left v_costs n (inr is) = costs-as P had _ n left left is refl tt
      copies had call (visits.Refused fault) left v_costs n is = costs-as P had _ n left left is refl tt

  -- ---- a stat

  abbrev pub stat_left : Stat → ℕ
  stat_left m = own_left m.asked (names_left m.walk)

  ask-costs : (known : Option Attr) (object : List ℕ) (room : Bool) (m : Stat) (had : ℕ) → m.asked ≡ false → names_left m.walk ≤ had
      → Costs P (had + 1) (stats.ask_next known object room) (stat_left (stats.ask_after known room m))
  ask-costs (Some attr) object room m had idle few = tt
  ask-costs None object true m had idle few = (omega arith, λ p. omega arith)
  ask-costs None object false m had idle few = subst (λ (b : Bool). own_left b (names_left m.walk) ≤ had + 1) (sym idle) (omega (arith, few))

  stat-follow : (step : WalkStep) (turn : Turn) (known : attrs.Attrs) (m : Stat) (had : ℕ) → m.asked ≡ false → WalkCosts had step (names_left m.walk)
      → Costs P (had + 1) (stats.follow_next step turn known) (stat_left (stats.follow_after step turn known m))
  stat-follow (walks.Send call) turn known m had idle c =
      subst (λ (b : Bool). (own_left b (names_left m.walk) ≤ had + 1) × (P call → own_left b (names_left m.walk) + 1 ≤ had + 1)) (sym idle) (omega (arith, c), λ p. omega (arith, c))
  stat-follow walks.Wait turn known m had idle c = subst (λ (b : Bool). own_left b (names_left m.walk) ≤ had + 1) (sym idle) (omega (arith, c))
  stat-follow (walks.At object) turn known m had idle c = ask-costs (attrs.looked object turn.now known) object turn.room m had idle c
  stat-follow (walks.Refused fault) turn known m had idle c = tt

  pub stat-goes : (m : Stat) (turn : Turn) (old : Shelf) → Costs P (stat_left m) (stats.stat_next m turn old) (stat_left (stats.stat_after m turn old))
  stat-goes m turn old = by m.asked refl
    where
      by : (b : Bool) → m.asked ≡ b
          → Costs P (own_left b (names_left m.walk)) (if b then nexts.Wait else stats.follow_next (walking.go_next m.walk turn old) turn old.attrs)
          (stat_left (if b then m else stats.follow_after (walking.go_next m.walk turn old) turn old.attrs (record m { walk = walking.go_after m.walk turn old })))
      by true is = subst (λ (c : Bool). own_left c (names_left m.walk) ≤ 0) (sym is) (omega arith)
      by false is = stat-follow (walking.go_next m.walk turn old) turn old.attrs (record m { walk = walking.go_after m.walk turn old }) (names_left m.walk) is (go-costs m.walk turn old)

  own-or-some : (b : Bool) (n others : ℕ) → b ≡ false → own_or b n ≡ others + 1 → 1 ≤ n
  own-or-some false n others is count = omega (arith, count)
  own-or-some true n others is count = absurd (let no_way : true ≡ false = is in cc)

  pub stat-takes : (asked : Bool) (m : Stat) (sent turn : Turn) (came : Result Reply Fault) (old : Shelf) (next : Step) (new : Stat) (after : Shelf) (others : ℕ) → m.asked ≡ asked
      → own_or m.asked (of_walk m.walk) ≡ others + 1 → stats.StatTakes asked m sent turn came old next new after → TakesCosts P (stat_left m) sent turn old.repeats next (stat_left new) after.repeats
  stat-takes true m sent turn came old next new after others is flight t =
      shown-takes (stat_left m) m.walk.spot.dir (stats.got_attr came) (stats.got_told came) (stats.get_attr m.walk.spot.dir) sent turn old next after (stat_left new)
      (let same = ap stat_left t.0 in omega (arith, same)) t.1
  stat-takes false m sent turn came old next new after others is flight t =
      by (walk-takes (walking.waiting_name m.walk) m.walk sent turn came old t.step t.walked.walk after refl (own-or-some m.asked (of_walk m.walk) others is flight) t.takes)
    where
      had : names_left m.walk + 1 ≡ stat_left m
      had = ap (λ (b : Bool). own_left b (names_left m.walk)) (sym is)

      walked_idle : t.walked.asked ≡ false
      walked_idle = ap (λ (w : Stat). w.asked) t.walked_is ∙ is

      by : WalkTakes (names_left m.walk) sent turn old.repeats t.step (names_left t.walked.walk) after.repeats → TakesCosts P (stat_left m) sent turn old.repeats next (stat_left new) after.repeats
      by (walk_again call step_is table few) = repeats_it table (
          let same : stat_left new ≡ stat_left t.walked = ap stat_left (t.machine_is ∙ ap (λ (s : WalkStep). stats.follow_after s turn after.attrs t.walked) step_is) in
          let now : stat_left t.walked ≡ names_left t.walked.walk + 1 = ap (λ (b : Bool). own_left b (names_left t.walked.walk)) walked_idle in
          omega (arith, same, now, few, had))
      by (walk_on table c) = goes_on table (subst (λ (n : ℕ). Costs P n next (stat_left new)) had
          (costs-as P (names_left m.walk + 1) (stats.follow_next t.step turn after.attrs) next (stat_left (stats.follow_after t.step turn after.attrs t.walked)) (stat_left new) t.next_is
          (ap stat_left t.machine_is) (stat-follow t.step turn after.attrs t.walked (names_left m.walk) walked_idle c)))
