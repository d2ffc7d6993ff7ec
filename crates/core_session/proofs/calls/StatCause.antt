-- What a stat asks for, of a record that was sent for it.
use Rattle.core_session.proofs.Prelude.{◌≡◌, ◌≤◌, ℕ, Bool, true, false, List, ◌++◌, length, refl, subst, arith, Entry, Call, Asks, Rooted, Terms, Mounted, Machine, of_walk, in_flight, OwnOr, end-leads, Expects, walk-looks, leads-on}
use Rattle.core_facts.specs.InFlight.{own_or}
use Rattle.core_answers.proofs.asks.WalkAsks.{whole-asks}
use Rattle.world_model.specs.declared.op.Op.TheVariants as ops
use Rattle.claims.specs.Asks as asks
use Rattle.name_ops.specs.Stat as stats
use Rattle.core_answers.proofs.asks.StatSteps.{StatRuns}

module _ (m : Mounted) (terms : Terms) (before after : List Entry) (x y : ℕ) (path : List (List ℕ)) (call : Call) (there : length before ≡ y)
    (rooted : Rooted terms.origin (before ++ after) y m.root) where
  pub stat-asks : (machine : Machine) → StatRuns m.root before path machine → Expects machine call → 1 ≤ in_flight machine → Asks terms (before ++ after) x y (ops.Stat path) call
  stat-asks machine k e some = by k.s.asked refl
    where
      awaits : OwnOr k.s.asked stats.get_attr k.s.walk call
      awaits = (subst (λ (n : Machine). Expects n call) k.is e).0

      many : 1 ≤ own_or k.s.asked (of_walk k.s.walk)
      many = subst (λ (n : Machine). 1 ≤ in_flight n) k.is some

      by : (b : Bool) → k.s.asked ≡ b → Asks terms (before ++ after) x y (ops.Stat path) call
      by true is = asks.shows path k.s.walk.spot.dir refl
          (leads-on m.root terms before after x y (ops.Stat path) there rooted path k.s.walk.spot.dir (end-leads m.root before path k.s.walk k.story.walk (k.story.done is)))
          (subst (λ (b : Bool). OwnOr b stats.get_attr k.s.walk call) is awaits)
      by false is = whole-asks m.root terms before after x y (ops.Stat path) there rooted path call (0, omega arith, refl) (0, omega arith, refl)
          (walk-looks m.root before path k.s.walk call k.story.walk (subst (λ (b : Bool). OwnOr b stats.get_attr k.s.walk call) is awaits)
          (subst (λ (b : Bool). 1 ≤ own_or b (of_walk k.s.walk)) is many))
