-- How a session goes on from a view between the steps, to where a history goes with it.
use Rattle.core_counts.proofs.Prelude.{◌≡◌, ◌≤◌, ◌<◌, ℕ, Bool, true, false, cond, inl, inr, nat_eq, List, [], ◌∷◌, ◌++◌, Some, None, Err, refl, sym, subst, ◌∙◌, arith, Waiting, next_xid, waiting_at, Entry, Call, Op, Step, Machine, Purpose, Busy, Setup, with_state, Makes, Leads, Stirs, View, turn_at, unmade_turn, Reaches, SameUnder}
use Rattle.client_shelf.specs.declared.step.Step.TheVariants as nexts
use Rattle.core_answers.proofs.writes.PiecesCarried.{resumes-under, takes-under}

-- All calls that wait go on waiting, and what is in flight under their xids stays there.
pub record Onward (v fin : View) : Type 0 where
  pub next : next_xid v.calls ≤ next_xid fin.calls
  pub calls : (x : ℕ) (w : Waiting Purpose) → waiting_at x v.calls.calls ≡ Some w → waiting_at x fin.calls.calls ≡ Some w
  pub under : (x : ℕ) → 1 ≤ x → x < next_xid v.calls → SameUnder x v.shelf.back fin.shelf.back

-- So it goes on to a view with which a history goes.
pub record Ahead (machine_of : ℕ → Op → Machine) (setup : Setup) (h : List Entry) (v : View) : Type 0 where
  pub fin : View
  pub reach : Reaches machine_of setup h fin
  pub found : fin.lost ≡ false
  pub on : Onward v fin

pub on-same : (v w : View) → w ≡ v → Onward v w
on-same v w is = subst (Onward v) (sym is) (record { next = omega arith; calls = λ x u waits. waits; under = λ x low high f. refl })

pub on-then : (a b c : View) → Onward a b → Onward b c → Onward a c
on-then a b c first then_ = record {
  next = let low = first.next in let high = then_.next in omega (arith, low, high);
  calls = λ x w waits. then_.calls x w (first.calls x w waits);
  under = λ x low high f. then_.under x low (let more = first.next in omega (arith, high, more)) f ∙ first.under x low high f;
}

still-waits : (x : ℕ) (es : List (ℕ × Waiting Purpose)) (e : ℕ × Waiting Purpose) (w : Waiting Purpose) → waiting_at x es ≡ Some w → waiting_at x (es ++ e ∷ []) ≡ Some w
still-waits x [] e w is = absurd (let no_way : None ≡ Some w = is in cc)
still-waits x (d ∷ es) e w is = by (nat_eq x d.0) is (still-waits x es e w)
  where
    by : (b : Bool) → cond b (Some d.1) (waiting_at x es) ≡ Some w → (waiting_at x es ≡ Some w → waiting_at x (es ++ e ∷ []) ≡ Some w)
        → cond b (Some d.1) (waiting_at x (es ++ e ∷ [])) ≡ Some w
    by true is more = is
    by false is more = more is

pub made-on : (v : View) (number : ℕ) (call : Call) (new : View) → Makes v number call new → Onward v new
made-on v number call new m = subst (Onward v) (sym m.is) (record {
  next = omega arith;
  calls = λ x w waits. still-waits x v.calls.calls _ w waits;
  under = λ x low high f. refl;
})

pub leads-on : (v new : View) (at number : ℕ) (machine : Machine) (next : Step) → Leads v at number machine next new → Onward v new
leads-on v new at number machine (nexts.Send call) (inl m) = made-on v number call new m
leads-on v new at number machine (nexts.Send call) (inr u) = subst (Onward v) (sym u.is) (record {
  next = omega arith;
  calls = λ x w waits. waits;
  under = λ x low high. takes-under v.wsize (unmade_turn v) (turn_at v) (Err u.fault) x (λ same. absurd (omega (arith, high, same))) (λ same. absurd (omega (arith, low, same))) machine v.shelf
      u.next u.after u.left u.takes;
})
leads-on v new at number machine nexts.Wait is = on-same v new is
leads-on v new at number machine (nexts.Done answer) is = subst (Onward v) (sym is) (record { next = omega arith; calls = λ x u waits. waits; under = λ x low high f. refl })

pub stirs-on : (old new : View) (at : ℕ) → Stirs old at new → Onward old new
stirs-on old new at t =
    on-then old (with_state old at t.number (Busy t.after) t.shelf) new
    (record {
      next = omega arith;
      calls = λ x w waits. waits;
      under = λ x low high. resumes-under old.wsize (turn_at old) x (λ same. absurd (omega (arith, high, same))) t.machine old.shelf t.next t.after t.shelf t.resumes;
    })
    (leads-on (with_state old at t.number (Busy t.after) t.shelf) new at t.number t.after t.next t.leads)

-- before a step of a lane
pub ahead-of : (machine_of : ℕ → Op → Machine) (setup : Setup) (h : List Entry) (old new : View) (at : ℕ) → Stirs old at new → Ahead machine_of setup h new → Ahead machine_of setup h old
ahead-of machine_of setup h old new at t a = record { fin = a.fin; reach = a.reach; found = a.found; on = on-then old new a.fin (stirs-on old new at t) a.on }
