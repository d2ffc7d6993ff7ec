-- What ends a run has its cause in the source or in the sink: of this call, or of one before it.
use Rattle.std.proofs.Common.{◌≡◌, ◌≤◌, ℕ, Result, Ok, Err, sym, subst, arith}
use Rattle.outside.specs.Causes.{IfFailed, Rose}
use Rattle.outside.specs.declared.link.LinkFault.{LinkFault}
use Rattle.outside.specs.declared.link.LinkFault.TheVariants as links
use Rattle.lane_session.specs.declared.halt.Halt.{Halt}
use Rattle.lane_session.specs.declared.halt.Halt.TheVariants as halts
use Rattle.lane_session.specs.Statuses.{CausedBy as HaltCausedBy}
use Rattle.batch_runs.specs.declared.stop.Stop.{Stop}
use Rattle.batch_runs.specs.declared.stop.Stop.TheVariants as stops
use Rattle.batch_runs.specs.Stops.{CausedBy, of_halt, of_link}

-- the same cause of another result
pub stop-caused : (T U : Type 0) (stop : Stop) (P Q R S : Type 0) → (P → R) → (Q → S) → CausedBy {T = T} (Err stop) P Q → CausedBy {T = U} (Err stop) R S
stop-caused T U stops.Source P Q R S p q c = p c
stop-caused T U stops.Output P Q R S p q c = q c
stop-caused T U stops.Memory P Q R S p q c = tt

pub all-caused : (T : Type 0) (result : Result T Stop) (P Q R S : Type 0) → (P → R) → (Q → S) → CausedBy result P Q → CausedBy result R S
all-caused T (Ok x) P Q R S p q c = tt
all-caused T (Err stop) P Q R S p q c = stop-caused T T stop P Q R S p q c

-- ---- counts of faults that rose before, or since

pub rose-before : (a b c : ℕ) → a ≤ b → Rose b c → Rose a c
rose-before a b c le r = omega (arith, le, r)

pub rose-later : (a b c : ℕ) → b ≤ c → Rose a b → Rose a c
rose-later a b c le r = omega (arith, le, r)

-- a call behind others, none of which ended the run
pub caused-behind : (T U : Type 0) (stop : Stop) (a b c d e f : ℕ) → a ≤ b → d ≤ e → CausedBy {T = T} (Err stop) (Rose b c) (Rose e f)
    → CausedBy {T = U} (Err stop) (Rose a c) (Rose d f)
caused-behind T U stop a b c d e f source sink r = stop-caused T U stop (Rose b c) (Rose e f) (Rose a c) (Rose d f) (rose-before a b c source) (rose-before d e f sink) r

-- ---- what a text that can't be written, and a session that is cut off, have as their cause

pub link-caused : (T U : Type 0) (fault : LinkFault) (stop : Stop) (P : Type 0) → stop ≡ of_link fault → IfFailed {T = T} (Err fault) P → CausedBy {T = U} (Err stop) ⊥ P
link-caused T U links.Failed stop P is r = subst (λ (s : Stop). CausedBy {T = U} (Err s) ⊥ P) (sym is) r
link-caused T U links.Memory stop P is r = subst (λ (s : Stop). CausedBy {T = U} (Err s) ⊥ P) (sym is) tt

pub halt-caused : (T U : Type 0) (halt : Halt) (stop : Stop) (P : Type 0) → stop ≡ of_halt halt → HaltCausedBy {T = T} (Err halt) P → CausedBy {T = U} (Err stop) ⊥ P
halt-caused T U halts.Output stop P is r = subst (λ (s : Stop). CausedBy {T = U} (Err s) ⊥ P) (sym is) r
halt-caused T U halts.Memory stop P is r = subst (λ (s : Stop). CausedBy {T = U} (Err s) ⊥ P) (sym is) tt
