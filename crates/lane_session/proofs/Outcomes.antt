-- What holds of results.
use Rattle.std.proofs.Common.{◌≤◌, ℕ, Result, Ok, Err, OnOk, IfOk, arith}
use Rattle.outside.specs.Causes.{Rose}
use Rattle.lane_session.specs.declared.halt.Halt.{Halt}
use Rattle.lane_session.specs.declared.halt.Halt.TheVariants as halts
use Rattle.lane_session.specs.Statuses.{CausedBy}

pub ok-map : {T E : Type 0} → (r : Result T E) (P Q : Type 0) → (P → Q) → OnOk r P → OnOk r Q
ok-map (Ok x) P Q f p = f p
ok-map (Err e) P Q f p = p

pub if-ok-map : {T E : Type 0} → (r : Result T E) (P Q : T → Type 0) → ((x : T) → P x → Q x) → IfOk r P → IfOk r Q
if-ok-map (Ok x) P Q f p = f x p
if-ok-map (Err e) P Q f p = p

pub caused-later : (T U : Type 0) (e : Halt) (a b c : ℕ) → a ≤ b → CausedBy {T = T} (Err e) (Rose b c) → CausedBy {T = U} (Err e) (Rose a c)
caused-later T U halts.Output a b c le r = omega (arith, le, r)
caused-later T U halts.Memory a b c le r = tt

pub caused-after : {T : Type 0} → (r : Result T Halt) (a b c : ℕ) → a ≤ b → CausedBy r (Rose b c) → CausedBy r (Rose a c)
caused-after (Ok x) a b c le r = tt
caused-after (Err halts.Output) a b c le r = omega (arith, le, r)
caused-after (Err halts.Memory) a b c le r = tt

pub only-memory : {T : Type 0} → (r : Result T Halt) (P : Type 0) → CausedBy r ⊥ → CausedBy r P
only-memory (Ok x) P o = tt
only-memory (Err halts.Output) P o = absurd o
only-memory (Err halts.Memory) P o = tt

pub uncaused : (T U : Type 0) (e : Halt) (P : Type 0) → CausedBy {T = T} (Err e) ⊥ → CausedBy {T = U} (Err e) P
uncaused T U halts.Output P o = absurd o
uncaused T U halts.Memory P o = tt
