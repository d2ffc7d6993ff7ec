-- A clock that goes back: an operation's time is the greatest reading before it, and so old is what was shown before.
use Rattle.core_answers.proofs.Prelude.{◌≡◌, ◌<◌, ◌+◌, ℕ, zero, suc, false, List, [], ◌∷◌, refl, arith, Entry, Began, Clock, Op, At, Modes}
use Rattle.world_model.specs.declared.op.Op.TheVariants as ops
use Rattle.claims.specs.ReadTrue.{IsYoung}
use Rattle.core_answers.specs.bonds.Aged.{BeginsAt, IsRead, TakesReadings}
use Rattle.core_answers.specs.bonds.Ages.{began_at}

-- Operations begin at the readings 10, 21 and 5. What is shown is believed for 10 milliseconds.
abbrev the_history : List Entry
the_history = Clock 10 ∷ Began 1 1 (ops.Stat []) ∷ Clock 21 ∷ Began 2 2 (ops.Stat []) ∷ Clock 5 ∷ Began 1 3 (ops.Stat []) ∷ []

abbrev the_modes : Modes
the_modes = record { longest = 10; noac = false; nocto = false; apart = λ on. refl }

last-time : began_at the_history 5 ≡ 21
last-time = refl

-- What was shown after the first reading is too old for the last operation, though the clock reads 5.
old-at : (at ms : ℕ) → At the_history at (Clock ms) → at < 2 → 21 < ms + 10 → ⊥
old-at zero ms read before less = let is : 10 ≡ ms = cc read in omega (arith, is, less)
old-at (suc zero) ms read before less = absurd (cc read)
old-at (suc (suc at)) ms read before less = omega (arith, before)

is-old : IsYoung the_modes the_history 5 2 → ⊥
is-old y = old-at y.at y.ms y.read y.before (y.young 2 21 refl (omega arith))

-- What was shown after the second isn't.
young-at : (j later : ℕ) → At the_history j (Clock later) → j < 5 → later < 21 + 10
young-at zero later at below = let is : 10 ≡ later = cc at in omega (arith, is)
young-at (suc zero) later at below = absurd (cc at)
young-at (suc (suc zero)) later at below = let is : 21 ≡ later = cc at in omega (arith, is)
young-at (suc (suc (suc zero))) later at below = absurd (cc at)
young-at (suc (suc (suc (suc zero)))) later at below = let is : 5 ≡ later = cc at in omega (arith, is)
young-at (suc (suc (suc (suc (suc j))))) later at below = omega (arith, below)

is-young : IsYoung the_modes the_history 5 3
is-young = record { at = 2; ms = 21; read = refl; before = omega arith; young = young-at }

-- Operations begin at its readings.
taken-at : (i ms : ℕ) → At the_history i (Clock ms) → BeginsAt the_history (suc i)
taken-at zero ms at = record { lane = 1; line = 1; op = ops.Stat []; began = refl }
taken-at (suc zero) ms at = absurd (cc at)
taken-at (suc (suc zero)) ms at = record { lane = 2; line = 2; op = ops.Stat []; began = refl }
taken-at (suc (suc (suc zero))) ms at = absurd (cc at)
taken-at (suc (suc (suc (suc zero)))) ms at = record { lane = 1; line = 3; op = ops.Stat []; began = refl }
taken-at (suc (suc (suc (suc (suc zero))))) ms at = absurd (cc at)
taken-at (suc (suc (suc (suc (suc (suc i)))))) ms at = absurd (cc at)

read-at : (x lane line : ℕ) (op : Op) → At the_history x (Began lane line op) → IsRead the_history x
read-at zero lane line op at = absurd (cc at)
read-at (suc x) lane line op at = record { at = 0; ms = 10; read = refl; before = omega arith }

takes : TakesReadings the_history
takes = record { read = read-at; taken = λ i ms x lane line op at began below. taken-at i ms at }
