-- Places in a list, and the lane at a place.
use Rattle.std.proofs.Common.{◌≡◌, ◌+◌, ◌<◌, ◌≤◌, ℕ, zero, suc, List, [], ◌∷◌, ◌++◌, length, Bool, true, false, Option, Some, None, All, position, get_or, slice_get, slice_set, refl, sym, ap, subst, ◌∙◌, arith}
use Rattle.std.specs.Prelude.{remove, ◌==◌}
use Rattle.std.proofs.lemmas.Bool.{eqb-true}
use Rattle.std.proofs.lemmas.List.Quantifiers.{position-Some}
use Rattle.std.proofs.lemmas.List.Elements.{All-append, All-take, All-drop}
use Rattle.std.proofs.lemmas.Option.{get_or_from_slice_get, slice_get_read, slice_get_within, slice_get-get_or}
use Rattle.world_model.specs.declared.answer.Answer.{Answer}
use Rattle.world_model.specs.declared.answer.Answer.TheVariants.{Refused}
use Rattle.world_model.specs.declared.answer.Fault.TheVariants as faults
use Rattle.op_machines.specs.declared.machine.Machine.{Machine}
use Rattle.client_core.specs.declared.lane.Lane.{Lane}
use Rattle.client_core.specs.declared.lane.State.{State}
use Rattle.client_core.specs.declared.lane.State.TheVariants.{Busy, Over}
use Rattle.client_core.specs.Lanes.{is_busy, is_busy_at, busy_by, busy_in, is_over, over_by}

module _ {X : Type 0} where
  -- what stands at the place that was looked for is what was looked for
  pub at-position : (p : X → Bool) (xs : List X) (at : ℕ) (x : X) → position p xs ≡ Some at → slice_get xs at ≡ Some x → p x ≡ true
  at-position p xs at x found there = subst (λ y. p y ≡ true) (get_or_from_slice_get xs at x x there) (position-Some p xs at x found).1

  -- a value that was read
  pub at-read : (xs : List X) (at : ℕ) (x : X) → at < length xs → x ≡ get_or xs at x → slice_get xs at ≡ Some x
  at-read xs at x within read = slice_get_read xs (length xs) at x refl within read

  pub at-last : (xs : List X) (x : X) → slice_get (xs ++ x ∷ []) (length xs) ≡ Some x
  at-last [] x = refl
  at-last (y ∷ ys) x = at-last ys x

  pub at-set : (xs : List X) (at : ℕ) (old x : X) → slice_get xs at ≡ Some old → slice_get (slice_set xs at x) at ≡ Some x
  at-set [] at old x there = absurd (cc)
  at-set (y ∷ ys) zero old x there = refl
  at-set (y ∷ ys) (suc at) old x there = at-set ys at old x there

  -- a list with an element put where it stands is the same
  pub set-same : (xs : List X) (at : ℕ) (x : X) → slice_get xs at ≡ Some x → slice_set xs at x ≡ xs
  set-same [] at x there = absurd (cc)
  set-same (y ∷ ys) zero x there = let same : y ≡ x = cc in ap (λ z. z ∷ ys) (sym same)
  set-same (y ∷ ys) (suc at) x there = ap (λ zs. y ∷ zs) (set-same ys at x there)

  pub set-twice : (xs : List X) (at : ℕ) (x y : X) → slice_set (slice_set xs at x) at y ≡ slice_set xs at y
  set-twice [] at x y = refl
  set-twice (z ∷ zs) zero x y = refl
  set-twice (z ∷ zs) (suc at) x y = ap (λ ws. z ∷ ws) (set-twice zs at x y)

  -- what holds of all holds of one
  pub all-at : (P : X → Type 0) (xs : List X) (at : ℕ) (x : X) → All P xs → slice_get xs at ≡ Some x → P x
  all-at P xs at x all there = subst P (get_or_from_slice_get xs at x x there) (all at x (slice_get_within xs at x there))

  pub all-remove : (P : X → Type 0) (xs : List X) (at : ℕ) → All P xs → All P (remove xs at)
  all-remove P xs at all = All-append P _ _ (All-take P at xs all) (All-drop P (suc at) xs all)

-- ---- the operation of a lane

abbrev pub lane_of : ℕ → State → Lane
lane_of number state = record { number = number; state = state }

abbrev pub machine_by : Machine → State → Machine
machine_by other (Busy machine) = machine
machine_by other (Over answer) = other

abbrev pub machine_in : Machine → Option Lane → Machine
machine_in other None = other
machine_in other (Some lane) = machine_by other lane.state

abbrev pub number_in : Option Lane → ℕ
number_in None = 0
number_in (Some lane) = lane.number

-- one operation stands at a place
pub same-machine : (lanes : List Lane) (at number other : ℕ) (machine another : Machine) → slice_get lanes at ≡ Some (record { number = number; state = Busy machine }) → slice_get lanes at ≡ Some (record { number = other; state = Busy another }) → machine ≡ another
same-machine lanes at number other machine another here there = ap (machine_in machine) (sym here ∙ there)

pub same-number : (lanes : List Lane) (at number other : ℕ) (state another : State) → slice_get lanes at ≡ Some (record { number = number; state = state }) → slice_get lanes at ≡ Some (record { number = other; state = another }) → number ≡ other
same-number lanes at number other state another here there = ap number_in (sym here ∙ there)

-- which operation is under way at a place
pub record IsUnderWay (lanes : List Lane) (at : ℕ) : Type 0 where
  pub number : ℕ
  pub machine : Machine
  pub there : slice_get lanes at ≡ Some (record { number = number; state = Busy machine })

by-state : (lanes : List Lane) (at number : ℕ) (state : State) → slice_get lanes at ≡ Some (record { number = number; state = state }) → busy_by true state ≡ true → IsUnderWay lanes at
by-state lanes at number (Busy machine) there busy = record { number = number; machine = machine; there = there }
by-state lanes at number (Over answer) there busy = absurd (cc)

pub under-way : (lanes : List Lane) (at : ℕ) → is_busy_at at lanes ≡ true → IsUnderWay lanes at
under-way lanes at busy = by (slice_get lanes at) refl busy
  where
    by : (o : Option Lane) → slice_get lanes at ≡ o → busy_in o ≡ true → IsUnderWay lanes at
    by None is h = absurd (cc)
    by (Some lane) is h = by-state lanes at lane.number lane.state is h

pub is-busy : (lanes : List Lane) (at number : ℕ) (machine : Machine) → slice_get lanes at ≡ Some (record { number = number; state = Busy machine }) → is_busy_at at lanes ≡ true
is-busy lanes at number machine there = ap busy_in there

-- the place where an operation was found that is under way
busy-state : (own : Bool) (state : State) → busy_by own state ≡ true → busy_by true state ≡ true
busy-state own (Busy machine) busy = refl
busy-state own (Over answer) busy = absurd (cc)

nobody : Lane
nobody = record { number = 0; state = Over (Refused faults.Lost) }

pub found-busy : (lanes : List Lane) (number at : ℕ) → position (is_busy number) lanes ≡ Some at → is_busy_at at lanes ≡ true
found-busy lanes number at found =
    let p = position-Some (is_busy number) lanes at nobody found in
    ap busy_in (slice_get-get_or lanes at nobody p.0) ∙ busy-state ((get_or lanes at nobody).number == number) (get_or lanes at nobody).state p.1

pub found-within : (lanes : List Lane) (test : Lane → Bool) (at : ℕ) → position test lanes ≡ Some at → at < length lanes
found-within lanes test at found = (position-Some test lanes at nobody found).0

-- ---- the answer of a lane

over-number : (own number : ℕ) (state : State) → over_by (own == number) state ≡ true → own ≡ number
over-number own number (Busy machine) over = absurd (cc)
over-number own number (Over answer) over = eqb-true own number over

-- the lane that was looked for has the number, and its answer
pub record HasAnswer (lanes : List Lane) (number at : ℕ) (lane : Lane) : Type 0 where
  pub answer : Answer
  pub there : slice_get lanes at ≡ Some (record { number = number; state = Over answer })
  pub is : lane.state ≡ Over answer

pub found-over : (lanes : List Lane) (number at : ℕ) (lane : Lane) → position (is_over number) lanes ≡ Some at → lane ≡ get_or lanes at lane → HasAnswer lanes number at lane
found-over lanes number at lane found read = by lane.state refl (at-position (is_over number) lanes at lane found there)
  where
    there : slice_get lanes at ≡ Some lane
    there = at-read lanes at lane (found-within lanes (is_over number) at found) read

    by : (state : State) → lane.state ≡ state → over_by (lane.number == number) lane.state ≡ true → HasAnswer lanes number at lane
    by (Busy machine) is over = absurd (let no-way : over_by (lane.number == number) (Busy machine) ≡ true = (rw is at over) in cc)
    by (Over answer) is over = record {
      answer = answer;
      there = there ∙ ap (λ (s : State). Some (lane_of lane.number s)) is ∙ ap (λ (n : ℕ). Some (lane_of n (Over answer))) (over-number lane.number number lane.state over);
      is = is;
    }
