-- What two equal lanes have in common.
use Rattle.core_session.proofs.Prelude.{◌≡◌, ℕ, Option, Some, option_map, ap, Answer, Machine, Lane, State, Busy, Over}

some-state : (a b : State) → Some a ≡ Some b → a ≡ b
some-state a b e = cc

some-number : (a b : ℕ) → Some a ≡ Some b → a ≡ b
some-number a b e = cc

pub state-is : (a b : State) (n k : ℕ) → ◌≡◌ {A = Option Lane} (Some (record { number = n; state = a })) (Some (record { number = k; state = b })) → a ≡ b
state-is a b n k e = some-state a b (ap (λ (o : Option Lane). option_map (λ (l : Lane). l.state) o) e)

pub number-is : (a b : State) (n k : ℕ) → ◌≡◌ {A = Option Lane} (Some (record { number = n; state = a })) (Some (record { number = k; state = b })) → n ≡ k
number-is a b n k e = some-number n k (ap (λ (o : Option Lane). option_map (λ (l : Lane). l.number) o) e)

pub answer-is : (a b : Answer) → Over a ≡ Over b → a ≡ b
answer-is a b e = cc

pub busy-over : (machine : Machine) (answer : Answer) → Busy machine ≡ Over answer → ⊥
busy-over machine answer e = cc
