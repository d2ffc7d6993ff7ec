-- What is wanted of a relation that says for which calls the operations wait.
use Rattle.core_facts.proofs.Prelude.{◌≡◌, ◌+◌, ℕ, Result, Fault, Call, Reply, Step, Shelf, Turn, Machine, Starts, Resumes, Takes, in_flight}
use Rattle.core_facts.proofs.Steps.{AskedOf, KeptOf}

-- It holds of each call that a step asks for, and goes on holding of those that wait.
pub record ExpectLaws (E : Machine → Call → Type 0) : Type 0 where
  pub starts : (m : Machine) (wsize : ℕ) (turn : Turn) (old : Shelf) (next : Step) (new : Machine) (after : Shelf) → Starts wsize m turn old next new after → AskedOf E next new
  pub resumes : (m : Machine) (wsize : ℕ) (turn : Turn) (old : Shelf) (next : Step) (new : Machine) (after : Shelf) → Resumes wsize m turn old next new after
      → AskedOf E next new × KeptOf E (in_flight m) m next new
  pub takes : (m : Machine) (wsize : ℕ) (sent turn : Turn) (came : Result Reply Fault) (old : Shelf) (next : Step) (new : Machine) (after : Shelf) (others : ℕ)
      → in_flight m ≡ others + 1 → Takes wsize m sent turn came old next new after → AskedOf E next new × KeptOf E others m next new
