-- What a step of an operation leads to: a call that it asks for, what it expected before, and what holds then.
use Rattle.core_facts.proofs.Prelude.{◌≤◌, ℕ, Answer, Call, Step}
use Rattle.client_shelf.specs.declared.step.Step.TheVariants as nexts

-- it expects the call that it asks for
abbrev pub AskedOf : {S : Type 0} → (S → Call → Type 0) → Step → S → Type 0
AskedOf E (nexts.Send call) new = E new call
AskedOf E nexts.Wait new = Unit {0}
AskedOf E (nexts.Done answer) new = Unit {0}

-- As long as it goes on, it expects still what it expected, if so many others wait.
abbrev pub KeptOf : {S : Type 0} → (S → Call → Type 0) → ℕ → S → Step → S → Type 0
KeptOf E others old (nexts.Send call) new = 1 ≤ others → (c : Call) → E old c → E new c
KeptOf E others old nexts.Wait new = 1 ≤ others → (c : Call) → E old c → E new c
KeptOf E others old (nexts.Done answer) new = Unit {0}

-- H holds as long as it goes on, and A of its answer
abbrev pub ThenOf : {S : Type 0} → (S → Type 0) → (Answer → Type 0) → Step → S → Type 0
ThenOf H A (nexts.Send call) new = H new
ThenOf H A nexts.Wait new = H new
ThenOf H A (nexts.Done answer) new = A answer
