-- What a step leaves of the calls for which an operation waits.
use Rattle.core_answers.proofs.Prelude.{◌≡◌, ◌≤◌, ℕ, sym, subst, arith, Answer, Call, Step, AskedOf, KeptOf}
use Rattle.client_shelf.specs.declared.step.Step.TheVariants as nexts

-- E holds of the call that it asks for, and still of those that it held of before, if so many others wait.
pub record On (S : Type 0) (E : S → Call → Type 0) (others : ℕ) (old : S) (next : Step) (new : S) : Type 0 where
  pub asked : AskedOf E next new
  pub kept : KeptOf E others old next new

module _ (S : Type 0) (E : S → Call → Type 0) where
  pub on-to : (others : ℕ) (old : S) (to : Step) (state : S) (next : Step) (new : S) → next ≡ to → new ≡ state → On S E others old to state → On S E others old next new
  on-to others old to state next new is at c = subst (λ (n : Step). On S E others old n new) (sym is) (subst (λ (s : S). On S E others old to s) (sym at) c)

  pub on-done : (others : ℕ) (old : S) (answer : Answer) (next : Step) (new : S) → next ≡ nexts.Done answer → On S E others old next new
  on-done others old answer next new is = subst (λ (n : Step). On S E others old n new) (sym is) (record { asked = tt; kept = tt })

  pub on-waits : (others : ℕ) (old : S) (next : Step) (new : S) → next ≡ nexts.Wait → new ≡ old → On S E others old next new
  on-waits others old next new is same = on-to others old nexts.Wait old next new is same (record { asked = tt; kept = λ some c e. e })

  -- where none of its calls waits only the call that it asks for counts
  pub on-none : (others : ℕ) (old : S) (next : Step) (new : S) → others ≡ 0 → AskedOf E next new → On S E others old next new
  on-none others old (nexts.Send call) new none a = record { asked = a; kept = λ some. absurd (omega (arith, none, some)) }
  on-none others old nexts.Wait new none a = record { asked = tt; kept = λ some. absurd (omega (arith, none, some)) }
  on-none others old (nexts.Done answer) new none a = record { asked = tt; kept = tt }

  -- a state of which nothing is said
  pub on-any : (others : ℕ) (old : S) (next : Step) (new : S) → ((c : Call) → E new c) → On S E others old next new
  on-any others old (nexts.Send call) new any = record { asked = any call; kept = λ some c e. any c }
  on-any others old nexts.Wait new any = record { asked = tt; kept = λ some c e. any c }
  on-any others old (nexts.Done answer) new any = record { asked = tt; kept = tt }

-- the same of another thing that has the part
pub on-lift : (S T : Type 0) (E : S → Call → Type 0) (F : T → Call → Type 0) (others : ℕ) (old : S) (next : Step) (new : S) (a b : T) → (1 ≤ others → (c : Call) → F a c → E old c)
    → ((c : Call) → E new c → F b c) → On S E others old next new → On T F others a next b
on-lift S T E F others old (nexts.Send call) new a b from to o = record { asked = to call o.asked; kept = λ some c e. to c (o.kept some c (from some c e)) }
on-lift S T E F others old nexts.Wait new a b from to o = record { asked = tt; kept = λ some c e. to c (o.kept some c (from some c e)) }
on-lift S T E F others old (nexts.Done answer) new a b from to o = record { asked = tt; kept = tt }
