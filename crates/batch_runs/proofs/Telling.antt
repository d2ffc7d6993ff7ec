-- A batch that is answered: its text was written, or a front of it.
use Rattle.std.proofs.Common.{◌≡◌, ◌≢◌, ◌+◌, ℕ, List, max, Option, Ok, Err, refl, ap, subst, ◌∙◌}
use Rattle.world_model.specs.Follows.{IsFront}
use Rattle.script_runs.specs.Run.{Says}
use Rattle.script_runs.specs.Streams.{Appends, AppendsFront}
use Rattle.batch_runs.specs.declared.answered.Answered.{Answered}
use Rattle.batch_runs.specs.declared.stop.Stop.{Stop}
use Rattle.batch_runs.specs.declared.stop.Stop.TheVariants as stops
use Rattle.batch_runs.specs.Reading.{AnswersOne}
use Rattle.batch_runs.specs.Stops.{CausedBy}
use Rattle.batch_runs.proofs.Saying.{says-all, says-front, says-less, says-none}

-- what is written has no cause in the source
pub not-source : (stop : Stop) (P : Type 0) → CausedBy {T = Unit {0}} (Err stop) ⊥ P → stop ≢ stops.Source
not-source stops.Source P cause = absurd cause
not-source stops.Output P cause = λ e. absurd cc
not-source stops.Memory P cause = λ e. absurd cc

module _ (w0 w1 : Option (List ℕ)) (old new : Answered) (status number : ℕ) (whole : ℕ → List ℕ) (is : number ≡ old.count + 1) where
  -- all of it
  pub one-told : new ≡ record { count = number; status = max old.status status } → Appends w0 w1 (whole number)
      → Says w0 w1 (AnswersOne {T = Unit {0}} status (whole (old.count + 1)) old new (Ok tt))
  one-told now p =
      says-less w0 w1 (λ t. t ≡ whole number) (AnswersOne {T = Unit {0}} status (whole (old.count + 1)) old new (Ok tt))
      (λ t told. (ap (λ (a : Answered). a.count) now ∙ is, ap (λ (a : Answered). a.status) now, told ∙ ap whole is))
      (says-all w0 w1 (whole number) p)

  -- a front of it
  pub one-cut-off : (stop : Stop) → stop ≢ stops.Source → AppendsFront w0 w1 (whole number)
      → Says w0 w1 (AnswersOne {T = Unit {0}} status (whole (old.count + 1)) old old (Err stop))
  one-cut-off stop other p =
      says-less w0 w1 (λ t. IsFront t (whole number)) (AnswersOne {T = Unit {0}} status (whole (old.count + 1)) old old (Err stop))
      (λ t front. (refl, other, subst (λ (n : ℕ). IsFront t (whole n)) is front))
      (says-front w0 w1 (whole number) p)

-- no number was left
pub one-unnumbered : (w : Option (List ℕ)) (old : Answered) (status : ℕ) (whole : List ℕ) → Says w w (AnswersOne {T = Unit {0}} status whole old old (Err stops.Memory))
one-unnumbered w old status whole =
    says-none w (AnswersOne {T = Unit {0}} status whole old old (Err stops.Memory)) (refl, (λ e. absurd cc), record { rest = whole; is = refl })
