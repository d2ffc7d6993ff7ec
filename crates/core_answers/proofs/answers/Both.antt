-- Two relations that say for which calls the operations wait hold together.
use Rattle.core_answers.proofs.Prelude.{ℕ, Call, Step, Machine, in_flight, ExpectLaws, AskedOf, KeptOf}
use Rattle.client_shelf.specs.declared.step.Step.TheVariants as nexts
use Rattle.core_facts.proofs.Expecting.{Expects, expects-starts, expects-resumes, expects-takes}

module _ (E F : Machine → Call → Type 0) where
  abbrev pub Both : Machine → Call → Type 0
  Both m call = E m call × F m call

  asked-both : (next : Step) (new : Machine) → AskedOf E next new → AskedOf F next new → AskedOf Both next new
  asked-both (nexts.Send call) new a b = (a, b)
  asked-both nexts.Wait new a b = tt
  asked-both (nexts.Done answer) new a b = tt

  kept-both : (others : ℕ) (old : Machine) (next : Step) (new : Machine) → KeptOf E others old next new → KeptOf F others old next new → KeptOf Both others old next new
  kept-both others old (nexts.Send call) new a b = λ some c e. (a some c e.0, b some c e.1)
  kept-both others old nexts.Wait new a b = λ some c e. (a some c e.0, b some c e.1)
  kept-both others old (nexts.Done answer) new a b = tt

  pub both-laws : ExpectLaws E → ExpectLaws F → ExpectLaws Both
  both-laws e f = record {
    starts = λ m wsize turn old next new after s. asked-both next new (e.starts m wsize turn old next new after s) (f.starts m wsize turn old next new after s);
    resumes = λ m wsize turn old next new after s.
        let a = e.resumes m wsize turn old next new after s in
        let b = f.resumes m wsize turn old next new after s in
        (asked-both next new a.0 b.0, kept-both (in_flight m) m next new a.1 b.1);
    takes = λ m wsize sent turn came old next new after others one s.
        let a = e.takes m wsize sent turn came old next new after others one s in
        let b = f.takes m wsize sent turn came old next new after others one s in
        (asked-both next new a.0 b.0, kept-both others m next new a.1 b.1);
  }

-- what those wait for that open a file or make one stable
pub expects-laws : ExpectLaws Expects
expects-laws = record {
  starts = λ m wsize turn old next new after s. (expects-starts m wsize turn old next new after s).asked;
  resumes = λ m wsize turn old next new after s. let e = expects-resumes m wsize turn old next new after s in (e.asked, e.kept);
  takes = λ m wsize sent turn came old next new after others one s. let e = expects-takes m wsize sent turn came old next new after others one s in (e.asked, e.kept);
}
