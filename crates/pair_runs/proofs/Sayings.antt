-- What steps one after the other tell, and a run that is cut off.
use Rattle.std.proofs.Common.{◌≡◌, ℕ, List, [], ◌∷◌, ◌++◌, refl, sym, ap, subst, ◌∙◌, append_assoc, append-nil}
use Rattle.world_model.specs.Follows.{IsFront}
use Rattle.outside.specs.Pairs.{PairStep, PairTold}
use Rattle.lane_session.specs.declared.halt.Halt.{Halt}
use Rattle.pair_runs.specs.PairGoing.{PairAdds, PairBreaks}
use Rattle.pair_runs.specs.Texts.{step_text, pair_transcript, step_clock, pair_clocks}

pub transcripts-append : (xs ys : List PairStep) → pair_transcript (xs ++ ys) ≡ pair_transcript xs ++ pair_transcript ys
transcripts-append [] ys = refl
transcripts-append (x ∷ xs) ys = ap (λ (t : List ℕ). step_text x ++ t) (transcripts-append xs ys) ∙ sym (append_assoc (step_text x) (pair_transcript xs) (pair_transcript ys))

pub readings-append : (xs ys : List PairStep) → pair_clocks (xs ++ ys) ≡ pair_clocks xs ++ pair_clocks ys
readings-append [] ys = refl
readings-append (x ∷ xs) ys = ap (λ (t : List ℕ). step_clock x ++ t) (readings-append xs ys) ∙ sym (append_assoc (step_clock x) (pair_clocks xs) (pair_clocks ys))

-- steps after steps
pub grown-then : (h k l : PairTold) (more later : List PairStep) → k ≡ record { start = h.start; steps = h.steps ++ more } → l ≡ record { start = k.start; steps = k.steps ++ later }
    → l ≡ record { start = h.start; steps = h.steps ++ (more ++ later) }
grown-then h k l more later one two =
    two ∙ ap (λ (t : PairTold). record { start = t.start; steps = t.steps ++ later }) one ∙ ap (λ (t : List PairStep). record { start = h.start; steps = t }) (append_assoc h.steps more later)

pub grown-none : (h : PairTold) → h ≡ record { start = h.start; steps = h.steps ++ [] }
grown-none h = ap (λ (t : List PairStep). record { start = h.start; steps = t }) (sym (append-nil h.steps))

pub adds-none : (h : PairTold) → PairAdds [] [] h h
adds-none h = record { more = []; grown = grown-none h; clocked = refl; shown = refl }

pub adds-then : (given text read said : List ℕ) (h k l : PairTold) → PairAdds given text h k → PairAdds read said k l → PairAdds (given ++ read) (text ++ said) h l
adds-then given text read said h k l p q = record {
  more = p.more ++ q.more;
  grown = grown-then h k l p.more q.more p.grown q.grown;
  clocked = ap (λ (t : List ℕ). t ++ read) p.clocked ∙ ap (λ (t : List ℕ). pair_clocks p.more ++ t) q.clocked ∙ sym (readings-append p.more q.more);
  shown = ap (λ (t : List ℕ). t ++ said) p.shown ∙ ap (λ (t : List ℕ). pair_transcript p.more ++ t) q.shown ∙ sym (transcripts-append p.more q.more);
}

-- a front of a text, behind one that was written whole
pub front-behind : (all text more said : List ℕ) → text ≡ all → IsFront said more → IsFront (text ++ said) (all ++ more)
front-behind all text more said is f = record {
  rest = f.rest;
  is = ap (λ (t : List ℕ). all ++ t) f.is ∙ sym (append_assoc all said f.rest) ∙ ap (λ (t : List ℕ). (t ++ said) ++ f.rest) (sym is);
}

pub breaks-then : (halt : Halt) (given text read said : List ℕ) (h k l : PairTold) → PairAdds given text h k → PairBreaks halt read said k l → PairBreaks halt (given ++ read) (text ++ said) h l
breaks-then halt given text read said h k l p q = record {
  more = p.more ++ q.more;
  grown = grown-then h k l p.more q.more p.grown q.grown;
  last = q.last;
  clocked = ap (λ (t : List ℕ). t ++ read) p.clocked ∙ ap (λ (t : List ℕ). pair_clocks p.more ++ t) q.clocked ∙ sym (append_assoc (pair_clocks p.more) (pair_clocks q.more) q.last)
      ∙ ap (λ (t : List ℕ). t ++ q.last) (sym (readings-append p.more q.more));
  left = q.left;
  shown = subst (IsFront (text ++ said)) (sym (transcripts-append p.more q.more)) (front-behind (pair_transcript p.more) text (pair_transcript q.more) said p.shown q.shown);
}
