-- What one client's turn adds to the history of both.
use Rattle.std.proofs.Common.{◌≡◌, ◌<◌, ◌-◌, ℕ, List, [], ◌∷◌, ◌++◌, refl, sym, ap, subst, ◌∙◌, append_assoc}
use Rattle.world_model.specs.declared.entry.Entry.{Entry}
use Rattle.world_model.specs.declared.entry.Entry.TheVariants.{Answered}
use Rattle.world_model.specs.Clocked.{clocks}
use Rattle.world_model.specs.Follows.{IsFront}
use Rattle.world_model.specs.Transcript.{line_text}
use Rattle.outside.specs.Pairs.{PairStep, PairTold, seen_by}
use Rattle.law_sides.proofs.Sides.{seen-append}
use Rattle.pair_ends.specs.Ends.{AddsAlone}
use Rattle.lane_session.specs.declared.halt.Halt.{Halt}
use Rattle.lane_session.specs.Labels.{told_by, IsCutIn, all_told, last_cut}
use Rattle.lane_session.specs.Statuses.{IsLeft}
use Rattle.lane_session.proofs.Labels.{told-append}
use Rattle.lane_session.proofs.Pushes.{clocks-append}
use Rattle.pair_runs.specs.PairGoing.{PairAdds, PairBreaks}
use Rattle.pair_runs.specs.Texts.{label_at, pair_transcript, pair_clocks}
use Rattle.pair_runs.proofs.Alone.{transcript-alone, clocks-alone}

-- ---- lists

tails : (x : ℕ) (xs ys : List ℕ) → x ∷ xs ≡ x ∷ ys → xs ≡ ys
tails x xs ys e = cc

pub same-end : (xs ys zs : List ℕ) → xs ++ ys ≡ xs ++ zs → ys ≡ zs
same-end [] ys zs e = e
same-end (x ∷ xs) ys zs e = same-end xs ys zs (tails x (xs ++ ys) (xs ++ zs) e)

-- a front of a text, past what both begin with
front-past : (xs ys zs : List ℕ) → IsFront (xs ++ ys) (xs ++ zs) → IsFront ys zs
front-past xs ys zs f = record { rest = f.rest; is = same-end xs zs (ys ++ f.rest) (f.is ∙ append_assoc xs ys f.rest) }

-- a text that may end within the line of the last answer is a front of all
cut-front : (label : List ℕ) (h : List Entry) (text : List ℕ) → IsCutIn label h text → IsFront text (told_by label h)
cut-front label h text (all_told is) = record { rest = []; is = sym is ∙ sym (none text) }
  where
    none : (xs : List ℕ) → xs ++ [] ≡ xs
    none [] = refl
    none (x ∷ xs) = ap (λ (t : List ℕ). x ∷ t) (none xs)
cut-front label h text (last_cut before lane line answer front is shown within) = record {
  rest = within.rest;
  is = ap (told_by label) is ∙ told-append label before (Answered lane line answer ∷ []) ∙ ap (λ (t : List ℕ). told_by label before ++ t) (last ∙ within.is)
      ∙ sym (append_assoc (told_by label before) front within.rest) ∙ ap (λ (t : List ℕ). t ++ within.rest) (sym shown);
}
  where
    none : (xs : List ℕ) → xs ++ [] ≡ xs
    none [] = refl
    none (x ∷ xs) = ap (λ (t : List ℕ). x ∷ t) (none xs)

    last : told_by label (Answered lane line answer ∷ []) ≡ label ++ line_text lane line answer
    last = none (label ++ line_text lane line answer)

-- ---- a turn

module _ (end : ℕ) (low : end < 2) (h k : PairTold) (alone : AddsAlone end h k) where
  pub side-grown : (e : ℕ) → seen_by e k.steps ≡ seen_by e h.steps ++ seen_by e alone.more
  side-grown e = ap (λ (t : PairTold). seen_by e t.steps) alone.grown ∙ seen-append e h.steps alone.more

  told-grown : told_by (label_at end) (seen_by end k.steps) ≡ told_by (label_at end) (seen_by end h.steps) ++ pair_transcript alone.more
  told-grown =
      ap (told_by (label_at end)) (side-grown end) ∙ told-append (label_at end) (seen_by end h.steps) (seen_by end alone.more)
      ∙ ap (λ (t : List ℕ). told_by (label_at end) (seen_by end h.steps) ++ t) (sym (transcript-alone end low alone.more alone.unseen))

  clocks-grown : clocks (seen_by end k.steps) ≡ clocks (seen_by end h.steps) ++ pair_clocks alone.more
  clocks-grown =
      ap clocks (side-grown end) ∙ clocks-append (seen_by end h.steps) (seen_by end alone.more)
      ∙ ap (λ (t : List ℕ). clocks (seen_by end h.steps) ++ t) (sym (clocks-alone end low alone.more alone.unseen))

  pub turn-adds : (given text : List ℕ) → clocks (seen_by end k.steps) ≡ clocks (seen_by end h.steps) ++ given
      → told_by (label_at end) (seen_by end k.steps) ≡ told_by (label_at end) (seen_by end h.steps) ++ text → PairAdds given text h k
  turn-adds given text clocked shown = record {
    more = alone.more;
    grown = alone.grown;
    clocked = same-end (clocks (seen_by end h.steps)) given (pair_clocks alone.more) (sym clocked ∙ clocks-grown);
    shown = same-end (told_by (label_at end) (seen_by end h.steps)) text (pair_transcript alone.more) (sym shown ∙ told-grown);
  }

  pub turn-breaks : (halt : Halt) (given text last : List ℕ) → clocks (seen_by end h.steps) ++ given ≡ clocks (seen_by end k.steps) ++ last → IsLeft halt last
      → IsCutIn (label_at end) (seen_by end k.steps) (told_by (label_at end) (seen_by end h.steps) ++ text) → PairBreaks halt given text h k
  turn-breaks halt given text last clocked left shown = record {
    more = alone.more;
    grown = alone.grown;
    last = last;
    clocked = same-end (clocks (seen_by end h.steps)) given (pair_clocks alone.more ++ last)
        (clocked ∙ ap (λ (t : List ℕ). t ++ last) clocks-grown ∙ append_assoc (clocks (seen_by end h.steps)) (pair_clocks alone.more) last);
    left = left;
    shown = front-past (told_by (label_at end) (seen_by end h.steps)) text (pair_transcript alone.more)
        (subst (IsFront (told_by (label_at end) (seen_by end h.steps) ++ text)) told-grown (cut-front (label_at end) (seen_by end k.steps) (told_by (label_at end) (seen_by end h.steps) ++ text) shown));
  }
