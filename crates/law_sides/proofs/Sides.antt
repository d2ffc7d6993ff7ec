-- What one end sees of steps that were added.
use Rattle.std.proofs.Common.{◌≡◌, ◌≤◌, ℕ, zero, suc, List, [], ◌∷◌, ◌++◌, length, Option, Some, None, refl, ap, ◌∙◌, arith}
use Rattle.world_model.specs.declared.entry.Entry.{Entry}
use Rattle.world_model.specs.Server.{Server}
use Rattle.outside.specs.Pairs.{PairStep, PairTold, with_seen, seen_as, side, side_steps, seen_by, entries_of, server_at}

with-append : (o : Option PairStep) (xs ys : List PairStep) → with_seen o (xs ++ ys) ≡ with_seen o xs ++ ys
with-append None xs ys = refl
with-append (Some s) xs ys = refl

pub steps-append : (end : ℕ) (xs ys : List PairStep) → side_steps end (xs ++ ys) ≡ side_steps end xs ++ side_steps end ys
steps-append end [] ys = refl
steps-append end (x ∷ xs) ys = ap (with_seen (seen_as end x)) (steps-append end xs ys) ∙ with-append (seen_as end x) (side_steps end xs) (side_steps end ys)

entries-append : (xs ys : List PairStep) → entries_of (xs ++ ys) ≡ entries_of xs ++ entries_of ys
entries-append [] ys = refl
entries-append (x ∷ xs) ys = ap (λ (t : List Entry). x.entry ∷ t) (entries-append xs ys)

pub seen-append : (end : ℕ) (xs ys : List PairStep) → seen_by end (xs ++ ys) ≡ seen_by end xs ++ seen_by end ys
seen-append end xs ys = ap entries_of (steps-append end xs ys) ∙ entries-append (side_steps end xs) (side_steps end ys)

-- the server at earlier moments stays
server-append : (start : Server) (xs ys : List PairStep) (n : ℕ) → n ≤ length (entries_of xs) → server_at start (xs ++ ys) n ≡ server_at start xs n
server-append start [] [] zero le = refl
server-append start [] (y ∷ ys) zero le = refl
server-append start [] ys (suc n) le = absurd (omega (arith, le))
server-append start (x ∷ xs) ys zero le = refl
server-append start (x ∷ xs) ys (suc n) le = server-append x.after xs ys n (omega (arith, le))

module _ (end : ℕ) (old new : PairTold) (more : List PairStep) (grown : new ≡ record { start = old.start; steps = old.steps ++ more }) where
  pub side-grown : (side end new).entries ≡ (side end old).entries ++ seen_by end more
  side-grown = ap (λ (t : PairTold). seen_by end t.steps) grown ∙ seen-append end old.steps more

  pub side-earlier : (n : ℕ) → n ≤ length (side end old).entries → (side end new).at n ≡ (side end old).at n
  side-earlier n le = ap (λ (t : PairTold). (side end t).at n) grown ∙ ap (λ (t : List PairStep). server_at old.start t n) (steps-append end old.steps more)
      ∙ server-append old.start (side_steps end old.steps) (side_steps end more) n le
