-- Calls of a clock, a link with two ends and a sink one after the other.
use Rattle.std.proofs.Common.{◌≡◌, ℕ, List, [], ◌∷◌, ◌++◌, Option, Some, None, option_map, refl, sym, ap, subst, ◌∙◌, append_assoc, append-nil}
use Rattle.world_model.specs.declared.entry.Entry.{Entry}
use Rattle.world_model.specs.History.{History}
use Rattle.world_model.specs.Told.{Relates}
use Rattle.outside.specs.Pairs.{PairTold, seen_by, side}
use Rattle.pair_ends.specs.declared.side.Side.{Side}
use Rattle.pair_ends.specs.Ends.{AddsAlone, Spares, number_of}
use Rattle.lane_session.specs.Streams.{Passes}
use Rattle.lane_session.specs.Streams.{Appends as LaneAppends, ReadsAll as LaneReadsAll}
use Rattle.script_runs.specs.Readings.{ReadsAll}
use Rattle.script_runs.specs.Streams.{Appends}
use Rattle.pair_runs.specs.PairGoing.{PairPasses}
use Rattle.pair_runs.specs.PairRuns.{PairRelates}

-- ---- what is written

pub appends-same : (old : Option (List ℕ)) → Appends old old []
appends-same None = tt
appends-same (Some old) = sym (append-nil old)

pub appends-then : (a b c : Option (List ℕ)) (t u : List ℕ) → Appends a b t → Appends b c u → Appends a c (t ++ u)
appends-then None b c t u p q = tt
appends-then (Some a) None c t u p q = absurd p
appends-then (Some a) (Some b) None t u p q = absurd q
appends-then (Some a) (Some b) (Some c) t u p q = q ∙ ap (λ (x : List ℕ). x ++ u) p ∙ append_assoc a t u

appended : (a b : Option (List ℕ)) (text : List ℕ) → LaneAppends a b text → Appends a b text
appended None b text h = tt
appended (Some x) None text h = absurd h
appended (Some x) (Some y) text h = h

-- ---- readings

pub reads-same : (a : Option (List ℕ)) → ReadsAll a a []
reads-same None = refl
reads-same (Some a) = sym (append-nil a)

pub reads-then : (a b c : Option (List ℕ)) (g i : List ℕ) → ReadsAll a b g → ReadsAll b c i → ReadsAll a c (g ++ i)
reads-then None b c g i p q = none b p q
  where
    none : (b : Option (List ℕ)) → b ≡ None → ReadsAll b c i → c ≡ None
    none None e q = q
    none (Some b) e q = absurd cc
reads-then (Some a) None c g i p q = gone c q
  where
    gone : (c : Option (List ℕ)) → c ≡ None → ReadsAll (Some a) c (g ++ i)
    gone None e = tt
    gone (Some c) e = absurd cc
reads-then (Some a) (Some b) None g i p q = tt
reads-then (Some a) (Some b) (Some c) g i p q = q ∙ ap (λ (x : List ℕ). x ++ i) p ∙ append_assoc a g i

read_all : (a b : Option (List ℕ)) (given : List ℕ) → LaneReadsAll a b given → ReadsAll a b given
read_all None b given h = h
read_all (Some x) None given h = tt
read_all (Some x) (Some y) given h = h

-- ---- histories of both

pub both-same : (a : Option PairTold) (R : PairTold → PairTold → Type 0) → ((h : PairTold) → R h h) → PairRelates a a R
both-same None R same = tt
both-same (Some a) R same = same a

pub both-less : (a b : Option PairTold) (R S : PairTold → PairTold → Type 0) → ((h k : PairTold) → R h k → S h k) → PairRelates a b R → PairRelates a b S
both-less None b R S less p = tt
both-less (Some a) None R S less p = absurd p
both-less (Some a) (Some b) R S less p = less a b p

pub both-then : (a b c : Option PairTold) (R S T : PairTold → PairTold → Type 0) → ((h k l : PairTold) → R h k → S k l → T h l) → PairRelates a b R → PairRelates b c S → PairRelates a c T
both-then None b c R S T join p q = tt
both-then (Some a) None c R S T join p q = absurd p
both-then (Some a) (Some b) None R S T join p q = absurd q
both-then (Some a) (Some b) (Some c) R S T join p q = join a b c p q

-- ---- all three

pub passes-same : (r : Option (List ℕ)) (t : Option PairTold) (w : Option (List ℕ)) (S : List ℕ → List ℕ → PairTold → PairTold → Type 0) → ((h : PairTold) → S [] [] h h) → PairPasses r r t t w w S
passes-same r t w S same = record { given = []; read = reads-same r; text = []; added = appends-same w; told = both-same t (λ h k. S [] [] h k) same }

module _ (r0 r1 : Option (List ℕ)) (t0 t1 : Option PairTold) (w0 w1 : Option (List ℕ)) (R S : List ℕ → List ℕ → PairTold → PairTold → Type 0) where
  pub passes-less : ((g t : List ℕ) (h k : PairTold) → R g t h k → S g t h k) → PairPasses r0 r1 t0 t1 w0 w1 R → PairPasses r0 r1 t0 t1 w0 w1 S
  passes-less less p = record {
    given = p.given;
    read = p.read;
    text = p.text;
    added = p.added;
    told = both-less t0 t1 (λ h k. R p.given p.text h k) (λ h k. S p.given p.text h k) (λ h k x. less p.given p.text h k x) p.told;
  }

module _ (r0 r1 r2 : Option (List ℕ)) (t0 t1 t2 : Option PairTold) (w0 w1 w2 : Option (List ℕ)) (R S T : List ℕ → List ℕ → PairTold → PairTold → Type 0) where
  pub passes-then : ((g i t u : List ℕ) (h k l : PairTold) → R g t h k → S i u k l → T (g ++ i) (t ++ u) h l)
      → PairPasses r0 r1 t0 t1 w0 w1 R → PairPasses r1 r2 t1 t2 w1 w2 S → PairPasses r0 r2 t0 t2 w0 w2 T
  passes-then join p q = record {
    given = p.given ++ q.given;
    read = reads-then r0 r1 r2 p.given q.given p.read q.read;
    text = p.text ++ q.text;
    added = appends-then w0 w1 w2 p.text q.text p.added q.added;
    told = both-then t0 t1 t2 (λ h k. R p.given p.text h k) (λ h k. S q.given q.text h k) (λ h k. T (p.given ++ q.given) (p.text ++ q.text) h k)
        (λ h k l x y. join p.given q.given p.text q.text h k l x y) p.told q.told;
  }

module _ (r0 r1 : Option (List ℕ)) (t0 t1 t2 : Option PairTold) (w0 w1 : Option (List ℕ)) (R : PairTold → PairTold → Type 0) (S T : List ℕ → List ℕ → PairTold → PairTold → Type 0) where
  -- the link alone, and then all three
  pub passes-behind : ((g t : List ℕ) (h k l : PairTold) → R h k → S g t k l → T g t h l) → PairRelates t0 t1 R → PairPasses r0 r1 t1 t2 w0 w1 S → PairPasses r0 r1 t0 t2 w0 w1 T
  passes-behind join o p = record {
    given = p.given;
    read = p.read;
    text = p.text;
    added = p.added;
    told = both-then t0 t1 t2 R (λ h k. S p.given p.text h k) (λ h k. T p.given p.text h k) (λ h k l x y. join p.given p.text h k l x y) o p.told;
  }

-- the link alone
pub passes-link : (r : Option (List ℕ)) (t0 t1 : Option PairTold) (w : Option (List ℕ)) (R : PairTold → PairTold → Type 0) (S : List ℕ → List ℕ → PairTold → PairTold → Type 0)
    → ((h k : PairTold) → R h k → S [] [] h k) → PairRelates t0 t1 R → PairPasses r r t0 t1 w w S
passes-link r t0 t1 w R S less p = record { given = []; read = reads-same r; text = []; added = appends-same w; told = both-less t0 t1 R (λ h k. S [] [] h k) less p }

-- ---- from one end

-- what is so of one side, and that the other end was left alone
abbrev pub AtEnd : ℕ → (List Entry → List Entry → Type 0) → PairTold → PairTold → Type 0
AtEnd end R h k = AddsAlone end h k × R (seen_by end h.steps) (seen_by end k.steps)

pub at-end : (end : ℕ) (a b : Option PairTold) (R : List Entry → List Entry → Type 0) → Spares end a b → Relates (option_map (side end) a) (option_map (side end) b) R
    → PairRelates a b (AtEnd end R)
at-end end None b R alone p = tt
at-end end (Some a) None R alone p = absurd alone
at-end end (Some a) (Some b) R alone p = (alone, p)

module _ (end : ℕ) (r0 r1 : Option (List ℕ)) (t0 t1 : Option PairTold) (w0 w1 : Option (List ℕ)) (R : List ℕ → List ℕ → List Entry → List Entry → Type 0)
    (S : List ℕ → List ℕ → PairTold → PairTold → Type 0) where
  -- one client's calls over its end
  pub passes-at-end : ((g t : List ℕ) (h k : PairTold) → AddsAlone end h k → R g t (seen_by end h.steps) (seen_by end k.steps) → S g t h k) → Spares end t0 t1
      → Passes r0 r1 (option_map (side end) t0) (option_map (side end) t1) w0 w1 R → PairPasses r0 r1 t0 t1 w0 w1 S
  passes-at-end less alone p = record {
    given = p.given;
    read = read_all r0 r1 p.given p.read;
    text = p.text;
    added = appended w0 w1 p.text p.added;
    told = both-less t0 t1 (AtEnd end (λ h k. R p.given p.text h k)) (λ h k. S p.given p.text h k) (λ h k x. less p.given p.text h k x.0 x.1)
        (at-end end t0 t1 (λ h k. R p.given p.text h k) alone p.told);
  }

-- the same where the end's side is known to stay
pub passes-of-end : (old new : Side) → new ≡ old → (r0 r1 : Option (List ℕ)) (t0 t1 : Option PairTold) (w0 w1 : Option (List ℕ)) (R : List ℕ → List ℕ → List Entry → List Entry → Type 0) (S : List ℕ → List ℕ → PairTold → PairTold → Type 0)
    → ((g t : List ℕ) (h k : PairTold) → AddsAlone (number_of old) h k → R g t (seen_by (number_of old) h.steps) (seen_by (number_of old) k.steps) → S g t h k) → Spares (number_of old) t0 t1
    → Passes r0 r1 (option_map (side (number_of old)) t0) (option_map (side (number_of new)) t1) w0 w1 R → PairPasses r0 r1 t0 t1 w0 w1 S
passes-of-end old new same r0 r1 t0 t1 w0 w1 R S less alone p =
    passes-at-end (number_of old) r0 r1 t0 t1 w0 w1 R S less alone
    (subst (λ (s : Side). Passes r0 r1 (option_map (side (number_of old)) t0) (option_map (side (number_of s)) t1) w0 w1 R) same p)
