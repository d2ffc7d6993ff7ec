-- What the steps of operations with two walks cost, of listings, and of removals.
use Rattle.core_counts.proofs.Prelude.{◌≡◌, ◌≤◌, ◌+◌, ◌||◌, inl, inr, ℕ, Bool, true, false, List, ◌++◌, Result, Ok, Err, refl, sym, ap, subst, ◌∙◌, arith, if◌then◌else◌, Fault, Call, Reply, Step, Repeat, Shelf, Turn, fails_busy, goes_again, repeats_after, ended, repeated, ListDir, Pair, PairStep, Visit, WalkStep, of_walk, visit_by}
use Rattle.client_shelf.specs.Busy.{is_busy}
use Rattle.core_facts.specs.InFlight.{pair_by}
use Rattle.dir_list.specs.declared.progress.ListStep.{ListStep}
use Rattle.dir_list.specs.declared.progress.ListStep.TheVariants.{More, End}
use Rattle.dir_list.specs.declared.progress.ListFault.{ListFault}
use Rattle.dir_list.specs.Listings.{counted, page_step}
use Rattle.world_model.specs.declared.answer.Answer.TheVariants as answers
use Rattle.client_shelf.specs.declared.step.Step.TheVariants as nexts
use Rattle.name_ops.specs.declared.pair.PairStep.TheVariants as pairing
use Rattle.name_ops.specs.declared.visit.VisitStep.TheVariants as visits
use Rattle.name_ops.specs.declared.walk.WalkStep.TheVariants as walks
use Rattle.name_ops.specs.ListDir as listing
use Rattle.name_ops.specs.Pairs as pairs
use Rattle.name_ops.specs.Visiting as visiting
use Rattle.name_ops.specs.Walking as walking
use Rattle.core_counts.proofs.counts.equal.Costs.{Costs, costs-as, TakesCosts, repeats_it, goes_on, own-takes, names_left, WalkCosts, go-costs, WalkTakes, walk_again, walk_on, walk-takes}

module _ (P : Call → Type 0) where
  -- ---- two walks and a call

  abbrev pub pair_left_by : Bool → ℕ → ℕ → ℕ
  pair_left_by true one two = 0
  pair_left_by false one two = one + two + 1

  abbrev pub pair_left : Pair → ℕ
  pair_left p = pair_left_by p.asked (names_left p.first) (names_left p.second)

  abbrev PairCosts : ℕ → PairStep → ℕ → Type 0
  PairCosts had (pairing.Look call) after = after + 1 ≤ had
  PairCosts had pairing.Wait after = after ≤ had
  PairCosts had (pairing.Ask first second) after = after + 1 ≤ had
  PairCosts had (pairing.Refused fault) after = Unit {0}

  pair-more : (had more : ℕ) (step : PairStep) (after : ℕ) → had ≤ more → PairCosts had step after → PairCosts more step after
  pair-more had more (pairing.Look call) after wide c = omega (arith, wide, c)
  pair-more had more pairing.Wait after wide c = omega (arith, wide, c)
  pair-more had more (pairing.Ask first second) after wide c = omega (arith, wide, c)
  pair-more had more (pairing.Refused fault) after wide c = tt

  pair-by : (had : ℕ) (of : List ℕ → List ℕ → Call) (step : PairStep) (after : ℕ) → PairCosts had step after → Costs P had (pairs.next_by of step) after
  pair-by had of (pairing.Look call) after c = (omega (arith, c), λ p. c)
  pair-by had of pairing.Wait after c = c
  pair-by had of (pairing.Ask first second) after c = (omega (arith, c), λ p. c)
  pair-by had of (pairing.Refused fault) after c = tt

  idle-left : (p : Pair) → p.asked ≡ false → pair_left p ≡ names_left p.first + names_left p.second + 1
  idle-left p idle = ap (λ (b : Bool). pair_left_by b (names_left p.first) (names_left p.second)) idle

  second-costs : (first : List ℕ) (step : WalkStep) (room : Bool) (p : Pair) (had : ℕ) → p.asked ≡ false → WalkCosts had step (names_left p.second)
      → PairCosts (names_left p.first + had + 1) (pairs.led_second first step room) (pair_left (pairs.second_kept step room p))
  second-costs first (walks.Send call) room p had idle c = let now = idle-left p idle in omega (arith, c, now)
  second-costs first walks.Wait room p had idle c = let now = idle-left p idle in omega (arith, c, now)
  second-costs first (walks.At second) true p had idle c = omega arith
  second-costs first (walks.At second) false p had idle c = let now = idle-left p idle in omega (arith, c, now)
  second-costs first (walks.Refused fault) room p had idle c = tt

  first-costs : (step : WalkStep) (p : Pair) (turn : Turn) (shelf : Shelf) (had : ℕ) → p.asked ≡ false → WalkCosts had step (names_left p.first)
      → PairCosts (had + names_left p.second + 1) (pairs.led_first step p turn shelf) (pair_left (pairs.first_kept step p turn shelf))
  first-costs (walks.Send call) p turn shelf had idle c = let now = idle-left p idle in omega (arith, c, now)
  first-costs walks.Wait p turn shelf had idle c = let now = idle-left p idle in omega (arith, c, now)
  first-costs (walks.At first) p turn shelf had idle c =
      pair-more (names_left p.first + names_left p.second + 1) (had + names_left p.second + 1) (pairs.led_second first (walking.go_next p.second turn shelf) turn.room)
      (pair_left (pairs.second_kept (walking.go_next p.second turn shelf) turn.room (record p { second = walking.go_after p.second turn shelf }))) (omega (arith, c))
      (second-costs first (walking.go_next p.second turn shelf) turn.room (record p { second = walking.go_after p.second turn shelf }) (names_left p.second) idle (go-costs p.second turn shelf))
  first-costs (walks.Refused fault) p turn shelf had idle c = tt

  pub pair-goes : (of : List ℕ → List ℕ → Call) (p : Pair) (turn : Turn) (old : Shelf) → Costs P (pair_left p) (pairs.next_by of (pairs.pair_next p turn old)) (pair_left (pairs.pair_after p turn old))
  pair-goes of p turn old = pair-by (pair_left p) of (pairs.pair_next p turn old) (pair_left (pairs.pair_after p turn old)) (by (pairs.waits p) refl)
    where
      first-false : (a b : Bool) → (a || b) ≡ false → a ≡ false
      first-false true b is = is
      first-false false b is = refl

      by : (b : Bool) → pairs.waits p ≡ b → PairCosts (pair_left p) (if b then pairing.Wait else pairs.on_next p turn old) (pair_left (if b then p else pairs.on_after p turn old))
      by true is = omega arith
      by false is =
          let idle = first-false p.asked p.second.asked is in
          subst (λ (n : ℕ). PairCosts n (pairs.on_next p turn old) (pair_left (pairs.on_after p turn old))) (sym (idle-left p idle))
          (first-costs (walking.go_next p.first turn old) (pairs.walked_first p turn old) turn (walking.go_shelf p.first turn old) (names_left p.first) idle (go-costs p.first turn old))

  first-repeats : (step : WalkStep) (p : Pair) (turn : Turn) (s : Shelf) → (pairs.first_shelf step p turn s).repeats ≡ s.repeats
  first-repeats (walks.Send call) p turn s = refl
  first-repeats walks.Wait p turn s = refl
  first-repeats (walks.At first) p turn s = refl
  first-repeats (walks.Refused fault) p turn s = refl

  data Paired (had : ℕ) (sent turn : Turn) (old : List Repeat) (step : PairStep) (after : ℕ) (later : List Repeat) : Type 0 where
    pair_again : later ≡ repeated sent.xid turn.xid old → after ≤ had → Paired had sent turn old step after later
    pair_on : later ≡ ended sent.xid old → PairCosts had step after → Paired had sent turn old step after later

  takes-first : (p : Pair) (sent turn : Turn) (came : Result Reply Fault) (old : Shelf) (step : PairStep) (new : Pair) (after : Shelf) → p.asked ≡ false → 1 ≤ of_walk p.first
      → pairs.TakesFirst p sent turn came old step new after → Paired (pair_left p) sent turn old.repeats step (pair_left new) after.repeats
  takes-first p sent turn came old step new after idle some t = by (walk-takes (walking.waiting_name p.first) p.first sent turn came old t.step t.walked.first t.heard refl some t.takes)
    where
      had : names_left p.first + names_left p.second + 1 ≡ pair_left p
      had = sym (idle-left p idle)

      walked_idle : t.walked.asked ≡ false
      walked_idle = ap (λ (w : Pair). w.asked) t.walked_is ∙ idle

      second_same : names_left t.walked.second ≡ names_left p.second
      second_same = ap (λ (w : Pair). names_left w.second) t.walked_is

      table : after.repeats ≡ t.heard.repeats
      table = ap (λ (s : Shelf). s.repeats) t.shelf_is ∙ first-repeats t.step t.walked turn t.heard

      by : WalkTakes (names_left p.first) sent turn old.repeats t.step (names_left t.walked.first) t.heard.repeats → Paired (pair_left p) sent turn old.repeats step (pair_left new) after.repeats
      by (walk_again call is again few) =
          pair_again (table ∙ again)
          (let same : pair_left new ≡ pair_left t.walked = ap pair_left (t.pair_is ∙ ap (λ (s : WalkStep). pairs.first_kept s t.walked turn t.heard) is) in
          let now = idle-left t.walked walked_idle in
          omega (arith, same, now, few, had, second_same))
      by (walk_on ended_table c) =
          pair_on (table ∙ ended_table)
          (pair-more (names_left p.first + names_left t.walked.second + 1) (pair_left p) step (pair_left new) (omega (arith, had, second_same))
          (subst (λ (s : PairStep). PairCosts (names_left p.first + names_left t.walked.second + 1) s (pair_left new)) (sym t.next_is)
          (subst (λ (w : Pair). PairCosts (names_left p.first + names_left t.walked.second + 1) (pairs.led_first t.step t.walked turn t.heard) (pair_left w)) (sym t.pair_is)
          (first-costs t.step t.walked turn t.heard (names_left p.first) walked_idle c))))

  takes-second : (p : Pair) (sent turn : Turn) (came : Result Reply Fault) (old : Shelf) (step : PairStep) (new : Pair) (after : Shelf) → p.asked ≡ false → 1 ≤ of_walk p.second
      → pairs.TakesSecond p sent turn came old step new after → Paired (pair_left p) sent turn old.repeats step (pair_left new) after.repeats
  takes-second p sent turn came old step new after idle some t = by (walk-takes (walking.waiting_name p.second) p.second sent turn came old t.step t.walked.second after refl some t.takes)
    where
      had : names_left p.first + names_left p.second + 1 ≡ pair_left p
      had = sym (idle-left p idle)

      walked_idle : t.walked.asked ≡ false
      walked_idle = ap (λ (w : Pair). w.asked) t.walked_is ∙ idle

      first_same : names_left t.walked.first ≡ names_left p.first
      first_same = ap (λ (w : Pair). names_left w.first) t.walked_is

      by : WalkTakes (names_left p.second) sent turn old.repeats t.step (names_left t.walked.second) after.repeats → Paired (pair_left p) sent turn old.repeats step (pair_left new) after.repeats
      by (walk_again call is again few) =
          pair_again again
          (let same : pair_left new ≡ pair_left t.walked = ap pair_left (t.pair_is ∙ ap (λ (s : WalkStep). pairs.second_kept s turn.room t.walked) is) in
          let now = idle-left t.walked walked_idle in
          omega (arith, same, now, few, had, first_same))
      by (walk_on ended_table c) =
          pair_on ended_table
          (pair-more (names_left t.walked.first + names_left p.second + 1) (pair_left p) step (pair_left new) (omega (arith, had, first_same))
          (subst (λ (s : PairStep). PairCosts (names_left t.walked.first + names_left p.second + 1) s (pair_left new)) (sym t.next_is)
          (subst (λ (w : Pair). PairCosts (names_left t.walked.first + names_left p.second + 1) (pairs.led_second p.first.spot.dir t.step turn.room) (pair_left w)) (sym t.pair_is)
          (second-costs p.first.spot.dir t.step turn.room t.walked (names_left p.second) walked_idle c))))

  pub pair-walks : (of : List ℕ → List ℕ → Call) (p : Pair) (sent turn : Turn) (came : Result Reply Fault) (old : Shelf) (next : Step) (new : Pair) (after : Shelf) (others : ℕ) → p.asked ≡ false
      → pair_by p.asked p.first.asked p.second.asked (of_walk p.first) (of_walk p.second) ≡ others + 1 → pairs.Walks of p sent turn came old next new after
      → TakesCosts P (pair_left p) sent turn old.repeats next (pair_left new) after.repeats
  pair-walks of p sent turn came old next new after others idle flight w =
      joined (by p.first.asked p.second.asked (subst (λ (b : Bool). pair_by b p.first.asked p.second.asked (of_walk p.first) (of_walk p.second) ≡ others + 1) idle flight) w.takes)
    where
      joined : Paired (pair_left p) sent turn old.repeats w.step (pair_left new) after.repeats → TakesCosts P (pair_left p) sent turn old.repeats next (pair_left new) after.repeats
      joined (pair_again table few) = repeats_it table few
      joined (pair_on table c) = goes_on table (costs-as P (pair_left p) (pairs.next_by of w.step) next (pair_left new) (pair_left new) w.next_is refl (pair-by (pair_left p) of w.step (pair_left new) c))

      by : (a b : Bool) → pair_by false a b (of_walk p.first) (of_walk p.second) ≡ others + 1 → pairs.PairTakes a p sent turn came old w.step new after
          → Paired (pair_left p) sent turn old.repeats w.step (pair_left new) after.repeats
      by true true count t = absurd (omega (arith, count))
      by true false count t = takes-first p sent turn came old w.step new after idle (omega (arith, count)) t
      by false b count t = takes-second p sent turn came old w.step new after idle (omega (arith, count)) t

  -- ---- a listing: its pages don't count

  module _ (no_page : (place : _) (dir : List ℕ) → P (listing.page_call place dir) → ⊥) where
    abbrev pub list_left : ListDir → ℕ
    list_left k = names_left k.visit.walk

    list-follow : (step : WalkStep) (room : Bool) (k : ListDir) (v : Visit) (had : ℕ) → WalkCosts had step (names_left v.walk)
        → Costs P had (visiting.next_by (listing.page_call k.place) (visiting.follow_next step room)) (names_left (visiting.follow_after step room v).walk)
    list-follow (walks.Send call) room k v had c = (omega (arith, c), λ p. c)
    list-follow walks.Wait room k v had c = c
    list-follow (walks.At object) true k v had c = (c, λ p. absurd (no_page k.place object p))
    list-follow (walks.At object) false k v had c = c
    list-follow (walks.Refused fault) room k v had c = tt

    pub list-goes : (k : ListDir) (turn : Turn) (old : Shelf)
        → Costs P (list_left k) (visiting.next_by (listing.page_call k.place) (visiting.visit_next k.visit turn old)) (names_left (visiting.visit_after k.visit turn old).walk)
    list-goes k turn old = by k.visit.asked
      where
        by : (b : Bool)
            → Costs P (list_left k) (visiting.next_by (listing.page_call k.place) (if b then visits.Wait else visiting.follow_next (walking.go_next k.visit.walk turn old) turn.room))
            (names_left (if b then k.visit else visiting.follow_after (walking.go_next k.visit.walk turn old) turn.room (record k.visit { walk = walking.go_after k.visit.walk turn old })).walk)
        by true = omega arith
        by false = list-follow (walking.go_next k.visit.walk turn old) turn.room k (record k.visit { walk = walking.go_after k.visit.walk turn old }) (list_left k) (go-costs k.visit.walk turn old)

    list-walks : (k : ListDir) (sent turn : Turn) (came : Result Reply Fault) (old : Shelf) (next : Step) (new : ListDir) (after : Shelf) → 1 ≤ of_walk k.visit.walk
        → listing.WalksToList k sent turn came old next new after → TakesCosts P (list_left k) sent turn old.repeats next (list_left new) after.repeats
    list-walks k sent turn came old next new after some t =
        by (walk-takes (walking.waiting_name k.visit.walk) k.visit.walk sent turn came old t.walks.takes.step t.walks.takes.walked.walk after refl some t.walks.takes.takes)
      where
        kept : (step : WalkStep) (room : Bool) (v : Visit) → (visiting.follow_after step room v).walk ≡ v.walk
        kept (walks.Send call) room v = refl
        kept walks.Wait room v = refl
        kept (walks.At object) true v = refl
        kept (walks.At object) false v = refl
        kept (walks.Refused fault) room v = refl

        left_is : list_left new ≡ names_left (visiting.follow_after t.walks.takes.step turn.room t.walks.takes.walked).walk
        left_is = ap list_left t.machine_is ∙ ap (λ (v : Visit). names_left v.walk) t.walks.takes.visit_is

        by : WalkTakes (names_left k.visit.walk) sent turn old.repeats t.walks.takes.step (names_left t.walks.takes.walked.walk) after.repeats
            → TakesCosts P (list_left k) sent turn old.repeats next (list_left new) after.repeats
        by (walk_again call is table few) =
            repeats_it table (let same = left_is ∙ ap names_left (kept t.walks.takes.step turn.room t.walks.takes.walked) in omega (arith, same, few))
        by (walk_on table c) =
            goes_on table (costs-as P (list_left k) (visiting.next_by (listing.page_call k.place) (visiting.follow_next t.walks.takes.step turn.room)) next
            (names_left (visiting.follow_after t.walks.takes.step turn.room t.walks.takes.walked).walk) (list_left new)
            (t.walks.next_is ∙ ap (visiting.next_by (listing.page_call k.place)) t.walks.takes.next_is) left_is
            (list-follow t.walks.takes.step turn.room k t.walks.takes.walked (list_left k) c))

    page-costs : (k : ListDir) (place : _) (room : Bool) (m : ListDir) (had : ℕ) → list_left m ≤ had → Costs P had (listing.more_next place room m) (list_left (listing.more_after place room m))
    page-costs k place true m had few = (few, λ p. absurd (no_page place m.visit.walk.spot.dir p))
    page-costs k place false m had few = few

    list-pages : (k : ListDir) (sent turn : Turn) (came : Result Reply Fault) (old : List Repeat) (told_page : Result _ Fault) (next : Step) (new : ListDir) (later : List Repeat)
        → later ≡ repeats_after (fails_busy told_page) sent turn old → listing.Follows told_page (goes_again (fails_busy told_page) sent turn old) turn.room k next new
        → TakesCosts P (list_left k) sent turn old next (list_left new) later
    list-pages k sent turn came old (Err fault) next new later table f =
        own-takes P (list_left k) (goes_again (is_busy fault) sent turn old) (is_busy fault) sent turn old next (list_left new) later refl table (let same = ap list_left f.1 in omega (arith, same))
        (λ calm. costs-as P (list_left k) (nexts.Done (answers.Refused fault)) next (list_left new) (list_left new) (f.0 ∙ ap (λ (b : Bool). listing.refused_next b fault k) calm) refl tt)
    list-pages k sent turn came old (Ok heard) next new later table (inl f) = goes_on table (costs-as P (list_left k) _ next (list_left new) (list_left new) f.0 refl tt)
    list-pages k sent turn came old (Ok heard) next new later table (inr f) = goes_on table (by (page_step k.listing heard.page heard.verf heard.eof) f)
      where
        by : (step : Result ListStep ListFault) → listing.TakesStep step heard turn.room k next new → Costs P (list_left k) next (list_left new)
        by (Ok (More its with_)) t =
            costs-as P (list_left k) (listing.more_next (record { cookie = its; verf = with_ }) turn.room (record k { listing = k.listing ++ counted heard.page })) next
            (list_left (listing.more_after (record { cookie = its; verf = with_ }) turn.room (record k { listing = k.listing ++ counted heard.page }))) (list_left new) t.0 (ap list_left t.1)
            (page-costs k (record { cookie = its; verf = with_ }) turn.room (record k { listing = k.listing ++ counted heard.page }) (list_left k) (omega arith))
        by (Ok End) t = costs-as P (list_left k) _ next (list_left new) (list_left new) t.next_is refl tt
        by (Err fault) t = costs-as P (list_left k) _ next (list_left new) (list_left new) t.0 refl tt

    pub list-takes : (asked : Bool) (k : ListDir) (sent turn : Turn) (came : Result Reply Fault) (old : Shelf) (next : Step) (new : ListDir) (after : Shelf) (others : ℕ) → k.visit.asked ≡ asked
        → visit_by k.visit.asked (of_walk k.visit.walk) ≡ others + 1 → listing.TakesList asked k sent turn came old next new after
        → TakesCosts P (list_left k) sent turn old.repeats next (list_left new) after.repeats
    list-takes true k sent turn came old next new after others is flight t =
        list-pages k sent turn came old.repeats (listing.page_heard came) next new after.repeats (ap (λ (s : Shelf). s.repeats) t.others) t.follows
    list-takes false k sent turn came old next new after others is flight t =
        list-walks k sent turn came old next new after (some k.visit.asked is flight) t
      where
        some : (b : Bool) → b ≡ false → visit_by b (of_walk k.visit.walk) ≡ others + 1 → 1 ≤ of_walk k.visit.walk
        some false same count = omega (arith, count)
        some true same count = absurd (let no_way : true ≡ false = same in cc)
