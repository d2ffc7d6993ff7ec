-- The first entry that fails a test ends the first beginning that breaks the rule.
use Rattle.std.proofs.Common.{◌≡◌, ◌<◌, ◌≤◌, ◌+◌, ℕ, zero, suc, Bool, true, true≢false, List, [], ◌∷◌, length, take, Option, Some, None, slice_get, refl, sym, ◌∙◌, ap, subst, arith}
use Rattle.std.specs.Prelude.{Decides, ◌&&◌, ◌||◌, not}
use Rattle.std.proofs.lemmas.List.{length-take-le}
use Rattle.std.proofs.lemmas.Bool.Decides.{Decides-like}
use Rattle.world_model.specs.declared.entry.Entry.{Entry}
use Rattle.world_model.specs.History.{History, history}
use Rattle.world_model.specs.Once.{Once}
use Rattle.world_model.specs.Fresh.{Fresh}
use Rattle.trace_data.specs.declared.trace.Trace.{Trace}
use Rattle.trace_rules.specs.Decided.{all_below, any_below, delivers_there, executed_there, delivers_at, executed_at, came_before, is_first, in_time, once}
use Rattle.trace_data.specs.Histories.{history_of}
use Rattle.trace_rules.specs.Freshness.{renews_all, fresh}
use Rattle.trace_rules.specs.Beginnings.{beginning, BreaksAt, FailsAt, OnceOf}
use Rattle.trace_rules.proofs.Below.{all_below-fails, all_below-decides}
use Rattle.trace_rules.proofs.Deciding.{once-decides}
use Rattle.trace_rules.proofs.Renewing.{Renews, all-decides, fresh-decides}

all-less : (f : ℕ → Bool) (m n : ℕ) → m ≤ n → all_below f n ≡ true → all_below f m ≡ true
all-less f m n le all = (each m).1 (λ k lt. (each n).0 all k (omega (arith, lt, le)))
  where
    each : (b : ℕ) → Decides (all_below f b) ((k : ℕ) → k < b → f k ≡ true)
    each b = all_below-decides f (λ k. f k ≡ true) (λ k. (λ e. e, λ e. e)) b

-- if the test of all entries below n decides the rule of the beginning n
breaks-at : (rule : History → Type 0) (h : History) (test : ℕ → Bool) → ((n : ℕ) → n ≤ length h.entries → Decides (all_below test n) (rule (beginning h n))) → (k : ℕ) → FailsAt test (length h.entries) k → BreaksAt rule h (k + 1)
breaks-at rule h test each k f =
    let below : k < length h.entries = f.below in
    record {
      within = omega (arith, below);
      breaks = λ r. true≢false (sym ((each (k + 1) (omega (arith, below))).1 r) ∙ all_below-fails test k (k + 1) (omega arith) f.fails);
      least = λ m lt. (each m (omega (arith, lt, below))).0 (all-less test m k (omega (arith, lt)) f.passes);
    }

-- ---- copies that come late

all-same : (f g : ℕ → Bool) (n : ℕ) → ((k : ℕ) → k < n → f k ≡ g k) → all_below f n ≡ all_below g n
unfolding all_below
all-same f g zero same = refl
all-same f g (suc n) same = let this = same n (omega arith) in let rest = all-same f g n (λ k lt. same k (omega (arith, lt))) in (λ i. this i && rest i)

any-same : (f g : ℕ → Bool) (n : ℕ) → ((k : ℕ) → k < n → f k ≡ g k) → any_below f n ≡ any_below g n
unfolding any_below
any-same f g zero same = refl
any-same f g (suc n) same = let this = same n (omega arith) in let rest = any-same f g n (λ k lt. same k (omega (arith, lt))) in (λ i. this i || rest i)

get-take : (n : ℕ) (h : List Entry) (k : ℕ) → k < n → slice_get (take n h) k ≡ slice_get h k
get-take zero h k lt = absurd (omega (arith, lt))
get-take (suc n) [] k lt = refl
get-take (suc n) (e ∷ h) zero lt = refl
get-take (suc n) (e ∷ h) (suc k) lt = get-take n h k (omega (arith, lt))

came-same : (h : List Entry) (n x k : ℕ) → k < n → came_before (take n h) x k ≡ came_before h x k
unfolding came_before delivers_at
came-same h n x k lt = any-same (λ i. delivers_there x (slice_get (take n h) i)) (λ i. delivers_there x (slice_get h i)) k (λ i before. ap (delivers_there x) (get-take n h i (omega (arith, before, lt))))

first-same : (h : List Entry) (n k : ℕ) (o : Option ℕ) → k < n → is_first (take n h) k o ≡ is_first h k o
first-same h n k None lt = refl
first-same h n k (Some x) lt = ap not (came-same h n x k lt)

time-same : (h : List Entry) (n k : ℕ) → k < n → in_time (take n h) k ≡ in_time h k
unfolding in_time executed_at
time-same h n k lt = first-same h n k (executed_there (slice_get (take n h) k)) lt ∙ ap (λ o. is_first h k (executed_there o)) (get-take n h k lt)

once-of : (h : List Entry) (n : ℕ) → n ≤ length h → once (take n h) ≡ all_below (in_time h) n
unfolding once
once-of h n le = ap (all_below (λ k. in_time (take n h) k)) (length-take-le n h le) ∙ all-same (in_time (take n h)) (in_time h) n (λ k lt. time-same h n k lt)

late-decides : (h : List Entry) (n : ℕ) → n ≤ length h → Decides (all_below (in_time h) n) (Once (take n h))
late-decides h n le = subst (λ (b : Bool). Decides b (Once (take n h))) (once-of h n le) (once-decides (take n h))

pub late_breaks : (h : List Entry) (k : ℕ) → FailsAt (in_time h) (length h) k → BreaksAt OnceOf (history h) (k + 1)
late_breaks h k f = breaks-at OnceOf (history h) (in_time h) (λ n le. late-decides h n le) k f

pub late_whole : (h : List Entry) → all_below (in_time h) (length h) ≡ true → Once h
unfolding once
late_whole h all = (once-decides h).0 all

-- ---- stamps

stale-decides : (t : Trace) (n : ℕ) → n ≤ length t.entries.items → Decides (all_below (renews_all t.start.objects.items t.updates.items) n) (Fresh (beginning (history_of t) n))
stale-decides t n le =
    let same : length (take n t.entries.items) ≡ n = length-take-le n t.entries.items le in
    Decides-like (all_below (renews_all t.start.objects.items t.updates.items) n)
    (λ w k below f old new. w k (omega (arith, below, same)) f old new)
    (λ (w : Fresh (beginning (history_of t) n)) k below f old new. w k (omega (arith, below, same)) f old new)
    (all_below-decides (renews_all t.start.objects.items t.updates.items) (λ k. (f : List ℕ) → Renews t.start.objects.items t.updates.items k f) (λ k. all-decides t.start.objects.items t.updates.items k) n)

pub stale_breaks : (t : Trace) (k : ℕ) → FailsAt (renews_all t.start.objects.items t.updates.items) (length t.entries.items) k → BreaksAt Fresh (history_of t) (k + 1)
stale_breaks t k f = breaks-at Fresh (history_of t) (renews_all t.start.objects.items t.updates.items) (λ n le. stale-decides t n le) k f

pub stale_whole : (t : Trace) → all_below (renews_all t.start.objects.items t.updates.items) (length t.entries.items) ≡ true → Fresh (history_of t)
unfolding fresh
stale_whole t all = (fresh-decides t).0 all
