-- How a run of disk calls goes on.
use Rattle.std.proofs.Common.{◌∙◌, refl, inl, inr, ⊎_elim, ℕ, List, arith}
use Rattle.page_store.specs.Disk.{Elapses, Every, LeavesOnly}
use Rattle.page_store.specs.Store.{StaysAs}

module _ {D : Type 0} (moment : D → ℕ) (left_since : D → ℕ → List ℕ → Type 0) where
  -- before the first call
  pub started : (old : D) (P may_leave : List ℕ → Type 0) → ((c : List ℕ) → left_since old (moment old) c → may_leave c) → Every may_leave P
      → LeavesOnly moment left_since old old P
  started old P may_leave only here = record { later = omega arith; each = λ c left. here c (only c left); before = λ t c le left. inl left }

  -- one call more, after which a crash leaves what has P
  pub goes_on : (old mid new : D) (P may_leave : List ℕ → Type 0) → LeavesOnly moment left_since old mid P → Elapses (moment mid) (moment new) (left_since mid) (left_since new) may_leave
      → Every may_leave P → LeavesOnly moment left_since old new P
  goes_on old mid new P may_leave so_far time here = record {
    later = omega (arith, so_far.later, time.later);
    each = λ c left. ⊎_elim (so_far.each c) (here c) (time.nothing_else (moment old) c so_far.later left);
    before = λ t c le left. ⊎_elim (so_far.before t c le) (λ now. inr (here c now)) (time.nothing_else t c (omega (arith, le, so_far.later)) left);
  }

  -- a whole run more
  pub then_on : (old mid new : D) (P Q : List ℕ → Type 0) → LeavesOnly moment left_since old mid P → LeavesOnly moment left_since mid new Q → ((c : List ℕ) → Q c → P c)
      → LeavesOnly moment left_since old new P
  then_on old mid new P Q first next weaker = record {
    later = omega (arith, first.later, next.later);
    each = λ c left. ⊎_elim (first.each c) (weaker c) (next.before (moment old) c first.later left);
    before = λ t c le left. ⊎_elim (first.before t c le) (λ now. inr (weaker c now)) (next.before t c (omega (arith, le, first.later)) left);
  }

  pub weaker : (old new : D) (P Q : List ℕ → Type 0) → LeavesOnly moment left_since old new P → ((c : List ℕ) → P c → Q c) → LeavesOnly moment left_since old new Q
  weaker old new P Q l imply = record {
    later = l.later;
    each = λ c left. imply c (l.each c left);
    before = λ t c le left. ⊎_elim (λ was. inl was) (λ now. inr (imply c now)) (l.before t c le left);
  }

module _ {D : Type 0} (seen : D → List ℕ) (may_leave : D → List ℕ → Type 0) (moment : D → ℕ) (left_since : D → ℕ → List ℕ → Type 0) where
  -- before the first call
  pub stays-itself : (old : D) → ((c : List ℕ) → left_since old (moment old) c → may_leave old c) → StaysAs seen may_leave moment left_since old old
  stays-itself old only = record { same = refl; fewer = λ c left. left; moments = started moment left_since old (may_leave old) (may_leave old) only (λ c left. left) }

  pub stays-then : (old mid new : D) → StaysAs seen may_leave moment left_since old mid → StaysAs seen may_leave moment left_since mid new → StaysAs seen may_leave moment left_since old new
  stays-then old mid new first next = record {
    same = next.same ∙ first.same;
    fewer = λ c left. first.fewer c (next.fewer c left);
    moments = then_on moment left_since old mid new (may_leave old) (may_leave mid) first.moments next.moments first.fewer;
  }
