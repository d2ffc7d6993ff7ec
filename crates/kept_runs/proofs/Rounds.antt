-- What a store keeps while a session's pages come in.
use Rattle.std.proofs.Common.{◌≡◌, ◌<◌, ◌⊎◌, inl, inr, ℕ, List, subst}
use Rattle.page_cache.specs.Pages.{Pages}
use Rattle.page_store.specs.Disk.{Every, LeavesOnly}
use Rattle.page_store.specs.Labels.{Relabels}
use Rattle.page_store.specs.Pages.{StoredPage, WasKept}
use Rattle.page_store.proofs.Moments.{started, then_on, weaker}
use Rattle.kept_pages.specs.Kept.{IsKept, KeepsOrKept}

module _ (n : ℕ) (c : Pages) where
  -- nothing was done
  pub keeps-itself : (old : List ℕ → Type 0) (image : List ℕ) → old image → KeepsOrKept n n c old image
  keeps-itself old image may k page low has = inl (image, may, has)

  -- a label was put behind the slots
  pub keeps-labelled : (label : StoredPage) (old : List ℕ → Type 0) (image : List ℕ) → Relabels n label old image → KeepsOrKept n n c old image
  keeps-labelled label old image r k page low has = inl (r.pages k page low has)

  -- and then more was done
  pub keeps-then : (old mid : List ℕ → Type 0) (image : List ℕ) → Every mid (KeepsOrKept n n c old) → KeepsOrKept n n c mid image → KeepsOrKept n n c old image
  keeps-then old mid image first next k page low has = by (next k page low has)
    where
      by : WasKept mid k page ⊎ ((k < n) × IsKept c page) → WasKept old k page ⊎ ((k < n) × IsKept c page)
      by (inl was) = first was.0 was.1 k page low was.2
      by (inr kept) = inr kept

-- ---- at each moment

module _ {D : Type 0} (may_leave : D → List ℕ → Type 0) (moment : D → ℕ) (left_since : D → ℕ → List ℕ → Type 0) (n : ℕ) (c : Pages) where
  -- nothing was done
  pub moment-itself : (old : D) → ((image : List ℕ) → left_since old (moment old) image → may_leave old image)
      → LeavesOnly moment left_since old old (KeepsOrKept n n c (may_leave old))
  moment-itself old only = started moment left_since old (KeepsOrKept n n c (may_leave old)) (may_leave old) only (λ image may. keeps-itself n c (may_leave old) image may)

  -- a label was put behind the slots
  pub moment-labelled : (old new : D) (label : StoredPage) → LeavesOnly moment left_since old new (Relabels n label (may_leave old))
      → LeavesOnly moment left_since old new (KeepsOrKept n n c (may_leave old))
  moment-labelled old new label l =
      weaker moment left_since old new (Relabels n label (may_leave old)) (KeepsOrKept n n c (may_leave old)) l (λ image r. keeps-labelled n c label (may_leave old) image r)

  -- and then more was done
  pub moment-then : (old mid new : D) → LeavesOnly moment left_since old mid (KeepsOrKept n n c (may_leave old)) → Every (may_leave mid) (KeepsOrKept n n c (may_leave old))
      → LeavesOnly moment left_since mid new (KeepsOrKept n n c (may_leave mid)) → LeavesOnly moment left_since old new (KeepsOrKept n n c (may_leave old))
  moment-then old mid new first here next =
      then_on moment left_since old mid new (KeepsOrKept n n c (may_leave old)) (KeepsOrKept n n c (may_leave mid)) first next
      (λ image keeps. keeps-then n c (may_leave old) (may_leave mid) image here keeps)

  -- pages of a session were stored after that
  pub moment-stored : (old mid new : D) (slots : ℕ) → slots ≡ n → LeavesOnly moment left_since old mid (KeepsOrKept n n c (may_leave old)) → Every (may_leave mid) (KeepsOrKept n n c (may_leave old))
      → LeavesOnly moment left_since mid new (KeepsOrKept slots slots c (may_leave mid)) → LeavesOnly moment left_since old new (KeepsOrKept n n c (may_leave old))
  moment-stored old mid new slots same first here next =
      moment-then old mid new first here (subst (λ (k : ℕ). LeavesOnly moment left_since mid new (KeepsOrKept k k c (may_leave mid))) same next)
