-- Where no page of the file is kept from one on, looking at them changes nothing.
use Rattle.std.proofs.Common.{◌≡◌, ◌≤◌, ◌+◌, ℕ, zero, suc, Bool, true, false, List, Option, None, is_some, if◌then◌else◌, nat_le, refl, ap, ◌∙◌, arith}
use Rattle.page_cache.specs.Bytes.{start_of}
use Rattle.page_cache.specs.Pages.{Pages, page_of, after_page}
use Rattle.page_cache.proofs.Later.{unkept}
use Rattle.file_ops.specs.Gather.{Planned, stopped, planned}

abbrev pub plan_of : ℕ → Pages → Planned
plan_of end pages = record { end = end; pages = pages }

stopped-none : (file : List ℕ) (index : ℕ) (plan : Planned) → page_of file index plan.pages ≡ None → stopped file index plan ≡ plan
stopped-none file index plan none = by (nat_le plan.end (start_of index))
  where
    by : (b : Bool) → (if b then plan else plan_of (if is_some (page_of file index plan.pages) then start_of index else plan.end) (after_page file index plan.pages)) ≡ plan
    by true = refl
    by false =
        ap (λ (o : Option (List ℕ)). plan_of (if is_some o then start_of index else plan.end) (after_page file index plan.pages)) none
        ∙ ap (plan_of plan.end) (unkept file index plan.pages none)

pub planned-none : (file : List ℕ) (first count : ℕ) (plan : Planned) → ((i : ℕ) → first ≤ i → page_of file i plan.pages ≡ None) → planned file first count plan ≡ plan
planned-none file first zero plan none = refl
planned-none file first (suc n) plan none =
    ap (stopped file (first + n)) (planned-none file first n plan none) ∙ stopped-none file (first + n) plan (none (first + n) (omega arith))
