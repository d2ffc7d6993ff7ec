use Rattle.std.proofs.Common.{◌≡◌, ℕ, ◌-◌, List, [], replicate, ap, arith}
use Rattle.page_cache.proofs.page_room.PageRoom.for_pages.Goals as goal

pub returns : goal.returns
returns c =
    let all : c.args.count - 0 ≡ c.args.count = omega arith in
    rw c.in_ok-with_capacity.ensures.items (ap (λ (n : ℕ). replicate {A = List ℕ} n []) all)

pub invariant_of-result : goal.invariant_of-result
invariant_of-result c = ((rw c.in_ok-with_capacity.ensures.items (omega arith)), c.in_ok-with_capacity.ensures.capacity)
