use Rattle.std.proofs.Common.{rules, ◌≡◌, ℕ, List, IfOk, subst}
use Rattle.op_machines.specs.Begun.{last_of}
use Rattle.op_machines.proofs.Places.{apart}
use Rattle.op_machines.proofs.begun.place_of.Goals as goal

pub returns : goal.returns
returns c =
    let path = c.args.path.now in
    let front = c.in-Some.front.now in
    let a = apart path front c.in-Some.name.now (search rules) in
    subst (λ (f : List (List ℕ)). IfOk c.named.result (λ place. place ≡ record { dir = f; name = last_of path })) a.0
    (subst (λ (n : List ℕ). IfOk c.named.result (λ place. place ≡ record { dir = front; name = n })) a.1 c.named.ensures)
