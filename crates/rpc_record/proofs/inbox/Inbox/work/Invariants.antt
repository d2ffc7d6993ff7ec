use Rattle.std.proofs.Common.{◌-◌, ◌≡◌, ◌≤◌, ◌++◌, ℕ, List, length, take, drop}
use Rattle.rpc_record.specs.declared.gather.Phase.TheVariants as phases
use Rattle.rpc_record.specs.Gather.{resumes}
use Rattle.rpc_record.proofs.inbox.Inbox.work.Given as goal

abbrev pub invariant-loop-self : goal.invariant-loop-self
invariant-loop-self l =
    (l.self-inside.at ≤ l.self-inside.end) × (l.self-inside.end ≤ length l.self-inside.buffer.items)
    × (l.fn.self.gather.phase ≡ phases.Long → l.self-inside.gather.phase ≡ phases.Long)
    × ((more : List ℕ) → resumes l.fn.self.gather (l.fn.self.unread ++ more) ≡ resumes l.self-inside.gather (drop l.self-inside.at (take l.self-inside.end l.self-inside.buffer.items) ++ more))

abbrev pub decreases-loop-self : goal.decreases-loop-self
decreases-loop-self l = l.self-inside.end - l.self-inside.at
