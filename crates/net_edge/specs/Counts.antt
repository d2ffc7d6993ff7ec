-- How a count of failures goes on: it stays if a call succeeded, and rises by one if it failed.
use Rattle.std.specs.Prelude.{◌≡◌, ◌+◌, ◌-◌, ◌^◌, min, ℕ, Result, Ok, Err}
use Rattle.outside.specs.declared.source.Failed.{Failed}
use Rattle.outside.specs.declared.link.LinkFault.{LinkFault}
use Rattle.outside.specs.declared.link.LinkFault.TheVariants as faults
use Rattle.outside.specs.declared.wire.WireRead.{WireRead}
use Rattle.outside.specs.declared.wire.WireRead.TheVariants as reads
use Rattle.outside.specs.declared.datagrams.Arrived.{Arrived}
use Rattle.outside.specs.declared.datagrams.Arrived.TheVariants as arrivals

-- the count after one more failure; it stops at the end of its type
abbrev pub next_count : ℕ → ℕ
next_count count = min (count + 1) (2 ^ 64 - 1)

-- of a source
abbrev pub CountsFailed : {T : Type 0} → ℕ → ℕ → Result T Failed → Type 0
CountsFailed old new (Ok x) = new ≡ old
CountsFailed old new (Err e) = new ≡ next_count old

-- of a sink, or a wire that connects or writes; memory never runs out
abbrev pub CountsFault : {T : Type 0} → ℕ → ℕ → Result T LinkFault → Type 0
CountsFault old new (Ok x) = new ≡ old
CountsFault old new (Err faults.Failed) = new ≡ next_count old
CountsFault old new (Err faults.Memory) = ⊥

-- of a wire that waits, if silence counts, too
abbrev pub CountsRead : ℕ → ℕ → WireRead → Type 0
CountsRead old new (reads.Got n) = new ≡ old
CountsRead old new reads.Silent = new ≡ next_count old
CountsRead old new reads.Failed = new ≡ next_count old
CountsRead old new reads.Memory = ⊥

-- of datagrams that are waited for
abbrev pub CountsArrived : ℕ → ℕ → Arrived → Type 0
CountsArrived old new (arrivals.From port) = new ≡ old
CountsArrived old new arrivals.Silent = new ≡ next_count old
CountsArrived old new arrivals.Failed = new ≡ next_count old
CountsArrived old new arrivals.Memory = new ≡ old
