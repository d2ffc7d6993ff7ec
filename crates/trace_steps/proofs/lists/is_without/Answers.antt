-- The parts before and behind the entry.
use Rattle.std.proofs.Common.{◌+◌, drop, arith}
use Rattle.std.proofs.lemmas.Grind.{common_steps}
use Rattle.trace_rules.specs.Freshness.{same_entries}
use Rattle.trace_steps.proofs.Ranging.{by-way-of}
use Rattle.trace_steps.proofs.Listing.{parts-short, parts-heads, parts-tails}
use Rattle.trace_steps.proofs.lists.is_without.Goals as goal

pub returns-then-short-place : goal.returns-then-short-place
returns-then-short-place c = parts-short c.args.place c.args.long.now c.args.short.now (grind (arith, common_steps)) (grind (arith, common_steps))

pub returns-then-not-same_entries : goal.returns-then-not-same_entries
returns-then-not-same_entries c = parts-heads c.args.place c.args.long.now c.args.short.now (grind (arith, common_steps)) (grind (arith, common_steps)) (grind (arith, common_steps))

pub returns : goal.returns
returns c = by-way-of _ (same_entries (drop c.args.place c.args.short.now) (drop (c.args.place + 1) c.args.long.now)) _ (grind (arith, common_steps)) (parts-tails c.args.place c.args.long.now c.args.short.now (grind (arith, common_steps)) (grind (arith, common_steps)) (grind (arith, common_steps)))
