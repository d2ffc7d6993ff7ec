use Rattle.fetch_scripts.specs.Fetches.{AddsFiles}
use Rattle.fetch_scripts.proofs.download.Download.add_files.Given as goal

abbrev pub invariant-loop : goal.invariant-loop
invariant-loop l = AddsFiles l.fn.self l.self
