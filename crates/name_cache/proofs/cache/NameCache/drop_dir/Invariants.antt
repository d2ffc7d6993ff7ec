use Rattle.std.proofs.Common.{◌≡◌}
use Rattle.name_cache.proofs.Turning.{passed}
use Rattle.name_cache.proofs.cache.NameCache.drop_dir.Given as goal

abbrev pub invariant-loop : goal.invariant-loop
invariant-loop l = l.self ≡ passed l.dir l.initial.self l.counter
