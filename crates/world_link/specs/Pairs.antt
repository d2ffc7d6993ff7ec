-- What a world of two clients tells: the entries as those of a world of one, with the end of each.
use Rattle.std.specs.Prelude.{ℕ, suc, List, [], ◌∷◌, Option}
use Rattle.outside.specs.Pairs.{PairStep, PairTold, AreLawful}
use Rattle.export_fs.specs.View.{View}
use Rattle.export_fs.specs.Seen.{server_of}
use Rattle.world_link.specs.declared.directive.PartialWrite.{PartialWrite}
use Rattle.world_link.specs.declared.pair_world.PairWorld.{PairWorld}
use Rattle.world_link.specs.declared.routed.Told.{Told}
use Rattle.world_link.specs.Ends.{WorldEnds, world_ends}
use Rattle.world_link.specs.Honest.{IsHonestWorld}
use Rattle.world_link.specs.Replay.{stepped, part_at}
use Rattle.world_link.specs.Routes.{AreAllRouted}
use Rattle.world_link.specs.View.{WorldView, seen}

-- ---- what it tells

abbrev pub steps_of : (ℕ → Option PartialWrite) → View → List Told → List PairStep
steps_of parts view [] = []
steps_of parts view (t ∷ more) =
    record { end = t.end; entry = t.entry; after = server_of (stepped (parts 0) view t.entry) }
    ∷ steps_of (λ n. parts (suc n)) (stepped (parts 0) view t.entry) more

abbrev pub pair_told : (ℕ → Option PartialWrite) → View → List Told → PairTold
pair_told parts start told = record { start = server_of start; steps = steps_of parts start told }

-- the world as that of one client, and the ends beside it
pub record PairView : Type 0 where
  pub world : WorldView
  pub ends : WorldEnds

abbrev pub seen_pair : PairWorld → PairView
seen_pair p = record { world = seen p.world; ends = world_ends p.world }

abbrev pub told_pair : PairView → PairTold
told_pair v = pair_told (part_at v.world.server.partials) v.world.start v.ends.server.told

-- ---- honesty

-- It is honest as the world of one client, and its ends are right; so what it tells is lawful as each client sees it.
pub record IsHonestPair (v : PairView) : Type 0 where
  pub world : IsHonestWorld v.world
  pub routed : AreAllRouted v.ends
  pub lawful : AreLawful (told_pair v)
