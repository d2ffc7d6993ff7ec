-- How the world goes on within a call, also if memory runs out in the midst: what happened until then is told.
use Rattle.std.specs.Prelude.{◌≡◌, ◌<◌, ◌≤◌, ℕ, List, [], ◌++◌, length, None}
use Rattle.world_model.specs.declared.entry.Entry.{Entry}
use Rattle.world_model.specs.Entries.{ours}
use Rattle.export_fs.specs.View.{View}
use Rattle.world_link.specs.declared.broken.Broken.{Broken}
use Rattle.world_link.specs.Replay.{replayed, part_at}
use Rattle.world_link.specs.View.{ServerView, WorldView}

-- The export is as the entries tell, and nothing is kept beside entries that aren't there yet.
pub record Follows (start now : View) (entries : List Entry) (partials : List Broken) : Type 0 where
  pub known : (n : ℕ) → length entries ≤ n → part_at partials n ≡ None
  pub export : now ≡ replayed (part_at partials) start entries

-- The server added entries of its own, and the export went on as they tell.
pub record Goes (old new : ServerView) : Type 0 where
  pub more : List Entry
  pub grown : new.entries ≡ old.entries ++ more
  pub seen : ours more ≡ []
  pub beside : (n : ℕ) → n < length old.entries → part_at new.partials n ≡ part_at old.partials n
  pub follows : (start : View) → Follows start old.export old.entries old.partials → Follows start new.export new.entries new.partials

-- the same of the world: the start stays, and nothing failed
pub record GoesOn (old new : WorldView) : Type 0 where
  pub server : Goes old.server new.server
  pub start : new.start ≡ old.start
  pub faults : new.faults ≡ old.faults
