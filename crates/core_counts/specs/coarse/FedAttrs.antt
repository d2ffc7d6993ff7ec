-- The attributes that are kept go on as the machine of model_walks says (nfs(5), acregmin to acdirmax): those that replies show are learnt, and kept ones are
-- forgotten.
use Rattle.std.specs.Prelude.{◌≤◌, ◌⊎◌, ℕ, List, Contains}
use Rattle.attr_cache.specs.declared.kept.KeptAttr.{KeptAttr}
use Rattle.attr_cache.specs.Attrs.{Attrs}
use Rattle.world_model.specs.declared.entry.Entry.TheVariants.{Executed}
use Rattle.world_model.specs.declared.message.Call.{Call}
use Rattle.world_model.specs.declared.message.Reply.{Reply}
use Rattle.world_model.specs.Entries.{At}
use Rattle.world_model.specs.History.{History}
use Rattle.claims.specs.Shown.{ShowsAttr}
use Rattle.core_answers.specs.bonds.Kept.{HadShown}

-- The call was executed with this reply, and the clock had shown this time before.
pub record WasRun (t : History) (call : Call) (ms : ℕ) (reply : Reply) : Type 0 where
  pub place : ℕ
  pub xid : ℕ
  pub done : At t.entries place (Executed xid call reply)
  pub since : ℕ
  pub timed : HadShown t.entries since ms
  pub late : since ≤ place

-- A reply shows these attributes of the file. The time that is kept with them was shown before its call was executed.
pub record WasShown (t : History) (file : List ℕ) (kept : KeptAttr) : Type 0 where
  pub call : Call
  pub reply : Reply
  pub run : WasRun t call kept.sent_at reply
  pub shows : ShowsAttr call reply file kept.attr

-- What is kept afterwards was kept before; or a reply shows it, and it isn't believed for longer than attributes may be.
abbrev pub Learns : History → ℕ → Attrs → Attrs → Type 0
Learns t most old new = (file : List ℕ) (kept : KeptAttr) → Contains new.entries (file, kept)
    → Contains old.entries (file, kept) ⊎ (WasShown t file kept × (kept.lifetime ≤ most))
