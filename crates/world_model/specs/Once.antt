-- No copy of a call is executed after its reply was taken.
use Rattle.std.specs.Prelude.{◌<◌, ℕ, List}
use Rattle.world_model.specs.declared.entry.Entry.{Entry}
use Rattle.world_model.specs.declared.entry.Entry.TheVariants as entries
use Rattle.world_model.specs.declared.message.Call.{Call}
use Rattle.world_model.specs.declared.message.Reply.{Reply}
use Rattle.world_model.specs.Entries.{At}
use Rattle.world_model.specs.Messages.{HasXid}

-- RFC 1813, section 4.5, leaves it to a server whether it remembers the calls that it did: this is a premise.
abbrev pub Once : List Entry → Type 0
Once h = (i n xid : ℕ) (bytes : List ℕ) (call : Call) (reply : Reply) → At h i (entries.Delivered bytes) → HasXid bytes xid
    → At h n (entries.Executed xid call reply) → n < i
