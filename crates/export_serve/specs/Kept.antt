-- The replies that are kept, so that a call that comes again isn't executed again. The newest stands last.
use Rattle.std.specs.Prelude.{◌≡◌, ℕ, List, [], ◌∷◌, ◌++◌, ◌-◌, ◌==◌, length, drop, not, Option, Some, None, if◌then◌else◌}
use Rattle.std.specs.List.{filter}
use Rattle.std.specs.Str.{bytes_eq}
use Rattle.world_model.specs.declared.message.Call.{Call}
use Rattle.export_serve.specs.declared.request.Asked.TheVariants as askings
use Rattle.export_serve.specs.Asking.{asked_at}
use Rattle.export_serve.specs.declared.kept_replies.KeptReply.{KeptReply}

-- a record that asks for a call that is executed
abbrev pub IsExecuted : List ℕ → Type 0
IsExecuted rec = (xid : ℕ) × (call : Call) × (asked_at rec ≡ askings.Serve xid call)

-- a reply to the record of such a call, under its xid
abbrev pub IsKept : KeptReply → Type 0
IsKept kept = (call : Call) × (asked_at kept.call ≡ askings.Serve kept.xid call)

-- the reply that is kept of an equal record
abbrev pub reply_kept : List ℕ → List KeptReply → Option (List ℕ)
reply_kept rec [] = None
reply_kept rec (kept ∷ more) = if bytes_eq kept.call rec then Some kept.reply else reply_kept rec more

-- those under other xids
abbrev pub under_others : ℕ → List KeptReply → List KeptReply
under_others xid = filter (λ kept. not (kept.xid == xid))

-- the last 64
abbrev pub newest : List KeptReply → List KeptReply
newest list = drop (length list - 64) list

-- What is kept after one more: it takes the place of an older one under its xid, and of more than 64 the oldest goes.
abbrev pub keeps : KeptReply → List KeptReply → List KeptReply
keeps new old = newest (under_others new.xid old ++ new ∷ [])
