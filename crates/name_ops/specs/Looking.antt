-- LOOKUP (RFC 1813, section 3.3.3): the call, what its reply tells, and what is learnt of it.
use Rattle.std.specs.Prelude.{◌≡◌, ℕ, Bool, List, Result, Ok, Err}
use Rattle.attr_cache.specs.Attrs.{Attrs}
use Rattle.name_cache.specs.Names as names
use Rattle.nfs_dir_calls.specs.declared.call.DirCall.TheVariants as dirs
use Rattle.nfs_dir_calls.specs.declared.keeping.DirKept.TheVariants as kept
use Rattle.world_model.specs.declared.answer.Fault.{Fault}
use Rattle.world_model.specs.declared.answer.Fault.TheVariants.{Nfs, Bad}
use Rattle.world_model.specs.declared.message.Call.{Call}
use Rattle.world_model.specs.declared.message.Call.TheVariants as calls
use Rattle.world_model.specs.declared.message.Reply.{Reply}
use Rattle.world_model.specs.declared.message.Reply.TheVariants.{Dir}
use Rattle.client_shelf.specs.declared.turn.Turn.{Turn}
use Rattle.client_shelf.specs.declared.shelf.Shelf.{Shelf}
use Rattle.client_shelf.specs.Busy.{fails_busy, goes_again, repeats_after}
use Rattle.client_shelf.specs.Learning.{Learns, LearnsThen, LearnsName}

-- the call that looks for a name in a directory
abbrev pub look_up : List ℕ → List ℕ → Call
look_up dir name = calls.Dir (dirs.Lookup dir name)

-- the object that was found; a reply that doesn't fit the call is answered badly
abbrev pub found_by : Result Reply Fault → Result (List ℕ) Fault
found_by (Ok (Dir (kept.Lookup found attr dir))) = Ok found
found_by (Ok (Dir (kept.LookupFail status dir))) = Err (Nfs status.0)
found_by (Ok reply) = Err (Bad 2)
found_by (Err fault) = Err fault

-- The attributes of what was found are learnt, and those of the directory, also of a reply that refuses.
abbrev pub LookedAttrs : List ℕ → ℕ → Result Reply Fault → Attrs → Attrs → Type 0
LookedAttrs dir now (Ok (Dir (kept.Lookup found attr dir_attr))) old new = LearnsThen found attr now (Learns dir dir_attr now) old new
LookedAttrs dir now (Ok (Dir (kept.LookupFail status dir_attr))) old new = Learns dir dir_attr now old new
LookedAttrs dir now reply old new = new ≡ old

-- and the name
abbrev pub LookedNames : List ℕ → List ℕ → Result Reply Fault → names.Entries → names.Entries → Type 0
LookedNames dir name (Ok (Dir (kept.Lookup found attr dir_attr))) old new = LearnsName dir name dir_attr found old new
LookedNames dir name reply old new = new ≡ old

-- whether the same LOOKUP is made again
abbrev pub look_again : Turn → Turn → Result Reply Fault → Shelf → Bool
look_again sent turn came shelf = goes_again (fails_busy (found_by came)) sent turn shelf.repeats

-- the shelf once a reply to the LOOKUP of a name was learnt of
pub record Hears (dir name : List ℕ) (sent turn : Turn) (came : Result Reply Fault) (old heard : Shelf) : Type 0 where
  pub attrs : LookedAttrs dir sent.now came old.attrs heard.attrs
  pub names : LookedNames dir name came old.names heard.names
  pub others : heard ≡ record old { attrs = heard.attrs; names = heard.names; repeats = repeats_after (fails_busy (found_by came)) sent turn old.repeats }
