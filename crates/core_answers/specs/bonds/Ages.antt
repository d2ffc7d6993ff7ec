-- How old the attributes are that a stat shows (nfs(5), acregmax and acdirmax).
use Rattle.std.specs.Prelude.{◌<◌, ◌+◌, ℕ, List, [], ◌∷◌, max, take}
use Rattle.nfs_types.specs.declared.attr.Attr.{Attr}
use Rattle.world_model.specs.declared.answer.Answer.TheVariants.{Done}
use Rattle.world_model.specs.declared.answer.Value.TheVariants.{Attrs}
use Rattle.world_model.specs.declared.entry.Entry.{Entry}
use Rattle.world_model.specs.declared.entry.Entry.TheVariants.{Began, Clock}
use Rattle.world_model.specs.declared.message.Call.{Call}
use Rattle.world_model.specs.declared.message.Reply.{Reply}
use Rattle.world_model.specs.declared.op.Op.TheVariants.{Stat}
use Rattle.world_model.specs.Operations.{Ended}
use Rattle.claims.specs.Shown.{ShowsAttr}
use Rattle.op_machines.specs.Begun.{machine_of}
use Rattle.op_machines.specs.declared.begun.Mounted.{Mounted}
use Rattle.client_core.specs.declared.setup.Setup.{Setup}
use Rattle.client_core.specs.View.{View}
use Rattle.core_facts.specs.Reaches.{Reaches, last_reading}
use Rattle.core_answers.specs.bonds.Kept.{HadShown, IsAnswered, LastAtMost}

-- the last reading of the clock after an entry
abbrev pub read_by : Entry → ℕ → ℕ
read_by (Clock ms) last = ms
read_by e last = last

-- the time after an entry: an operation begins at the last reading, but never before an earlier one
abbrev pub timed_by : Entry → ℕ → ℕ → ℕ
timed_by (Began lane line op) time last = max time last
timed_by e time last = time

-- the greatest of the readings at which operations began, and of the time before
abbrev pub time_from : ℕ → ℕ → List Entry → ℕ
time_from time last [] = time
time_from time last (e ∷ es) = time_from (timed_by e time last) (read_by e last) es

abbrev pub time_of : List Entry → ℕ
time_of h = time_from 0 0 h

-- the same with an operation that begins next
abbrev pub time_next : List Entry → ℕ
time_next h = max (time_of h) (last_reading 0 h)

-- the time at which the operation at a place began: the greatest reading at which one began until then
abbrev pub began_at : List Entry → ℕ → ℕ
began_at h x = time_next (take x h)

-- The place n is recent for the operation at the place x: it lies after that began; or the clock had shown a time by then that was less than so many
-- milliseconds before the operation's own.
pub data IsRecent (h : List Entry) (most x n : ℕ) : Type 0 where
  own : x < n → IsRecent h most x n
  young : (ms : ℕ) → HadShown h n ms → began_at h x < ms + most → IsRecent h most x n

-- A reply that came before the place y showed these attributes of an object. Its call was first sent at a recent place or later.
pub record ShownRecently (h : List Entry) (most x y : ℕ) (attr : Attr) : Type 0 where
  pub object : List ℕ
  pub call : Call
  pub reply : Reply
  pub since : ℕ
  pub recent : IsRecent h most x since
  pub answered : IsAnswered h since y call reply
  pub shows : ShowsAttr call reply object attr

-- The attributes that a stat shows are so. (That the object is the one to which its path leads isn't said.)
abbrev pub StatsRecent : Type 0
StatsRecent = (m : Mounted) (setup : Setup) (most : ℕ) (h : List Entry) (v : View) → LastAtMost setup.lives most → Reaches (machine_of m) setup h v
    → (lane x y : ℕ) (path : List (List ℕ)) (attr : Attr) → Ended h lane x (Stat path) y (Done (Attrs attr)) → ShownRecently h most x y attr
