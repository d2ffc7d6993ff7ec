-- Which attributes an object had, by what the client keeps or a stat shows, if the server is honest (RFC 1813, section 2.6: post_op_attr, wcc_data).
use Rattle.std.specs.Prelude.{◌≡◌, ◌≤◌, ℕ, List, length, Some}
use Rattle.attr_cache.specs.declared.kept.KeptAttr.{KeptAttr}
use Rattle.attr_cache.specs.Attrs.{kept_of}
use Rattle.nfs_types.specs.declared.attr.Attr.{Attr}
use Rattle.world_model.specs.declared.answer.Answer.TheVariants.{Done}
use Rattle.world_model.specs.declared.answer.Value.TheVariants.{Attrs}
use Rattle.world_model.specs.declared.op.Op.TheVariants.{Stat}
use Rattle.world_model.specs.History.{History}
use Rattle.world_model.specs.Lawful.{Lawful}
use Rattle.world_model.specs.Operations.{Ended}
use Rattle.world_model.specs.Server.{Object}
use Rattle.op_machines.specs.Begun.{machine_of}
use Rattle.op_machines.specs.declared.begun.Mounted.{Mounted}
use Rattle.client_core.specs.declared.setup.Setup.{Setup}
use Rattle.client_core.specs.View.{View}
use Rattle.core_facts.specs.Reaches.{Reaches}
use Rattle.core_answers.specs.bonds.Ages.{IsRecent}
use Rattle.core_answers.specs.bonds.Kept.{HadShown, LastAtMost}

-- at the moment n the object had these attributes
pub record HasAttr (t : History) (n : ℕ) (object : List ℕ) (attr : Attr) : Type 0 where
  pub o : Object
  pub is : (t.at n).object object ≡ Some o
  pub had : o.attr ≡ attr

-- The object had these attributes at a moment after the clock showed the time that is kept with them.
pub record HadKept (t : History) (file : List ℕ) (kept : KeptAttr) : Type 0 where
  pub n : ℕ
  pub timed : HadShown t.entries n kept.sent_at
  pub soon : n ≤ length t.entries
  pub has : HasAttr t n file kept.attr

-- All attributes that the client keeps are so.
abbrev pub AttrsTrue : Type 0
AttrsTrue = (m : Mounted) (setup : Setup) (most : ℕ) (t : History) (v : View) → LastAtMost setup.lives most → Lawful t
    → Reaches (machine_of m) setup t.entries v
    → (file : List ℕ) (kept : KeptAttr) → kept_of file v.shelf.attrs ≡ Some kept → HadKept t file kept

-- An object had these attributes at a moment before the place y that is recent for the operation at the place x.
pub record HadRecently (t : History) (most x y : ℕ) (attr : Attr) : Type 0 where
  pub object : List ℕ
  pub n : ℕ
  pub recent : IsRecent t.entries most x n
  pub soon : n ≤ y
  pub has : HasAttr t n object attr

-- The attributes that a stat shows are so. (That the object is the one to which its path leads isn't said.)
abbrev pub StatsTrue : Type 0
StatsTrue = (m : Mounted) (setup : Setup) (most : ℕ) (t : History) (v : View) → LastAtMost setup.lives most → Lawful t
    → Reaches (machine_of m) setup t.entries v
    → (lane x y : ℕ) (path : List (List ℕ)) (attr : Attr) → Ended t.entries lane x (Stat path) y (Done (Attrs attr)) → HadRecently t most x y attr
