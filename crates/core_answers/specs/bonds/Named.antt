-- What the client keeps of names, and what it may believe by that (RFC 1813, sections 2.6 and 3.3.3).
use Rattle.std.specs.Prelude.{◌≡◌, ◌≤◌, ℕ, List, length, Option, Some}
use Rattle.attr_cache.specs.declared.kept.KeptAttr.{KeptAttr}
use Rattle.attr_cache.specs.Attrs as attrs
use Rattle.name_cache.specs.declared.entry.KeptName.{KeptName}
use Rattle.name_cache.specs.declared.entry.Place.{Place}
use Rattle.name_cache.specs.Names as names
use Rattle.nfs_types.specs.declared.attr.Attr.{Attr}
use Rattle.nfs_types.specs.Stamps.{stamp_of}
use Rattle.nfs_dir_calls.specs.declared.keeping.DirKept.TheVariants.{Lookup}
use Rattle.world_model.specs.declared.entry.Entry.{Entry}
use Rattle.world_model.specs.declared.message.Reply.TheVariants.{Dir}
use Rattle.world_model.specs.Fresh.{Fresh}
use Rattle.world_model.specs.History.{History}
use Rattle.world_model.specs.Lawful.{Lawful}
use Rattle.world_model.specs.Server.{Names, Object}
use Rattle.name_ops.specs.Looking.{look_up}
use Rattle.op_machines.specs.Begun.{machine_of}
use Rattle.op_machines.specs.declared.begun.Mounted.{Mounted}
use Rattle.client_core.specs.declared.setup.Setup.{Setup}
use Rattle.client_core.specs.View.{View}
use Rattle.core_facts.specs.Reaches.{Reaches}
use Rattle.core_answers.specs.bonds.Kept.{HadShown, IsAnswered, LastAtMost}

-- A LOOKUP of the name was answered with the object, and with attributes of the directory; these have the stamp under which the name is kept.
pub record WasNamed (h : List Entry) (place : Place) (kept : KeptName) : Type 0 where
  pub attr : Option Attr
  pub dir_attr : Attr
  pub stamp : stamp_of dir_attr ≡ kept.stamp
  pub answered : IsAnswered h 0 (length h) (look_up place.dir place.name) (Dir (Lookup kept.found attr (Some dir_attr)))

-- All names that the client keeps are so.
abbrev pub NamesShown : Type 0
NamesShown = (m : Mounted) (setup : Setup) (h : List Entry) (v : View) → Reaches (machine_of m) setup h v
    → (place : Place) (kept : KeptName) → names.kept_of place.dir place.name v.shelf.names ≡ Some kept → WasNamed h place kept

-- Each stands for its object at each moment at which the directory has that stamp.
abbrev pub NamesTrue : Type 0
NamesTrue = (m : Mounted) (setup : Setup) (t : History) (v : View) → Lawful t → Fresh t → Reaches (machine_of m) setup t.entries v
    → (place : Place) (kept : KeptName) → names.kept_of place.dir place.name v.shelf.names ≡ Some kept
    → (n : ℕ) → n ≤ length t.entries → (o : Object) → (t.at n).object place.dir ≡ Some o → stamp_of o.attr ≡ kept.stamp → Names (t.at n) place.dir place.name kept.found

-- The name stood for the object at a moment after the clock showed this time.
pub record StoodAfter (t : History) (ms : ℕ) (dir name found : List ℕ) : Type 0 where
  pub n : ℕ
  pub timed : HadShown t.entries n ms
  pub soon : n ≤ length t.entries
  pub names : Names (t.at n) dir name found

-- What a name stands for by the attributes that are kept of its directory, it stood for after the time that is kept with them.
abbrev pub NamesStood : Type 0
NamesStood = (m : Mounted) (setup : Setup) (most : ℕ) (t : History) (v : View) → LastAtMost setup.lives most → Lawful t → Fresh t → Reaches (machine_of m) setup t.entries v
    → (dir name found : List ℕ) (kept : KeptAttr) → attrs.kept_of dir v.shelf.attrs ≡ Some kept → names.looked dir name (stamp_of kept.attr) v.shelf.names ≡ Some found
    → StoodAfter t kept.sent_at dir name found
