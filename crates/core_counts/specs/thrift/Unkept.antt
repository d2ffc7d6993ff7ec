-- For which pages READs are sent if all operations are of one lane (RFC 1813, section 3.3.6).
use Rattle.std.specs.Prelude.{◌≡◌, ◌++◌, ℕ, List, length, None}
use Rattle.page_cache.specs.Pages.{page_of}
use Rattle.world_model.specs.declared.entry.Entry.{Entry}
use Rattle.world_model.specs.declared.entry.Entry.TheVariants.{Sent}
use Rattle.world_model.specs.declared.op.Op.{Op}
use Rattle.world_model.specs.Entries.{At}
use Rattle.world_model.specs.Messages.{SpellsCall}
use Rattle.claims.specs.Terms.{Terms}
use Rattle.claims.specs.Thrifty.{read_call, MeetsPage, OneLane}
use Rattle.op_machines.specs.declared.begun.Mounted.{Mounted}
use Rattle.op_machines.specs.Begun.{machine_of}
use Rattle.op_machines.specs.declared.machine.Machine.{Machine}
use Rattle.client_core.specs.declared.setup.Setup.{Setup}
use Rattle.client_core.specs.View.{View}
use Rattle.core_facts.specs.Reaches.{Reaches}
use Rattle.core_session.specs.calls.Whole.{GoesFrom}

-- In the view that goes with the history before the place i none of the pages is kept that bytes of the file meet.
pub record IsUnkeptThen (machine_of : ℕ → Op → Machine) (setup : Setup) (h : List Entry) (i : ℕ) (f : List ℕ) (offset count : ℕ) : Type 0 where
  pub before : List Entry
  pub after : List Entry
  pub is : h ≡ before ++ after
  pub there : length before ≡ i
  pub view : View
  pub reached : Reaches machine_of setup before view
  pub none : (index : ℕ) → MeetsPage offset count index → page_of f index view.shelf.pages ≡ None

-- So it is at each READ that is sent.
abbrev pub UnkeptAsked : Type 0
UnkeptAsked = (m : Mounted) (terms : Terms) (setup : Setup) (before h : List Entry) (v : View) → GoesFrom m terms setup before h v → OneLane h
    → (i xid offset count : ℕ) (f bytes : List ℕ) → At h i (Sent bytes) → SpellsCall xid (read_call f offset count) bytes
    → IsUnkeptThen (machine_of m) setup h i f offset count
