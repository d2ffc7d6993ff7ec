-- What a session goes by once it is set up, as each of its operations begins.
use Rattle.std.specs.Prelude.{◌≡◌, ◌≤◌, ℕ, List}
use Rattle.world_model.specs.declared.entry.Entry.{Entry}
use Rattle.world_model.specs.declared.entry.Entry.TheVariants.{Began}
use Rattle.world_model.specs.declared.op.Op.{Op}
use Rattle.world_model.specs.Entries.{At}
use Rattle.world_model.specs.Mounts.{Sized}
use Rattle.world_model.specs.ReadSize.{ReadSized}
use Rattle.claims.specs.Terms.{Terms}
use Rattle.op_machines.specs.declared.begun.Mounted.{Mounted}
use Rattle.op_machines.specs.Begun.{IsAsked}
use Rattle.client_core.specs.declared.setup.Setup.{Setup}
use Rattle.client_core.specs.View.{View}
use Rattle.core_facts.specs.Naming.{KnowsRoot}
use Rattle.core_facts.specs.SlotAnswers.{GoesWith}

-- The sizes of READ and WRITE were told, or weren't, when each operation began (RFC 1813, section 3.3.19).
abbrev pub KnowsSizes : Terms → Mounted → Setup → List Entry → Type 0
KnowsSizes terms m setup h = (x lane line : ℕ) (op : Op) → At h x (Began lane line op)
    → ReadSized h x m.root terms.rsize m.rsize × Sized h x m.root terms.wsize setup.wsize

-- each operation that began is one of a script
abbrev pub AreAsked : List Entry → Type 0
AreAsked h = (x lane line : ℕ) (op : Op) → At h x (Began lane line op) → IsAsked op

-- A core goes with the history, as the terms are; the root and the sizes were known as each operation began.
pub record IsSession (m : Mounted) (terms : Terms) (setup : Setup) (h : List Entry) (v : View) : Type 0 where
  pub goes : GoesWith m terms setup h v
  pub noac : m.noac ≡ terms.modes.noac
  pub some : 1 ≤ m.rsize
  pub cred : setup.cred ≡ terms.cred
  pub root : KnowsRoot terms.origin h m.root
  pub sizes : KnowsSizes terms m setup h
  pub asked : AreAsked h
