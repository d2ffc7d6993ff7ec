-- What an operation shows that is refused.
use Rattle.std.specs.Prelude.{◌≡◌, ◌≢◌, ◌≤◌, ℕ, List}
use Rattle.nfs_types.specs.declared.mode.Mode.TheVariants as modes
use Rattle.world_model.specs.declared.answer.Answer.TheVariants.{Refused}
use Rattle.world_model.specs.declared.answer.Fault.{Fault}
use Rattle.world_model.specs.declared.answer.Fault.TheVariants as faults
use Rattle.world_model.specs.declared.entry.Entry.{Entry}
use Rattle.world_model.specs.declared.message.Call.{Call}
use Rattle.world_model.specs.declared.op.Op.{Op}
use Rattle.world_model.specs.declared.op.Op.TheVariants as ops
use Rattle.claims.specs.GoesOn.{GoesOn}
use Rattle.world_model.specs.Operations.{Ended}
use Rattle.claims.specs.PageRules.{RefusedSo}
use Rattle.claims.specs.RefusalRows.{IsLastRemove, RefusedBy}
use Rattle.claims.specs.Terms.{Terms, jukebox}
use Rattle.op_machines.specs.declared.begun.Mounted.{Mounted}
use Rattle.op_machines.specs.Begun.{IsAsked}
use Rattle.client_core.specs.declared.setup.Setup.{Setup}
use Rattle.client_core.specs.View.{View}
use Rattle.core_facts.specs.Naming.{KnowsRoot}
use Rattle.core_facts.specs.SlotAnswers.{GoesWith}
use Rattle.core_answers.specs.refusals.Asked.{AskedOr}

-- A session with these terms goes with the history: its root was known as operations began, and it asks anew, and for as many bytes of a READ, as they say.
pub record GoesSo (m : Mounted) (terms : Terms) (setup : Setup) (h : List Entry) (v : View) : Type 0 where
  pub goes : GoesWith m terms setup h v
  pub noac : m.noac ≡ terms.modes.noac
  pub some : 1 ≤ m.rsize
  pub known : KnowsRoot terms.origin h m.root

-- an operation that may go on from NFS3ERR_NOENT, 2: an open that may make its file, and a remove
abbrev pub MayMiss : Op → Type 0
MayMiss (ops.OpenFile slot modes.C path) = Unit {0}
MayMiss (ops.Remove path) = Unit {0}
MayMiss op = ⊥

-- A status from which no operation goes on: neither NFS3ERR_JUKEBOX nor, of these, NFS3ERR_NOENT (RFC 1813, section 2.6); a refusal by RPC (RFC 5531,
-- section 9); or a rule that was broken.
abbrev pub IsFinal : Op → Fault → Type 0
IsFinal op (faults.Nfs n) = (n ≢ jukebox) × (MayMiss op → n ≢ 2)
IsFinal op (faults.Rpc n) = Unit {0}
IsFinal op (faults.Bad n) = Unit {0}
IsFinal op fault = ⊥

-- A record refused so a call that was sent for the operation, and for which it asks, as far as that is known; and it isn't the REMOVE of a last close, nor does
-- the operation go on from that.
pub record RefusedFor (terms : Terms) (h : List Entry) (x y : ℕ) (op : Op) (fault : Fault) : Type 0 where
  pub call : Call
  pub refused : RefusedSo h x y call fault
  pub asks : AskedOr terms h x refused.heard.sent_at op call
  pub last : IsLastRemove op call → ⊥
  pub ends : (n : ℕ) → fault ≡ faults.Nfs n → GoesOn terms h x refused.heard.got_at op call n → ⊥

abbrev pub RefusalsOwned : Type 0
RefusalsOwned = (m : Mounted) (terms : Terms) (setup : Setup) (h : List Entry) (v : View) → GoesSo m terms setup h v
    → (lane x y : ℕ) (op : Op) (fault : Fault) → IsAsked op → IsFinal op fault → Ended h lane x op y (Refused fault) → RefusedFor terms h x y op fault

-- an operation that neither makes room nor hides a file
abbrev pub AsksPlainly : Op → Type 0
AsksPlainly (ops.Write slot offset bytes) = ⊥
AsksPlainly (ops.Fill slot offset count byte) = ⊥
AsksPlainly (ops.Put path offset bytes) = ⊥
AsksPlainly (ops.Remove path) = ⊥
AsksPlainly op = Unit {0}

-- Of all operations but writes, fills, puts and removes, the whole row.
abbrev pub RefusalsRowed : Type 0
RefusalsRowed = (m : Mounted) (terms : Terms) (setup : Setup) (h : List Entry) (v : View) → GoesSo m terms setup h v
    → (lane x y : ℕ) (op : Op) (fault : Fault) → IsAsked op → AsksPlainly op → IsFinal op fault
    → Ended h lane x op y (Refused fault) → RefusedBy terms h x y op fault
