-- Each record of a session goes to the port of its program: MNT in the set-up, and calls of NFS from FSINFO on.
use Rattle.std.proofs.Common.{◌≡◌, ◌≤◌, inl, inr, ℕ, suc, List, [], ◌∷◌, ◌++◌, length, Result, Ok, Err, refl, sym, ap, subst, ◌∙◌, arith}
use Rattle.nfs_types.specs.declared.program.TheConstants.{NFS_PROGRAM}
use Rattle.rpc_retry.specs.Held.{next_xid}
use Rattle.rpc_retry.proofs.Lookups.{at_sent}
use Rattle.world_model.specs.declared.entry.Entry.{Entry}
use Rattle.world_model.specs.declared.entry.Entry.TheVariants.{Began, Answered, Dialed, Sent, Executed, Foreign, Flushed, Reboot, Delivered, Failed, Clock}
use Rattle.world_model.specs.declared.message.Call.{Call}
use Rattle.world_model.specs.declared.message.Call.TheVariants as calls
use Rattle.world_model.specs.declared.tally.Tally.{Tally}
use Rattle.world_model.specs.Entries.{At, ours}
use Rattle.world_model.specs.Messages.{SpellsCall, program_of}
use Rattle.link_dials.specs.Dials.{IsDialOf, AreDialsOf, Dials}
use Rattle.link_dials.specs.Sendings.{port_for, GoesToPorts}
use Rattle.link_dials.proofs.Ports.{behind, ports-none, ports-then, sends-none, sends-over}
use Rattle.session_words.specs.declared.settings.Settings.{Settings}
use Rattle.op_machines.specs.Begun.{machine_of}
use Rattle.core_facts.specs.Notes.{IsAfterAnswers}
use Rattle.core_facts.proofs.Cases.{sent_now}
use Rattle.core_facts.proofs.Noting.{notes-reach, answers-first}
use Rattle.core_facts.proofs.Rows.{Rows, reached-rows}
use Rattle.session_setup.specs.declared.opening.SetUp.{SetUp}
use Rattle.session_setup.specs.declared.opening.SetUpFault.{SetUpFault}
use Rattle.session_setup.specs.declared.opening.SetUpFault.TheVariants.{Lost}
use Rattle.session_setup.specs.Outcomes.{SetsUp}
use Rattle.session_setup.proofs.Calls.{heads_same, same_program}
use Rattle.lane_session.specs.Bonds.{HasCore}
use Rattle.lane_session.specs.Running.{mounted_by}
use Rattle.script_runs.specs.declared.stock.Stock.{Stock}
use Rattle.script_runs.specs.Stock.{setup_with}
use Rattle.nfs_client.proofs.Hushed.{IsHushed, AreHushed}

-- a call of NFS goes to its port
nfs-port : (mount nfs : ℕ) (call : Call) → program_of call ≡ NFS_PROGRAM → port_for mount nfs call ≡ nfs
nfs-port mount nfs (calls.File call) is = refl
nfs-port mount nfs (calls.Dir call) is = refl
nfs-port mount nfs (calls.Mount call) is = absurd (omega (arith, is))

-- ---- a session that was set up

module _ (stock : Stock) (s : Settings) (first : ℕ) (v : SetUp) (before h : List Entry) (so : SetsUp s first (Ok v) before)
    (has : HasCore (mounted_by s (setup_with stock s v)) (setup_with stock s v) before h) where
  -- a record that the core sends is a call of NFS
  sent-nfs : (i xid : ℕ) (call : Call) (bytes : List ℕ) → SpellsCall xid call bytes → IsAfterAnswers (machine_of (mounted_by s (setup_with stock s v))) (setup_with stock s v) h i (Sent bytes)
      → program_of call ≡ NFS_PROGRAM
  sent-nfs i xid call bytes spells after =
      let n = sent_now after.old bytes after.new after.step in
      let rows : Rows (setup_with stock s v) after.before after.old = reached-rows (machine_of (mounted_by s (setup_with stock s v))) (setup_with stock s v) after.before after.old
      (notes-reach (machine_of (mounted_by s (setup_with stock s v))) (setup_with stock s v) after.before after.old after.notes) in
      let waits = at_sent after.old.calls.cred after.old.calls.first_xid (next_xid after.old.calls) n.xid after.old.calls.calls n.call rows.sound.calls.each n.due in
      let made = (rows.rows n.xid n.call waits.before).made in
      let spelled : SpellsCall n.xid made.asked bytes = subst (λ (b : List ℕ). SpellsCall n.xid made.asked b) (sym n.bytes_is) made.spells.spells in
      same_program _ _ (heads_same xid n.xid call made.asked bytes spells spelled) ∙ made.nfs

  goes-to-nfs : (i xid : ℕ) (call : Call) (bytes : List ℕ) → At h i (Sent bytes) → length before ≤ i → SpellsCall xid call bytes → port_for s.mount_port s.nfs_port call ≡ s.nfs_port
  goes-to-nfs i xid call bytes at late spells = elim (has.since i bytes at) [
    | inl early ↦ absurd (omega (arith, early, late))
    | inr begun ↦ (elim (answers-first (machine_of (mounted_by s (setup_with stock s v))) (setup_with stock s v) h has.core has.notes i (Sent bytes) at tt) [
      | inl none ↦ absurd (none begun.at begun.lane begun.line begun.op begun.began begun.before)
      | inr after ↦ nfs-port s.mount_port s.nfs_port call (sent-nfs i xid call bytes spells after)
    ])
  ]

  pub ready-ports : Dials s.nfs_port before h → GoesToPorts s.mount_port s.nfs_port h
  ready-ports dials = ports-then s.mount_port s.nfs_port before h so.ports (sends-over s.nfs_port before h so.served dials).0 goes-to-nfs

-- ---- a session that made no call of an operation

hushed-dials : (port : ℕ) (e : Entry) → IsHushed e → IsDialOf port e
hushed-dials port (Clock ms) l = tt
hushed-dials port (Began lane line op) l = tt
hushed-dials port (Answered lane line answer) l = tt
hushed-dials port (Dialed other) l = absurd l
hushed-dials port (Sent bytes) l = tt
hushed-dials port (Executed xid call reply) l = tt
hushed-dials port (Foreign call reply) l = tt
hushed-dials port (Flushed file from len) l = tt
hushed-dials port (Reboot verf) l = tt
hushed-dials port (Delivered bytes) l = tt
hushed-dials port Failed l = tt

all-dials : (port : ℕ) (more : List Entry) → AreHushed more → AreDialsOf port more
all-dials port [] each = tt
all-dials port (e ∷ more) each = (hushed-dials port e (each 0 e refl), all-dials port more (λ i d at. each (suc i) d at))

-- since the set-up nothing was dialed, sent or received
pub hushed-ports : (s : Settings) (first : ℕ) (result : Result SetUp SetUpFault) (before more h : List Entry) → SetsUp s first result before → h ≡ before ++ more → AreHushed more
    → GoesToPorts s.mount_port s.nfs_port h
hushed-ports s first result before more h so is each =
    ports-then s.mount_port s.nfs_port before h so.ports (sends-none s.nfs_port before h (record { more = more; is = is; only = all-dials s.nfs_port more each }) unsent)
    (λ i xid call bytes at late spells. absurd (unsent i bytes at late))
  where
    unsent : (i : ℕ) (bytes : List ℕ) → At h i (Sent bytes) → length before ≤ i → ⊥
    unsent i bytes at late =
        let b = behind before more i (Sent bytes) (subst (λ (l : List Entry). At l i (Sent bytes)) is at) late in
        each b.0 (Sent bytes) b.1

-- its lines were answered that it is lost
pub lost-ports : (s : Settings) (first : ℕ) (tally : Tally) (before more h : List Entry) → SetsUp s first (Err (Lost tally)) before → h ≡ before ++ more → AreHushed more
    → GoesToPorts s.mount_port s.nfs_port h
lost-ports s first tally before more h so is each = hushed-ports s first (Err (Lost tally)) before more h so is each

-- there were no lines
pub empty-ports : (s : Settings) (h : List Entry) → ours h ≡ [] → GoesToPorts s.mount_port s.nfs_port h
empty-ports s h none = ports-none s.mount_port s.nfs_port h none
