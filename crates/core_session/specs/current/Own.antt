-- What is pending in this client is in the answers of its reads (RFC 1813, section 3.3.6; nfs(5), close-to-open).
use Rattle.std.specs.Prelude.{◌≡◌, ℕ, true, List, take}
use Rattle.world_model.specs.declared.entry.Entry.{Entry}
use Rattle.claims.specs.ReadTrue.{ReadsBytes}
use Rattle.claims.specs.Terms.{Terms}
use Rattle.op_machines.specs.Begun.{machine_of}
use Rattle.op_machines.specs.declared.begun.Mounted.{Mounted}
use Rattle.client_core.specs.declared.setup.Setup.{Setup}
use Rattle.client_core.specs.View.{View}
use Rattle.core_facts.specs.SlotAnswers.{GoesWith}
use Rattle.core_answers.specs.bonds.Kept.{LastAtMost}
use Rattle.core_session.specs.current.Read.{OwnShown}

-- Of a read that succeeds, by the history until then: what is pending of its range as it ends is in its answer. So is what was pending as it began, if nothing
-- is pending at the end. (That a byte which was written before is still pending then isn't said.)
abbrev pub PendingRead : Type 0
PendingRead = (m : Mounted) (terms : Terms) (setup : Setup) (h : List Entry) (v : View) → GoesWith m terms setup h v → m.noac ≡ terms.modes.noac
    → (terms.modes.nocto ≡ true → LastAtMost setup.lives terms.modes.longest)
    → (x y o : ℕ) (file : List ℕ) (offset count : ℕ) (bytes : List ℕ)
    → ReadsBytes terms.modes h x y o file offset count bytes → OwnShown (machine_of m) setup (take y h) x file offset count bytes
