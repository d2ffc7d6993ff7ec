-- When a call is executed: between a record that was sent and the reply that is taken.
use Rattle.std.proofs.Common.{◌≡◌, ◌<◌, ◌≤◌, ℕ, List, ◌⊎◌, inl, inr, subst, arith}
use Rattle.std.proofs.lemmas.Bool.{cases_lt}
use Rattle.rpc_message.proofs.CallLaws.{call_xid}
use Rattle.world_model.specs.declared.entry.Entry.{Entry}
use Rattle.world_model.specs.declared.entry.Entry.TheVariants.{Executed}
use Rattle.world_model.specs.declared.message.Call.{Call}
use Rattle.world_model.specs.declared.message.Reply.{Reply}
use Rattle.world_model.specs.Entries.{At}
use Rattle.world_model.specs.History.{History}
use Rattle.world_model.specs.Lawful.{Lawful, WasSent}
use Rattle.world_model.specs.Messages.{HasXid, SpellsCall, head_of}
use Rattle.world_model.specs.Once.{Once}
use Rattle.world_model.specs.Waiting.{Waits, Answers}
use Rattle.law_calls.specs.Calls.{Numbered, Waiting, Between}

-- the first word of a call that is spelled
pub xid_of_call : (x : ℕ) (call : Call) (b : List ℕ) → SpellsCall x call b → HasXid b x
xid_of_call x call b s = call_xid (head_of x call) s.args b s.head

-- a call that is executed was sent
pub was_sent : (t : History) → Lawful t → (n xid : ℕ) (call : Call) (reply : Reply) → At t.entries n (Executed xid call reply) → WasSent t.entries n xid call
was_sent t lawful n xid call reply at = (lawful.entries n (Executed xid call reply) at).0

pub waiting : (t : History) → Lawful t → Once t.entries → Numbered t.entries → (n xid : ℕ) (call : Call) (reply : Reply) → At t.entries n (Executed xid call reply) → Waiting t.entries n xid call
waiting t lawful once numbered n xid call reply at =
    let s = was_sent t lawful n xid call reply at in
    let under : HasXid s.bytes xid = xid_of_call xid call s.bytes s.spells in
    record {
      waits = record {
        at = s.at;
        bytes = s.bytes;
        sent = s.sent;
        under = under;
        before = s.before;
        unanswered = λ j b got has after before. let late : n < j = once j n xid b call reply got has at in absurd (omega (arith, late, before));
      };
      is = λ i b sent has. subst (λ c. SpellsCall xid call c) (numbered.equal s.at i xid s.bytes b s.sent sent under has) s.spells;
      unheard = λ j b got has. once j n xid b call reply got has at;
    }

pub between : (t : History) → Lawful t → Once t.entries → (n g xid : ℕ) (call : Call) (reply : Reply) (bytes : List ℕ) → At t.entries n (Executed xid call reply) → Answers t.entries g xid bytes → Between t.entries n g xid
between t lawful once n g xid call reply bytes at a =
    let s = was_sent t lawful n xid call reply at in
    record {
      at = s.at;
      bytes = s.bytes;
      sent = s.sent;
      under = xid_of_call xid call s.bytes s.spells;
      after = s.before;
      before = once g n xid bytes call reply a.got a.under at;
    }

-- after it was answered an xid doesn't wait
pub idle : (h : List Entry) → Numbered h → (g n xid : ℕ) (a : List ℕ) → Answers h g xid a → g < n → Waits h xid n → ⊥
idle h numbered g n xid a answers lt w = w.unanswered g a answers.got answers.under (numbered.unrepeated g w.at xid a w.bytes answers w.sent w.under) lt

pub again : (h : List Entry) → Numbered h → (g n xid : ℕ) (a b : List ℕ) → Answers h g xid a → Answers h n xid b → g ≡ n
again h numbered g n xid a b first second = by (cases_lt g n) (cases_lt n g)
  where
    by : (g < n) ⊎ (n ≤ g) → (n < g) ⊎ (g ≤ n) → g ≡ n
    by (inl lt) o = absurd (idle h numbered g n xid a first lt second.waits)
    by (inr le) (inl lt) = absurd (idle h numbered n g xid b second lt first.waits)
    by (inr le) (inr ge) = omega (arith, le, ge)
