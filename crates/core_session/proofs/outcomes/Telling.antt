-- What came of a call that a machine waited for: a reply, the last record, or why there is none.
use Rattle.core_session.proofs.Prelude.{◌≡◌, ◌<◌, ◌+◌, ℕ, List, length, Result, Ok, Err, sym, subst, ◌∙◌, arith, Fault, Entry, Call, Reply, Op, SpellsReply, Says, Shelf, Turn, Machine, IsTold, IsUnmadeFault, CameOf, heard_of, unmade}
use Rattle.core_facts.proofs.Tales.{IsWhy, IsLastReply}
use Rattle.core_facts.proofs.Telling.{IsHeardNow}
use Rattle.core_answers.proofs.refusals.Answering.{Sight}
use Rattle.world_model.specs.declared.answer.Fault.TheVariants as faults
use Rattle.world_model.specs.Heard.{Refuses as IsRefusal, Heard as IsHeard}

last-reply : (h : List Entry) (x xid : ℕ) (call : Call) (reply : Reply) (bytes : List ℕ) (d : IsHeard h x (length h) call xid bytes) → x < d.sent_at → d.got_at + 1 ≡ length h
    → SpellsReply xid call reply bytes → IsLastReply h x call reply
last-reply h x xid call reply bytes d since end spells = record {
  asked = record { xid = xid; bytes = bytes; heard = d; spells = spells };
  ends = record {
    last = record {
      at = d.got_at;
      bytes = bytes;
      xid = xid;
      sent_at = d.sent_at;
      record_sent = d.record_sent;
      got = d.got.got;
      before = d.before;
      last = λ j b at within. omega (arith, end, within);
      under = d.got.under;
      sent = d.sent;
      spells = d.spells;
      asked = d.later;
    };
    within = since;
    waits = d.got.waits;
    spells = spells;
  };
}

why-refused : (h : List Entry) (x xid : ℕ) (call : Call) (bytes : List ℕ) (fault : Fault) → IsHeard h x (length h) call xid bytes → IsRefusal xid call bytes fault → IsWhy h x call fault
why-refused h x xid call bytes (faults.Nfs status) d r = record { xid = xid; bytes = bytes; heard = d; refuses = r }
why-refused h x xid call bytes (faults.Rpc n) d r = record { xid = xid; bytes = bytes; heard = d; refuses = r }
why-refused h x xid call bytes (faults.Bad rule) d r = record { xid = xid; bytes = bytes; heard = d; refuses = r }
why-refused h x xid call bytes faults.Spent d r = tt
why-refused h x xid call bytes faults.Memory d r = tt
why-refused h x xid call bytes faults.Lost d r = absurd r
why-refused h x xid call bytes faults.Slot d r = absurd r
why-refused h x xid call bytes faults.Mode d r = absurd r
why-refused h x xid call bytes faults.Kind d r = absurd r
why-refused h x xid call bytes faults.Many d r = absurd r

why-unmade : (h : List Entry) (x : ℕ) (call : Call) (fault : Fault) → IsUnmadeFault fault → IsWhy h x call fault
why-unmade h x call faults.Spent u = tt
why-unmade h x call faults.Memory u = tt
why-unmade h x call faults.Lost u = absurd u
why-unmade h x call (faults.Nfs status) u = absurd u
why-unmade h x call (faults.Rpc n) u = absurd u
why-unmade h x call (faults.Bad rule) u = absurd u
why-unmade h x call faults.Slot u = absurd u
why-unmade h x call faults.Mode u = absurd u
why-unmade h x call faults.Kind u = absurd u
why-unmade h x call faults.Many u = absurd u

one-fault : (a b : Fault) → ◌≡◌ {A = Result Reply Fault} (Err a) (Err b) → a ≡ b
one-fault a b e = cc

-- the record that came is the last one, and the reply that it spells
pub replied : (h : List Entry) (x : ℕ) (call : Call) (came : Result Reply Fault) → IsHeardNow h x call came → (reply : Reply) → came ≡ Ok reply → IsLastReply h x call reply
replied h x call came now reply is =
    last-reply h x now.xid call reply now.rec now.heard now.since now.end (subst (Says now.xid call now.rec) is now.says).is

-- or why there is no reply
pub refused-so : (h : List Entry) (x : ℕ) (call : Call) (came : Result Reply Fault) → IsHeardNow h x call came → (fault : Fault) → came ≡ Err fault → IsWhy h x call fault
refused-so h x call came now fault is = why-refused h x now.xid call now.rec fault now.heard (subst (Says now.xid call now.rec) is now.says)

-- as the tales of `core_facts` have it
pub told-so : (Q : Sight) (E : Machine → Call → Type 0) (W : List Entry → ℕ → Op → Call → Type 0) (h : List Entry) (x : ℕ) (op : Op) (machine : Machine) (sent : Turn)
    (came : Result Reply Fault) (shelf : Shelf) → ((call : Call) → E machine call → W h x op call) → CameOf Q E W h x op machine sent came shelf → IsTold E W h x op machine came
told-so Q E W h x op machine sent came shelf any (heard_of k) = record {
  call = k.call;
  expects = k.expects;
  asks = k.asks;
  heard = replied h x k.call came k.now;
  refused = refused-so h x k.call came k.now;
}
told-so Q E W h x op machine sent came shelf any (unmade call e fault is u) = record {
  call = call;
  expects = e;
  asks = any call e;
  heard = λ reply ok. absurd (let no_way : ◌≡◌ {A = Result Reply Fault} (Err fault) (Ok reply) = sym is ∙ ok in cc);
  refused = λ other same. why-unmade h x call other (subst IsUnmadeFault (one-fault fault other (sym is ∙ same)) u);
}
