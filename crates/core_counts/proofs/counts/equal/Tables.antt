-- Whether a call is made again, by the table of such calls, of any operation.
use Rattle.core_counts.proofs.Prelude.{◌≡◌, ◌≤◌, ◌⊎◌, inl, inr, ℕ, Bool, true, false, List, [], Result, Ok, Err, refl, sym, subst, ◌∙◌, Fault, Entry, Call, Reply, Step, Repeat, Shelf, Turn, goes_again, ended, repeated, Machine, Takes, in_flight, machine-fits, Calm, took-any}
use Rattle.world_model.specs.declared.answer.Fault.TheVariants as faults
use Rattle.claims.specs.Terms.{jukebox}
use Rattle.client_shelf.specs.declared.step.Step.TheVariants as nexts
use Rattle.core_answers.proofs.answers.SaveFaults.{CallFaults}
use Rattle.core_answers.proofs.refusals.Replied.{Given}
use Rattle.core_session.proofs.delays.Delays.{Off, off-own, off-given, off-evident}
use Rattle.core_session.proofs.delays.Took.{Took}
use Rattle.core_counts.proofs.counts.engine.Laws.{Came, told, unmade, IsUnmadeFault}
use Rattle.core_counts.proofs.counts.listed.Laws.{table-again}

abbrev pub Tabled : Turn → Turn → List Repeat → Step → List Repeat → Type 0
Tabled sent turn old next later = ((call : Call) × (next ≡ nexts.Send call) × (later ≡ repeated sent.xid turn.xid old)) ⊎ (later ≡ ended sent.xid old)

tabled-by : (P : Fault → Type 0) (sent turn : Turn) (old later : List Repeat) (next : Step) (call : Call) (C : Type 0) → Took P sent turn old later (next ≡ nexts.Send call) C → Tabled sent turn old next later
tabled-by P sent turn old later next call C t = by (goes_again t.busy sent turn old) refl
  where
    by : (b : Bool) → goes_again t.busy sent turn old ≡ b → Tabled sent turn old next later
    by true is = inl (call, t.again is, table-again true t.busy sent turn old later is t.later_is)
    by false is = inr (table-again false t.busy sent turn old later is t.later_is)

err-ok : (R : Type 0) (fault : Fault) (reply : Reply) → ◌≡◌ {A = Result Reply Fault} (Err fault) (Ok reply) → R
err-ok R fault reply e = absurd (cc)

one-fault : (a b : Fault) → ◌≡◌ {A = Result Reply Fault} (Err a) (Err b) → a ≡ b
one-fault a b e = cc

abbrev NotOff : Fault → Type 0
NotOff fault = fault ≡ faults.Nfs jukebox → ⊥

not-own : CallFaults NotOff
not-own = record { memory = λ same. absurd (cc) }

none-off : (fault : Fault) → IsUnmadeFault fault → fault ≡ faults.Nfs jukebox → ⊥
none-off faults.Spent u same = absurd (cc)
none-off faults.Memory u same = absurd (cc)
none-off faults.Lost u same = absurd u
none-off (faults.Nfs status) u same = absurd u
none-off (faults.Rpc n) u same = absurd u
none-off (faults.Bad rule) u same = absurd u
none-off faults.Slot u same = absurd u
none-off faults.Mode u same = absurd u
none-off faults.Kind u same = absurd u
none-off faults.Many u same = absurd u

pub tabled : (h : List Entry) (x : ℕ) (machine : Machine) (wsize : ℕ) (sent turn : Turn) (came : Result Reply Fault) (old : Shelf) (next : Step) (new : Machine) (after : Shelf) → 1 ≤ in_flight machine
    → Came h x machine sent came old → Takes wsize machine sent turn came old next new after → Tabled sent turn old.repeats next after.repeats
tabled h x machine wsize sent turn came old next new after some (told call xid rec now e said sent_is piece) t =
    tabled-by (Off xid call rec) sent turn old.repeats after.repeats next call (Calm (λ (fault : Fault). Unit {0}) (record { memory = tt }) came next machine)
    (took-any (Off xid call rec) (off-own xid call rec) sent turn came call (off-evident xid call rec came said) (λ (fault : Fault). Unit {0}) (record { memory = tt }) (λ fault same. tt) machine wsize old next new
    after some e.0 e.1 piece
    (machine-fits (Off xid call rec) (off-own xid call rec) xid rec call came (off-given xid call rec came said) sent old.back piece machine e.0 e.1 (λ opens same. absurd (cc)) (λ lists same. absurd (cc))) t)
tabled h x machine wsize sent turn came old next new after some (unmade call fault e came_is why) t =
    tabled-by NotOff sent turn old.repeats after.repeats next call (Calm (λ (f : Fault). Unit {0}) (record { memory = tt }) came next machine)
    (took-any NotOff not-own sent turn came call (λ off. err-ok _ fault off.reply (sym came_is ∙ off.is)) (λ (f : Fault). Unit {0}) (record { memory = tt }) (λ f same. tt) machine wsize old next new after some e.0 e.1
    (λ reply same. err-ok _ fault reply (sym came_is ∙ same))
    (machine-fits NotOff not-own 0 [] call came given sent old.back (λ reply same. err-ok _ fault reply (sym came_is ∙ same)) machine e.0 e.1 (λ opens same. absurd (cc)) (λ lists same. absurd (cc))) t)
  where
    given : Given NotOff not-own 0 [] call came
    given = record {
      ok = λ reply same. err-ok _ fault reply (sym came_is ∙ same);
      err = λ its same. subst NotOff (one-fault fault its (sym came_is ∙ same)) (none-off fault why);
      give = λ reply same. err-ok _ fault reply (sym came_is ∙ same);
    }
