-- The call that a record answers, and the machine that waits for it, as in `current.Good` of core_session.
use Rattle.core_session.proofs.Prelude.{◌≡◌, false, ℕ, List, Some, option_map, slice_get, sym, ap, Waiting, waiting_at, Pending, Entry, Step, Mounted, Machine, machine_of, Purpose, Busy, Setup, View, Reaches, IsMade, begins-unbegun, reached-kept, ThenOf, IsSentAs, Both, both-asks}
use Rattle.client_shelf.specs.declared.step.Step.TheVariants as nexts
use Rattle.core_facts.proofs.Flown.{Flown, keeps-flown}
use Rattle.core_answers.proofs.pages.Keeping as keeping
use Rattle.core_answers.proofs.pages.PiecesCalled.{called-sent}

no-story : (next : Step) (new : Machine) → ThenOf (λ k. Unit {0}) (λ a. Unit {0}) next new
no-story (nexts.Send call) new = tt
no-story nexts.Wait new = tt
no-story (nexts.Done answer) new = tt

-- of the shelf and the operations nothing is said
none-laws : (m : Mounted) (setup : Setup) → keeping.BondLaws (machine_of m) setup Both (λ h lane shelf. Unit {0}) (λ h shelf. Unit {0}) (λ h x op state. Unit {0})
none-laws m setup = record {
  starts = λ h lane line op wsize turn old next new after given passed g late s. record { kept = tt; then_ = no-story next new };
  resumes = λ h x op machine wsize turn old next new after g passed within late story r. record { kept = tt; then_ = no-story next new };
  takes = λ h x op machine call wsize sent turn came old next new after g within late story on told t. record { kept = tt; then_ = no-story next new };
  still = λ h e shelf g. tt;
  grows = λ h e x op state story. tt;
  lost = λ h x op l. tt;
}

-- The call that waits is one that the lane's machine waits for, and what is in flight under its xid is what it writes.
pub record Mine (setup : Setup) (h : List Entry) (xid : ℕ) (call : Waiting Purpose) (machine : Machine) (back : Pending) : Type 0 where
  pub made : IsMade setup.cred xid call
  pub on : Both machine made.asked
  pub link : IsSentAs call.purpose.sent.xid made.asked back

pub mine-of : (m : Mounted) (setup : Setup) (h : List Entry) (old : View) → Reaches (machine_of m) setup h old → old.lost ≡ false → (xid : ℕ) (call : Waiting Purpose) (at number : ℕ) (machine : Machine)
    → waiting_at xid old.calls.calls ≡ Some call → number ≡ call.purpose.lane → slice_get old.lanes at ≡ Some (record { number = number; state = Busy machine })
    → Mine setup h xid call machine old.shelf.back
mine-of m setup h old r found xid call at number machine waits is there =
    let all = keeping.reached-known m setup Both both-asks (λ k lane shelf. Unit {0}) (λ k shelf. Unit {0}) (λ k x op state. Unit {0}) (none-laws m setup)
    (λ k w lane reached_ found_ idle. tt) (λ k w fresh. tt) h old r in
    let own = (all.lanes at (record { number = number; state = Busy machine }) there).0 xid call waits (sym is) in
    let flown : Flown old = reached-kept (machine_of m) (begins-unbegun m) setup Flown (keeps-flown m setup) h old r found in
    record {
      made = own.made;
      on = own.on;
      link = called-sent setup.cred xid call call.purpose.sent.xid old.shelf.back own.made
          (flown.sents xid call.purpose (ap (option_map (λ (w : Waiting Purpose). w.purpose)) waits)) (all.called xid call waits);
    }
