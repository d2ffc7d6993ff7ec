-- With what is known of opens and reads: what is pending is sound, along a history and through each step.
use Rattle.core_session.proofs.Prelude.{ℕ, List, refl, Waiting, Entry, Delivered, Modes, EachSound, machine_of, Mounted, Purpose, Setup, View, SameCalls}
use Rattle.core_answers.proofs.writes.PiecesCarried.{keeps-flying}
use Rattle.core_session.proofs.order.Basis.{Basis, keeps-basis}
use Rattle.core_session.proofs.current.Along.{KeepsMoments}
use Rattle.core_session.proofs.current.Good.{Good}

pub record All (setup : Setup) (modes : Modes) (h : List Entry) (v : View) : Type 0 where
  pub ours : Good modes.noac modes h v
  pub basis : Basis setup h v

pub each-sound : (setup : Setup) (modes : Modes) (h : List Entry) (v : View) → All setup modes h v → EachSound v.shelf.back
each-sound setup modes h v a = a.basis.sound

same-calls : (calls : List (ℕ × Waiting Purpose)) → SameCalls calls calls
same-calls calls = record { waited = λ xid w is. record { was = w; waited = is; purpose = refl; bytes = refl }; purposes = λ xid. refl }

pub keeps-all : (m : Mounted) (modes : Modes) (setup : Setup) → KeepsMoments (machine_of m) setup (λ h v. Good modes.noac modes h v) → KeepsMoments (machine_of m) setup (λ h v. All setup modes h v)
keeps-all m modes setup g =
    let b = keeps-basis m setup in
    record {
      fresh = λ h v may up fresh. record { ours = g.fresh h v may up fresh; basis = b.fresh h v may up fresh };
      stirs = λ h old new at known passed t i. record { ours = g.stirs h old new at known passed t i.ours; basis = b.stirs h old new at known t i.basis };
      starts = λ h old new lane line op now r found known idle fits t i. record {
        ours = g.starts h old new lane line op now r found known idle fits t i.ours;
        basis = b.starts h old new lane line op now r found known idle fits t i.basis;
      };
      takes = λ h old new rec xid call at r found known fin hears named waits there t i. record {
        ours = g.takes h old new rec xid call at r found known fin hears named waits there t i.ours;
        basis = b.takes h old new rec xid call at r found known fin hears named waits there t i.basis;
      };
      answers = λ h old new at lane line answer known a i. record { ours = g.answers h old new at lane line answer known a i.ours; basis = b.answers h old new at lane line answer known a i.basis };
      same = λ h e old new plain lanes shelf wsize moments calls i. record {
        ours = g.same h e old new plain lanes shelf wsize moments calls i.ours;
        basis = b.same h e old new (record { begins_ = plain.begins_; answers_ = plain.answers_ }) lanes shelf wsize calls i.basis;
      };
      drops = λ h old fin rec known hears i. record {
        ours = g.drops h old fin rec known hears i.ours;
        basis = record {
          flying = (keeps-flying m setup).same h (Delivered rec) old old refl refl (same-calls old.calls.calls) i.basis.flying;
          fits = i.basis.fits;
          sound = i.basis.sound;
          newest = i.basis.newest;
        };
      };
    }
