-- What is pending as a read begins, and as it ends, is in its answer.
use Rattle.core_session.proofs.Prelude.{ℕ, List, sym, subst, Entry, IsOf, machine_of, always-later}
use Rattle.world_model.specs.declared.op.Op.TheVariants as ops
use Rattle.core_answers.proofs.pages.ReadsShown.{until}
use Rattle.core_session.specs.current.Own.{PendingRead}
use Rattle.core_session.specs.current.Read.{OwnShown}
use Rattle.core_session.proofs.current.ReadsRecent.{file-of}
use Rattle.core_session.proofs.current.ReadsTaken.{had-read, of-grows}

pub pending-read : PendingRead
pending-read m terms setup h v g noac lasts x y o f offset count bytes read =
    let s = had-read m terms setup h v g noac lasts read.lane x read.slot offset count y bytes read.ended in
    let r = s.shown in
    let of : IsOf terms.modes h x (ops.Read read.slot offset count) r.file =
    subst (λ (k : List Entry). IsOf terms.modes k x (ops.Read read.slot offset count) r.file) (sym s.is)
    (always-later (λ k. IsOf terms.modes k x (ops.Read read.slot offset count) r.file)
    (λ k e. of-grows (machine_of m) setup terms.modes k e x (ops.Read read.slot offset count) r.file) s.before s.after r.of) in
    let same = file-of m terms setup h v g x y o f offset count bytes read r.file of in
    let part = sym (until h s.before s.after y s.is s.there) in
    subst (λ (k : List Entry). OwnShown (machine_of m) setup k x f offset count bytes) part
    (subst (λ (z : List ℕ). OwnShown (machine_of m) setup s.before x z offset count bytes) (sym same) r.own_shown)
