-- The row of a remove that is refused: the call that a record refused is one for which it asked, also where it hides its file.
use Rattle.core_session.proofs.Prelude.{◌≡◌, ◌≤◌, ℕ, List, ◌++◌, length, refl, sym, subst, arith, Fault, Entry, Call, Op, Asks, HeldOpen, GoesOn, Rooted, IsLastRemove, RefusedBy, Terms, Mounted, IsNamed, front_of, last_of, machine_of, Busy, Setup, in_flight, KnowsRoot, begins-unbegun, reached-good, Expects, expects-laws, RemoveRuns, NoCall, SentCall}
use Rattle.core_answers.proofs.refusals.SentCalls.{as-sent}
use Rattle.world_model.specs.declared.answer.Fault.TheVariants as faults
use Rattle.world_model.specs.declared.op.Op.TheVariants as ops
use Rattle.claims.specs.GoesOn as on
use Rattle.core_answers.proofs.asks.PutAsks.{Sending, rooted-now}
use Rattle.core_answers.proofs.asks.RemoveAsks.{RemoveStory, Shelved, remove-laws}
use Rattle.core_session.proofs.calls.Hiding.{Hides}
use Rattle.core_session.proofs.calls.HidingHeld.{hiding-held}
use Rattle.core_session.proofs.calls.RemoveCause.{remove-asks}
use Rattle.core_answers.specs.refusals.Rowed.{IsFinal}
use Rattle.core_answers.proofs.refusals.Refused.{OwnRefusal, Shown, own-later, own-refused}
use Rattle.core_session.specs.outcomes.Removed.{RemovesRefused}

-- ---- the call, as it was first sent

module _ (m : Mounted) (terms : Terms) (setup : Setup) (nocto : m.nocto ≡ terms.modes.nocto) (h : List Entry) (known : KnowsRoot terms.origin h m.root) (i x : ℕ) (call : Call)
    (path : List (List ℕ)) (s : SentCall (machine_of m) (begins-unbegun m) setup h i x (ops.Remove path) call) where
  sending : Sending m setup terms h known i s.bytes
  sending = as-sent (machine_of m) (begins-unbegun m) setup Expects expects-laws h i x (ops.Remove path) call s

  rooted : Rooted terms.origin (s.sent.waited.before ++ s.sent.waited.after) i m.root
  unfolding sending as-sent
  rooted = rooted-now m setup terms h known i s.bytes sending

  expected : Expects s.sent.machine call
  unfolding sending as-sent
  expected = sending.expects

  some : 1 ≤ in_flight s.sent.machine
  unfolding sending as-sent
  some = sending.some

  runs : RemoveRuns m.root s.sent.waited.before x (front_of path) (last_of path) s.sent.machine
  runs =
      let w = s.sent.waited in
      ((reached-good (machine_of m) (begins-unbegun m) setup Expects expects-laws NoCall (Shelved m) (RemoveStory m) (remove-laws m setup) w.before w.old w.reached).each s.sent.at
      (record { number = s.lane; state = Busy s.sent.machine }) s.sent.busy).1 x (ops.Remove path) s.sent.under_way path refl

  held : Hides (λ f. HeldOpen terms s.sent.waited.before x (length s.sent.waited.before) f) s.sent.machine
  held =
      let w = s.sent.waited in
      hiding-held m terms nocto setup w.before w.old w.reached w.found s.sent.at (record { number = s.lane; state = Busy s.sent.machine }) s.sent.busy x (ops.Remove path) s.sent.under_way

  pub asks-for : IsNamed path → Asks terms h x i (ops.Remove path) call
  asks-for named =
      let w = s.sent.waited in
      subst (λ (k : List Entry). Asks terms k x i (ops.Remove path) call) (sym w.is)
      (remove-asks m terms w.before w.after x i path call named w.there rooted s.sent.machine runs held expected some)

-- ---- it ends there

ends-there : (terms : Terms) (h : List Entry) (x n : ℕ) (path : List (List ℕ)) (call : Call) (status : ℕ) → IsFinal (ops.Remove path) (faults.Nfs status)
    → GoesOn terms h x n (ops.Remove path) call status → ⊥
ends-there terms h x n path call status f (on.makes slot p d name is place alone c two none) = absurd (cc)
ends-there terms h x n path call status f (on.hides p d last name file attr dir is place hidden other alone c two gave) = f.1 tt two
ends-there terms h x n path call status f (on.tries_again is few none) = f.0 is

pub no-close : (path : List (List ℕ)) (call : Call) → IsLastRemove (ops.Remove path) call → ⊥
no-close path call l = let is = l.close in absurd (cc)

module _ (m : Mounted) (terms : Terms) (setup : Setup) (nocto : m.nocto ≡ terms.modes.nocto) (h : List Entry) (known : KnowsRoot terms.origin h m.root) (x y : ℕ)
    (path : List (List ℕ)) (named : IsNamed path) where
  row-of : (fault : Fault) → IsFinal (ops.Remove path) fault → OwnRefusal m setup h x y (ops.Remove path) fault → RefusedBy terms h x y (ops.Remove path) fault
  row-of fault final w = record {
    call = w.call;
    refused = w.refused;
    asks = asks-for m terms setup nocto h known w.refused.heard.sent_at x w.call path w.sent named;
    last = no-close path w.call;
    ends = λ n is goes. ends-there terms h x w.refused.heard.got_at path w.call n (subst (IsFinal (ops.Remove path)) is final) goes;
  }

pub removes-refused : RemovesRefused
removes-refused m terms setup h v g known lane x y path fault named final ended = by fault final (own-refused m setup terms.modes g.nocto h v g.reaches lane x op y fault ended)
  where
    op : Op
    op = ops.Remove path

    until : (f : Fault) (before after : List Entry) → h ≡ before ++ after → length before ≡ y → IsFinal op f → OwnRefusal m setup before x (length before) op f → RefusedBy terms h x y op f
    until f before after is there final w =
        row-of m terms setup g.nocto h known x y path named f final
        (subst (λ (k : List Entry). OwnRefusal m setup k x y op f) (sym is) (own-later m setup before after x (length before) y op f (omega (arith, there)) w))

    by : (f : Fault) → IsFinal op f → (before : List Entry) × ((after : List Entry) × (h ≡ before ++ after) × (length before ≡ y) × Shown m setup before x op f) → RefusedBy terms h x y op f
    by (faults.Nfs n) final s = until (faults.Nfs n) s.0 s.1.0 s.1.1 s.1.2 final s.1.3
    by (faults.Rpc n) final s = until (faults.Rpc n) s.0 s.1.0 s.1.1 s.1.2 final s.1.3
    by (faults.Bad n) final s = until (faults.Bad n) s.0 s.1.0 s.1.1 s.1.2 final s.1.3
    by faults.Lost final s = absurd final
    by faults.Spent final s = absurd final
    by faults.Slot final s = absurd final
    by faults.Mode final s = absurd final
    by faults.Kind final s = absurd final
    by faults.Many final s = absurd final
    by faults.Memory final s = absurd final
