-- A lane's truncate that goes well has cut what is pending of its file.
use Rattle.core_session.proofs.Prelude.{◌≡◌, ◌≤◌, ℕ, true, List, Option, Some, None, refl, sym, ap, subst, ◌∙◌, Entry, Began, Op, IsOf, Terms, Cuts, At-one, Pending, of_file, OnFile, HasNoPiece, with_cut, LaneFile, is_first, TruncateFile, Truncating, is_quiet, Mounted, Machine, Setup, View, GoesWith, IsLive, seat_of, SitsWith, seat_with, seat-own, seat-other, same-first, IsFirst, EachSound}
use Rattle.core_answers.proofs.writes.Turns.{TruncateTurn}
use Rattle.world_model.specs.declared.op.Op.TheVariants as ops
use Rattle.file_ops.specs.declared.truncate_file.Truncating.TheVariants as truncating
use Rattle.file_ops.specs.TruncateFile as truncates
use Rattle.op_machines.specs.declared.file_machine.FileMachine.TheVariants as files
use Rattle.op_machines.specs.declared.machine.Machine.TheVariants as machines
use Rattle.core_answers.proofs.writes.AllTurns.{TurnOf}
use Rattle.step_pending.proofs.Cutting.{cut-sound}
use Rattle.core_session.proofs.syncs.AllJobs.{JobHas, job_save}
use Rattle.core_session.proofs.syncs.Fates.{live-lane}
use Rattle.core_session.proofs.syncs.Jobs.{TruncateHas}
use Rattle.core_session.proofs.syncs.Levels.{Owner, BesideSo}
use Rattle.core_session.proofs.syncs.Passing.{told}
use Rattle.core_session.proofs.pending.Above.{Above, cut-above}
use Rattle.core_session.proofs.pending.Begins.{one-file}
use Rattle.core_session.proofs.pending.Cuttings.{IsCutter, StateCuts, CutBy, none-quiet}
use Rattle.core_session.proofs.pending.Newest.{OfNewest}
use Rattle.core_session.proofs.pending.Standing.{tale}

-- nothing of the file of the first in its order is in flight, where that has no save
quiet-here : (f : List ℕ) (number : ℕ) (base : ℕ → Option (List ℕ)) (owner : Option (Owner f number base)) (q : ℕ) (b : Pending) (o : List LaneFile) → BesideSo f number base owner q b o → SitsWith number base (Some f) o
    → is_first number o ≡ true → HasNoPiece f b
quiet-here f number base None q b o other sits first = other
quiet-here f number base (Some w) q b o other sits first =
    absurd (w.apart (sym (same-first (seat_with number (Some f) base) o sits.sound number w.n f (seat-own number (Some f) base) (seat-other number w.n (Some f) base w.apart ∙ w.seat) first other.1)))

truncate-same : (a b c d : ℕ) → ops.Truncate a b ≡ ops.Truncate c d → b ≡ d
truncate-same a b c d e = cc

began-op : (a b c d : ℕ) (o p : Op) → Began a b o ≡ Began c d p → o ≡ p
began-op a b c d o p e = cc

module _ (mt : Mounted) (terms : Terms) (setup : Setup) (H : List Entry) (V : View) (g_ : GoesWith mt terms setup H V) (f : List ℕ) (i x mark number q : ℕ) (o : List LaneFile) (base : ℕ → Option (List ℕ))
    (owner : Option (Owner f number base)) (b after : Pending) (sound : EachSound b) (c : Cuts terms.modes H x f i) where
  -- of the machine as it stands
  asked-above : (m : TruncateFile) (at : Truncating) (file : List ℕ) (upto : ℕ) → m.state ≡ at → at ≡ truncating.Asked file upto → TruncateHas (told f (Unit {0}) (tale mt terms setup H f i x mark)).P (told f (Unit {0}) (tale mt terms setup H f i x mark)).C m.size at q b o
      → StateCuts mark at → TruncateTurn (IsFirst m.lane o) at → m.lane ≡ number → ((g : List ℕ) → at ≡ truncating.Asked g upto → SitsWith number base (Some g) o) → BesideSo f number base owner q b o
      → truncates.CutsQuiet (is_quiet file b) file m.size upto b after → OfNewest (Above f i mark) after
  asked-above m truncating.Idle file upto is at_is has cuts turn lane sits beside k = absurd cc
  asked-above m (truncating.Queued g u) file upto is at_is has cuts turn lane sits beside k = absurd cc
  asked-above m (truncating.Asked g u) file upto is at_is has cuts turn lane sits beside k =
      cut-above f i mark m.size u b after cuts (subst (λ (n : ℕ). n ≤ i) (sym sizes) c.low) sound (cut-sound b after f m.size u sound quiet on) on
    where
      file-is : (a b : List ℕ) (n m : ℕ) → truncating.Asked a n ≡ truncating.Asked b m → a ≡ b
      file-is a b n m e = cc

      upto-is : (a b : List ℕ) (n m : ℕ) → truncating.Asked a n ≡ truncating.Asked b m → n ≡ m
      upto-is a b n m e = cc

      sizes : m.size ≡ c.size
      sizes = truncate-same has.1.0 m.size c.slot c.size
          (began-op has.1.1.lane has.1.1.line c.of.lane c.of.line (ops.Truncate has.1.0 m.size) (ops.Truncate c.slot c.size)
          (At-one H x (Began has.1.1.lane has.1.1.line (ops.Truncate has.1.0 m.size)) (Began c.of.lane c.of.line (ops.Truncate c.slot c.size)) has.1.1.began c.of.began))

      here : g ≡ f
      here = one-file mt terms setup H V g_ x (ops.Truncate c.slot c.size) g f
          (subst (λ (p : Op). IsOf terms.modes H x p g)
          (began-op has.1.1.lane has.1.1.line c.of.lane c.of.line (ops.Truncate has.1.0 m.size) (ops.Truncate c.slot c.size)
          (At-one H x (Began has.1.1.lane has.1.1.line (ops.Truncate has.1.0 m.size)) (Began c.of.lane c.of.line (ops.Truncate c.slot c.size)) has.1.1.began c.of.began)) has.1.1) c.of

      quiet : HasNoPiece f b
      quiet = quiet-here f number base owner q b o beside (subst (λ (z : List ℕ). SitsWith number base (Some z) o) here (sits g (ap (truncating.Asked g) (upto-is g file u upto at_is)))) (subst (λ (n : ℕ). is_first n o ≡ true) lane turn)

      on : OnFile b after f (with_cut m.size u (of_file f b))
      on = by (subst (λ (z : List ℕ). truncates.CutsQuiet (is_quiet z b) z m.size u b after) (sym (file-is g file u upto at_is) ∙ here) (subst (λ (n : ℕ). truncates.CutsQuiet (is_quiet file b) file m.size n b after) (sym (upto-is g file u upto at_is)) k))
        where
          by : truncates.CutsQuiet (is_quiet f b) f m.size u b after → OnFile b after f (with_cut m.size u (of_file f b))
          by k = subst (λ (t : _). truncates.CutsQuiet t f m.size u b after) (none-quiet f b quiet) k

  pub cut-lane : (machine : Machine) → IsCutter mark machine → IsLive number machine → TurnOf machine o → SitsWith number base (seat_of machine) o → JobHas (told f (Unit {0}) (tale mt terms setup H f i x mark)) machine q b o
      → (job_save machine ≡ None → BesideSo f number base owner q b o) → CutBy machine b after → OfNewest (Above f i mark) after
  cut-lane machine cuts live turn sits has beside k =
      by (subst (IsCutter mark) k.is cuts) (subst (IsLive number) k.is live) (subst (λ (m : Machine). TurnOf m o) k.is turn) (subst (λ (m : Machine). SitsWith number base (seat_of m) o) k.is sits)
      (subst (λ (m : Machine). JobHas (told f (Unit {0}) (tale mt terms setup H f i x mark)) m q b o) k.is has) (beside (ap job_save k.is))
    where
      by : IsCutter mark (machines.File (files.Truncate k.m)) → IsLive number (machines.File (files.Truncate k.m)) → TurnOf (machines.File (files.Truncate k.m)) o
          → SitsWith number base (seat_of (machines.File (files.Truncate k.m))) o → JobHas (told f (Unit {0}) (tale mt terms setup H f i x mark)) (machines.File (files.Truncate k.m)) q b o
          → BesideSo f number base owner q b o → OfNewest (Above f i mark) after
      by cuts live turn sits has beside =
          asked-above k.m k.m.state k.now.file k.now.upto refl k.now.state has cuts turn (live-lane number (machines.File (files.Truncate k.m)) live)
          (λ g is. subst (λ (s : Truncating). SitsWith number base (seat_of (machines.File (files.Truncate (record k.m { state = s })))) o) is sits) beside k.now.cuts
