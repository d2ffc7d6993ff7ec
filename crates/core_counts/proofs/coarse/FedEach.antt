-- A relation of the shelf before and after each step of an operation holds over each entry.
use Rattle.core_counts.proofs.Prelude.{◌≡◌, inl, inr, ◌+◌, ℕ, List, [], ◌∷◌, ◌++◌, Bool, true, false, Option, Some, None, MatchOption, position, refl, sym, ap, subst, ◌∙◌, append_assoc, xid_at, Waiting, waiting_at, Entry, Began, Answered, Dialed, Sent, Executed, Foreign, Flushed, Reboot, Delivered, Failed, Clock, Op, History, Lawful, said_of, Shelf, machine_of, Mounted, Purpose, Setup, is_busy, moves_none, moves_more, BeginsIf, TakesAt, View, Numbered, StepsTo, HearsRecord, Reaches, goes, last_reading, begins-unbegun, dropped, replied, sent_now, FailedNow, goes_on, gives_up, failed_now, answered_now, taken_one, none-busy, heard-lost, reached-rows, Passes, until, WasRun}
use Rattle.client_core.specs.Steps.{Moves}
use Rattle.core_facts.proofs.Cases.{Heard, heard}
use Rattle.core_facts.proofs.Counting.{reached-count}
use Rattle.core_counts.specs.coarse.Fed.{EachStep}
use Rattle.rpc_retry.specs.Take.{after_taking}
use Rattle.core_answers.specs.pages.Passing as passing
use Rattle.core_counts.proofs.coarse.FedSteps.{StepLaws, passed-known, ran, starts-step, stirs-step, takes-step}
use Rattle.core_counts.proofs.coarse.FedUntil.{lawful-until}
use Rattle.core_counts.proofs.coarse.Lost.{lost-shelf}

module _ (m : Mounted) (setup : Setup) (t : History) (lawful : Lawful t) (numbered : Numbered t.entries) (R : Shelf → Shelf → Type 0) (laws : StepLaws (WasRun t) R) where
  pub takes-by : (h rest : List Entry) (old new fin : View) (rec : List ℕ) (xid at : ℕ) (call : Waiting Purpose) → t.entries ≡ h ++ Delivered rec ∷ rest
      → Reaches (machine_of m) setup h old → old.lost ≡ false → HearsRecord old rec fin → xid_at rec ≡ Some xid → waiting_at xid old.calls.calls ≡ Some call
      → position (is_busy call.purpose.lane) old.lanes ≡ Some at → TakesAt (taken_one old xid) at call.purpose.sent (said_of call.purpose.proc rec) new → R old.shelf new.shelf
  takes-by h rest old new fin rec xid at call along r found k named waits place s =
      takes-step m setup (WasRun t) R laws h old new rec xid at call r found waits place
      (λ made reply said. ran m setup t lawful numbered h rest old rec fin xid call along k r found named waits made reply said) s

  -- others go on, one after the other
  record Went (h : List Entry) (old new : View) : Type 0 where
    passes : Passes (machine_of m) setup h new
    leaves : R old.shelf new.shelf

  moves-on : (h : List Entry) (old new : View) → Passes (machine_of m) setup h old → Moves old new → Went h old new
  moves-on h _ _ p (moves_none old new is) =
      record { passes = subst (Passes (machine_of m) setup h) (sym is) p; leaves = laws.same old.shelf new.shelf (ap (λ (v : View). v.shelf) is) }
  moves-on h _ _ p (moves_more old mid new at k room s first) =
      let before = moves-on h old mid p k in
      record { passes = passing.stirs new mid at before.passes s; leaves = laws.then_ old.shelf mid.shelf new.shelf before.leaves (stirs-step m setup (WasRun t) R laws h mid new at (passed-known m setup h mid before.passes) s) }

  -- ---- over an entry

  begins-on : (b : Bool) (h : List Entry) (old new : View) (lane line : ℕ) (op : Op) → old.lost ≡ b → StepsTo (machine_of m) h old (Began lane line op) new → Reaches (machine_of m) setup h old
      → BeginsIf b old lane (machine_of m lane op) (last_reading 0 h) new → R old.shelf new.shelf
  begins-on true h old new lane line op was k r is = laws.same old.shelf new.shelf (ap (λ (v : View). v.shelf) is)
  begins-on false h old new lane line op was k r b =
      laws.then_ old.shelf b.first.shelf new.shelf (starts-step m setup (WasRun t) R laws old b.first lane (last_reading 0 h) op b.own)
      (moves-on (h ++ Began lane line op ∷ []) b.first new (passing.starts b.first old h lane line op r was refl k.idle b.own) b.rest).leaves

  hears-on : (h rest : List Entry) (old : View) (rec : List ℕ) (new : View) → t.entries ≡ h ++ Delivered rec ∷ rest → old.lost ≡ false → Reaches (machine_of m) setup h old → HearsRecord old rec new
      → Heard old rec new → R old.shelf new.shelf
  hears-on h rest old rec new along found r k (dropped none is) = laws.same old.shelf new.shelf (ap (λ (v : View). v.shelf) is)
  hears-on h rest old rec new along found r k (replied xid call named waits f) = by (position (is_busy call.purpose.lane) old.lanes) refl f.own
    where
      by : (o : Option ℕ) → position (is_busy call.purpose.lane) old.lanes ≡ o
          → MatchOption o (f.first ≡ taken_one old xid) (λ at. TakesAt (taken_one old xid) at call.purpose.sent (said_of call.purpose.proc rec) f.first)
          → R old.shelf new.shelf
      by None none is = absurd (none-busy old xid call waits none (reached-count (machine_of m) (begins-unbegun m) setup h old r found).counted)
      by (Some at) place o =
          laws.then_ old.shelf f.first.shelf new.shelf (takes-by h rest old f.first new rec xid at call along r found k named waits place o)
          (moves-on (h ++ Delivered rec ∷ []) f.first new (passing.takes f.first old h rec xid at call r found refl named waits place o) f.rest).leaves

  heard-on : (b : Bool) (h rest : List Entry) (old : View) (rec : List ℕ) (new : View) → new.lost ≡ b → t.entries ≡ h ++ Delivered rec ∷ rest → Reaches (machine_of m) setup h old
      → HearsRecord old rec new → R old.shelf new.shelf
  heard-on true h rest old rec new lost along r k = laws.same old.shelf new.shelf (lost-shelf (machine_of m) setup h old (Delivered rec) new k r lost)
  heard-on false h rest old rec new lost along r k =
      let d = heard old rec k.result new k.hears in
      hears-on h rest old rec new along (sym (heard-lost old rec new d) ∙ lost) r k d

  failed-on : (old new : View) → FailedNow old new → R old.shelf new.shelf
  failed-on old new (goes_on none is) = laws.same old.shelf new.shelf (ap (λ (v : View). v.shelf) is)
  failed-on old new (gives_up xid up is) = laws.same old.shelf new.shelf (ap (λ (v : View). v.shelf) is)

  quiet-on : (old new : View) → new ≡ old → R old.shelf new.shelf
  quiet-on old new is = laws.same old.shelf new.shelf (ap (λ (v : View). v.shelf) is)

  pub over-on : (h rest : List Entry) (old new : View) (e : Entry) → t.entries ≡ h ++ e ∷ rest → Reaches (machine_of m) setup h old → StepsTo (machine_of m) h old e new → R old.shelf new.shelf
  over-on h rest old new (Began lane line op) along r k = begins-on old.lost h old new lane line op refl k r k.step
  over-on h rest old new (Answered lane line answer) along r k = laws.same old.shelf new.shelf (ap (λ (v : View). v.shelf) (answered_now old lane answer new k.answers).is.is)
  over-on h rest old new (Sent bytes) along r k = laws.same old.shelf new.shelf (ap (λ (v : View). v.shelf) (sent_now old bytes new k).is)
  over-on h rest old new (Delivered rec) along r k = heard-on new.lost h rest old rec new refl along r k
  over-on h rest old new Failed along r (inl k) = failed-on old new (failed_now old k.0 new k.1)
  over-on h rest old new Failed along r (inr k) = quiet-on old new k
  over-on h rest old new (Dialed port) along r k = quiet-on old new k
  over-on h rest old new (Executed xid call reply) along r k = quiet-on old new k
  over-on h rest old new (Foreign call reply) along r k = quiet-on old new k
  over-on h rest old new (Flushed file from len) along r k = quiet-on old new k
  over-on h rest old new (Reboot verf) along r k = quiet-on old new k
  over-on h rest old new (Clock ms) along r k = quiet-on old new k

-- ---- each step

as-one : (old new : View) (rec : List ℕ) (xid at : ℕ) (call : Waiting Purpose) → xid_at rec ≡ Some xid
    → TakesAt (record old { calls = record old.calls { calls = after_taking (xid_at rec) old.calls.calls }; moments = old.moments + 1 }) at call.purpose.sent
    (said_of call.purpose.proc rec) new → TakesAt (taken_one old xid) at call.purpose.sent (said_of call.purpose.proc rec) new
as-one old new rec xid at call named k =
    subst (λ (o : Option ℕ). TakesAt (record old { calls = record old.calls { calls = after_taking o old.calls.calls }; moments = old.moments + 1 }) at call.purpose.sent
    (said_of call.purpose.proc rec) new) named k

pub numbered-at : (m : Mounted) (setup : Setup) (h : List Entry) (v : View) → Reaches (machine_of m) setup h v → Numbered h
numbered-at m setup h v r = (reached-rows (machine_of m) setup h v r).numbered

-- of the history until the step
module _ (m : Mounted) (setup : Setup) (t : History) (lawful : Lawful t) (R : History → Shelf → Shelf → Type 0) (laws : (k : History) → StepLaws (WasRun k) (R k)) where
  pub over-until : (h rest : List Entry) (old new : View) (e : Entry) → t.entries ≡ h ++ e ∷ rest → Reaches (machine_of m) setup h old → StepsTo (machine_of m) h old e new
      → R (until t (h ++ e ∷ [])) old.shelf new.shelf
  over-until h rest old new e along r k =
      let later : List Entry = h ++ e ∷ [] in
      over-on m setup (until t later) (lawful-until t later rest (along ∙ sym (append_assoc h (e ∷ []) rest)) lawful) (numbered-at m setup later new (goes later h new old e r refl k))
      (R (until t later)) (laws (until t later)) h [] old new e refl r k

  pub each-step : EachStep m setup t R
  each-step = record {
    starts = λ h rest old new lane line op along r found idle k.
        let u : History = until t (h ++ Began lane line op ∷ []) in
        starts-step m setup (WasRun u) (R u) (laws u) old new lane (last_reading 0 h) op k;
    stirs = λ h rest old new at along p k.
        let u : History = until t h in
        stirs-step m setup (WasRun u) (R u) (laws u) h old new at (passed-known m setup h old p) k;
    takes = λ h rest old new fin rec xid at call along r found k named waits place s.
        let later : List Entry = h ++ Delivered rec ∷ [] in
        takes-by m setup (until t later) (lawful-until t later rest (along ∙ sym (append_assoc h (Delivered rec ∷ []) rest)) lawful)
        (numbered-at m setup later fin (goes later h fin old (Delivered rec) r refl k)) (R (until t later)) (laws (until t later)) h [] old new fin rec xid at call refl r found k named
        waits place (as-one old new rec xid at call named s);
    over = over-until;
  }
