-- A sync, a close or a put asks for two COMMITs at most, where a put finds room for its bytes.
use Rattle.core_counts.proofs.Prelude.{◌≡◌, ◌≤◌, ◌+◌, ℕ, Bool, true, false, List, Option, Some, None, Result, refl, sym, ap, subst, ◌∙◌, arith, of_file, last_end, IsCommitOf, commit, Answer, Fault, Call, Reply, goes_again, repeats_after, is_first, ended, repeated, Step, Repeat, Shelf, Turn, refusal_of, remove_busy, joined, CloseFile, Closing, Removal, Saving, SyncFile, Syncing, by-step, Going}
use Rattle.client_shelf.specs.Repeats.{answered}
use Rattle.client_shelf.specs.declared.step.Step.TheVariants as nexts
use Rattle.file_ops.specs.Closes as closes
use Rattle.file_ops.specs.Saves as saves
use Rattle.file_ops.specs.Syncs as syncs
use Rattle.file_ops.specs.declared.close_file.Closing.TheVariants as closing
use Rattle.file_ops.specs.declared.sync_file.Syncing.TheVariants as syncing
use Rattle.core_answers.proofs.writes.Plain.{IsOther, PlainAsks}
use Rattle.core_counts.proofs.counts.commits.Saves.{left_to, Spent, Took, again, on, goes-spent, takes-took}

pub going : (next : Step) (P : Type 0) → P → Going next P
going (nexts.Send call) P p = p
going nexts.Wait P p = p
going (nexts.Done answer) P p = tt

module _ (f : List ℕ) where
  -- what a step leaves to a machine
  pub record StepIs (had : ℕ) (next : Step) (P : ℕ → Type 0) : Type 0 where
    pub left : ℕ
    pub keeps : Going next (P left)
    pub less : left ≤ had
    pub asks : (call : Call) → next ≡ nexts.Send call → IsCommitOf f call → left + 1 ≤ had

  pub data Taken (had : ℕ) (sent turn : Turn) (old later : List Repeat) (next : Step) (P : ℕ → Type 0) : Type 0 where
    repeats : later ≡ repeated sent.xid turn.xid old → P had → Taken had sent turn old later next P
    goes : later ≡ ended sent.xid old → StepIs had next P → Taken had sent turn old later next P

  pub done-step : (had : ℕ) (next : Step) (answer : Answer) (P : ℕ → Type 0) → next ≡ nexts.Done answer → StepIs had next P
  done-step had next answer P is = record {
    left = had;
    keeps = subst (λ (n : Step). Going n (P had)) (sym is) tt;
    less = omega arith;
    asks = λ call sends c. absurd (let no_way : nexts.Done answer ≡ nexts.Send call = sym is ∙ sends in cc);
  }

  pub wait-step : (had : ℕ) (next : Step) (P : ℕ → Type 0) → next ≡ nexts.Wait → P had → StepIs had next P
  wait-step had next P is p = record {
    left = had;
    keeps = going next (P had) p;
    less = omega arith;
    asks = λ call sends c. absurd (let no_way : nexts.Wait ≡ nexts.Send call = sym is ∙ sends in cc);
  }

  other-not : (R : Type 0) (call : Call) → IsOther call → IsCommitOf f call → R
  other-not R call other (commit offset count is) = absurd (subst IsOther is other)

  pub plain-step : (had : ℕ) (next : Step) (P : ℕ → Type 0) → PlainAsks next → P had → StepIs had next P
  plain-step had next P plain p = record { left = had; keeps = going next (P had) p; less = omega arith; asks = λ call sends c. other-not (had + 1 ≤ had) call (plain call sends) c }

  pub spent-step : (had many : ℕ) (next : Step) (new : Saving) (P : ℕ → Type 0) → many ≤ had → Spent f many next new → P (left_to new) → StepIs had next P
  spent-step had many next new P le s p = record {
    left = left_to new;
    keeps = going next (P (left_to new)) p;
    less = let l = s.less in omega (arith, l, le);
    asks = λ call sends c. let l = s.asks call sends c in omega (arith, l, le);
  }

  pub step-as : (had : ℕ) (next to : Step) (P : ℕ → Type 0) → next ≡ to → StepIs had to P → StepIs had next P
  step-as had next to P is s = subst (λ (n : Step). StepIs had n P) (sym is) s

  -- ---- syncs

  abbrev pub SyncLeft : Syncing → ℕ → Type 0
  SyncLeft syncing.Idle left = Unit {0}
  SyncLeft (syncing.Saves s) left = left_to s ≤ left

  state-left : (gives : _) (saved : Saving) (state : Syncing) (left : ℕ) → state ≡ syncs.sync_state gives saved → left_to saved ≤ left → SyncLeft state left
  state-left gives saved state left is le = by-step (λ g. state ≡ syncs.sync_state g saved → SyncLeft state left)
      (λ call e. subst (λ (z : Syncing). SyncLeft z left) (sym e) le)
      (λ e. subst (λ (z : Syncing). SyncLeft z left) (sym e) le)
      (λ result e. subst (λ (z : Syncing). SyncLeft z left) (sym e) tt)
      gives is

  sync-follows : (had many lane : ℕ) (gives : _) (saved : Saving) (order : _) (next : Step) (state : Syncing) (after : _) → many ≤ had → Spent f many (syncs.sync_next gives) saved
      → syncs.Follows lane gives saved order next state after → StepIs had next (SyncLeft state)
  sync-follows had many lane gives saved order next state after le s k =
      step-as had next (syncs.sync_next gives) (SyncLeft state) k.next_is
      (spent-step had many (syncs.sync_next gives) saved (SyncLeft state) le s (state-left gives saved state (left_to saved) k.state_is (omega arith)))

  sync-queues : (b : Bool) (wsize lane : ℕ) (turn : Turn) (s : Saving) (was : Shelf) (next : Step) (state : Syncing) (after : Shelf) (had : ℕ) → left_to s ≤ had
      → syncs.QueuesIf b wsize lane turn s was next state after → StepIs had next (SyncLeft state)
  sync-queues true wsize lane turn s was next state after had le q =
      sync-follows had (left_to s) lane q.gives q.saved was.order next state after.order le (goes-spent f wsize turn.xid turn.room false s was.back q.gives q.saved after.back q.goes) q.follows
  sync-queues false wsize lane turn s was next state after had le q =
      wait-step had next (SyncLeft state) q.next_is (subst (λ (z : Syncing). SyncLeft z had) (sym q.state_is) le)

  pub sync-starts : (o : Option (List ℕ)) (wsize : ℕ) (m : SyncFile) (turn : Turn) (old : Shelf) (next : Step) (state : Syncing) (after : Shelf) → syncs.StartsAt o wsize m turn old next state after
      → StepIs 2 next (SyncLeft state)
  sync-starts None wsize m turn old next state after k = done-step 2 next _ (SyncLeft state) k.next_is
  sync-starts (Some file) wsize m turn old next state after k =
      sync-queues (is_first m.lane (joined m.lane file old).order) wsize m.lane turn (saves.begun file old.seq) (joined m.lane file old) next state after 2 (omega arith) k

  pub sync-resumes : (at : Syncing) (wsize : ℕ) (m : SyncFile) (turn : Turn) (old : Shelf) (next : Step) (state : Syncing) (after : Shelf) (had : ℕ) → SyncLeft at had
      → syncs.Resumes at wsize m turn old next state after → StepIs had next (SyncLeft state)
  sync-resumes syncing.Idle wsize m turn old next state after had le r = wait-step had next (SyncLeft state) r.next_is (subst (λ (z : Syncing). SyncLeft z had) (sym r.state_is) tt)
  sync-resumes (syncing.Saves s) wsize m turn old next state after had le r = sync-queues (is_first m.lane old.order) wsize m.lane turn s old next state after had le r

  pub sync-takes : (at : Syncing) (wsize : ℕ) (m : SyncFile) (sent turn : Turn) (came : Result Reply Fault) (old : Shelf) (next : Step) (state : Syncing) (after : Shelf) (had : ℕ)
      → (at ≡ syncing.Idle → ⊥) → SyncLeft at had → syncs.Takes at wsize m sent turn came old next state after → Taken had sent turn old.repeats after.repeats next (SyncLeft state)
  sync-takes syncing.Idle wsize m sent turn came old next state after had some le t = absurd (some refl)
  sync-takes (syncing.Saves s) wsize m sent turn came old next state after had some le t = by (takes-took f wsize sent turn came old.repeats s old.back t.gives t.saved after.back after.repeats t.takes)
    where
      by : Took f sent turn old.repeats after.repeats s (syncs.sync_next t.gives) t.saved → Taken had sent turn old.repeats after.repeats next (SyncLeft state)
      by (again table few) = repeats table (state-left t.gives t.saved state had t.follows.state_is (omega (arith, few, le)))
      by (on table k) = goes table (sync-follows had (left_to s) m.lane t.gives t.saved old.order next state after.order le k t.follows)

  -- ---- closes

  abbrev pub CloseLeft : Closing → ℕ → Type 0
  CloseLeft closing.Idle left = Unit {0}
  CloseLeft (closing.Queued s) left = left_to s ≤ left
  CloseLeft (closing.Saves s) left = left_to s ≤ left
  CloseLeft (closing.ToRemove removal) left = Unit {0}
  CloseLeft (closing.Removing removal) left = Unit {0}

  close-as : (to state : Closing) (left : ℕ) → state ≡ to → CloseLeft to left → CloseLeft state left
  close-as to state left is k = subst (λ (z : Closing). CloseLeft z left) (sym is) k

  remove-plain : (room : Bool) (removal : Removal) (next : Step) → next ≡ closes.ask_next room removal → PlainAsks next
  remove-plain true removal next is call sends = other-is _ call (let e = sym is ∙ sends in e) tt
    where
      other-is : (a b : Call) → nexts.Send a ≡ nexts.Send b → IsOther a → IsOther b
      other-is a b e other = subst IsOther (let same : a ≡ b = cc in same) other
  remove-plain false removal next is call sends = absurd (let no_way : nexts.Wait ≡ nexts.Send call = sym is ∙ sends in cc)

  asked-left : (room : Bool) (removal : Removal) (state : Closing) (left : ℕ) → state ≡ closes.ask_state room removal → CloseLeft state left
  asked-left true removal state left is = close-as (closing.Removing removal) state left is tt
  asked-left false removal state left is = close-as (closing.ToRemove removal) state left is tt

  close-ends : (place : Option (List ℕ × List ℕ)) (lane : ℕ) (room : Bool) (file : List ℕ) (why : Option Fault) (was : Shelf) (next : Step) (state : Closing) (new : Shelf) (had : ℕ)
      → closes.EndsAt place lane room file why was next state new → StepIs had next (CloseLeft state)
  close-ends None lane room file why was next state new had e = done-step had next _ (CloseLeft state) e.next_is
  close-ends (Some place) lane room file why was next state new had e =
      plain-step had next (CloseLeft state) (remove-plain room (record { file = file; dir = place.0; name = place.1; refusal = why }) next e.next_is)
      (asked-left room (record { file = file; dir = place.0; name = place.1; refusal = why }) state had e.state_is)

  waits-left : (begun : Bool) (s : Saving) (left : ℕ) → left_to s ≤ left → CloseLeft (closes.waits_as begun s) left
  waits-left true s left le = le
  waits-left false s left le = le

  close-follows : (gives : _) (lane slot : ℕ) (room begun : Bool) (saved : Saving) (was : Shelf) (next : Step) (state : Closing) (new : Shelf) (had many : ℕ) → many ≤ had
      → Spent f many (syncs.sync_next gives) saved → closes.Follows gives lane slot room begun saved was next state new → StepIs had next (CloseLeft state)
  close-follows gives lane slot room begun saved was next state new had many le s k = by-step
      (λ g. Spent f many (syncs.sync_next g) saved → closes.Follows g lane slot room begun saved was next state new → StepIs had next (CloseLeft state))
      (λ call z l. step-as had next (nexts.Send call) (CloseLeft state) l.0 (spent-step had many (nexts.Send call) saved (CloseLeft state) le z (close-as (closing.Saves saved) state (left_to saved) l.1 (omega arith))))
      (λ z l. step-as had next nexts.Wait (CloseLeft state) l.0
      (spent-step had many nexts.Wait saved (CloseLeft state) le z (close-as (closes.waits_as begun saved) state (left_to saved) l.1 (waits-left begun saved (left_to saved) (omega arith)))))
      (λ result z l. close-ends l.place lane room saved.file (refusal_of result) l.freed next state new had l.ends)
      gives s k

  close-goes : (wsize lane slot : ℕ) (turn : Turn) (begun : Bool) (s : Saving) (was : Shelf) (next : Step) (state : Closing) (new : Shelf) (had : ℕ) → left_to s ≤ had
      → closes.GoesOn wsize lane slot turn begun s was next state new → StepIs had next (CloseLeft state)
  close-goes wsize lane slot turn begun s was next state new had le g =
      close-follows g.gives lane slot turn.room begun g.saved g.gone next state new had (left_to s) le (goes-spent f wsize turn.xid turn.room false s was.back g.gives g.saved g.gone.back g.goes) g.follows

  close-queues : (b : Bool) (wsize lane slot : ℕ) (turn : Turn) (s : Saving) (was : Shelf) (next : Step) (state : Closing) (new : Shelf) (had : ℕ) → left_to s ≤ had
      → closes.QueuesIf b wsize lane slot turn s was next state new → StepIs had next (CloseLeft state)
  close-queues true wsize lane slot turn s was next state new had le q = begins (last_end (of_file s.file was.back).segments) q
    where
      begins : (end : Option ℕ) → closes.Begins end wsize lane slot turn s was next state new → StepIs had next (CloseLeft state)
      begins None b = close-ends b.place lane turn.room s.file None b.freed next state new had b.ends
      begins (Some end) b = close-goes wsize lane slot turn false s was next state new had le b
  close-queues false wsize lane slot turn s was next state new had le q = wait-step had next (CloseLeft state) q.next_is (close-as (closing.Queued s) state had q.state_is le)

  pub close-starts : (o : Option (List ℕ)) (wsize : ℕ) (m : CloseFile) (turn : Turn) (old : Shelf) (next : Step) (state : Closing) (after : Shelf) → closes.StartsAt o wsize m turn old next state after
      → StepIs 2 next (CloseLeft state)
  close-starts None wsize m turn old next state after k = done-step 2 next _ (CloseLeft state) k.next_is
  close-starts (Some file) wsize m turn old next state after k =
      close-queues (is_first m.lane (joined m.lane file old).order) wsize m.lane m.slot turn (saves.begun file old.seq) (joined m.lane file old) next state after 2 (omega arith) k

  pub close-resumes : (at : Closing) (wsize : ℕ) (m : CloseFile) (turn : Turn) (old : Shelf) (next : Step) (state : Closing) (after : Shelf) (had : ℕ) → CloseLeft at had
      → closes.Resumes at wsize m turn old next state after → StepIs had next (CloseLeft state)
  close-resumes closing.Idle wsize m turn old next state after had le r = wait-step had next (CloseLeft state) r.next_is (close-as closing.Idle state had r.state_is tt)
  close-resumes (closing.Queued s) wsize m turn old next state after had le r = close-queues (is_first m.lane old.order) wsize m.lane m.slot turn s old next state after had le r
  close-resumes (closing.Saves s) wsize m turn old next state after had le r = by (is_first m.lane old.order) r
    where
      by : (b : Bool) → closes.GoesOnIf b wsize m.lane m.slot turn s old next state after → StepIs had next (CloseLeft state)
      by true g = close-goes wsize m.lane m.slot turn true s old next state after had le g
      by false g = wait-step had next (CloseLeft state) g.next_is (close-as (closing.Saves s) state had g.state_is le)
  close-resumes (closing.ToRemove removal) wsize m turn old next state after had le r =
      plain-step had next (CloseLeft state) (remove-plain turn.room removal next r.next_is) (asked-left turn.room removal state had r.state_is)
  close-resumes (closing.Removing removal) wsize m turn old next state after had le r = wait-step had next (CloseLeft state) r.next_is (close-as (closing.Removing removal) state had r.state_is tt)

  -- whether a close waits for a call
  abbrev pub CloseWaits : Closing → Type 0
  CloseWaits closing.Idle = ⊥
  CloseWaits (closing.Queued s) = ⊥
  CloseWaits (closing.Saves s) = Unit {0}
  CloseWaits (closing.ToRemove removal) = ⊥
  CloseWaits (closing.Removing removal) = Unit {0}

  pub close-takes : (at : Closing) (wsize : ℕ) (m : CloseFile) (sent turn : Turn) (came : Result Reply Fault) (old : Shelf) (next : Step) (state : Closing) (after : Shelf) (had : ℕ) → CloseWaits at
      → CloseLeft at had → closes.Takes at wsize m sent turn came old next state after → Taken had sent turn old.repeats after.repeats next (CloseLeft state)
  close-takes closing.Idle wsize m sent turn came old next state after had waits le t = absurd waits
  close-takes (closing.Queued s) wsize m sent turn came old next state after had waits le t = absurd waits
  close-takes (closing.ToRemove removal) wsize m sent turn came old next state after had waits le t = absurd waits
  close-takes (closing.Saves s) wsize m sent turn came old next state after had waits le t = by (takes-took f wsize sent turn came old.repeats s old.back t.gives t.saved t.took.back t.took.repeats t.takes)
    where
      same-table : (gives : _) → closes.Follows gives m.lane m.slot turn.room true t.saved t.took next state after → after.repeats ≡ t.took.repeats
      same-table gives l = by-step (λ g. closes.Follows g m.lane m.slot turn.room true t.saved t.took next state after → after.repeats ≡ t.took.repeats)
          (λ call k. ap (λ (z : Shelf). z.repeats) k.2)
          (λ k. ap (λ (z : Shelf). z.repeats) k.2)
          (λ result k. freed k.place k.freed result (ap (λ (z : Shelf). z.repeats) k.slot_is) k.ends)
          gives l
        where
          freed : (place : Option (List ℕ × List ℕ)) (mid : Shelf) (result : Result (Unit {0}) Fault) → mid.repeats ≡ t.took.repeats
              → closes.EndsAt place m.lane turn.room t.saved.file (refusal_of result) mid next state after → after.repeats ≡ t.took.repeats
          freed None mid result is e = ap (λ (z : Shelf). z.repeats) e.others ∙ is
          freed (Some place) mid result is e = ap (λ (z : Shelf). z.repeats) e.shelf_is ∙ is

      left-of : (gives : _) (many : ℕ) → left_to t.saved ≤ many → closes.Follows gives m.lane m.slot turn.room true t.saved t.took next state after → CloseLeft state many
      left-of gives many few l = by-step (λ g. closes.Follows g m.lane m.slot turn.room true t.saved t.took next state after → CloseLeft state many)
          (λ call k. close-as (closing.Saves t.saved) state many k.1 few)
          (λ k. close-as (closing.Saves t.saved) state many k.1 few)
          (λ result k. freed k.place k.freed result k.ends)
          gives l
        where
          freed : (place : Option (List ℕ × List ℕ)) (mid : Shelf) (result : Result (Unit {0}) Fault)
              → closes.EndsAt place m.lane turn.room t.saved.file (refusal_of result) mid next state after → CloseLeft state many
          freed None mid result e = close-as closing.Idle state many e.state_is tt
          freed (Some place) mid result e = asked-left turn.room (record { file = t.saved.file; dir = place.0; name = place.1; refusal = refusal_of result }) state many e.state_is

      by : Took f sent turn old.repeats t.took.repeats s (syncs.sync_next t.gives) t.saved → Taken had sent turn old.repeats after.repeats next (CloseLeft state)
      by (again table few) = repeats (same-table t.gives t.follows ∙ table) (left-of t.gives had (omega (arith, few, le)) t.follows)
      by (on table k) = goes (same-table t.gives t.follows ∙ table) (close-follows t.gives m.lane m.slot turn.room true t.saved t.took next state after had (left_to s) le k t.follows)
  close-takes (closing.Removing removal) wsize m sent turn came old next state after had waits le t = by (goes_again (remove_busy came) sent turn old.repeats) refl t.ends
    where
      took-table : t.took.repeats ≡ repeats_after (remove_busy came) sent turn old.repeats
      took-table = ap (λ (z : Shelf). z.repeats) t.others

      by : (b : Bool) → goes_again (remove_busy came) sent turn old.repeats ≡ b → closes.EndsIf b m.lane removal t.took next state after
          → Taken had sent turn old.repeats after.repeats next (CloseLeft state)
      by true is e =
          repeats (ap (λ (z : Shelf). z.repeats) e.shelf_is ∙ took-table ∙ ap (λ (b : Bool). answered b sent.xid turn.xid old.repeats) is) (close-as (closing.Removing removal) state had e.state_is tt)
      by false is e =
          goes (ap (λ (z : Shelf). z.repeats) e.others ∙ took-table ∙ ap (λ (b : Bool). answered b sent.xid turn.xid old.repeats) is) (done-step had next _ (CloseLeft state) e.next_is)
