-- Along a history in which a put is the only operation: each of its bytes is accounted for until its answer.
use Rattle.core_session.proofs.Prelude.{◌≡◌, ◌⊎◌, inl, inr, ◌≤◌, ◌^◌, ◌+◌, ◌-◌, ℕ, zero, suc, List, [], ◌∷◌, ◌++◌, length, Bool, true, false, nat_eq, Option, Some, None, Err, slice_get, slice_set, refl, sym, ap, subst, ◌∙◌, arith, slice_index, eqb-true, Waiting, next_xid, waiting_at, made_call, others_made, Fault, Entry, Sent, Call, At, HasXid, proc_of, length_last, Step, Turn, Pending, of_file, IsFree, piece_under, Putting, Saving, Machine, Opener, file_of, Lane, Purpose, State, Busy, Over, Setup, record_of, IsRefused, Leads, View, turn_at, unmade_turn, flies_if, flies_put, flies_of, flies_path, flies_file, Rows, IsAwaited, MadeStable, AllMadeStable}
use Rattle.std.specs.Prelude.{IsSome}
use Rattle.core_session.specs.saves.Evidence.{IsHeldBy}
use Rattle.world_model.specs.declared.answer.Answer.TheVariants as answers
use Rattle.client_shelf.specs.declared.step.Step.TheVariants as nexts
use Rattle.write_back.specs.Pieces.{Sent as Piece}
use Rattle.file_ops.specs.declared.put_file.Putting.TheVariants as putting
use Rattle.file_ops.specs.Saves as saves
use Rattle.step_saves.proofs.PutSteps.{SaveKnown}
use Rattle.core_session.proofs.saves.Evidenced.{stable-grow}
use Rattle.core_session.proofs.saves.PutPaths.{PutRuns, PutGoes, put-more, runs-takes}
use Rattle.core_session.proofs.saves.Told.{held-grow, held-calls}
use Rattle.core_session.proofs.saves.WholeSteps.{IsSent}

-- of one lane alone
pub only-lane : (lanes : List Lane) (own lane : Lane) (at : ℕ) → lanes ≡ own ∷ [] → slice_get lanes at ≡ Some lane → (at ≡ 0) × (own ≡ lane)
only-lane lanes own lane at is there = by at (subst (λ (ls : List Lane). slice_get ls at ≡ Some lane) is there)
  where
    by : (at : ℕ) → slice_get (own ∷ []) at ≡ Some lane → (at ≡ 0) × (own ≡ lane)
    by zero e = (refl, cc)
    by (suc k) e = absurd (let no_way : None ≡ Some lane = e in cc)

pub same-lane : (a b : ℕ) (s t : State) → ◌≡◌ {A = Lane} (record { number = a; state = s }) (record { number = b; state = t }) → (a ≡ b) × (s ≡ t)
same-lane a b s t e = (ap (λ (l : Lane). l.number) e, ap (λ (l : Lane). l.state) e)

module _ (x offset : ℕ) (bytes : List ℕ) (last : offset + length bytes ≤ 2 ^ 63 - 1) where
  abbrev pub byte-at : ℕ → ℕ
  byte-at place = slice_index bytes (place - offset)

  abbrev pub Wrote : List Entry → List (ℕ × Waiting Purpose) → List ℕ → ℕ → List ℕ → Type 0
  Wrote h calls f place held = IsHeldBy h x calls f place (slice_index bytes (place - offset)) held

  abbrev pub Made : List Entry → List ℕ → ℕ → Type 0
  Made h f place = MadeStable h x (length h) f place (slice_index bytes (place - offset))

  abbrev pub Runs : List Entry → List (ℕ × Waiting Purpose) → Machine → Pending → Type 0
  Runs h calls machine back = PutRuns offset bytes last (Wrote h calls) (Made h) machine back

  abbrev pub Goes : List Entry → List (ℕ × Waiting Purpose) → Step → Machine → Pending → Type 0
  Goes h calls next machine back = PutGoes offset bytes last (Wrote h calls) (Made h) next machine back

  abbrev pub StateSo : List Entry → List (ℕ × Waiting Purpose) → Pending → State → Type 0
  StateSo h calls back (Busy machine) = Runs h calls machine back
  StateSo h calls back (Over (answers.Done value)) = AllMadeStable h x (length h) offset bytes
  StateSo h calls back (Over (answers.Refused fault)) = Unit {0}

  pub record OneLane (h : List Entry) (v : View) : Type 0 where
    pub number : ℕ
    pub state : State
    pub lanes : v.lanes ≡ record { number = number; state = state } ∷ []
    pub so : StateSo h v.calls.calls v.shelf.back state

  abbrev pub LanesSo : List Entry → View → Type 0
  LanesSo h v = (v.lanes ≡ []) ⊎ OneLane h v

  runs-more : (h k : List Entry) (calls others : List (ℕ × Waiting Purpose)) (machine : Machine) (back : Pending)
      → ((f : List ℕ) (place : ℕ) (held : List ℕ) → Wrote h calls f place held → Wrote k others f place held) → ((f : List ℕ) (place : ℕ) → Made h f place → Made k f place)
      → Runs h calls machine back → Runs k others machine back
  runs-more h k calls others machine back w d r = record {
    m = r.m;
    p = r.p;
    is = r.is;
    opener = r.opener;
    text = record { offset_is = r.text.offset_is; text_is = r.text.text_is };
    empty = r.empty;
    has = λ there. put-more offset bytes (Wrote h calls) (Wrote k others) (Made h) (Made k) r.p.state back w d (r.has there);
  }

  -- one entry more
  pub state-grow : (h : List Entry) (e : Entry) (calls : List (ℕ × Waiting Purpose)) (back : Pending) (state : State) → StateSo h calls back state → StateSo (h ++ e ∷ []) calls back state
  state-grow h e calls back (Busy machine) s =
      runs-more h (h ++ e ∷ []) calls calls machine back (λ f place held k. held-grow h e x calls f place (slice_index bytes (place - offset)) held k)
      (λ f place d. stable-grow h (e ∷ []) x (length h) (length (h ++ e ∷ [])) f place (slice_index bytes (place - offset)) (let more = length_last h e in omega (arith, more)) d) s
  state-grow h e calls back (Over (answers.Done value)) s = record {
    file = s.file;
    each = λ place inside. stable-grow h (e ∷ []) x (length h) (length (h ++ e ∷ [])) s.file place (slice_index bytes (place - offset)) (let more = length_last h e in omega (arith, more)) (s.each place inside);
  }
  state-grow h e calls back (Over (answers.Refused fault)) s = tt

  -- calls that waited before, or weren't sent
  pub state-calls : (h : List Entry) (old new : List (ℕ × Waiting Purpose)) (back : Pending) (state : State)
      → ((xid : ℕ) (w : Waiting Purpose) → waiting_at xid new ≡ Some w → ((v : Waiting Purpose) × (waiting_at xid old ≡ Some v) × (v.bytes ≡ w.bytes)) ⊎ ((i : ℕ) (b : List ℕ) → At h i (Sent b) → HasXid b xid → ⊥))
      → StateSo h old back state → StateSo h new back state
  state-calls h old new back (Busy machine) was s =
      runs-more h h old new machine back (λ f place held k. held-calls h x old new f place (slice_index bytes (place - offset)) held was k) (λ f place d. d) s
  state-calls h old new back (Over (answers.Done value)) was s = s
  state-calls h old new back (Over (answers.Refused fault)) was s = tt

  pub goes-calls : (h : List Entry) (old new : List (ℕ × Waiting Purpose)) (back : Pending) (next : Step) (machine : Machine)
      → ((xid : ℕ) (w : Waiting Purpose) → waiting_at xid new ≡ Some w → ((v : Waiting Purpose) × (waiting_at xid old ≡ Some v) × (v.bytes ≡ w.bytes)) ⊎ ((i : ℕ) (b : List ℕ) → At h i (Sent b) → HasXid b xid → ⊥))
      → Goes h old next machine back → Goes h new next machine back
  goes-calls h old new back (nexts.Send call) machine was g = state-calls h old new back (Busy machine) was g
  goes-calls h old new back nexts.Wait machine was g = state-calls h old new back (Busy machine) was g
  goes-calls h old new back (nexts.Done (answers.Done value)) machine was g = g
  goes-calls h old new back (nexts.Done (answers.Refused fault)) machine was g = tt

  -- ---- what a step leads to

  -- whose bytes it sends
  pub put-flies : (h : List Entry) (calls : List (ℕ × Waiting Purpose)) (machine : Machine) (back : Pending) (k : Runs h calls machine back) → k.m.arrived ≡ true → (s : Saving) → k.p.state ≡ putting.Saves s
      → saves.is_sending s.phase ≡ true → flies_of machine ≡ Some s.file
  put-flies h calls machine back k there s is sends =
      ap flies_of k.is ∙ ap (λ (b : Bool). flies_path b k.m.opener) there ∙ ap (λ (o : Opener). flies_file (file_of o)) k.opener
      ∙ ap (λ (p : Putting). flies_put p k.p.write.state) is ∙ ap (λ (b : Bool). flies_if b s.file) sends

  -- the put's piece is in flight under an xid, where it sends
  pub awaited-put : (h : List Entry) (calls : List (ℕ × Waiting Purpose)) (machine : Machine) (back : Pending) (xid : ℕ) (k : Runs h calls machine back) → k.m.arrived ≡ true
      → ((f : List ℕ) → flies_of machine ≡ Some f → IsSent xid f back) → (s : Saving) → k.p.state ≡ putting.Saves s → IsAwaited s xid back
  awaited-put h calls machine back xid k there it s is sends =
      let flies : flies_of machine ≡ Some s.file = put-flies h calls machine back k there s is sends in
      let sent = it s.file flies in
      some-is (piece_under xid (of_file s.file back).pieces) sent.piece sent.there
    where
      some-is : (o : Option Piece) (p : Piece) → o ≡ Some p → IsSome o
      some-is None p e = absurd (let no_way : None ≡ Some p = e in cc)
      some-is (Some q) p e = refl

  -- a call that couldn't be made has no reply
  unmade-known : (h : List Entry) (calls : List (ℕ × Waiting Purpose)) (wsize : ℕ) (sent turn : Turn) (some : 1 ≤ wsize) (fault : Fault) (machine : Machine) (back : Pending) (k : Runs h calls machine back)
      → k.m.arrived ≡ true → ((f : List ℕ) → flies_of machine ≡ Some f → IsSent sent.xid f back) → SaveKnown (Wrote h calls) (Made h) wsize turn some k.p.state k.p sent (Err fault) back
  unmade-known h calls wsize sent turn some fault machine back k there it = by k.p.state refl
    where
      by : (state : Putting) → k.p.state ≡ state → SaveKnown (Wrote h calls) (Made h) wsize turn some state k.p sent (Err fault) back
      by putting.Idle is = tt
      by putting.Opens is = tt
      by (putting.Adds file) is = tt
      by (putting.Saves s) is = (
        awaited-put h calls machine back sent.xid k there it s is,
        (λ place inside wcc count committed verf said reaches. absurd (cc)),
        (λ place inside wcc verf said same held. absurd (cc)),
      )

  module _ (setup : Setup) where
    pub leads-so : (h : List Entry) (v new : View) (number : ℕ) (machine : Machine) (next : Step) → Rows setup h v → v.lanes ≡ record { number = number; state = Busy machine } ∷ [] → 1 ≤ v.wsize
        → ((file : List ℕ) → IsFree 0 file v.shelf.back) → ((call : Call) → next ≡ nexts.Send call → (f : List ℕ) → flies_of machine ≡ Some f → IsSent (next_xid v.calls) f v.shelf.back)
        → Goes h v.calls.calls next machine v.shelf.back → Leads v 0 number machine next new → OneLane h new
    leads-so h v new number machine (nexts.Send call) rows lanes some free it goes (inl mk) = subst (OneLane h) (sym mk.is) (record {
      number = number;
      state = Busy machine;
      lanes = lanes;
      so = state-calls h v.calls.calls
          (v.calls.calls ++ (next_xid v.calls, made_call (record_of v call mk.args) (record { lane = number; proc = proc_of call; sent = turn_at v })) ∷ []) v.shelf.back (Busy machine) was goes;
    })
      where
        row : Waiting Purpose
        row = made_call (record_of v call mk.args) (record { lane = number; proc = proc_of call; sent = turn_at v })

        was : (xid : ℕ) (w : Waiting Purpose) → waiting_at xid (v.calls.calls ++ (next_xid v.calls, made_call (record_of v call mk.args) (record { lane = number; proc = proc_of call; sent = turn_at v })) ∷ []) ≡ Some w
            → ((u : Waiting Purpose) × (waiting_at xid v.calls.calls ≡ Some u) × (u.bytes ≡ w.bytes)) ⊎ ((i : ℕ) (b : List ℕ) → At h i (Sent b) → HasXid b xid → ⊥)
        was xid w is = by (nat_eq xid (next_xid v.calls)) refl
          where
            by : (b : Bool) → nat_eq xid (next_xid v.calls) ≡ b
                → ((u : Waiting Purpose) × (waiting_at xid v.calls.calls ≡ Some u) × (u.bytes ≡ w.bytes)) ⊎ ((i : ℕ) (b : List ℕ) → At h i (Sent b) → HasXid b xid → ⊥)
            by true d = inr (λ i b at has. let low = rows.used i xid b at has in let same = eqb-true xid (next_xid v.calls) d in omega (arith, low, same))
            by false d = inl (w, sym (others_made xid (next_xid v.calls) v.calls.calls row d) ∙ is, refl)
    leads-so h v new number machine (nexts.Send call) rows lanes some free it goes (inr f) = by f.next refl f.leads
      where
        left : Goes h v.calls.calls f.next f.after f.left.back
        left = runs-takes offset bytes last (Wrote h v.calls.calls) (Made h) v.wsize (turn_at v) (unmade_turn v) (Err f.fault) some machine v.shelf f.next f.after f.left free goes
            (λ there. unmade-known h v.calls.calls v.wsize (turn_at v) (unmade_turn v) some f.fault machine v.shelf.back goes there (it call refl)) f.takes

        lanes-then : (state : State) → f.state ≡ state → slice_set v.lanes 0 (record { number = number; state = f.state }) ≡ record { number = number; state = state } ∷ []
        lanes-then state is = ap (λ (ls : List Lane). slice_set ls 0 (record { number = number; state = f.state })) lanes ∙ ap (λ (st : State). record { number = number; state = st } ∷ []) is

        by : (n : Step) → f.next ≡ n → IsRefused f.after n f.state → OneLane h new
        by (nexts.Send again) is none = absurd none
        by nexts.Wait is st = subst (OneLane h) (sym f.is) (record {
          number = number;
          state = Busy f.after;
          lanes = lanes-then (Busy f.after) st;
          so = subst (λ (z : Step). Goes h v.calls.calls z f.after f.left.back) is left;
        })
        by (nexts.Done (answers.Done value)) is st =
            let g = subst (λ (z : Step). Goes h v.calls.calls z f.after f.left.back) is left in
            subst (OneLane h) (sym f.is) (record { number = number; state = Over (answers.Done value); lanes = lanes-then (Over (answers.Done value)) st; so = record { file = g.0; each = g.1 } })
        by (nexts.Done (answers.Refused fault)) is st =
            subst (OneLane h) (sym f.is) (record { number = number; state = Over (answers.Refused fault); lanes = lanes-then (Over (answers.Refused fault)) st; so = tt })
    leads-so h v new number machine nexts.Wait rows lanes some free it goes is = subst (OneLane h) (sym is) (record { number = number; state = Busy machine; lanes = lanes; so = goes })
    leads-so h v new number machine (nexts.Done (answers.Done value)) rows lanes some free it goes is = subst (OneLane h) (sym is) (record {
      number = number;
      state = Over (answers.Done value);
      lanes = ap (λ (ls : List Lane). slice_set ls 0 (record { number = number; state = Over (answers.Done value) })) lanes;
      so = record { file = goes.0; each = goes.1 };
    })
    leads-so h v new number machine (nexts.Done (answers.Refused fault)) rows lanes some free it goes is = subst (OneLane h) (sym is) (record {
      number = number;
      state = Over (answers.Refused fault);
      lanes = ap (λ (ls : List Lane). slice_set ls 0 (record { number = number; state = Over (answers.Refused fault) })) lanes;
      so = tt;
    })
