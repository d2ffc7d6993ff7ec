-- What is known of a byte by the history goes on being known, as entries come and calls are made and answered.
use Rattle.core_session.proofs.Prelude.{◌≡◌, ◌⊎◌, inl, inr, ◌≤◌, ◌-◌, ℕ, List, [], ◌∷◌, ◌++◌, length, Bool, true, false, nat_eq, Option, Some, None, Result, refl, sym, ap, subst, ◌∙◌, arith, slice_index, eqb-true, xid_at, Waiting, next_xid, made_call, waiting_at, without, others_made, others_taken, gone, Fault, Entry, Began, Sent, Delivered, Call, Reply, Op, SpellsCall, proc_of, At-cases, length_last, Step, Turn, Mounted, Machine, of_file, Flown, fly_at, piece_under, covers, fly-some, fly-under, EachSound, flown-from, Purpose, Busy, Setup, with_state, record_of, Leads, Stirs, counted, StartsLane, TakesAt, View, turn_at, IsUnsent, taken_one, Known, Rows, same-rows, rows-grow, silent-grow, taken-quiet, not-sent, taken-rows, one-call, written_file, IsInFlight, SameCalls}
use Rattle.nfs_file_calls.specs.declared.call.FileCall.TheVariants as file_calls
use Rattle.world_model.specs.declared.message.Call.TheVariants as calls
use Rattle.client_shelf.specs.declared.step.Step.TheVariants as nexts
use Rattle.write_back.specs.Pieces.{Sent as Piece}
use Rattle.core_session.proofs.saves.Evidenced.{stable-grow}
use Rattle.core_session.proofs.saves.Told.{held-grow, held-calls}
use Rattle.core_session.proofs.saves.WholeSteps.{Wholly}
use Rattle.core_session.proofs.syncs.Showings.{Fresh, Wrote, Made}

-- ---- one entry more

pub fresh-grow : (h : List Entry) (e : Entry) (k y : ℕ) → k ≤ length h → Fresh h k y → Fresh (h ++ e ∷ []) k y
fresh-grow h e k y low fresh j b at has = elim (At-cases h e j (Sent b) at) [
  | inl p ↦ fresh j b p has
  | inr q ↦ let is = q.0 in omega (arith, is, low)
]

-- no record under the next xid was sent
pub unused-fresh : (setup : Setup) (h : List Entry) (old : View) → Known setup h old → (k : ℕ) → Fresh h k (next_xid old.calls)
unused-fresh setup h old k from j b at has = let low = k.rows.used j (next_xid old.calls) b at has in absurd (omega (arith, low))

-- ---- the calls that wait

-- each that waits now waited before, or wasn't sent yet
abbrev pub CallsKept : List Entry → List (ℕ × Waiting Purpose) → List (ℕ × Waiting Purpose) → Type 0
CallsKept h old new = (xid : ℕ) (w : Waiting Purpose) → waiting_at xid new ≡ Some w → ((u : Waiting Purpose) × (waiting_at xid old ≡ Some u) × (u.bytes ≡ w.bytes)) ⊎ IsUnsent h xid

pub calls-same : (h : List Entry) (old new : List (ℕ × Waiting Purpose)) → new ≡ old → CallsKept h old new
calls-same h old new is xid w at = inl (w, ap (waiting_at xid) (sym is) ∙ at, refl)

pub calls-then : (h : List Entry) (old mid new : List (ℕ × Waiting Purpose)) → CallsKept h old mid → CallsKept h mid new → CallsKept h old new
calls-then h old mid new first then_ xid w at = by (then_ xid w at)
  where
    early : (u : Waiting Purpose) → u.bytes ≡ w.bytes → ((z : Waiting Purpose) × (waiting_at xid old ≡ Some z) × (z.bytes ≡ u.bytes)) ⊎ IsUnsent h xid
        → ((z : Waiting Purpose) × (waiting_at xid old ≡ Some z) × (z.bytes ≡ w.bytes)) ⊎ IsUnsent h xid
    early u same (inl z) = inl (z.0, z.1, z.2 ∙ same)
    early u same (inr unsent) = inr unsent

    by : ((u : Waiting Purpose) × (waiting_at xid mid ≡ Some u) × (u.bytes ≡ w.bytes)) ⊎ IsUnsent h xid
        → ((z : Waiting Purpose) × (waiting_at xid old ≡ Some z) × (z.bytes ≡ w.bytes)) ⊎ IsUnsent h xid
    by (inl u) = early u.0 u.2 (first xid u.0 u.1)
    by (inr unsent) = inr unsent

pub calls-as : (h : List Entry) (old new : List (ℕ × Waiting Purpose)) → SameCalls old new → CallsKept h old new
calls-as h old new same xid w at = let k = same.waited xid w at in inl (k.was, k.waited, sym k.bytes)

-- what a step leads to
leads-calls : (setup : Setup) (h : List Entry) (v new : View) (at number : ℕ) (machine : Machine) (next : Step) → Rows setup h v → Leads v at number machine next new
    → CallsKept h v.calls.calls new.calls.calls
leads-calls setup h v new at number machine (nexts.Send call) rows (inl mk) = subst (λ (z : View). CallsKept h v.calls.calls z.calls.calls) (sym mk.is) was
  where
    row : Waiting Purpose
    row = made_call (record_of v call mk.args) (record { lane = number; proc = proc_of call; sent = turn_at v })

    was : CallsKept h v.calls.calls (v.calls.calls ++ (next_xid v.calls, row) ∷ [])
    was xid w is = by (nat_eq xid (next_xid v.calls)) refl
      where
        by : (b : Bool) → nat_eq xid (next_xid v.calls) ≡ b → ((u : Waiting Purpose) × (waiting_at xid v.calls.calls ≡ Some u) × (u.bytes ≡ w.bytes)) ⊎ IsUnsent h xid
        by true d = inr (λ i b there has. let low = rows.used i xid b there has in let same = eqb-true xid (next_xid v.calls) d in omega (arith, low, same))
        by false d = inl (w, sym (others_made xid (next_xid v.calls) v.calls.calls row d) ∙ is, refl)
leads-calls setup h v new at number machine (nexts.Send call) rows (inr f) = calls-same h v.calls.calls new.calls.calls (ap (λ (z : View). z.calls.calls) f.is)
leads-calls setup h v new at number machine nexts.Wait rows is = calls-same h v.calls.calls new.calls.calls (ap (λ (z : View). z.calls.calls) is)
leads-calls setup h v new at number machine (nexts.Done answer) rows is = calls-same h v.calls.calls new.calls.calls (ap (λ (z : View). z.calls.calls) is)

pub calls-stirs : (setup : Setup) (h : List Entry) (old new : View) (at : ℕ) → Known setup h old → Stirs old at new → CallsKept h old.calls.calls new.calls.calls
calls-stirs setup h old new at k t =
    let v : View = with_state old at t.number (Busy t.after) t.shelf in
    leads-calls setup h v new at t.number t.after t.next (same-rows setup h old v refl k.rows) t.leads

pub calls-starts : (setup : Setup) (h : List Entry) (old new : View) (lane line : ℕ) (op : Op) (now : ℕ) (machine : Machine) → Known setup h old → StartsLane (counted old now) lane machine new
    → CallsKept (h ++ Began lane line op ∷ []) old.calls.calls new.calls.calls
calls-starts setup h old new lane line op now machine k t =
    let later = h ++ Began lane line op ∷ [] in
    let v : View = record (counted old now) { lanes = old.lanes ++ record { number = lane; state = Busy t.after } ∷ []; shelf = t.shelf } in
    leads-calls setup later v new (length old.lanes) lane t.after t.next
    (same-rows setup later old v refl (silent-grow setup h (Began lane line op) old (record { sent = λ bytes is. cc; came = λ bytes is. cc }) k.rows)) t.leads

pub calls-takes : (setup : Setup) (h : List Entry) (old new : View) (rec : List ℕ) (xid at : ℕ) (sent : Turn) (came : Result Reply Fault) → Known setup h old → xid_at rec ≡ Some xid
    → TakesAt (taken_one old xid) at sent came new → CallsKept (h ++ Delivered rec ∷ []) old.calls.calls new.calls.calls
calls-takes setup h old new rec xid at sent came k named t = calls-then later old.calls.calls (without xid old.calls.calls) new.calls.calls rest (leads-calls setup later v new at t.number t.after t.next rows t.leads)
  where
    later : List Entry
    later = h ++ Delivered rec ∷ []

    v : View
    v = with_state (taken_one old xid) at t.number (Busy t.after) t.shelf

    rows : Rows setup later v
    rows = same-rows setup later (taken_one old xid) v refl
        (rows-grow setup h (Delivered rec) (taken_one old xid) (taken-quiet setup h old rec xid k.rows named) (not-sent rec) (taken-rows setup h old xid k.rows))

    rest : CallsKept later old.calls.calls (without xid old.calls.calls)
    rest y w is = by (nat_eq y xid) refl
      where
        by : (b : Bool) → nat_eq y xid ≡ b → ((u : Waiting Purpose) × (waiting_at y old.calls.calls ≡ Some u) × (u.bytes ≡ w.bytes)) ⊎ IsUnsent later y
        by true d =
            let here : y ≡ xid = eqb-true y xid d in
            let none : waiting_at xid (without xid old.calls.calls) ≡ None = gone old.calls.cred old.calls.first_xid (next_xid old.calls) xid old.calls.calls k.rows.sound.calls.each in
            let no_way : None ≡ Some w = sym none ∙ ap (λ (n : ℕ). waiting_at n (without xid old.calls.calls)) (sym here) ∙ is in
            absurd cc
        by false d = inl (w, sym (others_taken y xid old.calls.calls d) ∙ is, refl)

-- ---- what is known of the byte

module _ (f : List ℕ) (place byte : ℕ) where
  pub wrote-kept : (h : List Entry) (old new : List (ℕ × Waiting Purpose)) (k : ℕ) (held : List ℕ) → CallsKept h old new → Wrote f place byte h old k held → Wrote f place byte h new k held
  wrote-kept h old new k held kept w = held-calls h k old new f place byte held kept w

  pub wrote-grow : (h : List Entry) (e : Entry) (old new : List (ℕ × Waiting Purpose)) (k : ℕ) (held : List ℕ) → CallsKept (h ++ e ∷ []) old new → Wrote f place byte h old k held
      → Wrote f place byte (h ++ e ∷ []) new k held
  wrote-grow h e old new k held kept w = wrote-kept (h ++ e ∷ []) old new k held kept (held-grow h e k old f place byte held w)

  pub made-grow : (h : List Entry) (e : Entry) (k : ℕ) → Made f place byte h k → Made f place byte (h ++ e ∷ []) k
  made-grow h e k made = stable-grow h (e ∷ []) k (length h) (length (h ++ e ∷ [])) f place byte (let more = length_last h e in omega (arith, more)) made

-- ---- what a call that waits carries is in flight

record IsPieceOf (offset : ℕ) (bytes : List ℕ) (piece : Piece) : Type 0 where
  offset_is : offset ≡ piece.offset
  bytes_is : bytes ≡ piece.bytes

same-write : (f g : List ℕ) (a b c d : ℕ) (x y : List ℕ) → ◌≡◌ {A = Call} (calls.File (file_calls.Write f a b x)) (calls.File (file_calls.Write g c d y)) → (a ≡ c) × (x ≡ y)
same-write f g a b c d x y e = (cc, cc)

module _ (m : Mounted) (setup : Setup) (h : List Entry) (old : View) (i : Wholly setup h old) (sound : EachSound old.shelf.back) (f : List ℕ) (place : ℕ) where
  pub sent-carries : (xid : ℕ) (call : Waiting Purpose) → waiting_at xid old.calls.calls ≡ Some call → (y offset how : ℕ) (bytes : List ℕ)
      → SpellsCall y (calls.File (file_calls.Write f offset how bytes)) call.bytes → covers offset (length bytes) place ≡ true
      → (flown : Flown) × (fly_at (of_file f old.shelf.back) place ≡ Some flown) × (flown.byte ≡ slice_index bytes (place - offset))
  sent-carries xid call waits y offset how bytes spells inside =
      let whole = i.all xid call waits in
      let same : calls.File (file_calls.Write f offset how bytes) ≡ whole.call = one-call y xid (calls.File (file_calls.Write f offset how bytes)) whole.call call.bytes tt spells whole.spells.spells in
      let here : IsInFlight xid f whole.call old.shelf.back = whole.has f (ap written_file (sym same)) in
      let is = same-write f f offset how here.piece.offset here.piece.how bytes here.piece.bytes (same ∙ here.is) in
      let covered : covers here.piece.offset (length here.piece.bytes) place ≡ true =
      subst (λ (o : ℕ). covers o (length here.piece.bytes) place ≡ true) is.0 (subst (λ (b : List ℕ). covers offset (length b) place ≡ true) is.1 inside) in
      by here.piece here.there is.0 is.1 covered (fly_at (of_file f old.shelf.back) place) refl
    where
      by : (piece : Piece) → piece_under xid (of_file f old.shelf.back).pieces ≡ Some piece → offset ≡ piece.offset → bytes ≡ piece.bytes → covers piece.offset (length piece.bytes) place ≡ true
          → (o : Option Flown) → fly_at (of_file f old.shelf.back) place ≡ o
          → (flown : Flown) × (fly_at (of_file f old.shelf.back) place ≡ Some flown) × (flown.byte ≡ slice_index bytes (place - offset))
      by piece there from text covered None none = absurd (fly-some xid (of_file f old.shelf.back).pieces piece place (sound f).sent there covered none)
      by piece there from text covered (Some flown) flies =
          let own = flown-from piece place flown (sym (fly-under xid (of_file f old.shelf.back).pieces piece place (sound f).sent there covered) ∙ flies) in
          (flown, flies, own.byte ∙ ap (λ (b : List ℕ). slice_index b (place - piece.offset)) (sym text) ∙ ap (λ (n : ℕ). slice_index bytes (place - n)) (sym from))
