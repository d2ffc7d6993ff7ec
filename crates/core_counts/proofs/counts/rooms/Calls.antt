-- The COMMITs of a file that a session has made, by their xids, and how often those that wait may still be made again.
use Rattle.core_counts.proofs.Prelude.{◌≡◌, ◌≢◌, ◌<◌, ◌≤◌, ◌+◌, ◌-◌, ◌*◌, ◌⊎◌, inl, inr, ℕ, nat_eq, Bool, true, false, List, [], ◌∷◌, ◌++◌, length, Option, Some, None, Result, Err, refl, sym, ap, subst, ◌∙◌, arith, eqb-true, Waiting, Held, next_xid, made_call, waiting_at, at_made, others_made, Fault, Call, Reply, IsCommitOf, SpellsCall, proc_of, ended, Step, Send, Repeat, Shelf, Turn, Machine, Takes, Purpose, Setup, record_of, Makes, View, turn_at, in_flight, Rows, made-known, made-asked, AskedOf, one-call, machine-fits, Calls, count, ended-is, Calm, took-any}
use Rattle.client_shelf.specs.Repeats.{answered, times_of}
use Rattle.client_core.specs.Steps.{IsUnmade}
use Rattle.core_session.proofs.delays.Tables.{left-count, push-count}
use Rattle.world_model.specs.declared.answer.Fault.TheVariants as faults
use Rattle.claims.specs.Terms.{jukebox}
use Rattle.core_answers.proofs.answers.SaveFaults.{CallFaults}
use Rattle.core_answers.proofs.refusals.Replied.{Given}
use Rattle.core_session.proofs.delays.Took.{Took as TookTable}
use Rattle.core_counts.proofs.counts.commits.Counted.{is-nfs}
use Rattle.core_counts.proofs.counts.engine.Steps.{err-ok}
use Rattle.core_counts.proofs.counts.rooms.Numbers.{In, pot, pot_if, pot-most, sum_of, sum-less}

-- the record is that of such a COMMIT
pub record Such (f bytes : List ℕ) : Type 0 where
  pub xid : ℕ
  pub call : Call
  pub spells : SpellsCall xid call bytes
  pub is : IsCommitOf f call

-- ---- the table

-- of a call that wasn't answered, and isn't the one that is made again, it says what it said
pub table-other : (b : Bool) (n m y : ℕ) (rs later : List Repeat) → later ≡ answered b n m rs → y ≢ n → y ≢ m → count y later ≡ count y rs
table-other true n m y rs later is apart off =
    ap (count y) is ∙ push-count y (ended n rs) (record { xid = m; times = times_of n rs + 1 }) off ∙ ap (count y) (ended-is n rs) ∙ left-count y n rs apart
table-other false n m y rs later is apart off = ap (count y) is ∙ ap (count y) (ended-is n rs) ∙ left-count y n rs apart

-- ---- a call that isn't made

none-off : (v : View) (fault : Fault) → IsUnmade v fault → fault ≡ faults.Nfs jukebox → ⊥
none-off v faults.Spent u same = absurd (cc)
none-off v faults.Memory u same = absurd (cc)
none-off v faults.Lost u same = absurd u
none-off v (faults.Nfs status) u same = absurd u
none-off v (faults.Rpc n) u same = absurd u
none-off v (faults.Bad rule) u same = absurd u
none-off v faults.Slot u same = absurd u
none-off v faults.Mode u same = absurd u
none-off v faults.Kind u same = absurd u
none-off v faults.Many u same = absurd u

abbrev NotOff : Fault → Type 0
NotOff fault = fault ≡ faults.Nfs jukebox → ⊥

not-own : CallFaults NotOff
not-own = record { memory = λ same. absurd (cc) }

any-own : CallFaults (λ (fault : Fault). Unit {0})
any-own = record { memory = tt }

one-fault : (a b : Fault) → ◌≡◌ {A = Result Reply Fault} (Err a) (Err b) → a ≡ b
one-fault a b e = cc

-- the table after it
pub unmade-table : (v : View) (machine : Machine) (call : Call) (fault : Fault) (sent turn : Turn) (next : Step) (new : Machine) (after : Shelf) → IsUnmade v fault → 1 ≤ in_flight machine
    → AskedOf Calls (Send call) machine → Takes v.wsize machine sent turn (Err fault) v.shelf next new after → (b : Bool) × (after.repeats ≡ answered b sent.xid turn.xid v.shelf.repeats)
unmade-table v machine call fault sent turn next new after unmade some asked t = (_, took.later_is)
  where
    given : Given NotOff not-own 0 [] call (Err fault)
    given = record {
      ok = λ reply same. err-ok _ fault reply same;
      err = λ other same. subst NotOff (one-fault fault other same) (none-off v fault unmade);
      give = λ reply same. err-ok _ fault reply same;
    }

    took : TookTable NotOff sent turn v.shelf.repeats after.repeats (next ≡ Send call) (Calm (λ (fault : Fault). Unit {0}) any-own (Err fault) next machine)
    took = took-any NotOff not-own sent turn (Err fault) call (λ off. err-ok _ fault off.reply off.is) (λ (fault : Fault). Unit {0}) any-own (λ fault same. tt) machine v.wsize v.shelf
        next new after some asked.0 asked.1 (λ reply same. err-ok _ fault reply same)
        (machine-fits NotOff not-own 0 [] call (Err fault) given sent v.shelf.back (λ reply same. err-ok _ fault reply same) machine asked.0 asked.1 (λ opens same. absurd (cc))
        (λ lists same. absurd (cc))) t

-- ---- the calls of a view

module _ (f : List ℕ) where
  -- the COMMITs that wait are some of these, and so is each that comes
  pub record Waiting_ (made : List ℕ) (v : View) : Type 0 where
    pub first : 1 ≤ next_xid v.calls
    pub some : (y : ℕ) → In y made → 1 ≤ y
    pub below : (y : ℕ) → In y made → y < next_xid v.calls
    pub waits : (xid : ℕ) (w : Waiting Purpose) → waiting_at xid v.calls.calls ≡ Some w → Such f w.bytes → In xid made

  abbrev pub pots : View → List ℕ → ℕ
  pots v made = sum_of (pot v.calls.calls v.shelf.repeats) made

  -- so many more of them were made, of the allowance alone, where so much was held for those that wait
  pub record Ends (made : List ℕ) (held spent : ℕ) (new : View) : Type 0 where
    pub all : List ℕ
    pub more : (y : ℕ) → In y made → In y all
    pub waiting : Waiting_ all new
    pub fits : length all + pots new all ≤ length made + held + 4 * spent

  -- How the next call counts: as a fresh one; or as one that is made again, for which so much was held.
  pub data Counts_ (made : List ℕ) (held : ℕ) (v : View) (next : Step) (Fresh : Type 0) : Type 0 where
    fresh : Fresh → pots v made ≤ held → Counts_ made held v next Fresh
    other : ((call : Call) → next ≡ Send call → IsCommitOf f call → ⊥) → pots v made ≤ held → Counts_ made held v next Fresh
    again_ : (d : ℕ) → (3 - count (next_xid v.calls) v.shelf.repeats) + 1 ≤ d → pots v made + d ≤ held → Counts_ made held v next Fresh

  pub held-enough : (made : List ℕ) (held : ℕ) (v : View) (next : Step) (Fresh : Type 0) → Counts_ made held v next Fresh → pots v made ≤ held
  held-enough made held v next Fresh (fresh is enough) = enough
  held-enough made held v next Fresh (other none enough) = enough
  held-enough made held v next Fresh (again_ d one enough) = omega (arith, enough)

  -- nothing is made
  pub ends-same : (made : List ℕ) (held : ℕ) (v : View) → Waiting_ made v → pots v made ≤ held → Ends made held 0 v
  ends-same made held v w enough = record { all = made; more = λ y there. there; waiting = w; fits = omega (arith, enough) }

  module _ (setup : Setup) (h : _) (v : View) (rows : Rows setup h v) (early : (y : ℕ) (w : Waiting Purpose) → waiting_at y v.calls.calls ≡ Some w → y < next_xid v.calls) (made : List ℕ) (w_ : Waiting_ made v)
      (number : ℕ) (call : Call) (new : View) (k : Makes v number call new) where
    abbrev purpose : Waiting Purpose
    purpose = made_call (record_of v call k.args) (record { lane = number; proc = proc_of call; sent = turn_at v })

    abbrev later : List (ℕ × Waiting Purpose)
    later = v.calls.calls ++ (next_xid v.calls, purpose) ∷ []

    next-is : v.calls.first_xid + (v.calls.made + 1) ≡ next_xid v.calls + 1
    next-is = omega arith

    -- what waits after it
    was-waiting : (xid : ℕ) (w : Waiting Purpose) → waiting_at xid later ≡ Some w → (waiting_at xid v.calls.calls ≡ Some w) ⊎ ((xid ≡ next_xid v.calls) × (w.bytes ≡ record_of v call k.args))
    was-waiting xid w at = by (nat_eq xid (next_xid v.calls)) refl
      where
        some-call : (a b : Waiting Purpose) → Some a ≡ Some b → a ≡ b
        some-call a b e = cc

        by : (b : Bool) → nat_eq xid (next_xid v.calls) ≡ b → (waiting_at xid v.calls.calls ≡ Some w) ⊎ ((xid ≡ next_xid v.calls) × (w.bytes ≡ record_of v call k.args))
        by false d = inl (sym (others_made xid (next_xid v.calls) v.calls.calls purpose d) ∙ at)
        by true d =
            let same = eqb-true xid (next_xid v.calls) d in
            inr (
              same,
              ap (λ (c : Waiting Purpose). c.bytes)
                  (sym (some-call purpose w (sym (at_made v.calls.cred v.calls.first_xid (next_xid v.calls) xid (next_xid v.calls) v.calls.calls purpose rows.sound.calls.each same refl) ∙ at))),
            )

    -- a record that spells such a call is that of one
    such-is : Such f (record_of v call k.args) → IsCommitOf f call
    such-is s =
        let known = made-known setup h v number call new k rows in
        subst (IsCommitOf f) (one-call s.xid (next_xid v.calls) s.call known.made.asked (record_of v call k.args) (is-nfs f s.call s.is) s.spells known.made.spells.spells ∙ made-asked setup h v number call new k rows) s.is

    pot-same : (y : ℕ) → In y made → pot later v.shelf.repeats y ≤ pot v.calls.calls v.shelf.repeats y
    pot-same y there =
        let low = w_.below y there in
        let same = others_made y (next_xid v.calls) v.calls.calls purpose (different (nat_eq y (next_xid v.calls)) refl low) in
        let is : pot later v.shelf.repeats y ≡ pot v.calls.calls v.shelf.repeats y = ap (λ (o : Option (Waiting Purpose)). pot_if o (count y v.shelf.repeats)) same in
        omega (arith, is)
      where
        different : (b : Bool) → nat_eq y (next_xid v.calls) ≡ b → y < next_xid v.calls → nat_eq y (next_xid v.calls) ≡ false
        different false d low = d
        different true d low = let same = eqb-true y (next_xid v.calls) d in absurd (omega (arith, low, same))

    pub ends-other : (IsCommitOf f call → ⊥) → (held : ℕ) → pots v made ≤ held → Ends made held 0 new
    ends-other none held enough = subst (Ends made held 0) (sym k.is) (record {
      all = made;
      more = λ y there. there;
      waiting = record {
        first = let next = next-is in omega (arith, next);
        some = w_.some;
        below = λ y there. let low = w_.below y there in let next = next-is in omega (arith, low, next);
        waits = λ xid w at such. elim (was-waiting xid w at) [
          | inl was ↦ w_.waits xid w was such
          | inr now ↦ absurd (none (such-is (subst (Such f) now.1 such)))
        ];
      };
      fits = let less = sum-less (pot v.calls.calls v.shelf.repeats) (pot later v.shelf.repeats) made pot-same in omega (arith, less, enough);
    })

    abbrev all_ : List ℕ
    all_ = next_xid v.calls ∷ made

    one-more : (held spent extra : ℕ) → pot later v.shelf.repeats (next_xid v.calls) ≤ extra → 1 + extra + pots v made ≤ held + 4 * spent → Ends made held spent new
    one-more held spent extra most enough = subst (Ends made held spent) (sym k.is) (record {
      all = all_;
      more = λ y there. inr there;
      waiting = record {
        first = let next = next-is in omega (arith, next);
        some = λ y there. some y there;
        below = λ y there. below y there;
        waits = λ xid w at such. elim (was-waiting xid w at) [
          | inl was ↦ inr (w_.waits xid w was such)
          | inr now ↦ inl (sym now.0)
        ];
      };
      fits = let less = sum-less (pot v.calls.calls v.shelf.repeats) (pot later v.shelf.repeats) made pot-same in omega (arith, less, most, enough);
    })
      where
        some : (y : ℕ) → In y all_ → 1 ≤ y
        some y (inl same) = let low = w_.first in omega (arith, same, low)
        some y (inr there) = w_.some y there

        below : (y : ℕ) → In y all_ → y < v.calls.first_xid + (v.calls.made + 1)
        below y (inl same) = let next = next-is in omega (arith, same, next)
        below y (inr there) = let low = w_.below y there in let next = next-is in omega (arith, low, next)

    pub ends-fresh : (held : ℕ) → pots v made ≤ held → Ends made held 1 new
    ends-fresh held enough = one-more held 1 3 (pot-most later v.shelf.repeats (next_xid v.calls)) (omega (arith, enough))

    pub ends-again : (held d : ℕ) → (3 - count (next_xid v.calls) v.shelf.repeats) + 1 ≤ d → pots v made + d ≤ held → Ends made held 0 new
    ends-again held d one enough = one-more held 0 (3 - count (next_xid v.calls) v.shelf.repeats) (within (waiting_at (next_xid v.calls) later)) (omega (arith, one, enough))
      where
        within : (o : Option (Waiting Purpose)) → pot_if o (count (next_xid v.calls) v.shelf.repeats) ≤ 3 - count (next_xid v.calls) v.shelf.repeats
        within None = omega arith
        within (Some w) = omega arith

  -- a call that isn't made leaves the calls as they are
  pub ends-unmade : (v new : View) (made : List ℕ) (held n m : ℕ) (b : Bool) → Waiting_ made v → new.calls ≡ v.calls → new.shelf.repeats ≡ answered b n m v.shelf.repeats → ((y : ℕ) → In y made → y ≢ n)
      → ((y : ℕ) → In y made → y ≢ m) → pots v made ≤ held → Ends made held 0 new
  ends-unmade v new made held n m b w_ calls table off apart enough = record {
    all = made;
    more = λ y there. there;
    waiting = record {
      first = let low = w_.first in let same = ap (λ (c : Held Purpose). next_xid c) calls in omega (arith, low, same);
      some = w_.some;
      below = λ y there. let low = w_.below y there in let same = ap (λ (c : Held Purpose). next_xid c) calls in omega (arith, low, same);
      waits = λ xid w at such. w_.waits xid w (ap (λ (c : Held Purpose). waiting_at xid c.calls) (sym calls) ∙ at) such;
    };
    fits =
        let less = sum-less (pot v.calls.calls v.shelf.repeats) (pot new.calls.calls new.shelf.repeats) made same-pot in
        omega (arith, less, enough);
  }
    where
      same-pot : (y : ℕ) → In y made → pot new.calls.calls new.shelf.repeats y ≤ pot v.calls.calls v.shelf.repeats y
      same-pot y there =
          let one : pot new.calls.calls new.shelf.repeats y ≡ pot_if (waiting_at y v.calls.calls) (count y new.shelf.repeats) = ap (λ (c : Held Purpose). pot_if (waiting_at y c.calls) (count y new.shelf.repeats)) calls in
          let two : pot_if (waiting_at y v.calls.calls) (count y new.shelf.repeats) ≡ pot v.calls.calls v.shelf.repeats y =
          ap (pot_if (waiting_at y v.calls.calls)) (table-other b n m y v.shelf.repeats new.shelf.repeats table (off y there) (apart y there)) in
          omega (arith, one, two)
