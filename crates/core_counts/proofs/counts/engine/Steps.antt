-- The book is kept by each step of a lane, and by each entry.
use Rattle.core_counts.proofs.Prelude.{◌≡◌, ◌≢◌, ◌<◌, ◌≤◌, ◌+◌, ◌-◌, ◌&&◌, inl, inr, ℕ, List, [], ◌∷◌, ◌++◌, length, Bool, true, false, nat_eq, Some, slice_set, Result, Ok, Err, refl, sym, ap, subst, ◌∙◌, arith, length-append, eqb-true, eqb-false, Waiting, next_xid, waiting_at, Answer, Fault, Entry, Began, Call, Reply, Op, At, Step, Send, Wait, Done, Repeat, repeats_after, ended, Mounted, Machine, Lane, Purpose, State, Busy, Over, Setup, with_state, IsRefused, Leads, View, turn_at, unmade_turn, in_flight, Rows, Going, machine-fits, ended-is, IsWaiting, Each, Calm, took-any}
use Rattle.std.proofs.Common.{nat_lt}
use Rattle.world_model.specs.declared.answer.Fault.TheVariants as faults
use Rattle.claims.specs.Terms.{jukebox}
use Rattle.client_core.specs.Steps.{IsUnmade, Refuses as RefusesStep}
use Rattle.core_answers.proofs.answers.SaveFaults.{CallFaults}
use Rattle.core_answers.proofs.refusals.Replied.{Given}
use Rattle.core_session.proofs.delays.Tables.{left as left_of, AreApart, each-map, each-free, left-apart, left-each, left-count}
use Rattle.core_session.proofs.delays.Took.{Took as TookTable}
use Rattle.core_counts.proofs.counts.engine.Laws.{IsUnmadeFault, unmade, never_made, Took, again, on, SeenLaws}
use Rattle.core_counts.proofs.counts.engine.Ledger.{Row}
use Rattle.core_counts.proofs.counts.engine.Account.{Account, account-less, account-still}
use Rattle.core_counts.proofs.counts.engine.Book.{Near, Counted, Sound, Lone, Budget, Book, AreOneEach, Due, Joining, Own, Owing, budget-set, left-set, own-lane, own-as, early, made-book}

-- ---- tables

pub one-longer : (rs : List Repeat) (r : Repeat) → rs ≡ rs ++ r ∷ [] → ⊥
one-longer rs r same = let more = length-append rs (r ∷ []) in let size = ap length same in absurd (omega (arith, more, size))

pub few-times : (b : Bool) (times many : ℕ) → (b && nat_lt times 3 && nat_lt many 32) ≡ true → nat_lt times 3 ≡ true
few-times true times many is = by (nat_lt times 3) refl is
  where
    by : (c : Bool) → nat_lt times 3 ≡ c → (true && c && nat_lt many 32) ≡ true → nat_lt times 3 ≡ true
    by true e is = e
    by false e is = absurd (let no_way : false ≡ true = is in cc)
few-times false times many is = absurd (let no_way : false ≡ true = is in cc)

pub err-ok : (R : Type 0) (fault : Fault) (reply : Reply) → ◌≡◌ {A = Result Reply Fault} (Err fault) (Ok reply) → R
err-ok R fault reply e = absurd (cc)

one-fault : (a b : Fault) → ◌≡◌ {A = Result Reply Fault} (Err a) (Err b) → a ≡ b
one-fault a b e = cc

module _ (m : Mounted) (setup : Setup) (H : List Entry) (V : View) (P : Call → Type 0) (Q : Call → ℕ → List ℕ → Type 0) (is : Op → Type 0) (base : Op → ℕ)
    (Left : List Entry → ℕ → Op → Machine → ℕ → Type 0) (laws : SeenLaws m setup H P Q is base Left) where
  abbrev pub BookAt : List Entry → View → Type 0
  BookAt = Book m setup H V P Q is base Left

  abbrev pub SoundAt : List Row → List Entry → ℕ → Type 0
  SoundAt = Sound m setup H V P Q is base Left

  abbrev pub CountedAt : List Row → List Entry → List (ℕ × Waiting Purpose) → List Repeat → Type 0
  CountedAt = Counted m setup H V P Q is base Left

  abbrev pub LoneAt : List Row → List (ℕ × Waiting Purpose) → Type 0
  LoneAt = Lone m setup H V P Q is base Left

  abbrev pub NearAt : List Row → ℕ → ℕ → Op → Call → ℕ → Type 0
  NearAt = Near m setup H V P Q is base Left

  abbrev pub BudgetAt : List Row → List Entry → List Lane → ℕ → Op → Type 0
  BudgetAt = Budget m setup H V P Q is base Left

  abbrev pub OwnAt : List Row → List Entry → View → ℕ → Op → Machine → Step → Type 0
  OwnAt = Own m setup H V P Q is base Left

  abbrev pub OwingAt : List Row → List Entry → View → ℕ → ℕ → ℕ → Op → Machine → Step → Type 0
  OwingAt = Owing m setup H V P Q is base Left

  abbrev pub DueAt : View → Step → ℕ → Type 0
  DueAt = Due m setup H V P Q is base Left

  abbrev pub JoiningAt : List Row → View → ℕ → Op → Call → ℕ → Type 0
  JoiningAt = Joining m setup H V P Q is base Left

  abbrev pub OneEach : List Lane → Type 0
  OneEach = AreOneEach m setup H V P Q is base Left

  abbrev pub AccountOf : List Row → List Entry → ℕ → Op → ℕ → Type 0
  AccountOf = Account P Q base

  -- ---- an operation's call can't be made

  module _ (rows : List Row) (h : List Entry) (v : View) (r : Rows setup h v) where
    abbrev next_one : ℕ
    next_one = next_xid v.calls

    early-one : (xid : ℕ) (w : Waiting Purpose) → waiting_at xid v.calls.calls ≡ Some w → xid < next_xid v.calls
    early-one = early m setup H V P Q is base Left rows h v r

    none-off : (fault : Fault) → IsUnmade v fault → fault ≡ faults.Nfs jukebox → ⊥
    none-off faults.Spent u same = absurd (cc)
    none-off faults.Memory u same = absurd (cc)
    none-off faults.Lost u same = absurd u
    none-off (faults.Nfs status) u same = absurd u
    none-off (faults.Rpc n) u same = absurd u
    none-off (faults.Bad rule) u same = absurd u
    none-off faults.Slot u same = absurd u
    none-off faults.Mode u same = absurd u
    none-off faults.Kind u same = absurd u
    none-off faults.Many u same = absurd u

    unmade-fault : (fault : Fault) → IsUnmade v fault → IsUnmadeFault fault
    unmade-fault faults.Spent u = tt
    unmade-fault faults.Memory u = tt
    unmade-fault faults.Lost u = absurd u
    unmade-fault (faults.Nfs status) u = absurd u
    unmade-fault (faults.Rpc n) u = absurd u
    unmade-fault (faults.Bad rule) u = absurd u
    unmade-fault faults.Slot u = absurd u
    unmade-fault faults.Mode u = absurd u
    unmade-fault faults.Kind u = absurd u
    unmade-fault faults.Many u = absurd u

    abbrev NotOff : Fault → Type 0
    NotOff fault = fault ≡ faults.Nfs jukebox → ⊥

    not-own : CallFaults NotOff
    not-own = record { memory = λ same. absurd (cc) }

    any-own : CallFaults (λ (fault : Fault). Unit {0})
    any-own = record { memory = tt }

    not-due : (next : Step) (xid : ℕ) → DueAt v next xid × (xid ≢ next_xid v.calls) → IsWaiting v.calls.calls xid
    not-due next xid (inl w, apart) = w
    not-due next xid (inr mine, apart) = absurd (apart mine.0)

    left-counted : CountedAt rows h v.calls.calls v.shelf.repeats → CountedAt rows h v.calls.calls (left_of (next_xid v.calls) v.shelf.repeats)
    left-counted c xid w at made x op u =
        let low = early-one xid w at in
        subst (NearAt rows xid x op made.asked) (sym (left-count xid (next_xid v.calls) v.shelf.repeats (λ same. absurd (omega (arith, low, same))))) (c xid w at made x op u)

    module _ (at number x : ℕ) (op : Op) (machine : Machine) (call : Call) (o : OwingAt rows h v at number x op machine (Send call)) (new : View) (f : RefusesStep v at number machine new) where
      given : Given NotOff not-own 0 [] call (Err f.fault)
      given = record {
        ok = λ reply same. err-ok _ f.fault reply same;
        err = λ fault same. subst NotOff (one-fault f.fault fault same) (none-off f.fault f.unmade);
        give = λ reply same. err-ok _ f.fault reply same;
      }

      took : TookTable NotOff (turn_at v) (unmade_turn v) v.shelf.repeats f.left.repeats (f.next ≡ Send call) (Calm (λ (fault : Fault). Unit {0}) any-own (Err f.fault) f.next machine)
      took = took-any NotOff not-own (turn_at v) (unmade_turn v) (Err f.fault) call (λ off. err-ok _ f.fault off.reply off.is) (λ (fault : Fault). Unit {0}) any-own (λ fault same. tt) machine v.wsize v.shelf
          f.next f.after f.left (o.flight call refl) o.asked.0 o.asked.1 (λ reply same. err-ok _ f.fault reply same)
          (machine-fits NotOff not-own 0 [] call (Err f.fault) given (turn_at v) v.shelf.back (λ reply same. err-ok _ f.fault reply same) machine o.asked.0 o.asked.1 (λ opens same. absurd (cc))
          (λ lists same. absurd (cc))) f.takes

      calm : took.busy ≡ false
      calm = by took.busy refl
        where
          by : (b : Bool) → took.busy ≡ b → b ≡ false
          by true same = absurd (took.fault same refl)
          by false same = refl

      table : f.left.repeats ≡ ended (next_xid v.calls) v.shelf.repeats
      table = took.later_is ∙ ap (λ (b : Bool). repeats_after b (turn_at v) (unmade_turn v) v.shelf.repeats) calm

      left-is : f.left.repeats ≡ left_of (next_xid v.calls) v.shelf.repeats
      left-is = table ∙ ended-is (next_xid v.calls) v.shelf.repeats

      state-left : (next : Step) (state : State) (left : ℕ) → IsRefused f.after next state → Going next (Left h x op f.after left) → (other : Machine) → state ≡ Busy other → Left h x op other left
      state-left Wait state left i g other same = subst (λ (q : Machine). Left h x op q left) (same-busy f.after other (sym i ∙ same)) g
        where
          same-busy : (a b : Machine) → Busy a ≡ Busy b → a ≡ b
          same-busy a b e = cc
      state-left (Done answer) state left i g other same = absurd (let no_way : Over answer ≡ Busy other = sym i ∙ same in cc)
      state-left (Send its) state left i g other same = absurd i

      others-of : (others : ℕ) → 1 ≤ in_flight machine → others ≡ in_flight machine - 1 → in_flight machine ≡ others + 1
      others-of others some same = omega (arith, some, same)

      own-left : is op → (left : ℕ) × AccountOf rows h x op left × ((other : Machine) → f.state ≡ Busy other → Left h x op other left)
      own-left fits = by (laws.takes h x op machine v.wsize (turn_at v) (unmade_turn v) (Err f.fault) v.shelf f.next f.after f.left (in_flight machine - 1) own.left fits own.keeps
          (others-of (in_flight machine - 1) (o.flight call refl) refl) (unmade call f.fault o.asked refl (unmade-fault f.fault f.unmade)) (never_made f.fault refl) f.takes)
        where
          own : OwnAt rows h v x op machine (Send call)
          own = o.own fits

          by : Took P Q Left h x op own.left (turn_at v) (unmade_turn v) (Err f.fault) v.shelf.repeats f.next f.after f.left.repeats
              → (left : ℕ) × AccountOf rows h x op left × ((other : Machine) → f.state ≡ Busy other → Left h x op other left)
          by (again same left less l) = absurd (one-longer (ended (next_xid v.calls) v.shelf.repeats) _ (sym table ∙ same))
          by (on same gain gains s) = (
            s.left,
            account-less P Q base rows h x op s.left (own.left + gain) s.less
                (account-still P Q base f.fault rows h x op (Err f.fault) own.left gain refl gains (account-less P Q base rows h x op own.left own.had own.less own.account)),
            state-left f.next f.state s.left f.leads s.keeps,
          )

      unmade-book : BookAt h new
      unmade-book = subst (BookAt h) (sym f.is) (record {
        rows = rows;
        apart = subst AreApart (sym left-is) (left-apart (next_xid v.calls) v.shelf.repeats o.apart).0;
        waits = subst (Each (IsWaiting v.calls.calls)) (sym left-is)
            (each-map (λ (n : ℕ). DueAt v (Send call) n × (n ≢ next_xid v.calls)) (IsWaiting v.calls.calls) (not-due (Send call)) (left_of (next_xid v.calls) v.shelf.repeats)
            (each-free (DueAt v (Send call)) (next_xid v.calls) (left_of (next_xid v.calls) v.shelf.repeats) (left-apart (next_xid v.calls) v.shelf.repeats o.apart).1
            (left-each (DueAt v (Send call)) (next_xid v.calls) v.shelf.repeats o.waits)));
        counted = subst (CountedAt rows h v.calls.calls) (sym left-is) (left-counted o.counted);
        lone = o.lone;
        sound = o.sound;
        budgets = λ y lane line its began fits. by y lane line its began fits (nat_eq y x) refl;
      })
        where
          lanes_now : List Lane
          lanes_now = slice_set v.lanes at (record { number = number; state = f.state })

          by : (y lane line : ℕ) (its : Op) → At h y (Began lane line its) → is its → (b : Bool) → nat_eq y x ≡ b
              → BudgetAt rows h (slice_set v.lanes at (record { number = number; state = f.state })) y its
          by y lane line its began fits true d =
              own-as m setup H V P Q is base Left rows h (slice_set v.lanes at (record { number = number; state = f.state })) number x op o.under y lane line its began fits (eqb-true y x d)
              (λ own_fits. let k = own-left own_fits in record {
                left = k.0;
                account = k.1;
                keeps = left-set m setup H V P Q is base Left rows h v.lanes at number machine x op o.there o.runs o.under o.lanes f.state k.0 k.2;
              })
          by y lane line its began fits false d =
              budget-set m setup H V P Q is base Left rows h v.lanes at number machine x op o.there o.runs o.under y its f.state (eqb-false y x d) (o.others y lane line its began fits (eqb-false y x d))

    -- ---- no call is asked for

    rests-waits : (next : Step) → ((call : Call) → next ≡ Send call → ⊥) → Each (DueAt v next) v.shelf.repeats → Each (IsWaiting v.calls.calls) v.shelf.repeats
    rests-waits next none waits = each-map (DueAt v next) (IsWaiting v.calls.calls) by v.shelf.repeats waits
      where
        by : (xid : ℕ) → DueAt v next xid → IsWaiting v.calls.calls xid
        by xid (inl w) = w
        by xid (inr mine) = absurd (none mine.1.0 mine.1.1)

    module _ (at number x : ℕ) (op : Op) (machine : Machine) where
      wait-book : OwingAt rows h v at number x op machine Wait → BookAt h v
      wait-book o = record {
        rows = rows;
        apart = o.apart;
        waits = rests-waits Wait (λ call e. absurd (cc)) o.waits;
        counted = o.counted;
        lone = o.lone;
        sound = o.sound;
        budgets = λ y lane line its began fits. by y lane line its began fits (nat_eq y x) refl;
      }
        where
          by : (y lane line : ℕ) (its : Op) → At h y (Began lane line its) → is its → (b : Bool) → nat_eq y x ≡ b → BudgetAt rows h v.lanes y its
          by y lane line its began fits true d =
              own-as m setup H V P Q is base Left rows h v.lanes number x op o.under y lane line its began fits (eqb-true y x d)
              (λ own_fits. let own = o.own own_fits in record {
                left = own.left;
                account = account-less P Q base rows h x op own.left own.had own.less own.account;
                keeps = own-lane m setup H V P Q is base Left h v.lanes at number machine x op o.there o.lanes o.under own.left own.keeps;
              })
          by y lane line its began fits false d = o.others y lane line its began fits (eqb-false y x d)

      done-book : (answer : Answer) → OwingAt rows h v at number x op machine (Done answer) → BookAt h (with_state v at number (Over answer) v.shelf)
      done-book answer o = record {
        rows = rows;
        apart = o.apart;
        waits = rests-waits (Done answer) (λ call e. absurd (cc)) o.waits;
        counted = o.counted;
        lone = o.lone;
        sound = o.sound;
        budgets = λ y lane line its began fits. by y lane line its began fits (nat_eq y x) refl;
      }
        where
          by : (y lane line : ℕ) (its : Op) → At h y (Began lane line its) → is its → (b : Bool) → nat_eq y x ≡ b
              → BudgetAt rows h (slice_set v.lanes at (record { number = number; state = Over answer })) y its
          by y lane line its began fits true d =
              own-as m setup H V P Q is base Left rows h (slice_set v.lanes at (record { number = number; state = Over answer })) number x op o.under y lane line its began fits (eqb-true y x d)
              (λ own_fits. let own = o.own own_fits in record {
                left = own.left;
                account = account-less P Q base rows h x op own.left own.had own.less own.account;
                keeps = left-set m setup H V P Q is base Left rows h v.lanes at number machine x op o.there o.runs o.under o.lanes (Over answer) own.left
                    (λ other same. absurd (let no_way : Over answer ≡ Busy other = same in cc));
              })
          by y lane line its began fits false d =
              budget-set m setup H V P Q is base Left rows h v.lanes at number machine x op o.there o.runs o.under y its (Over answer) (eqb-false y x d)
              (o.others y lane line its began fits (eqb-false y x d))

      pub leads-book : (new : View) (next : Step) → OwingAt rows h v at number x op machine next → Leads v at number machine next new → BookAt h new
      leads-book new (Send call) o (inl k) = made-book m setup H V P Q is base Left rows h v r at number x op machine call o new k
      leads-book new (Send call) o (inr f) = unmade-book at number x op machine call o new f
      leads-book new Wait o same = subst (BookAt h) (sym same) (wait-book o)
      leads-book new (Done answer) o same = subst (BookAt h) (sym same) (done-book answer o)
