-- Before a step: what is due, and who wrote.
use Rattle.core_counts.proofs.Prelude.{◌≡◌, ◌<◌, ◌+◌, ◌-◌, inl, inr, ℕ, true, List, [], ◌∷◌, length, Some, refl, sym, subst, arith, slice_index, Entry, Began, Call, Op, CoversPlace, At, Modes, UnderWay, At-below, At-one, Pending, of_file, IsNewest, rest_at, covers, Step, Opens, IsUnused, Mounted, Machine, Setup, View, IsNfs, StartsHas, EachSound}
use Rattle.core_session.proofs.order.Adds.{EndsWell}
use Rattle.op_machines.specs.declared.file_machine.FileMachine.TheVariants as file_machines
use Rattle.op_machines.specs.declared.machine.Machine.TheVariants as machines
use Rattle.core_session.proofs.calls.GivenBytes.{Gives}
use Rattle.core_counts.proofs.counts.engine.Lists.{Each}
use Rattle.core_counts.proofs.counts.writes.Landing.{unflown}
use Rattle.core_counts.proofs.counts.writes.Stepped.{Held}
use Rattle.core_counts.proofs.counts.writes.Tally.{In, Writer, Tally}
use Rattle.core_counts.proofs.counts.writes.Weights.{due_of, low, any, due-split, below-high, newest-below}

-- ---- before a step

-- Nothing is in flight under the xid of the step, and all numbers are below the next one: so many are due as the place's pending byte may be sent.
pub held-before : (f : List ℕ) (i y s : ℕ) (E : Type 0) (back : Pending) → EachSound back → IsUnused y back → IsNewest (s + 1) back → Held f i y s (due_of any (rest_at (of_file f back) i)) E back
held-before f i y s E back sound free newest =
    let below = newest-below s f back newest i in
    let none = below-high y s (of_file f back) i below in
    let flown = unflown f i y back sound free (low s) in
    let split = due-split s (rest_at (of_file f back) i) in
    record {
      few = omega (arith, flown, split);
      one = omega (arith, none);
      why = λ some. absurd (omega (arith, none, some));
    }

-- what is known of the bytes with which a write begins
pub starts-with : (A B C : List ℕ → ℕ → List ℕ → Type 0) (m : Machine) (slots : Opens) (next : Step) → ((f : List ℕ) (o : ℕ) (b : List ℕ) → EndsWell next → A f o b → B f o b → C f o b)
    → StartsHas A m slots next → StartsHas B m slots next → StartsHas C m slots next
starts-with A B C (machines.File (file_machines.Open m)) slots next all a b = tt
starts-with A B C (machines.File (file_machines.Read m)) slots next all a b = tt
starts-with A B C (machines.File (file_machines.Write m)) slots next all a b = λ file found well. all file _ _ well (a file found well) (b file found well)
starts-with A B C (machines.File (file_machines.Sync m)) slots next all a b = tt
starts-with A B C (machines.File (file_machines.Close m)) slots next all a b = tt
starts-with A B C (machines.File (file_machines.Truncate m)) slots next all a b = tt
starts-with A B C (machines.File (file_machines.Put m)) slots next all a b = tt
starts-with A B C (machines.Path m) slots next all a b = tt
starts-with A B C (machines.Name m) slots next all a b = tt

pub began-lane : (a b c d : ℕ) (o p : Op) → Began a b o ≡ Began c d p → a ≡ c
began-lane a b c d o p e = cc

pub is-nfs : (f : List ℕ) (i : ℕ) (call : Call) → CoversPlace f i call → IsNfs call
is-nfs f i call c = subst IsNfs (sym c.is) tt

pub same-number : (a b : ℕ) → Some a ≡ Some b → a ≡ b
same-number a b e = cc

module _ (m : Mounted) (modes_of : Modes) (same : m.nocto ≡ modes_of.nocto) (setup : Setup) (f : List ℕ) (i : ℕ) where
  abbrev TallyAt : List Entry → View → Type 0
  TallyAt = Tally m modes_of same setup f i

  abbrev WriterAt : List Entry → ℕ → Type 0
  WriterAt = Writer m modes_of same setup f i

  -- an operation is under way in one lane alone
  pub one-lane : (h : List Entry) (a b x : ℕ) (o p : Op) → UnderWay h a x (length h) o → UnderWay h b x (length h) p → a ≡ b
  one-lane h a b x o p u w = began-lane a u.line b w.line o p (At-one h x (Began a u.line o) (Began b w.line p) u.began w.began)

  pub writer-early : (h : List Entry) (x : ℕ) → WriterAt h x → x < length h
  writer-early h x w = subst (λ (n : ℕ). n < length h) w.is (At-below h w.given.x (Began w.given.lane w.given.line w.given.op) w.given.began)

  pub in-each : (P : ℕ → Type 0) (x : ℕ) (zs : List ℕ) → Each P zs → In x zs → P x
  in-each P x [] e has = absurd has
  in-each P x (z ∷ zs) e (inl is) = subst P is e.0
  in-each P x (z ∷ zs) e (inr there) = in-each P x zs e.1 there

  -- it wrote the place, where it brings bytes to it
  pub wrote-it : (h : List Entry) (lane line x : ℕ) (op : Op) → At h x (Began lane line op) → (offset : ℕ) (bytes : List ℕ) → Gives m modes_of h x op f offset bytes
      → covers offset (length bytes) i ≡ true → WriterAt h x
  wrote-it h lane line x op began offset bytes g inside = record {
    byte = slice_index bytes (i - offset);
    given = record { lane = lane; line = line; x = x; op = op; began = began; gives = g.may_be.bytes_are i inside; held = g.may_be.held; leads = g.leads };
    is = refl;
  }
