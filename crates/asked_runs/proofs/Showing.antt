-- What the clock gave and what the link tells, one call after another.
use Rattle.std.proofs.Common.{ℕ, List, [], ◌++◌, Option}
use Rattle.world_model.specs.declared.entry.Entry.{Entry}
use Rattle.world_model.specs.History.{History}
use Rattle.lane_session.specs.Streams.{Appends, Passes}
use Rattle.lane_session.proofs.Passing.{reads_same, reads_then, relates_less, relates_same, relates_then}
use Rattle.asked_runs.specs.Running.{Shows}

pub shows-then : (r0 r1 r2 : Option (List ℕ)) (t0 t1 t2 : Option History) (R S T : List ℕ → List Entry → List Entry → Type 0)
    → ((g i : List ℕ) (h k l : List Entry) → R g h k → S i k l → T (g ++ i) h l) → Shows r0 r1 t0 t1 R → Shows r1 r2 t1 t2 S → Shows r0 r2 t0 t2 T
shows-then r0 r1 r2 t0 t1 t2 R S T join p q = record {
  given = p.given ++ q.given;
  are = reads_then r0 r1 r2 p.given q.given p.are q.are;
  is = relates_then t0 t1 t2 _ _ _ (λ h k l x y. join p.given q.given h k l x y) p.is q.is;
}

pub shows-less : (r0 r1 : Option (List ℕ)) (t0 t1 : Option History) (R S : List ℕ → List Entry → List Entry → Type 0) → ((g : List ℕ) (h k : List Entry) → R g h k → S g h k)
    → Shows r0 r1 t0 t1 R → Shows r0 r1 t0 t1 S
shows-less r0 r1 t0 t1 R S less p = record { given = p.given; are = p.are; is = relates_less t0 t1 _ _ (λ h k x. less p.given h k x) p.is }

-- nothing was called
pub shows-same : (r : Option (List ℕ)) (t : Option History) (S : List ℕ → List Entry → List Entry → Type 0) → ((h : List Entry) → S [] h h) → Shows r r t t S
shows-same r t S same = record { given = []; are = reads_same r; is = relates_same t _ same }

-- what was written aside
pub shows-passes : (r0 r1 : Option (List ℕ)) (t0 t1 : Option History) (w0 w1 : Option (List ℕ)) (R : List ℕ → List ℕ → List Entry → List Entry → Type 0) (S : List ℕ → List Entry → List Entry → Type 0)
    → ((g t : List ℕ) → Appends w0 w1 t → (h k : List Entry) → R g t h k → S g h k) → Passes r0 r1 t0 t1 w0 w1 R → Shows r0 r1 t0 t1 S
shows-passes r0 r1 t0 t1 w0 w1 R S less p = record { given = p.given; are = p.read; is = relates_less t0 t1 _ _ (λ h k x. less p.given p.text p.added h k x) p.told }
