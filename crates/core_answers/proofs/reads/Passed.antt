-- What each step of a lane and each entry keep holds of each view through which the core passes.
use Rattle.core_answers.proofs.Prelude.{◌≡◌, ℕ, List, [], ◌∷◌, ◌++◌, false, Some, position, refl, sym, subst, xid_at, Waiting, waiting_at, Entry, Began, Delivered, Op, said_of, Shelf, Machine, Purpose, State, Setup, is_busy, IsIdle, numbers_of, counted, StartsLane, TakesAt, View, IsUnbegun, Reaches, last_reading, taken_one, stirs-count, starts-count, hears-count, Known, reached-all, LanesKnown, quiet-facts, lanes-stay, lanes-begin, lanes-under-way, Rows, rows-stay, same-rows, rows-grow, silent-grow, taken-quiet, not-sent, taken-rows, stirs-stay, starts-stay, steps-stay, Passes}
use Rattle.core_answers.specs.pages.Passing.{rests, starts, takes, stirs}
use Rattle.core_answers.proofs.writes.Along.{KeepsAlong, reached-along}

module _ (machine_of : ℕ → Op → Machine) (unbegun : (lane : ℕ) (op : Op) → IsUnbegun (machine_of lane op)) (setup : Setup) (I : List Entry → View → Type 0)
    (laws : KeepsAlong machine_of setup I) where
  pub record Passed (h : List Entry) (v : View) : Type 0 where
    pub known : Known setup h v
    pub is : I h v

  begun : (h : List Entry) (old new : View) (lane line : ℕ) (op : Op) → Reaches machine_of setup h old → old.lost ≡ false → IsIdle lane old.lanes
      → StartsLane (counted old (last_reading 0 h)) lane (machine_of lane op) new → Passed (h ++ Began lane line op ∷ []) new
  begun h old new lane line op r found idle t = record {
    known = record {
      rows = starts-stay (Rows setup later) (rows-stay setup later) (counted old (last_reading 0 h)) new lane (machine_of lane op)
          (λ state shelf. same-rows setup later old (record (counted old (last_reading 0 h)) { lanes = old.lanes ++ record { number = lane; state = state } ∷ []; shelf = shelf }) refl
          (silent-grow setup h (Began lane line op) old (record { sent = λ bytes is. cc; came = λ bytes is. cc }) before.rows)) t;
      lanes = starts-stay (LanesKnown later) (lanes-stay later) (counted old (last_reading 0 h)) new lane (machine_of lane op) pushed t;
      known = starts-count (counted old (last_reading 0 h)) new lane (machine_of lane op) (unbegun lane op) t (record { counted = before.known.counted; right = before.known.right });
    };
    is = laws.starts h old new lane line op (last_reading 0 h) r found before idle t (reached-along machine_of unbegun setup I laws h old r found);
  }
    where
      later : List Entry
      later = h ++ Began lane line op ∷ []

      before : Known setup h old
      before = reached-all machine_of unbegun setup h old r found

      pushed : (state : State) (shelf : Shelf) → LanesKnown later (record (counted old (last_reading 0 h)) { lanes = old.lanes ++ record { number = lane; state = state } ∷ []; shelf = shelf })
      pushed state shelf = lanes-begin h old lane line op before.lanes idle.other state

  heard : (h : List Entry) (old new : View) (rec : List ℕ) (xid : ℕ) (call : Waiting Purpose) (at : ℕ) → Reaches machine_of setup h old → old.lost ≡ false
      → xid_at rec ≡ Some xid → waiting_at xid old.calls.calls ≡ Some call → position (is_busy call.purpose.lane) old.lanes ≡ Some at
      → TakesAt (taken_one old xid) at call.purpose.sent (said_of call.purpose.proc rec) new → Passed (h ++ Delivered rec ∷ []) new
  heard h old new rec xid call at r found named waits there o = record {
    known = record {
      rows = steps-stay (Rows setup later) (rows-stay setup later) (taken_one old xid) new at o.number o.machine o.after o.shelf o.next o.there o.leads
          (rows-grow setup h (Delivered rec) (taken_one old xid) (taken-quiet setup h old rec xid before.rows named) (not-sent rec) (taken-rows setup h old xid before.rows));
      lanes = steps-stay (LanesKnown later) (lanes-stay later) (taken_one old xid) new at o.number o.machine o.after o.shelf o.next o.there o.leads
          (quiet-facts h (Delivered rec) (numbers_of old.lanes) (λ number. refl) before.lanes);
      known = hears-count old new rec xid call at waits there (lanes-under-way h old before.lanes).apart o before.known;
    };
    is = laws.takes h old new rec xid call at r found before waits there o (reached-along machine_of unbegun setup I laws h old r found);
  }
    where
      later : List Entry
      later = h ++ Delivered rec ∷ []

      before : Known setup h old
      before = reached-all machine_of unbegun setup h old r found

  pub passed-along : (h : List Entry) (v : View) → Passes machine_of setup h v → Passed h v
  passed-along h _ (rests v r found) = record { known = reached-all machine_of unbegun setup h v r found; is = reached-along machine_of unbegun setup I laws h v r found }
  passed-along h _ (starts v old before lane line op r found is idle t) = subst (λ (k : List Entry). Passed k v) (sym is) (begun before old v lane line op r found idle t)
  passed-along h _ (takes v old before rec xid at call r found is named waits there t) =
      subst (λ (k : List Entry). Passed k v) (sym is) (heard before old v rec xid call at r found named waits there t)
  passed-along h _ (stirs v old at p t) =
      let before = passed-along h old p in
      record {
        known = record {
          rows = stirs-stay (Rows setup h) (rows-stay setup h) old v at t before.known.rows;
          lanes = stirs-stay (LanesKnown h) (lanes-stay h) old v at t before.known.lanes;
          known = stirs-count old v at t before.known.known;
        };
        is = laws.stirs h old v at before.known t before.is;
      }
