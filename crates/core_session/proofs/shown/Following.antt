-- What the steps of operations keep of the shelf, and of themselves, holds along a history, by laws of `current.Keeping`; of each view between the steps it
-- is known, too, how the session went on from there. It is an instance of the engine.
use Rattle.core_facts.proofs.Answered.{HadStory}
use Rattle.core_session.proofs.Prelude.{◌≡◌, ◌<◌, ℕ, List, [], ◌∷◌, ◌++◌, false, refl, sym, subst, Answer, Entry, Call, Op, Ended, Shelf, machine_of, Mounted, Machine, State, Busy, Over, Setup, IsFresh, IsOther, numbers_of, Stirs, View, Reaches, begins-unbegun, Turn}
use Rattle.core_session.proofs.current.Along.{KeepsHeard, reached-heard}
use Rattle.core_session.proofs.current.Keeping.{BondLaws}
use Rattle.core_session.proofs.room.Onward.{Onward}
use Rattle.core_session.proofs.syncs.WatchingAlong.{KeepsWatching, reached-watching}
use Rattle.core_answers.proofs.engine.Laws.{KeepsAround, GoesBack, DidOf, LaneLaws, then-placed}
use Rattle.core_answers.proofs.engine.Told.{AskLaws}
use Rattle.core_session.proofs.room.Onward as onward
use Rattle.core_answers.proofs.engine.Lanes as lanes

-- ---- what goes on

-- from a view between the steps of an entry to the one after it
pub data Moved : View → View → Type 0 where
  rests : (v u : View) → u ≡ v → Moved v u
  moves : (v mid u : View) (at : ℕ) → Stirs v at mid → Moved mid u → Moved v u

-- The session went on from this view, which may be one between the steps of the last entry, to the history H and its view.
pub record GoesOn (mo : ℕ → Op → Machine) (setup : Setup) (H : List Entry) (V : View) (h : List Entry) (v : View) : Type 0 where
  pub u : View
  pub moved : Moved v u
  pub reached : Reaches mo setup h u
  pub on : Onward mo setup h u H V

-- what is known of a view through which the core passed
pub record Followed (mo : ℕ → Op → Machine) (setup : Setup) (H : List Entry) (V : View) (I W : List Entry → View → Type 0) (h : List Entry) (v : View) : Type 0 where
  pub good : I h v
  pub watched : W h v
  pub on : GoesOn mo setup H V h v

module _ (mo : ℕ → Op → Machine) (setup : Setup) where
  onward-then : (g : List Entry) (a : View) (h : List Entry) (b : View) (k : List Entry) (c : View) → Onward mo setup g a h b → Onward mo setup h b k c → Onward mo setup g a k c
  onward-then g a h b _ _ first (onward.stays k c is same) = subst (λ (l : List Entry). Onward mo setup g a l c) (sym is) (subst (Onward mo setup g a h) (sym same) first)
  onward-then g a h b _ _ first (onward.steps k before c u e on r is t) = onward.steps k before c u e (onward-then g a h b before u first on) r is t
  onward-then g a h b _ _ first (onward.drops k c u on is) = onward.drops k c u (onward-then g a h b k u first on) is

-- ---- the engine

module _ (m : Mounted) (setup : Setup) (H : List Entry) (V : View) (I : List Entry → View → Type 0) (keeps : KeepsHeard (machine_of m) setup I) (W : List Entry → View → Type 0)
    (watching : KeepsWatching (machine_of m) setup W) (E : Machine → Call → Type 0) (asking : AskLaws E) (F : List Entry → ℕ → Shelf → Type 0) (K : List Entry → Shelf → Type 0) (S : List Entry → ℕ → Op → State → Type 0)
    (laws : BondLaws (machine_of m) setup (Followed (machine_of m) setup H V I W) E F K S)
    (begin : (h : List Entry) (v : View) (lane : ℕ) → Reaches (machine_of m) setup h v → v.lost ≡ false → IsOther lane (numbers_of v.lanes) → F h lane v.shelf) where
  abbrev Runs : List Entry → ℕ → ℕ → Op → Machine → Type 0
  Runs h place x op machine = S h x op (Busy machine)

  abbrev Ends_ : List Entry → ℕ → Op → Answer → Type 0
  Ends_ h x op answer = S h x op (Over answer)

  -- what is known of each view on the way
  abbrev Marked : List Entry → View → Type 0
  Marked h v = I h v × W h v

  pub marked : KeepsAround (machine_of m) setup Marked
  marked = record {
    at_rest = λ h v r found. (reached-heard (machine_of m) (begins-unbegun m) setup I keeps h v r found, reached-watching (machine_of m) (begins-unbegun m) setup W watching h v r found);
    stirs = λ h old new at known passed t a. (keeps.stirs h old new at known passed t a.0, watching.stirs h old new at known t a.1);
    starts = λ h old new lane line op now r found known idle fits t a.
        (keeps.starts h old new lane line op now r found known idle fits t a.0, watching.starts h old new lane line op now r found known idle fits t a.1);
    takes = λ h old new rec xid call at r found known fin hears named waits there t a. (
      keeps.takes h old new rec xid call at r found known fin hears named waits there t a.0,
      watching.takes h old new rec xid call at r found known fin hears named waits there t a.1,
    );
  }

  abbrev On_ : List Entry → View → Type 0
  On_ h v = Onward (machine_of m) setup h v H V

  pub goes-back : GoesBack (machine_of m) setup On_ (GoesOn (machine_of m) setup H V)
  goes-back = record {
    rest = λ h v r on. record { u = v; moved = rests v v refl; reached = r; on = on };
    stirs = λ h old new at t g. record { u = g.u; moved = moves old new g.u at t g.moved; reached = g.reached; on = g.on };
    steps = λ h old e new t r on.
        onward-then (machine_of m) setup h old (h ++ e ∷ []) new H V (onward.steps (h ++ e ∷ []) h new old e (onward.stays h old refl refl) r refl t) on;
    drops = λ h old new r is on. onward-then (machine_of m) setup h old h new H V (onward.drops h new old (onward.stays h old refl refl) is) on;
  }

  abbrev Gives : List Entry → View → Type 0
  Gives = Followed (machine_of m) setup H V I W

  pub gives : (h : List Entry) (v : View) → Marked h v → GoesOn (machine_of m) setup H V h v → Gives h v
  gives h v a on = record { good = a.0; watched = a.1; on = on }

  pub lane-laws : LaneLaws (machine_of m) setup Gives E F K Runs Ends_
  lane-laws = record {
    starts = laws.starts;
    resumes = λ h place x op machine wsize turn old next new after kept p running below within late story s.
        laws.resumes h x op machine wsize turn old next new after kept p running below late story s;
    takes = λ h place x op machine call wsize sent turn came old next new after others kept below within late count story on told s.
        let did : DidOf K S h x op next new after = laws.takes h x op machine call wsize sent turn came old next new after kept below late story on
        (λ reply is. let t = told reply is in let w = t.0 in (
          record {
            since = w.told.since;
            link = w.link;
            passed = w.passed;
            soon = w.soon;
            after = λ o k moment early. moment.sent w.xid w.waiting w.waits (subst (λ (q : Turn). k < q.moment) (sym w.sent_is) early) w.told.since.told.since w.bytes w.sent_at w.under;
          },
          t.1,
        )) s in
        record { kept = did.kept; then_ = then-placed h others place (λ k. S h x op (Busy k)) (λ a. S h x op (Over a)) next new within did.then_ };
    still = laws.still;
    grows = λ h e place x op machine story. laws.grows h e x op (Busy machine) story;
    stays = λ h e x op answer quiet story. laws.grows h e x op (Over answer) story;
    lost = laws.lost;
  }

  pub reached-answered : ((h : List Entry) (v : View) → IsFresh setup v → K h v.shelf) → (h : List Entry) (v : View) → Reaches (machine_of m) setup h v → Onward (machine_of m) setup h v H V
      → (lane x : ℕ) (op : Op) (y : ℕ) (answer : Answer) → Ended h lane x op y answer → HadStory Ends_ h x op y answer
  reached-answered = lanes.reached-answered m setup Marked marked On_ (GoesOn (machine_of m) setup H V) goes-back Gives gives E asking F K Runs Ends_ lane-laws begin
