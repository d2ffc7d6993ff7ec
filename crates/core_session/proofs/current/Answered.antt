-- What the steps of operations keep is known of each answer, where nothing need be known of how the session went on.
use Rattle.core_session.proofs.Prelude.{Entry, Call, Reply, Op, ℕ, List, refl, Shelf, Turn, Machine, State, Setup, View, HasPassed}
use Rattle.core_session.proofs.current.Keeping.{WasTaken, BondLaws}
use Rattle.core_session.proofs.shown.Following.{Followed}
use Rattle.core_session.proofs.syncs.WatchingAlong.{KeepsWatching}

-- nothing is watched
abbrev pub Unwatched : List Entry → View → Type 0
Unwatched h v = Unit {0}

pub nothing-watched : (mo : ℕ → Op → Machine) (setup : Setup) → KeepsWatching mo setup Unwatched
nothing-watched mo setup = record {
  fresh = λ h v may up fresh. tt;
  stirs = λ h old new at known stirs w. tt;
  starts = λ h old new lane line op now r found known idle fits starts w. tt;
  takes = λ h old new rec xid call at r found known fin hears named waits there takes w. tt;
  answers = λ h old new at lane line answer r found known later still open_ answers w. tt;
  same = λ h e old new r found known plain noted sent lanes shelf wsize calls w. tt;
}

module _ (mo : ℕ → Op → Machine) (setup : Setup) (H : List Entry) (V : View) (I W : List Entry → View → Type 0) where
  abbrev passed-plain : (h : List Entry) (x : ℕ) (shelf : Shelf) → HasPassed mo setup (Followed mo setup H V I W) h x shelf → HasPassed mo setup I h x shelf
  passed-plain h x shelf p = record { before = p.before; after = p.after; is = p.is; late = p.late; view = p.view; passed = p.passed; same = p.same; good = p.good.good }

  abbrev taken-plain : (h : List Entry) (x : ℕ) (call : Call) (sent turn : Turn) (shelf : Shelf) (reply : Reply)
      → WasTaken mo setup (Followed mo setup H V I W) h x call sent turn shelf reply → WasTaken mo setup I h x call sent turn shelf reply
  taken-plain h x call sent turn shelf reply w = record { since = w.since; link = w.link; passed = passed-plain h x shelf w.passed; soon = w.soon; after = w.after }

  -- laws that ask less of the views through which the core passed
  pub laws-plain : (E : Machine → Call → Type 0) (F : List Entry → ℕ → Shelf → Type 0) (K : List Entry → Shelf → Type 0) (S : List Entry → ℕ → Op → State → Type 0)
      → BondLaws mo setup I E F K S → BondLaws mo setup (Followed mo setup H V I W) E F K S
  laws-plain E F K S laws = record {
    starts = λ h lane line op wsize turn old next new after first p at kept late s.
        laws.starts h lane line op wsize turn old next new after first (passed-plain _ _ _ p) at kept late s;
    resumes = λ h x op machine wsize turn old next new after kept p runs below late state s.
        laws.resumes h x op machine wsize turn old next new after kept (passed-plain h x old p) runs below late state s;
    takes = λ h x op machine call wsize sent turn came old next new after kept below late state on told s.
        laws.takes h x op machine call wsize sent turn came old next new after kept below late state on
        (λ reply is. let t = told reply is in (taken-plain h x call sent turn old reply t.0, t.1)) s;
    still = laws.still;
    grows = laws.grows;
    lost = laws.lost;
  }
