-- The invariant of one written byte is kept by each step and entry.
use Rattle.core_session.proofs.Prelude.{false, Some, position, ◌≡◌, ◌≤◌, ◌<◌, inl, inr, ℕ, Bool, List, [], ◌∷◌, ◌++◌, length, append_assoc, refl, sym, subst, ◌∙◌, arith, cases_lt, Entry, Delivered, Terms, length_last, Mounted, machine_of, xid_at, Waiting, waiting_at, said_of, Purpose, Setup, is_busy, Stirs, TakesAt, View, KnowsRoot, Reaches, HearsRecord, GoesWith, taken_one, Known, keeps-placed, stirs-stay, steps-stay, Stays, PutsNamed}
use Rattle.core_session.proofs.drops.Along.{guards-steps}
use Rattle.core_session.proofs.drops.GuardLaws.{stirs-step, takes-step}
use Rattle.core_session.proofs.saves.WholeSteps.{keeps-wholly}
use Rattle.core_session.proofs.syncs.PutPlaced.{takes-put, stirs-put}
use Rattle.core_session.proofs.syncs.SlotHeld.{holds-step}
use Rattle.core_session.proofs.syncs.Turning.{under-was}
use Rattle.core_session.proofs.syncs.WatchingAlong.{KeepsWatching}
use Rattle.core_session.proofs.kept.Entries_.{stands-answers, stands-same, stands-fresh}
use Rattle.core_session.proofs.kept.Stands.{Case, Phase, Stands, past}
use Rattle.core_session.proofs.kept.StartsOn.{stands-starts}
use Rattle.core_session.proofs.kept.StirsOn.{stirs-phase}
use Rattle.core_session.proofs.kept.TakesOn.{takes-phase}

abbrev has-some : View → Type 0
has-some v = 1 ≤ v.wsize

some-stays : Stays has-some
some-stays = record {
  makes = λ old new number call made p. subst (λ (v : View). 1 ≤ v.wsize) (sym made.is) p;
  sets = λ old at number was state shelf there p. p;
}

module _ (mt : Mounted) (terms : Terms) (setup : Setup) (H : List Entry) (V : View) (g : GoesWith mt terms setup H V) (w y : ℕ) (sure : Bool) (due p : ℕ) (f : List ℕ) (i byte : ℕ) (c : Case terms H w y p f i byte)
    (roots : KnowsRoot terms.origin H mt.root) (puts_named : PutsNamed H) where
  abbrev pub St : List Entry → View → Type 0
  St = Stands mt terms setup H w y sure due p f i byte

  abbrev Ph : List Entry → View → Type 0
  Ph = Phase mt terms setup H w y sure due p f i byte

  -- an operation takes what came of its call
  pub stands-takes : (h : List Entry) (old new : View) (rec : List ℕ) (xid : ℕ) (call : Waiting Purpose) (at : ℕ) → Reaches (machine_of mt) setup h old → old.lost ≡ false → Known setup h old → (fin : View)
      → HearsRecord old rec fin → xid_at rec ≡ Some xid → waiting_at xid old.calls.calls ≡ Some call → position (is_busy call.purpose.lane) old.lanes ≡ Some at
      → TakesAt (taken_one old xid) at call.purpose.sent (said_of call.purpose.proc rec) new → St h old → St (h ++ Delivered rec ∷ []) new
  stands-takes h old new rec xid call at r found k fin hears named waits there t st = record {
    guards = (guards-steps mt terms.modes g.nocto setup).takes h old new rec xid call at r found k fin hears named waits there t st.guards;
    slot_w = λ rest is. holds-step mt terms setup H V g w f h (h ++ Delivered rec ∷ []) old new (takes-step setup terms.modes h old new k st.guards.drops rec xid call at waits there t) st.guards.drops k
        (λ o n u. under-was h (Delivered rec) n w o (λ line q same. cc) u) (st.slot_w (Delivered rec ∷ rest) (sym (append_assoc h (Delivered rec ∷ []) rest) ∙ is));
    wholly = (keeps-wholly mt setup).takes h old new rec xid call at r found k waits there t st.wholly;
    placed = (keeps-placed mt setup).takes h old new rec xid call at k waits there t st.placed;
    places = takes-put mt setup h old new rec xid call at k st.placed waits there t st.places;
    wsize = steps-stay has-some some-stays (taken_one old xid) new at t.number t.machine t.after t.shelf t.next t.there t.leads st.wsize;
    phase = λ rest is. of rest (sym (append_assoc h (Delivered rec ∷ []) rest) ∙ is);
  }
    where
      of : (rest : List Entry) → h ++ Delivered rec ∷ rest ≡ H → Ph (h ++ Delivered rec ∷ []) new
      of rest was = elim (cases_lt (length h) p) [ inl low ↦ on low | inr ge ↦ past (let more = length_last h (Delivered rec) in omega (arith, more, ge)) ]
        where
          on : length h < p → Ph (h ++ Delivered rec ∷ []) new
          on low =
              takes-phase mt terms setup H V g w y sure due p f i byte c roots puts_named h rest rec was old new xid call at r found k fin hears named waits there t st.wholly st.placed st.places st.wsize st.guards (st.slot_w (Delivered rec ∷ rest) was)
              (let more = length_last h (Delivered rec) in omega (arith, more, low)) (st.phase (Delivered rec ∷ rest) was)

  pub stands-stirs : (h : List Entry) (old new : View) (at : ℕ) → Known setup h old → Stirs old at new → St h old → St h new
  stands-stirs h old new at k t st = record {
    guards = (guards-steps mt terms.modes g.nocto setup).stirs h old new at k t st.guards;
    slot_w = λ rest is. holds-step mt terms setup H V g w f h h old new (stirs-step setup terms.modes h old new k st.guards.drops at t) st.guards.drops k (λ o n u. u) (st.slot_w rest is);
    wholly = (keeps-wholly mt setup).stirs h old new at k t st.wholly;
    placed = (keeps-placed mt setup).stirs h old new at k t st.placed;
    places = stirs-put mt setup h old new at k st.placed t st.places;
    wsize = stirs-stay has-some some-stays old new at t st.wsize;
    phase = λ rest is. stirs-phase mt terms setup H V g w y sure due p f i byte c h rest is old new at k t st.wholly st.placed st.places st.wsize st.guards (st.slot_w rest is) (st.phase rest is);
  }

module _ (mt : Mounted) (terms : Terms) (setup : Setup) (H : List Entry) (V : View) (g : GoesWith mt terms setup H V) (w y p : ℕ) (f : List ℕ) (i byte : ℕ) (c : Case terms H w y p f i byte)
    (roots : KnowsRoot terms.origin H mt.root) (puts_named : PutsNamed H) where
  -- from the history's beginning on
  pub stands-all : (due : ℕ) → KeepsWatching (machine_of mt) setup (Stands mt terms setup H w y false due p f i byte)
  stands-all due = record {
    fresh = stands-fresh mt terms setup H w y false due p f i byte c refl g.nocto;
    stirs = stands-stirs mt terms setup H V g w y false due p f i byte c roots puts_named;
    starts = stands-starts mt terms setup H V g w y false due p f i byte c;
    takes = stands-takes mt terms setup H V g w y false due p f i byte c roots puts_named;
    answers = stands-answers mt terms setup H w y false due p f i byte c g.nocto;
    same = stands-same mt terms setup H w y false due p f i byte c g.nocto;
  }
