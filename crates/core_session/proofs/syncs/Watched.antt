-- A byte that a write, fill or put wrote, and a later sync, close or put settled, or the put itself, was made stable, unless this client touched it.
use Rattle.core_session.proofs.Prelude.{false, Some, position, ◌≡◌, ◌≤◌, ◌<◌, inl, inr, ℕ, suc, List, [], ◌∷◌, ◌++◌, length, append_assoc, append-nil, refl, sym, subst, ◌∙◌, arith, cases_lt, Entry, Delivered, Terms, length_last, Mounted, machine_of, xid_at, Waiting, waiting_at, said_of, Purpose, Setup, is_busy, Reaches, HearsRecord, Known, TakesAt, View, GoesWith, begins-unbegun, taken_one, keeps-placed, stirs-stay, steps-stay, Stays, KnowsRoot, TouchedUntil, SettledBy, Wrote, MadeAndKept, PutsNamed}
use Rattle.claims.specs.Settled.{later, itself}
use Rattle.core_session.specs.syncs.Synced.{SyncedBytes}
use Rattle.core_session.proofs.saves.WholeSteps.{keeps-wholly}
use Rattle.core_session.proofs.drops.Along.{guards-steps}
use Rattle.core_session.proofs.drops.GuardLaws.{stirs-step, takes-step}
use Rattle.core_session.proofs.syncs.SlotHeld.{holds-step}
use Rattle.core_session.proofs.syncs.Turning.{under-was}
use Rattle.core_session.proofs.syncs.Ends.{case-of, case-self, finish, ends}
use Rattle.core_session.proofs.syncs.Entries_.{stands-answers, stands-same, stands-fresh}
use Rattle.core_session.proofs.syncs.Looks.{Touching}
use Rattle.core_session.proofs.syncs.StartsOn.{stands-starts}
use Rattle.core_session.proofs.syncs.Stands.{Case, Phase, Stands, early, unsent, since, touched, made}
use Rattle.core_session.proofs.syncs.StirsOn.{stirs-phase}
use Rattle.core_session.proofs.syncs.TakesOn.{takes-phase, takes-touched}
use Rattle.core_session.proofs.syncs.WatchingAlong.{KeepsWatching, reached-watching}
use Rattle.core_session.proofs.syncs.PutPlaced.{takes-put, stirs-put}

abbrev has-some : View → Type 0
has-some v = 1 ≤ v.wsize

some-stays : Stays has-some
some-stays = record {
  makes = λ old new number call made p. subst (λ (v : View). 1 ≤ v.wsize) (sym made.is) p;
  sets = λ old at number was state shelf there p. p;
}

module _ (mt : Mounted) (terms : Terms) (setup : Setup) (H : List Entry) (V : View) (g : GoesWith mt terms setup H V) (w y s j p : ℕ) (f : List ℕ) (i byte : ℕ) (c : Case terms H w y s j p f i byte) (roots : KnowsRoot terms.origin H mt.root)
    (puts_named : PutsNamed H) where
  abbrev St : List Entry → View → Type 0
  St = Stands mt terms setup H w y s j p f i byte

  abbrev Ph : List Entry → View → Type 0
  Ph = Phase mt terms setup H w y s j p f i byte

  -- an operation takes what came of its call
  stands-takes : (h : List Entry) (old new : View) (rec : List ℕ) (xid : ℕ) (call : Waiting Purpose) (at : ℕ) → Reaches (machine_of mt) setup h old → old.lost ≡ false → Known setup h old → (fin : View)
      → HearsRecord old rec fin → xid_at rec ≡ Some xid → waiting_at xid old.calls.calls ≡ Some call → position (is_busy call.purpose.lane) old.lanes ≡ Some at
      → TakesAt (taken_one old xid) at call.purpose.sent (said_of call.purpose.proc rec) new → St h old → St (h ++ Delivered rec ∷ []) new
  stands-takes h old new rec xid call at r found k fin hears named waits there t st = record {
    guards = (guards-steps mt terms.modes g.nocto setup).takes h old new rec xid call at r found k fin hears named waits there t st.guards;
    slot_w = λ rest is. holds-step mt terms setup H V g w f h (h ++ Delivered rec ∷ []) old new (takes-step setup terms.modes h old new k st.guards.drops rec xid call at waits there t) st.guards.drops k
        (λ o n u. under-was h (Delivered rec) n w o (λ line q same. cc) u) (st.slot_w (Delivered rec ∷ rest) (sym (append_assoc h (Delivered rec ∷ []) rest) ∙ is));
    slot_s = λ rest is. holds-step mt terms setup H V g s f h (h ++ Delivered rec ∷ []) old new (takes-step setup terms.modes h old new k st.guards.drops rec xid call at waits there t) st.guards.drops k
        (λ o n u. under-was h (Delivered rec) n s o (λ line q same. cc) u) (st.slot_s (Delivered rec ∷ rest) (sym (append_assoc h (Delivered rec ∷ []) rest) ∙ is));
    wholly = (keeps-wholly mt setup).takes h old new rec xid call at r found k waits there t st.wholly;
    placed = (keeps-placed mt setup).takes h old new rec xid call at k waits there t st.placed;
    places = takes-put mt setup h old new rec xid call at k st.placed waits there t st.places;
    wsize = steps-stay has-some some-stays (taken_one old xid) new at t.number t.machine t.after t.shelf t.next t.there t.leads st.wsize;
    phase = λ rest is. of rest (sym (append_assoc h (Delivered rec ∷ []) rest) ∙ is);
  }
    where
      of : (rest : List Entry) → h ++ Delivered rec ∷ rest ≡ H → Ph (h ++ Delivered rec ∷ []) new
      of rest was = elim (cases_lt (length h) p) [ inl low ↦ on low | inr past ↦ late (st.phase (Delivered rec ∷ rest) was) past ]
        where
          on : length h < p → Ph (h ++ Delivered rec ∷ []) new
          on low =
              takes-phase mt terms setup H V g w y s j p f i byte c roots puts_named h rest rec was old new xid call at r found k fin hears named waits there t st.wholly st.placed st.places st.wsize st.guards (st.slot_w (Delivered rec ∷ rest) was) (st.slot_s (Delivered rec ∷ rest) was)
              (let more = length_last h (Delivered rec) in omega (arith, more, low)) (st.phase (Delivered rec ∷ rest) was)

          touch : Touching terms.modes terms.origin H w s j p f i h old → Ph (h ++ Delivered rec ∷ []) new
          touch m = touched (takes-touched mt terms setup H V g w y s j p f i byte c roots puts_named h rest rec was old new xid call at r found k fin hears named waits there t st.wholly st.placed st.places st.wsize st.guards (st.slot_w (Delivered rec ∷ rest) was) (st.slot_s (Delivered rec ∷ rest) was) m)

          ended_ : Ph h old → length h ≡ p → Ph (h ++ Delivered rec ∷ []) new
          ended_ phase here = elim (finish mt terms setup H w y s j p f i byte V g c h old (Delivered rec ∷ rest) was here phase) [ inl m ↦ made m | inr m ↦ touch m ]

          late : Ph h old → p ≤ length h → Ph (h ++ Delivered rec ∷ []) new
          late (early low e) past = ended_ (early low e) (omega (arith, low, past))
          late (unsent low n e) past = ended_ (unsent low n e) (omega (arith, low, past))
          late (since low n e) past = ended_ (since low n e) (omega (arith, low, past))
          late (touched m) past = touch m
          late (made m) past = made m

  pub stands-all : KeepsWatching (machine_of mt) setup (Stands mt terms setup H w y s j p f i byte)
  stands-all = record {
    fresh = stands-fresh mt terms setup H w y s j p f i byte c g.nocto;
    stirs = λ h old new at k t st. record {
      guards = (guards-steps mt terms.modes g.nocto setup).stirs h old new at k t st.guards;
      slot_w = λ rest is. holds-step mt terms setup H V g w f h h old new (stirs-step setup terms.modes h old new k st.guards.drops at t) st.guards.drops k (λ o n u. u) (st.slot_w rest is);
      slot_s = λ rest is. holds-step mt terms setup H V g s f h h old new (stirs-step setup terms.modes h old new k st.guards.drops at t) st.guards.drops k (λ o n u. u) (st.slot_s rest is);
      wholly = (keeps-wholly mt setup).stirs h old new at k t st.wholly;
      placed = (keeps-placed mt setup).stirs h old new at k t st.placed;
      places = stirs-put mt setup h old new at k st.placed t st.places;
      wsize = stirs-stay has-some some-stays old new at t st.wsize;
      phase = λ rest is. stirs-phase mt terms setup H V g w y s j p f i byte c h rest is old new at k t st.wholly st.placed st.places st.wsize st.guards (st.slot_w rest is) (st.slot_s rest is) (st.phase rest is);
    };
    starts = stands-starts mt terms setup H V g w y s j p f i byte c;
    takes = stands-takes;
    answers = stands-answers mt terms setup H w y s j p f i byte c (λ h v rest is here phase. finish mt terms setup H w y s j p f i byte V g c h v rest is here phase) g.nocto;
    same = stands-same mt terms setup H w y s j p f i byte c (λ h v rest is here phase. finish mt terms setup H w y s j p f i byte V g c h v rest is here phase) g.nocto;
  }

-- of one write and what settled it
from-case : (m : Mounted) (terms : Terms) (setup : Setup) (h : List Entry) (v : View) → GoesWith m terms setup h v → v.lost ≡ false → KnowsRoot terms.origin h m.root → PutsNamed h
    → (w y s j p : ℕ) (f : List ℕ) (i byte : ℕ) → Case terms h w y s j p f i byte → (TouchedUntil terms.modes terms.origin h w j p f i → ⊥) → MadeAndKept h w (suc j) p f i byte
from-case mt terms setup h v g found roots puts_named w y s j p f i byte c free =
    let st = reached-watching (machine_of mt) (begins-unbegun mt) setup (Stands mt terms setup h w y s j p f i byte) (stands-all mt terms setup h v g w y s j p f i byte c roots puts_named) h v g.reaches found in
    ends mt terms setup h w y s j p f i byte v g c v free (st.phase [] (append-nil h))

-- as long as the session isn't lost
synced-all : (m : Mounted) (terms : Terms) (setup : Setup) (h : List Entry) (v : View) → GoesWith m terms setup h v → v.lost ≡ false → KnowsRoot terms.origin h m.root → PutsNamed h
    → (w y : ℕ) (f : List ℕ) (i byte j p : ℕ) → Wrote terms.modes h w y f i byte → SettledBy terms.modes h w y f j → j < p → p ≤ length h
    → (TouchedUntil terms.modes terms.origin h w j p f i → ⊥) → MadeAndKept h w (suc j) p f i byte
synced-all mt terms setup h v g found roots puts_named w y f i byte j p wrote_ (later x after_ synced) past within free =
    from-case mt terms setup h v g found roots puts_named w y x j p f i byte (case-of mt terms setup h w y x j p f i byte wrote_ after_ synced past within) free
synced-all mt terms setup h v g found roots puts_named w y f i byte j p wrote_ (itself offset bytes to same) past within free =
    from-case mt terms setup h v g found roots puts_named w y w j p f i byte (case-self mt terms setup h w y w j p f i byte offset bytes to wrote_ refl same past within) free

pub synced-bytes : SyncedBytes
synced-bytes = synced-all
