-- What a session comes to, once its set-up did.
use Rattle.std.proofs.Common.{◌≡◌, ◌≤◌, ◌⊎◌, ℕ, List, [], ◌∷◌, Option, Some, None, Result, Ok, Err, refl, ap, arith}
use Rattle.xdr_codec.specs.declared.blob.Memory.{Memory as OutOfMemory}
use Rattle.world_model.specs.declared.answer.Fault.{Fault}
use Rattle.world_model.specs.declared.entry.Entry.{Entry}
use Rattle.world_model.specs.declared.tally.Tally.{Tally}
use Rattle.world_model.specs.Entries.{ours}
use Rattle.world_model.specs.History.{History}
use Rattle.world_model.specs.Told.{Relates}
use Rattle.link_dials.specs.Dials.{DialsOnly}
use Rattle.session_words.specs.declared.settings.Settings.{Settings}
use Rattle.session_setup.specs.declared.opening.SetUp.{SetUp}
use Rattle.session_setup.specs.declared.opening.SetUpFault.TheVariants.{Lost, Memory, Refused}
use Rattle.session_setup.specs.Along.{Along}
use Rattle.session_setup.specs.Outcomes.{FitsSession, SetsUp}
use Rattle.lane_session.specs.Bonds.{IsOpened}
use Rattle.lane_session.specs.Streams.{ReadsAll as LaneReadsAll}
use Rattle.script_runs.specs.LaneRuns.{Leaves, setup_of}
use Rattle.script_runs.specs.Readings.{Reads, ReadsAll, ReadsOnce}
use Rattle.script_runs.specs.Run.{IsFirst}
use Rattle.script_runs.proofs.LaneRuns.{fresh}
use Rattle.script_runs.proofs.Readings.{reads_more, reads_none}
use Rattle.asked_runs.specs.Asking.{Round}
use Rattle.asked_runs.specs.Running.{RunsOver, Shows}
use Rattle.asked_runs.specs.Runs.{RunsAsked, cut_before, lost, no_script, ready, refused, rounds_of, unready}
use Rattle.asked_runs.specs.Statuses.{ended_with}

first-in : (wanted : Option ℕ) (ms first : ℕ) (given : List ℕ) → IsFirst (ms ∷ []) wanted first → IsFirst (ms ∷ given) wanted first
first-in None ms first given e = e
first-in (Some xid) ms first given e = e

-- what the set-up leaves, as the core asks for it
is-opened : (s : Settings) (first : ℕ) (v : SetUp) (h : List Entry) → SetsUp s first (Ok v) h → IsOpened (Some (setup_of s v)) h
is-opened s first v h so = (
  record {
    unmarked = fresh h so.unmarked;
    unbegun = so.unmarked.began;
    numbered = record { equal = so.sent.equal; unrepeated = so.sent.unrepeated };
    below = λ i xid bytes sent has. let among = so.sent.among i xid bytes sent has in let next = so.ends.next_is in omega (arith, among.1, next);
  },
  so.ends.idle,
)

all-read : (a b : Option (List ℕ)) (given : List ℕ) → LaneReadsAll a b given → ReadsAll a b given
all-read None b given p = p
all-read (Some a) None given p = tt
all-read (Some a) (Some b) given p = p

-- what a run says
abbrev pub RunSays : (a b : Option (List ℕ)) (old new : Option History) (Asked : List Round → Type 0) (s : Settings) (status : ℕ) → Type 0
RunSays a b old new Asked s status = Reads a b (λ given. Relates old new (λ before h. before ≡ [] → RunsAsked Leaves Asked s given h status))

module _ (Asked : List Round → Type 0) (s : Settings) (result : Result ℕ OutOfMemory) (first : ℕ) (a b c : Option (List ℕ)) (old mid new : Option History)
    (one : ReadsOnce a b (λ ms. IsFirst (ms ∷ []) s.xid first)) where
  -- it was set up
  ready-told : (ms : ℕ) (is : IsFirst (ms ∷ []) s.xid first) (old mid new : Option History) (v : SetUp) (given : List ℕ) → FitsSession s first v
      → Along old mid (λ h k. ours h ≡ [] → SetsUp s first (Ok v) k) → Relates mid new (λ h k. IsOpened (Some (setup_of s v)) h → RunsOver Asked s (setup_of s v) result given h k)
      → DialsOnly s.nfs_port mid new → Relates old new (λ before h. before ≡ [] → RunsAsked Leaves Asked s (ms ∷ given) h (ended_with result))
  ready-told ms is None mid new v given fits up r dials = tt
  ready-told ms is (Some x) None new v given fits up r dials = absurd up
  ready-told ms is (Some x) (Some y) None v given fits up r dials = absurd r
  ready-told ms is (Some x) (Some y) (Some z) v given fits up r dials = λ e.
      let so = up.1 (ap ours e) in
      let over = r (is-opened s first v y.entries so) in
      ready ms first given refl (first-in s.xid ms first given is) v y.entries so over.session over.asked (record { fits = fits; asked = over.may; core = over.core; dials = dials })

  pub ready-says : (v : SetUp) → FitsSession s first v → Along old mid (λ h k. ours h ≡ [] → SetsUp s first (Ok v) k)
      → Shows b c mid new (λ given h k. IsOpened (Some (setup_of s v)) h → RunsOver Asked s (setup_of s v) result given h k) → DialsOnly s.nfs_port mid new
      → RunSays a c old new Asked s (ended_with result)
  ready-says v fits up p dials = (one.0 ∷ p.given, reads_more a b c one.0 p.given one.1 (all-read b c p.given p.are), ready-told one.0 one.2 old mid new v p.given fits up p.is dials)

module _ (Asked : List Round → Type 0) (s : Settings) (status : ℕ) (first : ℕ) (a b : Option (List ℕ)) (one : ReadsOnce a b (λ ms. IsFirst (ms ∷ []) s.xid first)) where
  -- it wasn't
  module _ (P : List Entry → Type 0) (by : (h : List Entry) → P h → RunsAsked Leaves Asked s (one.0 ∷ []) h status) where
    unset-told : (old mid : Option History) → Along old mid (λ h k. ours h ≡ [] → P k) → Relates old mid (λ before h. before ≡ [] → RunsAsked Leaves Asked s (one.0 ∷ []) h status)
    unset-told None mid up = tt
    unset-told (Some x) None up = absurd up
    unset-told (Some x) (Some y) up = λ e. by y.entries (up.1 (ap ours e))

    unset-says : (old mid : Option History) → Along old mid (λ h k. ours h ≡ [] → P k) → RunSays a b old mid Asked s status
    unset-says old mid up = (one.0 ∷ [], reads_more a b b one.0 [] one.1 (reads_none b), unset-told old mid up)

  pub lost-says : (old mid : Option History) (tally : Tally) → Along old mid (λ h k. ours h ≡ [] → SetsUp s first (Err (Lost tally)) k) → status ≡ 6 → RunSays a b old mid Asked s status
  lost-says old mid tally up six = unset-says (SetsUp s first (Err (Lost tally))) (λ h so. lost one.0 first refl one.2 tally so six) old mid up

  pub refused-says : (old mid : Option History) (fault : Fault) → Along old mid (λ h k. ours h ≡ [] → SetsUp s first (Err (Refused fault)) k) → (status ≡ 8) ⊎ (status ≡ 7)
      → RunSays a b old mid Asked s status
  refused-says old mid fault up how = unset-says (SetsUp s first (Err (Refused fault))) (λ h so. refused one.0 first refl one.2 fault so how) old mid up

  pub unready-says : (old mid : Option History) → Along old mid (λ h k. ours h ≡ [] → SetsUp s first (Err Memory) k) → status ≡ 7 → RunSays a b old mid Asked s status
  unready-says old mid up seven = unset-says (SetsUp s first (Err Memory)) (λ h so. unready one.0 first refl one.2 so seven) old mid up

-- ---- the first call for a script

module _ (s : Settings) (given : List ℕ) (h : List Entry) (status : ℕ) (Asked After : List Round → Type 0) (less : (rounds : List Round) → Asked rounds → After rounds) where
  asked-less : RunsAsked Leaves Asked s given h status → RunsAsked Leaves After s given h status
  asked-less (no_script none asked few) = no_script none (less (rounds_of [] 0 []) asked) few
  asked-less (cut_before none cut) = cut_before none cut
  asked-less (ready ms first later is by v before sets session asked r) = ready ms first later is by v before sets session (λ few. less (rounds_of [] 0 session.parts) (asked few)) r
  asked-less (lost ms first is by tally sets six) = lost ms first is by tally sets six
  asked-less (refused ms first is by fault sets how) = refused ms first is by fault sets how
  asked-less (unready ms first is by sets seven) = unready ms first is by sets seven

pub some-says : (a b : Option (List ℕ)) (old new : Option History) (Asked After : List Round → Type 0) (s : Settings) (status : ℕ) → ((rounds : List Round) → Asked rounds → After rounds)
    → RunSays a b old new Asked s status → RunSays a b old new After s status
some-says a b old new Asked After s status less said = (said.0, said.1, by old new said.2)
  where
    by : (old new : Option History) → Relates old new (λ before h. before ≡ [] → RunsAsked Leaves Asked s said.0 h status) → Relates old new (λ before h. before ≡ [] → RunsAsked Leaves After s said.0 h status)
    by None new r = tt
    by (Some x) None r = absurd r
    by (Some x) (Some y) r = λ e. asked-less s said.0 y.entries status Asked After less (r e)

-- no call was made
module _ (a : Option (List ℕ)) (old : Option History) (Asked : List Round → Type 0) (s : Settings) where
  uncalled : (status : ℕ) → ((h : List Entry) → h ≡ [] → RunsAsked Leaves Asked s [] h status) → RunSays a a old old Asked s status
  uncalled status by = ([], reads_none a, told old)
    where
      told : (old : Option History) → Relates old old (λ before h. before ≡ [] → RunsAsked Leaves Asked s [] h status)
      told None = tt
      told (Some x) = λ e. by x.entries e

  pub none-says : (status : ℕ) → Asked (rounds_of [] 0 []) → status ≤ 1 → RunSays a a old old Asked s status
  none-says status asked few = uncalled status (λ h e. no_script e asked few)

  pub stop-says : RunSays a a old old Asked s 7
  stop-says = uncalled 7 (λ h e. cut_before e refl)
