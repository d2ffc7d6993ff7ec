-- What a session of batches says, once its set-up came to something.
use Rattle.std.proofs.Common.{◌≡◌, ℕ, List, [], ◌∷◌, ◌++◌, length, Option, Some, None, Result, Ok, Err, refl, sym, ap, subst, append-nil, append_assoc, arith}
use Rattle.core_facts.proofs.Losing.{lost-grow}
use Rattle.world_model.specs.declared.answer.Fault.{Fault}
use Rattle.world_model.specs.declared.entry.Entry.{Entry}
use Rattle.world_model.specs.declared.tally.Tally.{Tally}
use Rattle.world_model.specs.Counts.{tally_of}
use Rattle.world_model.specs.Entries.{ours}
use Rattle.world_model.specs.History.{History}
use Rattle.world_model.specs.Lost.{IsLost}
use Rattle.world_model.specs.Told.{Relates}
use Rattle.session_setup.specs.Along.{Along}
use Rattle.link_dials.specs.Dials.{DialsOnly}
use Rattle.nfs_script.specs.declared.script.ScriptLine.{ScriptLine}
use Rattle.session_words.specs.declared.settings.Settings.{Settings}
use Rattle.session_setup.specs.declared.opening.SetUp.{SetUp}
use Rattle.session_setup.specs.declared.opening.SetUpFault.TheVariants.{Lost, Memory, Refused}
use Rattle.session_setup.specs.Outcomes.{FitsSession, SetsUp}
use Rattle.script_batches.specs.Batches.{Read}
use Rattle.lane_session.specs.Bonds.{IsOpened}
use Rattle.lane_session.specs.Sessions.{IsUnmarked}
use Rattle.lane_session.specs.Streams.{Appends as LaneAppends, Passes, ReadsAll as LaneReadsAll}
use Rattle.script_runs.specs.Ends.{TellsMount}
use Rattle.script_runs.specs.LaneRuns.{Leaves, setup_of}
use Rattle.script_runs.specs.Readings.{Reads, ReadsAll, ReadsOnce}
use Rattle.script_runs.specs.Run.{IsFirst, Says}
use Rattle.script_runs.specs.Streams.{Appends}
use Rattle.script_runs.proofs.LaneRuns.{fresh}
use Rattle.script_runs.proofs.Readings.{reads_more, reads_none}
use Rattle.script_runs.proofs.StreamLaws.{appends_none}
use Rattle.batch_runs.specs.declared.answered.Answered.{Answered}
use Rattle.batch_runs.specs.declared.stop.Stop.{Stop}
use Rattle.batch_runs.specs.Parts.{entries_in}
use Rattle.batch_runs.specs.Opening.{OpensWith, lost, opened, refused, unready}
use Rattle.batch_runs.specs.Running.{IsRead, LosesScripts, RunsOver, ended_with}

first-in : (wanted : Option ℕ) (ms first : ℕ) (given : List ℕ) → IsFirst (ms ∷ []) wanted first → IsFirst (ms ∷ given) wanted first
first-in None ms first given e = e
first-in (Some xid) ms first given e = e

-- what the set-up leaves, as the core asks for it
is-opened : (s : Settings) (first : ℕ) (v : SetUp) (h : List Entry) → SetsUp s first (Ok v) h → IsOpened (Some (setup_of s v)) h
is-opened s first v h so = (
  record {
    unmarked = fresh h so.unmarked;
    unbegun = so.unmarked.began;
    numbered = record { equal = so.sent.equal; unrepeated = so.sent.unrepeated };
    below = λ i xid bytes sent has. let among = so.sent.among i xid bytes sent has in let next = so.ends.next_is in omega (arith, among.1, next);
  },
  so.ends.idle,
)

-- a session that is lost stays so
lost-behind : (h es : List Entry) → IsLost h (length h) → IsLost (h ++ es) (length (h ++ es))
lost-behind h [] l = subst (λ (t : List Entry). IsLost t (length t)) (sym (append-nil h)) l
lost-behind h (e ∷ es) l = subst (λ (t : List Entry). IsLost t (length t)) (append_assoc h (e ∷ []) es) (lost-behind (h ++ e ∷ []) es (lost-grow h e l))

module _ (s : Settings) (lines : List ScriptLine) (now : Answered) (left : Option (List Read)) (result : Result ℕ Stop) (first ms : ℕ) (is : IsFirst (ms ∷ []) s.xid first) where
  -- it was set up
  pub ready-told : (old mid new : Option History) (v : SetUp) (given text : List ℕ) → FitsSession s first v → Along old mid (λ h k. ours h ≡ [] → SetsUp s first (Ok v) k)
      → Relates mid new (λ h k. IsOpened (Some (setup_of s v)) h → v.tally ≡ tally_of h → IsRead lines left (λ l. RunsOver s (setup_of s v) now l result given text h k))
      → DialsOnly s.nfs_port mid new → Relates old new (λ before h. before ≡ [] → IsRead lines left (λ l. OpensWith Leaves s now l (ms ∷ given) h result text))
  ready-told None mid new v given text fits up r dials = tt
  ready-told (Some x) None new v given text fits up r dials = absurd up
  ready-told (Some x) (Some y) None v given text fits up r dials = absurd r
  ready-told (Some x) (Some y) (Some z) v given text fits up r dials = λ e batch asks.
      let so = up.1 (ap ours e) in
      let over = r (is-opened s first v y.entries so) so.ends.tally batch asks in
      opened ms first given refl (first-in s.xid ms first given is) v y.entries so over.runs (record { fits = fits; asked = over.runs.asked; core = over.core; dials = dials })

  -- it was lost in its set-up
  pub lost-told : (old mid new : Option History) (tally : Tally) (given text : List ℕ) → Along old mid (λ h k. ours h ≡ [] → SetsUp s first (Err (Lost tally)) k)
      → Relates mid new (λ h k. IsUnmarked h → tally ≡ tally_of h → IsRead lines left (λ l. LosesScripts s.count now l result given text h k))
      → Relates old new (λ before h. before ≡ [] → IsRead lines left (λ l. OpensWith Leaves s now l (ms ∷ given) h result text))
  lost-told None mid new tally given text up r = tt
  lost-told (Some x) None new tally given text up r = absurd up
  lost-told (Some x) (Some y) None tally given text up r = absurd r
  lost-told (Some x) (Some y) (Some z) tally given text up r = λ e batch asks.
      let so = up.1 (ap ours e) in
      let loses = r (fresh y.entries so.unmarked) so.ends.counts batch asks in
      lost ms first given refl (first-in s.xid ms first given is) tally y.entries so loses
      (subst (λ (t : List Entry). IsLost t (length t)) (sym loses.runs.history)
      (lost-behind y.entries (entries_in loses.runs.parts ++ loses.runs.rest.entries) (record { to = length y.entries; by = omega arith; loses = so.ends.loses })))

  -- the mount was refused
  pub refused-told : (old mid : Option History) (fault : Fault) (text : List ℕ) → Along old mid (λ h k. ours h ≡ [] → SetsUp s first (Err (Refused fault)) k) → TellsMount fault (ended_with result) text
      → Relates old mid (λ before h. before ≡ [] → IsRead lines left (λ l. OpensWith Leaves s now l (ms ∷ []) h result text))
  refused-told None mid fault text up tells = tt
  refused-told (Some x) None fault text up tells = absurd up
  refused-told (Some x) (Some y) fault text up tells = λ e batch asks. refused ms first refl is fault (up.1 (ap ours e)) tells

  -- memory ran out in the set-up
  pub unready-told : (old mid : Option History) → Along old mid (λ h k. ours h ≡ [] → SetsUp s first (Err Memory) k) → ended_with result ≡ 7
      → Relates old mid (λ before h. before ≡ [] → IsRead lines left (λ l. OpensWith Leaves s now l (ms ∷ []) h result []))
  unready-told None mid up seven = tt
  unready-told (Some x) None up seven = absurd up
  unready-told (Some x) (Some y) up seven = λ e batch asks. unready ms first refl is (up.1 (ap ours e)) seven refl

-- ---- with what was read and written

from-lane : (a b : Option (List ℕ)) (text : List ℕ) → LaneAppends a b text → Appends a b text
from-lane None b text p = tt
from-lane (Some a) None text p = absurd p
from-lane (Some a) (Some b) text p = p

all-read : (a b : Option (List ℕ)) (given : List ℕ) → LaneReadsAll a b given → ReadsAll a b given
all-read None b given p = p
all-read (Some a) None given p = tt
all-read (Some a) (Some b) given p = p

-- what `open` says
abbrev pub OpenSays : (w0 w1 a b : Option (List ℕ)) (old new : Option History) (s : Settings) (lines : List ScriptLine) (now : Answered) (left : Option (List Read)) (result : Result ℕ Stop) → Type 0
OpenSays w0 w1 a b old new s lines now left result =
    Says w0 w1 (λ text. Reads a b (λ given. Relates old new (λ before h. before ≡ [] → IsRead lines left (λ l. OpensWith Leaves s now l given h result text))))

module _ (s : Settings) (lines : List ScriptLine) (now : Answered) (left : Option (List Read)) (result : Result ℕ Stop) (first : ℕ) (w0 w1 a b c : Option (List ℕ)) (old mid new : Option History)
    (one : ReadsOnce a b (λ ms. IsFirst (ms ∷ []) s.xid first)) where
  pub ready-says : (v : SetUp) → FitsSession s first v → Along old mid (λ h k. ours h ≡ [] → SetsUp s first (Ok v) k)
      → Passes b c mid new w0 w1 (λ given text h k. IsOpened (Some (setup_of s v)) h → v.tally ≡ tally_of h → IsRead lines left (λ l. RunsOver s (setup_of s v) now l result given text h k))
      → DialsOnly s.nfs_port mid new → OpenSays w0 w1 a c old new s lines now left result
  ready-says v fits up p dials = record {
    text = p.text;
    added = from-lane w0 w1 p.text p.added;
    is = (
      one.0 ∷ p.given,
      reads_more a b c one.0 p.given one.1 (all-read b c p.given p.read),
      ready-told s lines now left result first one.0 one.2 old mid new v p.given p.text fits up p.told dials,
    );
  }

  pub lost-says : (tally : Tally) → Along old mid (λ h k. ours h ≡ [] → SetsUp s first (Err (Lost tally)) k)
      → Passes b c mid new w0 w1 (λ given text h k. IsUnmarked h → tally ≡ tally_of h → IsRead lines left (λ l. LosesScripts s.count now l result given text h k))
      → OpenSays w0 w1 a c old new s lines now left result
  lost-says tally up p = record {
    text = p.text;
    added = from-lane w0 w1 p.text p.added;
    is = (
      one.0 ∷ p.given,
      reads_more a b c one.0 p.given one.1 (all-read b c p.given p.read),
      lost-told s lines now left result first one.0 one.2 old mid new tally p.given p.text up p.told,
    );
  }

  pub refused-says : (fault : Fault) → Along old mid (λ h k. ours h ≡ [] → SetsUp s first (Err (Refused fault)) k) → Says w0 w1 (TellsMount fault (ended_with result))
      → OpenSays w0 w1 a b old mid s lines now left result
  refused-says fault up said = record {
    text = said.text;
    added = said.added;
    is = (one.0 ∷ [], reads_more a b b one.0 [] one.1 (reads_none b), refused-told s lines now left result first one.0 one.2 old mid fault said.text up said.is);
  }

  pub unready-says : Along old mid (λ h k. ours h ≡ [] → SetsUp s first (Err Memory) k) → ended_with result ≡ 7 → OpenSays w0 w0 a b old mid s lines now left result
  unready-says up seven = record {
    text = [];
    added = appends_none w0;
    is = (one.0 ∷ [], reads_more a b b one.0 [] one.1 (reads_none b), unready-told s lines now left result first one.0 one.2 old mid up seven);
  }
