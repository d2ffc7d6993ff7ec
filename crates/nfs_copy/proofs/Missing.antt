-- Why not all was copied.
use Rattle.std.proofs.Common.{◌≡◌, ◌≢◌, ◌⊎◌, inl, inr, ℕ, true, List, [], ◌∷◌, ◌++◌, Option, Some, None, refl, sym, ap, subst, ◌∙◌, arith}
use Rattle.world_model.specs.declared.answer.Answer.{Answer}
use Rattle.world_model.specs.declared.answer.Answer.TheVariants.{Refused}
use Rattle.world_model.specs.declared.answer.Fault.{Fault}
use Rattle.world_model.specs.declared.answer.Fault.TheVariants as faults
use Rattle.world_model.specs.declared.entry.Entry.{Entry}
use Rattle.world_model.specs.declared.entry.Entry.TheVariants.{Answered}
use Rattle.world_model.specs.Entries.{At}
use Rattle.world_model.specs.History.{History}
use Rattle.world_model.specs.Told.{Relates}
use Rattle.world_model.specs.Transcript.{transcript}
use Rattle.world_model.proofs.Places.{At-grow}
use Rattle.nfs_script.specs.declared.script.ScriptLine.{ScriptLine}
use Rattle.file_trees.specs.declared.tree.Given.{Given}
use Rattle.file_trees.specs.Giving.{Gives}
use Rattle.copy_scripts.specs.Uploads as uploads
use Rattle.copy_scripts.specs.Uploads.{Amiss, AnyCant, UploadView, at_start}
use Rattle.copy_scripts.proofs.Uploads.{cant-behind, cant-front, gives-none, gives-then}
use Rattle.session_words.specs.declared.settings.Settings.{Settings}
use Rattle.lane_session.specs.Statuses as statuses
use Rattle.lane_session.specs.Statuses.{HasStatus, IsAnswered}
use Rattle.asked_runs.specs.Asking.{Round}
use Rattle.asked_runs.specs.Runs as runs
use Rattle.asked_runs.specs.Runs.{ArePartsFrom, Part, RunsAsked, SessionOf, entries_in, rounds_of}
use Rattle.run_asked.specs.Promised.{Promised}
use Rattle.run_asked.proofs.Ending.{answered-behind}
use Rattle.nfs_copy.specs.Calls.{AskedSo}
use Rattle.nfs_copy.specs.Promises.{IfTold, Missed, refused, unfit}
use Rattle.nfs_copy.proofs.Parts.{all-given}

-- ---- the calls for scripts

-- at one of these calls the script before had another status than 0
abbrev pub AnyRefused : List Round → Type 0
AnyRefused [] = ⊥
AnyRefused (round ∷ rounds) = (round.status ≢ 0) ⊎ AnyRefused rounds

-- Something went wrong: before these calls, or in a script, or as something that was given can't be copied.
data Erred (rounds : List Round) (given : List Given) (u : UploadView) : Type 0 where
  was : u.wrong ≡ true → Erred rounds given u
  in_script : AnyRefused rounds → Erred rounds given u
  in_tree : AnyCant u.to given → Erred rounds given u

-- what the tree gave at all of them
record GaveAll {T : Type 0} (given : T → Option (List Given)) (rounds : List Round) (u v : UploadView) (t s : T) : Type 0 where
  pub more : List Given
  pub told : Gives (given t) (given s) more
  pub amiss : v.wrong ≡ true → Erred rounds more u

gave-all : {T : Type 0} (given : T → Option (List Given)) (over : T → Type 0) (rounds : List Round) (u : UploadView) (t : T) (v : UploadView) (s : T)
    → AskedSo given over rounds u t v s → GaveAll given rounds u v t s
gave-all {T} given over [] u t v s so = record {
  more = [];
  told = subst (λ (x : T). Gives (given t) (given x) []) (sym so.1) (gives-none (given t));
  amiss = λ e. was (ap (λ (x : UploadView). x.wrong) (sym so.0) ∙ e);
}
gave-all given over (round ∷ rounds) u t v s so =
    let w : UploadView = so.0 in
    let later : GaveAll given rounds w v so.1 s = gave-all given over rounds w so.1 v s so.3 in
    let now : List Given = so.2.gave.more in
    let to : w.to ≡ u.to = so.2.gave.so.to in
    record {
      more = now ++ later.more;
      told = gives-then (given t) (given so.1) (given s) now later.more so.2.gave.told later.told;
      amiss = λ e. by now later.more w to (later.amiss e) (so.2.gave.so.amiss);
    }
  where
    by : (now more : List Given) (w : UploadView) → w.to ≡ u.to → Erred rounds more w → (w.wrong ≡ true → Amiss round.status now u) → Erred (round ∷ rounds) (now ++ more) u
    by now more w to (in_script a) amiss = in_script (inr a)
    by now more w to (in_tree cant) amiss = in_tree (cant-behind u.to now more (subst (λ (x : List (List ℕ)). AnyCant x more) to cant))
    by now more w to (was e) amiss = first (amiss e)
      where
        first : Amiss round.status now u → Erred (round ∷ rounds) (now ++ more) u
        first (uploads.earlier e) = was e
        first (uploads.refused other) = in_script (inl other)
        first (uploads.unfit cant) = in_tree (cant-front u.to now more cant)

-- ---- the scripts that were run

answered-front : (xs ys : List Entry) (answer : Answer) → IsAnswered xs answer → IsAnswered (xs ++ ys) answer
answered-front xs ys answer a = record { at = a.at; lane = a.lane; line = a.line; is = At-grow xs ys a.at (Answered a.lane a.line answer) a.is }

-- an operation of them was refused
record AnyFault (entries : List Entry) : Type 0 where
  pub fault : Fault
  pub answered : IsAnswered entries (Refused fault)

fault-of : (entries : List Entry) (status : ℕ) → HasStatus entries status → status ≢ 0 → AnyFault entries
fault-of entries status (statuses.lost six a) other = record { fault = faults.Lost; answered = a }
fault-of entries status (statuses.refused one fault a none) other = record { fault = fault; answered = a }
fault-of entries status (statuses.well well none) other = absurd (other well)

faults-in : (h : List Entry) (done : List ScriptLine) (answers : List ℕ) (status : ℕ) (parts : List Part) → ArePartsFrom h done parts → AnyRefused (rounds_of answers status parts)
    → (status ≢ 0) ⊎ AnyFault (entries_in parts)
faults-in h done answers status [] are (inl other) = inl other
faults-in h done answers status [] are (inr none) = absurd none
faults-in h done answers status (p ∷ parts) are (inl other) = inl other
faults-in h done answers status (p ∷ parts) are (inr later) =
    elim (faults-in (h ++ p.entries) (done ++ p.lines) (transcript p.entries) p.status parts are.1 later) [
      | inl here ↦ let f : AnyFault p.entries = fault-of p.entries p.status are.0.status here in
          inr (record { fault = f.fault; answered = answered-front p.entries (entries_in parts) (Refused f.fault) f.answered })
      | inr f ↦ inr (record { fault = f.fault; answered = answered-behind p.entries (entries_in parts) (Refused f.fault) f.answered })
    ]

no-fault : AnyFault [] → ⊥
no-fault f = none f.answered.at f.answered.lane f.answered.line f.fault f.answered.is
  where
    none : (i lane line : ℕ) (fault : Fault) → At [] i (Answered lane line (Refused fault)) → ⊥
    none i lane line fault at = cc

-- ---- a copy that ended with 1

module _ {T : Type 0} (given : T → Option (List Given)) (over : T → Type 0) (s : Settings) (to : List (List ℕ)) (t : T) (v : UploadView) (r : T)
    (wrong : v.wrong ≡ true) (start : given t ≡ Some []) (g : List Given) (end : given r ≡ Some g) where
  abbrev pub AskedFor : List Round → Type 0
  AskedFor rounds = AskedSo given over rounds (at_start to) t v r

  by-parts : (parts : List Part) (before h : List Entry) → AskedFor (rounds_of [] 0 parts) → ArePartsFrom before [] parts
      → (AnyFault (entries_in parts) → Missed to g h) → Missed to g h
  by-parts parts before h asked are told =
      let all : GaveAll given (rounds_of [] 0 parts) (at_start to) v t r = gave-all given over (rounds_of [] 0 parts) (at_start to) t v r asked in
      by all.more (all.amiss wrong) (all-given (given t) (given r) all.more g start end all.told)
    where
      by : (more : List Given) → Erred (rounds_of [] 0 parts) more (at_start to) → more ≡ g → Missed to g h
      by more (was e) same = absurd cc
      by more (in_script a) same =
          elim (faults-in before [] [] 0 parts are a) [
            | inl other ↦ absurd (other refl)
            | inr f ↦ told f
          ]
      by more (in_tree cant) same = unfit (subst (AnyCant to) same cant)

  by-session : (later : List ℕ) (before h : List Entry) (status : ℕ) (session : SessionOf later before h status) → AskedFor (rounds_of [] 0 session.parts) → Missed to g h
  by-session later before h status session asked =
      by-parts session.parts before h asked session.are
      (λ f. refused f.fault (subst (λ (k : List Entry). IsAnswered k (Refused f.fault)) (sym session.history)
      (answered-behind before (entries_in session.parts ++ session.last) (Refused f.fault) (answered-front (entries_in session.parts) session.last (Refused f.fault) f.answered))))

  by-run : (readings : List ℕ) (h : List Entry) (status : ℕ) → status ≡ 1 → RunsAsked Promised AskedFor s readings h status → Missed to g h
  by-run readings h status one (runs.no_script none asked few) = by-parts [] [] h asked tt (λ f. absurd (no-fault f))
  by-run readings h status one (runs.cut_before none seven) = absurd (omega (arith, one, seven))
  by-run readings h status one (runs.ready ms first later is by v before so session asked promised) = by-session later before h status session (asked (omega (arith, one)))
  by-run readings h status one (runs.lost ms first is by tally so six) = absurd (omega (arith, one, six))
  by-run readings h status one (runs.refused ms first is by fault so (inl eight)) = absurd (omega (arith, one, eight))
  by-run readings h status one (runs.refused ms first is by fault so (inr seven)) = absurd (omega (arith, one, seven))
  by-run readings h status one (runs.unready ms first is by so seven) = absurd (omega (arith, one, seven))

-- ---- the whole clause

module _ {T : Type 0} (given : T → Option (List Given)) (over : T → Type 0) (s : Settings) (to : List (List ℕ)) (t : T) (v : UploadView) (r : T)
    (old new : Option History) (readings : List ℕ) (status : ℕ) (one : status ≡ 1) (wrong : v.wrong ≡ true) (start : given t ≡ Some []) where
  told : (g : List Given) → given r ≡ Some g → (a b : Option History)
      → Relates a b (λ before h. before ≡ [] → RunsAsked Promised (λ rounds. AskedSo given over rounds (at_start to) t v r) s readings h status)
      → Relates a b (λ before h. before ≡ [] → Missed to g h)
  told g end None b k = tt
  told g end (Some a) None k = absurd k
  told g end (Some a) (Some b) k = λ none. by-run given over s to t v r wrong start g end readings b.entries status one (k none)

  by-told : Relates old new (λ before h. before ≡ [] → RunsAsked Promised (λ rounds. AskedSo given over rounds (at_start to) t v r) s readings h status)
      → (o : Option (List Given)) → given r ≡ o → IfTold o (λ g. Relates old new (λ before h. before ≡ [] → Missed to g h))
  by-told k None e = tt
  by-told k (Some g) e = told g e old new k

  pub missed-copy : (u : UploadView) → u ≡ at_start to
      → Relates old new (λ before h. before ≡ [] → RunsAsked Promised (λ rounds. AskedSo given over rounds u t v r) s readings h status)
      → IfTold (given r) (λ g. Relates old new (λ before h. before ≡ [] → Missed to g h))
  missed-copy u is k =
      by-told (subst (λ (w : UploadView). Relates old new (λ before h. before ≡ [] → RunsAsked Promised (λ rounds. AskedSo given over rounds w t v r) s readings h status)) is k)
      (given r) refl
