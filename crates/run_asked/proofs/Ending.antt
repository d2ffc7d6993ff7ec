-- Why a session of scripts that are asked for ends with its status, by what it came to.
use Rattle.std.proofs.Common.{◌≡◌, ◌≢◌, ◌≤◌, ◌⊎◌, ◌+◌, inl, inr, ℕ, zero, suc, List, [], ◌∷◌, ◌++◌, length, Option, Some, None, Ok, refl, sym, ap, subst, ◌∙◌, append_assoc, append-nil, arith}
use Rattle.std.proofs.lemmas.List.{length-append}
use Rattle.world_model.specs.declared.answer.Answer.{Answer}
use Rattle.world_model.specs.declared.answer.Answer.TheVariants.{Refused}
use Rattle.world_model.specs.declared.answer.Fault.TheVariants as faults
use Rattle.world_model.specs.declared.entry.Entry.{Entry}
use Rattle.world_model.specs.declared.entry.Entry.TheVariants.{Answered}
use Rattle.world_model.specs.Entries.{At}
use Rattle.world_model.specs.Follows.{Finishes, begun}
use Rattle.world_model.specs.History.{History}
use Rattle.world_model.specs.Mounts.{Rooted}
use Rattle.world_model.specs.Told.{Relates}
use Rattle.world_model.proofs.Growth.{Rooted-grow, Rooted-wide}
use Rattle.world_model.proofs.Places.{At-grow}
use Rattle.nfs_script.specs.declared.script.ScriptLine.{ScriptLine}
use Rattle.session_words.specs.declared.settings.Settings.{Settings}
use Rattle.session_setup.specs.declared.opening.SetUp.{SetUp}
use Rattle.session_setup.specs.Origins.{origin_of}
use Rattle.session_setup.specs.Outcomes.{SetsUp}
use Rattle.session_setup.specs.Sendings.{IsUnmarked}
use Rattle.lane_session.specs.Endings.{entries_of}
use Rattle.lane_session.specs.Statuses as statuses
use Rattle.lane_session.specs.Statuses.{HasStatus, IsAnswered}
use Rattle.lane_session.proofs.Ending.{broken-none}
use Rattle.script_runs.specs.Readings.{Reads}
use Rattle.script_runs.proofs.LaneRuns.{fresh}
use Rattle.asked_runs.specs.Asking.{Round}
use Rattle.asked_runs.specs.Runs as runs
use Rattle.asked_runs.specs.Runs.{AreKept, ArePartsFrom, Part, RunsAsked, SessionOf, entries_in, last_status, lines_in, lines_of}
use Rattle.asked_runs.specs.Statuses.{IsEnding}
use Rattle.run_asked.specs.Ends.{Ends, RanTo, cut, kept, lost, lost_before, ran, unasked, unmounted, unready}
use Rattle.run_asked.specs.Promised.{Promised}

-- ---- each line has its answer

front-none : {T : Type 0} → (xs rest : List T) → [] ≡ xs ++ rest → xs ≡ []
front-none [] rest e = refl
front-none (x ∷ xs) rest e = absurd cc

-- before the first script
pub unmarked-finishes : (h : List Entry) → IsUnmarked h → Finishes [] h
unmarked-finishes h u = record {
  all = λ lane. let front = (broken-none [] h (fresh h u)).follows.begins lane in front-none (begun lane h) front.rest front.is;
  answered = λ x lane line op at. absurd (u.began x lane line op at);
}

pub finishes-all : (h : List Entry) (done : List ScriptLine) (parts : List Part) → Finishes (entries_of done) h → ArePartsFrom h done parts
    → Finishes (entries_of (done ++ lines_in parts)) (h ++ entries_in parts)
finishes-all h done [] f are =
    subst (λ (l : List ScriptLine). Finishes (entries_of l) (h ++ [])) (sym (append-nil done)) (subst (λ (k : List Entry). Finishes (entries_of done) k) (sym (append-nil h)) f)
finishes-all h done (p ∷ parts) f are =
    subst (λ (l : List ScriptLine). Finishes (entries_of l) (h ++ entries_in (p ∷ parts))) (append_assoc done p.lines (lines_in parts))
    (subst (λ (k : List Entry). Finishes (entries_of ((done ++ p.lines) ++ lines_in parts)) k) (append_assoc h p.entries (entries_in parts))
    (finishes-all (h ++ p.entries) (done ++ p.lines) parts are.0.finishes are.1))

-- ---- answers of the parts are answers of the history

at-split : (xs ys : List Entry) (i : ℕ) (e : Entry) → At (xs ++ ys) i e → At xs i e ⊎ ((j : ℕ) × At ys j e)
at-split [] ys i e at = inr (i, at)
at-split (x ∷ xs) ys zero e at = inl at
at-split (x ∷ xs) ys (suc i) e at = at-split xs ys i e at

at-behind : (xs ys : List Entry) (i : ℕ) (e : Entry) → At ys i e → (j : ℕ) × At (xs ++ ys) j e
at-behind [] ys i e at = (i, at)
at-behind (x ∷ xs) ys i e at = let rest = at-behind xs ys i e at in (suc rest.0, rest.1)

answered-front : (xs ys : List Entry) (answer : Answer) → IsAnswered xs answer → IsAnswered (xs ++ ys) answer
answered-front xs ys answer a = record { at = a.at; lane = a.lane; line = a.line; is = At-grow xs ys a.at (Answered a.lane a.line answer) a.is }

pub answered-behind : (xs ys : List Entry) (answer : Answer) → IsAnswered ys answer → IsAnswered (xs ++ ys) answer
answered-behind xs ys answer a =
    let there = at-behind xs ys a.at (Answered a.lane a.line answer) a.is in
    record { at = there.0; lane = a.lane; line = a.line; is = there.1 }

answered-either : (xs ys : List Entry) (answer : Answer) → IsAnswered (xs ++ ys) answer → IsAnswered xs answer ⊎ IsAnswered ys answer
answered-either xs ys answer a = by (at-split xs ys a.at (Answered a.lane a.line answer) a.is)
  where
    by : At xs a.at (Answered a.lane a.line answer) ⊎ ((j : ℕ) × At ys j (Answered a.lane a.line answer)) → IsAnswered xs answer ⊎ IsAnswered ys answer
    by (inl at) = inl (record { at = a.at; lane = a.lane; line = a.line; is = at })
    by (inr there) = inr (record { at = there.0; lane = a.lane; line = a.line; is = there.1 })

-- ---- by the statuses of the parts

status-lost : (entries : List Entry) (status : ℕ) → HasStatus entries status → status ≡ 6 → IsAnswered entries (Refused faults.Lost)
status-lost entries status (statuses.lost six a) is = a
status-lost entries status (statuses.refused one fault a none) is = absurd (omega (arith, one, is))
status-lost entries status (statuses.well well none) is = absurd (omega (arith, well, is))

status-kept : (entries : List Entry) (status : ℕ) → HasStatus entries status → status ≢ 6 → IsAnswered entries (Refused faults.Lost) → ⊥
status-kept entries status (statuses.lost six a) other = absurd (other six)
status-kept entries status (statuses.refused one fault a none) other = none
status-kept entries status (statuses.well well none) other = none faults.Lost

lost-in : (status : ℕ) (h : List Entry) (done : List ScriptLine) (parts : List Part) → ArePartsFrom h done parts → last_status status parts ≡ 6
    → (status ≡ 6) ⊎ IsAnswered (entries_in parts) (Refused faults.Lost)
lost-in status h done [] are six = inl six
lost-in status h done (p ∷ parts) are six =
    elim (lost-in p.status (h ++ p.entries) (done ++ p.lines) parts are.1 six) [
      | inl here ↦ inr (answered-front p.entries (entries_in parts) (Refused faults.Lost) (status-lost p.entries p.status are.0.status here))
      | inr later ↦ inr (answered-behind p.entries (entries_in parts) (Refused faults.Lost) later)
    ]

kept-in : (h : List Entry) (done : List ScriptLine) (parts : List Part) → ArePartsFrom h done parts → AreKept parts → IsAnswered (entries_in parts) (Refused faults.Lost) → ⊥
kept-in h done [] are others a = absurd (none a.at a.lane a.line a.is)
  where
    none : (i lane line : ℕ) → At [] i (Answered lane line (Refused faults.Lost)) → ⊥
    none i lane line at = cc
kept-in h done (p ∷ parts) are others a =
    elim (answered-either p.entries (entries_in parts) (Refused faults.Lost) a) [
      | inl here ↦ status-kept p.entries p.status are.0.status others.0 here
      | inr later ↦ kept-in (h ++ p.entries) (done ++ p.lines) parts are.1 others.1 later
    ]

-- ---- a session that was set up

module _ (s : Settings) (first : ℕ) (later : List ℕ) (v : SetUp) (before h : List Entry) (status : ℕ) (so : SetsUp s first (Ok v) before) (session : SessionOf later before h status)
  where
    rooted : Rooted (origin_of s.export) h (length h) v.root
    rooted =
        let more : List Entry = entries_in session.parts ++ session.last in
        let long : length h ≡ length before + length more = ap length session.history ∙ length-append before more in
        Rooted-wide (origin_of s.export) h (length before) (length h) v.root (omega (arith, long))
        (subst (λ (k : List Entry). Rooted (origin_of s.export) k (length before) v.root) (sym session.history) (Rooted-grow (origin_of s.export) before more (length before) v.root so.ends.rooted))

    module _ (uncut : status ≢ 7) where
      all-parts : h ≡ before ++ entries_in session.parts
      all-parts =
          session.history
          ∙ ap (λ (k : List Entry). before ++ (entries_in session.parts ++ k)) (session.whole uncut).1
          ∙ ap (λ (k : List Entry). before ++ k) (append-nil (entries_in session.parts))

      finishes : Finishes (entries_of (lines_of session)) h
      finishes =
          subst (λ (l : List ScriptLine). Finishes (entries_of l) h)
          (sym (ap (λ (l : List ScriptLine). lines_in session.parts ++ l) (session.whole uncut).0 ∙ append-nil (lines_in session.parts)))
          (subst (λ (k : List Entry). Finishes (entries_of (lines_in session.parts)) k) (sym all-parts) (finishes-all before [] session.parts (unmarked-finishes before so.unmarked) session.are))

      lost-here : status ≡ 6 → IsAnswered h (Refused faults.Lost)
      lost-here six =
          elim (lost-in 0 before [] session.parts session.are (session.lost six)) [
            | inl zero_is ↦ absurd (omega (arith, zero_is))
            | inr a ↦ subst (λ (k : List Entry). IsAnswered k (Refused faults.Lost)) (sym all-parts) (answered-behind before (entries_in session.parts) (Refused faults.Lost) a)
          ]

      kept-here : status ≤ 1 → IsAnswered h (Refused faults.Lost) → ⊥
      kept-here few a =
          elim (answered-either before (entries_in session.parts) (Refused faults.Lost) (subst (λ (k : List Entry). IsAnswered k (Refused faults.Lost)) all-parts a)) [
            | inl early ↦ so.unmarked.answered early.at early.lane early.line (Refused faults.Lost) early.is
            | inr here ↦ kept-in before [] session.parts session.are (session.kept few) here
          ]

    ran-to : RanTo (lines_of session) h status
    ran-to = by session.ending
      where
        by : IsEnding status → RanTo (lines_of session) h status
        by (inl (inl few)) =
            let uncut : status ≢ 7 = λ seven. absurd (omega (arith, few, seven)) in
            kept few (finishes uncut) (kept-here uncut few)
        by (inl (inr six)) =
            let uncut : status ≢ 7 = λ seven. absurd (omega (arith, six, seven)) in
            lost six (finishes uncut) (lost-here uncut six)
        by (inr seven) = cut seven

    ready-ends : Promised s (lines_of session) first v before h → Ends s h status
    ready-ends promised = ran (lines_of session) first v before rooted session.follows promised ran-to

-- ---- whatever it came to

asked-ends : (Asked : List Round → Type 0) (s : Settings) (given : List ℕ) (h : List Entry) (status : ℕ) → RunsAsked Promised Asked s given h status → Ends s h status
asked-ends Asked s given h status (runs.no_script none asked few) = unasked none (inl few)
asked-ends Asked s given h status (runs.cut_before none off) = unasked none (inr off)
asked-ends Asked s given h status (runs.ready ms first later is by v before so session asked promised) = ready-ends s first later v before h status so session promised
asked-ends Asked s given h status (runs.lost ms first is by tally so six) = lost_before six so.ends.loses so.unmarked.began
asked-ends Asked s given h status (runs.refused ms first is by fault so how) =
    unmounted how (record { path = so.ends.path; fault = fault; mounting = so.ends.mounting; refused = so.ends.refused; none = so.unmarked.began })
asked-ends Asked s given h status (runs.unready ms first is by so seven) = unready seven so.unmarked.began

-- with what the clock gave and what the link tells
pub with-ends : (a b : Option (List ℕ)) (old new : Option History) (Asked : List Round → Type 0) (s : Settings) (status : ℕ)
    → Reads a b (λ given. Relates old new (λ before h. before ≡ [] → RunsAsked Promised Asked s given h status))
    → Relates old new (λ before h. before ≡ [] → Ends s h status)
with-ends a b old new Asked s status said = by old new said.2
  where
    by : (old new : Option History) → Relates old new (λ before h. before ≡ [] → RunsAsked Promised Asked s said.0 h status) → Relates old new (λ before h. before ≡ [] → Ends s h status)
    by None new r = tt
    by (Some x) None r = absurd r
    by (Some x) (Some y) r = λ e. asked-ends Asked s said.0 y.entries status (r e)
