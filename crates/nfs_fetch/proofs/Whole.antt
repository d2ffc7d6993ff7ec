-- What a copy from the server promises once its session ended with 0 or 1.
use Rattle.std.proofs.Common.{◌≡◌, ◌≢◌, ◌≤◌, ◌<◌, inl, inr, ℕ, zero, suc, List, [], ◌∷◌, ◌++◌, length, Option, Some, None, Ok, refl, sym, ap, subst, ◌∙◌, append_assoc, append-nil, arith}
use Rattle.std.specs.Prelude.{Contains, get_or}
use Rattle.std.specs.List.{All}
use Rattle.std.proofs.lemmas.List.Elements.{All-nil}
use Rattle.world_model.specs.declared.answer.Answer.TheVariants as answers
use Rattle.world_model.specs.declared.answer.Value.{Value}
use Rattle.world_model.specs.declared.entry.Entry.{Entry}
use Rattle.world_model.specs.declared.entry.Entry.TheVariants.{Began, Answered}
use Rattle.world_model.specs.declared.op.Op.{Op}
use Rattle.world_model.specs.Follows.{Finishes, Follows, begun, marks_of, none as no_marks}
use Rattle.world_model.specs.History.{History}
use Rattle.world_model.specs.Operations.{Ended}
use Rattle.world_model.specs.Told.{Relates}
use Rattle.claims.specs.OkRows.{OkRow}
use Rattle.claims.specs.Terms.{Terms}
use Rattle.copy_targets.specs.declared.target.Took.{Took}
use Rattle.copy_targets.specs.Files.{File, files_in}
use Rattle.copy_targets.specs.Taking.{Takes}
use Rattle.fetch_scripts.specs.Fetches.{DownloadView, at_start}
use Rattle.law_copies.specs.Copied.{Done, done_marks}
use Rattle.law_copies.proofs.Marks.{begun-marks}
use Rattle.nfs_script.specs.declared.script.ScriptLine.{ScriptLine}
use Rattle.nfs_script.specs.Asked.{IsAskedLine}
use Rattle.session_words.specs.declared.settings.Settings.{Settings}
use Rattle.session_setup.specs.declared.opening.SetUp.{SetUp}
use Rattle.session_setup.specs.Origins.{terms_by}
use Rattle.session_setup.specs.Outcomes.{SetsUp}
use Rattle.session_setup.specs.Sendings.{IsUnmarked}
use Rattle.lane_session.specs.Endings.{cut, entries_of}
use Rattle.script_runs.proofs.LaneRuns.{fresh}
use Rattle.asked_runs.specs.Asking.{Round}
use Rattle.asked_runs.specs.Runs.{ArePartsFrom, Part, RunsAsked, SessionOf, cut_before, entries_in, lines_in, lines_of, lost, no_script, ready, refused, rounds_of, unready}
use Rattle.run_asked.specs.Ends.{Ends, unasked}
use Rattle.run_asked.specs.Promised.{Promised}
use Rattle.nfs_fetch.specs.Calls.{AskedSo}
use Rattle.nfs_fetch.specs.Fetched.{AllFetched, Fetched, IfTold}
use Rattle.nfs_fetch.proofs.Marks.{marks-append}
use Rattle.nfs_fetch.proofs.Parts.{Came, came, of_names}
use Rattle.nfs_fetch.proofs.Spans.{AllRead, Known, WasRead}
use Rattle.nfs_fetch.proofs.Values.{HasRows, shown-reads}
use Rattle.nfs_fetch.proofs.Weave.{Ans, ans-append, ans_marks, done-ans, done_ans}

-- ---- a file

read-at : (from : List (List ℕ)) (all : List Ans) (files : List File) (file : File) (k : ℕ) → k < length files → get_or files k file ≡ file → AllRead from all files
    → WasRead all (from ++ file.path) file.pieces
read-at from all [] file k lt e a = absurd (omega (arith, lt))
read-at from all (f ∷ files) file zero lt e a = subst (λ (x : File). WasRead all (from ++ x.path) x.pieces) e a.0
read-at from all (f ∷ files) file (suc k) lt e a = read-at from all files file k (omega (arith, lt)) e a.1

was-fetched : (terms : Terms) (h : List Entry) (all : List Ans) (path : List (List ℕ)) (pieces : List (List ℕ)) → HasRows terms h → ((lane : ℕ) → lane ≢ 16 → marks_of lane h ≡ ans_marks lane all)
    → WasRead all path pieces → Fetched h path pieces
was-fetched terms h all path pieces rows marks w =
    let front : List Entry = ans_marks w.lane w.before in
    let later : List Entry = ans_marks w.lane w.after in
    let first : List Entry = Began w.lane w.opening.line w.opening.op ∷ Answered w.lane w.opening.line (answers.Done w.opening.value) ∷ [] in
    let is : marks_of w.lane h ≡ front ++ (done_marks w.lane (w.opening ∷ w.reads) ++ later) =
    marks w.lane w.of_files
    ∙ ap (ans_marks w.lane) w.is
    ∙ ans-append w.lane w.before (done_ans w.lane (w.opening ∷ w.reads) ++ w.after)
    ∙ ap (λ (t : List Entry). front ++ t) (ans-append w.lane (done_ans w.lane (w.opening ∷ w.reads)) w.after ∙ ap (λ (t : List Entry). t ++ later) (done-ans w.lane (w.opening ∷ w.reads))) in
    record {
      lane = w.lane;
      earlier = front;
      opened = w.opening;
      reads = w.reads;
      later = later;
      opens = w.opens;
      are = shown-reads terms h rows w.lane (front ++ first) later 0 pieces w.reads (is ∙ sym (append_assoc front first (done_marks w.lane w.reads ++ later))) w.are;
      marks = is;
    }

-- ---- before the first script

no-finishes : Finishes [] []
no-finishes = record { all = λ lane. refl; answered = λ x lane line op at. absurd cc }

set-up-finishes : (h : List Entry) → IsUnmarked h → Finishes [] h
set-up-finishes h u = record {
  all = λ lane. sym (begun-marks lane h) ∙ ap (begun lane) (fresh h u lane);
  answered = λ x lane line op at. absurd (u.began x lane line op at);
}

no-follows : Follows [] []
no-follows = record { alternates = λ lane. no_marks [] refl; begins = λ lane. record { rest = []; is = refl } }

none-are : (xs : List Entry) (e : Entry) (ys : List Entry) → [] ≡ xs ++ e ∷ ys → ⊥
none-are [] e ys no_way = absurd cc
none-are (x ∷ xs) e ys no_way = absurd cc

-- ---- a session that ended with 0 or 1

module _ {T : Type 0} (told : T → Option (List Took)) (s : Settings) (from : List (List ℕ)) (t : T) (v : DownloadView) (r q : T) (start : told t ≡ Some [])
    (left : Takes (told r) (told q) []) (g : List Took) (end : told q ≡ Some g) where
  -- nothing was taken at the end
  same-later : (later : List Took) → told r ≡ Some later → later ≡ g
  same-later later e = by (told r) (told q) e end left
    where
      by : (a b : Option (List Took)) → a ≡ Some later → b ≡ Some g → Takes a b [] → later ≡ g
      by (Some x) (Some y) a b k =
          let one : x ≡ later = cc in
          let two : y ≡ g = cc in
          sym one ∙ sym (append-nil x) ∙ sym k ∙ two
      by (Some x) None a b k = absurd k
      by None b a e k = absurd cc

  abbrev pub AskedFor : List Round → Type 0
  AskedFor rounds = AskedSo told rounds (at_start from) t v r

  -- from the parts on
  by-parts : (terms : Terms) (parts : List Part) (before h : List Entry) → AskedFor (rounds_of [] 0 parts) → h ≡ before ++ entries_in parts → Finishes [] before
      → ((lane : ℕ) → marks_of lane before ≡ []) → ArePartsFrom before [] parts → Follows (entries_of (lines_in parts)) h → All IsAskedLine (lines_in parts) → HasRows terms h → AllFetched from g h
  by-parts terms parts before h asked is f none are follows lines rows file has =
      let c : Came told from h follows.alternates parts [] [] [] r =
      came told from h follows.alternates [] 0 parts (at_start from) t v r before [] [] [] [] refl refl is f are lines start
      (of_names refl refl refl (record { files = tt; now = λ yes_way. absurd cc })) asked in
      let later_is : c.later ≡ g = same-later c.later c.tells in
      let marks : (lane : ℕ) → lane ≢ 16 → marks_of lane h ≡ ans_marks lane c.rest = λ lane other.
      ap (marks_of lane) is ∙ marks-append lane before (entries_in parts) ∙ ap (λ (m : List Entry). m ++ marks_of lane (entries_in parts)) (none lane) ∙ c.marks lane other in
      let all : AllRead from c.rest (files_in g) = subst (λ (l : List Took). AllRead from c.rest (files_in l)) later_is c.files in
      was-fetched terms h c.rest (from ++ file.path) file.pieces rows marks (read-at from c.rest (files_in g) file has.0 has.1 has.2 all)

  by-session : (first : ℕ) (setup : SetUp) (later : List ℕ) (before h : List Entry) (status : ℕ) → status ≤ 1 → SetsUp s first (Ok setup) before
      → (session : SessionOf later before h status) → AskedFor (rounds_of [] 0 session.parts) → Promised s (lines_of session) first setup before h → AllFetched from g h
  by-session first setup later before h status few so session asked promised =
      let whole = session.whole (λ seven. absurd (omega (arith, few, seven))) in
      let lines_are : lines_of session ≡ lines_in session.parts =
      ap (λ (l : List ScriptLine). lines_in session.parts ++ l) whole.0 ∙ append-nil (lines_in session.parts) in
      by-parts (terms_by s first) session.parts before h asked
      (session.history ∙ ap (λ (k : List Entry). before ++ (entries_in session.parts ++ k)) whole.1 ∙ ap (λ (k : List Entry). before ++ k) (append-nil (entries_in session.parts)))
      (set-up-finishes before so.unmarked) (fresh before so.unmarked) session.are
      (subst (λ (l : List ScriptLine). Follows (entries_of l) h) lines_are session.follows)
      (subst (All IsAskedLine) lines_are promised.asked)
      (λ lane x y op value e. (promised.caused 7 (cut (inr refl))).ok lane x y op value e)

  by-run : (readings : List ℕ) (h : List Entry) (status : ℕ) → status ≤ 1 → RunsAsked Promised AskedFor s readings h status → AllFetched from g h
  by-run readings h status few (no_script none asked less) = subst (AllFetched from g) (sym none)
      (λ file has. absurd (by-none file has))
    where
      by-none : (file : File) → Contains (files_in g) file → ⊥
      by-none file has =
          let c : Came told from [] no-follows.alternates [] [] [] [] r =
          came told from [] no-follows.alternates [] 0 [] (at_start from) t v r [] [] [] [] [] refl refl refl no-finishes tt (All-nil IsAskedLine) start
          (of_names refl refl refl (record { files = tt; now = λ yes_way. absurd cc })) asked in
          let later_is : c.later ≡ g = same-later c.later c.tells in
          no-read c.rest c.marks (read-at from c.rest (files_in g) file has.0 has.1 has.2 (subst (λ (l : List Took). AllRead from c.rest (files_in l)) later_is c.files))
        where
          no-read : (all : List Ans) → ((lane : ℕ) → lane ≢ 16 → [] ≡ ans_marks lane all) → WasRead all (from ++ file.path) file.pieces → ⊥
          no-read all m w =
              let whole : [] ≡ ans_marks w.lane w.before ++ ans_marks w.lane (done_ans w.lane (w.opening ∷ w.reads) ++ w.after) =
              m w.lane w.of_files ∙ ap (ans_marks w.lane) w.is ∙ ans-append w.lane w.before (done_ans w.lane (w.opening ∷ w.reads) ++ w.after) in
              let rest : ans_marks w.lane (done_ans w.lane (w.opening ∷ w.reads) ++ w.after) ≡ done_marks w.lane (w.opening ∷ w.reads) ++ ans_marks w.lane w.after =
              ans-append w.lane (done_ans w.lane (w.opening ∷ w.reads)) w.after ∙ ap (λ (t : List Entry). t ++ ans_marks w.lane w.after) (done-ans w.lane (w.opening ∷ w.reads)) in
              none-are (ans_marks w.lane w.before) (Began w.lane w.opening.line w.opening.op) _ (whole ∙ ap (λ (t : List Entry). ans_marks w.lane w.before ++ t) rest)
  by-run readings h status few (cut_before none seven) = absurd (omega (arith, few, seven))
  by-run readings h status few (ready ms first later is by setup before so session asked promised) = by-session first setup later before h status few so session (asked few) promised
  by-run readings h status few (lost ms first is by tally so six) = absurd (omega (arith, few, six))
  by-run readings h status few (refused ms first is by fault so (inl eight)) = absurd (omega (arith, few, eight))
  by-run readings h status few (refused ms first is by fault so (inr seven)) = absurd (omega (arith, few, seven))
  by-run readings h status few (unready ms first is by so seven) = absurd (omega (arith, few, seven))

-- ---- the whole clause

module _ {T : Type 0} (told : T → Option (List Took)) (s : Settings) (from : List (List ℕ)) (t : T) (v : DownloadView) (r q : T)
    (old new : Option History) (readings : List ℕ) (status : ℕ) (few : status ≤ 1) (start : told t ≡ Some []) (left : Takes (told r) (told q) []) where
  by-told : (g : List Took) → told q ≡ Some g → (a b : Option History)
      → Relates a b (λ before h. before ≡ [] → RunsAsked Promised (λ rounds. AskedSo told rounds (at_start from) t v r) s readings h status)
      → Relates a b (λ before h. before ≡ [] → AllFetched from g h)
  by-told g end None b k = tt
  by-told g end (Some a) None k = absurd k
  by-told g end (Some a) (Some b) k = λ none. by-run told s from t v r q start left g end readings b.entries status few (k none)

  told-fetch : Relates old new (λ before h. before ≡ [] → RunsAsked Promised (λ rounds. AskedSo told rounds (at_start from) t v r) s readings h status)
      → IfTold (told q) (λ g. Relates old new (λ before h. before ≡ [] → AllFetched from g h))
  told-fetch k = by (told q) refl
    where
      by : (o : Option (List Took)) → told q ≡ o → IfTold o (λ g. Relates old new (λ before h. before ≡ [] → AllFetched from g h))
      by None e = tt
      by (Some g) e = by-told g e old new k

  pub whole-fetch : (u : DownloadView) → u ≡ at_start from
      → Relates old new (λ before h. before ≡ [] → RunsAsked Promised (λ rounds. AskedSo told rounds u t v r) s readings h status)
      → IfTold (told q) (λ g. Relates old new (λ before h. before ≡ [] → AllFetched from g h))
  whole-fetch u is k =
      told-fetch (subst (λ (w : DownloadView). Relates old new (λ before h. before ≡ [] → RunsAsked Promised (λ rounds. AskedSo told rounds w t v r) s readings h status)) is k)

-- ---- a session that didn't begin

-- memory ran out before it
pub unbegun : (s : Settings) (told : Option History) → Relates told told (λ before h. before ≡ [] → Ends s h 7)
unbegun s None = tt
unbegun s (Some t) = λ none. unasked none (inr refl)
