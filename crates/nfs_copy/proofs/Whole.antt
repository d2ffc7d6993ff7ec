-- What a copy promises once its session ended with 0.
use Rattle.std.proofs.Common.{◌≡◌, inl, inr, ℕ, false, List, [], ◌∷◌, ◌++◌, map, Option, Some, None, Ok, refl, sym, ap, subst, ◌∙◌, append-nil, arith}
use Rattle.std.specs.List.{All}
use Rattle.std.proofs.lemmas.List.Elements.{All-cons, All-contains, All-nil}
use Rattle.world_model.specs.declared.answer.Answer.TheVariants as answers
use Rattle.world_model.specs.declared.answer.Value.{Value}
use Rattle.world_model.specs.declared.entry.Entry.{Entry}
use Rattle.world_model.specs.declared.op.Op.{Op}
use Rattle.world_model.specs.Follows.{Follows, begun, none as no_marks}
use Rattle.world_model.specs.History.{History}
use Rattle.world_model.specs.Operations.{Ended}
use Rattle.world_model.specs.Told.{Relates}
use Rattle.claims.specs.OkRows.{OkRow}
use Rattle.file_trees.specs.declared.tree.Given.{Given}
use Rattle.copy_plan.specs.Trees.{no_files, plan_of}
use Rattle.copy_scripts.specs.Uploads.{AreWhole, IsWhole, UploadView, at_start}
use Rattle.law_copies.specs.Copied.{Copied, Done, copy_ops, done_marks, laid}
use Rattle.law_copies.proofs.Finding.{rows-find}
use Rattle.law_copies.proofs.Lasting.{copies-stay}
use Rattle.law_copies.proofs.Marks.{begun-marks}
use Rattle.nfs_script.specs.declared.script.ScriptLine.{ScriptLine}
use Rattle.session_words.specs.declared.settings.Settings.{Settings}
use Rattle.session_words.specs.Words.{IsCommand}
use Rattle.session_setup.specs.declared.opening.SetUp.{SetUp}
use Rattle.session_setup.specs.Origins.{modes_of, origin_of, terms_by}
use Rattle.session_setup.specs.Outcomes.{SetsUp}
use Rattle.session_setup.specs.Sendings.{IsUnmarked}
use Rattle.lane_session.specs.Endings.{cut, entries_of}
use Rattle.script_runs.proofs.LaneRuns.{fresh}
use Rattle.asked_runs.specs.Asking.{Round}
use Rattle.asked_runs.specs.Runs.{ArePartsFrom, Part, RunsAsked, SessionOf, cut_before, entries_in, lines_in, lines_of, lost, no_script, ready, refused, rounds_of, unready}
use Rattle.run_asked.specs.Promised.{Promised}
use Rattle.nfs_copy.specs.Calls.{AskedSo}
use Rattle.nfs_copy.specs.Promises.{AllCopied, AllStay, CameWhole, Copies, CopiesBy, IfTold}
use Rattle.nfs_copy.proofs.Copies.{IsBefore, all-copied}
use Rattle.nfs_copy.proofs.Parts.{Came, all-given, came}

-- ---- what came

whole-all : (given : List Given) → AreWhole given → All IsWhole given
whole-all [] w = All-nil IsWhole
whole-all (g ∷ given) w = All-cons IsWhole g given w.0 (whole-all given w.1)

came-whole : (given : List Given) → AreWhole given → CameWhole given
came-whole given w = record {
  readable = λ path error has. All-contains IsWhole given _ (whole-all given w) has;
  kinds = λ path has. All-contains IsWhole given _ (whole-all given w) has;
  cuts = λ piece has. All-contains IsWhole given _ (whole-all given w) has;
}

-- ---- before the first script

nothing-before : IsBefore []
nothing-before = record { finishes = record { all = λ lane. refl; answered = λ x lane line op at. absurd cc }; none = λ i lane line answer at. absurd cc }

set-up-before : (h : List Entry) → IsUnmarked h → IsBefore h
set-up-before h u = record {
  finishes = record {
    all = λ lane. sym (begun-marks lane h) ∙ ap (begun lane) (fresh h u lane);
    answered = λ x lane line op at. absurd (u.began x lane line op at);
  };
  none = u.answered;
}

-- ---- what stays

-- of an empty history nothing was copied
copied-none : (path : List (List ℕ)) (bytes : List ℕ) → Copied [] path bytes → ⊥
copied-none path bytes c = by c.earlier c.done c.did c.marks
  where
    by : (earlier done : List Done) → map (λ (d : Done). d.op) done ≡ copy_ops path c.pieces → [] ≡ done_marks c.lane (earlier ++ (done ++ c.later)) → ⊥
    by earlier [] did marks = cc
    by [] (d ∷ done) did marks = cc
    by (e ∷ earlier) (d ∷ done) did marks = cc

none-stay : (s : Settings) (to : List (List ℕ)) (given : List Given) (h : List Entry) → h ≡ [] → AllCopied to given h → AllStay s to given h
none-stay s to given h none copied t is lawful once file has =
    absurd (copied-none (to ++ file.path) (laid file.pieces) (subst (λ (k : List Entry). Copied k (to ++ file.path) (laid file.pieces)) none (copied file has)))

all-stay : (s : Settings) (lines : List ScriptLine) (first : ℕ) (v : SetUp) (before h : List Entry) (to : List (List ℕ)) (given : List Given)
    → Promised s lines first v before h → AllCopied to given h → AllStay s to given h
all-stay s lines first v before h to given p copied t is lawful once file has =
    copies-stay (modes_of s) (origin_of s.export) t (rows-find (terms_by s first) t.entries rows) ((p.server t is).settled lawful once) (to ++ file.path) (laid file.pieces)
    (subst (λ (k : List Entry). Copied k (to ++ file.path) (laid file.pieces)) (sym is) (copied file has))
  where
    rows : (lane x y : ℕ) (op : Op) (value : Value) → Ended t.entries lane x op y (answers.Done value) → OkRow (terms_by s first) t.entries lane x y op value
    rows lane x y op value e =
        subst (λ (k : List Entry). OkRow (terms_by s first) k lane x y op value) (sym is)
        ((p.caused 7 (cut (inr refl))).ok lane x y op value (subst (λ (k : List Entry). Ended k lane x op y (answers.Done value)) is e))

-- ---- a session that ended with 0

no-follows : Follows [] []
no-follows = record { alternates = λ lane. no_marks [] refl; begins = λ lane. record { rest = []; is = refl } }

module _ {T : Type 0} (given : T → Option (List Given)) (over : T → Type 0) (s : Settings) (to : List (List ℕ)) (t : T) (v : UploadView) (r : T)
    (right : v.wrong ≡ false) (start : given t ≡ Some []) (g : List Given) (end : given r ≡ Some g) where
  abbrev pub AskedFor : List Round → Type 0
  AskedFor rounds = AskedSo given over rounds (at_start to) t v r

  -- from the parts on
  by-parts : (parts : List Part) (before h : List Entry) → AskedFor (rounds_of [] 0 parts) → h ≡ before ++ entries_in parts → IsBefore before → ArePartsFrom before [] parts
      → Follows (entries_of (lines_in parts)) h → (AllCopied to g h → AllStay s to g h) → over r × Copies s to g h
  by-parts parts before h asked is b are follows stay =
      let c : Came given over 0 parts (at_start to) t r = came given over [] 0 parts (at_start to) t v r asked right in
      let same : c.more ≡ g = all-given (given t) (given r) c.more g start end c.told in
      let copied : AllCopied to g h =
      all-copied to g parts before h is b are follows c.good
      (λ lane other. c.same lane other ∙ ap (λ (x : List Given). begun lane (entries_of (plan_of to x no_files).all.lines)) same) in
      (c.ends, record { whole = came-whole g (subst AreWhole same c.whole); copied = copied; stay = stay copied })

  by-session : (first : ℕ) (setup : SetUp) (later : List ℕ) (before h : List Entry) (status : ℕ) → status ≡ 0 → SetsUp s first (Ok setup) before
      → (session : SessionOf later before h status) → AskedFor (rounds_of [] 0 session.parts) → Promised s (lines_of session) first setup before h → over r × Copies s to g h
  by-session first setup later before h status zero_is so session asked promised =
      let whole = session.whole (λ seven. absurd (omega (arith, zero_is, seven))) in
      by-parts session.parts before h asked
      (session.history ∙ ap (λ (k : List Entry). before ++ (entries_in session.parts ++ k)) whole.1 ∙ ap (λ (k : List Entry). before ++ k) (append-nil (entries_in session.parts)))
      (set-up-before before so.unmarked)
      session.are
      (subst (λ (l : List ScriptLine). Follows (entries_of l) h) (ap (λ (l : List ScriptLine). lines_in session.parts ++ l) whole.0 ∙ append-nil (lines_in session.parts)) session.follows)
      (all-stay s (lines_of session) first setup before h to g promised)

  by-run : (readings : List ℕ) (h : List Entry) (status : ℕ) → status ≡ 0 → RunsAsked Promised AskedFor s readings h status → over r × Copies s to g h
  by-run readings h status zero_is (no_script none asked few) =
      by-parts [] [] h asked none nothing-before tt (subst (λ (k : List Entry). Follows [] k) (sym none) no-follows) (none-stay s to g h none)
  by-run readings h status zero_is (cut_before none seven) = absurd (omega (arith, zero_is, seven))
  by-run readings h status zero_is (ready ms first later is by setup before so session asked promised) =
      by-session first setup later before h status zero_is so session (asked (omega (arith, zero_is))) promised
  by-run readings h status zero_is (lost ms first is by tally so six) = absurd (omega (arith, zero_is, six))
  by-run readings h status zero_is (refused ms first is by fault so (inl eight)) = absurd (omega (arith, zero_is, eight))
  by-run readings h status zero_is (refused ms first is by fault so (inr seven)) = absurd (omega (arith, zero_is, seven))
  by-run readings h status zero_is (unready ms first is by so seven) = absurd (omega (arith, zero_is, seven))

-- ---- the whole clause

module _ {T : Type 0} (given : T → Option (List Given)) (over : T → Type 0) (s : Settings) (to : List (List ℕ)) (t : T) (v : UploadView) (r : T)
    (old new : Option History) (readings : List ℕ) (status : ℕ) (zero_is : status ≡ 0) (right : v.wrong ≡ false) (start : given t ≡ Some []) where
  told : (g : List Given) → given r ≡ Some g → (a b : Option History)
      → Relates a b (λ before h. before ≡ [] → RunsAsked Promised (λ rounds. AskedSo given over rounds (at_start to) t v r) s readings h status)
      → Relates a b (λ before h. before ≡ [] → over r × Copies s to g h)
  told g end None b k = tt
  told g end (Some a) None k = absurd k
  told g end (Some a) (Some b) k = λ none. by-run given over s to t v r right start g end readings b.entries status zero_is (k none)

  told-copy : Relates old new (λ before h. before ≡ [] → RunsAsked Promised (λ rounds. AskedSo given over rounds (at_start to) t v r) s readings h status)
      → IfTold (given r) (λ g. Relates old new (λ before h. before ≡ [] → over r × Copies s to g h))
  told-copy k = by (given r) refl
    where
      by : (o : Option (List Given)) → given r ≡ o → IfTold o (λ g. Relates old new (λ before h. before ≡ [] → over r × Copies s to g h))
      by None e = tt
      by (Some g) e = told g e old new k

  pub whole-copy : (u : UploadView) → u ≡ at_start to
      → Relates old new (λ before h. before ≡ [] → RunsAsked Promised (λ rounds. AskedSo given over rounds u t v r) s readings h status)
      → IfTold (given r) (λ g. Relates old new (λ before h. before ≡ [] → over r × Copies s to g h))
  whole-copy u is k =
      told-copy (subst (λ (w : UploadView). Relates old new (λ before h. before ≡ [] → RunsAsked Promised (λ rounds. AskedSo given over rounds w t v r) s readings h status)) is k)

-- by words
pub words-copy : (over : Type 0) (words : List (List ℕ)) (s : Settings) (to : List (List ℕ)) (found : IsCommand words s) (end : Option (List Given)) (old new : Option History)
    → IfTold end (λ g. Relates old new (λ before h. before ≡ [] → over × Copies s to g h))
    → IfTold end (λ g. Relates old new (λ before h. before ≡ [] → over × CopiesBy words to g h))
words-copy over words s to found None old new k = tt
words-copy over words s to found (Some g) None new k = tt
words-copy over words s to found (Some g) (Some a) None k = absurd k
words-copy over words s to found (Some g) (Some a) (Some b) k = λ none. ((k none).0, record { settings = s; found = found; copies = (k none).1 })
