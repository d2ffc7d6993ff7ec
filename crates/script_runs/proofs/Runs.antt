-- What a run comes to: of the words, the script and the session.
use Rattle.std.proofs.Common.{inl, inr, ◌≡◌, ℕ, Bool, true, false, List, [], take, Option, Some, None, Result, Ok, Err, refl, sym, ap, subst, ◌∙◌, arith}
use Rattle.std.specs.Prelude.{IfSome}
use Rattle.world_model.specs.declared.entry.Entry.{Entry}
use Rattle.world_model.specs.Entries.{ours}
use Rattle.world_model.specs.History.{History}
use Rattle.world_model.specs.Told.{Relates}
use Rattle.nfs_script.specs.declared.script.ScriptLine.{ScriptLine}
use Rattle.nfs_script.specs.declared.fault.ScriptFault.{ScriptFault}
use Rattle.nfs_script.specs.Script.{script_of}
use Rattle.nfs_script.specs.RefusalText.{refusal_text}
use Rattle.session_words.specs.declared.settings.Settings.{Settings}
use Rattle.session_words.specs.Words.{IsCommand, IsNocto}
use Rattle.script_runs.specs.Readings.{Reads}
use Rattle.script_runs.specs.declared.stock.Stock.{Stock}
use Rattle.script_runs.specs.LaneRuns.{LeavesOver, SessionFrom, RunLeaves, LeavesFrom, LeavesWith}
use Rattle.script_runs.specs.Run.{IsScript, IsReadAs, IsFaultOf, RefusesWith, no_script, whole, cut, Unbegun, Refuses, RefusalIs, KeepsForOpens, RunOf, session, unbegun, RunWith, session_with, unbegun_with, Says}
use Rattle.script_runs.specs.Stock.{nothing_stored}
use Rattle.script_runs.specs.Streams.{script_limit, TakesAll}
use Rattle.script_runs.proofs.Readings.{reads_none}
use Rattle.script_runs.proofs.StreamLaws.{appends_none}

-- ---- scripts

-- a text that spells no script was all that the source had
pub unscripted : (left : Option (List ℕ)) (status : ℕ) (text items : List ℕ) → (IsScript text → ⊥) → text ≡ items → TakesAll left items → IfSome left (λ l. status ≡ 3 → IsScript (take script_limit l) → ⊥)
unscripted None status text items none v t = tt
unscripted (Some l) status text items none v t = λ q s. none (subst IsScript (sym (v ∙ t)) s)

-- a text that spells one was all that the source had
pub scripted : (left : Option (List ℕ)) (status : ℕ) (text items : List ℕ) → IsScript text → text ≡ items → TakesAll left items → IfSome left (λ l. (IsScript (take script_limit l) → ⊥) → Refuses status)
scripted None status text items one v t = tt
scripted (Some l) status text items one v t = λ none. absurd (none (subst IsScript (v ∙ t) one))

-- a faulty text spells none
pub faulty : (text : List ℕ) (fault : ScriptFault) → script_of text ≡ Err fault → IsScript text → ⊥
faulty text fault e s = let p = s.parsed in cc

pub spells : (text : List ℕ) (lines : List ScriptLine) → script_of text ≡ Ok lines → IsScript text
spells text lines e = record { lines = lines; parsed = e }

-- as a text is read, so is what the source had
pub read_for : (left : Option (List ℕ)) (text items : List ℕ) (read : Result (List ScriptLine) ScriptFault) → script_of text ≡ read → text ≡ items → TakesAll left items → IsReadAs left read
read_for None text items read e v t = (text, e)
read_for (Some l) text items read e v t = ap script_of (sym (v ∙ t)) ∙ e

-- ---- what a run says

-- what is said of a run that began with this stock
abbrev pub RunSaid : Stock → Option (List ℕ) → Option (List ℕ) → Option (List ℕ) → Option (List ℕ) → Option History → Option History → Settings → Option (List ℕ) → ℕ → Type 0
RunSaid stock v w a b old new s left status =
    Says v w (λ text. Reads a b (λ given. Relates old new (λ before h. ours before ≡ [] → LeavesFrom stock given s left before h status text)))

relates_session : (stock : Stock) (old new : Option History) (given : List ℕ) (left : Option (List ℕ)) (s : Settings) (lines : List ScriptLine) (status : ℕ) (text : List ℕ) → IsReadAs left (Ok lines)
    → Relates old new (λ before h. ours before ≡ [] → SessionFrom (LeavesOver stock) s lines given before h status text)
    → Relates old new (λ before h. ours before ≡ [] → LeavesFrom stock given s left before h status text)
relates_session stock None new given left s lines status text a r = tt
relates_session stock (Some x) None given left s lines status text a r = absurd r
relates_session stock (Some x) (Some y) given left s lines status text a r = λ e. session_with lines a (r e)

-- there was a session
pub run_says : (stock : Stock) (v w : Option (List ℕ)) (a b : Option (List ℕ)) (old new : Option History) (left : Option (List ℕ)) (s : Settings) (lines : List ScriptLine) (status : ℕ) → IsReadAs left (Ok lines)
    → Says v w (λ text. Reads a b (λ given. Relates old new (λ before h. ours before ≡ [] → SessionFrom (LeavesOver stock) s lines given before h status text)))
    → RunSaid stock v w a b old new s left status
run_says stock v w a b old new left s lines status read said = record {
  text = said.text;
  added = said.added;
  is = (said.is.0, said.is.1, relates_session stock old new said.is.0 left s lines status said.text read said.is.2);
}

relates_none : (stock : Stock) (old : Option History) (s : Settings) (left : Option (List ℕ)) (status : ℕ) (text : List ℕ) → Unbegun left status text
    → Relates old old (λ before h. ours before ≡ [] → LeavesFrom stock [] s left before h status text)
relates_none stock None s left status text u = tt
relates_none stock (Some x) s left status text u = λ e. unbegun_with refl u

-- the script was refused
pub refuse_says : (stock : Stock) (v w : Option (List ℕ)) (a : Option (List ℕ)) (old : Option History) (s : Settings) (left : Option (List ℕ)) (fault : ScriptFault) (status : ℕ) → IsFaultOf left fault → Says v w (RefusesWith fault status)
    → RunSaid stock v w a a old old s left status
refuse_says stock v w a old s left fault status f said = record {
  text = said.text;
  added = said.added;
  is = ([], reads_none a, relates_none stock old s left status said.text (no_script fault f said.is));
}

-- nothing was begun, and nothing written
pub none_says : (stock : Stock) (v : Option (List ℕ)) (a : Option (List ℕ)) (old : Option History) (s : Settings) (left : Option (List ℕ)) (status : ℕ) → Unbegun left status []
    → RunSaid stock v v a a old old s left status
none_says stock v a old s left status u = record {
  text = [];
  added = appends_none v;
  is = ([], reads_none a, relates_none stock old s left status [] u);
}

-- ---- a run without pages, and without a history before

abbrev Said : Option (List ℕ) → Option (List ℕ) → Option (List ℕ) → Option (List ℕ) → Option History → Option History → Settings → Option (List ℕ) → ℕ → Type 0
Said v w a b old new s left status = Says v w (λ text. Reads a b (λ given. Relates old new (λ before h. before ≡ [] → LeavesWith given s left h status text)))

relates_alone : (old new : Option History) (given : List ℕ) (s : Settings) (left : Option (List ℕ)) (status : ℕ) (text : List ℕ)
    → Relates old new (λ before h. ours before ≡ [] → LeavesFrom nothing_stored given s left before h status text) → Relates old new (λ before h. before ≡ [] → LeavesWith given s left h status text)
relates_alone None new given s left status text r = tt
relates_alone (Some x) None given s left status text r = absurd r
relates_alone (Some x) (Some y) given s left status text r = λ e. subst (λ (k : List Entry). LeavesFrom nothing_stored given s left k y.entries status text) e (r (ap ours e))

-- a run with no stock
pub alone_says : (stock : Stock) (v w a b : Option (List ℕ)) (old new : Option History) (s : Settings) (left : Option (List ℕ)) (status : ℕ) → stock ≡ nothing_stored
    → RunSaid stock v w a b old new s left status → Said v w a b old new s left status
alone_says stock v w a b old new s left status none said =
    let bare : RunSaid nothing_stored v w a b old new s left status = subst (λ (t : Stock). RunSaid t v w a b old new s left status) none said in
    record { text = bare.text; added = bare.added; is = (bare.is.0, bare.is.1, relates_alone old new bare.is.0 s left status bare.text bare.is.2) }

-- nothing was begun for want of memory
pub nothing_says : (v : Option (List ℕ)) (a : Option (List ℕ)) (old : Option History) (s : Settings) (left : Option (List ℕ)) (status : ℕ) → Unbegun left status []
    → Said v v a a old old s left status
nothing_says v a old s left status u = alone_says nothing_stored v v a a old old s left status refl (none_says nothing_stored v a old s left status u)

-- ---- what words say by their settings

-- words never give both (nfs(5), noac)
never_both : (noac : Bool) (text : Option (List ℕ)) (nocto : Bool) → IsNocto noac text nocto → nocto ≡ true → noac ≡ false
never_both true text nocto is may = absurd (let no_way : true ≡ false = sym may ∙ is in cc)
never_both false text nocto is may = refl

keeps_for_opens : (words : List (List ℕ)) (s : Settings) → IsCommand words s → KeepsForOpens s
keeps_for_opens words s command may = never_both s.noac _ s.nocto command.gives.nocto may

-- A run by the settings that words give is one of these words, whatever is so of its session.
module _ (Is : Settings → List ScriptLine → List ℕ → List Entry → ℕ → List ℕ → Type 0) (given : List ℕ) (words : List (List ℕ)) (left : Option (List ℕ)) (s : Settings) where
  pub by_words : (h : List Entry) (status : ℕ) (text : List ℕ) → IsCommand words s → RunWith Is given s left h status text → RunOf Is given words left h status text
  by_words h status text c (unbegun_with e u) = unbegun e u
  by_words h status text c (session_with lines read is) = session s lines c (keeps_for_opens words s c) read is

  pub relates_words : (old new : Option History) (status : ℕ) (text : List ℕ) → IsCommand words s
      → Relates old new (λ before h. before ≡ [] → RunWith Is given s left h status text) → Relates old new (λ before h. before ≡ [] → RunOf Is given words left h status text)
  relates_words None new status text c r = tt
  relates_words (Some x) None status text c r = absurd r
  relates_words (Some x) (Some y) status text c r = λ e. by_words y.entries status text c (r e)

-- the words are a command line
pub words_say : (Is : Settings → List ScriptLine → List ℕ → List Entry → ℕ → List ℕ → Type 0) (v w : Option (List ℕ)) (a b : Option (List ℕ)) (old new : Option History) (words : List (List ℕ)) (left : Option (List ℕ)) (s : Settings) (status : ℕ) → IsCommand words s
    → Says v w (λ text. Reads a b (λ given. Relates old new (λ before h. before ≡ [] → RunWith Is given s left h status text)))
    → Says v w (λ text. Reads a b (λ given. Relates old new (λ before h. before ≡ [] → RunOf Is given words left h status text)))
words_say Is v w a b old new words left s status c said = record {
  text = said.text;
  added = said.added;
  is = (said.is.0, said.is.1, relates_words Is said.is.0 words left s old new status said.text c said.is.2);
}

relates_unread : (old : Option History) (words : List (List ℕ)) (left : Option (List ℕ)) (status : ℕ) → Unbegun left status []
    → Relates old old (λ before h. before ≡ [] → RunLeaves [] words left h status [])
relates_unread None words left status u = tt
relates_unread (Some x) words left status u = λ e. unbegun e u

-- they aren't, or memory ran out
pub unread_says : (v : Option (List ℕ)) (a : Option (List ℕ)) (old : Option History) (words : List (List ℕ)) (left : Option (List ℕ)) (status : ℕ) → Unbegun left status []
    → Says v v (λ text. Reads a a (λ given. Relates old old (λ before h. before ≡ [] → RunLeaves given words left h status text)))
unread_says v a old words left status u = record {
  text = [];
  added = appends_none v;
  is = ([], reads_none a, relates_unread old words left status u);
}

-- the line that was written at 3
pub refused_text : (v w left : Option (List ℕ)) (fault : ScriptFault) (status : ℕ) → IsFaultOf left fault → Says v w (RefusesWith fault status) → status ≡ 3 → Says v w (RefusalIs left)
refused_text v w left fault status f said three = record { text = said.text; added = said.added; is = (fault, f, all_of status said.text three said.is) }
  where
    all_of : (status : ℕ) (text : List ℕ) → status ≡ 3 → RefusesWith fault status text → text ≡ refusal_text fault
    all_of status text three (whole s t) = t
    all_of status text three (cut s t) = absurd (elim s [ inl five ↦ omega (arith, three, five) | inr seven ↦ omega (arith, three, seven) ])
