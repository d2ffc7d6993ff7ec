-- An open, step by step: its file is found by LOOKUP or CREATE of its last name, and its attributes are asked for.
use Rattle.core_facts.proofs.Prelude.{◌≡◌, ◌≢◌, ◌-◌, ◌==◌, inl, inr, ℕ, Bool, true, false, List, length, Option, Some, None, Result, Ok, Err, refl, sym, ap, subst, ◌∙◌, arith, if◌then◌else◌, eqb-true, eqb-false, Attr, Wcc, Mode, DirKept, FileKept, Answer, Fault, Entry, Call, Reply, Asked, EndsWith, Asked-wide, Step, Turn, OpenFile, Led, Opening, OpeningStep, OpeningPhase, got_by, IsNamed, front_of, last_of}
use Rattle.world_model.specs.Heard.{status_of}
use Rattle.file_ops.specs.Told.{found_by, made_by}
use Rattle.std.specs.FinMap as finite
use Rattle.nfs_types.specs.declared.mode.Mode.TheVariants as modes
use Rattle.nfs_dir_calls.specs.declared.call.DirCall.TheVariants as dirs
use Rattle.nfs_dir_calls.specs.declared.keeping.DirKept.TheVariants as dir_kept
use Rattle.nfs_file_calls.specs.declared.call.FileCall.TheVariants as file_calls
use Rattle.nfs_file_calls.specs.declared.owned.FileKept.TheVariants as file_kept
use Rattle.attr_cache.specs.Attrs.{looked}
use Rattle.page_cache.specs.Pages.{known_of}
use Rattle.world_model.specs.declared.answer.Answer.TheVariants as answers
use Rattle.world_model.specs.declared.answer.Fault.TheVariants as faults
use Rattle.world_model.specs.declared.answer.Value.TheVariants as values
use Rattle.world_model.specs.declared.message.Call.TheVariants as calls
use Rattle.world_model.specs.declared.message.Reply.TheVariants as replies
use Rattle.claims.specs.Asks.{MakesFile, look_up}
use Rattle.claims.specs.Asks as asks
use Rattle.world_model.specs.Leads as leading
use Rattle.client_shelf.specs.declared.step.Step.TheVariants as nexts
use Rattle.file_ops.specs.declared.opening.Led.TheVariants as leads
use Rattle.file_ops.specs.declared.opening.OpeningStep.TheVariants as openings
use Rattle.file_ops.specs.declared.opening.OpeningPhase.TheVariants as opening_steps
use Rattle.file_ops.specs.OpenFile as opens
use Rattle.file_ops.specs.Opening as opening
use Rattle.core_facts.proofs.Leading.{LeadsTo}
use Rattle.core_facts.proofs.OneCallStory.{front-last}
use Rattle.core_facts.proofs.OneCalls.{then-as}
use Rattle.core_facts.proofs.Steps.{ThenOf}
use Rattle.core_facts.proofs.Tales.{IsLastReply, IsWhy}

-- a call that wasn't made, or was refused, gives no other kind of file
pub not-kind : (h : List Entry) (x : ℕ) (call : Call) (fault : Fault) → IsWhy h x call fault → fault ≡ faults.Kind → ⊥
not-kind h x call faults.Kind w is = w
not-kind h x call (faults.Nfs status) w is = cc
not-kind h x call (faults.Rpc n) w is = cc
not-kind h x call (faults.Bad rule) w is = cc
not-kind h x call faults.Spent w is = cc
not-kind h x call faults.Slot w is = cc
not-kind h x call faults.Mode w is = cc
not-kind h x call faults.Lost w is = cc
not-kind h x call faults.Many w is = cc
not-kind h x call faults.Memory w is = cc

module _ (top : List ℕ) (h : List Entry) (x : ℕ) (path : List (List ℕ)) (mode : Mode) where
  -- the path leads to the file, or a CREATE of its name gave it
  pub data IsFileOf (d file : List ℕ) : Type 0 where
    found : LeadsTo top h path file → IsFileOf d file
    made : (making : Call) (attr : Option Attr) (wcc : Wcc) → MakesFile mode d (last_of path) making → Asked h x (length h) making (replies.Dir (dir_kept.Create (Some file) attr wcc)) → IsFileOf d file

  -- the open has to make its file, or found nothing of its name
  pub data MayMake (d : List ℕ) : Type 0 where
    has_to : mode ≡ modes.X → MayMake d
    missing : (reply : Reply) → mode ≡ modes.C → Asked h x (length h) (look_up d (last_of path)) reply → status_of reply ≡ 2 → MayMake d

  abbrev pub StepStory : List ℕ → OpeningPhase → Type 0
  StepStory d opening_steps.Look = Unit {0}
  StepStory d opening_steps.Make = MayMake d
  StepStory d opening_steps.Find = Unit {0}
  StepStory d (opening_steps.Ask file) = IsFileOf d file

  pub record OpeningStory (o : Opening) : Type 0 where
    pub name_is : o.name ≡ last_of path
    pub mode_is : o.mode ≡ mode
    pub leads : LeadsTo top h (front_of path) o.dir
    pub step : StepStory o.dir o.step

  -- its last reply gives attributes of this file
  pub record GotLast (d : List ℕ) (attr : Attr) : Type 0 where
    pub f : List ℕ
    pub of : IsFileOf d f
    pub ends : EndsWith h x (length h) (calls.File (file_calls.GetAttr f)) (replies.File (file_kept.GetAttr attr))

  -- a file, or another kind
  pub record OpenShown (d : List ℕ) : Type 0 where
    pub attr : Attr
    pub got : GotLast d attr
    pub kind : attr.kind ≡ 1

  pub record KindShown (d : List ℕ) : Type 0 where
    pub attr : Attr
    pub got : GotLast d attr
    pub other : attr.kind ≢ 1

  abbrev pub LedStory : Bool → List ℕ → Led → Type 0
  LedStory nocto d (leads.Goes step) = StepStory d step
  LedStory nocto d (leads.Opens file attr) = OpenShown d
  LedStory nocto d (leads.Knows file stamp) = nocto ≡ true
  LedStory nocto d (leads.Ends fault) = fault ≡ faults.Kind → KindShown d

  -- what came of its call
  pub record OpeningTold (came : Result Reply Fault) (call : Call) : Type 0 where
    pub heard : (reply : Reply) → came ≡ Ok reply → IsLastReply h x call reply
    pub refused : (fault : Fault) → came ≡ Err fault → IsWhy h x call fault

  -- ---- LOOKUP

  found-file : (d : List ℕ) (found attr dir : _) → IsNamed path → LeadsTo top h (front_of path) d
      → Asked h 0 (length h) (look_up d (last_of path)) (replies.Dir (dir_kept.Lookup found attr dir)) → IsFileOf d found
  found-file d found_file attr dir named l a = found (leading.step path (front_of path) found_file (last_of path) d attr dir (front-last path named) l a)

  found-dir : (d : List ℕ) (reply : DirKept) → IsNamed path → LeadsTo top h (front_of path) d → IsLastReply h x (look_up d (last_of path)) (replies.Dir reply)
      → LedStory false d (opening.found (found_by (Ok (replies.Dir reply))))
  found-dir d (dir_kept.Lookup found_object attr dir) named l k =
      found-file d found_object attr dir named l
      (Asked-wide h x (length h) 0 (length h) (look_up d (last_of path)) (replies.Dir (dir_kept.Lookup found_object attr dir)) (omega arith) (omega arith) k.asked)
  found-dir d (dir_kept.LookupFail status dir) named l k = λ is. absurd (cc)
  found-dir d reply named l k = λ is. absurd (cc)

  found-led : (d : List ℕ) (came : Result Reply Fault) → IsNamed path → LeadsTo top h (front_of path) d → OpeningTold came (look_up d (last_of path)) → LedStory false d (opening.found (found_by came))
  found-led d (Ok (replies.Dir reply)) named l t = found-dir d reply named l (t.heard (replies.Dir reply) refl)
  found-led d (Ok (replies.File reply)) named l t = λ is. absurd (cc)
  found-led d (Ok (replies.Mount reply)) named l t = λ is. absurd (cc)
  found-led d (Err fault) named l t = λ is. absurd (not-kind h x (look_up d (last_of path)) fault (t.refused fault refl) is)

  missed-dir : (d : List ℕ) (reply : DirKept) → mode ≡ modes.C → opening.is_missing (Ok (replies.Dir reply)) ≡ true → IsLastReply h x (look_up d (last_of path)) (replies.Dir reply) → MayMake d
  missed-dir d (dir_kept.LookupFail status dir) is none k = missing (replies.Dir (dir_kept.LookupFail status dir)) is k.asked (eqb-true status.0 2 none)
  missed-dir d (dir_kept.Lookup found_object attr dir) is none k = absurd (cc)
  missed-dir d reply is none k = absurd (cc)

  missed-led : (d : List ℕ) (came : Result Reply Fault) → mode ≡ modes.C → opening.is_missing came ≡ true → OpeningTold came (look_up d (last_of path)) → MayMake d
  missed-led d (Ok (replies.Dir reply)) is none t = missed-dir d reply is none (t.heard (replies.Dir reply) refl)
  missed-led d (Ok (replies.File reply)) is none t = absurd (cc)
  missed-led d (Ok (replies.Mount reply)) is none t = absurd (cc)
  missed-led d (Err fault) is none t = absurd (cc)

  makes-mode : (m : Mode) (came : Result Reply Fault) → opening.makes m came ≡ true → (m ≡ modes.C) × (opening.is_missing came ≡ true)
  makes-mode modes.C came is = (refl, is)
  makes-mode modes.R came is = absurd (cc)
  makes-mode modes.W came is = absurd (cc)
  makes-mode modes.RW came is = absurd (cc)
  makes-mode modes.X came is = absurd (cc)

  look-led : (d : List ℕ) (m : Mode) (came : Result Reply Fault) → m ≡ mode → IsNamed path → LeadsTo top h (front_of path) d → OpeningTold came (look_up d (last_of path))
      → LedStory false d (if opening.makes m came then leads.Goes opening_steps.Make else opening.found (found_by came))
  look-led d m came same named l t = by (opening.makes m came) refl
    where
      by : (b : Bool) → opening.makes m came ≡ b → LedStory false d (if b then leads.Goes opening_steps.Make else opening.found (found_by came))
      by true is = let k = makes-mode m came is in missed-led d came (sym same ∙ k.0) k.1 t
      by false is = found-led d came named l t

  -- ---- CREATE

  pub makes-file : (d name : List ℕ) (m : Mode) → m ≡ mode → MayMake d → MakesFile mode d name (calls.Dir (dirs.Create d name (opening.making_of m)))
  makes-file d name m same (has_to is) = asks.guarded is (ap (λ (k : Mode). calls.Dir (dirs.Create d name (opening.making_of k))) (same ∙ is))
  makes-file d name m same (missing reply is a none) = asks.unchecked is (ap (λ (k : Mode). calls.Dir (dirs.Create d name (opening.making_of k))) (same ∙ is))

  made-dir : (d : List ℕ) (making : Call) (reply : DirKept) → MakesFile mode d (last_of path) making → IsLastReply h x making (replies.Dir reply)
      → LedStory false d (opening.made (made_by (Ok (replies.Dir reply))))
  made-dir d making (dir_kept.Create (Some file) attr wcc) mk k = made making attr wcc mk k.asked
  made-dir d making (dir_kept.Create None attr wcc) mk k = tt
  made-dir d making (dir_kept.CreateFail status wcc) mk k = λ is. absurd (cc)
  made-dir d making reply mk k = λ is. absurd (cc)

  made-led : (d : List ℕ) (making : Call) (came : Result Reply Fault) → MakesFile mode d (last_of path) making → OpeningTold came making → LedStory false d (opening.made (made_by came))
  made-led d making (Ok (replies.Dir reply)) mk t = made-dir d making reply mk (t.heard (replies.Dir reply) refl)
  made-led d making (Ok (replies.File reply)) mk t = λ is. absurd (cc)
  made-led d making (Ok (replies.Mount reply)) mk t = λ is. absurd (cc)
  made-led d making (Err fault) mk t = λ is. absurd (not-kind h x making fault (t.refused fault refl) is)

  -- ---- GETATTR

  got-file : (d file : List ℕ) (reply : FileKept) → IsFileOf d file → IsLastReply h x (calls.File (file_calls.GetAttr file)) (replies.File reply)
      → LedStory false d (opening.got file (got_by (Ok (replies.File reply))))
  got-file d file (file_kept.GetAttr attr) of k = by (attr.kind == 1) refl
    where
      last : GotLast d attr
      last = record { f = file; of = of; ends = k.ends }

      by : (b : Bool) → (attr.kind == 1) ≡ b → LedStory false d (if b then leads.Opens file attr else leads.Ends faults.Kind)
      by true is = record { attr = attr; got = last; kind = eqb-true attr.kind 1 is }
      by false is = λ same. record { attr = attr; got = last; other = eqb-false attr.kind 1 is }
  got-file d file (file_kept.GetAttrFail status) of k = λ is. absurd (cc)
  got-file d file reply of k = λ is. absurd (cc)

  got-led : (d file : List ℕ) (came : Result Reply Fault) → IsFileOf d file → OpeningTold came (calls.File (file_calls.GetAttr file)) → LedStory false d (opening.got file (got_by came))
  got-led d file (Ok (replies.File reply)) of t = got-file d file reply of (t.heard (replies.File reply) refl)
  got-led d file (Ok (replies.Dir reply)) of t = λ is. absurd (cc)
  got-led d file (Ok (replies.Mount reply)) of t = λ is. absurd (cc)
  got-led d file (Err fault) of t = λ is. absurd (not-kind h x (calls.File (file_calls.GetAttr file)) fault (t.refused fault refl) is)

  -- ---- a reply's step

  told-as : (came : Result Reply Fault) (a b : Call) → a ≡ b → OpeningTold came a → OpeningTold came b
  told-as came a b is t = subst (OpeningTold came) is t

  led-told : (o : Opening) (came : Result Reply Fault) → IsNamed path → OpeningStory o → OpeningTold came (opening.call_of o o.step) → LedStory false o.dir (opening.told_led o came)
  led-told o came named s t = by o.step refl s.step
    where
      named-call : look_up o.dir o.name ≡ look_up o.dir (last_of path)
      named-call = ap (look_up o.dir) s.name_is

      at : (k : OpeningPhase) → o.step ≡ k → OpeningTold came (opening.call_of o k)
      at k is = told-as came (opening.call_of o o.step) (opening.call_of o k) (ap (opening.call_of o) is) t

      by : (k : OpeningPhase) → o.step ≡ k → StepStory o.dir k → LedStory false o.dir (opening.led_to o.mode k came)
      by opening_steps.Look is p = look-led o.dir o.mode came s.mode_is named s.leads (told-as came _ _ named-call (at opening_steps.Look is))
      by opening_steps.Find is p = found-led o.dir came named s.leads (told-as came _ _ named-call (at opening_steps.Find is))
      by opening_steps.Make is p =
          made-led o.dir (opening.call_of o opening_steps.Make) came
          (subst (λ (n : List ℕ). MakesFile mode o.dir n (calls.Dir (dirs.Create o.dir o.name (opening.making_of o.mode)))) s.name_is (makes-file o.dir o.name o.mode s.mode_is p))
          (at opening_steps.Make is)
      by (opening_steps.Ask file) is p = got-led o.dir file came p (at (opening_steps.Ask file) is)

  known-at : (d file : List ℕ) (attr : Option Attr) (known : _) → IsFileOf d file → LedStory true d (opening.known_at file attr known)
  known-at d file (Some attr) (Some stamp) of = by _
    where
      by : (b : Bool) → LedStory true d (if b then leads.Knows file stamp else leads.Goes (opening_steps.Ask file))
      by true = refl
      by false = of
  known-at d file None known of = of
  known-at d file (Some attr) None of = of

  known-led : (d : List ℕ) (led : Led) (now : ℕ) (attrs pages : _) → LedStory false d led → LedStory true d (opening.known_led led now attrs pages)
  known-led d (leads.Goes opening_steps.Look) now attrs pages s = s
  known-led d (leads.Goes opening_steps.Make) now attrs pages s = s
  known-led d (leads.Goes opening_steps.Find) now attrs pages s = s
  known-led d (leads.Goes (opening_steps.Ask file)) now attrs pages s = known-at d file (looked file now attrs) (known_of file pages) s
  known-led d (leads.Opens file attr) now attrs pages s = s
  known-led d (leads.Knows file stamp) now attrs pages s = refl
  known-led d (leads.Ends fault) now attrs pages s = s

  pub led-on : (o : Opening) (now : ℕ) (came : Result Reply Fault) (attrs pages : _) → IsNamed path → OpeningStory o → OpeningTold came (opening.call_of o o.step)
      → LedStory o.nocto o.dir (opening.led_on o now came attrs pages)
  led-on o now came attrs pages named s t = by o.nocto
    where
      by : (b : Bool) → LedStory b o.dir (opening.known_by b (opening.told_led o came) now attrs pages)
      by true = known-led o.dir (opening.told_led o came) now attrs pages (led-told o came named s t)
      by false = led-told o came named s t

  -- ---- what a step comes to

  abbrev pub NextStory : OpeningStep → Opening → Type 0
  NextStory (openings.Send call) o = OpeningStory o
  NextStory openings.Wait o = OpeningStory o
  NextStory (openings.Ended (Ok file)) o = o.nocto ≡ false → OpenShown o.dir
  NextStory (openings.Ended (Err fault)) o = fault ≡ faults.Kind → KindShown o.dir

  same-story : (o : Opening) (asked : Bool) → OpeningStory o → OpeningStory (record o { asked = asked })
  same-story o asked s = record { name_is = s.name_is; mode_is = s.mode_is; leads = s.leads; step = s.step }

  counted-story : (o : Opening) → OpeningStory o → OpeningStory (opening.counted o)
  counted-story o s = record { name_is = s.name_is; mode_is = s.mode_is; leads = s.leads; step = s.step }

  pub go-story : (o : Opening) (turn : Turn) → OpeningStory o → OpeningStory (opening.go_after o turn)
  go-story o turn s = by (opening.waits o turn)
    where
      by : (b : Bool) → OpeningStory (if b then o else record o { asked = true })
      by true = s
      by false = same-story o true s

  pub go-next : (o : Opening) (turn : Turn) → OpeningStory o → NextStory (opening.go_next o turn) (opening.go_after o turn)
  go-next o turn s = by (opening.waits o turn) (go-story o turn s)
    where
      by : (b : Bool) → OpeningStory (opening.go_after o turn) → NextStory (if b then openings.Wait else openings.Send (opening.call_of o o.step)) (opening.go_after o turn)
      by true k = k
      by false k = k

  next-as : (to step : OpeningStep) (o : Opening) → step ≡ to → NextStory to o → NextStory step o
  next-as to step o is s = subst (λ (n : OpeningStep). NextStory n o) (sym is) s

  opened : (o : Opening) (file : List ℕ) (to : _) (result : Result (List ℕ) Fault) (pages later : _) → OpenShown o.dir → opening.FileOpened file to result pages later
      → NextStory (openings.Ended result) o
  opened o file to (Ok opened_file) pages later s f = λ is. s
  opened o file to (Err fault) pages later s f = λ is. absurd (let no_way : faults.Memory ≡ faults.Kind = sym f.0 ∙ is in cc)

  knew : (o : Opening) (file : List ℕ) (to : _) (result : Result (List ℕ) Fault) (pages later : _) → o.nocto ≡ true → opening.FileOpened file to result pages later
      → NextStory (openings.Ended result) o
  knew o file to (Ok opened_file) pages later s f = λ is. absurd (let no_way : true ≡ false = sym s ∙ is in cc)
  knew o file to (Err fault) pages later s f = λ is. absurd (let no_way : faults.Memory ≡ faults.Kind = sym f.0 ∙ is in cc)

  pub led-next : (again : Bool) (o : Opening) (sent turn : Turn) (led : Led) (step : OpeningStep) (pages later : _) → OpeningStory o → LedStory o.nocto o.dir led
      → opening.LedIf again o sent turn led step pages later → NextStory step (opening.opening_after again o turn led)
  led-next true o sent turn led step pages later s d l = next-as (openings.Send (opening.call_of o o.step)) step (opening.counted o) l.0 (counted-story o s)
  led-next false o sent turn (leads.Goes to) step pages later s d l =
      next-as (opening.go_next (opening.at_step o to) turn) step _ l.0
      (go-next (opening.at_step o to) turn (record { name_is = s.name_is; mode_is = s.mode_is; leads = s.leads; step = d }))
  led-next false o sent turn (leads.Opens file attr) (openings.Ended result) pages later s d l = opened o file _ result pages later d l
  led-next false o sent turn (leads.Opens file attr) (openings.Send call) pages later s d l = s
  led-next false o sent turn (leads.Opens file attr) openings.Wait pages later s d l = s
  led-next false o sent turn (leads.Knows file stamp) (openings.Ended result) pages later s d l = knew o file _ result pages later d l
  led-next false o sent turn (leads.Knows file stamp) (openings.Send call) pages later s d l = s
  led-next false o sent turn (leads.Knows file stamp) openings.Wait pages later s d l = s
  led-next false o sent turn (leads.Ends fault) step pages later s d l = next-as (openings.Ended (Err fault)) step o l.0 d

  -- ---- opens

  -- its answer
  abbrev pub OpenAnswer : Bool → List ℕ → Answer → Type 0
  OpenAnswer nocto d (answers.Done value) = (value ≡ values.Nothing) × (nocto ≡ false → OpenShown d)
  OpenAnswer nocto d (answers.Refused fault) = fault ≡ faults.Kind → KindShown d

  pub as-next : (step : OpeningStep) (m : OpenFile) → NextStory step m.opening
      → ThenOf (λ (n : OpenFile). OpeningStory n.opening) (OpenAnswer m.opening.nocto m.opening.dir) (opens.goes_as step) m
  as-next (openings.Send call) m s = s
  as-next openings.Wait m s = s
  as-next (openings.Ended (Ok file)) m s = (refl, s)
  as-next (openings.Ended (Err fault)) m s = s

  puts-then : (other : Option _) (place of : _) (next : Step) (old new : _) (m : OpenFile) → (m.opening.nocto ≡ false → OpenShown m.opening.dir) → opens.PutsOver other place of next old new
      → ThenOf (λ (n : OpenFile). OpeningStory n.opening) (OpenAnswer m.opening.nocto m.opening.dir) next m
  puts-then (Some other) place of next old new m s p = then-as (λ (n : OpenFile). OpeningStory n.opening) (OpenAnswer m.opening.nocto m.opening.dir) (opens.refused faults.Slot) next m p.0 (λ is. absurd (cc))
  puts-then None place of next old new m s (inl p) = then-as (λ (n : OpenFile). OpeningStory n.opening) (OpenAnswer m.opening.nocto m.opening.dir) opens.well next m p.0 (refl, s)
  puts-then None place of next old new m s (inr p) = then-as (λ (n : OpenFile). OpeningStory n.opening) (OpenAnswer m.opening.nocto m.opening.dir) (opens.refused faults.Memory) next m p.0 (λ is. absurd (cc))

  pub follows-then : (m after : OpenFile) (step : OpeningStep) (next : Step) (old new : _) → NextStory step after.opening → opens.Follows m step next old new
      → ThenOf (λ (n : OpenFile). OpeningStory n.opening) (OpenAnswer after.opening.nocto after.opening.dir) next after
  follows-then m after (openings.Send call) next old new s f = then-as _ (OpenAnswer after.opening.nocto after.opening.dir) (nexts.Send call) next after f.0 s
  follows-then m after openings.Wait next old new s f = then-as _ (OpenAnswer after.opening.nocto after.opening.dir) nexts.Wait next after f.0 s
  follows-then m after (openings.Ended (Ok file)) next old new s f = puts-then (finite.get old (opens.place_of m)) _ _ next old new after s f
  follows-then m after (openings.Ended (Err fault)) next old new s f = then-as _ (OpenAnswer after.opening.nocto after.opening.dir) (opens.refused fault) next after f.0 s
