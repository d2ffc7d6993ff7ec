-- An open finds its file by the reply to its own LOOKUP or CREATE of its last name, and its last reply is that to GETATTR of the file, or that one.
use Rattle.core_answers.proofs.Prelude.{◌≡◌, ◌<◌, ◌==◌, inl, inr, ℕ, Bool, true, false, List, [], ◌∷◌, ◌++◌, length, Option, Some, None, Result, Ok, Err, refl, sym, ap, subst, arith, if◌then◌else◌, Attr, Wcc, Mode, DirKept, FileKept, looked, known_of, Answer, Fault, Entry, Call, Reply, IsDelivered, length_last, Step, Turn, OpenFile, Led, Opening, OpeningStep, OpeningPhase, got_by, front_of, last_of, then-as, ThenOf, IsAnswered}
use Rattle.file_ops.specs.Told.{found_by, made_by}
use Rattle.std.specs.FinMap as finite
use Rattle.nfs_dir_calls.specs.declared.call.DirCall.TheVariants as dirs
use Rattle.nfs_dir_calls.specs.declared.create.Making.{Making}
use Rattle.nfs_dir_calls.specs.declared.keeping.DirKept.TheVariants as dir_kept
use Rattle.nfs_file_calls.specs.declared.call.FileCall.TheVariants as file_calls
use Rattle.nfs_file_calls.specs.declared.owned.FileKept.TheVariants as file_kept
use Rattle.world_model.specs.declared.answer.Answer.TheVariants as answers
use Rattle.world_model.specs.declared.answer.Fault.TheVariants as faults
use Rattle.world_model.specs.declared.message.Call.TheVariants as calls
use Rattle.world_model.specs.declared.message.Reply.TheVariants as replies
use Rattle.client_shelf.specs.declared.step.Step.TheVariants as nexts
use Rattle.file_ops.specs.declared.opening.Led.TheVariants as leads
use Rattle.file_ops.specs.declared.opening.OpeningStep.TheVariants as openings
use Rattle.file_ops.specs.declared.opening.OpeningPhase.TheVariants as opening_steps
use Rattle.file_ops.specs.OpenFile as opens
use Rattle.file_ops.specs.Opening as opening
use Rattle.name_ops.specs.Looking.{look_up}
use Rattle.core_answers.proofs.bonds.AttrsShown.{answered-last}
use Rattle.core_answers.proofs.bonds.Walked.{LedBy, led-grows}
use Rattle.core_answers.proofs.engine.Told.{ToldLast}
use Rattle.core_answers.proofs.paths.Lasts.{IsLast, last-later}

-- ---- what was told

-- The call was first sent since the operation began, and the last record that came is the reply to it.
pub record IsOwn (h : List Entry) (x : ℕ) (call : Call) (reply : Reply) : Type 0 where
  pub since : ℕ
  pub late : x < since
  pub answered : IsAnswered h since (length h) call reply
  pub last : IsLast h x (length h) call reply

pub own-of : (h : List Entry) (x place : ℕ) (call : Call) (ms : ℕ) (reply : Reply) → ToldLast h x place call ms reply → IsOwn h x call reply
own-of h x place call ms reply t = record { since = t.since.told.since; late = t.since.later; answered = t.since.told.answered; last = record { ends = t.ends; only = t.only } }

abbrev pub create_of : List ℕ → List ℕ → Making → Call
create_of d name making = calls.Dir (dirs.Create d name making)

-- The file was given by the reply to the operation's own LOOKUP of the name, or to its CREATE.
pub data GivenBy (h : List Entry) (x : ℕ) (d name file : List ℕ) : Type 0 where
  looked_up : (since : ℕ) (attr dir : Option Attr) → x < since → IsAnswered h since (length h) (look_up d name) (replies.Dir (dir_kept.Lookup file attr dir)) → GivenBy h x d name file
  created : (since : ℕ) (making : Making) (attr : Option Attr) (wcc : Wcc) → x < since
      → IsAnswered h since (length h) (create_of d name making) (replies.Dir (dir_kept.Create (Some file) attr wcc)) → GivenBy h x d name file

-- The last record that came is the reply to GETATTR of the file, or to the LOOKUP or CREATE that gave it.
pub data LastOf (h : List Entry) (x n : ℕ) (file : List ℕ) : Type 0 where
  by_getattr : (reply : Reply) → IsLast h x n (calls.File (file_calls.GetAttr file)) reply → LastOf h x n file
  by_lookup : (d name : List ℕ) (attr dir : Option Attr) → IsLast h x n (look_up d name) (replies.Dir (dir_kept.Lookup file attr dir)) → LastOf h x n file
  by_create : (d name : List ℕ) (making : Making) (attr : Option Attr) (wcc : Wcc) → IsLast h x n (create_of d name making) (replies.Dir (dir_kept.Create (Some file) attr wcc))
      → LastOf h x n file

-- ---- one step of an opening

module _ (most : ℕ) (top : List ℕ) (h : List Entry) (x : ℕ) (path : List (List ℕ)) where
  abbrev pub StepFound : List ℕ → OpeningPhase → Type 0
  StepFound d opening_steps.Look = Unit {0}
  StepFound d opening_steps.Make = Unit {0}
  StepFound d opening_steps.Find = Unit {0}
  StepFound d (opening_steps.Ask file) = GivenBy h x d (last_of path) file

  -- It is at the directory to which the names but the last lead.
  pub record OpeningAt (o : Opening) : Type 0 where
    pub name_is : o.name ≡ last_of path
    pub led : LedBy h most x top (front_of path) o.dir
    pub step : StepFound o.dir o.step

  -- the file was found there
  pub record FoundAs (file : List ℕ) : Type 0 where
    pub within : x < length h
    pub d : List ℕ
    pub led : LedBy h most x top (front_of path) d
    pub given : GivenBy h x d (last_of path) file

  pub record FoundNow (file : List ℕ) : Type 0 where
    pub found : FoundAs file
    pub last : LastOf h x (length h) file

  -- by the record that has just come
  pub record JustGiven (d file : List ℕ) : Type 0 where
    pub given : GivenBy h x d (last_of path) file
    pub last : LastOf h x (length h) file

  abbrev pub NowFound : List ℕ → OpeningPhase → Type 0
  NowFound d opening_steps.Look = Unit {0}
  NowFound d opening_steps.Make = Unit {0}
  NowFound d opening_steps.Find = Unit {0}
  NowFound d (opening_steps.Ask file) = JustGiven d file

  now-step : (d : List ℕ) (step : OpeningPhase) → NowFound d step → StepFound d step
  now-step d opening_steps.Look s = tt
  now-step d opening_steps.Make s = tt
  now-step d opening_steps.Find s = tt
  now-step d (opening_steps.Ask file) s = s.given

  abbrev pub LedFound : List ℕ → Led → Type 0
  LedFound d (leads.Goes step) = NowFound d step
  LedFound d (leads.Opens file attr) = JustGiven d file
  LedFound d (leads.Knows file stamp) = JustGiven d file
  LedFound d (leads.Ends fault) = Unit {0}

  -- what came of its call
  abbrev pub IsHeard : Result Reply Fault → Call → Type 0
  IsHeard came call = (reply : Reply) → came ≡ Ok reply → IsOwn h x call reply

  found-dir : (d : List ℕ) (reply : DirKept) → IsOwn h x (look_up d (last_of path)) (replies.Dir reply) → LedFound d (opening.found (found_by (Ok (replies.Dir reply))))
  found-dir d (dir_kept.Lookup file attr dir) k = record { given = looked_up k.since attr dir k.late k.answered; last = by_lookup d (last_of path) attr dir k.last }
  found-dir d (dir_kept.LookupFail status dir) k = tt
  found-dir d reply k = tt

  found-led : (d : List ℕ) (came : Result Reply Fault) → IsHeard came (look_up d (last_of path)) → LedFound d (opening.found (found_by came))
  found-led d (Ok (replies.Dir reply)) t = found-dir d reply (t (replies.Dir reply) refl)
  found-led d (Ok (replies.File reply)) t = tt
  found-led d (Ok (replies.Mount reply)) t = tt
  found-led d (Err fault) t = tt

  look-led : (d : List ℕ) (m : Mode) (came : Result Reply Fault) → IsHeard came (look_up d (last_of path))
      → LedFound d (if opening.makes m came then leads.Goes opening_steps.Make else opening.found (found_by came))
  look-led d m came t = by (opening.makes m came)
    where
      by : (b : Bool) → LedFound d (if b then leads.Goes opening_steps.Make else opening.found (found_by came))
      by true = tt
      by false = found-led d came t

  made-dir : (d : List ℕ) (making : Making) (reply : DirKept) → IsOwn h x (create_of d (last_of path) making) (replies.Dir reply) → LedFound d (opening.made (made_by (Ok (replies.Dir reply))))
  made-dir d making (dir_kept.Create (Some file) attr wcc) k = record { given = created k.since making attr wcc k.late k.answered; last = by_create d (last_of path) making attr wcc k.last }
  made-dir d making (dir_kept.Create None attr wcc) k = tt
  made-dir d making (dir_kept.CreateFail status wcc) k = tt
  made-dir d making reply k = tt

  made-led : (d : List ℕ) (making : Making) (came : Result Reply Fault) → IsHeard came (create_of d (last_of path) making) → LedFound d (opening.made (made_by came))
  made-led d making (Ok (replies.Dir reply)) t = made-dir d making reply (t (replies.Dir reply) refl)
  made-led d making (Ok (replies.File reply)) t = tt
  made-led d making (Ok (replies.Mount reply)) t = tt
  made-led d making (Err fault) t = tt

  got-file : (d file : List ℕ) (reply : FileKept) → GivenBy h x d (last_of path) file → IsOwn h x (calls.File (file_calls.GetAttr file)) (replies.File reply)
      → LedFound d (opening.got file (got_by (Ok (replies.File reply))))
  got-file d file (file_kept.GetAttr attr) g k = by (attr.kind == 1)
    where
      by : (b : Bool) → LedFound d (if b then leads.Opens file attr else leads.Ends faults.Kind)
      by true = record { given = g; last = by_getattr (replies.File (file_kept.GetAttr attr)) k.last }
      by false = tt
  got-file d file (file_kept.GetAttrFail status) g k = tt
  got-file d file reply g k = tt

  got-led : (d file : List ℕ) (came : Result Reply Fault) → GivenBy h x d (last_of path) file → IsHeard came (calls.File (file_calls.GetAttr file)) → LedFound d (opening.got file (got_by came))
  got-led d file (Ok (replies.File reply)) g t = got-file d file reply g (t (replies.File reply) refl)
  got-led d file (Ok (replies.Dir reply)) g t = tt
  got-led d file (Ok (replies.Mount reply)) g t = tt
  got-led d file (Err fault) g t = tt

  heard-as : (came : Result Reply Fault) (a b : Call) → a ≡ b → IsHeard came a → IsHeard came b
  heard-as came a b is t = subst (IsHeard came) is t

  led-told : (o : Opening) (came : Result Reply Fault) → OpeningAt o → IsHeard came (opening.call_of o o.step) → LedFound o.dir (opening.told_led o came)
  led-told o came s t = by o.step refl s.step
    where
      named-call : look_up o.dir o.name ≡ look_up o.dir (last_of path)
      named-call = ap (look_up o.dir) s.name_is

      at : (k : OpeningPhase) → o.step ≡ k → IsHeard came (opening.call_of o k)
      at k is = heard-as came (opening.call_of o o.step) (opening.call_of o k) (ap (opening.call_of o) is) t

      by : (k : OpeningPhase) → o.step ≡ k → StepFound o.dir k → LedFound o.dir (opening.led_to o.mode k came)
      by opening_steps.Look is p = look-led o.dir o.mode came (heard-as came (look_up o.dir o.name) (look_up o.dir (last_of path)) named-call (at opening_steps.Look is))
      by opening_steps.Find is p = found-led o.dir came (heard-as came (look_up o.dir o.name) (look_up o.dir (last_of path)) named-call (at opening_steps.Find is))
      by opening_steps.Make is p =
          made-led o.dir (opening.making_of o.mode) came
          (heard-as came (create_of o.dir o.name (opening.making_of o.mode)) (create_of o.dir (last_of path) (opening.making_of o.mode))
          (ap (λ (n : List ℕ). create_of o.dir n (opening.making_of o.mode)) s.name_is) (at opening_steps.Make is))
      by (opening_steps.Ask file) is p = got-led o.dir file came p (at (opening_steps.Ask file) is)

  known-at : (d file : List ℕ) (attr : Option Attr) (known : _) → JustGiven d file → LedFound d (opening.known_at file attr known)
  known-at d file (Some attr) (Some stamp) g = by _
    where
      by : (b : Bool) → LedFound d (if b then leads.Knows file stamp else leads.Goes (opening_steps.Ask file))
      by true = g
      by false = g
  known-at d file None known g = g
  known-at d file (Some attr) None g = g

  known-led : (d : List ℕ) (led : Led) (now : ℕ) (attrs pages : _) → LedFound d led → LedFound d (opening.known_led led now attrs pages)
  known-led d (leads.Goes opening_steps.Look) now attrs pages s = s
  known-led d (leads.Goes opening_steps.Make) now attrs pages s = s
  known-led d (leads.Goes opening_steps.Find) now attrs pages s = s
  known-led d (leads.Goes (opening_steps.Ask file)) now attrs pages s = known-at d file (looked file now attrs) (known_of file pages) s
  known-led d (leads.Opens file attr) now attrs pages s = s
  known-led d (leads.Knows file stamp) now attrs pages s = s
  known-led d (leads.Ends fault) now attrs pages s = s

  pub led-on : (o : Opening) (now : ℕ) (came : Result Reply Fault) (attrs pages : _) → OpeningAt o → IsHeard came (opening.call_of o o.step)
      → LedFound o.dir (opening.led_on o now came attrs pages)
  led-on o now came attrs pages s t = by o.nocto
    where
      by : (b : Bool) → LedFound o.dir (opening.known_by b (opening.told_led o came) now attrs pages)
      by true = known-led o.dir (opening.told_led o came) now attrs pages (led-told o came s t)
      by false = led-told o came s t

  -- ---- what a step comes to

  abbrev pub NextFound : OpeningStep → Opening → Type 0
  NextFound (openings.Send call) o = OpeningAt o
  NextFound openings.Wait o = OpeningAt o
  NextFound (openings.Ended (Ok file)) o = FoundNow file
  NextFound (openings.Ended (Err fault)) o = Unit {0}

  same-at : (o : Opening) (asked : Bool) → OpeningAt o → OpeningAt (record o { asked = asked })
  same-at o asked s = record { name_is = s.name_is; led = s.led; step = s.step }

  counted-at : (o : Opening) → OpeningAt o → OpeningAt (opening.counted o)
  counted-at o s = record { name_is = s.name_is; led = s.led; step = s.step }

  pub go-at : (o : Opening) (turn : Turn) → OpeningAt o → OpeningAt (opening.go_after o turn)
  go-at o turn s = by (opening.waits o turn)
    where
      by : (b : Bool) → OpeningAt (if b then o else record o { asked = true })
      by true = s
      by false = same-at o true s

  pub go-next : (o : Opening) (turn : Turn) → OpeningAt o → NextFound (opening.go_next o turn) (opening.go_after o turn)
  go-next o turn s = by (opening.waits o turn) (go-at o turn s)
    where
      by : (b : Bool) → OpeningAt (opening.go_after o turn) → NextFound (if b then openings.Wait else openings.Send (opening.call_of o o.step)) (opening.go_after o turn)
      by true k = k
      by false k = k

  next-as : (to step : OpeningStep) (o : Opening) → step ≡ to → NextFound to o → NextFound step o
  next-as to step o is s = subst (λ (n : OpeningStep). NextFound n o) (sym is) s

  opened : (within : x < length h) (o : Opening) (file : List ℕ) (to : _) (result : Result (List ℕ) Fault) (pages later : _) → OpeningAt o → JustGiven o.dir file
      → opening.FileOpened file to result pages later → NextFound (openings.Ended result) o
  opened within o file to (Ok opened_file) pages later s g f =
      subst FoundNow (sym f.0) (record { found = record { within = within; d = o.dir; led = s.led; given = g.given }; last = g.last })
  opened within o file to (Err fault) pages later s g f = tt

  pub led-next : (within : x < length h) (again : Bool) (o : Opening) (sent turn : Turn) (led : Led) (step : OpeningStep) (pages later : _) → OpeningAt o → LedFound o.dir led
      → opening.LedIf again o sent turn led step pages later → NextFound step (opening.opening_after again o turn led)
  led-next within true o sent turn led step pages later s d l = next-as (openings.Send (opening.call_of o o.step)) step (opening.counted o) l.0 (counted-at o s)
  led-next within false o sent turn (leads.Goes to) step pages later s d l =
      next-as (opening.go_next (opening.at_step o to) turn) step _ l.0
      (go-next (opening.at_step o to) turn (record { name_is = s.name_is; led = s.led; step = now-step o.dir to d }))
  led-next within false o sent turn (leads.Opens file attr) (openings.Ended result) pages later s d l = opened within o file _ result pages later s d l
  led-next within false o sent turn (leads.Opens file attr) (openings.Send call) pages later s d l = s
  led-next within false o sent turn (leads.Opens file attr) openings.Wait pages later s d l = s
  led-next within false o sent turn (leads.Knows file stamp) (openings.Ended result) pages later s d l = opened within o file _ result pages later s d l
  led-next within false o sent turn (leads.Knows file stamp) (openings.Send call) pages later s d l = s
  led-next within false o sent turn (leads.Knows file stamp) openings.Wait pages later s d l = s
  led-next within false o sent turn (leads.Ends fault) step pages later s d l = next-as (openings.Ended (Err fault)) step o l.0 tt

  -- ---- opens

  -- its answer
  abbrev pub OpenAnswer : Answer → Type 0
  OpenAnswer (answers.Done value) = (file : List ℕ) × FoundNow file
  OpenAnswer (answers.Refused fault) = Unit {0}

  pub as-next : (step : OpeningStep) (m : OpenFile) → NextFound step m.opening → ThenOf (λ (n : OpenFile). OpeningAt n.opening) OpenAnswer (opens.goes_as step) m
  as-next (openings.Send call) m s = s
  as-next openings.Wait m s = s
  as-next (openings.Ended (Ok file)) m s = (file, s)
  as-next (openings.Ended (Err fault)) m s = tt

  puts-then : (file : List ℕ) (other : Option _) (place of : _) (next : Step) (old new : _) (m : OpenFile) → FoundNow file → opens.PutsOver other place of next old new
      → ThenOf (λ (n : OpenFile). OpeningAt n.opening) OpenAnswer next m
  puts-then file (Some other) place of next old new m s p = then-as (λ (n : OpenFile). OpeningAt n.opening) OpenAnswer (opens.refused faults.Slot) next m p.0 tt
  puts-then file None place of next old new m s (inl p) = then-as (λ (n : OpenFile). OpeningAt n.opening) OpenAnswer opens.well next m p.0 (file, s)
  puts-then file None place of next old new m s (inr p) = then-as (λ (n : OpenFile). OpeningAt n.opening) OpenAnswer (opens.refused faults.Memory) next m p.0 tt

  pub follows-then : (m after : OpenFile) (step : OpeningStep) (next : Step) (old new : _) → NextFound step after.opening → opens.Follows m step next old new
      → ThenOf (λ (n : OpenFile). OpeningAt n.opening) OpenAnswer next after
  follows-then m after (openings.Send call) next old new s f = then-as (λ (n : OpenFile). OpeningAt n.opening) OpenAnswer (nexts.Send call) next after f.0 s
  follows-then m after openings.Wait next old new s f = then-as (λ (n : OpenFile). OpeningAt n.opening) OpenAnswer nexts.Wait next after f.0 s
  follows-then m after (openings.Ended (Ok file)) next old new s f = puts-then file (finite.get old (opens.place_of m)) _ _ next old new after s f
  follows-then m after (openings.Ended (Err fault)) next old new s f = then-as (λ (n : OpenFile). OpeningAt n.opening) OpenAnswer (opens.refused fault) next after f.0 tt

-- ---- one entry more

pub given-grows : (h : List Entry) (e : Entry) (x : ℕ) (d name file : List ℕ) → GivenBy h x d name file → GivenBy (h ++ e ∷ []) x d name file
given-grows h e x d name file (looked_up since attr dir late a) = looked_up since attr dir late (answered-last h e since _ _ a)
given-grows h e x d name file (created since making attr wcc late a) = created since making attr wcc late (answered-last h e since _ _ a)

pub last-of-later : (h : List Entry) (e : Entry) (x : ℕ) (file : List ℕ) → (IsDelivered e → ⊥) → LastOf h x (length h) file → LastOf (h ++ e ∷ []) x (length (h ++ e ∷ [])) file
last-of-later h e x file quiet (by_getattr reply k) = by_getattr reply (last-later h e x _ reply quiet k)
last-of-later h e x file quiet (by_lookup d name attr dir k) = by_lookup d name attr dir (last-later h e x _ _ quiet k)
last-of-later h e x file quiet (by_create d name making attr wcc k) = by_create d name making attr wcc (last-later h e x _ _ quiet k)

module _ (most : ℕ) (top : List ℕ) (h : List Entry) (e : Entry) (x : ℕ) (path : List (List ℕ)) where
  step-grows : (d : List ℕ) (step : OpeningPhase) → StepFound most top h x path d step → StepFound most top (h ++ e ∷ []) x path d step
  step-grows d opening_steps.Look s = tt
  step-grows d opening_steps.Make s = tt
  step-grows d opening_steps.Find s = tt
  step-grows d (opening_steps.Ask file) s = given-grows h e x d (last_of path) file s

  pub opening-grows : (o : Opening) → x < length h → OpeningAt most top h x path o → OpeningAt most top (h ++ e ∷ []) x path o
  opening-grows o within s = record { name_is = s.name_is; led = led-grows h e most x top (front_of path) o.dir within s.led; step = step-grows o.dir o.step s.step }

  pub found-grows : (file : List ℕ) → FoundAs most top h x path file → FoundAs most top (h ++ e ∷ []) x path file
  found-grows file s =
      let within = s.within in
      let more = length_last h e in
      record { within = omega (arith, within, more); d = s.d; led = led-grows h e most x top (front_of path) s.d s.within s.led; given = given-grows h e x s.d (last_of path) file s.given }
