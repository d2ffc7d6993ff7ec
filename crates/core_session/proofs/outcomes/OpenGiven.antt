-- The LOOKUP or CREATE of an open that gave its file, and kept attributes that a reply showed.
use Rattle.core_session.proofs.Prelude.{◌≡◌, ℕ, Bool, true, false, List, [], ◌∷◌, ◌++◌, length, Option, Some, None, Result, Ok, Err, refl, ap, subst, arith, if◌then◌else◌, Attr, Mode, DirKept, Fault, Entry, Call, Reply, look_up, Asked, status_of, EndsWith, Asked-grow, Asked-wide, length_last, Opening, OpeningPhase, made_by, got_by, last_of, IsAnswered}
use Rattle.claims.specs.Asks.{MakesFile}
use Rattle.world_model.proofs.Growth.{Heard-wide}
use Rattle.file_ops.specs.Told.{found_by}
use Rattle.core_answers.specs.bonds.Kept.{WasShown}
use Rattle.attr_cache.specs.Attrs as attrs
use Rattle.attr_cache.specs.declared.kept.KeptAttr.{KeptAttr}
use Rattle.attr_cache.proofs.Entries.{Believed, looked-kept}
use Rattle.nfs_dir_calls.specs.declared.call.DirCall.TheVariants as dirs
use Rattle.nfs_dir_calls.specs.declared.keeping.DirKept.TheVariants as dir_kept
use Rattle.world_model.specs.declared.answer.Fault.TheVariants as faults
use Rattle.world_model.specs.declared.message.Call.TheVariants as calls
use Rattle.world_model.specs.declared.message.Reply.TheVariants as replies
use Rattle.claims.specs.Shown.{ShownWithin, given_object}
use Rattle.file_ops.specs.declared.opening.Led.TheVariants as leads
use Rattle.file_ops.specs.declared.opening.OpeningPhase.TheVariants as opening_steps
use Rattle.file_ops.specs.Opening as opening
use Rattle.core_facts.proofs.OpenStory.{OpeningStory, OpeningTold, StepStory, makes-file}
use Rattle.core_answers.proofs.bonds.AttrsShown.{ShownIn}
use Rattle.core_answers.proofs.bonds.Learnt.{Good, Tells}

-- ---- kept attributes

-- a reply showed them
abbrev pub ShownSo : List Entry → List ℕ × KeptAttr → Type 0
ShownSo h e = ShownWithin h 0 (length h) e.0 e.1.attr

answered-asked : (h : List Entry) (since : ℕ) (call : Call) (reply : Reply) → IsAnswered h since (length h) call reply → Asked h 0 (length h) call reply
answered-asked h since call reply a =
    record { xid = a.xid; bytes = a.bytes; heard = Heard-wide h since (length h) 0 (length h) call a.xid a.bytes (omega arith) (omega arith) a.heard; spells = a.spells }

was-so : (h : List Entry) (file : List ℕ) (kept : KeptAttr) → WasShown h file kept → ShownWithin h 0 (length h) file kept.attr
was-so h file kept s = record { call = s.call; reply = s.reply; asked = answered-asked h s.since s.call s.reply s.answered; shows = s.shows }

pub shown-later : (h : List Entry) (e : Entry) (file : List ℕ) (attr : Attr) → ShownWithin h 0 (length h) file attr → ShownWithin (h ++ e ∷ []) 0 (length (h ++ e ∷ [])) file attr
shown-later h e file attr s =
    let more = length_last h e in
    record {
      call = s.call;
      reply = s.reply;
      asked = Asked-wide (h ++ e ∷ []) 0 (length h) 0 (length (h ++ e ∷ [])) s.call s.reply (omega arith) (omega (arith, more)) (Asked-grow h (e ∷ []) 0 (length h) s.call s.reply s.asked);
      shows = s.shows;
    }

pub kept-so : (most : ℕ) (h : List Entry) (e : Entry) (c : attrs.Attrs) → Good (ShownIn h) most c → Good (ShownSo (h ++ e ∷ [])) most c
kept-so most h e c g = record {
  lives = g.lives;
  all = λ k d lt. let was = g.all k d lt in (shown-later h e _ _ (was-so h _ _ was.0), was.1);
}

-- what a reply shows may be learnt
pub tells-so : (most : ℕ) (h : List Entry) (x : ℕ) (call : Call) (ms : ℕ) (came : Result Reply Fault) → ((reply : Reply) → came ≡ Ok reply → Asked h x (length h) call reply)
    → Tells (ShownSo h) most call ms came
tells-so most h x call ms came heard reply is file attr shows lifetime =
    record { call = call; reply = reply; asked = Asked-wide h x (length h) 0 (length h) call reply (omega arith) (omega arith) (heard reply is); shows = shows }

pub looked-shown : (most : ℕ) (h : List Entry) (file : List ℕ) (now : ℕ) (c : attrs.Attrs) (attr : Attr) → Good (ShownSo h) most c → attrs.looked file now c ≡ Some attr
    → ShownWithin h 0 (length h) file attr
looked-shown most h file now c attr g is =
    let k = looked-kept (Believed (ShownSo h) most) file now c attr g.all is in
    subst (λ (a : Attr). ShownWithin h 0 (length h) file a) k.2 k.1.0

-- ---- the reply that gave the file

-- LOOKUP or CREATE of the last name
pub data Finds (mode : Mode) (d name : List ℕ) (call : Call) : Type 0 where
  looks : call ≡ look_up d name → Finds mode d name call
  makes : MakesFile mode d name call → Finds mode d name call

module _ (top : List ℕ) (h : List Entry) (x : ℕ) (path : List (List ℕ)) (mode : Mode) where
  pub record GivenBy (d file : List ℕ) : Type 0 where
    pub call : Call
    pub reply : Reply
    pub finds : Finds mode d (last_of path) call
    pub ends : EndsWith h x (length h) call reply
    pub went : status_of reply ≡ 0
    pub gives : given_object reply ≡ Some file

  -- what came gave this file
  record Gives (came : Result Reply Fault) (file : List ℕ) : Type 0 where
    pub reply : Reply
    pub is : came ≡ Ok reply
    pub went : status_of reply ≡ 0
    pub gives : given_object reply ≡ Some file

  found-dir : (reply : DirKept) (file : List ℕ) → found_by (Ok (replies.Dir reply)) ≡ Ok file → Gives (Ok (replies.Dir reply)) file
  found-dir (dir_kept.Lookup found attr dir) file is = record { reply = replies.Dir (dir_kept.Lookup found attr dir); is = refl; went = refl; gives = let same : found ≡ file = cc in ap (λ (f : List ℕ). Some f) same }
  found-dir (dir_kept.LookupFail status dir) file is = absurd (cc)
  found-dir reply file is = absurd (cc)

  found-gives : (came : Result Reply Fault) (file : List ℕ) → found_by came ≡ Ok file → Gives came file
  found-gives (Ok (replies.Dir reply)) file is = found-dir reply file is
  found-gives (Ok (replies.File reply)) file is = absurd (cc)
  found-gives (Ok (replies.Mount reply)) file is = absurd (cc)
  found-gives (Err fault) file is = absurd (cc)

  made-dir : (reply : DirKept) (file : List ℕ) → made_by (Ok (replies.Dir reply)) ≡ Ok (Some file) → Gives (Ok (replies.Dir reply)) file
  made-dir (dir_kept.Create found attr wcc) file is =
      record { reply = replies.Dir (dir_kept.Create found attr wcc); is = refl; went = refl; gives = let same : found ≡ Some file = cc in same }
  made-dir (dir_kept.CreateFail status wcc) file is = absurd (cc)
  made-dir reply file is = absurd (cc)

  made-gives : (came : Result Reply Fault) (file : List ℕ) → made_by came ≡ Ok (Some file) → Gives came file
  made-gives (Ok (replies.Dir reply)) file is = made-dir reply file is
  made-gives (Ok (replies.File reply)) file is = absurd (cc)
  made-gives (Ok (replies.Mount reply)) file is = absurd (cc)
  made-gives (Err fault) file is = absurd (cc)

  found-ok : (told : Result (List ℕ) Fault) (file : List ℕ) → opening.found told ≡ leads.Goes (opening_steps.Ask file) → told ≡ Ok file
  found-ok (Ok found) file is = let same : found ≡ file = cc in ap (λ (f : List ℕ). Ok f) same
  found-ok (Err fault) file is = absurd (cc)

  made-ok : (told : Result (Option (List ℕ)) Fault) (file : List ℕ) → opening.made told ≡ leads.Goes (opening_steps.Ask file) → told ≡ Ok (Some file)
  made-ok (Ok (Some found)) file is = let same : found ≡ file = cc in ap (λ (f : List ℕ). Ok (Some f)) same
  made-ok (Ok None) file is = absurd (cc)
  made-ok (Err fault) file is = absurd (cc)

  look-ok : (b : Bool) (told : Result (List ℕ) Fault) (file : List ℕ) → (if b then leads.Goes opening_steps.Make else opening.found told) ≡ leads.Goes (opening_steps.Ask file) → told ≡ Ok file
  look-ok true told file is = absurd (cc)
  look-ok false told file is = found-ok told file is

  kind-asks : (b : Bool) (f : List ℕ) (attr : Attr) (file : List ℕ) → (if b then leads.Opens f attr else leads.Ends faults.Kind) ≡ leads.Goes (opening_steps.Ask file) → ⊥
  kind-asks true f attr file is = absurd (cc)
  kind-asks false f attr file is = absurd (cc)

  got-asks : (f : List ℕ) (told : Result Attr Fault) (file : List ℕ) → opening.got f told ≡ leads.Goes (opening_steps.Ask file) → ⊥
  got-asks f (Ok attr) file is = kind-asks _ f attr file is
  got-asks f (Err fault) file is = absurd (cc)

  given-by : (o : Opening) (came : Result Reply Fault) (file : List ℕ) (call : Call) → Finds mode o.dir (last_of path) call → OpeningTold top h x path mode came call → Gives came file
      → GivenBy o.dir file
  given-by o came file call finds t g = record { call = call; reply = g.reply; finds = finds; ends = (t.heard g.reply g.is).ends; went = g.went; gives = g.gives }

  pub gave-file : (o : Opening) (came : Result Reply Fault) (file : List ℕ) → OpeningStory top h x path mode o → OpeningTold top h x path mode came (opening.call_of o o.step)
      → opening.told_led o came ≡ leads.Goes (opening_steps.Ask file) → GivenBy o.dir file
  gave-file o came file s t is = by o.step refl s.step is
    where
      at : (k : OpeningPhase) → o.step ≡ k → OpeningTold top h x path mode came (opening.call_of o k)
      at k same = subst (λ (n : OpeningPhase). OpeningTold top h x path mode came (opening.call_of o n)) same t

      by : (k : OpeningPhase) → o.step ≡ k → StepStory top h x path mode o.dir k → opening.led_to o.mode k came ≡ leads.Goes (opening_steps.Ask file) → GivenBy o.dir file
      by opening_steps.Look same p e =
          given-by o came file (opening.call_of o opening_steps.Look) (looks (ap (look_up o.dir) s.name_is)) (at opening_steps.Look same)
          (found-gives came file (look-ok (opening.makes o.mode came) (found_by came) file e))
      by opening_steps.Find same p e =
          given-by o came file (opening.call_of o opening_steps.Find) (looks (ap (look_up o.dir) s.name_is)) (at opening_steps.Find same) (found-gives came file (found-ok (found_by came) file e))
      by opening_steps.Make same p e =
          given-by o came file (opening.call_of o opening_steps.Make)
          (makes (subst (λ (n : List ℕ). MakesFile mode o.dir n (calls.Dir (dirs.Create o.dir o.name (opening.making_of o.mode)))) s.name_is (makes-file top h x path mode o.dir o.name o.mode s.mode_is p)))
          (at opening_steps.Make same) (made-gives came file (made-ok (made_by came) file e))
      by (opening_steps.Ask f) same p e = absurd (got-asks f (got_by came) file e)
