-- Each attribute that is kept was shown by a reply.
use Rattle.core_answers.proofs.Prelude.{◌≡◌, ◌≤◌, ℕ, List, [], ◌∷◌, ◌++◌, length, inl, inr, Result, arith, Attrs, KeptAttr, Fault, Entry, Began, Clock, Call, Reply, Heard-wide, At-grow, length_last, Step, Send, Wait, Done, Shelf, machine_of, Mounted, Machine, Setup, ThenOf, HadShown, IsAnswered}
use Rattle.attr_cache.specs.Attrs.{nothing_learnt}
use Rattle.world_model.proofs.Growth.{Heard-grow}
use Rattle.core_answers.specs.bonds.Kept.{WasShown, LastAtMost, AttrsShown}
use Rattle.attr_cache.proofs.Entries.{Believed, All-lookup}
use Rattle.core_answers.proofs.bonds.Keeping.{BondLaws, reached-known}
use Rattle.core_answers.proofs.engine.Told.{IsTold, ShelfLaws}
use Rattle.core_answers.proofs.bonds.Learnt.{Good, Tells, good-as}
use Rattle.core_answers.proofs.bonds.MachineAttrs.{attrs-starts, attrs-resumes, attrs-takes}
use Rattle.core_answers.proofs.bonds.MachineCalls.{Asks, asks-laws}

-- an entry of the cache, as the history shows it
abbrev pub ShownIn : List Entry → List ℕ × KeptAttr → Type 0
ShownIn h e = WasShown h e.0 e.1

pub time-grows : (h more : List Entry) (n ms : ℕ) → HadShown h n ms → HadShown (h ++ more) n ms
time-grows h more n ms (inl none) =
    let b = none.1 in inl (none.0, record { x = b.x; lane = b.lane; line = b.line; op = b.op; began = At-grow h more b.x (Began b.lane b.line b.op) b.began; before = b.before })
time-grows h more n ms (inr t) = inr (t.0, At-grow h more t.0 (Clock ms) t.1, t.2)

pub answered-grow : (h more : List Entry) (from to : ℕ) (call : Call) (reply : Reply) → IsAnswered h from to call reply → IsAnswered (h ++ more) from to call reply
answered-grow h more from to call reply a =
    record { xid = a.xid; bytes = a.bytes; heard = Heard-grow h more from to call a.xid a.bytes a.heard; spells = a.spells; only = a.only }

answered-wide : (h : List Entry) (from to more : ℕ) (call : Call) (reply : Reply) → to ≤ more → IsAnswered h from to call reply → IsAnswered h from more call reply
answered-wide h from to more call reply le a =
    record { xid = a.xid; bytes = a.bytes; heard = Heard-wide h from to from more call a.xid a.bytes (omega arith) le a.heard; spells = a.spells; only = a.only }

-- up to the history's end
pub answered-last : (h : List Entry) (e : Entry) (from : ℕ) (call : Call) (reply : Reply) → IsAnswered h from (length h) call reply
    → IsAnswered (h ++ e ∷ []) from (length (h ++ e ∷ [])) call reply
answered-last h e from call reply a =
    let more = length_last h e in
    answered-wide (h ++ e ∷ []) from (length h) (length (h ++ e ∷ [])) call reply (omega (arith, more)) (answered-grow h (e ∷ []) from (length h) call reply a)

shown-grows : (h : List Entry) (e : Entry) (file : List ℕ) (kept : KeptAttr) → WasShown h file kept → WasShown (h ++ e ∷ []) file kept
shown-grows h e file kept s = record {
  call = s.call;
  reply = s.reply;
  since = s.since;
  timed = time-grows h (e ∷ []) s.since kept.sent_at s.timed;
  answered = answered-last h e s.since s.call s.reply s.answered;
  shows = s.shows;
}

good-grows : (most : ℕ) (h : List Entry) (e : Entry) (c : Attrs) → Good (ShownIn h) most c → Good (ShownIn (h ++ e ∷ [])) most c
good-grows most h e c g = record {
  lives = g.lives;
  all = λ k d lt. let was = g.all k d lt in (shown-grows h e _ _ was.0, was.1);
}

-- what a reply shows may be learnt
told-shown : (most : ℕ) (h : List Entry) (call : Call) (ms : ℕ) (came : Result Reply Fault) → IsTold h call ms came → Tells (ShownIn h) most call ms came
told-shown most h call ms came told reply is file attr shows lifetime =
    let t = told reply is in
    record { call = call; reply = reply; since = t.since; timed = t.timed; answered = t.answered; shows = shows }

pub attr-laws : (most : ℕ) → ShelfLaws Asks (λ h shelf. Good (ShownIn h) most shelf.attrs)
attr-laws most = record {
  starts = λ h machine wsize turn old next new after s g. good-as (ShownIn h) most old.attrs after.attrs (attrs-starts machine wsize turn old next new after s) g;
  resumes = λ h machine wsize turn old next new after r g. good-as (ShownIn h) most old.attrs after.attrs (attrs-resumes machine wsize turn old next new after r) g;
  takes = λ h machine call wsize sent turn came old next new after on told t g.
      attrs-takes (ShownIn h) most call sent turn came (told-shown most h call sent.now came told) machine wsize old next new after on t g;
  grows = λ h e shelf g. good-grows most h e shelf.attrs g;
}

pub fresh-attrs : (setup : Setup) (most : ℕ) (h : List Entry) (c : Attrs) → LastAtMost setup.lives most → c ≡ nothing_learnt setup.lives → Good (ShownIn h) most c
fresh-attrs setup most h c lasts is = good-as (ShownIn h) most (nothing_learnt setup.lives) c is (record {
  lives = record { reg_min = lasts.reg_min; reg_max = lasts.reg_max; dir_min = lasts.dir_min; dir_max = lasts.dir_max };
  all = λ k d lt. absurd (omega (arith, lt));
})

-- of the operations nothing is said
pub no-story : (m : Mounted) (E : Machine → Call → Type 0) (K : List Entry → Shelf → Type 0) → ShelfLaws E K → BondLaws (machine_of m) E K (λ h x op state. Unit {0})
no-story m E K laws = record {
  shelf = laws;
  starts = λ h lane line op wsize turn old next new after k late s. nothing-told next new;
  resumes = λ h x op machine wsize turn old next new after k within late story r. nothing-told next new;
  takes = λ h x op machine call wsize sent turn came old next new after before k within late story on told t. nothing-told next new;
  grows = λ h e x op state story. tt;
  lost = λ h x op shown. tt;
}
  where
    nothing-told : (next : Step) (new : Machine) → ThenOf (λ k. Unit {0}) (λ a. Unit {0}) next new
    nothing-told (Send call) new = tt
    nothing-told Wait new = tt
    nothing-told (Done answer) new = tt

pub attrs-shown : AttrsShown
attrs-shown m setup most h v lasts r file kept is =
    let g = (reached-known m setup Asks asks-laws (λ k shelf. Good (ShownIn k) most shelf.attrs) (λ k x op state. Unit {0})
    (no-story m Asks (λ k shelf. Good (ShownIn k) most shelf.attrs) (attr-laws most)) (λ k w fresh. fresh-attrs setup most k w.shelf.attrs lasts fresh.attrs) h v r).kept in
    let e = All-lookup (Believed (ShownIn h) most) file v.shelf.attrs.entries kept g.all is in
    record { shown = e.0; short = e.1 }
