-- A remove asks for one LOOKUP of a hidden name, and for one more after each that was found.
use Rattle.core_counts.proofs.Prelude.{◌≡◌, ◌≤◌, ◌+◌, ◌-◌, ◌⊎◌, inl, inr, ℕ, zero, suc, Bool, true, false, List, [], ◌∷◌, ◌++◌, length, take, Contains, Option, Some, None, Result, Ok, Err, refl, sym, ap, subst, ◌∙◌, arith, if◌then◌else◌, DirKept, Answer, Fault, Entry, Began, Call, Reply, Op, Says, Step, Repeat, Shelf, Turn, fails_busy, goes_again, repeats_after, ended, repeated, Deed, Look, Seek, Move, Remove, RemoveFile, Walk, WalkStep, look_up, found_by, look_again, moved_told, Mounted, Machine, machine_of, front_of, last_of, Starts, Resumes, Takes, of_name, of_walk, in_flight}
use Rattle.core_facts.specs.InFlight.{one_if, removal_by}
use Rattle.silly_rename.specs.Plans.{plan_of}
use Rattle.nfs_dir_calls.specs.declared.keeping.DirKept.TheVariants as kept
use Rattle.world_model.specs.declared.answer.Answer.TheVariants as answers
use Rattle.world_model.specs.declared.message.Reply.TheVariants as replies
use Rattle.world_model.specs.declared.op.Op.TheVariants as ops
use Rattle.claims.specs.CallCounts.{IsInScript, MetHidden}
use Rattle.world_model.specs.Heard.{status_of}
use Rattle.claims.specs.Hidden.{IsHidden}
use Rattle.client_shelf.specs.declared.step.Step.TheVariants as nexts
use Rattle.name_ops.specs.declared.walk.WalkStep.TheVariants as walks
use Rattle.name_ops.specs.Changing as changing
use Rattle.name_ops.specs.RemoveFile as removals
use Rattle.name_ops.specs.Walking as walking
use Rattle.op_machines.specs.declared.machine.Machine.TheVariants as machines
use Rattle.op_machines.specs.declared.name_machine.NameMachine.TheVariants as names
use Rattle.core_facts.proofs.NamesAwaited.{RemoveAwaits}
use Rattle.core_answers.proofs.asks.HiddenNames.{silly-hidden}
use Rattle.core_counts.proofs.counts.engine.Laws.{Came, told, unmade, Spends, nothing, one, Took, again, on, CountLaws}
use Rattle.core_counts.proofs.counts.hidden.Script.{contains-at, contains-last, in_script, script-has, script-in}
use Rattle.core_counts.proofs.counts.listed.Laws.{table-again}

-- ---- walks

same-send : (a b : Call) → walks.Send a ≡ walks.Send b → a ≡ b
same-send a b e = cc

-- a LOOKUP of a name of the path
pub record Looks (path : List (List ℕ)) (call : Call) : Type 0 where
  pub d : List ℕ
  pub name : List ℕ
  pub has : Contains path name
  pub is : call ≡ look_up d name

asks-looks : (name : Option (List ℕ)) (room : Bool) (w : Walk) (call : Call) → walking.next_name w ≡ name → walking.asks name room w ≡ walks.Send call → Looks w.path call
asks-looks None room w call named is = absurd (cc)
asks-looks (Some name) true w call named is = record {
  d = w.spot.dir;
  name = name;
  has = contains-at w.path (length w.path - w.spot.left) name named;
  is = sym (same-send (look_up w.spot.dir name) call is);
}
asks-looks (Some name) false w call named is = absurd (cc)

on-looks : (w : Walk) (turn : Turn) (shelf : Shelf) (call : Call) → walking.on_next w turn shelf.attrs shelf.names ≡ walks.Send call → Looks w.path call
on-looks w turn shelf call is =
    asks-looks (walking.next_name (walking.walked w turn.now shelf.attrs shelf.names)) turn.room (walking.walked w turn.now shelf.attrs shelf.names) call refl is

go-looks : (w : Walk) (turn : Turn) (shelf : Shelf) (call : Call) → walking.go_next w turn shelf ≡ walks.Send call → Looks w.path call
go-looks w turn shelf call is = by w.asked is
  where
    by : (b : Bool) → (if b then walks.Wait else walking.on_next w turn shelf.attrs shelf.names) ≡ walks.Send call → Looks w.path call
    by true e = absurd (cc)
    by false e = on-looks w turn shelf call e

told-looks : (w : Walk) (found : Result (List ℕ) Fault) (turn : Turn) (shelf : Shelf) (call : Call) → walking.told_next w found turn shelf ≡ walks.Send call → Looks w.path call
told-looks w (Ok found) turn shelf call is = on-looks (walking.arrived w found) turn shelf call is
told-looks w (Err fault) turn shelf call is = absurd (cc)

asked-path : (name : Option (List ℕ)) (room : Bool) (w : Walk) → (walking.asked_after name room w).path ≡ w.path
asked-path None room w = refl
asked-path (Some name) true w = refl
asked-path (Some name) false w = refl

on-path : (w : Walk) (turn : Turn) (shelf : Shelf) → (walking.on_after w turn shelf.attrs shelf.names).path ≡ w.path
on-path w turn shelf = asked-path (walking.next_name (walking.walked w turn.now shelf.attrs shelf.names)) turn.room (walking.walked w turn.now shelf.attrs shelf.names)

go-path : (w : Walk) (turn : Turn) (shelf : Shelf) → (walking.go_after w turn shelf).path ≡ w.path
go-path w turn shelf = by w.asked
  where
    by : (b : Bool) → (if b then w else walking.on_after w turn shelf.attrs shelf.names).path ≡ w.path
    by true = refl
    by false = on-path w turn shelf

told-path : (w : Walk) (found : Result (List ℕ) Fault) (turn : Turn) (shelf : Shelf) → (walking.told_walk w found turn shelf).path ≡ w.path
told-path w (Ok found) turn shelf = on-path (walking.arrived w found) turn shelf
told-path w (Err fault) turn shelf = refl

-- ---- what a reply tells

found-zero : (came : Result Reply Fault) (file : List ℕ) → found_by came ≡ Ok file → (reply : Reply) × (came ≡ Ok reply) × (status_of reply ≡ 0)
found-zero (Ok (replies.Dir reply)) file is = by reply is
  where
    by : (r : DirKept) → found_by (Ok (replies.Dir r)) ≡ Ok file → (reply : Reply) × (◌≡◌ {A = Result Reply Fault} (Ok (replies.Dir r)) (Ok reply)) × (status_of reply ≡ 0)
    by (kept.Lookup object attr dir) e = (replies.Dir (kept.Lookup object attr dir), refl, refl)
    by (kept.LookupFail status dir) e = absurd (cc)
    by r e = absurd (cc)
found-zero (Ok (replies.File reply)) file is = absurd (cc)
found-zero (Ok (replies.Mount reply)) file is = absurd (cc)
found-zero (Err fault) file is = absurd (cc)

err-ok : {A : Type 0} → (R : Type 0) (fault : Fault) (a : A) → ◌≡◌ {A = Result A Fault} (Err fault) (Ok a) → R
err-ok R fault a e = absurd (cc)

-- ---- the measure

module _ (m : Mounted) (script : List Entry) where
  -- a LOOKUP of a name that no path of the script has
  pub record IsOther (call : Call) : Type 0 where
    pub d : List ℕ
    pub name : List ℕ
    pub is : call ≡ look_up d name
    pub own : IsInScript script name → ⊥

  pub record IsRemove (op : Op) : Type 0 where
    pub path : List (List ℕ)
    pub is : op ≡ ops.Remove path
    pub named : 1 ≤ length path
    pub of_script : (name : List ℕ) → Contains path name → IsInScript script name

  abbrev pub once : Op → ℕ
  once op = 1

  same-name : (a b c d : List ℕ) → look_up a b ≡ look_up c d → b ≡ d
  same-name a b c d e = cc

  not-own : (op : Op) (r : IsRemove op) (call : Call) → Looks r.path call → IsOther call → ⊥
  not-own op r call l o = o.own (subst (IsInScript script) (same-name l.d l.name o.d o.name (sym l.is ∙ o.is)) (r.of_script l.name l.has))

  decide : (d name : List ℕ) → IsOther (look_up d name) ⊎ (IsOther (look_up d name) → ⊥)
  decide d name = by (in_script name script) refl
    where
      by : (b : Bool) → in_script name script ≡ b → IsOther (look_up d name) ⊎ (IsOther (look_up d name) → ⊥)
      by true e = inr (λ o. o.own (subst (IsInScript script) (same-name d name o.d o.name o.is) (script-has name script e)))
      by false e = inl (record { d = d; name = name; is = refl; own = λ k. absurd (let no_way : false ≡ true = sym e ∙ script-in name script k in cc) })

  -- how many it may still ask for: a LOOKUP of a hidden name that waits was counted, if it counts
  abbrev Seeking : Bool → List ℕ → List ℕ → ℕ → Type 0
  Seeking true d to n = (IsOther (look_up d to) → ⊥) → 1 ≤ n
  Seeking false d to n = 1 ≤ n

  abbrev pub Stage : Option Deed → Bool → List ℕ → ℕ → Type 0
  Stage None asked d n = 1 ≤ n
  Stage (Some Look) asked d n = 1 ≤ n
  Stage (Some (Seek file to)) asked d n = IsHidden to × Seeking asked d to n
  Stage (Some (Move file to)) asked d n = Unit {0}
  Stage (Some Remove) asked d n = Unit {0}

  pub record RemoveLeft (h : List Entry) (x : ℕ) (op : Op) (machine : Machine) (n : ℕ) : Type 0 where
    pub k : RemoveFile
    pub is : machine ≡ machines.Name (names.Remove k)
    pub path : List (List ℕ)
    pub op_is : op ≡ ops.Remove path
    pub path_is : k.walk.path ≡ front_of path
    pub name_is : k.name ≡ last_of path
    pub stage : Stage k.deed k.asked k.walk.spot.dir n

  same-path : (a b : List (List ℕ)) → ops.Remove a ≡ ops.Remove b → a ≡ b
  same-path a b e = cc

  sent-call : (a b : Call) → nexts.Send a ≡ nexts.Send b → a ≡ b
  sent-call a b e = cc

  wait-send : (c : Call) → nexts.Wait ≡ nexts.Send c → ⊥
  wait-send c e = cc

  done-send : (answer : Answer) (c : Call) → nexts.Done answer ≡ nexts.Send c → ⊥
  done-send answer c e = cc

  module _ (h : List Entry) (x : ℕ) (op : Op) (fits : IsRemove op) where
    abbrev Spent : ℕ → Step → RemoveFile → Type 0
    Spent had next k = Spends IsOther RemoveLeft h x op had next (machines.Name (names.Remove k))

    -- it is one of this operation
    record Mine (k : RemoveFile) : Type 0 where
      path_is : k.walk.path ≡ front_of fits.path
      name_is : k.name ≡ last_of fits.path

    left-of : (k : RemoveFile) (n : ℕ) → Mine k → Stage k.deed k.asked k.walk.spot.dir n → RemoveLeft h x op (machines.Name (names.Remove k)) n
    left-of k n mine stage = record { k = k; is = refl; path = fits.path; op_is = fits.is; path_is = mine.path_is; name_is = mine.name_is; stage = stage }

    -- LOOKUPs of its walk, and of its name
    walk-own : (k : RemoveFile) → Mine k → (call : Call) → Looks k.walk.path call → IsOther call → ⊥
    walk-own k mine call l =
        let at : Looks (front_of fits.path) call = subst (λ (p : List (List ℕ)). Looks p call) mine.path_is l in
        not-own op fits call (record { d = at.d; name = at.name; has = front-has fits.path at.name at.has; is = at.is })
      where
        front-has : (path : List (List ℕ)) (name : List ℕ) → Contains (take (length path - 1) path) name → Contains path name
        front-has path name c = in-take (length path - 1) path name c
          where
            in-take : (n : ℕ) (p : List (List ℕ)) (its : List ℕ) → Contains (take n p) its → Contains p its
            in-take zero p its c = absurd (let low = c.1 in omega (arith, low))
            in-take (suc n) [] its c = absurd (let low = c.1 in omega (arith, low))
            in-take (suc n) (y ∷ ys) its (zero, low, same) = (zero, omega arith, same)
            in-take (suc n) (y ∷ ys) its (suc j, low, same) = let rest = in-take n ys its (j, omega (arith, low), same) in (suc rest.0, let less = rest.1 in omega (arith, less), rest.2)

    name-own : (k : RemoveFile) → Mine k → IsOther (look_up k.walk.spot.dir k.name) → ⊥
    name-own k mine =
        not-own op fits (look_up k.walk.spot.dir k.name) (record {
          d = k.walk.spot.dir;
          name = k.name;
          has = subst (Contains fits.path) (sym mine.name_is) (contains-last fits.path fits.named);
          is = refl;
        })

    no-other : (call other : Call) → IsOther call → call ≡ other → ((d name : List ℕ) → other ≡ look_up d name → ⊥) → ⊥
    no-other call other o is none = none o.d o.name (sym is ∙ o.is)

    -- it is about to ask for a deed
    abbrev MayAsk : Deed → ℕ → Type 0
    MayAsk Look n = 1 ≤ n
    MayAsk (Seek file to) n = IsHidden to × (1 ≤ n)
    MayAsk (Move file to) n = Unit {0}
    MayAsk Remove n = Unit {0}

    waits-for : (deed : Deed) (k : RemoveFile) (n : ℕ) → Mine k → MayAsk deed n → Spent n nexts.Wait (removals.asked_after k deed false)
    waits-for deed k n mine may = record { left = n; keeps = left-of (removals.asked_after k deed false) n (record { path_is = mine.path_is; name_is = mine.name_is }) (stage deed may); less = omega arith; asks = λ c same p. absurd (wait-send c same) }
      where
        stage : (o : Deed) → MayAsk o n → Stage (Some o) false k.walk.spot.dir n
        stage Look may = may
        stage (Seek file to) may = may
        stage (Move file to) may = tt
        stage Remove may = tt

    asks-for : (deed : Deed) (k : RemoveFile) (n : ℕ) → Mine k → MayAsk deed n → Spent n (nexts.Send (removals.call_of k deed)) (removals.asked_after k deed true)
    asks-for Look k n mine may = record {
      left = n;
      keeps = left-of (removals.asked_after k Look true) n (record { path_is = mine.path_is; name_is = mine.name_is }) may;
      less = omega arith;
      asks = λ c same p. absurd (name-own k mine (subst IsOther (sym (sent-call (look_up k.walk.spot.dir k.name) c same)) p));
    }
    asks-for (Seek file to) k n mine may = elim (decide k.walk.spot.dir to) [
      | inl yes_it ↦ record {
        left = 0;
        keeps = left-of (removals.asked_after k (Seek file to) true) 0 (record { path_is = mine.path_is; name_is = mine.name_is }) (may.0, λ none. absurd (none yes_it));
        less = omega arith;
        asks = λ c same p. let some = may.1 in omega (arith, some);
      }
      | inr none ↦ record {
        left = n;
        keeps = left-of (removals.asked_after k (Seek file to) true) n (record { path_is = mine.path_is; name_is = mine.name_is }) (may.0, λ other. may.1);
        less = omega arith;
        asks = λ c same p. absurd (none (subst IsOther (sym (sent-call (look_up k.walk.spot.dir to) c same)) p));
      }
    ]
    asks-for (Move file to) k n mine may = record {
      left = n;
      keeps = left-of (removals.asked_after k (Move file to) true) n (record { path_is = mine.path_is; name_is = mine.name_is }) tt;
      less = omega arith;
      asks = λ c same p. absurd (no-other c (removals.call_of k (Move file to)) p (sym (sent-call (removals.call_of k (Move file to)) c same)) (λ d name e. cc));
    }
    asks-for Remove k n mine may = record {
      left = n;
      keeps = left-of (removals.asked_after k Remove true) n (record { path_is = mine.path_is; name_is = mine.name_is }) tt;
      less = omega arith;
      asks = λ c same p. absurd (no-other c (removals.call_of k Remove) p (sym (sent-call (removals.call_of k Remove) c same)) (λ d name e. cc));
    }

    asked-by : (room : Bool) (deed : Deed) (k : RemoveFile) (n : ℕ) → Mine k → MayAsk deed n → Spent n (removals.asked_next k deed room) (removals.asked_after k deed room)
    asked-by true deed k n mine may = asks-for deed k n mine may
    asked-by false deed k n mine may = waits-for deed k n mine may

    spent-as : (had : ℕ) (to next : Step) (make new : RemoveFile) → next ≡ to → new ≡ make → Spent had to make → Spent had next new
    spent-as had to next make new is_next is_new s = subst (λ (n : Step). Spent had n new) (sym is_next) (subst (Spent had to) (sym is_new) s)

    ends : (n : ℕ) (answer : Answer) (next : Step) (new : RemoveFile) → next ≡ nexts.Done answer → Spent n next new
    ends n answer next new is = subst (λ (o : Step). Spent n o new) (sym is) (record { left = n; keeps = tt; less = omega arith; asks = λ c same p. absurd (done-send answer c same) })

    -- it does as its walk does
    follows-left : (step : WalkStep) (room : Bool) (k : RemoveFile) (opens : _) (next : Step) (new : RemoveFile) (n : ℕ) → removals.Follows step room k opens next new → k.deed ≡ None → Mine k → 1 ≤ n
        → ((call : Call) → step ≡ walks.Send call → Looks k.walk.path call) → Spent n next new
    follows-left (walks.Send call) room k opens next new n f none mine some looks =
        spent-as n (nexts.Send call) next k new f.0 f.1 (record {
          left = n;
          keeps = left-of k n mine (subst (λ (o : Option Deed). Stage o k.asked k.walk.spot.dir n) (sym none) some);
          less = omega arith;
          asks = λ c same p. absurd (walk-own k mine call (looks call refl) (subst IsOther (sym (sent-call call c same)) p));
        })
    follows-left walks.Wait room k opens next new n f none mine some looks =
        spent-as n nexts.Wait next k new f.0 f.1 (record {
          left = n;
          keeps = left-of k n mine (subst (λ (o : Option Deed). Stage o k.asked k.walk.spot.dir n) (sym none) some);
          less = omega arith;
          asks = λ c same p. absurd (wait-send c same);
        })
    follows-left (walks.At dir) room k opens next new n f none mine some looks =
        spent-as n (removals.asked_next k (removals.first_deed f.any) room) next (removals.asked_after k (removals.first_deed f.any) room) new f.next_is f.machine_is
        (asked-by room (removals.first_deed f.any) k n mine (may f.any))
      where
        may : (b : Bool) → MayAsk (removals.first_deed b) n
        may true = some
        may false = tt
    follows-left (walks.Refused fault) room k opens next new n f none mine some looks = ends n (answers.Refused fault) next new f.0

    goes : (k : RemoveFile) (turn : Turn) (old : Shelf) (next : Step) (new : RemoveFile) (after : Shelf) (n : ℕ) → Mine k → Stage k.deed k.asked k.walk.spot.dir n
        → removals.Resumes k.asked k turn old next new after → Spent n next new
    goes k turn old next new after n mine stage r = by k.asked refl r stage
      where
        waits : removals.Waits k old next new after → Stage k.deed k.asked k.walk.spot.dir n → Spent n next new
        waits w s = spent-as n nexts.Wait next k new w.next_is w.machine_is (record { left = n; keeps = left-of k n mine s; less = omega arith; asks = λ c same p. absurd (wait-send c same) })

        may : (deed : Deed) → Stage (Some deed) false k.walk.spot.dir n → MayAsk deed n
        may Look s = s
        may (Seek file to) s = s
        may (Move file to) s = tt
        may Remove s = tt

        idle : (deed : Option Deed) → k.deed ≡ deed → Stage deed false k.walk.spot.dir n → removals.Goes deed k turn old next new after → Spent n next new
        idle (Some deed) is s g =
            spent-as n (removals.asked_next k deed turn.room) next (removals.asked_after k deed turn.room) new g.next_is g.machine_is (asked-by turn.room deed k n mine (may deed s))
        idle None is s g =
            follows-left (walking.go_next k.walk turn old) turn.room (record k { walk = walking.go_after k.walk turn old }) old.opens next new n g.follows is
            (record { path_is = go-path k.walk turn old ∙ mine.path_is; name_is = mine.name_is }) s
            (λ call same. subst (λ (p : List (List ℕ)). Looks p call) (sym (go-path k.walk turn old)) (go-looks k.walk turn old call same))

        by : (b : Bool) → k.asked ≡ b → removals.Resumes b k turn old next new after → Stage k.deed b k.walk.spot.dir n → Spent n next new
        by true is w s = waits w (subst (λ (b : Bool). Stage k.deed b k.walk.spot.dir n) (sym is) s)
        by false is g s = idle k.deed refl s g

    -- ---- a step at what came

    abbrev Taken : ℕ → Turn → Turn → Result Reply Fault → List Repeat → Step → RemoveFile → List Repeat → Type 0
    Taken had sent turn came old next k later = Took IsOther (MetHidden script) RemoveLeft h x op had sent turn came old next (machines.Name (names.Remove k)) later

    same-repeats : (a b : Shelf) → a ≡ b → a.repeats ≡ b.repeats
    same-repeats a b is = ap (λ (s : Shelf). s.repeats) is

    plus-none : (n : ℕ) → n ≡ n + 0
    plus-none n = omega arith

    -- without a reply that gives one more
    on-plain : (n : ℕ) (sent turn : Turn) (came : Result Reply Fault) (old : List Repeat) (next : Step) (k : RemoveFile) (later : List Repeat) → later ≡ ended sent.xid old → Spent n next k
        → Taken n sent turn came old next k later
    on-plain n sent turn came old next k later table s = on table 0 (nothing refl) (subst (λ (c : ℕ). Spent c next k) (plus-none n) s)

    again-plain : (n : ℕ) (sent turn : Turn) (came : Result Reply Fault) (old : List Repeat) (next : Step) (k new : RemoveFile) (later : List Repeat) → later ≡ repeated sent.xid turn.xid old → new ≡ k → Mine k
        → Stage k.deed k.asked k.walk.spot.dir n → Taken n sent turn came old next new later
    again-plain n sent turn came old next k new later table is mine stage =
        again table n (omega arith) (subst (λ (o : RemoveFile). RemoveLeft h x op (machines.Name (names.Remove o)) n) (sym is) (left-of k n mine stage))

    followed-repeats : (b : Bool) (w : Walk) (found : Result (List ℕ) Fault) (turn : Turn) (s : Shelf) → (walking.followed_shelf b w found turn s).repeats ≡ s.repeats
    followed-repeats true w found turn s = refl
    followed-repeats false w (Ok place) turn s = refl
    followed-repeats false w (Err fault) turn s = refl

    look-repeats : (b : Bool) (told_it : Result (List ℕ) Fault) (k : RemoveFile) (room : Bool) (old : Shelf) (next : Step) (new : RemoveFile) (after : Shelf)
        → removals.FollowsLook b told_it k room old next new after → after.repeats ≡ old.repeats
    look-repeats true told_it k room old next new after f = same-repeats after old f.shelf_is
    look-repeats false (Ok file) k room old next new after f = ap (λ (s : Shelf). s.repeats) f.plans.shelf_is
    look-repeats false (Err fault) k room old next new after f = same-repeats after old f.shelf_is

    seek-repeats : (b : Bool) (told_it : Result (List ℕ) Fault) (file to : List ℕ) (k : RemoveFile) (room : Bool) (old : Shelf) (next : Step) (new : RemoveFile) (after : Shelf)
        → removals.FollowsSeek b told_it file to k room old next new after → after.repeats ≡ old.repeats
    seek-repeats true told_it file to k room old next new after f = same-repeats after old f.shelf_is
    seek-repeats false (Ok found) file to k room old next new after f = ap (λ (s : Shelf). s.repeats) f.shelf_is
    seek-repeats false (Err fault) file to k room old next new after f = same-repeats after old f.shelf_is

    -- the next name is planned
    plans-left : (is_open : Bool) (file : List ℕ) (k : RemoveFile) (room : Bool) (old : Shelf) (next : Step) (new : RemoveFile) (after : Shelf) (n : ℕ) → Mine k → 1 ≤ n
        → removals.Plans is_open file k room old next new after → Spent n next new
    plans-left is_open file k room old next new after n mine some p =
        spent-as n (removals.asked_next k (removals.deed_of file (plan_of is_open old.counter)) room) next (removals.asked_after k (removals.deed_of file (plan_of is_open old.counter)) room) new p.next_is p.machine_is
        (asked-by room (removals.deed_of file (plan_of is_open old.counter)) k n mine (may is_open))
      where
        may : (b : Bool) → MayAsk (removals.deed_of file (plan_of b old.counter)) n
        may false = tt
        may true = (silly-hidden old.counter, some)

    -- its walk
    walk-takes : (k : RemoveFile) (n : ℕ) (name : Option (List ℕ)) (sent turn : Turn) (came : Result Reply Fault) (old : Shelf) (step : WalkStep) (walked : RemoveFile) (next : Step) (new : RemoveFile) (after : Shelf)
        → k.deed ≡ None → Mine k → 1 ≤ n → 1 ≤ of_name name → walking.Takes name k.walk sent turn came old step walked.walk after → walked ≡ record k { walk = walked.walk }
        → removals.Follows step turn.room walked after.opens next new → Taken n sent turn came old.repeats next new after.repeats
    walk-takes k n None sent turn came old step walked next new after none mine some waits t walked_is f = absurd (omega (arith, waits))
    walk-takes k n (Some name) sent turn came old step walked next new after none mine some waits t walked_is f = by (look_again sent turn came old) refl
      where
        table : after.repeats ≡ repeats_after (fails_busy (found_by came)) sent turn old.repeats
        table =
            same-repeats after (walking.followed_shelf (look_again sent turn came old) k.walk (found_by came) turn t.heard) t.shelf_is
            ∙ followed-repeats (look_again sent turn came old) k.walk (found_by came) turn t.heard ∙ ap (λ (q : Shelf). q.repeats) t.hears.others

        deed_none : walked.deed ≡ None
        deed_none = ap (λ (o : RemoveFile). o.deed) walked_is ∙ none

        name_is : walked.name ≡ k.name
        name_is = ap (λ (o : RemoveFile). o.name) walked_is

        path_by : (b : Bool) → (walking.followed_walk b k.walk (found_by came) turn t.heard).path ≡ k.walk.path
        path_by true = refl
        path_by false = told-path k.walk (found_by came) turn t.heard

        path_is : walked.walk.path ≡ k.walk.path
        path_is = ap (λ (w : Walk). w.path) t.walk_is ∙ path_by (look_again sent turn came old)

        its : Mine walked
        its = record { path_is = path_is ∙ mine.path_is; name_is = name_is ∙ mine.name_is }

        by : (b : Bool) → look_again sent turn came old ≡ b → Taken n sent turn came old.repeats next new after.repeats
        by true busy =
            let step_is : step ≡ walks.Send (look_up k.walk.spot.dir name) = t.next_is ∙ ap (λ (c : Bool). walking.followed_next c k.walk name (found_by came) turn t.heard) busy in
            let g = subst (λ (w : WalkStep). removals.Follows w turn.room walked after.opens next new) step_is f in
            again-plain n sent turn came old.repeats next walked new after.repeats (table-again true (fails_busy (found_by came)) sent turn old.repeats after.repeats busy table) g.1 its
            (subst (λ (o : Option Deed). Stage o walked.asked walked.walk.spot.dir n) (sym deed_none) some)
        by false calm =
            let step_is : step ≡ walking.told_next k.walk (found_by came) turn t.heard = t.next_is ∙ ap (λ (c : Bool). walking.followed_next c k.walk name (found_by came) turn t.heard) calm in
            on-plain n sent turn came old.repeats next new after.repeats (table-again false (fails_busy (found_by came)) sent turn old.repeats after.repeats calm table)
            (follows-left step turn.room walked after.opens next new n f deed_none its some
            (λ call same. subst (λ (p : List (List ℕ)). Looks p call) (sym path_is) (told-looks k.walk (found_by came) turn t.heard call (sym step_is ∙ same))))

    -- the LOOKUP of its name
    look-takes : (b : Bool) (told_it : Result (List ℕ) Fault) (k : RemoveFile) (n : ℕ) (sent turn : Turn) (came : Result Reply Fault) (heard : Shelf) (old later : List Repeat) (next : Step) (new : RemoveFile)
        (after : Shelf) → k.deed ≡ Some Look → Mine k → 1 ≤ n → (b ≡ true → later ≡ repeated sent.xid turn.xid old) → (b ≡ false → later ≡ ended sent.xid old)
        → removals.FollowsLook b told_it k turn.room heard next new after → Taken n sent turn came old next new later
    look-takes true told_it k n sent turn came heard old later next new after is mine some busy calm f =
        again-plain n sent turn came old next k new later (busy refl) f.machine_is mine (subst (λ (o : Option Deed). Stage o k.asked k.walk.spot.dir n) (sym is) some)
    look-takes false (Ok file) k n sent turn came heard old later next new after is mine some busy calm f =
        on-plain n sent turn came old next new later (calm refl) (plans-left f.is_open file k turn.room heard next new after n mine some f.plans)
    look-takes false (Err fault) k n sent turn came heard old later next new after is mine some busy calm f =
        on-plain n sent turn came old next new later (calm refl) (ends n (answers.Refused fault) next new f.next_is)

    -- the LOOKUP of a hidden name
    seek-takes : (b : Bool) (told_it : Result (List ℕ) Fault) (file to : List ℕ) (k : RemoveFile) (n : ℕ) (sent turn : Turn) (came : Result Reply Fault) (shelf heard : Shelf) (old later : List Repeat) (next : Step)
        (new : RemoveFile) (after : Shelf) → found_by came ≡ told_it → k.deed ≡ Some (Seek file to) → Mine k → Stage (Some (Seek file to)) true k.walk.spot.dir n → k.asked ≡ true
        → Came h x (machines.Name (names.Remove k)) sent came shelf → (b ≡ true → later ≡ repeated sent.xid turn.xid old) → (b ≡ false → later ≡ ended sent.xid old)
        → removals.FollowsSeek b told_it file to k turn.room heard next new after → Taken n sent turn came old next new later
    seek-takes true told_it file to k n sent turn came shelf heard old later next new after told_is is mine s asked c busy calm f =
        again-plain n sent turn came old next k new later (busy refl) f.machine_is mine
        (subst (λ (b : Bool). Stage k.deed b k.walk.spot.dir n) (sym asked) (subst (λ (o : Option Deed). Stage o true k.walk.spot.dir n) (sym is) s))
    seek-takes false (Ok found) file to k n sent turn came shelf heard old later next new after told_is is mine s asked c busy calm f = elim (decide k.walk.spot.dir to) [
      | inl counts ↦ by c counts
      | inr none ↦ on-plain n sent turn came old next new later (calm refl) (plans-left true file k turn.room heard next new after n mine (s.1 none) f)
    ]
      where
        by : Came h x (machines.Name (names.Remove k)) sent came shelf → IsOther (look_up k.walk.spot.dir to) → Taken n sent turn came old next new later
        by (unmade call fault e came_is why) counts = err-ok _ fault found (sym (ap found_by came_is) ∙ told_is)
        by (told call xid rec now e said sent_is piece) counts =
            let z = found-zero came found told_is in
            let call_is : call ≡ look_up k.walk.spot.dir to = subst (λ (o : Option Deed). RemoveAwaits o k call) is e.0.0 in
            on (calm refl) 1 (one refl z.0 z.1 call xid rec now (record {
              reply = z.0;
              looks = record { d = k.walk.spot.dir; name = to; is = call_is; hidden = s.0; own = subst (λ (q : List ℕ). IsInScript script q → ⊥) (same-name counts.d counts.name k.walk.spot.dir to (sym counts.is)) counts.own };
              spells = (subst (Says xid call rec) z.1 said).is;
              went = z.2;
            })) (plans-left true file k turn.room heard next new after (n + 1) mine (omega arith) f)
    seek-takes false (Err fault) file to k n sent turn came shelf heard old later next new after told_is is mine s asked c busy calm f =
        on-plain n sent turn came old next new later (calm refl) (by (removals.is_missing fault) refl)
      where
        by : (b : Bool) → removals.is_missing fault ≡ b → Spent n next new
        by true missing =
            spent-as n (removals.asked_next k (Move file to) turn.room) next (removals.asked_after k (Move file to) turn.room) new
            (f.next_is ∙ ap (λ (b : Bool). removals.missed_next b fault file to k turn.room) missing) (f.machine_is ∙ ap (λ (b : Bool). removals.missed_after b file to k turn.room) missing)
            (asked-by turn.room (Move file to) k n mine tt)
        by false other = ends n (answers.Refused fault) next new (f.next_is ∙ ap (λ (b : Bool). removals.missed_next b fault file to k turn.room) other)

    -- the RENAME
    move-takes : (b : Bool) (refusal : Option Fault) (file to : List ℕ) (k : RemoveFile) (n : ℕ) (sent turn : Turn) (came : Result Reply Fault) (old later : List Repeat) (was : removals.Places) (next : Step)
        (new : RemoveFile) (now : removals.Places) → k.deed ≡ Some (Move file to) → Mine k → new ≡ k → (b ≡ true → later ≡ repeated sent.xid turn.xid old) → (b ≡ false → later ≡ ended sent.xid old)
        → removals.EndsMove b refusal file to k was next now → Taken n sent turn came old next new later
    move-takes true refusal file to k n sent turn came old later was next new now is mine same busy calm f =
        again-plain n sent turn came old next k new later (busy refl) same mine (subst (λ (o : Option Deed). Stage o k.asked k.walk.spot.dir n) (sym is) tt)
    move-takes false None file to k n sent turn came old later was next new now is mine same busy calm (inl f) =
        on-plain n sent turn came old next new later (calm refl) (ends n _ next new f.0)
    move-takes false None file to k n sent turn came old later was next new now is mine same busy calm (inr f) =
        on-plain n sent turn came old next new later (calm refl) (ends n _ next new f.0)
    move-takes false (Some fault) file to k n sent turn came old later was next new now is mine same busy calm f =
        on-plain n sent turn came old next new later (calm refl) (ends n (answers.Refused fault) next new f.0)

    deed-takes : (deed : Deed) (k : RemoveFile) (n : ℕ) (sent turn : Turn) (came : Result Reply Fault) (old : Shelf) (next : Step) (new : RemoveFile) (after : Shelf) → k.deed ≡ Some deed → k.asked ≡ true → Mine k
        → Stage (Some deed) true k.walk.spot.dir n → Came h x (machines.Name (names.Remove k)) sent came old → removals.TakesDeed deed k sent turn came old next new after
        → Taken n sent turn came old.repeats next new after.repeats
    deed-takes Look k n sent turn came old next new after is asked mine s c t =
        look-takes (look_again sent turn came old) (found_by came) k n sent turn came t.heard old.repeats after.repeats next new after is mine s
        (λ busy. table-again true (fails_busy (found_by came)) sent turn old.repeats after.repeats busy table) (λ calm. table-again false (fails_busy (found_by came)) sent turn old.repeats after.repeats calm table)
        t.follows
      where
        table : after.repeats ≡ repeats_after (fails_busy (found_by came)) sent turn old.repeats
        table = look-repeats (look_again sent turn came old) (found_by came) k turn.room t.heard next new after t.follows ∙ ap (λ (q : Shelf). q.repeats) t.hears.others
    deed-takes (Seek file to) k n sent turn came old next new after is asked mine s c t =
        seek-takes (look_again sent turn came old) (found_by came) file to k n sent turn came old t.heard old.repeats after.repeats next new after refl is mine s asked c
        (λ busy. table-again true (fails_busy (found_by came)) sent turn old.repeats after.repeats busy table) (λ calm. table-again false (fails_busy (found_by came)) sent turn old.repeats after.repeats calm table)
        t.follows
      where
        table : after.repeats ≡ repeats_after (fails_busy (found_by came)) sent turn old.repeats
        table = seek-repeats (look_again sent turn came old) (found_by came) file to k turn.room t.heard next new after t.follows ∙ ap (λ (q : Shelf). q.repeats) t.hears.others
    deed-takes (Move file to) k n sent turn came old next new after is asked mine s c t =
        move-takes (removals.move_again sent turn came old) (moved_told came).refusal file to k n sent turn came old.repeats after.repeats old.silly next new after.silly is mine t.0
        (λ busy. table-again true (changing.told_busy (moved_told came).refusal) sent turn old.repeats after.repeats busy table)
        (λ calm. table-again false (changing.told_busy (moved_told came).refusal) sent turn old.repeats after.repeats calm table) t.1.ends
      where
        table : after.repeats ≡ repeats_after (changing.told_busy (moved_told came).refusal) sent turn old.repeats
        table = ap (λ (q : Shelf). q.repeats) t.1.others
    deed-takes Remove k n sent turn came old next new after is asked mine s c t = by (goes_again (changing.told_busy (removals.removed_told came).refusal) sent turn old.repeats) refl
      where
        table : after.repeats ≡ repeats_after (changing.told_busy (removals.removed_told came).refusal) sent turn old.repeats
        table = ap (λ (q : Shelf). q.repeats) t.1.others

        by : (b : Bool) → goes_again (changing.told_busy (removals.removed_told came).refusal) sent turn old.repeats ≡ b → Taken n sent turn came old.repeats next new after.repeats
        by true busy =
            again-plain n sent turn came old.repeats next k new after.repeats
            (table-again true (changing.told_busy (removals.removed_told came).refusal) sent turn old.repeats after.repeats busy table) t.0 mine
            (subst (λ (o : Option Deed). Stage o k.asked k.walk.spot.dir n) (sym is) tt)
        by false calm =
            on-plain n sent turn came old.repeats next new after.repeats (table-again false (changing.told_busy (removals.removed_told came).refusal) sent turn old.repeats after.repeats calm table)
            (ends n _ next new (t.1.next_is ∙ ap (λ (b : Bool). changing.change_next b (removals.call_of k Remove) (removals.removed_told came)) calm))

    takes-remove : (k : RemoveFile) (n : ℕ) (sent turn : Turn) (came : Result Reply Fault) (old : Shelf) (next : Step) (new : RemoveFile) (after : Shelf) (others : ℕ) → Mine k
        → Stage k.deed k.asked k.walk.spot.dir n → removal_by k.deed k.asked (of_walk k.walk) ≡ others + 1 → Came h x (machines.Name (names.Remove k)) sent came old
        → removals.Takes k.deed k sent turn came old next new after → Taken n sent turn came old.repeats next new after.repeats
    takes-remove k n sent turn came old next new after others mine stage flight c t = by k.deed refl stage flight t
      where
        asked : (b : Bool) (deed : Deed) → k.deed ≡ Some deed → k.asked ≡ b → Stage (Some deed) b k.walk.spot.dir n → one_if b ≡ others + 1 → removals.TakesIf b deed k sent turn came old next new after
            → Taken n sent turn came old.repeats next new after.repeats
        asked true deed is asked_is s some f = deed-takes deed k n sent turn came old next new after is asked_is mine s c f
        asked false deed is asked_is s some f = absurd (omega (arith, some))

        by : (o : Option Deed) → k.deed ≡ o → Stage o k.asked k.walk.spot.dir n → removal_by o k.asked (of_walk k.walk) ≡ others + 1 → removals.Takes o k sent turn came old next new after
            → Taken n sent turn came old.repeats next new after.repeats
        by (Some deed) is s some f = asked k.asked deed is refl s some f
        by None is s some f =
            walk-takes k n (walking.waiting_name k.walk) sent turn came old f.step f.walked next new after is mine s (let low = some in omega (arith, low)) f.takes f.walked_is f.follows

  -- ---- the laws

  pub remove-laws : CountLaws (machine_of m) IsOther (MetHidden script) IsRemove once RemoveLeft
  remove-laws = record {
    starts = λ h lane line op wsize turn old next new after fits s. starts h lane line op wsize turn old next new after fits s;
    resumes = λ h x op machine wsize turn old next new after had fits l r. resumes h x op machine wsize turn old next new after had fits l r;
    takes = λ h x op machine wsize sent turn came old next new after others had fits l flight c t. takes h x op machine wsize sent turn came old next new after others had fits l flight c t;
    grows = λ h e x op machine left l. record { k = l.k; is = l.is; path = l.path; op_is = l.op_is; path_is = l.path_is; name_is = l.name_is; stage = l.stage };
  }
    where
      its : (h : List Entry) (x : ℕ) (op : Op) (fits : IsRemove op) (machine : Machine) (n : ℕ) (l : RemoveLeft h x op machine n) → Mine h x op fits l.k
      its h x op fits machine n l =
          let same = same-path l.path fits.path (sym l.op_is ∙ fits.is) in
          record { path_is = l.path_is ∙ ap front_of same; name_is = l.name_is ∙ ap last_of same }

      spent-to : (h : List Entry) (x : ℕ) (op : Op) (had : ℕ) (next : Step) (k : RemoveFile) (new : Machine) → new ≡ machines.Name (names.Remove k)
          → Spends IsOther RemoveLeft h x op had next (machines.Name (names.Remove k)) → Spends IsOther RemoveLeft h x op had next new
      spent-to h x op had next k new is s = subst (λ (q : Machine). Spends IsOther RemoveLeft h x op had next q) (sym is) s

      starts : (h : List Entry) (lane line : ℕ) (op : Op) (wsize : ℕ) (turn : Turn) (old : Shelf) (next : Step) (new : Machine) (after : Shelf) → IsRemove op
          → Starts wsize (machine_of m lane op) turn old next new after → Spends IsOther RemoveLeft (h ++ Began lane line op ∷ []) (length h) op 1 next new
      starts h lane line op wsize turn old next new after fits s =
          let g = subst (λ (o : Op). Starts wsize (machine_of m lane o) turn old next new after) fits.is s in
          spent-to (h ++ Began lane line op ∷ []) (length h) op 1 next g.step.machine new (g.machine_is ∙ ap machines.Name g.step.machine_is)
          (goes (h ++ Began lane line op ∷ []) (length h) op fits (first fits.path) turn old next g.step.machine after 1 (record { path_is = refl; name_is = refl }) (omega arith) g.step.step)
        where
          first : List (List ℕ) → RemoveFile
          first path = record { walk = record { path = front_of path; spot = record { dir = m.root; left = length (front_of path) }; asked = false }; name = last_of path; deed = None; asked = false }

      resumes : (h : List Entry) (x : ℕ) (op : Op) (machine : Machine) (wsize : ℕ) (turn : Turn) (old : Shelf) (next : Step) (new : Machine) (after : Shelf) (had : ℕ) → IsRemove op
          → RemoveLeft h x op machine had → Resumes wsize machine turn old next new after → Spends IsOther RemoveLeft h x op had next new
      resumes h x op machine wsize turn old next new after had fits l r =
          let g = subst (λ (n : Machine). Resumes wsize n turn old next new after) l.is r in
          spent-to h x op had next g.step.machine new (g.machine_is ∙ ap machines.Name g.step.machine_is)
          (goes h x op fits l.k turn old next g.step.machine after had (its h x op fits machine had l) l.stage g.step.step)

      takes : (h : List Entry) (x : ℕ) (op : Op) (machine : Machine) (wsize : ℕ) (sent turn : Turn) (came : Result Reply Fault) (old : Shelf) (next : Step) (new : Machine) (after : Shelf) (others had : ℕ)
          → IsRemove op → RemoveLeft h x op machine had → in_flight machine ≡ others + 1 → Came h x machine sent came old → Takes wsize machine sent turn came old next new after
          → Took IsOther (MetHidden script) RemoveLeft h x op had sent turn came old.repeats next new after.repeats
      takes h x op machine wsize sent turn came old next new after others had fits l flight c t =
          let g = subst (λ (n : Machine). Takes wsize n sent turn came old next new after) l.is t in
          subst (λ (n : Machine). Took IsOther (MetHidden script) RemoveLeft h x op had sent turn came old.repeats next n after.repeats) (sym (g.machine_is ∙ ap machines.Name g.step.machine_is))
          (takes-remove h x op fits l.k had sent turn came old next g.step.machine after others (its h x op fits machine had l) l.stage (subst (λ (n : Machine). in_flight n ≡ others + 1) l.is flight)
          (subst (λ (n : Machine). Came h x n sent came old) l.is c) g.step.step)
