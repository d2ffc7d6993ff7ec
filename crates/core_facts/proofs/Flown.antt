-- Along a history the bytes in flight under an xid are of the operation whose call waits under it.
use Rattle.core_facts.proofs.Prelude.{◌≡◌, ◌≢◌, ◌≤◌, ◌<◌, ◌+◌, ◌-◌, ◌⊎◌, inl, inr, ℕ, zero, suc, List, [], ◌∷◌, ◌++◌, length, remove, Bool, true, false, nat_eq, Option, Some, None, option_map, position, slice_get, slice_set, Result, Err, refl, sym, ap, subst, ◌∙◌, arith, eqb-true, eqb-false, eq-eqb, ne_eqb, Waiting, Held, next_xid, waiting_at, without, at_made, others_made, others_taken, gone, Fault, Entry, Began, Reply, Op, Pending, said_of, Step, Send, Wait, Done, Shelf, Turn, Saving, IsUnused, Mounted, Machine, Opener, machine_of, file_of, Starts, Resumes, Takes, Lane, Purpose, State, Busy, Over, Setup, is_busy, with_state, IsRefused, Leads, Stirs, counted, StartsLane, TakesAt, View, turn_at, unmade_turn, in_flight, Counts, where_, calls_for}
use Rattle.rpc_retry.proofs.Lookups.{waits_early}
use Rattle.rpc_message.specs.declared.cred.Cred.{Cred}
use Rattle.rpc_retry.specs.Sound.{AreSound}
use Rattle.file_ops.proofs.Unmade.{Mine, AnyCall, UnusedSave, carries-mine, replies-mine}
use Rattle.file_ops.proofs.Walks.{LeftAs}
use Rattle.op_machines.specs.declared.machine.Machine.TheVariants as machines
use Rattle.op_machines.proofs.Walk.{has-any, has-all}
use Rattle.client_core.specs.Numbers.{IsIdle}
use Rattle.core_facts.specs.Lanes.{AreApart}
use Rattle.core_facts.proofs.AllCounts.{counts-calls, begins-unbegun}
use Rattle.core_facts.proofs.AllWalks.{PathHas, HasAll, all-starts, all-resumes, all-takes}
use Rattle.core_facts.proofs.Cases.{taken_one}
use Rattle.core_facts.proofs.Counting.{one_for, calls-some, calls-without, none-idle}
use Rattle.core_facts.proofs.Flights.{flies_of, Flies, has-flies, flies-has, Stays, resumes-stay, takes-stay}
use Rattle.core_facts.proofs.Keeping.{Known, purpose_at, Keeps, lane-count, taker-is, taker-one}
use Rattle.core_facts.proofs.LaneMarks.{lanes-stay, lanes-begin, lanes-under-way}
use Rattle.core_facts.proofs.Lists.{at-set, at-push}
use Rattle.core_facts.proofs.Looks.{look_in, look-at, look-set, look-push, look-remove}
use Rattle.core_facts.proofs.NameLives.{WhileGoing}
use Rattle.core_facts.proofs.Orders.{seat_with, seat-own, seat-other}
use Rattle.core_facts.proofs.PieceWalks.{IsNone, IsAlone, of-none, of-alone, AtFile, IsForeign, carries-file, replies-file, carries-free, replies-free}
use Rattle.core_facts.proofs.Rows.{taken-rows}

-- ---- whose they are

abbrev pub flies_state : State → Option (List ℕ)
flies_state (Busy machine) = flies_of machine
flies_state (Over answer) = None

abbrev pub sender : (ℕ → Option (List ℕ)) → Option Purpose → Option (List ℕ)
sender looks None = None
sender looks (Some purpose) = looks purpose.lane

abbrev pub look_at : List Lane → ℕ → Option (List ℕ)
look_at lanes n = look_in flies_state n lanes

pub record Flown (v : View) : Type 0 where
  pub flies : (y : ℕ) → Flies y (sender (look_at v.lanes) (purpose_at y v.calls.calls)) v.shelf.back
  pub sents : (y : ℕ) (purpose : Purpose) → purpose_at y v.calls.calls ≡ Some purpose → purpose.sent.xid ≡ y

some-purpose : (p q : Purpose) → Some p ≡ Some q → q ≡ p
some-purpose p q e = cc

-- as one looks at the lanes after a step of one of them
looks-as : (number : ℕ) (base looks : ℕ → Option (List ℕ)) (own : Option (List ℕ)) → looks number ≡ own → ((n : ℕ) → n ≢ number → base n ≡ looks n)
    → (y : ℕ) (o : Option Purpose) (back : Pending) → (((p : Purpose) → o ≡ Some p → p.lane ≢ number) → Flies y (sender base o) back)
    → ((p : Purpose) → o ≡ Some p → p.lane ≡ number → Flies y own back) → Flies y (sender looks o) back
looks-as number base looks own is agrees y None back others mine = others (λ p e. absurd (let no_way : None ≡ Some p = e in cc))
looks-as number base looks own is agrees y (Some p) back others mine = by (nat_eq p.lane number) refl
  where
    by : (b : Bool) → nat_eq p.lane number ≡ b → Flies y (looks p.lane) back
    by true d =
        let same = eqb-true p.lane number d in
        subst (λ (s : Option (List ℕ)). Flies y s back) (sym (ap looks same ∙ is)) (mine p refl same)
    by false d =
        let apart = eqb-false p.lane number d in
        subst (λ (s : Option (List ℕ)). Flies y s back) (agrees p.lane apart)
        (others (λ q e. subst (λ (r : Purpose). r.lane ≢ number) (sym (some-purpose p q e)) apart))

-- ---- what passes through a step

pub record Passes (y : ℕ) (old new : Pending) : Type 0 where
  pub none : (file : List ℕ) → AtFile file (IsNone y) old → AtFile file (IsNone y) new
  pub alone : (file : List ℕ) → AtFile file (IsAlone y) old → AtFile file (IsAlone y) new

passes-flies : (y : ℕ) (s : Option (List ℕ)) (old new : Pending) → Passes y old new → Flies y s old → Flies y s new
passes-flies y None old new p f = λ file. p.none file (f file)
passes-flies y (Some file) old new p f = record { alone = p.alone file f.alone; others = λ other apart. p.none other (f.others other apart) }

any-path : (P : Pending → Type 0) (M : Saving → Pending → Type 0) → ((s : Saving) (back : Pending) → P back → M s back) → (b : Bool) (o : Opener) (back : Pending) → P back
    → PathHas P M b o back
any-path P M any true o back p = has-any P M any (file_of o) back p
any-path P M any false o back p = p

any-all : (P : Pending → Type 0) (M : Saving → Pending → Type 0) → ((s : Saving) (back : Pending) → P back → M s back) → (m : Machine) (back : Pending) → P back
    → HasAll P M m back
any-all P M any (machines.File m) back p = has-any P M any m back p
any-all P M any (machines.Path m) back p = any-path P M any m.arrived m.opener back p
any-all P M any (machines.Name m) back p = p

path-any : (P : Pending → Type 0) (M : Saving → Pending → Type 0) → ((s : Saving) (back : Pending) → M s back → P back) → (b : Bool) (o : Opener) (back : Pending)
    → PathHas P M b o back → P back
path-any P M all true o back h = has-all P M all (file_of o) back h
path-any P M all false o back h = h

all-any : (P : Pending → Type 0) (M : Saving → Pending → Type 0) → ((s : Saving) (back : Pending) → M s back → P back) → (m : Machine) (back : Pending)
    → HasAll P M m back → P back
all-any P M all (machines.File m) back h = has-all P M all m back h
all-any P M all (machines.Path m) back h = path-any P M all m.arrived m.opener back h
all-any P M all (machines.Name m) back h = h

left-any : (P : Pending → Type 0) (next : Step) (m : Machine) (back : Pending) → LeftAs P (HasAll P (λ s b. P b)) AnyCall next m back → P back
left-any P (Send call) m back l = all-any P (λ s b. P b) (λ s b p. p) m back l.0
left-any P Wait m back l = l
left-any P (Done answer) m back l = l

any-call : (call : _) → AnyCall call
any-call call = tt

module _ (wsize : ℕ) (turn : Turn) (y : ℕ) (foreign : IsForeign y turn.xid turn.room) where
  starts-pass : (m : Machine) (old : Shelf) (next : Step) (new : Machine) (after : Shelf) → Starts wsize m turn old next new after → Passes y old.back after.back
  starts-pass m old next new after r = record {
    none = λ file n. left-any (AtFile file (IsNone y)) next new after.back
        (all-starts wsize turn (AtFile file (IsNone y)) (λ s b. AtFile file (IsNone y) b) AnyCall any-call
        (carries-file y (IsNone y) (of-none y) file wsize turn foreign) m old next new after n r);
    alone = λ file n. left-any (AtFile file (IsAlone y)) next new after.back
        (all-starts wsize turn (AtFile file (IsAlone y)) (λ s b. AtFile file (IsAlone y) b) AnyCall any-call
        (carries-file y (IsAlone y) (of-alone y) file wsize turn foreign) m old next new after n r);
  }

  resumes-pass : (m : Machine) (old : Shelf) (next : Step) (new : Machine) (after : Shelf) → Resumes wsize m turn old next new after → Passes y old.back after.back
  resumes-pass m old next new after r = record {
    none = λ file n. left-any (AtFile file (IsNone y)) next new after.back
        (all-resumes wsize turn (AtFile file (IsNone y)) (λ s b. AtFile file (IsNone y) b) AnyCall any-call
        (carries-file y (IsNone y) (of-none y) file wsize turn foreign) m old next new after n r);
    alone = λ file n. left-any (AtFile file (IsAlone y)) next new after.back
        (all-resumes wsize turn (AtFile file (IsAlone y)) (λ s b. AtFile file (IsAlone y) b) AnyCall any-call
        (carries-file y (IsAlone y) (of-alone y) file wsize turn foreign) m old next new after n r);
  }

  takes-pass : (sent : Turn) (came : Result Reply Fault) (m : Machine) (old : Shelf) (next : Step) (new : Machine) (after : Shelf)
      → Takes wsize m sent turn came old next new after → Passes y old.back after.back
  takes-pass sent came m old next new after r = record {
    none = λ file n. left-any (AtFile file (IsNone y)) next new after.back
        (all-takes wsize turn (AtFile file (IsNone y)) (λ s b. AtFile file (IsNone y) b) AnyCall any-call
        (carries-file y (IsNone y) (of-none y) file wsize turn foreign) sent came (λ s b. AtFile file (IsNone y) b)
        (replies-file y (IsNone y) (of-none y) file wsize sent turn came foreign) m old next new after
        (any-all (AtFile file (IsNone y)) (λ s b. AtFile file (IsNone y) b) (λ s b p. p) m old.back n) r);
    alone = λ file n. left-any (AtFile file (IsAlone y)) next new after.back
        (all-takes wsize turn (AtFile file (IsAlone y)) (λ s b. AtFile file (IsAlone y) b) AnyCall any-call
        (carries-file y (IsAlone y) (of-alone y) file wsize turn foreign) sent came (λ s b. AtFile file (IsAlone y) b)
        (replies-file y (IsAlone y) (of-alone y) file wsize sent turn came foreign) m old next new after
        (any-all (AtFile file (IsAlone y)) (λ s b. AtFile file (IsAlone y) b) (λ s b p. p) m old.back n) r);
  }

-- ---- what comes under the xid of the step

abbrev pub Own : Step → ℕ → Machine → Pending → Type 0
Own (Send call) xid machine back = Flies xid (flies_of machine) back
Own Wait xid machine back = IsUnused xid back
Own (Done answer) xid machine back = IsUnused xid back

own-left : (next : Step) (xid : ℕ) (m : Machine) (back : Pending) → LeftAs (λ b. IsUnused xid b) (HasAll (λ b. IsUnused xid b) (Mine xid)) AnyCall next m back → Own next xid m back
own-left (Send call) xid m back l = has-flies xid back m l.0
own-left Wait xid m back l = l
own-left (Done answer) xid m back l = l

module _ (wsize : ℕ) (turn : Turn) where
  starts-own : (m : Machine) (old : Shelf) (next : Step) (new : Machine) (after : Shelf) → IsUnused turn.xid old.back → Starts wsize m turn old next new after
      → Own next turn.xid new after.back
  starts-own m old next new after free r =
      own-left next turn.xid new after.back
      (all-starts wsize turn (λ b. IsUnused turn.xid b) (Mine turn.xid) AnyCall any-call (carries-mine wsize turn) m old next new after free r)

  resumes-own : (m : Machine) (old : Shelf) (next : Step) (new : Machine) (after : Shelf) → IsUnused turn.xid old.back → Resumes wsize m turn old next new after
      → Own next turn.xid new after.back
  resumes-own m old next new after free r =
      own-left next turn.xid new after.back
      (all-resumes wsize turn (λ b. IsUnused turn.xid b) (Mine turn.xid) AnyCall any-call (carries-mine wsize turn) m old next new after free r)

  takes-own : (sent : Turn) (came : Result Reply Fault) (m : Machine) (old : Shelf) (next : Step) (new : Machine) (after : Shelf) → IsUnused turn.xid old.back
      → Takes wsize m sent turn came old next new after → Own next turn.xid new after.back
  takes-own sent came m old next new after free r =
      own-left next turn.xid new after.back
      (all-takes wsize turn (λ b. IsUnused turn.xid b) (Mine turn.xid) AnyCall any-call (carries-mine wsize turn) sent came (UnusedSave turn.xid)
      (replies-mine wsize sent turn came) m old next new after (any-all (λ b. IsUnused turn.xid b) (UnusedSave turn.xid) (λ s b p. p) m old.back free) r)

  -- the call that is answered leaves nothing
  takes-free : (sent : Turn) (came : Result Reply Fault) (m : Machine) (old : Shelf) (next : Step) (new : Machine) (after : Shelf) → IsForeign sent.xid turn.xid turn.room
      → Flies sent.xid (flies_of m) old.back → Takes wsize m sent turn came old next new after → IsUnused sent.xid after.back
  takes-free sent came m old next new after foreign f r =
      left-any (λ b. IsUnused sent.xid b) next new after.back
      (all-takes wsize turn (λ b. IsUnused sent.xid b) (λ s b. IsUnused sent.xid b) AnyCall any-call (carries-free wsize sent turn foreign) sent came (Mine sent.xid)
      (replies-free wsize sent turn foreign came) m old next new after (flies-has sent.xid old.back m f) r)

-- ---- calls that wait

pub record WaitsAs (y : ℕ) (es : List (ℕ × Waiting Purpose)) (p : Purpose) : Type 0 where
  pub call : Waiting Purpose
  pub waits : waiting_at y es ≡ Some call
  pub is : call.purpose ≡ p

waits-as : (y : ℕ) (es : List (ℕ × Waiting Purpose)) (p : Purpose) → purpose_at y es ≡ Some p → WaitsAs y es p
waits-as y es p e = by (waiting_at y es) refl
  where
    by : (o : Option (Waiting Purpose)) → waiting_at y es ≡ o → WaitsAs y es p
    by None d = absurd (let no_way : None ≡ Some p = ap (option_map (λ (w : Waiting Purpose). w.purpose)) (sym d) ∙ e in cc)
    by (Some call) d = record {
      call = call;
      waits = d;
      is = some-purpose p call.purpose (sym e ∙ ap (option_map (λ (w : Waiting Purpose). w.purpose)) d);
    }

-- it counts among those of its lane
some-call : (number y : ℕ) (es : List (ℕ × Waiting Purpose)) (p : Purpose) → purpose_at y es ≡ Some p → p.lane ≡ number → 1 ≤ calls_for number es
some-call number y es p e same =
    let w = waits-as y es p e in
    subst (λ (n : ℕ). 1 ≤ calls_for n es) (ap (λ (q : Purpose). q.lane) w.is ∙ same) (calls-some y es w.call w.waits)

none-at : (o : Option Purpose) → ((p : Purpose) → o ≡ Some p → ⊥) → o ≡ None
none-at None none = refl
none-at (Some p) none = absurd (none p refl)

module _ (cred : Cred) (low next : ℕ) (es : List (ℕ × Waiting Purpose)) (sound : AreSound cred low next es) where
  early : (y : ℕ) (p : Purpose) → purpose_at y es ≡ Some p → y < next
  early y p e = let w = waits-as y es p e in waits_early cred low next y es w.call sound w.waits

  next-none : purpose_at next es ≡ None
  next-none = none-at (purpose_at next es) (λ p e. let below = early next p e in absurd (omega (arith, below)))

  gone-none : (xid : ℕ) → purpose_at xid (without xid es) ≡ None
  gone-none xid = ap (option_map (λ (w : Waiting Purpose). w.purpose)) (gone cred low next xid es sound)

  pushed-own : (w : Waiting Purpose) → purpose_at next (es ++ (next, w) ∷ []) ≡ Some w.purpose
  pushed-own w = ap (option_map (λ (x : Waiting Purpose). x.purpose)) (at_made cred low next next next es w sound refl refl)

  pushed-other : (y : ℕ) (w : Waiting Purpose) → y ≢ next → purpose_at y (es ++ (next, w) ∷ []) ≡ purpose_at y es
  pushed-other y w other = ap (option_map (λ (x : Waiting Purpose). x.purpose)) (others_made y next es w (ne_eqb y next other))

  taken-other : (y xid : ℕ) → y ≢ xid → purpose_at y (without xid es) ≡ purpose_at y es
  taken-other y xid other = ap (option_map (λ (x : Waiting Purpose). x.purpose)) (others_taken y xid es (ne_eqb y xid other))

-- ---- the operation of the lane at a place made a step, and what that leads to is still to come

pub record Owes (v : View) (at number before : ℕ) (machine : Machine) (base : ℕ → Option (List ℕ)) (next : Step) : Type 0 where
  pub there : slice_get v.lanes at ≡ Some (record { number = number; state = Busy machine })
  pub apart : AreApart v.lanes
  pub agrees : (n : ℕ) → n ≢ number → base n ≡ look_at v.lanes n
  pub sound : AreSound v.calls.cred v.calls.first_xid (next_xid v.calls) v.calls.calls
  pub sents : (y : ℕ) (p : Purpose) → purpose_at y v.calls.calls ≡ Some p → p.sent.xid ≡ y
  pub some : (y : ℕ) (p : Purpose) → purpose_at y v.calls.calls ≡ Some p → p.lane ≡ number → 1 ≤ before
  pub others : (y : ℕ) → y ≢ next_xid v.calls → ((p : Purpose) → purpose_at y v.calls.calls ≡ Some p → p.lane ≢ number)
      → Flies y (sender base (purpose_at y v.calls.calls)) v.shelf.back
  pub mine : (y : ℕ) (p : Purpose) → purpose_at y v.calls.calls ≡ Some p → p.lane ≡ number → WhileGoing next (Flies y (flies_of machine) v.shelf.back)
  pub own : Own next (next_xid v.calls) machine v.shelf.back

module _ (v : View) (at number before : ℕ) (machine : Machine) (base : ℕ → Option (List ℕ)) (next : Step) (o : Owes v at number before machine base next) where
  own-look : look_at v.lanes number ≡ flies_of machine
  own-look = look-at flies_state v.lanes at number (Busy machine) o.apart o.there

  none-next : purpose_at (next_xid v.calls) v.calls.calls ≡ None
  none-next = next-none v.calls.cred v.calls.first_xid (next_xid v.calls) v.calls.calls o.sound

  -- the lanes as they are, and the shelf
  here : (y : ℕ) → y ≢ next_xid v.calls → ((p : Purpose) → purpose_at y v.calls.calls ≡ Some p → p.lane ≡ number → Flies y (flies_of machine) v.shelf.back)
      → Flies y (sender (look_at v.lanes) (purpose_at y v.calls.calls)) v.shelf.back
  here y other mine = looks-as number base (look_at v.lanes) (flies_of machine) own-look o.agrees y (purpose_at y v.calls.calls) v.shelf.back (o.others y other) mine

  -- the lane comes to another state
  sets : (state : State) (shelf : Shelf)
      → ((y : ℕ) → y ≢ next_xid v.calls → ((p : Purpose) → purpose_at y v.calls.calls ≡ Some p → p.lane ≢ number) → Flies y (sender base (purpose_at y v.calls.calls)) shelf.back)
      → ((y : ℕ) → y ≢ next_xid v.calls → (p : Purpose) → purpose_at y v.calls.calls ≡ Some p → p.lane ≡ number → Flies y (flies_state state) shelf.back)
      → IsUnused (next_xid v.calls) shelf.back → Flown (with_state v at number state shelf)
  sets state shelf others mine free = record { flies = λ y. by y (nat_eq y (next_xid v.calls)) refl; sents = o.sents }
    where
      looks : ℕ → Option (List ℕ)
      looks n = look_at (slice_set v.lanes at (record { number = number; state = state })) n

      set-look : (n : ℕ) → looks n ≡ seat_with number (flies_state state) (look_at v.lanes) n
      set-look n = look-set flies_state n v.lanes at number (Busy machine) state o.apart o.there

      by : (y : ℕ) (b : Bool) → nat_eq y (next_xid v.calls) ≡ b → Flies y (sender looks (purpose_at y v.calls.calls)) shelf.back
      by y true d =
          let same = eqb-true y (next_xid v.calls) d in
          subst (λ (q : Option Purpose). Flies y (sender looks q) shelf.back) (sym (ap (λ (x : ℕ). purpose_at x v.calls.calls) same ∙ none-next))
          (subst (λ (x : ℕ). IsUnused x shelf.back) (sym same) free)
      by y false d =
          let other = eqb-false y (next_xid v.calls) d in
          looks-as number base looks (flies_state state) (set-look number ∙ seat-own number (flies_state state) (look_at v.lanes))
          (λ n apart. o.agrees n apart ∙ sym (set-look n ∙ seat-other number n (flies_state state) (look_at v.lanes) apart))
          y (purpose_at y v.calls.calls) shelf.back (others y other) (mine y other)

-- the call is made
made-flown : (v new : View) (at number before : ℕ) (machine : Machine) (base : ℕ → Option (List ℕ)) (call : _) (w : Waiting Purpose)
    → Owes v at number before machine base (Send call) → w.purpose.lane ≡ number → w.purpose.sent.xid ≡ next_xid v.calls → new.lanes ≡ v.lanes → new.shelf ≡ v.shelf
    → new.calls.calls ≡ v.calls.calls ++ (next_xid v.calls, w) ∷ [] → Flown new
made-flown v new at number before machine base call w o lane sent lanes shelf calls = record { flies = λ y. flies y (nat_eq y next) refl; sents = λ y. sents y (nat_eq y next) refl }
  where
    next : ℕ
    next = next_xid v.calls

    own-at : purpose_at next new.calls.calls ≡ Some w.purpose
    own-at = ap (purpose_at next) calls ∙ pushed-own v.calls.cred v.calls.first_xid next v.calls.calls o.sound w

    other-at : (y : ℕ) → y ≢ next → purpose_at y new.calls.calls ≡ purpose_at y v.calls.calls
    other-at y other = ap (purpose_at y) calls ∙ pushed-other v.calls.cred v.calls.first_xid next v.calls.calls o.sound y w other

    here-flies : (y : ℕ) (q : Option Purpose) → purpose_at y new.calls.calls ≡ q → Flies y (sender (look_at v.lanes) q) v.shelf.back
        → Flies y (sender (look_at new.lanes) (purpose_at y new.calls.calls)) new.shelf.back
    here-flies y q is f =
        subst (λ (p : Option Purpose). Flies y (sender (look_at new.lanes) p) new.shelf.back) (sym is)
        (subst (λ (ls : List Lane). Flies y (sender (look_at ls) q) new.shelf.back) (sym lanes)
        (subst (λ (s : Shelf). Flies y (sender (look_at v.lanes) q) s.back) (sym shelf) f))

    flies : (y : ℕ) (b : Bool) → nat_eq y next ≡ b → Flies y (sender (look_at new.lanes) (purpose_at y new.calls.calls)) new.shelf.back
    flies y true d =
        let same = eqb-true y next d in
        here-flies y (Some w.purpose) (ap (λ (x : ℕ). purpose_at x new.calls.calls) same ∙ own-at)
        (subst (λ (s : Option (List ℕ)). Flies y s v.shelf.back) (sym (ap (look_at v.lanes) lane ∙ own-look v at number before machine base (Send call) o))
        (subst (λ (x : ℕ). Flies x (flies_of machine) v.shelf.back) (sym same) o.own))
    flies y false d =
        let other = eqb-false y next d in
        here-flies y (purpose_at y v.calls.calls) (other-at y other) (here v at number before machine base (Send call) o y other (o.mine y))

    sents : (y : ℕ) (b : Bool) → nat_eq y next ≡ b → (p : Purpose) → purpose_at y new.calls.calls ≡ Some p → p.sent.xid ≡ y
    sents y true d p e =
        let same = eqb-true y next d in
        let is = some-purpose w.purpose p (sym (ap (λ (x : ℕ). purpose_at x new.calls.calls) same ∙ own-at) ∙ e) in
        ap (λ (q : Purpose). q.sent.xid) is ∙ sent ∙ sym same
    sents y false d p e = o.sents y p (sym (other-at y (eqb-false y next d)) ∙ e)

leads-flown : (v new : View) (at number before : ℕ) (machine : Machine) (base : ℕ → Option (List ℕ)) (next : Step) → Owes v at number before machine base next
    → Counts next before machine → Leads v at number machine next new → Flown new
leads-flown v new at number before machine base (Send call) o c (inl m) =
    made-flown v new at number before machine base call _ o refl refl (ap (λ (w : View). w.lanes) m.is) (ap (λ (w : View). w.shelf) m.is) (ap (λ (w : View). w.calls.calls) m.is)
leads-flown v new at number before machine base (Send call) o c (inr r) =
    subst Flown (sym r.is) (by r.next r.state
    (takes-stay machine v.wsize (turn_at v) (unmade_turn v) (Err r.fault) v.shelf r.next r.after r.left before c.0 r.takes)
    (counts-calls.take v.wsize machine (turn_at v) (unmade_turn v) (Err r.fault) v.shelf r.next r.after r.left before r.takes c.1 c.0) r.leads)
  where
    foreign : (y : ℕ) → IsForeign y 0 false
    foreign y room = absurd (let no_way : false ≡ true = room in cc)

    passes : (y : ℕ) → Passes y v.shelf.back r.left.back
    passes y = takes-pass v.wsize (unmade_turn v) y (foreign y) (turn_at v) (Err r.fault) machine v.shelf r.next r.after r.left r.takes

    free : IsUnused (next_xid v.calls) r.left.back
    free = takes-free v.wsize (unmade_turn v) (turn_at v) (Err r.fault) machine v.shelf r.next r.after r.left (foreign (next_xid v.calls)) o.own r.takes

    others : (y : ℕ) → y ≢ next_xid v.calls → ((p : Purpose) → purpose_at y v.calls.calls ≡ Some p → p.lane ≢ number)
        → Flies y (sender base (purpose_at y v.calls.calls)) r.left.back
    others y other waits = passes-flies y (sender base (purpose_at y v.calls.calls)) v.shelf.back r.left.back (passes y) (o.others y other waits)

    by : (next : Step) (state : State) → Stays next before (flies_of machine) (flies_of r.after) → Counts next before r.after → IsRefused r.after next state
        → Flown (with_state v at number state r.left)
    by (Send again) state k n is = absurd is
    by Wait state k n is =
        sets v at number before machine base (Send call) o state r.left others
        (λ y other p e same. subst (λ (s : State). Flies y (flies_state s) r.left.back) (sym is)
        (subst (λ (s : Option (List ℕ)). Flies y s r.left.back) (sym (k (o.some y p e same)))
        (passes-flies y (flies_of machine) v.shelf.back r.left.back (passes y) (o.mine y p e same)))) free
    by (Done answer) state k n is =
        sets v at number before machine base (Send call) o state r.left others
        (λ y other p e same. let some = o.some y p e same in absurd (omega (arith, some, n))) free
leads-flown v new at number before machine base Wait o c is =
    subst Flown (sym is) (record { flies = λ y. by y (nat_eq y (next_xid v.calls)) refl; sents = o.sents })
  where
    by : (y : ℕ) (b : Bool) → nat_eq y (next_xid v.calls) ≡ b → Flies y (sender (look_at v.lanes) (purpose_at y v.calls.calls)) v.shelf.back
    by y true d =
        let same = eqb-true y (next_xid v.calls) d in
        subst (λ (q : Option Purpose). Flies y (sender (look_at v.lanes) q) v.shelf.back)
        (sym (ap (λ (x : ℕ). purpose_at x v.calls.calls) same ∙ none-next v at number before machine base Wait o))
        (subst (λ (x : ℕ). IsUnused x v.shelf.back) (sym same) o.own)
    by y false d = here v at number before machine base Wait o y (eqb-false y (next_xid v.calls) d) (o.mine y)
leads-flown v new at number before machine base (Done answer) o c is =
    subst Flown (sym is) (sets v at number before machine base (Done answer) o (Over answer) v.shelf o.others
    (λ y other p e same. let some = o.some y p e same in absurd (omega (arith, some, c))) o.own)

-- ---- the steps of lanes

-- what is in flight for a lane's own calls, while it stays on the same file
stays-mine : (next : Step) (others y : ℕ) (was now : Option (List ℕ)) (old new : Pending) → Stays next others was now → 1 ≤ others → Passes y old new → Flies y was old
    → WhileGoing next (Flies y now new)
stays-mine (Send call) others y was now old new k some p f = subst (λ (s : Option (List ℕ)). Flies y s new) (sym (k some)) (passes-flies y was old new p f)
stays-mine Wait others y was now old new k some p f = subst (λ (s : Option (List ℕ)). Flies y s new) (sym (k some)) (passes-flies y was old new p f)
stays-mine (Done answer) others y was now old new k some p f = tt

-- it has another xid than the next one
foreign-to : (y next : ℕ) (room : Bool) → y ≢ next → IsForeign y next room
foreign-to y next room other yes_ same = other (sym same)

-- what flies for a call of the lane at a place
flies-own : (v : View) (at number y : ℕ) (machine : Machine) (p : Purpose) → AreApart v.lanes → slice_get v.lanes at ≡ Some (record { number = number; state = Busy machine })
    → Flown v → purpose_at y v.calls.calls ≡ Some p → p.lane ≡ number → Flies y (flies_of machine) v.shelf.back
flies-own v at number y machine p apart there f e same =
    subst (λ (s : Option (List ℕ)). Flies y s v.shelf.back)
    (ap (sender (look_at v.lanes)) e ∙ ap (look_at v.lanes) same ∙ look-at flies_state v.lanes at number (Busy machine) apart there) (f.flies y)

unused-next : (v : View) → AreSound v.calls.cred v.calls.first_xid (next_xid v.calls) v.calls.calls → Flown v → IsUnused (next_xid v.calls) v.shelf.back
unused-next v sound f =
    subst (λ (q : Option Purpose). Flies (next_xid v.calls) (sender (look_at v.lanes) q) v.shelf.back)
    (next-none v.calls.cred v.calls.first_xid (next_xid v.calls) v.calls.calls sound) (f.flies (next_xid v.calls))

set-agrees : (lanes : List Lane) (at number : ℕ) (machine after : Machine) → AreApart lanes → slice_get lanes at ≡ Some (record { number = number; state = Busy machine })
    → (n : ℕ) → n ≢ number → look_at lanes n ≡ look_at (slice_set lanes at (record { number = number; state = Busy after })) n
set-agrees lanes at number machine after apart there n other =
    sym (look-set flies_state n lanes at number (Busy machine) (Busy after) apart there ∙ seat-other number n (flies_of after) (look_at lanes) other)

one-own : (number : ℕ) (call : Waiting Purpose) → call.purpose.lane ≡ number → one_for number call ≡ 1
one-own number call same = ap (λ (b : Bool). where_ b 1) (eq-eqb call.purpose.lane number same)

same-flies : (y : ℕ) (looks others : ℕ → Option (List ℕ)) (o : Option Purpose) (back : Pending) → ((n : ℕ) → others n ≡ looks n) → Flies y (sender looks o) back
    → Flies y (sender others o) back
same-flies y looks others None back same f = f
same-flies y looks others (Some p) back same f = subst (λ (s : Option (List ℕ)). Flies y s back) (sym (same p.lane)) f

module _ (m : Mounted) (setup : Setup) where
  stirs-flown : (h : List Entry) (old new : View) (at : ℕ) → Known setup h old → Stirs old at new → Flown old → Flown new
  stirs-flown h old new at k t f =
      leads-flown (with_state old at t.number (Busy t.after) t.shelf) new at t.number (in_flight t.machine) t.after (look_at old.lanes) t.next
      (record {
        there = at-set old.lanes at (record { number = t.number; state = Busy t.machine }) (record { number = t.number; state = Busy t.after }) t.there;
        apart = (lanes-under-way h (with_state old at t.number (Busy t.after) t.shelf)
            ((lanes-stay h).sets old at t.number (Busy t.machine) (Busy t.after) t.shelf t.there k.lanes)).apart;
        agrees = set-agrees old.lanes at t.number t.machine t.after apart t.there;
        sound = k.rows.sound.calls.each;
        sents = f.sents;
        some = some;
        others = λ y other waits. passes-flies y (sender (look_at old.lanes) (purpose_at y old.calls.calls)) old.shelf.back t.shelf.back (passes y other) (f.flies y);
        mine = λ y p e same.
            let below = early old.calls.cred old.calls.first_xid (next_xid old.calls) old.calls.calls k.rows.sound.calls.each y p e in
            stays-mine t.next (in_flight t.machine) y (flies_of t.machine) (flies_of t.after) old.shelf.back t.shelf.back
            (resumes-stay t.machine old.wsize (turn_at old) old.shelf t.next t.after t.shelf t.resumes) (some y p e same)
            (passes y (λ is. absurd (omega (arith, below, is)))) (flies-own old at t.number y t.machine p apart t.there f e same);
        own = resumes-own old.wsize (turn_at old) t.machine old.shelf t.next t.after t.shelf (unused-next old k.rows.sound.calls.each f) t.resumes;
      })
      (counts-calls.resume old.wsize t.machine (turn_at old) old.shelf t.next t.after t.shelf t.resumes (k.known.right at (record { number = t.number; state = Busy t.machine }) t.there))
      t.leads
    where
      apart : AreApart old.lanes
      apart = (lanes-under-way h old k.lanes).apart

      passes : (y : ℕ) → y ≢ next_xid old.calls → Passes y old.shelf.back t.shelf.back
      passes y other = resumes-pass old.wsize (turn_at old) y (foreign-to y (next_xid old.calls) (turn_at old).room other) t.machine old.shelf t.next t.after t.shelf t.resumes

      some : (y : ℕ) (p : Purpose) → purpose_at y old.calls.calls ≡ Some p → p.lane ≡ t.number → 1 ≤ in_flight t.machine
      some y p e same = subst (λ (n : ℕ). 1 ≤ n) (lane-count setup h old at t.number t.machine k t.there) (some-call t.number y old.calls.calls p e same)

  starts-flown : (h : List Entry) (old new : View) (lane : ℕ) (op : Op) (now : ℕ) → Known setup h old → IsIdle lane old.lanes
      → StartsLane (counted old now) lane (machine_of m lane op) new → Flown old → Flown new
  starts-flown h old new lane op now k idle t f =
      leads-flown v new (length old.lanes) lane 0 t.after (look_at old.lanes) t.next
      (record {
        there = at-push old.lanes (record { number = lane; state = Busy t.after });
        apart = (lanes-under-way (h ++ Began lane 0 op ∷ []) v (lanes-begin h old lane 0 op k.lanes idle.other (Busy t.after))).apart;
        agrees = λ n other. sym (look-push flies_state n old.lanes lane (Busy t.after) idle.other ∙ seat-other lane n (flies_of t.after) (look_at old.lanes) other);
        sound = k.rows.sound.calls.each;
        sents = f.sents;
        some = λ y p e same. absurd (none y p e same);
        others = λ y other waits. passes-flies y (sender (look_at old.lanes) (purpose_at y old.calls.calls)) old.shelf.back t.shelf.back (passes y other) (f.flies y);
        mine = λ y p e same. absurd (none y p e same);
        own = starts-own old.wsize (turn_at (counted old now)) (machine_of m lane op) old.shelf t.next t.after t.shelf (unused-next old k.rows.sound.calls.each f) t.starts;
      })
      (counts-calls.start old.wsize (machine_of m lane op) (turn_at (counted old now)) old.shelf t.next t.after t.shelf t.starts (begins-unbegun m lane op)) t.leads
    where
      v : View
      v = record (counted old now) { lanes = old.lanes ++ record { number = lane; state = Busy t.after } ∷ []; shelf = t.shelf }

      none : (y : ℕ) (p : Purpose) → purpose_at y old.calls.calls ≡ Some p → p.lane ≡ lane → ⊥
      none y p e same =
          let w = waits-as y old.calls.calls p e in
          none-idle old lane y w.call idle.other k.known.counted w.waits (ap (λ (q : Purpose). q.lane) w.is ∙ same)

      passes : (y : ℕ) → y ≢ next_xid old.calls → Passes y old.shelf.back t.shelf.back
      passes y other =
          starts-pass old.wsize (turn_at (counted old now)) y (foreign-to y (next_xid old.calls) (turn_at (counted old now)).room other)
          (machine_of m lane op) old.shelf t.next t.after t.shelf t.starts

  takes-flown : (h : List Entry) (old new : View) (rec : List ℕ) (xid : ℕ) (call : Waiting Purpose) (at : ℕ) → Known setup h old
      → waiting_at xid old.calls.calls ≡ Some call → position (is_busy call.purpose.lane) old.lanes ≡ Some at
      → TakesAt (taken_one old xid) at call.purpose.sent (said_of call.purpose.proc rec) new → Flown old → Flown new
  takes-flown h old new rec xid call at k waits there t f =
      leads-flown (with_state (taken_one old xid) at t.number (Busy t.after) t.shelf) new at t.number (in_flight t.machine - 1) t.after (look_at old.lanes) t.next
      (record {
        there = at-set old.lanes at (record { number = t.number; state = Busy t.machine }) (record { number = t.number; state = Busy t.after }) t.there;
        apart = (lanes-under-way h (with_state (taken_one old xid) at t.number (Busy t.after) t.shelf)
            ((lanes-stay h).sets (taken_one old xid) at t.number (Busy t.machine) (Busy t.after) t.shelf t.there k.lanes)).apart;
        agrees = set-agrees old.lanes at t.number t.machine t.after apart t.there;
        sound = (taken-rows setup h old xid k.rows).sound.calls.each;
        sents = λ y p e. f.sents y p (sym (same-at y (left-other y p e)) ∙ e);
        some = some;
        others = others;
        mine = λ y p e same.
            let before : purpose_at y calls ≡ Some p = sym (same-at y (left-other y p e)) ∙ e in
            let below = early old.calls.cred old.calls.first_xid next calls k.rows.sound.calls.each y p before in
            stays-mine t.next (in_flight t.machine - 1) y (flies_of t.machine) (flies_of t.after) old.shelf.back t.shelf.back
            (takes-stay t.machine old.wsize call.purpose.sent turn (said_of call.purpose.proc rec) old.shelf t.next t.after t.shelf (in_flight t.machine - 1) one t.takes)
            (some y p e same) (passes y (λ is. absurd (omega (arith, below, is)))) (flies-own old at t.number y t.machine p apart t.there f before same);
        own = takes-own old.wsize turn call.purpose.sent (said_of call.purpose.proc rec) t.machine old.shelf t.next t.after t.shelf
            (unused-next old k.rows.sound.calls.each f) t.takes;
      })
      (counts-calls.take old.wsize t.machine call.purpose.sent turn (said_of call.purpose.proc rec) old.shelf t.next t.after t.shelf
      (in_flight t.machine - 1) t.takes (k.known.right at (record { number = t.number; state = Busy t.machine }) t.there) one)
      t.leads
    where
      calls : List (ℕ × Waiting Purpose)
      calls = old.calls.calls

      next : ℕ
      next = next_xid old.calls

      turn : Turn
      turn = turn_at (taken_one old xid)

      apart : AreApart old.lanes
      apart = (lanes-under-way h old k.lanes).apart

      one : in_flight t.machine ≡ (in_flight t.machine - 1) + 1
      one = taker-one setup h old xid call at k waits there t.number t.machine t.there

      own-at : purpose_at xid calls ≡ Some call.purpose
      own-at = ap (option_map (λ (w : Waiting Purpose). w.purpose)) waits

      sent-is : call.purpose.sent.xid ≡ xid
      sent-is = f.sents xid call.purpose own-at

      none-left : purpose_at xid (without xid calls) ≡ None
      none-left = gone-none old.calls.cred old.calls.first_xid next calls k.rows.sound.calls.each xid

      same-at : (y : ℕ) → y ≢ xid → purpose_at y (without xid calls) ≡ purpose_at y calls
      same-at y other = taken-other old.calls.cred old.calls.first_xid next calls k.rows.sound.calls.each y xid other

      left-other : (y : ℕ) (p : Purpose) → purpose_at y (without xid calls) ≡ Some p → y ≢ xid
      left-other y p e same = absurd (let no_way : None ≡ Some p = sym (ap (λ (x : ℕ). purpose_at x (without xid calls)) same ∙ none-left) ∙ e in cc)

      passes : (y : ℕ) → y ≢ next → Passes y old.shelf.back t.shelf.back
      passes y other =
          takes-pass old.wsize turn y (foreign-to y next turn.room other) call.purpose.sent (said_of call.purpose.proc rec) t.machine old.shelf t.next t.after t.shelf t.takes

      -- the one that was answered is counted no more
      some : (y : ℕ) (p : Purpose) → purpose_at y (without xid calls) ≡ Some p → p.lane ≡ t.number → 1 ≤ in_flight t.machine - 1
      some y p e same =
          let left = some-call t.number y (without xid calls) p e same in
          let all = calls-without t.number xid calls call waits in
          let own : one_for t.number call ≡ 1 = one-own t.number call (sym (taker-is setup h old xid call at k waits there t.number t.machine t.there)) in
          let count = lane-count setup h old at t.number t.machine k t.there in
          omega (arith, left, all, own, count)

      free : IsUnused xid t.shelf.back
      free =
          let below = early old.calls.cred old.calls.first_xid next calls k.rows.sound.calls.each xid call.purpose own-at in
          subst (λ (x : ℕ). IsUnused x t.shelf.back) sent-is
          (takes-free old.wsize turn call.purpose.sent (said_of call.purpose.proc rec) t.machine old.shelf t.next t.after t.shelf
          (foreign-to call.purpose.sent.xid next turn.room (λ is. absurd (omega (arith, below, is, sent-is))))
          (subst (λ (x : ℕ). Flies x (flies_of t.machine) old.shelf.back) (sym sent-is)
          (flies-own old at t.number xid t.machine call.purpose apart t.there f own-at (sym (taker-is setup h old xid call at k waits there t.number t.machine t.there)))) t.takes)

      others : (y : ℕ) → y ≢ next → ((p : Purpose) → purpose_at y (without xid calls) ≡ Some p → p.lane ≢ t.number)
          → Flies y (sender (look_at old.lanes) (purpose_at y (without xid calls))) t.shelf.back
      others y other waits_ = by (nat_eq y xid) refl
        where
          by : (b : Bool) → nat_eq y xid ≡ b → Flies y (sender (look_at old.lanes) (purpose_at y (without xid calls))) t.shelf.back
          by true d =
              let same = eqb-true y xid d in
              subst (λ (q : Option Purpose). Flies y (sender (look_at old.lanes) q) t.shelf.back)
              (sym (ap (λ (x : ℕ). purpose_at x (without xid calls)) same ∙ none-left)) (subst (λ (x : ℕ). IsUnused x t.shelf.back) (sym same) free)
          by false d =
              subst (λ (q : Option Purpose). Flies y (sender (look_at old.lanes) q) t.shelf.back) (sym (same-at y (eqb-false y xid d)))
              (passes-flies y (sender (look_at old.lanes) (purpose_at y calls)) old.shelf.back t.shelf.back (passes y other) (f.flies y))

  pub keeps-flown : Keeps (machine_of m) setup Flown
  keeps-flown = record {
    fresh = λ v fresh. record {
      flies = λ y. subst (λ (c : Held Purpose). Flies y (sender (look_at v.lanes) (purpose_at y c.calls)) v.shelf.back) (sym fresh.calls)
          (subst (λ (b : Pending). IsUnused y b) (sym fresh.back) (λ file. refl));
      sents = λ y p e. absurd (let no_way : None ≡ Some p = ap (λ (c : Held Purpose). purpose_at y c.calls) (sym fresh.calls) ∙ e in cc);
    };
    stirs = stirs-flown;
    starts = starts-flown;
    takes = takes-flown;
    answers = λ h old new at lane answer k a f. subst Flown (sym a.is) (record {
      flies = λ y.
          same-flies y (look_at old.lanes) (look_at (remove old.lanes at)) (purpose_at y old.calls.calls) old.shelf.back
          (λ n. look-remove flies_state n old.lanes at (record { number = lane; state = Over a.answer }) (lanes-under-way h old k.lanes).apart a.there refl) (f.flies y);
      sents = f.sents;
    });
    same = λ old new lanes shelf purposes f. record {
      flies = λ y.
          subst (λ (s : Shelf). Flies y (sender (look_at new.lanes) (purpose_at y new.calls.calls)) s.back) (sym shelf)
          (subst (λ (q : Option Purpose). Flies y (sender (look_at new.lanes) q) old.shelf.back) (sym (purposes y))
          (subst (λ (ls : List Lane). Flies y (sender (look_at ls) (purpose_at y old.calls.calls)) old.shelf.back) (sym lanes) (f.flies y)));
      sents = λ y p e. f.sents y p (sym (purposes y) ∙ e);
    };
  }
