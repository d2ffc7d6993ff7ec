-- What a step of a lane makes of what holds of the byte.
use Rattle.core_session.proofs.Prelude.{length-append, ◌≡◌, ◌≢◌, ◌≤◌, ◌<◌, ◌+◌, ◌⊎◌, inl, inr, ℕ, Bool, true, false, nat_eq, List, ◌++◌, length, Option, Some, None, slice_get, refl, sym, ap, subst, ◌∙◌, arith, eqb-true, eqb-false, Shelf, IsOpen, Waiting, Answer, Fault, Value, Entry, Began, Op, At, UnderWay, AnsweredBefore, IsOf, InSlot, Cuts, Terms, At-one, Pending, of_file, same-or, Saving, LaneFile, Mounted, Machine, machine_of, Purpose, State, Busy, Over, Setup, View, GoesWith, Runs, Lane, CloseFile, Closing, Removal, save_in, removal_in, IsGuarded, list_any, is_other}
use Rattle.world_model.specs.declared.answer.Answer.TheVariants as answers
use Rattle.world_model.specs.declared.op.Op.TheVariants as ops
use Rattle.core_session.proofs.drops.OneFile.{slot-file}
use Rattle.core_session.proofs.syncs.AllJobs.{JobHas}
use Rattle.core_session.proofs.syncs.Aims.{aimed, JobAims, aimed-has, aims-own, put-has, write-has}
use Rattle.core_session.proofs.syncs.Aparts.{Apart}
use Rattle.core_session.proofs.syncs.Causes.{IsWriter, IsSaver, IsPut, OfOp, Saving_, put-is, Comes, by_write, by_put}
use Rattle.core_session.proofs.syncs.Contents.{Common}
use Rattle.core_session.proofs.syncs.Fate.{fate-map, Fate, busy, Story, ready-is, fate-turns, story-turns}
use Rattle.core_session.proofs.syncs.Fates.{job_kind}
use Rattle.core_session.proofs.syncs.Looks.{OpView, writes, syncs, closes, puts, others, view-of, Touching, ClosesIt, doomed, looks, closes-file}
use Rattle.core_session.proofs.syncs.Passing.{Tale, told, Shown}
use Rattle.core_session.proofs.syncs.Phases.{Across, Family, KnownBy, Evident, before-plan, before-base, after-plan, after-base, after-tale}
use Rattle.core_session.proofs.syncs.PutGoes.{AtSave, OwnAt, Names, own_save, own-has, has-own}
use Rattle.core_session.proofs.syncs.Plans.{Plan, Came_}
use Rattle.core_session.proofs.syncs.Seen.{Owned}
use Rattle.core_session.proofs.syncs.Showings.{Fresh, Wrote}
use Rattle.core_session.proofs.syncs.Stages.{known-more, Stage, unsent, flies, again, held, stable, over}
use Rattle.core_session.proofs.syncs.Stands.{WritesIt, of_slot, of_last}
use Rattle.core_session.proofs.syncs.Nexts.{at-on, tale-map, has-map, common-from}
use Rattle.core_session.proofs.kept.Stands.{Case, Has, Fated, fated-map, one, two, SinceTwo, StableTwo, before, after, ToldBefore, ToldAfter, Early, GuardBy, PutRuns, Phase}
use Rattle.core_session.proofs.kept.Stands as stands
use Rattle.core_session.proofs.syncs.Turning.{Turns, IsFixed}
use Rattle.core_session.proofs.syncs.LaneSteps.{Landed}
use Rattle.core_session.proofs.syncs.Pasts.{IsAhead}
use Rattle.core_session.proofs.syncs.Levels.{Owner}
use Rattle.file_ops.specs.declared.close_file.Closing.TheVariants as closings
use Rattle.op_machines.specs.declared.file_machine.FileMachine.TheVariants as files
use Rattle.op_machines.specs.declared.machine.Machine.TheVariants as machines
use Rattle.core_session.proofs.syncs.Jobs.{CloseHas}

began-same : (a b c d : ℕ) (o p : Op) → Began a b o ≡ Began c d p → (a ≡ c) × (b ≡ d) × (o ≡ p)
began-same a b c d o p e = (cc, cc, cc)

some-slot : (a b : ℕ) → Some a ≡ Some b → a ≡ b
some-slot a b e = cc

state-done : (a : Answer) (m : Machine) → Over a ≡ Busy m → ⊥
state-done a m e = absurd cc

busy-is : (a b : Machine) → Busy a ≡ Busy b → a ≡ b
busy-is a b e = cc

over-one : (a b : Answer) → Over a ≡ Over b → a ≡ b
over-one a b e = cc

done-refused : (v : Value) (f : Fault) → answers.Refused f ≡ answers.Done v → ⊥
done-refused v f e = absurd cc

module _ (mt : Mounted) (terms : Terms) (setup : Setup) (H : List Entry) (V : View) (g : GoesWith mt terms setup H V) (w y : ℕ) (sure : Bool) (due p : ℕ) (f : List ℕ) (i byte : ℕ) (c : Case terms H w y p f i byte) where
  -- ---- what is known of w and s

  files-one : (z : ℕ) (op : Op) (a b : List ℕ) → IsOf terms.modes H z op a → IsOf terms.modes H z op b → a ≡ b
  files-one z op a b k l =
      let same = began-same l.lane l.line k.lane k.line op op (At-one H z (Began l.lane l.line op) (Began k.lane k.line op) l.began k.began) in
      let slot : l.slot ≡ k.slot = some-slot l.slot k.slot (sym l.works_on ∙ k.works_on) in
      slot-file mt terms setup H V g z k.lane k.slot k.open_at l.open_at a b k.holds
      (subst (λ (n : ℕ). InSlot terms.modes H z n k.slot l.open_at b) same.0 (subst (λ (n : ℕ). InSlot terms.modes H z l.lane n l.open_at b) slot l.holds))

  -- the operation at such a place is this one
  pub op-at : (x n l m k : ℕ) (op o : Op) → At H x (Began n l op) → At H x (Began m k o) → op ≡ o
  op-at x n l m k op o a b = (began-same n l m k op o (At-one H x (Began n l op) (Began m k o) a b)).2

  kind-writer : (n : ℕ) (op : Op) → IsWriter op → job_kind (machine_of mt n op) ≡ 1
  kind-writer n op wr = by (view-of mt n op)
    where
      by : OpView mt n op → job_kind (machine_of mt n op) ≡ 1
      by (writes a k) = k
      by (syncs slot at k) = absurd (subst IsWriter at wr)
      by (closes slot at k) = absurd (subst IsWriter at wr)
      by (puts path offset bytes at k) = absurd (subst IsWriter at wr)
      by (others k no_writer no_saver) = absurd (no_writer wr)

  -- a put, by its kind
  kind-put : (n : ℕ) (op : Op) (path : List (List ℕ)) (offset : ℕ) (bytes : List ℕ) → op ≡ ops.Put path offset bytes → job_kind (machine_of mt n op) ≡ 3
  kind-put n op path offset bytes is = ap (λ (o : Op). job_kind (machine_of mt n o)) is

  pub kind-of-put : (n : ℕ) (op : Op) → IsPut op → job_kind (machine_of mt n op) ≡ 3
  kind-of-put n op is = let k = put-is op is in kind-put n op k.0 k.1 k.2 k.3

  pub put-kind : (n : ℕ) (op : Op) → job_kind (machine_of mt n op) ≡ 3 → IsPut op
  put-kind n op is = by (view-of mt n op)
    where
      by : OpView mt n op → IsPut op
      by (writes wr k) = absurd (let a : 1 ≡ 3 = sym k ∙ is in omega (arith, a))
      by (syncs slot at k) = absurd (let a : 2 ≡ 3 = sym k ∙ is in omega (arith, a))
      by (closes slot at k) = absurd (let a : 5 ≡ 3 = sym k ∙ is in omega (arith, a))
      by (others k no_writer no_saver) = absurd (let a : 0 ≡ 3 = sym k ∙ is in omega (arith, a))
      by (puts path offset bytes at k) = subst IsPut (sym at) tt

  -- the one at the place w
  pub write-op : (n x line : ℕ) (op : Op) → At H x (Began n line op) → x ≡ w → op ≡ c.opW
  write-op n x line op at same = op-at w n line c.laneW c.endW.line op c.opW (subst (λ (z : ℕ). At H z (Began n line op)) same at) c.endW.began

  pub writer-kind : (h rest : List Entry) → h ++ rest ≡ H → (n x : ℕ) (op : Op) → UnderWay h n x (length h) op → x ≡ w → IsWriter c.opW → job_kind (machine_of mt n op) ≡ 1
  writer-kind h rest is n x op u same writer =
      kind-writer n op (subst IsWriter (sym (write-op n x u.line op (at-on H h rest is x (Began n u.line op) u.began) same)) writer)

  pub put-at : (h rest : List Entry) → h ++ rest ≡ H → (n x : ℕ) (op : Op) → UnderWay h n x (length h) op → x ≡ w → (path : List (List ℕ)) (offset : ℕ) (bytes : List ℕ) → c.opW ≡ ops.Put path offset bytes
      → job_kind (machine_of mt n op) ≡ 3
  put-at h rest is n x op u same path offset bytes op_is =
      kind-put n op path offset bytes (write-op n x u.line op (at-on H h rest is x (Began n u.line op) u.began) same ∙ op_is)

  pub put-no-writer : (h rest : List Entry) → h ++ rest ≡ H → (n x : ℕ) (op : Op) → UnderWay h n x (length h) op → x ≡ w → (path : List (List ℕ)) (offset : ℕ) (bytes : List ℕ) → c.opW ≡ ops.Put path offset bytes
      → OfOp H x IsWriter → ⊥
  put-no-writer h rest is n x op u same path offset bytes op_is writer =
      let at = at-on H h rest is x (Began n u.line op) u.began in
      subst IsWriter (write-op n x u.line op at same ∙ op_is) (writer n u.line op at)

  -- it cuts nothing
  pub uncut : (x : ℕ) → x ≡ w → Cuts terms.modes H x f i → ⊥
  uncut x same cuts = by c.wrote (write-op cuts.of.lane x cuts.of.line (ops.Truncate cuts.slot cuts.size) cuts.of.began same)
    where
      by : WritesIt terms H w y f c.opW → ops.Truncate cuts.slot cuts.size ≡ c.opW → ⊥
      by (of_slot writer its) is = subst IsWriter (sym is) writer
      by (of_last path offset bytes op_is call names last) is = let no_way : ops.Truncate cuts.slot cuts.size ≡ ops.Put path offset bytes = is ∙ op_is in absurd cc

  abbrev pub One : ℕ → ℕ → Family
  One = one mt terms setup H w y sure due p f i byte

  abbrev pub Two : List Entry → List (ℕ × Waiting Purpose) → Family
  Two = two mt terms setup H w y sure due p f i byte

  abbrev pub Before_ : ℕ → Tale
  Before_ = before mt terms setup H w y sure due p f i byte

  abbrev pub After_ : ℕ → ℕ → Tale
  After_ = after mt terms setup H w y sure due p f i byte

  -- no operation begins at the history's end
  pub not-end : (h rest : List Entry) → h ++ rest ≡ H → (number x : ℕ) (op : Op) → UnderWay h number x (length h) op → x ≡ length H → ⊥
  not-end h rest is number x op u same = let below = u.before in let long = length-append h rest in let all = ap (λ (z : List Entry). length z) is in omega (arith, below, long, all, same)

  abbrev pub PhaseAt : List Entry → View → Type 0
  PhaseAt = Phase mt terms setup H w y sure due p f i byte

  -- ---- the two plans

  abbrev pub PlanBefore : (x wsize kind q0 nx now : ℕ) (tables : Shelf) (tgt : List ℕ) → Plan f wsize kind q0 (λ z. (k : ℕ) → (One nx now).Fresh k z)
  PlanBefore x wsize kind q0 nx now tables tgt = before-plan terms.modes terms.origin H w (length H) f i byte wsize kind x q0 (One nx now) now (inr refl) tables tgt (inl refl)

  -- what is told of an operation as its step begins, before the bytes came in
  module _ (x wsize kind q0 nx now : ℕ) (tables : Shelf) (tgt : List ℕ) (machine : Machine) (same_kind : job_kind machine ≡ kind) (aims : JobAims machine tgt) (h : Has f (Before_ x) machine) (q : ℕ) (b : Pending)
      (o : List LaneFile) where
    abbrev Base : Tale
    Base = before-base terms.modes terms.origin H w (length H) f i byte wsize kind x q0 (One nx now) now (inr refl) tables tgt

    abbrev pub MineIs : Type 0
    MineIs = OfOp H x IsWriter ⊎ ((kind ≡ 3) × (f ≡ tgt))

    aims-at : (W : Type 0) → JobHas (told f W Base) machine q b o → JobHas (told f W (PlanBefore x wsize kind q0 nx now tables tgt).t) machine q b o
    aims-at W k = subst (λ (z : ℕ). JobHas (told f W (aimed z tgt Base)) machine q b o) same_kind (aimed-has f W Base q b o tgt machine aims k)

    -- another one
    pub before-other : x ≢ w → JobHas (told f (Unit {0}) (PlanBefore x wsize kind q0 nx now tables tgt).t) machine q b o
    before-other off =
        aims-at (Unit {0}) (has-map f (Before_ x) Base machine (λ m z same. absurd (off same)) (λ z. z) (λ file offset bytes z. z) (λ file z. z.0) (λ file size upto z. z) h q b o)

    -- the write
    pub before-write : kind ≡ 1 → JobHas (told f ⊥ (PlanBefore x wsize kind q0 nx now tables tgt).t) machine q b o
    before-write one = aims-at ⊥ (write-has f (Unit {0}) ⊥ (Before_ x) Base q b o q b o machine (same_kind ∙ one) (λ file offset bytes z. z) (h q b o))

    -- the put
    pub before-put : x ≡ w → kind ≡ 3 → (OfOp H x IsWriter → ⊥) → JobHas (told f (MineIs → ⊥) (PlanBefore x wsize kind q0 nx now tables tgt).t) machine q b o
    before-put same three nay =
        aims-at (MineIs → ⊥)
        (put-has f (Unit {0}) (MineIs → ⊥) (Before_ x) Base q b o q b o machine (same_kind ∙ three) (λ none file offset bytes z. z)
        (λ z own k. (not-mine z own (k.1.1 same), k.1.0, λ here. absurd (k.1.1 same here))) (h q b o))
      where
        not-mine : (z : Saving) → own_save machine ≡ Some z → f ≢ z.file → MineIs → ⊥
        not-mine z own off (inl writer) = nay writer
        not-mine z own off (inr put) = off (put.1 ∙ aims-own machine tgt z aims own)

  -- what guards it, with other evidence
  pub guard-map : (n : ℕ) (h : List Entry) (v : View) (E E2 : Type 0) → (E → E2) → GuardBy mt terms setup H w y sure due p f i byte n E h v → GuardBy mt terms setup H w y sure due p f i byte n E2 h v
  guard-map n h v E E2 conv (inl guard) = inl guard
  guard-map n h v E E2 conv (inr put) = inr (put.0, fate-map h v w E E2 conv put.1)

  -- from its first flight on
  pub flown-on : (h2 : List Entry) (v : View) (n q0 nx : ℕ) → length h2 ≤ p → w < length h2 → ((k : ℕ) → Fresh h2 k nx) → KnownBy (One nx (length h2)) q0 f i byte n ⊥ v.shelf.seq v.shelf.back → GuardBy mt terms setup H w y sure due p f i byte n ⊥ h2 v → Fated sure ⊥
      → Story (ToldAfter mt terms setup H w y sure due p f i byte n) h2 v → Owned f v.lanes v.shelf.seq v.shelf.back v.shelf.order → PhaseAt h2 v
  flown-on h2 v n q0 nx lowp began next known guard fate story own = by known.stage
    where
      common0 : Common 0 v.shelf.seq v.shelf.back
      common0 = common-from q0 0 v.shelf.seq v.shelf.back (omega arith) known.common

      since-now : SinceTwo mt terms setup H w y sure due p f i byte h2 (length h2)
      since-now = (omega arith, began, λ k xid offset how bytes sent at spells low high inside. absurd (omega (arith, low, high)))

      fresh-two : (z : ℕ) → (z ≡ 0) ⊎ (z ≡ nx) → (z ≡ 0) ⊎ Fresh h2 (length h2) z
      fresh-two z (inl e) = inl e
      fresh-two z (inr e) = inr (subst (Fresh h2 (length h2)) (sym e) (next (length h2)))

      on : Stage i byte n (Two h2 v.calls.calls).Fresh (Two h2 v.calls.calls).Since (Two h2 v.calls.calls).Wrote (Two h2 v.calls.calls).Made ⊥ (of_file f v.shelf.back) → PhaseAt h2 v
      on st = stands.since lowp n (record {
        began = began;
        guard = inl (guard-map n h2 v ⊥ (Evident (Two h2 v.calls.calls)) (λ none. absurd none) guard);
        fate = fated-map sure ⊥ (StableTwo mt terms setup H w y sure due p f i byte h2) (λ none. absurd none) fate;
        content = record { common = common0; low = known.low; stage = st };
        story = story;
        owned = own;
      })

      by : Stage i byte n (One nx (length h2)).Fresh (One nx (length h2)).Since (One nx (length h2)).Wrote (One nx (length h2)).Made ⊥ (of_file f v.shelf.back) → PhaseAt h2 v
      by (unsent ready at z) = stands.unsent lowp n (record {
        began = began;
        guard = inl guard;
        fate = fate;
        content = record { common = common0; low = known.low; ready = ready; there = at };
        story = story;
        owned = own;
      })
      by (flies k flown at b m none fr z) = on (flies (length h2) flown at b m none (fresh-two flown.xid fr) since-now)
      by (again k ready at none z) = on (again (length h2) ready at none since-now)
      by (held k verf at none z wr) = absurd wr
      by (stable k none off z m) = absurd m
      by (over o) = absurd o

  module _ (h h2 rest : List Entry) (split_ : h2 ++ rest ≡ H) (old new : View) (at number x : ℕ) (op : Op) (wsize : ℕ) (some : 1 ≤ wsize) (least : 1 ≤ number) (most : number ≤ 16) (base : ℕ → Option (List ℕ)) (kind q0 nx : ℕ)
      (kind_is : kind ≡ job_kind (machine_of mt number op)) (runs : Runs h2 number) (under : UnderWay h2 number x (length h2) op) (shorter : length h ≤ length h2) (lowp : length h2 ≤ p)
      (one_old : (n z : ℕ) (machine : Machine) (o : Op) → slice_get old.lanes at ≡ Some (record { number = n; state = Busy machine }) → UnderWay h n z (length h) o → z ≡ x) where
    began-here : At H x (Began number under.line op)
    began-here = at-on H h2 rest split_ x (Began number under.line op) under.began

    abbrev pub TurnedBefore : ℕ → Type 0
    TurnedBefore z = (k : ℕ) → (One nx (length h2)).Fresh k z

    -- ---- a step before the bytes came in

    module _ (tgt : List ℕ) (came : Came_ f wsize some number least most base kind q0 TurnedBefore (PlanBefore x wsize kind q0 nx (length h2) new.shelf tgt) old.lanes at new) (t : Turns f h h2 old new at number x op came.state)
        (next : (k : ℕ) → Fresh h2 k nx) (fated : Fated sure ⊥) (up : w ≢ x → length h ≤ w → length h2 ≤ w) (left_on : Apart f h old w → Apart f h2 new w)
        (elsewhere : x ≡ w → kind ≡ 3 → (value : Value) → came.state ≡ Over (answers.Done value) → Apart f h2 new w) (guard_in : x ≡ w → IsWriter c.opW → IsGuarded (q0 + 1) new f) (e : Early mt terms setup H w y sure due p f i byte h old) where
      abbrev ThePlan : Plan f wsize kind q0 TurnedBefore
      ThePlan = PlanBefore x wsize kind q0 nx (length h2) new.shelf tgt

      abbrev ShownB : State → Type 0
      ShownB st = Shown f wsize some number least most base came.owner ThePlan.C ThePlan.D ThePlan.E ThePlan.t kind st new.shelf.seq new.shelf.back new.shelf.order

      common-of : (st : State) → ShownB st → Common 0 new.shelf.seq new.shelf.back
      common-of (Busy m) sh = of sh.1.content
        where
          of : ThePlan.C new.shelf.seq new.shelf.back ⊎ ThePlan.D new.shelf.seq new.shelf.back → Common 0 new.shelf.seq new.shelf.back
          of (inl z) = common-from q0 0 new.shelf.seq new.shelf.back (omega arith) z.0
          of (inr z) = common-from q0 0 new.shelf.seq new.shelf.back (omega arith) z.0
      common-of (Over answer) sh = common-from q0 0 new.shelf.seq new.shelf.back (omega arith) sh.content

      -- it hasn't brought them
      still-early : (w ≡ x → (value : Value) → came.state ≡ Over (answers.Done value) → Apart f h2 new w)
          → ((machine : Machine) → came.state ≡ Busy machine → ToldBefore mt terms setup H w y sure due p f i byte number x machine op) → PhaseAt h2 new
      still-early own told_ = stands.early lowp (record {
        fated = fated;
        fate = fate-turns f h h2 old new at number x op came.state t w (Apart f h old w) (Apart f h2 new w) left_on own up one_old e.fate;
        content = common-of came.state came.shown;
        story = story-turns f h h2 old new at number x op came.state t runs (ToldBefore mt terms setup H w y sure due p f i byte) (ToldBefore mt terms setup H w y sure due p f i byte) told_
            (λ n z machine o other u k. k) e.story;
        owned = came.owned_;
      })

      -- another one
      told-other : x ≢ w → (machine : Machine) → came.state ≡ Busy machine → ToldBefore mt terms setup H w y sure due p f i byte number x machine op
      told-other off machine is =
          let now = subst ShownB is came.shown in (
            now.0 ∙ kind_is,
            tale-map f ThePlan.t (Before_ x) machine (λ m z. tt) (λ z. z) (λ file offset bytes z. z.0) (λ file z. (z.0, λ same. absurd (off same))) (λ file size upto z. z) new.shelf.seq new.shelf.back
                new.shelf.order now.1.tale,
          )

      -- its bytes have come in
      came-in : (same : x ≡ w) → KnownBy (One nx (length h2)) q0 f i byte (q0 + 1) ⊥ new.shelf.seq new.shelf.back → GuardBy mt terms setup H w y sure due p f i byte (q0 + 1) ⊥ h2 new
          → ((machine : Machine) → came.state ≡ Busy machine → ToldAfter mt terms setup H w y sure due p f i byte (q0 + 1) number x machine op) → PhaseAt h2 new
      came-in same d guard own =
          flown-on h2 new (q0 + 1) q0 nx lowp (subst (λ (z : ℕ). z < length h2) same under.before) next d guard fated
          (story-turns f h h2 old new at number x op came.state t runs (ToldBefore mt terms setup H w y sure due p f i byte) (ToldAfter mt terms setup H w y sure due p f i byte (q0 + 1)) own
          (λ n z machine o other u told_. others_ n z machine o other u told_) e.story) came.owned_
        where
          others_ : (n z : ℕ) (machine : Machine) (o : Op) → n ≢ number → UnderWay h n z (length h) o → ToldBefore mt terms setup H w y sure due p f i byte n z machine o
              → ToldAfter mt terms setup H w y sure due p f i byte (q0 + 1) n z machine o
          others_ n z machine o other u told_ = (
            told_.0,
            λ is_w. absurd (off is_w),
            has-map f (Before_ z) (After_ z (q0 + 1)) machine (λ m k is_s. absurd (early_ is_s)) (λ k is_s. early_ is_s) (λ file offset bytes k. (k, off)) (λ file k. k.0) (λ file size upto k. k) told_.1,
          )
            where
              off : z ≢ w
              off is_w =
                  let u2 = t.on n z o other u in
                  let at_z = at-on H h2 rest split_ z (Began n u2.line o) u2.began in
                  other (began-same n u2.line number under.line o op (At-one H w (Began n u2.line o) (Began number under.line op) (subst (λ (v : ℕ). At H v (Began n u2.line o)) is_w at_z)
                  (subst (λ (v : ℕ). At H v (Began number under.line op)) same began-here))).0

              early_ : z ≡ length H → ⊥
              early_ is_s =
                  let b = u.before in
                  let long = length-append h2 rest in
                  let all = ap (λ (k : List Entry). length k) split_ in
                  omega (arith, b, shorter, long, all, is_s)

      -- ---- the write

      module _ (same : x ≡ w) (writer : IsWriter c.opW) where
        write-kind : kind ≡ 1
        write-kind = kind_is ∙ kind-writer number op (subst IsWriter (sym (write-op number x under.line op began-here same)) writer)

        write-of : OfOp H x IsWriter
        write-of l k o at_o = subst IsWriter (sym (write-op l x k o at_o same)) writer

        told-write : (machine : Machine) → came.state ≡ Busy machine → ToldBefore mt terms setup H w y sure due p f i byte number x machine op
        told-write machine is =
            let now = subst ShownB is came.shown in (
              now.0 ∙ kind_is,
              λ r b o. write-has f (Unit {0}) (Unit {0}) ThePlan.t (Before_ x) new.shelf.seq new.shelf.back new.shelf.order r b o machine (now.0 ∙ write-kind) (λ file offset bytes z. z.0) now.1.tale,
            )

        write-next : (st : State) → came.state ≡ st → PhaseAt h2 new
        write-next (Busy m) is = still-early (λ other value done. absurd (state-done (answers.Done value) m (sym done ∙ is))) told-write
        write-next (Over (answers.Refused fault)) is = still-early (λ other value done. absurd (done-refused value fault (over-one (answers.Refused fault) (answers.Done value) (sym is ∙ done)))) told-write
        write-next (Over (answers.Done value)) is =
            let sh = subst ShownB is came.shown in
            came-in same ((sh.wrote write-kind value refl).1 same (inl write-of)) (inl (guard_in same writer)) (λ machine busy_is. absurd (state-done (answers.Done value) machine (sym is ∙ busy_is)))

      -- ---- the put

      module _ (same : x ≡ w) (three : kind ≡ 3) where
        -- it isn't at its own save, or at that of another file
        told-put : (machine : Machine) → came.state ≡ Busy machine → ((z : Saving) → own_save machine ≡ Some z → f ≢ tgt) → ToldBefore mt terms setup H w y sure due p f i byte number x machine op
        told-put machine is off =
            let now = subst ShownB is came.shown in (
              now.0 ∙ kind_is,
              λ r b o. put-has f (Unit {0}) (Unit {0}) ThePlan.t (Before_ x) new.shelf.seq new.shelf.back new.shelf.order r b o machine (now.0 ∙ three) (λ none file offset bytes z. z.0)
                  (λ z own k. (tt, (k.1.0, λ one e. off z own (e ∙ k.1.1 three)), λ here. tt)) now.1.tale,
            )

        -- it is at its own save, of the file
        told-own : f ≡ tgt → (machine : Machine) → came.state ≡ Busy machine → AtSave (own_save machine) → ToldAfter mt terms setup H w y sure due p f i byte (q0 + 1) number x machine op
        told-own here machine is own =
            let now = subst ShownB is came.shown in (
              now.0 ∙ kind_is,
              λ one. (own.0, own.1, named machine own now.1.tale),
              λ r b o. put-has f (Unit {0}) (Unit {0}) ThePlan.t (After_ x (q0 + 1)) new.shelf.seq new.shelf.back new.shelf.order r b o machine (now.0 ∙ three)
                  (λ none file offset bytes z. absurd (let no_way : None ≡ Some own.0 = sym none ∙ own.1 in cc))
                  (λ z its k. (tt, k.1.0, λ file is_s. absurd (not-end h2 rest split_ number x op t.own is_s))) now.1.tale,
            )
          where
            named : (machine : Machine) (own : AtSave (own_save machine)) → JobHas (told f (Unit {0}) ThePlan.t) machine new.shelf.seq new.shelf.back new.shelf.order → Names f (q0 + 1) own.0
            named machine own h =
                let k = own-has (told f (Unit {0}) ThePlan.t) machine own.0 own.1 new.shelf.seq new.shelf.back new.shelf.order h in
                let its : own.0.file ≡ f = k.1.1 three ∙ sym here in
                (its, k.2 (sym its) same (inr (three, here)))

        -- it is under way
        put-runs : (machine : Machine) → came.state ≡ Busy machine → Fate h2 new w ⊥
        put-runs machine is =
            busy at number machine op (t.but.here ∙ ap (λ (st : State). Some (record { number = number; state = st })) is) (subst (λ (z : ℕ). UnderWay h2 number z (length h2) op) same t.own)

        put-w : OfOp H w IsPut
        put-w lane line o at_o =
            subst IsPut (op-at w number under.line lane line op o (subst (λ (z : ℕ). At H z (Began number under.line op)) same began-here) at_o) (put-kind number op (sym kind_is ∙ three))

        put-done : w ≡ x → (value : Value) → came.state ≡ Over (answers.Done value) → Apart f h2 new w
        put-done other value done = elsewhere same three value done

        busy-put : (m : Machine) → came.state ≡ Busy m → (own : Option Saving) → own_save m ≡ own → (f ≡ tgt) ⊎ (f ≢ tgt) → PhaseAt h2 new
        busy-put m is own own_is (inr off) = still-early put-done (λ machine busy_is. told-put machine busy_is (λ z its. off))
        busy-put m is None own_is (inl here) = still-early put-done (λ machine busy_is. told-put machine busy_is (λ z its.
            absurd (let no_way : None ≡ Some z = sym own_is ∙ ap own_save (busy-is m machine (sym is ∙ busy_is)) ∙ its in cc)))
        busy-put m is (Some z) own_is (inl here) =
            let now = subst ShownB is came.shown in
            came-in same ((now.1.own z own_is).1 same (inr (three, here))) (inr (put-w, put-runs m is))
            (λ machine busy_is. told-own here machine busy_is (z, sym (ap own_save (busy-is m machine (sym is ∙ busy_is))) ∙ own_is))

        put-next : (st : State) → came.state ≡ st → PhaseAt h2 new
        put-next (Busy m) is = busy-put m is (own_save m) refl (same-or tgt f)
        put-next (Over answer) is = still-early put-done (λ machine busy_is. absurd (state-done answer machine (sym is ∙ busy_is)))

      pub before-next : PhaseAt h2 new
      before-next = by (nat_eq x w) refl
        where
          of : x ≡ w → WritesIt terms H w y f c.opW → PhaseAt h2 new
          of same (of_slot writer its) = write-next same writer came.state refl
          of same (of_last path offset bytes op_is call names last) =
              put-next same (kind_is ∙ kind-put number op path offset bytes (write-op number x under.line op began-here same ∙ op_is)) came.state refl

          by : (b : Bool) → nat_eq x w ≡ b → PhaseAt h2 new
          by true d = of (eqb-true x w d) c.wrote
          by false d = still-early (λ same. absurd (eqb-false x w d (sym same))) (told-other (eqb-false x w d))

    -- ---- a step from then on

    module _ (a : Family) (since : a.Since (length h2)) (n : ℕ) (At_ : ℕ → Type 0) (began_w : w < length h2) (not : AnsweredBefore H x w → ⊥) (tgt : List ℕ) where
      low-x : x < p
      low-x = let b = under.before in omega (arith, b, lowp)

      abbrev pub TurnedAfter : ℕ → Type 0
      TurnedAfter z = (k : ℕ) → a.Fresh k z

      pub closed-file : kind ≡ 5 → (file : List ℕ) → Saving_ terms.modes H x file → file ≡ f → ClosesIt terms.modes H x f
      closed-file = closes-file mt terms.modes terms.origin H w (length H) p p f i byte wsize some number x under.line op began-here q0 a (length h2) since n At_ (uncut x) low-x not kind kind_is

      x-end : x ≡ length H → ⊥
      x-end same = not-end h2 rest split_ number x op under same

      pub other-file : (kind ≡ 3 → ⊥) → (file : List ℕ) → f ≢ file → Saving_ terms.modes H x file → x ≡ length H → ⊥
      other-file nay file off of same = x-end same

      pub no-mark : x ≡ length H → (k : ℕ) → a.Made k → At_ k
      no-mark same k made = absurd (x-end same)

      -- where a close or a put gives the byte up, unless it was made stable
      abbrev pub ClosesBy : Type 0 → Type 0
      ClosesBy Drop = kind ≡ 5 → (file : List ℕ) → Saving_ terms.modes H x file → file ≡ f → (IsOpen new.shelf.opens f → ⊥) → Drop ⊎ Evident a

      abbrev pub PutsBy : Type 0 → Type 0 → Type 0
      PutsBy Drop Lone = kind ≡ 3 → (IsOpen new.shelf.opens f → ⊥) → Lone → Drop ⊎ Evident a

      abbrev TaleAfter : Tale
      TaleAfter = after-tale terms.modes terms.origin H w (length H) f i byte wsize kind x q0 a (length h2) since new.shelf n At_ tgt

      abbrev pub PlanAfter : (Drop Lone : Type 0) → ClosesBy Drop → PutsBy Drop Lone → Plan f wsize kind q0 TurnedAfter
      PlanAfter Drop Lone closes_ puts_ = after-plan terms.modes terms.origin H w (length H) f i byte wsize kind x q0 a (length h2) since new.shelf n At_ tgt no-mark other-file Drop Lone closes_ puts_

      -- what is told of it as its step begins
      pub to-plan : (machine : Machine) → job_kind machine ≡ kind → JobAims machine tgt → Has f (After_ x n) machine
          → (q : ℕ) (b : Pending) (o : List LaneFile) → JobHas (told f (Unit {0}) TaleAfter) machine q b o
      to-plan machine same aims h q b o =
          subst (λ (z : ℕ). JobHas (told f (Unit {0}) (aimed z tgt plan-base)) machine q b o) same
          (aimed-has f (Unit {0}) plan-base q b o tgt machine aims
          (has-map f (After_ x n) plan-base machine (λ m z. z) (λ z is. absurd (z is)) (λ file offset bytes z. z) (λ file z. z) (λ file size upto z. z) h q b o))
        where
          plan-base : Tale
          plan-base = after-base terms.modes terms.origin H w (length H) f i byte wsize kind x q0 a (length h2) since new.shelf n At_ tgt

      module _ (Drop Lone : Type 0) (closes_ : ClosesBy Drop) (puts_ : PutsBy Drop Lone)
          (came : Came_ f wsize some number least most base kind q0 TurnedAfter (PlanAfter Drop Lone closes_ puts_) old.lanes at new) (t : Turns f h h2 old new at number x op came.state)
          (stays : x ≡ w → (machine : Machine) → came.state ≡ Busy machine → OwnAt (Names f n) (own_save machine))
          (story : Story (ToldAfter mt terms setup H w y sure due p f i byte n) h old) where
        abbrev ShownA : State → Type 0
        ShownA st =
            Shown f wsize some number least most base came.owner (PlanAfter Drop Lone closes_ puts_).C (PlanAfter Drop Lone closes_ puts_).D (PlanAfter Drop Lone closes_ puts_).E (PlanAfter Drop Lone closes_ puts_).t kind st new.shelf.seq new.shelf.back new.shelf.order

        pub after-story : Story (ToldAfter mt terms setup H w y sure due p f i byte n) h2 new
        after-story = story-turns f h h2 old new at number x op came.state t runs (ToldAfter mt terms setup H w y sure due p f i byte n) (ToldAfter mt terms setup H w y sure due p f i byte n) own
            (λ m z machine o other u told_. told_) story
          where
            on : (machine : Machine) → job_kind machine ≡ kind → JobHas (told f (Unit {0}) (PlanAfter Drop Lone closes_ puts_).t) machine new.shelf.seq new.shelf.back new.shelf.order → Has f (After_ x n) machine
            on machine same h = by (nat_eq kind 3) refl
              where
                by : (b : Bool) → nat_eq kind 3 ≡ b → Has f (After_ x n) machine
                by true is = λ q b o.
                    put-has f (Unit {0}) (Unit {0}) (PlanAfter Drop Lone closes_ puts_).t (After_ x n) new.shelf.seq new.shelf.back new.shelf.order q b o machine (same ∙ eqb-true kind 3 is)
                    (λ none file offset bytes k. k.0) (λ z own k. (tt, k.1.0, k.2)) h
                by false is = tale-map f (PlanAfter Drop Lone closes_ puts_).t (After_ x n) machine (λ m k. k) (λ k one. x-end one) (λ file offset bytes k. k.0) (λ file k. k.0)
                    (λ file size upto k. k) new.shelf.seq new.shelf.back new.shelf.order h

            own : (machine : Machine) → came.state ≡ Busy machine → ToldAfter mt terms setup H w y sure due p f i byte n number x machine op
            own machine is =
                let now = subst ShownA is came.shown in
                (now.0 ∙ kind_is, (λ same. stays same machine is), on machine now.0 now.1.tale)

      -- ---- where it never flew, and where it did

      -- from its bytes on, before and after the step
      pub landed-unsent : ((k : ℕ) → Fresh h2 k nx)
          → (KnownBy (One nx (length h2)) q0 f i byte n ⊥ new.shelf.seq new.shelf.back × (GuardBy mt terms setup H w y sure due p f i byte n (Evident (One nx (length h2))) h2 new ⊎ Evident (One nx (length h2)))) ⊎ Touching terms.modes terms.origin H w (length H) p p f i h2 new → Fated sure ⊥
          → Story (ToldAfter mt terms setup H w y sure due p f i byte n) h2 new → Owned f new.lanes new.shelf.seq new.shelf.back new.shelf.order → PhaseAt h2 new
      landed-unsent next (inl (known, inl guard)) fate story own =
          flown-on h2 new n q0 nx lowp began_w next known (guard-map n h2 new (Evident (One nx (length h2))) ⊥ (λ made. made.2) guard) fate story own
      landed-unsent next (inl (known, inr made)) fate story own = absurd made.2
      landed-unsent next (inr touch) fate story own = stands.touched touch

      pub landed-since : (calls : List (ℕ × Waiting Purpose)) → ((k : ℕ) (v : List ℕ) → Wrote f i byte h2 calls k v → Wrote f i byte h2 new.calls.calls k v)
          → (KnownBy (Two h2 calls) q0 f i byte n ⊥ new.shelf.seq new.shelf.back × (GuardBy mt terms setup H w y sure due p f i byte n (Evident (Two h2 calls)) h2 new ⊎ Evident (Two h2 calls))) ⊎ Touching terms.modes terms.origin H w (length H) p p f i h2 new → Fated sure (StableTwo mt terms setup H w y sure due p f i byte h2)
          → Story (ToldAfter mt terms setup H w y sure due p f i byte n) h2 new → Owned f new.lanes new.shelf.seq new.shelf.back new.shelf.order → PhaseAt h2 new
      landed-since calls wrotes (inr touch) fate story own = stands.touched touch
      landed-since calls wrotes (inl (known, guard)) fate story own = stands.since lowp n (record {
        began = began_w;
        guard = guard;
        fate = fate;
        content = record {
          common = common-from q0 0 new.shelf.seq new.shelf.back (omega arith) known.common;
          low = known.low;
          stage = known-more i byte n (Two h2 calls).Fresh (Two h2 new.calls.calls).Fresh (Two h2 calls).Since (Two h2 new.calls.calls).Since (Two h2 calls).Wrote (Two h2 new.calls.calls).Wrote
              (Two h2 calls).Made (Two h2 new.calls.calls).Made ⊥ ⊥ (of_file f new.shelf.back) (λ k xid flown is same x. x) (λ k st x. x) wrotes (λ k x. x) (λ none. none) known.stage;
        };
        story = story;
        owned = own;
      })

      -- ---- what guards the byte as the step begins, and so what the step gives up

      -- it was made stable; or a slot holds the file; or a close that removes it is ahead; or the put that wrote it is at the file
      pub data Guarding : Type 0 where
        evident_ : Evident a → Guarding
        open_ : IsOpen old.shelf.opens f → Guarding
        ahead_ : IsAhead f old.lanes old.shelf.order → Guarding
        loose_ : PutRuns mt terms setup H w y sure due p f i byte h old → Guarding

      -- it isn't known to be stable
      abbrev pub Unmade : Guarding → Type 0
      Unmade (evident_ e) = ⊥
      Unmade (open_ o) = Unit {0}
      Unmade (ahead_ o) = Unit {0}
      Unmade (loose_ o) = Unit {0}

      abbrev pub Dropped : Guarding → Type 0
      Dropped gd = (Unmade gd × ClosesIt terms.modes H x f × (IsOpen new.shelf.opens f → ⊥)) ⊎ ((kind ≡ 3) × (IsAhead f old.lanes old.shelf.order ⊎ (x ≡ w)))

      pub closes-by : (gd : Guarding) → ClosesBy (Dropped gd)
      closes-by (evident_ e) is file of same shut = inr e
      closes-by (open_ o) is file of same shut = inl (inl (tt, closed-file is file of same, shut))
      closes-by (ahead_ o) is file of same shut = inl (inl (tt, closed-file is file of same, shut))
      closes-by (loose_ o) is file of same shut = inl (inl (tt, closed-file is file of same, shut))

      -- no other put is at the file
      abbrev pub Sole : Type 0
      Sole = list_any (is_other number f) new.shelf.puts ≡ false

      abbrev pub Crowds : Type 0
      Crowds = PutRuns mt terms setup H w y sure due p f i byte h old → x ≢ w → Sole → ⊥

      pub puts-by : (gd : Guarding) → (kind ≡ 3 → IsOpen old.shelf.opens f → IsOpen new.shelf.opens f) → Crowds → PutsBy (Dropped gd) Sole
      puts-by (evident_ e) still crowds is shut lone = inr e
      puts-by (open_ o) still crowds is shut lone = absurd (shut (still is o))
      puts-by (ahead_ p) still crowds is shut lone = inl (inr (is, inl p))
      puts-by (loose_ p) still crowds is shut lone = by (nat_eq x w) refl
        where
          by : (b : Bool) → nat_eq x w ≡ b → Dropped (loose_ p) ⊎ Evident a
          by true e = inl (inr (is, inr (eqb-true x w e)))
          by false e = absurd (crowds p (eqb-false x w e) lone)

      -- beside a close that is ahead, a put gives nothing up
      pub closes-none : kind ≡ 3 → ClosesBy ⊥
      closes-none three five file of same shut = absurd (let no_way : 3 ≡ 5 = sym three ∙ five in omega (arith, no_way))

      pub puts-none : PutsBy ⊥ ⊥
      puts-none is shut lone = absurd lone

      abbrev pub Outcome_ : Type 0
      Outcome_ = KnownBy a q0 f i byte n ⊥ new.shelf.seq new.shelf.back ⊎ Touching terms.modes terms.origin H w (length H) p p f i h2 new

      pub ahead-known : (three : kind ≡ 3) (owner : Option (Owner f number base)) (lanes : List Lane) (place : ℕ)
          → (l : Landed f wsize some number least most base owner (PlanAfter ⊥ ⊥ (closes-none three) puts-none).C (PlanAfter ⊥ ⊥ (closes-none three) puts-none).D
          (PlanAfter ⊥ ⊥ (closes-none three) puts-none).E (PlanAfter ⊥ ⊥ (closes-none three) puts-none).t lanes place kind new)
          → ((answer : Answer) → l.state ≡ Over answer → IsFixed h2 new x answer) → Outcome_
      ahead-known three owner lanes place l fixed =
          looks mt terms.modes terms.origin H w (length H) p p f i byte wsize some number x under.line op began-here q0 a (length h2) since n At_ (uncut x) low-x not kind kind_is h2 new new.shelf.seq new.shelf.back
          least most base owner new.shelf.order tgt (PlanAfter ⊥ ⊥ (closes-none three) puts-none).C (PlanAfter ⊥ ⊥ (closes-none three) puts-none).D (PlanAfter ⊥ ⊥ (closes-none three) puts-none).E ⊥ (λ z. z) (λ z. z) (λ z. z)
          l.state l.shown fixed (λ nay zero d. d) (λ fault is d. absurd d)

      drop-none : (gd : Guarding) → (IsSaver op → ⊥) → kind ≡ 0 → Dropped gd → ⊥
      drop-none gd nay zero_ (inl (un, ci, shut)) =
          nay (subst IsSaver (op-at x ci.1.lane ci.1.line number under.line (ops.Close ci.0) op ci.1.began began-here) tt)
      drop-none gd nay zero_ (inr (three, k)) = let no_way : 3 ≡ 0 = sym three ∙ zero_ in omega (arith, no_way)

      module _ (gd : Guarding) (still : kind ≡ 3 → IsOpen old.shelf.opens f → IsOpen new.shelf.opens f) (crowds : Crowds)
          (came : Came_ f wsize some number least most base kind q0 TurnedAfter (PlanAfter (Dropped gd) Sole (closes-by gd) (puts-by gd still crowds)) old.lanes at new) (t : Turns f h h2 old new at number x op came.state)
          (closed : Unmade gd → (fault : Fault) → came.state ≡ Over (answers.Refused fault) → ClosesIt terms.modes H x f → (IsOpen new.shelf.opens f → ⊥) → Touching terms.modes terms.origin H w (length H) p p f i h2 new)
          (beside : kind ≡ 3 → IsAhead f old.lanes old.shelf.order → Outcome_) where
        given_ : (fault : Fault) → came.state ≡ Over (answers.Refused fault) → Dropped gd → Outcome_
        given_ fault is (inl (un, ci, shut)) = inr (closed un fault is ci shut)
        given_ fault is (inr (three, inl ahead)) = beside three ahead
        given_ fault is (inr (three, inr same)) = inr (doomed x (inl same) fault (ready-is f h h2 old new at number x op came.state t (answers.Refused fault) is))

        pub kept-known : Outcome_
        kept-known =
            looks mt terms.modes terms.origin H w (length H) p p f i byte wsize some number x under.line op began-here q0 a (length h2) since n At_ (uncut x) low-x not kind kind_is h2 new new.shelf.seq new.shelf.back
            least most base came.owner new.shelf.order tgt (PlanAfter (Dropped gd) Sole (closes-by gd) (puts-by gd still crowds)).C (PlanAfter (Dropped gd) Sole (closes-by gd) (puts-by gd still crowds)).D
            (PlanAfter (Dropped gd) Sole (closes-by gd) (puts-by gd still crowds)).E (Dropped gd) (λ z. z) (λ z. z) (λ z. z) came.state came.shown (ready-is f h h2 old new at number x op came.state t) (drop-none gd) given_

      -- ---- the put itself, whose save ends well

      module _ (same : x ≡ w) (three : kind ≡ 3) (here : f ≡ tgt) where
        abbrev pub PlanPut : Plan f wsize kind q0 TurnedAfter
        PlanPut = after-plan terms.modes terms.origin H w x f i byte wsize kind x q0 a (length h2) since new.shelf n a.Made tgt (λ one k made. made) (λ nay file off of one. nay three) (Unit {0}) (Unit {0})
            (λ five file of one shut. inl tt) (λ is shut lone. inl tt)

        -- what is told of it as its step begins
        pub put-tale : (machine : Machine) → JobAims machine tgt → OwnAt (Names f n) (own_save machine) → Has f (After_ x n) machine → (q : ℕ) (b : Pending) (o : List LaneFile)
            → JobHas (told f (Unit {0}) PlanPut.t) machine q b o
        put-tale machine aims own h q b o =
            let k = own-has (told f (Unit {0}) (After_ x n)) machine own.0 own.1 q b o (h q b o) in
            has-own (told f (Unit {0}) PlanPut.t) own.0 q b o (tt, (k.1, λ is. sym (aims-own machine tgt own.0 aims own.1)), λ file one. own.2.1) machine own.1

        pub put-made : (came : Came_ f wsize some number least most base kind q0 TurnedAfter PlanPut old.lanes at new) (value : Value) → came.state ≡ Over (answers.Done value) → Evident a
        put-made came value is =
            of
            (((subst (λ (st : State). Shown f wsize some number least most base came.owner PlanPut.C PlanPut.D PlanPut.E PlanPut.t kind st new.shelf.seq new.shelf.back new.shelf.order) is came.shown).put three value refl).1
            refl)
          where
            of : Evident a ⊎ (Across terms.modes terms.origin H w x f i ⊎ ((kind ≡ 3) × (f ≢ tgt))) → Evident a
            of (inl e) = e
            of (inr (inl across)) = absurd (across.0 same)
            of (inr (inr off)) = absurd (off.1 here)

      -- ---- a close whose save of the file ends well, with the byte's number

      closer-op : (ci : ClosesIt terms.modes H x f) → op ≡ ops.Close ci.0
      closer-op ci = op-at x number under.line ci.1.lane ci.1.line op (ops.Close ci.0) began-here ci.1.began

      pub closer-file : (ci : ClosesIt terms.modes H x f) → (kind ≡ 3 → ⊥) → (file : List ℕ) → f ≢ file → Saving_ terms.modes H x file → x ≡ x → ⊥
      closer-file ci nay file off of same =
          off (files-one x (ops.Close ci.0) f file ci.1 (of ci.1.lane ci.1.line (ops.Close ci.0) ci.1.began tt))

      abbrev pub PlanOwn : ClosesIt terms.modes H x f → Plan f wsize kind q0 TurnedAfter
      PlanOwn ci = after-plan terms.modes terms.origin H w x f i byte wsize kind x q0 a (length h2) since new.shelf n a.Made tgt (λ same k made. made) (closer-file ci) (Unit {0}) (Unit {0})
          (λ five file of same shut. inl tt) (λ three shut lone. inl tt)

      own-made : (ci : ClosesIt terms.modes H x f) → kind ≡ 5 → Evident a ⊎ (Across terms.modes terms.origin H w x f i ⊎ ((kind ≡ 3) × (f ≢ tgt))) → Evident a
      own-made ci five (inl e) = e
      own-made ci five (inr (inr k)) = absurd (let no_way : 3 ≡ 5 = sym k.0 ∙ five in omega (arith, no_way))
      own-made ci five (inr (inl across)) = absurd (by across.1)
        where
          by : Comes terms.modes terms.origin H x f i → ⊥
          by (by_write u wr of) = of ci.1.lane ci.1.line (ops.Close ci.0) ci.1.began
          by (by_put u wr of) = of ci.1.lane ci.1.line (ops.Close ci.0) ci.1.began

      -- what is told of it as its step begins
      pub own-tale : (ci : ClosesIt terms.modes H x f) → kind ≡ 5 → (k : CloseFile) (z : Saving) → save_in k.state ≡ Some z → n ≤ z.upto → Has f (After_ x n) (machines.File (files.Close k))
          → (q : ℕ) (b : Pending) (o : List LaneFile) → JobHas (told f (Unit {0}) (PlanOwn ci).t) (machines.File (files.Close k)) q b o
      own-tale ci five k z saves enough h q b o = by k.state saves (h q b o)
        where
          not-put : kind ≡ 3 → ⊥
          not-put three = let no_way : 3 ≡ 5 = sym three ∙ five in omega (arith, no_way)

          one : (a b : Saving) → Some a ≡ Some b → a ≡ b
          one a b e = cc

          mark : (y : Saving) → Some y ≡ Some z → n ≤ y.upto
          mark y is = subst (λ (u : Saving). n ≤ u.upto) (sym (one y z is)) enough

          by : (st : Closing) → save_in st ≡ Some z → CloseHas (told f (Unit {0}) (After_ x n)).PA (told f (Unit {0}) (After_ x n)).KA (After_ x n).X (After_ x n).B st q b o
              → CloseHas (told f (Unit {0}) (PlanOwn ci).t).PA (told f (Unit {0}) (PlanOwn ci).t).KA (PlanOwn ci).t.X (PlanOwn ci).t.B st q b o
          by closings.Idle is t = absurd (let no_way : None ≡ Some z = is in cc)
          by (closings.Queued y) is t = (tt, (t.1, λ three. absurd (not-put three)), λ same mine. mark y is)
          by (closings.Saves y) is t = (tt, (t.1, λ three. absurd (not-put three)), λ same mine. mark y is)
          by (closings.ToRemove r) is t = absurd (let no_way : None ≡ Some z = is in cc)
          by (closings.Removing r) is t = absurd (let no_way : None ≡ Some z = is in cc)

      module _ (ci : ClosesIt terms.modes H x f) (five : kind ≡ 5) (came : Came_ f wsize some number least most base kind q0 TurnedAfter (PlanOwn ci) old.lanes at new) where
        -- it has ended, or it removes the file
        pub saved-ends : (value : Value) → came.state ≡ Over (answers.Done value) → Evident a
        saved-ends value is =
            own-made ci five
            (((subst (λ (st : State). Shown f wsize some number least most base came.owner (PlanOwn ci).C (PlanOwn ci).D (PlanOwn ci).E (PlanOwn ci).t kind st new.shelf.seq new.shelf.back new.shelf.order) is
            came.shown).saved (inr five) value refl).1 refl)

        pub saved-goes : (d : CloseFile) (r : Removal) → came.state ≡ Busy (machines.File (files.Close d)) → removal_in d.state ≡ Some r → r.refusal ≡ None → Evident a
        saved-goes d r is gone fine =
            own-made ci five (by d.state gone
            (subst (λ (st : State). Shown f wsize some number least most base came.owner (PlanOwn ci).C (PlanOwn ci).D (PlanOwn ci).E (PlanOwn ci).t kind st new.shelf.seq new.shelf.back new.shelf.order) is
            came.shown).1.tale)
          where
            one : (a b : Removal) → Some a ≡ Some b → a ≡ b
            one a b e = cc

            by : (st : Closing) → removal_in st ≡ Some r
                → CloseHas (told f (Unit {0}) (PlanOwn ci).t).PA (told f (Unit {0}) (PlanOwn ci).t).KA (PlanOwn ci).t.X (PlanOwn ci).t.B st new.shelf.seq new.shelf.back new.shelf.order
                → Evident a ⊎ (Across terms.modes terms.origin H w x f i ⊎ ((kind ≡ 3) × (f ≢ tgt)))
            by closings.Idle e t = absurd (let no_way : None ≡ Some r = e in cc)
            by (closings.Queued y) e t = absurd (let no_way : None ≡ Some r = e in cc)
            by (closings.Saves y) e t = absurd (let no_way : None ≡ Some r = e in cc)
            by (closings.ToRemove y) e t = t.1 (ap (λ (u : Removal). u.refusal) (one y r e) ∙ fine) refl
            by (closings.Removing y) e t = t.1 (ap (λ (u : Removal). u.refusal) (one y r e) ∙ fine) refl
