-- What is held of a session after each part of its work.
use Rattle.std.proofs.Common.{◌≡◌, ◌≤◌, ◌<◌, ◌+◌, ◌-◌, ◌*◌, ◌^◌, inl, inr, ℕ, zero, suc, List, [], ◌∷◌, ◌++◌, length, remove, slice_get, slice_set, Option, Some, None, option_map, max, refl, sym, ap, subst, ◌∙◌, arith}
use Rattle.world_model.specs.declared.answer.Answer.{Answer}
use Rattle.world_model.specs.declared.answer.Answer.TheVariants as answers
use Rattle.world_model.specs.declared.answer.Fault.TheVariants as faults
use Rattle.rpc_retry.specs.Sound.{IsSound}
use Rattle.nfs_script.specs.declared.script.ScriptLine.{ScriptLine}
use Rattle.op_machines.specs.declared.machine.Machine.{Machine}
use Rattle.client_core.specs.declared.lane.Lane.{Lane}
use Rattle.client_core.specs.declared.lane.State.TheVariants.{Over}
use Rattle.client_core.specs.Numbers.{IsOther, IsIdle, AreLanes, numbers_of}
use Rattle.client_core.specs.Steps.{Begins, AnswersBy}
use Rattle.client_core.specs.View.{View}
use Rattle.core_facts.proofs.Lists.{map-remove, to-map}
use Rattle.core_facts.proofs.Cases.{AnsweredNow, answered_now}
use Rattle.lane_session.specs.declared.lanes.Place.{Place}
use Rattle.lane_session.specs.declared.running.Session.{Session}
use Rattle.lane_session.specs.Holding.{IsHeld, IsLive, IsSeated, Lessens, calls_left}
use Rattle.lane_session.specs.Places.{PlaceAt, FoundAt, Seeks, Ends, lines_left, passed, one_if}
use Rattle.lane_session.specs.Running.{LineIs}
use Rattle.lane_session.specs.Statuses.{after_answer, IsSessionStatus}
use Rattle.lane_session.proofs.Alive.{alive-rests, alive-answers}
use Rattle.lane_session.proofs.Cores.{Keeps, begins-so, other-push, other-remove, once-remove}
use Rattle.lane_session.proofs.Placing.{get-set}
use Rattle.lane_session.proofs.Sounds.{sound-begins}

-- ---- lists of places

pub length-set : (ps : List Place) (i : ℕ) (q : Place) → length (slice_set ps i q) ≡ length ps
length-set [] i q = refl
length-set (p ∷ ps) zero q = refl
length-set (p ∷ ps) (suc i) q = ap suc (length-set ps i q)

pub lines-set : (count : ℕ) (ps : List Place) (i : ℕ) (p q : Place) → slice_get ps i ≡ Some p
    → lines_left count (slice_set ps i q) + (2 * (count - p.next) + one_if p.line) ≡ lines_left count ps + (2 * (count - q.next) + one_if q.line)
lines-set count [] i p q there = absurd (cc)
lines-set count (x ∷ xs) zero p q there =
    let is : x ≡ p = cc in
    subst (λ (y : Place). (2 * (count - q.next) + one_if q.line + lines_left count xs) + (2 * (count - p.next) + one_if p.line) ≡ (2 * (count - y.next) + one_if y.line + lines_left count xs) + (2 * (count - q.next) + one_if q.line)) (sym is) (omega arith)
lines-set count (x ∷ xs) (suc i) p q there = let rest = lines-set count xs i p q there in omega (arith, rest)

pub passed-set : (ps : List Place) (i : ℕ) (p q : Place) → slice_get ps i ≡ Some p → passed (slice_set ps i q) + p.next ≡ passed ps + q.next
passed-set [] i p q there = absurd (cc)
passed-set (x ∷ xs) zero p q there =
    let is : x ≡ p = cc in
    subst (λ (y : Place). (q.next + passed xs) + p.next ≡ (y.next + passed xs) + q.next) (sym is) (omega arith)
passed-set (x ∷ xs) (suc i) p q there = let rest = passed-set xs i p q there in omega (arith, rest)

-- so many lanes passed so many lines at most
pub passed-few : (ps : List Place) (most : ℕ) → ((n : ℕ) (p : Place) → slice_get ps n ≡ Some p → p.next ≤ most) → passed ps ≤ length ps * most
passed-few [] most few = omega arith
passed-few (p ∷ ps) most few =
    let here = few zero p refl in
    let rest = passed-few ps most (λ n q there. few (suc n) q there) in
    let one : length (p ∷ ps) * most ≡ most + length ps * most = omega arith in
    omega (arith, here, rest, one)

pub set-set : (ps : List Place) (i : ℕ) (p q : Place) → slice_set (slice_set ps i p) i q ≡ slice_set ps i q
set-set [] i p q = refl
set-set (x ∷ xs) zero p q = refl
set-set (x ∷ xs) (suc i) p q = ap (λ (t : List Place). x ∷ t) (set-set xs i p q)

pub get-other : (ps : List Place) (i n : ℕ) (q : Place) → (n ≡ i → ⊥) → slice_get (slice_set ps i q) n ≡ slice_get ps n
get-other [] i n q differs = refl
get-other (x ∷ xs) zero zero q differs = absurd (differs refl)
get-other (x ∷ xs) zero (suc n) q differs = refl
get-other (x ∷ xs) (suc i) zero q differs = refl
get-other (x ∷ xs) (suc i) (suc n) q differs = get-other xs i n q (λ e. differs (ap suc e))

get-own : (ps : List Place) (i : ℕ) (p q : Place) → slice_get ps i ≡ Some p → slice_get (slice_set ps i q) i ≡ Some q
get-own [] i p q there = absurd (cc)
get-own (x ∷ xs) zero p q there = refl
get-own (x ∷ xs) (suc i) p q there = get-own xs i p q there

pub line-of : (lanes : List Place) (lane : ℕ) (line : Option ℕ) (p : Place) → option_map (λ (q : Place). q.line) (slice_get lanes (lane - 1)) ≡ Some line → slice_get lanes (lane - 1) ≡ Some p → p.line ≡ line
line-of lanes lane line p is there = same (sym (ap (option_map (λ (q : Place). q.line)) there) ∙ is)
  where
    same : Some p.line ≡ Some line → p.line ≡ line
    same e = cc

-- ---- a lane that has no line left

pub rested : (script : List ScriptLine) (lane : ℕ) (old : Session) (lanes : List Place) → IsHeld script old → LineIs lane None old → Seeks script lane old.lanes None lanes
    → IsHeld script (record old { lanes = lanes })
rested script lane old lanes held line seeks = record { live = live; seated = seated; status = held.status; alive = alive-rests script lane old lanes seeks held.alive }
  where
    l : IsLive old
    l = held.live

    live : IsLive (record old { lanes = lanes })
    live = record { calls = l.calls; some = l.some; few = l.few; dropped = l.dropped; undropped = l.undropped }

    s : IsSeated script old
    s = held.seated

    seated : IsSeated script (record old { lanes = lanes })
    seated = record {
      sixteen = ap length seeks.is ∙ length-set old.lanes (lane - 1) (record { next = seeks.at; line = seeks.before.line }) ∙ s.sixteen;
      idle = λ n p there none. idle n p (subst (λ (t : List Place). slice_get t n ≡ Some p) seeks.is there) none;
      within = λ n p there. within n p (subst (λ (t : List Place). slice_get t n ≡ Some p) seeks.is there);
      begun = let b = s.begun in
          let e = passed-set old.lanes (lane - 1) seeks.before (record { next = seeks.at; line = seeks.before.line }) seeks.there in
          let after = seeks.next.after in
          subst (λ (t : List Place). old.core.begun ≤ old.earlier + passed t) (sym seeks.is) (omega (arith, b, e, after));
      room = s.room;
    }
      where
        idle : (n : ℕ) (p : Place) → slice_get (slice_set old.lanes (lane - 1) (record { next = seeks.at; line = seeks.before.line })) n ≡ Some p → p.line ≡ None → IsOther (suc n) (numbers_of old.core.lanes)
        idle n p there none = elim (get-set old.lanes (lane - 1) n (record { next = seeks.at; line = seeks.before.line }) p there) [
          | inl e ↦ s.idle n seeks.before (subst (λ (m : ℕ). slice_get old.lanes m ≡ Some seeks.before) (sym e.0) seeks.there) (line-of old.lanes lane None seeks.before line seeks.there)
          | inr e ↦ s.idle n p e.1 none
        ]

        within : (n : ℕ) (p : Place) → slice_get (slice_set old.lanes (lane - 1) (record { next = seeks.at; line = seeks.before.line })) n ≡ Some p → p.next ≤ length script
        within n p there = elim (get-set old.lanes (lane - 1) n (record { next = seeks.at; line = seeks.before.line }) p there) [
          | inl e ↦ subst (λ (q : Place). q.next ≤ length script) (sym e.1) seeks.next.within
          | inr e ↦ s.within n p e.1
        ]

-- where an idle lane may begin
pub may-start : (script : List ScriptLine) (lane : ℕ) (old : Session) (p : Place) → 1 ≤ lane → lane ≤ 16 → IsHeld script old → PlaceAt old.lanes lane p → p.line ≡ None → IsIdle lane old.core.lanes
may-start script lane old p least most held there none = record {
  least = least;
  most = most;
  other = subst (λ (n : ℕ). IsOther n (numbers_of old.core.lanes)) (omega (arith, least)) (held.seated.idle (lane - 1) p there none);
}

-- so many lines were begun at most
pub begun-most : (script : List ScriptLine) (old : Session) → IsHeld script old → old.core.begun ≤ old.earlier + 16 * length script
begun-most script old held =
    let s = held.seated in
    let b = s.begun in
    let p : passed old.lanes ≤ 16 * length script = subst (λ (n : ℕ). passed old.lanes ≤ n * length script) s.sixteen (passed-few old.lanes (length script) (λ n q there. s.within n q there)) in
    omega (arith, b, p)

pub few-begun : (script : List ScriptLine) (old : Session) → IsHeld script old → old.core.begun < 2 ^ 32
few-begun script old held = let b = begun-most script old held in let r = held.seated.room in omega (arith, b, r)

-- ---- a lane that began its next line

module _ (script : List ScriptLine) (lane line place : ℕ) (old : Session) (machine : Machine) (now : ℕ) (core : View) (mid : List Place) where
  pub begun-seated : 1 ≤ lane → IsHeld script old → LineIs lane None old → Seeks script lane old.lanes (Some place) mid → Begins old.core lane machine now core
      → IsSeated script (record old { core = core; lanes = slice_set mid (lane - 1) (record { next = place + 1; line = Some line }) })
  begun-seated least held line_is seeks begins = record {
    sixteen = ap length all ∙ length-set old.lanes (lane - 1) q ∙ s.sixteen;
    idle = λ n p there none. idle n p (subst (λ (t : List Place). slice_get t n ≡ Some p) all there) none;
    within = λ n p there. within n p (subst (λ (t : List Place). slice_get t n ≡ Some p) all there);
    begun = let b = s.begun in
        let e = passed-set old.lanes (lane - 1) seeks.before q seeks.there in
        let after = seeks.next.after in
        let f = found.0 in
        let one = k.begun_is in
        subst (λ (t : List Place). core.begun ≤ old.earlier + passed t) (sym all) (omega (arith, b, e, after, f, one));
    room = s.room;
  }
    where
      s : IsSeated script old
      s = held.seated

      q : Place
      q = record { next = place + 1; line = Some line }

      found : FoundAt script lane seeks.at (Some place)
      found = seeks.found

      all : slice_set mid (lane - 1) q ≡ slice_set old.lanes (lane - 1) q
      all = ap (λ (t : List Place). slice_set t (lane - 1) q) seeks.is ∙ set-set old.lanes (lane - 1) (record { next = seeks.at; line = seeks.before.line }) q

      k : Keeps (numbers_of old.core.lanes ++ lane ∷ []) (old.core.begun + 1) old.core.lost (calls_left old.core) core
      k = begins-so old.core lane machine now core held.live.calls.within begins

      idle : (n : ℕ) (p : Place) → slice_get (slice_set old.lanes (lane - 1) q) n ≡ Some p → p.line ≡ None → IsOther (suc n) (numbers_of core.lanes)
      idle n p there none = elim (get-set old.lanes (lane - 1) n q p there) [
        | inl e ↦ absurd (let no_way : Some line ≡ None = sym (ap (λ (r : Place). r.line) e.1) ∙ none in cc)
        | inr e ↦ subst (IsOther (suc n)) (sym k.numbers_are) (other-push (suc n) lane (numbers_of old.core.lanes) (λ same. e.0 (omega (arith, same, least))) (s.idle n p e.1 none))
      ]

      within : (n : ℕ) (p : Place) → slice_get (slice_set old.lanes (lane - 1) q) n ≡ Some p → p.next ≤ length script
      within n p there = elim (get-set old.lanes (lane - 1) n q p there) [
        | inl e ↦ subst (λ (r : Place). r.next ≤ length script) (sym e.1) (let l = below script place found in omega (arith, l))
        | inr e ↦ s.within n p e.1
      ]
        where
          below : (script : List ScriptLine) (at : ℕ) → FoundAt script lane seeks.at (Some at) → at < length script
          below script at f = inside script at f.1.0 (subst (λ (m : ℕ). slice_get script m ≡ Some f.1.0) (sym f.0) f.1.1)
            where
              inside : (xs : List ScriptLine) (n : ℕ) (x : ScriptLine) → slice_get xs n ≡ Some x → n < length xs
              inside [] n x e = absurd (cc)
              inside (y ∷ ys) zero x e = omega arith
              inside (y ∷ ys) (suc n) x e = let r = inside ys n x e in omega (arith, r)

  pub begun-live : IsHeld script old → Begins old.core lane machine now core → (lanes : List Place) → IsLive (record old { core = core; lanes = lanes })
  begun-live held begins lanes =
      let k = begins-so old.core lane machine now core held.live.calls.within begins in
      record {
        calls = sound-begins old.core lane machine now core begins held.live.calls;
        some = λ some. k.lost_is ∙ held.live.some some;
        few = held.live.few;
        dropped = held.live.dropped;
        undropped = held.live.undropped;
      }

  pub begun-less : IsHeld script old → LineIs lane None old → Seeks script lane old.lanes (Some place) mid → place < length script → Begins old.core lane machine now core
      → Lessens script old (record old { core = core; lanes = slice_set mid (lane - 1) (record { next = place + 1; line = Some line }) })
  begun-less held line_is seeks within begins =
      let q : Place = record { next = place + 1; line = Some line } in
      let all : slice_set mid (lane - 1) q ≡ slice_set old.lanes (lane - 1) q = ap (λ (t : List Place). slice_set t (lane - 1) q) seeks.is ∙ set-set old.lanes (lane - 1) (record { next = seeks.at; line = seeks.before.line }) q in
      let k = begins-so old.core lane machine now core held.live.calls.within begins in
      let e = lines-set (length script) old.lanes (lane - 1) seeks.before q seeks.there in
      let after = seeks.next.after in
      let f : place ≡ seeks.at = seeks.found.0 in
      record {
        tries = record { attempts = refl; dropped = refl };
        calls = k.left_is;
        lines = subst (λ (t : List Place). lines_left (length script) t < lines_left (length script) old.lanes) (sym all) (omega (arith, e, after, f, within));
      }

-- ---- a lane that told its answer

-- the status stays one of its kind
status-more : (n : ℕ) → IsSessionStatus n → IsSessionStatus (max n 1)
status-more n (inl is) = inr (inl (rw is refl))
status-more n (inr (inl is)) = inr (inl (rw is refl))
status-more n (inr (inr is)) = inr (inr (rw is refl))

status-after : (n : ℕ) (a : Answer) → IsSessionStatus n → IsSessionStatus (after_answer n a)
status-after n (answers.Done value) s = s
status-after n (answers.Refused faults.Lost) s = inr (inr refl)
status-after n (answers.Refused (faults.Nfs m)) s = status-more n s
status-after n (answers.Refused (faults.Rpc m)) s = status-more n s
status-after n (answers.Refused (faults.Bad m)) s = status-more n s
status-after n (answers.Refused faults.Spent) s = status-more n s
status-after n (answers.Refused faults.Slot) s = status-more n s
status-after n (answers.Refused faults.Mode) s = status-more n s
status-after n (answers.Refused faults.Kind) s = status-more n s
status-after n (answers.Refused faults.Many) s = status-more n s
status-after n (answers.Refused faults.Memory) s = status-more n s

pub answered-held : (script : List ScriptLine) (lane line : ℕ) (answer : Answer) (old : Session) (core : View) (lanes : List Place) → 1 ≤ lane → AreLanes old.core.lanes → IsHeld script old
    → LineIs lane (Some line) old → AnswersBy old.core lane (Some answer) core → Ends lane old.lanes lanes → IsHeld script (record old { core = core; lanes = lanes; status = after_answer old.status answer })
answered-held script lane line answer old core lanes least numbers held line_is answers ends = record {
  live = live;
  seated = seated;
  status = status-after old.status answer held.status;
  alive = alive-answers lane line answer old core lanes (after_answer old.status answer) least ends.before ends.there (line-of old.lanes lane (Some line) ends.before line_is ends.there) answers ends held.alive;
}
  where
    s : IsSeated script old
    s = held.seated

    q : Place
    q = record { next = ends.before.next; line = None }

    a : AnsweredNow old.core lane answer core
    a = answered_now old.core lane answer core answers

    core_is : core ≡ record old.core { lanes = remove old.core.lanes a.at }
    core_is = a.is.is

    there : slice_get (numbers_of old.core.lanes) a.at ≡ Some lane
    there = to-map (λ (l : Lane). l.number) old.core.lanes a.at (record { number = lane; state = Over a.is.answer }) a.is.there

    now : numbers_of core.lanes ≡ remove (numbers_of old.core.lanes) a.at
    now = ap (λ (v : View). numbers_of v.lanes) core_is ∙ map-remove (λ (l : Lane). l.number) old.core.lanes a.at

    live : IsLive (record old { core = core; lanes = lanes; status = after_answer old.status answer })
    live = record {
      calls = subst (λ (v : View). IsSound v.calls) (sym core_is) held.live.calls;
      some = λ some. ap (λ (v : View). v.lost) core_is ∙ held.live.some some;
      few = held.live.few;
      dropped = held.live.dropped;
      undropped = held.live.undropped;
    }

    idle : (n : ℕ) (p : Place) → slice_get (slice_set old.lanes (lane - 1) q) n ≡ Some p → p.line ≡ None → IsOther (suc n) (remove (numbers_of old.core.lanes) a.at)
    idle n p here none = elim (get-set old.lanes (lane - 1) n q p here) [
      | inl e ↦ subst (λ (m : ℕ). IsOther m (remove (numbers_of old.core.lanes) a.at)) (let i = e.0 in omega (arith, i, least)) (once-remove lane (numbers_of old.core.lanes) a.at numbers.once there)
      | inr e ↦ other-remove (suc n) (numbers_of old.core.lanes) a.at (s.idle n p e.1 none)
    ]

    seated : IsSeated script (record old { core = core; lanes = lanes; status = after_answer old.status answer })
    seated = record {
      sixteen = ap length ends.is ∙ length-set old.lanes (lane - 1) q ∙ s.sixteen;
      idle = λ n p here none. subst (IsOther (suc n)) (sym now) (idle n p (subst (λ (t : List Place). slice_get t n ≡ Some p) ends.is here) none);
      within = λ n p here. elim (get-set old.lanes (lane - 1) n q p (subst (λ (t : List Place). slice_get t n ≡ Some p) ends.is here)) [
        | inl e ↦ subst (λ (r : Place). r.next ≤ length script) (sym e.1) (s.within (lane - 1) ends.before ends.there)
        | inr e ↦ s.within n p e.1
      ];
      begun = let b = s.begun in
          let e = passed-set old.lanes (lane - 1) ends.before q ends.there in
          let same : core.begun ≡ old.core.begun = ap (λ (v : View). v.begun) core_is in
          subst (λ (t : List Place). core.begun ≤ old.earlier + passed t) (sym ends.is) (omega (arith, b, e, same));
      room = s.room;
    }

pub answered-less : (script : List ScriptLine) (lane line : ℕ) (answer : Answer) (old : Session) (core : View) (lanes : List Place) (status : ℕ)
    → LineIs lane (Some line) old → AnswersBy old.core lane (Some answer) core → Ends lane old.lanes lanes → Lessens script old (record old { core = core; lanes = lanes; status = status })
answered-less script lane line answer old core lanes status line_is answers ends =
    let a = answered_now old.core lane answer core answers in
    let q : Place = record { next = ends.before.next; line = None } in
    let e = lines-set (length script) old.lanes (lane - 1) ends.before q ends.there in
    let own : ends.before.line ≡ Some line = line-of old.lanes lane (Some line) ends.before line_is ends.there in
    let one : one_if ends.before.line ≡ 1 = ap one_if own in
    record {
      tries = record { attempts = refl; dropped = refl };
      calls = let same : calls_left core ≡ calls_left old.core = ap calls_left a.is.is in omega (arith, same);
      lines = subst (λ (t : List Place). lines_left (length script) t < lines_left (length script) old.lanes) (sym ends.is) (omega (arith, e, one));
    }
