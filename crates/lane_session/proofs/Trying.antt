-- What is left to be tried after each part of the exchange with the server.
use Rattle.std.proofs.Common.{◌≡◌, ◌≢◌, ◌≤◌, ◌<◌, ◌+◌, ◌-◌, ◌*◌, inl, inr, ℕ, suc, List, [], length, position, slice_get, Bool, true, false, Option, Some, None, refl, sym, ap, subst, ◌∙◌, arith}
use Rattle.rpc_retry.specs.Sound.{IsSound}
use Rattle.rpc_retry.specs.Waiting.{first_given_up}
use Rattle.nfs_script.specs.declared.script.ScriptLine.{ScriptLine}
use Rattle.client_core.specs.declared.lane.Lane.{Lane}
use Rattle.client_core.specs.Lanes.{is_over}
use Rattle.client_core.specs.Numbers.{IsOther, numbers_of}
use Rattle.client_core.specs.Steps.{SendsBy, FailsBy, FailsAs, WereSent}
use Rattle.client_core.specs.View.{View}
use Rattle.core_facts.proofs.Cases.{FailedNow, goes_on, gives_up, failed_now}
use Rattle.lane_session.specs.declared.lanes.Place.{Place}
use Rattle.lane_session.specs.declared.running.Session.{Session}
use Rattle.lane_session.specs.Holding.{HeadSent, IsAlive, IsHeld, IsLive, AreQuiet, calls_left}
use Rattle.lane_session.specs.Places.{passed}
use Rattle.lane_session.specs.Running.{Exchanges, Breaks, Sends, Fails, Takes, TakesBy, Redialed, given_up, attempts_after, NoneOver}
use Rattle.lane_session.specs.Statuses.{IsSessionStatus}
use Rattle.lane_session.proofs.Alive.{alive-fails, alive-given-up, alive-sends, alive-takes, sends-wait}
use Rattle.lane_session.proofs.Cores.{HeardSo, heard_none, heard_one, heard-so, SentSo, sends-so, FailedSo, lost-so, fails-so}
use Rattle.lane_session.proofs.Sounds.{sound-hears, sound-sends, sound-fails}

-- ---- the attempts have ended

-- where a call is given up the session is lost
up-fails : (old : View) (b : Bool) (new : View) (xid : ℕ) → first_given_up old.calls.calls ≡ Some xid → FailsBy old b new → b ≡ true → ⊥
up-fails old b new xid up f is =
    let lost_now : FailsAs (Some xid) old b new = subst (λ (o : Option ℕ). FailsAs o old b new) up f in
    let no_way : true ≡ false = sym is ∙ lost_now.0 in
    cc

pub fails-on : (old new : Session) → 1 ≤ old.attempts → IsLive old → HeadSent old.core.calls.calls → Fails old new → Exchanges old new
fails-on old new some live head f = subst (Exchanges old) (sym f.is) (by f.result refl (fails-so old.core f.result new.core f.core))
  where
    by : (b : Bool) → f.result ≡ b → FailedSo old.core b new.core → Exchanges old (record old { core = new.core; attempts = attempts_after b old.attempts })
    by b result_is k = record {
      lines = record { mounted = refl; earlier = refl; lanes = refl; status = refl; numbers = k.numbers_are; begun = k.begun_is };
      live = record {
        calls = sound-fails old.core f.result new.core f.core live.calls;
        some = λ left. alive b k left;
        few = few b;
        dropped = live.dropped;
        undropped = λ left. live.undropped some;
      };
      less = less b (k.left_is);
      alive = λ a. subst (λ (c : Bool). IsAlive (record old { core = new.core; attempts = attempts_after c old.attempts })) result_is (subst IsAlive f.is (alive-fails old new some live head f a));
    }
      where
        alive : (b : Bool) → FailedSo old.core b new.core → 1 ≤ attempts_after b old.attempts → new.core.lost ≡ false
        alive true k left = k.lost_is refl ∙ live.some some
        alive false k left = absurd (omega (arith, left))

        few : (b : Bool) → attempts_after b old.attempts ≤ 4
        few true = let n = live.few in omega (arith, n)
        few false = omega arith

        less : (b : Bool) → calls_left new.core ≡ calls_left old.core → 65541 * calls_left new.core + attempts_after b old.attempts + (65536 - old.dropped) < 65541 * calls_left old.core + old.attempts + (65536 - old.dropped)
        less true e = omega (arith, e, some)
        less false e = omega (arith, e, some)

-- where attempts are left each lane has told its answer still
pub fails-told : (old new : Session) → Fails old new → NoneOver old.core → 1 ≤ new.attempts → NoneOver new.core
fails-told old new f told left = by f.result refl (failed_now old.core f.result new.core f.core)
  where
    alike : new.core.lanes ≡ old.core.lanes → NoneOver new.core
    alike is n lt = subst (λ (ls : List Lane). position (is_over (suc n)) ls ≡ None) (sym is) (told n lt)

    none_left : f.result ≡ false → ⊥
    none_left is =
        let off : new.attempts ≡ attempts_after f.result old.attempts = ap (λ (s : Session). s.attempts) f.is in
        let zero_left : attempts_after f.result old.attempts ≡ 0 = ap (λ (b : Bool). attempts_after b old.attempts) is in
        omega (arith, off, zero_left, left)

    by : (b : Bool) → f.result ≡ b → FailedNow old.core new.core → NoneOver new.core
    by b is (goes_on none same) = alike (ap (λ (v : View). v.lanes) same)
    by true is (gives_up xid up same) = absurd (up-fails old.core f.result new.core xid up f.core is)
    by false is (gives_up xid up same) = absurd (none_left is)

-- the session is given up
pub given-up-on : (old mid : Session) → Exchanges old mid → Exchanges old (given_up mid)
given-up-on old mid x =
    let k = lost-so mid.core in
    record {
      lines = record {
        mounted = x.lines.mounted;
        earlier = x.lines.earlier;
        lanes = x.lines.lanes;
        status = x.lines.status;
        numbers = k.numbers_are ∙ x.lines.numbers;
        begun = k.begun_is ∙ x.lines.begun;
      };
      live = record { calls = x.live.calls; some = λ left. absurd (omega (arith, left)); few = omega arith; dropped = x.live.dropped; undropped = λ left. absurd (omega (arith, left)) };
      less = let l = x.less in let e = k.left_is in omega (arith, l, e);
      alive = λ a. alive-given-up mid (x.alive a);
    }

pub redialed-on : (old mid new : Session) → Exchanges old mid → Redialed mid new → Exchanges old new
redialed-on old mid new x (inl is) = subst (Exchanges old) (sym is) x
redialed-on old mid new x (inr is) = subst (Exchanges old) (sym is) (given-up-on old mid x)

-- ---- a record came

pub takes-on : (old new : Session) (rec : List ℕ) → 1 ≤ old.attempts → IsLive old → WereSent old.core.calls.calls → NoneOver old.core → Takes old rec new → Exchanges old new
takes-on old new rec some live all_sent told t = by t.result t.is (heard-so old.core rec t.result t.core live.calls.within t.hears)
  where
    sound : IsSound t.core.calls
    sound = sound-hears old.core rec t.result t.core t.hears live.calls

    found : old.core.lost ≡ false
    found = live.some some

    alive-new : (after : Session) → new ≡ after → IsAlive old → IsAlive after
    alive-new after is a = subst IsAlive is (alive-takes old new rec some live all_sent told t a)

    dropped-on : t.core ≡ old.core → (old.dropped + 1 ≡ 65536 → ⊥) → new ≡ record old { core = t.core; dropped = old.dropped + 1 } → Exchanges old (record old { core = t.core; dropped = old.dropped + 1 })
    dropped-on is other new_is = record {
      lines = record { mounted = refl; earlier = refl; lanes = refl; status = refl; numbers = ap (λ (v : View). numbers_of v.lanes) is; begun = ap (λ (v : View). v.begun) is };
      live = record {
        calls = sound;
        some = λ left. ap (λ (v : View). v.lost) is ∙ found;
        few = live.few;
        dropped = let d = live.undropped some in omega (arith, d);
        undropped = λ left. let d = live.undropped some in omega (arith, d, other);
      };
      less = let e : calls_left t.core ≡ calls_left old.core = ap calls_left is in let d = live.undropped some in omega (arith, e, d);
      alive = alive-new (record old { core = t.core; dropped = old.dropped + 1 }) new_is;
    }

    last-on : t.core ≡ old.core → old.dropped + 1 ≡ 65536 → new ≡ given_up (record old { core = t.core; dropped = old.dropped + 1 }) → Exchanges old (given_up (record old { core = t.core; dropped = old.dropped + 1 }))
    last-on is last new_is =
        let k = lost-so t.core in
        record {
          lines = record {
            mounted = refl;
            earlier = refl;
            lanes = refl;
            status = refl;
            numbers = k.numbers_are ∙ ap (λ (v : View). numbers_of v.lanes) is;
            begun = k.begun_is ∙ ap (λ (v : View). v.begun) is;
          };
          live = record { calls = sound; some = λ left. absurd (omega (arith, left)); few = omega arith; dropped = omega (arith, last); undropped = λ left. absurd (omega (arith, left)) };
          less = let e : calls_left t.core ≡ calls_left old.core = ap calls_left is in let m = k.left_is in omega (arith, e, m, some, last);
          alive = alive-new (given_up (record old { core = t.core; dropped = old.dropped + 1 })) new_is;
        }

    by : (b : Bool) → TakesBy old b t.core new → HeardSo old.core b t.core → Exchanges old new
    by true is (heard_none no_way same) = absurd (cc)
    by true is (heard_one yes_way k one) = subst (Exchanges old) (sym is) (record {
      lines = record { mounted = refl; earlier = refl; lanes = refl; status = refl; numbers = k.numbers_are; begun = k.begun_is };
      live = record { calls = sound; some = λ left. k.lost_is ∙ found; few = omega arith; dropped = omega arith; undropped = λ left. omega arith };
      less = let l = k.left_is in let d = live.dropped in omega (arith, l, one, d);
      alive = alive-new (record old { core = t.core; attempts = 4; dropped = 0 }) is;
    })
    by false (inl p) (heard_none no_way same) = subst (Exchanges old) (sym p.1) (dropped-on same p.0 p.1)
    by false (inr p) (heard_none no_way same) = subst (Exchanges old) (sym p.1) (last-on same p.0 p.1)
    by false is (heard_one no_way k one) = absurd (cc)

-- ---- a record was sent

pub sends-on : (old : Session) (result : Option (List ℕ)) (core : View) (new : Session) → IsLive old → SendsBy old.core result core → new.core ≡ core → new.mounted ≡ old.mounted → new.earlier ≡ old.earlier → new.lanes ≡ old.lanes → new.status ≡ old.status
    → new.attempts ≡ old.attempts → new.dropped ≡ old.dropped → Sends old new
sends-on old result core new live t core_is mounted earlier lanes status attempts dropped =
    let k : SentSo old.core new.core = subst (SentSo old.core) (sym core_is) (sends-so old.core result core t) in
    record {
      lines = record { mounted = mounted; earlier = earlier; lanes = lanes; status = status; numbers = ap numbers_of k.lanes; begun = k.begun };
      same = k.lanes;
      tries = record { attempts = attempts; dropped = dropped };
      calls = k.left;
      lost_is = k.lost_is;
      live = record {
        calls = subst (λ (v : View). IsSound v.calls) (sym core_is) (sound-sends old.core result core t live.calls);
        some = λ left. k.lost_is ∙ live.some (omega (arith, left, attempts));
        few = let f = live.few in omega (arith, f, attempts);
        dropped = let d = live.dropped in omega (arith, d, dropped);
        undropped = λ left. let d = live.undropped (omega (arith, left, attempts)) in omega (arith, d, dropped);
      };
      alive = alive-sends old new result (subst (SendsBy old.core result) (sym core_is) t) mounted lanes attempts;
      waits = subst (λ (v : View). old.core.calls.calls ≢ [] → v.calls.calls ≢ []) (sym core_is) (sends-wait old.core result core t);
    }

pub sends-none : (old : Session) → IsLive old → Sends old old
sends-none old live = record {
  lines = record { mounted = refl; earlier = refl; lanes = refl; status = refl; numbers = refl; begun = refl };
  same = refl;
  tries = record { attempts = refl; dropped = refl };
  calls = refl;
  lost_is = refl;
  live = live;
  alive = λ a. a;
  waits = λ some. some;
}

pub sends-then : (old mid new : Session) → Sends old mid → Sends mid new → Sends old new
sends-then old mid new p q = record {
  lines = record {
    mounted = q.lines.mounted ∙ p.lines.mounted;
    earlier = q.lines.earlier ∙ p.lines.earlier;
    lanes = q.lines.lanes ∙ p.lines.lanes;
    status = q.lines.status ∙ p.lines.status;
    numbers = q.lines.numbers ∙ p.lines.numbers;
    begun = q.lines.begun ∙ p.lines.begun;
  };
  same = q.same ∙ p.same;
  tries = record { attempts = q.tries.attempts ∙ p.tries.attempts; dropped = q.tries.dropped ∙ p.tries.dropped };
  calls = q.calls ∙ p.calls;
  lost_is = q.lost_is ∙ p.lost_is;
  live = q.live;
  alive = λ a. q.alive (p.alive a);
  waits = λ some. q.waits (p.waits some);
}

pub sends-exchange : (old mid new : Session) → Sends old mid → Exchanges mid new → Exchanges old new
sends-exchange old mid new p x = record {
  lines = record {
    mounted = x.lines.mounted ∙ p.lines.mounted;
    earlier = x.lines.earlier ∙ p.lines.earlier;
    lanes = x.lines.lanes ∙ p.lines.lanes;
    status = x.lines.status ∙ p.lines.status;
    numbers = x.lines.numbers ∙ p.lines.numbers;
    begun = x.lines.begun ∙ p.lines.begun;
  };
  live = x.live;
  less = let l = x.less in let c = p.calls in let a = p.tries.attempts in let d = p.tries.dropped in omega (arith, l, c, a, d);
  alive = λ a. x.alive (p.alive a);
}

pub sends-breaks-off : (old mid new : Session) → Sends old mid → Breaks mid new → Breaks old new
sends-breaks-off old mid new p b = record { exchanges = sends-exchange old mid new p b.exchanges; told = b.told; due = b.due }

-- ---- what is held

pub exchanged-held : (script : List ScriptLine) (old new : Session) → IsHeld script old → Exchanges old new → IsHeld script new
exchanged-held script old new h x = record {
  live = x.live;
  alive = x.alive h.alive;
  status = subst IsSessionStatus (sym x.lines.status) h.status;
  seated = record {
    sixteen = ap length x.lines.lanes ∙ h.seated.sixteen;
    idle = λ n p there none. subst (IsOther (suc n)) (sym x.lines.numbers) (h.seated.idle n p (subst (λ (ps : List Place). slice_get ps n ≡ Some p) x.lines.lanes there) none);
    within = λ n p there. h.seated.within n p (subst (λ (ps : List Place). slice_get ps n ≡ Some p) x.lines.lanes there);
    begun = let b = h.seated.begun in let e = x.lines.begun in let r = x.lines.earlier in subst (λ (ps : List Place). new.core.begun ≤ new.earlier + passed ps) (sym x.lines.lanes) (omega (arith, b, e, r));
    room = let r = h.seated.room in let e = x.lines.earlier in omega (arith, r, e);
  };
}

pub none-over : (script : List ScriptLine) (s : Session) → AreQuiet script s → NoneOver s.core
none-over script s q n lt = (q n lt).told

pub sends-told : (old new : Session) → Sends old new → NoneOver old.core → NoneOver new.core
sends-told old new s told n lt = subst (λ (ls : List Lane). position (is_over (suc n)) ls ≡ None) (sym s.same) (told n lt)
