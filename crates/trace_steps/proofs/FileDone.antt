-- The tests decide what a server may do to a file.
use Rattle.std.proofs.Common.{◌≡◌, ◌≢◌, ◌⊎◌, inl, inr, ◌==◌, ◌≤◌, ℕ, suc, Bool, true, false, List, length, take, Option, Some, refl, sym, ◌∙◌, ap, arith}
use Rattle.std.specs.Prelude.{Decides, ◌&&◌, ◌||◌, not, nat_le}
use Rattle.std.proofs.lemmas.Bool.{cases_lt}
use Rattle.std.proofs.lemmas.Bool.Decides.{Decides-like, Decides-and, Decides-or, Decides-not, Decides-eqb}
use Rattle.nfs_types.specs.declared.attr.Attr.{Attr}
use Rattle.nfs_types.specs.declared.status.Status.{Status}
use Rattle.nfs_types.specs.declared.verf.Verf.{Verf}
use Rattle.nfs_types.specs.declared.wcc.Wcc.{Wcc}
use Rattle.nfs_types.specs.declared.set_attr.SetAttr.{SetAttr}
use Rattle.world_model.specs.Server as model
use Rattle.world_model.specs.Bytes.{put_at, committed_part}
use Rattle.world_model.specs.Steps.{Same, Only, TrueOf, TrueWcc}
use Rattle.world_model.specs.FileService.{HoldsSized, Puts, GetsAttr, Asks, SetsAttr, ReadsBytes, Writes, WritesPrefix, Commits, steady_after}
use Rattle.world_model.specs.Service.{RefusesWith, RefusesWcc}
use Rattle.trace_data.specs.declared.trace.Trace.{Trace}
use Rattle.trace_data.specs.Histories.{server_at, verf_at}
use Rattle.trace_rules.proofs.Combining.{given}
use Rattle.trace_rules.proofs.Restarted.{verf-decides}
use Rattle.trace_steps.specs.MomentTests.{is_same, is_one, only}
use Rattle.trace_steps.specs.TurnTests.{turns, looks, is_sized, is_read, is_written, is_committed, is_broken_off, shows_attr, showed_attr, shows_wcc, showed_wcc}
use Rattle.trace_steps.specs.FileTests.{refuses, refuses_with, refuses_wcc, is_verf_of, asks, sets, is_counted, reads_bytes, is_firm, writes, breaks_off, commits}
use Rattle.trace_steps.proofs.Testing.{le-decides}
use Rattle.trace_steps.proofs.Sparing.{is-same, only-one}
use Rattle.trace_steps.proofs.Turned.{TurnsBy, turns-decides, to-turns, from-turns, turned, looks-decides, sized-decides, IsRead, read-decides, IsWritten, written-decides, IsCommitted, committed-decides, IsBrokenOff, broken-off-decides, shows-decides, showed-decides, wcc-decides, wcc-before}

-- ---- calls that are refused

-- a status other than 0, and nothing changes
abbrev pub Refused : Trace → ℕ → Status → Type 0
Refused t n status = (status.0 ≢ 0) × Same (server_at t n) (server_at t (suc n))

pub refuses-decides : (t : Trace) (n : ℕ) (status : Status) → Decides (refuses t n status) (Refused t n status)
unfolding refuses
refuses-decides t n status = Decides-and (not (status.0 == 0)) (is_same t n) (Decides-not (status.0 == 0) (Decides-eqb status.0 0)) (is-same t n)

pub with-decides : (t : Trace) (n : ℕ) (status : Status) (f : List ℕ) (attr : Option Attr) → Decides (refuses_with t n status f attr) (RefusesWith (server_at t n) status f attr × Same (server_at t n) (server_at t (suc n)))
unfolding refuses_with
with-decides t n status f attr =
    Decides-like (refuses t n status && showed_attr t n f attr)
    (λ w. (record { nonzero = w.0.0; shows = w.1 }, w.0.1))
    (λ w. let r : RefusesWith (server_at t n) status f attr = w.0 in ((r.nonzero, w.1), r.shows))
    (Decides-and (refuses t n status) (showed_attr t n f attr) (refuses-decides t n status) (showed-decides t n f attr))

pub refused-wcc : (t : Trace) (n : ℕ) (status : Status) (f : List ℕ) (wcc : Wcc) → Decides (refuses_wcc t n status f wcc) (RefusesWcc (server_at t n) status f wcc × Same (server_at t n) (server_at t (suc n)))
unfolding refuses_wcc
refused-wcc t n status f wcc =
    Decides-like (refuses t n status && showed_wcc t n f wcc)
    (λ w. (record { nonzero = w.0.0; shows = w.1 }, w.0.1))
    (λ w. let r : RefusesWcc (server_at t n) status f wcc = w.0 in ((r.nonzero, w.1), r.shows))
    (Decides-and (refuses t n status) (showed_wcc t n f wcc) (refuses-decides t n status) (wcc-before t n f wcc))

-- ---- calls that are done

pub asks-decides : (t : Trace) (n : ℕ) (f : List ℕ) (attr : Option Attr) → Decides (asks t n f attr) (Asks (server_at t n) (server_at t (suc n)) f attr)
unfolding asks
asks-decides t n f attr =
    Decides-like (looks t n f && shows_attr t n f attr)
    (λ w. record { looks = w.0; shows = w.1 })
    (λ (w : Asks (server_at t n) (server_at t (suc n)) f attr). (w.looks, w.shows))
    (Decides-and (looks t n f) (shows_attr t n f attr) (looks-decides t n f) (shows-decides t n f attr))

pub gets-decides : (t : Trace) (n : ℕ) (f : List ℕ) (attr : Attr) → Decides (asks t n f (Some attr)) (GetsAttr (server_at t n) (server_at t (suc n)) f attr)
gets-decides t n f attr =
    Decides-like (asks t n f (Some attr))
    (λ (w : Asks (server_at t n) (server_at t (suc n)) f (Some attr)). record { looks = w.looks; shows = w.shows })
    (λ (w : GetsAttr (server_at t n) (server_at t (suc n)) f attr). record { looks = w.looks; shows = w.shows })
    (asks-decides t n f (Some attr))

pub sets-decides : (t : Trace) (n : ℕ) (f : List ℕ) (set : SetAttr) (wcc : Wcc) → Decides (sets t n f set wcc) (SetsAttr (server_at t n) (server_at t (suc n)) f set × TrueWcc (server_at t n) (server_at t (suc n)) f wcc)
unfolding sets
sets-decides t n f set wcc =
    Decides-like (turns (is_sized set.size) t n f && only (is_one f f f) t n && shows_wcc t n f wcc)
    (λ w. (to w.0.0 w.0.1, w.1))
    (λ w. (from w.0, w.1))
    (Decides-and (turns (is_sized set.size) t n f && only (is_one f f f) t n) (shows_wcc t n f wcc)
    (Decides-and (turns (is_sized set.size) t n f) (only (is_one f f f) t n) (turns-decides (is_sized set.size) (HoldsSized set.size) (sized-decides set.size) t n f) (only-one t n f))
    (wcc-decides t n f wcc))
  where
    to : TurnsBy (HoldsSized set.size) (server_at t n) (server_at t (suc n)) f → Only (λ other. other ≡ f) (server_at t n) (server_at t (suc n)) → SetsAttr (server_at t n) (server_at t (suc n)) f set
    to w o = record { object = w.old; later = w.new.holds; sized = w.holds; turns = to-turns (HoldsSized set.size) (server_at t n) (server_at t (suc n)) f w; only = o }

    from : SetsAttr (server_at t n) (server_at t (suc n)) f set → TurnsBy (HoldsSized set.size) (server_at t n) (server_at t (suc n)) f × Only (λ other. other ≡ f) (server_at t n) (server_at t (suc n))
    from w = (from-turns (HoldsSized set.size) (server_at t n) (server_at t (suc n)) f w.object w.later w.turns w.sized, w.only)

-- what a file's bytes become, by what it held and holds
module _ (t : Trace) (n : ℕ) (f : List ℕ) where
  abbrev pub S : model.Server
  S = server_at t n

  abbrev pub T : model.Server
  T = server_at t (suc n)

  puts : (F : model.Holds → model.Holds → Type 0) (w : TurnsBy F S T f) (now stable later steady : List ℕ) → w.old.holds ≡ model.Bytes now stable → w.new.holds ≡ model.Bytes later steady → Only (λ other. other ≡ f) S T → Puts S T f now stable later steady
  puts F w now stable later steady was is o = record { file = w.old; held = was; turns = turned S T f w.old w.new.holds (model.Bytes later steady) is (to-turns F S T f w); only = o }

  put : (F : model.Holds → model.Holds → Type 0) (now stable later steady : List ℕ) (p : Puts S T f now stable later steady) → F p.file.holds (model.Bytes later steady) → TurnsBy F S T f
  put F now stable later steady p x = from-turns F S T f p.file (model.Bytes later steady) p.turns x

  pub counted-decides : (count counted : ℕ) (eof : Bool) (bytes : List ℕ) → Decides (is_counted count counted eof bytes) (((length bytes ≡ counted) × (counted ≤ count)) × (counted ≡ 0 → (count ≡ 0) ⊎ (eof ≡ true)))
  unfolding is_counted
  counted-decides count counted eof bytes =
      Decides-and ((length bytes == counted) && nat_le counted count) (not (counted == 0) || (count == 0) || eof)
      (Decides-and (length bytes == counted) (nat_le counted count) (Decides-eqb (length bytes) counted) (le-decides counted count))
      (same-test (not (counted == 0)) (count == 0) eof (given (counted == 0) ((count == 0) || eof) (Decides-eqb counted 0) (Decides-or (count == 0) eof (Decides-eqb count 0) ((λ e. e), (λ e. e)))))
    where
      or-assoc : (a b c : Bool) → (a || b || c) ≡ (a || (b || c))
      or-assoc true b c = refl
      or-assoc false b c = refl

      same-test : {P : Type 0} → (a b c : Bool) → Decides (a || (b || c)) P → Decides (a || b || c) P
      same-test a b c d = (λ e. d.0 (sym (or-assoc a b c) ∙ e), λ p. or-assoc a b c ∙ d.1 p)

  pub read-done : (offset count : ℕ) (attr : Option Attr) (counted : ℕ) (eof : Bool) (bytes : List ℕ) → Decides (reads_bytes t n f offset count attr counted eof bytes) (ReadsBytes S T f offset count attr counted eof bytes)
  unfolding reads_bytes
  read-done offset count attr counted eof bytes =
      Decides-like (turns (is_read offset counted eof bytes) t n f && only (is_one f f f) t n && shows_attr t n f attr && is_counted count counted eof bytes)
      (λ w. to w.0.0.0 w.0.0.1 w.0.1 w.1.0.0 w.1.0.1 w.1.1)
      (λ (w : ReadsBytes S T f offset count attr counted eof bytes). (((from w, w.puts.only), w.shows), ((w.long, w.most), w.some)))
      (Decides-and (turns (is_read offset counted eof bytes) t n f && only (is_one f f f) t n && shows_attr t n f attr) (is_counted count counted eof bytes)
      (Decides-and (turns (is_read offset counted eof bytes) t n f && only (is_one f f f) t n) (shows_attr t n f attr)
      (Decides-and (turns (is_read offset counted eof bytes) t n f) (only (is_one f f f) t n) (turns-decides (is_read offset counted eof bytes) (IsRead offset counted eof bytes) (read-decides offset counted eof bytes) t n f) (only-one t n f))
      (shows-decides t n f attr)) (counted-decides count counted eof bytes))
    where
      to : TurnsBy (IsRead offset counted eof bytes) S T f → Only (λ other. other ≡ f) S T → TrueOf T f attr → length bytes ≡ counted → counted ≤ count → (counted ≡ 0 → (count ≡ 0) ⊎ (eof ≡ true)) → ReadsBytes S T f offset count attr counted eof bytes
      to w o shows long most some = record {
        now = w.holds.now;
        stable = w.holds.stable;
        puts = puts (IsRead offset counted eof bytes) w w.holds.now w.holds.stable w.holds.now w.holds.stable w.holds.was w.holds.is o;
        shows = shows;
        is = w.holds.shown;
        long = long;
        most = most;
        end_ = w.holds.end_;
        some = some;
      }

      from : ReadsBytes S T f offset count attr counted eof bytes → TurnsBy (IsRead offset counted eof bytes) S T f
      from w = put (IsRead offset counted eof bytes) w.now w.stable w.now w.stable w.puts (record { now = w.now; stable = w.stable; was = w.puts.held; is = refl; shown = w.is; end_ = w.end_ })

  pub verf-of : (verf : Verf) → Decides (is_verf_of t n verf) (verf ≡ S.verf)
  unfolding is_verf_of
  verf-of verf = verf-decides verf (verf_at t.start.verf t.updates.items n)

  pub firm-decides : (how : ℕ) (bytes : List ℕ) (counted committed : ℕ) → Decides (is_firm how bytes counted committed) ((((counted ≤ length bytes) × (1 ≤ length bytes → 1 ≤ counted)) × (how ≤ committed)) × (committed ≤ 2))
  unfolding is_firm
  firm-decides how bytes counted committed =
      Decides-and (nat_le counted (length bytes) && (nat_le (length bytes) 0 || nat_le 1 counted) && nat_le how committed) (nat_le committed 2)
      (Decides-and (nat_le counted (length bytes) && (nat_le (length bytes) 0 || nat_le 1 counted)) (nat_le how committed)
      (Decides-and (nat_le counted (length bytes)) (nat_le (length bytes) 0 || nat_le 1 counted) (le-decides counted (length bytes))
      (Decides-like (nat_le (length bytes) 0 || nat_le 1 counted) some_to some_from (Decides-or (nat_le (length bytes) 0) (nat_le 1 counted) (le-decides (length bytes) 0) (le-decides 1 counted))))
      (le-decides how committed)) (le-decides committed 2)
    where
      some_to : (length bytes ≤ 0) ⊎ (1 ≤ counted) → 1 ≤ length bytes → 1 ≤ counted
      some_to (inl le) one = absurd (omega (arith, le, one))
      some_to (inr le) one = le

      some_from : (1 ≤ length bytes → 1 ≤ counted) → (length bytes ≤ 0) ⊎ (1 ≤ counted)
      some_from k = elim (cases_lt 0 (length bytes)) [ inl lt ↦ inr (k (omega (arith, lt))) | inr le ↦ inl (omega (arith, le)) ]

  pub write-done : (offset how : ℕ) (bytes : List ℕ) (wcc : Wcc) (counted committed : ℕ) (verf : Verf) → Decides (writes t n f offset how bytes wcc counted committed verf) (Writes S T f offset how bytes wcc counted committed verf)
  unfolding writes
  write-done offset how bytes wcc counted committed verf =
      Decides-like (is_firm how bytes counted committed && turns (is_written committed offset (take counted bytes)) t n f && only (is_one f f f) t n && shows_wcc t n f wcc && is_verf_of t n verf)
      (λ w. let k = w.0.0.0.0 in let u = w.0.0.0.1 in record {
        now = u.holds.now;
        stable = u.holds.stable;
        puts = puts (IsWritten committed offset (take counted bytes)) u u.holds.now u.holds.stable (put_at offset (take counted bytes) u.holds.now) (steady_after committed offset (take counted bytes) u.holds.stable) u.holds.was u.holds.is w.0.0.1;
        shows = w.0.1;
        most = k.0.0.0;
        some = k.0.0.1;
        firm = k.0.1;
        known = k.1;
        verifier = w.1;
      })
      (λ (w : Writes S T f offset how bytes wcc counted committed verf). (((((((w.most, w.some), w.firm), w.known), from w), w.puts.only), w.shows), w.verifier))
      (Decides-and (is_firm how bytes counted committed && turns (is_written committed offset (take counted bytes)) t n f && only (is_one f f f) t n && shows_wcc t n f wcc) (is_verf_of t n verf)
      (Decides-and (is_firm how bytes counted committed && turns (is_written committed offset (take counted bytes)) t n f && only (is_one f f f) t n) (shows_wcc t n f wcc)
      (Decides-and (is_firm how bytes counted committed && turns (is_written committed offset (take counted bytes)) t n f) (only (is_one f f f) t n)
      (Decides-and (is_firm how bytes counted committed) (turns (is_written committed offset (take counted bytes)) t n f) (firm-decides how bytes counted committed)
      (turns-decides (is_written committed offset (take counted bytes)) (IsWritten committed offset (take counted bytes)) (written-decides committed offset (take counted bytes)) t n f)) (only-one t n f)) (wcc-decides t n f wcc)) (verf-of verf))
    where
      from : Writes S T f offset how bytes wcc counted committed verf → TurnsBy (IsWritten committed offset (take counted bytes)) S T f
      from w = put (IsWritten committed offset (take counted bytes)) w.now w.stable (put_at offset (take counted bytes) w.now) (steady_after committed offset (take counted bytes) w.stable) w.puts (record { now = w.now; stable = w.stable; was = w.puts.held; is = refl })

  pub break-done : (offset : ℕ) (bytes : List ℕ) (status : Status) (wcc : Wcc) → Decides (breaks_off t n f offset bytes status wcc) (WritesPrefix S T f offset bytes status wcc)
  unfolding breaks_off
  break-done offset bytes status wcc =
      Decides-like (not (status.0 == 0) && turns (is_broken_off offset bytes) t n f && only (is_one f f f) t n && shows_wcc t n f wcc)
      (λ w. to w.0.0.0 w.0.0.1 w.0.1 w.1)
      (λ (w : WritesPrefix S T f offset bytes status wcc). (((w.nonzero, from w), w.puts.only), w.shows))
      (Decides-and (not (status.0 == 0) && turns (is_broken_off offset bytes) t n f && only (is_one f f f) t n) (shows_wcc t n f wcc)
      (Decides-and (not (status.0 == 0) && turns (is_broken_off offset bytes) t n f) (only (is_one f f f) t n)
      (Decides-and (not (status.0 == 0)) (turns (is_broken_off offset bytes) t n f) (Decides-not (status.0 == 0) (Decides-eqb status.0 0))
      (turns-decides (is_broken_off offset bytes) (IsBrokenOff offset bytes) (broken-off-decides offset bytes) t n f)) (only-one t n f)) (wcc-decides t n f wcc))
    where
      to : status.0 ≢ 0 → TurnsBy (IsBrokenOff offset bytes) S T f → Only (λ other. other ≡ f) S T → TrueWcc S T f wcc → WritesPrefix S T f offset bytes status wcc
      to nonzero w o shows = record {
        now = w.holds.now;
        stable = w.holds.stable;
        steady = w.holds.steady;
        count = w.holds.count;
        puts = puts (IsBrokenOff offset bytes) w w.holds.now w.holds.stable (put_at offset (take w.holds.count bytes) w.holds.now) w.holds.steady w.holds.was (w.holds.is ∙ ap (λ (z : List ℕ). model.Bytes z w.holds.steady) w.holds.begun.0) o;
        kept = w.holds.begun.1;
        nonzero = nonzero;
        shows = shows;
      }

      from : WritesPrefix S T f offset bytes status wcc → TurnsBy (IsBrokenOff offset bytes) S T f
      from w = put (IsBrokenOff offset bytes) w.now w.stable (put_at offset (take w.count bytes) w.now) w.steady w.puts (record {
        now = w.now;
        stable = w.stable;
        later = put_at offset (take w.count bytes) w.now;
        steady = w.steady;
        count = w.count;
        was = w.puts.held;
        is = refl;
        begun = (refl, w.kept);
      })

  pub commit-done : (offset count : ℕ) (wcc : Wcc) (verf : Verf) → Decides (commits t n f offset count wcc verf) (Commits S T f offset count wcc verf)
  unfolding commits
  commit-done offset count wcc verf =
      Decides-like (turns (is_committed offset count) t n f && only (is_one f f f) t n && shows_wcc t n f wcc && is_verf_of t n verf)
      (λ w. let u = w.0.0.0 in record {
        now = u.holds.now;
        stable = u.holds.stable;
        puts = puts (IsCommitted offset count) u u.holds.now u.holds.stable u.holds.now (put_at offset (committed_part offset count u.holds.now) u.holds.stable) u.holds.was u.holds.is w.0.0.1;
        shows = w.0.1;
        verifier = w.1;
      })
      (λ (w : Commits S T f offset count wcc verf). (((from w, w.puts.only), w.shows), w.verifier))
      (Decides-and (turns (is_committed offset count) t n f && only (is_one f f f) t n && shows_wcc t n f wcc) (is_verf_of t n verf)
      (Decides-and (turns (is_committed offset count) t n f && only (is_one f f f) t n) (shows_wcc t n f wcc)
      (Decides-and (turns (is_committed offset count) t n f) (only (is_one f f f) t n) (turns-decides (is_committed offset count) (IsCommitted offset count) (committed-decides offset count) t n f) (only-one t n f))
      (wcc-decides t n f wcc)) (verf-of verf))
    where
      from : Commits S T f offset count wcc verf → TurnsBy (IsCommitted offset count) S T f
      from w = put (IsCommitted offset count) w.now w.stable w.now (put_at offset (committed_part offset count w.now) w.stable) w.puts (record { now = w.now; stable = w.stable; was = w.puts.held; is = refl })
