-- A page that a READ gave isn't asked for again, as long as nothing shows a change.
use Rattle.core_counts.proofs.Prelude.{◌≡◌, ◌<◌, ◌≤◌, ◌+◌, ◌⊎◌, inl, inr, ℕ, false, List, [], ◌∷◌, ◌++◌, length, Option, Some, None, option_map, position, slice_get, refl, sym, ap, subst, ◌∙◌, arith, All-weaker, Stamp, xid_at, Waiting, awaited, waiting_at, Entry, Began, Sent, Delivered, At, SpellsCall, Terms, read_call, MeetsPage, OneLane, FirstSent, At-grow, At-below, At-back, At-last, said_of, Mounted, machine_of, Purpose, Setup, is_busy, TakesAt, View, HearsRecord, Reaches, begins-unbegun, taken_one, Known, IsSession, GoesFrom, Outgoing, session, early-or}
use Rattle.claims.specs.Thrifty.{TookPage, Unchanged, IsMet}
use Rattle.op_machines.specs.declared.file_machine.FileMachine.TheVariants as files
use Rattle.op_machines.specs.declared.machine.Machine.TheVariants as machines
use Rattle.core_session.proofs.kept.OwnHeeds.{Awaits, AllHeard, HeardFrom, keeps-heard}
use Rattle.core_session.proofs.syncs.WatchingAlong.{reached-watching}
use Rattle.core_counts.specs.thrift.KeptReads.{KeptOnce}
use Rattle.core_counts.proofs.thrift.Calm.{Kind, quiet, putting, saver}
use Rattle.core_counts.proofs.thrift.DropsAlong.{KeepsMoments, reached-moments}
use Rattle.core_counts.proofs.thrift.Hears.{takes-calm}
use Rattle.core_counts.proofs.thrift.Holds.{HoldsPage}
use Rattle.core_counts.proofs.thrift.MetReads.{MetBefore, met-is}
use Rattle.core_counts.proofs.thrift.ReadsLong.{none-early}
use Rattle.core_counts.proofs.thrift.Savers.{IsSaver}
use Rattle.core_counts.proofs.thrift.Stays.{Case, CalmAt, CalmHere, calm-grows, before-last, shorter, fresh-calm, stirs-calm, starts-calm, answers-calm, same-calm}
use Rattle.core_counts.proofs.thrift.Taken.{read-machine, held-now}
use Rattle.core_counts.proofs.thrift.UnkeptAsked.{none-at}
use Rattle.page_cache.specs.Pages.{nothing_kept}

some-entry : (a c : Entry) → Some a ≡ Some c → a ≡ c
some-entry a c e = cc

record-is : (a c : List ℕ) → Delivered a ≡ Delivered c → a ≡ c
record-is a c e = cc

path-read : (z : _) (r : _) → machines.Path z ≡ machines.File (files.Read r) → ⊥
path-read z r e = cc

module _ (m : Mounted) (terms : Terms) (setup : Setup) (nocto : m.nocto ≡ terms.modes.nocto) (some_size : 1 ≤ m.rsize) (q : Case m setup)
    (took : TookPage terms q.H q.o q.f q.s q.at q.i) where
  -- a record for which no call waits isn't this one
  not-dropped : (h : List Entry) (old : View) (rec : List ℕ) (rest : List Entry) → (h ++ Delivered rec ∷ []) ++ rest ≡ q.H → Reaches (machine_of m) setup h old → old.lost ≡ false
      → awaited (xid_at rec) old.calls.calls ≡ None → q.at ≡ length h → ⊥
  not-dropped h old rec rest is r found none now =
      let w = took.heard.got.waits in
      let low : w.at < length h = (let before = w.before in omega (arith, before, got)) in
      let first = took.heard.sent.first w.at w.bytes w.sent w.under in
      let begun = took.holds.opens.ended.later in
      let opened = took.holds.before in
      let asked = took.heard.after in
      by (reached-watching (machine_of m) (begins-unbegun m) setup AllHeard (keeps-heard setup (machine_of m)) h old r found w.at took.xid (record {
        b = q.o;
        lane = q.open_lane;
        line = q.open_line;
        op = q.open_op;
        began = back q.o (Began q.open_lane q.open_line q.open_op) q.opened_at (omega (arith, low, first, begun, opened, asked));
        later = omega (arith, first, begun, opened, asked);
        bytes = w.bytes;
        sent = back w.at (Sent w.bytes) w.sent low;
        has = w.under;
      }))
    where
      whole : h ++ (Delivered rec ∷ rest) ≡ q.H
      whole = before-last m setup q h (Delivered rec) rest is

      got : took.heard.got_at ≡ length h
      got = took.here ∙ now

      back : (j : ℕ) (e : Entry) → At q.H j e → j < length h → At h j e
      back j e there low = At-back h (Delivered rec ∷ rest) j e (subst (λ (z : List Entry). At z j e) (sym whole) there) low

      here : At q.H (length h) (Delivered rec)
      here = subst (λ (z : List Entry). At z (length h) (Delivered rec)) is (At-grow (h ++ Delivered rec ∷ []) rest (length h) (Delivered rec) (At-last h (Delivered rec)))

      named : xid_at rec ≡ Some took.xid
      named = ap xid_at (sym (record-is took.bytes rec (some-entry (Delivered took.bytes) (Delivered rec) (sym took.heard.got.got ∙ ap (slice_get q.H) got ∙ here)))) ∙ took.heard.got.under

      by : HeardFrom h took.xid took.heard.got.waits.at ⊎ Awaits took.xid old → ⊥
      by (inl x) =
          took.heard.got.waits.unanswered x.at x.bytes (subst (λ (z : List Entry). At z x.at (Delivered x.bytes)) whole (At-grow h (Delivered rec ∷ rest) x.at (Delivered x.bytes) x.got)) x.has x.after
          (let low = At-below h x.at (Delivered x.bytes) x.got in omega (arith, low, got))
      by (inr a) =
          let no_way : None ≡ Some a.0 = ap (option_map (λ (z : Waiting Purpose). z.purpose)) (sym none ∙ ap (λ (x : Option ℕ). awaited x old.calls.calls) named) ∙ a.1 in cc

  -- as the reply comes, the page is kept
  held : (h : List Entry) (old new : View) (rec : List ℕ) (xid : ℕ) (call : Waiting Purpose) (k : ℕ) (r : Reaches (machine_of m) setup h old) (found : old.lost ≡ false) (known : Known setup h old)
      (fin : View) (hears : HearsRecord old rec fin) (named : xid_at rec ≡ Some xid) (waits : waiting_at xid old.calls.calls ≡ Some call) (there : position (is_busy call.purpose.lane) old.lanes ≡ Some k)
      (t : TakesAt (taken_one old xid) k call.purpose.sent (said_of call.purpose.proc rec) new) (rest : List Entry) (is : (h ++ Delivered rec ∷ []) ++ rest ≡ q.H)
      (within : length (h ++ Delivered rec ∷ []) ≤ q.n) → CalmHere m setup q h old → q.at ≡ length h → HoldsPage q.f q.s q.i t.shelf.pages
  held h old new rec xid call k r found known fin hears named waits there t rest is within c now = by (c.lanes k t.number t.machine t.there)
    where
      of : (z : _) × (t.machine ≡ machines.File (files.Read z))
      of = read-machine m terms setup nocto some_size q took h old new rec xid call k r found known fin hears named waits there t rest is within now

      by : Kind c.b old t.machine → HoldsPage q.f q.s q.i t.shelf.pages
      by (quiet young z) = held-now m terms setup nocto some_size q took h old new rec xid call k r found known fin hears named waits there t rest is within now c.b c.pages young
      by (putting young z) = absurd (path-read z.m of.0 (sym z.is ∙ of.1))
      by (saver z) = absurd (subst IsSaver of.1 z)

  calm-laws : KeepsMoments (machine_of m) setup (CalmAt m setup q)
  calm-laws = record {
    fresh = λ h v may up fresh. fresh-calm m setup q h v up fresh;
    stirs = λ h old new k known passed t all. stirs-calm m setup q h old new k known t all;
    starts = λ h old new lane line op now r found known idle fits t all. starts-calm m setup q h old new lane line op now r found known idle t all;
    takes = λ h old new rec xid call k r found known fin hears named waits there t all rest is within.
        let c = all (Delivered rec ∷ rest) (before-last m setup q h (Delivered rec) rest is) (shorter m setup q h (Delivered rec) within) in
        takes-calm m setup q h old new rec xid call k r found known fin hears named waits there t rest is within c
        (held h old new rec xid call k r found known fin hears named waits there t rest is within c);
    answers = λ h old new k lane line answer reached found known a all. answers-calm m setup q h old new k lane line answer known a all;
    same = λ h e old new plain lanes shelf wsize moments calls all. same-calm m setup q h e old new plain lanes shelf moments calls all;
    drops = λ h old fin rec r found known none hears all rest is within.
        calm-grows m setup q h (Delivered rec) old (not-dropped h old rec rest is r found none)
        (all (Delivered rec ∷ rest) (before-last m setup q h (Delivered rec) rest is) (shorter m setup q h (Delivered rec) within));
  }

  pub calm-before : (h rest : List Entry) (v : View) → Reaches (machine_of m) setup h v → v.lost ≡ false → h ++ rest ≡ q.H → length h ≤ q.n → CalmHere m setup q h v
  calm-before h rest v r found is within = reached-moments (machine_of m) (begins-unbegun m) setup (CalmAt m setup q) calm-laws h v r found rest is within

module _ (m : Mounted) (terms : Terms) (setup : Setup) (before h : List Entry) (v : View) (g : GoesFrom m terms setup before h v) (bare : setup.pages ≡ nothing_kept) (one : OneLane h)
    (o at page n xid offset count : ℕ) (f bytes : List ℕ) (stamp : Stamp) (took : TookPage terms h o f stamp at page) (sent : FirstSent h n xid bytes) (spells : SpellsCall xid (read_call f offset count) bytes)
    (late : at < n) (met : MeetsPage offset count page) (so : Unchanged terms h o n f stamp) (w : Outgoing (machine_of m) (begins-unbegun m) setup h n bytes) where
  its : IsSession m terms setup h v
  its = session m terms setup before h v g

  opened : o < at
  opened =
      let a = took.holds.opens.ended.later in
      let b = took.holds.before in
      let d = took.heard.after in
      let e = took.heard.later in
      let is = took.here in
      omega (arith, a, b, d, e, is)

  abbrev case : Case m setup
  case = record {
    H = h;
    one = one;
    bare = bare;
    o = o;
    at = at;
    n = n;
    i = page;
    f = f;
    s = stamp;
    shown = so.shown;
    unwritten = so.unwritten;
    few = λ pages apart all. so.few pages apart (All-weaker (MetBefore h n) (IsMet terms h n) (met-is m terms setup before h v g n) pages all);
    after = opened;
    open_lane = took.lane;
    open_line = took.opens.ended.line;
    open_op = _;
    opened_at = took.opens.ended.began;
    given_bytes = took.bytes;
    given_at = subst (λ (k : ℕ). At h k (Delivered took.bytes)) took.here took.heard.got.got;
  }

  within : length w.before ≤ n
  within = let there = w.there in omega (arith, there)

  calm : CalmHere m setup case w.before w.old
  calm = calm-before m terms setup its.goes.nocto its.some case took w.before w.after w.old w.reached w.found (sym w.is) within

  kept-still : HoldsPage f stamp page w.old.shelf.pages
  kept-still = calm.pages.holds f stamp page (refl, refl, refl, (let there = w.there in omega (arith, there, late)))

  never-again : ⊥
  never-again = kept-still.there (none-at m terms setup h v its n bytes w xid offset count f spells one page met)

pub kept-once : KeptOnce
kept-once m terms setup before h v g bare one o at page n xid offset count f bytes stamp took sent spells late met so = elim (early-or m terms setup before h v g n bytes sent.sent) [
  | inl early ↦ none-early m terms setup before h v g n xid offset count f bytes early spells
  | inr w ↦ never-again m terms setup before h v g bare one o at page n xid offset count f bytes stamp took sent spells late met so w
]
