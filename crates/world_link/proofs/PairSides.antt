-- A world of two clients is honest to both, where its history is lawful as if it were that of one client.
use Rattle.std.proofs.Common.{◌≡◌, ◌≤◌, ℕ, zero, suc, List, [], ◌∷◌, length, map, Option, Some, slice_get, refl, sym, ap, subst, ◌∙◌, arith}
use Rattle.world_model.specs.declared.entry.Entry.{Entry}
use Rattle.world_model.specs.declared.entry.Entry.TheVariants.{Began, Answered, Dialed, Sent, Executed, Foreign, Flushed, Reboot, Delivered, Failed, Clock}
use Rattle.world_model.specs.declared.message.Call.{Call}
use Rattle.world_model.specs.declared.message.Reply.{Reply}
use Rattle.world_model.specs.Entries.{At}
use Rattle.world_model.specs.History.{History}
use Rattle.world_model.specs.Lawful.{WasSent, IsReplied, LawfulAt, Lawful}
use Rattle.world_model.specs.Server.{Server, IsServer}
use Rattle.world_model.proofs.Places.{At-below}
use Rattle.export_fs.specs.View.{View}
use Rattle.export_fs.specs.Seen.{server_of}
use Rattle.outside.specs.Pairs.{PairStep, PairTold, AreLawful, entries_of, server_at, side}
use Rattle.law_sides.specs.Whole.{whole, IsClients, StepIs, SentBy, RepliedBy}
use Rattle.law_sides.specs.Whole as wholes
use Rattle.law_sides.proofs.Wholes.{sides-are-lawful}
use Rattle.world_link.specs.declared.directive.PartialWrite.{PartialWrite}
use Rattle.world_link.specs.declared.routed.Told.{Told}
use Rattle.world_link.specs.Ends.{ServerEnds}
use Rattle.world_link.specs.Honest.{IsHonestWorld}
use Rattle.world_link.specs.Pairs.{PairView, steps_of, pair_told, told_pair}
use Rattle.world_link.specs.Replay.{stepped, at_of, told_of, part_at}
use Rattle.world_link.specs.Routes.{TellsAt, AnswersAt, AreRouted}
use Rattle.world_link.specs.Routes as routes
use Rattle.world_link.specs.View.{entry_in}

-- ---- the same history

whole-entries : (parts : ℕ → Option PartialWrite) (view : View) (tags : List Told) → entries_of (steps_of parts view tags) ≡ map entry_in tags
whole-entries parts view [] = refl
whole-entries parts view (t ∷ tags) = ap (λ (es : List Entry). t.entry ∷ es) (whole-entries (λ n. parts (suc n)) (stepped (parts 0) view t.entry) tags)

whole-at : (parts : ℕ → Option PartialWrite) (view : View) (tags : List Told) (n : ℕ) → n ≤ length tags → server_at (server_of view) (steps_of parts view tags) n ≡ at_of parts view (map entry_in tags) n
whole-at parts view [] zero le = refl
whole-at parts view [] (suc n) le = absurd (omega (arith, le))
whole-at parts view (t ∷ tags) zero le = refl
whole-at parts view (t ∷ tags) (suc n) le = whole-at (λ k. parts (suc k)) (stepped (parts 0) view t.entry) tags n (omega (arith, le))

map-length : (tags : List Told) → length (map entry_in tags) ≡ length tags
map-length [] = refl
map-length (t ∷ tags) = ap suc (map-length tags)

-- ---- a history like a lawful one

module _ (h k : History) (entries : k.entries ≡ h.entries) (at : (n : ℕ) → n ≤ length h.entries → k.at n ≡ h.at n) where
  like-at : (n : ℕ) (e : Entry) (s t : Server) → n ≤ length h.entries → LawfulAt h n e s t → LawfulAt k n e s t
  like-at n (Executed xid call reply) s t le l = (subst (λ (es : List Entry). WasSent es n xid call) (sym entries) l.0, l.1)
  like-at n (Foreign call reply) s t le l = l
  like-at n (Flushed file from len) s t le l = l
  like-at n (Reboot verf) s t le l = record {
    verifier = l.verifier;
    new = λ m small is. l.new m small (ap (λ (x : Server). x.verf) (sym (at m (omega (arith, small, le)))) ∙ is);
    left = l.left;
    steady = l.steady;
  }
  like-at n (Delivered bytes) s t le l = record { same = l.same; most = l.most; is = subst (λ (es : List Entry). IsReplied es n bytes) (sym entries) l.is }
  like-at n (Began lane line op) s t le l = l
  like-at n (Answered lane line answer) s t le l = l
  like-at n (Dialed port) s t le l = l
  like-at n (Sent bytes) s t le l = l
  like-at n Failed s t le l = l
  like-at n (Clock ms) s t le l = l

  lawful-like : Lawful h → Lawful k
  lawful-like l = record {
    servers = λ n le. let le_h : n ≤ length h.entries = subst (λ (es : List Entry). n ≤ length es) entries le in subst IsServer (sym (at n le_h)) (l.servers n le_h);
    entries = λ n e there.
        let here : At h.entries n e = subst (λ (es : List Entry). At es n e) entries there in
        let low = At-below h.entries n e here in
        subst (λ (x : Server). LawfulAt k n e x (k.at (suc n))) (sym (at n (omega (arith, low))))
        (subst (λ (x : Server). LawfulAt k n e (h.at n) x) (sym (at (suc n) (omega (arith, low))))
        (like-at n e (h.at n) (h.at (suc n)) (omega (arith, low)) (l.entries n e here)));
  }

-- ---- both sides

still-step : (part : Option PartialWrite) (view : View) (e : Entry) → IsClients e → stepped part view e ≡ view
still-step part view (Executed xid call reply) own = absurd own
still-step part view (Foreign call reply) own = absurd own
still-step part view (Flushed file from len) own = absurd own
still-step part view (Reboot verf) own = absurd own
still-step part view (Began lane line op) own = refl
still-step part view (Answered lane line answer) own = refl
still-step part view (Dialed port) own = refl
still-step part view (Sent bytes) own = refl
still-step part view (Delivered bytes) own = refl
still-step part view Failed own = refl
still-step part view (Clock ms) own = refl

-- what a client does leaves the export as it is
steps-still : (parts : ℕ → Option PartialWrite) (view : View) (tags : List Told) (n : ℕ) (s : PairStep) → slice_get (steps_of parts view tags) n ≡ Some s → IsClients s.entry
    → s.after ≡ server_at (server_of view) (steps_of parts view tags) n
steps-still parts view [] n s is own = absurd cc
steps-still parts view (t ∷ tags) zero s is own =
    let first : PairStep = record { end = t.end; entry = t.entry; after = server_of (stepped (parts 0) view t.entry) } in
    let same : first ≡ s = cc in
    ap (λ (x : PairStep). x.after) (sym same) ∙ ap server_of (still-step (parts 0) view t.entry (subst (λ (x : PairStep). IsClients x.entry) (sym same) own))
steps-still parts view (t ∷ tags) (suc n) s is own = steps-still (λ k. parts (suc k)) (stepped (parts 0) view t.entry) tags n s is own

-- A call is executed for the end that sent it, and a record comes to the end whose call it answers.
record EndsRight (h : PairTold) : Type 0 where
  pub executed : (n end xid : ℕ) (call : Call) (reply : Reply) → StepIs h.steps n end (Executed xid call reply) → SentBy h.steps end n xid call
  pub delivered : (n end : ℕ) (bytes : List ℕ) → StepIs h.steps n end (Delivered bytes) → RepliedBy h.steps end n bytes

-- What a world tells is lawful as each client sees it, where what it tells is lawful as one client's, and the ends are right.
sides-lawful : (parts : ℕ → Option PartialWrite) (start : View) (tags : List Told) → Lawful (told_of parts start (map entry_in tags)) → EndsRight (pair_told parts start tags)
    → (end : ℕ) → Lawful (side end (pair_told parts start tags))
sides-lawful parts start tags lawful ends end =
    sides-are-lawful (pair_told parts start tags)
    (lawful-like (told_of parts start (map entry_in tags)) (whole (pair_told parts start tags)) (whole-entries parts start tags)
    (λ n le. whole-at parts start tags n (subst (λ (k : ℕ). n ≤ k) (map-length tags) le)) lawful)
    (record { executed = ends.executed; delivered = ends.delivered; still = steps-still parts start tags }) end

-- ---- the ends of what a world tells

abbrev told_option : Told → Option Told
told_option t = Some t

step_told : (parts : ℕ → Option PartialWrite) (view : View) (told : List Told) (n : ℕ) (s : PairStep) → slice_get (steps_of parts view told) n ≡ Some s → TellsAt told n s.end s.entry
step_told parts view [] n s is = absurd cc
step_told parts view (t ∷ told) zero s is =
    let first : PairStep = record { end = t.end; entry = t.entry; after = server_of (stepped (parts 0) view t.entry) } in
    let same : first ≡ s = cc in
    ap (λ (x : PairStep). told_option (record { end = x.end; entry = x.entry })) same
step_told parts view (t ∷ told) (suc n) s is = step_told (λ k. parts (suc k)) (stepped (parts 0) view t.entry) told n s is

-- a step of that end with that entry is told so
is_told : (parts : ℕ → Option PartialWrite) (view : View) (told : List Told) (n end : ℕ) (e : Entry) → StepIs (steps_of parts view told) n end e → TellsAt told n end e
is_told parts view told n end e s =
    step_told parts view told n s.step s.is ∙ ap (λ (z : ℕ). told_option (record { end = z; entry = s.step.entry })) s.end_is ∙ ap (λ (z : Entry). told_option (record { end = end; entry = z })) s.entry_is

-- and the other way round
told_step : (parts : ℕ → Option PartialWrite) (view : View) (told : List Told) (n end : ℕ) (e : Entry) → TellsAt told n end e → StepIs (steps_of parts view told) n end e
told_step parts view [] n end e at = absurd cc
told_step parts view (t ∷ told) zero end e at =
    let same : t ≡ record { end = end; entry = e } = cc in
    record {
      step = record { end = t.end; entry = t.entry; after = server_of (stepped (parts 0) view t.entry) };
      is = refl;
      end_is = ap (λ (x : Told). x.end) same;
      entry_is = ap (λ (x : Told). x.entry) same;
    }
told_step parts view (t ∷ told) (suc n) end e at =
    let rest = told_step (λ k. parts (suc k)) (stepped (parts 0) view t.entry) told n end e at in
    record { step = rest.step; is = rest.is; end_is = rest.end_is; entry_is = rest.entry_is }

replied_by : (parts : ℕ → Option PartialWrite) (view : View) (told : List Told) (end n : ℕ) (bytes : List ℕ) → AnswersAt told end n bytes → RepliedBy (steps_of parts view told) end n bytes
replied_by parts view told end n bytes (routes.replied m xid call reply lt at spells) = wholes.replied m xid call reply lt (told_step parts view told m end (Executed xid call reply) at) spells
replied_by parts view told end n bytes (routes.refused m xid code sent lt at under spells) = wholes.refused m xid code sent lt (told_step parts view told m end (Sent sent) at) under spells

ends_right : (parts : ℕ → Option PartialWrite) (view : View) (v : ServerEnds) → AreRouted v → EndsRight (pair_told parts view v.told)
ends_right parts view v r = record {
  executed = λ n end xid call reply s.
      let c = r.executed n end xid call reply (is_told parts view v.told n end (Executed xid call reply) s) in
      record { at = c.at; bytes = c.bytes; before = c.before; sent = told_step parts view v.told c.at end (Sent c.bytes) c.sent; spells = c.spells };
  delivered = λ n end bytes s. replied_by parts view v.told end n bytes (r.delivered n end bytes (is_told parts view v.told n end (Delivered bytes) s));
}

-- What an honest world whose ends are right tells is lawful as each client sees it.
pub pair_lawful : (v : PairView) → v.world.server.entries ≡ map entry_in v.ends.server.told → IsHonestWorld v.world → AreRouted v.ends.server → AreLawful (told_pair v)
pair_lawful v same h r =
    let parts : ℕ → Option PartialWrite = part_at v.world.server.partials in
    let whole_lawful : Lawful (told_of parts v.world.start (map entry_in v.ends.server.told)) = subst (λ (es : List Entry). Lawful (told_of parts v.world.start es)) same h.server.lawful in
    let ends = ends_right parts v.world.start v.ends.server r in
    record { first = sides-lawful parts v.world.start v.ends.server.told whole_lawful ends 0; second = sides-lawful parts v.world.start v.ends.server.told whole_lawful ends 1 }
