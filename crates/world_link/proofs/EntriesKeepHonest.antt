-- What keeps the world honest: each entry that its calls add, and each reply that they make ready or hold.
use Rattle.std.proofs.Common.{◌≡◌, ◌≤◌, ◌<◌, ℕ, zero, suc, true, List, [], ◌∷◌, ◌++◌, length, take, drop, get_or, slice_get, Option, Some, None, refl, sym, ap, subst, ◌∙◌, arith, length-append, take-append-drop}
use Rattle.std.specs.List.{remove}
use Rattle.std.proofs.lemmas.Bool.{cond_both}
use Rattle.xdr_codec.specs.Bytes.{IsBytes}
use Rattle.world_model.specs.declared.entry.Entry.{Entry}
use Rattle.world_model.specs.declared.entry.Entry.TheVariants as entries
use Rattle.world_model.specs.declared.entry.Mark.{Mark}
use Rattle.world_model.specs.declared.entry.Mark.TheVariants as marks
use Rattle.world_model.specs.declared.message.Call.{Call}
use Rattle.world_model.specs.declared.message.Reply.{Reply}
use Rattle.world_model.specs.History.{History}
use Rattle.world_model.specs.Lawful.{LawfulAt, Lawful}
use Rattle.world_model.specs.Rising.{RisesAt}
use Rattle.world_model.specs.Messages.{SpellsCall}
use Rattle.world_model.specs.Server.{IsServer}
use Rattle.world_model.specs.Service.{Serves}
use Rattle.world_model.proofs.Places.{At-grow, At-below, At-last}
use Rattle.outside.specs.Link.{entry_of}
use Rattle.export_fs.specs.View.{View}
use Rattle.export_fs.specs.Executed.{executed}
use Rattle.export_fs.proofs.PartialWrites.{partly_reboots}
use Rattle.export_fs.specs.Parts.{verifier, kind}
use Rattle.export_fs.specs.Restart.{may_restart, after_restart}
use Rattle.export_fs.specs.Risen.{PageRises, PagesRise}
use Rattle.export_fs.specs.Seen.{server_of}
use Rattle.export_fs.specs.Sound.{Sound}
use Rattle.export_fs.specs.Spelled.{IsSpelled}
use Rattle.export_fs.specs.Stamped.{Stamped}
use Rattle.export_fs.proofs.Reboots.{same_reboots}
use Rattle.export_fs.proofs.WorkedOutHistory.{no_pages, more_pages}
use Rattle.export_fs.proofs.ServesRestart.{restart_stays, restarts, flush_stays, flushes_file}
use Rattle.export_fs.proofs.ServerOfExport.{same_server}
use Rattle.export_fs.proofs.ExecuteServes.{serves, servers}
use Rattle.export_fs.proofs.SoundAfterCall.{stays_sound}
use Rattle.world_link.specs.declared.directive.RequestId.{RequestId}
use Rattle.world_link.specs.declared.directive.PartialWrite.{PartialWrite}
use Rattle.world_link.specs.declared.manner.Manner.{Manner}
use Rattle.world_link.specs.Handling.{kept, handled}
use Rattle.world_link.specs.Holding.{HeldView}
use Rattle.world_link.specs.Honest.{Every, IsSent, IsAnswer, IsBound, IsHonest, MayStand}
use Rattle.world_link.specs.Plans.{is_same}
use Rattle.world_link.specs.Replay.{is_granted, cut, stepped_by, stepped_with, stepped, replayed, part_at, told_of}
use Rattle.world_link.specs.Turning.{noted_as, taken}
use Rattle.world_link.specs.View.{ServerView}
use Rattle.world_link.proofs.AnswersAreHonest.{handles, MayBreak, handled_serves, handled_sound}
use Rattle.world_link.proofs.LawfulPlusOne.{replied_grows, law_at, lawful_more, lawful_none}
use Rattle.world_link.proofs.Beside.{kept_before, next_follows}
use Rattle.world_link.proofs.Replays.{executed_stepped, handled_stepped, later, replayed-append, replayed_same, front_same, told_same}
use Rattle.world_link.proofs.FreshAndRising.{stamped_replayed, told_page, foreign_page, flushed_page, reboot_page, sent_page, delivered_page, dialed_page, failed_page, began_page, answered_page, clock_page}

-- ---- lists

pub every_map : {A : Type 0} (P Q : A → Type 0) (xs : List A) → ((x : A) → P x → Q x) → Every P xs → Every Q xs
every_map P Q [] f e = tt
every_map P Q (x ∷ xs) f e = (f x e.0, every_map P Q xs f e.1)

pub every_append : {A : Type 0} (P : A → Type 0) (xs ys : List A) → Every P xs → Every P ys → Every P (xs ++ ys)
every_append P [] ys e f = f
every_append P (x ∷ xs) ys e f = (e.0, every_append P xs ys e.1 f)

pub every_front : {A : Type 0} (P : A → Type 0) (n : ℕ) (xs : List A) → Every P xs → Every P (take n xs)
every_front P zero xs e = tt
every_front P (suc n) [] e = tt
every_front P (suc n) (x ∷ xs) e = (e.0, every_front P n xs e.1)

pub every_rest : {A : Type 0} (P : A → Type 0) (n : ℕ) (xs : List A) → Every P xs → Every P (drop n xs)
every_rest P zero xs e = e
every_rest P (suc n) [] e = tt
every_rest P (suc n) (x ∷ xs) e = every_rest P n xs e.1

pub every_get : {A : Type 0} (P : A → Type 0) (i : ℕ) (xs : List A) (d : A) → i < length xs → Every P xs → P (get_or xs i d)
every_get P i [] d l e = absurd (omega (arith, l))
every_get P zero (x ∷ xs) d l e = e.0
every_get P (suc i) (x ∷ xs) d l e = every_get P i xs d (omega (arith, l)) e.1

-- ---- what was sent and what answers stays so

pub sent_on : (es more : List Entry) (rec : List ℕ) → IsSent es rec → IsSent (es ++ more) rec
sent_on es more rec s = (s.0, At-grow es more s.0 (entries.Sent rec) s.1)

pub answer_on : (es more : List Entry) (bytes : List ℕ) → IsAnswer es bytes → IsAnswer (es ++ more) bytes
answer_on es more bytes a = record { most = a.most; is = replied_grows es more (length es) (length (es ++ more)) bytes (omega (arith, length-append es more)) a.is }

-- ---- one entry more

pages_same : (p q : ℕ → Option PartialWrite) (start : View) (es : List Entry) → ((n : ℕ) → n < length es → p n ≡ q n) → PagesRise (replayed p) start es → PagesRise (replayed q) start es
pages_same p q start es h pages n xid call reply at = subst (λ (z : View). RisesAt (server_of z) call reply) (front_same p q start es h n) (pages n xid call reply at)

pub honest_more : (start : View) (v : ServerView) (part : Option PartialWrite) (e : Entry) (w : View) → w ≡ stepped part v.export e → IsHonest start v → MayStand start v part e
    → IsHonest start (record v { export = w; entries = v.entries ++ e ∷ []; partials = kept v.partials (length v.entries) part })
honest_more start v part e w is h m =
    let was : ℕ → Option PartialWrite = part_at v.partials in
    let now : ℕ → Option PartialWrite = part_at (kept v.partials (length v.entries) part) in
    let agree : (n : ℕ) → n < length v.entries → now n ≡ was n = λ n l. kept_before v.partials (length v.entries) part n l in
    let follows = next_follows start v part e w is h.follows in
    let before : v.export ≡ replayed now start v.entries = h.follows.export ∙ sym (replayed_same now was start v.entries agree) in
    let next : stepped part v.export e ≡ replayed now start (v.entries ++ e ∷ []) = sym is ∙ follows.export in
    let told : told_of was start v.entries ≡ told_of now start v.entries = sym (told_same now was start v.entries agree) in
    let law : LawfulAt (told_of now start v.entries) (length v.entries) e (server_of (replayed now start v.entries)) (server_of (replayed now start (v.entries ++ e ∷ []))) =
    law_at (told_of now start v.entries) (length v.entries) e (server_of v.export) (server_of (stepped part v.export e)) _ _ (ap server_of (sym before)) (ap server_of (sym next))
    (subst (λ (t : History). LawfulAt t (length v.entries) e (server_of v.export) (server_of (stepped part v.export e))) told m.law) in
    record {
      stamped = h.stamped;
      sound = subst Sound (sym is) m.sound;
      follows = follows;
      lawful = lawful_more now start v.entries e (subst Lawful told h.lawful) (subst (λ (z : View). IsServer (server_of z)) next (servers (stepped part v.export e) m.sound)) law;
      pages = more_pages (replayed now) start v.entries e (pages_same was now start v.entries (λ n l. sym (agree n l)) h.pages) (subst (λ (z : View). PageRises z e) before m.page);
      sent = λ s rec q. sent_on v.entries (e ∷ []) rec (h.sent s rec q);
      ready = every_map (IsAnswer v.entries) (IsAnswer (v.entries ++ e ∷ [])) v.ready (λ b a. answer_on v.entries (e ∷ []) b a) h.ready;
      held = every_map (λ (x : HeldView). IsAnswer v.entries x.bytes) (λ (x : HeldView). IsAnswer (v.entries ++ e ∷ []) x.bytes) v.held (λ x a. answer_on v.entries (e ∷ []) x.bytes a) h.held;
    }

-- an honest start
pub honest_start : (start : View) → Stamped start → Sound start → IsHonest start (record { export = start; entries = []; partials = []; sent = λ s. None; ready = []; held = [] })
honest_start start t s = record {
  stamped = t;
  sound = s;
  follows = record { known = λ n l. refl; export = refl };
  lawful = lawful_none (part_at []) start (servers start s);
  pages = no_pages (replayed (part_at [])) start;
  sent = λ x rec q. absurd (cc);
  ready = tt;
  held = tt;
}

stamped_now : (start : View) (v : ServerView) → IsHonest start v → Stamped v.export
stamped_now start v h = subst Stamped (sym h.follows.export) (stamped_replayed (part_at v.partials) start v.entries h.stamped)

-- ---- calls

pub told_stands : (start : View) (v : ServerView) (part : Option PartialWrite) (manner : Manner) (xid : ℕ) (call : Call) (rec : List ℕ) → IsHonest start v → MayBreak part call → IsBound manner.limit → IsSpelled call → IsSent v.entries rec → SpellsCall xid call rec
    → MayStand start v part (entries.Executed xid call (handled part manner v.export call).1)
told_stands start v part manner xid call rec h w m b sent spells = record {
  law = (
    record { at = sent.0; bytes = rec; before = At-below v.entries sent.0 (entries.Sent rec) sent.1; sent = sent.1; spells = spells },
    subst (λ (z : View). Serves (server_of v.export) call (handled part manner v.export call).1 (server_of z)) (sym (handled_stepped part manner v.export call)) (handled_serves part manner v.export call w m h.sound b),
  );
  sound = subst Sound (sym (handled_stepped part manner v.export call)) (handled_sound part manner v.export call w m h.sound b);
  page = told_page part manner v.export xid call (stamped_now start v h);
}

pub foreign_stands : (start : View) (v : ServerView) (call : Call) → IsHonest start v → IsSpelled call → MayStand start v None (entries.Foreign call (executed v.export call).1)
foreign_stands start v call h b = record {
  law = subst (λ (z : View). Serves (server_of v.export) call (executed v.export call).1 (server_of z)) (sym (executed_stepped v.export call)) (serves v.export call h.sound b);
  sound = subst Sound (sym (executed_stepped v.export call)) (stays_sound v.export call h.sound (handles call b));
  page = foreign_page v.export call (executed v.export call).1;
}

-- ---- restarts never fall

by_reboots : (v : View) (call : Call) (reply : Reply) → v.reboots ≤ (stepped_by v call reply).reboots
by_reboots v call reply = cond_both (is_granted reply) (executed v (cut call reply)).0 v (λ (w : View). v.reboots ≤ w.reboots) (λ e. omega (arith, same_reboots v (cut call reply))) (λ e. omega arith)

with_reboots : (part : Option PartialWrite) (v : View) (call : Call) (reply : Reply) → v.reboots ≤ (stepped_with part v call reply).reboots
with_reboots None v call reply = by_reboots v call reply
with_reboots (Some part) v call reply = omega (arith, partly_reboots v call part.bytes part.status)

stepped_reboots : (part : Option PartialWrite) (v : View) (e : Entry) → v.reboots ≤ (stepped part v e).reboots
stepped_reboots part v (entries.Began lane line op) = omega arith
stepped_reboots part v (entries.Answered lane line answer) = omega arith
stepped_reboots part v (entries.Dialed port) = omega arith
stepped_reboots part v (entries.Sent bytes) = omega arith
stepped_reboots part v (entries.Executed xid call reply) = with_reboots part v call reply
stepped_reboots part v (entries.Foreign call reply) = by_reboots v call reply
stepped_reboots part v (entries.Flushed file from count) = omega arith
stepped_reboots part v (entries.Reboot verf) = omega arith
stepped_reboots part v (entries.Delivered bytes) = omega arith
stepped_reboots part v entries.Failed = omega arith
stepped_reboots part v (entries.Clock ms) = omega arith

replayed_reboots : (parts : ℕ → Option PartialWrite) (v : View) (es : List Entry) → v.reboots ≤ (replayed parts v es).reboots
replayed_reboots parts v [] = omega arith
replayed_reboots parts v (e ∷ es) = omega (arith, stepped_reboots (parts 0) v e, replayed_reboots (λ n. parts (suc n)) (stepped (parts 0) v e) es)

earlier_reboots : (parts : ℕ → Option PartialWrite) (start : View) (es : List Entry) (m : ℕ) → (replayed parts start (take m es)).reboots ≤ (replayed parts start es).reboots
earlier_reboots parts start es m =
    let after : ℕ → Option PartialWrite = later (length (take m es)) parts in
    let both : replayed parts start es ≡ replayed after (replayed parts start (take m es)) (drop m es) = ap (replayed parts start) (sym (take-append-drop m es)) ∙ replayed-append parts start (take m es) (drop m es) in
    subst (λ (z : View). (replayed parts start (take m es)).reboots ≤ z.reboots) (sym both) (replayed_reboots after (replayed parts start (take m es)) (drop m es))

pub restart_stands : (start : View) (v : ServerView) → IsHonest start v → may_restart v.export ≡ true → MayStand start v None (entries.Reboot (verifier (after_restart v.export)))
restart_stands start v h may =
    let r = restarts v.export may in
    record {
      law = record {
        verifier = refl;
        new = λ m small. r.new (replayed (part_at v.partials) start (take m v.entries)) (omega (arith, earlier_reboots (part_at v.partials) start v.entries m, ap (λ (z : View). z.reboots) h.follows.export));
        left = r.left;
        steady = r.steady;
      };
      sound = restart_stays v.export h.sound may;
      page = reboot_page v.export (verifier (after_restart v.export));
    }

pub flushed_stands : (start : View) (v : ServerView) (file : List ℕ) (size : ℕ) → IsHonest start v → IsBytes file → kind v.export.nodes file ≡ 1 → MayStand start v None (entries.Flushed file 0 size)
flushed_stands start v file size h b k = record {
  law = flushes_file v.export file 0 size b k;
  sound = flush_stays v.export h.sound file 0 size;
  page = flushed_page v.export file 0 size;
}

-- ---- entries of the client

pub sent_stands : (start : View) (v : ServerView) (rec : List ℕ) → IsHonest start v → MayStand start v None (entries.Sent rec)
sent_stands start v rec h = record { law = same_server v.export; sound = h.sound; page = sent_page v.export rec }

pub delivered_stands : (start : View) (v : ServerView) (rec : List ℕ) → IsHonest start v → IsAnswer v.entries rec → MayStand start v None (entries.Delivered rec)
delivered_stands start v rec h a = record { law = record { same = same_server v.export; most = a.most; is = a.is }; sound = h.sound; page = delivered_page v.export rec }

pub dialed_stands : (start : View) (v : ServerView) (port : ℕ) → IsHonest start v → MayStand start v None (entries.Dialed port)
dialed_stands start v port h = record { law = same_server v.export; sound = h.sound; page = dialed_page v.export port }

pub failed_stands : (start : View) (v : ServerView) → IsHonest start v → MayStand start v None entries.Failed
failed_stands start v h = record { law = same_server v.export; sound = h.sound; page = failed_page v.export }

marked : (start : View) (v : ServerView) (mark : Mark) → stepped None v.export (entry_of mark) ≡ v.export
marked start v (marks.Began lane line op) = refl
marked start v (marks.Answered lane line answer) = refl
marked start v (marks.Clock ms) = refl

mark_stands : (start : View) (v : ServerView) (mark : Mark) → IsHonest start v → MayStand start v None (entry_of mark)
mark_stands start v (marks.Began lane line op) h = record { law = same_server v.export; sound = h.sound; page = began_page v.export lane line op }
mark_stands start v (marks.Answered lane line answer) h = record { law = same_server v.export; sound = h.sound; page = answered_page v.export lane line answer }
mark_stands start v (marks.Clock ms) h = record { law = same_server v.export; sound = h.sound; page = clock_page v.export ms }

-- a mark is noted
pub honest_noted : (start : View) (v : ServerView) (mark : Mark) → IsHonest start v → IsHonest start (record v { entries = v.entries ++ entry_of mark ∷ [] })
honest_noted start v mark h = honest_more start v None (entry_of mark) v.export (sym (marked start v mark)) h (mark_stands start v mark h)

-- a wait that was silent
pub honest_failed : (start : View) (v : ServerView) → IsHonest start v → IsHonest start (record v { entries = v.entries ++ entries.Failed ∷ [] })
honest_failed start v h = honest_more start v None entries.Failed v.export refl h (failed_stands start v h)

pub honest_dialed : (start : View) (v : ServerView) (port : ℕ) → IsHonest start v → IsHonest start (record v { entries = v.entries ++ entries.Dialed port ∷ [] })
honest_dialed start v port h = honest_more start v None (entries.Dialed port) v.export refl h (dialed_stands start v port h)

some_is : (a b : List ℕ) → Some a ≡ Some b → a ≡ b
some_is a b e = cc

noted_sent : (es : List Entry) (sent : RequestId → Option (List ℕ)) (name : Option RequestId) (rec : List ℕ) → ((s : RequestId) (r : List ℕ) → sent s ≡ Some r → IsSent es r) → (s : RequestId) (r : List ℕ) → noted_as sent name rec s ≡ Some r → IsSent (es ++ entries.Sent rec ∷ []) r
noted_sent es sent None rec h s r q = sent_on es (entries.Sent rec ∷ []) r (h s r q)
noted_sent es sent (Some name) rec h s r q =
    cond_both (is_same name s) (Some rec) (sent s) (λ (o : Option (List ℕ)). o ≡ Some r → IsSent (es ++ entries.Sent rec ∷ []) r)
    (λ e p. subst (IsSent (es ++ entries.Sent rec ∷ [])) (some_is rec r p) (length es, At-last es (entries.Sent rec)))
    (λ e p. sent_on es (entries.Sent rec ∷ []) r (h s r p)) q

-- a record is sent
pub honest_sent : (start : View) (v : ServerView) (name : Option RequestId) (rec : List ℕ) → IsHonest start v → IsHonest start (taken v name rec)
honest_sent start v name rec h =
    let k = honest_more start v None (entries.Sent rec) v.export refl h (sent_stands start v rec h) in
    record { stamped = k.stamped; sound = k.sound; follows = k.follows; lawful = k.lawful; pages = k.pages; sent = noted_sent v.entries v.sent name rec h.sent; ready = k.ready; held = k.held }

-- a reply that is ready comes
pub honest_delivered : (start : View) (v : ServerView) (rec : List ℕ) (rest : List (List ℕ)) → v.ready ≡ rec ∷ rest → IsHonest start v → IsHonest start (record v { entries = v.entries ++ entries.Delivered rec ∷ []; ready = rest })
honest_delivered start v rec rest is h =
    let ready : Every (IsAnswer v.entries) (rec ∷ rest) = subst (Every (IsAnswer v.entries)) is h.ready in
    let k = honest_more start v None (entries.Delivered rec) v.export refl h (delivered_stands start v rec h ready.0) in
    let left : Every (IsAnswer (v.entries ++ entries.Delivered rec ∷ [])) (rec ∷ rest) = subst (Every (IsAnswer (v.entries ++ entries.Delivered rec ∷ []))) is k.ready in
    record { stamped = k.stamped; sound = k.sound; follows = k.follows; lawful = k.lawful; pages = k.pages; sent = k.sent; ready = left.1; held = k.held }

pub every_slice : {A : Type 0} (P : A → Type 0) (xs : List A) (i : ℕ) (x : A) → slice_get xs i ≡ Some x → Every P xs → P x
every_slice P [] i x at e = absurd cc
every_slice P (y ∷ xs) zero x at e = let same : y ≡ x = cc in subst P same e.0
every_slice P (y ∷ xs) (suc i) x at e = every_slice P xs i x at e.1

-- the same of the one at a place
pub honest_delivered_at : (start : View) (v : ServerView) (place : ℕ) (rec : List ℕ) → slice_get v.ready place ≡ Some rec → IsHonest start v
    → IsHonest start (record v { entries = v.entries ++ entries.Delivered rec ∷ []; ready = remove v.ready place })
honest_delivered_at start v place rec is h =
    let k = honest_more start v None (entries.Delivered rec) v.export refl h (delivered_stands start v rec h (every_slice (IsAnswer v.entries) v.ready place rec is h.ready)) in
    let more : List Entry = v.entries ++ entries.Delivered rec ∷ [] in
    record {
      stamped = k.stamped;
      sound = k.sound;
      follows = k.follows;
      lawful = k.lawful;
      pages = k.pages;
      sent = k.sent;
      ready = every_append (IsAnswer more) (take place v.ready) (drop (suc place) v.ready) (every_front (IsAnswer more) place v.ready k.ready) (every_rest (IsAnswer more) (suc place) v.ready k.ready);
      held = k.held;
    }

-- ---- replies

-- a reply is ready
pub honest_ready : (start : View) (v : ServerView) (bytes : List ℕ) → IsAnswer v.entries bytes → IsHonest start v → IsHonest start (record v { ready = v.ready ++ bytes ∷ [] })
honest_ready start v bytes a h = record { stamped = h.stamped; sound = h.sound; follows = h.follows; lawful = h.lawful; pages = h.pages; sent = h.sent; ready = every_append (IsAnswer v.entries) v.ready (bytes ∷ []) h.ready (a, tt); held = h.held }

-- a reply is held
pub honest_held : (start : View) (v : ServerView) (held : HeldView) → IsAnswer v.entries held.bytes → IsHonest start v → IsHonest start (record v { held = v.held ++ held ∷ [] })
honest_held start v held a h =
    record { stamped = h.stamped; sound = h.sound; follows = h.follows; lawful = h.lawful; pages = h.pages; sent = h.sent; ready = h.ready; held = every_append (λ (x : HeldView). IsAnswer v.entries x.bytes) v.held (held ∷ []) h.held (a, tt) }

-- a reply that was held is ready
pub honest_moved : (start : View) (v : ServerView) (place : ℕ) (d : HeldView) → place < length v.held → IsHonest start v
    → IsHonest start (record v { ready = v.ready ++ (get_or v.held place d).bytes ∷ []; held = remove v.held place })
honest_moved start v place d l h =
    record {
      stamped = h.stamped;
      sound = h.sound;
      follows = h.follows;
      lawful = h.lawful;
      pages = h.pages;
      sent = h.sent;
      ready = every_append (IsAnswer v.entries) v.ready ((get_or v.held place d).bytes ∷ []) h.ready (every_get (λ (x : HeldView). IsAnswer v.entries x.bytes) place v.held d l h.held, tt);
      held = every_append (λ (x : HeldView). IsAnswer v.entries x.bytes) (take place v.held) (drop (suc place) v.held) (every_front (λ (x : HeldView). IsAnswer v.entries x.bytes) place v.held h.held) (every_rest (λ (x : HeldView). IsAnswer v.entries x.bytes) (suc place) v.held h.held);
    }
