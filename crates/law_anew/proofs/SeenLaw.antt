-- What a later client sees of an honest server is honest.
use Rattle.std.proofs.Common.{◌≡◌, ◌≤◌, ◌<◌, ◌⊎◌, inl, inr, ℕ, zero, suc, List, [], ◌∷◌, ◌++◌, length, true, false, Option, Some, refl, sym, ap, subst, ◌∙◌, arith}
use Rattle.std.proofs.Math.Path.{fun_ext}
use Rattle.std.proofs.lemmas.Bool.{cases_lt}
use Rattle.nfs_types.specs.declared.verf.Verf.{Verf}
use Rattle.rpc_message.specs.Reply.{Accepted, SpellsRefusal}
use Rattle.rpc_message.proofs.ReplyLaws.{reply_first}
use Rattle.world_model.specs.declared.entry.Entry.{Entry}
use Rattle.world_model.specs.declared.entry.Entry.TheVariants.{Began, Answered, Dialed, Sent, Executed, Foreign, Flushed, Reboot, Delivered, Failed, Clock}
use Rattle.world_model.specs.declared.message.Call.{Call}
use Rattle.world_model.specs.declared.message.Reply.{Reply}
use Rattle.world_model.specs.Entries.{At}
use Rattle.world_model.specs.Fresh.{Fresh}
use Rattle.world_model.specs.History.{History}
use Rattle.world_model.specs.Lawful.{IsReplied, Lawful, LawfulAt, WasSent, replied, refused}
use Rattle.world_model.specs.Messages.{HasXid, SpellsCall, SpellsReply}
use Rattle.world_model.specs.Once.{Once}
use Rattle.world_model.specs.Server.{Object, Server, IsServer}
use Rattle.world_model.specs.Steps.{Same}
use Rattle.law_calls.proofs.CallsWait.{xid_of_call}
use Rattle.anew_link.specs.Anew.{is_own, since}
use Rattle.law_anew.specs.Seen.{IsApart, LaterClientsSee, Seen}
use Rattle.law_anew.proofs.Thin.{Moment, SeenAt, Shown, Still, Thin, aside_entry, back, bound, front-within, gap, moment, moment-early, order, own-behind, rises, rising, seen-at}
use Rattle.law_anew.proofs.Splitting.{split}

-- ---- servers

abbrev server : Verf → (List ℕ → Option Object) → Server
server v o = record { verf = v; object = o }

same-is : (s t : Server) → Same s t → t ≡ s
same-is s t w = ap (λ (v : Verf). server v t.object) w.verf ∙ ap (λ (o : List ℕ → Option Object). server s.verf o) (fun_ext w.object)

own-same : (h : History) (n : ℕ) (e : Entry) (s t : Server) → is_own e ≡ true → LawfulAt h n e s t → Same s t
own-same h n (Executed xid call reply) s t own l = absurd cc
own-same h n (Foreign call reply) s t own l = absurd cc
own-same h n (Flushed file from len) s t own l = absurd cc
own-same h n (Reboot verf) s t own l = absurd cc
own-same h n (Began lane line op) s t own l = l
own-same h n (Answered lane line answer) s t own l = l
own-same h n (Dialed port) s t own l = l
own-same h n (Sent bytes) s t own l = l
own-same h n (Delivered bytes) s t own l = l.same
own-same h n Failed s t own l = l
own-same h n (Clock ms) s t own l = l

-- ---- xids

xid-of-reply : (xid : ℕ) (call : Call) (reply : Reply) (bytes : List ℕ) → SpellsReply xid call reply bytes → HasXid bytes xid
xid-of-reply xid call reply bytes s = reply_first (Accepted xid s.results) bytes s.accepted

xid-of-refusal : (xid code : ℕ) (bytes : List ℕ) → SpellsRefusal xid code bytes → HasXid bytes xid
xid-of-refusal xid code bytes s = subst (λ (z : ℕ). HasXid bytes z) s.of (reply_first s.reply bytes s.is)

-- ---- places

at-front : (c rest : List Entry) (n : ℕ) (e : Entry) → At c n e → At (c ++ rest) n e
at-front [] rest n e at = absurd cc
at-front (x ∷ c) rest zero e at = at
at-front (x ∷ c) rest (suc n) e at = at-front c rest n e at

at-back : (c rest : List Entry) (n : ℕ) (e : Entry) → n < length c → At (c ++ rest) n e → At c n e
at-back [] rest n e lt at = absurd (omega (arith, lt))
at-back (x ∷ c) rest zero e lt at = at
at-back (x ∷ c) rest (suc n) e lt at = at-back c rest n e (omega (arith, lt)) at

at-within : (h : List Entry) (n : ℕ) (e : Entry) → At h n e → n < length h
at-within [] n e at = absurd cc
at-within (x ∷ h) zero e at = omega arith
at-within (x ∷ h) (suc n) e at = let r = at-within h n e at in omega (arith, r)

no-executed : (e : Entry) (xid : ℕ) (call : Call) (reply : Reply) → is_own e ≡ false → Executed xid call reply ≡ aside_entry e → ⊥
no-executed (Executed xid call reply) x c r own is = absurd cc
no-executed (Foreign call reply) x c r own is = absurd cc
no-executed (Flushed file from len) x c r own is = absurd cc
no-executed (Reboot verf) x c r own is = absurd cc
no-executed (Began lane line op) x c r own is = absurd cc
no-executed (Answered lane line answer) x c r own is = absurd cc
no-executed (Dialed port) x c r own is = absurd cc
no-executed (Sent bytes) x c r own is = absurd cc
no-executed (Delivered bytes) x c r own is = absurd cc
no-executed Failed x c r own is = absurd cc
no-executed (Clock ms) x c r own is = absurd cc

no-delivered : (e : Entry) (bytes : List ℕ) → is_own e ≡ false → Delivered bytes ≡ aside_entry e → ⊥
no-delivered (Executed xid call reply) b own is = absurd cc
no-delivered (Foreign call reply) b own is = absurd cc
no-delivered (Flushed file from len) b own is = absurd cc
no-delivered (Reboot verf) b own is = absurd cc
no-delivered (Began lane line op) b own is = absurd cc
no-delivered (Answered lane line answer) b own is = absurd cc
no-delivered (Dialed port) b own is = absurd cc
no-delivered (Sent bytes) b own is = absurd cc
no-delivered (Delivered bytes) b own is = absurd cc
no-delivered Failed b own is = absurd cc
no-delivered (Clock ms) b own is = absurd cc

-- ---- the law

module _ (first : ℕ) (c rest l : List Entry) (f : ℕ → ℕ) (th : Thin c l f) (low : first ≤ length c) (others : (n : ℕ) (e : Entry) → first ≤ n → At c n e → is_own e ≡ false)
    (a : ℕ → Server) (lawful : Lawful (record { entries = c ++ rest; at = a })) (apart : IsApart first (c ++ rest)) where
  abbrev h : History
  h = record { entries = c ++ rest; at = a }

  abbrev u : History
  u = record { entries = l ++ rest; at = λ (m : ℕ). a (f m) }

  still : Still a c
  still n e at own = same-is (a n) (a (suc n)) (own-same h n e (a n) (a (suc n)) own (lawful.entries n e (at-front c rest n e at)))

  -- a record that was sent in the front was sent in the first part
  sent-first : (q : ℕ) (bytes : List ℕ) → q < length c → At (c ++ rest) q (Sent bytes) → q < first
  sent-first q bytes front at = by (cases_lt q first)
    where
      by : (q < first) ⊎ (first ≤ q) → q < first
      by (inl early) = early
      by (inr later) = let none = others q (Sent bytes) later (at-back c rest q (Sent bytes) front at) in absurd cc

  -- a call that is executed behind the front was sent there
  sent-so : (m n xid : ℕ) (call : Call) (reply : Reply) → f m ≡ n → length c ≤ n → At (c ++ rest) n (Executed xid call reply) → WasSent (c ++ rest) n xid call → WasSent (l ++ rest) m xid call
  sent-so m n xid call reply is late at w = by (cases_lt w.at (length c))
    where
      by : (w.at < length c) ⊎ (length c ≤ w.at) → WasSent (l ++ rest) m xid call
      by (inl front) =
          absurd (apart.executed w.at n xid w.bytes call reply (sent-first w.at w.bytes front w.sent) (omega (arith, low, late)) w.sent (xid_of_call xid call w.bytes w.spells) at)
      by (inr behind) =
          let s = back c l f th rest w.at (Sent w.bytes) behind w.sent in
          let place = s.is in
          let before = w.before in
          record { at = s.place; bytes = w.bytes; before = order c l f th s.place m (omega (arith, place, is, before)); sent = s.there; spells = w.spells }

  -- and a record that comes behind it answers a call that was executed or sent there
  replied-so : (m n : ℕ) (bytes : List ℕ) → f m ≡ n → length c ≤ n → At (c ++ rest) n (Delivered bytes) → IsReplied (c ++ rest) n bytes → IsReplied (l ++ rest) m bytes
  replied-so m n bytes is late at (replied k xid call reply lt done spells) = by (cases_lt k (length c))
    where
      by : (k < length c) ⊎ (length c ≤ k) → IsReplied (l ++ rest) m bytes
      by (inl front) =
          let w : WasSent (c ++ rest) k xid call = (lawful.entries k (Executed xid call reply) done).0 in
          let before = w.before in
          absurd (apart.delivered w.at n xid w.bytes bytes (sent-first w.at w.bytes (omega (arith, before, front)) w.sent) (omega (arith, low, late)) w.sent (xid_of_call xid call w.bytes w.spells) at
          (xid-of-reply xid call reply bytes spells))
      by (inr behind) =
          let s = back c l f th rest k (Executed xid call reply) behind done in
          let place = s.is in
          replied s.place xid call reply (order c l f th s.place m (omega (arith, place, is, lt))) s.there spells
  replied-so m n bytes is late at (refused k xid code sent lt there under spells) = by (cases_lt k (length c))
    where
      by : (k < length c) ⊎ (length c ≤ k) → IsReplied (l ++ rest) m bytes
      by (inl front) =
          absurd (apart.delivered k n xid sent bytes (sent-first k sent front there) (omega (arith, low, late)) there under at (xid-of-refusal xid code bytes spells))
      by (inr behind) =
          let s = back c l f th rest k (Sent sent) behind there in
          let place = s.is in
          refused s.place xid code sent (order c l f th s.place m (omega (arith, place, is, lt))) s.there under spells

  -- the law of an entry behind the front
  late-law : (m : ℕ) (e : Entry) (s t : Server) → length c ≤ f m → At (c ++ rest) (f m) e → LawfulAt h (f m) e s t → LawfulAt u m e s t
  late-law m (Executed xid call reply) s t late at w = (sent-so m (f m) xid call reply refl late at w.0, w.1)
  late-law m (Foreign call reply) s t late at w = w
  late-law m (Flushed file from len) s t late at w = w
  late-law m (Reboot verf) s t late at w = record { verifier = w.verifier; new = λ k le is. w.new (f k) (rises c l f th k m le) is; left = w.left; steady = w.steady }
  late-law m (Delivered bytes) s t late at w = record { same = w.same; most = w.most; is = replied-so m (f m) bytes refl late at w.is }
  late-law m (Began lane line op) s t late at w = w
  late-law m (Answered lane line answer) s t late at w = w
  late-law m (Dialed port) s t late at w = w
  late-law m (Sent bytes) s t late at w = w
  late-law m Failed s t late at w = w
  late-law m (Clock ms) s t late at w = w

  -- and of one in it
  far-law : (m : ℕ) (e : Entry) (s t : Server) → is_own e ≡ false → LawfulAt h (f m) e s t → LawfulAt u m (aside_entry e) s t
  far-law m (Executed xid call reply) s t own w = w.1
  far-law m (Foreign call reply) s t own w = w
  far-law m (Flushed file from len) s t own w = w
  far-law m (Reboot verf) s t own w = record { verifier = w.verifier; new = λ k le is. w.new (f k) (rises c l f th k m le) is; left = w.left; steady = w.steady }
  far-law m (Began lane line op) s t own w = absurd cc
  far-law m (Answered lane line answer) s t own w = absurd cc
  far-law m (Dialed port) s t own w = absurd cc
  far-law m (Sent bytes) s t own w = absurd cc
  far-law m (Delivered bytes) s t own w = absurd cc
  far-law m Failed s t own w = absurd cc
  far-law m (Clock ms) s t own w = absurd cc

  entries-seen : (m : ℕ) (e : Entry) → At (l ++ rest) m e → LawfulAt u m e (a (f m)) (a (f (suc m)))
  entries-seen m e at =
      subst (λ (z : Server). LawfulAt u m e (a (f m)) z) (sym (gap c l f th a still m)) (by (seen-at c l f th rest m e at))
    where
      by : SeenAt c rest (f m) e → LawfulAt u m e (a (f m)) (a (suc (f m)))
      by s = how s.how
        where
          how : ((length c ≤ f m) × (s.was ≡ e)) ⊎ ((is_own s.was ≡ false) × (e ≡ aside_entry s.was)) → LawfulAt u m e (a (f m)) (a (suc (f m)))
          how (inl late) =
              let there : At (c ++ rest) (f m) e = subst (λ (x : Entry). At (c ++ rest) (f m) x) late.1 s.there in
              late-law m e (a (f m)) (a (suc (f m))) late.0 there (lawful.entries (f m) e there)
          how (inr far) =
              subst (λ (x : Entry). LawfulAt u m x (a (f m)) (a (suc (f m)))) (sym far.1)
              (far-law m s.was (a (f m)) (a (suc (f m))) far.0 (lawful.entries (f m) s.was s.there))

  pub seen-lawful : Lawful u
  seen-lawful = record { servers = λ m le. lawful.servers (f m) (bound c l f th rest m le); entries = entries-seen }

  -- where a call is executed, or a record comes, it is behind the front
  executed-there : (m xid : ℕ) (call : Call) (reply : Reply) → At (l ++ rest) m (Executed xid call reply) → At (c ++ rest) (f m) (Executed xid call reply)
  executed-there m xid call reply at = by (seen-at c l f th rest m (Executed xid call reply) at)
    where
      by : SeenAt c rest (f m) (Executed xid call reply) → At (c ++ rest) (f m) (Executed xid call reply)
      by s = how s.how
        where
          how : ((length c ≤ f m) × (s.was ≡ Executed xid call reply)) ⊎ ((is_own s.was ≡ false) × (Executed xid call reply ≡ aside_entry s.was)) → At (c ++ rest) (f m) (Executed xid call reply)
          how (inl late) = subst (λ (x : Entry). At (c ++ rest) (f m) x) late.1 s.there
          how (inr far) = absurd (no-executed s.was xid call reply far.0 far.1)

  delivered-there : (m : ℕ) (bytes : List ℕ) → At (l ++ rest) m (Delivered bytes) → At (c ++ rest) (f m) (Delivered bytes)
  delivered-there m bytes at = by (seen-at c l f th rest m (Delivered bytes) at)
    where
      by : SeenAt c rest (f m) (Delivered bytes) → At (c ++ rest) (f m) (Delivered bytes)
      by s = how s.how
        where
          how : ((length c ≤ f m) × (s.was ≡ Delivered bytes)) ⊎ ((is_own s.was ≡ false) × (Delivered bytes ≡ aside_entry s.was)) → At (c ++ rest) (f m) (Delivered bytes)
          how (inl late) = subst (λ (x : Entry). At (c ++ rest) (f m) x) late.1 s.there
          how (inr far) = absurd (no-delivered s.was bytes far.0 far.1)

  pub seen-once : Once (c ++ rest) → Once (l ++ rest)
  seen-once once i n xid bytes call reply came under done =
      order c l f th n i (once (f i) (f n) xid bytes call reply (delivered-there i bytes came) under (executed-there n xid call reply done))

  pub seen-fresh : Fresh h → Fresh u
  seen-fresh fresh n lt g old new before behind differs m o le at =
      fresh (f n) (inside n lt) g old new before (subst (λ (z : Server). z.object g ≡ Some new) (gap c l f th a still n) behind) differs (f m) o (rises c l f th m n le) at
    where
      inside : (n : ℕ) → n < length (l ++ rest) → f n < length (c ++ rest)
      inside n lt = let r = rising c l f th n (suc n) (omega arith) in let b = bound c l f th rest (suc n) (omega (arith, lt)) in omega (arith, r, b)

  pub seen-of : (start : List Entry) → length start ≡ first → l ++ rest ≡ since start (c ++ rest) → Seen start h
  seen-of start long is = record {
    seen = u;
    entries = is;
    lawful = seen-lawful;
    once = seen-once;
    fresh = seen-fresh;
    shows = λ m le. (f m, bound c l f th rest m le, refl);
    shown = λ n le. let r : Moment a f (length (l ++ rest)) n = moment c l f th rest a still n le in (r.at, r.within, r.is);
    until = length l;
    within = front-within l rest;
    early = λ m e at own. own-behind c l f th rest m e at own;
    before = λ n le. let r : Moment a f (length l) n = moment-early c l f th a still n (omega (arith, le, low, long)) in (r.at, r.within, r.is);
  }

-- with its entries as they are
seen-parted : (start : List Entry) (h : List Entry) (a : ℕ → Server) (c rest l : List Entry) (f : ℕ → ℕ) → Thin c l f → h ≡ c ++ rest → since start h ≡ l ++ rest → length start ≤ length c
    → ((n : ℕ) (e : Entry) → length start ≤ n → At c n e → is_own e ≡ false) → Lawful (record { entries = h; at = a }) → IsApart (length start) h → Seen start (record { entries = h; at = a })
seen-parted start h a c rest l f th is sees low others lawful apart =
    subst (λ (x : List Entry). Seen start (record { entries = x; at = a })) (sym is)
    (seen-of (length start) c rest l f th low others a (subst (λ (x : List Entry). Lawful (record { entries = x; at = a })) is lawful) (subst (IsApart (length start)) is apart) start refl
    (sym sees ∙ ap (since start) is))

pub later-clients-see : LaterClientsSee
later-clients-see t first more is lawful apart =
    let s = split first more in
    seen-parted first t.entries t.at s.c s.rest s.l s.f s.thin (is ∙ s.is) (ap (since first) is ∙ s.sees) s.low s.others lawful apart
