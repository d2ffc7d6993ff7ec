-- Histories that are made step by step over the small server, and when they are lawful, once and fresh.
use Rattle.std.proofs.Common.{inl, inr, ◌⊎◌, ◌≡◌, ◌≢◌, ◌<◌, ◌≤◌, ◌+◌, ◌^◌, ◌==◌, ℕ, zero, suc, Bool, true, false, nat_lt, List, [], ◌∷◌, length, Option, Some, refl, sym, ap, subst, ◌∙◌, slice_get, arith, if◌then◌else◌}
use Rattle.std.specs.Prelude.{⊤}
use Rattle.std.proofs.lemmas.Bool.{cases_lt, ltb-true, eq-eqb}
use Rattle.nfs_types.specs.declared.wcc.Stamp.{Stamp}
use Rattle.nfs_types.specs.declared.verf.Verf.{Verf}
use Rattle.nfs_types.specs.Stamps.{stamp_of}
use Rattle.world_model.specs.declared.answer.Answer.{Answer}
use Rattle.world_model.specs.declared.entry.Entry.{Entry}
use Rattle.world_model.specs.declared.entry.Entry.TheVariants as entries
use Rattle.world_model.specs.declared.message.Call.{Call}
use Rattle.world_model.specs.declared.message.Reply.{Reply}
use Rattle.world_model.specs.declared.op.Op.{Op}
use Rattle.world_model.specs.Entries.{At}
use Rattle.world_model.specs.Fresh as changes
use Rattle.world_model.specs.Fresh.{Differs, Fresh}
use Rattle.world_model.specs.History.{History}
use Rattle.world_model.specs.Lawful.{WasSent, IsLeft, IsSteady, same, lost, replied, LawfulAt, Lawful}
use Rattle.world_model.specs.Messages.{HasXid}
use Rattle.world_model.specs.Once.{Once}
use Rattle.world_model.specs.Server.{Listed, Bytes, Entries, Object}
use Rattle.world_model.specs.Service.{Serves}
use Rattle.honest_histories.proofs.SmallServer.{State, directory, file, place, serve, verf, stays, one_of, is_server, IsOne}
use Rattle.honest_histories.proofs.Written.{call_record, reply_record, reply_under, Talk}

-- One step: of the client, as the entry; of the server, with what it holds afterwards.
pub data Event : Type 0 where
  Begins : (lane line : ℕ) (op : Op) → Event
  Answers : (lane line : ℕ) (answer : Answer) → Event
  Sends : (xid : ℕ) (call : Call) → Event
  Does : (xid : ℕ) (call : Call) (reply : Reply) (t : State) → Event
  Comes : (xid : ℕ) (reply : Reply) → Event
  Others : (call : Call) (reply : Reply) (t : State) → Event
  Restarts : (t : State) → Event
  Fails : Event
  Looks : (ms : ℕ) → Event

abbrev pub entry_of : Event → Entry
entry_of (Begins lane line op) = entries.Began lane line op
entry_of (Answers lane line answer) = entries.Answered lane line answer
entry_of (Sends xid call) = entries.Sent (call_record xid call)
entry_of (Does xid call reply t) = entries.Executed xid call reply
entry_of (Comes xid reply) = entries.Delivered (reply_record xid reply)
entry_of (Others call reply t) = entries.Foreign call reply
entry_of (Restarts t) = entries.Reboot (verf t.verf)
entry_of Fails = entries.Failed
entry_of (Looks ms) = entries.Clock ms

abbrev pub after : Event → State → State
after (Does xid call reply t) s = t
after (Others call reply t) s = t
after (Restarts t) s = t
after e s = s

abbrev pub entries_of : List Event → List Entry
entries_of [] = []
entries_of (e ∷ es) = entry_of e ∷ entries_of es

-- the server before the place n
abbrev pub state_at : State → List Event → ℕ → State
state_at s es zero = s
state_at s [] (suc n) = s
state_at s (e ∷ es) (suc n) = state_at (after e s) es n

abbrev pub made : State → List Event → History
made s es = record { entries = entries_of es; at = λ n. serve (state_at s es n) }

-- ---- what makes each step right

-- The file keeps its bytes and its time, or its time is later; and so the directory. No verifier falls.
pub record Moves (s t : State) : Type 0 where
  pub verf : s.verf ≤ t.verf
  pub bytes : ((t.now ≡ s.now) × (t.changed ≡ s.changed)) ⊎ (s.changed < t.changed)
  pub names : ((t.letter ≡ s.letter) × (t.moved ≡ s.moved)) ⊎ (s.moved < t.moved)
  pub sound : length s.stable ≤ length s.now → length t.stable ≤ length t.now

-- a call of this client was sent, and the server does it
pub record Did (h : List Entry) (n : ℕ) (s : State) (xid : ℕ) (call : Call) (reply : Reply) (t : State) : Type 0 where
  pub sent : WasSent h n xid call
  pub serves : Serves (serve s) call reply (serve t)
  pub moves : Moves s t

-- a reply to a call that was executed
pub record Came (h : List Entry) (n xid : ℕ) (reply : Reply) : Type 0 where
  pub at : ℕ
  pub call : Call
  pub before : at < n
  pub did : At h at (entries.Executed xid call reply)
  pub talk : Talk xid call reply

pub record Changed (s : State) (call : Call) (reply : Reply) (t : State) : Type 0 where
  pub serves : Serves (serve s) call reply (serve t)
  pub moves : Moves s t

pub record Restarted (s t : State) : Type 0 where
  pub verf : s.verf < t.verf
  pub file : IsLeft (Some (file s)) (Some (file t))
  pub names : directory t ≡ directory s
  pub steady : t.now ≡ t.stable
  pub moves : Moves s t

abbrev pub Fits : List Entry → ℕ → State → Event → Type 0
Fits h n s (Does xid call reply t) = Did h n s xid call reply t
Fits h n s (Comes xid reply) = Came h n xid reply
Fits h n s (Others call reply t) = Changed s call reply t
Fits h n s (Restarts t) = Restarted s t
Fits h n s e = ⊤

-- one piece of evidence, and the others
infixr 4 ◌⍮◌
abbrev pub ◌⍮◌ : {A B : Type 0} → A → B → A × B
a ⍮ b = (a, b)

-- each step from the place n on is right; those that need nothing are left out
abbrev pub AllFit : List Entry → ℕ → State → List Event → Type 0
AllFit h n s [] = ⊤
AllFit h n s (Does xid call reply t ∷ es) = Did h n s xid call reply t × AllFit h (suc n) t es
AllFit h n s (Comes xid reply ∷ es) = Came h n xid reply × AllFit h (suc n) s es
AllFit h n s (Others call reply t ∷ es) = Changed s call reply t × AllFit h (suc n) t es
AllFit h n s (Restarts t ∷ es) = Restarted s t × AllFit h (suc n) t es
AllFit h n s (Begins lane line op ∷ es) = AllFit h (suc n) s es
AllFit h n s (Answers lane line answer ∷ es) = AllFit h (suc n) s es
AllFit h n s (Sends xid call ∷ es) = AllFit h (suc n) s es
AllFit h n s (Fails ∷ es) = AllFit h (suc n) s es
AllFit h n s (Looks ms ∷ es) = AllFit h (suc n) s es

head_fits : (h : List Entry) (n : ℕ) (s : State) (e : Event) (es : List Event) → AllFit h n s (e ∷ es) → Fits h n s e × AllFit h (suc n) (after e s) es
head_fits h n s (Does xid call reply t) es a = (a.0, a.1)
head_fits h n s (Comes xid reply) es a = (a.0, a.1)
head_fits h n s (Others call reply t) es a = (a.0, a.1)
head_fits h n s (Restarts t) es a = (a.0, a.1)
head_fits h n s (Begins lane line op) es a = (tt, a)
head_fits h n s (Answers lane line answer) es a = (tt, a)
head_fits h n s (Sends xid call) es a = (tt, a)
head_fits h n s Fails es a = (tt, a)
head_fits h n s (Looks ms) es a = (tt, a)

pub idle : (s : State) → Moves s s
idle s = record { verf = omega arith; bytes = inl (refl, refl); names = inl (refl, refl); sound = λ le. le }

moves_on : (h : List Entry) (n : ℕ) (s : State) (e : Event) → Fits h n s e → Moves s (after e s)
moves_on h n s (Does xid call reply t) f = f.moves
moves_on h n s (Comes xid reply) f = idle s
moves_on h n s (Others call reply t) f = f.moves
moves_on h n s (Restarts t) f = f.moves
moves_on h n s (Begins lane line op) f = idle s
moves_on h n s (Answers lane line answer) f = idle s
moves_on h n s (Sends xid call) f = idle s
moves_on h n s Fails f = idle s
moves_on h n s (Looks ms) f = idle s

pub did : {h : List Entry} {n : ℕ} {s t : State} {xid : ℕ} {call : Call} {reply : Reply} (at : ℕ) → at < n → At h at (entries.Sent (call_record xid call)) → Talk xid call reply → Serves (serve s) call reply (serve t)
    → Moves s t → Did h n s xid call reply t
did {h} {n} {s} {t} {xid} {call} {reply} at before sent talk serves moves =
    record { sent = record { at = at; bytes = call_record xid call; before = before; sent = sent; spells = talk.call_is }; serves = serves; moves = moves }

pub came : {h : List Entry} {n xid : ℕ} {reply : Reply} (at : ℕ) (call : Call) → at < n → At h at (entries.Executed xid call reply) → Talk xid call reply → Came h n xid reply
came at call before was talk = record { at = at; call = call; before = before; did = was; talk = talk }

-- the file gets other bytes, at a later time
pub newer : {s t : State} → t.verf ≡ s.verf → s.changed < t.changed → t.letter ≡ s.letter → t.moved ≡ s.moved → length t.stable ≤ length t.now → Moves s t
newer v later letter moved sound = record { verf = omega (arith, v); bytes = inr later; names = inl (letter, moved); sound = λ le. sound }

-- bytes become stable
pub steadier : (s t : State) → t.verf ≡ s.verf → t.now ≡ s.now → t.changed ≡ s.changed → t.letter ≡ s.letter → t.moved ≡ s.moved → length t.stable ≤ length t.now → Moves s t
steadier s t v now changed letter moved sound = record { verf = omega (arith, v); bytes = inl (now, changed); names = inl (letter, moved); sound = λ le. sound }

-- the server restarts, and the file has only what was stable
pub restarted : (s : State) (v changed : ℕ) → s.verf < v → s.changed < changed → s.now ≢ s.stable → Restarted s (record s { verf = v; now = s.stable; changed = changed })
restarted s v changed newer_verf later other = record {
  verf = newer_verf;
  file = lost (file s) (file (record s { verf = v; now = s.stable; changed = changed })) s.now s.stable refl refl refl other (record { holds = refl; gone = refl; kind = refl; fileid = refl });
  names = refl;
  steady = refl;
  moves = record { verf = omega (arith, newer_verf); bytes = inr later; names = inl (refl, refl); sound = λ le. omega arith };
}

-- ---- one step of the whole

-- no number of the one is above that of the other
record Below (s t : State) : Type 0 where
  verf : s.verf ≤ t.verf
  changed : s.changed ≤ t.changed
  moved : s.moved ≤ t.moved

below_by : (s t : State) → Moves s t → Below s t
below_by s t m = record {
  verf = m.verf;
  changed = elim m.bytes [ inl k ↦ (let e = k.1 in omega (arith, e)) | inr lt ↦ omega (arith, lt) ];
  moved = elim m.names [ inl k ↦ (let e = k.1 in omega (arith, e)) | inr lt ↦ omega (arith, lt) ];
}

below_all : (r s t : State) → Below r s → Below s t → Below r t
below_all r s t a b = record { verf = omega (arith, a.verf, b.verf); changed = omega (arith, a.changed, b.changed); moved = omega (arith, a.moved, b.moved) }

below_same : (s : State) → Below s s
below_same s = record { verf = omega arith; changed = omega arith; moved = omega arith }

record One (first : State) (all : List Event) (n : ℕ) (e : Event) : Type 0 where
  fits : Fits (entries_of all) n (state_at first all n) e
  next : state_at first all (suc n) ≡ after e (state_at first all n)
  older : (m : ℕ) → m ≤ n → Below (state_at first all m) (state_at first all n)
  sound : length (state_at first all n).stable ≤ length (state_at first all n).now

-- from the place k on the history is that of these steps
record Along (first : State) (all : List Event) (k : ℕ) (s : State) (es : List Event) : Type 0 where
  same_at : (i n : ℕ) → n ≡ k + i → state_at first all n ≡ state_at s es i
  older : (m : ℕ) → m ≤ k → Below (state_at first all m) s
  sound : length s.stable ≤ length s.now

along_next : (first : State) (all : List Event) (k : ℕ) (s : State) (e : Event) (es : List Event) → Along first all k s (e ∷ es) → Moves s (after e s) → Along first all (suc k) (after e s) es
along_next first all k s e es a m = record {
  same_at = λ i n is. a.same_at (suc i) n (omega (arith, is));
  older = λ j le. elim (cases_lt k j) [
    | inl lt ↦ subst (λ (z : State). Below z (after e s)) (sym (a.same_at 1 j (omega (arith, le, lt)))) (below_same (after e s))
    | inr small ↦ below_all (state_at first all j) s (after e s) (a.older j small) (below_by s (after e s) m)
  ];
  sound = m.sound a.sound;
}

one_here : (first : State) (all : List Event) (k n : ℕ) (s : State) (e : Event) (es : List Event) → n ≡ k → Along first all k s (e ∷ es) → Fits (entries_of all) k s e → One first all n e
one_here first all k n s e es is a f =
    let here : state_at first all k ≡ s = a.same_at 0 k (omega arith) in
    let next : state_at first all (suc k) ≡ after e s = a.same_at 1 (suc k) (omega arith) in
    rw is (record {
      fits = subst (λ (z : State). Fits (entries_of all) k z e) (sym here) f;
      next = next ∙ ap (λ (z : State). after e z) (sym here);
      older = λ m le. subst (λ (z : State). Below (state_at first all m) z) (sym here) (a.older m le);
      sound = subst (λ (z : State). length z.stable ≤ length z.now) (sym here) a.sound;
    })

one_of_all : (first : State) (all : List Event) (k : ℕ) (s : State) (es : List Event) → AllFit (entries_of all) k s es → Along first all k s es → (i n : ℕ) (e : Event) → n ≡ k + i → slice_get es i ≡ Some e → One first all n e
one_of_all first all k s [] f a i n e is at = absurd (cc at)
one_of_all first all k s (x ∷ es) f a zero n e is at =
    let same_event : x ≡ e = cc at in
    let p = head_fits (entries_of all) k s x es f in
    subst (λ (z : Event). One first all n z) same_event (one_here first all k n s x es (omega (arith, is)) a p.0)
one_of_all first all k s (x ∷ es) f a (suc i) n e is at =
    let p = head_fits (entries_of all) k s x es f in
    one_of_all first all (suc k) (after x s) es p.1 (along_next first all k s x es a (moves_on (entries_of all) k s x p.0)) i n e (omega (arith, is)) at

-- The history begins with a sound server, and each step is right.
pub record Right (first : State) (all : List Event) : Type 0 where
  pub sound : length first.stable ≤ length first.now
  pub fits : AllFit (entries_of all) 0 first all

start : (first : State) (all : List Event) → Right first all → Along first all 0 first all
start first all r = record { same_at = λ i n is. (let e : n ≡ i = omega (arith, is) in rw e refl); older = λ m le. (let z : m ≡ 0 = omega (arith, le) in rw z (below_same first)); sound = r.sound }

one_step : (first : State) (all : List Event) → Right first all → (n : ℕ) (e : Event) → slice_get all n ≡ Some e → One first all n e
one_step first all r n e at = one_of_all first all 0 first all r.fits (start first all r) n n e (omega arith) at

-- ---- events and entries

pub record Behind (es : List Event) (n : ℕ) (e : Entry) : Type 0 where
  pub event : Event
  pub at : slice_get es n ≡ Some event
  pub is : entry_of event ≡ e

pub behind : (es : List Event) (n : ℕ) (e : Entry) → At (entries_of es) n e → Behind es n e
behind [] n e at = absurd (cc at)
behind (x ∷ es) zero e at = record { event = x; at = refl; is = cc at }
behind (x ∷ es) (suc n) e at = let r = behind es n e at in record { event = r.event; at = r.at; is = r.is }

event_at : (es : List Event) (n : ℕ) → n < length es → (e : Event) × (slice_get es n ≡ Some e)
event_at [] n lt = absurd (omega (arith, lt))
event_at (x ∷ es) zero lt = (x, refl)
event_at (x ∷ es) (suc n) lt = event_at es n (omega (arith, lt))

entries_long : (es : List Event) → length (entries_of es) ≡ length es
entries_long [] = refl
entries_long (e ∷ es) = ap suc (entries_long es)

-- ---- lawful

verf_apart : (a b : ℕ) → a < b → verf a ≡ verf b → ⊥
verf_apart a b lt e = let same_first : a ≡ b = cc (ap (λ (v : Verf). v.0) e) in omega (arith, lt, same_first)

left_of : (s t : State) → Restarted s t → (h : List ℕ) → IsLeft (place s h) (place t h)
left_of s t r [] = same (ap (λ (o : Object). Some o) r.names)
left_of s t r (zero ∷ []) = r.file
left_of s t r (zero ∷ c ∷ h) = same refl
left_of s t r (suc b ∷ h) = same refl

bytes_same : (a b now stable : List ℕ) → Bytes a b ≡ Bytes now stable → (a ≡ now) × (b ≡ stable)
bytes_same a b now stable e = (cc e, cc e)

steady_of : (s t : State) → Restarted s t → (h : List ℕ) → IsSteady (place t h)
steady_of s t r h o now stable is holds = elim (one_of t h o is) [
  | inl k ↦ (let e : Entries _ ≡ Bytes now stable = ap (λ (z : Object). z.holds) k.1 ∙ holds in absurd (cc e))
  | inr k ↦ (let p = bytes_same t.now t.stable now stable (ap (λ (z : Object). z.holds) k.1 ∙ holds) in sym p.0 ∙ r.steady ∙ p.1)
]

law_of : (first : State) (all : List Event) (n : ℕ) (e : Event) → One first all n e → LawfulAt (made first all) n (entry_of e) (serve (state_at first all n)) (serve (after e (state_at first all n)))
law_of first all n (Begins lane line op) o = stays (state_at first all n)
law_of first all n (Answers lane line answer) o = stays (state_at first all n)
law_of first all n (Sends xid call) o = stays (state_at first all n)
law_of first all n Fails o = stays (state_at first all n)
law_of first all n (Looks ms) o = stays (state_at first all n)
law_of first all n (Does xid call reply t) o = (o.fits.sent, o.fits.serves)
law_of first all n (Comes xid reply) o = record {
  same = stays (state_at first all n);
  most = o.fits.talk.short;
  is = replied o.fits.at xid o.fits.call reply o.fits.before o.fits.did o.fits.talk.reply_is;
}
law_of first all n (Others call reply t) o = o.fits.serves
law_of first all n (Restarts t) o = record {
  verifier = refl;
  new = λ m le. verf_apart (state_at first all m).verf t.verf (let b = (o.older m le).verf in omega (arith, b, o.fits.verf));
  left = left_of (state_at first all n) t o.fits;
  steady = steady_of (state_at first all n) t o.fits;
}

lawful_at : (first : State) (all : List Event) → Right first all → (n : ℕ) (e : Entry) → At (entries_of all) n e → LawfulAt (made first all) n e (serve (state_at first all n)) (serve (state_at first all (suc n)))
lawful_at first all r n e at =
    let b = behind all n e at in
    let o = one_step first all r n b.event b.at in
    subst (λ (z : Entry). LawfulAt (made first all) n z (serve (state_at first all n)) (serve (state_at first all (suc n)))) b.is
    (subst (λ (z : State). LawfulAt (made first all) n (entry_of b.event) (serve (state_at first all n)) (serve z)) (sym o.next) (law_of first all n b.event o))

sound_from : (h : List Entry) (k : ℕ) (s : State) (es : List Event) → AllFit h k s es → length s.stable ≤ length s.now → (n : ℕ) → length (state_at s es n).stable ≤ length (state_at s es n).now
sound_from h k s es f le zero = le
sound_from h k s [] f le (suc n) = le
sound_from h k s (e ∷ es) f le (suc n) = let p = head_fits h k s e es f in sound_from h (suc k) (after e s) es p.1 ((moves_on h k s e p.0).sound le) n

pub lawful : (first : State) (all : List Event) → Right first all → Lawful (made first all)
lawful first all r = record {
  servers = λ n le. is_server (state_at first all n) (sound_from (entries_of all) 0 first all r.fits r.sound n);
  entries = lawful_at first all r;
}

-- ---- fresh

abbrev some : Object → Option Object
some o = Some o

seconds_of : (a b : Stamp) → a ≡ b → a.mtime.seconds ≡ b.mtime.seconds
seconds_of a b e = ap (λ (s : Stamp). s.mtime.seconds) e

list_is : (a b : List Listed) → Entries a ≡ Entries b → a ≡ b
list_is a b e = cc

-- objects that are equal don't differ
unlike : (old new : Object) → old ≡ new → Differs old new → ⊥
unlike old new e (changes.bytes now stable later steady a b differ) = differ (bytes_same now stable later steady (sym a ∙ ap (λ (z : Object). z.holds) e ∙ b)).0
unlike old new e (changes.list before later a b differ) = differ (list_is before later (sym a ∙ ap (λ (z : Object). z.holds) e ∙ b))
unlike old new e (changes.file_stamp now stable a differ) = differ (ap (λ (z : Object). stamp_of z.attr) e)
unlike old new e (changes.list_stamp list a differ) = differ (ap (λ (z : Object). stamp_of z.attr) e)

same_directory : (s t : State) → t.letter ≡ s.letter → t.moved ≡ s.moved → directory s ≡ directory t
same_directory s t letter moved = rw (letter, moved) refl

-- the stable bytes of a file are no part of what differs
unlike_file : (s t : State) → t.now ≡ s.now → t.changed ≡ s.changed → Differs (file s) (file t) → ⊥
unlike_file s t now changed (changes.bytes a b c d is will differ) = differ (sym (bytes_same s.now s.stable a b is).0 ∙ sym now ∙ (bytes_same t.now t.stable c d will).0)
unlike_file s t now changed (changes.list before later is will differ) = absurd (cc is)
unlike_file s t now changed (changes.file_stamp a b is differ) = differ (rw (now, changed) refl)
unlike_file s t now changed (changes.list_stamp list is differ) = absurd (cc is)

apart : (m n : ℕ) (a b : Stamp) → a.mtime.seconds ≡ m → b.mtime.seconds ≡ n → m < n → a ≢ b
apart m n a b x y lt e = let z = seconds_of a b e in omega (arith, x, y, lt, z)

stamp_is : (o p : Object) → o ≡ p → (stamp_of p.attr).mtime.seconds ≡ (stamp_of o.attr).mtime.seconds
stamp_is o p e = ap (λ (z : Object). (stamp_of z.attr).mtime.seconds) (sym e)

fresh_dir : (q s t : State) (o old new : Object) → Below q s → Moves s t → directory q ≡ o → directory s ≡ old → directory t ≡ new → Differs old new → stamp_of o.attr ≢ stamp_of new.attr
fresh_dir q s t o old new b m a c d differs = elim m.names [
  | inl k ↦ absurd (unlike old new (sym c ∙ same_directory s t k.0 k.1 ∙ d) differs)
  | inr lt ↦ apart q.moved t.moved (stamp_of o.attr) (stamp_of new.attr) (stamp_is (directory q) o a) (stamp_is (directory t) new d) (let low = b.moved in omega (arith, low, lt))
]

fresh_file : (q s t : State) (o old new : Object) → Below q s → Moves s t → file q ≡ o → file s ≡ old → file t ≡ new → Differs old new → stamp_of o.attr ≢ stamp_of new.attr
fresh_file q s t o old new b m a c d differs = elim m.bytes [
  | inl k ↦ absurd (unlike_file s t k.0 k.1 (subst (λ (z : Object). Differs (file s) z) (sym d) (subst (λ (z : Object). Differs z new) (sym c) differs)))
  | inr lt ↦ apart q.changed t.changed (stamp_of o.attr) (stamp_of new.attr) (stamp_is (file q) o a) (stamp_is (file t) new d) (let low = b.changed in omega (arith, low, lt))
]

not_both : (h : List ℕ) → h ≡ [] → h ≡ zero ∷ [] → ⊥
not_both h a b = absurd (cc (sym a ∙ b))

fresh_one : (q s t : State) (h : List ℕ) (o old new : Object) → Below q s → Moves s t → IsOne q h o → IsOne s h old → IsOne t h new → Differs old new → stamp_of o.attr ≢ stamp_of new.attr
fresh_one q s t h o old new b m (inl a) (inl c) (inl d) differs = fresh_dir q s t o old new b m a.1 c.1 d.1 differs
fresh_one q s t h o old new b m (inr a) (inr c) (inr d) differs = fresh_file q s t o old new b m a.1 c.1 d.1 differs
fresh_one q s t h o old new b m (inl a) (inr c) d differs = absurd (not_both h a.0 c.0)
fresh_one q s t h o old new b m (inr a) (inl c) d differs = absurd (not_both h c.0 a.0)
fresh_one q s t h o old new b m (inl a) (inl c) (inr d) differs = absurd (not_both h a.0 d.0)
fresh_one q s t h o old new b m (inr a) (inr c) (inl d) differs = absurd (not_both h d.0 a.0)

pub fresh : (first : State) (all : List Event) → Right first all → Fresh (made first all)
fresh first all r n lt h old new was will differs m o le is =
    let e = event_at all n (let long = entries_long all in omega (arith, lt, long)) in
    let one = one_step first all r n e.0 e.1 in
    let now : (serve (after e.0 (state_at first all n))).object h ≡ Some new = subst (λ (z : State). (serve z).object h ≡ Some new) one.next will in
    fresh_one (state_at first all m) (state_at first all n) (after e.0 (state_at first all n)) h o old new (one.older m le) (moves_on (entries_of all) n (state_at first all n) e.0 one.fits)
    (one_of (state_at first all m) h o is) (one_of (state_at first all n) h old was) (one_of (after e.0 (state_at first all n)) h new now) differs

-- ---- once

-- whether xids are small
abbrev pub xid_fits : Event → Bool
xid_fits (Sends xid call) = nat_lt xid 256
xid_fits (Does xid call reply t) = nat_lt xid 256
xid_fits (Comes xid reply) = nat_lt xid 256
xid_fits e = true

-- whether all are so
abbrev pub all_are : {A : Type 0} → (A → Bool) → List A → Bool
all_are {A} p [] = true
all_are {A} p (x ∷ xs) = if p x then all_are p xs else false

abbrev does_not : ℕ → Entry → Bool
does_not x (entries.Executed xid call reply) = if xid == x then false else true
does_not x e = true

abbrev none_after : Event → List Event → Bool
none_after (Comes xid reply) es = all_are (does_not xid) (entries_of es)
none_after e es = true

-- whether after the reply to a call none is executed under its xid
abbrev pub is_once : List Event → Bool
is_once [] = true
is_once (e ∷ es) = if none_after e es then is_once es else false

both : (b c : Bool) → (if b then c else false) ≡ true → (b ≡ true) × (c ≡ true)
both true c e = (refl, e)
both false c e = absurd (cc e)

pub all_at : {A : Type 0} (p : A → Bool) (xs : List A) → all_are p xs ≡ true → (i : ℕ) (x : A) → slice_get xs i ≡ Some x → p x ≡ true
all_at {A} p [] all i x at = absurd (cc at)
all_at {A} p (y ∷ xs) all zero x at = let is : y ≡ x = cc at in subst (λ (z : A). p z ≡ true) is (both (p y) (all_are p xs) all).0
all_at {A} p (y ∷ xs) all (suc i) x at = all_at p xs (both (p y) (all_are p xs) all).1 i x at

pub one_xid : (bytes : List ℕ) (x y : ℕ) → HasXid bytes x → HasXid bytes y → x ≡ y
one_xid bytes x y a b = number (sym a ∙ b)
  where
    number : Some x ≡ Some y → x ≡ y
    number e = cc

pub small_xid : (x : ℕ) → nat_lt x 256 ≡ true → x < 2 ^ 32
small_xid x e = let lt = ltb-true x 256 e in omega (arith, lt)

refutes : (x y : ℕ) → x ≡ y → (if x == y then false else true) ≡ true → ⊥
refutes x y equal e = let q : false ≡ true = sym (ap (λ (b : Bool). if b then false else true) (eq-eqb x y equal)) ∙ e in absurd (cc q)

-- the event behind a record that came
pub record ReplyBehind (e : Event) (bytes : List ℕ) : Type 0 where
  pub xid : ℕ
  pub reply : Reply
  pub is : e ≡ Comes xid reply
  pub spelled : reply_record xid reply ≡ bytes

pub reply_behind : (e : Event) (bytes : List ℕ) → entry_of e ≡ entries.Delivered bytes → ReplyBehind e bytes
reply_behind (Comes xid reply) bytes is = record { xid = xid; reply = reply; is = refl; spelled = cc is }
reply_behind (Begins lane line op) bytes is = absurd (cc is)
reply_behind (Answers lane line answer) bytes is = absurd (cc is)
reply_behind (Sends xid call) bytes is = absurd (cc is)
reply_behind (Does xid call reply t) bytes is = absurd (cc is)
reply_behind (Others call reply t) bytes is = absurd (cc is)
reply_behind (Restarts t) bytes is = absurd (cc is)
reply_behind Fails bytes is = absurd (cc is)
reply_behind (Looks ms) bytes is = absurd (cc is)

-- it has the xid under which it was written
pub reply_xid : (e : Event) (bytes : List ℕ) (y : ℕ) → xid_fits e ≡ true → (r : ReplyBehind e bytes) → HasXid bytes y → r.xid ≡ y
reply_xid e bytes y fits r under =
    let small : nat_lt r.xid 256 ≡ true = subst (λ (z : Event). xid_fits z ≡ true) r.is fits in
    one_xid (reply_record r.xid r.reply) r.xid y (reply_under r.xid r.reply (small_xid r.xid small)) (subst (λ (z : List ℕ). HasXid z y) (sym r.spelled) under)

head_once : (e : Event) (es : List Event) → xid_fits e ≡ true → none_after e es ≡ true → (n y : ℕ) (bytes : List ℕ) (call : Call) (reply : Reply) → entry_of e ≡ entries.Delivered bytes → HasXid bytes y
    → At (entries_of es) n (entries.Executed y call reply) → ⊥
head_once e es fits none n y bytes call reply came under done =
    let r = reply_behind e bytes came in
    let free : all_are (does_not r.xid) (entries_of es) ≡ true = subst (λ (z : Event). none_after z es ≡ true) r.is none in
    refutes y r.xid (sym (reply_xid e bytes y fits r under)) (all_at (does_not r.xid) (entries_of es) free n (entries.Executed y call reply) done)

entry_is : (a b : Entry) → Some a ≡ Some b → a ≡ b
entry_is a b e = cc

both_ways : (e : Entry) (bytes : List ℕ) (y : ℕ) (call : Call) (reply : Reply) → Some e ≡ Some (entries.Delivered bytes) → Some e ≡ Some (entries.Executed y call reply) → ⊥
both_ways e bytes y call reply a b = absurd (cc (sym a ∙ b))

pub once : (es : List Event) → all_are xid_fits es ≡ true → is_once es ≡ true → Once (entries_of es)
once [] fits ok i n xid bytes call reply came under done = absurd (cc came)
once (e ∷ es) fits ok zero zero xid bytes call reply came under done = absurd (both_ways (entry_of e) bytes xid call reply came done)
once (e ∷ es) fits ok zero (suc n) xid bytes call reply came under done =
    absurd (head_once e es (both (xid_fits e) (all_are xid_fits es) fits).0 (both (none_after e es) (is_once es) ok).0 n xid bytes call reply (entry_is (entry_of e) (entries.Delivered bytes) came) under done)
once (e ∷ es) fits ok (suc i) zero xid bytes call reply came under done = omega arith
once (e ∷ es) fits ok (suc i) (suc n) xid bytes call reply came under done =
    let before = once es (both (xid_fits e) (all_are xid_fits es) fits).1 (both (none_after e es) (is_once es) ok).1 i n xid bytes call reply came under done in
    omega (arith, before)
