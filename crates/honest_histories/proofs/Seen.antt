-- What a history that is made step by step shows: which answers, replies and slots it has.
use Rattle.std.proofs.Common.{inl, inr, ◌≡◌, ◌≢◌, ◌<◌, ◌≤◌, ◌^◌, ◌==◌, ◌&&◌, ℕ, zero, suc, Bool, nat_lt, true, false, List, [], ◌∷◌, Some, Result, Ok, refl, sym, ap, subst, ◌∙◌, slice_get, get_or, arith, if◌then◌else◌}
use Rattle.std.specs.Prelude.{⊤}
use Rattle.std.proofs.lemmas.Bool.{cases_lt, eq-eqb}
use Rattle.nfs_types.specs.declared.mode.Mode.{Mode}
use Rattle.rpc_message.specs.declared.call.CallHead.{CallHead}
use Rattle.rpc_message.specs.declared.call.CallFault.{CallFault}
use Rattle.rpc_message.specs.Call.{call_at}
use Rattle.rpc_message.proofs.CallLaws.{call_again}
use Rattle.world_model.specs.declared.answer.Answer.{Answer}
use Rattle.world_model.specs.declared.answer.Answer.TheVariants.{Done}
use Rattle.world_model.specs.declared.answer.Value.{Value}
use Rattle.world_model.specs.declared.entry.Entry.{Entry}
use Rattle.world_model.specs.declared.entry.Entry.TheVariants as entries
use Rattle.world_model.specs.declared.message.Call.{Call}
use Rattle.world_model.specs.declared.message.Reply.{Reply}
use Rattle.world_model.specs.declared.op.Op.{Op}
use Rattle.world_model.specs.declared.op.Op.TheVariants as ops
use Rattle.world_model.specs.Entries.{At}
use Rattle.world_model.specs.Heard.{Asked}
use Rattle.world_model.specs.Messages.{HasXid, SpellsCall, proc_of, head_of}
use Rattle.world_model.specs.Mounts.{Origin}
use Rattle.world_model.specs.Operations.{Ended, AnsweredBefore, LastReply}
use Rattle.world_model.specs.Server.{Bytes, Object, Server, HasBytes}
use Rattle.world_model.specs.Waiting.{FirstSent}
use Rattle.claims.specs.Modes.{Modes}
use Rattle.claims.specs.Settled.{HoldsStable, Overtaken}
use Rattle.claims.specs.Settled as settled
use Rattle.claims.specs.Slots.{InSlot}
use Rattle.claims.specs.Slots as slots
use Rattle.claims.specs.Touched.{Touched, foreign, written, cut, gone, given_up, write, fill, put, ChangesPlace}
use Rattle.honest_histories.proofs.SmallServer.{State, the_file, file, serve, get_attr, none_gone}
use Rattle.honest_histories.proofs.Made.{Event, Begins, Answers, Sends, Does, Comes, Others, Restarts, Fails, Looks, entry_of, entries_of, after, state_at, made, behind, all_are, all_at, xid_fits, one_xid, small_xid, reply_behind, reply_xid}
use Rattle.honest_histories.proofs.Written.{Talk, call_record, reply_record, call_under, reply_under}

-- ---- none such in a part of a list

-- Whether from one place up to another none is such.
abbrev pub quiet : {A : Type 0} → (A → Bool) → ℕ → ℕ → List A → Bool
quiet {A} p from zero xs = true
quiet {A} p from (suc to) [] = true
quiet {A} p zero (suc to) (x ∷ xs) = if p x then false else quiet p zero to xs
quiet {A} p (suc from) (suc to) (x ∷ xs) = quiet p from to xs

kept_quiet : (b c : Bool) → (if b then false else c) ≡ true → (b ≡ false) × (c ≡ true)
kept_quiet true c e = absurd (cc e)
kept_quiet false c e = (refl, e)

-- one that is such, at a place before `to`, is before `from`
pub outside : {A : Type 0} (p : A → Bool) (from to : ℕ) (xs : List A) → quiet p from to xs ≡ true → (i : ℕ) (x : A) → slice_get xs i ≡ Some x → p x ≡ true → i < to → i < from
outside {A} p from zero xs q i x at is lt = absurd (omega (arith, lt))
outside {A} p from (suc to) [] q i x at is lt = absurd (cc at)
outside {A} p zero (suc to) (y ∷ xs) q zero x at is lt =
    let equal : y ≡ x = cc at in
    let none : p x ≡ false = subst (λ (z : A). p z ≡ false) equal (kept_quiet (p y) (quiet p zero to xs) q).0 in
    absurd (cc (sym none ∙ is))
outside {A} p zero (suc to) (y ∷ xs) q (suc i) x at is lt =
    let none = outside p zero to xs (kept_quiet (p y) (quiet p zero to xs) q).1 i x at is (omega (arith, lt)) in
    absurd (omega (arith, none))
outside {A} p (suc from) (suc to) (y ∷ xs) q zero x at is lt = omega arith
outside {A} p (suc from) (suc to) (y ∷ xs) q (suc i) x at is lt = let r = outside p from to xs q i x at is (omega (arith, lt)) in omega (arith, r)

-- ---- kinds of entries

abbrev pub is_answer : ℕ → ℕ → Entry → Bool
is_answer lane line (entries.Answered l n answer) = (l == lane) && (n == line)
is_answer lane line e = false

abbrev pub is_coming : Entry → Bool
is_coming (entries.Delivered bytes) = true
is_coming e = false

abbrev pub is_foreign : Entry → Bool
is_foreign (entries.Foreign call reply) = true
is_foreign e = false

abbrev pub is_sent : Entry → Bool
is_sent (entries.Sent bytes) = true
is_sent e = false

-- an operation that such a test takes begins
abbrev pub begins : (Op → Bool) → Entry → Bool
begins p (entries.Began lane line op) = p op
begins p e = false

abbrev pub is_change : Op → Bool
is_change (ops.Write slot offset bytes) = true
is_change (ops.Fill slot offset count byte) = true
is_change (ops.Put path offset bytes) = true
is_change (ops.Truncate slot size) = true
is_change op = false

abbrev pub is_close : Op → Bool
is_close (ops.Close slot) = true
is_close op = false

itself : (lane line : ℕ) → (lane == lane) && (line == line) ≡ true
itself lane line = rw (eq-eqb lane lane refl, eq-eqb line line refl) refl

-- ---- events that send, or by which a record comes

abbrev pub is_sending : ℕ → Event → Bool
is_sending x (Sends xid call) = xid == x
is_sending x e = false

abbrev pub sends_proc : ℕ → Event → Bool
sends_proc proc (Sends xid call) = proc_of call == proc
sends_proc proc e = false

abbrev pub comes_under : ℕ → Event → Bool
comes_under x (Comes xid reply) = xid == x
comes_under x e = false

-- the event behind a record that was sent
record CallBehind (e : Event) (bytes : List ℕ) : Type 0 where
  xid : ℕ
  call : Call
  is : e ≡ Sends xid call
  spelled : call_record xid call ≡ bytes

call_behind : (e : Event) (bytes : List ℕ) → entry_of e ≡ entries.Sent bytes → CallBehind e bytes
call_behind (Sends xid call) bytes is = record { xid = xid; call = call; is = refl; spelled = cc is }
call_behind (Begins l n op) bytes is = absurd (cc is)
call_behind (Answers l n answer) bytes is = absurd (cc is)
call_behind (Does xid call reply t) bytes is = absurd (cc is)
call_behind (Comes xid reply) bytes is = absurd (cc is)
call_behind (Others call reply t) bytes is = absurd (cc is)
call_behind (Restarts t) bytes is = absurd (cc is)
call_behind Fails bytes is = absurd (cc is)
call_behind (Looks ms) bytes is = absurd (cc is)

sending_is : (e : Event) (b : List ℕ) (x : ℕ) → xid_fits e ≡ true → entry_of e ≡ entries.Sent b → HasXid b x → is_sending x e ≡ true
sending_is e b x fits is under =
    let c = call_behind e b is in
    let small : nat_lt c.xid 256 ≡ true = subst (λ (z : Event). xid_fits z ≡ true) c.is fits in
    let equal = one_xid (call_record c.xid c.call) c.xid x (call_under c.xid c.call (small_xid c.xid small)) (subst (λ (z : List ℕ). HasXid z x) (sym c.spelled) under) in
    subst (λ (z : Event). is_sending x z ≡ true) (sym c.is) (eq-eqb c.xid x equal)

abbrev read_as : CallHead × List ℕ → Result (CallHead × List ℕ) CallFault
read_as head = Ok head

read_is : (a b : CallHead × List ℕ) → read_as a ≡ read_as b → a ≡ b
read_is a b e = cc

same_read : (r : Result (CallHead × List ℕ) CallFault) (a b : CallHead × List ℕ) → r ≡ Ok a → r ≡ Ok b → a ≡ b
same_read r a b p q = read_is a b (sym p ∙ q)

-- two calls that one record spells are of one procedure, and have the same arguments
pub same_call : (x y : ℕ) (call other : Call) (bytes : List ℕ) (a : SpellsCall x call bytes) (b : SpellsCall y other bytes) → (proc_of call ≡ proc_of other) × (a.args ≡ b.args)
same_call x y call other bytes a b =
    let is = same_read (call_at bytes) (head_of x call, a.args) (head_of y other, b.args) (call_again (head_of x call) a.args bytes a.head) (call_again (head_of y other) b.args bytes b.head) in
    (ap (λ (z : CallHead × List ℕ). z.0.proc) is, ap (λ (z : CallHead × List ℕ). z.1) is)

-- what is sent is spelled by its record
abbrev pub SpellsOne : Event → Type 0
SpellsOne (Sends xid call) = SpellsCall xid call (call_record xid call)
SpellsOne e = ⊤

abbrev pub SpellsAll : List Event → Type 0
SpellsAll [] = ⊤
SpellsAll (e ∷ es) = SpellsOne e × SpellsAll es

spells_at : (es : List Event) → SpellsAll es → (i : ℕ) (e : Event) → slice_get es i ≡ Some e → SpellsOne e
spells_at [] all i e at = absurd (cc at)
spells_at (x ∷ es) all zero e at = let is : x ≡ e = cc at in subst SpellsOne is all.0
spells_at (x ∷ es) all (suc i) e at = spells_at es all.1 i e at

proc_is : (e : Event) (b : List ℕ) (x : ℕ) (call : Call) → SpellsOne e → entry_of e ≡ entries.Sent b → SpellsCall x call b → sends_proc (proc_of call) e ≡ true
proc_is e b x call one is spells =
    let c = call_behind e b is in
    let spelled : SpellsCall c.xid c.call (call_record c.xid c.call) = subst SpellsOne c.is one in
    subst (λ (z : Event). sends_proc (proc_of call) z ≡ true) (sym c.is)
    (eq-eqb (proc_of c.call) (proc_of call) (same_call c.xid x c.call call b (subst (λ (z : List ℕ). SpellsCall c.xid c.call z) c.spelled spelled) spells).0)

under_is : (e : Event) (b : List ℕ) (x : ℕ) → xid_fits e ≡ true → entry_of e ≡ entries.Delivered b → HasXid b x → comes_under x e ≡ true
under_is e b x fits is under =
    let r = reply_behind e b is in
    subst (λ (z : Event). comes_under x z ≡ true) (sym r.is) (eq-eqb r.xid x (reply_xid e b x fits r under))

-- ---- operations and their answers

pub ended : (es : List Event) (lane line x y : ℕ) (op : Op) (answer : Answer) → At (entries_of es) x (entries.Began lane line op) → At (entries_of es) y (entries.Answered lane line answer) → x < y
    → quiet (is_answer lane line) (suc x) y (entries_of es) ≡ true → Ended (entries_of es) lane x op y answer
ended es lane line x y op answer began answered later q = record { line = line; began = began; answered = answered; later = later; first = first }
  where
    first : (j : ℕ) (a : Answer) → At (entries_of es) j (entries.Answered lane line a) → x < j → y ≤ j
    first j a at after =
        elim (cases_lt j y) [
          | inl lt ↦ (let low = outside (is_answer lane line) (suc x) y (entries_of es) q j (entries.Answered lane line a) at (itself lane line) lt in absurd (omega (arith, low, after)))
          | inr le ↦ le
        ]

-- no such operation begins from one place up to another
pub begins_outside : (es : List Event) (p : Op → Bool) (from to : ℕ) → quiet (begins p) from to (entries_of es) ≡ true → (x lane line : ℕ) (op : Op) → At (entries_of es) x (entries.Began lane line op) → p op ≡ true → x < to → x < from
begins_outside es p from to q x lane line op at such lt = outside (begins p) from to (entries_of es) q x (entries.Began lane line op) at such lt

pub none_foreign : (es : List Event) (from to : ℕ) → quiet is_foreign from to (entries_of es) ≡ true → (n : ℕ) (call : Call) (reply : Reply) → At (entries_of es) n (entries.Foreign call reply) → n < to → n < from
none_foreign es from to q n call reply at lt = outside is_foreign from to (entries_of es) q n (entries.Foreign call reply) at refl lt

pub none_sent : (es : List Event) (from to : ℕ) → quiet is_sent from to (entries_of es) ≡ true → (n : ℕ) (b : List ℕ) → At (entries_of es) n (entries.Sent b) → n < to → n < from
none_sent es from to q n b at lt = outside is_sent from to (entries_of es) q n (entries.Sent b) at refl lt

-- no call of this procedure is sent
pub no_proc_sent : (es : List Event) (from to x : ℕ) (call : Call) → SpellsAll es → quiet (sends_proc (proc_of call)) from to es ≡ true → (n : ℕ) (b : List ℕ) → At (entries_of es) n (entries.Sent b) → SpellsCall x call b → n < to → n < from
no_proc_sent es from to x call all q n b at spells lt =
    let r = behind es n (entries.Sent b) at in
    outside (sends_proc (proc_of call)) from to es q n r.event r.at (proc_is r.event b x call (spells_at es all n r.event r.at) r.is spells) lt

-- no record comes under this xid
pub none_under : (es : List Event) (from to x : ℕ) → all_are xid_fits es ≡ true → quiet (comes_under x) from to es ≡ true → (n : ℕ) (b : List ℕ) → At (entries_of es) n (entries.Delivered b) → HasXid b x → n < to → n < from
none_under es from to x fits q n b at under lt =
    let r = behind es n (entries.Delivered b) at in
    outside (comes_under x) from to es q n r.event r.at (under_is r.event b x (all_at xid_fits es fits n r.event r.at) r.is under) lt

pub none_comes : (es : List Event) (from to : ℕ) → quiet is_coming from to (entries_of es) ≡ true → (n : ℕ) (b : List ℕ) → At (entries_of es) n (entries.Delivered b) → n < to → n < from
none_comes es from to q n b at lt = outside is_coming from to (entries_of es) q n (entries.Delivered b) at refl lt

-- no record is sent under this xid
pub sent_under : (es : List Event) (from to x : ℕ) → all_are xid_fits es ≡ true → quiet (is_sending x) from to es ≡ true → (n : ℕ) (b : List ℕ) → At (entries_of es) n (entries.Sent b) → HasXid b x → n < to → n < from
sent_under es from to x fits q n b at under lt =
    let r = behind es n (entries.Sent b) at in
    outside (is_sending x) from to es q n r.event r.at (sending_is r.event b x (all_at xid_fits es fits n r.event r.at) r.is under) lt

pub first_sent : (es : List Event) (i xid : ℕ) (call : Call) → all_are xid_fits es ≡ true → At (entries_of es) i (entries.Sent (call_record xid call)) → xid < 2 ^ 32 → quiet (is_sending xid) 0 i es ≡ true
    → FirstSent (entries_of es) i xid (call_record xid call)
first_sent es i xid call fits at small q = record { sent = at; under = call_under xid call small; first = first }
  where
    first : (j : ℕ) (b : List ℕ) → At (entries_of es) j (entries.Sent b) → HasXid b xid → i ≤ j
    first j b sent under = elim (cases_lt j i) [
      | inl lt ↦ (let low = sent_under es 0 i xid fits q j b sent under lt in absurd (omega (arith, low)))
      | inr le ↦ le
    ]

-- The last reply before the place n is that which came at the place `at`, to the call that was sent at the place `sent`.
pub last_reply : (es : List Event) (n at sent xid : ℕ) (call : Call) (reply : Reply) → all_are xid_fits es ≡ true → At (entries_of es) sent (entries.Sent (call_record xid call))
    → At (entries_of es) at (entries.Delivered (reply_record xid reply)) → xid < 2 ^ 32 → sent < at → at < n → quiet (is_sending xid) 0 sent es ≡ true → quiet is_coming (suc at) n (entries_of es) ≡ true
    → SpellsCall xid call (call_record xid call) → LastReply (entries_of es) n call
last_reply es n at sent xid call reply fits was_sent came small asked_ before first q spells = record {
  at = at;
  bytes = reply_record xid reply;
  xid = xid;
  sent_at = sent;
  record_sent = call_record xid call;
  got = came;
  before = before;
  last = λ j b got lt. (let low = none_comes es (suc at) n q j b got lt in omega (arith, low));
  under = reply_under xid reply small;
  sent = first_sent es sent xid call fits was_sent small first;
  spells = spells;
  asked = asked_;
}

-- A call that was sent at one place, the first one under its xid, was answered at another.
pub asked : (es : List Event) (from to sent got xid : ℕ) (call : Call) (reply : Reply) → all_are xid_fits es ≡ true → At (entries_of es) sent (entries.Sent (call_record xid call))
    → At (entries_of es) got (entries.Delivered (reply_record xid reply)) → quiet (is_sending xid) 0 sent es ≡ true → quiet (comes_under xid) sent got es ≡ true
    → xid < 2 ^ 32 → from ≤ sent → sent < got → got < to → Talk xid call reply → Asked (entries_of es) from to call reply
asked es from to sent got xid call reply fits was_sent came first none small after later before talk = record {
  xid = xid;
  bytes = reply_record xid reply;
  heard = record {
    sent_at = sent;
    record_sent = call_record xid call;
    got_at = got;
    sent = first_sent es sent xid call fits was_sent small first;
    spells = talk.call_is;
    got = record {
      got = came;
      under = reply_under xid reply small;
      waits = record {
        at = sent;
        bytes = call_record xid call;
        sent = was_sent;
        under = call_under xid call small;
        before = later;
        unanswered = λ j b at under past soon. (let low = none_under es sent got xid fits none j b at under soon in omega (arith, low, past));
      };
    };
    after = after;
    later = later;
    before = before;
  };
  spells = talk.reply_is;
}

-- ---- slots

-- a close that begins no earlier than the place `to` is answered after it
closed_late : (es : List Event) (to : ℕ) → quiet (begins is_close) 0 to (entries_of es) ≡ true → (lane c slot k : ℕ) (answer : Answer) → Ended (entries_of es) lane c (ops.Close slot) k answer → k ≤ to → ⊥
closed_late es to q lane c slot k answer e le =
    let later = e.later in
    let low = begins_outside es is_close 0 to q c lane e.line (ops.Close slot) e.began refl (omega (arith, later, le)) in
    omega (arith, low)

no_closes : (es : List Event) (to : ℕ) → quiet (begins is_close) 0 to (entries_of es) ≡ true → (lane c slot k : ℕ) (answer : Answer) → Ended (entries_of es) lane c (ops.Close slot) k answer → k < to → ⊥
no_closes es to q lane c slot k answer e lt = closed_late es to q lane c slot k answer e (omega (arith, lt))

-- The slot holds what an open found that was answered at the place y, where none was closed.
pub holds : (m : Modes) (es : List Event) (n lane slot x y : ℕ) (mode : Mode) (path : List (List ℕ)) (value : Value) → Ended (entries_of es) lane x (ops.OpenFile slot mode path) y (Done value)
    → LastReply (entries_of es) y get_attr → y < n → quiet (begins is_close) 0 n (entries_of es) ≡ true → InSlot m (entries_of es) n lane slot x the_file
holds m es n lane slot x y mode path value e last before q = record {
  y = y;
  opens = record { mode = mode; path = path; value = value; ended = e; finds = slots.asked last };
  before = before;
  kept = λ c k answer close after lt. no_closes es n q lane c slot k answer close lt;
}

-- ---- what nothing touches

-- Each change that began before the place p, but for that at the place w, was answered before w; between them no other
-- client changed the place i of the file; and nothing was closed.
pub record Alone (es : List Event) (w p i : ℕ) : Type 0 where
  pub others : (x lane line : ℕ) (op : Op) → At (entries_of es) x (entries.Began lane line op) → is_change op ≡ true → x ≢ w → x < p → AnsweredBefore (entries_of es) x w
  pub spared : (n : ℕ) (call : Call) (reply : Reply) → w < n → n < p → At (entries_of es) n (entries.Foreign call reply) → (t : Server) → ChangesPlace t the_file i call reply → ⊥
  pub no_close : (lane c slot k : ℕ) (answer : Answer) → Ended (entries_of es) lane c (ops.Close slot) k answer → k < p → ⊥

pub untouched : (m : Modes) (origin : Origin) (first : State) (es : List Event) (w p i : ℕ) → Alone es w p i → Touched m origin (made first es) w p the_file i → ⊥
untouched m origin first es w p i a (foreign n call reply late before is changes) = a.spared n call reply late before is ((made first es).at (suc n)) changes
untouched m origin first es w p i a (written x v other before unanswered (write slot offset bytes of covers) kept) = unanswered (a.others x of.lane of.line (ops.Write slot offset bytes) of.began refl other before)
untouched m origin first es w p i a (written x v other before unanswered (fill slot offset count of low high) kept) = unanswered (a.others x of.lane of.line (ops.Fill slot offset count v) of.began refl other before)
untouched m origin first es w p i a (written x v other before unanswered (put lane line offset n path bytes began ends leads covers) kept) = unanswered (a.others x lane line (ops.Put path offset bytes) began refl other before)
untouched m origin first es w p i a (cut x other before unanswered cuts) = unanswered (a.others x cuts.of.lane cuts.of.line (ops.Truncate cuts.slot cuts.size) cuts.of.began refl other before)
untouched m origin first es w p i a (gone o is lost) = none_gone (state_at first es p) the_file o is lost
untouched m origin first es w p i a (given_up k after before left) = a.no_close left.left.lane left.left.close left.left.slot k left.left.answer left.left.ended before

-- nor is it overtaken
pub not_overtaken : (m : Modes) (origin : Origin) (es : List Event) (w p i : ℕ) → Alone es w p i → Overtaken m origin (entries_of es) w p the_file i → ⊥
not_overtaken m origin es w p i a (settled.written x v other before unanswered (write slot offset bytes of covers) kept) = unanswered (a.others x of.lane of.line (ops.Write slot offset bytes) of.began refl other before)
not_overtaken m origin es w p i a (settled.written x v other before unanswered (fill slot offset count of low high) kept) = unanswered (a.others x of.lane of.line (ops.Fill slot offset count v) of.began refl other before)
not_overtaken m origin es w p i a (settled.written x v other before unanswered (put lane line offset n path bytes began ends leads covers) kept) = unanswered (a.others x lane line (ops.Put path offset bytes) began refl other before)
not_overtaken m origin es w p i a (settled.cut x other before unanswered cuts) = unanswered (a.others x cuts.of.lane cuts.of.line (ops.Truncate cuts.slot cuts.size) cuts.of.began refl other before)
not_overtaken m origin es w p i a (settled.given_up k after before left gives) = a.no_close left.lane left.close left.slot k left.answer left.ended before

pub sooner : (es : List Event) (w p q i : ℕ) → q ≤ p → Alone es w p i → Alone es w q i
sooner es w p q i le a = record {
  others = λ x lane line op at such other before. a.others x lane line op at such other (omega (arith, before, le));
  spared = λ n call reply late before at t changes. a.spared n call reply late (omega (arith, before, le)) at t changes;
  no_close = λ lane c slot k answer close before. a.no_close lane c slot k answer close (omega (arith, before, le));
}

-- there is one change, and a close, which begins at the place q, just before p
pub closing_change : (es : List Event) (w q p i : ℕ) → p ≤ suc q → quiet (begins is_change) 0 w (entries_of es) ≡ true → quiet (begins is_change) (suc w) p (entries_of es) ≡ true → quiet is_foreign (suc w) p (entries_of es) ≡ true
    → quiet (begins is_close) 0 q (entries_of es) ≡ true → Alone es w p i
closing_change es w q p i next earlier later foreign_ close = record {
  others = λ x lane line op at such other before. elim (cases_lt x w) [
    | inl lt ↦ (let low = begins_outside es is_change 0 w earlier x lane line op at such lt in absurd (omega (arith, low)))
    | inr le ↦ (let low = begins_outside es is_change (suc w) p later x lane line op at such before in absurd (other (omega (arith, low, le))))
  ];
  spared = λ n call reply late before at t changes. (let low = none_foreign es (suc w) p foreign_ n call reply at before in omega (arith, low, late));
  no_close = λ lane c slot k answer done before. closed_late es q close lane c slot k answer done (omega (arith, before, next));
}

-- there is one change, and none of another client
pub only_change : (es : List Event) (w p i : ℕ) → quiet (begins is_change) 0 w (entries_of es) ≡ true → quiet (begins is_change) (suc w) p (entries_of es) ≡ true → quiet is_foreign (suc w) p (entries_of es) ≡ true → quiet (begins is_close) 0 p (entries_of es) ≡ true
    → Alone es w p i
only_change es w p i earlier later foreign_ close = closing_change es w p p i (omega arith) earlier later foreign_ close

-- there are two, of which the one at the place x was answered before the other began
pub second_change : (es : List Event) (x w p i : ℕ) → AnsweredBefore (entries_of es) x w → quiet (begins is_change) 0 x (entries_of es) ≡ true → quiet (begins is_change) (suc x) w (entries_of es) ≡ true → quiet (begins is_change) (suc w) p (entries_of es) ≡ true
    → quiet is_foreign (suc w) p (entries_of es) ≡ true → quiet (begins is_close) 0 p (entries_of es) ≡ true → Alone es w p i
second_change es x w p i answered_ earlier between later foreign_ close = record {
  others = λ y lane line op at such other before. elim (cases_lt y w) [
    | inl lt ↦ (
        let low = begins_outside es is_change (suc x) w between y lane line op at such lt in
        let high : x ≤ y = at_least y lane line op at such in
        let is : x ≡ y = omega (arith, low, high) in
        subst (λ (z : ℕ). AnsweredBefore (entries_of es) z w) is answered_)
    | inr le ↦ (let low = begins_outside es is_change (suc w) p later y lane line op at such before in absurd (other (omega (arith, low, le))))
  ];
  spared = λ n call reply late before at t changes. (let low = none_foreign es (suc w) p foreign_ n call reply at before in omega (arith, low, late));
  no_close = λ lane c slot k answer done before. no_closes es p close lane c slot k answer done before;
}
  where
    at_least : (y lane line : ℕ) (op : Op) → At (entries_of es) y (entries.Began lane line op) → is_change op ≡ true → x ≤ y
    at_least y lane line op at such = elim (cases_lt y x) [
      | inl lt ↦ (let low = begins_outside es is_change 0 x earlier y lane line op at such lt in absurd (omega (arith, low)))
      | inr le ↦ le
    ]

foreign_call : (call other : Call) (a b : Reply) → Some (entries.Foreign call a) ≡ Some (entries.Foreign other b) → (call ≡ other) × (a ≡ b)
foreign_call call other a b e = (cc, cc)

-- there is one change, and one of another client, at the place `at`, which spares the place i
pub spared_change : (es : List Event) (w p i at : ℕ) (call : Call) (reply : Reply) → quiet (begins is_change) 0 w (entries_of es) ≡ true → quiet (begins is_change) (suc w) p (entries_of es) ≡ true → quiet is_foreign (suc w) at (entries_of es) ≡ true
    → quiet is_foreign (suc at) p (entries_of es) ≡ true → At (entries_of es) at (entries.Foreign call reply) → ((t : Server) → ChangesPlace t the_file i call reply → ⊥) → quiet (begins is_close) 0 p (entries_of es) ≡ true
    → Alone es w p i
spared_change es w p i at call reply earlier later before_it after_it there spares close = record {
  others = λ x lane line op is such other before. elim (cases_lt x w) [
    | inl lt ↦ (let low = begins_outside es is_change 0 w earlier x lane line op is such lt in absurd (omega (arith, low)))
    | inr le ↦ (let low = begins_outside es is_change (suc w) p later x lane line op is such before in absurd (other (omega (arith, low, le))))
  ];
  spared = λ n c r late soon is t changes. (
      let this : n ≡ at = is_it n c r late soon is in
      let same_one = foreign_call call c reply r (sym there ∙ subst (λ (z : ℕ). At (entries_of es) z (entries.Foreign c r)) this is) in
      spares t (subst (λ (z : Reply). ChangesPlace t the_file i call z) (sym same_one.1) (subst (λ (z : Call). ChangesPlace t the_file i z r) (sym same_one.0) changes)));
  no_close = λ lane c slot k answer done before. no_closes es p close lane c slot k answer done before;
}
  where
    is_it : (n : ℕ) (c : Call) (r : Reply) → w < n → n < p → At (entries_of es) n (entries.Foreign c r) → n ≡ at
    is_it n c r late soon is =
        let low = none_foreign es (suc at) p after_it n c r is soon in
        elim (cases_lt n at) [
          | inl lt ↦ (let none = none_foreign es (suc w) at before_it n c r is lt in absurd (omega (arith, none, late)))
          | inr le ↦ omega (arith, low, le)
        ]

-- ---- what each state is

-- Whether each state from a place on is such.
abbrev pub each : (State → Bool) → ℕ → State → List Event → Bool
each p from s [] = p s
each p zero s (e ∷ es) = if p s then each p zero (after e s) es else false
each p (suc from) s (e ∷ es) = each p from (after e s) es

split : (b c : Bool) → (if b then c else false) ≡ true → (b ≡ true) × (c ≡ true)
split true c e = (refl, e)
split false c e = absurd (cc e)

pub each_at : (p : State → Bool) (from : ℕ) (s : State) (es : List Event) → each p from s es ≡ true → (n : ℕ) → from ≤ n → p (state_at s es n) ≡ true
each_at p from s [] all zero le = all
each_at p from s [] all (suc n) le = all
each_at p zero s (e ∷ es) all zero le = (split (p s) (each p zero (after e s) es) all).0
each_at p zero s (e ∷ es) all (suc n) le = each_at p zero (after e s) es (split (p s) (each p zero (after e s) es) all).1 n (omega arith)
each_at p (suc from) s (e ∷ es) all zero le = absurd (omega (arith, le))
each_at p (suc from) s (e ∷ es) all (suc n) le = each_at p from (after e s) es all n (omega (arith, le))

-- ---- what the file holds

bytes_are : (a b now stable : List ℕ) → Bytes a b ≡ Bytes now stable → (a ≡ now) × (b ≡ stable)
bytes_are a b now stable e = (cc e, cc e)

file_is : (s : State) (o : Object) (now stable : List ℕ) → (serve s).object the_file ≡ Some o → o.holds ≡ Bytes now stable → (s.now ≡ now) × (s.stable ≡ stable)
file_is s o now stable is holds_ = let e : file s ≡ o = cc is in bytes_are s.now s.stable now stable (ap (λ (z : Object). z.holds) e ∙ holds_)

pub has_now : (s : State) (now stable : List ℕ) → HasBytes (serve s) the_file now stable → s.now ≡ now
has_now s now stable h = (file_is s h.file now stable h.is h.holds).0

-- the first byte of the file
pub first_byte : (s : State) (now : List ℕ) (v : ℕ) → s.now ≡ now → slice_get now 0 ≡ Some v → get_or s.now 0 0 ≡ v
first_byte s now v is got = ap (λ (z : List ℕ). get_or z 0 0) is ∙ of now got
  where
    of : (list : List ℕ) → slice_get list 0 ≡ Some v → get_or list 0 0 ≡ v
    of [] e = absurd (cc e)
    of (b ∷ list) e = cc e

-- a byte that is held stable is in the file
pub held_now : (s : State) (i v : ℕ) → HoldsStable (serve s) the_file i v → slice_get s.now i ≡ Some v
held_now s i v h = subst (λ (z : List ℕ). slice_get z i ≡ Some v) (sym (has_now s h.now h.stable h.has)) h.holds
