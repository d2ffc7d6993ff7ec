-- A call that waits was sent after it was made, as the only call of its records; and its reply is that of an execution between.
use Rattle.std.proofs.Common.{inl, inr, ◌⊎◌, ◌≡◌, ◌<◌, ◌≤◌, ℕ, suc, List, [], ◌∷◌, ◌++◌, length, Option, Some, None, Result, Ok, refl, sym, ap, subst, ◌∙◌, arith}
use Rattle.rpc_message.specs.Reply.{RpcReply, Accepted, refusal_number, SpellsRefusal}
use Rattle.rpc_message.specs.declared.reply.ReplyFault.{ReplyFault}
use Rattle.rpc_message.proofs.CallLaws.{call_xid}
use Rattle.rpc_message.proofs.ReplyLaws.{reply_first, reply_again}
use Rattle.world_model.specs.declared.entry.Entry.{Entry}
use Rattle.world_model.specs.declared.entry.Entry.TheVariants as entries
use Rattle.world_model.specs.declared.message.Call.{Call}
use Rattle.world_model.specs.declared.message.Reply.{Reply}
use Rattle.world_model.specs.Entries.{At}
use Rattle.world_model.specs.History.{History}
use Rattle.world_model.specs.Lawful.{Lawful, IsReplied, replied, refused}
use Rattle.world_model.specs.Messages.{HasXid, SpellsCall, SpellsReply, head_of}
use Rattle.claims.specs.Modes.{Modes}
use Rattle.world_model.specs.Mounts.{Origin}
use Rattle.world_model.proofs.Places.{At-cases}
use Rattle.model_walks.specs.Calls.{Made, Taken, Calls, Fewer, MakesCall, Sends, Took, Hears, EntersCalls}
use Rattle.model_walks.specs.Machine as machine
use Rattle.model_walks.specs.Machine.{View}
use Rattle.model_walks.specs.Reaches as reaching
use Rattle.model_walks.specs.Reaches.{Reaches}
use Rattle.model_walks.proofs.Fronts.{Begins, length_last, before_begins, last_told, At-past}

-- ---- the calls of a client go along with it

pub data Runs : List Entry → Calls → Type 0 where
  begins : (h : List Entry) (c : Calls) → h ≡ [] → ((x : ℕ) → c.wait x ≡ None) → ((x : ℕ) → c.taken x ≡ None) → Runs h c
  enters : (h : List Entry) (c : Calls) (before : List Entry) (b : Calls) (e : Entry) → Runs before b → h ≡ before ++ e ∷ [] → EntersCalls (length before) b e c → Runs h c
  makes : (h : List Entry) (c b : Calls) (time : Option ℕ) → Runs h b → MakesCall (length h) time b c → Runs h c

stays : (h : List Entry) (b c : View) → c.calls ≡ b.calls → Runs h b.calls → Runs h c.calls
stays h b c e r = subst (Runs h) (sym e) r

entry_calls : (m : Modes) (origin : Origin) (t : History) (n : ℕ) (b c : View) (e : Entry) → machine.Enters m origin t n b e c → EntersCalls n b.calls e c.calls
entry_calls m origin t n b c (entries.Began lane line op) (inl s) = ap (λ (z : View). z.calls) s
entry_calls m origin t n b c (entries.Began lane line op) (inr s) = ap (λ (z : View). z.calls) s.others
entry_calls m origin t n b c (entries.Answered lane line answer) s = ap (λ (z : View). z.calls) s.same
entry_calls m origin t n b c (entries.Sent bytes) s = s.goes
entry_calls m origin t n b c (entries.Delivered bytes) s = s.goes
entry_calls m origin t n b c (entries.Clock ms) s = ap (λ (z : View). z.calls) s.others
entry_calls m origin t n b c (entries.Dialed port) s = ap (λ (z : View). z.calls) s
entry_calls m origin t n b c (entries.Executed xid call reply) s = ap (λ (z : View). z.calls) s
entry_calls m origin t n b c (entries.Foreign call reply) s = ap (λ (z : View). z.calls) s
entry_calls m origin t n b c (entries.Flushed f start count) s = ap (λ (z : View). z.calls) s
entry_calls m origin t n b c (entries.Reboot verf) s = ap (λ (z : View). z.calls) s
entry_calls m origin t n b c entries.Failed s = ap (λ (z : View). z.calls) s

pub runs : (m : Modes) (origin : Origin) (t : History) (h : List Entry) (c : View) → Reaches m origin t h c → Runs h c.calls
runs m origin t _ _ (reaching.begins h c is new) = begins h c.calls is new.wait new.taken
runs m origin t _ _ (reaching.enters h c front b e r is step) = enters h c.calls front b.calls e (runs m origin t front b r) is (entry_calls m origin t (length front) b c e step)
runs m origin t _ _ (reaching.moves h c b r (machine.makes_call k)) = makes h c.calls b.calls b.now (runs m origin t h b r) k.makes
runs m origin t _ _ (reaching.moves h c b r (machine.learns_attr k)) = stays h b c (ap (λ (z : View). z.calls) k.others) (runs m origin t h b r)
runs m origin t _ _ (reaching.moves h c b r (machine.learns_name k)) = stays h b c (ap (λ (z : View). z.calls) k.others) (runs m origin t h b r)
runs m origin t _ _ (reaching.moves h c b r (machine.forgets k)) = stays h b c (ap (λ (z : View). z.calls) k.others) (runs m origin t h b r)
runs m origin t _ _ (reaching.moves h c b r (machine.looks_up k)) = stays h b c (ap (λ (z : View). z.calls) k.goes.others) (runs m origin t h b r)
runs m origin t _ _ (reaching.moves h c b r (machine.goes_by_name k)) = stays h b c (ap (λ (z : View). z.calls) k.goes.others) (runs m origin t h b r)
runs m origin t _ _ (reaching.moves h c b r (machine.finds_file k)) = stays h b c (ap (λ (z : View). z.calls) k.others) (runs m origin t h b r)
runs m origin t _ _ (reaching.moves h c b r (machine.shows_object k)) = stays h b c (ap (λ (z : View). z.calls) k.others) (runs m origin t h b r)
runs m origin t _ _ (reaching.moves h c b r (machine.begins_list k)) = stays h b c (ap (λ (z : View). z.calls) k.others) (runs m origin t h b r)
runs m origin t _ _ (reaching.moves h c b r (machine.takes_page k)) = stays h b c (ap (λ (z : View). z.calls) k.others) (runs m origin t h b r)

-- ---- which entries change the calls

data CallStep (n : ℕ) (e : Entry) (old new : Calls) : Type 0 where
  quiet : ((bytes : List ℕ) → e ≡ entries.Sent bytes → ⊥) → new ≡ old → CallStep n e old new
  sends : (bytes : List ℕ) → e ≡ entries.Sent bytes → new ≡ old → Sends bytes old → CallStep n e old new
  hears : (bytes : List ℕ) → e ≡ entries.Delivered bytes → Hears n bytes old new → CallStep n e old new

call_step : (n : ℕ) (old new : Calls) (e : Entry) → EntersCalls n old e new → CallStep n e old new
call_step n old new (entries.Sent bytes) s = sends bytes refl s.0 s.1
call_step n old new (entries.Delivered bytes) s = hears bytes refl s
call_step n old new (entries.Began lane line op) s = quiet (λ bytes e. absurd (cc e)) s
call_step n old new (entries.Answered lane line answer) s = quiet (λ bytes e. absurd (cc e)) s
call_step n old new (entries.Dialed port) s = quiet (λ bytes e. absurd (cc e)) s
call_step n old new (entries.Executed xid call reply) s = quiet (λ bytes e. absurd (cc e)) s
call_step n old new (entries.Foreign call reply) s = quiet (λ bytes e. absurd (cc e)) s
call_step n old new (entries.Flushed f start count) s = quiet (λ bytes e. absurd (cc e)) s
call_step n old new (entries.Reboot verf) s = quiet (λ bytes e. absurd (cc e)) s
call_step n old new entries.Failed s = quiet (λ bytes e. absurd (cc e)) s
call_step n old new (entries.Clock ms) s = quiet (λ bytes e. absurd (cc e)) s

-- ---- which calls records spell

-- the record under this xid spells this call and no other, and was sent after the call was made
pub record SentAs (call : Call) (at x i : ℕ) (b : List ℕ) : Type 0 where
  pub late : at ≤ i
  pub spells : SpellsCall x call b
  pub alone : (other : Call) → SpellsCall x other b → other ≡ call

pub record Sendings (h : List Entry) (c : Calls) : Type 0 where
  pub below : (i z : ℕ) (b : List ℕ) → At h i (entries.Sent b) → HasXid b z → z < c.next
  pub waits : (x : ℕ) (k : Made) → c.wait x ≡ Some k → (x < c.next) × (k.at ≤ length h)
  pub sent : (x : ℕ) (k : Made) (i : ℕ) (b : List ℕ) → c.wait x ≡ Some k → At h i (entries.Sent b) → HasXid b x → SentAs k.call k.at x i b
  pub taken : (x : ℕ) (k : Taken) → c.taken x ≡ Some k → x < c.next
  pub idle : (x : ℕ) (k : Taken) (w : Made) → c.taken x ≡ Some k → c.wait x ≡ Some w → ⊥
  pub before : (x : ℕ) (k : Taken) (i : ℕ) (b : List ℕ) → c.taken x ≡ Some k → At h i (entries.Sent b) → HasXid b x → SentAs k.call k.at x i b

some_made : (a b : Made) → Some a ≡ Some b → a ≡ b
some_made a b e = cc

not_sent : (h : List Entry) (e : Entry) → ((bytes : List ℕ) → e ≡ entries.Sent bytes → ⊥) → (i : ℕ) (b : List ℕ) → At (h ++ e ∷ []) i (entries.Sent b) → At h i (entries.Sent b)
not_sent h e none i b at = elim (At-cases h e i (entries.Sent b) at) [ inl a ↦ a | inr m ↦ absurd (none b m.1) ]

-- nothing is sent, fewer calls wait, and no more replies were taken
fewer : (h : List Entry) (e : Entry) (b c : Calls) → ((bytes : List ℕ) → e ≡ entries.Sent bytes → ⊥) → c.next ≡ b.next → Fewer b.wait c.wait → c.taken ≡ b.taken → Sendings h b → Sendings (h ++ e ∷ []) c
fewer h e b c none next wait taken f = record {
  below = λ i z d at u. rw next (f.below i z d (not_sent h e none i d at) u);
  waits = λ x k w. let r = f.waits x k (wait x k w) in let low = r.1 in let l = length_last h e in (rw next r.0, omega (arith, low, l));
  sent = λ x k i d w at u. f.sent x k i d (wait x k w) (not_sent h e none i d at) u;
  taken = λ x k w. rw next (f.taken x k (was x k w));
  idle = λ x k w is waits. f.idle x k w (was x k is) (wait x w waits);
  before = λ x k i d w at u. f.before x k i d (was x k w) (not_sent h e none i d at) u;
}
  where
    was : (x : ℕ) (k : Taken) → c.taken x ≡ Some k → b.taken x ≡ Some k
    was x k w = ap (λ z. z x) (sym taken) ∙ w

abbrev taking : (n : ℕ) (bytes : List ℕ) (b c : Calls) → Took n bytes b c → Taken
taking n bytes b c k = record { call = k.made.call; at = k.made.at; time = k.made.time; reply = k.reply; came = n }

takes : (h : List Entry) (bytes : List ℕ) (b c : Calls) → Took (length h) bytes b c → Sendings h b → Sendings (h ++ entries.Delivered bytes ∷ []) c
takes h bytes b c s f = record {
  below = λ i z d at u. rw s.next (f.below i z d (unsent i d at) u);
  waits = λ x k w. let r = f.waits x k (s.fewer x k w) in let low = r.1 in let l = length_last h (entries.Delivered bytes) in (rw s.next r.0, omega (arith, low, l));
  sent = λ x k i d w at u. f.sent x k i d (s.fewer x k w) (unsent i d at) u;
  taken = λ x k w. rw s.next (low x k (s.taken x k w));
  idle = λ x k w is waits. elim (s.taken x k is) [
    | inl old ↦ f.idle x k w old (s.fewer x w waits)
    | inr new ↦ absurd (cc (s.gone, ap (λ z. c.wait z) (sym new.0) ∙ waits))
  ];
  before = λ x k i d w at u. elim (s.taken x k w) [
    | inl old ↦ f.before x k i d old (unsent i d at) u
    | inr new ↦ rw (new.1, new.0) (f.sent s.x s.made i d s.waits (unsent i d at) (rw (← new.0) u))
  ];
}
  where
    unsent : (i : ℕ) (d : List ℕ) → At (h ++ entries.Delivered bytes ∷ []) i (entries.Sent d) → At h i (entries.Sent d)
    unsent i d at = not_sent h (entries.Delivered bytes) (λ z e. absurd (cc e)) i d at

    low : (x : ℕ) (k : Taken) → (b.taken x ≡ Some k) ⊎ ((x ≡ s.x) × (k ≡ taking (length h) bytes b c s)) → x < b.next
    low x k (inl old) = f.taken x k old
    low x k (inr new) = rw new.0 ((f.waits s.x s.made s.waits).0)

sending : (h : List Entry) (bytes : List ℕ) (c : Calls) → Sends bytes c → Sendings h c → Sendings (h ++ entries.Sent bytes ∷ []) c
sending h bytes c s f = record {
  below = λ i z d at u. elim (At-cases h (entries.Sent bytes) i (entries.Sent d) at) [
    | inl a ↦ f.below i z d a u
    | inr l ↦ let e = s.under z (rw (sent_is bytes d l.1) u) in rw e ((f.waits s.x s.made s.waits).0)
  ];
  waits = λ x k w. let r = f.waits x k w in let low = r.1 in let l = length_last h (entries.Sent bytes) in (r.0, omega (arith, low, l));
  sent = λ x k i d w at u. elim (At-cases h (entries.Sent bytes) i (entries.Sent d) at) [
    | inl a ↦ f.sent x k i d w a u
    | inr l ↦ this x k i d l.0 (sent_is bytes d l.1) u w
  ];
  taken = f.taken;
  idle = f.idle;
  before = λ x k i d w at u. elim (At-cases h (entries.Sent bytes) i (entries.Sent d) at) [
    | inl a ↦ f.before x k i d w a u
    | inr l ↦ let e : x ≡ s.x = s.under x (rw (sent_is bytes d l.1) u) in absurd (f.idle x k s.made w (ap (λ z. c.wait z) e ∙ s.waits))
  ];
}
  where
    sent_is : (p q : List ℕ) → entries.Sent p ≡ entries.Sent q → p ≡ q
    sent_is p q e = cc

    this : (x : ℕ) (k : Made) (i : ℕ) (d : List ℕ) → i ≡ length h → bytes ≡ d → HasXid d x → c.wait x ≡ Some k → SentAs k.call k.at x i d
    this x k i d place is u w =
        let e : x ≡ s.x = s.under x (rw is u) in
        let same : s.made ≡ k = some_made s.made k (sym s.waits ∙ ap (λ z. c.wait z) (sym e) ∙ w) in
        let low = (f.waits x k w).1 in
        record {
          late = omega (arith, low, place);
          spells = rw (e, ← same, ← is) s.spells;
          alone = λ other sp. s.alone other (subst (λ z. SpellsCall z other bytes) e (rw is sp)) ∙ ap (λ (z : Made). z.call) same;
        }

making : (h : List Entry) (time : Option ℕ) (b c : Calls) → MakesCall (length h) time b c → Sendings h b → Sendings h c
making h time b c k f = record {
  below = λ i z d at u. let r = f.below i z d at u in let e = k.next in omega (arith, r, e);
  waits = λ x w is. elim (k.waits x w is) [
    | inl old ↦ let r = f.waits x w old in let low = r.0 in let next = k.next in (omega (arith, low, next), r.1)
    | inr new ↦ let e = new.0 in let next = k.next in let at : w.at ≡ length h = ap (λ (z : Made). z.at) new.1 in (omega (arith, e, next), omega (arith, at))
  ];
  sent = λ x w i d is at u. elim (k.waits x w is) [
    | inl old ↦ f.sent x w i d old at u
    | inr new ↦ let r = f.below i x d at u in let e = new.0 in absurd (omega (arith, r, e))
  ];
  taken = λ x w is. let low = f.taken x w (was x w is) in let next = k.next in omega (arith, low, next);
  idle = λ x w z is waits. elim (k.waits x z waits) [
    | inl old ↦ f.idle x w z (was x w is) old
    | inr new ↦ let low = f.taken x w (was x w is) in let e = new.0 in absurd (omega (arith, low, e))
  ];
  before = λ x w i d is at u. f.before x w i d (was x w is) at u;
}
  where
    was : (x : ℕ) (w : Taken) → c.taken x ≡ Some w → b.taken x ≡ Some w
    was x w is = ap (λ z. z x) (sym k.taken) ∙ is

pub sendings : (h : List Entry) (c : Calls) → Runs h c → Sendings h c
sendings _ _ (begins h c is wait taken) = rw is (record {
  below = λ i z b at u. absurd (cc at);
  waits = λ x k w. absurd (cc (wait x, w));
  sent = λ x k i b w at u. absurd (cc at);
  taken = λ x k w. absurd (cc (taken x, w));
  idle = λ x k w is waits. absurd (cc (taken x, is));
  before = λ x k i b w at u. absurd (cc at);
})
sendings _ _ (makes h c b time r k) = making h time b c k (sendings h b r)
sendings _ _ (enters h c front b e r is step) = rw is (by (call_step (length front) b c e step) (sendings front b r))
  where
    by : CallStep (length front) e b c → Sendings front b → Sendings (front ++ e ∷ []) c
    by (quiet none same) f = fewer front e b c none (ap (λ (z : Calls). z.next) same) (λ x k w. ap (λ (z : Calls). z.wait x) (sym same) ∙ w) (ap (λ (z : Calls). z.taken) same) f
    by (sends bytes e_is same s) f = rw (e_is, same) (sending front bytes b s f)
    by (hears bytes e_is (inl s)) f = rw e_is (fewer front (entries.Delivered bytes) b c (λ d z. absurd (cc z)) s.next s.fewer s.taken f)
    by (hears bytes e_is (inr s)) f = rw e_is (takes front bytes b c s f)

-- ---- replies that were taken

-- The reply is that of an execution of its call, after that was made and before the record came.
pub record Ran (t : History) (x : ℕ) (k : Taken) : Type 0 where
  pub place : ℕ
  pub at : At t.entries place (entries.Executed x k.call k.reply)
  pub late : k.at ≤ place
  pub before : place < k.came

-- the record that came is under the xid, and no other reply to the call
pub record IsHeard (t : History) (x : ℕ) (k : Taken) : Type 0 where
  pub bytes : List ℕ
  pub got : At t.entries k.came (entries.Delivered bytes)
  pub under : HasXid bytes x
  pub alone : (r : Reply) → SpellsReply x k.call r bytes → r ≡ k.reply

pub record Was (t : History) (h : List Entry) (x : ℕ) (k : Taken) : Type 0 where
  pub ran : Ran t x k
  pub heard : IsHeard t x k
  pub early : k.came < length h

pub one_xid : (x y : ℕ) (b : List ℕ) → HasXid b x → HasXid b y → x ≡ y
one_xid x y b hx hy = same (sym hx ∙ hy)
  where
    same : Some x ≡ Some y → x ≡ y
    same e = cc

pub xid_of_call : (x : ℕ) (call : Call) (b : List ℕ) → SpellsCall x call b → HasXid b x
xid_of_call x call b s = call_xid (head_of x call) s.args b s.head

-- a record that is a reply refuses nothing
unrefused : (x y number : ℕ) (call : Call) (reply : Reply) (b : List ℕ) → SpellsReply x call reply b → SpellsRefusal y number b → ⊥
unrefused x y number call reply b s r = differ (ap refusal_number (ok_is (Accepted x s.results) r.reply (sym (reply_again (Accepted x s.results) b s.accepted) ∙ reply_again r.reply b r.is)) ∙ r.numbered)
  where
    ok_is : (p q : RpcReply) → ◌≡◌ {A = Result RpcReply ReplyFault} (Ok p) (Ok q) → p ≡ q
    ok_is p q e = cc

    differ : refusal_number (Accepted x s.results) ≡ Some number → ⊥
    differ e = absurd (cc e)

ran : (t : History) → Lawful t → (h : List Entry) (b c : Calls) (bytes : List ℕ) → Begins t (h ++ entries.Delivered bytes ∷ []) → Runs h b → (k : Took (length h) bytes b c) → Ran t k.x (taking (length h) bytes b c k)
ran t lawful h b c bytes begun r k = by (lawful.entries (length h) (entries.Delivered bytes) (last_told t h (entries.Delivered bytes) begun)).is
  where
    by : IsReplied t.entries (length h) bytes → Ran t k.x (taking (length h) bytes b c k)
    by (replied n x call reply before at spells) =
        let is : x ≡ k.x = one_xid x k.x bytes (reply_first (Accepted x spells.results) bytes spells.accepted) k.under in
        let sent = (lawful.entries n (entries.Executed x call reply) at).0 in
        let early = sent.before in
        let there : At h sent.at (entries.Sent sent.bytes) = At-past t h sent.at (entries.Sent sent.bytes) (before_begins t h (entries.Delivered bytes) begun) (omega (arith, early, before)) sent.sent in
        let under : HasXid sent.bytes x = xid_of_call x call sent.bytes sent.spells in
        let sent_as = (sendings h b r).sent k.x k.made sent.at sent.bytes k.waits there (subst (λ z. HasXid sent.bytes z) is under) in
        let same : call ≡ k.made.call = sent_as.alone call (subst (λ z. SpellsCall z call sent.bytes) is sent.spells) in
        let answer : reply ≡ k.reply = k.alone reply (subst (λ z. SpellsReply k.x z reply bytes) same (subst (λ z. SpellsReply z call reply bytes) is spells)) in
        let late = sent_as.late in
        record {
          place = n;
          at = subst (λ z. At t.entries n (entries.Executed k.x k.made.call z)) answer (subst (λ z. At t.entries n (entries.Executed k.x z reply)) same (subst (λ z. At t.entries n (entries.Executed z call reply)) is at));
          late = omega (arith, late, early);
          before = before;
        }
    by (refused n x code sent before at has spells) = absurd (unrefused k.x x code k.made.call k.reply bytes k.spells spells)

was_longer : (t : History) (h front : List Entry) (x : ℕ) (k : Taken) → length h ≡ suc (length front) → Was t front x k → Was t h x k
was_longer t h front x k long w = record { ran = w.ran; heard = w.heard; early = let low = w.early in omega (arith, low, long) }

taken_at : (t : History) → Lawful t → (h front : List Entry) (b c : Calls) (e : Entry) → Begins t (front ++ e ∷ []) → Runs front b → length h ≡ suc (length front) → CallStep (length front) e b c
    → ((x : ℕ) (k : Taken) → b.taken x ≡ Some k → Was t front x k) → (x : ℕ) (k : Taken) → c.taken x ≡ Some k → Was t h x k
taken_at t lawful h front b c e begun r long (quiet none same) old x k is = was_longer t h front x k long (old x k (ap (λ (z : Calls). z.taken x) (sym same) ∙ is))
taken_at t lawful h front b c e begun r long (sends bytes e_is same s) old x k is = was_longer t h front x k long (old x k (ap (λ (z : Calls). z.taken x) (sym same) ∙ is))
taken_at t lawful h front b c e begun r long (hears bytes e_is (inl s)) old x k is = was_longer t h front x k long (old x k (ap (λ z. z x) (sym s.taken) ∙ is))
taken_at t lawful h front b c e begun r long (hears bytes e_is (inr s)) old x k is = elim (s.taken x k is) [
  | inl before ↦ was_longer t h front x k long (old x k before)
  | inr new ↦
      let all : Begins t (front ++ entries.Delivered bytes ∷ []) = rw (← e_is) begun in
      rw (new.1, new.0) (record {
        ran = ran t lawful front b c bytes all r s;
        heard = record { bytes = bytes; got = last_told t front (entries.Delivered bytes) all; under = s.under; alone = s.alone };
        early = omega (arith, long);
      })
]

pub taken : (t : History) → Lawful t → (h : List Entry) (c : Calls) → Begins t h → Runs h c → (x : ℕ) (k : Taken) → c.taken x ≡ Some k → Was t h x k
taken t lawful _ _ begun (begins h c is wait none) x k e = absurd (cc (none x, e))
taken t lawful _ _ begun (makes h c b time r made) x k e = taken t lawful h b begun r x k (ap (λ z. z x) (sym made.taken) ∙ e)
taken t lawful _ _ begun (enters h c front b d r is step) x k e =
    let all : Begins t (front ++ d ∷ []) = rw is at begun in
    let long : length h ≡ suc (length front) = rw is (length_last front d) in
    taken_at t lawful h front b c d all r long (call_step (length front) b c d step) (λ y z w. taken t lawful front b (before_begins t front d all) r y z w) x k e
