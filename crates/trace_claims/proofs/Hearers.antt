-- The records that came, and the replies that they are, one place after another.
use Rattle.std.proofs.Common.{◌≡◌, ◌<◌, ◌≤◌, ◌+◌, inl, inr, ℕ, Bool, true, false, true≢false, List, [], ◌∷◌, ◌++◌, append-nil, length, Option, Some, None, slice_get, refl, sym, ◌∙◌, ap, subst, arith}
use Rattle.std.specs.Prelude.{Decides}
use Rattle.std.proofs.lemmas.Bool.{cases_lt}
use Rattle.rpc_message.specs.Call.{xid_at}
use Rattle.world_model.specs.declared.entry.Entry.{Entry}
use Rattle.world_model.specs.declared.entry.Entry.TheVariants.{Began, Answered, Dialed, Sent, Executed, Foreign, Flushed, Reboot, Delivered, Failed, Clock}
use Rattle.world_model.specs.declared.message.Call.{Call}
use Rattle.world_model.specs.declared.message.Reply.{Reply}
use Rattle.world_model.specs.Entries.{At}
use Rattle.world_model.specs.Messages.{HasXid, SpellsCall, SpellsReply}
use Rattle.world_model.specs.Waiting.{FirstSent, Waits, Answers}
use Rattle.world_model.specs.Heard as model
use Rattle.world_model.proofs.Places.{At-one, At-below}
use Rattle.trace_answers.specs.Calling.{CallBefore, NoCallBefore}
use Rattle.trace_calls.specs.Coming.{IsReplyTo}
use Rattle.trace_claims.specs.declared.records.Heard.{Heard}
use Rattle.trace_claims.specs.Coming.{place_if, comes_there, came_at, bytes_there, came_bytes, CameAt, HasCame}
use Rattle.trace_claims.specs.Hearing.{HeardAt, NoneHeard, IsHeardAt, IsReply, FindsHeard, CameUnder, IsCalled, HasHeard, heard_list}
use Rattle.trace_claims.proofs.Listing.{get-last, get-grow, get-new}

-- ---- where records came

some-entry : (a b : Entry) → Some a ≡ Some b → a ≡ b
some-entry a b e = cc

comes-told : (o : Option Entry) → comes_there o ≡ true → (bytes : List ℕ) × (o ≡ Some (Delivered bytes))
comes-told None t = absurd (true≢false (sym t))
comes-told (Some (Delivered bytes)) t = (bytes, refl)
comes-told (Some (Began lane line op)) t = absurd cc
comes-told (Some (Answered lane line answer)) t = absurd cc
comes-told (Some (Dialed port)) t = absurd cc
comes-told (Some (Sent bytes)) t = absurd cc
comes-told (Some (Executed xid call reply)) t = absurd cc
comes-told (Some (Foreign call reply)) t = absurd cc
comes-told (Some (Flushed file from len)) t = absurd cc
comes-told (Some (Reboot verf)) t = absurd cc
comes-told (Some Failed) t = absurd cc
comes-told (Some (Clock ms)) t = absurd cc

pub came-decides : (h : List Entry) (i : ℕ) → Decides (came_at h i) (CameAt h i)
unfolding came_at
came-decides h i = (comes-told (slice_get h i), λ c. ap comes_there c.1)

pub came-none : (h : List Entry) → HasCame h 0 []
came-none h = record { each = λ k place at. absurd cc; every = λ x bytes at lt. absurd (omega (arith, lt)) }

pub came-more : (h : List Entry) (n : ℕ) (rs : List ℕ) (b : Bool) → b ≡ came_at h n → HasCame h n rs → HasCame h (n + 1) (rs ++ place_if b n)
came-more h n rs true is has = record {
  each = λ k place at. elim (get-last rs n k place at) [
    | inl there ↦ has.each k place there
    | inr e ↦ subst (λ (z : ℕ). CameAt h z) e ((came-decides h n).0 (sym is))
  ];
  every = λ x bytes at lt. elim (cases_lt x n) [
    | inl before ↦ let old = has.every x bytes at before in (old.0, get-grow rs n old.0 x old.1)
    | inr le ↦ (length rs, subst (λ (z : ℕ). slice_get (rs ++ n ∷ []) (length rs) ≡ Some z) (let e : n ≡ x = omega (arith, le, lt) in e) (get-new rs n))
  ];
}
came-more h n rs false is has = subst (λ (l : List ℕ). HasCame h (n + 1) l) (sym (append-nil rs)) (record {
  each = has.each;
  every = λ x bytes at lt. elim (cases_lt x n) [
    | inl before ↦ has.every x bytes at before
    | inr le ↦ absurd (true≢false (sym ((came-decides h n).1 (bytes, subst (λ (z : ℕ). At h z (Delivered bytes)) (let e : x ≡ n = omega (arith, le, lt) in e) at)) ∙ sym is))
  ];
})

-- ---- one reply

pub came-is : (h : List Entry) (i : ℕ) (bytes : List ℕ) → At h i (Delivered bytes) → came_bytes h i ≡ bytes
unfolding came_bytes
came-is h i bytes at = ap bytes_there at

same-bytes : (a b : List ℕ) → Delivered a ≡ Delivered b → a ≡ b
same-bytes a b e = cc

some-xid : (x y : ℕ) → Some x ≡ Some y → x ≡ y
some-xid x y e = cc

-- what another reading of the record says agrees
pub record Agrees (h : List Entry) (g xid : ℕ) (call other : Call) (reply : Reply) (bytes : List ℕ) : Type 0 where
  pub same : other ≡ call
  pub spells : SpellsReply xid call reply bytes

agrees : (h : List Entry) (g xid : ℕ) (call : Call) (is : IsCalled h g xid call) (other : Call) (reply : Reply) → HeardAt h g other reply → Agrees h g xid call other reply is.came.bytes
agrees h g xid call is other reply heard = record { same = same; spells = subst (λ (z : Call). SpellsReply xid z reply is.came.bytes) same moved }
  where
    bytes : heard.bytes ≡ is.came.bytes
    bytes = same-bytes heard.bytes is.came.bytes (At-one h g (Delivered heard.bytes) (Delivered is.came.bytes) heard.got.got is.came.got)

    xids : heard.xid ≡ xid
    xids = some-xid heard.xid xid (sym (subst (λ (z : List ℕ). HasXid z heard.xid) bytes heard.got.under) ∙ is.came.under)

    before : CallBefore h xid g other
    before = record {
      sent_at = heard.sent_at;
      bytes = heard.record_sent;
      sent = subst (λ (x : ℕ). FirstSent h heard.sent_at x heard.record_sent) xids heard.sent;
      spells = subst (λ (x : ℕ). SpellsCall x other heard.record_sent) xids heard.asks;
      before = heard.later;
    }

    same : other ≡ call
    same = is.call_is.only other before

    moved : SpellsReply xid other reply is.came.bytes
    moved = subst (λ (x : ℕ). SpellsReply x other reply is.came.bytes) xids (subst (λ (z : List ℕ). SpellsReply heard.xid other reply z) bytes heard.spells)

pub heard-so : (h : List Entry) (g xid : ℕ) (call : Call) → IsCalled h g xid call → (after : ℕ) (reply : Reply) → IsReplyTo xid call (came_bytes h g) reply → IsHeardAt h g after (record { place = g; after = after; call = call; reply = reply })
heard-so h g xid call is after reply reads = record {
  there = refl;
  after_is = refl;
  is = record {
    xid = xid;
    bytes = is.came.bytes;
    sent_at = is.call_is.is.sent_at;
    record_sent = is.call_is.is.bytes;
    sent = is.call_is.is.sent;
    asks = is.call_is.is.spells;
    got = record { got = is.came.got; under = is.came.under; waits = is.waits };
    later = is.call_is.is.before;
    spells = subst (λ (z : List ℕ). SpellsReply xid call reply z) (came-is h g is.came.bytes is.came.got) reads.spells;
  };
  only = λ other its heard.
      let a = agrees h g xid call is other its heard in
      (sym a.same, sym (reads.only its (subst (λ (z : List ℕ). SpellsReply xid call its z) (sym (came-is h g is.came.bytes is.came.got)) a.spells)));
}

pub heard-not : (h : List Entry) (g xid : ℕ) (call : Call) → IsCalled h g xid call → ((reply : Reply) → SpellsReply xid call reply (came_bytes h g) → ⊥) → NoneHeard h g
heard-not h g xid call is none other its heard =
    let a = agrees h g xid call is other its heard in none its (subst (λ (z : List ℕ). SpellsReply xid call its z) (sym (came-is h g is.came.bytes is.came.got)) a.spells)

under-one : (h : List Entry) (g xid : ℕ) → CameUnder h g xid → (x : ℕ) (bytes : List ℕ) → Answers h g x bytes → x ≡ xid
under-one h g xid came x bytes got =
    let same = same-bytes bytes came.bytes (At-one h g (Delivered bytes) (Delivered came.bytes) got.got came.got) in
    some-xid x xid (sym (subst (λ (z : List ℕ). HasXid z x) same got.under) ∙ came.under)

-- no call was sent before under the xid
pub heard-uncalled : (h : List Entry) (g xid : ℕ) → CameUnder h g xid → NoCallBefore h xid g → NoneHeard h g
heard-uncalled h g xid came none call reply heard = none call (record {
  sent_at = heard.sent_at;
  bytes = heard.record_sent;
  sent = subst (λ (x : ℕ). FirstSent h heard.sent_at x heard.record_sent) xids heard.sent;
  spells = subst (λ (x : ℕ). SpellsCall x call heard.record_sent) xids heard.asks;
  before = heard.later;
})
  where
    xids : heard.xid ≡ xid
    xids = under-one h g xid came heard.xid heard.bytes heard.got

-- the xid doesn't wait
pub heard-unwaited : (h : List Entry) (g xid : ℕ) → CameUnder h g xid → (Waits h xid g → ⊥) → NoneHeard h g
heard-unwaited h g xid came none call reply heard = none (subst (λ (x : ℕ). Waits h x g) (under-one h g xid came heard.xid heard.bytes heard.got) heard.got.waits)

pub heard-uncame : (h : List Entry) (g : ℕ) → came_at h g ≡ false → NoneHeard h g
heard-uncame h g none call reply heard = true≢false (sym ((came-decides h g).1 (heard.bytes, heard.got.got)) ∙ none)

pub heard-nameless : (h : List Entry) (g : ℕ) → xid_at (came_bytes h g) ≡ None → NoneHeard h g
heard-nameless h g none call reply heard = let it : Some heard.xid ≡ None = sym (subst (λ (z : List ℕ). HasXid z heard.xid) (sym (came-is h g heard.bytes heard.got.got)) heard.got.under) ∙ none in absurd cc

pub came-under : (h : List Entry) (g xid : ℕ) → came_at h g ≡ true → xid_at (came_bytes h g) ≡ Some xid → CameUnder h g xid
came-under h g xid t is = let c = (came-decides h g).0 t in record { bytes = c.0; got = c.1; under = subst (λ (z : List ℕ). xid_at z ≡ Some xid) (came-is h g c.0 c.1) is }

pub under-below : (h : List Entry) (g xid : ℕ) → CameUnder h g xid → g ≤ length h
under-below h g xid came = let it = At-below h g (Delivered came.bytes) came.got in omega (arith, it)

pub called-below : (h : List Entry) (g xid : ℕ) (call : Call) → IsCalled h g xid call → g < length h
called-below h g xid call is = At-below h g (Delivered is.came.bytes) is.came.got

-- ---- all replies

pub heard-none : (h : List Entry) → HasHeard h 0 []
heard-none h = record { each = λ k r at. absurd cc; every = λ g call reply heard lt. absurd (omega (arith, lt)) }

moved-heard : (h : List Entry) (g : ℕ) (r : Heard) → IsHeardAt h g (g + 1) r → IsReply h r
moved-heard h g r is = record { is = subst (λ (z : ℕ). HeardAt h z r.call r.reply) (sym is.there) is.is; after_is = is.after_is ∙ ap (λ (z : ℕ). z + 1) (sym is.there) }

pub heard-more : (h : List Entry) (n : ℕ) (rs : List Heard) (found : Option Heard) → FindsHeard h n (n + 1) found → HasHeard h n rs → HasHeard h (n + 1) (rs ++ heard_list found)
heard-more h n rs (Some r) is has = record {
  each = λ k x at. elim (get-last rs r k x at) [
    | inl there ↦ has.each k x there
    | inr e ↦ subst (λ (z : Heard). IsReply h z) e (moved-heard h n r is)
  ];
  every = λ g call reply heard lt. elim (cases_lt g n) [
    | inl before ↦ let old = has.every g call reply heard before in (old.0, old.1, get-grow rs r old.0 old.1 old.2, old.3, old.4)
    | inr le ↦
        let e : g ≡ n = omega (arith, le, lt) in
        (length rs, r, get-new rs r, is.there ∙ sym e, is.only call reply (subst (λ (z : ℕ). HeardAt h z call reply) e heard))
  ];
}
heard-more h n rs None none has = subst (λ (l : List Heard). HasHeard h (n + 1) l) (sym (append-nil rs)) (record {
  each = has.each;
  every = λ g call reply heard lt. elim (cases_lt g n) [
    | inl before ↦ has.every g call reply heard before
    | inr le ↦ absurd (none call reply (subst (λ (z : ℕ). HeardAt h z call reply) (let e : g ≡ n = omega (arith, le, lt) in e) heard))
  ];
})

-- ---- replies and calls

pub heard-asked : (h : List Entry) (g : ℕ) (call : Call) (reply : Reply) (to : ℕ) → HeardAt h g call reply → g < to → model.Asked h 0 to call reply
heard-asked h g call reply to r lt = record {
  xid = r.xid;
  bytes = r.bytes;
  heard = record { sent_at = r.sent_at; record_sent = r.record_sent; got_at = g; sent = r.sent; spells = r.asks; got = r.got; after = omega arith; later = r.later; before = lt };
  spells = r.spells;
}

pub asked-heard : (h : List Entry) (call : Call) (reply : Reply) (to : ℕ) → model.Asked h 0 to call reply → (g : ℕ) × (g < to) × HeardAt h g call reply
asked-heard h call reply to a = (
  a.heard.got_at,
  a.heard.before,
  record { xid = a.xid; bytes = a.bytes; sent_at = a.heard.sent_at; record_sent = a.heard.record_sent; sent = a.heard.sent; asks = a.heard.spells; got = a.heard.got; later = a.heard.later; spells = a.spells },
)
