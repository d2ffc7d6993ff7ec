-- What was sent so far stays true at each entry.
use Rattle.std.proofs.Common.{inl, inr, ◌≡◌, ◌≢◌, ◌≤◌, ◌<◌, ◌+◌, ℕ, true, false, eqb, List, [], ◌∷◌, ◌++◌, length, refl, sym, subst, ◌∙◌, arith}
use Rattle.std.proofs.lemmas.Bool.{ne_eqb, eqb-true, eqb-false}
use Rattle.rpc_message.specs.declared.cred.Cred.{Cred}
use Rattle.rpc_message.proofs.CallLaws.{call_xid}
use Rattle.rpc_retry.specs.Held.{Held, next_xid}
use Rattle.world_model.specs.declared.entry.Entry.{Entry}
use Rattle.world_model.specs.declared.entry.Entry.TheVariants.{Began, Answered, Sent, Delivered, Clock}
use Rattle.world_model.specs.declared.message.Call.{Call}
use Rattle.world_model.specs.Entries.{At}
use Rattle.world_model.specs.Messages.{HasXid, SpellsCall, head_of}
use Rattle.world_model.specs.Mounts.{Origin}
use Rattle.world_model.specs.Rows.{WasSent}
use Rattle.world_model.specs.Waiting.{Waits, Answers}
use Rattle.world_model.proofs.Growth.{Waits-back, Rooted-grow, Rooted-wide}
use Rattle.world_model.proofs.Places.{At-grow, At-below, At-cases, At-back, length_last}
use Rattle.session_setup.specs.Exchanges.{IsBase, KeepsCalls}
use Rattle.session_setup.specs.Sendings.{IsSetUpCall, mounts, informs, IsSetUpRecord, SentSo, times_sent, IsUnmarked}
use Rattle.session_setup.proofs.Stills.{IsPlain, times-append}

abbrev pub one : Entry → List Entry
one e = e ∷ []

-- ---- records

call_grow : (o : Origin) (first : ℕ) (h more : List Entry) (i j x : ℕ) (call : Call) → i ≤ j → IsSetUpCall o first h i x call → IsSetUpCall o first (h ++ more) j x call
call_grow o first h more i j x call le (mounts path a b c) = mounts path a b c
call_grow o first h more i j x call le (informs root a b c) = informs root (Rooted-wide o (h ++ more) i j root le (Rooted-grow o h more i root a)) b c

pub record_grow : (o : Origin) (cred : Cred) (first : ℕ) (h more : List Entry) (i j : ℕ) (b : List ℕ) → i ≤ j → IsSetUpRecord o cred first h i b → IsSetUpRecord o cred first (h ++ more) j b
record_grow o cred first h more i j b le r = record { xid = r.xid; call = r.call; made = r.made; is = call_grow o first h more i j r.xid r.call le r.is }

pub sent_is : (a b : List ℕ) → Sent a ≡ Sent b → a ≡ b
sent_is a b e = cc

pub xid_of_call : (x : ℕ) (call : Call) (b : List ℕ) → SpellsCall x call b → HasXid b x
xid_of_call x call b s = call_xid (head_of x call) s.args b s.head

pub one_number : (b : List ℕ) (x y : ℕ) → HasXid b x → HasXid b y → x ≡ y
one_number b x y p q = cc

pub WasSent-more : (h : List Entry) (e : Entry) (x : ℕ) → WasSent h x (length h) → WasSent (h ++ e ∷ []) x (length (h ++ e ∷ []))
WasSent-more h e x w = record { at = w.at; bytes = w.bytes; sent = At-grow h (one e) w.at (Sent w.bytes) w.sent; under = w.under; before = omega (arith, w.before, length_last h e) }

pub Answers-back : (h more : List Entry) (n x : ℕ) (bytes : List ℕ) → n < length h → Answers (h ++ more) n x bytes → Answers h n x bytes
Answers-back h more n x bytes lt a = record { got = At-back h more n (Delivered bytes) a.got lt; under = a.under; waits = Waits-back h more x n (omega (arith, lt)) a.waits }

-- a call that waits at the end waited before an entry that sends nothing
pub waits_before : (h : List Entry) (e : Entry) (y : ℕ) → ((b : List ℕ) → e ≡ Sent b → ⊥) → Waits (h ++ e ∷ []) y (length (h ++ e ∷ [])) → Waits h y (length h)
waits_before h e y mute w =
    elim (At-cases h e w.at (Sent w.bytes) w.sent) [
      | inl at ↦ record {
        at = w.at;
        bytes = w.bytes;
        sent = at;
        under = w.under;
        before = At-below h w.at (Sent w.bytes) at;
        unanswered = λ j b there has after lt. w.unanswered j b (At-grow h (one e) j (Delivered b) there) has after (omega (arith, lt, length_last h e));
      }
      | inr new ↦ absurd (mute w.bytes new.1)
    ]

-- ---- at an entry that sends nothing

pub sent_plain : (o : Origin) (cred : Cred) (first next : ℕ) (h : List Entry) (e : Entry) → IsPlain e → SentSo o cred first next h → SentSo o cred first next (h ++ e ∷ [])
sent_plain o cred first next h e plain s = record {
  caused = λ i b at.
      elim (At-cases h e i (Sent b) at) [
        | inl a ↦ record_grow o cred first h (one e) i i b (omega arith) (s.caused i b a)
        | inr k ↦ absurd (plain.mute b k.1)
      ];
  among = λ i x b at has. elim (At-cases h e i (Sent b) at) [ inl a ↦ s.among i x b a has | inr k ↦ absurd (plain.mute b k.1) ];
  equal = λ i j x a b at bt p q.
      elim (At-cases h e i (Sent a) at) [
        | inl l ↦ elim (At-cases h e j (Sent b) bt) [ inl m ↦ s.equal i j x a b l m p q | inr k ↦ absurd (plain.mute b k.1) ]
        | inr k ↦ absurd (plain.mute a k.1)
      ];
  unrepeated = λ g i x reply b a at has.
      elim (At-cases h e i (Sent b) at) [
        | inl l ↦
            elim (At-cases h e g (Delivered reply) a.got) [
              | inl m ↦ s.unrepeated g i x reply b (Answers-back h (one e) g x reply (At-below h g (Delivered reply) m) a) l has
              | inr k ↦ let low = At-below h i (Sent b) l in omega (arith, low, k.0)
            ]
        | inr k ↦ absurd (plain.mute b k.1)
      ];
  few = λ x. let f = s.few x in omega (arith, f, times-append x h (one e), plain.count x);
}

pub unmarked_plain : (h : List Entry) (e : Entry) → IsPlain e → IsUnmarked h → IsUnmarked (h ++ e ∷ [])
unmarked_plain h e plain u = record {
  began = λ i lane line op at. elim (At-cases h e i (Began lane line op) at) [ inl a ↦ u.began i lane line op a | inr k ↦ plain.began lane line op k.1 ];
  answered = λ i lane line answer at. elim (At-cases h e i (Answered lane line answer) at) [ inl a ↦ u.answered i lane line answer a | inr k ↦ plain.answered lane line answer k.1 ];
  clock = λ i ms at. elim (At-cases h e i (Clock ms) at) [ inl a ↦ u.clock i ms a | inr k ↦ plain.clock ms k.1 ];
}

pub base_plain : (o : Origin) (c : Held (Unit {0})) (h : List Entry) (e : Entry) → IsPlain e → IsBase o c h → IsBase o c (h ++ e ∷ [])
base_plain o c h e plain b = record { sent = sent_plain o c.cred c.first_xid (next_xid c) h e plain b.sent; unmarked = unmarked_plain h e plain b.unmarked }

-- ---- at a record that is sent

times_more : (x y : ℕ) (h : List Entry) (r : List ℕ) → HasXid r x → y ≢ x → times_sent y (h ++ Sent r ∷ []) ≡ times_sent y h
times_more x y h r has differs = times-append y h (one (Sent r)) ∙ rw (has, ne_eqb x y (λ e. differs (sym e))) (omega arith)

pub times_again : (x : ℕ) (h : List Entry) (r : List ℕ) → HasXid r x → times_sent x (h ++ Sent r ∷ []) ≡ times_sent x h + 1
times_again x h r has = times-append x h (one (Sent r)) ∙ rw (has, eqb-same x) refl
  where
    eqb-same : (n : ℕ) → eqb n n ≡ true
    eqb-same n = elim (eqb n n) as (λ t. eqb n n ≡ t → eqb n n ≡ true) [ true ↦ λ e. e | false ↦ λ e. absurd (eqb-false n n e refl) ] refl

-- what is so of the record before it is sent
pub record MaySend (o : Origin) (x : ℕ) (r : List ℕ) (c : Held (Unit {0})) (h : List Entry) : Type 0 where
  pub base : IsBase o c h
  pub may : IsSetUpRecord o c.cred c.first_xid h (length h) r
  pub under : HasXid r x
  pub low : c.first_xid ≤ x
  pub high : x < next_xid c
  pub mine : (i : ℕ) (b : List ℕ) → At h i (Sent b) → HasXid b x → b ≡ r
  pub unanswered : (g : ℕ) (reply : List ℕ) → Answers h g x reply → ⊥
  pub few : times_sent x h < 4

pub base_sent : (o : Origin) (x : ℕ) (r : List ℕ) (c : Held (Unit {0})) (h : List Entry) → MaySend o x r c h → IsBase o c (h ++ Sent r ∷ [])
base_sent o x r c h m = record { sent = sent; unmarked = unmarked }
  where
    s : SentSo o c.cred c.first_xid (next_xid c) h
    s = m.base.sent

    few : (y : ℕ) → times_sent y (h ++ Sent r ∷ []) ≤ 4
    few y =
        elim (eqb y x) as (λ t. eqb y x ≡ t → times_sent y (h ++ Sent r ∷ []) ≤ 4) [
          | true ↦ λ e. let same = eqb-true y x e in let t = times_again x h r m.under in subst (λ (n : ℕ). times_sent n (h ++ Sent r ∷ []) ≤ 4) (sym same) (omega (arith, t, m.few))
          | false ↦ λ e. let t = times_more x y h r m.under (eqb-false y x e) in let f = s.few y in omega (arith, t, f)
        ] refl

    sent : SentSo o c.cred c.first_xid (next_xid c) (h ++ Sent r ∷ [])
    sent = record {
      caused = λ i b at.
          elim (At-cases h (Sent r) i (Sent b) at) [
            | inl a ↦ record_grow o c.cred c.first_xid h (one (Sent r)) i i b (omega arith) (s.caused i b a)
            | inr k ↦ subst (λ (t : List ℕ). IsSetUpRecord o c.cred c.first_xid (h ++ Sent r ∷ []) i t) (sent_is r b k.1) (record_grow o c.cred c.first_xid h (one (Sent r)) (length h) i r (omega (arith, k.0)) m.may)
          ];
      among = λ i y b at has.
          elim (At-cases h (Sent r) i (Sent b) at) [
            | inl a ↦ s.among i y b a has
            | inr k ↦
                let same : x ≡ y = one_number b x y (subst (λ (t : List ℕ). HasXid t x) (sent_is r b k.1) m.under) has in
                (omega (arith, m.low, same), omega (arith, m.high, same))
          ];
      equal = λ i j y a b at bt p q.
          elim (At-cases h (Sent r) i (Sent a) at) [
            | inl l ↦
                elim (At-cases h (Sent r) j (Sent b) bt) [
                  | inl n ↦ s.equal i j y a b l n p q
                  | inr k ↦
                      let is = sent_is r b k.1 in
                      let same : x ≡ y = one_number b x y (subst (λ (t : List ℕ). HasXid t x) is m.under) q in
                      m.mine i a l (subst (λ (n : ℕ). HasXid a n) (sym same) p) ∙ is
                ]
            | inr k ↦
                let is = sent_is r a k.1 in
                let same : x ≡ y = one_number a x y (subst (λ (t : List ℕ). HasXid t x) is m.under) p in
                elim (At-cases h (Sent r) j (Sent b) bt) [
                  | inl n ↦ sym is ∙ sym (m.mine j b n (subst (λ (z : ℕ). HasXid b z) (sym same) q))
                  | inr l ↦ sym is ∙ sent_is r b l.1
                ]
          ];
      unrepeated = λ g i y reply b a at has.
          elim (At-cases h (Sent r) g (Delivered reply) a.got) [
            | inl n ↦
                let before = Answers-back h (one (Sent r)) g y reply (At-below h g (Delivered reply) n) a in
                elim (At-cases h (Sent r) i (Sent b) at) [
                  | inl l ↦ s.unrepeated g i y reply b before l has
                  | inr k ↦
                      let same : x ≡ y = one_number b x y (subst (λ (t : List ℕ). HasXid t x) (sent_is r b k.1) m.under) has in
                      absurd (m.unanswered g reply (subst (λ (z : ℕ). Answers h g z reply) (sym same) before))
                ]
            | inr k ↦ absurd (sent_not_delivered r reply k.1)
          ];
      few = few;
    }
      where
        sent_not_delivered : (a b : List ℕ) → Sent a ≡ Delivered b → ⊥
        sent_not_delivered a b e = cc

    unmarked : IsUnmarked (h ++ Sent r ∷ [])
    unmarked = record {
      began = λ i lane line op at. elim (At-cases h (Sent r) i (Began lane line op) at) [ inl a ↦ m.base.unmarked.began i lane line op a | inr k ↦ cc ];
      answered = λ i lane line answer at. elim (At-cases h (Sent r) i (Answered lane line answer) at) [ inl a ↦ m.base.unmarked.answered i lane line answer a | inr k ↦ cc ];
      clock = λ i ms at. elim (At-cases h (Sent r) i (Clock ms) at) [ inl a ↦ m.base.unmarked.clock i ms a | inr k ↦ cc ];
    }

-- ---- as the waiting calls go on

pub base_keeps : (o : Origin) (c d : Held (Unit {0})) (h : List Entry) → KeepsCalls c d → IsBase o c h → IsBase o d h
base_keeps o c d h k b = record { sent = rw (k.cred, k.first_xid, k.made) b.sent; unmarked = b.unmarked }
