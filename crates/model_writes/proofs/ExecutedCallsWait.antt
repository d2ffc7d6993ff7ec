-- Numbers are fresh; what was sent waits, was answered, or is a set-up's; what is executed waits, or is a set-up's.
use Rattle.std.proofs.Common.{inl, inr, ◌⊎◌, ◌≡◌, ◌<◌, ℕ, List, [], ◌∷◌, ◌++◌, length, Option, Some, sym, ◌∙◌, arith}
use Rattle.model_writes.specs.Story.{Call, plain, Reply, denied, Entry, Sent, Executed, Delivered, At, Told, Begins}
use Rattle.model_writes.specs.Lawful.{Lawful, Once}
use Rattle.model_writes.specs.Machine.{View, Move}
use Rattle.model_writes.specs.Reaches.{Reaches, begins, enters, moves}
use Rattle.model_writes.proofs.AtLemmas.{At-cases, At-grow, At-last, At-below, At-told, At-past, before_begins, same_or_not}
use Rattle.model_writes.proofs.CallSteps.{Turn, stays, closes, renews, turn, made}

pub record Numbered (h : List Entry) (c : View) : Type 0 where
  pub sents : (i x : ℕ) (call : Call) → At h i (Sent x call) → x < c.next_xid
  pub waits : (x : ℕ) (call : Call) → c.wait x ≡ Some call → x < c.next_xid

abbrev some : Call → Option Call
some call = Some call

pub some_call : (k l : Call) → some k ≡ some l → k ≡ l
some_call k l e = cc

pub sent_number : (x y : ℕ) (k l : Call) → Sent x k ≡ Sent y l → x ≡ y
sent_number x y k l e = cc

sent_call : (x y : ℕ) (k l : Call) → Sent x k ≡ Sent y l → k ≡ l
sent_call x y k l e = cc

numbered_step : (before : List Entry) (b c : View) (e : Entry) → Turn b e c → Numbered before b → Numbered (before ++ e ∷ []) c
numbered_step before _ _ _ (stays b e c t) f = record {
  sents = λ i x call at. let n = t.calls.next in elim (At-cases before e i (Sent x call) at) [
    | inl a ↦ let l = f.sents i x call a in omega (arith, l, n)
    | inr k ↦ let l = f.waits x call (t.sent x call k.1) in omega (arith, l, n)
  ];
  waits = λ x call w. let n = t.calls.next in let l = f.waits x call (sym (t.calls.wait x) ∙ w) in omega (arith, l, n);
}
numbered_step before _ _ _ (closes b e c y r t) f = record {
  sents = λ i x call at. let n = t.next in elim (At-cases before e i (Sent x call) at) [
    | inl a ↦ let l = f.sents i x call a in omega (arith, l, n)
    | inr m ↦ absurd (cc (t.is, m.1))
  ];
  waits = λ x call w. let n = t.next in elim (same_or_not x y) [
    | inl same ↦ absurd (cc (t.gone, w, same))
    | inr other ↦ let l = f.waits x call (sym (t.others x other) ∙ w) in omega (arith, l, n)
  ];
}
numbered_step before _ _ _ (renews b e c y r is t) f = record {
  sents = λ i x call at. let n = t.next in elim (At-cases before e i (Sent x call) at) [
    | inl a ↦ let l = f.sents i x call a in omega (arith, l, n)
    | inr m ↦ absurd (cc (is, m.1))
  ];
  waits = λ x call w. let n = t.next in let u = t.numbered in elim (same_or_not x y) [
    | inl same ↦ absurd (cc (t.gone, w, same))
    | inr ne ↦ elim (same_or_not x t.y) [
      | inl new ↦ omega (arith, n, u, new)
      | inr nf ↦ let l = f.waits x call (sym (t.others x ne nf) ∙ w) in omega (arith, l, n)
    ]
  ];
}

numbered_move : (h : List Entry) (b c : View) → Move b c → Numbered h b → Numbered h c
numbered_move h b c m f = elim (made b c m) [
  | inl s ↦ let n = s.next in record { sents = λ i x call at. let l = f.sents i x call at in omega (arith, l, n); waits = λ x call w. let l = f.waits x call (sym (s.wait x) ∙ w) in omega (arith, l, n) }
  | inr k ↦ let n = k.2.next in let u = k.2.numbered in record {
    sents = λ i x call at. let l = f.sents i x call at in omega (arith, l, n);
    waits = λ x call w. elim (same_or_not x k.0) [
      | inl same ↦ omega (arith, same, n, u)
      | inr ne ↦ let l = f.waits x call (sym (k.2.others x ne) ∙ w) in omega (arith, l, n)
    ];
  }
]

pub numbered_fact : (h : List Entry) (c : View) → Reaches h c → Numbered h c
numbered_fact _ _ (begins h c e i) = record { sents = λ j x call at. (e.sent j x call at).0; waits = λ x call w. absurd (cc (i.wait x, w)) }
numbered_fact _ _ (enters h c before b e r g t) = rw g (numbered_step before b c e (turn (length before) b c e t) (numbered_fact before b r))
numbered_fact _ _ (moves h c b r m) = numbered_move h b c m (numbered_fact h b r)

pub record HasReply (h : List Entry) (x : ℕ) : Type 0 where
  pub at : ℕ
  pub reply : Reply
  pub got : At h at (Delivered x reply)

grow : (h : List Entry) (e : Entry) (x : ℕ) → HasReply h x → HasReply (h ++ e ∷ []) x
grow h e x r = record { at = r.at; reply = r.reply; got = At-grow h (e ∷ []) r.at (Delivered x r.reply) r.got }

-- the call is none of bytes, files or sizes
abbrev pub IsPlain : Call → Type 0
IsPlain call = (what : ℕ) × (call ≡ plain what)

abbrev pub Waits : List Entry → View → Type 0
Waits h c = (i x : ℕ) (call : Call) → At h i (Sent x call) → HasReply h x ⊎ ((c.wait x ≡ Some call) ⊎ IsPlain call)

waits_step : (before : List Entry) (b c : View) (e : Entry) → Reaches before b → Turn b e c → Waits before b → Waits (before ++ e ∷ []) c
waits_step before _ _ _ reached (stays b e c t) f i x call at = elim (At-cases before e i (Sent x call) at) [
  | inl a ↦ elim (f i x call a) [
    | inl r ↦ inl (grow before e x r)
    | inr o ↦ elim o [ inl w ↦ inr (inl (t.calls.wait x ∙ w)) | inr p ↦ inr (inr p) ]
  ]
  | inr k ↦ inr (inl (t.calls.wait x ∙ t.sent x call k.1))
]
waits_step before _ _ _ reached (closes b e c y r t) f i x call at = elim (At-cases before e i (Sent x call) at) [
  | inl a ↦ elim (f i x call a) [
    | inl q ↦ inl (grow before e x q)
    | inr o ↦ elim o [
      | inr p ↦ inr (inr p)
      | inl w ↦ elim (same_or_not x y) [
        | inl same ↦ inl (record { at = length before; reply = r; got = rw (same, t.is) (At-last before (Delivered y r)) })
        | inr other ↦ inr (inl (t.others x other ∙ w))
      ]
    ]
  ]
  | inr m ↦ absurd (cc (t.is, m.1))
]
waits_step before _ _ _ reached (renews b e c y r is t) f i x call at = elim (At-cases before e i (Sent x call) at) [
  | inl a ↦ elim (f i x call a) [
    | inl q ↦ inl (grow before e x q)
    | inr o ↦ elim o [
      | inr p ↦ inr (inr p)
      | inl w ↦ elim (same_or_not x y) [
        | inl same ↦ inl (record { at = length before; reply = r; got = rw (same, is) (At-last before (Delivered y r)) })
        | inr ne ↦ let l = (numbered_fact before b reached).waits x call w in let u = t.numbered in inr (inl (t.others x ne (λ same. absurd (omega (arith, l, u, same))) ∙ w))
      ]
    ]
  ]
  | inr m ↦ absurd (cc (is, m.1))
]

waits_move : (h : List Entry) (b c : View) → Reaches h b → Move b c → Waits h b → Waits h c
waits_move h b c reached m f i x call at = elim (f i x call at) [
  | inl q ↦ inl q
  | inr o ↦ elim o [
    | inr p ↦ inr (inr p)
    | inl w ↦ elim (made b c m) [
      | inl s ↦ inr (inl (s.wait x ∙ w))
      | inr k ↦ let l = (numbered_fact h b reached).waits x call w in let u = k.2.numbered in inr (inl (k.2.others x (λ same. absurd (omega (arith, l, u, same))) ∙ w))
    ]
  ]
]

pub waits_fact : (h : List Entry) (c : View) → Reaches h c → Waits h c
waits_fact _ _ (begins h c e i) = λ j x call at. let o = e.sent j x call at in inr (inr (o.1, o.2))
waits_fact _ _ (enters h c before b e r g t) = rw g (waits_step before b c e r (turn (length before) b c e t) (waits_fact before b r))
waits_fact _ _ (moves h c b r m) = waits_move h b c r m (waits_fact h b r)

-- the call that waits under an xid is the one that was sent under it
abbrev pub Agree : List Entry → View → Type 0
Agree h c = (i x : ℕ) (k call : Call) → At h i (Sent x k) → c.wait x ≡ Some call → k ≡ call

agree_step : (before : List Entry) (b c : View) (e : Entry) → Reaches before b → Turn b e c → Agree before b → Agree (before ++ e ∷ []) c
agree_step before _ _ _ reached (stays b e c t) f i x k call at w = elim (At-cases before e i (Sent x k) at) [
  | inl a ↦ f i x k call a (sym (t.calls.wait x) ∙ w)
  | inr m ↦ some_call k call (sym (t.sent x k m.1) ∙ sym (t.calls.wait x) ∙ w)
]
agree_step before _ _ _ reached (closes b e c y r t) f i x k call at w = elim (At-cases before e i (Sent x k) at) [
  | inl a ↦ elim (same_or_not x y) [ inl same ↦ absurd (cc (t.gone, w, same)) | inr other ↦ f i x k call a (sym (t.others x other) ∙ w) ]
  | inr m ↦ absurd (cc (t.is, m.1))
]
agree_step before _ _ _ reached (renews b e c y r is t) f i x k call at w = elim (At-cases before e i (Sent x k) at) [
  | inl a ↦ elim (same_or_not x y) [
    | inl same ↦ absurd (cc (t.gone, w, same))
    | inr ne ↦
        let l = (numbered_fact before b reached).sents i x k a in
        let u = t.numbered in
        f i x k call a (sym (t.others x ne (λ same. absurd (omega (arith, l, u, same)))) ∙ w)
  ]
  | inr m ↦ absurd (cc (is, m.1))
]

agree_move : (h : List Entry) (b c : View) → Reaches h b → Move b c → Agree h b → Agree h c
agree_move h b c reached m f i x k call at w = elim (made b c m) [
  | inl s ↦ f i x k call at (sym (s.wait x) ∙ w)
  | inr z ↦
      let l = (numbered_fact h b reached).sents i x k at in
      let u = z.2.numbered in
      f i x k call at (sym (z.2.others x (λ same. absurd (omega (arith, l, u, same)))) ∙ w)
]

pub agree_fact : (h : List Entry) (c : View) → Reaches h c → Agree h c
agree_fact _ _ (begins h c e i) = λ j x k call at w. absurd (cc (i.wait x, w))
agree_fact _ _ (enters h c before b e r g t) = rw g (agree_step before b c e r (turn (length before) b c e t) (agree_fact before b r))
agree_fact _ _ (moves h c b r m) = agree_move h b c r m (agree_fact h b r)

-- what was executed was sent
pub executed_below : (t : Told) → Lawful t → (h : List Entry) (c : View) → Begins t h → Reaches h c → (n x : ℕ) (call : Call) (r : Reply) → At h n (Executed x call r) → x < c.next_xid
executed_below t lawful h c begun reached n x call r at =
    let s = lawful.step n (Executed x call r) (At-told t h n (Executed x call r) begun at) in
    let below = At-below h n (Executed x call r) at in
    (numbered_fact h c reached).sents s.sent_at x call (At-past t h s.sent_at (Sent x call) begun (let e = s.earlier in omega (arith, below, e)) s.sent)

-- A call is executed while it waits, and as it was sent; one of the set-up at any time.
pub executed_waits : (t : Told) → Lawful t → Once t → (before : List Entry) (b : View) → Begins t before → Reaches before b → (x : ℕ) (call : Call) (r : Reply) → At t.entries (length before) (Executed x call r)
    → (b.wait x ≡ Some call) ⊎ IsPlain call
executed_waits t lawful once before b begun reached x call r at =
    let s = lawful.step (length before) (Executed x call r) at in
    elim (waits_fact before b reached s.sent_at x call (At-past t before s.sent_at (Sent x call) begun s.earlier s.sent)) [
      | inl d ↦
          let low = At-below before d.at (Delivered x d.reply) d.got in
          let high = once d.at (length before) x call d.reply r (At-told t before d.at (Delivered x d.reply) begun d.got) at in
          absurd (omega (arith, low, high))
      | inr w ↦ w
    ]

pub record Replied (h : List Entry) (x : ℕ) (call : Call) (r : Reply) : Type 0 where
  pub at : ℕ
  pub done : At h at (Executed x call r)

pub reply_is : (t : Told) → Lawful t → (before : List Entry) (b : View) → Begins t before → Reaches before b → (x : ℕ) (call : Call) (r : Reply) → At t.entries (length before) (Delivered x r) → b.wait x ≡ Some call → Replied before x call r ⊎ (r ≡ denied)
reply_is t lawful before b begun reached x call r at w =
    let d = lawful.step (length before) (Delivered x r) at in
    elim d.shown [
      | inr no_ ↦ inr no_
      | inl k ↦
          let same = agree_fact before b reached d.sent_at x d.call call (At-past t before d.sent_at (Sent x d.call) begun d.earlier d.sent) w in
          inl (record { at = k.0; done = rw same at (At-past t before k.0 (Executed x d.call r) begun k.1 k.2) })
    ]
