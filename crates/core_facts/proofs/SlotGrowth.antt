-- What a history shows of a slot, and what it shows when it goes on.
use Rattle.core_facts.proofs.Prelude.{◌≡◌, ◌<◌, ◌≤◌, ◌+◌, ◌⊎◌, inl, inr, ℕ, List, [], ◌∷◌, ◌++◌, length, Option, Some, None, refl, sym, subst, arith, cases_lt, Mode, Opened, Answer, Value, Entry, Began, Answered, Delivered, Call, Reply, Op, SpellsReply, Modes, Ended, At-grow, At-back, At-last, At-one, length_last}
use Rattle.world_model.specs.Operations.{LastReply}
use Rattle.nfs_dir_calls.specs.declared.call.DirCall.TheVariants as dirs
use Rattle.nfs_dir_calls.specs.declared.keeping.DirKept.TheVariants as found
use Rattle.nfs_file_calls.specs.declared.call.FileCall.TheVariants as files
use Rattle.world_model.specs.declared.answer.Answer.TheVariants.{Done}
use Rattle.world_model.specs.declared.message.Call.TheVariants as calls
use Rattle.world_model.specs.declared.message.Reply.TheVariants as replies
use Rattle.world_model.specs.declared.op.Op.TheVariants as ops
use Rattle.claims.specs.Slots.{Finds, asked, looked_up, made, InSlot}
use Rattle.core_facts.proofs.LastReplies.{last-grow, last-back, last-stays}
use Rattle.core_facts.proofs.Stories.{ended-grow}

-- ---- answers

pub ended-back : (h : List Entry) (e : Entry) (lane x : ℕ) (op : Op) (y : ℕ) (answer : Answer) → y < length h → Ended (h ++ e ∷ []) lane x op y answer → Ended h lane x op y answer
ended-back h e lane x op y answer within d = record {
  line = d.line;
  began = let early = d.later in At-back h (e ∷ []) x (Began lane d.line op) d.began (omega (arith, early, within));
  answered = At-back h (e ∷ []) y (Answered lane d.line answer) d.answered within;
  later = d.later;
  first = λ j a there after. d.first j a (At-grow h (e ∷ []) j (Answered lane d.line a) there) after;
}

-- the answer that is noted now
pub ended-now : (h : List Entry) (e : Entry) (lane x : ℕ) (op : Op) (answer : Answer) (d : Ended (h ++ e ∷ []) lane x op (length h) answer) → e ≡ Answered lane d.line answer
ended-now h e lane x op answer d = At-one (h ++ e ∷ []) (length h) e (Answered lane d.line answer) (At-last h e) d.answered

-- ---- what an open finds

-- the same record under the same xid
spells-by : (x y : ℕ) (a b : List ℕ) (call : Call) (reply : Reply) → (x ≡ y) × (a ≡ b) → SpellsReply y call reply b → SpellsReply x call reply a
spells-by x y a b call reply same s = subst (λ (n : ℕ). SpellsReply n call reply a) (sym same.0) (subst (λ (k : List ℕ). SpellsReply y call reply k) (sym same.1) s)

-- the last reply, seen from another place or history
pub finds-by : (m : Modes) (h : List Entry) (y : ℕ) (g : List Entry) (z : ℕ) (f : List ℕ) (k : (call : Call) → LastReply h y call → LastReply g z call)
    → ((call : Call) (l : LastReply h y call) → ((k call l).xid ≡ l.xid) × ((k call l).bytes ≡ l.bytes)) → Finds m h y f → Finds m g z f
finds-by m h y g z f k same (asked last) = asked (k (calls.File (files.GetAttr f)) last)
finds-by m h y g z f k same (looked_up nocto d name attr dir last spells) =
    let call : Call = calls.Dir (dirs.Lookup d name) in
    looked_up nocto d name attr dir (k call last) (spells-by (k call last).xid last.xid (k call last).bytes last.bytes call (replies.Dir (found.Lookup f attr dir)) (same call last) spells)
finds-by m h y g z f k same (made nocto d name making attr wcc last spells) =
    let call : Call = calls.Dir (dirs.Create d name making) in
    made nocto d name making attr wcc (k call last)
    (spells-by (k call last).xid last.xid (k call last).bytes last.bytes call (replies.Dir (found.Create (Some f) attr wcc)) (same call last) spells)

pub finds-grow : (m : Modes) (h : List Entry) (e : Entry) (y : ℕ) (f : List ℕ) → y ≤ length h → Finds m h y f → Finds m (h ++ e ∷ []) y f
finds-grow m h e y f within = finds-by m h y (h ++ e ∷ []) y f (λ call l. last-grow h e y call within l) (λ call l. (refl, refl))

finds-back : (m : Modes) (h : List Entry) (e : Entry) (y : ℕ) (f : List ℕ) → y ≤ length h → Finds m (h ++ e ∷ []) y f → Finds m h y f
finds-back m h e y f within = finds-by m (h ++ e ∷ []) y h y f (λ call l. last-back h e y call within l) (λ call l. (refl, refl))

pub finds-stays : (m : Modes) (h : List Entry) (e : Entry) (f : List ℕ) → ((bytes : List ℕ) → e ≡ Delivered bytes → ⊥) → Finds m h (length h) f
    → Finds m (h ++ e ∷ []) (length (h ++ e ∷ [])) f
finds-stays m h e f other = finds-by m h (length h) (h ++ e ∷ []) (length (h ++ e ∷ [])) f (λ call l. last-stays h e call other l) (λ call l. (refl, refl))

-- ---- an open of a slot

-- Before the place n the slot holds an open of this file, in this mode.
pub record IsHeld (m : Modes) (h : List Entry) (n lane slot : ℕ) (f : List ℕ) (mode : Mode) : Type 0 where
  pub x : ℕ
  pub holds : InSlot m h n lane slot x f
  pub mode_is : holds.opens.mode ≡ mode

-- an open of the slot is answered at the place n
pub record IsOpened (m : Modes) (h : List Entry) (n lane slot : ℕ) (f : List ℕ) (mode : Mode) : Type 0 where
  pub x : ℕ
  pub path : List (List ℕ)
  pub value : Value
  pub ended : Ended h lane x (ops.OpenFile slot mode path) n (Done value)
  pub finds : Finds m h n f

module _ (m : Modes) (h : List Entry) (e : Entry) (lane slot : ℕ) (f : List ℕ) (mode : Mode) where
  pub held-grow : (n : ℕ) → n ≤ length h → IsHeld m h n lane slot f mode → IsHeld m (h ++ e ∷ []) n lane slot f mode
  held-grow n within i =
      let low = i.holds.before in
      record {
        x = i.x;
        holds = record {
          y = i.holds.y;
          opens = record {
            mode = i.holds.opens.mode;
            path = i.holds.opens.path;
            value = i.holds.opens.value;
            ended = ended-grow h e lane i.x (ops.OpenFile slot i.holds.opens.mode i.holds.opens.path) i.holds.y (Done i.holds.opens.value) i.holds.opens.ended;
            finds = finds-grow m h e i.holds.y f (omega (arith, low, within)) i.holds.opens.finds;
          };
          before = i.holds.before;
          kept = λ c k answer d after lt. i.holds.kept c k answer (ended-back h e lane c (ops.Close slot) k answer (omega (arith, lt, within)) d) after lt;
        };
        mode_is = i.mode_is;
      }

  pub held-back : (n : ℕ) → n ≤ length h → IsHeld m (h ++ e ∷ []) n lane slot f mode → IsHeld m h n lane slot f mode
  held-back n within i =
      let low = i.holds.before in
      record {
        x = i.x;
        holds = record {
          y = i.holds.y;
          opens = record {
            mode = i.holds.opens.mode;
            path = i.holds.opens.path;
            value = i.holds.opens.value;
            ended = ended-back h e lane i.x (ops.OpenFile slot i.holds.opens.mode i.holds.opens.path) i.holds.y (Done i.holds.opens.value) (omega (arith, low, within)) i.holds.opens.ended;
            finds = finds-back m h e i.holds.y f (omega (arith, low, within)) i.holds.opens.finds;
          };
          before = i.holds.before;
          kept = λ c k answer d after lt. i.holds.kept c k answer (ended-grow h e lane c (ops.Close slot) k answer d) after lt;
        };
        mode_is = i.mode_is;
      }

module _ (m : Modes) (h : List Entry) (lane slot : ℕ) (f : List ℕ) (mode : Mode) where
  -- one place later, where no close of the slot is answered there
  held-wide : (n : ℕ) → ((c : ℕ) (answer : Answer) → Ended h lane c (ops.Close slot) n answer → ⊥) → IsHeld m h n lane slot f mode → IsHeld m h (n + 1) lane slot f mode
  held-wide n none i = record {
    x = i.x;
    holds = record {
      y = i.holds.y;
      opens = i.holds.opens;
      before = let low = i.holds.before in omega (arith, low);
      kept = λ c k answer d after lt. elim (cases_lt k n) [
        | inl low ↦ i.holds.kept c k answer d after low
        | inr high ↦ none c answer (subst (λ (z : ℕ). Ended h lane c (ops.Close slot) z answer) (omega (arith, lt, high)) d)
      ];
    };
    mode_is = i.mode_is;
  }

  -- one place before, or it is answered there
  held-before : (n : ℕ) → IsHeld m h (n + 1) lane slot f mode → IsHeld m h n lane slot f mode ⊎ IsOpened m h n lane slot f mode
  held-before n i = by (cases_lt i.holds.y n)
    where
      by : (i.holds.y < n) ⊎ (n ≤ i.holds.y) → IsHeld m h n lane slot f mode ⊎ IsOpened m h n lane slot f mode
      by (inl low) = inl (record {
        x = i.x;
        holds = record { y = i.holds.y; opens = i.holds.opens; before = low; kept = λ c k answer d after lt. i.holds.kept c k answer d after (omega (arith, lt)) };
        mode_is = i.mode_is;
      })
      by (inr high) =
          let last = i.holds.before in
          let at : i.holds.y ≡ n = omega (arith, high, last) in
          inr (record {
            x = i.x;
            path = i.holds.opens.path;
            value = i.holds.opens.value;
            ended = subst (λ (k : Mode). Ended h lane i.x (ops.OpenFile slot k i.holds.opens.path) n (Done i.holds.opens.value)) i.mode_is
                (subst (λ (z : ℕ). Ended h lane i.x (ops.OpenFile slot i.holds.opens.mode i.holds.opens.path) z (Done i.holds.opens.value)) at i.holds.opens.ended);
            finds = subst (λ (z : ℕ). Finds m h z f) at i.holds.opens.finds;
          })

module _ (m : Modes) (h : List Entry) (e : Entry) (lane slot : ℕ) (f : List ℕ) (mode : Mode) where
  -- with one entry more
  pub held-later : ((c : ℕ) (answer : Answer) → Ended (h ++ e ∷ []) lane c (ops.Close slot) (length h) answer → ⊥) → IsHeld m h (length h) lane slot f mode
      → IsHeld m (h ++ e ∷ []) (length (h ++ e ∷ [])) lane slot f mode
  held-later none i =
      subst (λ (n : ℕ). IsHeld m (h ++ e ∷ []) n lane slot f mode) (sym (length_last h e))
      (held-wide m (h ++ e ∷ []) lane slot f mode (length h) none (held-grow m h e lane slot f mode (length h) (omega arith) i))

  -- and with one less
  pub held-earlier : IsHeld m (h ++ e ∷ []) (length (h ++ e ∷ [])) lane slot f mode → IsHeld m h (length h) lane slot f mode ⊎ IsOpened m (h ++ e ∷ []) (length h) lane slot f mode
  held-earlier i = elim (held-before m (h ++ e ∷ []) lane slot f mode (length h) (subst (λ (n : ℕ). IsHeld m (h ++ e ∷ []) n lane slot f mode) (length_last h e) i)) [
    | inl was ↦ inl (held-back m h e lane slot f mode (length h) (omega arith) was)
    | inr now ↦ inr now
  ]

  -- an open that is answered now
  pub held-now : IsOpened m (h ++ e ∷ []) (length h) lane slot f mode → IsHeld m (h ++ e ∷ []) (length (h ++ e ∷ [])) lane slot f mode
  held-now o = record {
    x = o.x;
    holds = record {
      y = length h;
      opens = record { mode = mode; path = o.path; value = o.value; ended = o.ended; finds = o.finds };
      before = let more = length_last h e in omega (arith, more);
      kept = λ c k answer d after lt. let more = length_last h e in absurd (omega (arith, more, after, lt));
    };
    mode_is = refl;
  }

-- ---- what is known of a slot

-- The table says of the slot what the history shows: which open it holds, in the one mode, or that it holds none.
pub record IsShown (m : Modes) (h : List Entry) (lane slot : ℕ) (o : Opened) : Type 0 where
  pub held : IsHeld m h (length h) lane slot o.file o.mode
  pub only : (f : List ℕ) (mode : Mode) → IsHeld m h (length h) lane slot f mode → mode ≡ o.mode

abbrev pub Agrees : Modes → List Entry → ℕ → ℕ → Option Opened → Type 0
Agrees m h lane slot (Some o) = IsShown m h lane slot o
Agrees m h lane slot None = (f : List ℕ) (mode : Mode) → IsHeld m h (length h) lane slot f mode → ⊥

-- no answer of an open of the slot that went well is noted now, and none of a close
pub record IsUntold (h : List Entry) (e : Entry) (lane slot : ℕ) : Type 0 where
  pub opened : (x : ℕ) (mode : Mode) (path : List (List ℕ)) (value : Value) → Ended (h ++ e ∷ []) lane x (ops.OpenFile slot mode path) (length h) (Done value) → ⊥
  pub closed : (c : ℕ) (answer : Answer) → Ended (h ++ e ∷ []) lane c (ops.Close slot) (length h) answer → ⊥

-- an entry that is no answer of the lane tells nothing of its slots
pub tells-nothing : (h : List Entry) (e : Entry) (lane slot : ℕ) → ((line : ℕ) (answer : Answer) → e ≡ Answered lane line answer → ⊥) → IsUntold h e lane slot
tells-nothing h e lane slot other = record {
  opened = λ x mode path value d. other d.line (Done value) (ended-now h e lane x (ops.OpenFile slot mode path) (Done value) d);
  closed = λ c answer d. other d.line answer (ended-now h e lane c (ops.Close slot) answer d);
}

-- a close of the slot is answered now, so what it holds was opened now
pub held-closed : (m : Modes) (h : List Entry) (e : Entry) (lane slot : ℕ) (f : List ℕ) (mode : Mode) (c : ℕ) (answer : Answer) → Ended (h ++ e ∷ []) lane c (ops.Close slot) (length h) answer
    → IsHeld m (h ++ e ∷ []) (length (h ++ e ∷ [])) lane slot f mode → IsOpened m (h ++ e ∷ []) (length h) lane slot f mode
held-closed m h e lane slot f mode c answer closed i = by (cases_lt i.holds.y (length h)) (held-before m (h ++ e ∷ []) lane slot f mode (length h) at)
  where
    at : IsHeld m (h ++ e ∷ []) (length h + 1) lane slot f mode
    at = subst (λ (n : ℕ). IsHeld m (h ++ e ∷ []) n lane slot f mode) (length_last h e) i

    by : (i.holds.y < length h) ⊎ (length h ≤ i.holds.y) → IsHeld m (h ++ e ∷ []) (length h) lane slot f mode ⊎ IsOpened m (h ++ e ∷ []) (length h) lane slot f mode
        → IsOpened m (h ++ e ∷ []) (length h) lane slot f mode
    by (inl low) was = absurd (i.holds.kept c (length h) answer closed low (let more = length_last h e in omega (arith, more)))
    by (inr high) (inr now) = now
    by (inr high) (inl was) = opened-at high
      where
        opened-at : length h ≤ i.holds.y → IsOpened m (h ++ e ∷ []) (length h) lane slot f mode
        opened-at past =
            let last = i.holds.before in
            let more = length_last h e in
            let y : i.holds.y ≡ length h = omega (arith, past, last, more) in
            record {
              x = i.x;
              path = i.holds.opens.path;
              value = i.holds.opens.value;
              ended = subst (λ (k : Mode). Ended (h ++ e ∷ []) lane i.x (ops.OpenFile slot k i.holds.opens.path) (length h) (Done i.holds.opens.value)) i.mode_is
                  (subst (λ (z : ℕ). Ended (h ++ e ∷ []) lane i.x (ops.OpenFile slot i.holds.opens.mode i.holds.opens.path) z (Done i.holds.opens.value)) y i.holds.opens.ended);
              finds = subst (λ (z : ℕ). Finds m (h ++ e ∷ []) z f) y i.holds.opens.finds;
            }

pub shown-later : (m : Modes) (h : List Entry) (e : Entry) (lane slot : ℕ) (o : Opened) → IsUntold h e lane slot → IsShown m h lane slot o → IsShown m (h ++ e ∷ []) lane slot o
shown-later m h e lane slot o u a = record {
  held = held-later m h e lane slot o.file o.mode u.closed a.held;
  only = λ f mode i. elim (held-earlier m h e lane slot f mode i) [
    | inl was ↦ a.only f mode was
    | inr now ↦ absurd (u.opened now.x mode now.path now.value now.ended)
  ];
}

pub none-later : (m : Modes) (h : List Entry) (e : Entry) (lane slot : ℕ)
    → ((x : ℕ) (mode : Mode) (path : List (List ℕ)) (value : Value) → Ended (h ++ e ∷ []) lane x (ops.OpenFile slot mode path) (length h) (Done value) → ⊥)
    → Agrees m h lane slot None → Agrees m (h ++ e ∷ []) lane slot None
none-later m h e lane slot none a = λ f mode i. elim (held-earlier m h e lane slot f mode i) [
  | inl was ↦ a f mode was
  | inr now ↦ none now.x mode now.path now.value now.ended
]

pub agrees-later : (m : Modes) (h : List Entry) (e : Entry) (lane slot : ℕ) (o : Option Opened) → IsUntold h e lane slot → Agrees m h lane slot o → Agrees m (h ++ e ∷ []) lane slot o
agrees-later m h e lane slot (Some o) u a = shown-later m h e lane slot o u a
agrees-later m h e lane slot None u a = none-later m h e lane slot u.opened a
