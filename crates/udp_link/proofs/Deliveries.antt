-- What is delivered is what came from the port dialed last.
use Rattle.std.proofs.Common.{◌≡◌, ◌≤◌, ◌+◌, ◌-◌, ℕ, true, false, Bool, List, [], ◌∷◌, ◌++◌, length, take, drop, Option, None, if◌then◌else◌, refl, sym, ap, subst, ◌∙◌, append_assoc, arith}
use Rattle.std.proofs.lemmas.List.{append-nil, length-append, length-drop, drop-append-le, take-append-le}
use Rattle.world_model.specs.declared.entry.Entry.{Entry}
use Rattle.world_model.specs.declared.entry.Entry.TheVariants as entries
use Rattle.world_model.specs.declared.entry.Mark.{Mark}
use Rattle.world_model.specs.declared.entry.Mark.TheVariants as marks
use Rattle.world_model.specs.Entries.{ours}
use Rattle.world_model.specs.History.{History}
use Rattle.world_model.proofs.Histories.{ours-append}
use Rattle.outside.specs.declared.datagrams.DatagramEntry.{DatagramEntry}
use Rattle.outside.specs.declared.datagrams.DatagramEntry.TheVariants.{Aimed, Sent, Came, Noted, Missed}
use Rattle.outside.specs.Link.{entry_of}
use Rattle.outside.specs.Wire.{Step, entries_in}
use Rattle.outside.specs.Reading.{adds, goes_on, follows}
use Rattle.outside.specs.Datagrams.{DatagramCall, DatagramsTold, AddsDatagram, Heard, is_aimed, shown, hear_call}
use Rattle.outside.specs.declared.places.DatagramAdds.{DatagramAdds}
use Rattle.outside.specs.declared.places.DatagramAdds.TheVariants as added
use Rattle.udp_link.specs.Placing.{places, replays, latest, earlier, after_calls, begun, heard_by, aims, aims_all, brought, brought_by, delivered_of, delivered, Placed}

-- ---- one call more

replays_last : (ks : List DatagramAdds) (cs : List DatagramCall) (a : DatagramAdds) (c : DatagramCall) (h : Heard) → length ks ≡ length cs → replays (ks ++ a ∷ []) (cs ++ c ∷ []) h ≡ places a (hear_call c (replays ks cs h))
replays_last [] [] a c h e = refl
replays_last [] (x ∷ cs) a c h e = absurd (omega (arith, e))
replays_last (k ∷ ks) [] a c h e = absurd (omega (arith, e))
replays_last (k ∷ ks) (x ∷ cs) a c h e = replays_last ks cs a c (places k (hear_call x h)) (omega (arith, e))

latest_more : (n : ℕ) (calls : List DatagramCall) (c : DatagramCall) → n ≤ length calls → latest (n + 1) (calls ++ c ∷ []) ≡ latest n calls ++ c ∷ []
latest_more n calls c le =
    let k : length (calls ++ c ∷ []) - (n + 1) ≡ length calls - n = omega (arith, length-append calls (c ∷ []), le) in
    ap (λ (i : ℕ). drop i (calls ++ c ∷ [])) k ∙ drop-append-le (length calls - n) calls (c ∷ []) (omega arith)

earlier_more : (n : ℕ) (calls : List DatagramCall) (c : DatagramCall) → n ≤ length calls → earlier (n + 1) (calls ++ c ∷ []) ≡ earlier n calls
earlier_more n calls c le =
    let k : length (calls ++ c ∷ []) - (n + 1) ≡ length calls - n = omega (arith, length-append calls (c ∷ []), le) in
    ap (λ (i : ℕ). take i (calls ++ c ∷ [])) k ∙ take-append-le (length calls - n) calls (c ∷ []) (omega arith)

latest_long : (n : ℕ) (calls : List DatagramCall) → n ≤ length calls → n ≡ length (latest n calls)
latest_long n calls le = omega (arith, length-drop (length calls - n) calls, le)

abbrev with_call : DatagramsTold → DatagramCall → DatagramsTold
with_call t c = record { start = t.start; calls = t.calls ++ c ∷ [] }

one_longer : (ks : List DatagramAdds) (a : DatagramAdds) → length (ks ++ a ∷ []) ≡ length ks + 1
one_longer ks a = omega (arith, length-append ks (a ∷ []))

latest_with : (t : DatagramsTold) (ks : List DatagramAdds) (a : DatagramAdds) (c : DatagramCall) → length ks ≤ length t.calls → latest (length (ks ++ a ∷ [])) (t.calls ++ c ∷ []) ≡ latest (length ks) t.calls ++ c ∷ []
latest_with t ks a c le = ap (λ (n : ℕ). latest n (t.calls ++ c ∷ [])) (one_longer ks a) ∙ latest_more (length ks) t.calls c le

earlier_with : (t : DatagramsTold) (ks : List DatagramAdds) (a : DatagramAdds) (c : DatagramCall) → length ks ≤ length t.calls → earlier (length (ks ++ a ∷ [])) (t.calls ++ c ∷ []) ≡ earlier (length ks) t.calls
earlier_with t ks a c le = ap (λ (n : ℕ). earlier n (t.calls ++ c ∷ [])) (one_longer ks a) ∙ earlier_more (length ks) t.calls c le

abbrev replays_from : List DatagramAdds → DatagramsTold → List DatagramCall → List DatagramCall → Heard
replays_from ks t late early = replays ks late (begun (after_calls t.start early))

-- where a history stands after one more call
pub heard_more : (t : DatagramsTold) (ks : List DatagramAdds) (a : DatagramAdds) (c : DatagramCall) → length ks ≤ length t.calls → heard_by (with_call t c) (ks ++ a ∷ []) ≡ places a (hear_call c (heard_by t ks))
heard_more t ks a c le =
    ap (λ (late : List DatagramCall). replays_from (ks ++ a ∷ []) t late (earlier (length (ks ++ a ∷ [])) (t.calls ++ c ∷ []))) (latest_with t ks a c le)
    ∙ ap (λ (early : List DatagramCall). replays_from (ks ++ a ∷ []) t (latest (length ks) t.calls ++ c ∷ []) early) (earlier_with t ks a c le)
    ∙ replays_last ks (latest (length ks) t.calls) a c (begun (after_calls t.start (earlier (length ks) t.calls))) (latest_long (length ks) t.calls le)

-- ---- the port

aims_last : (cs : List DatagramCall) (c : DatagramCall) (p : Option ℕ) → aims_all (cs ++ c ∷ []) p ≡ aims c.did (aims_all cs p)
aims_last [] c p = refl
aims_last (x ∷ cs) c p = aims_last cs c (aims x.did p)

places_aimed : (a : DatagramAdds) (h : Heard) → (places a h).aimed ≡ h.aimed
places_aimed added.Nothing h = refl
places_aimed added.Failed h = refl
places_aimed (added.Unsent bytes) h = refl

either_aimed : (b : Bool) (x y : Heard) → x.aimed ≡ y.aimed → (if b then x else y).aimed ≡ y.aimed
either_aimed true x y e = e
either_aimed false x y e = refl

shown_aimed : (did : DatagramEntry) (h : Heard) → (shown did h).aimed ≡ aims did h.aimed
shown_aimed (Aimed port) h = refl
shown_aimed (Sent bytes) h = refl
shown_aimed (Came from bytes) h = either_aimed (is_aimed h.aimed from) (record h { history = adds h.history (entries.Delivered bytes) }) h refl
shown_aimed (Noted mark) h = refl
shown_aimed Missed h = refl

call_aimed : (c : DatagramCall) (a : DatagramAdds) (h : Heard) → (places a (hear_call c h)).aimed ≡ aims c.did h.aimed
call_aimed c a h = places_aimed a (hear_call c h) ∙ shown_aimed c.did (record h { history = follows c.quiet h.history })

-- ---- what is delivered

brought_last : (cs : List DatagramCall) (c : DatagramCall) (p : Option ℕ) → brought_by (cs ++ c ∷ []) p ≡ brought_by cs p ++ brought c.did (aims_all cs p)
brought_last [] c p = append-nil (brought c.did p)
brought_last (x ∷ cs) c p =
    ap (λ (t : List (List ℕ)). brought x.did p ++ t) (brought_last cs c (aims x.did p))
    ∙ sym (append_assoc (brought x.did p) (brought_by cs (aims x.did p)) (brought c.did (aims_all cs (aims x.did p))))

delivered_append : (xs ys : List Entry) → delivered (xs ++ ys) ≡ delivered xs ++ delivered ys
delivered_append [] ys = refl
delivered_append (x ∷ xs) ys = ap (λ (t : List (List ℕ)). delivered_of x ++ t) (delivered_append xs ys) ∙ sym (append_assoc (delivered_of x) (delivered xs) (delivered ys))

-- an entry that delivers nothing
one_more : (xs : List Entry) (e : Entry) → delivered_of e ≡ [] → delivered (xs ++ e ∷ []) ≡ delivered xs
one_more xs e none = delivered_append xs (e ∷ []) ∙ ap (λ (t : List (List ℕ)). delivered xs ++ (t ++ [])) none ∙ append-nil (delivered xs)

-- an entry of the server delivers nothing
unseen_none : (e : Entry) → ours (e ∷ []) ≡ [] → delivered_of e ≡ []
unseen_none (entries.Began lane line op) u = refl
unseen_none (entries.Answered lane line answer) u = refl
unseen_none (entries.Dialed port) u = refl
unseen_none (entries.Sent bytes) u = refl
unseen_none (entries.Executed xid call reply) u = refl
unseen_none (entries.Foreign call reply) u = refl
unseen_none (entries.Flushed file start count) u = refl
unseen_none (entries.Reboot verf) u = refl
unseen_none (entries.Delivered bytes) u = absurd cc
unseen_none entries.Failed u = refl
unseen_none (entries.Clock ms) u = refl

pub first_nil : (xs ys : List Entry) → xs ++ ys ≡ [] → xs ≡ []
first_nil [] ys e = refl
first_nil (x ∷ xs) ys e = absurd cc

pub second_nil : (xs ys : List Entry) → xs ++ ys ≡ [] → ys ≡ []
second_nil [] ys e = e
second_nil (x ∷ xs) ys e = absurd cc

quiet_delivers : (quiet : List Step) (h : History) → ours (entries_in quiet) ≡ [] → delivered (follows quiet h).entries ≡ delivered h.entries
quiet_delivers [] h u = refl
quiet_delivers (s ∷ quiet) h u =
    let parted : ours (s.entry ∷ []) ++ ours (entries_in quiet) ≡ [] = sym (ours-append (s.entry ∷ []) (entries_in quiet)) ∙ u in
    quiet_delivers quiet (goes_on h s.entry s.after) (second_nil _ _ parted) ∙ one_more h.entries s.entry (unseen_none s.entry (first_nil _ _ parted))

places_delivers : (a : DatagramAdds) (h : Heard) → delivered (places a h).history.entries ≡ delivered h.history.entries
places_delivers added.Nothing h = refl
places_delivers added.Failed h = one_more h.history.entries entries.Failed refl
places_delivers (added.Unsent bytes) h = one_more (h.history.entries ++ entries.Sent bytes ∷ []) entries.Failed refl ∙ one_more h.history.entries (entries.Sent bytes) refl

mark_none : (mark : Mark) → delivered_of (entry_of mark) ≡ []
mark_none (marks.Began lane line op) = refl
mark_none (marks.Answered lane line answer) = refl
mark_none (marks.Clock ms) = refl

came_delivers : (b : Bool) (h : Heard) (bytes : List ℕ)
    → delivered (if b then record h { history = adds h.history (entries.Delivered bytes) } else h).history.entries ≡ delivered h.history.entries ++ (if b then bytes ∷ [] else [])
came_delivers true h bytes = delivered_append h.history.entries (entries.Delivered bytes ∷ [])
came_delivers false h bytes = sym (append-nil (delivered h.history.entries))

shown_delivers : (did : DatagramEntry) (h : Heard) → delivered (shown did h).history.entries ≡ delivered h.history.entries ++ brought did h.aimed
shown_delivers (Aimed port) h = one_more h.history.entries (entries.Dialed port) refl ∙ sym (append-nil _)
shown_delivers (Sent bytes) h = one_more h.history.entries (entries.Sent bytes) refl ∙ sym (append-nil _)
shown_delivers (Came from bytes) h = came_delivers (is_aimed h.aimed from) h bytes
shown_delivers (Noted mark) h = one_more h.history.entries (entry_of mark) (mark_none mark) ∙ sym (append-nil _)
shown_delivers Missed h = sym (append-nil _)

call_delivers : (c : DatagramCall) (a : DatagramAdds) (h : Heard) → ours (entries_in c.quiet) ≡ [] → delivered (places a (hear_call c h)).history.entries ≡ delivered h.history.entries ++ brought c.did h.aimed
call_delivers c a h u =
    places_delivers a (hear_call c h)
    ∙ shown_delivers c.did (record h { history = follows c.quiet h.history })
    ∙ ap (λ (t : List (List ℕ)). t ++ brought c.did h.aimed) (quiet_delivers c.quiet h.history u)

-- ---- all of it

with_placed : (t : DatagramsTold) (ks : List DatagramAdds) (p : Option ℕ) (c : DatagramCall) (a : DatagramAdds) → Placed t ks p → ours (entries_in c.quiet) ≡ [] → Placed (with_call t c) (ks ++ a ∷ []) (aims c.did p)
with_placed t ks p c a w u =
    let is = heard_more t ks a c w.enough in
    let late = latest_with t ks a c w.enough in
    record {
      enough = omega (arith, one_longer ks a, w.enough, length-append t.calls (c ∷ []));
      aimed = ap (λ (h : Heard). h.aimed) is ∙ call_aimed c a (heard_by t ks) ∙ ap (aims c.did) w.aimed;
      dialed = ap (λ (cs : List DatagramCall). aims_all cs None) late ∙ aims_last (latest (length ks) t.calls) c None ∙ ap (aims c.did) w.dialed;
      exact =
          ap (λ (h : Heard). delivered h.history.entries) is
          ∙ call_delivers c a (heard_by t ks) u
          ∙ ap (λ (x : List (List ℕ)). x ++ brought c.did (heard_by t ks).aimed) w.exact
          ∙ ap (λ (q : Option ℕ). brought_by (latest (length ks) t.calls) None ++ brought c.did q) (w.aimed ∙ sym w.dialed)
          ∙ sym (brought_last (latest (length ks) t.calls) c None)
          ∙ sym (ap (λ (cs : List DatagramCall). brought_by cs None) late);
    }

-- after one more call, and what was placed behind it
pub placed_more : (t new : DatagramsTold) (ks : List DatagramAdds) (p : Option ℕ) (did : DatagramEntry) (a : DatagramAdds) → Placed t ks p → AddsDatagram t new did → Placed new (ks ++ a ∷ []) (aims did p)
placed_more t new ks p did a w e = subst (λ (n : DatagramsTold). Placed n (ks ++ a ∷ []) (aims did p)) (sym e.grown) (with_placed t ks p (record { quiet = e.quiet; did = did }) a w e.unseen)
