-- Each line that is read tells such as lines can say.
use Rattle.std.proofs.Common.{◌≡◌, ◌<◌, ◌≤◌, ◌^◌, ℕ, zero, suc, List, [], ◌∷◌, length, Bool, true, false, ◌&&◌, ◌||◌, ◌==◌, nat_le, Option, Some, None, IfOk, IfSome, is_some, refl, sym, ap, ◌∙◌, true≢false, arith}
use Rattle.std.specs.Prelude.{codes, if◌then◌else◌}
use Rattle.std.specs.Str.{bytes_eq, is_utf8}
use Rattle.std.proofs.lemmas.Bool.{and_parts, eqb-false, eqb-true, leb-true}
use Rattle.hex.specs.Hex.{IsBytes}
use Rattle.nfs_script.specs.Asked.{IsFrom}
use Rattle.nfs_script.specs.Commands.{operation_of}
use Rattle.nfs_types.specs.declared.attr.Attr.{Attr}
use Rattle.script_text.specs.Lines.{four, is_skipped, one, three, two, words}
use Rattle.script_text.specs.Numbers.{number_of}
use Rattle.world_model.specs.declared.entry.Entry.TheVariants as entries
use Rattle.world_model.specs.declared.message.Call.{Call}
use Rattle.world_model.specs.declared.message.Reply.{Reply}
use Rattle.world_model.specs.Server.{Bytes, Entries, Holds, Listed, Object, Text}
use Rattle.trace_text.specs.Answers.{answer_of}
use Rattle.trace_text.specs.EntryLines.{answered_call_of, answered_line, began_line, clock_line, delivered_line, dialed_line, executed_line, failed_line, flushed_line, foreign_line, lane_of, last_shape, line_of, reboot_line, sent_line}
use Rattle.trace_text.specs.HeadLines.{are_some, lives_line, noac_line, nocto_line, root_line}
use Rattle.trace_text.specs.ObjectLines.{gone_line, name_line, obj_line, unname_line, verf_line}
use Rattle.trace_text.specs.Objects.{directory_of, file_of, gone_object_of, gone_of, holds_of, is_nothing, list_in, list_of, listed_in, listed_object_of, listing, or_empty, other_of, unlisted, unlisted_in, unlisted_object_of, with_list, without}
use Rattle.trace_text.specs.Reading.{after_line, after_lines, entry_line, line_by, read_on, told_after}
use Rattle.trace_text.specs.Told.{Told, begun, entered, object_now, with_lives, with_noac, with_nocto, with_root}
use Rattle.trace_text.specs.Words.{◌>>=◌, attr_of, bytes_of, first_of, handle_of, long_of, name_of, none_of, verf_of}
use Rattle.trace_prints.specs.HasText.{IsAnswer, IsAttr, IsHandleWord, IsLine, IsListedName, IsOp, IsVerf}
use Rattle.trace_prints.proofs.AnswerBounds.{answer-within}
use Rattle.trace_prints.proofs.Bounds.{AreBytes, IsFront, anything, attr-within, chosen, first-bytes, handle-within, hex-bytes, long-small, name-within, next, passed, ranged, refused, verf-within, words-bytes}
use Rattle.trace_prints.proofs.OpBounds.{op-within}
use Rattle.trace_prints.proofs.RowBounds.{AreRows, IsRow, left-rows, listing-rows, no-rows}
use Rattle.trace_prints.proofs.Sayable.{IsHolding, IsSayable, IsShown, begun-sayable, entered-sayable, lives-sayable, noac-sayable, nocto-sayable, object-sayable, root-sayable, verf-sayable}

-- ---- how the session was asked for

root-said : (told : Told) (ws : List (List ℕ)) → IsSayable told → IfSome (root_line told ws) IsSayable
unfolding root_line
root-said told ws t =
    next (λ w. Unit {0}) IsSayable (one ws) _ (anything (one ws)) (λ word u.
    next IsHandleWord IsSayable (handle_of word) _ (handle-within word) (λ root h.
    refused IsSayable told.begun (with_root root told) (λ e. root-sayable told root h t)))

lives-said : (told : Told) (ws : List (List ℕ)) → IsSayable told → IfSome (lives_line told ws) IsSayable
unfolding lives_line
lives-said told ws t =
    next (λ w. Unit {0}) IsSayable (one ws) _ (anything (one ws)) (λ word u.
    next (λ n. n < 2 ^ 64) IsSayable (long_of word) _ (long-small word) (λ lives lt.
    refused IsSayable (is_some told.lives || are_some told.history.entries) (with_lives lives told) (λ e. lives-sayable told lives lt t)))

noac-said : (told : Told) (ws : List (List ℕ)) → IsSayable told → IfSome (noac_line told ws) IsSayable
unfolding noac_line
noac-said told ws t =
    next (λ w. Unit {0}) IsSayable (none_of ws) _ (anything (none_of ws)) (λ nothing u.
    refused IsSayable (told.noac || are_some told.history.entries) (with_noac told) (λ e. noac-sayable told t))

nocto-said : (told : Told) (ws : List (List ℕ)) → IsSayable told → IfSome (nocto_line told ws) IsSayable
unfolding nocto_line
nocto-said told ws t =
    next (λ w. Unit {0}) IsSayable (none_of ws) _ (anything (none_of ws)) (λ nothing u.
    refused IsSayable (told.nocto || are_some told.history.entries) (with_nocto told) (λ e. nocto-sayable told t))

-- ---- the server

verf-said : (told : Told) (ws : List (List ℕ)) → IsSayable told → IfSome (verf_line told ws) IsSayable
unfolding verf_line
verf-said told ws t =
    next (λ w. Unit {0}) IsSayable (one ws) _ (anything (one ws)) (λ word u.
    next IsVerf IsSayable (verf_of word) _ (verf-within word) (λ verf v. verf-sayable told verf v t))

held-rows : (attr : Attr) (holds : Holds) → IsHolding attr holds → AreRows (or_empty (list_in holds))
held-rows attr (Bytes now stable) h = no-rows
held-rows attr (Entries list) h = h.rows
held-rows attr (Text text) h = no-rows

rows-now : (told : Told) (handle : List ℕ) → IsSayable told → AreRows (or_empty (list_of (object_now told handle)))
rows-now told handle t = by (object_now told handle) refl
  where
    by : (o : Option Object) → object_now told handle ≡ o → AreRows (or_empty (list_of o))
    by None e = no-rows
    by (Some o) e = held-rows o.attr o.holds (t.objects (length told.history.entries) handle o e).held

holds-within : (attr : Attr) (now stable : List ℕ) (was : Option Object) → IsBytes now → IsBytes stable → AreRows (or_empty (list_of was)) → IfSome (holds_of attr now stable was) (IsHolding attr)
holds-within attr now stable was b c rows = by (attr.kind == 1) refl (attr.kind == 2) refl
  where
    by : (s : Bool) → (attr.kind == 1) ≡ s → (t : Bool) → (attr.kind == 2) ≡ t
        → IfSome (if s then file_of attr.size now stable else (if t then directory_of now stable was else other_of now stable)) (IsHolding attr)
    by true e t f = passed (IsHolding attr) ((length now == attr.size) && nat_le (length stable) (length now)) (Bytes now stable) (λ k.
        let p = and_parts (length now == attr.size) (nat_le (length stable) (length now)) k in
        record { kind = eqb-true attr.kind 1 e; size = sym (eqb-true (length now) attr.size p.0); few = leb-true (length stable) (length now) p.1; now_bytes = b; stable_bytes = c })
    by false e true f = passed (IsHolding attr) (is_nothing now && is_nothing stable) (Entries (or_empty (list_of was))) (λ k. record { kind = eqb-true attr.kind 2 f; rows = rows })
    by false e false f = passed (IsHolding attr) (is_nothing stable) (Text now) (λ k. record { no_file = eqb-false attr.kind 1 e; no_directory = eqb-false attr.kind 2 f; bytes = b })

obj-said : (told : Told) (ws : List (List ℕ)) → IsSayable told → IfSome (obj_line told ws) IsSayable
unfolding obj_line
obj-said told ws t =
    next (λ w. Unit {0}) IsSayable (four ws) _ (anything (four ws)) (λ w u.
    next IsHandleWord IsSayable (handle_of (w.0)) _ (handle-within (w.0)) (λ handle h.
    next IsAttr IsSayable (attr_of (w.1)) _ (attr-within (w.1)) (λ attr a.
    next IsBytes IsSayable (bytes_of (w.2)) _ (hex-bytes (w.2)) (λ now b.
    next IsBytes IsSayable (bytes_of (w.3)) _ (hex-bytes (w.3)) (λ stable c.
    next (IsHolding attr) IsSayable (holds_of attr now stable (object_now told handle)) _ (holds-within attr now stable (object_now told handle) b c (rows-now told handle t)) (λ holds k.
    object-sayable told handle (record { attr = attr; gone = gone_of (object_now told handle); holds = holds }) (record { handle_is = h; attr_is = a; held = k }) (λ e. e) t))))))

-- an object after a line about what was there: what was gone stays so
abbrev Follows : Told → List ℕ → Object → Type 0
Follows told handle o = IsShown handle o × (gone_of (object_now told handle) ≡ true → o.gone ≡ true)

gone-within : (told : Told) (handle : List ℕ) → IsSayable told → IfSome (gone_object_of (object_now told handle)) (Follows told handle)
gone-within told handle t = by (object_now told handle) refl
  where
    by : (o : Option Object) → object_now told handle ≡ o → IfSome (gone_object_of o) (Follows told handle)
    by None e = tt
    by (Some o) e =
        let s : IsShown handle o = t.objects (length told.history.entries) handle o e in
        (record { handle_is = s.handle_is; attr_is = s.attr_is; held = s.held }, λ g. refl)

gone-said : (told : Told) (ws : List (List ℕ)) → IsSayable told → IfSome (gone_line told ws) IsSayable
unfolding gone_line
gone-said told ws t =
    next (λ w. Unit {0}) IsSayable (one ws) _ (anything (one ws)) (λ word u.
    next IsHandleWord IsSayable (handle_of word) _ (handle-within word) (λ handle h.
    next (Follows told handle) IsSayable (gone_object_of (object_now told handle)) _ (gone-within told handle t) (λ object k. object-sayable told handle object k.0 k.1 t)))

-- ---- lists

some-cookie : (n : ℕ) → (n == 0) ≡ false → 1 ≤ n
some-cookie zero e = absurd (true≢false e)
some-cookie (suc n) e = omega arith

with-entry : (told : Told) (dir : List ℕ) (entry : Listed) (o : Object) (holds : Holds) → IsRow entry → object_now told dir ≡ Some o → IsShown dir o → IsHolding o.attr holds
    → IfSome (list_in holds >>= λ es. Some (with_list o (listing entry es))) (Follows told dir)
with-entry told dir entry o (Bytes now stable) row e s h = tt
with-entry told dir entry o (Entries list) row e s h =
    (record { handle_is = s.handle_is; attr_is = s.attr_is; held = record { kind = h.kind; rows = listing-rows entry list row h.rows } }, λ g. sym (ap gone_of e) ∙ g)
with-entry told dir entry o (Text text) row e s h = tt

listed-within : (told : Told) (dir : List ℕ) (entry : Listed) → IsListedName entry.name → IsHandleWord entry.object → entry.cookie < 2 ^ 64 → IsSayable told
    → IfSome (listed_object_of entry (object_now told dir)) (Follows told dir)
listed-within told dir entry name object lt t = by (entry.cookie == 0) refl
  where
    found : (o : Option Object) → object_now told dir ≡ o → IsRow entry → IfSome (o >>= listed_in entry) (Follows told dir)
    found None e row = tt
    found (Some o) e row =
        let s : IsShown dir o = t.objects (length told.history.entries) dir o e in
        with-entry told dir entry o o.holds row e s s.held

    by : (b : Bool) → (entry.cookie == 0) ≡ b → IfSome (if b then None else (object_now told dir >>= listed_in entry)) (Follows told dir)
    by true f = tt
    by false f = found (object_now told dir) refl (record { name = name; object = object; least = some-cookie entry.cookie f; most = lt })

name-said : (told : Told) (ws : List (List ℕ)) → IsSayable told → IfSome (name_line told ws) IsSayable
unfolding name_line
name-said told ws t =
    next (λ w. Unit {0}) IsSayable (four ws) _ (anything (four ws)) (λ w u.
    next IsHandleWord IsSayable (handle_of (w.0)) _ (handle-within (w.0)) (λ dir d.
    next IsListedName IsSayable (name_of (w.1)) _ (name-within (w.1)) (λ name n.
    next IsHandleWord IsSayable (handle_of (w.2)) _ (handle-within (w.2)) (λ object o.
    next (λ n. n < 2 ^ 64) IsSayable (long_of (w.3)) _ (long-small (w.3)) (λ cookie lt.
    next (Follows told dir) IsSayable (listed_object_of (record { name = name; object = object; cookie = cookie }) (object_now told dir)) _
    (listed-within told dir (record { name = name; object = object; cookie = cookie }) n o lt t) (λ later k. object-sayable told dir later k.0 k.1 t))))))

less-entry : (told : Told) (dir name : List ℕ) (o : Object) (holds : Holds) → object_now told dir ≡ Some o → IsShown dir o → IsHolding o.attr holds
    → IfSome (list_in holds >>= λ es. unlisted name es >>= λ left. Some (with_list o left)) (Follows told dir)
less-entry told dir name o (Bytes now stable) e s h = tt
less-entry told dir name o (Entries list) e s h =
    next AreRows (Follows told dir) (unlisted name list) _ (refused AreRows (length (without name list) == length list) (without name list) (λ f. left-rows name list h.rows)) (λ left r.
    (record { handle_is = s.handle_is; attr_is = s.attr_is; held = record { kind = h.kind; rows = r } }, λ g. sym (ap gone_of e) ∙ g))
less-entry told dir name o (Text text) e s h = tt

unlisted-within : (told : Told) (dir name : List ℕ) → IsSayable told → IfSome (unlisted_object_of name (object_now told dir)) (Follows told dir)
unlisted-within told dir name t = by (object_now told dir) refl
  where
    by : (o : Option Object) → object_now told dir ≡ o → IfSome (o >>= unlisted_in name) (Follows told dir)
    by None e = tt
    by (Some o) e =
        let s : IsShown dir o = t.objects (length told.history.entries) dir o e in
        less-entry told dir name o o.holds e s s.held

unname-said : (told : Told) (ws : List (List ℕ)) → IsSayable told → IfSome (unname_line told ws) IsSayable
unfolding unname_line
unname-said told ws t =
    next (λ w. Unit {0}) IsSayable (two ws) _ (anything (two ws)) (λ w u.
    next IsHandleWord IsSayable (handle_of (w.0)) _ (handle-within (w.0)) (λ dir d.
    next (λ n. Unit {0}) IsSayable (name_of (w.1)) _ (anything (name_of (w.1))) (λ name n.
    next (Follows told dir) IsSayable (unlisted_object_of name (object_now told dir)) _ (unlisted-within told dir name t) (λ later k. object-sayable told dir later k.0 k.1 t))))

-- ---- entries

line-is : (lane line : ℕ) → IsFrom 1 16 lane → IsFrom 1 4294967295 line → IsLine lane line
line-is lane line l n = let most : line ≤ 4294967295 = n.most in record { lane_least = l.least; lane_most = l.most; line_least = n.least; line_most = omega (arith, most) }

began-said : (told : Told) (ws : List (List ℕ)) → AreBytes ws → IsSayable told → IfSome (began_line told ws) IsSayable
unfolding began_line
began-said told ws h t =
    next IsFront IsSayable (first_of ws) _ (first-bytes ws h) (λ a u.
    next IsFront IsSayable (first_of (a.1)) _ (first-bytes (a.1) u.1) (λ b v.
    next IsOp IsSayable (operation_of (b.1)) _ (op-within (b.1) v.1) (λ op o.
    next (IsFrom 1 16) IsSayable (lane_of (a.0)) _ (ranged 1 16 (a.0)) (λ lane l.
    next (IsFrom 1 4294967295) IsSayable (line_of (b.0)) _ (ranged 1 4294967295 (b.0)) (λ line n.
    entered-sayable told (entries.Began lane line op) (line-is lane line l n, o) t)))))

answered-said : (told : Told) (ws : List (List ℕ)) → AreBytes ws → IsSayable told → IfSome (answered_line told ws) IsSayable
unfolding answered_line
answered-said told ws h t =
    next IsFront IsSayable (first_of ws) _ (first-bytes ws h) (λ a u.
    next IsFront IsSayable (first_of (a.1)) _ (first-bytes (a.1) u.1) (λ b v.
    next (IsFrom 1 16) IsSayable (lane_of (a.0)) _ (ranged 1 16 (a.0)) (λ lane l.
    next (IsFrom 1 4294967295) IsSayable (line_of (b.0)) _ (ranged 1 4294967295 (b.0)) (λ line n.
    next (IsAnswer (last_shape lane line told.history.entries (length told.history.entries))) IsSayable (answer_of (last_shape lane line told.history.entries (length told.history.entries)) (b.1)) _
    (answer-within lane line told.history.entries (length told.history.entries) (b.1) v.1) (λ answer k.
    entered-sayable told (entries.Answered lane line answer) (line-is lane line l n, k) t)))))

dialed-said : (told : Told) (ws : List (List ℕ)) → IsSayable told → IfSome (dialed_line told ws) IsSayable
unfolding dialed_line
dialed-said told ws t =
    next (λ w. Unit {0}) IsSayable (one ws) _ (anything (one ws)) (λ word u.
    next (IsFrom 0 65535) IsSayable (number_of 0 65535 word) _ (ranged 0 65535 word) (λ port p.
    let most : port ≤ 65535 = p.most in entered-sayable told (entries.Dialed port) (omega (arith, most)) t))

sent-said : (told : Told) (ws : List (List ℕ)) → IsSayable told → IfSome (sent_line told ws) IsSayable
unfolding sent_line
sent-said told ws t =
    next (λ w. Unit {0}) IsSayable (one ws) _ (anything (one ws)) (λ word u.
    next IsBytes IsSayable (bytes_of word) _ (hex-bytes word) (λ bytes b. entered-sayable told (entries.Sent bytes) b t))

delivered-said : (told : Told) (ws : List (List ℕ)) → IsSayable told → IfSome (delivered_line told ws) IsSayable
unfolding delivered_line
delivered-said told ws t =
    next (λ w. Unit {0}) IsSayable (one ws) _ (anything (one ws)) (λ word u.
    next IsBytes IsSayable (bytes_of word) _ (hex-bytes word) (λ bytes b. entered-sayable told (entries.Delivered bytes) b t))

failed-said : (told : Told) (ws : List (List ℕ)) → IsSayable told → IfSome (failed_line told ws) IsSayable
unfolding failed_line
failed-said told ws t = next (λ w. Unit {0}) IsSayable (none_of ws) _ (anything (none_of ws)) (λ nothing u. entered-sayable told entries.Failed tt t)

clock-said : (told : Told) (ws : List (List ℕ)) → IsSayable told → IfSome (clock_line told ws) IsSayable
unfolding clock_line
clock-said told ws t =
    next (λ w. Unit {0}) IsSayable (one ws) _ (anything (one ws)) (λ word u.
    next (λ n. n < 2 ^ 64) IsSayable (long_of word) _ (long-small word) (λ ms lt. entered-sayable told (entries.Clock ms) lt t))

flushed-said : (told : Told) (ws : List (List ℕ)) → IsSayable told → IfSome (flushed_line told ws) IsSayable
unfolding flushed_line
flushed-said told ws t =
    next (λ w. Unit {0}) IsSayable (three ws) _ (anything (three ws)) (λ w u.
    next IsHandleWord IsSayable (handle_of (w.0)) _ (handle-within (w.0)) (λ file h.
    next (λ n. n < 2 ^ 64) IsSayable (long_of (w.1)) _ (long-small (w.1)) (λ from f.
    next (λ n. n < 2 ^ 64) IsSayable (long_of (w.2)) _ (long-small (w.2)) (λ len l.
    entered-sayable told (entries.Flushed file from len) (h, f, l) t))))

reboot-said : (told : Told) (ws : List (List ℕ)) → IsSayable told → IfSome (reboot_line told ws) IsSayable
unfolding reboot_line
reboot-said told ws t =
    next (λ w. Unit {0}) IsSayable (one ws) _ (anything (one ws)) (λ word u.
    next IsVerf IsSayable (verf_of word) _ (verf-within word) (λ verf v. entered-sayable told (entries.Reboot verf) v t))

executed-said : (told : Told) (ws : List (List ℕ)) → IsSayable told → IfSome (executed_line told ws) IsSayable
unfolding executed_line
executed-said told ws t = next (λ c. Unit {0}) IsSayable (answered_call_of ws) _ (anything (answered_call_of ws)) (λ c u. entered-sayable told (entries.Executed (c.0) (c.1) (c.2)) tt t)

foreign-said : (told : Told) (ws : List (List ℕ)) → IsSayable told → IfSome (foreign_line told ws) IsSayable
unfolding foreign_line
foreign-said told ws t =
    next (λ c. Unit {0}) IsSayable (answered_call_of ws) _ (anything (answered_call_of ws)) (λ c u. by (c.0 == 0) (c.1) (c.2))
  where
    by : (b : Bool) (call : Call) (reply : Reply) → IfSome ((if b then Some (entries.Foreign call reply) else None) >>= λ entry. entered entry told) IsSayable
    by true call reply = entered-sayable told (entries.Foreign call reply) tt t
    by false call reply = tt

-- ---- any line

entry-said : (told : Told) (word : List ℕ) (ws : List (List ℕ)) → AreBytes ws → IsSayable told → IfSome (entry_line told word ws) IsSayable
entry-said told word ws h t =
    chosen IsSayable (bytes_eq word (codes "began")) _ _ (began-said told ws h t) (
    chosen IsSayable (bytes_eq word (codes "answered")) _ _ (answered-said told ws h t) (
    chosen IsSayable (bytes_eq word (codes "dialed")) _ _ (dialed-said told ws t) (
    chosen IsSayable (bytes_eq word (codes "sent")) _ _ (sent-said told ws t) (
    chosen IsSayable (bytes_eq word (codes "delivered")) _ _ (delivered-said told ws t) (
    chosen IsSayable (bytes_eq word (codes "failed")) _ _ (failed-said told ws t) (
    chosen IsSayable (bytes_eq word (codes "clock")) _ _ (clock-said told ws t) (
    chosen IsSayable (bytes_eq word (codes "flushed")) _ _ (flushed-said told ws t) (
    chosen IsSayable (bytes_eq word (codes "reboot")) _ _ (reboot-said told ws t) (
    chosen IsSayable (bytes_eq word (codes "executed")) _ _ (executed-said told ws t) (
    chosen IsSayable (bytes_eq word (codes "foreign")) _ None (foreign-said told ws t) tt))))))))))

line-said : (told : Told) (word : List ℕ) (ws : List (List ℕ)) → AreBytes ws → IsSayable told → IfSome (line_by told word ws) IsSayable
line-said told word ws h t =
    chosen IsSayable (bytes_eq word (codes "root")) _ _ (root-said told ws t) (
    chosen IsSayable (bytes_eq word (codes "lives")) _ _ (lives-said told ws t) (
    chosen IsSayable (bytes_eq word (codes "noac")) _ _ (noac-said told ws t) (
    chosen IsSayable (bytes_eq word (codes "nocto")) _ _ (nocto-said told ws t) (
    chosen IsSayable (bytes_eq word (codes "verf")) _ _ (verf-said told ws t) (
    chosen IsSayable (bytes_eq word (codes "obj")) _ _ (obj-said told ws t) (
    chosen IsSayable (bytes_eq word (codes "gone")) _ _ (gone-said told ws t) (
    chosen IsSayable (bytes_eq word (codes "name")) _ _ (name-said told ws t) (
    chosen IsSayable (bytes_eq word (codes "unname")) _ _ (unname-said told ws t) (entry-said told word ws h t)))))))))

after-said : (told : Told) (line : List ℕ) → IsBytes line → IsSayable told → IfSome (after_line told line) IsSayable
after-said told line h t = chosen IsSayable (is_skipped line) (Some told) (told_after told line) t (
    chosen IsSayable (is_utf8 line) _ None (
    next IsFront IsSayable (first_of (words line)) _ (first-bytes (words line) (words-bytes line h)) (λ p k.
    next IsSayable IsSayable (line_by told (p.0) (p.1)) _ (line-said told (p.0) (p.1) k.1 t) (λ new n. begun-sayable new n))) tt)

-- all lines of a text
pub lines-said : (count : ℕ) (told : Told) (more : List (List ℕ)) → AreBytes more → IsSayable told → IfOk (after_lines count told more) IsSayable
lines-said count told [] h t = t
lines-said count told (line ∷ more) h t = by (after_line told line) (after-said told line h.0 t) (λ new n. lines-said (suc count) new more h.1 n)
  where
    by : (o : Option Told) → IfSome o IsSayable → ((new : Told) → IsSayable new → IfOk (after_lines (suc count) new more) IsSayable)
        → IfOk (read_on (suc count) o (λ new. after_lines (suc count) new more)) IsSayable
    by None s rest = tt
    by (Some new) s rest = rest new s
