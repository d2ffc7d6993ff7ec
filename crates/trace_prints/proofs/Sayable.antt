-- What is told is such as lines can say: it stays so as lines add entries and change the server.
use Rattle.std.proofs.Common.{◌≡◌, ◌≢◌, ◌<◌, ◌≤◌, ◌+◌, ◌⊎◌, inl, inr, ◌^◌, ℕ, zero, suc, List, [], ◌∷◌, ◌++◌, length, Bool, true, false, Option, Some, None, slice_get, refl, sym, ap, ◌∙◌, subst, arith, length-append}
use Rattle.std.specs.Prelude.{IfSome, nat_lt, if◌then◌else◌}
use Rattle.std.specs.Str.{bytes_eq}
use Rattle.std.proofs.lemmas.Bool.{ltb-true, ltb-false, le-ltb, cases_lt}
use Rattle.std.proofs.lemmas.Option.{none-some, same_Some, slice_get_past}
use Rattle.std.proofs.lemmas.Slice.Eq.{bytes_eq-Decides}
use Rattle.hex.specs.Hex.{IsBytes}
use Rattle.nfs_types.specs.declared.attr.Attr.{Attr}
use Rattle.nfs_types.specs.declared.verf.Verf.{Verf}
use Rattle.world_model.specs.declared.entry.Entry.{Entry}
use Rattle.world_model.specs.declared.entry.Entry.TheVariants as entries
use Rattle.world_model.specs.History.{no_server}
use Rattle.world_model.specs.Server.{Bytes, Entries, Holds, Listed, Object, Server, Text}
use Rattle.trace_text.specs.EntryLines.{last_shape, or_shape, shape_at}
use Rattle.trace_text.specs.Objects.{gone_of, with_object, with_verf}
use Rattle.trace_text.specs.Shapes.{AnswerShape}
use Rattle.trace_text.specs.Told.{Told, added, begun, changed, entered, nothing_told, object_now, with_lives, with_noac, with_nocto, with_root}
use Rattle.trace_prints.specs.HasText.{IsAnswer, IsAttr, IsEntry, IsHandleWord, IsRoot, IsVerf}
use Rattle.trace_prints.proofs.Bounds.{bytes-cons, bytes-nil}
use Rattle.trace_prints.proofs.RowBounds.{AreRows}

-- ---- objects

pub record IsFile (attr : Attr) (now stable : List ℕ) : Type 0 where
  pub kind : attr.kind ≡ 1
  pub size : attr.size ≡ length now
  pub few : length stable ≤ length now
  pub now_bytes : IsBytes now
  pub stable_bytes : IsBytes stable

pub record IsListOf (attr : Attr) (list : List Listed) : Type 0 where
  pub kind : attr.kind ≡ 2
  pub rows : AreRows list

pub record IsTextOf (attr : Attr) (text : List ℕ) : Type 0 where
  pub no_file : attr.kind ≢ 1
  pub no_directory : attr.kind ≢ 2
  pub bytes : IsBytes text

-- what an object of such attributes holds
abbrev pub IsHolding : Attr → Holds → Type 0
IsHolding attr (Bytes now stable) = IsFile attr now stable
IsHolding attr (Entries list) = IsListOf attr list
IsHolding attr (Text text) = IsTextOf attr text

-- an object under its file handle that lines can show
pub record IsShown (handle : List ℕ) (o : Object) : Type 0 where
  pub handle_is : IsHandleWord handle
  pub attr_is : IsAttr o.attr
  pub held : IsHolding o.attr o.holds

-- ---- entries

-- An entry that a line can say. Of the bytes of its call and reply nothing is said.
abbrev pub IsSaid : (ℕ → ℕ → AnswerShape) → Entry → Type 0
IsSaid shape (entries.Began lane line op) = IsEntry shape (entries.Began lane line op)
IsSaid shape (entries.Answered lane line answer) = IsEntry shape (entries.Answered lane line answer)
IsSaid shape (entries.Dialed port) = IsEntry shape (entries.Dialed port)
IsSaid shape (entries.Sent bytes) = IsEntry shape (entries.Sent bytes)
IsSaid shape (entries.Executed xid call reply) = Unit {0}
IsSaid shape (entries.Foreign call reply) = Unit {0}
IsSaid shape (entries.Flushed file from len) = IsEntry shape (entries.Flushed file from len)
IsSaid shape (entries.Reboot verf) = IsEntry shape (entries.Reboot verf)
IsSaid shape (entries.Delivered bytes) = IsEntry shape (entries.Delivered bytes)
IsSaid shape entries.Failed = Unit {0}
IsSaid shape (entries.Clock ms) = IsEntry shape (entries.Clock ms)

-- what operations show by another account
said-as : (f g : ℕ → ℕ → AnswerShape) (entry : Entry) → ((lane line : ℕ) → f lane line ≡ g lane line) → IsSaid f entry → IsSaid g entry
said-as f g (entries.Began lane line op) e s = s
said-as f g (entries.Answered lane line answer) e s = (s.0, subst (λ (shape : AnswerShape). IsAnswer shape answer) (e lane line) s.1)
said-as f g (entries.Dialed port) e s = s
said-as f g (entries.Sent bytes) e s = s
said-as f g (entries.Executed xid call reply) e s = tt
said-as f g (entries.Foreign call reply) e s = tt
said-as f g (entries.Flushed file from len) e s = s
said-as f g (entries.Reboot verf) e s = s
said-as f g (entries.Delivered bytes) e s = s
said-as f g entries.Failed e s = tt
said-as f g (entries.Clock ms) e s = s

-- ---- what is told

abbrev pub AreLives : Option ℕ → Type 0
AreLives None = Unit {0}
AreLives (Some lives) = lives < 2 ^ 64

pub record IsSayable (told : Told) : Type 0 where
  pub root : IsRoot told.root
  pub lives : AreLives told.lives
  pub few : length told.history.entries ≤ 4096
  pub verfs : (n : ℕ) → IsVerf (told.history.at n).verf
  pub objects : (n : ℕ) (h : List ℕ) (o : Object) → (told.history.at n).object h ≡ Some o → IsShown h o
  pub stays : (n : ℕ) (h : List ℕ) → gone_of ((told.history.at n).object h) ≡ true → gone_of ((told.history.at (suc n)).object h) ≡ true
  pub ends : (n : ℕ) → length told.history.entries ≤ n → told.history.at n ≡ told.history.at (length told.history.entries)
  pub entries_said : (n : ℕ) (entry : Entry) → slice_get told.history.entries n ≡ Some entry → IsSaid (λ lane line. last_shape lane line told.history.entries n) entry

zero-bytes : IsBytes no_server.verf.0
zero-bytes = bytes-cons 0 (0 ∷ 0 ∷ 0 ∷ 0 ∷ 0 ∷ 0 ∷ 0 ∷ []) (omega arith) (bytes-cons 0 (0 ∷ 0 ∷ 0 ∷ 0 ∷ 0 ∷ 0 ∷ []) (omega arith) (bytes-cons 0 (0 ∷ 0 ∷ 0 ∷ 0 ∷ 0 ∷ []) (omega arith) (bytes-cons 0 (0 ∷ 0 ∷ 0 ∷ 0 ∷ []) (omega arith) (bytes-cons 0 (0 ∷ 0 ∷ 0 ∷ []) (omega arith) (bytes-cons 0 (0 ∷ 0 ∷ []) (omega arith) (bytes-cons 0 (0 ∷ []) (omega arith) (bytes-cons 0 [] (omega arith) bytes-nil)))))))

pub nothing-sayable : IsSayable nothing_told
nothing-sayable = record {
  root = tt;
  lives = tt;
  few = omega arith;
  verfs = λ n. record { bytes = zero-bytes; eight = refl };
  objects = λ n h o e. absurd (none-some o e);
  stays = λ n h e. e;
  ends = λ n le. refl;
  entries_said = λ n entry e. absurd (none-some entry (sym (slice_get_past nothing_told.history.entries n (omega arith)) ∙ e));
}

-- ---- how the session was asked for

pub begun-sayable : (told : Told) → IsSayable told → IsSayable (begun told)
begun-sayable told t = record { root = t.root; lives = t.lives; few = t.few; verfs = t.verfs; objects = t.objects; stays = t.stays; ends = t.ends; entries_said = t.entries_said }

pub root-sayable : (told : Told) (root : List ℕ) → IsHandleWord root → IsSayable told → IsSayable (with_root root told)
root-sayable told root h t = record { root = h; lives = t.lives; few = t.few; verfs = t.verfs; objects = t.objects; stays = t.stays; ends = t.ends; entries_said = t.entries_said }

pub lives-sayable : (told : Told) (lives : ℕ) → lives < 2 ^ 64 → IsSayable told → IsSayable (with_lives lives told)
lives-sayable told lives lt t = record { root = t.root; lives = lt; few = t.few; verfs = t.verfs; objects = t.objects; stays = t.stays; ends = t.ends; entries_said = t.entries_said }

pub noac-sayable : (told : Told) → IsSayable told → IsSayable (with_noac told)
noac-sayable told t = record { root = t.root; lives = t.lives; few = t.few; verfs = t.verfs; objects = t.objects; stays = t.stays; ends = t.ends; entries_said = t.entries_said }

pub nocto-sayable : (told : Told) → IsSayable told → IsSayable (with_nocto told)
nocto-sayable told t = record { root = t.root; lives = t.lives; few = t.few; verfs = t.verfs; objects = t.objects; stays = t.stays; ends = t.ends; entries_said = t.entries_said }

-- ---- an entry more

get-front : (es : List Entry) (e : Entry) (n : ℕ) → n < length es → slice_get (es ++ e ∷ []) n ≡ slice_get es n
get-front [] e n lt = absurd (omega (arith, lt))
get-front (x ∷ es) e zero lt = refl
get-front (x ∷ es) e (suc n) lt = get-front es e n (omega (arith, lt))

get-last : (es : List Entry) (e : Entry) (n : ℕ) → n ≡ length es → slice_get (es ++ e ∷ []) n ≡ Some e
get-last [] e zero is = refl
get-last [] e (suc n) is = absurd (omega (arith, is))
get-last (x ∷ es) e zero is = absurd (omega (arith, is))
get-last (x ∷ es) e (suc n) is = get-last es e n (omega (arith, is))

shape-front : (lane line : ℕ) (es : List Entry) (e : Entry) (n : ℕ) → n ≤ length es → last_shape lane line (es ++ e ∷ []) n ≡ last_shape lane line es n
shape-front lane line es e zero le = refl
shape-front lane line es e (suc n) le =
    ap (λ (o : Option Entry). or_shape (shape_at lane line o) (last_shape lane line (es ++ e ∷ []) n)) (get-front es e n (omega (arith, le)))
    ∙ ap (or_shape (shape_at lane line (slice_get es n))) (shape-front lane line es e n (omega (arith, le)))

pub added-sayable : (told : Told) (entry : Entry) → length told.history.entries < 4096 → IsSaid (λ lane line. last_shape lane line told.history.entries (length told.history.entries)) entry
    → IsSayable told → IsSayable (added entry told)
added-sayable told entry room said t = record {
  root = t.root;
  lives = t.lives;
  few = omega (arith, room, longer);
  verfs = t.verfs;
  objects = t.objects;
  stays = t.stays;
  ends = λ n le. t.ends n (omega (arith, le, longer)) ∙ sym (t.ends (length (told.history.entries ++ entry ∷ [])) (omega (arith, longer)));
  entries_said = λ n other e. by n other e (cases_lt n (length told.history.entries));
}
  where
    longer : length (told.history.entries ++ entry ∷ []) ≡ length told.history.entries + 1
    longer = length-append told.history.entries (entry ∷ [])

    last : (n : ℕ) (other : Entry) → slice_get (told.history.entries ++ entry ∷ []) n ≡ Some other → length told.history.entries ≤ n
        → (n < length told.history.entries + 1) ⊎ (length told.history.entries + 1 ≤ n) → IsSaid (λ lane line. last_shape lane line (told.history.entries ++ entry ∷ []) n) other
    last n other e le (inl lt) =
        let is : n ≡ length told.history.entries = omega (arith, le, lt) in
        let same : entry ≡ other = same_Some entry other (sym (get-last told.history.entries entry n is) ∙ e) in
        subst (λ (x : Entry). IsSaid (λ lane line. last_shape lane line (told.history.entries ++ entry ∷ []) n) x) same
        (said-as (λ lane line. last_shape lane line told.history.entries (length told.history.entries)) (λ lane line. last_shape lane line (told.history.entries ++ entry ∷ []) n) entry
        (λ lane line. ap (last_shape lane line told.history.entries) (sym is) ∙ sym (shape-front lane line told.history.entries entry n (omega (arith, is)))) said)
    last n other e le (inr ge) = absurd (none-some other (sym (slice_get_past (told.history.entries ++ entry ∷ []) n (omega (arith, longer, ge))) ∙ e))

    by : (n : ℕ) (other : Entry) → slice_get (told.history.entries ++ entry ∷ []) n ≡ Some other → (n < length told.history.entries) ⊎ (length told.history.entries ≤ n)
        → IsSaid (λ lane line. last_shape lane line (told.history.entries ++ entry ∷ []) n) other
    by n other e (inl lt) =
        said-as (λ lane line. last_shape lane line told.history.entries n) (λ lane line. last_shape lane line (told.history.entries ++ entry ∷ []) n) other
        (λ lane line. sym (shape-front lane line told.history.entries entry n (omega (arith, lt)))) (t.entries_said n other (sym (get-front told.history.entries entry n lt) ∙ e))
    by n other e (inr le) = last n other e le (cases_lt n (length told.history.entries + 1))

-- the same where there is room
pub entered-sayable : (told : Told) (entry : Entry) → IsSaid (λ lane line. last_shape lane line told.history.entries (length told.history.entries)) entry → IsSayable told
    → IfSome (entered entry told) IsSayable
entered-sayable told entry said t = by (nat_lt (length told.history.entries) 4096) refl
  where
    by : (b : Bool) → nat_lt (length told.history.entries) 4096 ≡ b → IfSome (if b then Some (added entry told) else None) IsSayable
    by true e = added-sayable told entry (ltb-true (length told.history.entries) 4096 e) said t
    by false e = tt

-- ---- another server from the last entry on

-- nothing changes behind it
ends-changed : (told : Told) (change : Server → Server) → ((n : ℕ) → length told.history.entries ≤ n → told.history.at n ≡ told.history.at (length told.history.entries))
    → (n : ℕ) → length told.history.entries ≤ n → (changed change told).history.at n ≡ (changed change told).history.at (length told.history.entries)
ends-changed told change ends n le =
    late n le ∙ ap change (ends n le) ∙ sym (late (length told.history.entries) (omega arith))
  where
    late : (m : ℕ) → length told.history.entries ≤ m → (if nat_lt m (length told.history.entries) then told.history.at m else change (told.history.at m)) ≡ change (told.history.at m)
    late m more = ap (λ (b : Bool). if b then told.history.at m else change (told.history.at m)) (le-ltb m (length told.history.entries) more)

pub verf-sayable : (told : Told) (verf : Verf) → IsVerf verf → IsSayable told → IsSayable (changed (with_verf verf) told)
verf-sayable told verf v t = record {
  root = t.root;
  lives = t.lives;
  few = t.few;
  verfs = λ n. verf-by n (nat_lt n (length told.history.entries));
  objects = λ n h o e. object-by n h o (nat_lt n (length told.history.entries)) e;
  stays = λ n h e. stay-by n h (nat_lt n (length told.history.entries)) (nat_lt (suc n) (length told.history.entries)) e;
  ends = λ n le. ends-changed told (with_verf verf) t.ends n le;
  entries_said = t.entries_said;
}
  where
    verf-by : (n : ℕ) (b : Bool) → IsVerf ((if b then told.history.at n else with_verf verf (told.history.at n)).verf)
    verf-by n true = t.verfs n
    verf-by n false = v

    object-by : (n : ℕ) (h : List ℕ) (o : Object) (b : Bool) → (if b then told.history.at n else with_verf verf (told.history.at n)).object h ≡ Some o → IsShown h o
    object-by n h o true e = t.objects n h o e
    object-by n h o false e = t.objects n h o e

    stay-by : (n : ℕ) (h : List ℕ) (b c : Bool) → gone_of ((if b then told.history.at n else with_verf verf (told.history.at n)).object h) ≡ true
        → gone_of ((if c then told.history.at (suc n) else with_verf verf (told.history.at (suc n))).object h) ≡ true
    stay-by n h true true e = t.stays n h e
    stay-by n h true false e = t.stays n h e
    stay-by n h false true e = t.stays n h e
    stay-by n h false false e = t.stays n h e

pub object-sayable : (told : Told) (handle : List ℕ) (object : Object) → IsShown handle object → (gone_of (object_now told handle) ≡ true → object.gone ≡ true) → IsSayable told
    → IsSayable (changed (with_object handle object) told)
object-sayable told handle object shown keeps t = record {
  root = t.root;
  lives = t.lives;
  few = t.few;
  verfs = λ n. verf-by n (nat_lt n (length told.history.entries));
  objects = λ n h o e. object-by n h o (nat_lt n (length told.history.entries)) e;
  stays = λ n h e. stay-by n h (nat_lt n (length told.history.entries)) refl (nat_lt (suc n) (length told.history.entries)) refl e;
  ends = λ n le. ends-changed told (with_object handle object) t.ends n le;
  entries_said = t.entries_said;
}
  where
    verf-by : (n : ℕ) (b : Bool) → IsVerf ((if b then told.history.at n else with_object handle object (told.history.at n)).verf)
    verf-by n true = t.verfs n
    verf-by n false = t.verfs n

    picked : (n : ℕ) (h : List ℕ) (o : Object) (c : Bool) → bytes_eq handle h ≡ c → (if c then Some object else (told.history.at n).object h) ≡ Some o → IsShown h o
    picked n h o true f e =
        let same : handle ≡ h = (bytes_eq-Decides handle h).0 f in
        let is : object ≡ o = same_Some object o e in
        subst (λ (k : List ℕ). IsShown k o) same (subst (λ (x : Object). IsShown handle x) is shown)
    picked n h o false f e = t.objects n h o e

    object-by : (n : ℕ) (h : List ℕ) (o : Object) (b : Bool) → (if b then told.history.at n else with_object handle object (told.history.at n)).object h ≡ Some o → IsShown h o
    object-by n h o true e = t.objects n h o e
    object-by n h o false e = picked n h o (bytes_eq handle h) refl e

    -- at the last entry
    turns : (n : ℕ) (h : List ℕ) (c : Bool) → bytes_eq handle h ≡ c → suc n ≡ length told.history.entries → gone_of ((told.history.at n).object h) ≡ true
        → gone_of (if c then Some object else (told.history.at (suc n)).object h) ≡ true
    turns n h true f is e =
        let same : handle ≡ h = (bytes_eq-Decides handle h).0 f in
        keeps (ap (λ (k : List ℕ). gone_of (object_now told k)) same ∙ ap (λ (m : ℕ). gone_of ((told.history.at m).object h)) (sym is) ∙ t.stays n h e)
    turns n h false f is e = t.stays n h e

    -- behind it
    remains : (n : ℕ) (h : List ℕ) (c : Bool) → gone_of (if c then Some object else (told.history.at n).object h) ≡ true → gone_of (if c then Some object else (told.history.at (suc n)).object h) ≡ true
    remains n h true e = e
    remains n h false e = t.stays n h e

    stay-by : (n : ℕ) (h : List ℕ) (b : Bool) → nat_lt n (length told.history.entries) ≡ b → (c : Bool) → nat_lt (suc n) (length told.history.entries) ≡ c
        → gone_of ((if b then told.history.at n else with_object handle object (told.history.at n)).object h) ≡ true
        → gone_of ((if c then told.history.at (suc n) else with_object handle object (told.history.at (suc n))).object h) ≡ true
    stay-by n h true f true g e = t.stays n h e
    stay-by n h true f false g e =
        let lt : n < length told.history.entries = ltb-true n (length told.history.entries) f in
        let le : length told.history.entries ≤ suc n = ltb-false (suc n) (length told.history.entries) g in
        turns n h (bytes_eq handle h) refl (omega (arith, lt, le)) e
    stay-by n h false f true g e =
        let le : length told.history.entries ≤ n = ltb-false n (length told.history.entries) f in
        let lt : suc n < length told.history.entries = ltb-true (suc n) (length told.history.entries) g in
        absurd (omega (arith, lt, le))
    stay-by n h false f false g e = remains n h (bytes_eq handle h) e
