-- A call that is written is spelled, and a record is at most one call.
use Rattle.std.proofs.Common.{◌≡◌, ◌++◌, ◌+◌, ◌<◌, ◌≤◌, ◌⊎◌, inl, inr, ℕ, List, Some, Result, Ok, Err, refl, sym, ◌∙◌, ap, subst, Bool, true, false, true≢false, arith}
use Rattle.std.specs.Prelude.{IfOk, OnOk, ◌↔◌, IsTrue}
use Rattle.std.proofs.lemmas.List.{append_cancel_left}
use Rattle.xdr_codec.specs.Spells.{Wrote}
use Rattle.rpc_message.specs.declared.call.CallHead.{CallHead}
use Rattle.rpc_message.specs.declared.cred.Cred.TheVariants as creds
use Rattle.rpc_message.specs.Call.{SpellsCallHead, call_head_bytes}
use Rattle.rpc_message.proofs.CallLaws.{call_xid}
use Rattle.export_fs.specs.Spelling.{HasSpellingCall}
use Rattle.export_serve.specs.declared.request.Asked.{Asked}
use Rattle.export_serve.specs.declared.request.Asked.TheVariants.{Serve}
use Rattle.world_model.specs.declared.entry.Entry.{Entry}
use Rattle.world_model.specs.declared.entry.Entry.TheVariants as entries
use Rattle.world_model.specs.declared.message.Call.{Call}
use Rattle.world_model.specs.Entries.{At}
use Rattle.world_model.specs.Lawful.{WasSent}
use Rattle.world_model.specs.Messages.{HasXid, SpellsArguments, SpellsCall, head_of}
use Rattle.trace_calls.specs.Sending.{Sends, arguments_bytes}

-- what was written is what spells
pub wrote-this : (S : List ℕ → Type 0) (old new bytes : List ℕ) → new ≡ old ++ bytes → Wrote S old new → S bytes
wrote-this S old new bytes e w = subst S (append_cancel_left old w.text bytes (sym w.is ∙ e)) w.spells

-- the xid of a call is its first word
pub call-xid : (x : ℕ) (call : Call) (rec : List ℕ) → SpellsCall x call rec → HasXid rec x
call-xid x call rec s = call_xid (head_of x call) s.args rec s.head

pub same-xid : (x y : ℕ) (rec : List ℕ) → HasXid rec x → HasXid rec y → x ≡ y
same-xid x y rec a b = let e : Some x ≡ Some y = sym a ∙ b in cc

serve-call : (x y : ℕ) (a b : Call) → Serve x a ≡ Serve y b → a ≡ b
serve-call x y a b e = cc

-- a record is at most one call
pub one-call : (x y : ℕ) (a b : Call) (rec : List ℕ) (asked : Asked)
    → ((xid : ℕ) (call : Call) → SpellsCall xid call rec → asked ≡ Serve xid call) → SpellsCall x a rec → SpellsCall y b rec → a ≡ b
one-call x y a b rec asked served s t = serve-call x y a b (sym (served x a s) ∙ served y b t)

-- two calls are equal where their records are
pub calls-equal : (a b : Call) (one other : List ℕ) (same : Bool) (asked : Asked) → (f : Call → List ℕ) → one ≡ f a → other ≡ f b → SpellsCall 0 a one → SpellsCall 0 b other
    → ((xid : ℕ) (call : Call) → SpellsCall xid call one → asked ≡ Serve xid call) → (IsTrue same ↔ (one ≡ other)) → IsTrue same ↔ (a ≡ b)
calls-equal a b one other same asked f e d s t served eq =
    (λ yes. one-call 0 0 a b one asked served s (subst (λ r. SpellsCall 0 b r) (sym (eq.0 yes)) t), λ q. eq.1 (e ∙ ap f q ∙ sym d))

-- a record that asks for this call is it under the xid
pub serves-call : (x xid : ℕ) (sent call : Call) (rec : List ℕ) (same : Bool) → HasXid rec xid → SpellsCall x sent rec
    → ((y : ℕ) (c : Call) → SpellsCall y c rec → Serve x sent ≡ Serve y c) → (IsTrue same ↔ (sent ≡ call)) → IsTrue same ↔ SpellsCall xid call rec
serves-call x xid sent call rec same has s served eq = (
  λ yes. subst (λ (c : Call). SpellsCall xid c rec) (eq.0 yes) (subst (λ (y : ℕ). SpellsCall y sent rec) (same-xid x xid rec (call-xid x sent rec s) has) s),
  λ t. eq.1 (serve-call x xid sent call (served xid call t)),
)

some : (a b : Entry) → Some a ≡ Some b → a ≡ b
some a b q = cc

-- an entry that sends a record
pub sends-it : (h : List Entry) (m xid : ℕ) (call : Call) (bytes : List ℕ) (same : Bool) → At h m (entries.Sent bytes) → (IsTrue same ↔ SpellsCall xid call bytes)
    → IsTrue same ↔ Sends h m xid call
sends-it h m xid call bytes same at is = (
  λ yes. (bytes, at, is.0 yes),
  λ s. let q : entries.Sent bytes ≡ entries.Sent s.0 = some (entries.Sent bytes) (entries.Sent s.0) (sym at ∙ s.1) in let e : bytes ≡ s.0 = cc in is.1 (subst (λ (b : List ℕ). SpellsCall xid call b) (sym e) s.2),
)

-- a call that was sent was sent by some entry before
pub sent-before : (h : List Entry) (n m xid : ℕ) (call : Call) → m < n → Sends h m xid call → WasSent h n xid call
sent-before h n m xid call lt s = record { at = m; bytes = s.0; before = lt; sent = s.1; spells = s.2 }

pub none-sent : (h : List Entry) (n xid : ℕ) (call : Call) → ((m : ℕ) → m < n → Sends h m xid call → ⊥) → WasSent h n xid call → ⊥
none-sent h n xid call none w = none w.at w.before (w.bytes, w.sent, w.spells)

-- ---- what isn't so

-- a call that bytes can't spell is no call that they can
pub no-twin : (a b : Call) (can : Bool) → (IsTrue can ↔ HasSpellingCall b) → HasSpellingCall a → can ≡ false → IsTrue false ↔ (a ≡ b)
no-twin a b can is spelled not_so = (λ t. absurd (true≢false (sym t)), λ e. absurd (true≢false (sym (is.1 (subst (λ (c : Call). HasSpellingCall c) e spelled)) ∙ not_so)))

-- a record with another first word isn't the call
pub no-xid : (xid : ℕ) (call : Call) (rec : List ℕ) → (HasXid rec xid → ⊥) → IsTrue false ↔ SpellsCall xid call rec
no-xid xid call rec other = (λ t. absurd (true≢false (sym t)), λ s. absurd (other (call-xid xid call rec s)))

-- a record that asks for no call isn't one
pub asks-none : (xid : ℕ) (call : Call) (rec : List ℕ) (asked : Asked) → ((y : ℕ) (c : Call) → SpellsCall y c rec → asked ≡ Serve y c) → ((y : ℕ) (c : Call) → asked ≡ Serve y c → ⊥)
    → IsTrue false ↔ SpellsCall xid call rec
asks-none xid call rec asked served none = (λ t. absurd (true≢false (sym t)), λ s. absurd (none xid call (served xid call s)))

-- an entry that sends nothing doesn't send the call
pub sends-nothing : (h : List Entry) (m xid : ℕ) (call : Call) → ((bytes : List ℕ) → At h m (entries.Sent bytes) → ⊥) → IsTrue false ↔ Sends h m xid call
sends-nothing h m xid call none = (λ t. absurd (true≢false (sym t)), λ s. absurd (none s.0 s.1))

-- how the loop goes on and ends
pub none-more : (h : List Entry) (n xid : ℕ) (call : Call) (b : Bool) → ((m : ℕ) → m < n → Sends h m xid call → ⊥) → (IsTrue b ↔ Sends h n xid call) → b ≡ false
    → (m : ℕ) → m < n + 1 → Sends h m xid call → ⊥
none-more h n xid call b none is not_so m lt s = elim (eq-or-lt m n (omega (arith, lt))) [
  | inl e ↦ true≢false (sym (is.1 (subst (λ (z : ℕ). Sends h z xid call) e s)) ∙ not_so)
  | inr before ↦ none m before s
]
  where
    eq-or-lt : (m n : ℕ) → m ≤ n → (m ≡ n) ⊎ (m < n)
    eq-or-lt m n le = grind arith

pub sent-there : (h : List Entry) (n m xid : ℕ) (call : Call) → m < n → Sends h m xid call → IsTrue true ↔ WasSent h n xid call
sent-there h n m xid call lt s = (λ t. sent-before h n m xid call lt s, λ w. refl)

pub sent-nowhere : (h : List Entry) (n xid : ℕ) (call : Call) → ((m : ℕ) → m < n → Sends h m xid call → ⊥) → IsTrue false ↔ WasSent h n xid call
sent-nowhere h n xid call none = (λ t. absurd (true≢false (sym t)), λ w. absurd (none-sent h n xid call none w))

-- ---- results of tests and of writers

-- what a test decides, in other words
pub ok-iff : {E : Type 0} (r : Result Bool E) (P Q : Type 0) → ((b : Bool) → (IsTrue b ↔ P) → IsTrue b ↔ Q) → IfOk r (λ b. IsTrue b ↔ P) → IfOk r (λ b. IsTrue b ↔ Q)
ok-iff (Ok b) P Q f is = f b is
ok-iff (Err e) P Q f is = tt

pub so : (P : Type 0) (b : Bool) → (IsTrue b ↔ P) → b ≡ true → P
so P b is t = is.0 t

-- what a writer appended is what spells
pub on-ok : {A E : Type 0} (r : Result A E) (S : List ℕ → Type 0) (old new bytes : List ℕ) → OnOk r (new ≡ old ++ bytes) → OnOk r (Wrote S old new) → OnOk r (S bytes)
on-ok (Ok x) S old new bytes e w = wrote-this S old new bytes e w
on-ok (Err x) S old new bytes e w = tt

-- a head and arguments
pub call-spelled : (xid : ℕ) (call : Call) (rec : List ℕ) (head : CallHead) → rec ≡ call_head_bytes head creds.None ++ arguments_bytes call → head ≡ head_of xid call
    → ((args : List ℕ) → SpellsCallHead head args (call_head_bytes head creds.None ++ args)) → SpellsArguments call (arguments_bytes call) → SpellsCall xid call rec
call-spelled xid call rec head e h spells is =
    record { args = arguments_bytes call; head = rw e (subst (λ (z : CallHead). SpellsCallHead z (arguments_bytes call) (call_head_bytes head creds.None ++ arguments_bytes call)) h (spells (arguments_bytes call))); is = is }
