-- Which reply a record is.
use Rattle.std.proofs.Common.{◌≡◌, ◌+◌, ◌<◌, ◌≤◌, ◌⊎◌, inl, inr, ℕ, zero, suc, List, Result, Ok, Err, Option, Some, None, refl, sym, ◌∙◌, ap, subst, Bool, true, false, true≢false, arith}
use Rattle.std.specs.Prelude.{IfOk, ◌↔◌, IsTrue, MatchOption, nat_eq}
use Rattle.std.proofs.lemmas.Bool.Decides.{Decides-eqb}
use Rattle.mount_calls.specs.declared.reply.MountReply.{MountReply}
use Rattle.mount_calls.specs.declared.call.MountCall.{MountCall}
use Rattle.mount_calls.specs.Calls.{mount_proc}
use Rattle.mount_calls.specs.Replies.{SpellsMountReply, HasSpellingReply as HasSpellingMount}
use Rattle.nfs_dir_calls.specs.declared.call.DirCall.{DirCall}
use Rattle.nfs_dir_calls.specs.declared.keeping.DirKept.{DirKept}
use Rattle.nfs_dir_calls.specs.Calls.{dir_proc}
use Rattle.nfs_dir_calls.specs.Replies.{SpellsDirReply, HasSpellingDirReply}
use Rattle.nfs_file_calls.specs.declared.call.FileCall.{FileCall}
use Rattle.nfs_file_calls.specs.declared.owned.FileKept.{FileKept}
use Rattle.nfs_file_calls.specs.Calls.{file_proc}
use Rattle.nfs_file_calls.specs.Replies.{SpellsFileReply, HasSpellingReply as HasSpellingFile}
use Rattle.rpc_message.specs.Reply.{SpellsAccepted, SpellsReply as SpellsRpc, refusal_number, reply_xid, RpcReply, Accepted, Refused, Denied}
use Rattle.rpc_message.proofs.ReplyLaws.{reply_first, refusal_first}
use Rattle.export_fs.specs.Spelling.{HasSpellingReply}
use Rattle.export_serve.specs.Spelling.{RepliesTo}
use Rattle.world_model.specs.declared.entry.Entry.{Entry}
use Rattle.world_model.specs.declared.entry.Entry.TheVariants as entries
use Rattle.world_model.specs.declared.message.Call.{Call}
use Rattle.world_model.specs.declared.message.Call.TheVariants as calls
use Rattle.world_model.specs.declared.message.Reply.{Reply}
use Rattle.world_model.specs.declared.message.Reply.TheVariants as replies
use Rattle.world_model.specs.Entries.{At}
use Rattle.world_model.specs.Lawful.{IsReplied}
use Rattle.world_model.specs.Messages.{HasXid, SpellsReply, SpellsResults}
use Rattle.trace_calls.specs.Coming.{AnswersEntry, FindsReplyTo, FindsResult, HasResults, IsRefusal, IsReplyTo, IsResultOf, NoResults, Refuses}

-- ---- results

pub file-result : (call : FileCall) (results : List ℕ) (kept : FileKept) → SpellsFileReply (file_proc call) kept results → HasSpellingFile kept
    → ((v : FileKept) → SpellsFileReply (file_proc call) v results → kept ≡ v) → IsResultOf (calls.File call) results (replies.File kept)
file-result call results kept s w only = record { spells = s; writable = w; only = one }
  where
    one : (other : Reply) → SpellsResults (calls.File call) other results → other ≡ replies.File kept
    one (replies.File v) t = ap (λ k. replies.File k) (sym (only v t))
    one (replies.Dir v) t = absurd t
    one (replies.Mount v) t = absurd t

pub no-file-result : (call : FileCall) (results : List ℕ) → ((v : FileKept) → SpellsFileReply (file_proc call) v results → ⊥)
    → (reply : Reply) → SpellsResults (calls.File call) reply results → ⊥
no-file-result call results none (replies.File v) t = none v t
no-file-result call results none (replies.Dir v) t = t
no-file-result call results none (replies.Mount v) t = t

pub dir-result : (call : DirCall) (results : List ℕ) (kept : DirKept) → SpellsDirReply (dir_proc call) kept results → HasSpellingDirReply kept
    → ((v : DirKept) → SpellsDirReply (dir_proc call) v results → kept ≡ v) → IsResultOf (calls.Dir call) results (replies.Dir kept)
dir-result call results kept s w only = record { spells = s; writable = w; only = one }
  where
    one : (other : Reply) → SpellsResults (calls.Dir call) other results → other ≡ replies.Dir kept
    one (replies.Dir v) t = ap (λ k. replies.Dir k) (sym (only v t))
    one (replies.File v) t = absurd t
    one (replies.Mount v) t = absurd t

pub no-dir-result : (call : DirCall) (results : List ℕ) → ((v : DirKept) → SpellsDirReply (dir_proc call) v results → ⊥)
    → (reply : Reply) → SpellsResults (calls.Dir call) reply results → ⊥
no-dir-result call results none (replies.Dir v) t = none v t
no-dir-result call results none (replies.File v) t = t
no-dir-result call results none (replies.Mount v) t = t

pub mount-result : (call : MountCall) (results : List ℕ) (kept : MountReply) → SpellsMountReply (mount_proc call) kept results → HasSpellingMount kept
    → ((v : MountReply) → SpellsMountReply (mount_proc call) v results → kept ≡ v) → IsResultOf (calls.Mount call) results (replies.Mount kept)
mount-result call results kept s w only = record { spells = s; writable = w; only = one }
  where
    one : (other : Reply) → SpellsResults (calls.Mount call) other results → other ≡ replies.Mount kept
    one (replies.Mount v) t = ap (λ k. replies.Mount k) (sym (only v t))
    one (replies.File v) t = absurd t
    one (replies.Dir v) t = absurd t

pub no-mount-result : (call : MountCall) (results : List ℕ) → ((v : MountReply) → SpellsMountReply (mount_proc call) v results → ⊥)
    → (reply : Reply) → SpellsResults (calls.Mount call) reply results → ⊥
no-mount-result call results none (replies.Mount v) t = none v t
no-mount-result call results none (replies.File v) t = t
no-mount-result call results none (replies.Dir v) t = t

-- ---- records

-- the reply that a record is, by its results
pub reply-there : (xid : ℕ) (call : Call) (rec results : List ℕ) (reply : Reply) → HasResults xid rec results → IsResultOf call results reply
    → IsReplyTo xid call rec reply
reply-there xid call rec results reply has is = record {
  spells = record { results = results; accepted = has.accepted; is = is.spells };
  writable = is.writable;
  only = λ other s. is.only other (subst (λ (r : List ℕ). SpellsResults call other r) (has.only s.results s.accepted) s.is);
}

pub no-result-there : (xid : ℕ) (call : Call) (rec results : List ℕ) → HasResults xid rec results → ((reply : Reply) → SpellsResults call reply results → ⊥)
    → (reply : Reply) → SpellsReply xid call reply rec → ⊥
no-result-there xid call rec results has none reply s = none reply (subst (λ (r : List ℕ). SpellsResults call reply r) (has.only s.results s.accepted) s.is)

pub no-results-there : (xid : ℕ) (call : Call) (rec : List ℕ) → NoResults xid rec → (reply : Reply) → SpellsReply xid call reply rec → ⊥
no-results-there xid call rec none reply s = none s.results s.accepted

-- a reply to a call is one of its procedure
pub answers-call : (xid : ℕ) (call : Call) (reply : Reply) (rec : List ℕ) → SpellsReply xid call reply rec → RepliesTo call reply
answers-call xid call reply rec s = by call reply s.is
  where
    by : (c : Call) (r : Reply) → SpellsResults c r s.results → RepliesTo c r
    by (calls.File c) (replies.File r) t = t.answers
    by (calls.Dir c) (replies.Dir r) t = t.of
    by (calls.Mount c) (replies.Mount r) t = t.names
    by (calls.File c) (replies.Dir r) t = t
    by (calls.File c) (replies.Mount r) t = t
    by (calls.Dir c) (replies.File r) t = t
    by (calls.Dir c) (replies.Mount r) t = t
    by (calls.Mount c) (replies.File r) t = t
    by (calls.Mount c) (replies.Dir r) t = t

-- two replies to a call are equal where their records are
pub replies-equal : (call : Call) (a b : Reply) (one other : List ℕ) (same : Bool) (found : Option Reply) → (f : Reply → List ℕ) → one ≡ f a → other ≡ f b
    → SpellsReply 0 call a one → SpellsReply 0 call b other → MatchOption found ((r : Reply) → SpellsReply 0 call r one → ⊥) (IsReplyTo 0 call one)
    → (IsTrue same ↔ (one ≡ other)) → IsTrue same ↔ (a ≡ b)
replies-equal call a b one other same found f e d s t is eq = (λ yes. by found is (subst (λ r. SpellsReply 0 call b r) (sym (eq.0 yes)) t), λ q. eq.1 (e ∙ ap f q ∙ sym d))
  where
    by : (o : Option Reply) → MatchOption o ((r : Reply) → SpellsReply 0 call r one → ⊥) (IsReplyTo 0 call one) → SpellsReply 0 call b one → a ≡ b
    by None none u = absurd (none a s)
    by (Some r) this u = this.only a s ∙ sym (this.only b u)

-- a reply that a record is, and another one
pub is-this-reply : (xid : ℕ) (call : Call) (came reply : Reply) (rec : List ℕ) (same : Bool) → IsReplyTo xid call rec came → (IsTrue same ↔ (came ≡ reply))
    → IsTrue same ↔ SpellsReply xid call reply rec
is-this-reply xid call came reply rec same is eq =
    (λ yes. subst (λ (r : Reply). SpellsReply xid call r rec) (eq.0 yes) is.spells, λ s. eq.1 (sym (is.only reply s)))

-- ---- entries

some : (a b : Entry) → Some a ≡ Some b → a ≡ b
some a b q = cc

same-reply : (xid x : ℕ) (call c : Call) (reply r : Reply) (rec : List ℕ) → entries.Executed xid call reply ≡ entries.Executed x c r → SpellsReply x c r rec → SpellsReply xid call reply rec
same-reply xid x call c reply r rec q s = let e : xid ≡ x = cc in let f : call ≡ c = cc in let g : reply ≡ r = cc in
    subst (λ (z : Reply). SpellsReply xid call z rec) (sym g) (subst (λ (z : Call). SpellsReply xid z r rec) (sym f) (subst (λ (z : ℕ). SpellsReply z c r rec) (sym e) s))

-- an entry that executes a call
pub executes-it : (h : List Entry) (m xid : ℕ) (call : Call) (reply : Reply) (rec : List ℕ) (same : Bool) → At h m (entries.Executed xid call reply)
    → (IsTrue same ↔ SpellsReply xid call reply rec) → IsTrue same ↔ AnswersEntry h m rec
executes-it h m xid call reply rec same at is = (λ yes. AnswersEntry.replied xid call reply at (is.0 yes), by)
  where
    by : AnswersEntry h m rec → IsTrue same
    by (AnswersEntry.replied x c r there s) = is.1 (same-reply xid x call c reply r rec (some (entries.Executed xid call reply) (entries.Executed x c r) (sym at ∙ there)) s)
    by (AnswersEntry.refused sent there s) = let q : entries.Executed xid call reply ≡ entries.Sent sent = some (entries.Executed xid call reply) (entries.Sent sent) (sym at ∙ there) in absurd cc

-- an entry that sends a record
pub refuses-it : (h : List Entry) (m : ℕ) (sent rec : List ℕ) (same : Bool) → At h m (entries.Sent sent) → (IsTrue same ↔ Refuses sent rec) → IsTrue same ↔ AnswersEntry h m rec
refuses-it h m sent rec same at is = (λ yes. AnswersEntry.refused sent at (is.0 yes), by)
  where
    by : AnswersEntry h m rec → IsTrue same
    by (AnswersEntry.replied x c r there s) = let q : entries.Sent sent ≡ entries.Executed x c r = some (entries.Sent sent) (entries.Executed x c r) (sym at ∙ there) in absurd cc
    by (AnswersEntry.refused other there s) = let q : entries.Sent sent ≡ entries.Sent other = some (entries.Sent sent) (entries.Sent other) (sym at ∙ there) in let e : sent ≡ other = cc in
        is.1 (subst (λ (z : List ℕ). Refuses z rec) (sym e) s)

-- a record answers some entry before
pub answers-before : (h : List Entry) (n m : ℕ) (rec : List ℕ) → m < n → AnswersEntry h m rec → IsReplied h n rec
answers-before h n m rec lt (AnswersEntry.replied xid call reply at s) = IsReplied.replied m xid call reply lt at s
answers-before h n m rec lt (AnswersEntry.refused sent at s) = IsReplied.refused m s.0 s.2.0 sent lt at s.1 s.2.1

pub none-answers : (h : List Entry) (n : ℕ) (rec : List ℕ) → ((m : ℕ) → m < n → AnswersEntry h m rec → ⊥) → IsReplied h n rec → ⊥
none-answers h n rec none (IsReplied.replied m xid call reply lt at s) = none m lt (AnswersEntry.replied xid call reply at s)
none-answers h n rec none (IsReplied.refused m xid code sent lt at has s) = none m lt (AnswersEntry.refused sent at (xid, has, (code, s)))

-- ---- what isn't so

-- a reply that is none to the call, or that bytes can't spell, isn't one that is
pub no-twin-kind : (call : Call) (a b : Reply) (can : Bool) → (IsTrue can ↔ RepliesTo call b) → RepliesTo call a → can ≡ false → IsTrue false ↔ (a ≡ b)
no-twin-kind call a b can is answers not_so = (λ t. absurd (true≢false (sym t)), λ e. absurd (true≢false (sym (is.1 (subst (λ (r : Reply). RepliesTo call r) e answers)) ∙ not_so)))

pub no-twin-reply : (a b : Reply) (can : Bool) → (IsTrue can ↔ HasSpellingReply b) → HasSpellingReply a → can ≡ false → IsTrue false ↔ (a ≡ b)
no-twin-reply a b can is spelled not_so = (λ t. absurd (true≢false (sym t)), λ e. absurd (true≢false (sym (is.1 (subst (λ (r : Reply). HasSpellingReply r) e spelled)) ∙ not_so)))

-- the first word of a reply is its xid
pub reply-xid : (xid : ℕ) (call : Call) (reply : Reply) (rec : List ℕ) → SpellsReply xid call reply rec → HasXid rec xid
reply-xid xid call reply rec s = reply_first (Accepted xid s.results) rec s.accepted

pub no-xid-reply : (xid : ℕ) (call : Call) (reply : Reply) (rec : List ℕ) → (HasXid rec xid → ⊥) → IsTrue false ↔ SpellsReply xid call reply rec
no-xid-reply xid call reply rec other = (λ t. absurd (true≢false (sym t)), λ s. absurd (other (reply-xid xid call reply rec s)))

pub no-reply : (xid : ℕ) (call : Call) (reply : Reply) (rec : List ℕ) → ((r : Reply) → SpellsReply xid call r rec → ⊥) → IsTrue false ↔ SpellsReply xid call reply rec
no-reply xid call reply rec none = (λ t. absurd (true≢false (sym t)), λ s. absurd (none reply s))

-- an entry that neither executes nor sends isn't answered
pub answers-nothing : (h : List Entry) (m : ℕ) (rec : List ℕ) → ((xid : ℕ) (call : Call) (reply : Reply) → At h m (entries.Executed xid call reply) → ⊥)
    → ((sent : List ℕ) → At h m (entries.Sent sent) → ⊥) → IsTrue false ↔ AnswersEntry h m rec
answers-nothing h m rec executes sends = (λ t. absurd (true≢false (sym t)), by)
  where
    by : AnswersEntry h m rec → IsTrue false
    by (AnswersEntry.replied xid call reply at s) = absurd (executes xid call reply at)
    by (AnswersEntry.refused sent at s) = absurd (sends sent at)

-- how the loop goes on and ends
pub none-more : (h : List Entry) (n : ℕ) (rec : List ℕ) (b : Bool) → ((m : ℕ) → m < n → AnswersEntry h m rec → ⊥) → (IsTrue b ↔ AnswersEntry h n rec) → b ≡ false
    → (m : ℕ) → m < n + 1 → AnswersEntry h m rec → ⊥
none-more h n rec b none is not_so m lt s = elim (eq-or-lt m n (omega (arith, lt))) [
  | inl e ↦ true≢false (sym (is.1 (subst (λ (z : ℕ). AnswersEntry h z rec) e s)) ∙ not_so)
  | inr before ↦ none m before s
]
  where
    eq-or-lt : (m n : ℕ) → m ≤ n → (m ≡ n) ⊎ (m < n)
    eq-or-lt m n le = grind arith

pub replied-there : (h : List Entry) (n m : ℕ) (rec : List ℕ) → m < n → AnswersEntry h m rec → IsTrue true ↔ IsReplied h n rec
replied-there h n m rec lt s = (λ t. answers-before h n m rec lt s, λ w. refl)

pub replied-nowhere : (h : List Entry) (n : ℕ) (rec : List ℕ) → ((m : ℕ) → m < n → AnswersEntry h m rec → ⊥) → IsTrue false ↔ IsReplied h n rec
replied-nowhere h n rec none = (λ t. absurd (true≢false (sym t)), λ w. absurd (none-answers h n rec none w))

-- ---- refusals

-- a record that is read as a refusal under the xid
pub refuses-so : (xid : ℕ) (rec : List ℕ) (reply : RpcReply) (code : ℕ) (same : Bool) → SpellsRpc reply rec → refusal_number reply ≡ Some code → (IsTrue same ↔ (reply_xid reply ≡ xid))
    → IsTrue same ↔ IsRefusal xid rec
refuses-so xid rec reply code same s numbered is =
    (λ yes. (code, record { reply = reply; of = is.0 yes; numbered = numbered; is = s }), λ w. is.1 (one (refusal_first xid w.0 rec w.1)))
  where
    one : HasXid rec xid → reply_xid reply ≡ xid
    one has = let e : Some (reply_xid reply) ≡ Some xid = sym (reply_first reply rec s) ∙ has in cc

-- a denial has a number by its status
pub denied-so : (xid : ℕ) (rec : List ℕ) (under stat first second : ℕ) → SpellsRpc (Denied under stat first second) rec → IsTrue (nat_eq under xid) ↔ IsRefusal xid rec
denied-so xid rec under zero first second s = refuses-so xid rec (Denied under zero first second) 100 (nat_eq under xid) s refl (Decides-eqb under xid)
denied-so xid rec under (suc n) first second s = refuses-so xid rec (Denied under (suc n) first second) (200 + first) (nat_eq under xid) s refl (Decides-eqb under xid)

-- ---- readers

pub match-map : {A : Type 0} (o : Option A) (P R : Type 0) (Q S : A → Type 0) → (P → R) → ((x : A) → Q x → S x) → MatchOption o P Q → MatchOption o R S
match-map None P R Q S f g m = f m
match-map (Some x) P R Q S f g m = g x m

-- an accepted reply that was read
pub accepted-so : (xid : ℕ) (rec results : List ℕ) (reply : RpcReply) → reply ≡ Accepted xid results → SpellsRpc reply rec → ((r : RpcReply) → SpellsRpc r rec → reply ≡ r)
    → HasResults xid rec results
accepted-so xid rec results reply e s only = record {
  accepted = subst (λ (r : RpcReply). SpellsRpc r rec) e s;
  only = λ other t. same other results (sym (only (Accepted xid other) t) ∙ e);
}
  where
    same : (a b : List ℕ) → Accepted xid a ≡ Accepted xid b → a ≡ b
    same a b q = cc

-- the reply to a call, by results that were found
pub found-to : {E : Type 0} (r : Result (Option Reply) E) (xid : ℕ) (call : Call) (rec results : List ℕ) → HasResults xid rec results → IfOk r (FindsResult call results)
    → IfOk r (FindsReplyTo xid call rec)
found-to (Ok o) xid call rec results has is =
    match-map o ((reply : Reply) → SpellsResults call reply results → ⊥) ((reply : Reply) → SpellsReply xid call reply rec → ⊥) (IsResultOf call results) (IsReplyTo xid call rec)
    (no-result-there xid call rec results has) (λ reply this. reply-there xid call rec results reply has this) is
found-to (Err e) xid call rec results has is = tt

-- one entry stands at a place
pub same-there : (h : List Entry) (m : ℕ) (a b : Entry) → At h m a → At h m b → a ≡ b
same-there h m a b p q = some a b (sym p ∙ q)

-- the results of an accepted reply that was read, if its xid is the one that is wanted
pub wanted-results : {A : Type 0} (view : A → List ℕ) (o : Option A) (xid under : ℕ) (rec results : List ℕ) (reply : RpcReply) → reply ≡ Accepted under results → SpellsRpc reply rec
    → ((r : RpcReply) → SpellsRpc r rec → reply ≡ r) → MatchOption o (nat_eq under xid ≡ false) (λ r. (nat_eq under xid ≡ true) × (view r ≡ results))
    → MatchOption o (NoResults xid rec) (λ r. HasResults xid rec (view r))
wanted-results view None xid under rec results reply e s only other = λ found t. true≢false (sym ((Decides-eqb under xid).1 (same under xid results found (sym e ∙ only (Accepted xid found) t))) ∙ other)
  where
    same : (a b : ℕ) (x y : List ℕ) → Accepted a x ≡ Accepted b y → a ≡ b
    same a b x y q = cc
wanted-results view (Some r) xid under rec results reply e s only this = accepted-so xid rec (view r) reply (e ∙ twin under xid results (view r) ((Decides-eqb under xid).0 this.0) this.1) s only
  where
    twin : (a b : ℕ) (x y : List ℕ) → a ≡ b → y ≡ x → Accepted a x ≡ Accepted b y
    twin a b x y p q = cc

-- a refusal or denial is no accepted reply
pub refused-apart : (xid stat low high under : ℕ) (results : List ℕ) → Refused xid stat low high ≡ Accepted under results → ⊥
refused-apart xid stat low high under results q = cc

pub denied-apart : (xid stat first second under : ℕ) (results : List ℕ) → Denied xid stat first second ≡ Accepted under results → ⊥
denied-apart xid stat first second under results q = cc
