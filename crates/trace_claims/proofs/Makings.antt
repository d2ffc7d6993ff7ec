-- The changes of an entry, by what it is.
use Rattle.std.proofs.Common.{◌≡◌, ◌++◌, ℕ, List, Option, Some, None, length, sym, ◌∙◌, subst}
use Rattle.std.specs.Prelude.{IfOk, Result}
use Rattle.nfs_dir_calls.specs.declared.call.DirCall.{DirCall}
use Rattle.nfs_file_calls.specs.declared.call.FileCall.{FileCall}
use Rattle.mount_calls.specs.declared.call.MountCall.{MountCall}
use Rattle.world_model.specs.declared.entry.Entry.{Entry}
use Rattle.world_model.specs.declared.entry.Entry.TheVariants.{Foreign}
use Rattle.world_model.specs.declared.message.Call.{Call}
use Rattle.world_model.specs.declared.message.Call.TheVariants as calls
use Rattle.world_model.specs.declared.message.Reply.{Reply}
use Rattle.xdr_codec.specs.declared.blob.Memory.{Memory}
use Rattle.trace_data.specs.declared.trace.Trace.{Trace}
use Rattle.trace_claims.specs.declared.changes.Made.{Made}
use Rattle.trace_claims.specs.declared.touched.Foreign as changed
use Rattle.trace_claims.specs.Changes.{Adds, AddsNamed, AddsMade, AddsOfCall, AddsChanges, MadeCut, CallMakes, EntryMakes, change_list, file_change, made_by, listed_at}
use Rattle.trace_claims.proofs.Collecting.{adds-found, adds-nothing, adds-like}
use Rattle.trace_claims.proofs.Namings.{if-ok}

-- ---- an entry

foreign-calls : {a b : Call} {p q : Reply} → Foreign a p ≡ Foreign b q → a ≡ b
foreign-calls e = cc

foreign-replies : {a b : Call} {p q : Reply} → Foreign a p ≡ Foreign b q → p ≡ q
foreign-replies e = cc

entry-adds : (t : Trace) (e : Entry) (n after : ℕ) (call : Call) (reply : Reply) (old new : List changed.Foreign) → e ≡ Foreign call reply → AddsOfCall t call reply n after old new → AddsChanges t e n after old new
entry-adds t e n after call reply old new is adds = adds-like (CallMakes t call reply n after) (EntryMakes t e n after) old new
    (λ x makes. record { call = call; reply = reply; is = is; makes = makes })
    (λ x it. subst (λ (c : Call). CallMakes t c reply n after x) (foreign-calls (sym it.is ∙ is)) (subst (λ (r : Reply). CallMakes t it.call r n after x) (foreign-replies (sym it.is ∙ is)) it.makes))
    adds

pub entry-ok : {A : Type 0} (t : Trace) (e : Entry) (n after : ℕ) (call : Call) (reply : Reply) (old new : List changed.Foreign) (r : Result A Memory) → e ≡ Foreign call reply → IfOk r (λ done. AddsOfCall t call reply n after old new)
    → IfOk r (λ done. AddsChanges t e n after old new)
entry-ok t e n after call reply old new r is ok = if-ok r (λ done. AddsOfCall t call reply n after old new) (λ done. AddsChanges t e n after old new) (λ done adds. entry-adds t e n after call reply old new is adds) ok

pub entry-not : (t : Trace) (e : Entry) (n after : ℕ) (ls : List changed.Foreign) → ((call : Call) (reply : Reply) → e ≡ Foreign call reply → ⊥) → AddsChanges t e n after ls ls
entry-not t e n after ls not = adds-nothing (EntryMakes t e n after) ls (λ x it. not it.call it.reply it.is)

-- ---- a call

pub file-ok : {A : Type 0} (t : Trace) (call : Call) (its : FileCall) (reply : Reply) (n after : ℕ) (found : Option changed.Foreign) (old new : List changed.Foreign) (r : Result A Memory) → call ≡ calls.File its → found ≡ file_change n its reply
    → IfOk r (λ done. new ≡ old ++ change_list found) → IfOk r (λ done. AddsOfCall t call reply n after old new)
file-ok t call its reply n after found old new r is same ok = if-ok r (λ done. new ≡ old ++ change_list found) (λ done. AddsOfCall t call reply n after old new)
    (λ done added. subst (λ (c : Call). AddsOfCall t c reply n after old new) (sym is) (subst (λ (o : Option changed.Foreign). Adds (λ x. o ≡ Some x) old new) same (subst (λ (l : List changed.Foreign). Adds (λ x. found ≡ Some x) old l) (sym added) (adds-found found old)))) ok

pub dir-ok : {A : Type 0} (t : Trace) (call : Call) (its : DirCall) (reply : Reply) (n after : ℕ) (made : Option Made) (old new : List changed.Foreign) (r : Result A Memory) → call ≡ calls.Dir its → made ≡ made_by its reply
    → IfOk r (λ done. AddsMade t made n after old new) → IfOk r (λ done. AddsOfCall t call reply n after old new)
dir-ok t call its reply n after made old new r is same ok = if-ok r (λ done. AddsMade t made n after old new) (λ done. AddsOfCall t call reply n after old new)
    (λ done adds. subst (λ (c : Call). AddsOfCall t c reply n after old new) (sym is) (subst (λ (o : Option Made). AddsMade t o n after old new) same adds)) ok

pub mount-nothing : (t : Trace) (call : Call) (its : MountCall) (reply : Reply) (n after : ℕ) (ls : List changed.Foreign) → call ≡ calls.Mount its → AddsOfCall t call reply n after ls ls
mount-nothing t call its reply n after ls is = subst (λ (c : Call). AddsOfCall t c reply n after ls ls) (sym is) (adds-nothing (CallMakes t (calls.Mount its) reply n after) ls (λ x it. it))

-- ---- a CREATE

pub made-ok : {A : Type 0} (t : Trace) (made : Option Made) (its : Made) (n after : ℕ) (old new : List changed.Foreign) (r : Result A Memory) → made ≡ Some its
    → IfOk r (λ done. AddsNamed (listed_at t after its.dir) n its (length (listed_at t after its.dir)) old new) → IfOk r (λ done. AddsMade t made n after old new)
made-ok t made its n after old new r is ok = if-ok r (λ done. AddsNamed (listed_at t after its.dir) n its (length (listed_at t after its.dir)) old new) (λ done. AddsMade t made n after old new)
    (λ done adds. subst (λ (o : Option Made). AddsMade t o n after old new) (sym is) adds) ok

pub made-nothing : (t : Trace) (made : Option Made) (n after : ℕ) (ls : List changed.Foreign) → made ≡ None → AddsMade t made n after ls ls
made-nothing t made n after ls is = subst (λ (o : Option Made). AddsMade t o n after ls ls) (sym is) (adds-nothing (MadeCut t None n after) ls (λ x it. it))
