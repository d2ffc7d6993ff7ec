-- A server's write verifier changes only at a restart, and none comes again (RFC 1813, section 3.3.7).
use Rattle.std.proofs.Common.{inl, inr, ◌⊎◌, ◌≡◌, ◌≢◌, ◌<◌, ◌≤◌, ℕ, zero, suc, List, length, refl, sym, subst, ◌∙◌, arith}
use Rattle.std.proofs.lemmas.Bool.{cases_lt}
use Rattle.nfs_types.specs.declared.verf.Verf.{Verf}
use Rattle.nfs_dir_calls.specs.declared.create.Making.{Making}
use Rattle.nfs_dir_calls.specs.declared.create.Making.TheVariants as makings
use Rattle.world_model.specs.declared.entry.Entry.{Entry}
use Rattle.world_model.specs.declared.entry.Entry.TheVariants as entries
use Rattle.world_model.specs.declared.message.Call.{Call}
use Rattle.world_model.specs.declared.message.Reply.{Reply}
use Rattle.world_model.specs.Entries.{At}
use Rattle.world_model.specs.History.{History}
use Rattle.world_model.specs.Server.{Server}
use Rattle.world_model.specs.NameService.{Creates}
use Rattle.world_model.specs.Service.{Serves}
use Rattle.world_model.specs.Lawful.{LawfulAt, Lawful}
use Rattle.world_model.proofs.Served.{Served, served, by_refusal, by_breaking_off, by_nothing, by_asking, by_getattr, by_setattr, by_read, by_write, by_commit, by_lookup, by_readlink, by_create, by_mkdir, by_symlink, by_mknod, by_remove, by_rmdir, by_rename, by_link, by_readdir, by_readdirplus}
use Rattle.world_model.proofs.Lasting.{entry_at}

created_verf : (s t : Server) (d name : List ℕ) (making : Making) → Creates s t d name making → t.verf ≡ s.verf
created_verf s t d name (makings.Unchecked set) (inl m) = m.only.verf
created_verf s t d name (makings.Unchecked set) (inr m) = m.only.verf
created_verf s t d name (makings.Guarded set) m = m.only.verf
created_verf s t d name (makings.Exclusive verf) (inl m) = m.only.verf
created_verf s t d name (makings.Exclusive verf) (inr m) = m.only.verf

verf_by : (s t : Server) (call : Call) (reply : Reply) → Served s call reply t → t.verf ≡ s.verf
verf_by s t call reply (by_refusal r same) = same.verf
verf_by s t call reply (by_breaking_off f offset how bytes status wcc is answer w) = w.puts.only.verf
verf_by s t call reply (by_nothing same) = same.verf
verf_by s t call reply (by_asking f attr a) = a.looks.only.verf
verf_by s t call reply (by_getattr f attr is answer g) = g.looks.only.verf
verf_by s t call reply (by_setattr f set guard wcc is answer w) = w.0.only.verf
verf_by s t call reply (by_read f offset count attr counted eof bytes is answer r) = r.puts.only.verf
verf_by s t call reply (by_write f offset how bytes wcc counted firm verf is answer w) = w.puts.only.verf
verf_by s t call reply (by_commit f offset count wcc verf is answer c) = c.puts.only.verf
verf_by s t call reply (by_lookup d name object attr dir is answer l) = l.only.verf
verf_by s t call reply (by_readlink f attr text is answer r) = r.looks.only.verf
verf_by s t call reply (by_create d name making object attr wcc is answer c) = created_verf s t d name making c.0
verf_by s t call reply (by_mkdir d name set object attr wcc is answer m) = m.0.makes.only.verf
verf_by s t call reply (by_symlink d name set target object attr wcc is answer m) = m.0.only.verf
verf_by s t call reply (by_mknod d name node object attr wcc is answer m) = m.0.only.verf
verf_by s t call reply (by_remove d name wcc is answer r) = r.0.only.verf
verf_by s t call reply (by_rmdir d name wcc is answer r) = r.0.only.verf
verf_by s t call reply (by_rename d old e new source target is answer r) = elim r.0 [ inl m ↦ m.only.verf | inr k ↦ k.only.verf ]
verf_by s t call reply (by_link f d name attr wcc is answer l) = l.0.only.verf
verf_by s t call reply (by_readdir d cookie verf count attr check rows eof is answer l) = l.reads.looks.only.verf
verf_by s t call reply (by_readdirplus d cookie verf dircount maxcount attr check rows eof is answer l) = l.reads.looks.only.verf

pub serves_verf : (s t : Server) (call : Call) (reply : Reply) → Serves s call reply t → t.verf ≡ s.verf
serves_verf s t call reply v = verf_by s t call reply (served s t call reply v)

-- the verifier stays over an entry, or the entry is a restart with one that no earlier moment had
abbrev pub VerfStep : History → ℕ → Entry → Server → Server → Type 0
VerfStep t n e a b = (b.verf ≡ a.verf) ⊎ ((verf : Verf) × (e ≡ entries.Reboot verf) × (b.verf ≡ verf) × ((m : ℕ) → m ≤ n → (t.at m).verf ≢ verf))

pub verf_step : (t : History) (n : ℕ) (e : Entry) (a b : Server) → LawfulAt t n e a b → VerfStep t n e a b
verf_step t n (entries.Executed xid call reply) a b l = inl (serves_verf a b call reply l.1)
verf_step t n (entries.Foreign call reply) a b l = inl (serves_verf a b call reply l)
verf_step t n (entries.Flushed f start count) a b l = inl l.only.verf
verf_step t n (entries.Reboot verf) a b l = inr (verf, refl, l.verifier, l.new)
verf_step t n (entries.Delivered bytes) a b l = inl l.same.verf
verf_step t n (entries.Began lane line op) a b l = inl l.verf
verf_step t n (entries.Answered lane line answer) a b l = inl l.verf
verf_step t n (entries.Dialed port) a b l = inl l.verf
verf_step t n (entries.Sent bytes) a b l = inl l.verf
verf_step t n entries.Failed a b l = inl l.verf
verf_step t n (entries.Clock ms) a b l = inl l.verf

-- After a restart the server never has a verifier of before.
pub never_again : (t : History) → Lawful t → (m k n : ℕ) (verf : Verf) → m ≤ k → At t.entries k (entries.Reboot verf) → k < n → n ≤ length t.entries → (t.at n).verf ≢ (t.at m).verf
never_again t l m k zero verf le at lt within same = omega (arith, lt)
never_again t l m k (suc n) verf le at lt within same =
    let x = entry_at t.entries n (omega (arith, within)) in
    let step : VerfStep t n x.0 (t.at n) (t.at (suc n)) = verf_step t n x.0 (t.at n) (t.at (suc n)) (l.entries n x.0 x.1) in
    elim step [
      | inr new ↦ new.3 m (omega (arith, le, lt)) (sym same ∙ new.2)
      | inl stays ↦ elim (cases_lt k n) [
        | inl below ↦ never_again t l m k n verf le at below (omega (arith, within)) (sym stays ∙ same)
        | inr here ↦
            let z : k ≡ n = omega (arith, lt, here) in
            let r = l.entries k (entries.Reboot verf) at in
            let v : (t.at (suc n)).verf ≡ verf = subst (λ (i : ℕ). (t.at (suc i)).verf ≡ verf) z r.verifier in
            r.new m le (sym same ∙ v)
      ]
    ]
