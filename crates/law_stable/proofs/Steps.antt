-- What an entry that spares a place of a file leaves of the byte there.
use Rattle.std.proofs.Common.{inl, inr, ◌≡◌, ◌<◌, ◌≤◌, ◌+◌, ◌-◌, ℕ, suc, List, length, take, Some, slice_get, sym, ap, subst, ◌∙◌, arith}
use Rattle.std.proofs.lemmas.Bool.{cases_lt}
use Rattle.std.proofs.lemmas.Option.{slice_get_within}
use Rattle.nfs_types.specs.declared.verf.Verf.{Verf}
use Rattle.nfs_file_calls.specs.declared.call.FileCall.TheVariants as files
use Rattle.world_model.specs.declared.entry.Entry.{Entry}
use Rattle.world_model.specs.declared.entry.Entry.TheVariants as entries
use Rattle.world_model.specs.declared.message.Call.{Call}
use Rattle.world_model.specs.declared.message.Call.TheVariants as calls
use Rattle.world_model.specs.declared.message.Reply.{Reply}
use Rattle.world_model.specs.Bytes.{put_at, committed_part}
use Rattle.world_model.specs.Entries.{At}
use Rattle.world_model.specs.History.{History}
use Rattle.world_model.specs.Lawful.{Lawful}
use Rattle.world_model.specs.Server.{Server, HasBytes}
use Rattle.claims.specs.Settled.{HoldsStable}
use Rattle.claims.specs.Touched.{writes, sizes, makes}
use Rattle.world_model.proofs.FileSteps.{BytesGo, kept, by_write, by_commit, by_size, BytesStep, unchanged, executed, foreign, flushed, restarted, bytes_step}
use Rattle.world_model.proofs.Goes.{SetsSize, by_set, by_meeting}
use Rattle.world_model.proofs.Lasting.{SameSort, moment_lasts}
use Rattle.law_stable.specs.Stable.{HoldsNow}
use Rattle.law_stable.proofs.Bytes.{get_take, taken_below, put_here, put_beside, put_same, resized_keeps, committed_stands, some_or_past}
use Rattle.law_stable.proofs.Spared.{Spares}

-- ---- one list

pub of_taken : (n : ℕ) (xs : List ℕ) (k y : ℕ) → slice_get (take n xs) k ≡ Some y → slice_get xs k ≡ Some y
of_taken n xs k y e = sym (get_take n xs k (taken_below n xs k y e)) ∙ e

-- a byte stays where those that are put have it at its place, if any
put_alike : (offset : ℕ) (xs old : List ℕ) (i v : ℕ) → ((k b : ℕ) → i ≡ offset + k → slice_get xs k ≡ Some b → b ≡ v) → slice_get old i ≡ Some v → slice_get (put_at offset xs old) i ≡ Some v
put_alike offset xs old i v all e = elim (cases_lt i offset) [
  | inl lt ↦ put_beside offset xs old i v (inl lt) e
  | inr ge ↦
      let split : offset + (i - offset) ≡ i = omega (arith, ge) in
      elim (some_or_past xs (i - offset)) [
        | inl y ↦ ap (λ z. slice_get (put_at offset xs old) z) (sym split) ∙ put_here offset xs old (i - offset) y.0 y.1 ∙ ap (λ (z : ℕ). Some z) (all (i - offset) y.0 (sym split) y.1)
        | inr past ↦ put_beside offset xs old i v (inr (omega (arith, past, ge))) e
      ]
]

-- ---- a call

-- What a call keeps of a byte: it stays in the file; and where it is stable too, it stays so.
pub record Keeps (i v : ℕ) (now stable later steady : List ℕ) : Type 0 where
  pub holds : slice_get now i ≡ Some v → slice_get later i ≡ Some v
  pub steadies : slice_get now i ≡ Some v → slice_get stable i ≡ Some v → slice_get steady i ≡ Some v

-- the call writes nothing but the byte at the place, and cuts nothing off
record GoesBeside (t : Server) (call : Call) (reply : Reply) (f : List ℕ) (i v : ℕ) : Type 0 where
  writing : (offset how k b : ℕ) (bytes : List ℕ) → call ≡ calls.File (files.Write f offset how bytes) → i ≡ offset + k → slice_get bytes k ≡ Some b → b ≡ v
  cutting : (size : ℕ) → SetsSize t call reply f size → size ≤ i → ⊥

go_keeps : (t : Server) (call : Call) (reply : Reply) (f now stable later steady : List ℕ) (i v : ℕ) → GoesBeside t call reply f i v → BytesGo t call reply f now stable later steady
    → Keeps i v now stable later steady
go_keeps t call reply f now stable later steady i v w (kept a b) = record { holds = λ e. ap (λ (z : List ℕ). slice_get z i) a ∙ e; steadies = λ e s. ap (λ (z : List ℕ). slice_get z i) b ∙ s }
go_keeps t call reply f now stable later steady i v w (by_write offset how bytes count is a b) =
    let all : (k y : ℕ) → i ≡ offset + k → slice_get (take count bytes) k ≡ Some y → y ≡ v = λ k y at byte. w.writing offset how k y bytes is at (of_taken count bytes k y byte) in
    record {
      holds = λ e. ap (λ (z : List ℕ). slice_get z i) a ∙ put_alike offset (take count bytes) now i v all e;
      steadies = λ e s. elim b [
        | inl same ↦ ap (λ (z : List ℕ). slice_get z i) same ∙ s
        | inr new ↦ ap (λ (z : List ℕ). slice_get z i) new ∙ put_alike offset (take count bytes) stable i v all s
      ];
    }
go_keeps t call reply f now stable later steady i v w (by_commit offset count is a b) = record {
  holds = λ e. ap (λ (z : List ℕ). slice_get z i) a ∙ e;
  steadies = λ e s. ap (λ (z : List ℕ). slice_get z i) b ∙ put_same offset (committed_part offset count now) now stable (committed_stands offset count now) i v e s;
}
go_keeps t call reply f now stable later steady i v w (by_size size sets a b) = elim (cases_lt i size) [
  | inr ge ↦ absurd (w.cutting size sets ge)
  | inl lt ↦ record {
    holds = λ e. ap (λ (z : List ℕ). slice_get z i) a ∙ resized_keeps size now i v lt e;
    steadies = λ e s. ap (λ (z : List ℕ). slice_get z i) b ∙ resized_keeps size stable i v lt s;
  }
]

-- ---- any entry

executed_beside : (e : Entry) (t : Server) (f : List ℕ) (i v xid : ℕ) (call : Call) (reply : Reply) → Spares e t f i v → e ≡ entries.Executed xid call reply → GoesBeside t call reply f i v
executed_beside e t f i v xid call reply s is = record {
  writing = λ offset how k b bytes same place byte. s.writing xid offset how k b bytes reply (is ∙ ap (λ (z : Call). entries.Executed xid z reply) same) place byte;
  cutting = λ size sets le. s.cutting xid size call reply is sets le;
}

foreign_beside : (e : Entry) (t : Server) (f : List ℕ) (i v : ℕ) (call : Call) (reply : Reply) → Spares e t f i v → e ≡ entries.Foreign call reply → GoesBeside t call reply f i v
foreign_beside e t f i v call reply s is = record {
  writing = λ offset how k b bytes same place byte.
      (let within = slice_get_within bytes k b byte in
      absurd (s.others call reply is (writes offset how bytes same (omega (arith, place)) (omega (arith, place, within)))));
  cutting = λ size sets le. by size sets le;
}
  where
    by : (size : ℕ) → SetsSize t call reply f size → size ≤ i → ⊥
    by size (by_set set guard wcc same answer sized) le = s.others call reply is (sizes set size guard wcc same answer sized le)
    by size (by_meeting d name set object attr wcc same answer named sized) le = s.others call reply is (makes d name set size object attr wcc same answer named sized le)

-- an entry that isn't a restart keeps a byte; and any keeps one that is stable
pub record Stays (e : Entry) (i v : ℕ) (now stable later steady : List ℕ) : Type 0 where
  pub holds : ((verf : Verf) → e ≡ entries.Reboot verf → ⊥) → slice_get now i ≡ Some v → slice_get later i ≡ Some v
  pub both : slice_get now i ≡ Some v → slice_get stable i ≡ Some v → (slice_get later i ≡ Some v) × (slice_get steady i ≡ Some v)

of_keeps : (e : Entry) (i v : ℕ) (now stable later steady : List ℕ) → Keeps i v now stable later steady → Stays e i v now stable later steady
of_keeps e i v now stable later steady k = record { holds = λ none h. k.holds h; both = λ h s. (k.holds h, k.steadies h s) }

pub step_stays : (e : Entry) (t : Server) (f now stable later steady : List ℕ) (i v : ℕ) → Spares e t f i v → BytesStep t e f now stable later steady → Stays e i v now stable later steady
step_stays e t f now stable later steady i v s (unchanged a b) = record {
  holds = λ none h. ap (λ (z : List ℕ). slice_get z i) a ∙ h;
  both = λ h k. (ap (λ (z : List ℕ). slice_get z i) a ∙ h, ap (λ (z : List ℕ). slice_get z i) b ∙ k);
}
step_stays e t f now stable later steady i v s (executed xid call reply is go) =
    of_keeps e i v now stable later steady (go_keeps t call reply f now stable later steady i v (executed_beside e t f i v xid call reply s is) go)
step_stays e t f now stable later steady i v s (foreign call reply is go) =
    of_keeps e i v now stable later steady (go_keeps t call reply f now stable later steady i v (foreign_beside e t f i v call reply s is) go)
step_stays e t f now stable later steady i v s (flushed start count is a b) = record {
  holds = λ none h. ap (λ (z : List ℕ). slice_get z i) a ∙ h;
  both = λ h k. (
    ap (λ (z : List ℕ). slice_get z i) a ∙ h,
    ap (λ (z : List ℕ). slice_get z i) b ∙ put_same start (committed_part start count now) now stable (committed_stands start count now) i v h k,
  );
}
step_stays e t f now stable later steady i v s (restarted verf is a b) = record {
  holds = λ none h. absurd (none verf is);
  both = λ h k. (ap (λ (z : List ℕ). slice_get z i) a ∙ k, ap (λ (z : List ℕ). slice_get z i) b ∙ k);
}

-- ---- one moment

-- a file's bytes at the next moment
pub record NextBytes (s : Server) (f : List ℕ) : Type 0 where
  pub later : List ℕ
  pub steady : List ℕ
  pub has : HasBytes s f later steady

pub next_bytes : (t : History) → Lawful t → (n : ℕ) → n < length t.entries → (f now stable : List ℕ) → HasBytes (t.at n) f now stable → NextBytes (t.at (suc n)) f
next_bytes t lawful n lt f now stable h =
    let l = moment_lasts t lawful n lt f h.file h.is in
    let sort = subst (λ z. SameSort z l.new.holds) h.holds l.sort in
    record { later = sort.0; steady = sort.1; has = record { file = l.new; is = l.is; holds = sort.2 } }

pub keeps_now : (t : History) → Lawful t → (n : ℕ) (e : Entry) → At t.entries n e → n < length t.entries → (f : List ℕ) (i v : ℕ) → Spares e (t.at (suc n)) f i v
    → ((verf : Verf) → e ≡ entries.Reboot verf → ⊥) → HoldsNow (t.at n) f i v → HoldsNow (t.at (suc n)) f i v
keeps_now t lawful n e at lt f i v s none h =
    let next = next_bytes t lawful n lt f h.now h.stable h.has in
    let step = bytes_step t n e (t.at n) (t.at (suc n)) f h.now h.stable next.later next.steady (lawful.entries n e at) h.has next.has in
    let stays = step_stays e (t.at (suc n)) f h.now h.stable next.later next.steady i v s step in
    record { now = next.later; stable = next.steady; has = next.has; holds = stays.holds none h.holds }

pub keeps_stable : (t : History) → Lawful t → (n : ℕ) (e : Entry) → At t.entries n e → n < length t.entries → (f : List ℕ) (i v : ℕ) → Spares e (t.at (suc n)) f i v
    → HoldsStable (t.at n) f i v → HoldsStable (t.at (suc n)) f i v
keeps_stable t lawful n e at lt f i v s h =
    let next = next_bytes t lawful n lt f h.now h.stable h.has in
    let step = bytes_step t n e (t.at n) (t.at (suc n)) f h.now h.stable next.later next.steady (lawful.entries n e at) h.has next.has in
    let stays = step_stays e (t.at (suc n)) f h.now h.stable next.later next.steady i v s step in
    let both = stays.both h.holds h.steady in
    record { now = next.later; stable = next.steady; has = next.has; holds = both.0; steady = both.1 }
