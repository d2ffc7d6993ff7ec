-- What is known of a byte of a put as a record is heard, and from then on.
use Rattle.core_session.proofs.Prelude.{◌≡◌, ◌⊎◌, inl, inr, ◌≤◌, ◌+◌, ℕ, List, [], ◌∷◌, ◌++◌, length, false, Some, None, refl, sym, ap, subst, ◌∙◌, arith, xid_at, Waiting, waiting_at, Entry, Began, Sent, Delivered, Op, At, Call, HasXid, SpellsCall, SpellsCallBy, commit_call, At-grow, At-cases, length_last, said_of, of_file, piece_under, Mounted, machine_of, Purpose, Setup, View, Reaches, HearsRecord, IsUnsent, reached-rows, one-call, IsWaiting, WroteByte, MadeStable}
use Rattle.core_answers.specs.writes.Alone.{IsQuiet}
use Rattle.core_session.specs.saves.Evidence.{at_once, IsHeldBy}
use Rattle.write_back.specs.Pieces.{Sent as Piece}
use Rattle.core_answers.proofs.writes.CommitsAlone.{commits-alone}
use Rattle.step_saves.specs.Accounts.{ByWrite, ByCommit}
use Rattle.core_session.proofs.saves.Evidenced.{wrote-byte, committed-after, under-grow}

-- ---- from one entry to the next, and as calls are made

pub held-grow : (h : List Entry) (e : Entry) (x : ℕ) (calls : List (ℕ × Waiting Purpose)) (file : List ℕ) (place byte : ℕ) (held : List ℕ) → IsHeldBy h x calls file place byte held
    → IsHeldBy (h ++ e ∷ []) x calls file place byte held
held-grow h e x calls file place byte held k = record {
  middle = k.middle;
  low = (let more = length_last h e in let low = k.low in omega (arith, more, low));
  wrote = under-grow h (e ∷ []) x k.middle file place byte held k.wrote;
  before = λ xid w waits spells i bytes at has. by xid w waits spells i bytes has (At-cases h e i (Sent bytes) at);
}
  where
    by : (xid : ℕ) (w : Waiting Purpose) → waiting_at xid calls ≡ Some w → SpellsCall xid (commit_call file) w.bytes → (i : ℕ) (bytes : List ℕ) → HasXid bytes xid
        → At h i (Sent bytes) ⊎ ((i ≡ length h) × (e ≡ Sent bytes)) → k.middle ≤ i
    by xid w waits spells i bytes has (inl at) = k.before xid w waits spells i bytes at has
    by xid w waits spells i bytes has (inr last) = let low = k.low in let is = last.0 in omega (arith, low, is)

-- each call that waits then waited before, or wasn't sent yet
pub held-calls : (h : List Entry) (x : ℕ) (old new : List (ℕ × Waiting Purpose)) (file : List ℕ) (place byte : ℕ) (held : List ℕ)
    → ((xid : ℕ) (w : Waiting Purpose) → waiting_at xid new ≡ Some w → ((v : Waiting Purpose) × (waiting_at xid old ≡ Some v) × (v.bytes ≡ w.bytes)) ⊎ IsUnsent h xid)
    → IsHeldBy h x old file place byte held → IsHeldBy h x new file place byte held
held-calls h x old new file place byte held was k = record {
  middle = k.middle;
  low = k.low;
  wrote = k.wrote;
  before = λ xid w waits spells i bytes at has. by xid w spells i bytes at has (was xid w waits);
}
  where
    by : (xid : ℕ) (w : Waiting Purpose) → SpellsCall xid (commit_call file) w.bytes → (i : ℕ) (bytes : List ℕ) → At h i (Sent bytes) → HasXid bytes xid
        → ((v : Waiting Purpose) × (waiting_at xid old ≡ Some v) × (v.bytes ≡ w.bytes)) ⊎ IsUnsent h xid → k.middle ≤ i
    by xid w spells i bytes at has (inl v) = k.before xid v.0 v.1 (subst (SpellsCall xid (commit_call file)) (sym v.2) spells) i bytes at has
    by xid w spells i bytes at has (inr unsent) = absurd (unsent i bytes at has)

-- ---- as a record is heard

module _ (m : Mounted) (setup : Setup) (h : List Entry) (old : View) (r : Reaches (machine_of m) setup h old) (found : old.lost ≡ false) (rec : List ℕ) (fin : View) (hears : HearsRecord old rec fin)
    (xid : ℕ) (call : Waiting Purpose) (named : xid_at rec ≡ Some xid) (waits : waiting_at xid old.calls.calls ≡ Some call) (x : ℕ)
    (only : (i lane line : ℕ) (op : Op) → At h i (Began lane line op) → i ≡ x) (file : List ℕ) (place byte : ℕ) where
  abbrev now : List Entry
  now = h ++ Delivered rec ∷ []

  -- while a piece of the file is in flight no COMMIT of it waits
  none-commits : (piece : Piece) → piece_under xid (of_file file old.shelf.back).pieces ≡ Some piece → (y : ℕ) (w : Waiting Purpose) → waiting_at y old.calls.calls ≡ Some w
      → SpellsCall y (commit_call file) w.bytes → ⊥
  none-commits piece under y w is spells =
      let k = (reached-rows (machine_of m) setup h old r).rows y w is in
      let same = one-call y y (commit_call file) k.made.asked w.bytes tt spells k.made.spells.spells in
      let waiting : IsWaiting setup old y (commit_call file) = record { waiting = w; waits = is; spells = subst (λ (c : Call). SpellsCallBy setup.cred y c w.bytes) (sym same) k.made.spells } in
      let quiet : IsQuiet setup old file = commits-alone m setup h old r found y (commit_call file) file waiting refl in
      let none : None ≡ Some piece = sym (ap (piece_under xid) quiet.none) ∙ under in
      absurd cc

  pub told-write : (to : List ℕ)
      → ByWrite place byte (IsHeldBy now x old.calls.calls file place byte) (MadeStable now x (length h + 1) file place byte) file old.shelf.back xid to (said_of call.purpose.proc rec)
  told-write to wcc count committed verf said reaches =
      let wrote : WroteByte now x (length h + 1) file place byte committed verf =
      wrote-byte m setup h old r found rec fin hears xid call named waits x only file place byte wcc count committed verf said to reaches in
      let more = length_last h (Delivered rec) in (
        record {
          middle = length h + 1;
          low = omega (arith, more);
          wrote = record { firm = committed; verf = verf; same = refl; wrote = wrote };
          before = λ y w is spells i bytes at has. absurd (none-commits reaches.piece reaches.under y w is spells);
        },
        λ firm. at_once committed verf firm wrote,
      )

  pub told-commit : SpellsCall xid (commit_call file) call.bytes → (to : List ℕ)
      → ByCommit (IsHeldBy now x old.calls.calls file place byte) (MadeStable now x (length h + 1) file place byte) file to (said_of call.purpose.proc rec)
  told-commit spells to wcc verf said same held =
      committed-after m setup h old r found rec fin hears xid call named waits x only file place byte wcc verf said spells held.middle held.wrote
      (λ i bytes at has. held.before xid call waits spells i bytes (At-grow h (Delivered rec ∷ []) i (Sent bytes) at) has)
