-- What is known of all that is pending, and of one byte of it, along the steps of saves and of what else operations do.
use Rattle.core_session.proofs.Prelude.{◌≡◌, ◌≤◌, ◌^◌, ◌+◌, ◌-◌, ◌⊎◌, inl, inr, ℕ, true, false, List, [], length, Result, ap, ◌∙◌, arith, ◌≢◌, sym, slice_index, ltb-false, Fault, Reply, Pending, of_file, all_pending, with_bytes, OnFile, HasNoPiece, IsFree, with_cut, AllUpTo, nothing, piece_under, FilePending, rest_at, fly_at, covers, Turn, Saving, is_full, is_quiet, Free, EachSound, same-or}
use Rattle.write_back.specs.Sound.{most_pending}
use Rattle.write_back.proofs.Numbers.{upto-add, upto-cut, upto-given-up, newest}
use Rattle.file_ops.proofs.Walks.{SamePieces}
use Rattle.step_pending.proofs.ComingIn.{sound-in}
use Rattle.step_pending.proofs.Cutting.{cut-sound, sound-given}
use Rattle.step_saves.proofs.Going.{goes-sound}
use Rattle.step_saves.proofs.Taking.{takes-sound}
use Rattle.core_session.proofs.syncs.Levels.{Content, ContentReplies, quiet-none}
use Rattle.core_session.proofs.syncs.SaveMoves.{goes-upto, takes-upto}
use Rattle.core_session.proofs.syncs.Stages.{Stage, stable}
use Rattle.core_session.proofs.syncs.StageSteps.{ByWrite, ByCommit, goes-known, takes-known, own-known, adds-known, cuts-known, gives-known}

-- ---- of all that is pending

-- Dirty bytes are sound, with numbers up to the last one, which is at least what it was.
pub record Common (q0 q : ℕ) (b : Pending) : Type 0 where
  pub sound : EachSound b
  pub upto : AllUpTo q b
  pub since : q0 ≤ q

-- no save makes anything of it
abbrev pub Anything : Saving → Pending → Type 0
Anything s b = Unit {0}

pub common : (q0 wsize : ℕ) (turn : Turn) → Content wsize turn (Common q0)
common q0 wsize turn = record {
  sound = λ q b c. c.sound;
  goes = λ s q b next new after g free c. record {
    sound = goes-sound wsize turn.xid turn.room false s b next new after c.sound (free s.file) g;
    upto = goes-upto q wsize turn.xid turn.room false s b next new after g c.upto;
    since = c.since;
  };
}

pub common-replies : (q0 wsize : ℕ) (sent turn : Turn) (came : Result Reply Fault) (M : Saving → Pending → Type 0) → ContentReplies wsize sent turn came M (Common q0)
common-replies q0 wsize sent turn came M = record {
  takes = λ repeats later s q b next new after t n free c. record {
    sound = takes-sound wsize sent turn came repeats s b next new after later c.sound free t;
    upto = takes-upto q wsize sent turn came repeats s b next new after later t c.upto;
    since = c.since;
  };
}

pub common-adds : (q0 : ℕ) (file : List ℕ) (offset : ℕ) (bytes : List ℕ) (q : ℕ) (b after : Pending) → offset + length bytes ≤ 2 ^ 63 - 1 → is_full bytes b ≡ false
    → OnFile b after file (with_bytes offset bytes (q + 1) (of_file file b)) → Common q0 q b → Common q0 (q + 1) after
common-adds q0 file offset bytes q b after last full on c = record {
  sound = sound-in b after file offset (q + 1) bytes c.sound (newest q (q + 1) b c.upto (omega arith)) last (ltb-false most_pending (all_pending b + length bytes) full) on;
  upto = upto-add q (q + 1) offset bytes b after file on (omega arith) c.upto;
  since = (let low = c.since in omega (arith, low));
}

pub common-cuts : (q0 : ℕ) (file : List ℕ) (size upto q : ℕ) (b after : Pending) → is_quiet file b ≡ true → OnFile b after file (with_cut size upto (of_file file b)) → Common q0 q b → Common q0 q after
common-cuts q0 file size upto q b after quiet on c = record {
  sound = cut-sound b after file size upto c.sound (quiet-none file b quiet) on;
  upto = upto-cut q size upto b after file on c.upto;
  since = c.since;
}

pub common-gives : (q0 : ℕ) (file : List ℕ) (q : ℕ) (b after : Pending) → OnFile b after file nothing → Common q0 q b → Common q0 q after
common-gives q0 file q b after on c = record { sound = sound-given b after file c.sound on; upto = upto-given-up q b after file on c.upto; since = c.since }

-- nothing comes to be in flight
pub same-free : (xid : ℕ) (b after : Pending) → SamePieces b after → Free xid b → Free xid after
same-free xid b after same free file = by (same file)
  where
    by : ((of_file file after).pieces ≡ (of_file file b).pieces) ⊎ ((of_file file after).pieces ≡ []) → IsFree xid file after
    by (inl is) = ap (piece_under xid) is ∙ free file
    by (inr is) = ap (piece_under xid) is

pub same-quiet : (f : List ℕ) (b after : Pending) → SamePieces b after → HasNoPiece f b → HasNoPiece f after
same-quiet f b after same none = by (same f)
  where
    by : ((of_file f after).pieces ≡ (of_file f b).pieces) ⊎ ((of_file f after).pieces ≡ []) → HasNoPiece f after
    by (inl is) = is ∙ none
    by (inr is) = is

-- ---- and of one byte of it

module _ (q0 : ℕ) (f : List ℕ) (place byte number : ℕ) (Fresh : ℕ → ℕ → Type 0) (Since : ℕ → Type 0) (Wrote : ℕ → List ℕ → Type 0) (Made : ℕ → Type 0) (Over : Type 0) where
  pub record Known (q : ℕ) (b : Pending) : Type 0 where
    pub common : Common q0 q b
    pub low : number ≤ q
    pub stage : Stage place byte number Fresh Since Wrote Made Over (of_file f b)

  pub known : (wsize : ℕ) (turn : Turn) (now : ℕ) → ((k : ℕ) → Fresh k turn.xid) → Since now → Content wsize turn Known
  known wsize turn now fresh since = record {
    sound = λ q b c. c.common.sound;
    goes = λ s q b next new after g free c. record {
      common = (common q0 wsize turn).goes s q b next new after g free c.common;
      low = c.low;
      stage = goes-known f place byte number Fresh Since Wrote Made Over now wsize turn.xid fresh since turn.room false s b next new after c.common.sound c.stage g;
    };
  }

  -- what a reply shows
  abbrev pub Shows : Turn → Result Reply Fault → Saving → Pending → Type 0
  Shows sent came s b = ByWrite place byte number Fresh Since Wrote Made f b sent.xid s.file came × ByCommit Since Wrote Made f s.file came

  pub known-replies : (wsize : ℕ) (sent turn : Turn) (came : Result Reply Fault) (now : ℕ) → ((k : ℕ) → Fresh k turn.xid) → Since now
      → ContentReplies wsize sent turn came (Shows sent came) Known
  known-replies wsize sent turn came now fresh since = record {
    takes = λ repeats later s q b next new after t n free c. record {
      common = (common-replies q0 wsize sent turn came (Shows sent came)).takes repeats later s q b next new after t n free c.common;
      low = c.low;
      stage = takes-known f place byte number Fresh Since Wrote Made Over now wsize sent turn fresh since came repeats s b next new after later c.common.sound c.stage n.more.0 n.more.1 t;
    };
  }

  pub known-adds : (file : List ℕ) (offset : ℕ) (bytes : List ℕ) (q : ℕ) (b after : Pending) → offset + length bytes ≤ 2 ^ 63 - 1 → is_full bytes b ≡ false
      → OnFile b after file (with_bytes offset bytes (q + 1) (of_file file b)) → (file ≡ f → covers offset (length bytes) place ≡ true → Over) → Known q b → Known (q + 1) after
  known-adds file offset bytes q b after last full on over c = record {
    common = common-adds q0 file offset bytes q b after last full on c.common;
    low = (let low = c.low in omega (arith, low));
    stage = adds-known f place byte number Fresh Since Wrote Made Over file offset bytes (q + 1) b after c.common.sound on over c.stage;
  }

  pub known-cuts : (file : List ℕ) (size upto q : ℕ) (b after : Pending) → is_quiet file b ≡ true → OnFile b after file (with_cut size upto (of_file file b)) → (file ≡ f → size ≤ place → Over)
      → Known q b → Known q after
  known-cuts file size upto q b after quiet on over c = record {
    common = common-cuts q0 file size upto q b after quiet on c.common;
    low = c.low;
    stage = cuts-known f place byte number Fresh Since Wrote Made Over file size upto b after c.common.sound on (λ same short old. over same short) c.stage;
  }

  pub known-gives : (file : List ℕ) (q : ℕ) (b after : Pending) → OnFile b after file nothing → (file ≡ f → Over) → Known q b → Known q after
  known-gives file q b after on over c = record {
    common = common-gives q0 file q b after on c.common;
    low = c.low;
    stage = gives-known f place byte number Fresh Since Wrote Made Over file b after on over c.stage;
  }

  -- or, where it was made stable before, that is known still
  pub known-given : (file : List ℕ) (q : ℕ) (b after : Pending) → OnFile b after file nothing → (file ≡ f → Over ⊎ ((k : ℕ) × Since k × Made k)) → Known q b → Known q after
  known-given file q b after on over c = by (same-or f file)
    where
      given : file ≡ f → Over ⊎ ((k : ℕ) × Since k × Made k) → Known q after
      given same (inl o) = known-gives file q b after on (λ is. o) c
      given same (inr (k, since, made)) =
          let here : of_file f after ≡ nothing = ap (λ (g : List ℕ). of_file g after) (sym same) ∙ on.here in
          record {
            common = common-gives q0 file q b after on c.common;
            low = c.low;
            stage = stable k (ap (λ (of : FilePending). rest_at of place) here) (ap (λ (of : FilePending). fly_at of place) here) since made;
          }

      by : (file ≡ f) ⊎ (file ≢ f) → Known q after
      by (inl same) = given same (over same)
      by (inr apart) = known-gives file q b after on (λ same. absurd (apart same)) c

-- its own bytes come in
pub known-own : (q0 : ℕ) (f : List ℕ) (place byte : ℕ) (Fresh : ℕ → ℕ → Type 0) (Since : ℕ → Type 0) (Wrote : ℕ → List ℕ → Type 0) (Made : ℕ → Type 0) (Over : Type 0) (offset : ℕ) (bytes : List ℕ) (q : ℕ)
    (b after : Pending) → offset + length bytes ≤ 2 ^ 63 - 1 → is_full bytes b ≡ false → OnFile b after f (with_bytes offset bytes (q + 1) (of_file f b)) → covers offset (length bytes) place ≡ true
    → slice_index bytes (place - offset) ≡ byte → Since 0 → Common q0 q b → Known q0 f place byte (q + 1) Fresh Since Wrote Made Over (q + 1) after
known-own q0 f place byte Fresh Since Wrote Made Over offset bytes q b after last full on inside has first c = record {
  common = common-adds q0 f offset bytes q b after last full on c;
  low = omega arith;
  stage = own-known f place byte (q + 1) Fresh Since Wrote Made Over offset bytes b after c.sound on inside has first;
}
