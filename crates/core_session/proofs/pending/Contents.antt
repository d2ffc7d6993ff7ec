-- What is known of each newest byte, along the steps of saves and of what else operations do.
use Rattle.core_session.proofs.Prelude.{◌≡◌, ◌≤◌, ◌+◌, ◌-◌, ◌^◌, ℕ, true, false, List, [], ◌∷◌, length, Result, slice_index, Fault, Reply, Pending, of_file, OnFile, with_bytes, with_cut, AllUpTo, nothing, Segments, covers, Turn, is_full, is_quiet}
use Rattle.write_back.specs.Numbers.{SegmentsUpTo}
use Rattle.core_answers.proofs.writes.SaveChanges.{IsKept, goes-kept, takes-kept}
use Rattle.core_session.proofs.syncs.Contents.{Common, common, common-replies, common-adds, common-cuts, common-gives, Anything}
use Rattle.core_session.proofs.syncs.Levels.{Content, ContentReplies}
use Rattle.core_session.proofs.pending.Newest.{OfAll, OfNewest, on-newest, landed-on, landed-part-on, decided-on, cut-file-on, bytes-on, sent-on}

-- a number that was given is at most the last one
segments-low : (n : ℕ) (es : Segments) → SegmentsUpTo n es → OfAll (λ place byte number. number ≤ n) es
segments-low n [] s = tt
segments-low n (e ∷ es) s = (λ place c. s.0, segments-low n es s.1)

pub newest-low : (n : ℕ) (b : Pending) → AllUpTo n b → OfNewest (λ file place byte number. number ≤ n) b
newest-low n b all = record { file = λ file. segments-low n (of_file file b).segments (all file).segments }

module _ (G : List ℕ → ℕ → ℕ → ℕ → Type 0) where
  kept : (asked to : ℕ) → IsKept asked to (OfNewest G)
  kept asked to = record {
    puts = λ file piece upto old new is on puts p. on-newest G old new file _ on (λ g. sent-on (G file) piece (of_file file old) g) p;
    lands = λ file change old new on p. on-newest G old new file _ on (λ g. landed-on (G file) change asked (of_file file old) g) p;
    part_lands = λ file change count old new on p. on-newest G old new file _ on (λ g. landed-part-on (G file) change count asked (of_file file old) g) p;
    renames = λ file old new on p. on-newest G old new file _ on (λ g. g) p;
    decides = λ file upto verf old new on p. on-newest G old new file _ on (λ g. decided-on (G file) upto verf (of_file file old).segments g) p;
  }

  abbrev pub Known : ℕ → ℕ → Pending → Type 0
  Known q0 q b = Common q0 q b × OfNewest G b

  pub known : (q0 wsize : ℕ) (turn : Turn) → Content wsize turn (Known q0)
  known q0 wsize turn = record {
    sound = λ q b c. c.0.sound;
    goes = λ s q b next new after g free c. (
      (common q0 wsize turn).goes s q b next new after g free c.0,
      goes-kept (OfNewest G) 0 turn.xid (kept 0 turn.xid) wsize turn.room false s b next new after g c.1,
    );
  }

  pub known-replies : (q0 wsize : ℕ) (sent turn : Turn) (came : Result Reply Fault) → ContentReplies wsize sent turn came Anything (Known q0)
  known-replies q0 wsize sent turn came = record {
    takes = λ repeats later s q b next new after t n free c. (
      (common-replies q0 wsize sent turn came Anything).takes repeats later s q b next new after t n free c.0,
      takes-kept (OfNewest G) sent turn (kept sent.xid turn.xid) wsize came repeats s b next new after later t c.1,
    );
  }

  pub newest-adds : (file : List ℕ) (offset : ℕ) (bytes : List ℕ) (number : ℕ) (b after : Pending) → OnFile b after file (with_bytes offset bytes number (of_file file b))
      → ((place : ℕ) → covers offset (length bytes) place ≡ true → G file place (slice_index bytes (place - offset)) number) → OfNewest G b → OfNewest G after
  newest-adds file offset bytes number b after on own g = on-newest G b after file _ on (λ k. bytes-on (G file) offset bytes number (of_file file b) own k) g

  pub newest-cuts : (file : List ℕ) (size upto : ℕ) (b after : Pending) → OnFile b after file (with_cut size upto (of_file file b)) → OfNewest G b → OfNewest G after
  newest-cuts file size upto b after on g = on-newest G b after file _ on (λ k. cut-file-on (G file) size upto (of_file file b) k) g

  pub newest-gives : (file : List ℕ) (b after : Pending) → OnFile b after file nothing → OfNewest G b → OfNewest G after
  newest-gives file b after on g = on-newest G b after file nothing on (λ k. tt) g

  pub known-adds : (q0 : ℕ) (file : List ℕ) (offset : ℕ) (bytes : List ℕ) (q : ℕ) (b after : Pending) → offset + length bytes ≤ 2 ^ 63 - 1 → is_full bytes b ≡ false
      → OnFile b after file (with_bytes offset bytes (q + 1) (of_file file b)) → ((place : ℕ) → covers offset (length bytes) place ≡ true → G file place (slice_index bytes (place - offset)) (q + 1))
      → Known q0 q b → Known q0 (q + 1) after
  known-adds q0 file offset bytes q b after last full on own c = (common-adds q0 file offset bytes q b after last full on c.0, newest-adds file offset bytes (q + 1) b after on own c.1)

  pub known-cuts : (q0 : ℕ) (file : List ℕ) (size upto q : ℕ) (b after : Pending) → is_quiet file b ≡ true → OnFile b after file (with_cut size upto (of_file file b)) → Known q0 q b → Known q0 q after
  known-cuts q0 file size upto q b after quiet on c = (common-cuts q0 file size upto q b after quiet on c.0, newest-cuts file size upto b after on c.1)

  pub known-gives : (q0 : ℕ) (file : List ℕ) (q : ℕ) (b after : Pending) → OnFile b after file nothing → Known q0 q b → Known q0 q after
  known-gives q0 file q b after on c = (common-gives q0 file q b after on c.0, newest-gives file b after on c.1)
