-- The results of a record and the data of a READ stand last.
use Rattle.std.proofs.Common.{◌≡◌, ◌≤◌, ◌+◌, ◌-◌, ℕ, Bool, List, [], ◌++◌, length, take, drop, Option, Result, Ok, refl, sym, ap, subst, ◌∙◌, arith, append_assoc}
use Rattle.std.proofs.lemmas.List.{length-append, take_at, drop_at}
use Rattle.xdr_codec.specs.Blobs.{part_of}
use Rattle.xdr_codec.specs.Reading.{padding}
use Rattle.rpc_message.specs.Reply.{Accepted, SpellsReply as SpellsRpc}
use Rattle.nfs_types.specs.declared.attr.Attr.{Attr}
use Rattle.nfs_file_calls.specs.declared.owned.FileKept.TheVariants as kept
use Rattle.nfs_file_calls.specs.Replies.{SpellsFileResults}
use Rattle.world_model.specs.declared.answer.Fault.{Fault}
use Rattle.world_model.specs.declared.message.Reply.{Reply}
use Rattle.world_model.specs.declared.message.Reply.TheVariants as replies
use Rattle.call_replies.specs.Data.{EndsIn, StandLast, DataLast}
use Rattle.call_replies.specs.Results.{FileSays}

-- more before what ends so
ends_behind : (front back last all : List ℕ) → all ≡ front ++ back → EndsIn last back → EndsIn last all
ends_behind front back last all is ends = record {
  front = front ++ ends.front;
  is = is ∙ ap (λ (l : List ℕ). front ++ l) ends.is ∙ sym (append_assoc front ends.front last);
}

-- a record of a call that was accepted ends in its results
pub results_last : (rec results : List ℕ) (xid : ℕ) → SpellsRpc (Accepted xid results) rec → EndsIn results rec
results_last rec results xid s =
    let whole : EndsIn results s.two.two.two.two.back = record { front = []; is = s.two.two.two.two.two } in
    ends_behind s.front s.back results rec s.is
    (ends_behind s.two.front s.two.back results s.back s.two.is
    (ends_behind s.two.two.front s.two.two.back results s.two.back s.two.two.is
    (ends_behind s.two.two.two.front s.two.two.two.back results s.two.two.back s.two.two.two.is
    (ends_behind s.two.two.two.two.front s.two.two.two.two.back results s.two.two.two.back s.two.two.two.two.is whole))))

-- the results of a READ end in its data
data_ends : (attr : Option Attr) (count : ℕ) (eof : Bool) (bytes results : List ℕ) → SpellsFileResults (kept.Read attr count eof bytes) results → StandLast bytes results
data_ends attr count eof bytes results s =
    let padded = s.two.two.two.two.two in
    let last = bytes ++ padded.pad in
    let whole : EndsIn last s.two.two.two.two.back = record { front = []; is = padded.is } in
    record {
      pad = padded.pad;
      long = padded.long;
      ends =
          ends_behind s.front s.back last results s.is
          (ends_behind s.two.front s.two.back last s.back s.two.is
          (ends_behind s.two.two.front s.two.two.back last s.two.back s.two.two.is
          (ends_behind s.two.two.two.front s.two.two.two.back last s.two.two.back s.two.two.two.is
          (ends_behind s.two.two.two.two.front s.two.two.two.two.back last s.two.two.two.back s.two.two.two.two.is whole))));
    }

-- a record ends in the data of its results
pub data_last : (proc : ℕ) (results rec : List ℕ) (said : Result Reply Fault) → FileSays proc results said → EndsIn results rec → DataLast said rec
data_last proc results rec said says ends = λ attr count eof bytes e.
    let one = subst (λ (r : Result Reply Fault). FileSays proc results r) e says in
    let within = data_ends attr count eof bytes results one.is.is in
    record {
      pad = within.pad;
      long = within.long;
      ends = ends_behind ends.front results (bytes ++ within.pad) rec ends.is within.ends;
    }

-- they are all there, with their padding
pub last_fits : (bytes rec : List ℕ) → StandLast bytes rec → padding (length bytes) + length bytes ≤ length rec
last_fits bytes rec s =
    let all = ap length s.ends.is ∙ length-append s.ends.front (bytes ++ s.pad) in
    let both = length-append bytes s.pad in
    omega (arith, all, both, s.long)

-- they are the part before the padding
pub last_part : (bytes rec : List ℕ) → StandLast bytes rec → part_of (length rec - padding (length bytes) - length bytes) (length bytes) rec ≡ bytes
last_part bytes rec s =
    let all = ap length s.ends.is ∙ length-append s.ends.front (bytes ++ s.pad) in
    let both = length-append bytes s.pad in
    let place : length rec - padding (length bytes) - length bytes ≡ length s.ends.front = omega (arith, all, both, s.long) in
    ap (λ (n : ℕ). part_of n (length bytes) rec) place
    ∙ ap (part_of (length s.ends.front) (length bytes)) s.ends.is
    ∙ ap (take (length bytes)) (drop_at s.ends.front (bytes ++ s.pad) (length s.ends.front) refl)
    ∙ take_at bytes s.pad (length bytes) refl
