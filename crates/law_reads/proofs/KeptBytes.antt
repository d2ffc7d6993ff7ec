-- What a reply gave of a file at one moment is true at every moment of its stamp.
use Rattle.std.proofs.Common.{inl, inr, ◌⊎◌, ◌≡◌, ◌<◌, ◌≤◌, ◌+◌, ℕ, zero, suc, Bool, List, [], ◌∷◌, length, take, Option, Some, slice_get, refl, sym, ap, subst, ◌∙◌, arith, length-take}
use Rattle.std.proofs.lemmas.Bool.{cases_lt}
use Rattle.std.proofs.lemmas.Option.{slice_get_within}
use Rattle.nfs_types.specs.declared.attr.Attr.{Attr}
use Rattle.nfs_types.specs.declared.verf.Verf.{Verf}
use Rattle.nfs_types.specs.declared.wcc.Stamp.{Stamp}
use Rattle.nfs_types.specs.declared.wcc.Wcc.{Wcc}
use Rattle.nfs_types.specs.Stamps.{stamp_of}
use Rattle.nfs_types.specs.declared.set_attr.SetAttr.{SetAttr}
use Rattle.nfs_types.specs.declared.time.Time.{Time}
use Rattle.nfs_file_calls.specs.declared.call.FileCall.{FileCall}
use Rattle.nfs_file_calls.specs.declared.call.FileCall.TheVariants as files
use Rattle.nfs_file_calls.specs.declared.owned.FileKept.{FileKept}
use Rattle.nfs_file_calls.specs.declared.owned.FileKept.TheVariants as replies
use Rattle.world_model.specs.declared.entry.Entry.TheVariants.{Executed}
use Rattle.world_model.specs.declared.message.Call.TheVariants as calls
use Rattle.world_model.specs.declared.message.Reply.TheVariants as answers
use Rattle.world_model.specs.Bytes.{put_at, resized}
use Rattle.world_model.specs.FileService.{Puts, ReadsBytes, Writes, HoldsSized, SetsAttr}
use Rattle.world_model.specs.Fresh.{Fresh}
use Rattle.world_model.specs.History.{History}
use Rattle.world_model.specs.Lawful.{Lawful}
use Rattle.world_model.specs.Server.{Bytes, Entries, Text, Holds, Object, Server, IsSound, file, directory, other}
use Rattle.world_model.specs.Service.{Serves, refused, broken_off, done}
use Rattle.world_model.specs.Steps.{TrueOf, TrueStamp, TrueWcc}
use Rattle.world_model.proofs.Stamps.{bytes_of_stamp}
use Rattle.law_reads.proofs.Bytes.{get_take, put_here, put_beside, part_stands, resized_keeps, resized_zero, put_gap}
use Rattle.law_reads.specs.Kept.{HasStamp, Done, Given, Written, Sized, KeptByte, read, written, beside, below, gap, grown}

pub same_bytes : (t : History) → Lawful t → Fresh t → (m n : ℕ) (f : List ℕ) (s : Stamp) (now later : List ℕ) → HasStamp t m f s now → HasStamp t n f s later → now ≡ later
same_bytes t l fresh m n f s now later a b = by (cases_lt m n)
  where
    by : (m < n) ⊎ (n ≤ m) → now ≡ later
    by (inl lt) = bytes_of_stamp t l fresh m n (omega (arith, lt)) b.moment f a.file b.file now a.stable later b.stable a.is b.is a.holds b.holds (a.stamp ∙ sym b.stamp)
    by (inr le) = sym (bytes_of_stamp t l fresh n m le a.moment f b.file a.file later b.stable now a.stable b.is a.is b.holds a.holds (b.stamp ∙ sym a.stamp))

-- at some moment the file had the stamp, and this byte
record Seen (t : History) (f : List ℕ) (s : Stamp) (i v : ℕ) : Type 0 where
  n : ℕ
  now : List ℕ
  has : HasStamp t n f s now
  byte : slice_get now i ≡ Some v

everywhere : (t : History) → Lawful t → Fresh t → (f : List ℕ) (s : Stamp) (i v : ℕ) → Seen t f s i v → (n : ℕ) (now : List ℕ) → HasStamp t n f s now → slice_get now i ≡ Some v
everywhere t l fresh f s i v w n now has = subst (λ (z : List ℕ). slice_get z i ≡ Some v) (same_bytes t l fresh w.n n f s w.now now w.has has) w.byte

some_is : (a b : Object) → Some a ≡ Some b → a ≡ b
some_is a b e = cc

-- the stamp of the object that has these attributes
pub stamp_there : (s : Server) (f : List ℕ) (attr : Attr) (stamp : Stamp) (o : Object) → TrueOf s f (Some attr) → s.object f ≡ Some o → stamp_of attr ≡ stamp → stamp_of o.attr ≡ stamp
stamp_there s f attr stamp o shows is e = ap (λ (z : Object). stamp_of z.attr) (some_is o shows.0 (sym is ∙ shows.1)) ∙ ap stamp_of shows.2 ∙ e

stamp_before : (s : Server) (f : List ℕ) (stamp : Stamp) (o : Object) → TrueStamp s f (Some stamp) → s.object f ≡ Some o → stamp_of o.attr ≡ stamp
stamp_before s f stamp o shows is = ap (λ (z : Object). stamp_of z.attr) (some_is o shows.0 (sym is ∙ shows.1)) ∙ shows.2

-- what a server does that answers a READ, a WRITE or a SETATTR with status 0
pub reads : (s t : Server) (f : List ℕ) (offset count counted : ℕ) (attr : Option Attr) (eof : Bool) (bytes : List ℕ) → Serves s (calls.File (files.Read f offset count)) (answers.File (replies.Read attr counted eof bytes)) t
    → ReadsBytes s t f offset count attr counted eof bytes
reads s t f offset count counted attr eof bytes (refused r same) = absurd r
reads s t f offset count counted attr eof bytes (broken_off g at how given status wcc is answer w) = absurd (cc is)
reads s t f offset count counted attr eof bytes (done d) = d

pub writes : (s t : Server) (f : List ℕ) (offset how counted committed : ℕ) (bytes : List ℕ) (wcc : Wcc) (verf : Verf) → Serves s (calls.File (files.Write f offset how bytes)) (answers.File (replies.Write wcc counted committed verf)) t
    → Writes s t f offset how bytes wcc counted committed verf
writes s t f offset how counted committed bytes wcc verf (refused r same) = absurd r
writes s t f offset how counted committed bytes wcc verf (broken_off g at way given status w is answer p) = absurd (cc answer)
writes s t f offset how counted committed bytes wcc verf (done d) = d

sets : (s t : Server) (f : List ℕ) (set : SetAttr) (guard : Option Time) (wcc : Wcc) → Serves s (calls.File (files.SetAttr f set guard)) (answers.File (replies.SetAttr wcc)) t → SetsAttr s t f set × TrueWcc s t f wcc
sets s t f set guard wcc (refused r same) = absurd r
sets s t f set guard wcc (broken_off g at way given status w is answer p) = absurd (cc answer)
sets s t f set guard wcc (done d) = d

-- what was executed was served
pub serves : (t : History) → Lawful t → (call : FileCall) (reply : FileKept) (d : Done t call reply) → Serves (t.at d.0) (calls.File call) (answers.File reply) (t.at (suc d.0))
serves t l call reply d = (l.entries d.0 (Executed d.1 (calls.File call) (answers.File reply)) d.2).1

pub later : (t : History) (call : FileCall) (reply : FileKept) (d : Done t call reply) → suc d.0 ≤ length t.entries
later t call reply d = let r = slice_get_within t.entries d.0 (Executed d.1 (calls.File call) (answers.File reply)) d.2 in omega (arith, r)

-- before and after a call that makes these bytes of those
pub put_before : (t : History) (n : ℕ) (f : List ℕ) (s : Stamp) (wcc : Wcc) (now stable next steady : List ℕ) → suc n ≤ length t.entries → Puts (t.at n) (t.at (suc n)) f now stable next steady → TrueStamp (t.at n) f wcc.before → wcc.before ≡ Some s
    → HasStamp t n f s now
put_before t n f s wcc now stable next steady le p shows is = record {
  file = p.file;
  stable = stable;
  moment = omega (arith, le);
  is = p.turns.has.is;
  holds = p.held;
  stamp = stamp_before (t.at n) f s p.file (subst (λ (z : Option Stamp). TrueStamp (t.at n) f z) is shows) p.turns.has.is;
}

pub put_after : (t : History) (n : ℕ) (f : List ℕ) (s : Stamp) (found : Option Attr) (attr : Attr) (now stable next steady : List ℕ) → suc n ≤ length t.entries → Puts (t.at n) (t.at (suc n)) f now stable next steady → TrueOf (t.at (suc n)) f found
    → found ≡ Some attr → stamp_of attr ≡ s → HasStamp t (suc n) f s next
put_after t n f s found attr now stable next steady le p shows is e = record {
  file = p.turns.new;
  stable = steady;
  moment = le;
  is = p.turns.is;
  holds = p.turns.becomes.holds;
  stamp = stamp_there (t.at (suc n)) f attr s p.turns.new (subst (λ (z : Option Attr). TrueOf (t.at (suc n)) f z) is shows) p.turns.is e;
}

length_take : (n : ℕ) (xs : List ℕ) → length (take n xs) ≤ n
length_take zero xs = omega arith
length_take (suc n) [] = omega arith
length_take (suc n) (x ∷ xs) = let r = length_take n xs in omega (arith, r)

beside_taken : (offset counted i : ℕ) (bytes : List ℕ) → (i < offset) ⊎ (offset + counted ≤ i) → (i < offset) ⊎ (offset + length (take counted bytes) ≤ i)
beside_taken offset counted i bytes (inl lt) = inl lt
beside_taken offset counted i bytes (inr le) = let r = length_take counted bytes in inr (omega (arith, r, le))

seen_read : (t : History) → Lawful t → (f : List ℕ) (s : Stamp) (i v offset k : ℕ) (bytes : List ℕ) → Given t f offset bytes s → i ≡ offset + k → slice_get bytes k ≡ Some v → Seen t f s i v
seen_read t l f s i v offset k bytes g place byte =
    let d = g.done in
    let r = reads (t.at d.0) (t.at (suc d.0)) f offset g.count g.counted (Some g.attr) g.eof bytes (serves t l _ _ d) in
    record {
      n = suc d.0;
      now = r.now;
      has = record {
        file = r.puts.turns.new;
        stable = r.stable;
        moment = later t _ _ d;
        is = r.puts.turns.is;
        holds = r.puts.turns.becomes.holds;
        stamp = stamp_there (t.at (suc d.0)) f g.attr s r.puts.turns.new r.shows r.puts.turns.is g.is;
      };
      byte = ap (λ (z : ℕ). slice_get r.now z) place ∙ part_stands offset g.counted r.now k v (ap (λ (z : List ℕ). slice_get z k) (sym r.is) ∙ byte);
    }

seen_written : (t : History) → Lawful t → (f : List ℕ) (old s : Stamp) (i v offset counted k : ℕ) (bytes : List ℕ) → Written t f offset counted bytes old s → i ≡ offset + k → k < counted → slice_get bytes k ≡ Some v → Seen t f s i v
seen_written t l f old s i v offset counted k bytes g place lt byte =
    let d = g.done in
    let w = writes (t.at d.0) (t.at (suc d.0)) f offset g.how counted g.committed bytes g.wcc g.verf (serves t l _ _ d) in
    record {
      n = suc d.0;
      now = put_at offset (take counted bytes) w.now;
      has = put_after t d.0 f s g.wcc.after g.leads.attr w.now w.stable _ _ (later t _ _ d) w.puts w.shows.after g.leads.after g.leads.is;
      byte = ap (λ (z : ℕ). slice_get (put_at offset (take counted bytes) w.now) z) place ∙ put_here offset (take counted bytes) w.now k v (get_take counted bytes k lt ∙ byte);
    }

seen_beside : (t : History) → Lawful t → (f : List ℕ) (old s : Stamp) (i v offset counted : ℕ) (bytes : List ℕ) → ((n : ℕ) (now : List ℕ) → HasStamp t n f old now → slice_get now i ≡ Some v)
    → Written t f offset counted bytes old s → (i < offset) ⊎ (offset + counted ≤ i) → Seen t f s i v
seen_beside t l f old s i v offset counted bytes was g apart =
    let d = g.done in
    let w = writes (t.at d.0) (t.at (suc d.0)) f offset g.how counted g.committed bytes g.wcc g.verf (serves t l _ _ d) in
    let before = put_before t d.0 f old g.wcc w.now w.stable _ _ (later t _ _ d) w.puts w.shows.before g.leads.before in
    record {
      n = suc d.0;
      now = put_at offset (take counted bytes) w.now;
      has = put_after t d.0 f s g.wcc.after g.leads.attr w.now w.stable _ _ (later t _ _ d) w.puts w.shows.after g.leads.after g.leads.is;
      byte = put_beside offset (take counted bytes) w.now i v (beside_taken offset counted i bytes apart) (was d.0 w.now before);
    }

-- before and after a SETATTR that sets the size of a file
pub record Resized (t : History) (f : List ℕ) (size : ℕ) (old s : Stamp) : Type 0 where
  pub n : ℕ
  pub now : List ℕ
  pub before : HasStamp t n f old now
  pub after : HasStamp t (suc n) f s (resized size now)

pub resized_so : (t : History) → Lawful t → (f : List ℕ) (old s : Stamp) (size : ℕ) → Sized t f size old s → Resized t f size old s
resized_so t l f old s size g = by w.0.object.holds refl (subst (λ (z : Option ℕ). HoldsSized z w.0.object.holds w.0.later) g.is w.0.sized)
  where
    d : Done t (files.SetAttr f g.set g.guard) (replies.SetAttr g.wcc)
    d = g.done

    w : SetsAttr (t.at d.0) (t.at (suc d.0)) f g.set × TrueWcc (t.at d.0) (t.at (suc d.0)) f g.wcc
    w = sets (t.at d.0) (t.at (suc d.0)) f g.set g.guard g.wcc (serves t l _ _ d)

    by : (h : Holds) → w.0.object.holds ≡ h → HoldsSized (Some size) h w.0.later → Resized t f size old s
    by (Bytes now stable) is sized = record {
      n = d.0;
      now = now;
      before = record {
        file = w.0.object;
        stable = stable;
        moment = let le = later t _ _ d in omega (arith, le);
        is = w.0.turns.has.is;
        holds = is;
        stamp = stamp_before (t.at d.0) f old w.0.object (subst (λ (z : Option Stamp). TrueStamp (t.at d.0) f z) g.leads.before w.1.before) w.0.turns.has.is;
      };
      after = record {
        file = w.0.turns.new;
        stable = resized size stable;
        moment = later t _ _ d;
        is = w.0.turns.is;
        holds = w.0.turns.becomes.holds ∙ sized;
        stamp = stamp_there (t.at (suc d.0)) f g.leads.attr s w.0.turns.new (subst (λ (z : Option Attr). TrueOf (t.at (suc d.0)) f z) g.leads.after w.1.after) w.0.turns.is g.leads.is;
      };
    }
    by (Entries list) is sized = absurd sized
    by (Text text) is sized = absurd sized

seen_below : (t : History) → Lawful t → (f : List ℕ) (old s : Stamp) (i v size : ℕ) → ((n : ℕ) (now : List ℕ) → HasStamp t n f old now → slice_get now i ≡ Some v) → Sized t f size old s → i < size → Seen t f s i v
seen_below t l f old s i v size was g lt =
    let r = resized_so t l f old s size g in
    record { n = suc r.n; now = resized size r.now; has = r.after; byte = resized_keeps size r.now i v lt (was r.n r.now r.before) }

-- the size in a file's stamp is the number of its bytes
same_now : (a b c d : List ℕ) → Bytes a b ≡ Bytes c d → a ≡ c
same_now a b c d e = cc

size_of : (o : Object) (now stable : List ℕ) → IsSound o → o.holds ≡ Bytes now stable → o.attr.size ≡ length now
size_of o now stable (file now_too stable_too e kind size fits) held = size ∙ ap length (same_now now_too stable_too now stable (sym e ∙ held))
size_of o now stable (directory entries e kind cookies) held = absurd (cc (sym e ∙ held))
size_of o now stable (other text e a b) held = absurd (cc (sym e ∙ held))

size_there : (t : History) → Lawful t → (n : ℕ) (f : List ℕ) (s : Stamp) (now : List ℕ) → HasStamp t n f s now → s.size ≡ length now
size_there t l n f s now h = ap (λ (z : Stamp). z.size) (sym h.stamp) ∙ size_of h.file now h.stable (l.servers n h.moment f h.file h.is) h.holds

seen_gap : (t : History) → Lawful t → (f : List ℕ) (old s : Stamp) (i offset counted : ℕ) (bytes : List ℕ) → Written t f offset counted bytes old s → 1 ≤ counted → old.size ≤ i → i < offset → Seen t f s i 0
seen_gap t l f old s i offset counted bytes g some le lt =
    let d = g.done in
    let w = writes (t.at d.0) (t.at (suc d.0)) f offset g.how counted g.committed bytes g.wcc g.verf (serves t l _ _ d) in
    let before = put_before t d.0 f old g.wcc w.now w.stable _ _ (later t _ _ d) w.puts w.shows.before g.leads.before in
    let size = size_there t l d.0 f old w.now before in
    let long = length-take counted bytes in
    record {
      n = suc d.0;
      now = put_at offset (take counted bytes) w.now;
      has = put_after t d.0 f s g.wcc.after g.leads.attr w.now w.stable _ _ (later t _ _ d) w.puts w.shows.after g.leads.after g.leads.is;
      byte = put_gap offset (take counted bytes) w.now i (omega (arith, long, w.most, some)) (omega (arith, size, le)) lt;
    }

seen_grown : (t : History) → Lawful t → (f : List ℕ) (old s : Stamp) (i size : ℕ) → Sized t f size old s → old.size ≤ i → i < size → Seen t f s i 0
seen_grown t l f old s i size g le lt =
    let r = resized_so t l f old s size g in
    let long = size_there t l r.n f old r.now r.before in
    record { n = suc r.n; now = resized size r.now; has = r.after; byte = resized_zero size r.now i (omega (arith, long, le)) lt }

pub true_byte : (t : History) → Lawful t → Fresh t → (f : List ℕ) (s : Stamp) (i v : ℕ) → KeptByte t f s i v → (n : ℕ) (now : List ℕ) → HasStamp t n f s now → slice_get now i ≡ Some v
true_byte t l fresh f _ _ _ (read s i v offset k bytes g place byte) = everywhere t l fresh f s i v (seen_read t l f s i v offset k bytes g place byte)
true_byte t l fresh f _ _ _ (written old s i v offset counted k bytes g place lt byte) = everywhere t l fresh f s i v (seen_written t l f old s i v offset counted k bytes g place lt byte)
true_byte t l fresh f _ _ _ (beside old s i v offset counted bytes had g apart) = everywhere t l fresh f s i v (seen_beside t l f old s i v offset counted bytes (true_byte t l fresh f old i v had) g apart)
true_byte t l fresh f _ _ _ (below old s i v size had g lt) = everywhere t l fresh f s i v (seen_below t l f old s i v size (true_byte t l fresh f old i v had) g lt)
true_byte t l fresh f _ _ _ (gap old s i v offset counted bytes g some le lt is) = everywhere t l fresh f s i v (subst (λ (z : ℕ). Seen t f s i z) (sym is) (seen_gap t l f old s i offset counted bytes g some le lt))
true_byte t l fresh f _ _ _ (grown old s i v size g le lt is) = everywhere t l fresh f s i v (subst (λ (z : ℕ). Seen t f s i z) (sym is) (seen_grown t l f old s i size g le lt))
