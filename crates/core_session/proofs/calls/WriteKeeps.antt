-- A WRITE that is sent carries a piece in flight, so no more bytes than the session's size.
use Rattle.core_session.proofs.Prelude.{◌≡◌, ℕ, List, length, sym, ap, ◌∙◌, arith, of_file, Entry, Call, Terms, Mounted, machine_of, Setup, View, begins-unbegun, Expects, expects-laws, written_file, IsInFlight, writes-whole, IsSession}
use Rattle.nfs_file_calls.specs.declared.call.FileCall.TheVariants as files
use Rattle.world_model.specs.declared.message.Call.TheVariants as calls
use Rattle.claims.specs.CallsAsked.{IsWrite}
use Rattle.world_model.proofs.Growth.{Sized-wide}
use Rattle.core_session.proofs.calls.Causes.{Spelt, under-now, rooted-here}
use Rattle.core_session.proofs.calls.Outgoing.{Outgoing, sent-by}
use Rattle.core_session.proofs.calls.Sizes.{reached-short, short-under}

write-bytes : (f g : List ℕ) (offset other how its : ℕ) (bytes text : List ℕ) → calls.File (files.Write f offset how bytes) ≡ calls.File (files.Write g other its text) → bytes ≡ text
write-bytes f g offset other how its bytes text e = cc

write-place : (f g : List ℕ) (offset other how its : ℕ) (bytes text : List ℕ) → calls.File (files.Write f offset how bytes) ≡ calls.File (files.Write g other its text) → offset ≡ other
write-place f g offset other how its bytes text e = cc

module _ (m : Mounted) (terms : Terms) (setup : Setup) (h : List Entry) (v : View) (s : IsSession m terms setup h v) (i : ℕ) (bytes : List ℕ)
    (w : Outgoing (machine_of m) (begins-unbegun m) setup h i bytes) where
  abbrev pub Its : Call
  Its = Spelt m terms setup h v s i bytes w

  -- the piece that it carries
  pub in-flight : (f text : List ℕ) (offset how : ℕ) → Its ≡ calls.File (files.Write f offset how text) → IsInFlight w.xid f Its w.old.shelf.back
  in-flight f text offset how is =
      writes-whole m setup w.before w.old w.reached w.found w.xid Its f
      (record { waiting = w.waiting; waits = w.waits; spells = sent-by (machine_of m) (begins-unbegun m) setup Expects expects-laws h i bytes w })
      (ap written_file is)

  pub piece-bytes : (f text : List ℕ) (offset how : ℕ) (is : Its ≡ calls.File (files.Write f offset how text)) → text ≡ (in-flight f text offset how is).piece.bytes
  piece-bytes f text offset how is =
      let k = in-flight f text offset how is in
      write-bytes f f offset k.piece.offset how k.piece.how text k.piece.bytes (sym is ∙ k.is)

  pub piece-place : (f text : List ℕ) (offset how : ℕ) (is : Its ≡ calls.File (files.Write f offset how text)) → offset ≡ (in-flight f text offset how is).piece.offset
  piece-place f text offset how is =
      let k = in-flight f text offset how is in
      write-place f f offset k.piece.offset how k.piece.how text k.piece.bytes (sym is ∙ k.is)

  pub writes-keep : (f text : List ℕ) (offset how : ℕ) → Its ≡ calls.File (files.Write f offset how text) → IsWrite terms h i (length text)
  writes-keep f text offset how is =
      let k = in-flight f text offset how is in
      let short = short-under setup.wsize w.xid (of_file f w.old.shelf.back).pieces k.piece (reached-short m setup w.before w.old w.reached w.found f) k.there in
      let same = ap length (piece-bytes f text offset how is) in
      let under = under-now m terms setup h v s i bytes w in
      let since = under.before in
      record {
        root = m.root;
        wsize = setup.wsize;
        rooted = rooted-here m terms setup h v s i bytes w;
        sized = Sized-wide h w.x i m.root terms.wsize setup.wsize (omega (arith, since)) (s.sizes w.x w.waiting.purpose.lane under.line w.op under.began).1;
        fits = omega (arith, short, same);
      }
