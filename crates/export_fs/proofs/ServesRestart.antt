-- A restart, and a range that becomes stable, are what a server may do (RFC 1813, section 4.8).
use Rattle.std.proofs.Common.{◌≡◌, ◌≢◌, ◌<◌, ◌≤◌, ◌+◌, not, ℕ, zero, suc, true, false, List, [], ◌∷◌, length, Option, Some, None, refl, sym, ap, subst, ◌∙◌, arith, ⊎_elim, ◌==◌, slice_get, option_map, nat_lt, nat_le, if◌then◌else◌, append-nil}
use Rattle.std.specs.Prelude.{is_none}
use Rattle.std.specs.Str.{bytes_eq}
use Rattle.std.proofs.lemmas.Bool.{cases_Bool, and_parts, ltb-true, leb-true, not-true, not-false}
use Rattle.std.proofs.lemmas.Slice.Eq.{bytes_eq-Decides}
use Rattle.nfs_types.specs.declared.verf.Verf.{Verf}
use Rattle.xdr_codec.specs.Bytes.{IsBytes}
use Rattle.xdr_codec.specs.Spelling.{u64_bytes}
use Rattle.byteorder.specs.Endian.{big_number}
use Rattle.byteorder.specs.Numbers.{big_number-reads_back}
use Rattle.world_model.specs.Bytes.{put_at, committed_part}
use Rattle.world_model.specs.Server.{Bytes, Object}
use Rattle.world_model.specs.Lawful.{Flushes, IsLeft, same, lost, IsSteady}
use Rattle.export_fs.specs.declared.node.Holds.{Holds}
use Rattle.export_fs.specs.declared.node.Holds.TheVariants.{File, Directory, Link}
use Rattle.export_fs.specs.declared.node.Node.{Node}
use Rattle.export_fs.specs.Held.{Content}
use Rattle.export_fs.specs.View.{View}
use Rattle.export_fs.specs.Parts.{last_number, handle_of, place_of, kind, kind_in, kind_of, object, size_of, rows_of, verifier}
use Rattle.export_fs.specs.Refusals.{is_stale}
use Rattle.export_fs.specs.Later.{RestartsLater}
use Rattle.export_fs.specs.Changes.{with_stable, committed}
use Rattle.export_fs.specs.Restart.{is_unsteady, steady, restarted, all_restarted, numbers_taken, may_restart, after_restart, after_flush}
use Rattle.export_fs.specs.Seen.{server_of, object_of, held_of}
use Rattle.export_fs.specs.Sound.{Sound, IsHeld, IsCounted, names_of, names_in}
use Rattle.export_fs.proofs.ServerOfExport.{Found, found, nothing, a_place, sees, seen_place, seen_here, seen_by_place, has_found, OneChanged, one_seen, one_only}
use Rattle.export_fs.proofs.ServesFileCalls.{kind_found, file_by_kind}
use Rattle.export_fs.proofs.ContentStaysSound.{held_committed, held_steady}
use Rattle.export_fs.proofs.SoundAfterChange.{CountsSame, counted_same, same_counts, root_same, one_stays}

-- ---- the objects after a restart

-- an object is left as it was, or with its stable bytes
abbrev left_as : ℕ → Node → Node
left_as number node = if is_unsteady node then restarted number node else node

pub record LeftAt (counter : ℕ) (nodes : List Node) (place : ℕ) (node : Node) : Type 0 where
  pub number : ℕ
  pub is : slice_get (all_restarted counter nodes) place ≡ Some (left_as number node)

pub left_at : (counter : ℕ) (nodes : List Node) (place : ℕ) (node : Node) → slice_get nodes place ≡ Some node → LeftAt counter nodes place node
left_at counter [] place node e = absurd (cc)
left_at counter (n ∷ nodes) zero node e =
    let s : n ≡ node = cc in
    ⊎_elim (λ (u : is_unsteady n ≡ true).
    let a : all_restarted counter (n ∷ nodes) ≡ restarted (counter + 1) n ∷ all_restarted (counter + 1) nodes = simp u in
    let b : left_as (counter + 1) n ≡ restarted (counter + 1) n = simp u in
    record { number = counter + 1; is = ap (λ (x : List Node). slice_get x 0) a ∙ ap (λ (x : Node). Some x) (sym b) ∙ ap (λ (x : Node). Some (left_as (counter + 1) x)) s })
    (λ (u : is_unsteady n ≡ false).
    let a : all_restarted counter (n ∷ nodes) ≡ n ∷ all_restarted counter nodes = simp u in
    let b : left_as (counter + 1) n ≡ n = simp u in
    record { number = counter + 1; is = ap (λ (x : List Node). slice_get x 0) a ∙ ap (λ (x : Node). Some x) (sym b) ∙ ap (λ (x : Node). Some (left_as (counter + 1) x)) s })
    (cases_Bool (is_unsteady n))
left_at counter (n ∷ nodes) (suc place) node e =
    ⊎_elim (λ (u : is_unsteady n ≡ true).
    let p = left_at (counter + 1) nodes place node e in
    let a : all_restarted counter (n ∷ nodes) ≡ restarted (counter + 1) n ∷ all_restarted (counter + 1) nodes = simp u in
    record { number = p.number; is = ap (λ (x : List Node). slice_get x (suc place)) a ∙ p.is })
    (λ (u : is_unsteady n ≡ false).
    let p = left_at counter nodes place node e in
    let a : all_restarted counter (n ∷ nodes) ≡ n ∷ all_restarted counter nodes = simp u in
    record { number = p.number; is = ap (λ (x : List Node). slice_get x (suc place)) a ∙ p.is })
    (cases_Bool (is_unsteady n))

restart_length : (counter : ℕ) (nodes : List Node) → length (all_restarted counter nodes) ≡ length nodes
restart_length counter [] = refl
restart_length counter (n ∷ nodes) =
    ⊎_elim (λ (u : is_unsteady n ≡ true).
    let a : all_restarted counter (n ∷ nodes) ≡ restarted (counter + 1) n ∷ all_restarted (counter + 1) nodes = simp u in
    ap length a ∙ ap suc (restart_length (counter + 1) nodes))
    (λ (u : is_unsteady n ≡ false).
    let a : all_restarted counter (n ∷ nodes) ≡ n ∷ all_restarted counter nodes = simp u in
    ap length a ∙ ap suc (restart_length counter nodes))
    (cases_Bool (is_unsteady n))

steady_rows : (holds : Holds) → rows_of (steady holds) ≡ rows_of holds
steady_rows (File content) = refl
steady_rows (Directory listing) = refl
steady_rows (Link text) = refl

steady_kind : (holds : Holds) → kind_of (steady holds) ≡ kind_of holds
steady_kind (File content) = refl
steady_kind (Directory listing) = refl
steady_kind (Link text) = refl

restart_names : (place counter : ℕ) (nodes : List Node) → names_of place (all_restarted counter nodes) ≡ names_of place nodes
restart_names place counter [] = refl
restart_names place counter (n ∷ nodes) =
    ⊎_elim (λ (u : is_unsteady n ≡ true).
    let a : all_restarted counter (n ∷ nodes) ≡ restarted (counter + 1) n ∷ all_restarted (counter + 1) nodes = simp u in
    omega (arith, ap (names_of place) a, restart_names place (counter + 1) nodes, ap (names_in place) (steady_rows n.holds)))
    (λ (u : is_unsteady n ≡ false).
    let a : all_restarted counter (n ∷ nodes) ≡ n ∷ all_restarted counter nodes = simp u in
    omega (arith, ap (names_of place) a, restart_names place counter nodes))
    (cases_Bool (is_unsteady n))

-- ---- an object before, from one after

none_after : (c : ℕ) (ns : List Node) (p : ℕ) (a : Node) → slice_get (all_restarted c ns) p ≡ Some a → slice_get ns p ≡ None → ⊥
none_after c [] p a e g = absurd (cc)
none_after c (n ∷ ns) zero a e g = absurd (cc)
none_after c (n ∷ ns) (suc p) a e g =
    ⊎_elim (λ (u : is_unsteady n ≡ true). let f : slice_get (all_restarted (c + 1) ns) p ≡ Some a = simp u at e in none_after (c + 1) ns p a f g)
    (λ (u : is_unsteady n ≡ false). let f : slice_get (all_restarted c ns) p ≡ Some a = simp u at e in none_after c ns p a f g)
    (cases_Bool (is_unsteady n))

there_within : (counter : ℕ) (nodes : List Node) (place : ℕ) (after : Node) → slice_get (all_restarted counter nodes) place ≡ Some after → (o : Option Node) → slice_get nodes place ≡ o → (node : Node) × (slice_get nodes place ≡ Some node)
there_within counter nodes place after e (Some node) g = (node, g)
there_within counter nodes place after e None g = absurd (none_after counter nodes place after e g)

left_counts : (number : ℕ) (node : Node) → CountsSame node (left_as number node)
left_counts number node =
    ⊎_elim (λ (u : is_unsteady node ≡ true). let a : left_as number node ≡ restarted number node = simp u in subst (CountsSame node) (sym a) (record { kind = steady_kind node.holds; gone = refl; nlink = refl }))
    (λ (u : is_unsteady node ≡ false). let a : left_as number node ≡ node = simp u in subst (CountsSame node) (sym a) (same_counts node))
    (cases_Bool (is_unsteady node))

left_held : (count place number : ℕ) (node : Node) → IsHeld count place node.holds → IsHeld count place (left_as number node).holds
left_held count place number node h =
    ⊎_elim (λ (u : is_unsteady node ≡ true). let a : left_as number node ≡ restarted number node = simp u in subst (λ (n : Node). IsHeld count place n.holds) (sym a) (held_steady count place node.holds h))
    (λ (u : is_unsteady node ≡ false). let a : left_as number node ≡ node = simp u in subst (λ (n : Node). IsHeld count place n.holds) (sym a) h)
    (cases_Bool (is_unsteady node))

-- an object afterwards is one before, left so
record LeftFrom (view : View) (place : ℕ) (after : Node) : Type 0 where
  node : Node
  there : slice_get view.nodes place ≡ Some node
  number : ℕ
  is : left_as number node ≡ after

left_from : (v : View) (place : ℕ) (after : Node) → slice_get (after_restart v).nodes place ≡ Some after → LeftFrom v place after
left_from v place after e =
    let n = there_within v.counter v.nodes place after e (slice_get v.nodes place) refl in
    let l = left_at v.counter v.nodes place n.0 n.1 in
    let s : Some (left_as l.number n.0) ≡ Some after = sym l.is ∙ e in
    record { node = n.0; there = n.1; number = l.number; is = cc }

pub restart_stays : (v : View) → Sound v → may_restart v ≡ true → Sound (after_restart v)
restart_stays v s m =
    let p = and_parts (nat_lt v.reboots last_number) (nat_le (v.counter + numbers_taken v.nodes) last_number) m in
    let w = after_restart v in
    let len = restart_length v.counter v.nodes in
    let r = left_at v.counter v.nodes 0 s.root.0 s.root.1 in
    record {
      places = omega (arith, s.places, len);
      numbers = leb-true (v.counter + numbers_taken v.nodes) last_number p.1;
      reboots = omega (arith, ltb-true v.reboots last_number p.0);
      root = (left_as r.number s.root.0, r.is, root_same s.root.0 (left_as r.number s.root.0) (left_counts r.number s.root.0) s.root.2);
      held = λ place after e.
          let l = left_from v place after e in
          subst (λ (k : ℕ). IsHeld k place after.holds) (sym len) (subst (λ (n : Node). IsHeld (length v.nodes) place n.holds) l.is (left_held (length v.nodes) place l.number l.node (s.held place l.node l.there)));
      counted = λ place after e.
          let l = left_from v place after e in
          subst (λ (k : ℕ). IsCounted k place after) (sym (restart_names place v.counter v.nodes))
          (subst (IsCounted (names_of place v.nodes) place) l.is (counted_same (names_of place v.nodes) place l.node (left_as l.number l.node) (left_counts l.number l.node) (s.counted place l.node l.there)));
      few = λ place. omega (arith, s.few place, restart_names place v.counter v.nodes);
    }

-- ---- what a restart leaves

verifier_number : (v : View) → v.reboots ≤ last_number → big_number 8 (verifier v).0 ≡ v.reboots + 1
unfolding u64_bytes
verifier_number v l = ap (big_number 8) (sym (append-nil (u64_bytes (v.reboots + 1)))) ∙ big_number-reads_back 8 (v.reboots + 1) [] (omega arith)

verifier_new : (u w : View) → u.reboots < w.reboots → w.reboots ≤ last_number → verifier u ≢ verifier w
verifier_new u w l m e = omega (arith, verifier_number u (omega arith), verifier_number w m, ap (λ (f : Verf). big_number 8 f.0) e)

unsteady_file : (node : Node) (content : Content) → node.holds ≡ File content → is_unsteady node ≡ not (bytes_eq content.bytes content.stable)
unsteady_file node content e = ap (λ (h : Holds). is_unsteady (record node { holds = h })) e

unsteady_kind : (node : Node) (holds : Holds) → node.holds ≡ holds → is_unsteady node ≡ true → (content : Content) × (node.holds ≡ File content) × (content.bytes ≢ content.stable)
unsteady_kind node (File content) e u = (
  content,
  e,
  λ q.
      let t : bytes_eq content.bytes content.stable ≡ true = (bytes_eq-Decides content.bytes content.stable).1 q in
      let f : bytes_eq content.bytes content.stable ≡ false = not-true _ (sym (unsteady_file node content e) ∙ u) in
      absurd (cc),
)
unsteady_kind node (Directory listing) e u = let f : is_unsteady node ≡ false = ap (λ (h : Holds). is_unsteady (record node { holds = h })) e in absurd (cc)
unsteady_kind node (Link text) e u = let f : is_unsteady node ≡ false = ap (λ (h : Holds). is_unsteady (record node { holds = h })) e in absurd (cc)

-- what is left of the object at a place
left_object : (place number : ℕ) (node : Node) → IsLeft (Some (object_of place node)) (Some (object_of place (left_as number node)))
left_object place number node =
    ⊎_elim (λ (u : is_unsteady node ≡ true).
    let c = unsteady_kind node node.holds refl u in
    let a : left_as number node ≡ restarted number node = simp u in
    lost (object_of place node) (object_of place (restarted number node)) c.0.bytes c.0.stable refl (ap (λ (n : Node). Some (object_of place n)) a) (ap held_of c.1) c.2
    (record { holds = ap (λ (h : Holds). held_of (steady h)) c.1; gone = refl; kind = steady_kind node.holds; fileid = refl }))
    (λ (u : is_unsteady node ≡ false). let a : left_as number node ≡ node = simp u in same (ap (λ (n : Node). Some (object_of place n)) a))
    (cases_Bool (is_unsteady node))

not_there : (v : View) (p : ℕ) → p < last_number → slice_get v.nodes p ≡ None → (o : Option Node) → slice_get (after_restart v).nodes p ≡ o → (server_of (after_restart v)).object (handle_of p) ≡ None
not_there v p l e None g = seen_place (after_restart v) p l ∙ ap (option_map (object_of p)) g
not_there v p l e (Some after) g = absurd (none_after v.counter v.nodes p after g e)

place_left : (v : View) (p : ℕ) → p < last_number → (o : Option Node) → slice_get v.nodes p ≡ o → IsLeft ((server_of v).object (handle_of p)) ((server_of (after_restart v)).object (handle_of p))
place_left v p l (Some node) e =
    let r = left_at v.counter v.nodes p node e in
    subst (λ (x : Option Object). IsLeft x ((server_of (after_restart v)).object (handle_of p))) (sym (seen_here v p node l e))
    (subst (IsLeft (Some (object_of p node))) (sym (seen_here (after_restart v) p (left_as r.number node) l r.is)) (left_object p r.number node))
place_left v p l None e = same (not_there v p l e (slice_get (after_restart v).nodes p) refl ∙ sym (seen_place v p l ∙ ap (option_map (object_of p)) e))

restart_left : (v : View) (f : List ℕ) → IsLeft ((server_of v).object f) ((server_of (after_restart v)).object f)
restart_left v f =
    elim (sees f) [
      | nothing n ↦ same (n (after_restart v) ∙ sym (n v))
      | a_place p l is ↦ subst (λ (x : List ℕ). IsLeft ((server_of v).object x) ((server_of (after_restart v)).object x)) (sym is) (place_left v p l (slice_get v.nodes p) refl)
    ]

-- a file that was left so has all its bytes stable
steady_held : (holds : Holds) (now stable : List ℕ) → held_of (steady holds) ≡ Bytes now stable → now ≡ stable
steady_held (File content) now stable e = cc
steady_held (Directory listing) now stable e = absurd (cc)
steady_held (Link text) now stable e = absurd (cc)

held_file : (holds : Holds) (now stable : List ℕ) → held_of holds ≡ Bytes now stable → holds ≡ File (record { bytes = now; stable = stable })
held_file (File content) now stable e = let a : content.bytes ≡ now = cc in let b : content.stable ≡ stable = cc in ap (λ (x : List ℕ). File (record { bytes = x; stable = content.stable })) a ∙ ap (λ (x : List ℕ). File (record { bytes = now; stable = x })) b
held_file (Directory listing) now stable e = absurd (cc)
held_file (Link text) now stable e = absurd (cc)

left_steady : (number : ℕ) (node : Node) (now stable : List ℕ) → held_of (left_as number node).holds ≡ Bytes now stable → now ≡ stable
left_steady number node now stable e =
    ⊎_elim (λ (u : is_unsteady node ≡ true).
    let a : left_as number node ≡ restarted number node = simp u in
    steady_held node.holds now stable (ap (λ (n : Node). held_of n.holds) (sym a) ∙ e))
    (λ (u : is_unsteady node ≡ false).
    let a : left_as number node ≡ node = simp u in
    let f = held_file node.holds now stable (ap (λ (n : Node). held_of n.holds) (sym a) ∙ e) in
    let b : not (bytes_eq now stable) ≡ false = sym (unsteady_file node (record { bytes = now; stable = stable }) f) ∙ u in
    (bytes_eq-Decides now stable).0 (not-false _ b))
    (cases_Bool (is_unsteady node))

restart_steady : (v : View) (f : List ℕ) → IsSteady ((server_of (after_restart v)).object f)
restart_steady v f o now stable e h =
    let p = seen_by_place (after_restart v) f o e in
    let l = left_from v p.place p.node p.there in
    left_steady l.number l.node now stable (ap (λ (n : Node). held_of n.holds) l.is ∙ ap (λ (x : Object). x.holds) (sym p.object) ∙ h)

pub restarts : (v : View) → may_restart v ≡ true → RestartsLater v (after_restart v)
restarts v m =
    let p = and_parts (nat_lt v.reboots last_number) (nat_le (v.counter + numbers_taken v.nodes) last_number) m in
    let l : v.reboots < last_number = ltb-true v.reboots last_number p.0 in
    record { new = λ u e. verifier_new u (after_restart v) (omega arith) (omega arith); left = restart_left v; steady = restart_steady v }

-- ---- a range becomes stable

part_kind : (start count : ℕ) (holds : Holds) → kind_of (with_stable start count holds) ≡ kind_of holds
part_kind start count (File content) = refl
part_kind start count (Directory listing) = refl
part_kind start count (Link text) = refl

part_size : (start count : ℕ) (holds : Holds) → size_of (with_stable start count holds) ≡ size_of holds
part_size start count (File content) = refl
part_size start count (Directory listing) = refl
part_size start count (Link text) = refl

part_rows : (start count : ℕ) (holds : Holds) → rows_of (with_stable start count holds) ≡ rows_of holds
part_rows start count (File content) = refl
part_rows start count (Directory listing) = refl
part_rows start count (Link text) = refl

pub flush_stays : (v : View) → Sound v → (file : List ℕ) (start count : ℕ) → Sound (after_flush v file start count)
flush_stays v s file start count =
    one_stays v (after_flush v file start count) s (committed start count) (place_of file)
    (record {
      nodes = refl;
      reboots = refl;
      above = omega arith;
      below = s.numbers;
      counts = λ node. record { kind = part_kind start count node.holds; gone = refl; nlink = refl };
      rows = λ node. part_rows start count node.holds;
      held = λ n q node h. held_committed n q start count node.holds h;
    })

-- its attributes stay
flushed_object : (place start count : ℕ) (node : Node) (content : Content) → node.holds ≡ File content
    → object_of place (committed start count node) ≡ record { attr = (object_of place node).attr; gone = node.gone; holds = Bytes content.bytes (put_at start (committed_part start count content.bytes) content.stable) }
flushed_object place start count node content e =
    let f : held_of (with_stable start count node.holds) ≡ Bytes content.bytes (put_at start (committed_part start count content.bytes) content.stable) = ap (λ (h : Holds). held_of (with_stable start count h)) e in
    simp (part_kind start count node.holds, part_size start count node.holds, f)

pub flushes : (v : View) (file : List ℕ) (start count : ℕ) (f : Found v file) (content : Content) → f.node.holds ≡ File content → Flushes (server_of v) (server_of (after_flush v file start count)) file start count
flushes v file start count f content e =
    let w = after_flush v file start count in
    let c : OneChanged v w file f (committed start count) = record { nodes = refl; reboots = refl; gone = refl; kind = part_kind start count f.node.holds } in
    record {
      file = object_of f.place f.node;
      now = content.bytes;
      stable = content.stable;
      has = has_found v file f;
      held = ap held_of e;
      is = one_seen v w file f (committed start count) c ∙ ap (λ (o : Object). Some o) (flushed_object f.place start count f.node content e);
      only = one_only v w file f (committed start count) c;
    }

there_by_kind : (v : View) (h : List ℕ) → kind v.nodes h ≡ 1 → is_stale v.nodes h ≡ false
there_by_kind v h k = by_node (object v.nodes h) refl where
  by_node : (o : Option Node) → object v.nodes h ≡ o → is_stale v.nodes h ≡ false
  by_node None e = let z : kind_in None ≡ 1 = ap kind_in (sym e) ∙ k in absurd (cc)
  by_node (Some node) e = ap is_none e

-- a file handle of a file that is there
pub flushes_file : (v : View) (file : List ℕ) (start count : ℕ) → IsBytes file → kind v.nodes file ≡ 1 → Flushes (server_of v) (server_of (after_flush v file start count)) file start count
flushes_file v file start count b k =
    let f = found v file b (there_by_kind v file k) in
    let kind_is : kind_of f.node.holds ≡ 1 = sym (kind_found v file f) ∙ k in
    let c = file_by_kind f.node.holds (ap (λ (n : ℕ). n == 2) kind_is) (ap (λ (n : ℕ). n == 5) kind_is) in
    flushes v file start count f c.0 c.1
