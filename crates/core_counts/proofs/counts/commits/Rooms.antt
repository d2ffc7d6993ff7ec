-- In a session whose writes, fills and puts together have no more bytes than it holds back, each put finds room for its bytes.
use Rattle.core_counts.proofs.Prelude.{◌≡◌, ◌<◌, ◌≤◌, inl, inr, ◌+◌, ◌++◌, ℕ, Bool, true, false, List, [], ◌∷◌, length, append_assoc, Result, refl, sym, ap, subst, ◌∙◌, arith, ltb-true, Pending, all_pending, Placed, HasBegan, IsWriter, most_pending, WriterAt, Fault, Entry, Began, Reply, Op, At, At-grow, Shelf, is_full, PutFile, Putting, Text, Mounted, FileMachine, Machine, PathMachine, file_of, Setup, Entered, Room, reached-room, stage_of, counts-cons, each-map, all-each, different-apart}
use Rattle.core_session.proofs.room.Entered.{IsPut}
use Rattle.core_session.proofs.room.Rooms.{Stands}
use Rattle.write_back.specs.Sound as backs
use Rattle.claims.specs.Asks as asks
use Rattle.world_model.specs.declared.op.Op.TheVariants as ops
use Rattle.file_ops.specs.WriteFile.{made_bytes, text_bytes}
use Rattle.file_ops.specs.declared.put_file.Putting.TheVariants as putting
use Rattle.file_ops.specs.declared.write_file.Text.TheVariants as texts
use Rattle.op_machines.specs.declared.file_machine.FileMachine.TheVariants as files
use Rattle.op_machines.specs.declared.machine.Machine.TheVariants as machines
use Rattle.core_session.proofs.room.Stages.{putting as putting_stage, file_stage, path_stage}
use Rattle.core_counts.proofs.counts.commits.WithRoom.{HasRoom}
use Rattle.core_counts.proofs.counts.commits.Laws.{MachineRoom, PathRoom, FileRoom}
use Rattle.core_counts.proofs.counts.commits.Puts.{PutRoom}
use Rattle.core_counts.proofs.counts.engine.Laws.{Before, Seen, came_now, never_made}

put-writes : (op : Op) → IsPut op → IsWriter op
put-writes (ops.Put path offset bytes) is = asks.put path offset bytes refl
put-writes (ops.OpenFile slot mode path) is = absurd is
put-writes (ops.Read slot offset count) is = absurd is
put-writes (ops.Write slot offset bytes) is = absurd is
put-writes (ops.Fill slot offset count byte) is = absurd is
put-writes (ops.Sync slot) is = absurd is
put-writes (ops.Close slot) is = absurd is
put-writes (ops.Truncate slot size) is = absurd is
put-writes (ops.Stat path) is = absurd is
put-writes (ops.Access path bits) is = absurd is
put-writes (ops.ReadLink path) is = absurd is
put-writes (ops.MakeDir path) is = absurd is
put-writes (ops.RemoveDir path) is = absurd is
put-writes (ops.Remove path) is = absurd is
put-writes (ops.Rename from to) is = absurd is
put-writes (ops.Link from to) is = absurd is
put-writes (ops.SymLink path target) is = absurd is
put-writes (ops.List path) is = absurd is

full-most : (bytes : List ℕ) (b : Pending) → is_full bytes b ≡ true → most_pending < all_pending b + length bytes
unfolding backs.most_pending
full-most bytes b full = ltb-true most_pending (all_pending b + length bytes) full

not-full : (bytes : List ℕ) (b : Pending) → all_pending b + length bytes ≤ most_pending → is_full bytes b ≡ false
not-full bytes b few = by (is_full bytes b) refl
  where
    by : (c : Bool) → is_full bytes b ≡ c → c ≡ false
    by true full = let more = full-most bytes b full in absurd (omega (arith, more, few))
    by false full = refl

made-text : (text : Text) → length (made_bytes text) ≤ length (text_bytes text)
made-text (texts.Given bytes) = omega arith
made-text (texts.Fill count byte) = omega arith

module _ (m : Mounted) (setup : Setup) (H : List Entry) (room : HasRoom H) where
  module _ (h : List Entry) (x : ℕ) (op : Op) (machine : Machine) (old : Shelf) (b : Before m setup H h x op machine old) where
    stood : Room b.k b.view
    stood = reached-room m setup b.k b.view b.reached b.found

    stands : Stands stood.writers x op (stage_of machine)
    stands = stood.stand b.at _ b.there x op b.under

    grown : H ≡ b.k ++ (b.e ∷ b.rest)
    grown = b.goes ∙ ap (λ (z : List Entry). z ++ b.rest) b.is ∙ append_assoc b.k (b.e ∷ []) b.rest

    began-there : (y lane line : ℕ) (its : Op) → At b.k y (Began lane line its) → HasBegan H (y, its)
    began-there y lane line its at =
        (lane, line, subst (λ (z : List Entry). At z y (Began lane line its)) (sym grown) (At-grow b.k (b.e ∷ b.rest) y (Began lane line its) at))

    writer : (o : Placed) → Entered b.k b.view.lanes o → WriterAt H o
    writer o e = record { began = began-there o.0 e.began.0 e.began.1 o.1 e.began.2; writes = e.writes }

    own-writer : IsPut op → WriterAt H (x, op)
    own-writer is = record { began = began-there x b.number b.under.line op b.under.began; writes = put-writes op is }

    fits : (size : ℕ) (before : Bool) → stage_of machine ≡ putting_stage size before → all_pending old.back + size ≤ most_pending
    fits size before is =
        let s = subst (Stands stood.writers x op) is stands in
        let all = room ((x, op) ∷ stood.writers) (different-apart ((x, op) ∷ stood.writers) (s.new, stood.apart))
        (all-each (WriterAt H) ((x, op) ∷ stood.writers) (own-writer s.suits.0, each-map (Entered b.k b.view.lanes) (WriterAt H) writer stood.writers stood.each)) in
        let sum = counts-cons (x, op) stood.writers in
        let few = s.suits.1 in
        let bound = stood.bound in
        let same : all_pending b.view.shelf.back ≡ all_pending old.back = ap (λ (z : Shelf). all_pending z.back) b.shelf in
        omega (arith, all, sum, few, bound, same)

  -- ---- a put whose bytes aren't pending yet

  module _ (f : List ℕ) (h : List Entry) (x : ℕ) (op : Op) (came : Result Reply Fault) (old : Shelf) where
    put-room : (machine : Machine) (p : PutFile) → stage_of machine ≡ file_stage (files.Put p) → (at : Putting) → p.state ≡ at → Seen m setup H h x op machine came old → PutRoom f at p came old
    put-room machine p stage putting.Opens is (came_now b) =
        let staged : stage_of machine ≡ putting_stage (length (text_bytes p.write.text)) false = stage ∙ ap (λ (s : Putting). file_stage (files.Put (record p { state = s }))) is in
        let few = fits h x op machine old b (length (text_bytes p.write.text)) false staged in
        let made = made-text p.write.text in
        inr (not-full (made_bytes p.write.text) old.back (omega (arith, few, made)))
    put-room machine p stage putting.Opens is (never_made fault unmade) = inl (fault, unmade)
    put-room machine p stage putting.Idle is seen = tt
    put-room machine p stage (putting.Adds file) is seen = tt
    put-room machine p stage (putting.Saves s) is seen = tt

    file-room : (machine : Machine) (k : FileMachine) → stage_of machine ≡ file_stage k → Seen m setup H h x op machine came old → FileRoom f k came old
    file-room machine (files.Put p) stage seen = put-room machine p stage p.state refl seen
    file-room machine (files.Open k) stage seen = tt
    file-room machine (files.Read k) stage seen = tt
    file-room machine (files.Write k) stage seen = tt
    file-room machine (files.Sync k) stage seen = tt
    file-room machine (files.Close k) stage seen = tt
    file-room machine (files.Truncate k) stage seen = tt

    path-room : (k : PathMachine) (b : Bool) → k.arrived ≡ b → Seen m setup H h x op (machines.Path k) came old → PathRoom f b k.opener came old
    path-room k true is seen = file-room (machines.Path k) (file_of k.opener) (ap (λ (b : Bool). path_stage b k.opener) is) seen
    path-room k false is seen = tt

    pub machine-room : (machine : Machine) → Seen m setup H h x op machine came old → MachineRoom f machine came old
    machine-room (machines.File k) seen = file-room (machines.File k) k refl seen
    machine-room (machines.Path k) seen = path-room k k.arrived refl seen
    machine-room (machines.Name k) seen = tt
