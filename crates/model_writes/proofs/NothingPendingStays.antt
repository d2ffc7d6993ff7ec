-- Where nothing is kept of a place, nothing is after an entry or a move, but where bytes come in.
use Rattle.std.proofs.Common.{inl, inr, ◌⊎◌, ◌≡◌, ℕ, Option, Some, None, ◌∙◌}
use Rattle.model_writes.specs.Story.{File, Spot, Call, write, commit, resize, plain, Reply, Entry, Began, Answered, Sent, Executed, Foreign, Reboot, Delivered, Failed, means, covers}
use Rattle.model_writes.specs.Machine.{View, Cell, Flight, SameAt, Adds, Drops, Came, stays, covered, acks, firms, returns, Heard, keeps, settles, resends, PlacesAfter, Renamed, unmoved, moved, Enters, Move, makes_write, makes_commit, makes_call, adds, proceeds, opens, frees, cuts, gives_up, gives_up_put, loses}
use Rattle.model_writes.proofs.AtLemmas.{same_file_or_not}
use Rattle.model_writes.proofs.FlyingBytes.{one_or_none}

abbrev pub Nothing : View → Spot → Type 0
Nothing c i = (c.rest i ≡ None) × (c.fly i ≡ None)

same : (b c : View) (i : Spot) → SameAt b c i → Nothing b i → Nothing c i
same b c i s n = (s.0 ∙ n.0, s.1 ∙ n.1)

came : (x : ℕ) (call : Call) (r : Reply) (i : Spot) (o : Option Cell) (g : Option Flight) (o' : Option Cell) (g' : Option Flight) → Came x call r i o g o' g' → o ≡ None → g ≡ None → (o' ≡ None) × (g' ≡ None)
came _ _ _ _ _ _ _ _ (stays x call r i o g o' g' ne rs fs) a b = (rs ∙ a, fs ∙ b)
came _ _ _ _ _ _ _ _ (covered x call r i o g o' g' f c k xi d rs fs) a b = absurd (cc (k, b))
came _ _ _ _ _ _ _ _ (acks x call r i o g o' g' f n v k xi d is re rs fs) a b = absurd (cc (k, b))
came _ _ _ _ _ _ _ _ (firms x call r i o g o' g' f n j v k xi d is re rs fs) a b = absurd (cc (k, b))
came _ _ _ _ _ _ _ _ (returns x call r i o g o' g' f k xi d rs fs) a b = absurd (cc (k, b))

heard : (r : Reply) (o o' : Option Cell) → Heard r o o' → o ≡ None → o' ≡ None
heard _ _ _ (keeps r o o' is) a = is ∙ a
heard _ _ _ (settles r o o' c v re was mark is) a = is
heard _ _ _ (resends r o o' c was is) a = absurd (cc (was, a))

renamed : (x y : ℕ) (o o' : Option Flight) → Renamed x y o o' → o ≡ None → o' ≡ None
renamed x y o o' (unmoved ne is) e = is ∙ e
renamed x y o o' (moved g a xi is) e = absurd (cc (a, e))

after : (b c : View) (x : ℕ) (call : Call) (r : Reply) (i : Spot) → PlacesAfter x call r b c → Nothing b i → Nothing c i
after b c x (write d o y w) r i p n = came x (write d o y w) r i (b.rest i) (b.fly i) (c.rest i) (c.fly i) (p i) n.0 n.1
after b c x (commit d) r i p n = elim (p i) [ inl s ↦ same b c i s n | inr k ↦ (heard r (b.rest i) (c.rest i) k.1 n.0, k.2 ∙ n.1) ]
after b c x (resize d z) r i p n = same b c i (p i) n
after b c x (plain d) r i p n = same b c i (p i) n

view : (b c : View) (i : Spot) → c ≡ b → Nothing b i → Nothing c i
view b c i is n = rw is n

pub entry_none : (k : ℕ) (b c : View) (e : Entry) (i : Spot) → Enters k b e c → Nothing b i → Nothing c i
entry_none k b c (Began l op) i t n = same b c i (t.places.there i) n
entry_none k b c (Answered l a) i t n = same b c i (t.places.there i) n
entry_none k b c (Sent x call) i t n = view b c i t.1 n
entry_none k b c (Delivered x r) i t n = elim t.how [
  | inl d ↦ same b c i (d.places.there i) n
  | inr u ↦ elim u [ inl m ↦ after b c x m.call r i m.places n | inr g ↦ (g.rest i ∙ n.0, renamed x g.y (b.fly i) (c.fly i) (g.fly i) n.1) ]
]
entry_none k b c Failed i t n = view b c i t n
entry_none k b c (Executed x call r) i t n = view b c i t n
entry_none k b c (Foreign o) i t n = view b c i t n
entry_none k b c Reboot i t n = view b c i t n

-- bytes come in at a place
pub record InAt (b c : View) (i : Spot) : Type 0 where
  pub adds_ : Adds b c
  pub byte : ℕ
  pub means_it : means adds_.op i ≡ Some byte

drops : (b c : View) (d : File) (i : Spot) → Drops b c d → Nothing b i → Nothing c i
drops b c d i g n = elim (same_file_or_not i.file d) [ inl is ↦ ((g.none i is).0, (g.none i is).1) | inr ne ↦ same b c i (g.others i ne) n ]

pub move_none : (b c : View) (i : Spot) → Move b c → Nothing b i → Nothing c i ⊎ InAt b c i
move_none b c i (makes_write m) n = elim (one_or_none (covers m.file m.offset m.bytes i)) [
  | inl none ↦ inl (same b c i (m.others i none) n)
  | inr v ↦ absurd (cc ((m.picks i v.0 v.1).was, n.0))
]
move_none b c i (makes_commit m) n = inl (same b c i (m.places.there i) n)
move_none b c i (makes_call m) n = inl (same b c i (m.places.there i) n)
move_none b c i (adds m) n = elim (one_or_none (means m.op i)) [
  | inl none ↦ inl (m.others i none ∙ n.0, m.fly i ∙ n.1)
  | inr v ↦ inr (record { adds_ = m; byte = v.0; means_it = v.1 })
]
move_none b c i (proceeds m) n = inl (same b c i (m.places.there i) n)
move_none b c i (opens m) n = inl (same b c i (m.places.there i) n)
move_none b c i (frees m) n = inl (same b c i (m.places.there i) n)
move_none b c i (cuts m) n = inl (elim (m.places i) [ inl s ↦ same b c i s n | inr k ↦ (k.2, k.3 ∙ n.1) ])
move_none b c i (gives_up m) n = inl (drops b c m.file i m.drops n)
move_none b c i (gives_up_put m) n = inl (drops b c m.file i m.drops n)
move_none b c i (loses m) n = inl (same b c i (m.places.there i) n)
