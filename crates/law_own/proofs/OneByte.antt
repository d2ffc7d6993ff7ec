-- An operation writes one byte at a place; and what touched a place has touched it later too.
use Rattle.std.proofs.Common.{◌≡◌, ◌≤◌, ℕ, List, length, Some, slice_get, refl, sym, ap, subst, ◌∙◌, arith}
use Rattle.world_model.specs.declared.entry.Entry.{Entry}
use Rattle.world_model.specs.declared.entry.Entry.TheVariants.{Began}
use Rattle.world_model.specs.declared.op.Op.{Op}
use Rattle.world_model.specs.declared.op.Op.TheVariants as ops
use Rattle.world_model.specs.Entries.{At}
use Rattle.world_model.specs.History.{History}
use Rattle.world_model.specs.Lawful.{Lawful}
use Rattle.claims.specs.Modes.{Modes}
use Rattle.world_model.specs.Mounts.{Origin}
use Rattle.claims.specs.Touched.{Covers, WritesByte, Wrote, Touched, foreign, written, cut, gone, given_up}
use Rattle.claims.specs.Touched as touching
use Rattle.world_model.proofs.Lasting.{lasts}
use Rattle.world_model.proofs.Places.{At-one}

-- ---- one byte

same-byte : (a b : ℕ) → Some a ≡ Some b → a ≡ b
same-byte a b e = cc

-- what an operation has at the place i
abbrev pub Means : Op → ℕ → ℕ → Type 0
Means (ops.Write slot offset bytes) i v = Covers offset bytes i v
Means (ops.Fill slot offset count byte) i v = byte ≡ v
Means (ops.Put path offset bytes) i v = Covers offset bytes i v
Means op i v = ⊥

covers-one : (offset : ℕ) (bytes : List ℕ) (i v u : ℕ) → Covers offset bytes i v → Covers offset bytes i u → v ≡ u
covers-one offset bytes i v u a b =
    let p = a.place in
    let q = b.place in
    let same : a.k ≡ b.k = omega (arith, p, q) in
    same-byte v u (sym a.byte ∙ ap (slice_get bytes) same ∙ b.byte)

means-one : (op : Op) (i v u : ℕ) → Means op i v → Means op i u → v ≡ u
means-one (ops.Write slot offset bytes) i v u a b = covers-one offset bytes i v u a b
means-one (ops.Fill slot offset count byte) i v u a b = sym a ∙ b
means-one (ops.Put path offset bytes) i v u a b = covers-one offset bytes i v u a b
means-one op i v u a b = absurd a

-- the operation at the place x has the byte at the place i
pub record HasByte (h : List Entry) (x i v : ℕ) : Type 0 where
  pub lane : ℕ
  pub line : ℕ
  pub op : Op
  pub began : At h x (Began lane line op)
  pub means : Means op i v

pub wrote-byte : (m : Modes) (h : List Entry) (w e : ℕ) (f : List ℕ) (i v : ℕ) → Wrote m h w e f i v → HasByte h w i v
wrote-byte m h w e f i v (touching.write lane slot offset bytes value of ended covers) =
    record { lane = of.lane; line = of.line; op = ops.Write slot offset bytes; began = of.began; means = covers }
wrote-byte m h w e f i v (touching.fill lane slot offset count value of ended low high) =
    record { lane = of.lane; line = of.line; op = ops.Fill slot offset count v; began = of.began; means = refl }
wrote-byte m h w e f i v (touching.put offset bytes to covers) =
    record { lane = to.lane; line = to.ended.line; op = ops.Put to.path offset bytes; began = to.ended.began; means = covers }

pub writes-byte : (m : Modes) (origin : Origin) (h : List Entry) (x : ℕ) (f : List ℕ) (i v : ℕ) → WritesByte m origin h x f i v → HasByte h x i v
writes-byte m origin h x f i v (touching.write slot offset bytes of covers) =
    record { lane = of.lane; line = of.line; op = ops.Write slot offset bytes; began = of.began; means = covers }
writes-byte m origin h x f i v (touching.fill slot offset count of low high) =
    record { lane = of.lane; line = of.line; op = ops.Fill slot offset count v; began = of.began; means = refl }
writes-byte m origin h x f i v (touching.put lane line offset n path bytes at ends leads covers) =
    record { lane = lane; line = line; op = ops.Put path offset bytes; began = at; means = covers }

same-op : (a b c d : ℕ) (p q : Op) → Began a b p ≡ Began c d q → p ≡ q
same-op a b c d p q e = cc

pub one-byte : (h : List Entry) (x i v u : ℕ) → HasByte h x i v → HasByte h x i u → v ≡ u
one-byte h x i v u a b =
    let same : a.op ≡ b.op = same-op a.lane a.line b.lane b.line a.op b.op (At-one h x (Began a.lane a.line a.op) (Began b.lane b.line b.op) a.began b.began) in
    means-one b.op i v u (subst (λ (z : Op). Means z i v) same a.means) b.means

-- a truncate has no byte at all
pub no-truncate : (h : List Entry) (x i v lane line slot size : ℕ) → HasByte h x i v → At h x (Began lane line (ops.Truncate slot size)) → ⊥
no-truncate h x i v lane line slot size a at =
    let same : a.op ≡ ops.Truncate slot size =
    same-op a.lane a.line lane line a.op (ops.Truncate slot size) (At-one h x (Began a.lane a.line a.op) (Began lane line (ops.Truncate slot size)) a.began at) in
    subst (λ (z : Op). Means z i v) same a.means

-- ---- later

pub touched-later : (m : Modes) (origin : Origin) (t : History) → Lawful t → (w n p : ℕ) (f : List ℕ) (i : ℕ) → n ≤ p → p ≤ length t.entries → Touched m origin t w n f i
    → Touched m origin t w p f i
touched-later m origin t lawful w n p f i le within (foreign k call reply low high at changes) = foreign k call reply low (omega (arith, high, le)) at changes
touched-later m origin t lawful w n p f i le within (written x v other early unanswered writes kept) = written x v other (omega (arith, early, le)) unanswered writes kept
touched-later m origin t lawful w n p f i le within (cut x other early unanswered cuts) = cut x other (omega (arith, early, le)) unanswered cuts
touched-later m origin t lawful w n p f i le within (gone o there is) = let l = lasts t lawful n p le within f o there in gone l.new l.is (l.gone is)
touched-later m origin t lawful w n p f i le within (given_up k low high left) = given_up k low (omega (arith, high, le)) left
