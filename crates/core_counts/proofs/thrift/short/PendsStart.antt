-- The write or fill that was the last to write two places next to each other; and what waits there as it was answered, in the only lane.
use Rattle.core_counts.proofs.Prelude.{◌≡◌, ◌<◌, ◌+◌, ◌++◌, ℕ, false, List, length, refl, sym, ap, subst, arith, inl, inr, ◌⊎◌, Value, Entry, Began, Op, IsOf, PutsTo, Terms, OneLane, NeverFull, Wrote, At-one, Mounted, machine_of, Setup, View, Reaches, GoesWith}
use Rattle.claims.specs.Thrifty.{WritesAt, earlier, itself}
use Rattle.claims.specs.Touched.{Covers}
use Rattle.std.proofs.lemmas.Option.{slice_get_within}
use Rattle.world_model.specs.declared.answer.Answer.TheVariants as answers
use Rattle.world_model.specs.declared.op.Op.TheVariants as ops
use Rattle.world_model.specs.Operations.{Ended}
use Rattle.claims.specs.Touched as touched_by
use Rattle.core_session.proofs.syncs.Ends.{ended-back}
use Rattle.core_counts.specs.thrift.Writes.{WritesBoth, write, fill}
use Rattle.core_counts.proofs.thrift.short.PutsLong.{one-before, room-before}
use Rattle.core_counts.proofs.thrift.short.Started.{Idle, Two, reached-started}

began-op : (a b c d : ℕ) (p q : Op) → Began a b p ≡ Began c d q → p ≡ q
began-op a b c d p q e = cc

write-same : (a b c d : ℕ) (x y : List ℕ) → ops.Write a b x ≡ ops.Write c d y → (b ≡ d) × (x ≡ y)
write-same a b c d x y e = (cc, cc)

fill-same : (a b c d k l m n : ℕ) → ops.Fill a b c d ≡ ops.Fill k l m n → (b ≡ l) × (c ≡ m)
fill-same a b c d k l m n e = (cc, cc)

module _ (terms : Terms) (h : List Entry) (f : List ℕ) (w x e : ℕ) where
  -- it is of the file, and has both places
  pub record Writer : Type 0 where
    pub lane : ℕ
    pub op : Op
    pub slot : ℕ
    pub y : ℕ
    pub value : Value
    pub of : IsOf terms.modes h w op f
    pub ended : Ended h lane w op y (answers.Done value)
    pub both : WritesBoth op slot e
    pub low : y < x

  -- a put that wrote the second of both
  pub record Putter : Type 0 where
    pub offset : ℕ
    pub bytes : List ℕ
    pub y : ℕ
    pub v : ℕ
    pub to : PutsTo h w y f offset bytes
    pub covers : Covers offset bytes (e + 1) v
    pub low : y < x

  by-both : (y1 y2 v1 v2 : ℕ) → w < x → y1 < x → y2 < x → Wrote terms.modes h w y1 f e v1 → Wrote terms.modes h w y2 f (e + 1) v2 → Writer ⊎ Putter
  by-both y1 y2 v1 v2 first low low3 (touched_by.write lane slot offset bytes value of ended covers) (touched_by.write l2 s2 o2 b2 value2 of2 ended2 covers2) =
      let same = write-same slot offset s2 o2 bytes b2 (began-op lane ended.line l2 ended2.line (ops.Write slot offset bytes) (ops.Write s2 o2 b2) (At-one h w (Began lane ended.line (ops.Write slot offset bytes)) (Began l2 ended2.line (ops.Write s2 o2 b2)) ended.began ended2.began)) in
      let at1 = covers.place in
      let at2 = covers2.place in
      let within = slice_get_within b2 covers2.k v2 covers2.byte in
      let o = same.0 in
      let l = ap length same.1 in
      inl (record {
        lane = lane;
        op = ops.Write slot offset bytes;
        slot = slot;
        y = y1;
        value = value;
        of = of;
        ended = ended;
        both = write offset bytes refl (omega (arith, at1)) (omega (arith, at2, within, o, l));
        low = low;
      })
  by-both y1 y2 v1 v2 first low low3 (touched_by.fill lane slot offset count value of ended low1 high1) (touched_by.fill l2 s2 o2 c2 value2 of2 ended2 low2 high2) =
      let same = fill-same slot offset count v1 s2 o2 c2 v2 (began-op lane ended.line l2 ended2.line (ops.Fill slot offset count v1) (ops.Fill s2 o2 c2 v2) (At-one h w (Began lane ended.line (ops.Fill slot offset count v1)) (Began l2 ended2.line (ops.Fill s2 o2 c2 v2)) ended.began ended2.began)) in
      let o = same.0 in
      let l = same.1 in
      inl (record {
        lane = lane;
        op = ops.Fill slot offset count v1;
        slot = slot;
        y = y1;
        value = value;
        of = of;
        ended = ended;
        both = fill offset count v1 refl low1 (omega (arith, high2, o, l));
        low = low;
      })
  by-both y1 y2 v1 v2 first low low3 (touched_by.write lane slot offset bytes value of ended covers) (touched_by.fill l2 s2 o2 c2 value2 of2 ended2 low2 high2) =
      absurd (let no_way : ops.Write slot offset bytes ≡ ops.Fill s2 o2 c2 v2 = began-op lane ended.line l2 ended2.line (ops.Write slot offset bytes) (ops.Fill s2 o2 c2 v2) (At-one h w (Began lane ended.line (ops.Write slot offset bytes)) (Began l2 ended2.line (ops.Fill s2 o2 c2 v2)) ended.began ended2.began) in cc)
  by-both y1 y2 v1 v2 first low low3 (touched_by.fill lane slot offset count value of ended low1 high1) (touched_by.write l2 s2 o2 b2 value2 of2 ended2 covers2) =
      absurd (let no_way : ops.Fill slot offset count v1 ≡ ops.Write s2 o2 b2 = began-op lane ended.line l2 ended2.line (ops.Fill slot offset count v1) (ops.Write s2 o2 b2) (At-one h w (Began lane ended.line (ops.Fill slot offset count v1)) (Began l2 ended2.line (ops.Write s2 o2 b2)) ended.began ended2.began) in cc)
  by-both y1 y2 v1 v2 first low low3 (touched_by.put offset bytes to covers) (touched_by.write l2 s2 o2 b2 value2 of2 ended2 covers2) =
      absurd (let no_way : ops.Put to.path offset bytes ≡ ops.Write s2 o2 b2 = began-op to.lane to.ended.line l2 ended2.line (ops.Put to.path offset bytes) (ops.Write s2 o2 b2) (At-one h w (Began to.lane to.ended.line (ops.Put to.path offset bytes)) (Began l2 ended2.line (ops.Write s2 o2 b2)) to.ended.began ended2.began) in cc)
  by-both y1 y2 v1 v2 first low low3 (touched_by.put offset bytes to covers) (touched_by.fill l2 s2 o2 c2 value2 of2 ended2 low2 high2) =
      absurd (let no_way : ops.Put to.path offset bytes ≡ ops.Fill s2 o2 c2 v2 = began-op to.lane to.ended.line l2 ended2.line (ops.Put to.path offset bytes) (ops.Fill s2 o2 c2 v2) (At-one h w (Began to.lane to.ended.line (ops.Put to.path offset bytes)) (Began l2 ended2.line (ops.Fill s2 o2 c2 v2)) to.ended.began ended2.began) in cc)
  by-both y1 y2 v1 v2 first low low3 (touched_by.put offset bytes to covers) (touched_by.put o2 b2 to2 c2) = inr (record { offset = o2; bytes = b2; y = y2; v = v2; to = to2; covers = c2; low = low3 })
  by-both y1 y2 v1 v2 first low low3 (touched_by.write lane slot offset bytes value of ended covers) (touched_by.put o2 b2 to2 c2) = inr (record { offset = o2; bytes = b2; y = y2; v = v2; to = to2; covers = c2; low = low3 })
  by-both y1 y2 v1 v2 first low low3 (touched_by.fill lane slot offset count value of ended low1 high1) (touched_by.put o2 b2 to2 c2) = inr (record { offset = o2; bytes = b2; y = y2; v = v2; to = to2; covers = c2; low = low3 })

  pub writer-of : (op : Op) → w < x → WritesAt terms h x op f e w → WritesAt terms h x op f (e + 1) w → Writer ⊎ Putter
  writer-of op first (earlier y1 v1 a low) (earlier y2 v2 b low2) = by-both y1 y2 v1 v2 first low low2 a b
  writer-of op first (itself path offset v bytes is same covers) other = absurd (omega (arith, same, first))
  writer-of op first (earlier y1 v1 a low) (itself path offset v bytes is same covers) = absurd (omega (arith, same, first))

  -- as it was answered
  module _ (m : Mounted) (setup : Setup) (V : View) (g : GoesWith m terms setup h V) (one : OneLane h) (room : NeverFull h) (k : Writer) where
    pub at-start : (before rest : List Entry) (view : View) → h ≡ before ++ rest → length before ≡ k.y + 1 → Reaches (machine_of m) setup before view → view.lost ≡ false
        → Idle m terms setup h V g f e k.lane w k.slot k.y k.op k.both k.of view × Two m terms setup h V g f e k.lane w k.slot k.y k.op k.both k.of view.shelf
    at-start before rest view is long reaches found =
        ((reached-started m terms setup h V g f e k.lane w k.slot k.y k.op k.both k.of before view reaches found).run rest (sym is) (one-before before rest (subst OneLane is one)) (room-before before rest (subst NeverFull is room))).noted k.value
        (ended-back before rest h (sym is) k.lane w k.op k.y (answers.Done k.value) (omega (arith, long)) k.ended) long
