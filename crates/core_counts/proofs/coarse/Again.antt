-- A WRITE that was to be made again, and can't be: what was in flight under its first xid is to be sent again.
use Rattle.core_counts.proofs.Prelude.{◌≡◌, ◌≢◌, ℕ, List, Option, Some, refl, sym, ap, ◌∙◌, Pending}
use Rattle.model_writes.specs.Machine.{Cell, Flight, View, again, Came, stays, covered, acks, firms, returns, Renamed, unmoved, moved, PlacesAfter}
use Rattle.model_writes.specs.Story.{File, Spot, Call, Reply, write, denied}
use Rattle.step_pending.specs.Cells.{Leads}
use Rattle.step_pending.specs.Steps.{Renames}

one-flight : (a b : Flight) → Some a ≡ Some b → a ≡ b
one-flight a b e = cc

-- at one place
pub returned : (y : ℕ) (call : Call) (r0 : Reply) (i : Spot) (rest1 : Option Cell) (fly1 : Option Flight) (rest2 : Option Cell) (fly2 : Option Flight)
    → Came y call r0 i rest1 fly1 rest2 fly2 → (x : ℕ) (to : Call) (r : Reply) (rest : Option Cell) (fly : Option Flight) → r0 ≡ denied → Renamed x y fly fly1
    → rest1 ≡ rest → ((f : Flight) → fly ≡ Some f → f.xid ≢ y) → Came x to r i rest fly rest2 fly2
returned _ _ _ _ _ _ _ _ (stays y call r0 i rest1 fly1 rest2 fly2 other same flown) x to r rest fly none renamed was fresh = by renamed
  where
    by : Renamed x y fly fly1 → Came x to r i rest fly rest2 fly2
    by (unmoved apart is) = stays x to r i rest fly rest2 fly2 apart (same ∙ was) (flown ∙ is)
    by (moved f is own moves) = absurd (other (record { byte = f.byte; number = f.number; xid = y }) moves refl)
returned _ _ _ _ _ _ _ _ (covered y call r0 i rest1 fly1 rest2 fly2 g c flies own there same gone) x to r rest fly none renamed was fresh = by renamed
  where
    by : Renamed x y fly fly1 → Came x to r i rest fly rest2 fly2
    by (unmoved apart is) = absurd (fresh g (sym is ∙ flies) own)
    by (moved f is under moves) = covered x to r i rest fly rest2 fly2 f c is under (sym was ∙ there) (same ∙ was) gone
returned _ _ _ _ _ _ _ _ (acks y call r0 i rest1 fly1 rest2 fly2 g count v flies own empty wrote reach there gone) x to r rest fly none renamed was fresh =
    absurd (cc (wrote, none))
returned _ _ _ _ _ _ _ _ (firms y call r0 i rest1 fly1 rest2 fly2 g count k v flies own empty wrote reach there gone) x to r rest fly none renamed was fresh =
    absurd (cc (wrote, none))
returned _ _ _ _ _ _ _ _ (returns y call r0 i rest1 fly1 rest2 fly2 g flies own empty there gone) x to r rest fly none renamed was fresh = by renamed
  where
    by : Renamed x y fly fly1 → Came x to r i rest fly rest2 fly2
    by (unmoved apart is) = absurd (fresh g (sym is ∙ flies) own)
    by (moved f is under moves) =
        let one : g ≡ record { byte = f.byte; number = f.number; xid = y } = one-flight g (record { byte = f.byte; number = f.number; xid = y }) (sym flies ∙ moves) in
        returns x to r i rest fly rest2 fly2 f is under (sym was ∙ empty) (there ∙ ap (λ (z : Flight). Some (record { byte = z.byte; number = z.number; mark = again })) one) gone

-- at each place
pub returned-leads : (x y : ℕ) (file : File) (offset : ℕ) (bytes : List ℕ) (how : ℕ) (r : Reply) (renamed new : Pending) (c : View)
    → ((i : Spot) (f : Flight) → c.fly i ≡ Some f → f.xid ≢ y) → (first : Leads renamed (Renames x y) c)
    → Leads new (PlacesAfter y (write file offset bytes how) denied) (record c { rest = first.rest; fly = first.fly })
    → (file2 : File) (offset2 : ℕ) (bytes2 : List ℕ) (how2 : ℕ) → Leads new (PlacesAfter x (write file2 offset2 bytes2 how2) r) c
returned-leads x y file offset bytes how r renamed new c fresh first then_ file2 offset2 bytes2 how2 = record {
  rest = then_.rest;
  fly = then_.fly;
  shows = then_.shows;
  steps = λ d rests flies i.
      let a = first.steps (record c { rest = first.rest; fly = first.fly }) (λ j. refl) (λ j. refl) in
      returned y (write file offset bytes how) denied i (first.rest i) (first.fly i) (d.rest i) (d.fly i) (then_.steps d rests flies i) x (write file2 offset2 bytes2 how2) r (c.rest i) (c.fly i)
      refl (a.fly i) (a.rest i) (fresh i);
}
