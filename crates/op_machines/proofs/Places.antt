-- A path, apart; and what an operation has to write.
use Rattle.std.proofs.Common.{◌≡◌, ◌-◌, ◌++◌, ◌∷◌, [], ℕ, List, length, take, Option, Some, refl, sym, ap, ◌∙◌, arith, slice_get, unwrap_or, length-append, Result, Ok, Err, IfOk, subst, ◌+◌, ◌^◌, ◌≤◌}
use Rattle.std.proofs.Math.Seq.{take-append_seam}
use Rattle.std.proofs.lemmas.List.{length-replicate}
use Rattle.world_model.specs.declared.op.Op.{Op}
use Rattle.world_model.specs.declared.op.Op.TheVariants as ops
use Rattle.op_machines.specs.declared.begun.Mounted.{Mounted}
use Rattle.op_machines.specs.declared.machine.Machine.{Machine}
use Rattle.op_machines.specs.Begun.{IsAsked, front_of, last_of, machine_of}
use Rattle.op_machines.specs.Fits.{Fits}

at-end : (front : List (List ℕ)) (name : List ℕ) → slice_get (front ++ name ∷ []) (length front) ≡ Some name
at-end [] name = refl
at-end (f ∷ front) name = at-end front name

-- the names before the last one, and the last
pub apart : (path front : List (List ℕ)) (name : List ℕ) → path ≡ front ++ name ∷ [] → (front ≡ front_of path) × (name ≡ last_of path)
apart path front name is =
    let e : length path - 1 ≡ length front = omega (arith, ap length is, length-append front (name ∷ [])) in
    let f : take (length path - 1) path ≡ front = ap (λ (n : ℕ). take n path) e ∙ ap (take (length front)) is ∙ take-append_seam front (name ∷ []) in
    let g : slice_get path (length path - 1) ≡ Some name = ap (slice_get path) e ∙ ap (λ (z : List (List ℕ)). slice_get z (length front)) is ∙ at-end front name in
    (sym f, sym (ap (λ (z : Option (List ℕ)). unwrap_or z []) g))

-- what an operation has to write fits where it was asked for
pub machine-fits : (m : Mounted) (lane : ℕ) (op : Op) → IsAsked op → Fits (machine_of m lane op)
machine-fits m lane (ops.OpenFile slot mode path) asked = tt
machine-fits m lane (ops.Read slot offset count) asked = tt
machine-fits m lane (ops.Write slot offset bytes) asked = asked
machine-fits m lane (ops.Fill slot offset count byte) asked = let made = length-replicate count byte in omega (arith, asked, made)
machine-fits m lane (ops.Put path offset bytes) asked = asked.1
machine-fits m lane (ops.Sync slot) asked = tt
machine-fits m lane (ops.Close slot) asked = tt
machine-fits m lane (ops.Truncate slot size) asked = tt
machine-fits m lane (ops.Stat path) asked = tt
machine-fits m lane (ops.Access path bits) asked = tt
machine-fits m lane (ops.MakeDir path) asked = tt
machine-fits m lane (ops.RemoveDir path) asked = tt
machine-fits m lane (ops.Remove path) asked = tt
machine-fits m lane (ops.Rename from to) asked = tt
machine-fits m lane (ops.Link from to) asked = tt
machine-fits m lane (ops.SymLink path target) asked = asked.1
machine-fits m lane (ops.ReadLink path) asked = tt
machine-fits m lane (ops.List path) asked = tt

pub fits-as : {E : Type 0} → (made : Result Machine E) (to : Machine) → IfOk made (λ m. m ≡ to) → Fits to → IfOk made Fits
fits-as (Ok m) to is fits = subst Fits (sym is) fits
fits-as (Err e) to is fits = tt
