-- A history whose moments are worked out from a start, entry by entry, is fresh, and rises where its pages do.
use Rattle.std.proofs.Common.{◌≡◌, ◌<◌, ℕ, zero, suc, List, [], ◌∷◌, ◌++◌, length, take, Some, sym, ap, subst, ◌∙◌, arith, ⊎_elim, slice_get}
use Rattle.std.proofs.lemmas.Bool.{cases_eq}
use Rattle.std.proofs.lemmas.List.{take-append-le, take_all}
use Rattle.world_model.specs.declared.entry.Entry.{Entry}
use Rattle.world_model.specs.declared.entry.Entry.TheVariants as entries
use Rattle.world_model.specs.Fresh.{Fresh}
use Rattle.world_model.specs.Rising.{RisesAt, Rising}
use Rattle.export_fs.specs.View.{View}
use Rattle.export_fs.specs.Seen.{server_of}
use Rattle.export_fs.specs.Stamped.{Stamped, Proceeds}
use Rattle.export_fs.specs.Risen.{PageRises, PagesRise}
use Rattle.export_fs.proofs.Objects.{get_last, get_front_other, get_within}
use Rattle.export_fs.proofs.Fresh.{fresh}
use Rattle.export_fs.proofs.CookiesIncrease.{rising}

-- `replay` makes one step for each entry, in order, with what is known beside it
pub record IsReplay {A : Type 0} (step : A → View → Entry → View) (replay : (ℕ → A) → View → List Entry → View) : Type 0 where
  pub none : (known : ℕ → A) (v : View) → replay known v [] ≡ v
  pub more : (known : ℕ → A) (v : View) (e : Entry) (es : List Entry) → replay known v (e ∷ es) ≡ replay (λ n. known (suc n)) (step (known 0) v e) es
  pub proceeds : (a : A) (v : View) (e : Entry) → Proceeds v (step a v e)

-- entry n leads from moment n to the next
pub replay_next : {A : Type 0} (step : A → View → Entry → View) (replay : (ℕ → A) → View → List Entry → View) → IsReplay step replay → (known : ℕ → A) (v : View) (list : List Entry) (n : ℕ) → n < length list
    → Proceeds (replay known v (take n list)) (replay known v (take (suc n) list))
replay_next step replay r known v [] n l = absurd (omega arith)
replay_next step replay r known v (e ∷ list) zero l =
    let a : replay known v (take 0 (e ∷ list)) ≡ v = r.none known v in
    let b : replay known v (take (suc 0) (e ∷ list)) ≡ step (known 0) v e = r.more known v e [] ∙ r.none (λ n. known (suc n)) (step (known 0) v e) in
    subst (λ (z : View). Proceeds z (replay known v (take (suc 0) (e ∷ list)))) (sym a) (subst (Proceeds v) (sym b) (r.proceeds (known 0) v e))
replay_next step replay r known v (e ∷ list) (suc n) l =
    let p = replay_next step replay r (λ n. known (suc n)) (step (known 0) v e) list n (omega arith) in
    subst (λ (z : View). Proceeds z (replay known v (e ∷ take (suc n) list))) (sym (r.more known v e (take n list)))
    (subst (Proceeds (replay (λ n. known (suc n)) (step (known 0) v e) (take n list))) (sym (r.more known v e (take (suc n) list))) p)

stamped_start : {A : Type 0} (step : A → View → Entry → View) (replay : (ℕ → A) → View → List Entry → View) → IsReplay step replay → (known : ℕ → A) (v : View) (list : List Entry) → Stamped v → Stamped (replay known v (take 0 list))
stamped_start step replay r known v list s = subst Stamped (sym (r.none known v)) s

pub fresh_replay : {A : Type 0} (step : A → View → Entry → View) (replay : (ℕ → A) → View → List Entry → View) → IsReplay step replay → (known : ℕ → A) (v : View) (list : List Entry) → Stamped v
    → Fresh (record { entries = list; at = λ n. server_of (replay known v (take n list)) })
fresh_replay step replay r known v list s = fresh list (λ n. replay known v (take n list)) (stamped_start step replay r known v list s) (λ n l. replay_next step replay r known v list n l)

pub rising_replay : {A : Type 0} (step : A → View → Entry → View) (replay : (ℕ → A) → View → List Entry → View) → IsReplay step replay → (known : ℕ → A) (v : View) (list : List Entry) → Stamped v → PagesRise (replay known) v list
    → Rising (record { entries = list; at = λ n. server_of (replay known v (take n list)) })
rising_replay step replay r known v list s pages = rising list (λ n. replay known v (take n list)) (stamped_start step replay r known v list s) (λ n l. replay_next step replay r known v list n l) pages

-- ---- one more entry

pub no_pages : (replay : View → List Entry → View) (v : View) → PagesRise replay v []
no_pages replay v n xid call reply e = absurd (cc)

pub more_pages : (replay : View → List Entry → View) (v : View) (list : List Entry) (e : Entry) → PagesRise replay v list → PageRises (replay v list) e → PagesRise replay v (list ++ e ∷ [])
more_pages replay v list e pages new n xid call reply at =
    ⊎_elim (λ (q : n ≡ length list).
    let one : Some e ≡ Some (entries.Executed xid call reply) = sym (get_last list e) ∙ ap (slice_get (list ++ e ∷ [])) (sym q) ∙ at in
    let same : e ≡ entries.Executed xid call reply = cc in
    let all : take n (list ++ e ∷ []) ≡ list = ap (λ (k : ℕ). take k (list ++ e ∷ [])) q ∙ take-append-le (length list) list (e ∷ []) (omega arith) ∙ take_all (length list) list (omega arith) in
    subst (λ (z : List Entry). RisesAt (server_of (replay v z)) call reply) (sym all) (new xid call reply same))
    (λ (d : n ≡ length list → ⊥).
    let was : slice_get list n ≡ Some (entries.Executed xid call reply) = sym (get_front_other list e n d) ∙ at in
    let front : take n (list ++ e ∷ []) ≡ take n list = take-append-le n list (e ∷ []) (omega (arith, get_within list n (entries.Executed xid call reply) was)) in
    subst (λ (z : List Entry). RisesAt (server_of (replay v z)) call reply) (sym front) (pages n xid call reply was))
    (cases_eq n (length list))
