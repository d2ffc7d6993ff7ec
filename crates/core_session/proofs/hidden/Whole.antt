-- The places that are kept of hidden files, and for what each call is made.
use Rattle.core_session.proofs.Prelude.{◌≡◌, ◌⊎◌, inl, inr, ℕ, List, [], length, refl, sym, subst, arith, Entry, Began, Op, Asks, SpellsCallBy, Rooted, Terms, Rooted-wide, At-below, Mounted, IsAsked, machine_of, Setup, View, begins-unbegun, IsSession}
use Rattle.std.proofs.lemmas.List.{append-nil}
use Rattle.world_model.specs.declared.op.Op.TheVariants as ops
use Rattle.claims.specs.Hidden.{HiddenAt}
use Rattle.core_session.specs.calls.Made as before
use Rattle.core_session.proofs.calls.Causes.{Now, Spelt, under-now, cause}
use Rattle.core_session.proofs.calls.Outgoing.{Outgoing, reached-out}
use Rattle.core_session.specs.hidden.Hidden.{HiddenFilesWereHidden, IsMadeFor, asked_for, makes_room, removes_place, IsMadeSo, RemovalsAreOfHiddenFiles}
use Rattle.core_session.proofs.hidden.CloseCause.{close-or, place-of}
use Rattle.core_session.proofs.hidden.HiddenTales.{reached-hidden}
use Rattle.core_session.proofs.hidden.Places.{WasHidden, hidden-at}

-- ---- the places

module _ (m : Mounted) (terms : Terms) (setup : Setup) (h : List Entry) (v : View) (s : IsSession m terms setup h v) (f d name : List ℕ) (k : WasHidden m.root h f d name) where
  rooted : Rooted terms.origin h (length h) m.root
  rooted =
      let low = At-below h k.x (Began k.lane k.line (ops.Remove k.path)) k.began in
      Rooted-wide terms.origin h k.x (length h) m.root (omega (arith, low)) (s.root k.x k.lane k.line (ops.Remove k.path) k.began)

  was-there : HiddenAt terms.origin h (length h) f d name
  was-there =
      subst (λ (g : List Entry). HiddenAt terms.origin g (length h) f d name) (append-nil h)
      (hidden-at m.root terms.origin h [] (length h) f d name (omega arith) (subst (λ (g : List Entry). Rooted terms.origin g (length h) m.root) (sym (append-nil h)) rooted) k
      (s.asked k.x k.lane k.line (ops.Remove k.path) k.began))

pub files-hidden : HiddenFilesWereHidden
files-hidden m terms setup h v s f d name at = was-there m terms setup h v s f d name ((reached-hidden m setup h v s.goes.reaches).shelf f d name at)

-- ---- the calls

module _ (m : Mounted) (terms : Terms) (setup : Setup) (h : List Entry) (v : View) (s : IsSession m terms setup h v) (i : ℕ) (bytes : List ℕ)
    (w : Outgoing (machine_of m) (begins-unbegun m) setup h i bytes) where
  abbrev For : Op → Type 0
  For op = IsMadeFor terms h w.x i op (Spelt m terms setup h v s i bytes w)

  of-close : (slot : ℕ) (is : w.op ≡ ops.Close slot) → For (ops.Close slot)
  of-close slot is = elim (close-or m terms setup h v s i bytes w slot is) [
    | inl asks ↦ asked_for asks
    | inr r ↦ removes_place (place-of m terms setup h v s i bytes w slot is r)
  ]

  made-for : IsAsked w.op → For w.op
  made-for asked = by (cause m terms setup h v s i bytes w w.op refl asked)
    where
      beside : before.IsBeside terms h w.x i w.op (Spelt m terms setup h v s i bytes w) → For w.op
      beside (before.makes_room writer room) = makes_room writer room
      beside (before.removes slot is removal) = subst For (sym is) (of-close slot is)

      by : Asks terms h w.x i w.op (Spelt m terms setup h v s i bytes w) ⊎ before.IsBeside terms h w.x i w.op (Spelt m terms setup h v s i bytes w) → For w.op
      by (inl asks) = asked_for asks
      by (inr other) = beside other

  made-so : IsMadeSo terms h i bytes
  made-so =
      let under = under-now m terms setup h v s i bytes w in
      record {
        xid = w.xid;
        call = Spelt m terms setup h v s i bytes w;
        made = subst (λ c. SpellsCallBy c w.xid (Spelt m terms setup h v s i bytes w) bytes) s.cred (Now m terms setup h v s i bytes w).made;
        lane = w.waiting.purpose.lane;
        x = w.x;
        op = w.op;
        under_way = under;
        made_for = made-for (s.asked w.x w.waiting.purpose.lane under.line w.op under.began);
      }

pub removals-hidden : RemovalsAreOfHiddenFiles
removals-hidden m terms setup h v s i bytes at = elim (reached-out (machine_of m) (begins-unbegun m) setup h v s.goes.reaches i bytes at) [
  | inl none ↦ inl none
  | inr w ↦ inr (made-so m terms setup h v s i bytes w)
]
