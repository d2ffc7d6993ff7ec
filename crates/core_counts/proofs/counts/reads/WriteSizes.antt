-- A history tells one WRITE size, and that of a session is the one that its set-up found.
use Rattle.core_counts.proofs.Prelude.{◌≡◌, ℕ, List, length, Option, sym, ap, subst, refl, ◌∙◌, Attr, Time, Rooted, info_call, Terms, Entry, Mounted, Setup, View, GoesFrom}
use Rattle.world_model.specs.Mounts.{Sized, told, untold, lesser_size}
use Rattle.core_session.specs.calls.Whole.{CallsAskedBut}
use Rattle.nfs_file_calls.specs.declared.owned.FileKept.TheVariants as kept
use Rattle.claims.specs.CallsAsked.{inform}
use Rattle.world_model.specs.declared.message.Reply.TheVariants as replies
use Rattle.world_model.proofs.Growth.{Rooted-grow, Sized-grow}
use Rattle.core_counts.proofs.counts.reads.Sizes.{same-asked, told-untold, one-root}

write-max : (a b : Option Attr) (m n p q t u v w aa bb cc_ dd ee ff gg hh : ℕ) (d e : Time) (x y : ℕ)
    → replies.File (kept.FsInfo a m p t v aa cc_ ee gg d x) ≡ replies.File (kept.FsInfo b n q u w bb dd ff hh e y) → v ≡ w
write-max a b m n p q t u v w aa bb cc_ dd ee ff gg hh d e x y is = cc

module _ (terms : Terms) (h : List Entry) (k : CallsAskedBut terms h) where
  pub one-write-size : (to its_to : ℕ) (root : List ℕ) (size wsize other : ℕ) → Sized h to root size wsize → Sized h its_to root size other → wsize ≡ other
  one-write-size to its_to root size wsize other (untold fault one is) (untold its_fault two its_is) = is ∙ sym its_is
  one-write-size to its_to root size wsize other (told a m p t w wp wt d f delta props one is) (untold fault two its_is) =
      told-untold terms h k (wsize ≡ other) to its_to root fault a m p t w wp wt d f delta props one two
  one-write-size to its_to root size wsize other (untold fault one is) (told a m p t w wp wt d f delta props two its_is) =
      told-untold terms h k (wsize ≡ other) its_to to root fault a m p t w wp wt d f delta props two one
  one-write-size to its_to root size wsize other (told a m p t w wp wt d f delta props one is) (told b n q u x xp xt e g its_delta its_props two its_is) =
      let same = write-max a b m n p q t u w x wp xp wt xt d e f g delta its_delta props its_props
      (same-asked terms h k 0 to 0 its_to (info_call root) (replies.File (kept.FsInfo a m p t w wp wt d f delta props)) (replies.File (kept.FsInfo b n q u x xp xt e g its_delta its_props)) (inform root root refl refl) one two) in
      is ∙ ap (lesser_size size) same ∙ sym its_is

  -- the size that the history tells at any place is the session's
  pub session-write-size : (m : Mounted) (setup : Setup) (before : List Entry) (v : View) → GoesFrom m terms setup before h v → (to : ℕ) (root : List ℕ) (wsize : ℕ)
      → Rooted terms.origin h to root → Sized h to root terms.wsize wsize → wsize ≡ setup.wsize
  session-write-size m setup before v from to root wsize rooted sized =
      let known : Rooted terms.origin h (length before) m.root =
      subst (λ (l : List Entry). Rooted terms.origin l (length before) m.root) (sym from.grows) (Rooted-grow terms.origin before from.more (length before) m.root from.set_up.root) in
      let same : root ≡ m.root = one-root terms h k to (length before) root m.root rooted known in
      let own : Sized h (length before) m.root terms.wsize setup.wsize =
      subst (λ (l : List Entry). Sized l (length before) m.root terms.wsize setup.wsize) (sym from.grows) (Sized-grow before from.more (length before) m.root terms.wsize setup.wsize from.set_up.write) in
      one-write-size to (length before) m.root terms.wsize wsize setup.wsize (subst (λ (f : List ℕ). Sized h to f terms.wsize wsize) same sized) own
