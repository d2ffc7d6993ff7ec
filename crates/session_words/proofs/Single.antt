-- What the words give, they give alone.
use Rattle.std.proofs.Common.{◌≡◌, ℕ, List, Bool, true, false, Option, Some, None, inl, inr, refl, sym, ap, ◌∙◌, codes}
use Rattle.hex.proofs.HexLemmas.{decode_of-same}
use Rattle.attr_cache.specs.declared.lives.Lives.{Lives}
use Rattle.clap.specs.Words.{Row, Text}
use Rattle.rpc_message.specs.declared.cred.Cred.{Cred}
use Rattle.session_words.specs.declared.settings.Export.{Export}
use Rattle.session_words.specs.declared.settings.Export.TheVariants as exports
use Rattle.session_words.specs.declared.settings.Settings.{Settings}
use Rattle.session_words.specs.Words.{IsNumberOr, IsXid, IsExport, IsFlag, IsAuth, IsLives, IsNocto, GivesCred, GivesSettings, lives_of}

pub one_number : (without low high : ℕ) (t : Option Text) (a b : ℕ) → IsNumberOr without low high t a → IsNumberOr without low high t b → a ≡ b
one_number without low high None a b h k = h ∙ sym k
one_number without low high (Some digits) a b h k = h.spelled.value ∙ sym k.spelled.value

pub one_xid : (t : Option Text) (a b : Option ℕ) → IsXid t a → IsXid t b → a ≡ b
one_xid None a b h k = h ∙ sym k
one_xid (Some digits) None b h k = absurd h
one_xid (Some digits) (Some x) None h k = absurd k
one_xid (Some digits) (Some x) (Some y) h k = ap Some (h.spelled.value ∙ sym k.spelled.value)

pub one_export : (p r : Option Text) (a b : Export) → IsExport p r a → IsExport p r b → a ≡ b
one_export (Some path) None a b h k = h.1 ∙ sym k.1
one_export None (Some hex) (exports.Root x) (exports.Root y) h k = ap exports.Root (decode_of-same hex x y h.decodes k.decodes)
one_export None (Some hex) (exports.Root x) (exports.Path y) h k = absurd k
one_export None (Some hex) (exports.Path x) b h k = absurd h
one_export None None a b h k = absurd h
one_export (Some path) (Some hex) a b h k = absurd h

pub one_flag : (t : Option Text) (a b : Bool) → IsFlag t a → IsFlag t b → a ≡ b
one_flag t true true h k = refl
one_flag t false false h k = refl
one_flag t true false h k = let bad : false ≡ true = k.1 (h.0 refl) in cc
one_flag t false true h k = let bad : false ≡ true = h.1 (k.0 refl) in cc

pub one_lives : (noac : Bool) (t : Option Text) (a b : Lives) → IsLives noac t a → IsLives noac t b → a ≡ b
one_lives true None a b h k = h ∙ sym k
one_lives true (Some digits) a b h k = absurd h
one_lives false None a b h k = h ∙ sym k
one_lives false (Some digits) a b h k = h.are ∙ ap lives_of (h.given.spelled.value ∙ sym k.given.spelled.value) ∙ sym k.are

pub one_nocto : (noac : Bool) (t : Option Text) (a b : Bool) → IsNocto noac t a → IsNocto noac t b → a ≡ b
one_nocto true t a b h k = h ∙ sym k
one_nocto false t a b h k = one_flag t a b h k

one_auth : (t : Text) (u g : ℕ) (a b : Cred) → IsAuth t u g a → IsAuth t u g b → a ≡ b
one_auth t u g a b (inl h) (inl k) = h.1 ∙ sym k.1
one_auth t u g a b (inr h) (inr k) = h.1 ∙ sym k.1
one_auth t u g a b (inl h) (inr k) = let bad : codes "none" ≡ codes "sys" = sym h.0 ∙ k.0 in cc
one_auth t u g a b (inr h) (inl k) = let bad : codes "none" ≡ codes "sys" = sym k.0 ∙ h.0 in cc

pub one_cred : (m : List Row) (a b : Cred) → GivesCred m a → GivesCred m b → a ≡ b
one_cred m a b h k =
    let users = one_number _ _ _ _ h.uid k.uid h.uid_is k.uid_is in
    let groups = one_number _ _ _ _ h.gid k.gid h.gid_is k.gid_is in
    one_auth _ k.uid k.gid a b (rw (users, groups) at h.auth) k.auth

pub one_settings : (m : List Row) (s t : Settings) → GivesSettings m s → GivesSettings m t → s ≡ t
one_settings m s t g h =
    let a = one_export _ _ s.export t.export g.export h.export in
    let b = one_number _ _ _ _ s.mount_port t.mount_port g.mount_port h.mount_port in
    let c = one_number _ _ _ _ s.nfs_port t.nfs_port g.nfs_port h.nfs_port in
    let d = one_cred m s.cred t.cred g.cred h.cred in
    let e = one_number _ _ _ _ s.rsize t.rsize g.rsize h.rsize in
    let f = one_number _ _ _ _ s.wsize t.wsize g.wsize h.wsize in
    let i = one_number _ _ _ _ s.calls t.calls g.calls h.calls in
    let j = one_xid _ s.xid t.xid g.xid h.xid in
    let k = one_flag _ s.count t.count g.count h.count in
    let l = one_flag _ s.noac t.noac g.noac h.noac in
    let o = one_lives _ _ s.lives t.lives (rw l at g.lives) h.lives in
    let p = one_nocto _ _ s.nocto t.nocto (rw l at g.nocto) h.nocto in
    let all_s : s ≡ record {
      export = s.export;
      mount_port = s.mount_port;
      nfs_port = s.nfs_port;
      cred = s.cred;
      rsize = s.rsize;
      wsize = s.wsize;
      calls = s.calls;
      xid = s.xid;
      lives = s.lives;
      noac = s.noac;
      nocto = s.nocto;
      count = s.count;
    } = refl in
    let all_t : t ≡ record {
      export = t.export;
      mount_port = t.mount_port;
      nfs_port = t.nfs_port;
      cred = t.cred;
      rsize = t.rsize;
      wsize = t.wsize;
      calls = t.calls;
      xid = t.xid;
      lives = t.lives;
      noac = t.noac;
      nocto = t.nocto;
      count = t.count;
    } = refl in
    cc
