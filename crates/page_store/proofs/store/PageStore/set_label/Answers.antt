use Rattle.std.proofs.Common.{ℕ, List, [], ◌≡◌, ◌∙◌, length, ap, sym, subst, arith}
use Rattle.page_store.specs.Disk.{Every, LeavesOnly}
use Rattle.page_store.specs.Pages.{page_of}
use Rattle.page_store.specs.Labels.{Relabels, IsRelabelled, label_for}
use Rattle.page_store.specs.Rounds.{Round, AreHeld}
use Rattle.page_store.proofs.Moments.{started}
use Rattle.page_store.proofs.RoundLemmas.{keeps-all-itself}
use Rattle.page_store.proofs.LabelLemmas.{held-clear, shut-relabels}
use Rattle.page_store.proofs.store.PageStore.set_label.Goals as goal

pub invariant_of-self : goal.invariant_of-self
invariant_of-self g c =
    let none : c.truncate.new.self.items ≡ [] = c.truncate.ensures.items in
    subst (λ (r : Round). AreHeld c.clear_all.new.pages.items r) (sym none) (held-clear c.self.inside.slots.items c.clear_all.new.pages.items c.self.inside.round.items c.self.invariant c.clear_all.ensures.length)

pub invariant_of-self-in-Ok-put_label : goal.invariant_of-self-in-Ok-put_label
invariant_of-self-in-Ok-put_label g c =
    let none : c.truncate.new.self.items ≡ [] = c.truncate.ensures.items in
    subst (λ (r : Round). AreHeld c.clear_all.new.pages.items r) (sym none) (held-clear c.self.inside.slots.items c.clear_all.new.pages.items c.self.inside.round.items c.self.invariant c.clear_all.ensures.length)

pub invariant_of-self-in-Err-put_label : goal.invariant_of-self-in-Err-put_label
invariant_of-self-in-Err-put_label g c =
    let none : c.truncate.new.self.items ≡ [] = c.truncate.ensures.items in
    subst (λ (r : Round). AreHeld c.clear_all.new.pages.items r) (sym none) (held-clear c.self.inside.slots.items c.clear_all.new.pages.items c.self.inside.round.items c.self.invariant c.clear_all.ensures.length)

pub returns-in_default-clause-leaves : goal.returns-in_default-clause-leaves
returns-in_default-clause-leaves g c = rw (← c.self.view_is) (λ tells n lt s i left.
    let old = g.D.Disk.may_leave c.self.inside.disk in
    shut-relabels n (length c.self.inside.slots.items) (label_for (length c.self.inside.slots.items) c.args.root.now c.args.words.now) old lt i (keeps-all-itself n old i left))

pub returns-in_default-clause-any_moment : goal.returns-in_default-clause-any_moment
returns-in_default-clause-any_moment g c = rw (← c.self.view_is) (λ tells n lt s.
    let old = g.D.Disk.may_leave c.self.inside.disk in
    let label = label_for (length c.self.inside.slots.items) c.args.root.now c.args.words.now in
    started g.D.Disk.moment g.D.Disk.left_since c.self.inside.disk (Relabels (length c.self.inside.slots.items) label old) old
    (λ i left. g.met.D.Disk.only_now c.self.inside.disk tells i left)
    (λ i left. shut-relabels n (length c.self.inside.slots.items) label old lt i (keeps-all-itself n old i left)))

pub returns-in-Ok-put_label-clause-safe : goal.returns-in-Ok-put_label-clause-safe
returns-in-Ok-put_label-clause-safe g c = rw (← c.self.view_is) (λ tells n lt s.
    let count : c.len-slots.result ≡ length c.self.inside.slots.items = let long = c.self.inside.slots.ok.0 in omega (arith, c.len-slots.ensures, long) in
    c.put_label.ensures.safe tells n (omega (arith, count, lt)) s)

pub returns-in-Ok-put_label-clause-leaves : goal.returns-in-Ok-put_label-clause-leaves
returns-in-Ok-put_label-clause-leaves g c = rw (← c.self.view_is) (λ tells n lt s.
    let count : c.len-slots.result ≡ length c.self.inside.slots.items = let long = c.self.inside.slots.ok.0 in omega (arith, c.len-slots.ensures, long) in
    subst (λ (m : ℕ). Every (g.D.Disk.may_leave c.put_label.new.disk) (Relabels m (label_for m c.args.root.now c.args.words.now) (g.D.Disk.may_leave c.self.inside.disk))) count
    (c.put_label.ensures.leaves tells n (omega (arith, count, lt)) s (label_for c.len-slots.result c.args.root.now c.args.words.now) (ap page_of c.bytes.ensures ∙ c.in-Ok.ensures.again)))

pub returns-in-Ok-put_label-clause-any_moment : goal.returns-in-Ok-put_label-clause-any_moment
returns-in-Ok-put_label-clause-any_moment g c = rw (← c.self.view_is) (λ tells n lt s.
    let count : c.len-slots.result ≡ length c.self.inside.slots.items = let long = c.self.inside.slots.ok.0 in omega (arith, c.len-slots.ensures, long) in
    subst (λ (m : ℕ). LeavesOnly g.D.Disk.moment g.D.Disk.left_since c.self.inside.disk c.put_label.new.disk
    (Relabels m (label_for m c.args.root.now c.args.words.now) (g.D.Disk.may_leave c.self.inside.disk))) count
    (c.put_label.ensures.any_moment tells n (omega (arith, count, lt)) s (label_for c.len-slots.result c.args.root.now c.args.words.now) (ap page_of c.bytes.ensures ∙ c.in-Ok.ensures.again)))

pub returns-in-Err-clause-safe : goal.returns-in-Err-clause-safe
returns-in-Err-clause-safe g c = rw (← c.self.view_is) (λ tells n lt s.
    let count : c.len-slots.result ≡ length c.self.inside.slots.items = let long = c.self.inside.slots.ok.0 in omega (arith, c.len-slots.ensures, long) in
    c.put_label.ensures.safe tells n (omega (arith, count, lt)) s)

pub returns-in-Err-clause-leaves : goal.returns-in-Err-clause-leaves
returns-in-Err-clause-leaves g c = rw (← c.self.view_is) (λ tells n lt s.
    let count : c.len-slots.result ≡ length c.self.inside.slots.items = let long = c.self.inside.slots.ok.0 in omega (arith, c.len-slots.ensures, long) in
    subst (λ (m : ℕ). Every (g.D.Disk.may_leave c.put_label.new.disk) (Relabels m (label_for m c.args.root.now c.args.words.now) (g.D.Disk.may_leave c.self.inside.disk))) count
    (c.put_label.ensures.leaves tells n (omega (arith, count, lt)) s (label_for c.len-slots.result c.args.root.now c.args.words.now) (ap page_of c.bytes.ensures ∙ c.in-Ok.ensures.again)))

pub returns-in-Err-clause-any_moment : goal.returns-in-Err-clause-any_moment
returns-in-Err-clause-any_moment g c = rw (← c.self.view_is) (λ tells n lt s.
    let count : c.len-slots.result ≡ length c.self.inside.slots.items = let long = c.self.inside.slots.ok.0 in omega (arith, c.len-slots.ensures, long) in
    subst (λ (m : ℕ). LeavesOnly g.D.Disk.moment g.D.Disk.left_since c.self.inside.disk c.put_label.new.disk
    (Relabels m (label_for m c.args.root.now c.args.words.now) (g.D.Disk.may_leave c.self.inside.disk))) count
    (c.put_label.ensures.any_moment tells n (omega (arith, count, lt)) s (label_for c.len-slots.result c.args.root.now c.args.words.now) (ap page_of c.bytes.ensures ∙ c.in-Ok.ensures.again)))

pub returns-in-Ok-put_label-clause-labelled : goal.returns-in-Ok-put_label-clause-labelled
returns-in-Ok-put_label-clause-labelled g c = rw (← c.self.view_is) (λ tells n lt s.
    let count : c.len-slots.result ≡ length c.self.inside.slots.items = let long = c.self.inside.slots.ok.0 in omega (arith, c.len-slots.ensures, long) in
    subst (λ (m : ℕ). IsRelabelled m (label_for m c.args.root.now c.args.words.now) (g.D.Disk.seen c.put_label.new.disk) (g.D.Disk.may_leave c.put_label.new.disk)) count
    (c.in-Ok-put_label.ensures.labelled tells n (omega (arith, count, lt)) s (label_for c.len-slots.result c.args.root.now c.args.words.now) (ap page_of c.bytes.ensures ∙ c.in-Ok.ensures.again)))
