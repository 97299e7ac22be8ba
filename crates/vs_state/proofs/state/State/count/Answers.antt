use Rattle.std.proofs.Common.{◌≡◌, ℕ, ◌≤◌, ◌∙◌, ap, sym, None, arith}
use Rattle.std.specs.Option.{option_copied}
use Rattle.vs_space.specs.Entries.{status_of}
use Rattle.vs_state.specs.Plain.{plain, entry_in}
use Rattle.vs_state.specs.Statuses.{has_kind, number_at}
use Rattle.vs_state.proofs.Counts.{counts_same, counts_none, counts_most}
use Rattle.vs_state.proofs.Numbered.{numbered_some, numbered_none}
use Rattle.vs_state.proofs.Statuses.{kind_in}
use Rattle.vs_state.proofs.state.State.count.Goals as goal

pub returns-in-Some-clause-number : goal.returns-in-Some-clause-number
returns-in-Some-clause-number c =
    let s = c.args.self.now in
    let t = c.in-Some.tables.now in
    let k = c.args.kind in
    let is : (b : ℕ) → ((plain s).bucket b).entry c.args.set ≡ status_of t.space.entries b =
    λ b. numbered_some (λ t. entry_in t b) None s.sets.items c.args.set t (sym c.set.ensures ∙ ap option_copied c.in-Some.is) in
    c.count.ensures.number
    ∙ kind_in k t.space.entries s.config.bucket_count c.count.ensures.order (λ b there. c.requires.buckets b c.args.set (λ e. there (sym (is b) ∙ e)))
    ∙ counts_same (λ b. has_kind k (status_of t.space.entries b)) (λ b. has_kind k (((plain s).bucket b).entry c.args.set)) s.config.bucket_count (λ b f l. ap (has_kind k) (sym (is b)))

pub returns-in-Some-clause-few : goal.returns-in-Some-clause-few
returns-in-Some-clause-few c =
    let s = c.args.self.now in
    let number : c.count.result ≡ number_at (plain s) c.args.set c.args.kind = returns-in-Some-clause-number c in
    let most : number_at (plain s) c.args.set c.args.kind ≤ s.config.bucket_count = counts_most (λ b. has_kind c.args.kind (((plain s).bucket b).entry c.args.set)) s.config.bucket_count in
    omega arith

pub returns-in-None-clause-number : goal.returns-in-None-clause-number
returns-in-None-clause-number c =
    let s = c.args.self.now in
    let k = c.args.kind in
    let is : (b : ℕ) → ((plain s).bucket b).entry c.args.set ≡ None =
    λ b. numbered_none (λ t. entry_in t b) None s.sets.items c.args.set (sym c.set.ensures ∙ ap option_copied c.in-None.is) in
    sym (counts_none (λ b. has_kind k (((plain s).bucket b).entry c.args.set)) s.config.bucket_count (λ b. ap (has_kind k) (is b)))
