use Rattle.std.proofs.Common.{◌≤◌, ◌^◌, ◌-◌, ℕ, min, sym, ap, ◌∙◌}
use Rattle.vs_store.specs.Store.{told_of}
use Rattle.vs_stores.proofs.Lifting.{found, length_was, of_was}
use Rattle.vs_stores.proofs.stores.Stores.journal_len.Goals as goal

pub returns-clause-length : goal.returns-clause-length
returns-clause-length g c =
    let stores = c.args.self.now.stores.items in
    let x = c.args.set in
    let i = c.place_of.result in
    let was = c.index-store.result.now in
    let at = found stores x i was c.place_of.ensures c.requires c.index-store.ensures in
    c.journal_len.ensures.length ∙ ap (λ (n : ℕ). min n (2 ^ 64 - 1)) (sym (length_was stores x i was at))

pub returns-clause-within : goal.returns-clause-within
returns-clause-within g c =
    let stores = c.args.self.now.stores.items in
    let x = c.args.set in
    let i = c.place_of.result in
    let was = c.index-store.result.now in
    let at = found stores x i was c.place_of.ensures c.requires c.index-store.ensures in
    of_was stores x i was at (λ it. c.journal_len.result ≤ (told_of it).reserved) c.journal_len.ensures.within
