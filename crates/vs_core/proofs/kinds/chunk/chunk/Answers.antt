use Rattle.std.proofs.Common.{◌≡◌, ℕ, List, Option, Ok, Some, sym, ap, ◌∙◌}
use Rattle.std.specs.Option.{option_copied, option_map}
use Rattle.vs_link.specs.Connection.{Chunk, with_message}
use Rattle.vs_rows.specs.RowMap.{RowMap}
use Rattle.vs_send.specs.declared.transfer.Phase.TheVariants.{Waiting}
use Rattle.vs_machine.specs.State as machine
use Rattle.vs_machine.specs.Tables.{put, put_at}
use Rattle.vs_machine.specs.Kinds.Sender.{in_phase, last_key, next_page}
use Rattle.vs_state.specs.Plain.{plain}
use Rattle.vs_core.proofs.Sender.{linked, chunk_set, chunk_from, chunk_is}
use Rattle.vs_core.proofs.kinds.chunk.chunk.Goals as goal

pub post-sync-requires-clause-link : goal.post-sync-requires-clause-link
post-sync-requires-clause-link c =
    let s = plain c.args.state.now in
    let is = sym c.transfer.ensures ∙ ap option_copied c.in-Some.is in
    linked s c.requires.known c.args.set c.args.bucket c.in-Some.transfer.now is (chunk_set s c.args.set c.args.bucket c.requires.possible)

pub post-sync-requires-clause-room : goal.post-sync-requires-clause-room
post-sync-requires-clause-room c = c.requires.ready.line c.in-Some.transfer.now (sym c.transfer.ensures ∙ ap option_copied c.in-Some.is)

pub returns-clause-step : goal.returns-clause-step
returns-clause-step c =
    let s = plain c.args.state.now in
    let x = c.args.set in
    let b = c.args.bucket in
    let t = c.in-Some.transfer.now in
    let is = sym c.transfer.ensures ∙ ap option_copied c.in-Some.is in
    let from = chunk_from s x b c.requires.possible t is in
    let page : c.args.prepared.page.items ≡ next_page ((s.bucket b).rows x) from.0 = c.requires.ready.page t from.0 is from.1 in
    let last : c.args.prepared.last ≡ last_key (next_page ((s.bucket b).rows x) from.0) = c.requires.ready.last ∙ ap last_key page in
    let after : ℕ → ℕ → Option (List ℕ) → RowMap → machine.State = λ e n k rows. record s {
      bucket = put s.bucket b (machine.with_transfer (s.bucket b) x (Some (in_phase t (Waiting e n k))));
      link = put_at s.link x t.dest (with_message (s.link x t.dest) (Chunk b rows));
    } in
    let phase : machine.State → machine.State = λ m. machine.put_bucket m b (machine.with_transfer (m.bucket b) x
    (option_map (λ t. in_phase t (Waiting c.epoch-epoch.result c.post-sync.result c.args.prepared.last)) ((m.bucket b).transfer x))) in
    chunk_is s x b c.requires.possible t is from.0 from.1
    ∙ ap Ok (sym (
    c.wait_for_rows.ensures.waits
    ∙ ap phase c.post-sync.ensures.posted
    ∙ ap (λ m. machine.put_bucket (machine.put_link s x t.dest (with_message (s.link x t.dest) (Chunk b c.args.prepared.page.items))) b (machine.with_transfer (s.bucket b) x (option_map (λ t. in_phase t (Waiting c.epoch-epoch.result c.post-sync.result c.args.prepared.last)) m))) is
    ∙ (λ i. after (c.epoch-epoch.ensures i) (c.post-sync.ensures.number i) (last i) (page i))
    ))
