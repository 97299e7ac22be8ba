use Rattle.std.proofs.Common.{List, [], arith, inl, inr, map, subst, sym}
use Rattle.std.specs.Prelude.{All, suc}
use Rattle.std.proofs.lemmas.Result.{err_from_is_err_and}
use Rattle.vs_base.specs.declared.numbers.Mode.TheVariants.{Rw}
use Rattle.vs_config.specs.Configuration.{configuration}
use Rattle.vs_inputs.specs.Words.{texts}
use Rattle.vs_inputs.proofs.Causes.{reads_both}
use Rattle.vs_script.specs.Calls.{Call, calls}
use Rattle.vs_script.specs.Lawful.{IsLawfulCall}
use Rattle.vs_reads.specs.Names.{names}
use Rattle.vs_reads.proofs.Files.{config_cause, has_before, outside}
use Rattle.vs_reads.proofs.Reading.{are_given, clients_cause, good_calls_as, good_clients, good_files_as, good_writes, have_before, rows_cause, together_cause}
use Rattle.vs_reads.proofs.given.read_files.Goals as goal

pub read_config_file-requires : goal.read_config_file-requires
read_config_file-requires g c = c.requires 0 [] (omega arith)

pub read_calls_file-requires : goal.read_calls_file-requires
read_calls_file-requires g c = rw c.in_ok-config.ensures.reads.host.files.may_read (c.requires 1 [] (omega arith))

pub read_calls_files-requires : goal.read_calls_files-requires
read_calls_files-requires g c = λ k d below. rw (c.in_ok-row_calls.ensures.host.files.may_read, c.in_ok-config.ensures.reads.host.files.may_read) (c.requires (suc (suc k)) d (omega arith))

-- ---- the configuration isn't read

pub returns-in_err-config-clause-err : goal.returns-in_err-config-clause-err
returns-in_err-config-clause-err g c =
    let p = err_from_is_err_and c.from_residual.result c.from_residual.ensures.1 in
    rw (p.1, p.2) (inl (config_cause c.in_err-config.field-0.0 (names c.args.config.now c.args.rows.now c.args.files.now) _ _ c.in_err-config.ensures.reads.err))

pub returns-in_err-config-clause-good : goal.returns-in_err-config-clause-good
returns-in_err-config-clause-good g c = λ good.
    let p = err_from_is_err_and c.from_residual.result c.from_residual.ensures.1 in
    rw (p.1, p.2) (outside c.in_err-config.field-0.0 (c.in_err-config.ensures.reads.good good.config good.config_file))

-- ---- the writes aren't read

pub returns-in_err-row_calls-clause-err : goal.returns-in_err-row_calls-clause-err
returns-in_err-row_calls-clause-err g c =
    let p = err_from_is_err_and c.from_residual-in_err-row_calls.result c.from_residual-in_err-row_calls.ensures.1 in
    let first = c.in_ok-config.ensures.reads in
    rw (p.1, p.2) (rows_cause c.in_err-row_calls.field-0.0 (names c.args.config.now c.args.rows.now c.args.files.now) (configuration c.in_ok-config.config) _ _ _ first.ok first.host c.in_err-row_calls.ensures.err)

pub returns-in_err-row_calls-clause-good : goal.returns-in_err-row_calls-clause-good
returns-in_err-row_calls-clause-good g c = λ good.
    let p = err_from_is_err_and c.from_residual-in_err-row_calls.result c.from_residual-in_err-row_calls.ensures.1 in
    let first = c.in_ok-config.ensures.reads in
    rw (p.1, p.2)
    (c.in_err-row_calls.ensures.good good.writes
    (good_calls_as Rw (configuration c.in_ok-config.config) good.config c.args.rows.now good.writes (g.H.Host.told c.args.host.now) (g.H.Host.told c.read_config_file.new.host) (first.same good.config good.config_file) first.host good.rows_file))

-- ---- the reads aren't read

pub returns-in_err-file_calls-clause-err : goal.returns-in_err-file_calls-clause-err
returns-in_err-file_calls-clause-err g c =
    let p = err_from_is_err_and c.from_residual-in_err-file_calls.result c.from_residual-in_err-file_calls.ensures.1 in
    let first = c.in_ok-config.ensures.reads in
    let config = configuration c.in_ok-config.config in
    let old = g.H.Host.told c.args.host.now in
    let mid = g.H.Host.told c.read_config_file.new.host in
    let writes = calls c.in_ok-row_calls.row_calls.items in
    rw (p.1, p.2)
    (clients_cause c.in_err-file_calls.field-0.0 (names c.args.config.now c.args.rows.now c.args.files.now) config writes old (g.H.Host.told c.read_calls_file.new.host) (g.H.Host.told c.read_calls_files.new.host) first.ok
    (has_before Rw config c.args.rows.now writes old mid first.host c.in_ok-row_calls.ensures.ok) (reads_both old mid (g.H.Host.told c.read_calls_file.new.host) first.host c.in_ok-row_calls.ensures.host) c.in_err-file_calls.ensures.err)

pub returns-in_err-file_calls-clause-good : goal.returns-in_err-file_calls-clause-good
returns-in_err-file_calls-clause-good g c = λ good.
    let p = err_from_is_err_and c.from_residual-in_err-file_calls.result c.from_residual-in_err-file_calls.ensures.1 in
    let first = c.in_ok-config.ensures.reads in
    let old = g.H.Host.told c.args.host.now in
    let last = g.H.Host.told c.read_calls_file.new.host in
    let both = reads_both old (g.H.Host.told c.read_config_file.new.host) last first.host c.in_ok-row_calls.ensures.host in
    rw (p.1, p.2) (c.in_err-file_calls.ensures.good good.clients (good_files_as (configuration c.in_ok-config.config) good.config (texts c.args.files.now) good.clients old last (first.same good.config good.config_file) both good.client_files))

-- ---- the writes may not be gathered

pub returns-in_err-writes-clause-host : goal.returns-in_err-writes-clause-host
returns-in_err-writes-clause-host g c =
    reads_both _ _ _ c.in_ok-config.ensures.reads.host (reads_both _ _ _ c.in_ok-row_calls.ensures.host c.in_ok-file_calls.ensures.host)

pub returns-in_err-writes-clause-err : goal.returns-in_err-writes-clause-err
returns-in_err-writes-clause-err g c =
    let p = err_from_is_err_and c.from_residual-in_err-writes.result c.from_residual-in_err-writes.ensures.1 in
    let first = c.in_ok-config.ensures.reads in
    let config = configuration c.in_ok-config.config in
    let old = g.H.Host.told c.args.host.now in
    let mid = g.H.Host.told c.read_config_file.new.host in
    let last = g.H.Host.told c.read_calls_file.new.host in
    let writes = calls c.in_ok-row_calls.row_calls.items in
    let clients = map (λ c. calls c.items) c.in_ok-file_calls.file_calls.items in
    rw (p.1, p.2)
    (together_cause c.in_err-writes.field-0.0 (names c.args.config.now c.args.rows.now c.args.files.now) config writes clients old (g.H.Host.told c.read_calls_files.new.host) first.ok (has_before Rw config c.args.rows.now writes old mid first.host c.in_ok-row_calls.ensures.ok)
    (have_before config (texts c.args.files.now) clients old last (reads_both old mid last first.host c.in_ok-row_calls.ensures.host) c.in_ok-file_calls.ensures.ok) (inl c.in_err-writes.ensures.err))

pub returns-in_err-writes-clause-good : goal.returns-in_err-writes-clause-good
returns-in_err-writes-clause-good g c = λ good.
    let p = err_from_is_err_and c.from_residual-in_err-writes.result c.from_residual-in_err-writes.ensures.1 in
    let first = c.in_ok-config.ensures.reads in
    let config = configuration c.in_ok-config.config in
    let old = g.H.Host.told c.args.host.now in
    let mid = g.H.Host.told c.read_config_file.new.host in
    let writes = calls c.in_ok-row_calls.row_calls.items in
    rw (p.1, p.2)
    (good_writes c.in_err-writes.field-0.0 old.file (names c.args.config.now c.args.rows.now c.args.files.now) config writes good (first.same good.config good.config_file) (has_before Rw config c.args.rows.now writes old mid first.host c.in_ok-row_calls.ensures.ok)
    c.in_err-writes.ensures.err)

-- ---- the reads may not be gathered

pub returns-in_err-clients-clause-host : goal.returns-in_err-clients-clause-host
returns-in_err-clients-clause-host g c =
    reads_both _ _ _ c.in_ok-config.ensures.reads.host (reads_both _ _ _ c.in_ok-row_calls.ensures.host c.in_ok-file_calls.ensures.host)

pub returns-in_err-clients-clause-err : goal.returns-in_err-clients-clause-err
returns-in_err-clients-clause-err g c =
    let p = err_from_is_err_and c.from_residual-in_err-clients.result c.from_residual-in_err-clients.ensures.1 in
    let first = c.in_ok-config.ensures.reads in
    let config = configuration c.in_ok-config.config in
    let old = g.H.Host.told c.args.host.now in
    let mid = g.H.Host.told c.read_config_file.new.host in
    let last = g.H.Host.told c.read_calls_file.new.host in
    let writes = calls c.in_ok-row_calls.row_calls.items in
    let clients = map (λ c. calls c.items) c.in_ok-file_calls.file_calls.items in
    rw (p.1, p.2)
    (together_cause c.in_err-clients.field-0.0 (names c.args.config.now c.args.rows.now c.args.files.now) config writes clients old (g.H.Host.told c.read_calls_files.new.host) first.ok (has_before Rw config c.args.rows.now writes old mid first.host c.in_ok-row_calls.ensures.ok)
    (have_before config (texts c.args.files.now) clients old last (reads_both old mid last first.host c.in_ok-row_calls.ensures.host) c.in_ok-file_calls.ensures.ok) (inr c.in_err-clients.ensures.err))

pub returns-in_err-clients-clause-good : goal.returns-in_err-clients-clause-good
returns-in_err-clients-clause-good g c = λ good.
    let p = err_from_is_err_and c.from_residual-in_err-clients.result c.from_residual-in_err-clients.ensures.1 in
    let first = c.in_ok-config.ensures.reads in
    let config = configuration c.in_ok-config.config in
    let old = g.H.Host.told c.args.host.now in
    let last = g.H.Host.told c.read_calls_file.new.host in
    let both = reads_both old (g.H.Host.told c.read_config_file.new.host) last first.host c.in_ok-row_calls.ensures.host in
    let clients = map (λ c. calls c.items) c.in_ok-file_calls.file_calls.items in
    rw (p.1, p.2)
    (good_clients c.in_err-clients.field-0.0 old.file (names c.args.config.now c.args.rows.now c.args.files.now) config clients good (first.same good.config good.config_file) (have_before config (texts c.args.files.now) clients old last both c.in_ok-file_calls.ensures.ok)
    c.in_err-clients.ensures.err)

-- ---- all is read and gathered

pub returns-clause-host : goal.returns-clause-host
returns-clause-host g c = reads_both _ _ _ c.in_ok-config.ensures.reads.host (reads_both _ _ _ c.in_ok-row_calls.ensures.host c.in_ok-file_calls.ensures.host)

pub returns-clause-ok : goal.returns-clause-ok
returns-clause-ok g c =
    let first = c.in_ok-config.ensures.reads in
    let config = configuration c.in_ok-config.config in
    let old = g.H.Host.told c.args.host.now in
    let mid = g.H.Host.told c.read_config_file.new.host in
    let last = g.H.Host.told c.read_calls_file.new.host in
    let writes = calls c.in_ok-row_calls.row_calls.items in
    let clients = map (λ c. calls c.items) c.in_ok-file_calls.file_calls.items in
    are_given old.file (names c.args.config.now c.args.rows.now c.args.files.now) config writes (calls c.in_ok-writes.writes.items) clients (map (λ c. calls c.items) c.in_ok-clients.clients.items) first.ok
    (has_before Rw config c.args.rows.now writes old mid first.host c.in_ok-row_calls.ensures.ok) (have_before config (texts c.args.files.now) clients old last (reads_both old mid last first.host c.in_ok-row_calls.ensures.host) c.in_ok-file_calls.ensures.ok) c.in_ok-writes.ensures.ok
    c.in_ok-clients.ensures.ok c.in_ok-writes.ensures.gather c.in_ok-clients.ensures.gather

pub returns-clause-buckets : goal.returns-clause-buckets
returns-clause-buckets g c = c.in_ok-config.ensures.lawful.bucket_count

pub returns-clause-writes : goal.returns-clause-writes
returns-clause-writes g c = subst (λ (w : List Call). All (IsLawfulCall c.in_ok-config.config.bucket_count) w) (sym c.in_ok-writes.ensures.ok) c.in_ok-row_calls.ensures.lawful

pub returns-clause-clients : goal.returns-clause-clients
returns-clause-clients g c = subst (λ (l : List (List Call)). All (All (IsLawfulCall c.in_ok-config.config.bucket_count)) l) (sym c.in_ok-clients.ensures.ok) c.in_ok-file_calls.ensures.lawful

pub returns-clause-few : goal.returns-clause-few
returns-clause-few g c = c.in_ok-clients.ensures.few
