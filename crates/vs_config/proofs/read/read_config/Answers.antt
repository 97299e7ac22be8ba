use Rattle.std.proofs.Common.{◌≡◌, ◌≢◌, ◌∙◌, Err, ap, sym, refl}
use Rattle.std.proofs.lemmas.Bool.{false≢true}
use Rattle.std.proofs.lemmas.Result.{IfOk-weaker, IfErr-at_err}
use Rattle.std.proofs.lemmas.Option.{same_Some}
use Rattle.toml.specs.Errors.{IsMemory}
use Rattle.toml.specs.View.{table_view}
use Rattle.vs_config.specs.Configuration.{configuration}
use Rattle.vs_config.specs.Reading.{configuration_of, reading_of}
use Rattle.vs_config.specs.declared.fault.ConfigFault.TheVariants.{Bad, NoMemory}
use Rattle.vs_config.specs.declared.fault.ConfigKind.TheVariants.{NotToml}
use Rattle.vs_config.specs.declared.key.ConfigKey.TheVariants.{Other}
use Rattle.vs_config.proofs.NotToml.{refuses_toml, refuses_toml-configuration_of}
use Rattle.vs_config.proofs.LawfulLemmas.{configuration_of-IsLawful}
use Rattle.vs_config.proofs.Documents.{document_of-Some, document_of-None, parse_document-blank}
use Rattle.vs_config.proofs.read.read_config.Goals as goal

pub returns-in-Ok-clause-ok : goal.returns-in-Ok-clause-ok
unfolding reading_of
returns-in-Ok-clause-ok c =
    let is = document_of-Some c.args.text.now _ c.in-Ok.ensures.ok.0 c.in-Ok.ensures.ok.1 in
    rw is c.config_in.ensures.ok

pub returns-in-Ok-clause-fault : goal.returns-in-Ok-clause-fault
unfolding reading_of
returns-in-Ok-clause-fault c =
    let is = document_of-Some c.args.text.now _ c.in-Ok.ensures.ok.0 c.in-Ok.ensures.ok.1 in
    rw is c.config_in.ensures.fault

pub returns-in-Ok-clause-memory : goal.returns-in-Ok-clause-memory
returns-in-Ok-clause-memory c no_memory blank =
    c.config_in.ensures.memory no_memory (same_Some _ _ (sym c.in-Ok.ensures.ok.1 ∙ parse_document-blank c.args.text.now blank))

pub returns-else-is_memory-clause-fault : goal.returns-else-is_memory-clause-fault
unfolding reading_of
returns-else-is_memory-clause-fault c _ =
    let other = λ (memory : IsMemory c.in-Err.error). false≢true (sym c.if-is_memory.false ∙ c.is_memory.ensures.1 memory) in
    let none = document_of-None c.args.text.now (c.in-Err.ensures.refused other) in
    rw (none, c.at.ensures) refl

pub returns-in-Ok-clause-lawful : goal.returns-in-Ok-clause-lawful
returns-in-Ok-clause-lawful c =
    IfOk-weaker c.config_in.result _ _ (λ config is. configuration_of-IsLawful (table_view c.in-Ok.document) (configuration config) is) c.config_in.ensures.ok

pub returns-in-Ok-clause-not_toml : goal.returns-in-Ok-clause-not_toml
returns-in-Ok-clause-not_toml c refused _ _ =
    let document = table_view c.in-Ok.document in
    let fault = Bad NotToml 0 Other in
    let other : fault ≢ NoMemory = λ same. cc in
    let named = IfErr-at_err (λ e. e ≢ NoMemory → configuration_of document ≡ Err e) refused c.config_in.ensures.fault other in
    false≢true (sym (refuses_toml-configuration_of document) ∙ ap refuses_toml named)
