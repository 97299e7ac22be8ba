-- The commands that are built.
use Rattle.std.specs.Prelude.{Bool}
use Rattle.vs_command.specs.declared.verb.Verb.{Verb}
use Rattle.vs_command.specs.declared.verb.Verb.TheVariants.{Run, Play, Gen, Reads, Plan, Audit, Info}
use Rattle.vs_command.specs.declared.verbs.Verbs.{Verbs}

abbrev pub has : Verbs → Verb → Bool
has verbs Run = verbs.run
has verbs Play = verbs.play
has verbs Gen = verbs.generate
has verbs Reads = verbs.reads
has verbs Plan = verbs.plan
has verbs Audit = verbs.audit
has verbs Info = verbs.info
