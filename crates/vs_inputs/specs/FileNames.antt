-- The names of the files, as the code has them.
use Rattle.vs_inputs.specs.declared.words.FileNames.{FileNames}
use Rattle.vs_inputs.specs.Words.{Names, texts}

abbrev pub names_of : FileNames → Names
names_of f = record { config = f.config.now; events = f.events.now; scripts = texts f.scripts.now }
