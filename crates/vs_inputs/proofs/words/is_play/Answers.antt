use Rattle.std.proofs.Common.{rules, arith}
use Rattle.vs_inputs.proofs.Commands.{play_by_test}
use Rattle.vs_inputs.proofs.words.is_play.Goals as goal

pub returns-then-is_file_word-2 : goal.returns-then-is_file_word-2
returns-then-is_file_word-2 c =
    play_by_test c.args.command.now c.args.config.now c.args.events.now c.args.scripts.now c.are_file_words.result (search rules) (omega arith) (search rules) (search rules) c.are_file_words.ensures
