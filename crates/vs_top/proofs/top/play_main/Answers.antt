use Rattle.vs_top.proofs.Ending.{ends_with, usage_is, played_is, words_is, text_is, event_is, read_is, write_is, disk_is, journal_is, memory_is, full_is}
use Rattle.vs_top.proofs.top.play_main.Goals as goal

pub returns-clause-status : goal.returns-clause-status
returns-clause-status g c = ends_with c.play_and_log.result _ _ c.play_and_log.ensures.ends

pub returns-clause-usage : goal.returns-clause-usage
returns-clause-usage g c = usage_is c.play_and_log.result _ _ c.play_and_log.ensures.ends

pub returns-clause-played : goal.returns-clause-played
returns-clause-played g c = played_is c.play_and_log.result _ _ c.play_and_log.ensures.ends

pub returns-clause-words : goal.returns-clause-words
returns-clause-words g c = words_is c.play_and_log.result _ _ c.play_and_log.ensures.ends

pub returns-clause-text : goal.returns-clause-text
returns-clause-text g c = text_is c.play_and_log.result _ _ c.play_and_log.ensures.ends

pub returns-clause-event : goal.returns-clause-event
returns-clause-event g c = event_is c.play_and_log.result _ _ c.play_and_log.ensures.ends

pub returns-clause-read : goal.returns-clause-read
returns-clause-read g c = read_is c.play_and_log.result _ _ c.play_and_log.ensures.ends

pub returns-clause-write : goal.returns-clause-write
returns-clause-write g c = write_is c.play_and_log.result _ _ c.play_and_log.ensures.ends

pub returns-clause-disk : goal.returns-clause-disk
returns-clause-disk g c = disk_is c.play_and_log.result _ _ c.play_and_log.ensures.ends

pub returns-clause-journal : goal.returns-clause-journal
returns-clause-journal g c = journal_is c.play_and_log.result _ _ c.play_and_log.ensures.ends

pub returns-clause-memory : goal.returns-clause-memory
returns-clause-memory g c = memory_is c.play_and_log.result _ _ c.play_and_log.ensures.ends

pub returns-clause-full : goal.returns-clause-full
returns-clause-full g c = full_is c.play_and_log.result _ _ c.play_and_log.ensures.ends

pub returns-clause-good : goal.returns-clause-good
returns-clause-good g c = c.play_and_log.ensures.good

pub returns-clause-possible : goal.returns-clause-possible
returns-clause-possible g c = c.play_and_log.ensures.possible

pub returns-clause-ends : goal.returns-clause-ends
returns-clause-ends g c = c.play_and_log.ensures.ends
