-- Each kind of event has its own guard.
use Rattle.vs_state.proofs.state.State.guard.Goals as goal

pub returns-in-Post : goal.returns-in-Post
returns-in-Post c = rw c.in-Post.is c.can_post.ensures

pub returns-in-Haul : goal.returns-in-Haul
returns-in-Haul c = rw c.in-Haul.is c.can_haul.ensures

pub returns-in-Chunk : goal.returns-in-Chunk
returns-in-Chunk c = rw c.in-Chunk.is c.can_chunk.ensures

pub returns-in-Last : goal.returns-in-Last
returns-in-Last c = rw c.in-Last.is c.can_send_last.ensures

pub returns-in-Abort : goal.returns-in-Abort
returns-in-Abort c = rw c.in-Abort.is c.can_abort.ensures

pub returns-in-Deliver : goal.returns-in-Deliver
returns-in-Deliver c = rw c.in-Deliver.is c.can_deliver.ensures

pub returns-in-Hear : goal.returns-in-Hear
returns-in-Hear c = rw c.in-Hear.is c.can_hear.ensures

pub returns-in-Ask : goal.returns-in-Ask
returns-in-Ask c = rw c.in-Ask.is c.can_ask.ensures

pub returns-in-Condemn : goal.returns-in-Condemn
returns-in-Condemn c = rw c.in-Condemn.is c.can_condemn.ensures

pub returns-in-Wipe : goal.returns-in-Wipe
returns-in-Wipe c = rw c.in-Wipe.is c.can_wipe.ensures

pub returns-in-Forget : goal.returns-in-Forget
returns-in-Forget c = rw c.in-Forget.is c.can_forget.ensures

pub returns-in-Fault : goal.returns-in-Fault
returns-in-Fault c = rw c.in-Fault.is c.can_fail.ensures

pub returns-in-Restart : goal.returns-in-Restart
returns-in-Restart c = rw c.in-Restart.is c.can_restart.ensures
