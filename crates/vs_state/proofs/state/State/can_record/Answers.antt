-- Each kind of event has its own guard.
use Rattle.vs_state.proofs.state.State.can_record.Goals as goal

pub returns-in-Deliver : goal.returns-in-Deliver
returns-in-Deliver c = rw c.in-Deliver.is c.can_deliver.ensures

pub returns-in-Hear : goal.returns-in-Hear
returns-in-Hear c = rw c.in-Hear.is c.can_hear.ensures

pub returns-in-Condemn : goal.returns-in-Condemn
returns-in-Condemn c = rw c.in-Condemn.is c.can_condemn.ensures

pub returns-in-Wipe : goal.returns-in-Wipe
returns-in-Wipe c = rw c.in-Wipe.is c.can_wipe.ensures

pub returns-in-Forget : goal.returns-in-Forget
returns-in-Forget c = rw c.in-Forget.is c.can_forget.ensures
