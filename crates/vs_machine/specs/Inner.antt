-- What holds inside after each event: the layers of one invariant, of which a later one may rest on those before.
pub mod Owner
pub mod Phases
pub mod Sealed
pub mod Copying
pub mod Buckets
pub mod Calls
pub mod Lines
pub mod Asks
pub mod Down
pub mod Epochs
pub mod Once
pub mod Answers
