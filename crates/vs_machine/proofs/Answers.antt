-- What calls were answered, kept by every event.
pub mod Steps
