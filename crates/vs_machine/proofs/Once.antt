-- Each call acts once at most, kept by every event.
pub mod Steps
