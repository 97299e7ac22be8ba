mod EventLines
mod EventsText
mod Joined
mod LongWords
mod RecordedWords
mod Shapes
mod Spaces
