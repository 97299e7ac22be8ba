pub mod End
pub mod Rule
pub mod Standing
