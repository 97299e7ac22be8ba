pub mod CountLines
pub mod Ending
pub mod LineKinds
pub mod Numbers
pub mod Plans
pub mod Totals
pub mod WaveTexts
